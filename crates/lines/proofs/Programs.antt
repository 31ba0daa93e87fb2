-- Laws of a program's runs: input after input, and all that is put out for it.
use Prim.Native.Nat.{ℕ, suc, ◌<◌}
use mathlib.Core.Bool.{Bool, true, false, cond}
use mathlib.Core.List.{List, [], ◌∷◌, ◌++◌, map, append-nil, append_assoc}
use mathlib.Core.Path.{◌≡◌, refl, sym, ap, ◌∙◌}
use lib.Dec.{eqb}
use lib.ListN.{length, take, get_or}
use lib.Seq.{take-suc}
use borrow.Author.Tests.{ne_eqb}
use Rattle.lines.specs.Grammar.{command_of, no_bytes, kept, lines_from}
use Rattle.lines.specs.Programs.{Program, put_out, Run, stepped_by, text_by, runs, text_for, last_of, written_out, Stands}
use Rattle.lines.specs.Replies.{TextAt}
use Rattle.lines.specs.Shape.{lacked_by}
use Rattle.lines.specs.Turns.{joined}
use Rattle.lines.proofs.Kept.{kept-twice, commands_kept}
use Rattle.lines.proofs.Writing.{nothing_put, then}

module _ {S : Type 0} (p : Program S) where
  pub runs_append : (r : Run S) (a b : List ℕ) → runs p r (a ++ b) ≡ runs p (runs p r a) b
  unfolding runs
  runs_append r [] b = refl
  runs_append r (c ∷ a) b = runs_append (stepped_by p r c) a b

  pub text-append : (r : Run S) (a b : List ℕ) → text_for p r (a ++ b) ≡ text_for p r a ++ text_for p (runs p r a) b
  unfolding runs text_for
  text-append r [] b = refl
  text-append r (c ∷ a) b = rw (text-append (stepped_by p r c) a b) (sym (append_assoc (text_by p r c) _ _))

  pub start-stands : (r : Run S) (at : ℕ) (out : List ℕ) → Stands p r [] at out out r at
  unfolding runs text_for
  start-stands r at out = record { run = refl; text = nothing_put at out }

  -- a byte within a line
  pub byte_stands :
      (r t : Run S) (c at : ℕ) (out : List ℕ) → (c ≡ 10 → ⊥) → t.state ≡ r.state → t.begun ≡ kept (r.begun ++ (c ∷ [])) →
      Stands p r (c ∷ []) at out out t at
  unfolding runs text_for stepped_by text_by
  byte_stands r t c at out n s b =
      record {
        run = rw (ne_eqb c 10 n) (λ i. record { state = s i; begun = b i });
        text = rw (ne_eqb c 10 n) (nothing_put at out);
      }

  pub line_stands :
      (r t : Run S) (at next : ℕ) (before after : List ℕ) → t.state ≡ p.next r.state (command_of r.begun) → t.begun ≡ [] →
      TextAt at (p.text r.state (command_of r.begun)) before after next → Stands p r (10 ∷ []) at before after t next
  unfolding runs text_for stepped_by text_by
  line_stands r t at next before after s b w =
      record {
        run = λ i. record { state = s i; begun = b i };
        text = rw (append-nil (p.text r.state (command_of r.begun))) w;
      }

  -- one byte more of a block
  pub block_more :
      (r q t : Run S) (block : List ℕ) (i at next : ℕ) (out mid after : List ℕ) → i < length block →
      Stands p r (take i block) 0 out mid q at → Stands p q (get_or block i 0 ∷ []) at mid after t next →
      Stands p r (take (suc i) block) 0 out after t next
  block_more r q t block i at next out mid after h a b =
      let b' = rw a.run at b in
      rw (take-suc block i 0 h)
      (record {
        run = b'.run ∙ sym (runs_append r (take i block) (get_or block i 0 ∷ []));
        text = rw (text-append r (take i block) (get_or block i 0 ∷ [])) (then 0 _ _ out mid after at next a.text b'.text);
      })

  -- what is put out last is that for the newline which the input lacks, and the end
  pub last-lacked : (r : Run S) → let l = lacked_by r.begun in last_of p r ≡ text_for p r l ++ p.last (runs p r l).state
  unfolding last_of put_out lines_from lacked_by runs text_for stepped_by text_by
  last-lacked r = go (no_bytes r.begun)
    where
      go :
          (t : Bool) →
          put_out p r.state (map command_of (cond t [] (r.begun ∷ [])))
          ≡ text_for p r (cond t [] (10 ∷ [])) ++ p.last (runs p r (cond t [] (10 ∷ []))).state
      go true = refl
      go false = rw (append-nil (p.text r.state (command_of r.begun)))

  whole :
      (l : List ℕ) (r : Run S) →
      text_for p r l ++ last_of p (runs p r l) ≡ put_out p r.state (map command_of (lines_from r.begun l))
  unfolding runs text_for stepped_by text_by last_of put_out lines_from
  whole [] r = refl
  whole (c ∷ l) r = go (eqb c 10) (λ (q : Run S). whole l q)
    where
      more : List ℕ
      more = r.begun ++ (c ∷ [])

      onward : Bool → Run S
      onward t =
          cond t
          (record { state = p.next r.state (command_of r.begun); begun = [] })
          (record { state = r.state; begun = kept more })

      go :
          (t : Bool) →
          ((q : Run S) → text_for p q l ++ last_of p (runs p q l) ≡ put_out p q.state (map command_of (lines_from q.begun l))) →
          (cond t (p.text r.state (command_of r.begun)) [] ++ text_for p (onward t) l) ++ last_of p (runs p (onward t) l)
          ≡ put_out p r.state (map command_of (cond t (r.begun ∷ lines_from [] l) (lines_from more l)))
      go true h = append_assoc (p.text r.state (command_of r.begun)) _ _ ∙ rw (h (onward true))
      go false h = h (onward false) ∙ ap (put_out p r.state) (commands_kept l (kept more) more (kept-twice more))

  in_blocks :
      (blocks : List (List ℕ)) (r : Run S) →
      written_out p r blocks ≡ text_for p r (joined blocks) ++ last_of p (runs p r (joined blocks))
  unfolding written_out joined runs text_for
  in_blocks [] r = refl
  in_blocks (b ∷ blocks) r =
      rw (text-append r b (joined blocks), runs_append r b (joined blocks), in_blocks blocks (runs p r b))
      (sym (append_assoc (text_for p r b) _ _))

  -- blocks are answered as one input
  pub as_one :
      (blocks : List (List ℕ)) (r : Run S) →
      written_out p r blocks ≡ put_out p r.state (map command_of (lines_from r.begun (joined blocks)))
  as_one blocks r = in_blocks blocks r ∙ whole (joined blocks) r
