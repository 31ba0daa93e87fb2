-- Laws of a program that reads its input and writes its output, block after block.
use Prim.Native.Nat.{ℕ, ◌≤◌}
use mathlib.Core.List.{List, [], ◌∷◌, ◌++◌, map, append-nil}
use mathlib.Core.Path.{◌≡◌, refl, sym, ap, subst, ◌∙◌}
use lib.ListN.{length, take}
use Rattle.std.specs.Prelude.{Option, IfSome}
use Rattle.std.specs.Io.KnownBytes.{Consumes, Appends, IsAtEnd}
use Rattle.std.proofs.KnownBytes.{Consumes-nil, Consumes-trans, Appends-nil, Appends-trans, Consumes-whole}
use Rattle.lines.specs.Grammar.{command_of, lines_of}
use Rattle.lines.specs.Programs.{Program, Run, runs, text_for, last_of, put_out, opened, written_out, Stands}
use Rattle.lines.specs.Replies.{TextAt}
use Rattle.lines.specs.Turns.{PutOut, joined}
use Rattle.lines.specs.Streams.{Serves}
use Rattle.lines.proofs.Programs.{runs_append, text-append, as_one}
use Rattle.lines.proofs.Turns.{written_is}

-- a text put at the front of a buffer is what is written of it
pub put_is :
    (text before after : List ℕ) (at : ℕ) (held held_then : Option (List ℕ)) → TextAt 0 text before after at → at ≤ length before →
    Appends held held_then (take at after) → Appends held held_then text
put_is text before after at held held_then t room w =
    subst (Appends held held_then)
    (written_is text (take at after) (record { before = before; after = after; at = at; contract = t; room = room; bytes = refl }))
    w

module _ {S : Type 0} (p : Program S) where
  pub serves_nothing :
      (r : Run S) (left left_then held : Option (List ℕ)) → Consumes left left_then [] → Serves p r r left left_then held held
  unfolding runs text_for
  serves_nothing r left left_then held c = record { input = []; read = c; goes_on = refl; written = Appends-nil held }

  pub serves_block :
      (r q : Run S) (block before after : List ℕ) (at : ℕ) (left left_then held held_then : Option (List ℕ)) →
      Stands p r block 0 before after q at → at ≤ length before → Consumes left left_then block → Appends held held_then (take at after) →
      Serves p r q left left_then held held_then
  serves_block r q block before after at left left_then held held_then s room c w =
      record { input = block; read = c; goes_on = s.run; written = put_is _ before after at held held_then s.text room w }

  pub serves_then :
      (r q t : Run S) (left mid left_then held held_mid held_then : Option (List ℕ)) → Serves p r q left mid held held_mid →
      Serves p q t mid left_then held_mid held_then → Serves p r t left left_then held held_then
  serves_then r q t left mid left_then held held_mid held_then a b =
      let run : t ≡ runs p r (a.input ++ b.input) =
      b.goes_on ∙ ap (λ (x : Run S). runs p x b.input) a.goes_on ∙ sym (runs_append p r a.input b.input) in
      let text : text_for p r a.input ++ text_for p q b.input ≡ text_for p r (a.input ++ b.input) =
      ap (λ (x : Run S). text_for p r a.input ++ text_for p x b.input) a.goes_on ∙ sym (text-append p r a.input b.input) in
      record {
        input = a.input ++ b.input;
        read = Consumes-trans left mid left_then a.input b.input a.read b.read;
        goes_on = run;
        written = subst (Appends held held_then) text (Appends-trans held held_mid held_then _ _ a.written b.written);
      }

  -- what is put out for all input, and when it has ended
  whole : (r q : Run S) (input : List ℕ) → r ≡ opened p → q ≡ runs p r input →
      text_for p r input ++ last_of p q ≡ put_out p p.first (map command_of (lines_of input))
  unfolding written_out joined opened
  whole r q input starts goes_on =
      ap (λ (x : Run S). text_for p r input ++ last_of p x) goes_on
      ∙ ap (λ (x : Run S). text_for p x input ++ last_of p (runs p x input)) starts
      ∙ as_one p (input ∷ []) (opened p)
      ∙ ap (λ (l : List ℕ). put_out p p.first (map command_of (lines_of l))) (append-nil input)

  pub serves_all :
      (r q : Run S) (left left_then held held_mid held_then : Option (List ℕ)) → r ≡ opened p → Serves p r q left left_then held held_mid →
      IsAtEnd left_then → Appends held_mid held_then (last_of p q) →
      IfSome left (λ input. Appends held held_then (put_out p p.first (map command_of (lines_of input))))
  serves_all r q left left_then held held_mid held_then starts s end w =
      Consumes-whole left left_then s.input
      (λ (input : List ℕ). Appends held held_then (put_out p p.first (map command_of (lines_of input))))
      s.read end
      (subst (Appends held held_then) (whole r q s.input starts s.goes_on) (Appends-trans held held_mid held_then _ _ s.written w))

  -- the same where a first block came before what was left
  pub serves_first :
      (r m q : Run S) (first : List ℕ) (left left_then held held_first held_mid held_then : Option (List ℕ)) → r ≡ opened p →
      m ≡ runs p r first → Appends held held_first (text_for p r first) → Serves p m q left left_then held_first held_mid →
      IsAtEnd left_then → Appends held_mid held_then (last_of p q) →
      IfSome left (λ rest. Appends held held_then (put_out p p.first (map command_of (lines_of (first ++ rest)))))
  serves_first r m q first left left_then held held_first held_mid held_then starts goes_on begun s end w =
      let run : q ≡ runs p r (first ++ s.input) =
      s.goes_on ∙ ap (λ (x : Run S). runs p x s.input) goes_on ∙ sym (runs_append p r first s.input) in
      let text : text_for p r first ++ text_for p m s.input ≡ text_for p r (first ++ s.input) =
      ap (λ (x : Run S). text_for p r first ++ text_for p x s.input) goes_on ∙ sym (text-append p r first s.input) in
      Consumes-whole left left_then s.input
      (λ (rest : List ℕ). Appends held held_then (put_out p p.first (map command_of (lines_of (first ++ rest)))))
      s.read end
      (subst (Appends held held_then) (whole r q (first ++ s.input) starts run)
      (Appends-trans held held_mid held_then _ _
      (subst (Appends held held_mid) text (Appends-trans held held_first held_mid _ _ begun s.written)) w))
