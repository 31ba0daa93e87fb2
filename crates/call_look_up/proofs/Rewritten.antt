-- A change writes one word: one page, and one store.
use mathlib.Core.Path.{◌≡◌, refl, sym, ap, subst, ◌∙◌}
use mathlib.Core.Bool.{true, cond}
use Prim.Native.Nat.{ℕ, ◌/◌, ◌%◌, ◌<◌}
use native.Mathlib.Nat.{div-add-mod', mod-lt}
use lib.Dec.{eqb}
use lib.ListN.{set, length-set}
use Rattle.hashing.specs.declared.Parameters.{Parameters}
use Rattle.pages.specs.Page.{part}
use Rattle.placement.specs.File.{File}
use Rattle.placement.specs.Shape.{Sized}
use Rattle.placement.specs.Hash.{lent}
use Rattle.placement.proofs.Change.{part-set-other}
use Rattle.calls.specs.declared.answers.Answer.{Answer}
use Rattle.calls.specs.Answers.{Pool, After, Leaves}
use Rattle.calls.specs.Shape.{stopped_file, stopped}
use Rattle.calls.proofs.Stores.{SamePage}
use Rattle.calls.proofs.Stored.{one-page-stored}

module _ (p : Parameters) (f : File) (sized : Sized p.places p.pages f) (some : 0 < p.places) (item word : ℕ) where
  abbrev pub rewritten : File
  rewritten = lent f.separators f.numbers (set f.words item word) f.owners

  other-words : (q : ℕ) → (q ≡ item / p.places → ⊥) → part p.places q (set f.words item word) ≡ part p.places q f.words
  other-words q other =
      subst (λ (i : ℕ). part p.places q (set f.words i word) ≡ part p.places q f.words) (div-add-mod' item p.places)
      (part-set-other p.places (item / p.places) q (item % p.places) word f.words (mod-lt item some) other)

  elsewhere : (q : ℕ) → (q ≡ item / p.places → ⊥) → SamePage p.places f rewritten q
  elsewhere q other = record { numbers = refl; words = sym (other-words q other); owners = refl }

  sized-after : Sized p.places p.pages rewritten
  sized-after =
      record {
        of_separators = sized.of_separators;
        of_numbers = sized.of_numbers;
        of_words_lem = length-set f.words item word ∙ sized.of_words_lem;
        of_owners = sized.of_owners;
      }

  -- what the change leaves after n stores
  pub rewritten-leaves : (n : ℕ) (after : After) (answer : Answer) (pool : Pool) (x : File) → Leaves after answer rewritten pool → x ≡ cond (eqb n 0) f rewritten
      → Leaves (stopped true p f n after) answer x pool
  rewritten-leaves n after answer pool x L e =
      record {
        answers = L.answers;
        files =
            e
            ∙ sym (one-page-stored p.places p.pages (item / p.places) f rewritten elsewhere true n sized sized-after refl)
            ∙ ap (λ (l : File). stopped_file true p f l n) L.files;
        pools = L.pools;
      }
