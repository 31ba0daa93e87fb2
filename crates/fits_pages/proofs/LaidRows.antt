-- The file that placing the rows leaves.
use mathlib.Core.Path.{◌≡◌, refl, sym, ap, ◌∙◌}
use mathlib.Core.Bool.{Bool, true, false}
use mathlib.Core.List.{List, [], ◌∷◌, map, append-nil}
use Prim.Native.Nat.{ℕ, ◌*◌, ◌<◌}
use native.Mathlib.Nat.{zero-add}
use native.Mathlib.Omega.{arith}
use lib.ListN.{length, replicate, take, drop_of_length-le, length-map}
use lib.Seq.{paste}
use Rattle.hashing.specs.declared.Geometry.{Geometry}
use Rattle.placement.specs.Rule.{Star, left, star_with}
use Rattle.placement.specs.File.{File, file_of, laid}
use Rattle.placement.specs.Hash.{hash_of, lent}
use Rattle.placement.proofs.Composition.{crowded}
use Rattle.reach.specs.Reach.{is_empty}
use Rattle.plan_transfer.specs.Sources.{named_item}
use Rattle.fits_table.specs.Rows.{rows_read}
use Rattle.fits_table.proofs.Reading.{length-read}
use Rattle.fits_pages.specs.Columns.{numbers_read, words_read, PlansRows}
use Rattle.fits_pages.specs.Placed.{row_stars, Places}

-- all separators copied
pub pasted_front : (d s : List ℕ) (n : ℕ) → length d ≡ n → paste d 0 s n ≡ take n s
pasted_front d s n e = rw (zero-add n, drop_of_length-le d {i = n} (omega arith)) (append-nil (take n s))

pub zeros-as_long : (n m : ℕ) → n ≡ m → replicate {A = ℕ} n 0 ≡ replicate m 0
zeros-as_long n m e = ap (λ (k : ℕ). replicate k 0) e

not_empty : (w : List Star) → (w ≡ [] → ⊥) → false ≡ is_empty w
not_empty [] h = absurd (h refl)
not_empty (s ∷ w) h = refl

module _ (g : Geometry) (given : List ℕ) (n : ℕ) (f : File) where
  -- more rows than places
  pub no_room : g.parameters.pages * g.parameters.places < n → Places g given n f f false
  unfolding hash_of
  no_room h =
      let long : length (row_stars given n) ≡ n = length-map (rows_read given 5760 n) (λ (r : ℕ × ℕ). star_with r.0 r.1 0) ∙ length-read given 5760 n in
      record {
        fits =
            not_empty (left (hash_of g.parameters g.growth) 0 g.parameters.pages (row_stars given n))
            (crowded (hash_of g.parameters g.growth) 0 g.parameters.pages (row_stars given n) (omega (arith, long)));
        file = refl;
      }

  module _ (pool planned : List ℕ) where
    pub overfull : PlansRows g given n pool planned false → Places g given n f f false
    overfull P = record { fits = P.fits; file = refl }

    pub all-stored : PlansRows g given n pool planned true → (s n' w o : List ℕ) → s ≡ take g.parameters.pages planned
        → n' ≡ map (named_item (numbers_read given n) 0) pool → w ≡ map (named_item (words_read given n) 0) pool → o ≡ replicate (length pool) 0
        → Places g given n f (lent s n' w o) true
    unfolding laid file_of
    all-stored P s n' w o es en ew eo =
        record {
          fits = P.fits;
          file = rw (es ∙ P.planned_are refl, en ∙ P.numbers refl, ew ∙ P.words refl, eo ∙ P.owners refl);
        }
