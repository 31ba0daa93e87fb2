-- The walk over the pages that may hold a star to be moved.
use mathlib.Core.Path.{◌≡◌, refl, ap, ◌∙◌}
use mathlib.Core.Bool.{Bool, true, false, not, ◌&&◌, ◌||◌}
use mathlib.Core.Logic.{⊎_elim}
use mathlib.Core.List.{List, Memᴰ}
use Prim.Native.Nat.{ℕ, ◌+◌, ◌<◌}
use native.Mathlib.Numerals.{add-one}
use native.Mathlib.Omega.{arith}
use lib.Dec.{eqb}
use lib.ListN.{get_or}
use Rattle.generator.specs.Generator.{top_of_lem}
use Rattle.hashing.specs.declared.Parameters.{Parameters}
use Rattle.hashing.specs.declared.Growth.{Growth}
use Rattle.hashing.specs.Geometry.{page_count, expands}
use Rattle.growth_in_place.specs.Expansion.{joins, NoneJoins, page_stars, runs_to, is_near, NoneAway, KeptStars}

module _ (p : Parameters) (g : Growth) (separators : List ℕ) where
  pub runs_none : runs_to p g separators 0 ≡ false
  unfolding runs_to
  runs_none = refl

  pub near-is : (q : ℕ) (runs here : Bool) → runs ≡ runs_to p g separators q → here ≡ (runs || expands p g q) → here ≡ is_near p g separators q
  near-is q runs here e d = d ∙ ap (λ (t : Bool). t || expands p g q) e

  pub runs-next : (q : ℕ) (here next : Bool) → here ≡ is_near p g separators q → next ≡ (here && not (eqb (get_or separators q 0) (top_of_lem p.bits)))
      → next ≡ runs_to p g separators (q + 1)
  unfolding runs_to
  runs-next q here next e d = rw (add-one q) (d ∙ ap (λ (t : Bool). t && not (eqb (get_or separators q 0) (top_of_lem p.bits))) e)

  -- a page that is passed over has no star to be moved, before the moves and so after them
  pub none_left : (ns ws os ns' ws' os' : List ℕ) → NoneAway p g separators ns ws os → KeptStars p g ns ws os ns' ws' os' → page_count p g < p.pages
      → (q : ℕ) → q < page_count p g → is_near p g separators q ≡ false → NoneJoins p g (page_stars p ns' ws' os' q)
  none_left ns ws os ns' ws' os' none kept room q low far s m =
      ⊎_elim
      (λ (n : Memᴰ s (page_stars p ns ws os q)). none q low far s n)
      (λ (n : (q ≡ page_count p g) × (joins p g s.number ≡ true) × ((r : ℕ) × (r < p.pages) × Memᴰ s (page_stars p ns ws os r))). absurd (omega (arith, n.0)))
      (kept.back q (omega arith) s m)
