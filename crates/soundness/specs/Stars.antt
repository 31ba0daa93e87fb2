-- The numbers of the stars among items, taken together.
use Rattle.std.specs.Prelude.{◌≡◌, cond, List, [], ◌∷◌, ℕ, ◌+◌, ◌*◌, ◌%◌, ◌≤◌, eqb, length, get_or, take}
use Rattle.soundness.specs.declared.star_homes.Taken.{Taken}

unfoldable pub one_if_star_lem : ℕ → ℕ
one_if_star_lem n = cond (eqb n 0) 0 1

-- the numbers other than 0, in their order
unfoldable pub star_numbers : List ℕ → List ℕ
star_numbers [] = []
star_numbers (n ∷ ns) = cond (eqb n 0) (star_numbers ns) (n ∷ star_numbers ns)

-- of these numbers' first items, at least one and at most `items`, the stars stand at the front of the block
pub record Gathered (ns : List ℕ) (items : ℕ) (block : List ℕ) (r : Taken) : Type 0 where
  pub long : length block ≡ 32
  pub some : 1 ≤ r.items
  pub within : r.items ≤ items
  pub most : r.stars ≤ 32
  pub counted : r.stars ≡ length (star_numbers (take r.items ns))
  pub taken : take r.stars block ≡ star_numbers (take r.items ns)

-- The homes hs, from the k-th on, given one by one to the stars among these numbers, 0 to empty places.
unfoldable pub spread_from : List ℕ → ℕ → List ℕ → List ℕ
spread_from hs k [] = []
spread_from hs k (n ∷ ns) = get_or hs (k % 32) 0 * one_if_star_lem n ∷ spread_from hs (k + one_if_star_lem n) ns
