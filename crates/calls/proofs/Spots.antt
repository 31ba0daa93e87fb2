-- How spots and items are counted.
use mathlib.Core.Path.{◌≡◌}
use Prim.Native.Nat.{ℕ, suc, ◌+◌, ◌*◌, ◌/◌, ◌%◌, ◌≤◌, ◌<◌}
use native.Mathlib.Nat.{suc-mul, mul-le-mul_right}
use native.Mathlib.Omega.{arith}
use lib.Arith.{digits_div, digits_mod}

-- a spot's page and place
pub spot_page : (places page place : ℕ) → place ≤ places → (page * suc places + place) / suc places ≡ page
spot_page places page place h = digits_div page (omega arith)

pub spot_place : (places page place : ℕ) → place ≤ places → (page * suc places + place) % suc places ≡ place
spot_place places page place h = digits_mod page (omega arith)

pub item-within : (count places page place : ℕ) → page < count → place < places → page * places + place < count * places
item-within count places page place h k = omega (arith, suc-mul page places, mul-le-mul_right places h)

pub spot_within : (count places page place : ℕ) → page < count → place ≤ places → page * suc places + place < count * suc places
spot_within count places page place h k = omega (arith, suc-mul page (suc places), mul-le-mul_right (suc places) h)
