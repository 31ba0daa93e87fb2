-- A waiting star as one word: its home on top, then its number, then its source. Assumes nothing.
use Rattle.std.specs.Prelude.{ℕ, ◌+◌, ◌*◌, ◌/◌, ◌%◌, ◌^◌}

-- 31 bits hold a star number ("1 to 2,147,483,646"), 16 bits an item plus 1, the rest a page
unfoldable pub pack : ℕ → ℕ → ℕ → ℕ
pack h k s = h * 2 ^ 47 + k * 2 ^ 16 + s

unfoldable pub home_of : ℕ → ℕ
home_of w = w / 2 ^ 47

unfoldable pub number_in : ℕ → ℕ
number_in w = w / 2 ^ 16 % 2 ^ 31

unfoldable pub source_of : ℕ → ℕ
source_of w = w % 2 ^ 16

-- number and source: numeric order is order by number
unfoldable pub low_of : ℕ → ℕ
low_of w = w % 2 ^ 47
