-- Document 01's point on position words.
-- Assumes nothing.
use mathlib.Core.Path.{◌≡◌, refl}
use lib.IntN.{pos}
use Rattle.pages.specs.Position.{packed}

-- "right ascension 1, declination 0 is word 4,618,967,296"
pub word-of_one : packed (record { ra = 1; dec = pos 0 }) ≡ 4618967296
unfolding packed
word-of_one = refl
