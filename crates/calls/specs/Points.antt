-- Document 01's "Proved points (P)", as one table about the definitions.
use Rattle.std.specs.Prelude.{◌≡◌, List, [], ◌∷◌, map, ℕ, pos, length, get_or}
use Rattle.hashing.specs.declared.Parameters.{Parameters}
use Rattle.generator.specs.Generator.{scrambled, signature, top_of_lem}
use Rattle.hashing.specs.Geometry.{grown, ungrown, rank}
use Rattle.hashing.specs.Home.{home}
use Rattle.pages.specs.Position.{packed}
use Rattle.placement.specs.Rule.{Star, Hash, separator_of, staying, star_with}

-- starline's file: N = n0 = 2, s = 1
abbrev pub small : Parameters
small = record { places = 2; groups = 2; width = 2; step = 1; bits = 8; load = 80; pages = 8; multiplier = 16807 }

-- k = 4, b places, all stars at home on page 0; star i has the i-th of the given signatures, counted from 0
abbrev pub given : ℕ → List ℕ → Hash
given b signatures = record { home = λ k. 0; signature = λ k page. get_or signatures k 0; top = top_of_lem 4; room = b }

abbrev pub star : ℕ → Star
star k = star_with k 0 0

abbrev pub separator_for : ℕ → List ℕ → List ℕ → ℕ
separator_for b signatures stars = separator_of (given b signatures) 0 (map star stars)

abbrev pub staying_for : ℕ → List ℕ → List ℕ → List Star
staying_for b signatures stars =
    staying (given b signatures) 0 (separator_for b signatures stars) (map star stars)

-- signatures 1, 3, 4, 4, 8; 3 and 8; 5 and 5
abbrev pub five : List ℕ
five = 1 ∷ 3 ∷ 4 ∷ 4 ∷ 8 ∷ []

abbrev pub five_stars : List ℕ
five_stars = 0 ∷ 1 ∷ 2 ∷ 3 ∷ 4 ∷ []

abbrev pub two_stars : List ℕ
two_stars = 0 ∷ 1 ∷ []

pub record Points : Type 0 where
  pub third : scrambled 16807 3 1 ≡ 1622650073
  pub first_of_last : scrambled 16807 1 2147483646 ≡ 2147466840
  pub signature1_of1 : signature 16807 8 1 1 ≡ 158
  pub signature2_of1 : signature 16807 8 1 2 ≡ 175
  pub signature1_of2 : signature 16807 8 2 1 ≡ 189
  pub rank_of7 : rank 3 10 7 ≡ 7
  pub rank_of1 : rank 3 10 1 ≡ 9
  pub home_of1 : home 16807 small ungrown 1 ≡ 3
  pub home_of1_grown : home 16807 small (grown small ungrown) 1 ≡ 4
  pub home_of2 : home 16807 small ungrown 2 ≡ 2
  pub home_of2_grown_twice : home 16807 small (grown small (grown small ungrown)) 2 ≡ 5
  pub four_kept : length (staying_for 4 five five_stars) ≡ 4
  pub four_separator : separator_for 4 five five_stars ≡ 8
  pub two_kept : length (staying_for 3 five five_stars) ≡ 2
  pub two_separator : separator_for 3 five five_stars ≡ 4
  pub three_kept : staying_for 1 (3 ∷ 8 ∷ []) two_stars ≡ star 0 ∷ []
  pub three_separator : separator_for 1 (3 ∷ 8 ∷ []) two_stars ≡ 8
  pub none_kept : staying_for 1 (5 ∷ 5 ∷ []) two_stars ≡ []
  pub none_separator : separator_for 1 (5 ∷ 5 ∷ []) two_stars ≡ 5
  pub word_of_one : packed (record { ra = 1; dec = pos 0 }) ≡ 4618967296
