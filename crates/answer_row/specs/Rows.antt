-- The answer of a call as eight numbers. Assumes nothing.
use Rattle.std.specs.Prelude.{Bool, true, false, List, [], ◌∷◌, ℕ, ℤ, pos, nat_abs, ◌+ℤ◌}
use Rattle.calls.specs.declared.answers.Answer.{Answer}

unfoldable pub bit : Bool → ℕ
bit true = 1
bit false = 0

-- a signed number of 32 bits, raised by 2^31
unfoldable pub shifted : ℤ → ℕ
shifted dec = nat_abs (dec +ℤ pos 2147483648)

-- refusal, page, place, found, right ascension, declination, due, stars
unfoldable pub encoded : Answer → List ℕ
encoded a =
    a.refusal
    ∷ a.page
    ∷ a.place
    ∷ bit a.found
    ∷ a.position.ra
    ∷ shifted a.position.dec
    ∷ bit a.due
    ∷ a.stars
    ∷ []
