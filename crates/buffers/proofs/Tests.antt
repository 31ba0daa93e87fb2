-- Laws of tests that the library lacks.
use mathlib.Core.Path.{◌≡◌, refl}
use mathlib.Core.Bool.{Bool, true, false, not, ◌&&◌, ◌||◌, true≢false, false≢true}

pub and-true : (s t : Bool) → s && t ≡ true → (s ≡ true) × (t ≡ true)
and-true true t e = (refl, e)
and-true false t e = absurd (false≢true e)

pub either-false : (s t : Bool) → s || t ≡ false → (s ≡ false) × (t ≡ false)
either-false true t e = absurd (true≢false e)
either-false false t e = (refl, e)

pub not_mono : (s t : Bool) → (s ≡ true → t ≡ true) → not t ≡ true → not s ≡ true
not_mono true t e g = absurd (false≢true (rw (e refl) at g))
not_mono false t e g = refl
