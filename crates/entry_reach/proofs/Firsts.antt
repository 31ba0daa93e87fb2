-- What decides the first number that passes a test.
use mathlib.Core.Path.{◌≡◌, sym, ◌∙◌}
use mathlib.Core.Bool.{Bool, true≢false}
use Prim.Native.Nat.{ℕ, ◌<◌}
use native.Mathlib.Decide.{dec_lt}
use native.Mathlib.Omega.{arith}
use Rattle.reach.specs.Reach.{first_such}
use Rattle.reach.proofs.Search.{Such, such}

not_lower : (test : ℕ → Bool) (from n r s : ℕ) → Such test from n r → Such test from n s → r < s → ⊥
not_lower test from n r s a b h = true≢false (sym (a.passes (omega (arith, b.high))) ∙ b.before r a.low h)

pub such-is : (test : ℕ → Bool) (from n r : ℕ) → Such test from n r → r ≡ first_such test from n
such-is test from n r a = go (dec_lt r s) (dec_lt s r)
  where
    s : ℕ
    s = first_such test from n

    go : Dec (r < s) → Dec (s < r) → r ≡ s
    go (yes h) d = absurd (not_lower test from n r s a (such test from n) h)
    go (no h) (yes k) = absurd (not_lower test from n s r (such test from n) a k)
    go (no h) (no k) = omega arith
