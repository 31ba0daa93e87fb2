-- The first number that passes a test.
use mathlib.Core.Path.{◌≡◌, refl, sym, ◌∙◌}
use mathlib.Core.Bool.{Bool, true, false, cond}
use Prim.Native.Nat.{ℕ, zero, suc, ◌+◌, ◌-◌, ◌≤◌, ◌<◌}
use native.Mathlib.Nat.{add-zero, add-suc, suc-add}
use native.Mathlib.Decide.{dec_lt}
use native.Mathlib.Omega.{arith}
use Rattle.reach.specs.Reach.{first_such}

-- what the search has done when it stands at i: nothing below passed, so the whole search is the rest of it
pub record Sought (test : ℕ → Bool) (from n i : ℕ) : Type 0 where
  pub low : from ≤ i
  pub high : i ≤ from + n
  pub rest : first_such test from n ≡ first_such test i (from + n - i)

pub sought-none : (test : ℕ → Bool) (from n : ℕ) → Sought test from n from
sought-none test from n =
    record {
      low = omega arith;
      high = omega arith;
      rest =
          let e : from + n - from ≡ n = omega arith in
          rw e;
    }

one_more : (test : ℕ → Bool) (i m : ℕ) → 0 < m → test i ≡ false → first_such test i m ≡ first_such test (suc i) (m - 1)
unfolding first_such
one_more test i zero h e = absurd (omega arith)
one_more test i (suc m) h e =
    let s : suc m - 1 ≡ m = omega arith in
    rw (e, s)

one_found : (test : ℕ → Bool) (i m : ℕ) → 0 < m → test i ≡ true → first_such test i m ≡ i
unfolding first_such
one_found test i zero h e = absurd (omega arith)
one_found test i (suc m) h e = rw e

pub sought-next : (test : ℕ → Bool) (from n i : ℕ) → Sought test from n i → i < from + n → test i ≡ false → Sought test from n (suc i)
sought-next test from n i s h e =
    record {
      low = omega (arith, s.low);
      high = h;
      rest =
          let d : from + n - i - 1 ≡ from + n - suc i = omega arith in
          s.rest ∙ (one_more test i (from + n - i) (omega arith) e ∙ rw d);
    }

pub sought-found : (test : ℕ → Bool) (from n i : ℕ) → Sought test from n i → i < from + n → test i ≡ true → i ≡ first_such test from n
sought-found test from n i s h e = sym (s.rest ∙ one_found test i (from + n - i) (omega arith) e)

pub sought-all : (test : ℕ → Bool) (from n i : ℕ) → Sought test from n i → from + n ≤ i → i ≡ first_such test from n
unfolding first_such
sought-all test from n i s h =
    let d : from + n - i ≡ 0 = omega (arith, s.high) in
    sym (s.rest ∙ rw d)

-- where none of the first k passes
pub sought-passed : (test : ℕ → Bool) (from n k : ℕ) → k ≤ n → ((q : ℕ) → from ≤ q → q < from + k → test q ≡ false) → Sought test from n (from + k)
sought-passed test from n zero h none = rw (add-zero from) (sought-none test from n)
sought-passed test from n (suc k) h none =
    rw (add-suc from k)
    (sought-next test from n (from + k) (sought-passed test from n k (omega arith) (λ q a b. none q a (omega arith))) (omega arith) (none (from + k) (omega arith) (omega arith)))

-- the result's place and what it passed over
pub record Such (test : ℕ → Bool) (from n r : ℕ) : Type 0 where
  pub low : from ≤ r
  pub high : r ≤ from + n
  pub before : (q : ℕ) → from ≤ q → q < r → test q ≡ false
  pub passes : r < from + n → test r ≡ true

such-here : (test : ℕ → Bool) (from n : ℕ) → test from ≡ true → Such test from (suc n) from
such-here test from n e =
    record {
      low = omega arith;
      high = omega arith;
      before = λ q a b. absurd (omega arith);
      passes = λ h. e;
    }

such-later : (test : ℕ → Bool) (from n r : ℕ) → test from ≡ false → Such test (suc from) n r → Such test from (suc n) r
such-later test from n r e s =
    record {
      low = omega (arith, s.low);
      high = omega (arith, s.high, add-suc from n, suc-add from n);
      before = λ q a b. passed q a b;
      passes = λ h. s.passes (omega (arith, add-suc from n, suc-add from n));
    }
  where
    at_first : (q : ℕ) → q ≡ from → test q ≡ false
    at_first q d = rw d e

    passed : (q : ℕ) → from ≤ q → q < r → test q ≡ false
    passed q a b = elim (dec_lt from q) [ yes l ↦ s.before q l b | no l ↦ at_first q (omega arith) ]

pub such : (test : ℕ → Bool) (from n : ℕ) → Such test from n (first_such test from n)
unfolding first_such
such test from zero =
    record {
      low = omega arith;
      high = omega arith;
      before = λ q a b. absurd (omega arith);
      passes = λ h. absurd (omega (arith, add-zero from));
    }
such test from (suc n) = go (test from) refl (such test (suc from) n)
  where
    go : (t : Bool) → test from ≡ t → Such test (suc from) n (first_such test (suc from) n) → Such test from (suc n) (cond t from (first_such test (suc from) n))
    go true e s = such-here test from n e
    go false e s = such-later test from n _ e s
