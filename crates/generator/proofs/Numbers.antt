-- Facts on native numbers that the library lacks.
use mathlib.Core.Path.{◌≡◌, ◌∙◌, sym, ap}
use mathlib.Core.Logic.{◌⊎◌, inl, inr}
use Prim.Native.Nat.{ℕ, zero, suc, ◌+◌, ◌-◌, ◌*◌, ◌/◌, ◌%◌, ◌^◌, ◌≤◌, ◌<◌, min}
use native.Mathlib.Nat.{mod-add-div, div-add-mod', add-mul, mul_assoc, mul-add, add-mul-mod_self_left, mod-lt, mul-le-mul_left, mul-le-mul_right, suc-mul, mul-suc, le_trans, le-div_iff_mul-le, div-mul-le_self, div-zero, le_refl, le_of_lt, mul_comm, mul-one, one-mul, mul-div-le, mul-add-mod_self_left, lt-mul-div-succ, div-eq_of_lt-le, mod-eq_of_lt, mod-eq-sub-div-mul, two-pow-succ}
use native.Mathlib.Decide.{dec_le, dec_lt}
use native.Mathlib.Omega.{arith}
use lib.Pow.{pow_mono, pow_pos}
use lib.Arith.{digits_div, digits_mod}

pub mul_mod : (a n b : ℕ) → (a % n) * b % n ≡ a * b % n
mul_mod a n b =
    sym
    (ap (λ (t : ℕ). t * b % n) (sym (mod-add-div a n))
    ∙ rw (add-mul (a % n) (n * (a / n)) b, mul_assoc n (a / n) b, add-mul-mod_self_left))

pub mul_mod_right : (a n b : ℕ) → a * (b % n) % n ≡ a * b % n
mul_mod_right a n b = rw (mul_comm a (b % n), mul_mod b n a, mul_comm b a)

-- 2^31 is 1 mod m: the halves of a number add up to the same remainder
pub halves : (n : ℕ) → (n / 2147483648 + n % 2147483648) % 2147483647 ≡ n % 2147483647
halves n =
    let h = n / 2147483648 in
    let whole : n ≡ 2147483647 * h + (h + n % 2147483648) = omega arith in
    sym (ap (λ (t : ℕ). t % 2147483647) whole ∙ mul-add-mod_self_left 2147483647 h (h + n % 2147483648))

-- a quotient as a product by an inverse of the divisor, exact while t·s is below c
pub inverse : (t s c : ℕ) → 1 ≤ s → t * s < c → t * (c / s + 1) / c ≡ t / s
inverse t s c h l = div-eq_of_lt-le c low high
  where
    i : ℕ
    i = c / s + 1

    u : ℕ
    u = t / s

    over : c < s * i
    over = lt-mul-div-succ c {b = s} h

    near : s * i ≤ c + s
    near = rw (mul-add s (c / s) 1, mul-one s) (omega (arith, mul-div-le c s))

    low : u * c ≤ t * i
    low =
        let first : u * c ≤ u * (s * i) = mul-le-mul_left u (le_of_lt over) in
        let second : u * s * i ≤ t * i = mul-le-mul_right i (div-mul-le_self t s) in
        omega (arith, mul_assoc u s i)

    next_multiple : suc t ≤ (u + 1) * s
    next_multiple = omega (arith, div-add-mod' t s, mod-lt t {m = s} h, add-mul u 1 s, one-mul s)

    swapped : (x y z : ℕ) → x * y * z ≡ y * (x * z)
    swapped x y z = ap (λ (n : ℕ). n * z) (mul_comm x y) ∙ mul_assoc y x z

    high : t * i < (u + 1) * c
    high = go (dec_le ((u + 1) * c) (t * i))
      where
        go : Dec ((u + 1) * c ≤ t * i) → t * i < (u + 1) * c
        go (no f) = omega arith
        go (yes p) =
            let first : suc t * c ≤ (u + 1) * s * c = mul-le-mul_right c next_multiple in
            let second : s * ((u + 1) * c) ≤ s * (t * i) = mul-le-mul_left s p in
            let third : t * (s * i) ≤ t * (c + s) = mul-le-mul_left t near in
            omega (arith, suc-mul t c, swapped (u + 1) s c, swapped t s i, mul_assoc t s i, mul-add t c s)

pub div_mono : (w : ℕ) {a b : ℕ} → a ≤ b → a / w ≤ b / w
div_mono zero {a} {b} h = rw (div-zero a, div-zero b) (le_refl zero)
div_mono (suc w) {a} {b} h = (le-div_iff_mul-le {k = suc w} {x = a / suc w} {y = b} (omega arith)).1 (le_trans (div-mul-le_self a (suc w)) h)

-- a shift of 1 in w bits
pub shifted : (k w : ℕ) → k < w → 1 * 2 ^ k % 2 ^ w ≡ 2 ^ k
shifted k w h =
    let more : 2 ^ suc k ≤ 2 ^ w = pow_mono h in
    rw (one-mul (2 ^ k)) (mod-eq_of_lt (omega (arith, two-pow-succ k, pow_pos k)))

-- a remainder from a quotient
pub rest : (n m q : ℕ) → q ≡ n / m → n - q * m ≡ n % m
rest n m q e = rw (e, mod-eq-sub-div-mul n m)

-- remainder and quotient of the next number: either the remainder grows by one, or it starts again
abbrev pub Next : ℕ → ℕ → Type 0
Next w i =
    ((suc (i % w) < w) × (suc i % w ≡ suc (i % w)) × (suc i / w ≡ i / w))
    ⊎ ((suc (i % w) ≡ w) × (suc i % w ≡ zero) × (suc i / w ≡ suc (i / w)))

pub next : (w i : ℕ) → 0 < w → Next w i
next w i pos = go (dec_lt (suc (i % w)) w)
  where
    split : suc i ≡ i / w * w + suc (i % w)
    split = omega (arith, div-add-mod' i w)

    go : Dec (suc (i % w) < w) → Next w i
    go (yes h) = inl (h, rw (split, digits_mod (i / w) h), rw (split, digits_div (i / w) h))
    go (no h) =
        let e : suc (i % w) ≡ w = omega (arith, h, mod-lt i pos) in
        let again : suc i ≡ suc (i / w) * w + 0 = omega (arith, split, suc-mul (i / w) w) in
        inr (e, rw (again, digits_mod (suc (i / w)) pos), rw (again, digits_div (suc (i / w)) pos))

-- the arithmetic of a sweep: G = s·q + r and t = s·u + w with t below G
pub sweep_below : (s q r u w : ℕ) → r < s → w < s → s * u + w < s * q + r → w * q + min w r + u < s * q + r
sweep_below s q r u w hr hw ht = go (dec_le u q) (dec_lt u q)
  where
    rows : suc w * q ≤ s * q
    rows = mul-le-mul_right q hw

    go : Dec (u ≤ q) → Dec (u < q) → w * q + min w r + u < s * q + r
    go (no f) (yes f') = omega arith
    go (no f) (no f') =
        let over : s * suc q ≤ s * u = mul-le-mul_left s (omega arith) in
        omega (arith, mul-suc s q)
    go (yes h) (yes h') = omega (arith, rows, suc-mul w q)
    go (yes h) (no f) =
        let same : u ≡ q = omega arith in
        let short : w < r = omega (arith, ap (λ (n : ℕ). s * n) same) in
        omega (arith, rows, suc-mul w q)
