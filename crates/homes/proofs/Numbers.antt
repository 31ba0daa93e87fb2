-- Facts on native numbers: remainders near the modulus, inverses rounded down, doubled quotients.
use mathlib.Core.Path.{◌≡◌, ◌∙◌, refl, sym, ap}
use Prim.Native.Nat.{ℕ, suc, ◌+◌, ◌-◌, ◌*◌, ◌/◌, ◌%◌, ◌≤◌, ◌<◌}
use native.Mathlib.Nat.{add-mul, mul-add, mul-one, one-mul, mul_assoc, mul_comm, suc-mul, mod-lt, mul-add-mod_self_right, mod-eq_of_lt, mod-eq-sub-mod, div-add-mod', div-mul-le_self, lt-mul-div-succ, mul-le-mul_left, mul-le-mul_right, div-eq_of_lt-le}
use native.Mathlib.Decide.{dec_le, dec_lt}
use native.Mathlib.Omega.{arith}
use lib.Arith.{digits_div, digits_mod}
use Rattle.generator.specs.Generator.{modulus}
use Rattle.generator.proofs.Numbers.{halves}

-- the product of two numbers doubled, folded twice at 31 bits
abbrev pub folded : ℕ → ℕ
folded p = p / 4294967296 + p % 4294967296 / 2

pub folded-is : (n : ℕ) → folded (2 * n) ≡ n / 2147483648 + n % 2147483648
folded-is n = omega arith

pub near-is : (n y : ℕ) → y ≡ n / 2147483648 + n % 2147483648 → (y / 2147483648 + y % 2147483648) % modulus ≡ n % modulus
near-is n y e = halves y ∙ ap (λ (t : ℕ). t % modulus) e ∙ halves n

pub folded-most : (n : ℕ) → n ≤ 2147483646 * 2147483648 → n / 2147483648 + n % 2147483648 ≤ 4294967293
folded-most n h = omega arith

pub near-most : (y : ℕ) → y ≤ 4294967293 → y / 2147483648 + y % 2147483648 ≤ modulus
near-most y h = omega arith

pub modulus-only : (x : ℕ) → modulus ≤ x → x ≤ modulus → x % modulus ≡ 0
modulus-only x h l =
    let e : x ≡ modulus = omega arith in
    rw e refl

-- with one added, a number passes the test that its remainder passes
pub passes : (x most : ℕ) → x ≤ modulus → (x + 1) % 2147483648 ≤ most + 1 → x % modulus ≤ most
passes x most h t = go (dec_lt x modulus)
  where
    go : Dec (x < modulus) → x % modulus ≤ most
    go (yes b) =
        let same : x % modulus ≡ x = mod-eq_of_lt b in
        let next : (x + 1) % 2147483648 ≡ x + 1 = mod-eq_of_lt (omega arith) in
        omega arith
    go (no f) = rw (modulus-only x (omega arith) h) (omega arith)

pub fails : (x most : ℕ) → x ≤ modulus → most + 1 < (x + 1) % 2147483648 → most < x % modulus
fails x most h t = go (dec_lt x modulus)
  where
    go : Dec (x < modulus) → most < x % modulus
    go (yes b) =
        let same : x % modulus ≡ x = mod-eq_of_lt b in
        let next : (x + 1) % 2147483648 ≡ x + 1 = mod-eq_of_lt (omega arith) in
        omega arith
    go (no f) =
        let e : x ≡ modulus = omega arith in
        absurd (omega arith)

-- x by s, with a quotient that may be one too low
pub record Spread (x s turns : ℕ) : Type 0 where
  pub least : turns * s ≤ x
  pub most : x - turns * s < 2 * s
  pub same : (x - turns * s) % s ≡ x % s

moved-last : (a b c : ℕ) → a * b * c ≡ a * c * b
moved-last a b c = mul_assoc a b c ∙ ap (λ (n : ℕ). a * n) (mul_comm b c) ∙ sym (mul_assoc a c b)

-- by an inverse rounded down
pub spread-by : (x s inverse : ℕ) → 1 ≤ s → x < 4294967296 → inverse ≡ 4294967295 / s → Spread x s (x * inverse / 4294967296)
spread-by x s inverse h l e = record { least = low; most = omega (arith, low, high); same = whole }
  where
    turns : ℕ
    turns = x * inverse / 4294967296

    low : turns * s ≤ x
    low =
        let under : turns * 4294967296 * s ≤ x * inverse * s = mul-le-mul_right s (div-mul-le_self (x * inverse) 4294967296) in
        let near : x * (inverse * s) ≤ x * 4294967295 = mul-le-mul_left x (rw e (div-mul-le_self 4294967295 s)) in
        omega (arith, under, near, mul_assoc x inverse s, moved-last turns 4294967296 s)

    high : x < turns * s + 2 * s
    high =
        let past : 4294967296 ≤ s * (inverse + 1) = rw e (omega (arith, lt-mul-div-succ 4294967295 {b = s} h)) in
        let wide : x * 4294967296 ≤ x * (s * (inverse + 1)) = mul-le-mul_left x past in
        let apart : x * (s * (inverse + 1)) ≡ x * inverse * s + x * s = ap (λ (n : ℕ). x * n) (mul-add s inverse 1) ∙ mul-add x (s * inverse) (s * 1) ∙ rw (mul-one s, mul_comm s inverse) (ap (λ (n : ℕ). n + x * s) (sym (mul_assoc x inverse s))) in
        let under : x * inverse + 1 ≤ (turns + 1) * 4294967296 = omega (arith, div-add-mod' (x * inverse) 4294967296, mod-lt (x * inverse) {m = 4294967296} (omega arith)) in
        let scaled : (x * inverse + 1) * s ≤ (turns + 1) * 4294967296 * s = mul-le-mul_right s under in
        let small : x * s ≤ 4294967295 * s = mul-le-mul_right s (omega arith) in
        omega (arith, wide, apart, scaled, small, add-mul (x * inverse) 1 s, one-mul s, moved-last (turns + 1) 4294967296 s, add-mul turns 1 s, h)

    whole : (x - turns * s) % s ≡ x % s
    whole =
        let parts : turns * s + (x - turns * s) ≡ x = omega (arith, low) in
        sym (mul-add-mod_self_right turns s (x - turns * s)) ∙ ap (λ (n : ℕ). n % s) parts

-- a quotient by an inverse rounded down, exact while t·s is below c
pub inverse-down : (t s c : ℕ) → 1 ≤ s → t * s < c → (t + 1) * ((c - 1) / s) / c ≡ t / s
inverse-down t s c h l = div-eq_of_lt-le c low high
  where
    i : ℕ
    i = (c - 1) / s

    u : ℕ
    u = t / s

    near : i * s ≤ c - 1
    near = div-mul-le_self (c - 1) s

    past : c ≤ s * (i + 1)
    past = omega (arith, lt-mul-div-succ (c - 1) {b = s} h)

    swapped : (x y z : ℕ) → x * y * z ≡ y * (x * z)
    swapped x y z = ap (λ (n : ℕ). n * z) (mul_comm x y) ∙ mul_assoc y x z

    next_multiple : t + 1 ≤ (u + 1) * s
    next_multiple = omega (arith, div-add-mod' t s, mod-lt t {m = s} h, add-mul u 1 s, one-mul s)

    high : (t + 1) * i < (u + 1) * c
    high =
        let first : (t + 1) * i ≤ (u + 1) * s * i = mul-le-mul_right i next_multiple in
        let second : (u + 1) * (s * i) ≤ (u + 1) * (c - 1) = mul-le-mul_left (u + 1) (omega (arith, near, mul_comm i s)) in
        let third : (u + 1) * (c - 1 + 1) ≡ (u + 1) * (c - 1) + (u + 1) * 1 = mul-add (u + 1) (c - 1) 1 in
        let whole : c - 1 + 1 ≡ c = omega arith in
        let same : (u + 1) * (c - 1 + 1) ≡ (u + 1) * c = ap (λ (n : ℕ). (u + 1) * n) whole in
        omega (arith, mul_assoc (u + 1) s i, mul-one (u + 1))

    low : u * c ≤ (t + 1) * i
    low = go (dec_le (u * c) ((t + 1) * i))
      where
        go : Dec (u * c ≤ (t + 1) * i) → u * c ≤ (t + 1) * i
        go (yes p) = p
        go (no f) =
            let short : (t + 1) * i + 1 ≤ u * c = omega arith in
            let times : s * ((t + 1) * i + 1) ≤ s * (u * c) = mul-le-mul_left s short in
            let under : u * s * c ≤ t * c = mul-le-mul_right c (div-mul-le_self t s) in
            let above : (t + 1) * c ≤ (t + 1) * (s * (i + 1)) = mul-le-mul_left (t + 1) past in
            let apart : (t + 1) * (s * (i + 1)) ≡ (t + 1) * (s * i) + (t + 1) * (s * 1) = ap (λ (n : ℕ). (t + 1) * n) (mul-add s i 1) ∙ mul-add (t + 1) (s * i) (s * 1) in
            let one : (t + 1) * (s * 1) ≡ t * s + s = ap (λ (n : ℕ). (t + 1) * n) (mul-one s) ∙ add-mul t 1 s ∙ ap (λ (n : ℕ). t * s + n) (one-mul s) in
            let spread : s * ((t + 1) * i + 1) ≡ s * ((t + 1) * i) + s = mul-add s ((t + 1) * i) 1 ∙ ap (λ (n : ℕ). s * ((t + 1) * i) + n) (mul-one s) in
            omega (arith, swapped u s c, swapped (t + 1) s i, mul_assoc (t + 1) s i, add-mul t 1 c, one-mul c)

-- quotient and remainder of a double
pub double_low : (c s : ℕ) → 1 ≤ s → 2 * (c % s) < s → (2 * c / s ≡ 2 * (c / s)) × (2 * c % s ≡ 2 * (c % s))
double_low c s h l =
    let e : 2 * c ≡ 2 * (c / s) * s + 2 * (c % s) = omega (arith, div-add-mod' c s, mul_assoc 2 (c / s) s) in
    (ap (λ (n : ℕ). n / s) e ∙ digits_div (2 * (c / s)) l, ap (λ (n : ℕ). n % s) e ∙ digits_mod (2 * (c / s)) l)

pub double_high : (c s : ℕ) → 1 ≤ s → s ≤ 2 * (c % s) → (2 * c / s ≡ 2 * (c / s) + 1) × (2 * c % s ≡ 2 * (c % s) - s)
double_high c s h l =
    let low : 2 * (c % s) - s < s = omega (arith, mod-lt c {m = s} h) in
    let e : 2 * c ≡ (2 * (c / s) + 1) * s + (2 * (c % s) - s) = omega (arith, div-add-mod' c s, mul_assoc 2 (c / s) s, add-mul (2 * (c / s)) 1 s, one-mul s) in
    (ap (λ (n : ℕ). n / s) e ∙ digits_div (2 * (c / s) + 1) low, ap (λ (n : ℕ). n % s) e ∙ digits_mod (2 * (c / s) + 1) low)

-- a remainder by one subtraction
pub mod_once : (n m : ℕ) → m ≤ n → n < 2 * m → n % m ≡ n - m
mod_once n m h l = mod-eq-sub-mod h ∙ mod-eq_of_lt (omega arith)

-- m div (n + 1) is the greatest number that times n + 1 is at most m
pub quotient-test : (x n : ℕ) → x ≤ modulus / (n + 1) → x * (n + 1) ≤ modulus
quotient-test x n h =
    let scaled : x * (n + 1) ≤ modulus / (n + 1) * (n + 1) = mul-le-mul_right (n + 1) h in
    omega (arith, div-mul-le_self modulus (n + 1))

pub quotient-over : (x n : ℕ) → modulus / (n + 1) < x → modulus < x * (n + 1)
quotient-over x n h =
    let scaled : suc (modulus / (n + 1)) * (n + 1) ≤ x * (n + 1) = mul-le-mul_right (n + 1) h in
    omega (arith, div-add-mod' modulus (n + 1), mod-lt modulus {m = n + 1} (omega arith), suc-mul (modulus / (n + 1)) (n + 1))
