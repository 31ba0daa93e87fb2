-- `homes::scalars::start` meets its contract: the remainder by a quotient that may be one too low.
use mathlib.Core.Path.{◌≡◌, ◌∙◌, ap}
use Prim.Native.Nat.{ℕ, ◌-◌, ◌*◌, ◌/◌, ◌%◌, ◌≤◌, ◌<◌}
use native.Mathlib.Nat.{mod-lt, mod-eq_of_lt, mul-le-mul}
use native.Mathlib.Omega.{arith}
use borrow.Author.Rules.{rules}
use Rattle.generator.specs.Generator.{modulus}
use Rattle.homes.proofs.Numbers.{Spread, spread-by}
use Rattle.homes.proofs.scalars.start.Goals as goal
use Rattle.homes.proofs.scalars.start.Goals.{After-settled-value, Start}

abbrev start : After-settled-value → Start
start c = c.before.before

abbrev value : After-settled-value → ℕ
value c = c.settled-value.result

value-below : (c : After-settled-value) → value c < modulus
value-below c = rw c.settled-value.ensures (mod-lt c.near.result {m = modulus} (omega arith))

abbrev quotient : After-settled-value → ℕ
quotient c = value c % 4294967296 * ((start c).args.inverse % 4294967296) / 4294967296

product-most : (c : After-settled-value) → value c % 4294967296 * ((start c).args.inverse % 4294967296) ≤ 4294967295 * 4294967295
product-most c =
    let narrow : value c % 4294967296 ≤ 4294967295 = omega arith in
    let inverse : (start c).args.inverse % 4294967296 ≤ 4294967295 = omega arith in
    mul-le-mul narrow inverse

spread : (c : After-settled-value) → Spread (value c) (start c).args.span (quotient c)
spread c =
    let s = start c in
    let narrow : value c % 4294967296 ≡ value c = mod-eq_of_lt (omega (arith, value-below c)) in
    let inverse : s.args.inverse % 4294967296 ≡ s.args.inverse = mod-eq_of_lt (omega (arith, s.ranges.inverse.fits)) in
    rw (narrow, inverse) (spread-by (value c) s.args.span s.args.inverse s.requires.le_span.0 (omega (arith, value-below c)) s.requires.le_span.1.1)

pub overflow_mul-turns : goal.overflow_mul-turns
overflow_mul-turns c = omega (arith, product-most c)

pub overflow_cast-turns-3 : goal.overflow_cast-turns-3
overflow_cast-turns-3 c = omega (arith, product-most c)

pub overflow_mul-turns-2 : goal.overflow_mul-turns-2
overflow_mul-turns-2 c = omega (arith, (spread c).least, value-below c)

pub overflow_sub-value : goal.overflow_sub-value
overflow_sub-value c = (spread c).least

pub overflow_cast-value : goal.overflow_cast-value
overflow_cast-value c = omega (arith, (spread c).most, (start c).requires.le_span.1.0)

pub reduced-requires : goal.reduced-requires
reduced-requires c = (spread c).most

pub returns : goal.returns
returns c =
    let at = c.before in
    let span = (start at).args.span in
    c.reduced.ensures
    ∙ (spread at).same
    ∙ ap (λ (n : ℕ). n % span) (at.settled-value.ensures ∙ at.near.ensures.0)
