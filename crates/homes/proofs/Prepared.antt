-- The laws of stages and sweeps, and what holds in each step of a valid growth state.
use mathlib.Core.Path.{◌≡◌, ◌∙◌, refl, sym, ap}
use mathlib.Core.Bool.{Bool, true, false}
use mathlib.Core.Logic.{inl, inr}
use Prim.Native.Nat.{ℕ, suc, ◌+◌, ◌-◌, ◌*◌, ◌/◌, ◌%◌, ◌^◌, ◌≤◌, ◌<◌}
use native.Mathlib.Nat.{zero-mod, add-zero, mul_assoc, mul_comm, pow-suc, mul-le-mul, mul-le-mul_left, le_trans, div-div-eq-div-mul, div-one, div-le_self, div-lt_self, div-le_of_le-mul}
use native.Mathlib.Decide.{dec_le}
use native.Mathlib.Numerals.{add-one}
use native.Mathlib.Omega.{arith}
use lib.Dec.{leb}
use lib.ListN.{get_or}
use lib.Pow.{pow_mono}
use borrow.Author.Tests.{leb-true, leb-false}
use Rattle.hashing.specs.declared.Parameters.{Parameters}
use Rattle.hashing.specs.declared.Growth.{Growth}
use Rattle.generator.specs.Generator.{modulus}
use Rattle.generator.specs.Shape.{power, first_multipliers_lem}
use Rattle.hashing.specs.Geometry.{multiplier_of, size_at, count_at_lem}
use Rattle.hashing.specs.Limits.{valid_parameters, valid_growth}
use Rattle.generator.proofs.Numbers.{next, Next, div_mono}
use Rattle.hashing.proofs.Bounds.{Limits, limits, growth_within, spread, size-most, size-least, count-least}
use Rattle.generator.proofs.Powers.{entry}
use Rattle.homes.specs.declared.stages.Stage.{Stage}
use Rattle.homes.specs.declared.stages.Sweep.{Sweep}
use Rattle.homes.specs.declared.stages.Test.{Test}
use Rattle.homes.specs.Stages.{stage_at, sweep_by_lem, sweep_of, limit_at, test_at, Rankable}
use Rattle.homes.proofs.Numbers.{inverse-down}

-- sweeps

pub sweep_step : (s : ℕ) → (sweep_of s).step ≡ s
unfolding sweep_of sweep_by_lem
sweep_step s = go (leb s 64)
  where
    go : (t : Bool) → (sweep_by_lem t s).step ≡ s
    go true = refl
    go false = refl

pub sweep_shift : (s : ℕ) → (sweep_of s).shift ≤ 2
unfolding sweep_of sweep_by_lem
sweep_shift s = go (leb s 64)
  where
    go : (t : Bool) → (sweep_by_lem t s).shift ≤ 2
    go true = omega arith
    go false = omega arith

-- the inverse of a step above 64 fits 16 bits too
pub long-inverse : (s : ℕ) → 64 < s → 262143 / s ≤ 65535
long-inverse s h = div-le_of_le-mul s {m = 262143} {n = 65535} (omega arith)

pub sweep_inverse : (s : ℕ) → 1 ≤ s → (sweep_of s).inverse ≤ 65535
unfolding sweep_of sweep_by_lem
sweep_inverse s h = go (leb s 64) refl
  where
    go : (t : Bool) → leb s 64 ≡ t → (sweep_by_lem t s).inverse ≤ 65535
    go true e = div-le_self 65535 s
    go false e = long-inverse s (leb-false s 64 e)

pub sweep_quotient : (s t : ℕ) → 1 ≤ s → s ≤ 256 → t < 1024 → (t + 1) * (sweep_of s).inverse / 65536 / 2 ^ (sweep_of s).shift ≡ t / s
unfolding sweep_of sweep_by_lem
sweep_quotient s t h l b = go (leb s 64) refl
  where
    go : (u : Bool) → leb s 64 ≡ u → (t + 1) * (sweep_by_lem u s).inverse / 65536 / 2 ^ (sweep_by_lem u s).shift ≡ t / s
    go true e =
        let low : t ≤ 1023 = omega arith in
        let most : s ≤ 64 = leb-true s 64 e in
        let small : t * s ≤ 1023 * 64 = mul-le-mul low most in
        div-one ((t + 1) * (65535 / s) / 65536) ∙ inverse-down t s 65536 h (omega arith)
    go false e =
        let low : t ≤ 1023 = omega arith in
        let small : t * s ≤ 1023 * 256 = mul-le-mul low l in
        div-div-eq-div-mul ((t + 1) * (262143 / s)) 65536 4 ∙ inverse-down t s 262144 h (omega arith)

-- stages

pub size-start : (p : Parameters) → size_at p 0 ≡ p.width
unfolding size_at
size-start p = rw (zero-mod p.width) (add-zero p.width)

pub grown-size : (p : Parameters) (i : ℕ) → Limits p → size_at p i + 1 < 2 * p.width → (size_at p (i + 1) ≡ size_at p i + 1) × (count_at_lem p (i + 1) ≡ count_at_lem p i)
unfolding size_at count_at_lem
grown-size p i l h = rw (add-one i) (go (next p.width i l.width_least))
  where
    go : Next p.width i → (p.width + suc i % p.width ≡ p.width + i % p.width + 1) × (p.groups * 2 ^ (suc i / p.width) ≡ p.groups * 2 ^ (i / p.width))
    go (inl (t, m, d)) = (rw m (omega arith), rw d)
    go (inr (t, m, d)) = absurd (omega arith)

pub doubled_count : (p : Parameters) (i : ℕ) → Limits p → 2 * p.width ≤ size_at p i + 1 → (size_at p (i + 1) ≡ p.width) × (count_at_lem p (i + 1) ≡ 2 * count_at_lem p i)
unfolding size_at count_at_lem
doubled_count p i l h = rw (add-one i) (go (next p.width i l.width_least))
  where
    go : Next p.width i → (p.width + suc i % p.width ≡ p.width) × (p.groups * 2 ^ (suc i / p.width) ≡ 2 * (p.groups * 2 ^ (i / p.width)))
    go (inl (t, m, d)) = absurd (omega arith)
    go (inr (t, m, d)) = (rw m (add-zero p.width), rw (d, pow-suc 2 (i / p.width), ← mul_assoc p.groups (2 ^ (i / p.width)) 2) (mul_comm (p.groups * 2 ^ (i / p.width)) 2))

-- fields of a stage
module _ (p : Parameters) (i : ℕ) (stage : Stage) where
  pub stage_size : stage ≡ stage_at p i → stage.size ≡ size_at p i
  unfolding stage_at
  stage_size e = ap (λ (t : Stage). t.size) e

  pub stage_count : stage ≡ stage_at p i → stage.count ≡ count_at_lem p i
  unfolding stage_at
  stage_count e = ap (λ (t : Stage). t.count) e

  -- the next stage
  pub stage_grown :
      Limits p → stage ≡ stage_at p i → stage.size + 1 < 2 * p.width →
      ◌≡◌ {A = Stage} (record { size = stage.size + 1; count = stage.count; part = stage.part; rest = stage.rest }) (stage_at p (i + 1))
  unfolding stage_at
  stage_grown l e h =
      let grown = grown-size p i l (omega (arith, stage_size e)) in
      rw (e, grown.0, grown.1)

  pub stage_doubled :
      Limits p → stage ≡ stage_at p i → 2 * p.width ≤ stage.size + 1 →
      ◌≡◌ {A = Stage} (record { size = p.width; count = 2 * stage.count; part = 2 * stage.count / p.step; rest = 2 * stage.count % p.step }) (stage_at p (i + 1))
  unfolding stage_at
  stage_doubled l e h =
      let doubled = doubled_count p i l (omega (arith, stage_size e)) in
      rw (e, doubled.0, doubled.1)

-- fields of a test
module _ (p : Parameters) (g : Growth) (i : ℕ) (test : Test) (e : test ≡ test_at p g i) where
  pub test-factor : test.factor ≡ power (multiplier_of p) (2 * suc i)
  unfolding test_at
  test-factor = ap (λ (t : Test). t.factor) e

  pub test-most : test.most ≡ modulus / (size_at p i + 1)
  unfolding test_at
  test-most = ap (λ (t : Test). t.most) e

  pub test-limit : test.limit ≡ limit_at p g i
  unfolding test_at
  test-limit = ap (λ (t : Test). t.limit) e

-- the groups stay where their size does not start again
pub count_kept : (p : Parameters) (i : ℕ) → Limits p → (size_at p (i + 1) ≡ p.width → ⊥) → count_at_lem p (i + 1) ≡ count_at_lem p i
count_kept p i l f = go (dec_le (2 * p.width) (size_at p i + 1))
  where
    go : Dec (2 * p.width ≤ size_at p i + 1) → count_at_lem p (i + 1) ≡ count_at_lem p i
    go (yes h) = absurd (f (doubled_count p i l h).0)
    go (no h) = (grown-size p i l (omega arith)).1

-- what the steps of a valid growth state keep to

pub count-rises : (p : Parameters) (i e : ℕ) → i ≤ e → count_at_lem p i ≤ count_at_lem p e
unfolding count_at_lem
count-rises p i e h = mul-le-mul_left p.groups (pow_mono (div_mono p.width h))

pub record Steady (p : Parameters) (i : ℕ) : Type 0 where
  pub count_low : 1 ≤ count_at_lem p i
  pub count_step : p.step ≤ count_at_lem p i
  pub count_high : count_at_lem p i ≤ 1024
  pub size_low : 1 ≤ size_at p i
  pub size_high : size_at p i ≤ 7
  pub index_high : i ≤ 43

pub steady : (p : Parameters) (g : Growth) (i : ℕ) → valid_parameters p ≡ true → valid_growth p g ≡ true → i ≤ g.expansions → Steady p i
steady p g i v w h =
    let l = limits p v in
    let s = spread p g l (growth_within p g w) in
    let least : p.groups ≤ count_at_lem p i = count-least p i in
    let most : count_at_lem p i ≤ count_at_lem p g.expansions = count-rises p i g.expansions h in
    record {
      count_low = omega (arith, l.groups_least);
      count_step = omega (arith, l.step_most);
      count_high = omega (arith, s.count_high);
      size_low = omega (arith, size-least p i, l.width_least);
      size_high = size-most p i l;
      index_high = omega (arith, s.expansions_most);
    }

pub expanded-most : (p : Parameters) (g : Growth) → valid_parameters p ≡ true → valid_growth p g ≡ true → g.expanded ≤ 1024
expanded-most p g v w =
    let inside = growth_within p g w in
    omega (arith, inside.expanded_below, (spread p g (limits p v) inside).count_high)

pub most-below : (n : ℕ) → 1 ≤ n → modulus / (n + 1) < modulus
most-below n h = div-lt_self {n = modulus} {k = n + 1} (omega arith) (omega arith)

pub ready : (p : Parameters) (i : ℕ) (sweep : Sweep) (stage : Stage) → Limits p → Steady p i → sweep ≡ sweep_of p.step → stage ≡ stage_at p i → Rankable sweep stage
unfolding stage_at
ready p i sweep stage l s e f =
    let step : sweep.step ≡ p.step = ap (λ (t : Sweep). t.step) e ∙ sweep_step p.step in
    let count : stage.count ≡ count_at_lem p i = ap (λ (t : Stage). t.count) f in
    let size : stage.size ≡ size_at p i = ap (λ (t : Stage). t.size) f in
    record {
      sweep_is = e ∙ ap sweep_of (sym step);
      step_least = rw step l.step_least;
      step_most = rw step (le_trans l.step_most l.groups_most);
      step_count = rw (step, count) s.count_step;
      count_most = rw count s.count_high;
      size-least = rw size s.size_low;
      size-most = rw size s.size_high;
      part-is = rw (step, count) (ap (λ (t : Stage). t.part) f);
      rest-is = rw (step, count) (ap (λ (t : Stage). t.rest) f);
    }

-- the multiplier of step i + 1
pub factor_is : (a i : ℕ) → i ≤ 43 → get_or (first_multipliers_lem a) (2 * i + 1) 0 ≡ power a (2 * suc i)
unfolding first_multipliers_lem
factor_is a i h =
    let e : 2 * i + 1 ≡ 2 * suc i - 1 = omega arith in
    rw e (entry a 90 (2 * suc i) (omega arith) (omega arith))

pub first-factor : (a : ℕ) → get_or (first_multipliers_lem a) 0 0 ≡ power a 1
unfolding first_multipliers_lem
first-factor a = entry a 90 1 (omega arith) (omega arith)
