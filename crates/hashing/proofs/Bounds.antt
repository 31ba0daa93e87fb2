-- What valid parameters and a valid growth state say, as bounds, both ways.
use mathlib.Core.Path.{◌≡◌, ◌∙◌, refl, sym}
use mathlib.Core.Bool.{Bool, true, false, not, ◌&&◌, false≢true}
use Prim.Native.Nat.{ℕ, ◌+◌, ◌*◌, ◌/◌, ◌%◌, ◌^◌, ◌≤◌, ◌<◌}
use native.Mathlib.Nat.{mod-lt, mul-le-mul, mul-le-mul_left, mul-le-mul_right, mul-one, one-mul, div-add-mod}
use native.Mathlib.Decide.{dec_le}
use native.Mathlib.Omega.{arith}
use lib.Dec.{leb, ltb}
use lib.Pow.{pow_pos, pow_mono}
use borrow.Author.Tests.{not-true, not-false, leb-true, ltb-true, le-leb, lt-ltb}
use Rattle.hashing.specs.declared.Parameters.{Parameters}
use Rattle.hashing.specs.declared.Growth.{Growth}
use Rattle.hashing.specs.Geometry.{size_at, count_at_lem, group_size_lem, group_count_lem, page_count}
use Rattle.hashing.specs.Limits.{within, valid_parameters, valid_growth}
use Rattle.generator.specs.Generator.{valid_multiplier}

pub record Limits (p : Parameters) : Type 0 where
  pub places_least : 1 ≤ p.places
  pub places_most : p.places ≤ 32
  pub groups_least : 1 ≤ p.groups
  pub groups_most : p.groups ≤ 256
  pub width_least : 1 ≤ p.width
  pub width_most : p.width ≤ 4
  pub step_least : 1 ≤ p.step
  pub step_most : p.step ≤ p.groups
  pub bits_least : 1 ≤ p.bits
  pub bits_most : p.bits ≤ 8
  pub load_least : 1 ≤ p.load
  pub load_most : p.load ≤ 99
  pub pages_least : p.width * p.groups ≤ p.pages
  pub pages_most : p.pages ≤ 1024
  pub multiplier_valid : valid_multiplier p.multiplier ≡ true

pub record Within (p : Parameters) (g : Growth) : Type 0 where
  pub expanded_below : g.expanded < group_count_lem p g
  pub pages_fit : page_count p g ≤ p.pages

pub both : (a b : Bool) → a && b ≡ true → (a ≡ true) × (b ≡ true)
both true b e = (refl, e)
both false b e = (e, absurd (false≢true e))

-- a test in code, and its negation
pub failed : (r t : Bool) → r ≡ t → not r ≡ true → t ≡ false
failed r t e n = sym e ∙ not-true r n

pub passed : (r t : Bool) → r ≡ t → not r ≡ false → t ≡ true
passed r t e n = sym e ∙ not-false r n

refused : (t : Bool) → (t ≡ true → ⊥) → t ≡ false
refused true f = absurd (f refl)
refused false f = refl

pub within-bounds : (low n high : ℕ) → within low n high ≡ true → (low ≤ n) × (n ≤ high)
unfolding within
within-bounds low n high e =
    let t = both (leb low n) (leb n high) e in
    (leb-true low n t.0, leb-true n high t.1)

pub bounds-within : (low n high : ℕ) → low ≤ n → n ≤ high → within low n high ≡ true
unfolding within
bounds-within low n high l h = rw (le-leb low n l, le-leb n high h)

pub limits : (p : Parameters) → valid_parameters p ≡ true → Limits p
unfolding valid_parameters
limits p e =
    let places = both (within 1 p.places 32) _ e in
    let groups = both (within 1 p.groups 256) _ places.1 in
    let width = both (within 1 p.width 4) _ groups.1 in
    let step = both (within 1 p.step p.groups) _ width.1 in
    let bits = both (within 1 p.bits 8) _ step.1 in
    let load = both (within 1 p.load 99) _ bits.1 in
    let pages = both (within (p.width * p.groups) p.pages 1024) _ load.1 in
    record {
      places_least = (within-bounds _ _ _ places.0).0;
      places_most = (within-bounds _ _ _ places.0).1;
      groups_least = (within-bounds _ _ _ groups.0).0;
      groups_most = (within-bounds _ _ _ groups.0).1;
      width_least = (within-bounds _ _ _ width.0).0;
      width_most = (within-bounds _ _ _ width.0).1;
      step_least = (within-bounds _ _ _ step.0).0;
      step_most = (within-bounds _ _ _ step.0).1;
      bits_least = (within-bounds _ _ _ bits.0).0;
      bits_most = (within-bounds _ _ _ bits.0).1;
      load_least = (within-bounds _ _ _ load.0).0;
      load_most = (within-bounds _ _ _ load.0).1;
      pages_least = (within-bounds _ _ _ pages.0).0;
      pages_most = (within-bounds _ _ _ pages.0).1;
      multiplier_valid = pages.1;
    }

pub limits-valid : (p : Parameters) → Limits p → valid_parameters p ≡ true
unfolding valid_parameters
limits-valid p l =
    rw (
      bounds-within 1 p.places 32 l.places_least l.places_most,
      bounds-within 1 p.groups 256 l.groups_least l.groups_most,
      bounds-within 1 p.width 4 l.width_least l.width_most,
      bounds-within 1 p.step p.groups l.step_least l.step_most,
      bounds-within 1 p.bits 8 l.bits_least l.bits_most,
      bounds-within 1 p.load 99 l.load_least l.load_most,
      bounds-within (p.width * p.groups) p.pages 1024 l.pages_least l.pages_most,
      l.multiplier_valid,
    )

pub growth_within : (p : Parameters) (g : Growth) → valid_growth p g ≡ true → Within p g
unfolding valid_growth
growth_within p g e =
    let t = both (ltb g.expanded (group_count_lem p g)) (leb (page_count p g) p.pages) e in
    record { expanded_below = ltb-true _ _ t.0; pages_fit = leb-true _ _ t.1 }

pub within-valid : (p : Parameters) (g : Growth) → Within p g → valid_growth p g ≡ true
unfolding valid_growth
within-valid p g w = rw (lt-ltb _ _ w.expanded_below, le-leb _ _ w.pages_fit)

-- group size and group count after e partial expansions
pub size-least : (p : Parameters) (e : ℕ) → p.width ≤ size_at p e
unfolding size_at
size-least p e = omega arith

pub size-most : (p : Parameters) (e : ℕ) → Limits p → size_at p e ≤ 7
unfolding size_at
size-most p e l = omega (arith, mod-lt e {m = p.width} l.width_least)

pub count-least : (p : Parameters) (e : ℕ) → p.groups ≤ count_at_lem p e
unfolding count_at_lem
count-least p e = omega (arith, mul-le-mul_left p.groups (pow_pos (e / p.width)), mul-one p.groups)

doubled_most : (groups d : ℕ) → groups ≤ 256 → d ≤ 10 → groups * 2 ^ d ≤ 262144
doubled_most groups d h l = mul-le-mul {n₂ = 256} {m₂ = 2 ^ 10} h (pow_mono l)

pub count_most : (p : Parameters) (e : ℕ) → Limits p → e / p.width ≤ 10 → count_at_lem p e ≤ 262144
unfolding count_at_lem
count_most p e l h = doubled_most p.groups (e / p.width) l.groups_most h

-- what the code needs of a valid growth state
pub record Spread (p : Parameters) (g : Growth) : Type 0 where
  pub doublings : g.expansions / p.width ≤ 10
  pub expansions_most : g.expansions ≤ 32
  pub size_low : 1 ≤ group_size_lem p g
  pub size_high : group_size_lem p g ≤ 7
  pub count_low : p.groups ≤ group_count_lem p g
  pub count_high : group_count_lem p g ≤ 1024
  pub pages_low : 1 ≤ page_count p g

pages-count : (p : Parameters) (g : Growth) → Limits p → group_count_lem p g ≤ page_count p g
unfolding page_count
pages-count p g l =
    let least : p.width ≤ size_at p g.expansions = size-least p g.expansions in
    let one : 1 ≤ size_at p g.expansions = omega (arith, l.width_least) in
    omega (arith, mul-le-mul_right (group_count_lem p g) one, one-mul (group_count_lem p g))

pub few-doublings : (groups d : ℕ) → 1 ≤ groups → groups * 2 ^ d ≤ 1024 → d ≤ 10
few-doublings groups d h l = go (dec_le d 10)
  where
    go : Dec (d ≤ 10) → d ≤ 10
    go (yes p) = p
    go (no f) =
        let big : 2 ^ 11 ≤ 2 ^ d = pow_mono {i = 11} {j = d} (omega arith) in
        let more : 1 * 2 ^ d ≤ groups * 2 ^ d = mul-le-mul_right (2 ^ d) h in
        omega (arith, one-mul (2 ^ d))

-- e = n0·d + r, with (n0 + r)·2^d pages at least
few-steps : (w d r : ℕ) → w ≤ 4 → r < w → (w + r) * 2 ^ d ≤ 1024 → w * d + r ≤ 32
few-steps w d r hw hr h = go (dec_le d 7) (dec_le d 8)
  where
    go : Dec (d ≤ 7) → Dec (d ≤ 8) → w * d + r ≤ 32
    go (yes p) q = omega (arith, mul-le-mul {n₂ = 4} {m₂ = 7} hw p)
    go (no f) (yes q) =
        let eight : d ≡ 8 = omega arith in
        let small : (w + r) * 2 ^ 8 ≤ 1024 = rw eight at h in
        rw eight (omega arith)
    go (no f) (no q) =
        let more : (w + r) * 2 ^ 9 ≤ (w + r) * 2 ^ d = mul-le-mul_left (w + r) (pow_mono {i = 9} {j = d} (omega arith)) in
        let two : w ≤ 2 = omega arith in
        omega (arith, mul-le-mul {n₂ = 2} {m₂ = 10} two (few-doublings (w + r) d (omega arith) h))

few-expansions : (p : Parameters) (g : Growth) → Limits p → Within p g → g.expansions ≤ 32
unfolding size_at count_at_lem page_count
few-expansions p g l w =
    let d = g.expansions / p.width in
    let r = g.expansions % p.width in
    let once : 1 * 2 ^ d ≤ p.groups * 2 ^ d = mul-le-mul_right (2 ^ d) l.groups_least in
    let span : (p.width + r) * (1 * 2 ^ d) ≤ (p.width + r) * (p.groups * 2 ^ d) = mul-le-mul_left (p.width + r) once in
    let fits : (p.width + r) * 2 ^ d ≤ 1024 = omega (arith, rw (one-mul (2 ^ d)) at span, l.pages_most, w.pages_fit) in
    omega (arith, div-add-mod g.expansions p.width, few-steps p.width d r l.width_most (mod-lt g.expansions {m = p.width} l.width_least) fits)

pub spread : (p : Parameters) (g : Growth) → Limits p → Within p g → Spread p g
unfolding count_at_lem
spread p g l w =
    let least : p.width ≤ size_at p g.expansions = size-least p g.expansions in
    let count : group_count_lem p g ≤ page_count p g = pages-count p g l in
    let high : group_count_lem p g ≤ 1024 = omega (arith, l.pages_most, w.pages_fit) in
    let low : p.groups ≤ group_count_lem p g = count-least p g.expansions in
    let few : g.expansions / p.width ≤ 10 = few-doublings p.groups (g.expansions / p.width) l.groups_least high in
    record {
      doublings = few;
      expansions_most = few-expansions p g l w;
      size_low = omega (arith, l.width_least);
      size_high = size-most p g.expansions l;
      count_low = low;
      count_high = high;
      pages_low = omega (arith, l.groups_least);
    }

pub many_doublings : (p : Parameters) (g : Growth) → Limits p → 10 < g.expansions / p.width → valid_growth p g ≡ false
many_doublings p g l h = refused (valid_growth p g) (λ e. omega (arith, (spread p g l (growth_within p g e)).doublings))
