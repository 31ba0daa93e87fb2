-- The laws of ranks, homes and growth, for any multiplier.
use mathlib.Core.Path.{◌≡◌, refl}
use mathlib.Core.Bool.{Bool, true, false, ◌&&◌, cond, and-true}
use mathlib.Core.Logic.{inl, inr}
use Prim.Native.Nat.{ℕ, zero, suc, ◌+◌, ◌-◌, ◌*◌, ◌/◌, ◌%◌, ◌^◌, ◌≤◌, ◌<◌}
use native.Mathlib.Nat.{mod-lt, add-mul, mul-add, one-mul, mul-one, two-pow-succ, div-add-mod, zero-mod, zero-div, pow-zero, add-zero, zero-add, suc-add, le_refl, mul-le-mul, mul-le-mul_right}
use native.Mathlib.Numerals.{add-one}
use native.Mathlib.Omega.{arith}
use lib.Dec.{ltb, eqb}
use borrow.Author.Tests.{ltb-true, eqb-true, eqb-false, le-leb, lt-leb}
use Rattle.hashing.specs.declared.Parameters.{Parameters}
use Rattle.hashing.specs.declared.Growth.{Growth}
use Rattle.generator.specs.Generator.{scrambled}
use Rattle.hashing.specs.Geometry.{size_at, count_at_lem, group_size_lem, group_count_lem, page_count, highest, grown, grown_by_lem, ungrown, rank, swept}
use Rattle.hashing.specs.Limits.{valid_parameters, valid_growth}
use Rattle.hashing.specs.Home.{rank_at, chosen, expanded_at, moved_if, step_from, after_steps, home}
use Rattle.generator.proofs.Numbers.{next, Next, sweep_below}
use Rattle.hashing.proofs.Bounds.{Limits, Within, limits, growth_within, within-valid, size-least, count-least, both}

-- ranks

pub swept-below : (step count t : ℕ) → 1 ≤ step → t < count → swept step count t < count
unfolding swept
swept-below step count t s h =
    omega (
      arith,
      sweep_below step (count / step) (count % step) (t / step) (t % step)
          (mod-lt count s)
          (mod-lt t s)
          (omega (arith, div-add-mod count step, div-add-mod t step)),
      div-add-mod count step,
    )

pub rank_below : (step count group : ℕ) → group < count → 1 ≤ step → step ≤ count → rank step count group < count
unfolding rank
rank_below step count group h s l = swept-below step count (count - 1 - group) s (omega arith)

-- the pages after one more partial expansion
pub span-next : (p : Parameters) (i : ℕ) → 1 ≤ p.width → size_at p (suc i) * count_at_lem p (suc i) ≡ (size_at p i + 1) * count_at_lem p i
unfolding size_at count_at_lem
span-next p i h = go (next p.width i h)
  where
    go :
        Next p.width i →
        (p.width + suc i % p.width) * (p.groups * 2 ^ (suc i / p.width)) ≡ (p.width + i % p.width + 1) * (p.groups * 2 ^ (i / p.width))
    go (inl (t, m, d)) =
        let e : p.width + suc (i % p.width) ≡ p.width + i % p.width + 1 = omega arith in
        rw (m, d, e)
    go (inr (t, m, d)) =
        let e : p.width + i % p.width + 1 ≡ p.width + p.width = omega arith in
        let c = p.groups * 2 ^ (i / p.width) in
        rw (m, d, e, two-pow-succ (i / p.width), mul-add p.groups (2 ^ (i / p.width)) (2 ^ (i / p.width)), add-zero p.width, mul-add p.width c c, add-mul p.width p.width c)

span-up : (p : Parameters) → 1 ≤ p.width → (i d : ℕ) → size_at p i * count_at_lem p i ≤ size_at p (d + i) * count_at_lem p (d + i)
span-up p h i zero = rw (zero-add i) (le_refl (size_at p i * count_at_lem p i))
span-up p h i (suc d) =
    rw (suc-add d i, span-next p (d + i) h, add-mul (size_at p (d + i)) 1 (count_at_lem p (d + i)), one-mul (count_at_lem p (d + i)))
    (omega (arith, span-up p h i d))

-- neither n·G nor G passes M in a step up to the present one

pub span-most : (p : Parameters) (g : Growth) (i : ℕ) → Limits p → Within p g → i ≤ g.expansions → size_at p i * count_at_lem p i ≤ p.pages
unfolding page_count
span-most p g i l w h =
    let parts : g.expansions ≡ g.expansions - i + i = omega arith in
    let up : size_at p i * count_at_lem p i ≤ group_size_lem p g * group_count_lem p g = rw parts (span-up p l.width_least i (g.expansions - i)) in
    omega (arith, w.pages_fit)

pub count_fits : (p : Parameters) (g : Growth) (i : ℕ) → Limits p → Within p g → i ≤ g.expansions → count_at_lem p i ≤ p.pages
count_fits p g i l w h =
    let one : 1 ≤ size_at p i = omega (arith, size-least p i, l.width_least) in
    omega (arith, span-most p g i l w h, mul-le-mul_right (count_at_lem p i) one, one-mul (count_at_lem p i))

cond_below : (t : Bool) (x y n : ℕ) → x < n → y < n → cond t x y < n
cond_below true x y n hx hy = hx
cond_below false x y n hx hy = hy

-- steps

pub rank-at-below : (p : Parameters) → Limits p → (i page : ℕ) → rank_at p i page < count_at_lem p i
unfolding rank_at
rank-at-below p l i page =
    let low : p.groups ≤ count_at_lem p i = count-least p i in
    rank_below p.step (count_at_lem p i) (page % count_at_lem p i)
    (mod-lt page {m = count_at_lem p i} (omega (arith, l.groups_least)))
    l.step_least
    (omega (arith, l.step_most))

moved-below :
    (p : Parameters) → Limits p → (i page : ℕ) (t : Bool) → page < size_at p i * count_at_lem p i →
    moved_if p i page t < size_at p (suc i) * count_at_lem p (suc i)
moved-below p l i page t h =
    rw (span-next p i l.width_least, add-mul (size_at p i) 1 (count_at_lem p i), one-mul (count_at_lem p i))
    (cond_below t (size_at p i * count_at_lem p i + rank_at p i page) page (size_at p i * count_at_lem p i + count_at_lem p i)
    (omega (arith, rank-at-below p l i page))
    (omega arith))

pub steps_below : (a : ℕ) (p : Parameters) → Limits p → (g : Growth) (k i : ℕ) → after_steps a p g k i < size_at p i * count_at_lem p i
unfolding after_steps step_from size_at count_at_lem
steps_below a p l g k zero =
    rw (zero-mod p.width, zero-div p.width, pow-zero 2, mul-one p.groups, add-zero p.width)
    (mod-lt (scrambled a 1 k) {m = p.width * p.groups} (omega (arith, mul-le-mul l.width_least l.groups_least)))
steps_below a p l g k (suc i) =
    moved-below p l i (after_steps a p g k i) (chosen a p k i && expanded_at p g i (after_steps a p g k i)) (steps_below a p l g k i)

pub step-over : (a : ℕ) (p : Parameters) (g : Growth) (k i page : ℕ) → i < g.expansions → step_from a p g k i page ≡ moved_if p i page (chosen a p k i)
unfolding step_from expanded_at
step-over a p g k i page h = rw (le-leb (suc i) g.expansions h, and-true (chosen a p k i))

pub steps_one : (a : ℕ) (p : Parameters) (g : Growth) (k i : ℕ) → after_steps a p g k (i + 1) ≡ step_from a p g k i (after_steps a p g k i)
unfolding after_steps
steps_one a p g k i = rw (add-one i)

-- homes

-- the home where the present partial expansion has reached x groups
abbrev pub home_at : ℕ → Parameters → Growth → ℕ → ℕ → ℕ
home_at a p g k x =
    moved_if p g.expansions (after_steps a p g k g.expansions)
    (chosen a p k g.expansions && ltb (rank_at p g.expansions (after_steps a p g k g.expansions)) x)

pub home-is : (a : ℕ) (p : Parameters) (g : Growth) (k : ℕ) → home a p g k ≡ home_at a p g k g.expanded
unfolding home after_steps step_from expanded_at
home-is a p g k = rw (add-one g.expansions, lt-leb (suc g.expansions) g.expansions (omega arith))

cond_cases : (t : Bool) (x y n : ℕ) → (t ≡ true → x < n) → y < n → cond t x y < n
cond_cases true x y n hx hy = hx refl
cond_cases false x y n hx hy = hy

pub home_below : (a : ℕ) (p : Parameters) (g : Growth) (k : ℕ) → valid_parameters p ≡ true → home a p g k < page_count p g
unfolding page_count
home_below a p g k v =
    let l = limits p v in
    let page = after_steps a p g k g.expansions in
    let low : page < group_size_lem p g * group_count_lem p g = steps_below a p l g k g.expansions in
    let reached = ltb (rank_at p g.expansions page) g.expanded in
    rw (home-is a p g k)
    (cond_cases (chosen a p k g.expansions && reached) _ page _
    (λ e. omega (arith, ltb-true (rank_at p g.expansions page) g.expanded (both (chosen a p k g.expansions) reached e).1))
    (omega arith))

pub home-highest : (a : ℕ) (p : Parameters) (g : Growth) (k : ℕ) → valid_parameters p ≡ true → home a p g k ≤ highest p g
unfolding highest
home-highest a p g k v = omega (arith, home_below a p g k v)

pub home-pages : (a : ℕ) (p : Parameters) (g : Growth) (k : ℕ) → valid_parameters p ≡ true → valid_growth p g ≡ true → home a p g k < p.pages
home-pages a p g k v w = omega (arith, home_below a p g k v, (growth_within p g w).pages_fit)

-- growth

start-size : (p : Parameters) → size_at p 0 ≡ p.width
unfolding size_at
start-size p = rw (zero-mod p.width) (add-zero p.width)

pub start-count : (p : Parameters) → count_at_lem p 0 ≡ p.groups
unfolding count_at_lem
start-count p = rw (zero-div p.width) (mul-one p.groups)

pub start-valid : (p : Parameters) → valid_parameters p ≡ true → valid_growth p ungrown ≡ true
unfolding page_count
start-valid p v =
    let l = limits p v in
    within-valid p ungrown
    (record {
      expanded_below = rw (start-count p) l.groups_least;
      pages_fit = rw (start-size p, start-count p, add-zero (p.width * p.groups)) l.pages_least;
    })

pub grown-count : (p : Parameters) (g : Growth) → valid_parameters p ≡ true → page_count p (grown p g) ≡ page_count p g + 1
unfolding page_count grown grown_by_lem
grown-count p g v = go (eqb (g.expanded + 1) (group_count_lem p g)) refl
  where
    go :
        (t : Bool) → eqb (g.expanded + 1) (group_count_lem p g) ≡ t →
        group_size_lem p (grown_by_lem t g) * group_count_lem p (grown_by_lem t g) + (grown_by_lem t g).expanded ≡ group_size_lem p g * group_count_lem p g + g.expanded + 1
    go true e =
        rw (add-one g.expansions, span-next p g.expansions (limits p v).width_least, add-mul (group_size_lem p g) 1 (group_count_lem p g), one-mul (group_count_lem p g))
        (omega (arith, eqb-true (g.expanded + 1) (group_count_lem p g) e))
    go false e = omega arith

pub grown-valid :
    (p : Parameters) (g : Growth) → valid_parameters p ≡ true → valid_growth p g ≡ true → page_count p g < p.pages →
    valid_growth p (grown p g) ≡ true
unfolding grown grown_by_lem
grown-valid p g v w h =
    within-valid p (grown p g)
    (record { expanded_below = go (eqb (g.expanded + 1) (group_count_lem p g)) refl; pages_fit = omega (arith, grown-count p g v) })
  where
    go : (t : Bool) → eqb (g.expanded + 1) (group_count_lem p g) ≡ t → (grown_by_lem t g).expanded < group_count_lem p (grown_by_lem t g)
    go true e = omega (arith, count-least p (g.expansions + 1), (limits p v).groups_least)
    go false e = omega (arith, eqb-false (g.expanded + 1) (group_count_lem p g) e, (growth_within p g w).expanded_below)
