-- Tests over a range of pages: none passes, the page that ends a stretch, and the last that passes below another.
use mathlib.Core.Path.{◌≡◌, refl, sym, ◌∙◌}
use mathlib.Core.Bool.{Bool, true, false, true≢false}
use mathlib.Core.Logic.{◌⊎◌, inl, inr}
use Prim.Native.Nat.{ℕ, zero, suc, ◌+◌, ◌-◌, ◌≤◌, ◌<◌}
use native.Mathlib.Nat.{le_refl}
use native.Mathlib.Decide.{dec_lt}
use native.Mathlib.Omega.{arith}
use lib.Dec.{eqb}
use borrow.Author.Tests.{eqb-false}
use Rattle.buffers.proofs.Tests.{either-false}
use Rattle.hashing.specs.declared.Parameters.{Parameters}
use Rattle.hashing.specs.declared.Growth.{Growth}
use Rattle.hashing.specs.Geometry.{page_count, highest}
use Rattle.hashing.specs.Limits.{valid_parameters, valid_growth}
use Rattle.hashing.proofs.Bounds.{bounds-within, limits, growth_within, spread}
use Rattle.reach.specs.Reach.{first_such}
use Rattle.reach.proofs.Search.{Such, such}
use Rattle.backup.specs.Stretches.{end_from, in_stretch, any_below}

-- One that passes is not overlooked.
pub any_none : (test : ℕ → Bool) (n : ℕ) → any_below test n ≡ false → (q : ℕ) → q < n → test q ≡ false
unfolding any_below
any_none test zero e q h = absurd (omega arith)
any_none test (suc n) e q h = go (dec_lt q n) (any_none test n parts.0 q)
  where
    parts : (any_below test n ≡ false) × (test n ≡ false)
    parts = either-false (any_below test n) (test n) e

    go : Dec (q < n) → (q < n → test q ≡ false) → test q ≡ false
    go (yes d) ih = ih d
    go (no d) ih =
        let same : q ≡ n = omega arith in
        rw same parts.1

-- A page above q that is not in the stretch from q has a page below it at which the stretch ends.
pub record Ender (test : ℕ → Bool) (q page : ℕ) : Type 0 where
  pub at : ℕ
  pub low : q ≤ at
  pub high : at < page
  pub ends : test at ≡ true

pub ended-before : (p : Parameters) (test : ℕ → Bool) (q page : ℕ) → q ≤ page → page < p.pages → in_stretch p test q page ≡ false → Ender test q page
unfolding in_stretch end_from
ended-before p test q page low inside e = record { at = r; low = found.low; high = short; ends = found.passes (omega (arith, short)) }
  where
    r : ℕ
    r = first_such test q (p.pages - 1 - q)

    found : Such test q (p.pages - 1 - q) r
    found = such test q (p.pages - 1 - q)

    short : r < page
    short = go (dec_lt r page)
      where
        go : Dec (r < page) → r < page
        go (yes d) = d
        go (no d) = absurd (true≢false (sym (bounds-within q page r low (omega arith)) ∙ e))

-- From here on none below c passes: it is 0, or comes after one that does.
pub record Start (test : ℕ → Bool) (c : ℕ) : Type 0 where
  pub from : ℕ
  pub most : from ≤ c
  pub after : (from ≡ 0) ⊎ ((z : ℕ) × (from ≡ suc z) × (test z ≡ true))
  pub none : (q : ℕ) → from ≤ q → q < c → test q ≡ false

pub start : (test : ℕ → Bool) (c : ℕ) → Start test c
start test zero = record { from = 0; most = le_refl 0; after = inl refl; none = λ q a b. absurd (omega arith) }
start test (suc c) = go (test c) refl (start test c)
  where
    go : (t : Bool) → test c ≡ t → Start test c → Start test (suc c)
    go true e s = record { from = suc c; most = le_refl (suc c); after = inr (c, refl, e); none = λ q a b. absurd (omega arith) }
    go false e s = record { from = s.from; most = omega (arith, s.most); after = s.after; none = λ q a b. last q a b (dec_lt q c) }
      where
        last : (q : ℕ) → s.from ≤ q → q < suc c → Dec (q < c) → test q ≡ false
        last q a b (yes d) = s.none q a d
        last q a b (no d) =
            let same : q ≡ c = omega arith in
            rw same e

-- A stretch ends at a page that passes, if page M−1 does.
pub ends-passing : (p : Parameters) (test : ℕ → Bool) (q : ℕ) → q < p.pages → test (p.pages - 1) ≡ true → test (end_from p test q) ≡ true
unfolding end_from
ends-passing p test q h e = go (dec_lt r (q + (p.pages - 1 - q)))
  where
    r : ℕ
    r = first_such test q (p.pages - 1 - q)

    found : Such test q (p.pages - 1 - q) r
    found = such test q (p.pages - 1 - q)

    go : Dec (r < q + (p.pages - 1 - q)) → test r ≡ true
    go (yes d) = found.passes d
    go (no d) =
        let same : r ≡ p.pages - 1 = omega (arith, found.high) in
        rw same e

-- Growth has one more page to take.
pub more-pages : (p : Parameters) (g : Growth) → valid_parameters p ≡ true → valid_growth p g ≡ true → eqb (highest p g) (p.pages - 1) ≡ false → page_count p g < p.pages
unfolding highest
more-pages p g v w e =
    let fits = growth_within p g w in
    omega (arith, eqb-false (page_count p g - 1) (p.pages - 1) e, fits.pages_fit, (spread p g (limits p v) fits).pages_low)
