-- Growths and shrinks: all stars placed anew under another growth state.
use mathlib.Core.Path.{◌≡◌, refl, sym, ap, ◌∙◌}
use mathlib.Core.Bool.{Bool, true, false, cond, true≢false}
use mathlib.Core.List.{List, [], ◌∷◌}
use mathlib.Core.Logic.{◌↔◌}
use Prim.Native.Nat.{ℕ, ◌-◌, ◌<◌}
use native.Mathlib.Nat.{zero-add, le_refl}
use native.Mathlib.Omega.{arith}
use lib.Dec.{eqb}
use borrow.Author.Tests.{le-ltb, eqb-false}
use Rattle.placement.specs.Hash.{hash_of}
use Rattle.hashing.specs.declared.Parameters.{Parameters}
use Rattle.hashing.specs.declared.Growth.{Growth}
use Rattle.hashing.specs.Geometry.{page_count, highest, grown, ungrown, is_ungrown, shrunk}
use Rattle.hashing.specs.Limits.{valid_growth}
use Rattle.hashing.proofs.Bounds.{growth_within}
use Rattle.hashing.proofs.Homes.{grown-valid}
use Rattle.hashing.proofs.Shrinking.{new_is, shrunk-valid}
use Rattle.placement.specs.Rule.{Star, left}
use Rattle.reach.specs.Reach.{is_empty}
use Rattle.calls.specs.Answers.{Pool, After, spotted, accepted, refused, cleared}
use Rattle.calls.specs.Calls.{pool_fits_lem, unless, guarded, unchanged, regrow_to, grow_of, shrink_of}
use Rattle.histories.specs.Model.{Model, Request, look_up_lem, grow, shrink, updated, model_file}
use Rattle.histories.proofs.Fitting.{Fitting, stars_for}
use Rattle.histories.proofs.Guards.{lent-pool}
use Rattle.histories.proofs.Searching.{none-unsound}
use Rattle.histories.proofs.Check.{all-stars, placed-anew}
use Rattle.histories.proofs.Conforms.{Conforms, refused-conforms, accepted-conforms}

-- the model under another growth state
abbrev pub regrown : Model → Growth → Model
regrown m next = record { entries = m.entries; growth = next }

-- its stars that a growth state carries past the last page
abbrev pub carried : Parameters → Model → Growth → List Star
carried p m next = left (hash_of p next) 0 p.pages (stars_for m)

-- what it leaves if none is
abbrev pub moved : Parameters → Model → Pool → Growth → ℕ → After
moved p m pool next page = record { answer = accepted page; growth = next; file = model_file p (regrown m next); pool = pool }

abbrev pub stayed : Parameters → Model → Pool → ℕ → After
stayed p m pool n = unchanged m.growth (model_file p m) pool (refused n 0)

abbrev pub moved_if : Parameters → Model → Pool → Growth → ℕ → List Star → After
moved_if p m pool next page l = cond (is_empty l) (moved p m pool next page) (stayed p m pool 8)

-- growth and shrinking past the guard: refused with n where there is no such state
abbrev pub regrowing : Parameters → Model → Pool → Bool → Bool → ℕ → Growth → ℕ → After
regrowing p m pool fits none n next page =
    guarded m.growth (model_file p m) pool (unless fits 2)
    (cond none (stayed p m (cleared pool) n) (regrow_to p m.growth (model_file p m) (cleared pool) next page))

not_first : (g : Growth) → is_ungrown g ≡ false → g ≡ ungrown → ⊥
unfolding is_ungrown
not_first g e h = true≢false (sym (ap is_ungrown h) ∙ e)

module _ (p : Parameters) (m : Model) (t : Fitting p m) where
  pub regrows : (pool : Pool) (next : Growth) (page : ℕ) → regrow_to p m.growth (model_file p m) pool next page ≡ moved_if p m pool next page (carried p m next)
  unfolding regrow_to model_file
  regrows pool next page =
      rw (
        none-unsound p m t 0 p.pages (omega (arith, zero-add p.pages)),
        zero-add p.pages,
        le-ltb p.pages p.pages (le_refl p.pages),
        all-stars p m t,
        placed-anew p m t next,
      )

  pub regrown-fits : (next : Growth) → valid_growth p next ≡ true → carried p m next ≡ [] → Fitting p (regrown m next)
  regrown-fits next v h = record { parameters = t.parameters; growth = v; ordered = t.ordered; fits = h }

  -- a request that takes the model to the next growth state
  module _ (r : Request) (next : Growth) (fed : updated p r m ≡ regrown m next) (no : (k : ℕ) → r ≡ look_up_lem k → ⊥) where
    regrow-conforms : (pool : Pool) (page : ℕ) → valid_growth p next ≡ true → Conforms p m r (regrow_to p m.growth (model_file p m) pool next page)
    unfolding spotted
    regrow-conforms pool page v = rw (regrows pool next page) (go (carried p m next) refl)
      where
        go : (l : List Star) → carried p m next ≡ l → Conforms p m r (moved_if p m pool next page l)
        go [] h =
            accepted-conforms p m t r (moved p m pool next page) refl (ap (λ (n : Model). n.growth) (sym fed)) (ap (model_file p) (sym fed))
            (rw fed (regrown-fits next v h))
            (λ k e. absurd (no k e))
        go (s ∷ l) h = refused-conforms p m t r pool (refused 8 0) (λ d. omega arith) (λ d. omega arith)

    pub regrowing-conforms : (pool : Pool) (fits none : Bool) (n page : ℕ) → (n ≡ 0 → ⊥) → (n ≡ 5 → ⊥) → (none ≡ false → valid_growth p next ≡ true)
        → Conforms p m r (regrowing p m pool fits none n next page)
    unfolding spotted
    regrowing-conforms pool false none n page z f v = refused-conforms p m t r pool (refused 2 0) (λ d. omega arith) (λ d. omega arith)
    regrowing-conforms pool true true n page z f v = refused-conforms p m t r (cleared pool) (refused n 0) z f
    regrowing-conforms pool true false n page z f v = regrow-conforms (cleared pool) page (v refl)

  -- Growth: there is a next state unless the highest address is M − 1.
  pub more-pages : eqb (highest p m.growth) (p.pages - 1) ≡ false → page_count p m.growth < p.pages
  unfolding highest
  more-pages e = omega (arith, eqb-false (page_count p m.growth - 1) (p.pages - 1) e, (growth_within p m.growth t.growth).pages_fit)

  pub next-valid : eqb (highest p m.growth) (p.pages - 1) ≡ false → valid_growth p (grown p m.growth) ≡ true
  next-valid e = grown-valid p m.growth t.parameters t.growth (more-pages e)

  pub grow_is : (pool : Pool)
      → grow_of p m.growth (model_file p m) pool
      ≡ regrowing p m pool (pool_fits_lem p pool) (eqb (highest p m.growth) (p.pages - 1)) 8 (grown p m.growth) (page_count p m.growth)
  unfolding grow_of
  grow_is pool = rw (lent-pool p m t (pool_fits_lem p pool))

  pub grow_conforms : (pool : Pool) → Conforms p m grow (grow_of p m.growth (model_file p m) pool)
  unfolding updated
  grow_conforms pool =
      rw (grow_is pool)
      (regrowing-conforms grow (grown p m.growth) refl (λ k e. let z : ◌≡◌ {A = ℕ} 0 1 = cc in omega arith)
      pool (pool_fits_lem p pool) (eqb (highest p m.growth) (p.pages - 1)) 8 (page_count p m.growth)
      (λ d. omega arith) (λ d. omega arith) next-valid)

  -- Shrinking: there is a state before unless it is the first.
  pub before-valid : is_ungrown m.growth ≡ false → valid_growth p (shrunk p m.growth) ≡ true
  before-valid e = shrunk-valid p m.growth t.parameters e t.growth

  pub shrink_is : (pool : Pool)
      → shrink_of p m.growth (model_file p m) pool
      ≡ regrowing p m pool (pool_fits_lem p pool) (is_ungrown m.growth) 9 (shrunk p m.growth) (highest p m.growth)
  unfolding shrink_of
  shrink_is pool = rw (lent-pool p m t (pool_fits_lem p pool))

  pub shrink_conforms : (pool : Pool) → Conforms p m shrink (shrink_of p m.growth (model_file p m) pool)
  unfolding updated
  shrink_conforms pool =
      rw (shrink_is pool)
      (regrowing-conforms shrink (shrunk p m.growth) refl (λ k e. let z : ◌≡◌ {A = ℕ} 0 1 = cc in omega arith)
      pool (pool_fits_lem p pool) (is_ungrown m.growth) 9 (highest p m.growth)
      (λ d. omega arith) (λ d. omega arith) before-valid)

  -- Where the pool fits, it is refused with 9 exactly at the first state, and else with 8 exactly if the stars do not fit.
  module _ (pool : Pool) (fits : pool_fits_lem p pool ≡ true) where
    shrinks : shrink_of p m.growth (model_file p m) pool ≡ cond (is_ungrown m.growth) (stayed p m (cleared pool) 9)
        (moved_if p m (cleared pool) (shrunk p m.growth) (highest p m.growth) (carried p m (shrunk p m.growth)))
    shrinks = shrink_is pool ∙ rw (fits, regrows (cleared pool) (shrunk p m.growth) (highest p m.growth))

    pub shrink_first_lem : ((shrink_of p m.growth (model_file p m) pool).answer.refusal ≡ 9) ↔ (m.growth ≡ ungrown)
    unfolding spotted
    shrink_first_lem = rw shrinks (go (is_ungrown m.growth) refl (carried p m (shrunk p m.growth)))
      where
        go : (b : Bool) → is_ungrown m.growth ≡ b → (l : List Star)
            → ((cond b (stayed p m (cleared pool) 9) (moved_if p m (cleared pool) (shrunk p m.growth) (highest p m.growth) l)).answer.refusal ≡ 9) ↔ (m.growth ≡ ungrown)
        go true e l = ((λ h. new_is m.growth e), λ h. refl)
        go false e [] = ((λ h. absurd (omega arith)), λ h. absurd (not_first m.growth e h))
        go false e (s ∷ l) = ((λ h. absurd (omega arith)), λ h. absurd (not_first m.growth e h))

    pub shrink_full_lem : (m.growth ≡ ungrown → ⊥) → ((shrink_of p m.growth (model_file p m) pool).answer.refusal ≡ 8) ↔ (carried p m (shrunk p m.growth) ≡ [] → ⊥)
    unfolding spotted
    shrink_full_lem old = rw shrinks (go (is_ungrown m.growth) refl (carried p m (shrunk p m.growth)))
      where
        go : (b : Bool) → is_ungrown m.growth ≡ b → (l : List Star)
            → ((cond b (stayed p m (cleared pool) 9) (moved_if p m (cleared pool) (shrunk p m.growth) (highest p m.growth) l)).answer.refusal ≡ 8) ↔ (l ≡ [] → ⊥)
        go true e l = absurd (old (new_is m.growth e))
        go false e [] = ((λ h. absurd (omega arith)), λ h. absurd (h refl))
        go false e (s ∷ l) = ((λ h d. let z : ◌≡◌ {A = ℕ} 0 1 = cc in omega arith), λ h. refl)
