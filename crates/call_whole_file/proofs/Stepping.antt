-- Growth and shrinking as one call: by the step that they take, or that is refused.
use mathlib.Core.Path.{◌≡◌, refl, sym, ap, ◌∙◌}
use mathlib.Core.Bool.{Bool, true, false, cond, ◌&&◌, false≢true}
use Prim.Native.Nat.{ℕ, ◌-◌, ◌^◌, ◌≤◌, ◌<◌}
use native.Mathlib.Omega.{arith}
use lib.Dec.{eqb, ltb}
use borrow.Author.Tests.{eqb-false}
use Rattle.hashing.specs.declared.Parameters.{Parameters}
use Rattle.hashing.specs.declared.Growth.{Growth}
use Rattle.hashing.specs.Geometry.{page_count, highest, grown, ungrown, is_ungrown, shrunk}
use Rattle.hashing.specs.Limits.{valid_parameters, valid_growth}
use Rattle.hashing.proofs.Bounds.{limits, growth_within}
use Rattle.placement.specs.File.{File}
use Rattle.page_plan.specs.declared.outcome.Outcome.{Outcome}
use Rattle.growth_plan.specs.Growth.{state_after, Movable, growth_answer, growth_file}
use Rattle.calls.specs.declared.answers.Refusal.{Refusal}
use Rattle.calls.specs.declared.answers.Refusal.TheVariants.{Full, Ungrown}
use Rattle.calls.specs.declared.answers.Grown.{Grown}
use Rattle.call_whole_file.specs.declared.growth.Step.{Step}
use Rattle.call_whole_file.specs.declared.growth.Step.TheVariants.{To, Not}
use Rattle.calls.specs.Answers.{After, Pool, placed, refused_by, refused, cleared}
use Rattle.calls.specs.Shape.{Stores}
use Rattle.calls.specs.Calls.{unlent, guarded, unchanged, file_fits_lem, pool_fits_lem, grow_of, shrink_of, regrow_to}
use Rattle.outcome_answer.specs.Outcomes.{outcome_grown, unmoved_by}
use Rattle.call_whole_file.specs.Outcomes.{step_of, regrow_on, regrow_of}
use Rattle.call_whole_file.proofs.Outcomes.{regrown-is}
use Rattle.outcome_answer.proofs.Pools.{cases_pool}
use Rattle.placement.specs.Rule.{left}
use Rattle.placement.specs.Hash.{hash_of}
use Rattle.reach.specs.Reach.{first_unsound_lem, is_empty, all_stars}

module _ (p : Parameters) (g : Growth) (f : File) (pool : Pool) where
  regrow-pool : (next : Growth) (page : ℕ) → (regrow_to p g f pool next page).pool ≡ pool
  unfolding regrow_to
  regrow-pool next page =
      cases_pool (ltb (first_unsound_lem p g f 0 p.pages) p.pages) (is_empty (left (hash_of p next) 0 p.pages (all_stars p f))) _ _ _ pool refl refl refl

pub regrow_guarded : (back : Bool) (p : Parameters) (g : Growth) (f : File) (pool : Pool)
    → regrow_of back p g f pool ≡ guarded g f pool (unlent p g (file_fits_lem p f && pool_fits_lem p pool)) (regrow_on back p g f (cleared pool))
unfolding grow_of shrink_of
regrow_guarded true p g f pool = refl
regrow_guarded false p g f pool = refl

goes : Step → Bool
goes (To next page) = true
goes (Not r) = false

state_in : Step → Growth
state_in (To next page) = next
state_in (Not r) = ungrown

pub further : (p : Parameters) (g : Growth) → valid_growth p g ≡ true → (highest p g ≡ p.pages - 1 → ⊥) → page_count p g < p.pages
unfolding highest
further p g w less = omega (arith, less, (growth_within p g w).pages_fit)

-- past its refusal 9 shrinking has a state to go back to, past its own 8 growth has a further page
movable : (back : Bool) (p : Parameters) (g : Growth) → valid_growth p g ≡ true → goes (step_of back p g) ≡ true → Movable back p g
unfolding step_of goes
movable true p g w = go (is_ungrown g) refl
  where
    go : (t : Bool) → is_ungrown g ≡ t → goes (cond t (Not Ungrown) (To (shrunk p g) (highest p g))) ≡ true → is_ungrown g ≡ false
    go true e h = absurd (false≢true h)
    go false e h = e
movable false p g w = go (eqb (highest p g) (p.pages - 1)) refl
  where
    go : (t : Bool) → eqb (highest p g) (p.pages - 1) ≡ t → goes (cond t (Not Full) (To (grown p g) (page_count p g))) ≡ true → page_count p g < p.pages
    go true e h = absurd (false≢true h)
    go false e h = further p g w (eqb-false (highest p g) (p.pages - 1) e)

state-is : (back : Bool) (p : Parameters) (g : Growth) → goes (step_of back p g) ≡ true → state_in (step_of back p g) ≡ state_after back p g
unfolding step_of goes state_in
state-is true p g = go (is_ungrown g)
  where
    go : (t : Bool) → goes (cond t (Not Ungrown) (To (shrunk p g) (highest p g))) ≡ true → state_in (cond t (Not Ungrown) (To (shrunk p g) (highest p g))) ≡ shrunk p g
    go true h = absurd (false≢true h)
    go false h = refl
state-is false p g = go (eqb (highest p g) (p.pages - 1))
  where
    go : (t : Bool) → goes (cond t (Not Full) (To (grown p g) (page_count p g))) ≡ true → state_in (cond t (Not Full) (To (grown p g) (page_count p g))) ≡ grown p g
    go true h = absurd (false≢true h)
    go false h = refl

page_in : Step → ℕ
page_in (To next page) = page
page_in (Not r) = 0

page-most : (back : Bool) (p : Parameters) (g : Growth) → valid_growth p g ≡ true → page_in (step_of back p g) ≤ p.pages
unfolding step_of page_in highest
page-most true p g w = go (is_ungrown g)
  where
    go : (t : Bool) → page_in (cond t (Not Ungrown) (To (shrunk p g) (highest p g))) ≤ p.pages
    go true = omega arith
    go false = omega (arith, (growth_within p g w).pages_fit)
page-most false p g w = go (eqb (highest p g) (p.pages - 1))
  where
    go : (t : Bool) → page_in (cond t (Not Full) (To (grown p g) (page_count p g))) ≤ p.pages
    go true = omega arith
    go false = omega (arith, (growth_within p g w).pages_fit)

-- what the call does by its step
stepped_on : Parameters → Growth → File → Pool → Step → After
stepped_on p g f pool (To next page) = regrow_to p g f pool next page
stepped_on p g f pool (Not r) = unchanged g f pool (refused_by r 0)

regrow_steps : (back : Bool) (p : Parameters) (g : Growth) (f : File) (pool : Pool) → regrow_on back p g f pool ≡ stepped_on p g f pool (step_of back p g)
unfolding step_of stepped_on refused_by
regrow_steps true p g f pool = go (is_ungrown g)
  where
    go : (t : Bool) → cond t (unchanged g f pool (refused 9 0)) (regrow_to p g f pool (shrunk p g) (highest p g)) ≡ stepped_on p g f pool (cond t (Not Ungrown) (To (shrunk p g) (highest p g)))
    go true = refl
    go false = refl
regrow_steps false p g f pool = go (eqb (highest p g) (p.pages - 1))
  where
    go : (t : Bool) → cond t (unchanged g f pool (refused 8 0)) (regrow_to p g f pool (grown p g) (page_count p g)) ≡ stepped_on p g f pool (cond t (Not Full) (To (grown p g) (page_count p g)))
    go true = refl
    go false = refl

stepped-pool : (p : Parameters) (g : Growth) (f : File) (pool : Pool) (step : Step) → (stepped_on p g f pool step).pool ≡ pool
unfolding stepped_on
stepped-pool p g f pool (To next page) = regrow-pool p g f pool next page
stepped-pool p g f pool (Not r) = refl

pub regrown-pool : (back : Bool) (p : Parameters) (g : Growth) (f : File) (pool : Pool) → (regrow_on back p g f pool).pool ≡ pool
regrown-pool back p g f pool = rw (regrow_steps back p g f pool) (stepped-pool p g f pool (step_of back p g))

module _ (back : Bool) (p : Parameters) (g : Growth) where
  pub regrow_refused : (f : File) (pool : Pool) {r : Refusal} {a : Grown} → step_of back p g ≡ Not r → a ≡ unmoved_by g r
      → Stores (regrow_on back p g f pool) (placed a.answer) f × (a.growth ≡ (regrow_on back p g f pool).growth)
  unfolding placed stepped_on
  regrow_refused f pool e d = rw (regrow_steps back p g f pool, e, d) (record { answers = refl; files = refl }, refl)

  module _ {next : Growth} {page : ℕ} (e : step_of back p g ≡ To next page) where
    to : goes (step_of back p g) ≡ true
    unfolding goes
    to = ap goes e

    pub step-movable : valid_growth p g ≡ true → Movable back p g
    step-movable w = movable back p g w to

    state : state_after back p g ≡ next
    unfolding state_in
    state = sym (state-is back p g to) ∙ ap state_in e

    pub step_small : valid_parameters p ≡ true → valid_growth p g ≡ true → page < 2 ^ 32
    unfolding page_in
    step_small v w =
        let is : page_in (step_of back p g) ≡ page = ap page_in e in
        omega (arith, is, page-most back p g w, (limits p v).pages_most)

    pub regrow_stored : (f : File) (pool : Pool) {f' : File} {r : Outcome} {a : Grown}
        → r ≡ growth_answer p g f (state_after back p g) page → f' ≡ growth_file p g f (state_after back p g) → a ≡ outcome_grown r g next
        → Stores (regrow_on back p g f pool) (placed a.answer) f' × (a.growth ≡ (regrow_on back p g f pool).growth)
    unfolding stepped_on
    regrow_stored f pool answered filed told =
        let is = regrown-is p g f pool next page in
        rw (regrow_steps back p g f pool, e, told, filed, answered, state) (record { answers = is.0; files = is.1 }, is.2)
