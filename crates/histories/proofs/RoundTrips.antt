-- Growth and shrinking undo each other.
use mathlib.Core.Path.{◌≡◌, refl, sym, ap, ◌∙◌, subst}
use mathlib.Core.Bool.{Bool, true, false}
use mathlib.Core.List.{List, [], ◌∷◌}
use Prim.Native.Nat.{ℕ, ◌-◌}
use native.Mathlib.Omega.{arith}
use lib.Dec.{eqb}
use borrow.Author.Tests.{ne_eqb}
use Rattle.hashing.specs.declared.Parameters.{Parameters}
use Rattle.hashing.specs.declared.Growth.{Growth}
use Rattle.hashing.specs.Geometry.{page_count, highest, grown, is_ungrown, shrunk}
use Rattle.hashing.specs.Limits.{valid_growth}
use Rattle.hashing.proofs.Bounds.{limits, growth_within, spread}
use Rattle.hashing.proofs.Homes.{grown-count}
use Rattle.hashing.proofs.Shrinking.{shrunk-grown, grown-not_new, grown-shrunk, shrunk-page, shrunk-below}
use Rattle.placement.specs.Rule.{Star}
use Rattle.placement.specs.File.{File}
use Rattle.calls.specs.Answers.{Pool, After, spotted, cleared}
use Rattle.calls.specs.Calls.{pool_fits_lem, regrow_to, grow_of, shrink_of}
use Rattle.histories.specs.Model.{Model, model_file}
use Rattle.histories.specs.RoundTrips.{Restores, WholeCall, Returns, OnClean, RoundTrips}
use Rattle.histories.proofs.Fitting.{Fitting}
use Rattle.histories.proofs.Grow.{regrown, carried, moved, moved_if, regrowing, regrows, regrown-fits, next-valid, grow_is, before-valid, shrink_is}
use Rattle.histories.proofs.Cleaned.{check_modelled}

module _ (p : Parameters) (m : Model) (t : Fitting p m) where
  -- what is known of an accepted call
  record Went (pool : Pool) (fits none : Bool) (n : ℕ) (next : Growth) (page : ℕ) : Type 0 where
    possible : none ≡ false
    fit : carried p m next ≡ []
    leaves : regrowing p m pool fits none n next page ≡ moved p m (cleared pool) next page

  went : (pool : Pool) (fits none : Bool) (n : ℕ) (next : Growth) (page : ℕ) → (n ≡ 0 → ⊥)
      → (regrowing p m pool fits none n next page).answer.refusal ≡ 0 → Went pool fits none n next page
  unfolding spotted
  went pool false none n next page z e = absurd (omega arith)
  went pool true true n next page z e = absurd (z e)
  went pool true false n next page z e = go (carried p m next) refl (ap (λ (a : After). a.answer.refusal) (sym (regrows p m t (cleared pool) next page)) ∙ e)
    where
      go : (l : List Star) → carried p m next ≡ l → (moved_if p m (cleared pool) next page l).answer.refusal ≡ 0 → Went pool true false n next page
      go [] h d = record { possible = refl; fit = h; leaves = regrows p m t (cleared pool) next page ∙ ap (moved_if p m (cleared pool) next page) h }
      go (s ∷ l) h d = absurd (omega arith)

  -- Going back: the stars fit under the model's own state.
  back : (next : Growth) → Fitting p (regrown m next) → (pool : Pool) (page : ℕ) → regrow_to p next (model_file p (regrown m next)) pool m.growth page ≡ moved p m pool m.growth page
  back next u pool page = regrows p (regrown m next) u pool m.growth page ∙ ap (moved_if p (regrown m next) pool m.growth page) t.fits

  -- An accepted call to the next state, then one that goes back and answers the same page.
  trip : (first : After) (second : Growth → File → After) (pool again : Pool) (fits none : Bool) (n other : ℕ) (next : Growth) (page : ℕ) → (n ≡ 0 → ⊥)
      → first.answer.refusal ≡ 0
      → first ≡ regrowing p m pool fits none n next page
      → (none ≡ false → valid_growth p next ≡ true)
      → (none ≡ false → Fitting p (regrown m next) → second next (model_file p (regrown m next)) ≡ regrowing p (regrown m next) again true false other m.growth page)
      → Restores m.growth (model_file p m) first (second first.growth first.file)
  trip first second pool again fits none n other next page z e d v h =
      let w = went pool fits none n next page z (ap (λ (a : After). a.answer.refusal) (sym d) ∙ e) in
      let u = regrown-fits p m t next (v w.possible) w.fit in
      rw (d ∙ w.leaves) (restored (second next (model_file p (regrown m next))) (h w.possible u ∙ back next u (cleared again) page))
    where
      restored : (after : After) → after ≡ moved p m (cleared again) m.growth page → Restores m.growth (model_file p m) (moved p m (cleared pool) next page) after
      restored after c = rw c (record { answer = refl; growth = refl; separators = refl; numbers = refl; words = refl; owners = refl })

  abbrev g : Growth
  g = m.growth

  grown-page : highest p (grown p g) ≡ page_count p g
  unfolding highest
  grown-page = omega (arith, grown-count p g t.parameters)

  growth-then-shrink : Returns grow_of shrink_of p g (model_file p m)
  growth-then-shrink pool again l e =
      trip (grow_of p g (model_file p m) pool) (λ h f. shrink_of p h f again) pool again (pool_fits_lem p pool) (eqb (highest p g) (p.pages - 1)) 8 9 (grown p g) (page_count p g)
      (λ d. omega arith) e (grow_is p m t pool) (next-valid p m t)
      (λ c u. shrink_is p (regrown m (grown p g)) u again ∙ rw (l, grown-not_new p g, shrunk-grown p g, grown-page))

  -- growth has a further page after a shrink
  further : is_ungrown g ≡ false → eqb (highest p (shrunk p g)) (p.pages - 1) ≡ false
  unfolding highest
  further c =
      ne_eqb (page_count p (shrunk p g) - 1) (p.pages - 1)
      (λ d. omega (arith, shrunk-below p g t.parameters c t.growth, (spread p (shrunk p g) (limits p t.parameters) (growth_within p (shrunk p g) (before-valid p m t c))).pages_low))

  shrink-then-growth : Returns shrink_of grow_of p g (model_file p m)
  shrink-then-growth pool again l e =
      trip (shrink_of p g (model_file p m) pool) (λ h f. grow_of p h f again) pool again (pool_fits_lem p pool) (is_ungrown g) 9 8 (shrunk p g) (highest p g)
      (λ d. omega arith) e (shrink_is p m t pool) (before-valid p m t)
      (λ c u. grow_is p (regrown m (shrunk p g)) u again ∙ rw (l, further c, grown-shrunk p g t.parameters c t.growth, shrunk-page p g t.parameters c t.growth))

-- Every clean file is a model's.
of_models : (one other : WholeCall) → ((p : Parameters) (m : Model) → Fitting p m → Returns one other p m.growth (model_file p m)) → OnClean one other
of_models one other h p g f pool c =
    let m = check_modelled p g f pool c in
    subst (Returns one other p g) m.file (subst (λ (k : Growth). Returns one other p k (model_file p m.model)) m.growth (h p m.model m.fitting))

pub round_trips : RoundTrips
round_trips = record { growth_then_shrink = of_models grow_of shrink_of growth-then-shrink; shrink_then_growth = of_models shrink_of grow_of shrink-then-growth }
