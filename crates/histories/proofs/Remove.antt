-- Removals.
use mathlib.Core.Path.{◌≡◌, refl, ap, ◌∙◌}
use mathlib.Core.Bool.{Bool, true, false, cond}
use mathlib.Core.List.{[]}
use mathlib.Core.Logic.{◌⊎◌}
use mathlib.Core.Option.{Option, none, some}
use Prim.Native.Nat.{ℕ, ◌+◌, ◌-◌, ◌≤◌}
use native.Mathlib.Nat.{le_refl}
use native.Mathlib.Omega.{arith}
use borrow.Author.Tests.{le-ltb}
use Rattle.hashing.specs.declared.Parameters.{Parameters}
use Rattle.pages.specs.declared.position.Position.{Position}
use Rattle.pages.specs.Position.{valid_number, valid_word}
use Rattle.placement.proofs.Probing.{bounded-real}
use Rattle.placement.specs.Rule.{pages, left, without}
use Rattle.placement.specs.File.{gathered, replaced, laid}
use Rattle.placement.specs.Hash.{hash_of, named_page_lem}
use Rattle.placement.proofs.Entry.{removed}
use Rattle.reach.specs.Reach.{removal_end, pages_to}
use Rattle.reach.proofs.Reaching.{Reach, removal_reach_lem}
use Rattle.calls.specs.Answers.{Pool, After, spotted, accepted_at, refused, refused_at, cleared}
use Rattle.calls.specs.Calls.{pool_fits_lem, unless, or_else, guarded, unchanged, holds, allowed, remove_to, remove_on, remove_of}
use Rattle.histories.specs.Model.{Model, remove, updated, held_position, held_owner, model_file, page_for, place_on_lem}
use Rattle.histories.proofs.Entries.{ordered-strike, position-valid}
use Rattle.histories.proofs.Stars.{stars-strike}
use Rattle.histories.proofs.Fitting.{Fitting, hash_for, stars_for, homed, rising-from, proper, in_range, laid-stars, named-readable}
use Rattle.histories.proofs.Held.{held, not_allowed, is-allowed, not_held}
use Rattle.histories.proofs.Guards.{lent-pool}
use Rattle.histories.proofs.Searching.{none-unsound}
use Rattle.histories.proofs.Conforms.{Conforms, refused-conforms, allowed-conforms, accepted-conforms}

module _ (p : Parameters) (m : Model) (t : Fitting p m) (caller k : ℕ) where
  abbrev from : ℕ
  from = (hash_for p m).home k

  abbrev to : ℕ
  to = removal_end (hash_for p m) p.pages (model_file p m) from

  removal : Reach (hash_for p m) p.pages (model_file p m) from to
  removal = removal_reach_lem (hash_for p m) p.pages (model_file p m) from (homed p m.growth k t.parameters t.growth)

  struck : (replaced p.places (model_file p m) from (pages (hash_for p m) from (pages_to from to) (without k (gathered p.places (model_file p m) from (pages_to from to))))
      ≡ laid p.places (hash_for p m) p.pages (without k (stars_for m)))
      × (left (hash_for p m) 0 p.pages (without k (stars_for m)) ≡ [])
  unfolding model_file hash_of
  struck =
      let all =
      removed valid_word (hash_for p m) (bounded-real p m.growth t.parameters) p.pages from (to - from) (stars_for m)
      (rising-from p m t) (proper p m t) t.fits removal.high k refl removal.ends in
      (all.1, all.2)

  removes : (pool : Pool) (page place : ℕ) → Conforms p m (remove caller k) (remove_to p m.growth (model_file p m) pool page k place to)
  unfolding remove_to updated spotted
  removes pool page place =
      rw (none-unsound p m t from (pages_to from to) removal.high, le-ltb (from + pages_to from to) (from + pages_to from to) (le_refl (from + pages_to from to)))
      (accepted-conforms p m t (remove caller k) _ refl refl same
      (record {
        parameters = t.parameters;
        growth = t.growth;
        ordered = ordered-strike 1 k m.entries t.ordered;
        fits = rw (stars-strike k m.entries) struck.1;
      })
      (λ j d. cc))
    where
      same : replaced p.places (model_file p m) from (pages (hash_for p m) from (pages_to from to) (without k (gathered p.places (model_file p m) from (pages_to from to))))
          ≡ model_file p (updated p (remove caller k) m)
      same = struck.0 ∙ laid-stars p (updated p (remove caller k) m) (without k (stars_for m)) (stars-strike k m.entries)

  removes-on : (pool : Pool) → 1 ≤ k → Conforms p m (remove caller k) (remove_on p m.growth (model_file p m) pool (page_for p m k) caller k)
  unfolding remove_on spotted
  removes-on pool h = rw (named-readable p m t k) (go (held_position k m.entries) refl)
    where
      go : (o : Option Position) → held_position k m.entries ≡ o
          → Conforms p m (remove caller k)
          (cond (holds p (model_file p m) (page_for p m k) k)
          (allowed p m.growth (model_file p m) pool (page_for p m k) caller k (remove_to p m.growth (model_file p m) pool (page_for p m k) k (place_on_lem p m k) to))
          (unchanged m.growth (model_file p m) pool (refused_at 7 0 (place_on_lem p m k))))
      go none e = rw (not_held p m t k h e) (refused-conforms p m t (remove caller k) pool (refused_at 7 0 (place_on_lem p m k)) (λ d. omega arith) (λ d. omega arith))
      go (some q) e = rw (held p m t k q e) (allowed-conforms p m t (remove caller k) pool (page_for p m k) caller k _ (removes pool (page_for p m k) (place_on_lem p m k)))

  pub remove_conforms : (pool : Pool) → Conforms p m (remove caller k) (remove_of p m.growth (model_file p m) pool caller k)
  unfolding remove_of page_for named_page_lem spotted
  remove_conforms pool = rw (lent-pool p m t (pool_fits_lem p pool)) (go (pool_fits_lem p pool) (valid_number k) refl)
    where
      go : (v w : Bool) → valid_number k ≡ w
          → Conforms p m (remove caller k)
          (guarded m.growth (model_file p m) pool (or_else (unless v 2) (unless w 3)) (remove_on p m.growth (model_file p m) (cleared pool) (page_for p m k) caller k))
      go false w e = refused-conforms p m t (remove caller k) pool (refused 2 0) (λ d. omega arith) (λ d. omega arith)
      go true false e = refused-conforms p m t (remove caller k) pool (refused 3 0) (λ d. omega arith) (λ d. omega arith)
      go true true e = removes-on (cleared pool) (in_range k e).0

  -- The removal of a star that the model holds.
  module _ (pool : Pool) (fit : pool_fits_lem p pool ≡ true) (q : Position) (e : held_position k m.entries ≡ some q) where
    removes-held : remove_of p m.growth (model_file p m) pool caller k
        ≡ allowed p m.growth (model_file p m) (cleared pool) (page_for p m k) caller k (remove_to p m.growth (model_file p m) (cleared pool) (page_for p m k) k (place_on_lem p m k) to)
    unfolding remove_of remove_on page_for named_page_lem
    removes-held = guards ∙ rw (named-readable p m t k, held p m t k q e)
      where
        guards : remove_of p m.growth (model_file p m) pool caller k ≡ remove_on p m.growth (model_file p m) (cleared pool) (page_for p m k) caller k
        guards = rw (lent-pool p m t (pool_fits_lem p pool), fit, (position-valid 1 k q m.entries t.ordered e).number)

    pub removal_refused : (caller ≡ 0 → ⊥) → (caller ≡ held_owner k m.entries → ⊥)
        → remove_of p m.growth (model_file p m) pool caller k ≡ unchanged m.growth (model_file p m) (cleared pool) (refused_at 13 0 (place_on_lem p m k))
    removal_refused h d = removes-held ∙ not_allowed p m t k q e (cleared pool) caller _ h d

    pub removal_accepted : (caller ≡ 0) ⊎ (caller ≡ held_owner k m.entries) → (remove_of p m.growth (model_file p m) pool caller k).answer ≡ accepted_at (page_for p m k) (place_on_lem p m k)
    unfolding remove_to
    removal_accepted h =
        ap (λ (a : After). a.answer) (removes-held ∙ is-allowed p m t k q e (cleared pool) caller _ h)
        ∙ rw (none-unsound p m t from (pages_to from to) removal.high, le-ltb (from + pages_to from to) (from + pages_to from to) (le_refl (from + pages_to from to)))
