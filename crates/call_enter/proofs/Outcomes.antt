-- The answers and files of an entry and of a removal are those of the calls' definitions, and their pages are small.
use mathlib.Core.Path.{◌≡◌}
use mathlib.Core.Bool.{true}
use mathlib.Core.List.{[], ◌∷◌}
use Prim.Native.Nat.{ℕ, ◌+◌, ◌-◌, ◌^◌, ◌≤◌, ◌<◌}
use native.Mathlib.Omega.{arith}
use lib.Dec.{ltb}
use lib.ListN.{length}
use Rattle.hashing.specs.declared.Parameters.{Parameters}
use Rattle.hashing.specs.declared.Growth.{Growth}
use Rattle.hashing.specs.Limits.{valid_parameters, valid_growth}
use Rattle.hashing.specs.Geometry.{multiplier_of}
use Rattle.hashing.proofs.Bounds.{limits}
use Rattle.hashing.proofs.Homes.{home-pages}
use Rattle.placement.specs.Rule.{Star}
use Rattle.placement.specs.File.{File, replaced}
use Rattle.placement.specs.Hash.{hash_of}
use Rattle.placement.proofs.Composition.{length-pages}
use Rattle.reach.specs.Reach.{entering, enters_within, entry_end, is_empty, holding}
use Rattle.entry_reach.specs.Entry.{entry_answer, entry_file}
use Rattle.entry_reach.specs.Entry as entry
use Rattle.entry_cascade.specs.Cascade.{visited, overflow, stop_of, cascade_unsound, cascade_answer, cascade_file}
use Rattle.reach.proofs.Cascading.{length-cascaded}
use Rattle.calls.specs.Answers.{Pool, placed}
use Rattle.calls.specs.Calls.{enter_to, cascade_from}
use Rattle.outcome_answer.specs.Outcomes.{OutcomeSmall, outcome_placed}
use Rattle.outcome_answer.proofs.Outcomes.{holding-most, stretch-most, unsound-most, cases_small, outcome-cases}

module _ (p : Parameters) (g : Growth) (f : File) (v : valid_parameters p ≡ true) (w : valid_growth p g ≡ true) where
  module _ (s : Star) where
    inside : entry.entry_start p g s.number + entry.entry_count p g f s ≤ p.pages
    unfolding entry_end hash_of
    inside = stretch-most _ (entry.entry_start p g s.number) p.pages (home-pages (multiplier_of p) p g s.number v w)

    bad-small : entry.entry_unsound p g f s < 2 ^ 32
    bad-small = omega (arith, unsound-most p g f (entry.entry_start p g s.number) (entry.entry_count p g f s), inside, (limits p v).pages_most)

    page-small : holding s.number (entry.entry_start p g s.number) (entry.entry_contents p g f s) < 2 ^ 32
    page-small =
        omega (
          arith,
          holding-most s.number (entry.entry_start p g s.number) (entry.entry_contents p g f s),
          length-pages (hash_of p g) (entry.entry_start p g s.number) (entry.entry_count p g f s) (entering (hash_of p g) f s (entry.entry_last p g f s)),
          inside,
          (limits p v).pages_most,
        )

    pub entry-small : OutcomeSmall (entry_answer p g f s)
    unfolding entry_answer
    entry-small =
        cases_small
        (ltb (entry.entry_unsound p g f s) (entry.entry_start p g s.number + entry.entry_count p g f s))
        (enters_within (hash_of p g) f s (entry.entry_last p g f s))
        (entry.entry_unsound p g f s)
        (holding s.number (entry.entry_start p g s.number) (entry.entry_contents p g f s))
        bad-small
        page-small

  pub cascade-small : (s : Star) (page : ℕ) → page < p.pages → OutcomeSmall (cascade_answer p g f s page)
  unfolding cascade_answer
  cascade-small s page h =
      let few : stop_of p g f s page ≤ p.pages = omega (arith, length-cascaded (hash_of p g) f page (p.pages - page) (s ∷ [])) in
      cases_small
      (ltb (cascade_unsound p g f s page) (stop_of p g f s page))
      (is_empty (overflow p g f s page))
      (cascade_unsound p g f s page)
      (holding s.number page (visited p g f s page))
      (omega (arith, unsound-most p g f page (length (visited p g f s page)), few, (limits p v).pages_most))
      (omega (arith, holding-most s.number page (visited p g f s page), few, (limits p v).pages_most))

module _ (p : Parameters) (g : Growth) (f : File) (pool : Pool) where
  module _ (s : Star) where
    pub entered-is : (place : ℕ)
        → (placed (outcome_placed (entry_answer p g f s) place) ≡ (enter_to p g f pool s place (entry.entry_last p g f s)).answer)
        × (entry_file p g f s ≡ (enter_to p g f pool s place (entry.entry_last p g f s)).file)
    unfolding entry_answer entry_file enter_to
    entered-is place =
        outcome-cases g f pool
        (ltb (entry.entry_unsound p g f s) (entry.entry_start p g s.number + entry.entry_count p g f s))
        (enters_within (hash_of p g) f s (entry.entry_last p g f s))
        (entry.entry_unsound p g f s)
        (holding s.number (entry.entry_start p g s.number) (entry.entry_contents p g f s))
        place
        (replaced p.places f (entry.entry_start p g s.number) (entry.entry_contents p g f s))

    pub cascaded-is : (place page : ℕ)
        → (placed (outcome_placed (cascade_answer p g f s page) place) ≡ (cascade_from p g f pool s place page).answer)
        × (cascade_file p g f s page ≡ (cascade_from p g f pool s place page).file)
    unfolding cascade_answer cascade_file cascade_from
    cascaded-is place page =
        outcome-cases g f pool
        (ltb (cascade_unsound p g f s page) (stop_of p g f s page))
        (is_empty (overflow p g f s page))
        (cascade_unsound p g f s page)
        (holding s.number page (visited p g f s page))
        place
        (replaced p.places f page (visited p g f s page))
