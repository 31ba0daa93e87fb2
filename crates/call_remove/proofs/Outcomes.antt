-- The answers and files of an entry and of a removal are those of the calls' definitions, and their pages are small.
use mathlib.Core.Path.{◌≡◌, ap, ◌∙◌}
use mathlib.Core.Bool.{true}
use Prim.Native.Nat.{ℕ, ◌+◌, ◌-◌, ◌^◌, ◌<◌}
use native.Mathlib.Omega.{arith}
use lib.Dec.{ltb}
use Rattle.hashing.specs.declared.Parameters.{Parameters}
use Rattle.hashing.specs.declared.Growth.{Growth}
use Rattle.hashing.specs.Limits.{valid_parameters, valid_growth}
use Rattle.hashing.specs.Geometry.{multiplier_of}
use Rattle.hashing.proofs.Bounds.{limits}
use Rattle.hashing.proofs.Homes.{home-pages}
use Rattle.placement.specs.Rule.{pages, without}
use Rattle.placement.specs.File.{File, gathered, replaced}
use Rattle.placement.specs.Hash.{hash_of}
use Rattle.reach.specs.Reach.{removal_end}
use Rattle.removal_reach.specs.Removal.{removal_answer, removal_file}
use Rattle.removal_reach.specs.Removal as removal
use Rattle.page_plan.specs.declared.outcome.Outcome.{Outcome}
use Rattle.calls.specs.declared.answers.Placed.{Placed}
use Rattle.calls.specs.Answers.{Pool, placed}
use Rattle.calls.specs.Calls.{remove_to}
use Rattle.outcome_answer.specs.Outcomes.{OutcomeSmall, outcome_placed}
use Rattle.outcome_answer.proofs.Outcomes.{unsound-most, removal_most, cases_small, outcome-cases}

-- the answer told of an outcome
pub outcome-told : {r : Placed} {o o' : Outcome} {place place' : ℕ} → r ≡ outcome_placed o place → o ≡ o' → place ≡ place' → placed r ≡ placed (outcome_placed o' place')
outcome-told {r} {o} {o'} {place} {place'} e a b = ap placed (e ∙ ap (λ (y : Outcome). outcome_placed y place) a ∙ ap (λ (q : ℕ). outcome_placed o' q) b)

module _ (p : Parameters) (g : Growth) (f : File) (v : valid_parameters p ≡ true) (w : valid_growth p g ≡ true) where
  pub removal_small : (k page : ℕ) → page < 2 ^ 32 → OutcomeSmall (removal_answer p g f k page)
  unfolding removal_answer hash_of
  removal_small k page h =
      cases_small
      (ltb (removal.removal_unsound p g f k) (removal.removal_start p g k + removal.removal_count p g f k))
      true
      (removal.removal_unsound p g f k)
      page
      (omega (arith, unsound-most p g f (removal.removal_start p g k) (removal.removal_count p g f k), removal_most p g f (removal.removal_start p g k) (home-pages (multiplier_of p) p g k v w), (limits p v).pages_most))
      h

module _ (p : Parameters) (g : Growth) (f : File) (pool : Pool) where
  pub removed-is : (page k place : ℕ)
      → (placed (outcome_placed (removal_answer p g f k page) place) ≡ (remove_to p g f pool page k place (removal_end (hash_of p g) p.pages f ((hash_of p g).home k))).answer)
      × (removal_file p g f k ≡ (remove_to p g f pool page k place (removal_end (hash_of p g) p.pages f ((hash_of p g).home k))).file)
  unfolding removal_answer removal_file remove_to
  removed-is page k place =
      outcome-cases g f pool
      (ltb (removal.removal_unsound p g f k) (removal.removal_start p g k + removal.removal_count p g f k))
      true
      (removal.removal_unsound p g f k)
      page
      place
      (replaced p.places f (removal.removal_start p g k)
      (pages (hash_of p g) (removal.removal_start p g k) (removal.removal_count p g f k) (without k (gathered p.places f (removal.removal_start p g k) (removal.removal_count p g f k)))))
