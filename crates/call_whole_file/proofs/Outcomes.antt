-- The answers and files of growth and check are those of the calls' definitions, and their pages are small.
use mathlib.Core.Path.{◌≡◌, refl}
use mathlib.Core.Bool.{Bool, true, false, cond}
use Prim.Native.Nat.{ℕ, suc, ◌-◌, ◌*◌, ◌^◌, ◌/◌, ◌%◌, ◌<◌}
use native.Mathlib.Nat.{mod-lt, div-lt_iff_lt-mul}
use native.Mathlib.Omega.{arith}
use lib.Dec.{ltb}
use borrow.Author.Tests.{ltb-true}
use Rattle.placement.specs.Hash.{hash_of}
use Rattle.hashing.specs.declared.Parameters.{Parameters}
use Rattle.hashing.specs.declared.Growth.{Growth}
use Rattle.hashing.specs.Limits.{valid_parameters}
use Rattle.hashing.proofs.Bounds.{limits}
use Rattle.placement.specs.Rule.{pages, left}
use Rattle.placement.specs.File.{File, replaced}
use Rattle.reach.specs.Reach.{first_unsound_lem, is_empty, all_stars}
use Rattle.growth_plan.specs.Growth.{growth_answer, growth_file}
use Rattle.rule_check.specs.declared.telling.Verdict.TheVariants.{Clean, Differs, Unsound as verdict·Unsound}
use Rattle.rule_check.specs.Verdicts.{verdict_of}
use Rattle.calls.specs.Answers.{Pool, placed, checked, refused_by, accepted, spotted}
use Rattle.calls.specs.Calls.{regrow_to, checked_at}
use Rattle.outcome_answer.specs.Outcomes.{OutcomeSmall, outcome_grown}
use Rattle.outcome_answer.proofs.Outcomes.{unsound-most, cases_small, grown-cases}
use Rattle.call_whole_file.specs.Outcomes.{VerdictSmall, verdict_checked_lem}

module _ (p : Parameters) (g : Growth) (f : File) (v : valid_parameters p ≡ true) where
  pub growth_small : (next : Growth) (page : ℕ) → page < 2 ^ 32 → OutcomeSmall (growth_answer p g f next page)
  unfolding growth_answer
  growth_small next page h =
      cases_small
      (ltb (first_unsound_lem p g f 0 p.pages) p.pages)
      (is_empty (left (hash_of p next) 0 p.pages (all_stars p f)))
      (first_unsound_lem p g f 0 p.pages)
      page
      (omega (arith, unsound-most p g f 0 p.pages, (limits p v).pages_most))
      h

-- the answers and files are those of the definitions
module _ (p : Parameters) (g : Growth) (f : File) (pool : Pool) where
  pub regrown-is : (next : Growth) (page : ℕ)
      → (placed (outcome_grown (growth_answer p g f next page) g next).answer ≡ (regrow_to p g f pool next page).answer)
      × (growth_file p g f next ≡ (regrow_to p g f pool next page).file)
      × ((outcome_grown (growth_answer p g f next page) g next).growth ≡ (regrow_to p g f pool next page).growth)
  unfolding growth_answer growth_file regrow_to
  regrown-is next page =
      grown-cases g f pool
      (ltb (first_unsound_lem p g f 0 p.pages) p.pages)
      (is_empty (left (hash_of p next) 0 p.pages (all_stars p f)))
      (first_unsound_lem p g f 0 p.pages)
      page
      next
      (replaced p.places f 0 (pages (hash_of p next) 0 p.pages (all_stars p f)))

module _ (p : Parameters) (v : valid_parameters p ≡ true) (bad spot : ℕ) where
  pub verdict_is : checked (verdict_checked_lem (verdict_of p bad spot) p.places) ≡ checked_at p bad spot
  unfolding verdict_of checked_at checked refused_by
  verdict_is = go (ltb bad p.pages) (ltb spot (p.pages * suc p.places))
    where
      go : (t u : Bool)
          → checked (verdict_checked_lem (cond t (verdict·Unsound bad) (cond u (Differs (spot / suc p.places) (spot % suc p.places)) Clean)) p.places)
          ≡ cond t (spotted 5 bad p.places) (cond u (spotted 5 (spot / suc p.places) (spot % suc p.places)) (accepted 0))
      go true u = refl
      go false true = refl
      go false false = refl

  pub verdict_small : VerdictSmall (verdict_of p bad spot)
  unfolding verdict_of
  verdict_small = go (ltb bad p.pages) refl (ltb spot (p.pages * suc p.places)) refl
    where
      go : (t : Bool)
          → ltb bad p.pages ≡ t
          → (u : Bool)
          → ltb spot (p.pages * suc p.places) ≡ u
          → VerdictSmall (cond t (verdict·Unsound bad) (cond u (Differs (spot / suc p.places) (spot % suc p.places)) Clean))
      go true e u d = omega (arith, ltb-true bad p.pages e, (limits p v).pages_most)
      go false e true d = (
        omega (arith, (div-lt_iff_lt-mul {k = suc p.places} {x = spot} {y = p.pages} (omega arith)).1 (ltb-true spot (p.pages * suc p.places) d), (limits p v).pages_most),
        omega (arith, mod-lt spot {m = suc p.places} (omega arith), (limits p v).places_most),
      )
      go false e false d = tt
