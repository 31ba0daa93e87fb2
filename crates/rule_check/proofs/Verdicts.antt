-- What the survey and the search tell, as a verdict.
use mathlib.Core.Path.{◌≡◌, sym, ap, ◌∙◌}
use mathlib.Core.Bool.{not}
use Prim.Native.Nat.{ℕ, suc, ◌+◌, ◌-◌, ◌*◌, ◌≤◌, ◌<◌}
use native.Mathlib.Nat.{mul-le-mul_right}
use native.Mathlib.Omega.{arith}
use borrow.Author.Tests.{lt-ltb, le-ltb}
use Rattle.hashing.specs.declared.Parameters.{Parameters}
use Rattle.hashing.specs.declared.Growth.{Growth}
use Rattle.placement.specs.File.{File}
use Rattle.placement.specs.Hash.{sound_at}
use Rattle.reach.specs.Reach.{first_unsound_lem}
use Rattle.reach.proofs.Search.{such}
use Rattle.rule_check.specs.declared.telling.Verdict.TheVariants.{Clean, Differs, Unsound}
use Rattle.rule_check.specs.Verdicts.{verdict_of}
use Rattle.calls.proofs.Spots.{spot_page, spot_place, spot_within}

-- the survey of all pages
pub surveyed : (p : Parameters) (g : Growth) (f : File) (r : ℕ) → r ≡ first_unsound_lem p g f 0 (p.pages - 0) → first_unsound_lem p g f 0 p.pages ≡ r
surveyed p g f r e =
    let all_of : p.pages - 0 ≡ p.pages = omega arith in
    sym (e ∙ ap (first_unsound_lem p g f 0) all_of)

pub surveyed-sound : (p : Parameters) (g : Growth) (f : File) (r : ℕ) → r ≡ first_unsound_lem p g f 0 (p.pages - 0) → p.pages ≤ r → r ≡ p.pages
unfolding first_unsound_lem
surveyed-sound p g f r e h =
    omega (arith, surveyed p g f r e, (such (λ (q : ℕ). not (sound_at p g f q)) 0 p.pages).high)

pub told-unsound : (p : Parameters) (bad spot r : ℕ) → bad ≡ r → r < p.pages → Unsound r ≡ verdict_of p bad spot
unfolding verdict_of
told-unsound p bad spot r e h = rw (e, lt-ltb r p.pages h)

module _ (p : Parameters) (bad spot page place : ℕ) (sound : bad ≡ p.pages) (e : page * suc p.places + place ≡ spot) where
  pub told-differs : page < p.pages → place ≤ p.places → Differs page place ≡ verdict_of p bad spot
  unfolding verdict_of
  told-differs h k =
      rw (
        sound,
        ← e,
        le-ltb p.pages p.pages (omega arith),
        lt-ltb (page * suc p.places + place) (p.pages * suc p.places) (spot_within p.pages p.places page place h k),
        spot_page p.places page place k,
        spot_place p.places page place k,
      )

  pub told-clean : p.pages ≤ page → Clean ≡ verdict_of p bad spot
  unfolding verdict_of
  told-clean h =
      rw (
        sound,
        ← e,
        le-ltb p.pages p.pages (omega arith),
        le-ltb (page * suc p.places + place) (p.pages * suc p.places) (omega (arith, mul-le-mul_right (suc p.places) h)),
      )
