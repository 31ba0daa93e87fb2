-- What the definition of growth says of an accepted one.
use mathlib.Core.Path.{◌≡◌, refl, sym, ap, ◌∙◌}
use mathlib.Core.Bool.{Bool, true, false, cond, ◌&&◌}
use mathlib.Core.List.{List, [], ◌∷◌}
use Prim.Native.Nat.{ℕ, zero, suc, ◌-◌, ◌<◌}
use native.Mathlib.Omega.{arith}
use lib.Dec.{ltb, eqb}
use Rattle.hashing.specs.declared.Parameters.{Parameters}
use Rattle.hashing.specs.declared.Growth.{Growth}
use Rattle.hashing.specs.Geometry.{page_count, highest, grown}
use Rattle.hashing.specs.Limits.{valid_parameters, valid_growth}
use Rattle.placement.specs.Rule.{Star, pages, left}
use Rattle.placement.specs.File.{File, gathered, replaced}
use Rattle.placement.specs.Shape.{Sized}
use Rattle.placement.specs.Hash.{hash_of}
use Rattle.placement.specs.Ready.{Ready}
use Rattle.reach.specs.Reach.{is_empty, first_unsound_lem}
use Rattle.backup.proofs.Ranges.{more-pages}
use Rattle.calls.specs.Answers.{Pool, After, accepted, refused, spotted, cleared}
use Rattle.calls.specs.Calls.{unlent, unchanged, guarded, file_fits_lem, pool_fits_lem, regrow_to, grow_on, grow_of}
use Rattle.calls.proofs.Refusals.{admitted-pool}

pub record Accepted (p : Parameters) (g : Growth) (f f' : File) : Type 0 where
  pub parameters : valid_parameters p ≡ true
  pub growth : valid_growth p g ≡ true
  pub sized : Sized p.places p.pages f
  pub more : page_count p g < p.pages
  pub fits : left (hash_of p (grown p g)) 0 p.pages (gathered p.places f 0 p.pages) ≡ []
  pub file : f' ≡ replaced p.places f 0 (pages (hash_of p (grown p g)) 0 p.pages (gathered p.places f 0 p.pages))

-- past the guard, if not refused
past : (g : Growth) (f : File) (pool : Pool) (n : ℕ) (after : After) → (guarded g f pool n after).answer.refusal ≡ 0 → (n ≡ 0) × (guarded g f pool n after ≡ after)
unfolding spotted
past g f pool zero after e = (refl, refl)
past g f pool (suc n) after e = absurd (omega arith)

module _ (p : Parameters) (g : Growth) (f : File) where
  abbrev stars : List Star
  stars = gathered p.places f 0 p.pages

  abbrev grown_file : File
  grown_file = replaced p.places f 0 (pages (hash_of p (grown p g)) 0 p.pages stars)

  grown-to : (pool : Pool) → (regrow_to p g f pool (grown p g) (page_count p g)).answer.refusal ≡ 0
      → (left (hash_of p (grown p g)) 0 p.pages stars ≡ []) × ((regrow_to p g f pool (grown p g) (page_count p g)).file ≡ grown_file)
  unfolding regrow_to spotted
  grown-to pool = go (ltb (first_unsound_lem p g f 0 p.pages) p.pages) (left (hash_of p (grown p g)) 0 p.pages stars)
    where
      go : (t : Bool) (l : List Star)
          → (cond t
          (unchanged g f pool (refused 5 (first_unsound_lem p g f 0 p.pages)))
          (cond (is_empty l)
          (record { answer = accepted (page_count p g); growth = grown p g; file = grown_file; pool = pool })
          (unchanged g f pool (refused 8 0)))
          ).answer.refusal ≡ 0
          → (l ≡ [])
          × ((cond t
          (unchanged g f pool (refused 5 (first_unsound_lem p g f 0 p.pages)))
          (cond (is_empty l)
          (record { answer = accepted (page_count p g); growth = grown p g; file = grown_file; pool = pool })
          (unchanged g f pool (refused 8 0)))
          ).file ≡ grown_file)
      go true l e = absurd (omega arith)
      go false [] e = (refl, refl)
      go false (s ∷ l) e = absurd (omega arith)

  -- the page that growth adds is there
  grown-on : (pool : Pool) → (grow_on p g f pool).answer.refusal ≡ 0
      → (eqb (highest p g) (p.pages - 1) ≡ false) × (left (hash_of p (grown p g)) 0 p.pages stars ≡ []) × ((grow_on p g f pool).file ≡ grown_file)
  unfolding spotted
  grown-on pool = go (eqb (highest p g) (p.pages - 1)) (grown-to pool)
    where
      go : (t : Bool)
          → ((regrow_to p g f pool (grown p g) (page_count p g)).answer.refusal ≡ 0 → (left (hash_of p (grown p g)) 0 p.pages stars ≡ []) × ((regrow_to p g f pool (grown p g) (page_count p g)).file ≡ grown_file))
          → (cond t (unchanged g f pool (refused 8 0)) (regrow_to p g f pool (grown p g) (page_count p g))).answer.refusal ≡ 0
          → (t ≡ false)
          × (left (hash_of p (grown p g)) 0 p.pages stars ≡ [])
          × ((cond t (unchanged g f pool (refused 8 0)) (regrow_to p g f pool (grown p g) (page_count p g))).file ≡ grown_file)
      go true f e = absurd (omega arith)
      go false f e = (refl, (f e).0, (f e).1)

  pub accepted-growth : (pool : Pool) → (grow_of p g f pool).answer.refusal ≡ 0 → Accepted p g f (grow_of p g f pool).file
  unfolding grow_of highest
  accepted-growth pool e =
      let n : ℕ = unlent p g (file_fits_lem p f && pool_fits_lem p pool) in
      let passed : (n ≡ 0) × (guarded g f pool n (grow_on p g f (cleared pool)) ≡ grow_on p g f (cleared pool)) = past g f pool n (grow_on p g f (cleared pool)) e in
      let ready : Ready (record { parameters = p; growth = g }) _ f = (admitted-pool p g f pool passed.0).0 in
      let on = grown-on (cleared pool) (sym (ap (λ (a : After). a.answer.refusal) passed.1) ∙ e) in
      record {
        parameters = ready.homing.valid;
        growth = ready.homing.growth;
        sized = ready.sized;
        more = more-pages p g ready.homing.valid ready.homing.growth on.0;
        fits = on.1;
        file = ap (λ (a : After). a.file) passed.1 ∙ on.2;
      }
