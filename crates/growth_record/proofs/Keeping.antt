-- A refused growth or shrinking leaves the growth state as it was, so what the record keeps is what the call leaves.
use mathlib.Core.Path.{◌≡◌, refl, sym, ap}
use mathlib.Core.Bool.{Bool, true, false, cond, ◌&&◌}
use mathlib.Core.List.{List}
use Prim.Native.Nat.{ℕ, zero, suc, ◌≤◌, ◌-◌}
use native.Mathlib.Omega.{arith}
use lib.Dec.{eqb, ltb}
use Rattle.placement.specs.Hash.{hash_of}
use Rattle.hashing.specs.declared.Parameters.{Parameters}
use Rattle.hashing.specs.declared.Growth.{Growth}
use Rattle.hashing.specs.Geometry.{page_count, highest, grown, is_ungrown, shrunk}
use Rattle.placement.specs.Rule.{Star, pages, left}
use Rattle.placement.specs.File.{File, replaced}
use Rattle.reach.specs.Reach.{first_unsound_lem, is_empty, all_stars}
use Rattle.calls.specs.declared.records.GrowthRecord.{GrowthRecord}
use Rattle.calls.specs.declared.answers.Placed.{Placed}
use Rattle.calls.specs.declared.answers.Placed.TheVariants.{On, Refused}
use Rattle.calls.proofs.Numbers.{numbered}
use Rattle.calls.specs.declared.answers.Answer.{Answer}
use Rattle.calls.specs.Answers.{After, Pool, accepted, refused, spotted, placed, refused_by, refusal_number, cleared}
use Rattle.calls.specs.Records.{valid_steps, unless_open, grow_under, shrink_under, record_after}
use Rattle.calls.specs.Calls.{unless, file_fits_lem, pool_fits_lem, unlent, guarded, unchanged, regrow_to, grow_on, grow_of, shrink_on, shrink_of}
use Rattle.growth_record.specs.Shape.{kept_by}

-- refused, a call left the growth state g
unfoldable pub Keeps : Growth → After → Type 0
Keeps g t = 1 ≤ t.answer.refusal → t.growth ≡ g

-- a new growth state comes with an accepted answer only
replaced-keeps :
    (g next : Growth) (unsound fits : Bool) (damaged full : Answer) (page : ℕ) (f f' : File) (pool : Pool) →
    Keeps g
    (cond unsound
    (unchanged g f pool damaged)
    (cond fits
    (record { answer = accepted page; growth = next; file = f'; pool = pool })
    (unchanged g f pool full)))
unfolding Keeps spotted
replaced-keeps g next true fits damaged full page f f' pool h = refl
replaced-keeps g next false true damaged full page f f' pool h = absurd (omega arith)
replaced-keeps g next false false damaged full page f f' pool h = refl

stopped-keeps : (g : Growth) (stopped : Bool) (f : File) (pool : Pool) (full : Answer) (t : After) → Keeps g t → Keeps g (cond stopped (unchanged g f pool full) t)
unfolding Keeps
stopped-keeps g true f pool full t kept h = refl
stopped-keeps g false f pool full t kept h = kept h

guarded-keeps : (g : Growth) (f : File) (pool : Pool) (n : ℕ) (t : After) → Keeps g t → Keeps g (guarded g f pool n t)
unfolding Keeps
guarded-keeps g f pool zero t kept h = kept h
guarded-keeps g f pool (suc n) t kept h = refl

regrow_keeps : (p : Parameters) (g : Growth) (f : File) (pool : Pool) (next : Growth) (page : ℕ) → Keeps g (regrow_to p g f pool next page)
unfolding regrow_to
regrow_keeps p g f pool next page =
    let bad : ℕ = first_unsound_lem p g f 0 p.pages in
    let stars : List Star = all_stars p f in
    replaced-keeps g next (ltb bad p.pages) (is_empty (left (hash_of p next) 0 p.pages stars)) (refused 5 bad) (refused 8 0) page
    f (replaced p.places f 0 (pages (hash_of p next) 0 p.pages stars)) pool

grow_keeps : (p : Parameters) (g : Growth) (f : File) (pool : Pool) → Keeps g (grow_of p g f pool)
unfolding grow_of
grow_keeps p g f pool =
    guarded-keeps g f pool (unlent p g (file_fits_lem p f && pool_fits_lem p pool)) (grow_on p g f (cleared pool))
    (stopped-keeps g (eqb (highest p g) (p.pages - 1)) f (cleared pool) (refused 8 0) _ (regrow_keeps p g f (cleared pool) (grown p g) (page_count p g)))

shrink_keeps : (p : Parameters) (g : Growth) (f : File) (pool : Pool) → Keeps g (shrink_of p g f pool)
unfolding shrink_of
shrink_keeps p g f pool =
    guarded-keeps g f pool (unlent p g (file_fits_lem p f && pool_fits_lem p pool)) (shrink_on p g f (cleared pool))
    (stopped-keeps g (is_ungrown g) f (cleared pool) (refused 9 0) _ (regrow_keeps p g f (cleared pool) (shrunk p g) (highest p g)))

-- under a record that is not at rest a refusal comes first
under-keeps : (p : Parameters) (r : GrowthRecord) (lengths : Bool) (f : File) (pool : Pool) (t : After) → Keeps r.state t → Keeps r.state (unless_open p r lengths f pool t)
unfolding Keeps
under-keeps p r lengths f pool t kept =
    guarded-keeps r.state f pool (unless (valid_steps p r) 1)
    (cond r.growing (guarded r.state f pool (unlent p r.state lengths) (unchanged r.state f (cleared pool) (refused 16 0))) t)
    (go r.growing)
  where
    go : (going : Bool) → Keeps r.state (cond going (guarded r.state f pool (unlent p r.state lengths) (unchanged r.state f (cleared pool) (refused 16 0))) t)
    go true = guarded-keeps r.state f pool (unlent p r.state lengths) (unchanged r.state f (cleared pool) (refused 16 0)) (λ h. refl)
    go false = kept

pub grow_under-keeps : (p : Parameters) (r : GrowthRecord) (f : File) (pool : Pool) → Keeps r.state (grow_under p r f pool)
unfolding grow_under
grow_under-keeps p r f pool = under-keeps p r (file_fits_lem p f && pool_fits_lem p pool) f pool (grow_of p r.state f pool) (grow_keeps p r.state f pool)

pub shrink_under-keeps : (p : Parameters) (r : GrowthRecord) (f : File) (pool : Pool) → Keeps r.state (shrink_under p r f pool)
unfolding shrink_under
shrink_under-keeps p r f pool = under-keeps p r (file_fits_lem p f && pool_fits_lem p pool) f pool (shrink_of p r.state f pool) (shrink_keeps p r.state f pool)

-- what is kept of an answer and a record that a call leaves is that call's record
pub keeps : (g : GrowthRecord) (t : After) → Keeps g.state t → (answer : Placed) (new : GrowthRecord) → placed answer ≡ t.answer → new ≡ record_after g t → kept_by answer g new ≡ record_after g t
unfolding placed refused_by spotted Keeps
keeps g t kept (On page place) new said grew = grew
keeps g t kept (Refused r place) new said grew =
    let number : refusal_number r ≡ t.answer.refusal = ap (λ (a : Answer). a.refusal) said in
    let same : t.growth ≡ g.state = kept (rw number at (numbered r)) in
    sym (λ i. record { state = same i; growing = g.growing; steps = g.steps })
