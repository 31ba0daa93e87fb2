-- Opening a growth and its steps, by the whole growth that the code plans anew in each.
use mathlib.Core.Path.{◌≡◌, refl, sym, ap, ◌∙◌}
use mathlib.Core.Bool.{Bool, true, false, cond, ◌&&◌, false≢true}
use Prim.Native.Nat.{ℕ, suc, ◌≤◌, ◌<◌}
use native.Mathlib.Omega.{arith}
use lib.Dec.{eqb, ltb}
use borrow.Author.Tests.{ne_eqb, ltb-true}
use Rattle.call_guard.proofs.Recorded.{refusal-most}
use Rattle.hashing.specs.declared.Parameters.{Parameters}
use Rattle.hashing.specs.declared.Growth.{Growth}
use Rattle.hashing.specs.Geometry.{grown}
use Rattle.hashing.proofs.Bounds.{both}
use Rattle.placement.specs.Rule.{left}
use Rattle.placement.specs.File.{File, pages_at, replaced}
use Rattle.placement.specs.Shape.{Sized}
use Rattle.placement.specs.Hash.{hash_of}
use Rattle.placement.specs.Ready.{Pooled}
use Rattle.placement.proofs.Prepared.{ready, pool-ready}
use Rattle.reach.specs.Reach.{first_unsound_lem, is_empty, all_stars}
use Rattle.page_plan.specs.declared.outcome.Outcome.{Outcome}
use Rattle.page_plan.specs.declared.outcome.Outcome.TheVariants.{On as outcome·On, Unsound, Overflows}
use Rattle.growth_plan.specs.Growth.{growth_answer, growth_file}
use Rattle.growth_plan.specs.Step.{page_stepped}
use Rattle.std.specs.Prelude.{Result, Ok, Err}
use Rattle.calls.specs.declared.answers.Answer.{Answer}
use Rattle.calls.specs.declared.answers.Grown.{Grown}
use Rattle.calls.specs.declared.answers.Placed.{Placed}
use Rattle.calls.specs.declared.answers.Placed.TheVariants.{On, Refused}
use Rattle.calls.specs.declared.answers.Refusal.{Refusal}
use Rattle.calls.specs.declared.answers.Refusal.TheVariants.{
  BadParameters,
  BadLength,
  BadNumber,
  BadPosition,
  Damaged,
  Held,
  NotHeld,
  Full,
  Ungrown,
  BadHeader,
  BadRows,
  ShortOutput,
  NotOwner,
  TrayFull,
  BadContents,
  OutOfTurn,
}
use Rattle.calls.specs.declared.records.GrowthRecord.{GrowthRecord}
use Rattle.calls.specs.declared.records.Recorded.{Recorded}
use Rattle.calls.specs.Answers.{Pool, refusal_number, refused_by, spotted, placed, cleared}
use Rattle.calls.specs.Shape.{admission_number}
use Rattle.calls.specs.Calls.{file_fits_lem, pool_fits_lem, empty_file_lem, grow_on}
use Rattle.calls.specs.Shape.{Admitted}
use Rattle.calls.specs.Records.{valid_steps, closed_record, open_record, AfterStep, guarded_step, step_refusal, growth_accepted, open_on, step_on, with_page, LeavesStep}
use Rattle.calls.proofs.Numbers.{numbered}
use Rattle.calls.proofs.Refusals.{unlent-facts, sized, pool-sized}
use Rattle.outcome_answer.specs.Outcomes.{outcome_grown, unmoved_by}
use Rattle.call_whole_file.specs.declared.growth.Step.TheVariants.{To, Not}
use Rattle.call_whole_file.specs.Outcomes.{step_of}
use Rattle.call_whole_file.proofs.Stepping.{regrow_refused, regrow_stored}
use Rattle.call_guard.specs.Turn.{record_refusal}
use Rattle.starfile.specs.Steps.{open_admitted, step_admitted, StoresStep, GrowsAs, StepsAs, accepted_by, advanced_by}
use Rattle.call_guard.proofs.Turned.{steps_good, good-steps}

-- Whether an answer is accepted

pub on-accepted : {a : Placed} {page place : ℕ} → a ≡ On page place → true ≡ accepted_by a
unfolding placed spotted
on-accepted e = rw e

not_accepted : (r : Refusal) (place : ℕ) → accepted_by (Refused r place) ≡ false
unfolding placed refused_by spotted
not_accepted r place = ne_eqb (refusal_number r) 0 (λ e. omega (arith, numbered r))

pub refused-not : {a : Placed} {r : Refusal} {place : ℕ} → a ≡ Refused r place → false ≡ accepted_by a
refused-not {a} {r} {place} e = rw e (sym (not_accepted r place))

-- The whole growth

stepped-cases : (t u : Bool) (bad page : ℕ) (g next : Growth) (second x : File)
    → cond t second (cond u x second) ≡ cond (accepted_by (outcome_grown (cond t (Unsound bad) (cond u (outcome·On page) Overflows)) g next).answer) x second
unfolding placed refused_by spotted
stepped-cases true u bad page g next second x = refl
stepped-cases false true bad page g next second x = refl
stepped-cases false false bad page g next second x = refl

kept-unless : (t : Bool) (x second : File) → t ≡ false → second ≡ cond t x second
kept-unless t x second e = rw e

module _ (p : Parameters) (g : Growth) (f : File) where
  -- the page that is written, by the answer
  page-by : (to next : Growth) (page step : ℕ) (second : File)
      → page_stepped p g f to second step
      ≡ cond (accepted_by (outcome_grown (growth_answer p g f to page) g next).answer) (replaced p.places second step (pages_at p.places (growth_file p g f to) step 1)) second
  unfolding page_stepped growth_answer
  page-by to next page step second =
      stepped-cases
      (ltb (first_unsound_lem p g f 0 p.pages) p.pages)
      (is_empty (left (hash_of p to) 0 p.pages (all_stars p f)))
      (first_unsound_lem p g f 0 p.pages)
      page
      g
      next
      second
      (replaced p.places second step (pages_at p.places (growth_file p g f to) step 1))

  pub growth_refused : {r : Refusal} {a : Grown} → step_of false p g ≡ Not r → a ≡ unmoved_by g r → GrowsAs p g f a
  growth_refused e told pool =
      let t = regrow_refused false p g f pool e told in
      (t.0.answers, t.1)

  pub page-kept : (second : File) (step : ℕ) {r : Refusal} → step_of false p g ≡ Not r → StepsAs p g f second step second
  page-kept second step {r} e pool =
      let t = regrow_refused false p g f pool {r = r} {a = unmoved_by g r} e refl in
      kept-unless _ _ second (sym (ap (λ (a : Answer). eqb a.refusal 0) t.0.answers) ∙ not_accepted r 0)

  module _ {next : Growth} {page : ℕ} (e : step_of false p g ≡ To next page) where
    pub growth_planned : {r : Outcome} {a : Grown} → r ≡ growth_answer p g f (grown p g) page → a ≡ outcome_grown r g next → GrowsAs p g f a
    growth_planned answered told pool =
        let t = regrow_stored false p g e f pool {f' = growth_file p g f (grown p g)} answered refl told in
        (t.0.answers, t.1)

    pub page-stepped : (second : File) (step : ℕ) {left : File} → left ≡ page_stepped p g f (grown p g) second step → StepsAs p g f second step left
    page-stepped second step is pool =
        let r : Outcome = growth_answer p g f (grown p g) page in
        let t = regrow_stored false p g e f pool {f' = growth_file p g f (grown p g)} {r = r} {a = outcome_grown r g next} refl refl refl in
        is
        ∙ (page-by (grown p g) next page step second
        ∙ (ap (λ (a : Answer). cond (eqb a.refusal 0) (replaced p.places second step (pages_at p.places (growth_file p g f (grown p g)) step 1)) second) t.0.answers
        ∙ ap (λ (x : File). cond (eqb (grow_on p g f pool).answer.refusal 0) (replaced p.places second step (pages_at p.places x step 1)) second) t.0.files))

accepts : (p : Parameters) (g : Growth) (f : File) (a : Grown) {t : Bool} → GrowsAs p g f a → accepted_by a.answer ≡ t → (pool : Pool) → eqb (grow_on p g f pool).answer.refusal 0 ≡ t
accepts p g f a grows e pool = sym (ap (λ (x : Answer). eqb x.refusal 0) (grows pool).0) ∙ e

-- Past refusals 1 and 2

pool-cases : (t : Bool) (a b : AfterStep) (pool : Pool) → a.pool ≡ pool → b.pool ≡ pool → (cond t a b).pool ≡ pool
pool-cases true a b pool ea eb = ea
pool-cases false a b pool ea eb = eb

pub steps_below : (p : Parameters) (r : GrowthRecord) → valid_steps p r ≡ true → r.growing ≡ true → r.steps < p.pages
unfolding valid_steps
steps_below p r = go r.growing
  where
    go : (t : Bool) → cond t (ltb r.steps p.pages) (eqb r.steps 0) ≡ true → t ≡ true → r.steps < p.pages
    go true v g = ltb-true r.steps p.pages v
    go false v g = absurd (false≢true g)

module _ (p : Parameters) (r : GrowthRecord) (f second : File) where
  pub open_late : r.growing ≡ true → (pool : Pool) → StoresStep (open_admitted p r f second pool) (record { answer = Refused OutOfTurn 0; growth = r }) second
  unfolding placed refused_by
  open_late e pool = rw e (record { answers = refl; growths = refl; seconds = refl })

  pub open_refused : (a : Grown) → r.growing ≡ false → GrowsAs p r.state f a → accepted_by a.answer ≡ false → (pool : Pool)
      → StoresStep (open_admitted p r f second pool) (record { answer = a.answer; growth = r }) second
  unfolding open_on
  open_refused a e grows fails pool = rw (e, accepts p r.state f a grows fails pool) (record { answers = (grows pool).0; growths = refl; seconds = refl })

  pub open_accepted : (a : Grown) {left : File} → r.growing ≡ false → GrowsAs p r.state f a → accepted_by a.answer ≡ true → left ≡ empty_file_lem p → (pool : Pool)
      → StoresStep (open_admitted p r f second pool) (record { answer = On 0 0; growth = open_record r.state 0 }) left
  unfolding open_on placed
  open_accepted a e grows took is pool = rw (e, accepts p r.state f a grows took pool) (record { answers = refl; growths = refl; seconds = is })

  pub open_pool : (pool : Pool) → (open_admitted p r f second pool).pool ≡ pool
  unfolding open_on
  open_pool pool = pool-cases r.growing _ _ pool refl (pool-cases (growth_accepted p r f pool) _ _ pool refl refl)

  pub step-late : r.growing ≡ false → (pool : Pool) → StoresStep (step_admitted p r f second pool) (record { answer = Refused OutOfTurn 0; growth = r }) second
  unfolding placed refused_by
  step-late e pool = rw e (record { answers = refl; growths = refl; seconds = refl })

  pub step-advanced : (a : Grown) {x : Recorded} {left : File} → r.growing ≡ true → GrowsAs p r.state f a → StepsAs p r.state f second r.steps left → x ≡ advanced_by p r a → (pool : Pool)
      → StoresStep (step_admitted p r f second pool) x left
  unfolding step_on with_page advanced_by placed
  step-advanced a {x} {left} e grows steps told pool = go (accepted_by a.answer) refl (eqb (suc r.steps) p.pages) refl
    where
      go : (t : Bool) → accepted_by a.answer ≡ t → (u : Bool) → eqb (suc r.steps) p.pages ≡ u → StoresStep (step_admitted p r f second pool) x left
      go true took true last =
          let is = accepts p r.state f a grows took pool in
          let paged = rw (is) at (steps pool) in
          rw (told, e, is, took, last) (record { answers = (grows pool).0; growths = ap (λ (g : Growth). closed_record g) (grows pool).1; seconds = paged })
      go true took false last =
          let is = accepts p r.state f a grows took pool in
          let paged = rw (is) at (steps pool) in
          rw (told, e, is, took, last) (record { answers = refl; growths = refl; seconds = paged })
      go false fails u last =
          let is = accepts p r.state f a grows fails pool in
          let same = rw (is) at (steps pool) in
          rw (told, e, is, fails) (record { answers = (grows pool).0; growths = refl; seconds = same })

  pub step-pool : (pool : Pool) → (step_admitted p r f second pool).pool ≡ pool
  unfolding step_on
  step-pool pool =
      pool-cases r.growing _ _ pool (pool-cases (growth_accepted p r f pool) _ _ pool (pool-cases (eqb (suc r.steps) p.pages) _ _ pool refl refl) refl) refl

-- Refusals 1 and 2

module _ (r : GrowthRecord) (second : File) (pool : Pool) (after : AfterStep) where
  early : (a : Refusal) → refusal_number a ≤ 2 → LeavesStep (guarded_step r second pool (refusal_number a) after) (record { answer = Refused a 0; growth = r }) second pool
  unfolding placed refused_by
  early BadParameters h = record { answers = refl; growths = refl; seconds = refl; pools = refl }
  early BadLength h = record { answers = refl; growths = refl; seconds = refl; pools = refl }
  early BadNumber h = absurd (omega arith)
  early BadPosition h = absurd (omega arith)
  early (Damaged page) h = absurd (omega arith)
  early Held h = absurd (omega arith)
  early NotHeld h = absurd (omega arith)
  early Full h = absurd (omega arith)
  early Ungrown h = absurd (omega arith)
  early BadHeader h = absurd (omega arith)
  early BadRows h = absurd (omega arith)
  early ShortOutput h = absurd (omega arith)
  early NotOwner h = absurd (omega arith)
  early TrayFull h = absurd (omega arith)
  early BadContents h = absurd (omega arith)
  early OutOfTurn h = absurd (omega arith)

  numbered-early : (a : Refusal) (n : ℕ) → refusal_number a ≡ n → n ≤ 2 → LeavesStep (guarded_step r second pool n after) (record { answer = Refused a 0; growth = r }) second pool
  numbered-early a n e h = rw (← e) (early a (rw e h))

  pub step-done : {n : ℕ} {x : Recorded} {left : File} {zeroed : Pool} → n ≡ 0 → StoresStep after x left → after.pool ≡ cleared pool → zeroed ≡ cleared pool → LeavesStep (guarded_step r second pool n after) x left zeroed
  step-done e s l z = rw e (record { answers = s.answers; growths = s.growths; seconds = s.seconds; pools = z ∙ sym l })

module _ (p : Parameters) (r : GrowthRecord) (f second : File) (pool : Pool) where
  abbrev lengths : Bool
  lengths = file_fits_lem p f && (file_fits_lem p second && pool_fits_lem p pool)

  refusal_is : step_refusal p r f second pool ≡ record_refusal p r lengths
  unfolding step_refusal record_refusal
  refusal_is = refl

  pub step-turned : (after : AfterStep) {a : Result (Unit {0}) Refusal} {fits : Bool} {x : Refusal} → admission_number a ≡ record_refusal p r fits → fits ≡ lengths → a ≡ Err x
      → LeavesStep (guarded_step r second pool (step_refusal p r f second pool) after) (record { answer = Refused x 0; growth = r }) second pool
  step-turned after {x = x} e l t =
      numbered-early r second pool after x (step_refusal p r f second pool)
      (sym (ap admission_number t) ∙ (e ∙ (ap (record_refusal p r) l ∙ sym refusal_is)))
      (rw refusal_is (refusal-most p r lengths))

  pub step-passed : {a : Result (Unit {0}) Refusal} {fits : Bool} → admission_number a ≡ record_refusal p r fits → fits ≡ lengths → a ≡ Ok tt → step_refusal p r f second pool ≡ 0
  step-passed e l t = refusal_is ∙ (sym (ap (record_refusal p r) l) ∙ (sym e ∙ ap admission_number t))

  pub step-lent : step_refusal p r f second pool ≡ 0 → Admitted p r.state f × (Sized p.places p.pages second × (Pooled p pool.numbers pool.words pool.owners × (valid_steps p r ≡ true)))
  step-lent e =
      let none = sym refusal_is ∙ e in
      let good = steps_good p r lengths none in
      let t = unlent-facts p r.state lengths (sym (good-steps p r lengths good) ∙ none) in
      let v = both _ _ t.0 in
      let l = both _ _ t.1 in
      let m = both _ _ l.1 in
      (ready refl v.0 v.1 (sized p f l.0), (sized p second m.0, (pool-ready (pool-sized p pool m.1), good)))
