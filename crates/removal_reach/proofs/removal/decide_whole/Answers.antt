use mathlib.Core.Path.{refl, ◌∙◌}
use Prim.Native.Nat.{◌+◌, ◌-◌}
use native.Mathlib.Omega.{arith}
use Rattle.hashing.proofs.Bounds.{limits}
use Rattle.placement.specs.File.{File}
use Rattle.placement.specs.Hash.{lent}
use Rattle.page_separator.specs.Lists.{all}
use Rattle.removal_reach.specs.Stretch.{StretchReady}
use Rattle.removal_reach.proofs.Ruled.{stars-fit}
use Rattle.removal_reach.proofs.Counted.{whole-changed}
use Rattle.removal_reach.proofs.Removing.{Reached, star-reached, removal_refused, removal_plannable, removal_decided}
use Rattle.removal_reach.proofs.removal.decide_whole.Lts as lts
use Rattle.removal_reach.proofs.removal.decide_whole.Tie as tie
use Rattle.removal_reach.proofs.removal.decide_whole.Reads as reads
use Rattle.removal_reach.proofs.removal.decide_whole.Goals as goal
use Rattle.removal_reach.proofs.removal.decide_whole.Goals.{Start}

abbrev Else-bad-stop : Type 0
Else-bad-stop = lts.Else1 tie.the-claims reads.Pre reads.Post tie.handed_clauses

abbrev file : Start → File
file s = lent s.args.separators.now s.args.numbers.now s.args.words.now s.args.owners.now

-- the reach
reach : (s : Start) → Reached s.args.geometry.parameters s.args.geometry.growth (file s) s.args.star.number s.args.star.home s.args.last
reach s = star-reached s.requires.removes s.args.last s.requires.last_value

-- past the survey
abbrev begun : Else-bad-stop → Start
begun c = c.before.before.before.before.before.before.before.before.before.before.before.before.before

ready : (c : Else-bad-stop)
    → StretchReady (begun c).args.geometry.parameters (begun c).args.star.home ((begun c).args.last + 1 - (begun c).args.star.home) (file (begun c)) c.survey_pages-bad.new.homes (begun c).args.waiting.now (begun c).args.waiting.now
ready c =
    let s = begun c in
    let pre = s.requires in
    let surveyed = c.survey_pages-bad in
    removal_plannable _ _ _ _ _ _ (reach s) pre.removes.ready.homing.valid pre.removes.ready.sized _ surveyed.ensures.value c.if-bad-stop.false _ _ pre.pool_len.0
    (surveyed.auto.homes ∙ pre.pool_len.0) surveyed.ensures.homes_after _ _ pre.pool_len.1 pre.pool_len.1

pub overflow_add-stop : goal.overflow_add-stop
overflow_add-stop c = let s = c.before.before.before.before.before.before.before.before.before in omega (arith, (reach s).inside, (limits _ s.requires.removes.ready.homing.valid).pages_most)

pub survey_pages-bad-requires : goal.survey_pages-bad-requires
survey_pages-bad-requires c =
    let s = c.before.before.before.before.before.before.before.before.before.before in
    record {
      ready = s.requires.removes.ready;
      homes_len = s.requires.pool_len.0;
      from_le_stop = omega (arith, (reach s).order);
      stop_le_pages = omega (arith, (reach s).inside);
      known = s.requires.known;
    }

pub returns-then-bad-stop : goal.returns-then-bad-stop
returns-then-bad-stop c =
    let s = c.before.before.before.before.before.before.before.before.before.before.before.before.before.before in
    let done = removal_refused _ _ _ _ _ _ (reach s) s.args.star.page _ c.survey_pages-bad.ensures.value c.if-bad-stop.true in
    record { answers = done.0; files = done.1; feasible = tt }

pub overflow_sub-count : goal.overflow_sub-count
overflow_sub-count c = omega (arith, (reach (begun c.before)).order)

pub plan-requires : goal.plan-requires
unfolding all
plan-requires c =
    let d = c.before.before.before.before.before in
    let s = begun d in
    let L = ready d in record {
      parameters_value = s.requires.removes.ready.homing.valid;
      count_nonzero = (L.some, (L.pages_most, omega (arith, (reach s).order, (reach s).inside, s.requires.pages_in_bounds)));
      places_in_bounds = (L.numbers_long, L.pool_long);
      numbers_value = L.valid;
      pool_value = L.within;
      numbers_in_bounds = (stars-fit _ _ _ _ _ _ _ L _, L.waiting-most);
      waiting_value = refl;
    }

pub returns : goal.returns
returns c =
    let d = c.before.before.before.before.before.before.before.before.before.before.before.before in
    let s = begun d in
    let pre = s.requires in
    let surveyed = d.survey_pages-bad in
    let plan = c.plan in
    removal_decided _ _ _ _ _ _ (reach s) pre.removes.ready.homing.valid pre.removes.ready.sized _ surveyed.ensures.value d.if-bad-stop.false _ _ pre.pool_len.0
    (surveyed.auto.homes ∙ pre.pool_len.0) surveyed.ensures.homes_after s.args.star.page _ s.args.planned.now _ _ pre.pages_in_bounds (omega (arith, pre.pages_in_bounds, plan.auto.planned))
    (whole-changed _ _ _ _ _ _ _ _ _ _ _ plan.ensures) (λ h. absurd (omega arith))
