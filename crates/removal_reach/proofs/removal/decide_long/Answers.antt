use mathlib.Core.Path.{◌≡◌, refl, ◌∙◌}
use mathlib.Core.List.{List}
use Prim.Native.Nat.{ℕ, ◌+◌, ◌-◌, ◌*◌}
use native.Mathlib.Omega.{arith}
use lib.ListN.{length}
use Rattle.hashing.proofs.Bounds.{limits}
use Rattle.placement.specs.File.{File}
use Rattle.placement.specs.Hash.{lent}
use Rattle.page_separator.specs.Lists.{all}
use Rattle.removal_reach.specs.Stretch.{StretchReady}
use Rattle.removal_reach.proofs.Ruled.{stars-fit}
use Rattle.removal_reach.proofs.Removing.{Reached, star-reached, removal_refused, removal_plannable, rest-kept, rest-ruled, removal_decided}
use Rattle.removal_reach.proofs.removal.decide_long.Lts as lts
use Rattle.removal_reach.proofs.removal.decide_long.Tie as tie
use Rattle.removal_reach.proofs.removal.decide_long.Reads as reads
use Rattle.removal_reach.proofs.removal.decide_long.Goals as goal
use Rattle.removal_reach.proofs.removal.decide_long.Goals.{Start}

abbrev Else-bad-stop : Type 0
Else-bad-stop = lts.Else1 tie.the-claims reads.Pre reads.Post tie.handed_clauses

abbrev After-plan_changed-changed : Type 0
After-plan_changed-changed = lts.After-plan_changed tie.the-claims reads.Pre reads.Post tie.handed_clauses

abbrev file : Start → File
file s = lent s.args.separators.now s.args.numbers.now s.args.words.now s.args.owners.now

-- the reach
reach : (s : Start) → Reached s.args.geometry.parameters s.args.geometry.growth (file s) s.args.star.number s.args.star.home s.args.last
reach s = star-reached s.requires.removes s.args.last s.requires.last_value

-- past the survey
abbrev begun : Else-bad-stop → Start
begun c = c.before.before.before.before.before.before.before.before.before.before.before.before.before.before

abbrev homes : Else-bad-stop → List ℕ
homes c = c.survey_pages-bad.new.homes

homes-long : (c : Else-bad-stop) → length (homes c) ≡ (begun c).args.geometry.parameters.pages * (begun c).args.geometry.parameters.places
homes-long c = c.survey_pages-bad.auto.homes ∙ (begun c).requires.pool_len.0

ready : (c : Else-bad-stop)
    → StretchReady (begun c).args.geometry.parameters (begun c).args.star.home ((begun c).args.last + 1 - (begun c).args.star.home) (file (begun c)) (homes c) (begun c).args.waiting.now (begun c).args.waiting.now
ready c =
    let s = begun c in
    let pre = s.requires in
    let surveyed = c.survey_pages-bad in
    removal_plannable _ _ _ _ _ _ (reach s) pre.removes.ready.homing.valid pre.removes.ready.sized _ surveyed.ensures.value c.if-bad-stop.false _ _ pre.pool_len.0
    (homes-long c) surveyed.ensures.homes_after _ _ pre.pool_len.1 pre.pool_len.1

pub overflow_add-stop : goal.overflow_add-stop
overflow_add-stop c = let s = c.before.before.before.before.before.before.before.before.before.before in omega (arith, (reach s).inside, (limits _ s.requires.removes.ready.homing.valid).pages_most)

pub survey_pages-bad-requires : goal.survey_pages-bad-requires
survey_pages-bad-requires c =
    let s = c.before.before.before.before.before.before.before.before.before.before.before in
    record {
      ready = s.requires.removes.ready;
      homes_len = s.requires.pool_len.0;
      from_le_stop = omega (arith, (reach s).order);
      stop_le_pages = omega (arith, (reach s).inside);
      known = s.requires.known;
    }

pub returns-then-bad-stop : goal.returns-then-bad-stop
returns-then-bad-stop c =
    let s = c.before.before.before.before.before.before.before.before.before.before.before.before.before.before.before in
    let done = removal_refused _ _ _ _ _ _ (reach s) s.args.star.page _ c.survey_pages-bad.ensures.value c.if-bad-stop.true in
    record { answers = done.0; files = done.1; feasible = tt }

pub overflow_sub-count : goal.overflow_sub-count
overflow_sub-count c = omega (arith, (reach (begun c.before)).order)

pub plan_changed-changed-requires : goal.plan_changed-changed-requires
unfolding all
plan_changed-changed-requires c =
    let d = c.before.before.before.before in
    let s = begun d in
    let L = ready d in
    record {
      valid = s.requires.removes.ready.homing.valid;
      some = L.some;
      pages = L.pages_most;
      of_planned = omega (arith, (reach s).order, (reach s).inside, s.requires.pages_in_bounds);
      of_numbers = L.numbers_long;
      of_pool = L.pool_long;
      numbered = L.valid;
      within = L.within;
      room = stars-fit _ _ _ _ _ _ _ L _;
      few = L.waiting-most;
      near = refl;
    }

-- past the front's plan
abbrev told : After-plan_changed-changed → Else-bad-stop
told c = c.before.before.before.before

abbrev start : After-plan_changed-changed → Start
start c = begun (told c)

pub overflow_add-from : goal.overflow_add-from
overflow_add-from c =
    let d = c.before.before.before.before.before.before.before in
    let s = start d in
    record { fits = omega (arith, d.plan_changed-changed.ensures.high, (reach s).order, (reach s).inside, (limits _ s.requires.removes.ready.homing.valid).pages_most) }

pub first_raisable-requires : goal.first_raisable-requires
first_raisable-requires c =
    let d = c.before.before.before.before.before.before.before in
    let s = start d in
    let pre = s.requires in
    let surveyed = (told d).survey_pages-bad in
    let R = reach s in record {
      parameters_value = pre.removes.ready.homing.valid;
      homed = record {
        separators = pre.removes.ready.sized.of_separators;
        numbers = pre.removes.ready.sized.of_numbers;
        homes = d.plan_changed-changed.auto.pool ∙ homes-long (told d);
        low = omega (arith, d.plan_changed-changed.ensures.high, R.order);
        high = omega (arith, R.inside);
        kept =
            rest-kept _ _ _ _ _ _ R pre.removes.ready.homing.valid pre.removes.ready.sized _ surveyed.ensures.value (told d).if-bad-stop.false _ _ pre.pool_len.0 (homes-long (told d)) surveyed.ensures.homes_after
            _ _ _ _ d.plan_changed-changed.ensures;
      };
    }

pub returns-then-first_raisable-stop : goal.returns-then-first_raisable-stop
returns-then-first_raisable-stop c =
    let d = c.before.before.before.before.before.before.before.before.before in
    let s = start d in
    let pre = s.requires in
    let surveyed = (told d).survey_pages-bad in
    let C = d.plan_changed-changed.ensures in
    removal_decided _ _ _ _ _ _ (reach s) pre.removes.ready.homing.valid pre.removes.ready.sized _ surveyed.ensures.value (told d).if-bad-stop.false _ _ pre.pool_len.0 (homes-long (told d)) surveyed.ensures.homes_after
    s.args.star.page _ s.args.planned.now _ _ pre.pages_in_bounds (omega (arith, pre.pages_in_bounds, d.plan_changed-changed.auto.planned)) C
    (λ h.
    rest-ruled _ _ _ _ _ _ (reach s) pre.removes.ready.homing.valid pre.removes.ready.sized _ surveyed.ensures.value (told d).if-bad-stop.false _ _ pre.pool_len.0 (homes-long (told d)) surveyed.ensures.homes_after
    d.plan_changed-changed.result _ C.high c.first_raisable.ensures c.if-first_raisable-stop.true)

pub decide_whole-requires : goal.decide_whole-requires
decide_whole-requires c =
    let d = c.before.before.before.before.before.before.before.before.before.before.before.before.before in
    let s = start d in record {
      removes = s.requires.removes;
      pool_len = (d.plan_changed-changed.auto.pool ∙ homes-long (told d), d.plan_changed-changed.auto.waiting ∙ s.requires.pool_len.1);
      pages_in_bounds = omega (arith, s.requires.pages_in_bounds, d.plan_changed-changed.auto.planned);
      last_value = s.requires.last_value;
      known = record { sound = λ h. absurd (omega arith); kept = λ h. absurd (omega arith) };
    }

pub shape_of-pool : goal.shape_of-pool
shape_of-pool c =
    let d = c.before.before.before.before.before.before.before.before.before.before.before.before.before.before.before.before.before.before.before.before in
    c.decide_whole.auto.pool ∙ d.plan_changed-changed.auto.pool ∙ (told d).survey_pages-bad.auto.homes

pub shape_of-waiting : goal.shape_of-waiting
shape_of-waiting c =
    let d = c.before.before.before.before.before.before.before.before.before.before.before.before.before.before.before.before.before.before.before.before in
    c.decide_whole.auto.waiting ∙ d.plan_changed-changed.auto.waiting

pub shape_of-planned : goal.shape_of-planned
shape_of-planned c =
    let d = c.before.before.before.before.before.before.before.before.before.before.before.before.before.before.before.before.before.before.before.before in
    c.decide_whole.auto.planned ∙ d.plan_changed-changed.auto.planned

pub returns : goal.returns
returns c = c.decide_whole.ensures
