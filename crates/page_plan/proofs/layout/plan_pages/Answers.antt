-- The words gathered stand in groups; their plan is that of the stretch's words.
use mathlib.Core.Path.{◌≡◌, ap, ◌∙◌}
use mathlib.Core.List.{List}
use Prim.Native.Nat.{ℕ, ◌+◌, ◌*◌, ◌≤◌}
use native.Mathlib.Omega.{arith}
use lib.ListN.{length, take}
use lib.Seq.{slice}
use Rattle.pages.specs.Shape.{stretch}
use Rattle.hashing.proofs.Bounds.{limits}
use Rattle.page_plan.specs.Gather.{stretch_words, grouped}
use Rattle.page_plan.proofs.Items.{words_count}
use Rattle.page_plan.specs.Plans.{Started}
use Rattle.page_plan.proofs.Sourcing.{length-stretch}
use Rattle.page_plan.proofs.Stretch.{started, carried_same, stands, started-again, planned-again}
use Rattle.page_plan.proofs.AllPages.{planned-closed}
use Rattle.page_plan.proofs.layout.plan_pages.Lts as lts
use Rattle.page_plan.proofs.layout.plan_pages.Tie as tie
use Rattle.page_plan.proofs.layout.plan_pages.Reads as reads
use Rattle.page_plan.proofs.layout.plan_pages.Goals as goal
use Rattle.page_plan.proofs.layout.plan_pages.Goals.{Start}

abbrev After-gather-end : Type 0
After-gather-end = lts.After-gather tie.the-claims reads.Pre reads.Post tie.handed_clauses

abbrev After-settle_pages-from : Type 0
After-settle_pages-from = lts.After-settle_pages tie.the-claims reads.Pre reads.Post tie.handed_clauses

-- the stretch's words
abbrev L : Start → List ℕ
L s =
    let a = s.args in
    stretch_words a.parameters.places a.lo a.count a.without a.numbers.now a.pool.now

enough : (s : Start) → s.args.carried + length (L s) ≤ length s.args.waiting.now
enough s =
    let a = s.args in
    let p = s.requires.plannable in
    let ln = length-stretch a.parameters.places a.lo a.count a.numbers.now p.of_numbers in
    let lh = length-stretch a.parameters.places a.lo a.count a.pool.now p.of_pool in
    rw
    (words_count (a.lo * a.parameters.places) a.without (stretch a.parameters.places a.lo a.count a.numbers.now) (stretch a.parameters.places a.lo a.count a.pool.now)
    (omega (arith, ln, lh)))
    p.room

abbrev start : After-gather-end → Start
start c = c.before.before.before.before.before.before.before.before.before

abbrev W : After-gather-end → List ℕ
W c = c.gather-end.new.waiting

abbrev ends : After-gather-end → List ℕ
ends c = c.gather-end.new.ends

ready : (c : After-gather-end) → Started (start c).args.lo (start c).args.count (start c).args.carried (L (start c)) (W c) (ends c)
ready c = started _ _ _ _ (start c).args.waiting.now _ _ c.gather-end.ensures.scatters (enough (start c)) c.gather-end.auto.waiting

in_groups_lem : (c : After-gather-end)
    → slice (start c).args.carried c.gather-end.result (W c) ≡ grouped (start c).args.lo 0 (start c).args.count (L (start c))
in_groups_lem c =
    ap (λ (n : ℕ). slice (start c).args.carried n (W c)) c.gather-end.ensures.value ∙ stands _ _ _ _ _ _ (ready c)

-- the words carried in are where they were
carried_here : (c : After-gather-end) → take (start c).args.carried (W c) ≡ take (start c).args.carried (start c).args.waiting.now
carried_here c = carried_same _ _ _ _ _ _ _ c.gather-end.ensures.scatters (enough (start c))

pub gather-end-requires : goal.gather-end-requires
gather-end-requires c =
    let s = c.before.before.before.before.before.before.before.before.before in
    let p = s.requires.plannable in record {
      places_bound = ((limits _ p.valid).places_most, (p.some, p.pages));
      places_in_bounds = (p.of_numbers, p.of_pool);
      numbers_value = p.numbered;
      homes_value = p.within;
      count_in_bounds = (s.requires.count_in_bounds, omega (arith, p.room, p.few));
      numbers_in_bounds = p.room;
    }

pub settle_pages-from-requires : goal.settle_pages-from-requires
settle_pages-from-requires c =
    let d = c.before.before.before.before.before.before.before.before in
    let s = start d in
    let p = s.requires.plannable in record {
      settleable = record {
        valid = p.valid;
        pages = p.pages;
        of_planned = p.of_planned;
        of_pool = p.of_pool;
        of_ends = omega (arith, s.requires.count_in_bounds, d.gather-end.auto.ends);
        few = omega (arith, p.few, d.gather-end.auto.waiting);
        order = omega (arith, d.gather-end.ensures.value);
        inside = omega (arith, d.gather-end.ensures.value, enough s, d.gather-end.auto.waiting);
        grouped_are = rw (in_groups_lem d) (started-again _ _ _ _ _ _ (ready d));
        near = rw (carried_here d) p.near;
      };
      spare_bound = omega (arith, d.gather-end.ensures.value, enough s, p.few);
    }

abbrev gathered : After-settle_pages-from → After-gather-end
gathered u = u.before.before.before.before.before.before.before.before

-- what is carried past the stretch stands within the list
within : (u : After-settle_pages-from) → (gathered u).gather-end.result ≤ length u.settle_pages-from.new.waiting
within u =
    let d = gathered u in
    omega (arith, d.gather-end.ensures.value, enough (start d), d.gather-end.auto.waiting, u.settle_pages-from.auto.waiting)

pub close_up-requires : goal.close_up-requires
close_up-requires c =
    let u = c.before.before.before.before.before.before.before.before in
    (u.settle_pages-from.ensures.inside, within u)

pub returns : goal.returns
returns c =
    let u = c.before.before.before.before.before.before.before.before.before.before.before in
    let d = gathered u in
    let up = c.close_up in
    let planned = planned-closed _ _ _ _ _ _ _ _ _ _ _ _ _ _ (within u) (u.settle_pages-from.ensures.plan (omega arith)) up.ensures.value up.ensures.waiting_after in
    planned-again _ _ _ _ _ _ _ _ _ _ _ (rw (carried_here d, in_groups_lem d) at planned)
