-- As page_plan's plan_pages: the words gathered stand in groups, and their plan is that of the stretch's words.
use mathlib.Core.Path.{◌≡◌, refl, ap, ◌∙◌}
use mathlib.Core.List.{List}
use Prim.Native.Nat.{ℕ, suc, ◌+◌, ◌-◌, ◌*◌, ◌≤◌}
use native.Mathlib.Omega.{arith}
use lib.ListN.{length, get_or}
use lib.Seq.{slice}
use Rattle.pages.specs.Shape.{stretch}
use Rattle.hashing.proofs.Bounds.{limits}
use Rattle.page_separator.specs.Lists.{all}
use Rattle.page_plan.specs.Gather.{stretch_words, grouped}
use Rattle.page_plan.specs.Plans.{Started, end_of}
use Rattle.page_plan.proofs.Items.{words_count}
use Rattle.page_plan.proofs.Sourcing.{length-stretch}
use Rattle.page_plan.proofs.Stretch.{started, ends_last, stands, started-again}
use Rattle.removal_reach.proofs.Counted.{changed-again}
use Rattle.removal_reach.proofs.changed.plan_changed.Lts as lts
use Rattle.removal_reach.proofs.changed.plan_changed.Tie as tie
use Rattle.removal_reach.proofs.changed.plan_changed.Reads as reads
use Rattle.removal_reach.proofs.changed.plan_changed.Goals as goal
use Rattle.removal_reach.proofs.changed.plan_changed.Goals.{Start}

abbrev After-gather : Type 0
After-gather = lts.After-gather tie.the-claims reads.Pre reads.Post tie.handed_clauses

-- the stretch's words
abbrev L : Start → List ℕ
L s =
    let a = s.args in
    stretch_words a.parameters.places a.lo a.count a.without a.numbers.now a.pool.now

enough : (s : Start) → 0 + length (L s) ≤ length s.args.waiting.now
enough s =
    let a = s.args in
    let p = s.requires in
    let ln = length-stretch a.parameters.places a.lo a.count a.numbers.now p.of_numbers in
    let lh = length-stretch a.parameters.places a.lo a.count a.pool.now p.of_pool in
    rw
    (words_count (a.lo * a.parameters.places) a.without (stretch a.parameters.places a.lo a.count a.numbers.now) (stretch a.parameters.places a.lo a.count a.pool.now)
    (omega (arith, ln, lh)))
    p.room

abbrev start : After-gather → Start
start c = c.before.before.before.before.before.before.before.before

abbrev W : After-gather → List ℕ
W c = c.gather.new.waiting

abbrev ends : After-gather → List ℕ
ends c = c.gather.new.ends

ready : (c : After-gather) → Started (start c).args.lo (start c).args.count 0 (L (start c)) (W c) (ends c)
ready c = started _ _ _ _ (start c).args.waiting.now _ _ c.gather.ensures.scatters (enough (start c)) c.gather.auto.waiting

end_is : (c : After-gather) → get_or (ends c) ((start c).args.count - 1) 0 ≡ 0 + length (L (start c))
end_is c =
    let a = (start c).args in
    let last : suc (a.count - 1) ≡ a.count = omega (arith, (start c).requires.some) in
    (ready c).ended (a.count - 1) (omega (arith, (start c).requires.some)) ∙ ap (end_of 0 a.lo (L (start c))) last ∙ ends_last _ _ _ _ _ _ (ready c)

in_groups_lem : (c : After-gather)
    → slice 0 (get_or (ends c) ((start c).args.count - 1) 0) (W c) ≡ grouped (start c).args.lo 0 (start c).args.count (L (start c))
in_groups_lem c = ap (λ (n : ℕ). slice 0 n (W c)) (end_is c) ∙ stands _ _ _ _ _ _ (ready c)

pub gather-requires : goal.gather-requires
gather-requires c =
    let p = c.requires in record {
      places_bound = ((limits _ p.valid).places_most, (p.some, p.pages));
      places_in_bounds = (p.of_numbers, p.of_pool);
      numbers_value = p.numbered;
      homes_value = p.within;
      count_in_bounds = (omega (arith, p.pages), omega arith);
      numbers_in_bounds = p.room;
    }

pub settle_changed-requires : goal.settle_changed-requires
unfolding all
settle_changed-requires c =
    let d = c.before.before.before.before.before.before.before.before in
    let s = start d in
    let p = s.requires in record {
      settleable = record {
        valid = p.valid;
        pages = p.pages;
        of_planned = p.of_planned;
        of_pool = p.of_pool;
        of_ends = omega (arith, p.pages, d.gather.auto.ends);
        few = omega (arith, p.few, d.gather.auto.waiting);
        order = omega arith;
        inside = omega (arith, end_is d, enough s, d.gather.auto.waiting);
        grouped_are = rw (in_groups_lem d) (started-again _ _ _ _ _ _ (ready d));
        near = refl;
      };
      places_in_bounds = p.of_numbers;
    }

pub returns : goal.returns
returns c =
    let u = c.before.before.before.before.before.before.before in
    let d = u.before.before.before.before.before.before.before.before in
    changed-again _ _ _ _ _ _ _ _ _ _ (rw (in_groups_lem d) at u.settle_changed.ensures)
