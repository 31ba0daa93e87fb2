use mathlib.Core.Path.{refl, ◌∙◌}
use Rattle.page_separator.specs.Lists.{all}
use Rattle.removal_reach.proofs.Ruled.{stars-fit, stretch-kept, stretch-behind, stretch-placed, applied-lists}
use Rattle.removal_reach.proofs.stretch.replace_stretch.Lts as lts
use Rattle.removal_reach.proofs.stretch.replace_stretch.Tie as tie
use Rattle.removal_reach.proofs.stretch.replace_stretch.Reads as reads
use Rattle.removal_reach.proofs.stretch.replace_stretch.Goals as goal
use Rattle.removal_reach.proofs.stretch.replace_stretch.Goals.{After-apply, Start}

abbrev After-planned-1 : Type 0
After-planned-1 = lts.After-planned tie.the-claims reads.Pre reads.Post tie.handed_clauses

abbrev start : After-planned-1 → Start
start c = c.before.before.before.before.before.before.before.before.before.before

pub plan-left-requires : goal.plan-left-requires
unfolding all
plan-left-requires c =
    let L = (start c.before).requires.stretch_ready in record {
      parameters_value = (start c.before).requires.parameters_value;
      count_nonzero = (L.some, (L.pages_most, L.pages_most));
      places_in_bounds = (L.numbers_long, L.pool_long);
      numbers_value = L.valid;
      pool_value = L.within;
      numbers_in_bounds = (stars-fit _ _ _ _ _ _ _ L _, L.waiting-most);
      waiting_value = refl;
    }

pub shape_of-numbers-then-left-ne0 : goal.shape_of-numbers-then-left-ne0
shape_of-numbers-then-left-ne0 c = refl

pub returns-then-left-ne0 : goal.returns-then-left-ne0
returns-then-left-ne0 c =
    let planned = c.before.before.before.before.before.before.before in
    let L = (start planned.before).requires.stretch_ready in
    let kept = stretch-kept _ _ _ _ _ _ _ L _ _ _ _ _ _ planned.plan-left.ensures c.if-left-ne0.true in
    record {
      value = kept.0;
      owners_value = kept.1;
      pool_unchanged = stretch-behind _ _ _ _ _ _ _ L _ _ _ _ _ _ planned.plan-left.ensures;
    }

pub returns : goal.returns
returns c =
    let applying = c.before.before.before.before.before.before.before.before.before.before.before.before.before.before.before in
    let chosen = applying.before.before.before.before.before.before.before.before.before.before in
    let planned = chosen.before.before.before.before.before.before in
    let L = (start planned.before).requires.stretch_ready in
    let placed = stretch-placed _ _ _ _ _ _ _ L _ _ _ _ _ _ planned.plan-left.ensures chosen.if-left-ne0.false L.pages_most in
    let left = applying.apply.ensures in
    let behind = stretch-behind _ _ _ _ _ _ _ L _ _ _ _ _ _ planned.plan-left.ensures in
    record {
      value = placed.0;
      owners_value = applied-lists _ _ _ _ _ _ _ _ _ _ _ _ _ left.separators_after left.numbers_after left.words_after left.owners_after ∙ placed.1;
      pool_unchanged = left.pool_unchanged ∙ behind;
    }
