use borrow.Author.Tests.{eq-eqb, ne_eqb}
use Rattle.home_update.proofs.items.item_shrunk.Goals as goal

pub returns-then-number-eq0 : goal.returns-then-number-eq0
returns-then-number-eq0 c = rw (eq-eqb _ _ c.if-number-eq0.true)

pub home_shrunk-requires : goal.home_shrunk-requires
home_shrunk-requires c =
    let pre = c.requires in
    record {
      table_value = pre.homing.table;
      parameters_value = pre.homing.valid;
      growth_value = pre.homing.growth;
      growth_value_2 = pre.growth_value;
      value = rw (ne_eqb _ _ c.if-number-eq0.false) at pre.value;
    }

pub returns : goal.returns
returns c = rw (ne_eqb _ _ c.if-number-eq0.false) c.home_shrunk.ensures
