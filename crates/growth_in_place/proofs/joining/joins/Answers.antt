use borrow.Author.Tests.{eq-eqb, ne_eqb}
use Rattle.growth_in_place.specs.Expansion.{joins, joins_at}
use Rattle.growth_in_place.proofs.joining.joins.Goals as goal

pub returns-then-number-eq0 : goal.returns-then-number-eq0
unfolding joins_at
returns-then-number-eq0 c = rw (eq-eqb _ _ c.if-number-eq0.true)

pub home_grown-requires : goal.home_grown-requires
home_grown-requires c =
    record {
      table_value = c.requires.homing.table;
      parameters_value = c.requires.homing.valid;
      growth_value = c.requires.homing.growth;
      value = rw (ne_eqb _ _ c.if-number-eq0.false) at c.requires.home_value;
    }

pub returns : goal.returns
unfolding joins_at joins
returns c = rw (ne_eqb _ _ c.if-number-eq0.false, c.home_grown.ensures, c.requires.added_value)
