use Rattle.growth_plan.proofs.planning.next_home.Goals as goal

pub item_shrunk-requires : goal.item_shrunk-requires
item_shrunk-requires c =
    record {
      homing = c.requires.homing;
      growth_value = rw c.if-back.true at c.requires.movable;
      value = c.requires.value;
    }

pub returns-then-back : goal.returns-then-back
returns-then-back c = rw c.if-back.true c.item_shrunk.ensures

pub item_grown-requires : goal.item_grown-requires
item_grown-requires c = record {
  homing = c.requires.homing;
  value = c.requires.value;
}

pub returns : goal.returns
returns c = rw c.if-back.false c.item_grown.ensures
