-- `own_stars::entering::enter_place` meets its contract.
use Rattle.own_stars.proofs.Placing.{none-entered, one-enterable, one-entered}
use Rattle.own_stars.proofs.entering.enter_place.Goals as goal

pub returns-then-own-place-eq0 : goal.returns-then-own-place-eq0
returns-then-own-place-eq0 c =
    none-entered _ _ _ c.args.own c.args.place c.requires.place_lt_places c.if-own-place-eq0.true

pub enter_one-requires : goal.enter_one-requires
enter_one-requires c =
    record {
      ready = c.requires.ready;
      pooled = c.requires.pooled;
      enterable = one-enterable _ _ _ c.args.own c.args.place c.requires.place_lt_places c.if-own-place-eq0.false c.requires.entered_below;
    }

pub returns : goal.returns
returns c =
    one-entered _ _ _ c.args.own c.args.place c.requires.place_lt_places c.if-own-place-eq0.false _ _ c.enter_one.ensures
