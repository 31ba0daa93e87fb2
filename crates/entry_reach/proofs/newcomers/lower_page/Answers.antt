use mathlib.Core.Path.{refl}
use native.Mathlib.Omega.{arith}
use lib.Seq.{slice}
use Rattle.hashing.proofs.Bounds.{limits}
use Rattle.page_separator.proofs.Cutting.{separator_most}
use Rattle.entry_reach.proofs.Settled.{page-lowered}
use Rattle.entry_reach.proofs.newcomers.lower_page.Goals as goal

pub settle_under-settled-requires : goal.settle_under-settled-requires
settle_under-settled-requires c =
    let p = c.requires in
    record {
      signers = p.signers;
      probing = p.probing;
      most_bound = (p.most_bound.0, refl);
    }

pub overflow_cast-planned : goal.overflow_cast-planned
overflow_cast-planned c =
    let s = c.before.before.before.before.before.before.before.before.before.before.before in
    let a = s.args in
    record {
      fits =
          omega (
            arith,
            c.settle_under-settled.ensures.settlement.separator,
            separator_most a.parameters a.page (slice a.from a.reach a.waiting.now) a.most,
            s.requires.most_bound.0,
          );
    }

pub store_sources-requires : goal.store_sources-requires
store_sources-requires c =
    let s = c.before.before.before.before.before.before.before.before.before.before.before.before.before in
    let most = (limits _ s.requires.signers.valid).places_most in
    let done = c.settle_under-settled.ensures in
    record {
      places_in_bounds = (s.requires.most_bound.1.1, most);
      kept_le_places = (done.kept_le_places, omega (arith, done.settlement.size, done.kept_le_places, most));
    }

pub returns : goal.returns
returns c =
    let s = c.before.before.before.before.before.before.before.before.before.before.before.before.before.before.before.before in
    let a = s.args in
    let d = c.settle_under-settled in
    page-lowered a.parameters a.page a.most (slice a.from a.reach a.waiting.now) a.reach a.waiting.now d.new.waiting d.new.slots a.pool.now c.store_sources.new.pool a.planned.now d.result d.ensures.settlement c.store_sources.ensures s.requires.most_bound.1.0
