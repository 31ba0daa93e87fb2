use mathlib.Core.Path.{refl}
use native.Mathlib.Omega.{arith}
use lib.Seq.{slice}
use Rattle.hashing.proofs.Bounds.{limits}
use Rattle.page_plan.proofs.Stretch.{page-planned, separator_byte}
use Rattle.page_plan.proofs.layout.settle_page.Goals as goal

pub settle-settled-requires : goal.settle-settled-requires
settle-settled-requires c =
    let p = c.requires in
    record {
      signers = p.signers;
      probing = p.probing;
      slots_len = refl;
      signable = p.signable;
    }

pub overflow_cast-planned : goal.overflow_cast-planned
overflow_cast-planned c =
    let s = c.before.before.before.before.before.before.before.before.before.before.before.before in
    let a = s.args in
    record {
      fits =
          omega (
            arith,
            c.settle-settled.ensures.settles.separator,
            separator_byte a.parameters a.page (slice a.from a.reach a.waiting.now) (limits _ s.requires.signers.valid).bits_most,
          );
    }

pub store_sources-requires : goal.store_sources-requires
store_sources-requires c =
    let s = c.before.before.before.before.before.before.before.before.before.before.before.before.before.before in
    let most = (limits _ s.requires.signers.valid).places_most in
    let done = c.settle-settled.ensures in
    record {
      places_in_bounds = (s.requires.page_in_bounds.1, most);
      kept_le_places = (done.kept_le_places, omega (arith, done.settles.size, done.kept_le_places, most));
    }

pub returns : goal.returns
returns c =
    let s = c.before.before.before.before.before.before.before.before.before.before.before.before.before.before.before.before.before in
    let a = s.args in
    let d = c.settle-settled in
    page-planned a.parameters a.page (slice a.from a.reach a.waiting.now) a.reach a.waiting.now d.new.waiting d.new.slots a.pool.now c.store_sources.new.pool a.planned.now d.result d.ensures.settles c.store_sources.ensures (omega (arith, s.requires))
