use Rattle.std.proofs.Common.{map, take, arith, ◌∙◌}
use Rattle.placement.specs.File.{padded}
use Rattle.page_separator.specs.Words.{source_of}
use Rattle.buffers.proofs.Copies.{turn, done}
use Rattle.page_plan.proofs.Slots.{slot_item, length-page, all-written}
use Rattle.page_plan.proofs.layout.store_sources.Goals as goal

pub loop-i-preserved : goal.loop-i-preserved
loop-i-preserved c =
    let a = c.args in
    turn _ _ _ _ _ _ (omega arith) (rw (length-page a.slots.now a.kept a.places (omega arith) (omega arith)) (omega arith))
    (c.source_at.ensures ∙ slot_item a.slots.now a.kept a.places c.loop-i.i (omega arith)) c.loop-i.invariant

pub returns : goal.returns
returns c =
    let a = c.args in
    done a.places (omega arith) (omega arith) c.loop-i.invariant
    ∙ all-written a.pool.now a.at (padded a.places (map source_of (take a.kept a.slots.now))) a.places (length-page a.slots.now a.kept a.places (omega arith) (omega arith))
