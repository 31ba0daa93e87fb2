use Rattle.buffers.proofs.Zeros.{all_of-none, all_of-next, all_of-all}
use Rattle.buffers.proofs.slices.united.Goals as goal

pub loop-item-init : goal.loop-item-init
loop-item-init g c = λ _. all_of-none _ _

pub loop-item-preserved : goal.loop-item-preserved
loop-item-preserved g c = λ e. let both = c.united-all.ensures e in all_of-next _ _ _ _ (c.loop-item.invariant both.0) c.item-item.is both.1

pub returns : goal.returns
returns g c = λ e. all_of-all _ _ _ c.loop-item-test.false (c.loop-item.invariant e)
