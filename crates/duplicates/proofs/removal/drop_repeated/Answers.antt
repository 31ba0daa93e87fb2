use Rattle.duplicates.specs.Words.{number_key}
use Rattle.duplicates.proofs.Firsts.{keeping_none, keeping_repeated, keeping_first, keeping_all}
use Rattle.duplicates.proofs.removal.drop_repeated.Goals as goal
use Rattle.duplicates.proofs.removal.drop_repeated.Goals.{then-word-last, else-word-last}

pub loop-i-init : goal.loop-i-init
loop-i-init c = keeping_none _ _

pub loop-i-preserved : goal.loop-i-preserved
unfolding number_key
loop-i-preserved c = elim c.if-word-last.branch [
  | then-word-last w ↦ rw (w.waiting-is, w.last-is, w.kept-is) (keeping_first _ _ _ _ _ _ c.loop-i.invariant c.requires c.loop-i-test.true w.if-word-last.true)
  | else-word-last w ↦ rw (w.waiting-is, w.last-is, w.kept-is) (keeping_repeated _ _ _ _ _ _ c.loop-i.invariant c.requires c.loop-i-test.true w.if-word-last.false)
]

pub returns-clause-waiting_after : goal.returns-clause-waiting_after
returns-clause-waiting_after c = keeping_all _ _ _ _ _ _ c.loop-i.invariant c.requires c.loop-i-test.false
