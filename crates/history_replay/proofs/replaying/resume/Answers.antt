-- `history_replay::replaying::resume` meets its contract. Each refusal is that of the definition, and a run starts from what is lent.
use Rattle.hashing.proofs.Bounds.{passed, failed}
use Rattle.calls.specs.Answers.{lent, pooled}
use Rattle.history_replay.specs.Replay.{lent_history}
use Rattle.history_replay.proofs.Known.{even}
use Rattle.history_replay.proofs.Replays.{uneven_resumption, unknown_resumption, resumed}
use borrow.Author.Rules.{rules}
use mathlib.Core.Path.{ap}
use mathlib.Core.Bool.{not}
use Rattle.history_replay.proofs.replaying.resume.Goals as goal

pub returns-then-not-lengths_agree : goal.returns-then-not-lengths_agree
returns-then-not-lengths_agree c = record {
  leaves =
      uneven_resumption _ _ (lent c.args.separators.now c.args.numbers.now c.args.words.now c.args.owners.now) (pooled c.args.poolnumbers.now c.args.poolwords.now c.args.poolowners.now) (lent_history c.args.kinds.now c.args.callers.now c.args.stars.now c.args.ras.now c.args.decs.now) c.args.answers.now (failed _ _ c.lengths_agree.ensures (ap not c.if-not-lengths_agree.true));
}

pub returns-then-not-kinds_known : goal.returns-then-not-kinds_known
returns-then-not-kinds_known c = record {
  leaves =
      unknown_resumption _ _ (lent c.args.separators.now c.args.numbers.now c.args.words.now c.args.owners.now) (pooled c.args.poolnumbers.now c.args.poolwords.now c.args.poolowners.now) (lent_history c.args.kinds.now c.args.callers.now c.args.stars.now c.args.ras.now c.args.decs.now) c.args.answers.now
      (passed _ _ c.lengths_agree.ensures (ap not c.if-not-lengths_agree.false))
      (failed _ _ c.kinds_known.ensures (ap not c.if-not-kinds_known.true));
}

pub run-last-requires : goal.run-last-requires
run-last-requires c =
    even _ _ (passed _ _ c.lengths_agree.ensures (ap not c.if-not-lengths_agree.false))

pub returns : goal.returns
returns c = record {
  leaves =
      resumed _ _ (lent c.args.separators.now c.args.numbers.now c.args.words.now c.args.owners.now) (pooled c.args.poolnumbers.now c.args.poolwords.now c.args.poolowners.now) (lent_history c.args.kinds.now c.args.callers.now c.args.stars.now c.args.ras.now c.args.decs.now) c.args.answers.now
      (passed _ _ c.lengths_agree.ensures (ap not c.if-not-lengths_agree.false))
      (passed _ _ c.kinds_known.ensures (ap not c.if-not-kinds_known.false))
      _ _ _ _
      c.run-last.ensures;
}
