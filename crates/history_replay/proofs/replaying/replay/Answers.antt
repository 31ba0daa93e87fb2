-- `history_replay::replaying::replay` meets its contract. Each refusal is that of the definition, and a run starts from what make left.
use mathlib.Core.Path.{ap, ◌∙◌}
use Rattle.hashing.proofs.Bounds.{passed, failed}
use Rattle.calls.specs.declared.records.GrowthRecord.{GrowthRecord}
use Rattle.calls.specs.Answers.{lent, pooled}
use Rattle.history_replay.specs.Replay.{lent_history}
use Rattle.history_replay.proofs.Known.{even}
use Rattle.history_replay.proofs.Replays.{uneven_history, uneven_pool, unknown_kind_lem, make_done, make_refused}
use borrow.Author.Rules.{rules}
use mathlib.Core.Bool.{not}
use Rattle.history_replay.proofs.replaying.replay.Goals as goal

pub returns-then-not-lengths_agree : goal.returns-then-not-lengths_agree
returns-then-not-lengths_agree c = record {
  leaves =
      uneven_history _ (lent c.args.separators.now c.args.numbers.now c.args.words.now c.args.owners.now) (pooled c.args.poolnumbers.now c.args.poolwords.now c.args.poolowners.now) (lent_history c.args.kinds.now c.args.callers.now c.args.stars.now c.args.ras.now c.args.decs.now) c.args.answers.now (failed _ _ c.lengths_agree.ensures (ap not c.if-not-lengths_agree.true));
}

pub returns-then-not-pool_agrees : goal.returns-then-not-pool_agrees
returns-then-not-pool_agrees c = record {
  leaves =
      uneven_pool _ (lent c.args.separators.now c.args.numbers.now c.args.words.now c.args.owners.now) (pooled c.args.poolnumbers.now c.args.poolwords.now c.args.poolowners.now) (lent_history c.args.kinds.now c.args.callers.now c.args.stars.now c.args.ras.now c.args.decs.now) c.args.answers.now
      (passed _ _ c.lengths_agree.ensures (ap not c.if-not-lengths_agree.false))
      (failed _ _ c.pool_agrees.ensures (ap not c.if-not-pool_agrees.true));
}

pub returns-then-not-kinds_known : goal.returns-then-not-kinds_known
returns-then-not-kinds_known c = record {
  leaves =
      unknown_kind_lem _ (lent c.args.separators.now c.args.numbers.now c.args.words.now c.args.owners.now) (pooled c.args.poolnumbers.now c.args.poolwords.now c.args.poolowners.now) (lent_history c.args.kinds.now c.args.callers.now c.args.stars.now c.args.ras.now c.args.decs.now) c.args.answers.now
      (passed _ _ c.lengths_agree.ensures (ap not c.if-not-lengths_agree.false))
      (passed _ _ c.pool_agrees.ensures (ap not c.if-not-pool_agrees.false))
      (failed _ _ c.kinds_known.ensures (ap not c.if-not-kinds_known.true));
}

pub run-requires : goal.run-requires
run-requires c =
    even _ _ (passed _ _ c.lengths_agree.ensures (ap not c.if-not-lengths_agree.false))

pub returns-in-On : goal.returns-in-On
returns-in-On c = record {
  leaves =
      make_done _ (lent c.args.separators.now c.args.numbers.now c.args.words.now c.args.owners.now) (pooled c.args.poolnumbers.now c.args.poolwords.now c.args.poolowners.now) (lent_history c.args.kinds.now c.args.callers.now c.args.stars.now c.args.ras.now c.args.decs.now) c.args.answers.now
      (passed _ _ c.lengths_agree.ensures (ap not c.if-not-lengths_agree.false))
      (passed _ _ c.pool_agrees.ensures (ap not c.if-not-pool_agrees.false))
      (passed _ _ c.kinds_known.ensures (ap not c.if-not-kinds_known.false))
      _ _ c.make-made.ensures.leaves _ _ c.in-On.is _ (ap (λ (r : GrowthRecord). r.state) c.make-made.ensures.growth_after) _ _ _ _
      c.run.ensures;
}

pub returns-in-Refused : goal.returns-in-Refused
returns-in-Refused c = record {
  leaves =
      make_refused _ (lent c.args.separators.now c.args.numbers.now c.args.words.now c.args.owners.now) (pooled c.args.poolnumbers.now c.args.poolwords.now c.args.poolowners.now) (lent_history c.args.kinds.now c.args.callers.now c.args.stars.now c.args.ras.now c.args.decs.now) c.args.answers.now
      (passed _ _ c.lengths_agree.ensures (ap not c.if-not-lengths_agree.false))
      (passed _ _ c.pool_agrees.ensures (ap not c.if-not-pool_agrees.false))
      (passed _ _ c.kinds_known.ensures (ap not c.if-not-kinds_known.false))
      _ _ c.make-made.ensures.leaves _ _ c.in-Refused.is;
}
