use mathlib.Core.Bool.{true}
use native.Mathlib.Nat.{le_refl}
use Rattle.placement.specs.Hash.{lent}
use Rattle.calls.specs.Answers.{pooled}
use Rattle.calls.specs.Calls.{remove_of}
use Rattle.calls.specs.Stores.{remove_stopped_of}
use Rattle.outcome_answer.proofs.Stopped.{whole-leaves}
use borrow.Author.Rules.{rules}
use Rattle.call_remove.proofs.removal.remove.Goals as goal

pub returns : goal.returns
unfolding remove_stopped_of
returns c =
    let f = lent c.args.separators.now c.args.numbers.now c.args.words.now c.args.owners.now in
    whole-leaves true c.args.parameters c.args.parameters.pages (remove_of c.args.parameters c.args.growth f (pooled c.args.poolnumbers.now c.args.poolwords.now c.args.poolowners.now) c.args.caller c.args.number) f (le_refl c.args.parameters.pages)
    c.remove_stopped.ensures
