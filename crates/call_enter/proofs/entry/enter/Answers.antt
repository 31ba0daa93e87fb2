use mathlib.Core.Bool.{false}
use native.Mathlib.Nat.{le_refl}
use Rattle.placement.specs.Hash.{lent}
use Rattle.calls.specs.Answers.{pooled}
use Rattle.calls.specs.Calls.{enter_of}
use Rattle.outcome_answer.proofs.Stopped.{whole-leaves}
use borrow.Author.Rules.{rules}
use Rattle.call_enter.proofs.entry.enter.Goals as goal

pub returns : goal.returns
returns c =
    let f = lent c.args.separators.now c.args.numbers.now c.args.words.now c.args.owners.now in
    whole-leaves false c.args.parameters c.args.parameters.pages (enter_of c.args.parameters c.args.growth f (pooled c.args.poolnumbers.now c.args.poolwords.now c.args.poolowners.now) c.args.caller c.args.number c.args.position) f (le_refl c.args.parameters.pages)
    c.enter_by.ensures
