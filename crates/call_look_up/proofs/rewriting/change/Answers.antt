use mathlib.Core.Bool.{true}
use native.Mathlib.Nat.{le_refl}
use Rattle.placement.specs.Hash.{lent}
use Rattle.calls.specs.Answers.{unpooled}
use Rattle.calls.specs.Calls.{change_of}
use Rattle.calls.specs.Stores.{change_stopped_of}
use Rattle.outcome_answer.proofs.Stopped.{whole-leaves}
use borrow.Author.Rules.{rules}
use Rattle.call_look_up.proofs.rewriting.change.Goals as goal

pub returns : goal.returns
unfolding change_stopped_of
returns c =
    let f = lent c.args.separators.now c.args.numbers.now c.args.words.now c.args.owners.now in
    whole-leaves true c.args.parameters c.args.parameters.pages (change_of c.args.parameters c.args.growth f unpooled c.args.caller c.args.number c.args.position) f (le_refl c.args.parameters.pages)
    c.change_stopped.ensures
