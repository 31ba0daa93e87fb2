use mir.Syntax.{w32}
use mir.Val.{to_z, of_z}
use mathlib.Core.Bool.{true, false, not}
use mathlib.Core.Path.{◌≡◌, ap}
use borrow.Author.Tests.{not-true, not-false}
use Rattle.sessions.proofs.Replying.{shown}
use borrow.Author.Rules.{rules}
use Rattle.sessions.proofs.commands.found_reply.Goals as goal

pub returns-then-not-answer : goal.returns-then-not-answer
returns-then-not-answer c =
    let answer = c.args.answer in
    shown answer false _ (not-true answer.found c.if-not-answer.true) c.unless_refused.ensures

pub returns : goal.returns
returns c =
    let answer = c.args.answer in
    let back : to_z w32 (of_z w32 answer.position.dec) ≡ answer.position.dec = search rules in
    shown answer true _ (not-false answer.found c.if-not-answer.false) (rw back at c.unless_refused-2.ensures)
