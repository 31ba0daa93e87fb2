use mir.Syntax.{w32}
use mir.Val.{to_z, of_z}
use mathlib.Core.Path.{◌≡◌, refl, sym}
use Rattle.sessions.specs.Commands.{commanded, reply_with, reply_to, next_session}
use Rattle.sessions.proofs.Replying.{looked_keeps}
use borrow.Author.Rules.{rules}
use Rattle.sessions.proofs.commands.follow.Goals as goal

pub returns-in-Enter : goal.returns-in-Enter
returns-in-Enter c =
    let dec = c.in-Enter.dec in
    let back : to_z w32 (of_z w32 dec) ≡ dec = search rules in
    rw c.in-Enter.is (rw back at c.enter.ensures)

pub returns-in-LookUp : goal.returns-in-LookUp
returns-in-LookUp c = rw c.in-LookUp.is (record { replies = c.look_up.ensures; leaves = sym (looked_keeps _ _) })

pub returns-in-Remove : goal.returns-in-Remove
returns-in-Remove c = rw c.in-Remove.is c.remove.ensures

pub returns-in-Grow : goal.returns-in-Grow
returns-in-Grow c = rw c.in-Grow.is c.grow.ensures

pub returns-in-Bad : goal.returns-in-Bad
unfolding commanded reply_with reply_to next_session
returns-in-Bad c = rw c.in-Bad.is (record { replies = refl; leaves = refl })
