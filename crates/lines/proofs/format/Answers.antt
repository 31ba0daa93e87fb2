-- `lines::format` meets its contract: each answer is its texts, one after another.
use native.Mathlib.Omega.{arith}
use mathlib.Core.Path.{◌≡◌}
use mir.Syntax.{w32}
use mir.Val.{to_z, of_z}
use Rattle.lines.specs.Replies.{reply_bytes}
use Rattle.lines.proofs.Digits.{length-field}
use Rattle.lines.proofs.Writing.{then}
use borrow.Author.Rules.{rules}
use Rattle.lines.proofs.format.Goals as goal

pub put_field-third-requires : goal.put_field-third-requires
put_field-third-requires c =
    omega (
      arith,
      length-field c.in-Found.page 32,
      c.put_field-second,
      c.put-first,
      c.requires,
    )

pub put_declination-requires : goal.put_declination-requires
put_declination-requires c =
    omega (
      arith,
      length-field c.in-Found.page 32,
      length-field c.in-Found.ra 32,
      c.put_field-third,
      c.put_field-second,
      c.put-first,
      c.requires,
    )

pub put_field-requires-in-Refused : goal.put_field-requires-in-Refused
put_field-requires-in-Refused c =
    omega (
      arith,
      length-field c.in-Refused.refusal 32,
      c.put_field-second-in-Refused,
      c.put-first-in-Refused,
      c.requires,
    )

pub returns-in-Accepted : goal.returns-in-Accepted
unfolding reply_bytes
returns-in-Accepted c = rw c.in-Accepted.is (then _ _ _ _ _ _ _ _ c.put-next.ensures c.put_field.ensures)

pub returns-in-Found : goal.returns-in-Found
unfolding reply_bytes
returns-in-Found c =
    let dec = c.in-Found.dec in
    let back : to_z w32 (of_z w32 dec) ≡ dec = search rules in
    rw c.in-Found.is
    (then _ _ _ _ _ _ _ _ c.put-first.ensures
    (then _ _ _ _ _ _ _ _ c.put_field-second.ensures
    (then _ _ _ _ _ _ _ _ c.put_field-third.ensures (rw back at c.put_declination.ensures))))

pub returns-in-Missing : goal.returns-in-Missing
unfolding reply_bytes
returns-in-Missing c = rw c.in-Missing.is (then _ _ _ _ _ _ _ _ c.put-next-in-Missing.ensures c.put_field-in-Missing.ensures)

pub returns-in-Refused : goal.returns-in-Refused
unfolding reply_bytes
returns-in-Refused c =
    rw c.in-Refused.is
    (then _ _ _ _ _ _ _ _ c.put-first-in-Refused.ensures
    (then _ _ _ _ _ _ _ _ c.put_field-second-in-Refused.ensures c.put_field-in-Refused.ensures))

pub returns-in-Malformed : goal.returns-in-Malformed
unfolding reply_bytes
returns-in-Malformed c = rw c.in-Malformed.is c.put.ensures
