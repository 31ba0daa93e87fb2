-- `lines::first_blank` meets its contract.
use Rattle.std.proofs.Common.{arith, ◌≡◌, ◌∙◌, drop, add-one, length-drop}
use Rattle.lines.proofs.Fields.{blank-here, blank-later, field-within}
use Rattle.lines.specs.Shape.{field_length}
use Rattle.lines.proofs.first_blank.Goals as goal

pub returns-then-byte-eq32 : goal.returns-then-byte-eq32
returns-then-byte-eq32 c =
    let at : field_length (drop c.loop-i.i c.args.bytes.now) ≡ 0 =
    blank-here _ _ c.loop-i-test.true c.if-byte-eq32.true in
    (omega arith, omega arith)

pub loop-i-preserved : goal.loop-i-preserved
loop-i-preserved c = rw (add-one c.loop-i.i) (c.loop-i.invariant ∙ blank-later _ _ c.loop-i-test.true c.if-byte-eq32.false)

pub returns : goal.returns
returns c =
    let i = c.loop-i.i in
    let bytes = c.args.bytes.now in
    omega (arith, field-within (drop i bytes), length-drop i bytes)
