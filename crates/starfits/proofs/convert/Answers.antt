-- `starfits::convert` meets its contract.
use native.Mathlib.Omega.{arith}
use Prim.Native.Nat.{◌<◌}
use lib.ListN.{length}
use mathlib.Core.Path.{sym, ◌∙◌}
use Rattle.starfits.proofs.Keeping.{table_input, lines_input, ended}
use Rattle.starfits.proofs.convert.Goals as goal

pub returns-then-begins_table : goal.returns-then-begins_table
returns-then-begins_table g c =
    table_input _ _ _ _ _ c.in_ok-n.ensures.bytes.0 (sym c.begins_table.ensures ∙ c.if-begins_table.true) c.in_ok-list_table.ensures

pub returns : goal.returns
returns g c =
    let some : 0 < length c.read.new.buf = omega arith in
    lines_input _ _ _ _ _ c.in_ok-n.ensures.bytes.0 (ended _ _ _ c.in_ok-n.ensures.bound.0 some c.in_ok-n.ensures.bytes.1)
    (sym c.begins_table.ensures ∙ c.if-begins_table.false) c.in_ok-make_table.ensures
