-- `lines::parse_line` meets its contract.
use Prim.Native.Nat.{◌≤◌}
use native.Mathlib.Omega.{arith}
use mathlib.Core.Path.{sym, ap, ◌∙◌}
use lib.ListN.{length}
use lib.Seq.{length-take-le}
use Rattle.lines.specs.Grammar.{line_bytes, command_of}
use Rattle.lines.proofs.Kept.{array_of, counted, kept-long, kept-short}
use borrow.Author.Rules.{rules}
use Rattle.lines.proofs.parse_line.Goals as goal
use Rattle.lines.proofs.parse_line.Goals.{Else-n-ge-KEPT}

pub returns-then-n-ge-KEPT : goal.returns-then-n-ge-KEPT
unfolding line_bytes
returns-then-n-ge-KEPT c = sym (kept-long _ (array_of _ c.well_formed.0.1.1.0.1.0.1) _ 0 c.if-n-ge-KEPT.true)

within : (c : Else-n-ge-KEPT) → c.args.line.length ≤ length c.args.line.bytes
within c =
    omega (arith, counted c.args.line.bytes (array_of _ c.well_formed.0.1.1.0.1.0.1))

pub slice_bounds-bytes-end : goal.slice_bounds-bytes-end
slice_bounds-bytes-end c = within c

pub slice_bounds-parse-end : goal.slice_bounds-parse-end
slice_bounds-parse-end c = sym (length-take-le _ _ (within c.before))

pub returns : goal.returns
unfolding line_bytes
returns c = c.parse.ensures ∙ sym (ap command_of (kept-short _ (array_of _ c.well_formed.0.1.1.0.1.0.1) _ 0 c.if-n-ge-KEPT.false))
