-- `lines::is_blank` meets its contract.
use mathlib.Core.Path.{sym}
use Rattle.lines.specs.Grammar.{line_bytes}
use Rattle.lines.proofs.Kept.{array_of, kept-none}
use Rattle.lines.proofs.is_blank.Goals as goal

pub returns : goal.returns
unfolding line_bytes
returns c =
    sym (kept-none c.args.line.bytes (array_of _ c.well_formed.0.1.1.0.1.0.1) c.args.line.length 0)
