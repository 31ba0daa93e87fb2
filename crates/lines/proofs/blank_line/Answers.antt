-- `lines::blank_line` meets its contract.
use mathlib.Core.Path.{refl}
use Rattle.lines.specs.Grammar.{line_bytes, kept}
use Rattle.lines.proofs.blank_line.Goals as goal

pub returns : goal.returns
unfolding line_bytes kept
returns c = refl
