use mathlib.Core.Path.{refl}
use native.Mathlib.Omega.{arith}
use Rattle.lines.proofs.Programs.{byte_stands}
use Rattle.sessions.specs.Commands.{run_in}
use borrow.Author.Rules.{rules}
use Rattle.sessions.proofs.blocks.take_byte.Goals as goal

pub returns-then-byte-eq10 : goal.returns-then-byte-eq10
returns-then-byte-eq10 c = rw c.if-byte-eq10.true c.end_line.ensures

pub returns : goal.returns
unfolding run_in
returns c =
    (byte_stands _ _ _ _ _ _ c.if-byte-eq10.false refl c.push.ensures, omega arith)
