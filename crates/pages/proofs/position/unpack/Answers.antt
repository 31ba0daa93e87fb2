-- `pages::position::unpack` meets its contract: the machine's declination is the word's lower half, lowered.
-- Assumes nothing.
use Prim.Native.Nat.{◌%◌}
use borrow.Author.Rules.{rules}
use native.Mathlib.Omega.{arith}
use mir.Syntax.{w32}
use mir.ValLaws.{to_z_pos}
use Rattle.pages.specs.Position.{unpacked}
use Rattle.pages.proofs.Words.{ValidWord, valid-word, lowers, lowered-back}
use Rattle.pages.proofs.position.unpack.Goals as goal
use Rattle.pages.proofs.position.unpack.Goals.{Start}

known : (c : Start) → ValidWord c.args.word
known c = valid-word _ c.requires

pub overflow_cast-dec : goal.overflow_cast-dec
overflow_cast-dec c = record { sfits = omega (arith, (known c).low) }

pub overflow_sub-dec : goal.overflow_sub-dec
overflow_sub-dec c =
    rw (to_z_pos w32 (c.args.word % 4294967296) (omega (arith, (known c).low)))
    (lowers (c.args.word % 4294967296) (known c).low).fits

pub returns : goal.returns
unfolding unpacked
returns c = rw (lowered-back (c.args.word % 4294967296) (known c).low)
