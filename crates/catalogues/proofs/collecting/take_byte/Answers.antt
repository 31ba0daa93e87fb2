-- `catalogues::collecting::take_byte` meets its contract.
use native.Mathlib.Omega.{arith}
use mathlib.Core.Path.{refl}
use Rattle.lines.proofs.Programs.{byte_stands}
use Rattle.catalogues.specs.Runs.{run_held}
use borrow.Author.Rules.{rules}
use Rattle.catalogues.proofs.collecting.take_byte.Goals as goal

pub returns-then-byte-eq10 : goal.returns-then-byte-eq10
returns-then-byte-eq10 c = record {
  fit_2 = c.end_line.ensures.fit_2;
  stands = rw c.if-byte-eq10.true c.end_line.ensures.stands;
}

pub returns : goal.returns
unfolding run_held
returns c =
    let f = c.requires.fit in record {
      fit_2 = record { few = f.few; numbers = f.numbers; words = f.words; proper = f.proper };
      stands = (byte_stands _ _ _ _ _ _ c.if-byte-eq10.false refl c.push-line.ensures, omega arith);
    }
