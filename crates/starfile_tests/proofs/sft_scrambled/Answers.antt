-- `sft_scrambled` meets what `scrambled` requires.
use borrow.Author.Rules.{rules}
use Rattle.hashing.proofs.Bounds.{passed}
use mathlib.Core.Path.{ap}
use mathlib.Core.Bool.{not}
use Rattle.starfile_tests.proofs.sft_scrambled.Goals as goal

pub scrambled-requires : goal.scrambled-requires
scrambled-requires c = record {
  multiplier_value = passed _ _ c.multiplier_valid.ensures (ap not c.if-not-multiplier_valid.false);
  le_j = search rules;
}
