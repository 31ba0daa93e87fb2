use native.Mathlib.Omega.{arith}
use Rattle.page_separator.specs.Words.{low_of}
use Rattle.page_separator.proofs.words.low_of.Goals as goal

pub returns : goal.returns
unfolding low_of
returns c = omega arith
