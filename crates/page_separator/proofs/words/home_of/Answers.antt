use native.Mathlib.Omega.{arith}
use Rattle.page_separator.specs.Words.{home_of}
use Rattle.page_separator.proofs.words.home_of.Goals as goal

pub returns : goal.returns
unfolding home_of
returns c = omega arith
