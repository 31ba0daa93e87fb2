use native.Mathlib.Omega.{arith}
use Rattle.page_separator.specs.Words.{number_in}
use Rattle.page_separator.proofs.words.number_of.Goals as goal

pub returns : goal.returns
unfolding number_in
returns c = omega arith
