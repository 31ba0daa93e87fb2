use native.Mathlib.Omega.{arith}
use Rattle.page_separator.specs.Words.{pack}
use Rattle.page_separator.proofs.words.pack.Goals as goal

pub returns : goal.returns
unfolding pack
returns c = omega arith
