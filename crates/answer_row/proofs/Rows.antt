-- A row has eight numbers. Assumes nothing.
use mathlib.Core.Bool.{Bool, true, false}
use mathlib.Core.Path.{◌≡◌, refl}
use lib.ListN.{length}
use mir.Val.{bool_byte}
use Rattle.calls.specs.declared.answers.Answer.{Answer}
use Rattle.answer_row.specs.Rows.{bit, encoded}

pub eight-long : (a : Answer) → length (encoded a) ≡ 8
unfolding encoded
eight-long a = refl

-- what `u32::from` gives for a flag
pub flagged : (b : Bool) → bool_byte b ≡ bit b
unfolding bit
flagged true = refl
flagged false = refl
