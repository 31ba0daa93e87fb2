-- What the writer's code answers, and how a table goes into an output.
use Rattle.std.specs.Prelude.{false}
use Rattle.calls.specs.declared.answers.Answer.{Answer}
use Rattle.calls.specs.Answers.{counted, refused_by}
use Rattle.fits.specs.declared.putting.Written.{Written}
use Rattle.fits.specs.declared.putting.Written.TheVariants.{Length, Refused}

-- the papers' number and values for each case
unfoldable pub length_said : Written → Answer
length_said (Length n) = counted false n
length_said (Refused r) = refused_by r 0
