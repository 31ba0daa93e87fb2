-- `fits::putting::written_answer` meets its contract.
use mathlib.Core.Path.{◌∙◌, sym, ap}
use borrow.Author.Rules.{rules}
use Rattle.calls.specs.Answers.{counted, due_said}
use Rattle.fits.specs.Written.{length_said}
use Rattle.fits.proofs.putting.written_answer.Goals as goal

pub returns-in-Length : goal.returns-in-Length
unfolding length_said counted
returns-in-Length c = sym (ap length_said c.in-Length.is)

pub returns-in-Refused : goal.returns-in-Refused
unfolding length_said due_said
returns-in-Refused c = c.due_answer.ensures ∙ sym (ap length_said c.in-Refused.is)
