use Rattle.lines.specs.Programs.{opened}
use Rattle.sessions.specs.Commands.{answering, run_in}
use borrow.Author.Rules.{rules}
use Rattle.sessions.proofs.blocks.start.Goals as goal

pub returns : goal.returns
unfolding opened answering run_in
returns c = λ i. record { state = c.empty_file.ensures i; begun = c.blank_line.ensures i }
