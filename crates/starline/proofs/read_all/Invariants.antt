use Rattle.lines.specs.Streams.{Serves}
use Rattle.sessions.specs.Commands.{answering, run_in}
use Rattle.starline.proofs.read_all.Given as goal

abbrev pub invariant-loop : goal.invariant-loop
invariant-loop g l =
    Serves answering (run_in l.fn.session) (run_in l.state) (g.R.Read.remaining l.fn.reader) (g.R.Read.remaining l.reader)
    (g.W.Write.contents l.fn.writer) (g.W.Write.contents l.writer)
