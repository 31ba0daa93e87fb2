use Rattle.std.specs.Prelude.{length, ◌≡◌}
use Rattle.lines.specs.Streams.{Serves}
use Rattle.catalogues.specs.Runs.{cataloguing, run_held, Fit}
use Rattle.starfits.proofs.collect_all.Given as goal

abbrev pub invariant-loop : goal.invariant-loop
invariant-loop g l = record {
  fit : Fit l.state l.numbers l.words;
  room : length l.out ≡ length l.initial.out;
  serves :
      Serves cataloguing (run_held l.fn.collection l.fn.numbers l.fn.words) (run_held l.state l.numbers l.words)
      (g.R.Read.remaining l.fn.reader) (g.R.Read.remaining l.reader) (g.W.Write.contents l.fn.writer) (g.W.Write.contents l.writer);
}
