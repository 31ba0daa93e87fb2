use Rattle.std.specs.Prelude.{length, ◌≡◌, ◌≤◌}
use Rattle.starfits.specs.Keeping.{Keeps}
use Rattle.starfits.proofs.keep_all.Given as goal

abbrev pub invariant-loop : goal.invariant-loop
invariant-loop g l = record {
  few : l.kept ≤ 400321;
  room : length l.given ≡ length l.initial.given;
  keeps : Keeps l.fn.given l.given l.begun l.kept (g.R.Read.remaining l.fn.reader) (g.R.Read.remaining l.reader);
}
