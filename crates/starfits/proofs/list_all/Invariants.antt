use Rattle.std.specs.Io.KnownBytes.{Appends}
use Rattle.starfits.proofs.Keeping.{parts_to}
use Rattle.starfits.proofs.list_all.Given as goal

abbrev pub invariant-loop-part : goal.invariant-loop-part
invariant-loop-part g l =
    Appends (g.W.Write.contents l.fn.writer) (g.W.Write.contents l.writer) (parts_to l.part l.given)
