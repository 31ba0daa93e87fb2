use Rattle.std.proofs.Common.{map, take}
use Rattle.placement.specs.File.{padded}
use Rattle.page_separator.specs.Words.{source_of}
use Rattle.buffers.proofs.Copies.{Copied}
use Rattle.page_plan.proofs.layout.store_sources.Given as goal

abbrev pub invariant-loop-i : goal.invariant-loop-i
invariant-loop-i l = Copied l.initial.pool l.at (padded l.places (map source_of (take l.kept l.slots))) l.pool l.i
