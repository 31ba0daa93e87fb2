-- The lent history by its contents, as placement's `before` gives the lent file.
use Rattle.std.specs.Prelude.{List, ℤ}
use Rattle.std.specs.Borrow.{Bor}
use denote.Triple.Both.{Both}
use Rattle.placement.specs.Lent.{Shown}
use Rattle.history_replay.specs.Replay.{LentHistory, lent_history}

abbrev pub history_before : Shown → Shown → Shown → Shown → Both (Bor (List ℤ)) (Bor (List ℤ)) → LentHistory
history_before kinds callers stars ras decs =
    lent_history kinds.entry.now callers.entry.now stars.entry.now ras.entry.now decs.entry.now
