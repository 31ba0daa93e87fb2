-- The lent buffers of a call by their contents: as a `requires` finds them, and in an `ensures` before and after the call.
use Rattle.std.specs.Prelude.{List, ℕ}
use Rattle.std.specs.Borrow.{Bor, MutBor}
use denote.Triple.Both.{Both}
use Rattle.placement.specs.File.{File}
use Rattle.placement.specs.Hash.{lent}

-- a buffer as an `ensures` names it: one lent to be written, and one lent to be read
abbrev pub Lent : Type 0
Lent = Both (MutBor (List ℕ)) (MutBor (List ℕ))

abbrev pub Shown : Type 0
Shown = Both (Bor (List ℕ)) (Bor (List ℕ))

abbrev pub held : List ℕ → List ℕ → List ℕ → List ℕ → File
held separators numbers words owners = lent separators numbers words owners

abbrev pub before : Lent → Lent → Lent → Lent → File
before separators numbers words owners = held separators.entry.now numbers.entry.now words.entry.now owners.entry.now

abbrev pub after : Lent → Lent → Lent → Lent → File
after separators numbers words owners = held separators.exit.now numbers.exit.now words.exit.now owners.exit.now
