use Rattle.std.proofs.Common.{◌≡◌, ◌<◌, take}
use Rattle.fits_table.specs.Header.{read_digits}
use Rattle.fits_table.proofs.cards.candidate_rows.Given as goal

abbrev pub invariant-loop-byte : goal.invariant-loop-byte
invariant-loop-byte l = (l.value < 400000) × (l.value ≡ read_digits 0 (take l.byte-index l.byte-items))
