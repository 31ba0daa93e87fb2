-- The number of the filter's set bits as a value.
use Rattle.calls.specs.Answers.{refusal_number}
use Rattle.reports.specs.Bits.{BitCount}
use Rattle.tray_filter.specs.declared.counting.Shown.{Shown}
use Rattle.tray_filter.specs.declared.counting.Shown.TheVariants.{Bits, Refused}

-- the papers' number and value for each case
unfoldable pub shown : Shown → BitCount
shown (Bits n) = record { refusal = 0; bits = n }
shown (Refused r) = record { refusal = refusal_number r; bits = 0 }
