-- Reports, the tray and the filter that belongs to its waiting reports: document 02 (xi).
use Rattle.std.specs.Prelude.{Bool, false, cond, not, ◌&&◌, ◌||◌, List, [], ◌∷◌, ◌++◌, ℕ, suc, ◌+◌, ◌-◌, eqb, leb, length, take, set, replicate}
use Rattle.pages.specs.declared.position.Position.{Position}
use Rattle.calls.specs.declared.answers.Answer.{Answer}
use Rattle.calls.specs.Answers.{origin, found_at, accepted_at}
pub use Rattle.reports.specs.declared.Report.{Report}
use Rattle.reports.specs.Bits.{no_bits, is_bit_of, marked}

-- "number, position .., owner and a mark for "removed""

abbrev pub reported_position : Report → Position
reported_position x = record { ra = x.ra; dec = x.dec }

-- the mark "removed" is any number but 0
abbrev pub is_removal : Report → Bool
is_removal x = not (eqb x.removed 0)

unfoldable pub no_report : Report
no_report = record { number = 0; ra = 0; dec = origin.dec; owner = 0; removed = 0 }

-- "(unread and stored as 0, 0 in a removal)"
unfoldable pub stored : Report → Report
stored x =
    record {
      number = x.number;
      ra = cond (is_removal x) 0 x.ra;
      dec = cond (is_removal x) origin.dec x.dec;
      owner = x.owner;
      removed = x.removed;
    }

-- "256 places and a count"
pub record Tray : Type 0 where
  pub reports : List Report
  pub count : ℕ

unfoldable pub empty_tray : Tray
empty_tray = record { reports = replicate 256 no_report; count = 0 }

unfoldable pub waiting : Tray → List Report
waiting t = take t.count t.reports

-- not "A wrong list or filter length or a count above 256"
unfoldable pub tray_fits_lem : Tray → List ℕ → Bool
tray_fits_lem t filter = eqb (length t.reports) 256 && (eqb (length filter) 32 && leb t.count 256)

-- "a report is added behind the others"
unfoldable pub with_report : Tray → Report → Tray
with_report t x = record { reports = set t.reports t.count (stored x); count = suc t.count }

-- "the others close up before zeros"
unfoldable pub closed_tray : List Report → Tray
closed_tray rest = record { reports = rest ++ replicate (256 - length rest) no_report; count = length rest }

-- "the filter is made anew from them"
unfoldable pub marked_all : ℕ → List ℕ → List Report → List ℕ
marked_all a filter [] = filter
marked_all a filter (x ∷ xs) = marked_all a (marked a filter x.number) xs

unfoldable pub filter_of : ℕ → List Report → List ℕ
filter_of a xs = marked_all a no_bits xs

-- i is a bit of one of the reports
unfoldable pub is_bit_of_any : ℕ → List Report → ℕ → Bool
is_bit_of_any a [] i = false
is_bit_of_any a (x ∷ xs) i = is_bit_of a x.number i || is_bit_of_any a xs i

-- one of the reports names the star
unfoldable pub names_star : ℕ → List Report → Bool
names_star k [] = false
names_star k (x ∷ xs) = eqb x.number k || names_star k xs

-- "a report so found answers (a removal "none"), with page M, place 0"
unfoldable pub reported : ℕ → Report → Answer
reported M x = cond (is_removal x) (accepted_at M 0) (found_at M 0 (reported_position x))

-- "the latest on a star answers", or else `plain`
unfoldable pub latest_or : ℕ → ℕ → List Report → Answer → Answer
latest_or M k [] plain = plain
latest_or M k (x ∷ xs) plain = latest_or M k xs (cond (eqb x.number k) (reported M x) plain)
