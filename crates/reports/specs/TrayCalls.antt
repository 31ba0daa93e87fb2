-- Adding a report, and the combined look-up: document 02 (xi).
use Rattle.std.specs.Prelude.{Bool, cond, ◌&&◌, ◌||◌, List, ℕ, zero, suc, ltb}
use Rattle.hashing.specs.declared.Parameters.{Parameters}
use Rattle.pages.specs.Position.{valid_number, valid_position}
use Rattle.placement.specs.File.{File}
use Rattle.calls.specs.declared.records.GrowthRecord.{GrowthRecord}
use Rattle.calls.specs.declared.answers.Answer.{Answer}
use Rattle.calls.specs.Answers.{accepted, refused, unpooled}
use Rattle.calls.specs.Calls.{unless, or_else, unlent, file_fits_lem}
use Rattle.calls.specs.Records.{valid_steps, look_up_under}
use Rattle.reports.specs.Bits.{marked, passes}
use Rattle.reports.specs.Reports.{Report, Tray, waiting, tray_fits_lem, with_report, latest_or, reported_position, is_removal}

-- 1 for parameters and record, 2 for the lengths
unfoldable pub tray_refusal : Parameters → GrowthRecord → Bool → ℕ
tray_refusal p r lengths = or_else (unless (valid_steps p r) 1) (unlent p r.state lengths)

-- Adding a report: no file is lent, and a growth may be open

pub record AfterAdding : Type 0 where
  pub answer : Answer
  pub tray : Tray
  pub filter : List ℕ

-- 1, 2, 3, 4 but not for a removal, "14 a report when 256 are waiting, after 4"
unfoldable pub add_refusal : Parameters → GrowthRecord → Tray → List ℕ → Report → ℕ
add_refusal p r t filter x =
    or_else (tray_refusal p r (tray_fits_lem t filter))
    (or_else (unless (valid_number x.number) 3)
    (or_else (unless (is_removal x || valid_position (reported_position x)) 4) (unless (ltb t.count 256) 14)))

-- "a refused call leaves tray and filter as found"
unfoldable pub added_unless : ℕ → Tray → List ℕ → AfterAdding → AfterAdding
added_unless zero t filter after = after
added_unless (suc n) t filter after = record { answer = refused (suc n) 0; tray = t; filter = filter }

unfoldable pub add_of : Parameters → GrowthRecord → Tray → List ℕ → Report → AfterAdding
add_of p r t filter x =
    added_unless (add_refusal p r t filter x) t filter
    (record { answer = accepted 0; tray = with_report t x; filter = marked p.multiplier filter x.number })

-- The combined look-up: it changes nothing

abbrev pub answered_unless : ℕ → Answer → Answer
answered_unless zero answer = answer
answered_unless (suc n) answer = refused (suc n) 0

unfoldable pub sought_refusal : Parameters → GrowthRecord → File → Tray → List ℕ → ℕ → ℕ
sought_refusal p r f t filter k =
    or_else (tray_refusal p r (file_fits_lem p f && tray_fits_lem t filter)) (unless (valid_number k) 3)

-- the file's own answer
unfoldable pub plain_answer : Parameters → GrowthRecord → File → ℕ → Answer
plain_answer p r f k = (look_up_under p r f unpooled k).answer

-- "tries the filter, then the tray, then the file"
unfoldable pub combined_of : Parameters → GrowthRecord → File → Tray → List ℕ → ℕ → Answer
combined_of p r f t filter k =
    answered_unless (sought_refusal p r f t filter k)
    (cond (passes p.multiplier filter k)
    (latest_or p.pages k (waiting t) (plain_answer p r f k))
    (plain_answer p r f k))

-- the same without a filter: the latest report on the star, else the file
unfoldable pub unfiltered_of : Parameters → GrowthRecord → File → Tray → List ℕ → ℕ → Answer
unfiltered_of p r f t filter k =
    answered_unless (sought_refusal p r f t filter k) (latest_or p.pages k (waiting t) (plain_answer p r f k))
