-- Filing the reports of a tray: document 02 (xi).
use Rattle.std.specs.Prelude.{Bool, cond, ◌&&◌, List, [], ◌∷◌, ℕ, zero, suc, eqb}
use Rattle.hashing.specs.declared.Parameters.{Parameters}
use Rattle.placement.specs.File.{File}
use Rattle.calls.specs.declared.records.GrowthRecord.{GrowthRecord}
use Rattle.calls.specs.declared.answers.Answer.{Answer}
use Rattle.calls.specs.Answers.{Pool, After, accepted, refused, cleared}
use Rattle.calls.specs.Calls.{file_fits_lem, pool_fits_lem, unchanged}
use Rattle.calls.specs.Records.{enter_under, change_under, remove_under}
use Rattle.reports.specs.Reports.{Report, Tray, waiting, tray_fits_lem, closed_tray, filter_of, reported_position, is_removal}
use Rattle.reports.specs.TrayCalls.{tray_refusal}

-- One report, "tried as the call it made": 7 is met exactly where the named page is sound and does not hold the star

abbrev pub is_not_held : After → Bool
is_not_held after = eqb after.answer.refusal 7

-- "a removal of a star not held does nothing and counts as filed"
unfoldable pub removal_filed : Parameters → GrowthRecord → File → Pool → Report → After
removal_filed p r f pool x =
    let after = remove_under p r f pool x.owner x.number in
    cond (is_not_held after) (unchanged r.state f pool (accepted 0)) after

-- "changing .. held stars and entering the rest"
unfoldable pub position_filed : Parameters → GrowthRecord → File → Pool → Report → After
position_filed p r f pool x =
    let after = change_under p r f pool x.owner x.number (reported_position x) in
    cond (is_not_held after) (enter_under p r f pool x.owner x.number (reported_position x)) after

unfoldable pub report_filed : Parameters → GrowthRecord → File → Pool → Report → After
report_filed p r f pool x = cond (is_removal x) (removal_filed p r f pool x) (position_filed p r f pool x)

-- The reports in order

-- the number filed, "that refusal, if any", the file, and the reports that stay
pub record Filed : Type 0 where
  pub filed : ℕ
  pub answer : Answer
  pub file : File
  pub rest : List Report

abbrev pub one_more_lem : Filed → Filed
one_more_lem d = record { filed = suc d.filed; answer = d.answer; file = d.file; rest = d.rest }

-- "It stops at the first refusal"
unfoldable pub filed_from : Parameters → GrowthRecord → File → Pool → List Report → Filed
filed_from p r f pool [] = record { filed = 0; answer = accepted 0; file = f; rest = [] }
filed_from p r f pool (x ∷ xs) =
    let after = report_filed p r f pool x in
    cond (eqb after.answer.refusal 0)
    (one_more_lem (filed_from p r after.file pool xs))
    (record { filed = 0; answer = after.answer; file = after.file; rest = x ∷ xs })

-- The call

pub record AfterFiling : Type 0 where
  pub filed : ℕ
  pub answer : Answer
  pub file : File
  pub pool : Pool
  pub tray : Tray
  pub filter : List ℕ

abbrev pub not_filed_lem : File → Pool → Tray → List ℕ → ℕ → AfterFiling
not_filed_lem f pool t filter n =
    record { filed = 0; answer = refused n 0; file = f; pool = pool; tray = t; filter = filter }

unfoldable pub filed_unless : ℕ → File → Pool → Tray → List ℕ → AfterFiling → AfterFiling
filed_unless zero f pool t filter after = after
filed_unless (suc n) f pool t filter after = not_filed_lem f pool t filter (suc n)

-- "Filed reports stay in the file and leave the tray", "the pool zeros"
unfoldable pub left_by : ℕ → Filed → Pool → AfterFiling
left_by a d pool =
    record {
      filed = d.filed;
      answer = d.answer;
      file = d.file;
      pool = pool;
      tray = closed_tray d.rest;
      filter = filter_of a d.rest;
    }

-- 1, 2, 16, also with an empty tray; 16 clears the pool, as it does in every call
unfoldable pub filing_of : Parameters → GrowthRecord → File → Pool → Tray → List ℕ → AfterFiling
filing_of p r f pool t filter =
    filed_unless (tray_refusal p r (file_fits_lem p f && (pool_fits_lem p pool && tray_fits_lem t filter))) f pool t filter
    (cond r.growing
    (not_filed_lem f (cleared pool) t filter 16)
    (left_by p.multiplier (filed_from p r f (cleared pool) (waiting t)) (cleared pool)))
