-- An element of a history, what it does, and what the model is fed: document 01, "The plain book".
use Rattle.std.specs.Prelude.{Bool, true, false, not, cond, ◌&&◌, List, [], ◌∷◌, ℕ, eqb}
use Rattle.hashing.specs.declared.Parameters.{Parameters}
use Rattle.hashing.specs.declared.Growth.{Growth}
use Rattle.placement.specs.Rule.{Star}
use Rattle.placement.specs.File.{File}
use Rattle.reach.specs.Reach.{all_stars}
use Rattle.calls.specs.declared.answers.Answer.{Answer}
use Rattle.calls.specs.declared.records.GrowthRecord.{GrowthRecord}
use Rattle.calls.specs.Answers.{Pool, After, unpooled, refused}
use Rattle.calls.specs.Calls.{unchanged}
use Rattle.calls.specs.Records.{closed_record, look_up_under, enter_under, cascade_under, change_under, remove_under, grow_under, shrink_under, due_under, check_under, record_after, AfterStep, open_under, step_under}
use Rattle.calls.specs.Mend.{mend_under}
use Rattle.calls.specs.Carry.{carry_of}
use Rattle.fits_table.specs.Header.{table_in}
use Rattle.fits_table.specs.declared.cards.Table.{Table}
use Rattle.fits_table.specs.declared.cards.Table.TheVariants.{Rows, Nothing}
use Rattle.exchange.specs.Tables.{stars_read, read_under, write_under}
use Rattle.reports.specs.declared.Report.{Report}
use Rattle.reports.specs.Reports.{Tray}
use Rattle.reports.specs.TrayCalls.{add_of, combined_of}
use Rattle.reports.specs.Filing.{AfterFiling, filing_of}
use Rattle.histories.specs.Model.{Request, look_up_lem, enter, cascade, change, remove, grow, shrink, due, check, open_growth_lem, step_growth_lem, made, stars_entered, Feeding, goes_on_lem, anew}
use Rattle.histories.specs.Loss.{Loss, loss_fits, whole_call, mended_after, counted_call}
use Rattle.histories.specs.Filing.{filing_made}

-- A call that the book is fed as it is. A mending, and power lost, then a mending: document 02 (xii). Carrying another file, under its parameters and record,
-- into this one, under given parameters and (e, x), and carrying this one into another, under its parameters and record: document 02 (viii). Reading a
-- table into this one, under given parameters and (e, x), and writing this one as a table: document 02 (vi). Filing the reports of a tray, the combined
-- look-up and adding a report, under this file's parameters and record, with whatever tray and filter: document 02 (xi).
pub data Element : Type 0 where
  plain : Request → Element
  mend : Element
  lost : Loss → Element
  carried_into : Parameters → GrowthRecord → File → Parameters → Growth → Element
  carried_from : Parameters → GrowthRecord → Element
  read_from : List ℕ → Parameters → Growth → Element
  written_to : List ℕ → Element
  file_reports_lem : Tray → List ℕ → Element
  combined_look_up : Tray → List ℕ → ℕ → Element
  add_report : Tray → List ℕ → Report → Element

-- "any number, position and pool", and any caller: look-ups, changes and Dues leave the pool alone. `second` is the set of pages that is lent besides, of
-- any contents and lengths: to an opening, to a step while nothing is open (02 (xiii)), to a carrying and to a reading.
pub record Call : Type 0 where
  pub element : Element
  pub pool : Pool
  pub second : File

abbrev pub element_of : Pool → File → Element → Call
element_of pool second e = record { element = e; pool = pool; second = second }

abbrev pub call_of : Pool → File → Request → Call
call_of pool second r = element_of pool second (plain r)

-- whether a call was accepted
unfoldable pub is_accepted : Answer → Bool
is_accepted a = eqb a.refusal 0

-- whether a call closed an open growth, as step M does
unfoldable pub finishes : GrowthRecord → GrowthRecord → Bool
finishes before after = before.growing && not after.growing

-- the answer, and the parameters, the growth record, the file, the second set of an open growth and the pool afterwards
pub record Outcome : Type 0 where
  pub answer : Answer
  pub parameters : Parameters
  pub growth : GrowthRecord
  pub file : File
  pub second : File
  pub pool : Pool

-- a change is lent no pool
abbrev pub keeping_pool : Pool → After → After
keeping_pool pool after = record { answer = after.answer; growth = after.growth; file = after.file; pool = pool }

-- a call on the file leaves the second set
abbrev pub on_file : Parameters → GrowthRecord → File → After → Outcome
on_file p r second after =
    record {
      answer = after.answer;
      parameters = p;
      growth = record_after r after;
      file = after.file;
      second = second;
      pool = after.pool;
    }

-- the set lent to an accepted opening is the second set from then on
abbrev pub on_opening : Parameters → File → File → AfterStep → Outcome
on_opening p f second after =
    record {
      answer = after.answer;
      parameters = p;
      growth = after.growth;
      file = f;
      second = cond (is_accepted after.answer) after.second second;
      pool = after.pool;
    }

-- "step M answers the new page, and then the second set is the file": the two change places; with nothing open the state's own counts for nothing
abbrev pub on_step : Parameters → GrowthRecord → File → File → AfterStep → Outcome
on_step p r f second after =
    record {
      answer = after.answer;
      parameters = p;
      growth = after.growth;
      file = cond (finishes r after.growth) after.second f;
      second = cond (finishes r after.growth) f (cond r.growing after.second second);
      pool = after.pool;
    }

-- "Each call has that file's parameters, .. and the file buffers and (e, x) as the call before left them", by the definitions of crate calls; an opening,
-- and a step while nothing is open, has the set lent to it, any other step the second set
unfoldable pub step : Parameters → GrowthRecord → File → File → File → Pool → Request → Outcome
step p r f second lent pool (look_up_lem k) = on_file p r second (look_up_under p r f pool k)
step p r f second lent pool (enter caller k q) = on_file p r second (enter_under p r f pool caller k q)
step p r f second lent pool (cascade caller k q) = on_file p r second (cascade_under p r f pool caller k q)
step p r f second lent pool (change caller k q) = on_file p r second (keeping_pool pool (change_under p r f unpooled caller k q))
step p r f second lent pool (remove caller k) = on_file p r second (remove_under p r f pool caller k)
step p r f second lent pool grow = on_file p r second (grow_under p r f pool)
step p r f second lent pool shrink = on_file p r second (shrink_under p r f pool)
step p r f second lent pool due = on_file p r second (due_under p r f pool)
step p r f second lent pool check = on_file p r second (check_under p r f pool)
step p r f second lent pool open_growth_lem = on_opening p f second (open_under p r f lent pool)
step p r f second lent pool step_growth_lem = on_step p r f second (step_under p r f (cond r.growing second lent) pool)

-- a call that only reads the file
abbrev pub only_read : Parameters → GrowthRecord → File → File → Pool → Answer → Outcome
only_read p r f second pool answer = record { answer = answer; parameters = p; growth = r; file = f; second = second; pool = pool }

-- "an accepted reading begins anew" (vi), "an accepted carrying counts as a reading does, a refused one as no step" (viii): the lent set is then the file
abbrev pub beginning : Parameters → GrowthRecord → File → File → Parameters → AfterStep → Outcome
beginning p r f second q after =
    cond (is_accepted after.answer)
    (record {
      answer = after.answer;
      parameters = q;
      growth = after.growth;
      file = after.second;
      second = second;
      pool = after.pool;
    })
    (only_read p r f second after.pool after.answer)

-- the record with a given (e, x): whether a growth is open is told by the file's own
abbrev pub given_state : GrowthRecord → Growth → GrowthRecord
given_state r g = record { state = g; growing = r.growing; steps = r.steps }

-- a reading, as a call that leaves the lent set
abbrev pub as_lent : GrowthRecord → After → AfterStep
as_lent r after = record { answer = after.answer; growth = record_after r after; second = after.file; pool = after.pool }

-- the stars of a table
unfoldable pub table_stars : List ℕ → Table → List Star
table_stars given Nothing = []
table_stars given (Rows n) = stars_read given n

-- a filing leaves the record and the second set
abbrev pub on_filing : Parameters → GrowthRecord → File → AfterFiling → Outcome
on_filing p r second after =
    record {
      answer = after.answer;
      parameters = p;
      growth = r;
      file = after.file;
      second = second;
      pool = after.pool;
    }

-- "a history goes on only after mending": a loss with other separators than M, or a pool that does not fit the mending, is no step
unfoldable pub effect : Parameters → GrowthRecord → File → File → File → Pool → Element → Outcome
effect p r f second lent pool (plain q) = step p r f second lent pool q
effect p r f second lent pool mend = on_file p r second (mend_under p r f pool)
effect p r f second lent pool (lost x) =
    cond (loss_fits p x)
    (on_file p (closed_record r.state) second (mended_after p r f pool x))
    (on_file p r second (unchanged r.state f pool (refused 2 0)))
effect p r f second lent pool (carried_into old s source q g) = beginning p r f second q (carry_of old s source q (given_state r g) lent pool)
effect p r f second lent pool (carried_from q s) =
    only_read p r f second (carry_of p r f q s lent pool).pool (carry_of p r f q s lent pool).answer
effect p r f second lent pool (read_from given q g) = beginning p r f second q (as_lent (given_state r g) (read_under q (given_state r g) lent pool given))
effect p r f second lent pool (written_to out) = only_read p r f second pool (write_under p r f out).answer
effect p r f second lent pool (file_reports_lem t filter) = on_filing p r second (filing_of p r f pool t filter)
effect p r f second lent pool (combined_look_up t filter k) = only_read p r f second pool (combined_of p r f t filter k)
effect p r f second lent pool (add_report t filter x) = only_read p r f second pool (add_of p r t filter x).answer

-- "Histories read an unfinished growth as not begun, a finished one as accepted at step M": document 02 (xiii)
unfoldable pub counts_as : GrowthRecord → Request → Outcome → Request
counts_as r q o = cond (finishes r o.growth) grow q

-- what the model is fed of an element on this file that had this outcome
unfoldable pub feeding : Parameters → GrowthRecord → File → Pool → Outcome → Element → Feeding
feeding p r f pool o (plain q) = goes_on_lem (made (counts_as r q o) o.answer.refusal ∷ [])
feeding p r f pool o mend = goes_on_lem []
feeding p r f pool o (lost x) = goes_on_lem (cond (loss_fits p x) (counted_call p x.underway (whole_call p r f pool x.underway) o.file) [])
feeding p r f pool o (carried_into old s source q g) = cond (is_accepted o.answer) (anew g (stars_entered (all_stars old source))) (goes_on_lem [])
feeding p r f pool o (carried_from q s) = goes_on_lem []
feeding p r f pool o (read_from given q g) = cond (is_accepted o.answer) (anew g (stars_entered (table_stars given (table_in given)))) (goes_on_lem [])
feeding p r f pool o (written_to out) = goes_on_lem []
feeding p r f pool o (file_reports_lem t filter) = goes_on_lem (filing_made p r f pool t filter)
feeding p r f pool o (combined_look_up t filter k) = goes_on_lem []
feeding p r f pool o (add_report t filter x) = goes_on_lem []

-- whether a 5 tells of this file: that of a carrying into it tells of the file it read
unfoldable pub tells_of_file : Element → Bool
tells_of_file (plain q) = true
tells_of_file mend = true
tells_of_file (lost x) = true
tells_of_file (carried_into old s source q g) = false
tells_of_file (carried_from q s) = true
tells_of_file (read_from given q g) = true
tells_of_file (written_to out) = true
tells_of_file (file_reports_lem t filter) = true
tells_of_file (combined_look_up t filter k) = true
tells_of_file (add_report t filter x) = true
