-- What follows of every history: its file is clean, its calls are accepted as the model tells, and only the model's contents count.
use Rattle.std.specs.Prelude.{◌≡◌, Bool, true, false, ◌↔◌, ◌⊎◌, ℕ}
use mathlib.Core.List.{List, [], Memᴰ}
use Rattle.std.proofs.Math.Option.{none, some}
use Rattle.placement.specs.Hash.{hash_of}
use Rattle.hashing.specs.declared.Parameters.{Parameters}
use Rattle.hashing.specs.Geometry.{ungrown, shrunk}
use Rattle.pages.specs.declared.position.Position.{Position}
use Rattle.pages.specs.Position.{valid_number, valid_position, valid_word}
use Rattle.placement.specs.Rule.{left}
use Rattle.placement.specs.File.{File, Clean}
use Rattle.calls.specs.Answers.{Pool, accepted, refused, accepted_at, refused_at}
use Rattle.calls.specs.Calls.{file_fits_lem, pool_fits_lem, make_of}
use Rattle.calls.specs.Records.{valid_steps, closed_record}
use Rattle.reports.specs.declared.Report.{Report}
use Rattle.reports.specs.Reports.{Tray, waiting, tray_fits_lem, latest_or}
use Rattle.reports.specs.Exact.{TrayCall, from_zeros, called_all, OneMultiplier}
use Rattle.histories.specs.Model.{Request, look_up_lem, enter, cascade, change, remove, grow, shrink, due, check, open_growth_lem, step_growth_lem, set_position, held_position, held_owner, held_entry, entry_stars, page_for, place_on_lem, answered}
use Rattle.histories.specs.Loss.{Loss, loss_fits, whole_call}
use Rattle.histories.specs.Filing.{begins}
use Rattle.histories.specs.Call.{mend, lost, file_reports_lem, combined_look_up, add_report, Call, element_of, call_of}
use Rattle.histories.specs.Run.{HistoryState, Event, initial, outcome, next, events, end}

-- refused with 13 and the place of star k, and no step: file, growth state and model stay
abbrev pub NotOwner : HistoryState → Call → ℕ → Type 0
NotOwner now c k = ((outcome now c).answer ≡ refused_at 13 0 (place_on_lem now.parameters now.model k)) × (next now c ≡ now)

-- accepted with the page and the place of star k
abbrev pub AcceptedAt : HistoryState → Call → ℕ → Type 0
AcceptedAt now c k = (outcome now c).answer ≡ accepted_at (page_for now.parameters now.model k) (place_on_lem now.parameters now.model k)

-- refused with 16, and no step
abbrev pub OutOfTurn : HistoryState → Call → Type 0
OutOfTurn now c = ((outcome now c).answer ≡ refused 16 0) × (next now c ≡ now)

-- refused with none of a filing's own refusals
pub record MeetsNoOwn (now : HistoryState) (c : Call) : Type 0 where
  pub parameters : (outcome now c).answer.refusal ≡ 1 → ⊥
  pub lengths : (outcome now c).answer.refusal ≡ 2 → ⊥
  pub turn : (outcome now c).answer.refusal ≡ 16 → ⊥

-- the kinds that write the file, but for a step
unfoldable pub writes : Request → Bool
writes (look_up_lem k) = false
writes (enter caller k q) = true
writes (cascade caller k q) = true
writes (change caller k q) = true
writes (remove caller k) = true
writes grow = true
writes shrink = true
writes due = false
writes check = false
writes open_growth_lem = false
writes step_growth_lem = false

-- what holds while no growth is open
pub record AtRest (now : HistoryState) (second : File) : Type 0 where
  -- the entry of a star not held is refused with 8 exactly if the model's stars with it do not fit
  pub full :
      (pool : Pool) (caller k : ℕ) (q : Position) → pool_fits_lem now.parameters pool ≡ true → valid_number k ≡ true → valid_position q ≡ true
      → held_position k now.model.entries ≡ none
      → ((outcome now (call_of pool second (enter caller k q))).answer.refusal ≡ 8)
      ↔ (left (hash_of now.parameters now.model.growth) 0 now.parameters.pages (entry_stars (set_position caller k q now.model.entries)) ≡ [] → ⊥)
  -- an entry of a held star with its own position answers its page and place and is no step: file, growth record and model stay
  pub resent :
      (pool : Pool) (caller k : ℕ) (q : Position) → pool_fits_lem now.parameters pool ≡ true → held_position k now.model.entries ≡ some q
      → AcceptedAt now (call_of pool second (enter caller k q)) k
      × (next now (call_of pool second (enter caller k q)) ≡ now)
  -- with any other position it is refused with 6
  pub held :
      (pool : Pool) (caller k : ℕ) (q r : Position) → pool_fits_lem now.parameters pool ≡ true → valid_position q ≡ true
      → held_position k now.model.entries ≡ some r → (r ≡ q → ⊥)
      → (outcome now (call_of pool second (enter caller k q))).answer ≡ refused_at 6 0 (place_on_lem now.parameters now.model k)
  -- a change or a removal of a held star by one who is neither its owner nor 0 is refused with 13
  pub not_owner :
      (pool : Pool) (caller k : ℕ) (r : Position) → held_position k now.model.entries ≡ some r
      → (caller ≡ 0 → ⊥) → (caller ≡ held_owner k now.model.entries → ⊥)
      → ((q : Position) → valid_position q ≡ true → NotOwner now (call_of pool second (change caller k q)) k)
      × (pool_fits_lem now.parameters pool ≡ true → NotOwner now (call_of pool second (remove caller k)) k)
  -- by its owner or 0 it is accepted
  pub owner :
      (pool : Pool) (caller k : ℕ) (r : Position) → held_position k now.model.entries ≡ some r
      → (caller ≡ 0) ⊎ (caller ≡ held_owner k now.model.entries)
      → ((q : Position) → valid_position q ≡ true → AcceptedAt now (call_of pool second (change caller k q)) k)
      × (pool_fits_lem now.parameters pool ≡ true → AcceptedAt now (call_of pool second (remove caller k)) k)
  -- a shrink is refused with 9 exactly if the model's (e, x) is (0, 0)
  pub shrink_first :
      (pool : Pool) → pool_fits_lem now.parameters pool ≡ true
      → ((outcome now (call_of pool second shrink)).answer.refusal ≡ 9) ↔ (now.model.growth ≡ ungrown)
  -- and else with 8 exactly if the model's stars do not fit under the state before
  pub shrink_full :
      (pool : Pool) → pool_fits_lem now.parameters pool ≡ true → (now.model.growth ≡ ungrown → ⊥)
      → ((outcome now (call_of pool second shrink)).answer.refusal ≡ 8)
      ↔ (left (hash_of now.parameters (shrunk now.parameters now.model.growth)) 0 now.parameters.pages (entry_stars now.model.entries) ≡ [] → ⊥)
  -- an opening is accepted, or refused, as a growth would be
  pub opening :
      (pool : Pool) → pool_fits_lem now.parameters pool ≡ true → file_fits_lem now.parameters second ≡ true
      → (outcome now (call_of pool second open_growth_lem)).answer.refusal ≡ (outcome now (call_of pool second grow)).answer.refusal
  -- a step is out of turn, whatever second set it is lent
  pub stepping :
      (pool : Pool) → pool_fits_lem now.parameters pool ≡ true → file_fits_lem now.parameters second ≡ true
      → OutOfTurn now (call_of pool second step_growth_lem)
  -- a filing tries its reports, and none of 1, 2 and 16 stops it
  pub filing :
      (pool : Pool) (t : Tray) (bits : List ℕ) → pool_fits_lem now.parameters pool ≡ true → tray_fits_lem t bits ≡ true
      → (begins now.parameters now.growth now.file pool t bits ≡ true) × MeetsNoOwn now (element_of pool second (file_reports_lem t bits))

-- what holds between opening and step M
pub record WhileOpen (now : HistoryState) (second : File) : Type 0 where
  -- what writes the file is out of turn
  pub writing :
      (pool : Pool) (r : Request) → writes r ≡ true → pool_fits_lem now.parameters pool ≡ true → OutOfTurn now (call_of pool second r)
  -- so is another opening
  pub opening :
      (pool : Pool) → pool_fits_lem now.parameters pool ≡ true → file_fits_lem now.parameters second ≡ true
      → OutOfTurn now (call_of pool second open_growth_lem)
  -- so is a filing
  pub filing :
      (pool : Pool) (t : Tray) (bits : List ℕ) → pool_fits_lem now.parameters pool ≡ true → tray_fits_lem t bits ≡ true
      → OutOfTurn now (element_of pool second (file_reports_lem t bits))
  -- a step is accepted, so the growth comes to its end
  pub stepping : (pool : Pool) → pool_fits_lem now.parameters pool ≡ true → (outcome now (call_of pool second step_growth_lem)).answer.refusal ≡ 0

-- what holds after power was lost in a state, and the file was mended with M separators and a pool that fits: document 02 (xii)
pub record Mended (now : HistoryState) (c : Call) (l : Loss) : Type 0 where
  pub answer : (outcome now c).answer ≡ accepted 0
  -- nothing is open
  pub closed : (outcome now c).growth ≡ closed_record now.growth.state
  -- "the file is that from before the call or after it"
  pub file :
      ((outcome now c).file ≡ now.file)
      ⊎ ((outcome now c).file ≡ (whole_call now.parameters now.growth now.file c.pool l.underway).file)

-- what holds of a state of a history, whatever second set its calls are lent
pub record InHistory (now : HistoryState) (second : File) : Type 0 where
  -- the file is clean: all pages are sound, and it is what the rule gives its stars
  pub clean : Clean valid_word (hash_of now.parameters now.growth.state) now.parameters.pages now.file
  -- so a check accepts it
  pub checked : (pool : Pool) → pool_fits_lem now.parameters pool ≡ true → (outcome now (call_of pool second check)).answer.refusal ≡ 0
  -- a look-up of a valid number is accepted, and answers as the model, also while a growth is open
  pub sought :
      (pool : Pool) (k : ℕ) → valid_number k ≡ true
      → (outcome now (call_of pool second (look_up_lem k))).answer ≡ answered now.parameters now.model k
  -- a cascade answers and leaves what the entry does, and counts as one
  pub cascades :
      (pool : Pool) (caller k : ℕ) (q : Position)
      → (outcome now (call_of pool second (cascade caller k q)) ≡ outcome now (call_of pool second (enter caller k q)))
      × (next now (call_of pool second (cascade caller k q)) ≡ next now (call_of pool second (enter caller k q)))
  -- a mending is no step, and accepted where nothing is open
  pub mends :
      (pool : Pool) → (next now (element_of pool second mend) ≡ now)
      × (pool_fits_lem now.parameters pool ≡ true → now.growth.growing ≡ false → (outcome now (element_of pool second mend)).answer ≡ accepted 0)
  -- after a power loss the history goes on
  pub survives : (pool : Pool) (l : Loss) → loss_fits now.parameters l ≡ true → Mended now (element_of pool second (lost l)) l
  -- a combined look-up and an addition are no step, whatever tray and filter hold, nor is a filing that meets a refusal of its own
  pub trays :
      (pool : Pool) (t : Tray) (bits : List ℕ)
      → ((k : ℕ) → next now (element_of pool second (combined_look_up t bits k)) ≡ now)
      × ((x : Report) → next now (element_of pool second (add_report t bits x)) ≡ now)
      × (begins now.parameters now.growth now.file pool t bits ≡ false → next now (element_of pool second (file_reports_lem t bits)) ≡ now)
  -- with a tray and filter left by their calls alone, under the file's multiplier, a combined look-up answers by the latest report, else as the model
  pub combined :
      (pool : Pool) (cs : List TrayCall) → OneMultiplier now.parameters.multiplier cs → (k : ℕ) → valid_number k ≡ true
      → (outcome now (element_of pool second (combined_look_up (called_all from_zeros cs).tray (called_all from_zeros cs).filter k))).answer
      ≡ latest_or now.parameters.pages k (waiting (called_all from_zeros cs).tray) (answered now.parameters now.model k)
  -- the steps done are "below M and 0 if none is open"
  pub steps : valid_steps now.parameters now.growth ≡ true
  pub at_rest_lem : now.growth.growing ≡ false → AtRest now second
  pub while_open : now.growth.growing ≡ true → WhileOpen now second

-- so it is before each call of a history, and at its end
pub record Throughout (start : HistoryState) (history : List Call) : Type 0 where
  pub before : (t : Event) → Memᴰ t (events start history) → (second : File) → InHistory t.before second
  pub after : (second : File) → InHistory (end start history) second

abbrev pub EachState : Type 0
EachState =
    (p : Parameters) (f second : File) (pool : Pool) → (make_of p f pool).answer.refusal ≡ 0
    → (history : List Call) → Throughout (initial p f second pool) history

-- the same parameters, stars, positions, owners and growth state: the same entry, if any, for each number
pub record SameContents (a b : HistoryState) : Type 0 where
  pub parameters : a.parameters ≡ b.parameters
  pub entries : (k : ℕ) → held_entry k a.model.entries ≡ held_entry k b.model.entries
  pub growth : a.model.growth ≡ b.model.growth

-- two states with equal models and equal separators, pages and growth state, and equal second sets where as many steps of a growth are done
pub record SameState (a b : HistoryState) : Type 0 where
  pub model : a.model ≡ b.model
  pub separators : a.file.separators ≡ b.file.separators
  pub numbers : a.file.numbers ≡ b.file.numbers
  pub words : a.file.words ≡ b.file.words
  pub owners : a.file.owners ≡ b.file.owners
  pub growth : a.growth.state ≡ b.growth.state
  pub unfinished : a.growth.growing ≡ true → b.growth.growing ≡ true → a.growth.steps ≡ b.growth.steps → a.second ≡ b.second

-- two histories that end with the same parameters and contents end alike, however they came there
abbrev pub HistoryIndependence : Type 0
HistoryIndependence =
    (p q : Parameters) (f g second spare : File) (pool other : Pool)
    → (make_of p f pool).answer.refusal ≡ 0 → (make_of q g other).answer.refusal ≡ 0
    → (history another : List Call)
    → SameContents (end (initial p f second pool) history) (end (initial q g spare other) another)
    → SameState (end (initial p f second pool) history) (end (initial q g spare other) another)
