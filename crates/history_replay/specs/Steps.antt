-- What the parts of a replay leave: one call on (e, x), one call with its answers written, and several calls.
use Rattle.std.specs.Prelude.{◌≡◌, cond, List, ◌++◌, ℕ, ◌*◌, eqb, length}
use Rattle.std.proofs.Math.Seq.{paste}
use Rattle.hashing.specs.declared.Parameters.{Parameters}
use Rattle.hashing.specs.declared.Growth.{Growth}
use Rattle.pages.specs.declared.position.Position.{Position}
use Rattle.placement.specs.File.{File}
use Rattle.calls.specs.Answers.{Pool, After, refused}
use Rattle.calls.specs.Calls.{unchanged, look_up_of, enter_of, cascade_of, change_of, remove_of, grow_of, shrink_of, due_of, check_of}
use Rattle.calls.specs.Records.{closed_record}
use Rattle.history_replay.specs.declared.calling.Stepped.{Stepped}
use Rattle.histories.specs.Model.{Request, look_up_lem, enter, cascade, change, remove, grow, shrink, due, check, open_growth_lem, step_growth_lem}
use Rattle.histories.specs.Run.{HistoryState, events, end}
use Rattle.history_replay.specs.Replay.{LentHistory, history_from, last_pool, encoded, event_answers}

-- The call of a request on (e, x). A replay opens no growth, so each of its calls is this one under a closed record; no kind gives the last two requests,
-- of which nothing is said.
unfoldable pub call_at : Parameters → Growth → File → Pool → Request → After
call_at p g f pool (look_up_lem k) = look_up_of p g f pool k
call_at p g f pool (enter caller k q) = enter_of p g f pool caller k q
call_at p g f pool (cascade caller k q) = cascade_of p g f pool caller k q
call_at p g f pool (change caller k q) = change_of p g f pool caller k q
call_at p g f pool (remove caller k) = remove_of p g f pool caller k
call_at p g f pool grow = grow_of p g f pool
call_at p g f pool shrink = shrink_of p g f pool
call_at p g f pool due = due_of p g f pool
call_at p g f pool check = check_of p g f pool
call_at p g f pool open_growth_lem = unchanged g f pool (refused 16 0)
call_at p g f pool step_growth_lem = unchanged g f pool (refused 16 0)

-- The request of a kind whose call is lent the pool: what request_of leaves after the other kinds, and then after those of one star.

unfoldable pub whole_request : ℕ → Request
whole_request kind = cond (eqb kind 4) grow (cond (eqb kind 7) shrink check)

unfoldable pub pooled_request : ℕ → ℕ → ℕ → Position → Request
pooled_request kind caller k q =
    cond (eqb kind 1)
    (enter caller k q)
    (cond (eqb kind 8) (cascade caller k q) (cond (eqb kind 3) (remove caller k) (whole_request kind)))

-- of the two entries among them
unfoldable pub entry_request : ℕ → ℕ → ℕ → Position → Request
entry_request kind caller k q = cond (eqb kind 8) (cascade caller k q) (enter caller k q)

pub record Steps (after : After) (r : Stepped) (file : File) (pool : Pool) : Type 0 where
  pub answers : r.answer ≡ after.answer
  pub growths : r.growth ≡ after.growth
  pub files : file ≡ after.file
  pub pools : pool ≡ after.pool

pub record Recorded (after : After) (before : List ℕ) (at : ℕ) (growth : Growth) (answers : List ℕ) (file : File) (pool : Pool) : Type 0 where
  pub answers_are : answers ≡ paste before at (encoded after.answer) 8
  pub growths : growth ≡ after.growth
  pub files : file ≡ after.file
  pub pools : pool ≡ after.pool

-- a caller, a star, a right ascension, a declination and eight answers for each kind
pub record Even (h : LentHistory) (answers : List ℕ) : Type 0 where
  pub callers : length h.callers ≡ length h.kinds
  pub stars : length h.stars ≡ length h.kinds
  pub ras : length h.ras ≡ length h.kinds
  pub decs : length h.decs ≡ length h.kinds
  pub eight : length answers ≡ length h.kinds * 8

-- the requests rs, run from a state, with the answers of later ones still to come; no growth is open after them
pub record Runs (s : HistoryState) (before : Pool) (rs : List Request) (later : List ℕ)
    (growth : Growth) (answers : List ℕ) (file : File) (pool : Pool) : Type 0 where
  pub answers_are : answers ≡ event_answers (events s (history_from s before rs)) ++ later
  pub growths : closed_record growth ≡ (end s (history_from s before rs)).growth
  pub files : file ≡ (end s (history_from s before rs)).file
  pub pools : pool ≡ last_pool s before rs
