-- A replay: a lent history, run through the calls from a file made for it, or from a lent one.
use Rattle.std.specs.Prelude.{◌≡◌, Bool, true, cond, ◌&&◌, List, [], ◌∷◌, ◌++◌, ℕ, zero, suc, ◌*◌, eqb, ltb, ℤ, pos, length, get_or}
use Rattle.hashing.specs.declared.Parameters.{Parameters}
use Rattle.hashing.specs.declared.Growth.{Growth}
use Rattle.hashing.specs.Geometry.{ungrown}
use Rattle.pages.specs.declared.position.Position.{Position}
use Rattle.placement.specs.File.{File}
use Rattle.calls.specs.Answers.{Pool, refusal_number, lent, unpooled}
use Rattle.calls.specs.Calls.{unless, or_else, make_of}
use Rattle.calls.specs.Records.{closed_record}
unfoldable pub use Rattle.answer_row.specs.Rows.{encoded}
use Rattle.history_replay.specs.declared.replaying.Replayed.{Replayed}
use Rattle.history_replay.specs.declared.replaying.Resumed.{Resumed}
use Rattle.history_replay.specs.declared.replaying.Replayed.TheVariants.{Done, BadKind, Refused}
use Rattle.histories.specs.Model.{model_file, Request, look_up_lem, enter, cascade, change, remove, grow, shrink, due, check}
use Rattle.histories.specs.Call.{Call, call_of}
use Rattle.histories.specs.Run.{HistoryState, Event, fresh, initial, outcome, next, events, end}
use Rattle.histories.specs.Theorem.{AsModel}

-- the lent slices of a history: the kind, caller, number, right ascension and declination of each call
pub record LentHistory : Type 0 where
  pub kinds : List ℕ
  pub callers : List ℕ
  pub stars : List ℕ
  pub ras : List ℕ
  pub decs : List ℤ

abbrev pub lent_history : List ℕ → List ℕ → List ℕ → List ℕ → List ℤ → LentHistory
lent_history kinds callers stars ras decs = record { kinds = kinds; callers = callers; stars = stars; ras = ras; decs = decs }

-- every kind is one of the nine
unfoldable pub all_kinds : List ℕ → Bool
all_kinds [] = true
all_kinds (kind ∷ kinds) = ltb kind 9 && all_kinds kinds

-- kinds: 0 look-up, 1 enter, 2 change, 3 remove, 4 grow, 5 due, 6 check, 7 shrink, 8 enter by a cascade
unfoldable pub request_of : ℕ → ℕ → ℕ → Position → Request
request_of kind caller k q =
    cond (eqb kind 0)
    (look_up_lem k)
    (cond (eqb kind 1)
    (enter caller k q)
    (cond (eqb kind 8)
    (cascade caller k q)
    (cond (eqb kind 2)
    (change caller k q)
    (cond (eqb kind 3) (remove caller k) (cond (eqb kind 4) grow (cond (eqb kind 5) due (cond (eqb kind 7) shrink check)))))))

abbrev pub request_at : LentHistory → ℕ → Request
request_at h i =
    request_of (get_or h.kinds i 0) (get_or h.callers i 0) (get_or h.stars i 0)
    (record { ra = get_or h.ras i 0; dec = get_or h.decs i (pos 0) })

-- the first n requests
unfoldable pub requests_to : LentHistory → ℕ → List Request
requests_to h zero = []
requests_to h (suc i) = requests_to h i ++ request_at h i ∷ []

abbrev pub requests_of : LentHistory → List Request
requests_of h = requests_to h (length h.kinds)

-- The calls: each has the pool as the call before left it. None opens a growth, so the second set that it is lent counts for nothing.

unfoldable pub history_from : HistoryState → Pool → List Request → List Call
history_from s pool [] = []
history_from s pool (r ∷ rs) =
    call_of pool s.second r ∷ history_from (next s (call_of pool s.second r)) (outcome s (call_of pool s.second r)).pool rs

-- the pool after the last call
unfoldable pub last_pool : HistoryState → Pool → List Request → Pool
last_pool s pool [] = pool
last_pool s pool (r ∷ rs) = last_pool (next s (call_of pool s.second r)) (outcome s (call_of pool s.second r)).pool rs

-- eight numbers for each answer
unfoldable pub event_answers : List Event → List ℕ
event_answers [] = []
event_answers (t ∷ ts) = encoded t.answer ++ event_answers ts

-- What a replay answers and leaves.

pub record Replay : Type 0 where
  -- 0 if it was run
  pub refusal : ℕ
  pub growth : Growth
  pub answers : List ℕ
  pub file : File
  pub pool : Pool

-- a caller, a star, a right ascension and a declination for each kind, and eight answers
abbrev pub even_lengths : ℕ → ℕ → ℕ → ℕ → ℕ → ℕ → Bool
even_lengths kinds callers stars ras decs answers =
    eqb callers kinds && (eqb stars kinds && (eqb ras kinds && (eqb decs kinds && eqb answers (kinds * 8))))

-- a pool as long as the file's numbers, words and owners
abbrev pub even_pool : ℕ → ℕ → ℕ → ℕ → ℕ → ℕ → Bool
even_pool numbers words owners poolnumbers poolwords poolowners =
    eqb poolnumbers numbers && (eqb poolwords words && eqb poolowners owners)

unfoldable pub evenly_lent : File → Pool → LentHistory → List ℕ → Bool
evenly_lent f pool h answers =
    even_lengths (length h.kinds) (length h.callers) (length h.stars) (length h.ras) (length h.decs) (length answers)
    && even_pool (length f.numbers) (length f.words) (length f.owners) (length pool.numbers) (length pool.words) (length pool.owners)

-- an unknown kind: a number that no paper uses
abbrev pub unknown_kind : ℕ
unknown_kind = 256

-- lengths that do not agree are 2, then an unknown kind, else it is what make says of parameters and lengths
unfoldable pub refusal_of_lem : Parameters → File → Pool → LentHistory → List ℕ → ℕ
refusal_of_lem p f pool h answers =
    or_else (unless (evenly_lent f pool h answers) 2)
    (or_else (unless (all_kinds h.kinds) unknown_kind) (make_of p f unpooled).answer.refusal)

-- a replay is lent no second set of pages
abbrev pub no_second : File
no_second = lent [] [] [] []

-- the state that make left
abbrev pub start_of : Parameters → File → HistoryState
start_of p f = initial p f no_second unpooled

-- the history of a replay from there
abbrev pub history_of : Parameters → File → Pool → LentHistory → List Call
history_of p f pool h = history_from (start_of p f) pool (requests_of h)

-- refused, with everything as it was, or run
unfoldable pub replayed_with : ℕ → Parameters → File → Pool → LentHistory → List ℕ → Replay
replayed_with (suc n) p f pool h answers = record { refusal = suc n; growth = ungrown; answers = answers; file = f; pool = pool }
replayed_with zero p f pool h answers =
    record {
      refusal = 0;
      growth = (end (start_of p f) (history_of p f pool h)).growth.state;
      answers = event_answers (events (start_of p f) (history_of p f pool h));
      file = (end (start_of p f) (history_of p f pool h)).file;
      pool = last_pool (start_of p f) pool (requests_of h);
    }

unfoldable pub replay_of : Parameters → File → Pool → LentHistory → List ℕ → Replay
replay_of p f pool h answers = replayed_with (refusal_of_lem p f pool h answers) p f pool h answers

-- The same from a file that is lent with its growth state, no growth open: lengths that do not agree are 2, then an unknown kind; the rest is what each call says.

unfoldable pub resumption_refusal : LentHistory → List ℕ → ℕ
resumption_refusal h answers =
    or_else
    (unless (even_lengths (length h.kinds) (length h.callers) (length h.stars) (length h.ras) (length h.decs) (length answers)) 2)
    (unless (all_kinds h.kinds) unknown_kind)

-- the state that is lent
abbrev pub lent_state : Parameters → Growth → File → HistoryState
lent_state p g f = fresh p g f no_second

unfoldable pub resumed_with : ℕ → Parameters → Growth → File → Pool → LentHistory → List ℕ → Replay
resumed_with (suc n) p g f pool h answers = record { refusal = suc n; growth = g; answers = answers; file = f; pool = pool }
resumed_with zero p g f pool h answers =
    record {
      refusal = 0;
      growth = (end (lent_state p g f) (history_from (lent_state p g f) pool (requests_of h))).growth.state;
      answers = event_answers (events (lent_state p g f) (history_from (lent_state p g f) pool (requests_of h)));
      file = (end (lent_state p g f) (history_from (lent_state p g f) pool (requests_of h))).file;
      pool = last_pool (lent_state p g f) pool (requests_of h);
    }

unfoldable pub resume_of : Parameters → Growth → File → Pool → LentHistory → List ℕ → Replay
resume_of p g f pool h answers = resumed_with (resumption_refusal h answers) p g f pool h answers

pub record Resumes (replay : Replay) (r : Resumed) (answers : List ℕ) (file : File) (pool : Pool) : Type 0 where
  pub refusals : r.refusal ≡ replay.refusal
  pub growths : r.growth ≡ replay.growth
  pub answers_are : answers ≡ replay.answers
  pub files : file ≡ replay.file
  pub pools : pool ≡ replay.pool

-- the number of each case of the answer
unfoldable pub refusal_said : Replayed → ℕ
refusal_said (Done growth) = 0
refusal_said BadKind = unknown_kind
refusal_said (Refused r) = refusal_number r

unfoldable pub growth_said : Replayed → Growth
growth_said (Done growth) = growth
growth_said BadKind = ungrown
growth_said (Refused r) = ungrown

-- the answer and the lent slices at exit are those of the definition
pub record Replays (replay : Replay) (r : Replayed) (answers : List ℕ) (file : File) (pool : Pool) : Type 0 where
  pub refusals : refusal_said r ≡ replay.refusal
  pub growths : growth_said r ≡ replay.growth
  pub answers_are : answers ≡ replay.answers
  pub files : file ≡ replay.file
  pub pools : pool ≡ replay.pool

-- An accepted replay leaves the model's file and growth state, and no growth open: every history, said of the one that the slices hold.
pub record AsReplayed (p : Parameters) (f : File) (pool : Pool) (h : LentHistory) (answers : List ℕ) : Type 0 where
  pub as_model : AsModel (start_of p f) (history_of p f pool h)
  pub file_is : (replay_of p f pool h answers).file ≡ model_file p (end (start_of p f) (history_of p f pool h)).model
  pub growth_is : (replay_of p f pool h answers).growth ≡ (end (start_of p f) (history_of p f pool h)).model.growth
  pub none_open_lem : (end (start_of p f) (history_of p f pool h)).growth ≡ closed_record (replay_of p f pool h answers).growth

abbrev pub EveryReplay : Type 0
EveryReplay =
    (p : Parameters) (f : File) (pool : Pool) (h : LentHistory) (answers : List ℕ)
    → (replay_of p f pool h answers).refusal ≡ 0 → AsReplayed p f pool h answers
