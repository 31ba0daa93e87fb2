-- Demand 3: what holds of every history.
use Rattle.std.specs.Prelude.{◌≡◌, true, ℕ}
use mathlib.Core.List.{List, Memᴰ}
use Rattle.hashing.specs.declared.Parameters.{Parameters}
use Rattle.placement.specs.File.{File}
use Rattle.calls.specs.Answers.{Pool}
use Rattle.calls.specs.Calls.{make_of}
use Rattle.histories.specs.Model.{look_up_lem, Made, model_file, unfinished_file, answered}
use Rattle.histories.specs.Call.{Call, plain, tells_of_file}
use Rattle.histories.specs.Run.{HistoryState, Event, initial, events, end}

-- what holds of a history from a state on
pub record AsModel (start : HistoryState) (history : List Call) : Type 0 where
  -- each accepted look-up answers position or none, page and place, as the model after the calls before it
  pub look_ups :
      (t : Event) → Memᴰ t (events start history) → (k : ℕ) → t.call.element ≡ plain (look_up_lem k) → t.answer.refusal ≡ 0
      → t.answer ≡ answered t.before.parameters t.before.model k
  -- "Refused for damage means 5": no call is, nor any that the model is fed
  pub undamaged : (t : Event) → Memᴰ t (events start history) → tells_of_file t.call.element ≡ true → t.answer.refusal ≡ 5 → ⊥
  pub each_undamaged : (t : Event) → Memᴰ t (events start history) → (c : Made) → Memᴰ c t.calls → c.refusal ≡ 5 → ⊥
  -- at the end separators, pages and growth state are the model's under the parameters then held
  pub separators : (end start history).file.separators ≡ (model_file (end start history).parameters (end start history).model).separators
  pub numbers : (end start history).file.numbers ≡ (model_file (end start history).parameters (end start history).model).numbers
  pub words : (end start history).file.words ≡ (model_file (end start history).parameters (end start history).model).words
  pub owners : (end start history).file.owners ≡ (model_file (end start history).parameters (end start history).model).owners
  pub growth : (end start history).growth.state ≡ (end start history).model.growth
  -- while a growth is open, the second set is so far the one of the model after it
  pub unfinished :
      (end start history).growth.growing ≡ true
      → (end start history).second ≡ unfinished_file (end start history).parameters (end start history).model (end start history).growth.steps

-- for all parameters and buffers that make accepts, any second set, and every history
abbrev pub EveryHistory : Type 0
EveryHistory =
    (p : Parameters) (f second : File) (pool : Pool) → (make_of p f pool).answer.refusal ≡ 0
    → (history : List Call) → AsModel (initial p f second pool) history
