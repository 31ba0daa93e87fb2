-- Every history, from the law of each kind of call.
use mathlib.Core.Path.{◌≡◌, sym, ap, subst}
use mathlib.Core.Bool.{true}
use mathlib.Core.List.Memᴰ
use mathlib.Core.List.{List, [], ◌∷◌, Memᴰ}
use mathlib.Core.Logic.{⊎_elim}
use Prim.Native.Nat.{ℕ}
use Rattle.hashing.specs.declared.Parameters.{Parameters}
use Rattle.placement.specs.File.{File}
use Rattle.calls.specs.declared.records.GrowthRecord.{GrowthRecord}
use Rattle.calls.specs.Answers.{Pool}
use Rattle.histories.specs.Model.{Model, look_up_lem, Made, answered}
use Rattle.histories.specs.Call.{Element, plain, Call, effect, tells_of_file}
use Rattle.histories.specs.Run.{HistoryState, Event, event_of, outcome, fed_then, next, events, end}
use Rattle.histories.specs.Theorem.{AsModel}
use Rattle.histories.proofs.Matching.{Matches, ElementConforms}

-- Between two calls growth record, file and second set are the model's.
abbrev pub Agrees : HistoryState → Type 0
Agrees t = Matches t.parameters t.model t.growth t.file t.second

-- Every element is answered rightly.
abbrev pub Conforming : Type 0
Conforming =
    (p : Parameters) (m : Model) (r : GrowthRecord) (f second : File) → Matches p m r f second
    → (lent : File) (pool : Pool) (e : Element) → ElementConforms p m r f pool e (effect p r f second lent pool e)

module _ (conforming : Conforming) where
  pub call-conforms : (t : HistoryState) → Agrees t → (c : Call) → ElementConforms t.parameters t.model t.growth t.file c.pool c.element (outcome t c)
  unfolding outcome
  call-conforms t agrees c = conforming t.parameters t.model t.growth t.file t.second agrees c.second c.pool c.element

  pub next-agrees : (t : HistoryState) → Agrees t → (c : Call) → Agrees (next t c)
  unfolding next fed_then
  next-agrees t agrees c = (call-conforms t agrees c).matches

  each-made : (t : HistoryState) → Agrees t → (c : Call) (x : Made) → Memᴰ x (event_of t c).calls → x.refusal ≡ 5 → ⊥
  unfolding fed_then
  each-made t agrees c = (call-conforms t agrees c).each

  pub end-agrees : (t : HistoryState) → Agrees t → (cs : List Call) → Agrees (end t cs)
  unfolding end
  end-agrees t agrees [] = agrees
  end-agrees t agrees (c ∷ cs) = end-agrees (next t c) (next-agrees t agrees c) cs

  -- What holds of each call at a state that agrees with its model holds of each call of a history.
  pub each_event : (P : Event → Type 0)
      → ((t : HistoryState) → Agrees t → (c : Call) → P (event_of t c))
      → (t : HistoryState) → Agrees t → (cs : List Call) (u : Event) → Memᴰ u (events t cs) → P u
  unfolding events
  each_event P h t agrees [] u m = absurd (Memᴰ.not-nil m)
  each_event P h t agrees (c ∷ cs) u m =
      ⊎_elim
      (λ (e : u ≡ event_of t c). subst P (sym e) (h t agrees c))
      (λ n. each_event P h (next t c) (next-agrees t agrees c) cs u n)
      (Memᴰ.cases_cons m)

  pub as_model_lem : (t : HistoryState) → Agrees t → (cs : List Call) → AsModel t cs
  as_model_lem t agrees cs =
      record {
        look_ups = each_event (λ (u : Event). (k : ℕ) → u.call.element ≡ plain (look_up_lem k) → u.answer.refusal ≡ 0 → u.answer ≡ answered u.before.parameters u.before.model k)
            (λ s h c. (call-conforms s h c).found) t agrees cs;
        undamaged = each_event (λ (u : Event). tells_of_file u.call.element ≡ true → u.answer.refusal ≡ 5 → ⊥) (λ s h c. (call-conforms s h c).undamaged) t agrees cs;
        each_undamaged = each_event (λ (u : Event). (x : Made) → Memᴰ x u.calls → x.refusal ≡ 5 → ⊥) (λ s h c. each-made s h c) t agrees cs;
        separators = ap (λ (f : File). f.separators) (end-agrees t agrees cs).file;
        numbers = ap (λ (f : File). f.numbers) (end-agrees t agrees cs).file;
        words = ap (λ (f : File). f.words) (end-agrees t agrees cs).file;
        owners = ap (λ (f : File). f.owners) (end-agrees t agrees cs).file;
        growth = (end-agrees t agrees cs).growth;
        unfinished = λ e. ((end-agrees t agrees cs).unfinished e).pages_done;
      }
