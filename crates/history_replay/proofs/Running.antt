-- Several steps of a replay: what a history of one call more answers and leaves.
use mathlib.Core.Path.{◌≡◌, refl, sym, ap, ◌∙◌}
use mathlib.Core.List.{List, [], ◌∷◌, ◌++◌, append_assoc, append-nil}
use Prim.Native.Nat.{ℕ, zero, suc, ◌+◌, ◌*◌, ◌≤◌, ◌<◌}
use native.Mathlib.Nat.{suc-mul, zero-mul}
use native.Mathlib.Numerals.{add-one}
use native.Mathlib.Omega.{arith}
use lib.ListN.{length, take, drop, length-append, drop_of_length-le}
use lib.Seq.{paste, take_at, drop_at, drop-drop}
use Rattle.hashing.specs.declared.Parameters.{Parameters}
use Rattle.hashing.specs.declared.Growth.{Growth}
use Rattle.placement.specs.File.{File}
use Rattle.calls.specs.declared.answers.Answer.{Answer}
use Rattle.calls.specs.Answers.{Pool, After}
use Rattle.calls.specs.Records.{closed_record}
use Rattle.histories.specs.Model.{Request}
use Rattle.histories.specs.Call.{Call, call_of, Outcome, on_file}
use Rattle.histories.specs.Run.{HistoryState, fresh, outcome, next, events, end}
use Rattle.histories.specs.Call.{effect}
use Rattle.answer_row.proofs.Rows.{eight-long}
use Rattle.history_replay.specs.Replay.{LentHistory, request_at, requests_to, requests_of, history_from, last_pool, encoded, event_answers, no_second}
use Rattle.history_replay.specs.Steps.{call_at, Recorded, Even, Runs}
use Rattle.history_replay.proofs.Resting.{at_rest, closed_after, keeps-parameters}

-- the state after the requests, the one more call, and the state after it
abbrev after : HistoryState → Pool → List Request → HistoryState
after s pool rs = end s (history_from s pool rs)

abbrev another : HistoryState → Pool → List Request → Request → Call
another s pool rs r = call_of (last_pool s pool rs) (after s pool rs).second r

abbrev more : HistoryState → Pool → List Request → Request → HistoryState
more s pool rs r = next (after s pool rs) (another s pool rs r)

end_snoc : (s : HistoryState) (pool : Pool) (rs : List Request) (r : Request) → after s pool (rs ++ r ∷ []) ≡ more s pool rs r
unfolding history_from end last_pool
end_snoc s pool [] r = refl
end_snoc s pool (x ∷ rs) r = end_snoc (next s (call_of pool s.second x)) (outcome s (call_of pool s.second x)).pool rs r

pool-snoc : (s : HistoryState) (pool : Pool) (rs : List Request) (r : Request)
    → last_pool s pool (rs ++ r ∷ []) ≡ (outcome (after s pool rs) (another s pool rs r)).pool
unfolding history_from end last_pool
pool-snoc s pool [] r = refl
pool-snoc s pool (x ∷ rs) r = pool-snoc (next s (call_of pool s.second x)) (outcome s (call_of pool s.second x)).pool rs r

answers_snoc : (s : HistoryState) (pool : Pool) (rs : List Request) (r : Request)
    → event_answers (events s (history_from s pool (rs ++ r ∷ [])))
    ≡ event_answers (events s (history_from s pool rs)) ++ encoded (outcome (after s pool rs) (another s pool rs r)).answer
unfolding history_from end last_pool events event_answers
answers_snoc s pool [] r = append-nil (encoded (outcome s (call_of pool s.second r)).answer)
answers_snoc s pool (x ∷ rs) r =
    rw (answers_snoc (next s (call_of pool s.second x)) (outcome s (call_of pool s.second x)).pool rs r)
    (sym (append_assoc (encoded (outcome s (call_of pool s.second x)).answer) _ _))

-- No growth is open after requests of a lent history.
pub none_open : (s : HistoryState) (pool : Pool) (h : LentHistory) (i : ℕ) → s.growth ≡ closed_record s.growth.state
    → (after s pool (requests_to h i)).growth ≡ closed_record (after s pool (requests_to h i)).growth.state
unfolding requests_to history_from end next outcome effect
none_open s pool h zero e = e
none_open s pool h (suc i) e =
    let state = after s pool (requests_to h i) in
    rw (end_snoc s pool (requests_to h i) (request_at h i))
    (closed_after state.parameters state.file state.second state.second (last_pool s pool (requests_to h i)) _ _ _ _ state.growth (none_open s pool h i e))

-- nor are the parameters others
pub same-parameters : (s : HistoryState) (pool : Pool) (h : LentHistory) (i : ℕ) → s.growth ≡ closed_record s.growth.state
    → (after s pool (requests_to h i)).parameters ≡ s.parameters
unfolding requests_to history_from end next outcome effect
same-parameters s pool h zero e = refl
same-parameters s pool h (suc i) e =
    let state = after s pool (requests_to h i) in
    rw (end_snoc s pool (requests_to h i) (request_at h i))
    (keeps-parameters state.parameters state.file state.second state.second (last_pool s pool (requests_to h i)) _ _ _ _ state.growth (none_open s pool h i e)
    ∙ same-parameters s pool h i e)

-- eight answers more, written behind those of the calls before
written_behind : (done whole before row : List ℕ) (at : ℕ) → length done ≡ at → before ≡ done ++ drop at whole
    → paste before at row 8 ≡ (done ++ take 8 row) ++ drop (at + 8) whole
written_behind done whole before row at l e =
    rw (e, take_at done (drop at whole) at l, ← drop-drop 8 at (done ++ drop at whole), drop_at done (drop at whole) at l, drop-drop 8 at whole)

eight : (a : Answer) → take 8 (encoded a) ≡ encoded a
unfolding encoded
eight a = refl

-- the first i calls of a lent history, run from a state whose model is the empty one
pub record Ongoing (p : Parameters) (h : LentHistory) (growth₀ : Growth) (file₀ : File) (pool₀ : Pool) (answers₀ : List ℕ)
    (i : ℕ) (growth : Growth) (answers : List ℕ) (file : File) (pool : Pool) : Type 0 where
  pub most : i ≤ length h.kinds
  pub counted : length (event_answers (events (fresh p growth₀ file₀ no_second) (history_from (fresh p growth₀ file₀ no_second) pool₀ (requests_to h i)))) ≡ i * 8
  pub runs : Runs (fresh p growth₀ file₀ no_second) pool₀ (requests_to h i) (drop (i * 8) answers₀) growth answers file pool

-- the lent slices keep their lengths
pub record SameLengths (file₀ : File) (pool₀ : Pool) (answers₀ : List ℕ) (file : File) (pool : Pool) (answers : List ℕ) : Type 0 where
  pub of_separators : length file.separators ≡ length file₀.separators
  pub of_numbers : length file.numbers ≡ length file₀.numbers
  pub of_words_lem : length file.words ≡ length file₀.words
  pub of_owners : length file.owners ≡ length file₀.owners
  pub of_poolnumbers : length pool.numbers ≡ length pool₀.numbers
  pub of_poolwords : length pool.words ≡ length pool₀.words
  pub of_poolowners : length pool.owners ≡ length pool₀.owners
  pub of_answers : length answers ≡ length answers₀

pub same-lengths : (file : File) (pool : Pool) (answers : List ℕ) → SameLengths file pool answers file pool answers
same-lengths file pool answers =
    record {
      of_separators = refl;
      of_numbers = refl;
      of_words_lem = refl;
      of_owners = refl;
      of_poolnumbers = refl;
      of_poolwords = refl;
      of_poolowners = refl;
      of_answers = refl;
    }

module _ (p : Parameters) (h : LentHistory) (growth₀ : Growth) (file₀ : File) (pool₀ : Pool) (answers₀ : List ℕ) where
  abbrev so_far : ℕ → List ℕ
  so_far i = event_answers (events (fresh p growth₀ file₀ no_second) (history_from (fresh p growth₀ file₀ no_second) pool₀ (requests_to h i)))

  pub ongoing_none : Ongoing p h growth₀ file₀ pool₀ answers₀ 0 growth₀ answers₀ file₀ pool₀
  unfolding requests_to history_from events end last_pool event_answers
  ongoing_none =
      rw (zero-mul 8)
      (record {
        most = omega arith;
        counted = refl;
        runs = record { answers_are = refl; growths = refl; files = refl; pools = refl };
      })

  module _ (i : ℕ) (growth : Growth) (answers : List ℕ) (file : File) (pool : Pool)
      (t : Ongoing p h growth₀ file₀ pool₀ answers₀ i growth answers file pool) where
    abbrev state : HistoryState
    state = after (fresh p growth₀ file₀ no_second) pool₀ (requests_to h i)

    -- what the call of one more answers and leaves
    abbrev this : Outcome
    this = outcome state (another (fresh p growth₀ file₀ no_second) pool₀ (requests_to h i) (request_at h i))

    -- the call on (e, x)
    abbrev called : After
    called = call_at p growth file pool (request_at h i)

    same_step : on_file p (closed_record growth) state.second called ≡ this
    unfolding outcome effect
    same_step =
        rw (same-parameters (fresh p growth₀ file₀ no_second) pool₀ h i refl, ← t.runs.growths, ← t.runs.files, ← t.runs.pools)
        (sym (at_rest p file state.second state.second pool _ _ _ _ growth))

    pub ongoing_more : i < length h.kinds → (growth' : Growth) (answers' : List ℕ) (file' : File) (pool' : Pool)
        → Recorded called answers (i * 8) growth' answers' file' pool'
        → Ongoing p h growth₀ file₀ pool₀ answers₀ (i + 1) growth' answers' file' pool'
    unfolding requests_to next
    ongoing_more l growth' answers' file' pool' w =
        let s = fresh p growth₀ file₀ no_second in
        let rs = requests_to h i in
        let r = request_at h i in
        let same : called.answer ≡ this.answer = ap (λ (o : Outcome). o.answer) same_step in
        rw (add-one i)
        (record {
          most = omega arith;
          counted =
              rw (answers_snoc s pool₀ rs r, length-append (so_far i) (encoded this.answer), t.counted, eight-long this.answer)
              (sym (suc-mul i 8));
          runs =
              record {
                answers_are =
                    w.answers_are
                    ∙ ap (λ (a : Answer). paste answers (i * 8) (encoded a) 8) same
                    ∙ written_behind (so_far i) answers₀ answers (encoded this.answer) (i * 8) t.counted t.runs.answers_are
                    ∙ rw (eight this.answer, answers_snoc s pool₀ rs r, suc-mul i 8);
                growths =
                    ap closed_record w.growths ∙ ap (λ (o : Outcome). o.growth) same_step
                    ∙ sym (ap (λ (x : HistoryState). x.growth) (end_snoc s pool₀ rs r));
                files =
                    w.files ∙ ap (λ (o : Outcome). o.file) same_step
                    ∙ sym (ap (λ (x : HistoryState). x.file) (end_snoc s pool₀ rs r));
                pools = w.pools ∙ ap (λ (o : Outcome). o.pool) same_step ∙ sym (pool-snoc s pool₀ rs r);
              };
        })

    pub ongoing_all : length h.kinds ≤ i → Even h answers₀
        → Runs (fresh p growth₀ file₀ no_second) pool₀ (requests_of h) [] growth answers file pool
    ongoing_all l even =
        let e : i ≡ length h.kinds = omega (arith, t.most) in
        let n : drop (length h.kinds * 8) answers₀ ≡ [] =
        drop_of_length-le answers₀ {i = length h.kinds * 8} (omega (arith, even.eight)) in
        rw (e, n) at t.runs
