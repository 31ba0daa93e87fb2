-- A filing leaves what its reports' calls leave, made one after another.
use mathlib.Core.Path.{◌≡◌, refl, sym, ap, ◌∙◌}
use mathlib.Core.Bool.{Bool, true, false, cond, not, ◌&&◌, true≢false}
use mathlib.Core.List.{List, [], ◌∷◌, map}
use Prim.Native.Nat.{ℕ, zero, suc}
use native.Mathlib.Omega.{arith}
use lib.Dec.{eqb}
use lib.ListN.{set}
use borrow.Author.Tests.{eqb-true}
use Rattle.hashing.specs.declared.Parameters.{Parameters}
use Rattle.hashing.specs.declared.Growth.{Growth}
use Rattle.hashing.proofs.Bounds.{both}
use Rattle.pages.specs.declared.position.Position.{Position}
use Rattle.pages.specs.Position.{valid_number, valid_position, packed}
use Rattle.placement.specs.File.{File}
use Rattle.calls.specs.declared.records.GrowthRecord.{GrowthRecord}
use Rattle.calls.specs.Answers.{Pool, After, unpooled, cleared, accepted, accepted_at, refused, refused_at}
use Rattle.calls.specs.Calls.{file_fits_lem, pool_fits_lem, unless, or_else, unlent, guarded, unchanged, readable, named, holds, place_for, item_of, may_alter_lem, owner_for, allowed, change_on, change_of}
use Rattle.calls.specs.Records.{enter_under, change_under, remove_under}
use Rattle.reports.specs.declared.Report.{Report}
use Rattle.reports.specs.Reports.{Tray, waiting, tray_fits_lem, reported_position, is_removal}
use Rattle.reports.specs.TrayCalls.{tray_refusal}
use Rattle.reports.specs.Filing.{removal_filed, position_filed, report_filed, one_more_lem, filed_from, filed_unless, left_by, filing_of}
use Rattle.reports.proofs.Trying.{Begun, begun, goes_on, Tried, entered-tried, changed-tried, removed-tried, report-tried}
use Rattle.histories.specs.Model.{Model, Request, enter, change, remove, grow, fed, Made, made, fed_all, fed_by}
use Rattle.histories.specs.Filing.{position_made, removal_made, call_made, calls_tried, begins, filing_made}
use Rattle.histories.specs.Call.{Call, call_of, is_accepted, finishes, counts_as, keeping_pool, on_file, Outcome, step, effect, feeding}
use Rattle.histories.specs.Run.{HistoryState, outcome, fed_then, next, end}
use Rattle.histories.specs.FilingCalls.{one_by_one_lem, FilingIsCalls}
use Rattle.histories.proofs.Filing.{fed_one}

-- A change reads no pool.
record Alike (a b : After) : Type 0 where
  answer : a.answer ≡ b.answer
  growth : a.growth ≡ b.growth
  file : a.file ≡ b.file

alike : {a b : After} → a.answer ≡ b.answer → a.growth ≡ b.growth → a.file ≡ b.file → Alike a b
alike e g f = record { answer = e; growth = g; file = f }

alike-guarded : (g : Growth) (f : File) (one other : Pool) (n : ℕ) (a b : After) → Alike a b → Alike (guarded g f one n a) (guarded g f other n b)
alike-guarded g f one other zero a b h = h
alike-guarded g f one other (suc n) a b h = alike refl refl refl

module _ (p : Parameters) (g : Growth) (f : File) (one other : Pool) (caller k : ℕ) where
  change-on : (page word : ℕ) → Alike (change_on p g f one page caller k word) (change_on p g f other page caller k word)
  unfolding change_on allowed
  change-on page word = go (readable p g f page) (holds p f page k) (may_alter_lem caller (owner_for p f page k))
    where
      written : File
      written = record { separators = f.separators; numbers = f.numbers; words = set f.words (item_of p f page k) word; owners = f.owners }

      left : Pool → Bool → Bool → Bool → After
      left pool a b c =
          cond a
          (cond b
          (cond c
          (record { answer = accepted_at page (place_for p f page k); growth = g; file = written; pool = pool })
          (unchanged g f pool (refused_at 13 0 (place_for p f page k))))
          (unchanged g f pool (refused_at 7 0 (place_for p f page k))))
          (unchanged g f pool (refused 5 page))

      go : (a b c : Bool) → Alike (left one a b c) (left other a b c)
      go true true true = alike refl refl refl
      go true true false = alike refl refl refl
      go true false c = alike refl refl refl
      go false b c = alike refl refl refl

  change-of : (q : Position) → Alike (change_of p g f one caller k q) (change_of p g f other caller k q)
  unfolding change_of
  change-of q =
      alike-guarded g f one other (or_else (unlent p g (file_fits_lem p f)) (or_else (unless (valid_number k) 3) (unless (valid_position q) 4)))
      (change_on p g f one (named p g f k) caller k (packed q)) (change_on p g f other (named p g f k) caller k (packed q)) (change-on (named p g f k) (packed q))

-- the state with another file and model
abbrev going : HistoryState → File → Model → HistoryState
going s h m = record { parameters = s.parameters; growth = s.growth; file = h; second = s.second; model = m }

module _ (s : HistoryState) (second : File) (pool : Pool) (t : Begun s.parameters s.growth s.file pool) where
  abbrev p : Parameters
  p = s.parameters

  abbrev r : GrowthRecord
  r = s.growth

  abbrev f : File
  f = s.file

  -- a call on the file that leaves the growth state
  calls-next : (q : Request) (a : After) → outcome s (call_of pool second q) ≡ on_file p r s.second a → a.growth ≡ r.state
      → next s (call_of pool second q) ≡ going s a.file (fed p q (eqb a.answer.refusal 0) s.model)
  unfolding next fed_then feeding fed_by fed_all counts_as finishes is_accepted
  calls-next q a e g =
      let o : Outcome = outcome s (call_of pool second q) in
      let m : fed o.parameters (cond (r.growing && not o.growth.growing) grow q) (is_accepted o.answer) s.model ≡ fed p q (eqb a.answer.refusal 0) s.model =
      ap (λ (x : Outcome). fed x.parameters (cond (r.growing && not x.growth.growing) grow q) (is_accepted x.answer) s.model) e
      ∙ ap (λ (b : Bool). fed p (cond (b && not b) grow q) (eqb a.answer.refusal 0) s.model) t.closed in
      let l : o.growth ≡ r = ap (λ (x : Outcome). x.growth) e ∙ (λ i. record { state = g i; growing = r.growing; steps = r.steps }) in
      λ i. record { parameters = (e i).parameters; growth = l i; file = (e i).file; second = (e i).second; model = m i }

  change-under : (x : Report) → Alike (change_under p r f unpooled x.owner x.number (reported_position x)) (change_under p r f pool x.owner x.number (reported_position x))
  unfolding change_under
  change-under x = rw (t.steps, t.closed) (change-of p r.state f unpooled pool x.owner x.number (reported_position x))

  abbrev Goal : Made → After → Type 0
  Goal c a = next s (call_of pool second c.request) ≡ going s a.file (fed_one p c s.model)

  removal-call : (x : Report) → Goal (removal_made p r f pool x) (removal_filed p r f pool x)
  unfolding removal_made removal_filed outcome effect step
  removal-call x = calls-next (remove x.owner x.number) a refl tried.growth ∙ ap (λ (h : File). going s h (fed p (remove x.owner x.number) (eqb a.answer.refusal 0) s.model)) (go (eqb a.answer.refusal 7) refl)
    where
      a : After
      a = remove_under p r f pool x.owner x.number

      tried : Tried p r.state f pool a
      tried = removed-tried p r f pool t x.owner x.number

      go : (b : Bool) → eqb a.answer.refusal 7 ≡ b → a.file ≡ (cond b (unchanged r.state f pool (accepted 0)) a).file
      go true e = tried.kept (λ z. omega (arith, eqb-true a.answer.refusal 7 e))
      go false e = refl

  position-call : (x : Report) → Goal (position_made p r f pool x) (position_filed p r f pool x)
  unfolding position_made position_filed outcome effect step
  position-call x = go (eqb changed.answer.refusal 7)
    where
      changed : After
      changed = change_under p r f pool x.owner x.number (reported_position x)

      entered : After
      entered = enter_under p r f pool x.owner x.number (reported_position x)

      q : Request
      q = change x.owner x.number (reported_position x)

      same : Alike (change_under p r f unpooled x.owner x.number (reported_position x)) changed
      same = change-under x

      go : (b : Bool)
          → Goal (cond b (made (enter x.owner x.number (reported_position x)) entered.answer.refusal) (made q changed.answer.refusal)) (cond b entered changed)
      go true = calls-next (enter x.owner x.number (reported_position x)) entered refl (entered-tried p r f pool t x.owner x.number (reported_position x)).growth
      go false =
          calls-next q (keeping_pool pool (change_under p r f unpooled x.owner x.number (reported_position x))) refl
          (same.growth ∙ (changed-tried p r f pool t x.owner x.number (reported_position x)).growth)
          ∙ λ i. going s (same.file i) (fed p q (eqb (same.answer i).refusal 0) s.model)

  one-call : (x : Report) → Goal (call_made p r f pool x) (report_filed p r f pool x)
  unfolding call_made report_filed
  one-call x = go (is_removal x)
    where
      go : (b : Bool) → Goal (cond b (removal_made p r f pool x) (position_made p r f pool x)) (cond b (removal_filed p r f pool x) (position_filed p r f pool x))
      go true = removal-call x
      go false = position-call x

abbrev made_by_lem : Pool → File → List Made → List Call
made_by_lem pool second calls = map (λ (c : Made). call_of pool second c.request) calls

all-calls : (second : File) (pool : Pool) (xs : List Report) (s : HistoryState) → Begun s.parameters s.growth s.file pool
    → end s (made_by_lem pool second (calls_tried s.parameters s.growth s.file pool xs))
    ≡ going s (filed_from s.parameters s.growth s.file pool xs).file (fed_all s.parameters (calls_tried s.parameters s.growth s.file pool xs) s.model)
unfolding end calls_tried filed_from fed_all
all-calls second pool [] s t = refl
all-calls second pool (x ∷ xs) s t = go (eqb after.answer.refusal 0) (all-calls second pool xs later ready)
  where
    after : After
    after = report_filed s.parameters s.growth s.file pool x

    c : Made
    c = call_made s.parameters s.growth s.file pool x

    later : HistoryState
    later = going s after.file (fed_one s.parameters c s.model)

    ready : Begun s.parameters s.growth after.file pool
    ready = goes_on s.parameters s.growth s.file pool after.file t (report-tried s.parameters s.growth s.file pool t x).fits

    rest : List Made
    rest = calls_tried s.parameters s.growth after.file pool xs

    go : (b : Bool)
        → end later (made_by_lem pool second rest) ≡ going s (filed_from s.parameters s.growth after.file pool xs).file (fed_all s.parameters rest (fed_one s.parameters c s.model))
        → end (next s (call_of pool second c.request)) (made_by_lem pool second (cond b rest []))
        ≡ going s
        (cond b (one_more_lem (filed_from s.parameters s.growth after.file pool xs)) (record { filed = 0; answer = after.answer; file = after.file; rest = x ∷ xs })).file
        (fed_all s.parameters (cond b rest []) (fed_one s.parameters c s.model))
    go true ih = ap (λ (u : HistoryState). end u (made_by_lem pool second rest)) (one-call s second pool t x) ∙ ih
    go false ih = one-call s second pool t x

-- Past its own refusals.
module _ (p : Parameters) (r : GrowthRecord) (f : File) (pool : Pool) (t : Tray) (bits : List ℕ) where
  abbrev refusal : ℕ
  refusal = tray_refusal p r (file_fits_lem p f && (pool_fits_lem p pool && tray_fits_lem t bits))

  begun-file : refusal ≡ 0 → r.growing ≡ false → (filing_of p r f pool t bits).file ≡ (filed_from p r f (cleared pool) (waiting t)).file
  unfolding filing_of filed_unless left_by
  begun-file e g = rw (e, g)

  begun-made : begins p r f pool t bits ≡ true → filing_made p r f pool t bits ≡ calls_tried p r f (cleared pool) (waiting t)
  unfolding filing_made
  begun-made e = rw e

  begun-facts : begins p r f pool t bits ≡ true → (refusal ≡ 0) × (r.growing ≡ false)
  unfolding begins
  begun-facts e =
      let h = both (eqb refusal 0) (not r.growing) e in
      (eqb-true refusal 0 h.0, go r.growing h.1)
    where
      go : (b : Bool) → not b ≡ true → b ≡ false
      go false d = refl
      go true d = absurd (true≢false (sym d))

pub filing-is-calls : FilingIsCalls
unfolding next fed_then outcome effect feeding fed_by
filing-is-calls s second pool t bits e =
    (λ i. going s (begun-file p r f pool t bits facts.0 facts.1 i) (fed_all p (begun-made p r f pool t bits e i) s.model))
    ∙ sym (all-calls second (cleared pool) (waiting t) s (begun p r f pool (tray_fits_lem t bits) facts.0 facts.1))
    ∙ ap (λ (calls : List Made). end s (one_by_one_lem pool second calls)) (sym (begun-made p r f pool t bits e))
  where
    p : Parameters
    p = s.parameters

    r : GrowthRecord
    r = s.growth

    f : File
    f = s.file

    facts : (refusal p r f pool t bits ≡ 0) × (r.growing ≡ false)
    facts = begun-facts p r f pool t bits e
