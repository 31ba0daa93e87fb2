-- Reports in a history: what is tried of a filing conforms, call by call; adding a report and the combined look-up are refused for no damage.
use mathlib.Core.Path.{◌≡◌, refl, sym, ◌∙◌, subst}
use mathlib.Core.Bool.{Bool, true, false, cond, ◌&&◌, ◌||◌}
use mathlib.Core.List.Memᴰ
use mathlib.Core.List.{List, [], ◌∷◌, Memᴰ}
use mathlib.Core.Logic.{⊎_elim}
use Prim.Native.Nat.{ℕ}
use native.Mathlib.Omega.{arith}
use lib.Dec.{eqb, ltb}
use borrow.Author.Tests.{eqb-true}
use Rattle.hashing.specs.declared.Parameters.{Parameters}
use Rattle.hashing.specs.declared.Growth.{Growth}
use Rattle.pages.specs.Position.{valid_number, valid_position}
use Rattle.placement.specs.File.{File}
use Rattle.calls.specs.declared.answers.Answer.{Answer}
use Rattle.calls.specs.declared.records.GrowthRecord.{GrowthRecord}
use Rattle.calls.specs.Answers.{Pool, After, spotted, accepted, found_at, unpooled, cleared}
use Rattle.calls.specs.Calls.{file_fits_lem, pool_fits_lem, unless, or_else, unlent, unchanged, enter_of, change_of, remove_of}
use Rattle.calls.specs.Records.{valid_steps, closed_record, enter_under, change_under, remove_under}
use Rattle.reports.specs.Bits.{marked, passes}
use Rattle.reports.specs.declared.Report.{Report}
use Rattle.reports.specs.Reports.{Tray, waiting, tray_fits_lem, with_report, reported_position, is_removal, reported, latest_or}
use Rattle.reports.specs.TrayCalls.{tray_refusal, add_refusal, added_unless, AfterAdding, add_of, answered_unless, sought_refusal, plain_answer, combined_of}
use Rattle.reports.specs.Filing.{removal_filed, position_filed, report_filed, filed_from, not_filed_lem, filed_unless, left_by, filing_of}
use Rattle.histories.specs.Model.{Model, Request, look_up_lem, enter, change, remove, updated, fed, Made, made, fed_all, model_file}
use Rattle.histories.specs.Call.{is_accepted, step}
use Rattle.histories.specs.Filing.{position_made, removal_made, call_made, calls_tried, begins}
use Rattle.histories.proofs.Fitting.{Fitting, lengths}
use Rattle.histories.proofs.Conforms.{Conforms}
use Rattle.histories.proofs.Matching.{Matches}
use Rattle.histories.proofs.Enter.{enter_conforms}
use Rattle.histories.proofs.Change.{change_conforms}
use Rattle.histories.proofs.Remove.{remove_conforms}
use Rattle.histories.proofs.Under.{is-closed, request_conforms}

-- the model fed one call
abbrev pub fed_one : Parameters → Made → Model → Model
fed_one p c m = fed p c.request (eqb c.refusal 0) m

-- What a report leaves is the file of the model fed with the call it made.
pub record Reported (p : Parameters) (m : Model) (c : Made) (a : After) : Type 0 where
  pub file : a.file ≡ model_file p (fed_one p c m)
  pub fitting : Fitting p (fed_one p c m)
  pub growth : (fed_one p c m).growth ≡ m.growth
  pub undamaged : c.refusal ≡ 5 → ⊥
  pub answered : a.answer.refusal ≡ 5 → ⊥

module _ (p : Parameters) (m : Model) (t : Fitting p m) (pool : Pool) (x : Report) where
  abbrev r : GrowthRecord
  r = closed_record m.growth

  abbrev f : File
  f = model_file p m

  keeps : (q : Request) → (updated p q m).growth ≡ m.growth → (b : Bool) → (fed p q b m).growth ≡ m.growth
  unfolding fed
  keeps q e true = e
  keeps q e false = refl

  as-made : (q : Request) → (updated p q m).growth ≡ m.growth → (a : After) → Conforms p m q a → Reported p m (made q a.answer.refusal) a
  unfolding is_accepted
  as-made q e a c =
      record {
        file = c.file;
        fitting = c.fitting;
        growth = keeps q e (eqb a.answer.refusal 0);
        undamaged = c.undamaged;
        answered = c.undamaged;
      }

  -- refused with 7, and counted as filed
  spared : (q : Request) (n : ℕ) → n ≡ 7 → Reported p m (made q n) (unchanged m.growth f pool (accepted 0))
  unfolding fed spotted
  spared q n e =
      subst (λ (i : ℕ). Reported p m (made q i) (unchanged m.growth f pool (accepted 0))) (sym e)
      (record {
        file = refl;
        fitting = t;
        growth = refl;
        undamaged = λ d. omega arith;
        answered = λ d. omega arith;
      })

  removal-reported : Reported p m (removal_made p r f pool x) (removal_filed p r f pool x)
  unfolding removal_made removal_filed remove_under valid_steps updated
  removal-reported = go (eqb a.answer.refusal 7) refl
    where
      q : Request
      q = remove x.owner x.number

      a : After
      a = remove_of p m.growth f pool x.owner x.number

      go : (b : Bool) → eqb a.answer.refusal 7 ≡ b → Reported p m (made q a.answer.refusal) (cond b (unchanged m.growth f pool (accepted 0)) a)
      go true e = spared q a.answer.refusal (eqb-true a.answer.refusal 7 e)
      go false e = as-made q refl a (remove_conforms p m t x.owner x.number pool)

  position-reported : Reported p m (position_made p r f pool x) (position_filed p r f pool x)
  unfolding position_made position_filed change_under enter_under valid_steps updated
  position-reported = go (eqb changed.answer.refusal 7)
    where
      changed : After
      changed = change_of p m.growth f pool x.owner x.number (reported_position x)

      entered : After
      entered = enter_of p m.growth f pool x.owner x.number (reported_position x)

      go : (b : Bool)
          → Reported p m
          (cond b (made (enter x.owner x.number (reported_position x)) entered.answer.refusal) (made (change x.owner x.number (reported_position x)) changed.answer.refusal))
          (cond b entered changed)
      go true = as-made (enter x.owner x.number (reported_position x)) refl entered (enter_conforms p m t x.owner x.number (reported_position x) pool)
      go false = as-made (change x.owner x.number (reported_position x)) refl changed (change_conforms p m t x.owner x.number (reported_position x) pool)

  report-conforms : Reported p m (call_made p r f pool x) (report_filed p r f pool x)
  unfolding call_made report_filed
  report-conforms = go (is_removal x)
    where
      go : (b : Bool) → Reported p m (cond b (removal_made p r f pool x) (position_made p r f pool x)) (cond b (removal_filed p r f pool x) (position_filed p r f pool x))
      go true = removal-reported
      go false = position-reported

-- The reports in order.
pub record AllReported (p : Parameters) (m : Model) (r : GrowthRecord) (f : File) (pool : Pool) (xs : List Report) : Type 0 where
  pub file : (filed_from p r f pool xs).file ≡ model_file p (fed_all p (calls_tried p r f pool xs) m)
  pub fitting : Fitting p (fed_all p (calls_tried p r f pool xs) m)
  pub growth : (fed_all p (calls_tried p r f pool xs) m).growth ≡ m.growth
  pub each : (c : Made) → Memᴰ c (calls_tried p r f pool xs) → c.refusal ≡ 5 → ⊥
  pub undamaged : (filed_from p r f pool xs).answer.refusal ≡ 5 → ⊥

pub told : {c d : Made} → c ≡ d → c.refusal ≡ 5 → d.refusal ≡ 5
told e z = rw e at z

pub all-reported : (p : Parameters) (pool : Pool) (xs : List Report) (m : Model) → Fitting p m → (g : Growth) (f : File) → g ≡ m.growth → f ≡ model_file p m
    → AllReported p m (closed_record g) f pool xs
unfolding filed_from calls_tried fed_all spotted
all-reported p pool [] m t g f d e =
    record { file = e; fitting = t; growth = refl; each = λ c n z. absurd (Memᴰ.not-nil n); undamaged = λ z. omega arith }
all-reported p pool (x ∷ xs) m t g f d e =
    go (eqb after.answer.refusal 0) refl (all-reported p pool xs (fed_one p c m) one.fitting g after.file (d ∙ sym one.growth) one.file)
  where
    after : After
    after = report_filed p (closed_record g) f pool x

    c : Made
    c = call_made p (closed_record g) f pool x

    one : Reported p m c after
    one =
        subst (λ (h : Growth). Reported p m (call_made p (closed_record h) f pool x) (report_filed p (closed_record h) f pool x)) (sym d)
        (subst (λ (h : File). Reported p m (call_made p (closed_record m.growth) h pool x) (report_filed p (closed_record m.growth) h pool x)) (sym e)
        (report-conforms p m t pool x))

    go : (b : Bool) → eqb after.answer.refusal 0 ≡ b → AllReported p (fed_one p c m) (closed_record g) after.file pool xs → AllReported p m (closed_record g) f pool (x ∷ xs)
    go true y ih =
        record {
          file = rw y ih.file;
          fitting = rw y ih.fitting;
          growth = rw y (ih.growth ∙ one.growth);
          each = rw y (λ a n z. ⊎_elim (λ (w : a ≡ c). one.undamaged (told w z)) (λ w. ih.each a w z) (Memᴰ.cases_cons n));
          undamaged = rw y ih.undamaged;
        }
    go false y ih =
        record {
          file = rw y one.file;
          fitting = rw y one.fitting;
          growth = rw y one.growth;
          each = rw y (λ a n z. ⊎_elim (λ (w : a ≡ c). one.undamaged (told w z)) (λ w. absurd (Memᴰ.not-nil w)) (Memᴰ.cases_cons n));
          undamaged = rw y one.answered;
        }

-- Refusals 1 and 2 of the calls on a tray, on the model's own file.
module _ (p : Parameters) (m : Model) (r : GrowthRecord) (f second : File) (x : Matches p m r f second) where
  pub tray_lent : (b : Bool) → tray_refusal p r b ≡ unless b 2
  unfolding tray_refusal unlent
  tray_lent b = rw (x.steps, x.growth, x.fitting.parameters, x.fitting.growth)

  pub file-lent : file_fits_lem p f ≡ true
  file-lent = rw x.file (lengths p m x.fitting)

  -- a report that answers is no refusal
  not-damaged : (M k : ℕ) (xs : List Report) (plain : Answer) → (plain.refusal ≡ 5 → ⊥) → (latest_or M k xs plain).refusal ≡ 5 → ⊥
  unfolding latest_or reported spotted found_at
  not-damaged M k [] plain h = h
  not-damaged M k (y ∷ xs) plain h = not-damaged M k xs (cond (eqb y.number k) (reported M y) plain) (go (eqb y.number k) (is_removal y))
    where
      go : (b c : Bool) → (cond b (cond c (spotted 0 M 0) (found_at M 0 (reported_position y))) plain).refusal ≡ 5 → ⊥
      go true true = λ z. omega arith
      go true false = λ z. omega arith
      go false c = h

  plain : (k : ℕ) → (plain_answer p r f k).refusal ≡ 5 → ⊥
  unfolding plain_answer step
  plain k = (request_conforms p m r f second x f unpooled (look_up_lem k)).undamaged

  pub sought-undamaged : (t : Tray) (filter : List ℕ) (k : ℕ) → (combined_of p r f t filter k).refusal ≡ 5 → ⊥
  unfolding combined_of sought_refusal spotted
  sought-undamaged t filter k = rw (file-lent, tray_lent (tray_fits_lem t filter)) (go (tray_fits_lem t filter) (valid_number k) (passes p.multiplier filter k))
    where
      go : (b v y : Bool)
          → (answered_unless (or_else (unless b 2) (unless v 3)) (cond y (latest_or p.pages k (waiting t) (plain_answer p r f k)) (plain_answer p r f k))).refusal ≡ 5 → ⊥
      go false v y = λ z. omega arith
      go true false y = λ z. omega arith
      go true true true = not-damaged p.pages k (waiting t) (plain_answer p r f k) (plain k)
      go true true false = plain k

  abbrev adding : Tray → List ℕ → Report → AfterAdding
  adding t filter y = record { answer = accepted 0; tray = with_report t y; filter = marked p.multiplier filter y.number }

  pub added-undamaged : (t : Tray) (filter : List ℕ) (y : Report) → (add_of p r t filter y).answer.refusal ≡ 5 → ⊥
  unfolding add_of add_refusal added_unless spotted
  added-undamaged t filter y =
      rw (tray_lent (tray_fits_lem t filter)) (go (tray_fits_lem t filter) (valid_number y.number) (is_removal y || valid_position (reported_position y)) (ltb t.count 256))
    where
      go : (a b c d : Bool)
          → (added_unless (or_else (unless a 2) (or_else (unless b 3) (or_else (unless c 4) (unless d 14)))) t filter (adding t filter y)).answer.refusal ≡ 5 → ⊥
      go false b c d = λ z. omega arith
      go true false c d = λ z. omega arith
      go true true false d = λ z. omega arith
      go true true true false = λ z. omega arith
      go true true true true = λ z. omega arith

  -- A filing: refused with 2, with 16, or else begun.
  module _ (pool : Pool) (t : Tray) (filter : List ℕ) where
    abbrev fits : Bool
    fits = pool_fits_lem p pool && tray_fits_lem t filter

    lent : tray_refusal p r (file_fits_lem p f && fits) ≡ unless fits 2
    lent = rw file-lent (tray_lent fits)

    pub filing-unlent : fits ≡ false → (filing_of p r f pool t filter ≡ not_filed_lem f pool t filter 2) × (begins p r f pool t filter ≡ false)
    unfolding filing_of filed_unless begins
    filing-unlent e = (rw (lent, e), rw (lent, e))

    pub filing-open : fits ≡ true → r.growing ≡ true → (filing_of p r f pool t filter ≡ not_filed_lem f (cleared pool) t filter 16) × (begins p r f pool t filter ≡ false)
    unfolding filing_of filed_unless begins
    filing-open e g = (rw (lent, e, g), rw (lent, e, g))

    pub filing-begun : fits ≡ true → r.growing ≡ false
        → (filing_of p r f pool t filter ≡ left_by p.multiplier (filed_from p r f (cleared pool) (waiting t)) (cleared pool)) × (begins p r f pool t filter ≡ true)
    unfolding filing_of filed_unless begins
    filing-begun e g = (rw (lent, e, g), rw (lent, e, g))

    pub filed : r.growing ≡ false → AllReported p m r f (cleared pool) (waiting t)
    filed g =
        subst (λ (s : GrowthRecord). AllReported p m s f (cleared pool) (waiting t)) (sym (is-closed p m r f second x g))
        (all-reported p (cleared pool) (waiting t) m x.fitting m.growth f refl x.file)
