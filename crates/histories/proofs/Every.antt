-- Demand 3 and its corollaries.
use mathlib.Core.Path.{◌≡◌, refl, sym, ap, subst, ◌∙◌}
use mathlib.Core.Bool.{Bool, true, false, not, cond, ◌&&◌, true≢false}
use mathlib.Core.List.{List}
use mathlib.Core.Logic.{◌⊎◌}
use mathlib.Core.Option.{some}
use Prim.Native.Nat.{ℕ}
use native.Mathlib.Omega.{arith}
use lib.Dec.{eqb}
use lib.ListN.{length}
use borrow.Author.Tests.{eqb-true, eq-eqb, le-leb}
use Rattle.histories.proofs.Carrying.{model_checked}
use Rattle.hashing.specs.declared.Parameters.{Parameters}
use Rattle.pages.specs.declared.position.Position.{Position}
use Rattle.pages.specs.Position.{valid_number, valid_position, valid_word}
use Rattle.placement.specs.File.{File, Clean}
use Rattle.placement.specs.Hash.{hash_of, named_page_lem}
use Rattle.placement.proofs.Sound.{clean_laid}
use Rattle.calls.specs.declared.answers.Answer.{Answer}
use Rattle.calls.specs.declared.records.GrowthRecord.{GrowthRecord}
use Rattle.calls.specs.Answers.{Pool, After, unpooled, spotted, accepted_at, accepted, refused, refused_at, cleared}
use Rattle.calls.specs.Calls.{file_fits_lem, pool_fits_lem, unlent, unchanged, empty_file_lem, look_up_of, enter_of, cascade_of, change_of, remove_of, grow_on, grow_of, shrink_of}
use Rattle.calls.specs.Records.{
  valid_steps,
  closed_record,
  open_record,
  unless_open,
  look_up_under,
  enter_under,
  cascade_under,
  change_under,
  remove_under,
  grow_under,
  shrink_under,
  check_under,
  AfterStep,
  not_stepped,
  step_refusal,
  open_on,
  open_under,
  step_under,
}
use Rattle.reports.specs.declared.Report.{Report}
use Rattle.reports.specs.Reports.{Tray, waiting, tray_fits_lem, latest_or}
use Rattle.reports.specs.TrayCalls.{sought_refusal, plain_answer, unfiltered_of}
use Rattle.reports.specs.Filing.{AfterFiling, left_by, filing_of}
use Rattle.reports.specs.Exact.{from_zeros, called_all, Exact}
use Rattle.reports.proofs.Exact.{filter-exact}
use Rattle.reports.proofs.Trying.{cleared-fits, cleared-twice, Begun}
use Rattle.reports.proofs.Ended.{ended}
use Rattle.histories.specs.Model.{
  Model,
  Request,
  look_up_lem,
  enter,
  cascade,
  change,
  remove,
  grow,
  shrink,
  due,
  check,
  open_growth_lem,
  step_growth_lem,
  fed,
  fed_all,
  fed_by,
  held_position,
  held_owner,
  held_entry,
  model_file,
  unfinished_file,
  page_for,
  place_on_lem,
  answered,
}
use Rattle.histories.specs.Filing.{begins, filing_made}
use Rattle.histories.specs.Call.{mend, lost, file_reports_lem, combined_look_up, add_report, Call, element_of, call_of, is_accepted, finishes, Outcome, keeping_pool, on_file, on_opening, on_step, step, effect, counts_as, feeding}
use Rattle.histories.specs.Loss.{Loss, loss_fits}
use Rattle.histories.specs.Run.{HistoryState, Event, initial, outcome, fed_then, next, end}
use Rattle.histories.specs.Theorem.{EveryHistory}
use Rattle.histories.specs.Corollaries.{NotOwner, AcceptedAt, OutOfTurn, MeetsNoOwn, writes, AtRest, Mended, InHistory, EachState, SameContents, SameState, HistoryIndependence}
use Rattle.histories.proofs.Entries.{determined, position-valid}
use Rattle.histories.proofs.Fitting.{Fitting, hash_for, stars_for, rising-from, proper, in_range}
use Rattle.histories.proofs.Guards.{lent, lent-pool}
use Rattle.histories.proofs.LookUp.{looks_up}
use Rattle.histories.proofs.Enter.{fed-own, resent, other, full}
use Rattle.histories.proofs.Cascade.{cascade-is, fed-alike}
use Rattle.histories.proofs.Change.{change_refused, change_accepted}
use Rattle.histories.proofs.Remove.{removal_refused, removal_accepted}
use Rattle.histories.proofs.Grow.{shrink_first_lem, shrink_full_lem}
use Rattle.histories.proofs.Conforms.{fed_with, fed-refused}
use Rattle.histories.proofs.Histories.{Agrees, each_event, end-agrees, as_model_lem}
use Rattle.histories.proofs.Make.{initial-agrees}
use Rattle.histories.proofs.Under.{step-accepted, is-closed, is-opened}
use Rattle.histories.proofs.GoesOn.{survives, mend_stays, mended_as_it_is}
use Rattle.histories.proofs.Filing.{tray_lent, file-lent, filing-unlent, filing-open, filing-begun}
use Rattle.histories.proofs.Elements.{conforming}

pub every-history : EveryHistory
every-history p f second pool accepted history = as_model_lem conforming (initial p f second pool) (initial-agrees p f second pool accepted) history

-- The corollaries.
clean_file : (p : Parameters) (m : Model) → Fitting p m → Clean valid_word (hash_for p m) p.pages (model_file p m)
unfolding model_file hash_of
clean_file p m t =
    clean_laid valid_word (hash_for p m) p.pages (stars_for m) (rising-from p m t) (proper p m t) t.fits

look_up_accepts : (p : Parameters) (m : Model) → Fitting p m → (pool : Pool) (k : ℕ) → valid_number k ≡ true → (look_up_of p m.growth (model_file p m) pool k).answer ≡ answered p m k
unfolding look_up_of page_for named_page_lem
look_up_accepts p m t pool k e = rw (lent p m t, e) (looks_up p m t k (in_range k e).0)

-- The calls under a record: at rest those under its growth state, while a growth is open refused with 16.
module _ (p : Parameters) (r : GrowthRecord) (f : File) (pool : Pool) (v : valid_steps p r ≡ true) where
  rests : r.growing ≡ false → (lengths : Bool) (a : After) → unless_open p r lengths f pool a ≡ a
  rests e lengths a = rw (v, e)

  turned-away : r.growing ≡ true → (lengths : Bool) (a : After) → unlent p r.state lengths ≡ 0
      → unless_open p r lengths f pool a ≡ unchanged r.state f (cleared pool) (refused 16 0)
  turned-away e lengths a l = rw (v, e, l)

  module _ (second : File) (l : unlent p r.state (file_fits_lem p f && (file_fits_lem p second && pool_fits_lem p pool)) ≡ 0) where
    not_opened : r.growing ≡ true → open_under p r f second pool ≡ not_stepped r second (cleared pool) (refused 16 0)
    unfolding open_under step_refusal
    not_opened e = rw (v, l, e)

    not-stepped : r.growing ≡ false → step_under p r f second pool ≡ not_stepped r second (cleared pool) (refused 16 0)
    unfolding step_under step_refusal
    not-stepped e = rw (v, l, e)

    -- an opening is refused as the growth
    opens : r.growing ≡ false → open_under p r f second pool ≡ open_on p r f second (cleared pool)
    unfolding open_under step_refusal
    opens e = rw (v, l, e)

    opens_as : (open_on p r f second (cleared pool)).answer.refusal ≡ (grow_on p r.state f (cleared pool)).answer.refusal
    unfolding open_on spotted
    opens_as = go (grow_on p r.state f (cleared pool)) (eqb (grow_on p r.state f (cleared pool)).answer.refusal 0) refl
      where
        go : (whole : After) (b : Bool) → eqb whole.answer.refusal 0 ≡ b
            → (cond b
            (record { answer = accepted 0; growth = open_record r.state 0; second = empty_file_lem p; pool = cleared pool })
            (not_stepped r second (cleared pool) whole.answer)).answer.refusal
            ≡ whole.answer.refusal
        go whole true d = sym (eqb-true whole.answer.refusal 0 d)
        go whole false d = refl

-- a call that leaves the record finishes nothing
goes_on : (b : Bool) → b && not b ≡ false
goes_on true = refl
goes_on false = refl

-- what a call leaves that changes nothing
abbrev same : HistoryState → Pool → Answer → Outcome
same s pool a = record { answer = a; parameters = s.parameters; growth = s.growth; file = s.file; second = s.second; pool = pool }

-- A call that is answered so and changes nothing, and leaves the model when fed, is no step.
no_step : (s : HistoryState) (lent : Pool) (second : File) (q : Request) (pool : Pool) (a : Answer) → outcome s (call_of lent second q) ≡ same s pool a
    → fed_with s.parameters q a s.model ≡ s.model → next s (call_of lent second q) ≡ s
unfolding next fed_then feeding fed_by fed_all counts_as finishes is_accepted
no_step s lent second q pool a e d =
    let c = call_of lent second q in
    let m : fed (outcome s c).parameters (cond (s.growth.growing && not (outcome s c).growth.growing) grow q) (is_accepted (outcome s c).answer) s.model ≡ s.model =
    ap (λ (x : Outcome). fed_with x.parameters (cond (s.growth.growing && not x.growth.growing) grow q) x.answer s.model) e
    ∙ ap (λ (b : Bool). fed_with s.parameters (cond b grow q) a s.model) (goes_on s.growth.growing)
    ∙ d in
    λ i. record { parameters = (e i).parameters; growth = (e i).growth; file = (e i).file; second = (e i).second; model = m i }

refused-stays : (s : HistoryState) → Agrees s → (lent : Pool) (second : File) (q : Request) (pool : Pool) (a : Answer) → (a.refusal ≡ 0 → ⊥)
    → outcome s (call_of lent second q) ≡ same s pool a
    → ((outcome s (call_of lent second q)).answer ≡ a) × (next s (call_of lent second q) ≡ s)
refused-stays s agrees lent second q pool a h e = (
  ap (λ (x : Outcome). x.answer) e,
  no_step s lent second q pool a e (fed-refused s.parameters s.model agrees.fitting q a h),
)

module _ (s : HistoryState) (agrees : Agrees s) (second : File) (pool : Pool) where
  abbrev p : Parameters
  p = s.parameters

  abbrev t : Fitting p s.model
  t = agrees.fitting

  fits : unlent p s.growth.state (file_fits_lem p s.file) ≡ 0
  fits = rw (agrees.growth, agrees.file) (lent p s.model t)

  fits-with : (b : Bool) → b ≡ true → unlent p s.growth.state (file_fits_lem p s.file && b) ≡ 0
  fits-with b e = rw (agrees.growth, agrees.file, lent-pool p s.model t b, e)

  fits_both : pool_fits_lem p pool ≡ true → (set : File) → file_fits_lem p set ≡ true → unlent p s.growth.state (file_fits_lem p s.file && (file_fits_lem p set && pool_fits_lem p pool)) ≡ 0
  fits_both e set d = fits-with (file_fits_lem p set && pool_fits_lem p pool) (rw (d, e))

  -- A cascade.
  module _ (caller k : ℕ) (q : Position) where
    does-as-entry : outcome s (call_of pool second (cascade caller k q)) ≡ outcome s (call_of pool second (enter caller k q))
    unfolding outcome effect step cascade_under enter_under
    does-as-entry =
        ap (λ (a : After). on_file p s.growth s.second (unless_open p s.growth (file_fits_lem p s.file && pool_fits_lem p pool) s.file pool a)) inner
      where
        inner : cascade_of p s.growth.state s.file pool caller k q ≡ enter_of p s.growth.state s.file pool caller k q
        inner = rw (agrees.growth, agrees.file) (cascade-is p s.model t caller k q pool)

    counts-alike : (o : Parameters) (b accepted : Bool)
        → fed o (cond b grow (cascade caller k q)) accepted s.model ≡ fed o (cond b grow (enter caller k q)) accepted s.model
    counts-alike o true accepted = refl
    counts-alike o false accepted = fed-alike o s.model caller k q accepted

    counts-as-entry : next s (call_of pool second (cascade caller k q)) ≡ next s (call_of pool second (enter caller k q))
    unfolding next fed_then feeding fed_by fed_all counts_as is_accepted
    counts-as-entry =
        let o = outcome s (call_of pool second (enter caller k q)) in
        rw does-as-entry
        (ap (λ (m : Model). record { parameters = o.parameters; growth = o.growth; file = o.file; second = o.second; model = m })
        (counts-alike o.parameters (finishes s.growth o.growth) (is_accepted o.answer)))

  -- With no growth open.
  module _ (rest : s.growth.growing ≡ false) where
    abbrev free : (lengths : Bool) (a : After) → unless_open p s.growth lengths s.file pool a ≡ a
    free = rests p s.growth s.file pool agrees.steps rest

    abbrev leaving : After → Outcome
    leaving a = on_file p s.growth s.second a

    enters : (caller k : ℕ) (q : Position) → outcome s (call_of pool second (enter caller k q)) ≡ leaving (enter_of p s.growth.state s.file pool caller k q)
    unfolding outcome effect step enter_under
    enters caller k q = ap leaving (free (file_fits_lem p s.file && pool_fits_lem p pool) (enter_of p s.growth.state s.file pool caller k q))

    changes : (caller k : ℕ) (q : Position) → outcome s (call_of pool second (change caller k q)) ≡ leaving (keeping_pool pool (change_of p s.growth.state s.file unpooled caller k q))
    unfolding outcome effect step change_under
    changes caller k q =
        ap (λ (a : After). leaving (keeping_pool pool a))
        (rests p s.growth s.file unpooled agrees.steps rest (file_fits_lem p s.file) (change_of p s.growth.state s.file unpooled caller k q))

    removes : (caller k : ℕ) → outcome s (call_of pool second (remove caller k)) ≡ leaving (remove_of p s.growth.state s.file pool caller k)
    unfolding outcome effect step remove_under
    removes caller k = ap leaving (free (file_fits_lem p s.file && pool_fits_lem p pool) (remove_of p s.growth.state s.file pool caller k))

    shrinks : outcome s (call_of pool second shrink) ≡ leaving (shrink_of p s.growth.state s.file pool)
    unfolding outcome effect step shrink_under
    shrinks = ap leaving (free (file_fits_lem p s.file && pool_fits_lem p pool) (shrink_of p s.growth.state s.file pool))

    grows : outcome s (call_of pool second grow) ≡ leaving (grow_of p s.growth.state s.file pool)
    unfolding outcome effect step grow_under
    grows = ap leaving (free (file_fits_lem p s.file && pool_fits_lem p pool) (grow_of p s.growth.state s.file pool))

    module _ (fit : pool_fits_lem p pool ≡ true) (caller k : ℕ) where
      module _ (q : Position) (e : held_position k s.model.entries ≡ some q) where
        leaves : outcome s (call_of pool second (enter caller k q)) ≡ same s (cleared pool) (accepted_at (page_for p s.model k) (place_on_lem p s.model k))
        leaves = enters caller k q ∙ ap leaving inner
          where
            inner : enter_of p s.growth.state s.file pool caller k q
                ≡ unchanged s.growth.state s.file (cleared pool) (accepted_at (page_for p s.model k) (place_on_lem p s.model k))
            inner =
                rw (agrees.growth, agrees.file)
                (resent p s.model t caller k q pool fit q e (position-valid 1 k q s.model.entries t.ordered e).position refl)

        stays : next s (call_of pool second (enter caller k q)) ≡ s
        unfolding fed is_accepted spotted
        stays =
            no_step s pool second (enter caller k q) (cleared pool) (accepted_at (page_for p s.model k) (place_on_lem p s.model k)) leaves
            (fed-own p s.model t caller k q e)

      refuses : (q r : Position) → valid_position q ≡ true → held_position k s.model.entries ≡ some r → (r ≡ q → ⊥)
          → (outcome s (call_of pool second (enter caller k q))).answer ≡ refused_at 6 0 (place_on_lem p s.model k)
      refuses q r v e d = rw (enters caller k q, agrees.growth, agrees.file, other p s.model t caller k q pool fit r e v d)

    -- Changes and removals of a held star.
    module _ (caller k : ℕ) (r : Position) (e : held_position k s.model.entries ≡ some r) where
      module _ (h : caller ≡ 0 → ⊥) (d : caller ≡ held_owner k s.model.entries → ⊥) where
        no_change : (q : Position) → valid_position q ≡ true → NotOwner s (call_of pool second (change caller k q)) k
        unfolding spotted
        no_change q v =
            refused-stays s agrees pool second (change caller k q) pool (refused_at 13 0 (place_on_lem p s.model k)) (λ z. omega arith)
            (changes caller k q ∙ ap (λ (a : After). leaving (keeping_pool pool a)) inner)
          where
            inner : change_of p s.growth.state s.file unpooled caller k q ≡ unchanged s.growth.state s.file unpooled (refused_at 13 0 (place_on_lem p s.model k))
            inner = rw (agrees.growth, agrees.file) (change_refused p s.model t caller k q unpooled r e v h d)

        no-removal : pool_fits_lem p pool ≡ true → NotOwner s (call_of pool second (remove caller k)) k
        unfolding spotted
        no-removal fit =
            refused-stays s agrees pool second (remove caller k) (cleared pool) (refused_at 13 0 (place_on_lem p s.model k)) (λ z. omega arith)
            (removes caller k ∙ ap leaving inner)
          where
            inner : remove_of p s.growth.state s.file pool caller k ≡ unchanged s.growth.state s.file (cleared pool) (refused_at 13 0 (place_on_lem p s.model k))
            inner = rw (agrees.growth, agrees.file) (removal_refused p s.model t caller k pool fit r e h d)

      module _ (h : (caller ≡ 0) ⊎ (caller ≡ held_owner k s.model.entries)) where
        own-change : (q : Position) → valid_position q ≡ true → AcceptedAt s (call_of pool second (change caller k q)) k
        own-change q v = rw (changes caller k q, agrees.growth, agrees.file) (change_accepted p s.model t caller k q unpooled r e v h)

        own-removal : pool_fits_lem p pool ≡ true → AcceptedAt s (call_of pool second (remove caller k)) k
        own-removal fit = rw (removes caller k, agrees.growth, agrees.file) (removal_accepted p s.model t caller k pool fit r e h)

    -- Opening is refused as the growth, and a step is out of turn.
    opening : pool_fits_lem p pool ≡ true → file_fits_lem p second ≡ true
        → (outcome s (call_of pool second open_growth_lem)).answer.refusal ≡ (outcome s (call_of pool second grow)).answer.refusal
    unfolding outcome effect step grow_of
    opening fit set =
        ap (λ (a : AfterStep). a.answer.refusal) (opens p s.growth s.file pool agrees.steps second (fits_both fit second set) rest)
        ∙ opens_as p s.growth s.file pool agrees.steps second (fits_both fit second set)
        ∙ sym growing
      where
        growing : (outcome s (call_of pool second grow)).answer.refusal ≡ (grow_on p s.growth.state s.file (cleared pool)).answer.refusal
        growing = ap (λ (o : Outcome). o.answer.refusal) grows ∙ rw (fits-with (pool_fits_lem p pool) fit)

    no-stepping : pool_fits_lem p pool ≡ true → file_fits_lem p second ≡ true → outcome s (call_of pool second step_growth_lem) ≡ same s (cleared pool) (refused 16 0)
    unfolding outcome effect step finishes
    no-stepping fit set =
        ap (λ (b : Bool). on_step p s.growth s.file s.second (step_under p s.growth s.file (cond b s.second second) pool)) rest
        ∙ ap (on_step p s.growth s.file s.second) (not-stepped p s.growth s.file pool agrees.steps second (fits_both fit second set) rest)
        ∙ rw rest

    stepping : pool_fits_lem p pool ≡ true → file_fits_lem p second ≡ true → OutOfTurn s (call_of pool second step_growth_lem)
    unfolding spotted
    stepping fit set = refused-stays s agrees pool second step_growth_lem (cleared pool) (refused 16 0) (λ z. omega arith) (no-stepping fit set)

  -- While one is open.
  module _ (growing : s.growth.growing ≡ true) where
    -- the pool is cleared, or was not lent
    whatever-pool : (o : Outcome) (left : Pool) → o ≡ same s left (refused 16 0) → o ≡ same s o.pool (refused 16 0)
    whatever-pool o left e = e ∙ ap (λ (x : Outcome). same s x.pool (refused 16 0)) (sym e)

    writing : (r : Request) → writes r ≡ true → pool_fits_lem p pool ≡ true → outcome s (call_of pool second r) ≡ same s (outcome s (call_of pool second r)).pool (refused 16 0)
    unfolding writes outcome effect step enter_under cascade_under change_under remove_under grow_under shrink_under
    writing (look_up_lem k) w fit = absurd (true≢false (sym w))
    writing (enter caller k q) w fit = whatever-pool _ _ (ap (on_file p s.growth s.second) (turned-away p s.growth s.file pool agrees.steps growing _ _ (fits-with (pool_fits_lem p pool) fit)))
    writing (cascade caller k q) w fit = whatever-pool _ _ (ap (on_file p s.growth s.second) (turned-away p s.growth s.file pool agrees.steps growing _ _ (fits-with (pool_fits_lem p pool) fit)))
    writing (change caller k q) w fit =
        whatever-pool _ _ (ap (λ (a : After). on_file p s.growth s.second (keeping_pool pool a)) (turned-away p s.growth s.file unpooled agrees.steps growing _ _ fits))
    writing (remove caller k) w fit = whatever-pool _ _ (ap (on_file p s.growth s.second) (turned-away p s.growth s.file pool agrees.steps growing _ _ (fits-with (pool_fits_lem p pool) fit)))
    writing grow w fit = whatever-pool _ _ (ap (on_file p s.growth s.second) (turned-away p s.growth s.file pool agrees.steps growing _ _ (fits-with (pool_fits_lem p pool) fit)))
    writing shrink w fit = whatever-pool _ _ (ap (on_file p s.growth s.second) (turned-away p s.growth s.file pool agrees.steps growing _ _ (fits-with (pool_fits_lem p pool) fit)))
    writing due w fit = absurd (true≢false (sym w))
    writing check w fit = absurd (true≢false (sym w))
    writing open_growth_lem w fit = absurd (true≢false (sym w))
    writing step_growth_lem w fit = absurd (true≢false (sym w))

    written : (r : Request) → writes r ≡ true → pool_fits_lem p pool ≡ true → OutOfTurn s (call_of pool second r)
    unfolding spotted
    written r w fit = refused-stays s agrees pool second r (outcome s (call_of pool second r)).pool (refused 16 0) (λ z. omega arith) (writing r w fit)

    no-opening : pool_fits_lem p pool ≡ true → file_fits_lem p second ≡ true → outcome s (call_of pool second open_growth_lem) ≡ same s (cleared pool) (refused 16 0)
    unfolding outcome effect step is_accepted spotted
    no-opening fit set = ap (on_opening p s.file s.second) (not_opened p s.growth s.file pool agrees.steps second (fits_both fit second set) growing)

    reopened : pool_fits_lem p pool ≡ true → file_fits_lem p second ≡ true → OutOfTurn s (call_of pool second open_growth_lem)
    unfolding spotted
    reopened fit set = refused-stays s agrees pool second open_growth_lem (cleared pool) (refused 16 0) (λ z. omega arith) (no-opening fit set)

    steps_on : pool_fits_lem p pool ≡ true → (outcome s (call_of pool second step_growth_lem)).answer.refusal ≡ 0
    unfolding outcome effect step
    steps_on fit =
        rw agrees.file
        (subst (λ (r : GrowthRecord). (step_under p r (model_file p s.model) (cond r.growing s.second second) pool).answer.refusal ≡ 0)
        (sym (is-opened p s.model s.growth s.file s.second agrees growing))
        (step-accepted p s.model t s.second s.growth.steps (agrees.unfinished growing) pool fit))

looked_up_lem : (s : HistoryState) → Agrees s → (pool : Pool) (k : ℕ) → valid_number k ≡ true
    → (look_up_under s.parameters s.growth s.file pool k).answer ≡ answered s.parameters s.model k
unfolding look_up_under
looked_up_lem s agrees pool k v = rw (agrees.steps, agrees.growth, agrees.file) (look_up_accepts s.parameters s.model agrees.fitting pool k v)

plain_answer_lem : (s : HistoryState) → Agrees s → (k : ℕ) → valid_number k ≡ true → plain_answer s.parameters s.growth s.file k ≡ answered s.parameters s.model k
unfolding plain_answer
plain_answer_lem s agrees k v = looked_up_lem s agrees unpooled k v

-- Trays.
tray-fits : (a : ℕ) (t : Tray) (bits : List ℕ) → Exact a t bits → tray_fits_lem t bits ≡ true
unfolding tray_fits_lem
tray-fits a t bits e = rw (eq-eqb (length t.reports) 256 e.reports_lent, eq-eqb (length bits) 32 e.filter_lent, le-leb t.count 256 e.counted)

module _ (s : HistoryState) (agrees : Agrees s) (second : File) (pool : Pool) (t : Tray) (bits : List ℕ) where
  abbrev here : Parameters
  here = s.parameters

  abbrev filing_call : Call
  filing_call = element_of pool second (file_reports_lem t bits)

  filing-stays : begins here s.growth s.file pool t bits ≡ false → next s filing_call ≡ s
  unfolding next fed_then outcome effect feeding fed_by fed_all filing_made
  filing-stays e = go (pool_fits_lem here pool && tray_fits_lem t bits) refl s.growth.growing refl
    where
      none : (filing_of here s.growth s.file pool t bits).file ≡ s.file → next s filing_call ≡ s
      none h = rw e (ap (λ (l : File). record { parameters = here; growth = s.growth; file = l; second = s.second; model = s.model }) h)

      go : (b : Bool) → pool_fits_lem here pool && tray_fits_lem t bits ≡ b → (y : Bool) → s.growth.growing ≡ y → next s filing_call ≡ s
      go false b y g = none (ap (λ (a : AfterFiling). a.file) (filing-unlent here s.model s.growth s.file s.second agrees pool t bits b).0)
      go true b true g = none (ap (λ (a : AfterFiling). a.file) (filing-open here s.model s.growth s.file s.second agrees pool t bits b g).0)
      go true b false g = absurd (true≢false (sym (filing-begun here s.model s.growth s.file s.second agrees pool t bits b g).1 ∙ e))

  tray-calls-stay : ((k : ℕ) → next s (element_of pool second (combined_look_up t bits k)) ≡ s)
      × ((x : Report) → next s (element_of pool second (add_report t bits x)) ≡ s)
      × (begins here s.growth s.file pool t bits ≡ false → next s filing_call ≡ s)
  unfolding next fed_then outcome effect feeding fed_by fed_all
  tray-calls-stay = ((λ k. refl), (λ x. refl), filing-stays)

  combined-answers : Exact here.multiplier t bits → (k : ℕ) → valid_number k ≡ true
      → (outcome s (element_of pool second (combined_look_up t bits k))).answer ≡ latest_or here.pages k (waiting t) (answered here s.model k)
  unfolding outcome effect unfiltered_of sought_refusal
  combined-answers e k v =
      e.looks here s.growth s.file k refl
      ∙ rw (file-lent here s.model s.growth s.file s.second agrees, tray_lent here s.model s.growth s.file s.second agrees (tray_fits_lem t bits), tray-fits here.multiplier t bits e, v)
      (ap (latest_or here.pages k (waiting t)) (plain_answer_lem s agrees k v))

  module _ (fit : pool_fits_lem here pool ≡ true) (lent : tray_fits_lem t bits ≡ true) where
    both-fit : pool_fits_lem here pool && tray_fits_lem t bits ≡ true
    both-fit = rw (fit, lent)

    filing-turned-away : s.growth.growing ≡ true → OutOfTurn s filing_call
    unfolding outcome effect
    filing-turned-away g =
        let e = filing-open here s.model s.growth s.file s.second agrees pool t bits both-fit g in
        (ap (λ (a : AfterFiling). a.answer) e.0, filing-stays e.1)

    filing-tries : s.growth.growing ≡ false → (begins here s.growth s.file pool t bits ≡ true) × MeetsNoOwn s filing_call
    unfolding outcome effect left_by
    filing-tries g =
        let e = filing-begun here s.model s.growth s.file s.second agrees pool t bits both-fit g in
        let own = (ended here s.growth s.file (cleared pool) (waiting t) ready).number in
        (e.1, record { parameters = rw e.0 own.parameters; lengths = rw e.0 own.lengths; turn = rw e.0 own.turn })
      where
        ready : Begun here s.growth s.file (cleared pool)
        ready =
            record {
              steps = agrees.steps;
              closed = g;
              state = rw (agrees.growth, agrees.fitting.parameters, agrees.fitting.growth);
              file = file-lent here s.model s.growth s.file s.second agrees;
              pooled = cleared-fits here pool ∙ fit;
              clear = cleared-twice pool;
            }

at_rest : (s : HistoryState) → Agrees s → (second : File) → s.growth.growing ≡ false → AtRest s second
at_rest s agrees second rest =
    record {
      full = λ pool caller k q l v w e. rw (enters s agrees second pool rest caller k q, agrees.growth, agrees.file) (full s.parameters s.model agrees.fitting caller k q pool l (record { number = v; position = w }) e);
      resent = λ pool caller k q l e. (ap (λ (x : Outcome). x.answer) (leaves s agrees second pool rest l caller k q e), stays s agrees second pool rest l caller k q e);
      held = λ pool caller k q r l v e d. refuses s agrees second pool rest l caller k q r v e d;
      not_owner = λ pool caller k r e h d. (no_change s agrees second pool rest caller k r e h d, no-removal s agrees second pool rest caller k r e h d);
      owner = λ pool caller k r e h. (own-change s agrees second pool rest caller k r e h, own-removal s agrees second pool rest caller k r e h);
      shrink_first = λ pool l. rw (shrinks s agrees second pool rest, agrees.growth, agrees.file) (shrink_first_lem s.parameters s.model agrees.fitting pool l);
      shrink_full = λ pool l d. rw (shrinks s agrees second pool rest, agrees.growth, agrees.file) (shrink_full_lem s.parameters s.model agrees.fitting pool l d);
      opening = λ pool. opening s agrees second pool rest;
      stepping = λ pool. stepping s agrees second pool rest;
      filing = λ pool t bits fit lent. filing-tries s agrees second pool t bits fit lent rest;
    }

-- Mending, by itself and after a loss.
module _ (s : HistoryState) (agrees : Agrees s) (second : File) (pool : Pool) where
  abbrev ps : Parameters
  ps = s.parameters

  abbrev mending : Call
  mending = element_of pool second mend

  mended-stays : next s mending ≡ s
  unfolding next fed_then outcome effect feeding fed_by fed_all
  mended-stays =
      let t = mend_stays ps s.model s.growth s.file s.second agrees pool in
      λ i. record {
        parameters = ps;
        growth = record { state = t.growth i; growing = s.growth.growing; steps = s.growth.steps };
        file = t.file i;
        second = s.second;
        model = s.model;
      }

  mended-accepted : pool_fits_lem ps pool ≡ true → s.growth.growing ≡ false → (outcome s mending).answer ≡ accepted 0
  unfolding outcome effect
  mended-accepted fit rest =
      rw (is-closed ps s.model s.growth s.file s.second agrees rest, agrees.file, mended_as_it_is ps s.model agrees.fitting pool fit)

  survived : (l : Loss) → loss_fits ps l ≡ true → Mended s (element_of pool second (lost l)) l
  unfolding outcome effect
  survived l e =
      let t = survives ps s.model s.growth s.file s.second agrees pool l e in
      record {
        answer = rw e t.answer;
        closed = rw e (ap closed_record (t.state ∙ sym agrees.growth));
        file = rw e t.file;
      }

in_history : (s : HistoryState) → Agrees s → (second : File) → InHistory s second
unfolding outcome effect step check_under
in_history s agrees second =
    record {
      clean = rw (agrees.growth, agrees.file) (clean_file s.parameters s.model agrees.fitting);
      checked = λ pool e. rw (agrees.steps, agrees.growth, agrees.file) (model_checked s.parameters s.model agrees.fitting pool e);
      sought = λ pool k e. looked_up_lem s agrees pool k e;
      cascades = λ pool caller k q. (does-as-entry s agrees second pool caller k q, counts-as-entry s agrees second pool caller k q);
      mends = λ pool. (mended-stays s agrees second pool, mended-accepted s agrees second pool);
      survives = λ pool. survived s agrees second pool;
      trays = λ pool t bits. tray-calls-stay s agrees second pool t bits;
      combined = λ pool cs one k v.
          combined-answers s agrees second pool (called_all from_zeros cs).tray (called_all from_zeros cs).filter (filter-exact s.parameters.multiplier cs one) k v;
      steps = agrees.steps;
      at_rest_lem = at_rest s agrees second;
      while_open = λ e. record {
        writing = λ pool. written s agrees second pool e;
        opening = λ pool. reopened s agrees second pool e;
        filing = λ pool t bits fit lent. filing-turned-away s agrees second pool t bits fit lent e;
        stepping = λ pool. steps_on s agrees second pool e;
      };
    }

pub each_state_lem : EachState
each_state_lem p f second pool accepted history =
    let start = initial-agrees p f second pool accepted in
    record {
      before = each_event conforming (λ (t : Event). (set : File) → InHistory t.before set) (λ s agrees c. in_history s agrees) (initial p f second pool) start history;
      after = in_history (end (initial p f second pool) history) (end-agrees conforming (initial p f second pool) start history);
    }

same-model : (p q : Parameters) (a b : Model) → Fitting p a → Fitting q b → ((k : ℕ) → held_entry k a.entries ≡ held_entry k b.entries) → a.growth ≡ b.growth → a ≡ b
same-model p q a b s t entries growth =
    let e = determined 1 a.entries b.entries s.ordered t.ordered entries in
    λ i. record { entries = e i; growth = growth i }

same-state : (a b : HistoryState) → Agrees a → Agrees b → SameContents a b → SameState a b
same-state a b s t c =
    let m = same-model a.parameters b.parameters a.model b.model s.fitting t.fitting c.entries c.growth in
    let l : model_file a.parameters a.model ≡ model_file b.parameters b.model = λ i. model_file (c.parameters i) (m i) in
    let f : a.file ≡ b.file = s.file ∙ l ∙ sym t.file in
    record {
      model = m;
      separators = ap (λ (h : File). h.separators) f;
      numbers = ap (λ (h : File). h.numbers) f;
      words = ap (λ (h : File). h.words) f;
      owners = ap (λ (h : File). h.owners) f;
      growth = s.growth ∙ c.growth ∙ sym t.growth;
      unfinished = λ d e j. (s.unfinished d).pages_done ∙ (λ i. unfinished_file (c.parameters i) (m i) (j i)) ∙ sym (t.unfinished e).pages_done;
    }

pub history_independence_lem : HistoryIndependence
history_independence_lem p q f g second spare pool other accepted also history another same =
    same-state (end (initial p f second pool) history) (end (initial q g spare other) another)
    (end-agrees conforming (initial p f second pool) (initial-agrees p f second pool accepted) history)
    (end-agrees conforming (initial q g spare other) (initial-agrees q g spare other also) another)
    same
