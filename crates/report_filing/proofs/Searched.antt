-- A report by what its search found: the facts that the code behind it needs, and what it then answers and leaves.
use mathlib.Core.Path.{◌≡◌, sym, ap, ◌∙◌}
use mathlib.Core.Bool.{Bool, true, false}
use mathlib.Core.List.{List}
use Prim.Native.Nat.{ℕ}
use native.Mathlib.Nat.{le_refl}
use native.Mathlib.Omega.{arith}
use lib.ListN.{set}
use Rattle.hashing.specs.declared.Parameters.{Parameters}
use Rattle.hashing.specs.declared.Growth.{Growth}
use Rattle.hashing.specs.declared.Geometry.{Geometry}
use Rattle.hashing.proofs.Bounds.{limits}
use Rattle.pages.specs.Position.{valid_position, packed}
use Rattle.placement.specs.File.{File}
use Rattle.placement.specs.Hash.{hash_of, lent}
use Rattle.placement.specs.Ready.{Ready}
use Rattle.placement.specs.Rule.{star_with}
use Rattle.reach.specs.Reach.{entry_end}
use Rattle.page_plan.specs.declared.outcome.Outcome.{Outcome}
use Rattle.entry_reach.specs.Entry.{Unheld, entry_answer, entry_file}
use Rattle.removal_reach.specs.Removal.{Held, removal_answer, removal_file}
use Rattle.calls.specs.declared.answers.Answer.{Answer}
use Rattle.calls.specs.declared.answers.Placed.{Placed}
use Rattle.calls.specs.Answers.{Pool, After, placed, cleared, unpooled, accepted, accepted_at, refused_at}
use Rattle.calls.specs.Shape.{Stores}
use Rattle.calls.specs.Calls.{pool_fits_lem, unchanged, readable, named, holds, place_for, item_of, owner_for, may_alter_lem, enter_to}
use Rattle.calls.specs.Records.{closed_record}
use Rattle.calls.specs.Shape.{stopped_file}
use Rattle.calls.proofs.Stored.{whole-stopped}
use Rattle.outcome_answer.specs.Outcomes.{OutcomeSmall, outcome_placed}
use Rattle.call_enter.proofs.Outcomes.{entered-is}
use Rattle.call_enter.proofs.Pools.{unheld}
use Rattle.call_remove.proofs.Outcomes.{outcome-told, removal_small, removed-is}
use Rattle.call_remove.proofs.Pools.{held-star}
use Rattle.named_page.specs.declared.finding.Named.{Named}
use Rattle.reports.specs.declared.Report.{Report}
use Rattle.reports.specs.Reports.{reported_position, is_removal}
use Rattle.reports.specs.Filing.{report_filed}
use Rattle.report_filing.specs.Filing.{Sought}
use Rattle.report_filing.proofs.Reporting.{placed-well, nothing, enters, stranger, removes, changes}

-- an answer and a file, by an equation for what is filed
stored : {a b : After} {answer : Answer} {l : File} → a ≡ b → answer ≡ b.answer → l ≡ b.file → Stores a answer l
stored e n m = record { answers = n ∙ sym (ap (λ (y : After). y.answer) e); files = m ∙ sym (ap (λ (y : After). y.file) e) }

-- with a store for every page nothing is stopped
whole-file : (lowest : Bool) (p : Parameters) (g : Growth) (f l : File) → stopped_file lowest p f l p.pages ≡ l
whole-file lowest p g f l = ap (λ (a : After). a.file) (whole-stopped lowest p f p.pages (unchanged g l unpooled (accepted 0)) (le_refl p.pages))

module _ {geometry : Geometry} {table : List ℕ} {f : File} (ready : Ready geometry table f) {homes : List ℕ} {x : Report} {r : Named}
    (t : Sought geometry.parameters geometry.growth f homes x r) where
  abbrev p : Parameters
  p = geometry.parameters

  abbrev g : Growth
  g = geometry.growth

  abbrev page : ℕ
  page = named p g f x.number

  abbrev place : ℕ
  place = place_for p f page x.number

  good : readable p g f page ≡ true
  good = sym t.named.readable_is ∙ t.readable

  place_is : r.place ≡ place
  place_is = t.named.place_is_lem t.readable

  here : (held : Bool) → r.held ≡ held → holds p f page x.number ≡ held
  here held e = sym (t.named.held_is t.readable) ∙ e

  owned : (may : Bool) → r.held ≡ true → may_alter_lem x.owner r.owner ≡ may → may_alter_lem x.owner (owner_for p f page x.number) ≡ may
  owned may old e = ap (may_alter_lem x.owner) (sym (t.named.owner_is old)) ∙ e

  pub place_here : r.place ≡ place_for p f r.page x.number
  place_here = place_is ∙ ap (λ (q : ℕ). place_for p f q x.number) (sym t.named.page_is)

  pub held-here : r.held ≡ true → Held p g f x.number
  held-here old = held-star p g f x.number good (here true old)

  pub absent_here : r.held ≡ false → Unheld p g f x.number
  absent_here new = unheld p g f x.number good (here false new)

  pub position-valid : is_removal x ≡ false → valid_position (reported_position x) ≡ true
  position-valid e = placed-well x t.position e

  pub removal_fits : OutcomeSmall (removal_answer p g f x.number r.page)
  removal_fits =
      removal_small p g f ready.homing.valid ready.homing.growth x.number r.page
      (omega (arith, t.named.page_most, (limits p ready.homing.valid).pages_most))

  module _ (pool : Pool) (fits : pool_fits_lem p pool ≡ true) where
    abbrev filed : After
    filed = report_filed p (closed_record g) f pool x

    pub filed-nothing : r.held ≡ false → is_removal x ≡ true → Stores filed (accepted 0) f
    filed-nothing new e = nothing ready pool x fits t.number good e (here false new)

    pub filed-entry : r.held ≡ false → is_removal x ≡ false → (word : ℕ) → word ≡ packed (reported_position x) → (answer : Placed) (o : Outcome) (l : File)
        → answer ≡ outcome_placed o r.place → o ≡ entry_answer p g f (star_with x.number word x.owner)
        → l ≡ stopped_file false p f (entry_file p g f (star_with x.number word x.owner)) p.pages → Stores filed (placed answer) l
    filed-entry new e word same answer o l a b m =
        let is = entered-is p g f (cleared pool) (star_with x.number word x.owner) place in
        stored (enters ready pool x fits t.number good e (position-valid e) (here false new) ∙ ap entry (sym same))
        (outcome-told a b place_is ∙ is.0)
        (m ∙ whole-file false p g f _ ∙ is.1)
      where
        entry : ℕ → After
        entry w = enter_to p g f (cleared pool) (star_with x.number w x.owner) place (entry_end (hash_of p g) p.pages f (star_with x.number w x.owner))

    module _ (old : r.held ≡ true) where
      pub refused-stranger : may_alter_lem x.owner r.owner ≡ false → Stores filed (refused_at 13 0 r.place) f
      refused-stranger may =
          let s = stranger ready pool x fits t.number good (here true old) t.position (owned false old may) in
          record { answers = ap (λ (q : ℕ). refused_at 13 0 q) place_is ∙ s.answers; files = s.files }

      pub filed-removal : is_removal x ≡ true → may_alter_lem x.owner r.owner ≡ true → (answer : Placed) (o : Outcome) (l : File)
          → answer ≡ outcome_placed o r.place → o ≡ removal_answer p g f x.number r.page
          → l ≡ stopped_file true p f (removal_file p g f x.number) p.pages → Stores filed (placed answer) l
      filed-removal e may answer o l a b m =
          let is = removed-is p g f (cleared pool) page x.number place in
          stored (removes ready pool x fits t.number good (here true old) e (owned true old may))
          (outcome-told a (b ∙ ap (removal_answer p g f x.number) t.named.page_is) place_is ∙ is.0)
          (m ∙ whole-file true p g f _ ∙ is.1)

      pub filed-change : is_removal x ≡ false → may_alter_lem x.owner r.owner ≡ true → (word : ℕ) → word ≡ packed (reported_position x)
          → Stores filed (accepted_at r.page r.place) (lent f.separators f.numbers (set f.words r.item word) f.owners)
      filed-change e may word same =
          stored (changes ready pool x fits t.number good (here true old) e (position-valid e) (owned true old may))
          (ap (λ (q : ℕ). accepted_at q r.place) t.named.page_is ∙ ap (λ (q : ℕ). accepted_at page q) place_is)
          (ap (λ (i : ℕ). lent f.separators f.numbers (set f.words i word) f.owners) (t.named.item_is old)
          ∙ ap (λ (w : ℕ). lent f.separators f.numbers (set f.words (item_of p f page x.number) w) f.owners) same)
