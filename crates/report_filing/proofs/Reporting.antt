-- One report by what its search found: the laws of crate reports, below the guards of the calls that it is tried as.
use mathlib.Core.Path.{◌≡◌, refl, sym, ap, ◌∙◌}
use mathlib.Core.Bool.{Bool, true, false, cond, ◌&&◌, ◌||◌, false≢true}
use mathlib.Core.List.{List}
use Prim.Native.Nat.{ℕ}
use lib.ListN.{set}
use Rattle.buffers.proofs.Tests.{either-false}
use Rattle.hashing.specs.declared.Parameters.{Parameters}
use Rattle.hashing.specs.declared.Growth.{Growth}
use Rattle.hashing.specs.declared.Geometry.{Geometry}
use Rattle.hashing.specs.Limits.{valid_parameters, valid_growth}
use Rattle.pages.specs.Position.{valid_number, valid_position, packed}
use Rattle.placement.specs.File.{File}
use Rattle.placement.specs.Ready.{Ready}
use Rattle.placement.specs.Hash.{hash_of, lent}
use Rattle.placement.specs.Rule.{Star}
use Rattle.reach.specs.Reach.{removal_end, entry_end}
use Rattle.calls.specs.declared.answers.Answer.{Answer}
use Rattle.calls.specs.Answers.{Pool, After, cleared, accepted, accepted_at, refused, refused_at, spotted}
use Rattle.calls.specs.Shape.{Stores}
use Rattle.calls.specs.Calls.{file_fits_lem, pool_fits_lem, unlent, unchanged, readable, named, holds, place_for, item_of, owner_for, may_alter_lem, allowed, entered, enter_to, enter_on, enter_of, change_on, change_of, remove_to, remove_on, remove_of}
use Rattle.calls.specs.Records.{valid_steps, closed_record, enter_under, change_under, remove_under}
use Rattle.calls.proofs.Refusals.{well-lent}
use Rattle.reports.specs.declared.Report.{Report}
use Rattle.reports.specs.Reports.{reported_position, is_removal}
use Rattle.reports.specs.Filing.{removal_filed, position_filed, report_filed}
use Rattle.reports.proofs.Trying.{sized-fits}
use Rattle.reports.proofs.Filing.{Admitted, position-damaged, position-entered, position-changed, removal_damaged, removal_nothing, removal_removed}

stores : (after : After) (a : Answer) (g : Growth) (f : File) (pool : Pool) → after ≡ record { answer = a; growth = g; file = f; pool = pool } → Stores after a f
stores after a g f pool e = record { answers = sym (ap (λ (x : After). x.answer) e); files = sym (ap (λ (x : After). x.file) e) }

either : (t : Bool) {a b : After} {answer : Answer} {f : File} → (t ≡ true → Stores a answer f) → (t ≡ false → Stores b answer f) → Stores (cond t a b) answer f
either true h k = h refl
either false h k = k refl

left_out : (s t : Bool) → s || t ≡ true → s ≡ false → t ≡ true
left_out true t e h = absurd (false≢true (sym h))
left_out false t e h = e

-- what a valid report that is no removal has
pub placed-well : (x : Report) → is_removal x || valid_position (reported_position x) ≡ true → is_removal x ≡ false → valid_position (reported_position x) ≡ true
placed-well x e h = left_out (is_removal x) (valid_position (reported_position x)) e h

module _ {geometry : Geometry} {table : List ℕ} {f : File} (ready : Ready geometry table f) (pool : Pool) (x : Report)
    (fits : pool_fits_lem geometry.parameters pool ≡ true) where
  abbrev p : Parameters
  p = geometry.parameters

  abbrev g : Growth
  g = geometry.growth

  abbrev page : ℕ
  page = named p g f x.number

  abbrev place : ℕ
  place = place_for p f page x.number

  abbrev star : Star
  star = entered x.owner x.number (reported_position x)

  abbrev filed : After
  filed = report_filed p (closed_record g) f pool x

  state : valid_parameters p && valid_growth p g ≡ true
  state = rw (ready.homing.valid, ready.homing.growth)

  file : file_fits_lem p f ≡ true
  file = sized-fits p f ready.sized

  both-fit : file_fits_lem p f && pool_fits_lem p pool ≡ true
  both-fit = rw (file, fits)

  file-lent : unlent p g (file_fits_lem p f) ≡ 0
  file-lent = well-lent p g (file_fits_lem p f) state file

  all-lent : unlent p g (file_fits_lem p f && pool_fits_lem p pool) ≡ 0
  all-lent = well-lent p g (file_fits_lem p f && pool_fits_lem p pool) state both-fit

  admitted : valid_number x.number ≡ true → Admitted p (closed_record g) f pool x.number
  unfolding valid_steps
  admitted n = record { steps = refl; closed = refl; state = state; file = file; pooled = both-fit; number = n }

  as-removal : is_removal x ≡ true → filed ≡ removal_filed p (closed_record g) f pool x
  unfolding report_filed
  as-removal e = rw e

  as-position : is_removal x ≡ false → filed ≡ position_filed p (closed_record g) f pool x
  unfolding report_filed
  as-position e = rw e

  by_kind : {answer : Answer} {l : File} → (is_removal x ≡ true → Stores (removal_filed p (closed_record g) f pool x) answer l)
      → (is_removal x ≡ false → Stores (position_filed p (closed_record g) f pool x) answer l) → Stores filed answer l
  unfolding report_filed
  by_kind h k = either (is_removal x) h k

  -- 3
  pub bad_number : valid_number x.number ≡ false → Stores filed (refused 3 0) f
  bad_number n = by_kind (λ e. stores _ _ g _ pool removal) (λ e. stores _ _ g _ pool position)
    where
      removal : removal_filed p (closed_record g) f pool x ≡ unchanged g f pool (refused 3 0)
      removal = unfold removal_filed remove_under remove_of valid_steps spotted in rw (all-lent, n)

      position : position_filed p (closed_record g) f pool x ≡ unchanged g f pool (refused 3 0)
      position = unfold position_filed change_under change_of valid_steps spotted in rw (file-lent, n)

  module _ (n : valid_number x.number ≡ true) where
    -- 4, not for a removal
    pub bad_position : is_removal x || valid_position (reported_position x) ≡ false → Stores filed (refused 4 0) f
    bad_position bad =
        let t = either-false (is_removal x) (valid_position (reported_position x)) bad in
        stores _ _ g _ pool (as-position t.0 ∙ is t.1)
      where
        is : valid_position (reported_position x) ≡ false → position_filed p (closed_record g) f pool x ≡ unchanged g f pool (refused 4 0)
        is q = unfold position_filed change_under change_of valid_steps spotted in rw (file-lent, n, q)

    -- 5
    pub damaged : is_removal x || valid_position (reported_position x) ≡ true → readable p g f page ≡ false → Stores filed (refused 5 page) f
    damaged q bad =
        by_kind
        (λ e. stores _ _ g _ (cleared pool) (removal_damaged p (closed_record g) f pool x (admitted n) bad))
        (λ e. stores _ _ g _ pool (position-damaged p (closed_record g) f pool x (admitted n) (placed-well x q e) bad))

    module _ (good : readable p g f page ≡ true) where
      -- "a removal of a star not held does nothing and counts as filed"
      pub nothing : is_removal x ≡ true → holds p f page x.number ≡ false → Stores filed (accepted 0) f
      nothing e new = stores _ _ g _ pool (as-removal e ∙ removal_nothing p (closed_record g) f pool x (admitted n) good new)

      -- a star not held is entered
      pub enters : is_removal x ≡ false → valid_position (reported_position x) ≡ true → holds p f page x.number ≡ false
          → filed ≡ enter_to p g f (cleared pool) star place (entry_end (hash_of p g) p.pages f star)
      enters e q new =
          as-position e
          ∙ position-entered p (closed_record g) f pool x (admitted n) q good new
          ∙ (unfold enter_under enter_of enter_on valid_steps in rw (all-lent, n, q, good, new))

      module _ (old : holds p f page x.number ≡ true) where
        removal : removal_filed p (closed_record g) f pool x ≡ allowed p g f (cleared pool) page x.owner x.number (remove_to p g f (cleared pool) page x.number place (removal_end (hash_of p g) p.pages f ((hash_of p g).home x.number)))
        removal =
            removal_removed p (closed_record g) f pool x (admitted n) good old
            ∙ (unfold remove_under remove_of remove_on valid_steps in rw (all-lent, n, good, old))

        position : valid_position (reported_position x) ≡ true → position_filed p (closed_record g) f pool x ≡ change_on p g f pool page x.owner x.number (packed (reported_position x))
        position q = position-changed p (closed_record g) f pool x (admitted n) q good old ∙ (unfold change_under change_of valid_steps in rw (file-lent, n, q))

        -- 13
        pub stranger : is_removal x || valid_position (reported_position x) ≡ true → may_alter_lem x.owner (owner_for p f page x.number) ≡ false
            → Stores filed (refused_at 13 0 place) f
        stranger q may = by_kind (λ e. stores _ _ g _ (cleared pool) refused-removal) (λ e. stores _ _ g _ pool (refused-change (placed-well x q e)))
          where
            refused-removal : removal_filed p (closed_record g) f pool x ≡ unchanged g f (cleared pool) (refused_at 13 0 place)
            refused-removal = removal ∙ (unfold allowed in rw may)

            refused-change : valid_position (reported_position x) ≡ true → position_filed p (closed_record g) f pool x ≡ unchanged g f pool (refused_at 13 0 place)
            refused-change v = position v ∙ (unfold change_on allowed in rw (good, old, may))

        pub removes : is_removal x ≡ true → may_alter_lem x.owner (owner_for p f page x.number) ≡ true
            → filed ≡ remove_to p g f (cleared pool) page x.number place (removal_end (hash_of p g) p.pages f ((hash_of p g).home x.number))
        removes e may = as-removal e ∙ removal ∙ (unfold allowed in rw may)

        pub changes : is_removal x ≡ false → valid_position (reported_position x) ≡ true → may_alter_lem x.owner (owner_for p f page x.number) ≡ true
            → filed
            ≡ record {
              answer = accepted_at page place;
              growth = g;
              file = lent f.separators f.numbers (set f.words (item_of p f page x.number) (packed (reported_position x))) f.owners;
              pool = pool;
            }
        changes e q may = as-position e ∙ position q ∙ (unfold change_on allowed in rw (good, old, may))
