-- "changing or removing held stars and entering the rest": which call a report is tried as, and what lies below its guards.
use mathlib.Core.Path.{◌≡◌, refl}
use mathlib.Core.Bool.{Bool, true, false, cond, ◌&&◌}
use Prim.Native.Nat.{ℕ, ◌+◌}
use lib.Dec.{eqb, ltb}
use Rattle.hashing.specs.declared.Parameters.{Parameters}
use Rattle.hashing.specs.declared.Growth.{Growth}
use Rattle.hashing.specs.Limits.{valid_parameters, valid_growth}
use Rattle.pages.specs.Position.{valid_number, valid_position}
use Rattle.placement.specs.Rule.{pages, without}
use Rattle.placement.specs.File.{File, gathered, replaced}
use Rattle.placement.specs.Hash.{hash_of}
use Rattle.reach.specs.Reach.{pages_to, removal_end, first_unsound_lem}
use Rattle.calls.specs.declared.records.GrowthRecord.{GrowthRecord}
use Rattle.calls.specs.Answers.{Pool, After, cleared, accepted, accepted_at, refused, refused_at, spotted}
use Rattle.calls.specs.Calls.{file_fits_lem, pool_fits_lem, unchanged, readable, named, holds, place_for, owner_for, may_alter_lem, allowed, change_on, change_of, remove_to, remove_on, remove_of}
use Rattle.calls.specs.Records.{valid_steps, enter_under, change_under, remove_under}
use Rattle.calls.proofs.Refusals.{well-lent}
use Rattle.reports.specs.Reports.{Report, reported_position}
use Rattle.reports.specs.Filing.{removal_filed, position_filed}

-- what a filing past its own refusals has, and a report whose number is valid
pub record Admitted (p : Parameters) (r : GrowthRecord) (f : File) (pool : Pool) (k : ℕ) : Type 0 where
  pub steps : valid_steps p r ≡ true
  pub closed : r.growing ≡ false
  pub state : valid_parameters p && valid_growth p r.state ≡ true
  pub file : file_fits_lem p f ≡ true
  pub pooled : file_fits_lem p f && pool_fits_lem p pool ≡ true
  pub number : valid_number k ≡ true

either-not : (y : Bool) (a b : After) → eqb a.answer.refusal 7 ≡ false → eqb b.answer.refusal 7 ≡ false → eqb (cond y a b).answer.refusal 7 ≡ false
either-not true a b h k = h
either-not false a b h k = k

-- past 7 and 13 a removal is refused with 5 or accepted
removing_not_7 : (p : Parameters) (g : Growth) (f : File) (pool : Pool) (page k place to : ℕ) → eqb (remove_to p g f pool page k place to).answer.refusal 7 ≡ false
unfolding remove_to spotted
removing_not_7 p g f pool page k place to =
    let from : ℕ = (hash_of p g).home k in
    let n : ℕ = pages_to from to in
    either-not (ltb (first_unsound_lem p g f from n) (from + n))
    (unchanged g f pool (refused_at 5 (first_unsound_lem p g f from n) place))
    (record {
      answer = accepted_at page place;
      growth = g;
      file = replaced p.places f from (pages (hash_of p g) from n (without k (gathered p.places f from n)));
      pool = pool;
    })
    refl refl

module _ (p : Parameters) (r : GrowthRecord) (f : File) (pool : Pool) (x : Report) (t : Admitted p r f pool x.number) where
  -- a damaged page
  pub position-damaged : valid_position (reported_position x) ≡ true → readable p r.state f (named p r.state f x.number) ≡ false
      → position_filed p r f pool x ≡ unchanged r.state f pool (refused 5 (named p r.state f x.number))
  unfolding position_filed change_under change_of change_on spotted
  position-damaged valid bad =
      rw (t.steps, t.closed, well-lent p r.state (file_fits_lem p f) t.state t.file, t.number, valid, bad)

  -- a star not held
  pub position-entered : valid_position (reported_position x) ≡ true → readable p r.state f (named p r.state f x.number) ≡ true
      → holds p f (named p r.state f x.number) x.number ≡ false
      → position_filed p r f pool x ≡ enter_under p r f pool x.owner x.number (reported_position x)
  unfolding position_filed change_under change_of change_on spotted
  position-entered valid good new =
      rw (t.steps, t.closed, well-lent p r.state (file_fits_lem p f) t.state t.file, t.number, valid, good, new)

  pub removal_damaged : readable p r.state f (named p r.state f x.number) ≡ false
      → removal_filed p r f pool x ≡ unchanged r.state f (cleared pool) (refused 5 (named p r.state f x.number))
  unfolding removal_filed remove_under remove_of remove_on spotted
  removal_damaged bad =
      rw (t.steps, t.closed, well-lent p r.state (file_fits_lem p f && pool_fits_lem p pool) t.state t.pooled, t.number, bad)

  -- "does nothing and counts as filed"
  pub removal_nothing : readable p r.state f (named p r.state f x.number) ≡ true
      → holds p f (named p r.state f x.number) x.number ≡ false
      → removal_filed p r f pool x ≡ unchanged r.state f pool (accepted 0)
  unfolding removal_filed remove_under remove_of remove_on spotted
  removal_nothing good new =
      rw (t.steps, t.closed, well-lent p r.state (file_fits_lem p f && pool_fits_lem p pool) t.state t.pooled, t.number, good, new)

  -- a held star: a change, allowed or 13
  pub position-changed : valid_position (reported_position x) ≡ true → readable p r.state f (named p r.state f x.number) ≡ true
      → holds p f (named p r.state f x.number) x.number ≡ true
      → position_filed p r f pool x ≡ change_under p r f pool x.owner x.number (reported_position x)
  unfolding position_filed change_under change_of change_on allowed spotted
  position-changed valid good old =
      go (may_alter_lem x.owner (owner_for p f (named p r.state f x.number) x.number)) refl
    where
      go : (y : Bool) → may_alter_lem x.owner (owner_for p f (named p r.state f x.number) x.number) ≡ y
          → position_filed p r f pool x ≡ change_under p r f pool x.owner x.number (reported_position x)
      go true e = rw (t.steps, t.closed, well-lent p r.state (file_fits_lem p f) t.state t.file, t.number, valid, good, old, e)
      go false e = rw (t.steps, t.closed, well-lent p r.state (file_fits_lem p f) t.state t.file, t.number, valid, good, old, e)

  -- .. and a removal
  pub removal_removed : readable p r.state f (named p r.state f x.number) ≡ true
      → holds p f (named p r.state f x.number) x.number ≡ true
      → removal_filed p r f pool x ≡ remove_under p r f pool x.owner x.number
  unfolding removal_filed remove_under remove_of remove_on allowed spotted
  removal_removed good old =
      go (may_alter_lem x.owner (owner_for p f (named p r.state f x.number) x.number)) refl
    where
      go : (y : Bool) → may_alter_lem x.owner (owner_for p f (named p r.state f x.number) x.number) ≡ y
          → removal_filed p r f pool x ≡ remove_under p r f pool x.owner x.number
      go true e =
          rw (
            t.steps,
            t.closed,
            well-lent p r.state (file_fits_lem p f && pool_fits_lem p pool) t.state t.pooled,
            t.number,
            good,
            old,
            e,
            removing_not_7 p r.state f (cleared pool) (named p r.state f x.number) x.number (place_for p f (named p r.state f x.number) x.number)
                (removal_end (hash_of p r.state) p.pages f ((hash_of p r.state).home x.number)),
          )
      go false e =
          rw (t.steps, t.closed, well-lent p r.state (file_fits_lem p f && pool_fits_lem p pool) t.state t.pooled, t.number, good, old, e)
