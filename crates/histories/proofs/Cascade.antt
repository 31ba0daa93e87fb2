-- On every clean file the cascading entry does what the present one does.
use mathlib.Core.Path.{◌≡◌, refl, ap}
use mathlib.Core.Bool.{Bool, true, false, cond, ◌&&◌}
use mathlib.Core.List.{List}
use mathlib.Core.Option.{Option, none, some}
use Prim.Native.Nat.{ℕ, zero, suc, ◌+◌}
use native.Mathlib.Nat.{le_refl}
use native.Mathlib.Omega.{arith}
use lib.ListN.{length}
use borrow.Author.Tests.{le-ltb}
use Rattle.hashing.specs.declared.Parameters.{Parameters}
use Rattle.hashing.specs.declared.Growth.{Growth}
use Rattle.pages.specs.declared.position.Position.{Position}
use Rattle.pages.specs.Position.{valid_number, valid_position, valid_word}
use Rattle.placement.proofs.Probing.{bounded-real}
use Rattle.placement.specs.Rule.{Star, Contents}
use Rattle.placement.specs.File.{File, replaced}
use Rattle.placement.specs.Hash.{hash_of, named_page_lem}
use Rattle.reach.specs.Reach.{pages_to, enters_within, entry_end, holding}
use Rattle.reach.proofs.Reaching.{Reach, entry-reach}
use Rattle.reach.proofs.Entries.{start, cascade_pages, reach_pages, AsEntry, as_entry}
use Rattle.calls.specs.Answers.{Pool, After, accepted_at, refused_at, cleared}
use Rattle.calls.specs.Calls.{file_fits_lem, pool_fits_lem, unless, or_else, unlent, guarded, unchanged, holds, entered_again_lem, enter_to, enter_on, enter_of, cascade_from, cascade_on, cascade_of}
use Rattle.histories.specs.Model.{Model, enter, cascade, updated, fed, held_position, model_file, page_for, place_on_lem}
use Rattle.histories.specs.Call.{is_accepted}
use Rattle.histories.specs.Cascade.{CascadeIsEntry}
use Rattle.histories.proofs.Stars.{star_of, no_star}
use Rattle.histories.proofs.Fitting.{Fitting, hash_for, stars_for, homed, rising-from, proper, in_range, named-readable}
use Rattle.histories.proofs.Held.{held, not_held}
use Rattle.histories.proofs.Searching.{none-unsound}
use Rattle.histories.proofs.Conforms.{Conforms}
use Rattle.histories.proofs.Enter.{enter_conforms}
use Rattle.histories.proofs.Cleaned.{Modelled, check_modelled}

-- a refusal before either is tried
refused-alike : (g : Growth) (f : File) (pool : Pool) (a n : ℕ) (x y : After) → guarded g f pool (or_else a (suc n)) x ≡ guarded g f pool (or_else a (suc n)) y
refused-alike g f pool zero n x y = refl
refused-alike g f pool (suc a) n x y = refl

module _ (p : Parameters) (m : Model) (t : Fitting p m) (caller k : ℕ) (q : Position) where
  abbrev new : Star
  new = star_of k q caller

  abbrev from : ℕ
  from = (hash_for p m).home k

  abbrev to : ℕ
  to = entry_end (hash_for p m) p.pages (model_file p m) new

  abbrev stretch : List Contents
  stretch = reach_pages (hash_for p m) p.pages (model_file p m) new

  abbrev begin : ℕ
  begin = start (hash_for p m) (model_file p m) new

  abbrev pushed : List Contents
  pushed = cascade_pages (hash_for p m) p.pages (model_file p m) new

  -- a star not held
  module _ (absent : held_position k m.entries ≡ none) where
    alike : AsEntry (hash_for p m) p.pages (model_file p m) new
    unfolding model_file hash_of
    alike =
        as_entry valid_word (hash_for p m) (bounded-real p m.growth t.parameters) p.pages (stars_for m) new
        (rising-from p m t) (proper p m t) t.fits (homed p m.growth k t.parameters t.growth) (no_star k m.entries absent)

    reached : Reach (hash_for p m) p.pages (model_file p m) from to
    reached = entry-reach (hash_for p m) p.pages (model_file p m) new (homed p m.growth k t.parameters t.growth)

    same-file : enters_within (hash_for p m) (model_file p m) new to ≡ true
        → replaced p.places (model_file p m) begin pushed ≡ replaced p.places (model_file p m) from stretch
    unfolding hash_of
    same-file e = alike.file e

    cascades : (pool : Pool) (place : ℕ) → cascade_from p m.growth (model_file p m) pool new place begin ≡ enter_to p m.growth (model_file p m) pool new place to
    unfolding cascade_from enter_to
    cascades pool place =
        rw (
          none-unsound p m t begin (length pushed) alike.inside,
          none-unsound p m t from (pages_to from to) reached.high,
          le-ltb (begin + length pushed) (begin + length pushed) (le_refl (begin + length pushed)),
          le-ltb (from + pages_to from to) (from + pages_to from to) (le_refl (from + pages_to from to)),
          alike.carries,
        )
        (go (enters_within (hash_for p m) (model_file p m) new to) refl)
      where
        taken : ℕ → File → After
        taken on f = record { answer = accepted_at on place; growth = m.growth; file = f; pool = pool }

        full : After
        full = unchanged m.growth (model_file p m) pool (refused_at 8 0 place)

        go : (b : Bool) → enters_within (hash_for p m) (model_file p m) new to ≡ b
            → cond b (taken (holding k begin pushed) (replaced p.places (model_file p m) begin pushed)) full
            ≡ cond b (taken (holding k from stretch) (replaced p.places (model_file p m) from stretch)) full
        go true e = rw (alike.page e, same-file e)
        go false e = refl

  cascades-on : valid_number k ≡ true → (pool : Pool) → cascade_on p m.growth (model_file p m) pool begin new ≡ enter_on p m.growth (model_file p m) pool begin new
  unfolding cascade_on enter_on page_for
  cascades-on valid pool = rw (named-readable p m t k) (go (held_position k m.entries) refl)
    where
      go : (o : Option Position) → held_position k m.entries ≡ o
          → cond (holds p (model_file p m) begin k)
          (unchanged m.growth (model_file p m) pool (entered_again_lem p (model_file p m) begin new))
          (cascade_from p m.growth (model_file p m) pool new (place_on_lem p m k) begin)
          ≡ cond (holds p (model_file p m) begin k)
          (unchanged m.growth (model_file p m) pool (entered_again_lem p (model_file p m) begin new))
          (enter_to p m.growth (model_file p m) pool new (place_on_lem p m k) to)
      go none e = rw (not_held p m t k (in_range k valid).0 e) (cascades e pool (place_on_lem p m k))
      go (some r) e = rw (held p m t k r e)

  pub cascade-is : (pool : Pool) → cascade_of p m.growth (model_file p m) pool caller k q ≡ enter_of p m.growth (model_file p m) pool caller k q
  unfolding cascade_of enter_of named_page_lem
  cascade-is pool = go (valid_number k) refl
    where
      earlier : ℕ
      earlier = unlent p m.growth (file_fits_lem p (model_file p m) && pool_fits_lem p pool)

      guard : Bool → After → After
      guard v = guarded m.growth (model_file p m) pool (or_else earlier (or_else (unless v 3) (unless (valid_position q) 4)))

      go : (v : Bool) → valid_number k ≡ v
          → guard v (cascade_on p m.growth (model_file p m) (cleared pool) begin new) ≡ guard v (enter_on p m.growth (model_file p m) (cleared pool) begin new)
      go true e = ap (guard true) (cascades-on e (cleared pool))
      go false e = refused-alike m.growth (model_file p m) pool earlier 2 _ _

-- The model is fed alike.
pub fed-alike : (p : Parameters) (m : Model) (caller k : ℕ) (q : Position) (accepted : Bool) → fed p (cascade caller k q) accepted m ≡ fed p (enter caller k q) accepted m
unfolding fed updated
fed-alike p m caller k q true = refl
fed-alike p m caller k q false = refl

pub cascade-conforms : (p : Parameters) (m : Model) → Fitting p m → (caller k : ℕ) (q : Position) (pool : Pool)
    → Conforms p m (cascade caller k q) (cascade_of p m.growth (model_file p m) pool caller k q)
cascade-conforms p m t caller k q pool =
    rw (cascade-is p m t caller k q pool)
    (let c = enter_conforms p m t caller k q pool in
    let same = fed-alike p m caller k q (is_accepted (enter_of p m.growth (model_file p m) pool caller k q).answer) in
    record {
      growth = rw same c.growth;
      file = rw same c.file;
      fitting = rw same c.fitting;
      undamaged = c.undamaged;
      found = λ j e. absurd (let z : ◌≡◌ {A = ℕ} 0 1 = cc in omega arith);
    })

pub cascade-is-entry : CascadeIsEntry
cascade-is-entry p g f pool clean lent caller k q = go (check_modelled p g f pool clean)
  where
    go : Modelled p g f → cascade_of p g f lent caller k q ≡ enter_of p g f lent caller k q
    go m = rw (← m.file, ← m.growth) (cascade-is p m.model m.fitting caller k q lent)
