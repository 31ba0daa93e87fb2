-- The pool after an entry, and a star that is not held.
use mathlib.Core.Path.{◌≡◌, refl}
use mathlib.Core.Bool.{Bool, true, false}
use Prim.Native.Nat.{ℕ, ◌+◌}
use lib.Dec.{ltb}
use Rattle.placement.specs.Hash.{hash_of}
use Rattle.hashing.specs.declared.Parameters.{Parameters}
use Rattle.hashing.specs.declared.Growth.{Growth}
use Rattle.pages.specs.declared.position.Position.{Position}
use Rattle.placement.specs.Rule.{Star}
use Rattle.placement.specs.File.{File}
use Rattle.entry_reach.specs.Entry.{Unheld}
use Rattle.call_guard.proofs.Admitting.{readable-facts}
use Rattle.entry_cascade.specs.Cascade.{overflow, stop_of, cascade_unsound}
use Rattle.reach.specs.Reach.{pages_to, entry_end, enters_within, first_unsound_lem, is_empty}
use Rattle.calls.specs.declared.answers.Answer.{Answer}
use Rattle.calls.specs.Answers.{Pool, After, Leaves, cleared}
use Rattle.calls.specs.Shape.{Stores}
use Rattle.calls.specs.Calls.{guarded, named, readable, holds, place_for, entry_refusal, entered, enter_of, enter_on, enter_to, cascade_of, cascade_on, cascade_from}
use Rattle.call_enter.specs.Entries.{entry_from, entry_on, entered_by, unless_cascading}
use Rattle.outcome_answer.proofs.Stopped.{unmoved-leaves, unmoved-stores}
use Rattle.outcome_answer.proofs.Pools.{cases_pool, named-pool}

pub unheld : (p : Parameters) (g : Growth) (f : File) (k : ℕ) → readable p g f (named p g f k) ≡ true → holds p f (named p g f k) k ≡ false → Unheld p g f k
unfolding holds
unheld p g f k e h =
    let t = readable-facts p g f (named p g f k) e in
    record { named = t.0; sound = t.1; absent = h }

module _ (p : Parameters) (g : Growth) (f : File) (pool : Pool) where
  pub entry-pool : (cascading : Bool) (page : ℕ) (s : Star) → (entry_on cascading p g f pool page s).pool ≡ pool
  entry-pool cascading page s =
      named-pool (readable p g f page) (holds p f page s.number) _ _ _ pool refl (either cascading) refl
    where
      pushed : (cascade_from p g f pool s (place_for p f page s.number) page).pool ≡ pool
      pushed =
          unfold cascade_from in
          cases_pool (ltb (cascade_unsound p g f s page) (stop_of p g f s page)) (is_empty (overflow p g f s page)) _ _ _ pool refl refl refl

      reached : (enter_to p g f pool s (place_for p f page s.number) (entry_end (hash_of p g) p.pages f s)).pool ≡ pool
      reached =
          let H = hash_of p g in
          let from = H.home s.number in
          let to = entry_end H p.pages f s in
          unfold enter_to in
          cases_pool (ltb (first_unsound_lem p g f from (pages_to from to)) (from + pages_to from to)) (enters_within H f s to) _ _ _ pool refl refl refl

      either : (t : Bool) → (entry_from t p g f pool page s).pool ≡ pool
      either true = pushed
      either false = reached

  -- both ways of an entry meet refusals 1 to 4
  pub entry-way : (cascading : Bool) (caller k : ℕ) (position : Position)
      → entered_by cascading p g f pool caller k position ≡ guarded g f pool (entry_refusal p g f pool k position) (entry_on cascading p g f (cleared pool) (named p g f k) (entered caller k position))
  unfolding cascade_of cascade_on enter_of enter_on
  entry-way true caller k position = refl
  entry-way false caller k position = refl

-- the stopped form of an entry that leaves the file is the entry
pub kept_leaves : (cascading : Bool) (p : Parameters) (n : ℕ) {after : After} {answer : Answer} {f : File} {pool : Pool} → Leaves after answer f pool → Leaves (unless_cascading cascading p f n after) answer f pool
kept_leaves true p n L = L
kept_leaves false p n L = unmoved-leaves false p n L

pub kept-stores : (cascading : Bool) (p : Parameters) (n : ℕ) {after : After} {answer : Answer} {f : File} → Stores after answer f → Stores (unless_cascading cascading p f n after) answer f
kept-stores true p n L = L
kept-stores false p n L = unmoved-stores false p n L

pub stopped-pool : (cascading : Bool) (p : Parameters) (f : File) (n : ℕ) (after : After) → (unless_cascading cascading p f n after).pool ≡ after.pool
stopped-pool true p f n after = refl
stopped-pool false p f n after = refl
