-- The pool after a removal, and a star that is held.
use mathlib.Core.Path.{◌≡◌, refl}
use mathlib.Core.Bool.{Bool, true, false, cond}
use Prim.Native.Nat.{ℕ, ◌+◌}
use lib.Dec.{ltb}
use Rattle.placement.specs.Hash.{hash_of}
use Rattle.hashing.specs.declared.Parameters.{Parameters}
use Rattle.hashing.specs.declared.Growth.{Growth}
use Rattle.placement.specs.File.{File}
use Rattle.removal_reach.specs.Removal.{Held}
use Rattle.call_guard.proofs.Admitting.{readable-facts}
use Rattle.reach.specs.Reach.{pages_to, removal_end, first_unsound_lem}
use Rattle.calls.specs.Answers.{After, Pool}
use Rattle.calls.specs.Calls.{named, readable, holds, owner_for, may_alter_lem, allowed, remove_on, remove_to}
use Rattle.outcome_answer.proofs.Pools.{named-pool}

pub held-star : (p : Parameters) (g : Growth) (f : File) (k : ℕ) → readable p g f (named p g f k) ≡ true → holds p f (named p g f k) k ≡ true → Held p g f k
unfolding holds
held-star p g f k e h = record { sound = (readable-facts p g f (named p g f k) e).1; present = h }

module _ (p : Parameters) (g : Growth) (f : File) (pool : Pool) where
  removed-pool : (t : Bool) (a b : After) → a.pool ≡ pool → b.pool ≡ pool → (cond t a b).pool ≡ pool
  removed-pool true a b ea eb = ea
  removed-pool false a b ea eb = eb

  pub remove_pool : (page caller k : ℕ) → (remove_on p g f pool page caller k).pool ≡ pool
  unfolding remove_on remove_to allowed
  remove_pool page caller k =
      let H = hash_of p g in
      let from = H.home k in
      let to = removal_end H p.pages f from in
      named-pool (readable p g f page) (holds p f page k) _ _ _ pool
      (removed-pool (may_alter_lem caller (owner_for p f page k)) _ _
      (removed-pool (ltb (first_unsound_lem p g f from (pages_to from to)) (from + pages_to from to)) _ _ refl refl)
      refl)
      refl
      refl
