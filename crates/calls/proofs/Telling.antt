-- The place that an entry tells is the one found before the call: document 02 (ii).
use mathlib.Core.Path.{◌≡◌, refl}
use mathlib.Core.Bool.{Bool, true, false, cond}
use Prim.Native.Nat.{ℕ, ◌+◌}
use lib.Dec.{ltb}
use Rattle.placement.specs.Hash.{hash_of}
use Rattle.hashing.specs.declared.Parameters.{Parameters}
use Rattle.hashing.specs.declared.Growth.{Growth}
use Rattle.placement.specs.Rule.{Star, pages}
use Rattle.placement.specs.File.{File, replaced}
use Rattle.reach.specs.Reach.{pages_to, entering, enters_within, first_unsound_lem, holding}
use Rattle.calls.specs.Answers.{Pool, spotted, accepted_at, refused_at}
use Rattle.calls.specs.Calls.{unchanged, enter_to}

module _ (p : Parameters) (g : Growth) (f : File) (pool : Pool) (s : Star) (place to : ℕ) where
  cases : (t u : Bool) (bad page : ℕ) (next : File)
      → (cond t
      (unchanged g f pool (refused_at 5 bad place))
      (cond u (record { answer = accepted_at page place; growth = g; file = next; pool = pool }) (unchanged g f pool (refused_at 8 0 place)))).answer.place
      ≡ place
  unfolding spotted
  cases true u bad page next = refl
  cases false true bad page next = refl
  cases false false bad page next = refl

  -- refused with 5 or 8, or accepted
  pub entry_place : (enter_to p g f pool s place to).answer.place ≡ place
  unfolding enter_to
  entry_place =
      let from = (hash_of p g).home s.number in
      let n = pages_to from to in
      let cs = pages (hash_of p g) from n (entering (hash_of p g) f s to) in
      cases (ltb (first_unsound_lem p g f from n) (from + n)) (enters_within (hash_of p g) f s to) (first_unsound_lem p g f from n)
      (holding s.number from cs) (replaced p.places f from cs)
