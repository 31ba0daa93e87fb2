-- What the planned cascade answers, and the lists that applying it leaves.
use mathlib.Core.Path.{◌≡◌, refl, sym, ap, ◌∙◌}
use mathlib.Core.Bool.{true}
use mathlib.Core.List.{List, [], ◌∷◌}
use Prim.Native.Nat.{ℕ, ◌-◌, ◌≤◌}
use native.Mathlib.Omega.{arith}
use lib.ListN.{length}
use borrow.Author.Tests.{le-ltb, lt-ltb, eq-eqb}
use Rattle.hashing.specs.declared.Parameters.{Parameters}
use Rattle.hashing.specs.declared.Growth.{Growth}
use Rattle.placement.specs.Rule.{Star, separators}
use Rattle.placement.specs.File.{File, replaced}
use Rattle.placement.specs.Hash.{named_page_lem, hash_of}
use Rattle.placement.proofs.Standing.{length-separators}
use Rattle.reach.specs.Reach.{has_number, holding}
use Rattle.page_plan.specs.declared.outcome.Outcome.TheVariants.{On, Unsound, Overflows}
use Rattle.entry_reach.specs.Entry.{new_star_lem}
use Rattle.entry_cascade.specs.Cascade.{visited, stop_of, cascade_answer, cascade_file, Stopped, Spilled, CascadeKept}
use Rattle.entry_cascade.proofs.Naming.{held_first, first-written}

module _ (p : Parameters) (g : Growth) (f : File) (s : Star) (page : ℕ) where
  pub stopped-answer : (q : ℕ) → Stopped p g f s page q → (Unsound q ≡ cascade_answer p g f s page) × (f ≡ cascade_file p g f s page)
  unfolding cascade_answer cascade_file
  stopped-answer q S = rw (← S.is, lt-ltb q (stop_of p g f s page) S.inside) (refl, refl)

  pub spilled_answer : Spilled p g f s page → (Overflows ≡ cascade_answer p g f s page) × (f ≡ cascade_file p g f s page)
  unfolding cascade_answer cascade_file
  spilled_answer S = rw (S.sound, le-ltb (stop_of p g f s page) (stop_of p g f s page) (omega arith), S.over) (refl, refl)

module _ (p : Parameters) (g : Growth) (f : File) (k word owner page : ℕ) (pool planned : List ℕ) (last : ℕ) (K : CascadeKept p g f k word owner page pool planned last) where
  abbrev new : Star
  new = new_star_lem k word owner

  pub kept-answer : (q : ℕ) → q ≡ holding k page (visited p g f new page) → On q ≡ cascade_answer p g f new page
  unfolding cascade_answer
  kept-answer q e = rw (K.sound, le-ltb (stop_of p g f new page) (stop_of p g f new page) (omega arith), K.none) (ap On e)

  pub kept-file : replaced p.places f page (visited p g f new page) ≡ cascade_file p g f new page
  unfolding cascade_file
  kept-file = rw (K.sound, le-ltb (stop_of p g f new page) (stop_of p g f new page) (omega arith), K.none)

  here-first : has_number k (new ∷ []) ≡ true
  unfolding has_number
  here-first = rw (eq-eqb k k refl)

  -- the page that the new separators name
  pub named-holds : page ≡ named_page_lem p g f.separators k → page ≤ length f.separators
      → named_page_lem p g (replaced p.places f page (visited p g f new page)).separators k ≡ holding k page (visited p g f new page)
  unfolding named_page_lem replaced
  named-holds here h =
      let r = held_first (hash_of p g) f k page (p.pages - page) (new ∷ []) here-first K.none in
      first-written (hash_of p g) page k (separators (visited p g f new page)) f.separators h (omega (arith, here))
      (omega (arith, r.1, length-separators (visited p g f new page)))
      ∙ sym r.0
