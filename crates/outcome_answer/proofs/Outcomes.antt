-- The answers and files of entry, removal and growth are those of the calls' definitions, and their pages are small.
use mathlib.Core.Path.{◌≡◌, refl}
use mathlib.Core.Bool.{Bool, true, false, not, cond}
use mathlib.Core.List.{List, [], ◌∷◌}
use Prim.Native.Nat.{ℕ, suc, ◌+◌, ◌-◌, ◌^◌, ◌≤◌, ◌<◌}
use native.Mathlib.Nat.{add-suc, suc-add}
use native.Mathlib.Omega.{arith}
use lib.ListN.{length}
use Rattle.hashing.specs.declared.Parameters.{Parameters}
use Rattle.hashing.specs.declared.Growth.{Growth}
use Rattle.placement.specs.Rule.{Contents}
use Rattle.placement.specs.File.{File}
use Rattle.placement.specs.Hash.{hash_of, sound_at}
use Rattle.reach.specs.Reach.{first_such, stored_top, pages_to, removal_end, first_unsound_lem, has_number, holding}
use Rattle.reach.proofs.Search.{such}
use Rattle.page_plan.specs.declared.outcome.Outcome.TheVariants.{On, Unsound, Overflows}
use Rattle.calls.specs.Answers.{Pool, placed, refused_by, accepted, refused, accepted_at, refused_at}
use Rattle.calls.specs.Calls.{unchanged}
use Rattle.outcome_answer.specs.Outcomes.{OutcomeSmall, outcome_placed, outcome_grown}

pub holding-most : (k from : ℕ) (cs : List Contents) → holding k from cs ≤ from + length cs
unfolding holding
holding-most k from [] = omega arith
holding-most k from (c ∷ cs) = go (has_number k c.stars) (holding-most k (suc from) cs)
  where
    go : (t : Bool) → holding k (suc from) cs ≤ suc from + length cs → cond t from (holding k (suc from) cs) ≤ from + suc (length cs)
    go true h = omega arith
    go false h = omega (arith, add-suc from (length cs), suc-add from (length cs))

-- a stretch from a page of the file that ends by a search ends within the file
pub stretch-most : (test : ℕ → Bool) (from m : ℕ) → from < m → from + pages_to from (first_such test from (m - 1 - from)) ≤ m
stretch-most test from m h =
    let s = such test from (m - 1 - from) in
    omega (arith, s.low, s.high, add-suc from (first_such test from (m - 1 - from) - from))

pub unsound-most : (p : Parameters) (g : Growth) (f : File) (from n : ℕ) → first_unsound_lem p g f from n ≤ from + n
unfolding first_unsound_lem
unsound-most p g f from n = (such (λ (q : ℕ). not (sound_at p g f q)) from n).high

pub removal_most : (p : Parameters) (g : Growth) (f : File) (from : ℕ) → from < p.pages → from + pages_to from (removal_end (hash_of p g) p.pages f from) ≤ p.pages
unfolding removal_end
removal_most p g f from h = stretch-most (stored_top f.separators (hash_of p g).top) from p.pages h

pub cases_small : (t u : Bool) (bad page : ℕ) → bad < 2 ^ 32 → page < 2 ^ 32 → OutcomeSmall (cond t (Unsound bad) (cond u (On page) Overflows))
cases_small true u bad page b h = b
cases_small false true bad page b h = h
cases_small false false bad page b h = tt

-- the three ways of placing pages anew: a page is unsound, a star is carried past the last page, or none
module _ (g : Growth) (f : File) (pool : Pool) where
  pub outcome-cases : (t u : Bool) (bad page place : ℕ) (next : File)
      → (placed (outcome_placed (cond t (Unsound bad) (cond u (On page) Overflows)) place)
      ≡ (cond t (unchanged g f pool (refused_at 5 bad place)) (cond u (record { answer = accepted_at page place; growth = g; file = next; pool = pool }) (unchanged g f pool (refused_at 8 0 place)))).answer)
      × (cond t f (cond u next f)
      ≡ (cond t (unchanged g f pool (refused_at 5 bad place)) (cond u (record { answer = accepted_at page place; growth = g; file = next; pool = pool }) (unchanged g f pool (refused_at 8 0 place)))).file)
  unfolding placed refused_by
  outcome-cases true u bad page place next = (refl, refl)
  outcome-cases false true bad page place next = (refl, refl)
  outcome-cases false false bad page place next = (refl, refl)

  -- .. and the growth state that is left
  pub grown-cases : (t u : Bool) (bad page : ℕ) (next : Growth) (to : File)
      → (placed (outcome_grown (cond t (Unsound bad) (cond u (On page) Overflows)) g next).answer
      ≡ (cond t (unchanged g f pool (refused 5 bad)) (cond u (record { answer = accepted page; growth = next; file = to; pool = pool }) (unchanged g f pool (refused 8 0)))).answer)
      × (cond t f (cond u to f)
      ≡ (cond t (unchanged g f pool (refused 5 bad)) (cond u (record { answer = accepted page; growth = next; file = to; pool = pool }) (unchanged g f pool (refused 8 0)))).file)
      × ((outcome_grown (cond t (Unsound bad) (cond u (On page) Overflows)) g next).growth
      ≡ (cond t (unchanged g f pool (refused 5 bad)) (cond u (record { answer = accepted page; growth = next; file = to; pool = pool }) (unchanged g f pool (refused 8 0)))).growth)
  unfolding placed refused_by
  grown-cases true u bad page next to = (refl, refl, refl)
  grown-cases false true bad page next to = (refl, refl, refl)
  grown-cases false false bad page next to = (refl, refl, refl)
