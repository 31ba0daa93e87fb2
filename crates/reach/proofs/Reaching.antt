-- Where a reach ends.
use mathlib.Core.Path.{◌≡◌, refl}
use mathlib.Core.Bool.{Bool, true, ◌&&◌, and-eq-true_iff, false≢true}
use mathlib.Core.List.{List, [], ◌∷◌}
use mathlib.Core.Logic.{inl, inr}
use Prim.Native.Nat.{ℕ, suc, ◌+◌, ◌-◌, ◌≤◌, ◌<◌}
use native.Mathlib.Decide.{dec_lt}
use native.Mathlib.Omega.{arith}
use lib.ListN.{get_or}
use borrow.Author.Tests.{eqb-true}
use Rattle.placement.specs.Rule.{Star, Hash}
use Rattle.placement.specs.File.{File}
use Rattle.placement.proofs.Entry.{Ends}
use Rattle.reach.specs.Reach.{first_such, is_empty, stored_top, removal_end, enters_within, entry_end}
use Rattle.reach.proofs.Search.{Such, such}

pub is-empty : (l : List Star) → is_empty l ≡ true → l ≡ []
is-empty [] e = refl
is-empty (s ∷ l) e = absurd (false≢true e)

-- The pages a to `to` of M: they end at a stored top or at the last page.
pub record Reach (H : Hash) (M : ℕ) (f : File) (a to : ℕ) : Type 0 where
  pub low : a ≤ to
  pub high : a + suc (to - a) ≤ M
  pub ends : Ends H M f a (to - a)

-- A search upward from a that stops at stored tops alone, or at the last page.
pub reach : (H : Hash) (M : ℕ) (f : File) (a : ℕ) (test : ℕ → Bool) → ((q : ℕ) → test q ≡ true → get_or f.separators q 0 ≡ H.top) → a < M
    → Reach H M f a (first_such test a (M - 1 - a))
reach H M f a test tops h =
    record { low = found.low; high = omega (arith, found.low, found.high); ends = go (dec_lt to (a + (M - 1 - a))) }
  where
    to : ℕ
    to = first_such test a (M - 1 - a)

    found : Such test a (M - 1 - a) to
    found = such test a (M - 1 - a)

    go : Dec (to < a + (M - 1 - a)) → Ends H M f a (to - a)
    go (yes d) =
        let e : a + (to - a) ≡ to = omega (arith, found.low) in
        inl (rw e (tops to (found.passes d)))
    go (no d) = inr (omega (arith, found.low, found.high))

pub removal_reach_lem : (H : Hash) (M : ℕ) (f : File) (a : ℕ) → a < M → Reach H M f a (removal_end H M f a)
unfolding removal_end
removal_reach_lem H M f a h = reach H M f a (stored_top f.separators H.top) (λ q e. eqb-true (get_or f.separators q 0) H.top e) h

pub entry-reach : (H : Hash) (M : ℕ) (f : File) (s : Star) → H.home s.number < M → Reach H M f (H.home s.number) (entry_end H M f s)
unfolding entry_end
entry-reach H M f s h =
    reach H M f (H.home s.number) (λ (q : ℕ). stored_top f.separators H.top q && enters_within H f s q)
    (λ q e. eqb-true (get_or f.separators q 0) H.top ((and-eq-true_iff (stored_top f.separators H.top q) (enters_within H f s q)).0 e).0)
    h
