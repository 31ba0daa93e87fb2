-- The kinds of a lent history, tested one by one, and lengths that agree.
use mathlib.Core.Path.{◌≡◌, refl, sym}
use mathlib.Core.Bool.{Bool, true, false}
use Rattle.std.specs.Prelude.{IsTrue, EachIndex, ◌↔◌, slice_index}
use mathlib.Core.List.{List, [], ◌∷◌}
use Prim.Native.Nat.{ℕ, zero, suc, ◌<◌}
use native.Mathlib.Omega.{arith}
use lib.Dec.{eqb, ltb}
use lib.ListN.{length, get_or}
use borrow.Author.Tests.{lt-ltb, ltb-true, eqb-true}
use Rattle.hashing.proofs.Bounds.{both}
use Rattle.history_replay.specs.Replay.{LentHistory, all_kinds, even_lengths}
use Rattle.history_replay.specs.Steps.{Even}

each-known : (kinds : List ℕ) → all_kinds kinds ≡ true → (i : ℕ) → i < length kinds → get_or kinds i 0 < 9
unfolding all_kinds
each-known [] e i h = absurd (omega arith)
each-known (kind ∷ kinds) e zero h = ltb-true kind 9 (both (ltb kind 9) _ e).0
each-known (kind ∷ kinds) e (suc i) h = each-known kinds (both (ltb kind 9) _ e).1 i (omega arith)

known-each : (kinds : List ℕ) → ((i : ℕ) → i < length kinds → get_or kinds i 0 < 9) → all_kinds kinds ≡ true
unfolding all_kinds
known-each [] h = refl
known-each (kind ∷ kinds) h = rw (lt-ltb kind 9 (h 0 (omega arith))) (known-each kinds (λ i l. h (suc i) (omega arith)))

pub all-known : (b : Bool) (kinds : List ℕ) → (IsTrue b ↔ EachIndex kinds (λ k. slice_index kinds k < 9)) → b ≡ all_kinds kinds
all-known true kinds h = sym (known-each kinds (h.0 refl))
all-known false kinds h = go (all_kinds kinds) refl
  where
    go : (t : Bool) → all_kinds kinds ≡ t → false ≡ t
    go true e = h.1 (each-known kinds e)
    go false e = refl

pub even : (h : LentHistory) (answers : List ℕ)
    → even_lengths (length h.kinds) (length h.callers) (length h.stars) (length h.ras) (length h.decs) (length answers) ≡ true → Even h answers
even h answers e =
    let d = both (eqb (length h.callers) (length h.kinds)) _ e in
    let a = both (eqb (length h.stars) (length h.kinds)) _ d.1 in
    let b = both (eqb (length h.ras) (length h.kinds)) _ a.1 in
    let c = both (eqb (length h.decs) (length h.kinds)) _ b.1 in
    record {
      callers = eqb-true _ _ d.0;
      stars = eqb-true _ _ a.0;
      ras = eqb-true _ _ b.0;
      decs = eqb-true _ _ c.0;
      eight = eqb-true _ _ c.1;
    }
