-- Loops that fill a list from its front with one value.
use mathlib.Core.Path.{◌≡◌, refl, sym, ap, ◌∙◌}
use mathlib.Core.List.{List, [], ◌∷◌, ◌++◌, append-nil, append_assoc}
use Prim.Native.Nat.{ℕ, zero, suc, min, ◌+◌, ◌-◌, ◌≤◌, ◌<◌}
use native.Mathlib.Nat.{le_antisymm, not-suc-le-zero}
use native.Mathlib.Numerals.{add-one}
use native.Mathlib.Omega.{arith}
use lib.ListN.{length, replicate, set, take, drop, length-set, length-append, length-drop, length-replicate, replicate-append-replicate}
use lib.Seq.{take_at, drop_at, drop-drop, drop-length, length-take-le}

-- the first i items are v; the length is kept
pub record Filled {A : Type 0} (d : List A) (v : A) (e : List A) (i : ℕ) : Type 0 where
  pub is : e ≡ replicate i v ++ drop i d
  pub kept : length e ≡ length d

pub unfilled : {A : Type 0} (d : List A) (v : A) → Filled d v d 0
unfilled d v = record { is = refl; kept = refl }

next_filled : {A : Type 0} (n : ℕ) (v : A) (d : List A) → n < length d → set (replicate n v ++ drop n d) n v ≡ replicate (suc n) v ++ drop (suc n) d
next_filled n v [] h = absurd (not-suc-le-zero h)
next_filled zero v (x ∷ d) h = refl
next_filled {A} (suc n) v (x ∷ d) h = ap (λ (l : List A). v ∷ l) (next_filled n v d (omega arith))

pub filled_next : {A : Type 0} {d e : List A} {v : A} {i : ℕ} → i < length d → Filled d v e i → Filled d v (set e i v) (i + 1)
filled_next {A} {d} {e} {v} {i} h c =
    record { is = ap (λ (l : List A). set l i v) c.is ∙ rw (add-one i) (next_filled i v d h); kept = length-set e i v ∙ c.kept }

pub filled : {A : Type 0} {d e : List A} {v : A} {i : ℕ} → i ≤ length d → length d ≤ i → Filled d v e i → e ≡ replicate (length d) v
filled {A} {d} {e} {v} {i} a b c =
    let same : i ≡ length d = le_antisymm a b in
    c.is ∙ rw (same, drop-length d, append-nil {A = A} (replicate (length d) v))

-- the next n items filled as a part, as a lent part comes back
pub filled-part : {A : Type 0} {d e : List A} {v : A} {i : ℕ} (n : ℕ) → i + n ≤ length d → Filled d v e i → Filled d v (take i e ++ (replicate n v ++ drop n (drop i e))) (i + n)
filled-part {A} {d} {e} {v} {i} n h c = record { is = is; kept = kept }
  where
    front : take i e ≡ replicate i v
    front = ap (take i) c.is ∙ take_at (replicate i v) (drop i d) i (length-replicate i v)

    rest : drop n (drop i e) ≡ drop (i + n) d
    rest = ap (λ (l : List A). drop n (drop i l)) c.is ∙ ap (drop n) (drop_at (replicate i v) (drop i d) i (length-replicate i v)) ∙ drop-drop n i d

    is : take i e ++ (replicate n v ++ drop n (drop i e)) ≡ replicate (i + n) v ++ drop (i + n) d
    is =
        rw (front, rest)
        (sym (append_assoc (replicate i v) (replicate n v) (drop (i + n) d))
        ∙ ap (λ (l : List A). l ++ drop (i + n) d) (replicate-append-replicate i n v))

    kept : length (take i e ++ (replicate n v ++ drop n (drop i e))) ≡ length d
    kept =
        ap (λ (l : List A). length l) is
        ∙ length-append (replicate (i + n) v) (drop (i + n) d)
        ∙ omega (arith, length-replicate (i + n) v, length-drop (i + n) d)

-- a part from i up to the item before `end`, of which only the length was known
pub filled-to : {A : Type 0} {d e ys : List A} {v : A} {i : ℕ} (end : ℕ) → i ≤ end → end ≤ length d → ys ≡ replicate (length (take (end - i) (drop i e))) v
    → Filled d v e i → Filled d v (take i e ++ (ys ++ drop (end - i) (drop i e))) end
filled-to {A} {d} {e} {ys} {v} {i} end a b s c =
    let size : length (take (end - i) (drop i e)) ≡ end - i = length-take-le (end - i) (drop i e) (omega (arith, length-drop i e, c.kept)) in
    let sum : i + (end - i) ≡ end = omega arith in
    rw (s, size) (rw sum at (filled-part {v = v} (end - i) (omega arith) c))

-- the block from `at` on, of up to m items, where the last one may end before the count
pub filled-block : {A : Type 0} {d e ys : List A} {v : A} (at n m : ℕ) → at < length d → n ≡ min m (length d - at) → ys ≡ replicate (length (take (at + n - at) (drop at e))) v
    → Filled d v e (min at (length d)) → Filled d v (take at e ++ (ys ++ drop (at + n - at) (drop at e))) (min (at + m) (length d))
filled-block {A} {d} {e} {ys} {v} at n m h count s c =
    let from : min at (length d) ≡ at = omega arith in
    let to : at + n ≡ min (at + m) (length d) = omega arith in
    rw (sym to) (filled-to {v = v} (at + n) (omega arith) (omega arith) s (rw from at c))
