-- Loops that write a part of a list item by item: after j turns the list is `paste d at s j`.
use mathlib.Core.Path.{◌≡◌, refl, sym, ap, ◌∙◌}
use mathlib.Core.List.{List, ◌++◌}
use Prim.Native.Nat.{ℕ, suc, ◌+◌, ◌-◌, ◌≤◌, ◌<◌}
use native.Mathlib.Nat.{le_antisymm}
use native.Mathlib.Numerals.{add-one}
use native.Mathlib.Omega.{arith}
use lib.ListN.{length, get_or, set, take, drop, length-set, length-drop}
use lib.Seq.{drop-paste, paste, paste-zero, paste-suc, get_or-drop, get_or_at, length_paste_head, drop-cons}

-- j items of s written from `at` on; the length is kept
pub record Copied (d : List ℕ) (at : ℕ) (s e : List ℕ) (j : ℕ) : Type 0 where
  pub is : e ≡ paste d at s j
  pub kept : length e ≡ length d

pub none : (d : List ℕ) (at : ℕ) (s : List ℕ) → Copied d at s d 0
none d at s = record { is = paste-zero d at s; kept = refl }

-- one turn of such a loop
pub turn : (d : List ℕ) (at : ℕ) (s e : List ℕ) (j x : ℕ) → at + j < length d → j < length s → x ≡ get_or s j 0
    → Copied d at s e j → Copied d at s (set e (at + j) x) (j + 1)
turn d at s e j x hd hs ex h =
    record {
      is =
          ap (λ (l : List ℕ). set l (at + j) x) h.is
          ∙ ap (λ (y : ℕ). set (paste d at s j) (at + j) y) ex
          ∙ rw (add-one j) (paste-suc d at s j 0 hd hs);
      kept = length-set e (at + j) x ∙ h.kept;
    }

-- one turn that copies an item of l, the n items from `start` on being copied
pub next : {d : List ℕ} {at : ℕ} {e : List ℕ} {j : ℕ} (start n : ℕ) (l : List ℕ) → at + j < length d → start + n ≤ length l → j < n
    → Copied d at (drop start l) e j → Copied d at (drop start l) (set e (at + j) (get_or l (start + j) 0)) (j + 1)
next {d} {at} {e} {j} start n l hd hs k h =
    turn d at (drop start l) e j (get_or l (start + j) 0) hd (rw (length-drop start l) (omega arith)) (sym (get_or-drop start l j 0)) h

-- all items written: the loop's count has reached its end
pub done : {d : List ℕ} {at : ℕ} {s e : List ℕ} {j : ℕ} (n : ℕ) → j ≤ n → n ≤ j → Copied d at s e j → e ≡ paste d at s n
done {d} {at} {s} n a b h = h.is ∙ ap (λ (k : ℕ). paste d at s k) (le_antisymm a b)

-- the item that a turn is about to write is as it was
pub unread : (d : List ℕ) (at : ℕ) (s e : List ℕ) (j : ℕ) → at + j < length d → j ≤ length s → Copied d at s e j
    → get_or e (at + j) 0 ≡ get_or d (at + j) 0
unread d at s e j hd hs h =
    ap (λ (l : List ℕ). get_or l (at + j) 0) h.is
    ∙ rw (drop-cons d (at + j) 0)
    (get_or_at (take at d ++ take j s) (get_or d (at + j) 0) (drop (suc (at + j)) d) 0 (at + j)
    (length_paste_head d at s j (omega arith) hs))

-- one turn of a copy of items of any type
pub copied_next : {A : Type 0} (d e l : List A) (at start j : ℕ) (x : A) → at + j < length d → start + j < length l → e ≡ paste d at (drop start l) j → x ≡ get_or l (start + j) x
    → set e (at + j) x ≡ paste d at (drop start l) (j + 1)
copied_next {A} d e l at start j x hd hs is read =
    ap (λ (m : List A). set m (at + j) x) is
    ∙ ap (λ (a : A). set (paste d at (drop start l) j) (at + j) a) (read ∙ sym (get_or-drop start l j x))
    ∙ rw (add-one j) (paste-suc d at (drop start l) j x hd (omega (arith, length-drop start l)))

-- an item moved down, which none of those written before it was
pub moved_next : {A : Type 0} (d e : List A) (to from j : ℕ) (x : A) → to ≤ from → from + j < length d → e ≡ paste d to (drop from d) j → x ≡ get_or e (from + j) x
    → set e (to + j) x ≡ paste d to (drop from d) (j + 1)
moved_next {A} d e to from j x down h is read =
    ap (λ (l : List A). set l (to + j) x) is
    ∙ ap (λ (a : A). set (paste d to (drop from d) j) (to + j) a) here
    ∙ rw (add-one j) (paste-suc d to (drop from d) j x (omega arith) (omega (arith, length-drop from d)))
  where
    ahead : from + j ≡ to + j + (from - to)
    ahead = omega arith

    here : x ≡ get_or (drop from d) j x
    here =
        read
        ∙ ap (λ (l : List A). get_or l (from + j) x) is
        ∙ ap (λ (i : ℕ). get_or (paste d to (drop from d) j) i x) ahead
        ∙ sym (get_or-drop (to + j) (paste d to (drop from d) j) (from - to) x)
        ∙ ap (λ (l : List A). get_or l (from - to) x) (drop-paste d to (drop from d) j (omega arith) (omega (arith, length-drop from d)))
        ∙ get_or-drop (to + j) d (from - to) x
        ∙ ap (λ (i : ℕ). get_or d i x) (sym ahead)
        ∙ sym (get_or-drop from d j x)
