-- The loops that move items by one place, and what they leave of a list around the items moved.
use mathlib.Core.Path.{◌≡◌, refl, sym, ap, ◌∙◌}
use mathlib.Core.List.{List, [], ◌∷◌, ◌++◌, append_assoc}
use Prim.Native.Nat.{ℕ, suc, ◌+◌, ◌≤◌, ◌<◌}
use native.Mathlib.Numerals.{add-one}
use native.Mathlib.Omega.{arith}
use lib.ListN.{length, take, drop, get_or, set, length-append, length-drop, get_or-append}
use lib.Seq.{paste, drop-drop, drop-paste, take_all, take_at, drop_at, get_or-drop, get_or-take, get_or_at, append_snoc, length-take-le}
use Rattle.buffers.proofs.Copies.{Copied, turn}
use Rattle.buffers.proofs.Copies.{done}
use Rattle.page_edit.specs.Shift.{opened_at, closed_up_lem}

-- an item that is not yet written is as it was
pub unwritten : (d : List ℕ) (at : ℕ) (s e : List ℕ) (j i : ℕ) → at + j ≤ length d → j ≤ length s → Copied d at s e j → get_or e (at + j + i) 0 ≡ get_or d (at + j + i) 0
unwritten d at s e j i hd hs h =
    ap (λ (l : List ℕ). get_or l (at + j + i) 0) h.is
    ∙ sym (get_or-drop (at + j) (paste d at s j) i 0)
    ∙ ap (λ (l : List ℕ). get_or l i 0) (drop-paste d at s j (omega arith) hs)
    ∙ get_or-drop (at + j) d i 0

-- moving up

-- one turn; what it carries on is what the next one writes
pub risen_next : {d e : List ℕ} {from x j carried : ℕ} → Copied d from (x ∷ drop from d) e j → carried ≡ get_or (x ∷ drop from d) j 0 → from + j < length d
    → Copied d from (x ∷ drop from d) (set e (from + j) carried) (j + 1) × (get_or e (from + j) 0 ≡ get_or (x ∷ drop from d) (j + 1) 0)
risen_next {d} {e} {from} {x} {j} {carried} c w h = (
  turn d from (x ∷ drop from d) e j carried h (omega (arith, length-drop from d)) w c,
  rw (add-one j)
      (ap (λ (i : ℕ). get_or e i 0) same
      ∙ unwritten d from (x ∷ drop from d) e j 0 (omega arith) (omega (arith, length-drop from d)) c
      ∙ ap (λ (i : ℕ). get_or d i 0) (sym same)
      ∙ sym (get_or-drop from d j 0)),
)
  where
    same : from + j ≡ from + j + 0
    same = omega arith

-- the items D between F and y moved over y
pub opened-is : (F D R : List ℕ) (x y from count : ℕ) → length F ≡ from → count ≡ suc (length D)
    → opened_at from count x (F ++ (D ++ (y ∷ R))) ≡ F ++ (x ∷ (D ++ R))
opened-is F D R x y from count lf lc =
    rw (lc, take_at F (D ++ (y ∷ R)) from lf, ← drop-drop (suc (length D)) from (F ++ (D ++ (y ∷ R))), drop_at F (D ++ (y ∷ R)) from lf)
    (ap (λ (l : List ℕ). F ++ (x ∷ l) ++ drop (suc (length D)) (D ++ (y ∷ R))) (take_at D (y ∷ R) (length D) refl)
    ∙ ap (λ (l : List ℕ). F ++ (x ∷ D) ++ l) past
    ∙ append_assoc F (x ∷ D) R)
  where
    past : drop (suc (length D)) (D ++ (y ∷ R)) ≡ R
    past = ap (drop (suc (length D))) (sym (append_snoc D y R)) ∙ drop_at (D ++ (y ∷ [])) R (suc (length D)) (length-append D (y ∷ []) ∙ omega arith)

-- moving down

-- what the items from `from` on are to be
abbrev pub fallen : ℕ → ℕ → List ℕ → List ℕ
fallen from behind d = take behind (drop (from + 1) d) ++ (0 ∷ [])

module _ (d : List ℕ) (from behind : ℕ) (fits : from + behind < length d) where
  front : length (take behind (drop (from + 1) d)) ≡ behind
  front = length-take-le behind (drop (from + 1) d) (omega (arith, length-drop (from + 1) d))

  length-fallen : length (fallen from behind d) ≡ suc behind
  length-fallen = length-append (take behind (drop (from + 1) d)) (0 ∷ []) ∙ omega (arith, front)

  -- the item after the one to be written
  fallen-item : (e : List ℕ) (j : ℕ) → j < behind → Copied d from (fallen from behind d) e j → get_or e (from + j + 1) 0 ≡ get_or (fallen from behind d) j 0
  fallen-item e j h c =
      unwritten d from (fallen from behind d) e j 1 (omega arith) (omega (arith, length-fallen)) c
      ∙ sym
      (get_or-append (take behind (drop (from + 1) d)) (0 ∷ []) 0 j (omega (arith, front))
      ∙ get_or-take behind (drop (from + 1) d) j 0 h
      ∙ get_or-drop (from + 1) d j 0
      ∙ ap (λ (i : ℕ). get_or d i 0) same)
    where
      same : from + 1 + j ≡ from + j + 1
      same = omega arith

  pub fallen-next : {e : List ℕ} {j : ℕ} → Copied d from (fallen from behind d) e j → j < behind
      → Copied d from (fallen from behind d) (set e (from + j) (get_or e (from + j + 1) 0)) (j + 1)
  fallen-next {e} {j} c h = turn d from (fallen from behind d) e j (get_or e (from + j + 1) 0) (omega arith) (omega (arith, length-fallen)) (fallen-item e j h c) c

  fallen-last : get_or (fallen from behind d) behind 0 ≡ 0
  fallen-last = get_or_at (take behind (drop (from + 1) d)) 0 [] 0 behind front

  -- the loop is done, and 0 is written last
  pub fallen-all : {e : List ℕ} {j : ℕ} → Copied d from (fallen from behind d) e j → j ≤ behind → behind ≤ j → Copied d from (fallen from behind d) (set e (from + behind) 0) (behind + 1)
  fallen-all {e} {j} c a b =
      turn d from (fallen from behind d) e behind 0 fits (omega (arith, length-fallen)) (sym fallen-last) (record { is = done behind a b c; kept = c.kept })

-- the item y between F and D taken out
pub closed_is : (F D R : List ℕ) (y from behind : ℕ) → length F ≡ from → behind ≡ length D
    → closed_up_lem from behind (F ++ (y ∷ (D ++ R))) ≡ F ++ (D ++ (0 ∷ R))
closed_is F D R y from behind lf lb =
    ap (λ (l : List ℕ). take from d ++ l ++ drop (from + (behind + 1)) d) mid
    ∙ ap (λ (l : List ℕ). take from d ++ (D ++ (0 ∷ [])) ++ l) rest
    ∙ ap (λ (l : List ℕ). l ++ (D ++ (0 ∷ [])) ++ R) (take_at F (y ∷ (D ++ R)) from lf)
    ∙ append_assoc F (D ++ (0 ∷ [])) R
    ∙ ap (λ (l : List ℕ). F ++ l) (append_snoc D 0 R)
  where
    d : List ℕ
    d = F ++ (y ∷ (D ++ R))

    after : (n : ℕ) → drop (from + (n + 1)) d ≡ drop n (D ++ R)
    after n = rw (← drop-drop (n + 1) from d, drop_at F (y ∷ (D ++ R)) from lf, add-one n)

    one : from + 1 ≡ from + (0 + 1)
    one = omega arith

    mid : take (behind + 1) (take behind (drop (from + 1) d) ++ (0 ∷ [])) ≡ D ++ (0 ∷ [])
    mid =
        ap (λ (i : ℕ). take (behind + 1) (take behind (drop i d) ++ (0 ∷ []))) one
        ∙ ap (λ (l : List ℕ). take (behind + 1) (take behind l ++ (0 ∷ []))) (after 0)
        ∙ ap (λ (l : List ℕ). take (behind + 1) (l ++ (0 ∷ []))) (take_at D R behind (sym lb))
        ∙ take_all (behind + 1) (D ++ (0 ∷ [])) (omega (arith, length-append D (0 ∷ [])))

    rest : drop (from + (behind + 1)) d ≡ R
    rest = after behind ∙ drop_at D R behind (sym lb)
