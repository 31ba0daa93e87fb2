-- A page's items in a lent list and in the value of 32 places. `Loaded` is what the loop of `load` keeps.
-- Assumes nothing.
use mathlib.Core.Path.{◌≡◌, refl, sym, ap, ◌∙◌}
use mathlib.Core.List.{List, ◌++◌}
use Prim.Native.Nat.{ℕ, suc, ◌+◌, ◌*◌, ◌-◌, ◌≤◌, ◌<◌}
use native.Mathlib.Nat.{mul-le-mul_right, suc-mul, add-mul, add_comm}
use native.Mathlib.Numerals.{add-one}
use native.Mathlib.Omega.{arith}
use lib.ListN.{length, take, drop, set, get_or, replicate, length-drop, length-set}
use lib.Seq.{length-take-le, take_at, take-append-le, take-add, drop_at, drop-append-le, drop-drop, take-suc, get_or-take, get_or-drop, append_snoc, set_at}
use Rattle.buffers.specs.Lists.{padded}
use Rattle.buffers.proofs.Lists.{padded-item, length-padded}
use Rattle.pages.specs.Page.{part}
use Rattle.pages.specs.Shape.{stretch, filled}

-- a page that stands before another ends where the other begins, or before
pub pages-apart : (places p q : ℕ) → p < q → p * places + places ≤ q * places
pages-apart places p q h = omega (arith, mul-le-mul_right {m = suc p} {n = q} places h, suc-mul p places)

-- page p of m pages lies within a list of m·places items, whose length is n
pub page-fits : (places m p : ℕ) {n : ℕ} → p < m → n ≡ m * places → p * places + places ≤ n
page-fits places m p h e = omega (arith, pages-apart places p m h)

module _ (places p : ℕ) (l : List ℕ) (fits : p * places + places ≤ length l) where
  pub part_length : length (part places p l) ≡ places
  unfolding part
  part_length = length-take-le places (drop (p * places) l) (rw length-drop (omega arith))

  pub filled-length : places ≤ 32 → length (filled (part places p l)) ≡ 32
  filled-length h = length-padded 32 (part places p l) (rw part_length h)

  pub take-filled : take places (filled (part places p l)) ≡ part places p l
  unfolding padded
  take-filled = take_at (part places p l) _ places part_length

-- a stretch is its first page and the others
pub stretch-suc : (b p n : ℕ) (l : List ℕ) → stretch b p (suc n) l ≡ part b p l ++ stretch b (suc p) n l
unfolding part
stretch-suc b p n l =
    ap (λ (k : ℕ). take k (drop (p * b) l)) (suc-mul n b ∙ add_comm (n * b) b)
    ∙ take-add b (n * b) (drop (p * b) l)
    ∙ ap (λ (r : List ℕ). take b (drop (p * b) l) ++ take (n * b) r) (drop-drop b (p * b) l ∙ ap (λ (k : ℕ). drop k l) (sym (suc-mul p b)))

-- "Place i of page p is item p·b + i"
pub part-item : (places p : ℕ) (l : List ℕ) (i : ℕ) → i < places → get_or (part places p l) i 0 ≡ get_or l (p * places + i) 0
unfolding part
part-item places p l i h = rw (get_or-take, get_or-drop)

-- what is read at any place of the page value is what the list has there, or 0
pub filled-item : (l : List ℕ) (i : ℕ) → get_or (filled l) i 0 ≡ get_or l i 0
filled-item l i = padded-item 32 l i

-- the first i items from `at` are in the value v, whose other places are empty
pub record Loaded (l : List ℕ) (at i : ℕ) (v : List ℕ) : Type 0 where
  pub long : length v ≡ 32
  pub is : v ≡ take i (drop at l) ++ replicate (32 - i) 0

pub loaded-none : (l : List ℕ) (at : ℕ) → Loaded l at 0 (replicate 32 0)
loaded-none l at = record { long = refl; is = refl }

pub loaded-more : {l v : List ℕ} {at i : ℕ} → at + i < length l → i < 32 → Loaded l at i v → Loaded l at (i + 1) (set v i (get_or l (at + i) 0))
loaded-more {l} {v} {at} {i} h k before =
    record {
      long = length-set v i (get_or l (at + i) 0) ∙ before.long;
      is = rw (
        before.is,
        room,
        set_at front 0 empty (get_or l (at + i) 0) i (length-take-le i (drop at l) (omega (arith, here))),
        ← append_snoc front (get_or l (at + i) 0) empty,
        add-one,
        take-suc (drop at l) i 0 here,
        get_or-drop at l i 0,
        rest,
      );
    }
  where
    front : List ℕ
    front = take i (drop at l)

    empty : List ℕ
    empty = replicate (31 - i) 0

    here : i < length (drop at l)
    here = rw length-drop (omega arith)

    room : 32 - i ≡ suc (31 - i)
    room = omega arith

    rest : 32 - suc i ≡ 31 - i
    rest = omega arith

pub loaded-all : (places p : ℕ) (l : List ℕ) {v : List ℕ} {i : ℕ} → p * places + places ≤ length l → i ≡ places → Loaded l (p * places) i v → v ≡ filled (part places p l)
unfolding padded part
loaded-all places p l fits e done = rw (done.is, e, part_length places p l fits)

pub part-front : (b q : ℕ) (xs ys : List ℕ) → suc q * b ≤ length xs → part b q (xs ++ ys) ≡ part b q xs
unfolding part
part-front b q xs ys h =
    ap (take b) (drop-append-le (q * b) xs ys (omega (arith, suc-mul q b)))
    ∙ take-append-le b (drop (q * b) xs) ys (omega (arith, suc-mul q b, length-drop (q * b) xs))

pub part-back : (b i j : ℕ) (xs ys : List ℕ) → length xs ≡ i * b → part b (i + j) (xs ++ ys) ≡ part b j ys
unfolding part
part-back b i j xs ys e =
    ap (take b)
    (ap (λ (k : ℕ). drop k (xs ++ ys)) (add-mul i j b) ∙ sym (drop-drop (j * b) (i * b) (xs ++ ys)) ∙ ap (drop (j * b)) (drop_at xs ys (i * b) e))
