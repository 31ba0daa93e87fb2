-- Lists of stars by number: insertion, its order, and lists with the same members.
use mathlib.Core.Path.{◌≡◌, refl, sym, ap, ◌∙◌}
use mathlib.Core.Bool.{Bool, true, false, not, cond, false≢true}
use mathlib.Core.List.Memᴰ
use mathlib.Core.List.{List, [], ◌∷◌, ◌++◌, Memᴰ}
use mathlib.Core.Logic.{⊎_elim, ◌⊎◌, inl, inr}
use Prim.Native.Nat.{ℕ, suc, ◌+◌, ◌≤◌, ◌<◌}
use native.Mathlib.Nat.{le_trans}
use native.Mathlib.Decide.{dec_le}
use native.Mathlib.Omega.{arith}
use lib.Dec.{leb, eqb}
use lib.ListN.{length}
use borrow.Author.Tests.{leb-true, leb-false, le-leb, lt-leb, eq-eqb, ne_eqb}
use Rattle.placement.specs.Rule.{Star, keep, filter, insert, pour, without}
use Rattle.placement.proofs.Filters.{member_filter, filter-member}

-- Numbers from k on, in order; strictly for Rising.
abbrev pub Sorted : ℕ → List Star → Type 0
Sorted k [] = Unit {0}
Sorted k (s ∷ l) = (k ≤ s.number) × Sorted s.number l

abbrev pub Rising : ℕ → List Star → Type 0
Rising k [] = Unit {0}
Rising k (s ∷ l) = (k ≤ s.number) × Rising (suc s.number) l

-- No star of the list has the number k.
abbrev pub Absent : ℕ → List Star → Type 0
Absent k l = (t : Star) → Memᴰ t l → t.number ≡ k → ⊥

pub sorted-less : (j k : ℕ) (l : List Star) → j ≤ k → Sorted k l → Sorted j l
sorted-less j k [] h s = tt
sorted-less j k (x ∷ xs) h s = (omega arith, s.1)

pub rising-less : (j k : ℕ) (l : List Star) → j ≤ k → Rising k l → Rising j l
rising-less j k [] h s = tt
rising-less j k (x ∷ xs) h s = (omega arith, s.1)

pub rising-sorted : (k : ℕ) (l : List Star) → Rising k l → Sorted k l
rising-sorted k [] r = tt
rising-sorted k (x ∷ xs) r = (r.0, sorted-less x.number (suc x.number) xs (omega arith) (rising-sorted (suc x.number) xs r.1))

pub sorted-member : (k : ℕ) (l : List Star) → Sorted k l → (s : Star) → Memᴰ s l → k ≤ s.number
sorted-member k [] r s m = absurd (Memᴰ.not-nil m)
sorted-member k (x ∷ xs) r s m =
    ⊎_elim (λ (e : s ≡ x). rw e r.0) (λ m'. le_trans r.0 (sorted-member x.number xs r.1 s m')) (Memᴰ.cases_cons m)

pub rising-member : (k : ℕ) (l : List Star) → Rising k l → (s : Star) → Memᴰ s l → k ≤ s.number
rising-member k l r = sorted-member k l (rising-sorted k l r)

pub sorted_filter : (k : ℕ) (q : Star → Bool) (l : List Star) → Sorted k l → Sorted k (filter q l)
unfolding filter
sorted_filter k q [] r = tt
sorted_filter k q (x ∷ xs) r = go (q x) (sorted_filter x.number q xs r.1)
  where
    go : (t : Bool) → Sorted x.number (filter q xs) → Sorted k (keep t x (filter q xs))
    go true ih = (r.0, ih)
    go false ih = sorted-less k x.number (filter q xs) r.0 ih

pub rising-filter : (k : ℕ) (q : Star → Bool) (l : List Star) → Rising k l → Rising k (filter q l)
unfolding filter
rising-filter k q [] r = tt
rising-filter k q (x ∷ xs) r = go (q x) (rising-filter (suc x.number) q xs r.1)
  where
    go : (t : Bool) → Rising (suc x.number) (filter q xs) → Rising k (keep t x (filter q xs))
    go true ih = (r.0, ih)
    go false ih = rising-less k (suc x.number) (filter q xs) (omega (arith, r.0)) ih

pub sorted_insert : (k : ℕ) (s : Star) (l : List Star) → k ≤ s.number → Sorted k l → Sorted k (insert s l)
unfolding insert
sorted_insert k s [] h r = (h, tt)
sorted_insert k s (t ∷ ts) h r = go (leb s.number t.number) refl (λ g. sorted_insert t.number s ts g r.1)
  where
    go : (b : Bool) → leb s.number t.number ≡ b → (t.number ≤ s.number → Sorted t.number (insert s ts)) → Sorted k (cond b (s ∷ t ∷ ts) (t ∷ insert s ts))
    go true e ih = (h, (leb-true s.number t.number e, r.1))
    go false e ih = (r.0, ih (omega (arith, leb-false s.number t.number e)))

pub rising-insert : (k : ℕ) (s : Star) (l : List Star) → k ≤ s.number → Absent s.number l → Rising k l → Rising k (insert s l)
unfolding insert
rising-insert k s [] h a r = (h, tt)
rising-insert k s (t ∷ ts) h a r =
    go (leb s.number t.number) refl (λ g. rising-insert (suc t.number) s ts g (λ u m. a u (Memᴰ.tail m)) r.1)
  where
    go : (b : Bool) → leb s.number t.number ≡ b → (t.number < s.number → Rising (suc t.number) (insert s ts)) → Rising k (cond b (s ∷ t ∷ ts) (t ∷ insert s ts))
    go true e ih =
        let other : (t.number ≡ s.number → ⊥) = a t (Memᴰ.head refl) in
        (h, (omega (arith, leb-true s.number t.number e, other), r.1))
    go false e ih = (r.0, ih (leb-false s.number t.number e))

-- A star not above the others goes in front.
pub insert-front : (s : Star) (l : List Star) → Sorted s.number l → insert s l ≡ s ∷ l
unfolding insert
insert-front s [] r = refl
insert-front s (t ∷ ts) r = rw (le-leb s.number t.number r.0)

pub insert-behind : (s t : Star) (l : List Star) → t.number < s.number → insert s (t ∷ l) ≡ t ∷ insert s l
unfolding insert
insert-behind s t l h = rw (lt-leb s.number t.number h)

pub filter-insert : (k : ℕ) (q : Star → Bool) (s : Star) (l : List Star) → Sorted k l → q s ≡ true → filter q (insert s l) ≡ insert s (filter q l)
unfolding filter insert
filter-insert k q s [] r e = rw e
filter-insert k q s (t ∷ ts) r e = go (leb s.number t.number) refl (filter-insert t.number q s ts r.1 e)
  where
    later : (b : Bool) → t.number < s.number → keep b t (insert s (filter q ts)) ≡ insert s (keep b t (filter q ts))
    later true h = sym (insert-behind s t (filter q ts) h)
    later false h = refl

    go : (b : Bool) → leb s.number t.number ≡ b → filter q (insert s ts) ≡ insert s (filter q ts)
        → filter q (cond b (s ∷ t ∷ ts) (t ∷ insert s ts)) ≡ insert s (filter q (t ∷ ts))
    go true g ih = rw e (sym (insert-front s (filter q (t ∷ ts)) (sorted_filter s.number q (t ∷ ts) (leb-true s.number t.number g, r.1))))
    go false g ih = rw ih (later (q t) (leb-false s.number t.number g))

pub filter-insert-out : (q : Star → Bool) (s : Star) (l : List Star) → q s ≡ false → filter q (insert s l) ≡ filter q l
unfolding filter insert
filter-insert-out q s [] e = rw e
filter-insert-out q s (t ∷ ts) e = go (leb s.number t.number) (filter-insert-out q s ts e)
  where
    go : (b : Bool) → filter q (insert s ts) ≡ filter q ts → filter q (cond b (s ∷ t ∷ ts) (t ∷ insert s ts)) ≡ filter q (t ∷ ts)
    go true ih = rw e
    go false ih = rw ih

pub insert-here : (s t : Star) (l : List Star) → s.number ≤ t.number → insert s (t ∷ l) ≡ s ∷ t ∷ l
unfolding insert
insert-here s t l h = rw (le-leb s.number t.number h)

insert-below : (x y : Star) (l : List Star) → x.number < y.number → insert x (insert y l) ≡ insert y (insert x l)
unfolding insert
insert-below x y [] h = insert-here x y [] (omega arith) ∙ sym (insert-behind y x [] h)
insert-below x y (t ∷ ts) h = go (dec_le y.number t.number) (dec_le x.number t.number) (insert-below x y ts h)
  where
    go : Dec (y.number ≤ t.number) → Dec (x.number ≤ t.number) → insert x (insert y ts) ≡ insert y (insert x ts)
        → insert x (insert y (t ∷ ts)) ≡ insert y (insert x (t ∷ ts))
    go (yes a) b ih =
        ap (insert x) (insert-here y t ts a) ∙ insert-here x y (t ∷ ts) (omega arith)
        ∙ sym (ap (insert y) (insert-here x t ts (omega arith)) ∙ insert-behind y x (t ∷ ts) h ∙ ap (λ (l : List Star). x ∷ l) (insert-here y t ts a))
    go (no a) (yes b) ih =
        ap (insert x) (insert-behind y t ts (omega arith)) ∙ insert-here x t (insert y ts) b
        ∙ sym (ap (insert y) (insert-here x t ts b) ∙ insert-behind y x (t ∷ ts) h ∙ ap (λ (l : List Star). x ∷ l) (insert-behind y t ts (omega arith)))
    go (no a) (no b) ih =
        ap (insert x) (insert-behind y t ts (omega arith)) ∙ insert-behind x t (insert y ts) (omega arith)
        ∙ ap (λ (l : List Star). t ∷ l) ih
        ∙ sym (ap (insert y) (insert-behind x t ts (omega arith)) ∙ insert-behind y t (insert x ts) (omega arith))

-- Stars of different numbers go in in either order.
pub insert_comm : (x y : Star) (l : List Star) → (x.number ≡ y.number → ⊥) → insert x (insert y l) ≡ insert y (insert x l)
insert_comm x y l h = go (dec_le y.number x.number)
  where
    go : Dec (y.number ≤ x.number) → insert x (insert y l) ≡ insert y (insert x l)
    go (yes a) = sym (insert-below y x l (omega arith))
    go (no a) = insert-below x y l (omega arith)

pub length-insert : (s : Star) (l : List Star) → length (insert s l) ≡ suc (length l)
unfolding insert
length-insert s [] = refl
length-insert s (t ∷ ts) = go (leb s.number t.number) (length-insert s ts)
  where
    go : (b : Bool) → length (insert s ts) ≡ suc (length ts) → length (cond b (s ∷ t ∷ ts) (t ∷ insert s ts)) ≡ suc (suc (length ts))
    go true ih = refl
    go false ih = rw ih

pub member_insert : (s : Star) (l : List Star) (t : Star) → Memᴰ t (insert s l) → (t ≡ s) ⊎ Memᴰ t l
unfolding insert
member_insert s [] t m = Memᴰ.cases_cons m
member_insert s (x ∷ xs) t m = go (leb s.number x.number) (member_insert s xs t) m
  where
    later : (t ≡ s) ⊎ Memᴰ t xs → (t ≡ s) ⊎ Memᴰ t (x ∷ xs)
    later (inl e) = inl e
    later (inr m) = inr (Memᴰ.tail m)

    split : (Memᴰ t (insert s xs) → (t ≡ s) ⊎ Memᴰ t xs) → (t ≡ x) ⊎ Memᴰ t (insert s xs) → (t ≡ s) ⊎ Memᴰ t (x ∷ xs)
    split ih (inl e) = inr (Memᴰ.head e)
    split ih (inr m) = later (ih m)

    go : (b : Bool) → (Memᴰ t (insert s xs) → (t ≡ s) ⊎ Memᴰ t xs) → Memᴰ t (cond b (s ∷ x ∷ xs) (x ∷ insert s xs)) → (t ≡ s) ⊎ Memᴰ t (x ∷ xs)
    go true ih m = Memᴰ.cases_cons m
    go false ih m = split ih (Memᴰ.cases_cons m)

pub inserted : (s : Star) (l : List Star) → Memᴰ s (insert s l)
unfolding insert
inserted s [] = Memᴰ.head refl
inserted s (x ∷ xs) = go (leb s.number x.number) (inserted s xs)
  where
    go : (b : Bool) → Memᴰ s (insert s xs) → Memᴰ s (cond b (s ∷ x ∷ xs) (x ∷ insert s xs))
    go true ih = Memᴰ.head refl
    go false ih = Memᴰ.tail ih

pub insert-keeps : (s : Star) (l : List Star) (t : Star) → Memᴰ t l → Memᴰ t (insert s l)
unfolding insert
insert-keeps s [] t m = absurd (Memᴰ.not-nil m)
insert-keeps s (x ∷ xs) t m = go (leb s.number x.number) (insert-keeps s xs t) (Memᴰ.cases_cons m)
  where
    go : (b : Bool) → (Memᴰ t xs → Memᴰ t (insert s xs)) → (t ≡ x) ⊎ Memᴰ t xs → Memᴰ t (cond b (s ∷ x ∷ xs) (x ∷ insert s xs))
    go true ih c = Memᴰ.tail m
    go false ih (inl e) = Memᴰ.head e
    go false ih (inr n) = Memᴰ.tail (ih n)

pub pour-append : (xs ys l : List Star) → pour (xs ++ ys) l ≡ pour xs (pour ys l)
unfolding pour
pour-append [] ys l = refl
pour-append (x ∷ xs) ys l = ap (insert x) (pour-append xs ys l)

pub pour-insert-into : (x : Star) (ys l : List Star) → pour (insert x ys) l ≡ insert x (pour ys l)
unfolding pour insert
pour-insert-into x [] l = refl
pour-insert-into x (y ∷ ys) l = go (leb x.number y.number) refl (pour-insert-into x ys l)
  where
    go : (b : Bool) → leb x.number y.number ≡ b → pour (insert x ys) l ≡ insert x (pour ys l)
        → pour (cond b (x ∷ y ∷ ys) (y ∷ insert x ys)) l ≡ insert x (insert y (pour ys l))
    go true e ih = refl
    go false e ih = ap (insert y) ih ∙ insert_comm y x (pour ys l) (λ g. omega (arith, g, leb-false x.number y.number e))

-- Insertion by way of a list in between.
pub pour-pour : (xs ys l : List Star) → pour (pour xs ys) l ≡ pour xs (pour ys l)
unfolding pour
pour-pour [] ys l = refl
pour-pour (x ∷ xs) ys l = pour-insert-into x (pour xs ys) l ∙ ap (insert x) (pour-pour xs ys l)

pub pour-insert : (xs : List Star) (s : Star) (l : List Star) → Absent s.number xs → pour xs (insert s l) ≡ insert s (pour xs l)
unfolding pour
pour-insert [] s l a = refl
pour-insert (x ∷ xs) s l a =
    ap (insert x) (pour-insert xs s l (λ t m. a t (Memᴰ.tail m))) ∙ insert_comm x s (pour xs l) (a x (Memᴰ.head refl))

-- The order of gathering is free where no number is in both.
pub pour-comm : (xs ys l : List Star) → ((y : Star) → Memᴰ y ys → Absent y.number xs) → pour xs (pour ys l) ≡ pour ys (pour xs l)
unfolding pour
pour-comm xs [] l a = refl
pour-comm xs (y ∷ ys) l a =
    pour-insert xs y (pour ys l) (a y (Memᴰ.head refl)) ∙ ap (insert y) (pour-comm xs ys l (λ z m. a z (Memᴰ.tail m)))

pub sorted-pour : (xs l : List Star) → Sorted 0 l → Sorted 0 (pour xs l)
unfolding pour
sorted-pour [] l r = r
sorted-pour (x ∷ xs) l r = sorted_insert 0 x (pour xs l) (omega arith) (sorted-pour xs l r)

pub filter-pour : (q : Star → Bool) (xs l : List Star) → Sorted 0 l → filter q (pour xs l) ≡ pour (filter q xs) (filter q l)
unfolding pour filter
filter-pour q [] l r = refl
filter-pour q (x ∷ xs) l r = go (q x) refl (filter-pour q xs l r)
  where
    go : (b : Bool) → q x ≡ b → filter q (pour xs l) ≡ pour (filter q xs) (filter q l) → filter q (insert x (pour xs l)) ≡ pour (keep b x (filter q xs)) (filter q l)
    go true e ih = filter-insert 0 q x (pour xs l) (sorted-pour xs l r) e ∙ ap (insert x) ih
    go false e ih = filter-insert-out q x (pour xs l) e ∙ ih

pub pour-front : (k : ℕ) (xs : List Star) (s : Star) (l : List Star) → s.number < k → Rising k xs → pour xs (s ∷ l) ≡ s ∷ pour xs l
unfolding pour
pour-front k [] s l h r = refl
pour-front k (x ∷ xs) s l h r =
    ap (insert x) (pour-front (suc x.number) xs s l (omega (arith, r.0)) r.1) ∙ insert-behind x s (pour xs l) (omega (arith, r.0))

-- A rising list is what a part of it and the rest make.
pub pour-split : (k : ℕ) (q : Star → Bool) (w : List Star) → Rising k w → pour (filter q w) (filter (λ (s : Star). not (q s)) w) ≡ w
unfolding pour filter
pour-split k q [] r = refl
pour-split k q (s ∷ l) r = go (q s) (pour-split (suc s.number) q l r.1)
  where
    go : (b : Bool) → pour (filter q l) (filter (λ (t : Star). not (q t)) l) ≡ l
        → pour (keep b s (filter q l)) (keep (not b) s (filter (λ (t : Star). not (q t)) l)) ≡ s ∷ l
    go true ih =
        ap (insert s) ih ∙ insert-front s l (sorted-less s.number (suc s.number) l (omega arith) (rising-sorted (suc s.number) l r.1))
    go false ih =
        pour-front (suc s.number) (filter q l) s (filter (λ (t : Star). not (q t)) l) (omega arith) (rising-filter (suc s.number) q l r.1)
        ∙ ap (λ (m : List Star). s ∷ m) ih

pub pour-nil : (k : ℕ) (l : List Star) → Sorted k l → pour l [] ≡ l
unfolding pour
pour-nil k [] r = refl
pour-nil k (s ∷ l) r = ap (insert s) (pour-nil s.number l r.1) ∙ insert-front s l r.1

pub length-pour : (xs l : List Star) → length (pour xs l) ≡ length xs + length l
unfolding pour
length-pour [] l = omega arith
length-pour (x ∷ xs) l = length-insert x (pour xs l) ∙ omega (arith, length-pour xs l)

pub member_pour : (xs l : List Star) (t : Star) → Memᴰ t (pour xs l) → Memᴰ t xs ⊎ Memᴰ t l
unfolding pour
member_pour [] l t m = inr m
member_pour (x ∷ xs) l t m = go (member_pour xs l t) (member_insert x (pour xs l) t m)
  where
    later : Memᴰ t xs ⊎ Memᴰ t l → Memᴰ t (x ∷ xs) ⊎ Memᴰ t l
    later (inl m) = inl (Memᴰ.tail m)
    later (inr m) = inr m

    go : (Memᴰ t (pour xs l) → Memᴰ t xs ⊎ Memᴰ t l) → (t ≡ x) ⊎ Memᴰ t (pour xs l) → Memᴰ t (x ∷ xs) ⊎ Memᴰ t l
    go ih (inl e) = inl (Memᴰ.head e)
    go ih (inr m) = later (ih m)

pub poured : (xs l : List Star) (t : Star) → Memᴰ t xs → Memᴰ t (pour xs l)
unfolding pour
poured [] l t m = absurd (Memᴰ.not-nil m)
poured (x ∷ xs) l t m = go (poured xs l t) (Memᴰ.cases_cons m)
  where
    go : (Memᴰ t xs → Memᴰ t (pour xs l)) → (t ≡ x) ⊎ Memᴰ t xs → Memᴰ t (insert x (pour xs l))
    go ih (inl e) = rw e (inserted x (pour xs l))
    go ih (inr n) = insert-keeps x (pour xs l) t (ih n)

pub pour-keeps : (xs l : List Star) (t : Star) → Memᴰ t l → Memᴰ t (pour xs l)
unfolding pour
pour-keeps [] l t m = m
pour-keeps (x ∷ xs) l t m = insert-keeps x (pour xs l) t (pour-keeps xs l t m)

pub rising-same : (j k : ℕ) (a b : List Star) → Rising j a → Rising k b → ((s : Star) → Memᴰ s a → Memᴰ s b) → ((s : Star) → Memᴰ s b → Memᴰ s a) → a ≡ b
rising-same j k [] [] ra rb f g = refl
rising-same j k [] (y ∷ ys) ra rb f g = absurd (Memᴰ.not-nil (g y (Memᴰ.head refl)))
rising-same j k (x ∷ xs) [] ra rb f g = absurd (Memᴰ.not-nil (f x (Memᴰ.head refl)))
rising-same j k (x ∷ xs) (y ∷ ys) ra rb f g =
    ap (λ (z : Star). z ∷ xs) head ∙ ap (λ (l : List Star). y ∷ l) (rising-same (suc x.number) (suc y.number) xs ys ra.1 rb.1 down up)
  where
    above-x : (s : Star) → Memᴰ s xs → x.number < s.number
    above-x = rising-member (suc x.number) xs ra.1

    above-y : (s : Star) → Memᴰ s ys → y.number < s.number
    above-y = rising-member (suc y.number) ys rb.1

    same : (x ≡ y) ⊎ Memᴰ x ys → (y ≡ x) ⊎ Memᴰ y xs → x ≡ y
    same (inl e) n = e
    same (inr m) (inl e) = sym e
    same (inr m) (inr n) = absurd (omega (arith, above-y x m, above-x y n))

    head : x ≡ y
    head = same (Memᴰ.cases_cons (f x (Memᴰ.head refl))) (Memᴰ.cases_cons (g y (Memᴰ.head refl)))

    down : (s : Star) → Memᴰ s xs → Memᴰ s ys
    down s m =
        ⊎_elim (λ (e : s ≡ y). absurd (omega (arith, above-x s m, ap (λ (z : Star). z.number) e, ap (λ (z : Star). z.number) head)))
        (λ (n : Memᴰ s ys). n) (Memᴰ.cases_cons (f s (Memᴰ.tail m)))

    up : (s : Star) → Memᴰ s ys → Memᴰ s xs
    up s m =
        ⊎_elim (λ (e : s ≡ x). absurd (omega (arith, above-y s m, ap (λ (z : Star). z.number) e, ap (λ (z : Star). z.number) head)))
        (λ (n : Memᴰ s xs). n) (Memᴰ.cases_cons (g s (Memᴰ.tail m)))

-- No two stars of the list have one number.
abbrev pub Distinct : List Star → Type 0
Distinct [] = Unit {0}
Distinct (x ∷ xs) = Absent x.number xs × Distinct xs

pub rising-distinct : (k : ℕ) (l : List Star) → Rising k l → Distinct l
rising-distinct k [] r = tt
rising-distinct k (x ∷ xs) r =
    ((λ t m e. omega (arith, rising-member (suc x.number) xs r.1 t m, e)), rising-distinct (suc x.number) xs r.1)

pub rising-pour : (xs l : List Star) → Distinct xs → ((x : Star) → Memᴰ x xs → Absent x.number l) → Rising 0 l → Rising 0 (pour xs l)
unfolding pour
rising-pour [] l d a r = r
rising-pour (x ∷ xs) l d a r =
    rising-insert 0 x (pour xs l) (omega arith)
    (λ t m e. ⊎_elim (λ (n : Memᴰ t xs). d.0 t n e) (λ (n : Memᴰ t l). a x (Memᴰ.head refl) t n e) (member_pour xs l t m))
    (rising-pour xs l d.1 (λ y m. a y (Memᴰ.tail m)) r)

pub rising-without : (j k : ℕ) (l : List Star) → Rising j l → Rising j (without k l)
unfolding without
rising-without j k l r = rising-filter j (λ (s : Star). not (eqb s.number k)) l r

-- The number is gone, the others are kept.
pub member_without : (k : ℕ) (l : List Star) (s : Star) → Memᴰ s (without k l) → Memᴰ s l × (s.number ≡ k → ⊥)
unfolding without
member_without k l s m =
    let r = member_filter (λ (t : Star). not (eqb t.number k)) l s m in
    (r.0, λ e. false≢true (sym (ap not (eq-eqb s.number k e)) ∙ r.1))

pub without-member : (k : ℕ) (l : List Star) (s : Star) → Memᴰ s l → (s.number ≡ k → ⊥) → Memᴰ s (without k l)
unfolding without
without-member k l s m h = filter-member (λ (t : Star). not (eqb t.number k)) l s m (rw (ne_eqb s.number k h))

-- Stars of different numbers, inserted in any order, make the rising list of the same members.
pub poured-same : (k : ℕ) (xs w : List Star) → Distinct xs → Rising k w → ((s : Star) → Memᴰ s xs → Memᴰ s w)
    → ((s : Star) → Memᴰ s w → Memᴰ s xs) → pour xs [] ≡ w
poured-same k xs w d r f g =
    rising-same 0 k (pour xs []) w (rising-pour xs [] d (λ x m t n. absurd (Memᴰ.not-nil n)) tt) r
    (λ s m. f s (⊎_elim (λ (n : Memᴰ s xs). n) (λ (n : Memᴰ s []). absurd (Memᴰ.not-nil n)) (member_pour xs [] s m)))
    (λ s m. poured xs [] s (g s m))
