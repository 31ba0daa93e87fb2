-- A page's numbers, words and owners against its stars: what `orderly` says, both ways.
use mathlib.Core.Path.{◌≡◌, refl, sym, ap, ◌∙◌}
use mathlib.Core.Bool.{Bool, true, false, not, cond}
use mathlib.Core.List.Memᴰ
use mathlib.Core.List.{List, [], ◌∷◌, ◌++◌, map, Memᴰ}
use mathlib.Core.Logic.{⊎_elim, ◌⊎◌, inl, inr}
use Prim.Native.Nat.{ℕ, zero, suc, ◌-◌, ◌≤◌, ◌<◌}
use native.Mathlib.Nat.{suc-sub-suc, sub-zero, le_refl}
use native.Mathlib.Omega.{arith}
use lib.Dec.{leb, ltb, eqb}
use lib.ListN.{length, replicate, length-map}
use borrow.Author.Tests.{leb-true, ltb-true, eqb-true, le-leb, lt-ltb, ne_eqb}
use Rattle.buffers.specs.Lists.{padded}
use Rattle.buffers.proofs.Tests.{and-true}
use Rattle.placement.specs.Rule.{Star, keep, filter, insert, star_with}
use Rattle.placement.specs.File.{stars_of, greatest, orderly, every}
use Rattle.placement.proofs.Filters.{member_filter}
use Rattle.placement.proofs.Order.{Rising, rising-less, member_insert}

pub every-member : {A : Type 0} (q : A → Bool) (l : List A) → every q l ≡ true → (x : A) → Memᴰ x l → q x ≡ true
unfolding every
every-member q [] e x m = absurd (Memᴰ.not-nil m)
every-member q (y ∷ ys) e x m =
    ⊎_elim (λ (g : x ≡ y). ap q g ∙ (and-true (q y) (every q ys) e).0) (λ n. every-member q ys (and-true (q y) (every q ys) e).1 x n) (Memᴰ.cases_cons m)

pub member_every : {A : Type 0} (q : A → Bool) (l : List A) → ((x : A) → Memᴰ x l → q x ≡ true) → every q l ≡ true
unfolding every
member_every q [] h = refl
member_every q (y ∷ ys) h = rw (h y (Memᴰ.head refl), member_every q ys (λ x m. h x (Memᴰ.tail m)))

-- Numbers in range and words that pass the test.
abbrev pub Proper : (ℕ → Bool) → List Star → Type 0
Proper ok l = (s : Star) → Memᴰ s l → (1 ≤ s.number) × (s.number ≤ greatest) × (ok s.payload.word ≡ true)

abbrev pub Numbered : List Star → Type 0
Numbered l = (s : Star) → Memᴰ s l → 1 ≤ s.number

pub proper-insert : (ok : ℕ → Bool) (s : Star) (l : List Star) → (1 ≤ s.number) × (s.number ≤ greatest) × (ok s.payload.word ≡ true) → Proper ok l → Proper ok (insert s l)
proper-insert ok s l v h t m =
    ⊎_elim
    (λ (e : t ≡ s). (rw e v.0, rw e v.1, rw e v.2))
    (λ (n : Memᴰ t l). h t n)
    (member_insert s l t m)

pub proper-filter : (ok : ℕ → Bool) (q : Star → Bool) (l : List Star) → Proper ok l → Proper ok (filter q l)
proper-filter ok q l h t m = h t (member_filter q l t m).0

pub rising-one : (l : List Star) → Rising 0 l → Numbered l → Rising 1 l
rising-one [] r h = tt
rising-one (s ∷ l) r h = (h s (Memᴰ.head refl), r.1)

-- What an item of an orderly page is: empty, or a star.
data Item (ok : ℕ → Bool) (last n w o : ℕ) (ns ws os : List ℕ) : Type 0 where
  empty : n ≡ 0 → w ≡ 0 → o ≡ 0 → orderly ok greatest ns ws os ≡ true → stars_of (n ∷ ns) (w ∷ ws) (o ∷ os) ≡ stars_of ns ws os → Item ok last n w o ns ws os
  star : last < n → n ≤ greatest → ok w ≡ true → orderly ok n ns ws os ≡ true → stars_of (n ∷ ns) (w ∷ ws) (o ∷ os) ≡ star_with n w o ∷ stars_of ns ws os → Item ok last n w o ns ws os

picked : (t a b : Bool) → cond t a b ≡ true → ((t ≡ true) × (a ≡ true)) ⊎ ((t ≡ false) × (b ≡ true))
picked true a b e = inl (refl, e)
picked false a b e = inr (refl, e)

item : (ok : ℕ → Bool) (last n w o : ℕ) (ns ws os : List ℕ) → orderly ok last (n ∷ ns) (w ∷ ws) (o ∷ os) ≡ true → Item ok last n w o ns ws os
unfolding orderly stars_of
item ok last n w o ns ws os e =
    ⊎_elim
    (λ h.
    let a = and-true (eqb w 0) _ h.1 in
    let b = and-true (eqb o 0) _ a.1 in
    empty (eqb-true n 0 h.0) (eqb-true w 0 a.0) (eqb-true o 0 b.0) b.1 (rw h.0))
    (λ h.
    let a = and-true (ltb last n) _ h.1 in
    let b = and-true (leb n greatest) _ a.1 in
    let c = and-true (ok w) _ b.1 in
    star (ltb-true last n a.0) (leb-true n greatest b.0) c.0 c.1 (rw h.0))
    (picked (eqb n 0) _ _ e)

pub orderly-rising : (ok : ℕ → Bool) (last : ℕ) (ns ws os : List ℕ) → last ≤ greatest → orderly ok last ns ws os ≡ true → Rising (suc last) (stars_of ns ws os)
unfolding stars_of
orderly-rising ok last [] ws os h e = tt
orderly-rising ok last (n ∷ ns) [] os h e = tt
orderly-rising ok last (n ∷ ns) (w ∷ ws) [] h e = tt
orderly-rising ok last (n ∷ ns) (w ∷ ws) (o ∷ os) h e =
    go (orderly-rising ok greatest ns ws os (le_refl greatest)) (orderly-rising ok n ns ws os) (item ok last n w o ns ws os e)
  where
    go : (orderly ok greatest ns ws os ≡ true → Rising (suc greatest) (stars_of ns ws os)) → (n ≤ greatest → orderly ok n ns ws os ≡ true → Rising (suc n) (stars_of ns ws os))
        → Item ok last n w o ns ws os → Rising (suc last) (stars_of (n ∷ ns) (w ∷ ws) (o ∷ os))
    go ih₀ ih (empty z y x d s) = rw s (rising-less (suc last) (suc greatest) (stars_of ns ws os) (omega arith) (ih₀ d))
    go ih₀ ih (star l g v d s) = rw s (l, ih g d)

pub orderly-proper : (ok : ℕ → Bool) (last : ℕ) (ns ws os : List ℕ) → orderly ok last ns ws os ≡ true → Proper ok (stars_of ns ws os)
unfolding stars_of
orderly-proper ok last [] ws os e s m = absurd (Memᴰ.not-nil m)
orderly-proper ok last (n ∷ ns) [] os e s m = absurd (Memᴰ.not-nil m)
orderly-proper ok last (n ∷ ns) (w ∷ ws) [] e s m = absurd (Memᴰ.not-nil m)
orderly-proper ok last (n ∷ ns) (w ∷ ws) (o ∷ os) e s m =
    go (orderly-proper ok greatest ns ws os) (orderly-proper ok n ns ws os) (item ok last n w o ns ws os e) m
  where
    go : (orderly ok greatest ns ws os ≡ true → Proper ok (stars_of ns ws os)) → (orderly ok n ns ws os ≡ true → Proper ok (stars_of ns ws os)) → Item ok last n w o ns ws os
        → Memᴰ s (stars_of (n ∷ ns) (w ∷ ws) (o ∷ os)) → (1 ≤ s.number) × (s.number ≤ greatest) × (ok s.payload.word ≡ true)
    go ih₀ ih (empty z y x d q) m = ih₀ d s (rw q at m)
    go ih₀ ih (star l g v d q) m =
        ⊎_elim
        (λ (c : s ≡ star_with n w o).
        (omega (arith, ap (λ (x : Star). x.number) c), omega (arith, ap (λ (x : Star). x.number) c), ap (λ (x : Star). ok x.payload.word) c ∙ v))
        (λ (k : Memᴰ s (stars_of ns ws os)). ih d s k)
        (Memᴰ.cases_cons (rw q at m))

pub length-stars_of : (ns ws os : List ℕ) → length (stars_of ns ws os) ≤ length ns
unfolding stars_of
length-stars_of [] ws os = le_refl 0
length-stars_of (n ∷ ns) [] os = omega arith
length-stars_of (n ∷ ns) (w ∷ ws) [] = omega arith
length-stars_of (n ∷ ns) (w ∷ ws) (o ∷ os) = go (not (eqb n 0)) (length-stars_of ns ws os)
  where
    go : (t : Bool) → length (stars_of ns ws os) ≤ length ns → length (keep t (star_with n w o) (stars_of ns ws os)) ≤ suc (length ns)
    go true ih = omega arith
    go false ih = omega arith

-- Items of so many zeros, and no star among them.
abbrev Blank : ℕ → List ℕ → List ℕ → List ℕ → Type 0
Blank n ns ws os = (ns ≡ replicate n 0) × (ws ≡ replicate n 0) × (os ≡ replicate n 0) × (stars_of ns ws os ≡ [])

-- After an empty place all are empty.
empties : (ok : ℕ → Bool) (ns ws os : List ℕ) → length ns ≡ length ws → length ns ≡ length os → orderly ok greatest ns ws os ≡ true → Blank (length ns) ns ws os
unfolding stars_of orderly
empties ok [] [] [] h k e = (refl, refl, refl, refl)
empties ok [] (w ∷ ws) os h k e = absurd (omega arith)
empties ok [] [] (o ∷ os) h k e = absurd (omega arith)
empties ok (n ∷ ns) [] os h k e = absurd (omega arith)
empties ok (n ∷ ns) (w ∷ ws) [] h k e = absurd (omega arith)
empties ok (n ∷ ns) (w ∷ ws) (o ∷ os) h k e = go (empties ok ns ws os (omega arith) (omega arith)) (item ok greatest n w o ns ws os e)
  where
    before : (x : ℕ) (l : List ℕ) → x ≡ 0 → l ≡ replicate (length ns) 0 → x ∷ l ≡ 0 ∷ replicate (length ns) 0
    before x l z t = ap (λ (i : ℕ). i ∷ l) z ∙ ap (λ (m : List ℕ). 0 ∷ m) t

    go : (orderly ok greatest ns ws os ≡ true → Blank (length ns) ns ws os) → Item ok greatest n w o ns ws os → Blank (suc (length ns)) (n ∷ ns) (w ∷ ws) (o ∷ os)
    go ih (empty z y x d q) = (before n ns z (ih d).0, before w ws y (ih d).1, before o os x (ih d).2, q ∙ (ih d).3)
    go ih (star l g v d q) = absurd (omega arith)

padded-nil : (n : ℕ) → padded n [] ≡ replicate n 0
unfolding padded
padded-nil n = rw (sub-zero n)

padded-cons : (n x : ℕ) (l : List ℕ) → padded (suc n) (x ∷ l) ≡ x ∷ padded n l
unfolding padded
padded-cons n x l = rw (suc-sub-suc n (length l))

stars_of-nil : (ws os : List ℕ) → stars_of [] ws os ≡ []
unfolding stars_of
stars_of-nil ws os = refl

-- Items that are the columns of these stars, padded.
abbrev pub Columns : ℕ → List ℕ → List ℕ → List ℕ → List Star → Type 0
Columns k ns ws os l =
    (ns ≡ padded k (map (λ (s : Star). s.number) l)) × (ws ≡ padded k (map (λ (s : Star). s.payload.word) l)) × (os ≡ padded k (map (λ (s : Star). s.payload.owner) l))

-- The items of an orderly page are its stars, padded.
pub orderly-columns : (ok : ℕ → Bool) (last : ℕ) (ns ws os : List ℕ) → length ns ≡ length ws → length ns ≡ length os → orderly ok last ns ws os ≡ true
    → Columns (length ns) ns ws os (stars_of ns ws os)
orderly-columns ok last [] [] [] h k e =
    (rw (stars_of-nil [] [], padded-nil 0), rw (stars_of-nil [] [], padded-nil 0), rw (stars_of-nil [] [], padded-nil 0))
orderly-columns ok last [] (w ∷ ws) os h k e = absurd (omega arith)
orderly-columns ok last [] [] (o ∷ os) h k e = absurd (omega arith)
orderly-columns ok last (n ∷ ns) [] os h k e = absurd (omega arith)
orderly-columns ok last (n ∷ ns) (w ∷ ws) [] h k e = absurd (omega arith)
orderly-columns ok last (n ∷ ns) (w ∷ ws) (o ∷ os) h k e =
    go (empties ok ns ws os (omega arith) (omega arith)) (orderly-columns ok n ns ws os (omega arith) (omega arith)) (item ok last n w o ns ws os e)
  where
    nothing : (x : ℕ) (l : List ℕ) → x ≡ 0 → l ≡ replicate (length ns) 0 → x ∷ l ≡ padded (suc (length ns)) []
    nothing x l z t = ap (λ (i : ℕ). i ∷ l) z ∙ ap (λ (m : List ℕ). 0 ∷ m) t ∙ sym (padded-nil (suc (length ns)))

    longer : (x : ℕ) (l m : List ℕ) → l ≡ padded (length ns) m → x ∷ l ≡ padded (suc (length ns)) (x ∷ m)
    longer x l m t = ap (λ (i : List ℕ). x ∷ i) t ∙ sym (padded-cons (length ns) x m)

    go : (orderly ok greatest ns ws os ≡ true → Blank (length ns) ns ws os)
        → (orderly ok n ns ws os ≡ true → Columns (length ns) ns ws os (stars_of ns ws os)) → Item ok last n w o ns ws os
        → Columns (suc (length ns)) (n ∷ ns) (w ∷ ws) (o ∷ os) (stars_of (n ∷ ns) (w ∷ ws) (o ∷ os))
    go none more (empty z y x d q) =
        let E = none d in
        rw (q ∙ E.3) (nothing n ns z E.0, nothing w ws y E.1, nothing o os x E.2)
    go none more (star l g v d q) =
        let E = more d in
        rw q (
          longer n ns (map (λ (s : Star). s.number) (stars_of ns ws os)) E.0,
          longer w ws (map (λ (s : Star). s.payload.word) (stars_of ns ws os)) E.1,
          longer o os (map (λ (s : Star). s.payload.owner) (stars_of ns ws os)) E.2,
        )

none_made : (i j k : ℕ) → stars_of (replicate i 0) (replicate j 0) (replicate k 0) ≡ []
unfolding stars_of
none_made zero j k = refl
none_made (suc i) zero k = refl
none_made (suc i) (suc j) zero = refl
none_made (suc i) (suc j) (suc k) = none_made i j k

pub stars_of-made : (l : List Star) (i j k : ℕ) → Numbered l
    → stars_of (map (λ (s : Star). s.number) l ++ replicate i 0) (map (λ (s : Star). s.payload.word) l ++ replicate j 0) (map (λ (s : Star). s.payload.owner) l ++ replicate k 0) ≡ l
unfolding stars_of
stars_of-made [] i j k h = none_made i j k
stars_of-made (s ∷ l) i j k h =
    rw (ne_eqb s.number 0 (λ z. omega (arith, z, h s (Memᴰ.head refl)))) (ap (λ (m : List Star). s ∷ m) (stars_of-made l i j k (λ t m. h t (Memᴰ.tail m))))

pub stars_of-padded : (n : ℕ) (l : List Star) → Numbered l
    → stars_of (padded n (map (λ (s : Star). s.number) l)) (padded n (map (λ (s : Star). s.payload.word) l)) (padded n (map (λ (s : Star). s.payload.owner) l)) ≡ l
unfolding padded
stars_of-padded n l h =
    stars_of-made l (n - length (map (λ (s : Star). s.number) l)) (n - length (map (λ (s : Star). s.payload.word) l)) (n - length (map (λ (s : Star). s.payload.owner) l)) h

empty-made : (ok : ℕ → Bool) (last i : ℕ) → orderly ok last (replicate i 0) (replicate i 0) (replicate i 0) ≡ true
unfolding orderly
empty-made ok last zero = refl
empty-made ok last (suc i) = empty-made ok greatest i

orderly-made : (ok : ℕ → Bool) (last i : ℕ) (l : List Star) → Rising (suc last) l → Proper ok l
    → orderly ok last (map (λ (s : Star). s.number) l ++ replicate i 0) (map (λ (s : Star). s.payload.word) l ++ replicate i 0) (map (λ (s : Star). s.payload.owner) l ++ replicate i 0) ≡ true
unfolding orderly
orderly-made ok last i [] r h = empty-made ok last i
orderly-made ok last i (s ∷ l) r h =
    let p = h s (Memᴰ.head refl) in
    rw (ne_eqb s.number 0 (λ z. omega (arith, z, p.0)), lt-ltb last s.number r.0, le-leb s.number greatest p.1, p.2)
    (orderly-made ok s.number i l r.1 (λ t m. h t (Memᴰ.tail m)))

pub orderly-padded : (ok : ℕ → Bool) (n : ℕ) (l : List Star) → Rising 1 l → Proper ok l
    → orderly ok 0 (padded n (map (λ (s : Star). s.number) l)) (padded n (map (λ (s : Star). s.payload.word) l)) (padded n (map (λ (s : Star). s.payload.owner) l)) ≡ true
unfolding padded
orderly-padded ok n l r h =
    rw (length-map l (λ (s : Star). s.number), length-map l (λ (s : Star). s.payload.word), length-map l (λ (s : Star). s.payload.owner)) (orderly-made ok 0 (n - length l) l r h)
