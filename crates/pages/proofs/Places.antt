-- The place of a number in a page: it is within the page; in an orderly page (numbers that rise strictly, then empty places) a
-- number is held exactly if it occurs. `Searched` is what the loop of `search` keeps.
-- Assumes nothing.
use mathlib.Core.Path.{◌≡◌, refl, sym, ◌∙◌}
use mathlib.Core.Bool.{Bool, true, false, cond, ◌&&◌, or-true, true≢false, and-eq-true_iff}
use mathlib.Core.List.Memᴰ
use mathlib.Core.List.{List, [], ◌∷◌, ◌++◌, Memᴰ}
use Prim.Native.Nat.{ℕ, zero, suc, ◌+◌, ◌≤◌, ◌<◌, zero-le, suc-le-suc}
use native.Mathlib.Nat.{zero-add, suc-add, add-suc, add-zero, not-suc-le-zero, le_of_suc-le-suc}
use native.Mathlib.Numerals.{add-one}
use native.Mathlib.Omega.{arith}
use borrow.Author.Tests.{ltb-true, eqb-true, lt-ltb, le-ltb, le-leb, lt-leb, eq-eqb, ne_eqb}
use lib.Dec.{ltb, eqb}
use lib.ListN.{length, take, drop, get_or, replicate, drop_of_length-le}
use lib.Seq.{length-take-le, drop-cons, get_or-take}
use Rattle.pages.specs.Page.{stops, place_of, held_at, empties}
use Rattle.pages.specs.Shape.{place_in, rising, orderly_numbers}

cond-le : (t : Bool) {x y : ℕ} → x ≤ y → cond t 0 (suc x) ≤ suc y
cond-le true h = zero-le
cond-le false h = suc-le-suc h

pub place-le : (k : ℕ) (ns : List ℕ) → place_of k ns ≤ length ns
unfolding place_of
place-le k [] = zero-le
place-le k (n ∷ ns) = cond-le (stops k n) (place-le k ns)

-- a number that is held stands at its place
pub held-there : (k : ℕ) (ns : List ℕ) → held_at k ns ≡ true → (place_of k ns < length ns) × (get_or ns (place_of k ns) 0 ≡ k)
unfolding held_at
held-there k ns e =
    let h = (and-eq-true_iff (ltb (place_of k ns) (length ns)) _).0 e in
    (ltb-true _ _ h.0, eqb-true _ _ h.1)

member_at : (ns : List ℕ) (i : ℕ) → i < length ns → Memᴰ (get_or ns i 0) ns
member_at [] i h = absurd (not-suc-le-zero h)
member_at (n ∷ ns) zero h = Memᴰ.head refl
member_at (n ∷ ns) (suc i) h = Memᴰ.tail (member_at ns i (le_of_suc-le-suc h))

place-of_member : {k : ℕ} {ns : List ℕ} → Memᴰ k ns → (i : ℕ) × ((i < length ns) × (get_or ns i 0 ≡ k))
place-of_member (Memᴰ.head e) = (0, (suc-le-suc zero-le, sym e))
place-of_member (Memᴰ.tail m) =
    let r = place-of_member m in
    (suc r.0, (suc-le-suc r.1.0, r.1.1))

pub held-member : (k : ℕ) (ns : List ℕ) → held_at k ns ≡ true → Memᴰ k ns
held-member k ns e =
    let h = held-there k ns e in
    Memᴰ.cast (sym h.1) (member_at ns (place_of k ns) h.0)

empty-at : (ns : List ℕ) (i : ℕ) → empties ns ≡ true → get_or ns i 0 ≡ 0
unfolding empties
empty-at [] i e = refl
empty-at (n ∷ ns) zero e = eqb-true n 0 ((and-eq-true_iff (eqb n 0) (empties ns)).0 e).0
empty-at (n ∷ ns) (suc i) e = empty-at ns i ((and-eq-true_iff (eqb n 0) (empties ns)).0 e).1

-- an orderly page that begins with n: only empty places, or n and an orderly rest above it
data Begins (low n : ℕ) (ns : List ℕ) : Type 0 where
  empty : n ≡ 0 → empties ns ≡ true → Begins low n ns
  star : low < n → orderly_numbers n ns ≡ true → Begins low n ns

begins : (low n : ℕ) (ns : List ℕ) → orderly_numbers low (n ∷ ns) ≡ true → Begins low n ns
unfolding orderly_numbers
begins low n ns = go (eqb n 0) refl
  where
    go : (t : Bool) → eqb n 0 ≡ t → cond t (empties ns) (ltb low n && orderly_numbers n ns) ≡ true → Begins low n ns
    go true z e = empty (eqb-true n 0 z) e
    go false z e =
        let h = (and-eq-true_iff (ltb low n) (orderly_numbers n ns)).0 e in
        star (ltb-true low n h.0) h.1

-- its numbers are above `low`
pub orderly-above : (low : ℕ) (ns : List ℕ) (i : ℕ) → orderly_numbers low ns ≡ true → 1 ≤ get_or ns i 0 → low < get_or ns i 0
orderly-above low [] i e h = absurd (not-suc-le-zero h)
orderly-above low (n ∷ ns) i e h = go i (begins low n ns e) h (λ (j : ℕ) o. orderly-above n ns j o)
  where
    go : (i : ℕ) → Begins low n ns → 1 ≤ get_or (n ∷ ns) i 0 → ((j : ℕ) → orderly_numbers n ns ≡ true → 1 ≤ get_or ns j 0 → n < get_or ns j 0) → low < get_or (n ∷ ns) i 0
    go zero (empty z o) h below = omega arith
    go zero (star l o) h below = l
    go (suc i) (empty z o) h below = omega (arith, empty-at ns i o)
    go (suc i) (star l o) h below = omega (arith, below i o h)

stops_at : (k n : ℕ) → k ≤ n → stops k n ≡ true
stops_at k n h = rw (le-leb k n h) (or-true (eqb n 0))

passes : (k n : ℕ) → 0 < n → n < k → stops k n ≡ false
passes k n h b = rw (ne_eqb n 0 (omega arith), lt-leb k n b)

-- the search ends at the place that holds k
pub place_is : (low k : ℕ) (ns : List ℕ) (i : ℕ) → orderly_numbers low ns ≡ true → 1 ≤ k → i < length ns → get_or ns i 0 ≡ k → place_of k ns ≡ i
unfolding place_of
place_is low k [] i e h b g = absurd (not-suc-le-zero b)
place_is low k (n ∷ ns) zero e h b g = rw (stops_at k n (omega arith))
place_is low k (n ∷ ns) (suc i) e h b g =
    go (begins low n ns e) (λ o. place_is n k ns i o h (le_of_suc-le-suc b) g)
  where
    go : Begins low n ns → (orderly_numbers n ns ≡ true → place_of k ns ≡ i) → cond (stops k n) 0 (suc (place_of k ns)) ≡ suc i
    go (empty z o) rest = absurd (not-zero (empty-at ns i o))
      where
        not-zero : get_or ns i 0 ≡ 0 → ⊥
        not-zero z = omega arith
    go (star l o) rest =
        let above : n < k = omega (arith, orderly-above n ns i o (omega arith)) in
        rw (passes k n (omega arith) above, rest o)

pub held-at : (low k : ℕ) (ns : List ℕ) (i : ℕ) → orderly_numbers low ns ≡ true → 1 ≤ k → i < length ns → get_or ns i 0 ≡ k → held_at k ns ≡ true
unfolding held_at
held-at low k ns i e h b g = rw (place_is low k ns i e h b g, lt-ltb i (length ns) b, eq-eqb (get_or ns i 0) k g)

pub member_held : (low k : ℕ) (ns : List ℕ) → orderly_numbers low ns ≡ true → 1 ≤ k → Memᴰ k ns → held_at k ns ≡ true
member_held low k ns e h m =
    let r = place-of_member m in
    held-at low k ns r.0 e h r.1.0 r.1.1

pub not_held : (low k : ℕ) (ns : List ℕ) → orderly_numbers low ns ≡ true → 1 ≤ k → held_at k ns ≡ false → Memᴰ k ns → ⊥
not_held low k ns e h f m = true≢false (sym (member_held low k ns e h m) ∙ f)

empties-none : (z : ℕ) → empties (replicate z 0) ≡ true
unfolding empties
empties-none zero = refl
empties-none (suc z) = empties-none z

-- numbers that rise strictly, with empty places behind, are orderly
pub rising-orderly : (low : ℕ) (rs : List ℕ) (z : ℕ) → rising low rs ≡ true → orderly_numbers low (rs ++ replicate z 0) ≡ true
unfolding rising orderly_numbers
rising-orderly low [] zero e = refl
rising-orderly low [] (suc z) e = empties-none z
rising-orderly low (n ∷ rs) z e =
    let h = (and-eq-true_iff (ltb low n) (rising n rs)).0 e in
    let l : low < n = ltb-true low n h.0 in
    rw (ne_eqb n 0 (omega arith), h.0) (rising-orderly n rs z h.1)

-- the search of k has passed i of the first `places` numbers
pub record Passed (places k : ℕ) (ns : List ℕ) (i : ℕ) : Type 0 where
  pub whole : places ≤ length ns
  pub is : place_of k (take places ns) ≡ i + place_of k (drop i (take places ns))

pub passed_none : (places k : ℕ) (ns : List ℕ) → places ≤ length ns → Passed places k ns 0
passed_none places k ns h = record { whole = h; is = rw zero-add }

module _ {places k i : ℕ} {ns : List ℕ} (before : Passed places k ns i) where
  next : i < places → drop i (take places ns) ≡ get_or ns i 0 ∷ drop (suc i) (take places ns)
  next b =
      let here : i < length (take places ns) = rw (length-take-le places ns before.whole) b in
      rw (drop-cons (take places ns) i 0 here, get_or-take places ns i 0 b)

  pub passed-more : i < places → stops k (get_or ns i 0) ≡ false → Passed places k ns (i + 1)
  unfolding place_of
  passed-more b e = record { whole = before.whole; is = rw (before.is, next b, e, add-one, suc-add, add-suc) }

  pub passed-found : i < places → stops k (get_or ns i 0) ≡ true → record { at = i; held = eqb (get_or ns i 0) k } ≡ place_in k (take places ns)
  unfolding place_of held_at
  passed-found b e =
      let place : place_of k (take places ns) ≡ i = before.is ∙ rw (next b, e, add-zero) in
      rw (place, length-take-le places ns before.whole, lt-ltb i places b, get_or-take places ns i 0 b)

  pub passed-all : i ≡ places → record { at = places; held = false } ≡ place_in k (take places ns)
  unfolding place_of held_at
  passed-all e =
      let size : length (take places ns) ≡ places = length-take-le places ns before.whole in
      let none : drop places (take places ns) ≡ [] = drop_of_length-le (take places ns) {i = places} (omega arith) in
      let place : place_of k (take places ns) ≡ places = before.is ∙ rw (e, none, add-zero) in
      rw (place, size, le-ltb places places (omega arith))

-- the same of a search over the numbers alone
pub record Searched (k : ℕ) (ns : List ℕ) (i : ℕ) : Type 0 where
  pub is : place_of k ns ≡ i + place_of k (drop i ns)

pub searched_none : (k : ℕ) (ns : List ℕ) → Searched k ns 0
searched_none k ns = record { is = rw zero-add }

module _ {k i : ℕ} {ns : List ℕ} (before : Searched k ns i) where
  pub searched-more : i < length ns → stops k (get_or ns i 0) ≡ false → Searched k ns (i + 1)
  unfolding place_of
  searched-more b e = record { is = rw (before.is, drop-cons ns i 0 b, e, add-one, suc-add, add-suc) }

  pub searched-found : i < length ns → stops k (get_or ns i 0) ≡ true → record { at = i; held = eqb (get_or ns i 0) k } ≡ place_in k ns
  unfolding place_of held_at
  searched-found b e =
      let place : place_of k ns ≡ i = before.is ∙ rw (drop-cons ns i 0 b, e, add-zero) in
      rw (place, lt-ltb i (length ns) b)

  pub searched-all : {places : ℕ} → length ns ≡ places → i ≡ places → record { at = places; held = false } ≡ place_in k ns
  unfolding place_of held_at
  searched-all {places} e h =
      let none : drop i ns ≡ [] = drop_of_length-le ns (omega arith) in
      let place : place_of k ns ≡ places = before.is ∙ rw (none, h, add-zero) in
      rw (place, le-ltb places (length ns) (omega arith))
