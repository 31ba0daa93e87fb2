-- The stretch's words: they carry true homes, fall into the stretch's groups, name their sources, and stand for the stretch's stars.
use mathlib.Core.Path.{◌≡◌, refl, sym, ap, ◌∙◌}
use mathlib.Core.Bool.{Bool, true, false, cond, not, ◌&&◌, ◌||◌, or-true}
use mathlib.Core.List.{List, [], ◌∷◌, ◌++◌, map}
use Prim.Native.Nat.{ℕ, zero, suc, ◌+◌, ◌-◌, ◌*◌, ◌/◌, ◌%◌, ◌^◌, ◌≤◌, ◌<◌}
use native.Mathlib.Nat.{le_refl, add-mul, zero-mul, add-suc, suc-add, add-zero}
use native.Mathlib.Numerals.{add-one}
use native.Mathlib.Decide.{dec_le}
use native.Mathlib.Omega.{arith}
use lib.Dec.{leb, ltb, eqb}
use lib.ListN.{length, drop, get_or, length-drop, get_or-map, get_or-eq_default}
use lib.Seq.{get_or-take, get_or-drop, length-take-le}
use borrow.Author.Tests.{le-leb, lt-leb, lt-ltb, leb-true, leb-false, ltb-true, eq-eqb, eqb-false, not-true}
use Rattle.buffers.proofs.Tests.{and-true, either-false}
use Rattle.buffers.proofs.Lists.{within}
use Rattle.placement.specs.Rule.{Star, Hash, keep, insert, pour, without, star_with}
use Rattle.placement.specs.Rule.{filter as select}
use Rattle.pages.specs.Page.{part}
use Rattle.pages.specs.Shape.{stretch}
use Rattle.pages.proofs.Parts.{part_length, pages-apart, stretch-suc}
use Rattle.placement.specs.File.{File, stars_of, stars_at, gathered}
use Rattle.placement.proofs.Search.{stars_of-append}
use Rattle.placement.proofs.Order.{pour-append}
use Rattle.placement.proofs.Order.{filter-pour as select-pour}
use Rattle.placement.proofs.Mapping.{pour-map, insert-map}
use Rattle.page_separator.specs.Lists.{all, all_below}
use Rattle.page_separator.specs.Words.{pack, home_of, number_in, source_of, low_of}
use Rattle.page_plan.specs.Gather.{skipped, words_from, group_of, groups_below}
use Rattle.page_plan.specs.Settle.{insert_low, pour_low, slots_of}
use Rattle.page_separator.proofs.Lists.{all_head, all_tail, all_cons, all_get_d, all-mono}
use Rattle.page_separator.proofs.Packing.{home-pack, number-pack, source_pack}
use Rattle.page_plan.specs.Sources.{named_item, renamed, sourced}
use Rattle.page_plan.specs.Plans.{star_of, waits, homed}
use Rattle.page_plan.proofs.Pouring.{pour-cons}
use Rattle.page_plan.proofs.Applying.{renamed_keeps}
use Rattle.page_plan.proofs.Blocks.{from}

-- a test that every word of the items passes
pub all_words : (q : ℕ → Bool) (at k : ℕ) (ns hs : List ℕ)
    → ((i : ℕ) → i < length ns → i < length hs → skipped k (get_or ns i 0) ≡ false → q (pack (get_or hs i 0) (get_or ns i 0) (suc (at + i))) ≡ true)
    → all q (words_from at k ns hs) ≡ true
unfolding words_from
all_words q at k [] hs t = unfold all in refl
all_words q at k (n ∷ ns) [] t = unfold all in refl
all_words q at k (n ∷ ns) (h ∷ hs) t =
    go (skipped k n) refl (all_words q (suc at) k ns hs (λ i a b e. rw (suc-add at i, ← add-suc at i) (t (suc i) (omega arith) (omega arith) e)))
  where
    go : (s : Bool) → skipped k n ≡ s → all q (words_from (suc at) k ns hs) ≡ true
        → all q (cond s (words_from (suc at) k ns hs) (pack h n (suc at) ∷ words_from (suc at) k ns hs)) ≡ true
    go true e ih = ih
    go false e ih =
        all_cons q (pack h n (suc at)) (words_from (suc at) k ns hs)
        (rw (add-zero at) at (t 0 (omega arith) (omega arith) e)) ih

item-below : (b : ℕ) (l : List ℕ) (i : ℕ) → all_below b l ≡ true → i < length l → get_or l i 0 < b
item-below b l i e h = ltb-true (get_or l i 0) b (all_get_d (λ x. ltb x b) l i e h)

unskipped : (k n : ℕ) → skipped k n ≡ false → (eqb n 0 ≡ false) × (eqb n k ≡ false)
unfolding skipped
unskipped k n = either-false (eqb n 0) (eqb n k)

-- the home of an item's star, 0 for an empty place
unfoldable pub item_home : Hash → ℕ → ℕ
item_home H n = cond (eqb n 0) 0 (H.home n)

module _ (at k : ℕ) (ns hs : List ℕ) (valid : all_below (2 ^ 31) ns ≡ true) (items : at + length ns < 2 ^ 16) where
  pub words-homed : (H : Hash) → hs ≡ map (item_home H) ns → homed H (words_from at k ns hs) ≡ true
  unfolding homed item_home
  words-homed H e =
      all_words (λ w. eqb (H.home (number_in w)) (home_of w)) at k ns hs
      (λ i a b s.
      let small : get_or ns i 0 < 2 ^ 31 = item-below (2 ^ 31) ns i valid a in
      let there : get_or hs i 0 ≡ H.home (get_or ns i 0) =
      ap (λ (l : List ℕ). get_or l i 0) e ∙ get_or-map (item_home H) ns i 0 ∙ rw (unskipped k (get_or ns i 0) s).0 in
      rw (number-pack (get_or hs i 0) (get_or ns i 0) (suc (at + i)) small (omega arith), home-pack (get_or hs i 0) (get_or ns i 0) (suc (at + i)) small (omega arith))
      (eq-eqb (H.home (get_or ns i 0)) (get_or hs i 0) (sym there)))

  pub words-grouped : (lo n : ℕ) → 0 < n → all_below (lo + n) hs ≡ true → groups_below lo n (words_from at k ns hs) ≡ true
  unfolding group_of
  words-grouped lo n some e =
      all_words (λ w. ltb (group_of lo w) n) at k ns hs
      (λ i a b s.
      let small : get_or ns i 0 < 2 ^ 31 = item-below (2 ^ 31) ns i valid a in
      let low : get_or hs i 0 < lo + n = item-below (lo + n) hs i e b in
      rw (home-pack (get_or hs i 0) (get_or ns i 0) (suc (at + i)) small (omega arith))
      (lt-ltb (get_or hs i 0 - lo) n (omega arith)))

  pub words-sourced : (all-numbers : List ℕ) (new : ℕ) → ((i : ℕ) → i < length ns → named_item all-numbers new (suc (at + i)) ≡ get_or ns i 0)
      → sourced all-numbers new (words_from at k ns hs) ≡ true
  unfolding sourced
  words-sourced l new e =
      all_words (λ w. eqb (named_item l new (source_of w)) (number_in w)) at k ns hs
      (λ i a b s.
      let small : get_or ns i 0 < 2 ^ 31 = item-below (2 ^ 31) ns i valid a in
      rw (number-pack (get_or hs i 0) (get_or ns i 0) (suc (at + i)) small (omega arith), source_pack (get_or hs i 0) (get_or ns i 0) (suc (at + i)) (omega arith))
      (eq-eqb (named_item l new (suc (at + i))) (get_or ns i 0) (e i a)))

-- the star of x goes before that of y, whichever is inserted later
unfoldable pub leads : ℕ → ℕ → Bool
leads x y = leb x y || ltb (y / 2 ^ 16) (x / 2 ^ 16)

leads-same : (x y : ℕ) → leads x y ≡ true → leb x y ≡ leb (x / 2 ^ 16) (y / 2 ^ 16)
unfolding leads
leads-same x y = go (leb x y) refl
  where
    go : (t : Bool) → leb x y ≡ t → t || ltb (y / 2 ^ 16) (x / 2 ^ 16) ≡ true → t ≡ leb (x / 2 ^ 16) (y / 2 ^ 16)
    go true e l = sym (le-leb (x / 2 ^ 16) (y / 2 ^ 16) (omega (arith, leb-true x y e)))
    go false e l = sym (lt-leb (x / 2 ^ 16) (y / 2 ^ 16) (ltb-true (y / 2 ^ 16) (x / 2 ^ 16) l))

-- a word before all of a list
unfoldable pub led : ℕ → List ℕ → Bool
led x l = all (λ y. leads (low_of x) (low_of y)) l

-- each word before all later ones
unfoldable pub ordered : List ℕ → Bool
ordered [] = true
ordered (x ∷ l) = led x l && ordered l

star-insert : (x : ℕ) (l : List ℕ) → all (leads x) l ≡ true → map star_of (insert_low x l) ≡ insert (star_of x) (map star_of l)
unfolding insert_low insert star_of
star-insert x [] e = refl
star-insert x (y ∷ l) e =
    ap (λ (t : Bool). map star_of (cond t (x ∷ y ∷ l) (y ∷ insert_low x l))) (leads-same x y (all_head (leads x) y l e))
    ∙ go (leb (x / 2 ^ 16) (y / 2 ^ 16)) (star-insert x l (all_tail (leads x) y l e))
  where
    go : (t : Bool) → map star_of (insert_low x l) ≡ insert (star_of x) (map star_of l)
        → map star_of (cond t (x ∷ y ∷ l) (y ∷ insert_low x l)) ≡ cond t (star_of x ∷ star_of y ∷ map star_of l) (star_of y ∷ insert (star_of x) (map star_of l))
    go true ih = refl
    go false ih = ap (λ (s : List Star). star_of y ∷ s) ih

pub all_insert : (q : ℕ → Bool) (x : ℕ) (l : List ℕ) → q x ≡ true → all q l ≡ true → all q (insert_low x l) ≡ true
unfolding insert_low
all_insert q x [] e h = all_cons q x [] e h
all_insert q x (y ∷ l) e h = go (leb x y) (all_insert q x l e (all_tail q y l h))
  where
    go : (t : Bool) → all q (insert_low x l) ≡ true → all q (cond t (x ∷ y ∷ l) (y ∷ insert_low x l)) ≡ true
    go true ih = all_cons q x (y ∷ l) e h
    go false ih = all_cons q y (insert_low x l) (all_head q y l h) ih

all_slots : (q : ℕ → Bool) (l : List ℕ) → all (λ w. q (low_of w)) l ≡ true → all q (slots_of l) ≡ true
unfolding slots_of
all_slots q [] e = unfold all pour_low in refl
all_slots q (x ∷ l) e =
    ap (all q) (pour-cons (low_of x) (map low_of l) [])
    ∙ all_insert q (low_of x) (pour_low (map low_of l) []) (all_head (λ w. q (low_of w)) x l e) (all_slots q l (all_tail (λ w. q (low_of w)) x l e))

-- one more word is one more star inserted
pub waits-cons : (x : ℕ) (l : List ℕ) → led x l ≡ true → waits (x ∷ l) ≡ insert (star_of (low_of x)) (waits l)
unfolding waits slots_of led
waits-cons x l e =
    ap (map star_of) (pour-cons (low_of x) (map low_of l) [])
    ∙ star-insert (low_of x) (slots_of l) (all_slots (leads (low_of x)) l e)

pub waits-poured : (l : List ℕ) → ordered l ≡ true → waits l ≡ pour (map (λ w. star_of (low_of w)) l) []
unfolding ordered pour
waits-poured [] e = unfold waits slots_of pour_low in refl
waits-poured (x ∷ l) e =
    let t = and-true (led x l) (ordered l) e in
    waits-cons x l t.0 ∙ ap (insert (star_of (low_of x))) (waits-poured l t.1)

-- words of items in order, and a word whose number is none of theirs
low-of_pack : (h k s : ℕ) → k < 2 ^ 31 → s < 2 ^ 16 → low_of (pack h k s) ≡ k * 2 ^ 16 + s
unfolding pack low_of
low-of_pack h k s hk hs = omega arith

earlier : (k s k' s' : ℕ) → s < 2 ^ 16 → s' < 2 ^ 16 → s ≤ s' → leads (k * 2 ^ 16 + s) (k' * 2 ^ 16 + s') ≡ true
unfolding leads
earlier k s k' s' h h' le = go (dec_le k k')
  where
    go : Dec (k ≤ k') → leb (k * 2 ^ 16 + s) (k' * 2 ^ 16 + s') || ltb ((k' * 2 ^ 16 + s') / 2 ^ 16) ((k * 2 ^ 16 + s) / 2 ^ 16) ≡ true
    go (yes p) = rw (le-leb (k * 2 ^ 16 + s) (k' * 2 ^ 16 + s') (omega arith))
    go (no p) = rw (lt-ltb ((k' * 2 ^ 16 + s') / 2 ^ 16) ((k * 2 ^ 16 + s) / 2 ^ 16) (omega arith)) (or-true (leb (k * 2 ^ 16 + s) (k' * 2 ^ 16 + s')))

words-led : (h n at k : ℕ) (ns hs : List ℕ) → n < 2 ^ 31 → all_below (2 ^ 31) ns ≡ true → suc at + length ns < 2 ^ 16
    → led (pack h n (suc at)) (words_from (suc at) k ns hs) ≡ true
unfolding led
words-led h n at k ns hs small valid items =
    all_words (λ y. leads (low_of (pack h n (suc at))) (low_of y)) (suc at) k ns hs
    (λ i a b s.
    rw (
      low-of_pack h n (suc at) small (omega arith),
      low-of_pack (get_or hs i 0) (get_or ns i 0) (suc (suc at + i)) (item-below (2 ^ 31) ns i valid a) (omega arith),
    )
    (earlier n (suc at) (get_or ns i 0) (suc (suc at + i)) (omega arith) (omega arith) (omega arith)))

pub words-ordered : (at k : ℕ) (ns hs : List ℕ) → all_below (2 ^ 31) ns ≡ true → at + length ns < 2 ^ 16 → ordered (words_from at k ns hs) ≡ true
unfolding words_from ordered
words-ordered at k [] hs v h = refl
words-ordered at k (n ∷ ns) [] v h = refl
words-ordered at k (n ∷ ns) (x ∷ hs) v h =
    go (skipped k n) (words-ordered (suc at) k ns hs (all_tail (λ y. ltb y (2 ^ 31)) n ns v) (omega arith))
    (words-led x n at k ns hs (ltb-true n (2 ^ 31) (all_head (λ y. ltb y (2 ^ 31)) n ns v)) (all_tail (λ y. ltb y (2 ^ 31)) n ns v) (omega arith))
  where
    go : (t : Bool) → ordered (words_from (suc at) k ns hs) ≡ true → led (pack x n (suc at)) (words_from (suc at) k ns hs) ≡ true
        → ordered (cond t (words_from (suc at) k ns hs) (pack x n (suc at) ∷ words_from (suc at) k ns hs)) ≡ true
    go true ih later = ih
    go false ih later = rw later ih

-- no word has the number k
unfoldable pub fresh : ℕ → List ℕ → Bool
fresh k l = all (λ w. not (eqb (number_in w) k)) l

pub fresh-led : (x : ℕ) (l : List ℕ) → fresh (number_in x) l ≡ true → led x l ≡ true
unfolding fresh led
fresh-led x l e = all-mono (λ w. not (eqb (number_in w) (number_in x))) (λ w. leads (low_of x) (low_of w)) l (λ w t. other w (not-true (eqb (number_in w) (number_in x)) t)) e
  where
    other : (w : ℕ) → eqb (number_in w) (number_in x) ≡ false → leads (low_of x) (low_of w) ≡ true
    other w t = go (leb (low_of x) (low_of w)) refl (eqb-false (number_in w) (number_in x) t)
      where
        go : (s : Bool) → leb (low_of x) (low_of w) ≡ s → (number_in w ≡ number_in x → ⊥) → leads (low_of x) (low_of w) ≡ true
        go true a b = unfold leads in rw a
        go false a b = unfold leads low_of number_in in rw (a, lt-ltb (low_of w / 2 ^ 16) (low_of x / 2 ^ 16) (omega (arith, leb-false (low_of x) (low_of w) a)))

-- the words without the number k have it not
pub words-fresh : (at k : ℕ) (ns hs : List ℕ) → all_below (2 ^ 31) ns ≡ true → at + length ns < 2 ^ 16 → fresh k (words_from at k ns hs) ≡ true
unfolding fresh
words-fresh at k ns hs valid items =
    all_words (λ w. not (eqb (number_in w) k)) at k ns hs
    (λ i a b s.
    rw (number-pack (get_or hs i 0) (get_or ns i 0) (suc (at + i)) (item-below (2 ^ 31) ns i valid a) (omega arith), (unskipped k (get_or ns i 0) s).1))

star-pack : (ws os : List ℕ) (newword newowner h k s : ℕ) → k < 2 ^ 31 → s < 2 ^ 16
    → renamed ws os newword newowner (star_of (low_of (pack h k s))) ≡ star_with k (named_item ws newword s) (named_item os newowner s)
unfolding renamed star_of
star-pack ws os newword newowner h k s hk hs =
    let e : low_of (pack h k s) ≡ k * 2 ^ 16 + s = low-of_pack h k s hk hs in
    let n : low_of (pack h k s) / 2 ^ 16 ≡ k = omega arith in
    let m : low_of (pack h k s) % 2 ^ 16 ≡ s = omega arith in
    rw (n, m)

words-stars : (W O : List ℕ) (newword newowner at k : ℕ) (ns hs ws os : List ℕ) → all_below (2 ^ 31) ns ≡ true → at + length ns < 2 ^ 16
    → length hs ≡ length ns → length ws ≡ length ns → length os ≡ length ns
    → ((i : ℕ) → i < length ns → named_item W newword (suc (at + i)) ≡ get_or ws i 0) → ((i : ℕ) → i < length ns → named_item O newowner (suc (at + i)) ≡ get_or os i 0)
    → map (λ w. renamed W O newword newowner (star_of (low_of w))) (words_from at k ns hs) ≡ without k (stars_of ns ws os)
unfolding words_from stars_of without select skipped
words-stars W O newword newowner at k [] hs ws os v h eh ew eo words_are owners-are = refl
words-stars W O newword newowner at k (n ∷ ns) [] ws os v h eh ew eo words_are owners-are = absurd (omega arith)
words-stars W O newword newowner at k (n ∷ ns) (x ∷ hs) [] os v h eh ew eo words_are owners-are = absurd (omega arith)
words-stars W O newword newowner at k (n ∷ ns) (x ∷ hs) (w ∷ ws) [] v h eh ew eo words_are owners-are = absurd (omega arith)
words-stars W O newword newowner at k (n ∷ ns) (x ∷ hs) (w ∷ ws) (o ∷ os) v h eh ew eo words_are owners-are =
    go (eqb n 0) (eqb n k) refl
    (words-stars W O newword newowner (suc at) k ns hs ws os (all_tail (λ y. ltb y (2 ^ 31)) n ns v) (omega arith) (omega arith) (omega arith) (omega arith)
    (λ i a. rw (suc-add at i, ← add-suc at i) (words_are (suc i) (omega arith)))
    (λ i a. rw (suc-add at i, ← add-suc at i) (owners-are (suc i) (omega arith))))
    (star-pack W O newword newowner x n (suc at) (ltb-true n (2 ^ 31) (all_head (λ y. ltb y (2 ^ 31)) n ns v)) (omega arith)
    ∙ ap (λ (y : ℕ). star_with n y (named_item O newowner (suc at))) (rw (add-zero at) at (words_are 0 (omega arith)))
    ∙ ap (λ (y : ℕ). star_with n w y) (rw (add-zero at) at (owners-are 0 (omega arith))))
  where
    f : ℕ → Star
    f y = renamed W O newword newowner (star_of (low_of y))

    q : Star → Bool
    q y = not (eqb y.number k)

    star : Star
    star = star_with n w o

    go : (s t : Bool) → eqb n k ≡ t → map f (words_from (suc at) k ns hs) ≡ select q (stars_of ns ws os)
        → f (pack x n (suc at)) ≡ star
        → map f (cond (s || t) (words_from (suc at) k ns hs) (pack x n (suc at) ∷ words_from (suc at) k ns hs)) ≡ select q (keep (not s) star (stars_of ns ws os))
    go true t e ih same = ih
    go false true e ih same = rw e ih
    go false false e ih same = rw e (rw (same, ih))

-- the words of two lists of items, one after the other
pub words_append : (at k : ℕ) (ns hs ms js : List ℕ) → length ns ≡ length hs
    → words_from at k (ns ++ ms) (hs ++ js) ≡ words_from at k ns hs ++ words_from (at + length ns) k ms js
unfolding words_from
words_append at k [] [] ms js e = rw (add-zero at)
words_append at k [] (h ∷ hs) ms js e = absurd (omega arith)
words_append at k (n ∷ ns) [] ms js e = absurd (omega arith)
words_append at k (n ∷ ns) (h ∷ hs) ms js e =
    rw (add-suc at (length ns), ← suc-add at (length ns)) (go (skipped k n) (words_append (suc at) k ns hs ms js (omega arith)))
  where
    go : (t : Bool) → words_from (suc at) k (ns ++ ms) (hs ++ js) ≡ words_from (suc at) k ns hs ++ words_from (suc at + length ns) k ms js
        → cond t (words_from (suc at) k (ns ++ ms) (hs ++ js)) (pack h n (suc at) ∷ words_from (suc at) k (ns ++ ms) (hs ++ js))
        ≡ cond t (words_from (suc at) k ns hs) (pack h n (suc at) ∷ words_from (suc at) k ns hs) ++ words_from (suc at + length ns) k ms js
    go true ih = ih
    go false ih = ap (λ (l : List ℕ). pack h n (suc at) ∷ l) ih

-- words whose items are homed at page p or higher
pub words-from : (p at k : ℕ) (ns hs : List ℕ) → all_below (2 ^ 31) ns ≡ true → at + length ns < 2 ^ 16
    → ((i : ℕ) → i < length ns → skipped k (get_or ns i 0) ≡ false → p ≤ get_or hs i 0) → from p (words_from at k ns hs) ≡ true
unfolding from
words-from p at k ns hs valid items high =
    all_words (λ w. leb p (home_of w)) at k ns hs
    (λ i a b s.
    rw (home-pack (get_or hs i 0) (get_or ns i 0) (suc (at + i)) (item-below (2 ^ 31) ns i valid a) (omega arith)) (le-leb p (get_or hs i 0) (high i a s)))

pub length-stretch : (b lo n : ℕ) (l : List ℕ) → (lo + n) * b ≤ length l → length (stretch b lo n l) ≡ n * b
length-stretch b lo n l h = length-take-le (n * b) (drop (lo * b) l) (rw (length-drop (lo * b) l) (omega (arith, add-mul lo n b)))

-- the item's own source names it
pub named-stretch : (b lo n new : ℕ) (l : List ℕ) → (lo + n) * b ≤ length l → (i : ℕ) → i < length (stretch b lo n l)
    → named_item l new (suc (lo * b + i)) ≡ get_or (stretch b lo n l) i 0
unfolding named_item
named-stretch b lo n new l h i a =
    let short : i < n * b = rw (length-stretch b lo n l h) at a in
    within l new (lo * b + i) (omega (arith, add-mul lo n b))
    ∙ sym (get_or-take (n * b) (drop (lo * b) l) i 0 short ∙ get_or-drop (lo * b) l i 0)

pub gathered-stretch : (b : ℕ) (f : File) (p n : ℕ) → (p + n) * b ≤ length f.numbers → (p + n) * b ≤ length f.words → (p + n) * b ≤ length f.owners
    → gathered b f p n ≡ pour (stars_of (stretch b p n f.numbers) (stretch b p n f.words) (stretch b p n f.owners)) []
unfolding gathered stars_at
gathered-stretch b f p zero hn hw ho = unfold stars_of pour in rw (zero-mul b)
gathered-stretch b f p (suc n) hn hw ho =
    let more : p * b + b ≤ (p + suc n) * b = pages-apart b p (p + suc n) (omega arith) in
    let same : (p + suc n) * b ≡ (suc p + n) * b = ap (λ (k : ℕ). k * b) (omega arith) in
    let first : length (part b p f.numbers) ≡ b = part_length b p f.numbers (omega arith) in
    ap (pour (stars_at b f p)) (gathered-stretch b f (suc p) n (omega arith) (omega arith) (omega arith))
    ∙ sym (pour-append (stars_at b f p) (stars_of (stretch b (suc p) n f.numbers) (stretch b (suc p) n f.words) (stretch b (suc p) n f.owners)) [])
    ∙ ap (λ (s : List Star). pour s [])
    (sym (stars_of-append (part b p f.numbers) (part b p f.words) (part b p f.owners) (stretch b (suc p) n f.numbers) (stretch b (suc p) n f.words) (stretch b (suc p) n f.owners)
    (first ∙ sym (part_length b p f.words (omega arith)), first ∙ sym (part_length b p f.owners (omega arith))))
    ∙ rw (stretch-suc b p n f.numbers, stretch-suc b p n f.words, stretch-suc b p n f.owners))

-- a map after a map
pub map-map : (g : Star → Star) (h : ℕ → Star) (l : List ℕ) → map g (map h l) ≡ map (λ w. g (h w)) l
map-map g h [] = refl
map-map g h (x ∷ l) = ap (λ (s : List Star). g (h x) ∷ s) (map-map g h l)

-- the waiting stars of a stretch, with the words and owners that their sources name, are the file's stars there but the one of number k
pub true_stars : (b lo n k newword newowner : ℕ) (f : File) (hs : List ℕ) → all_below (2 ^ 31) (stretch b lo n f.numbers) ≡ true → (lo + n) * b < 2 ^ 16
    → (lo + n) * b ≤ length f.numbers → (lo + n) * b ≤ length f.words → (lo + n) * b ≤ length f.owners → (lo + n) * b ≤ length hs
    → map (renamed f.words f.owners newword newowner) (waits (words_from (lo * b) k (stretch b lo n f.numbers) (stretch b lo n hs))) ≡ without k (gathered b f lo n)
unfolding without pour select
true_stars b lo n k newword newowner f hs valid items hn hw ho hh =
    let ns : List ℕ = stretch b lo n f.numbers in
    let ws : List ℕ = stretch b lo n f.words in
    let os : List ℕ = stretch b lo n f.owners in
    let L : List ℕ = words_from (lo * b) k ns (stretch b lo n hs) in
    let g : Star → Star = renamed f.words f.owners newword newowner in
    let ln : length ns ≡ n * b = length-stretch b lo n f.numbers hn in
    let lw : length ws ≡ n * b = length-stretch b lo n f.words hw in
    let lv : length os ≡ n * b = length-stretch b lo n f.owners ho in
    let lh : length (stretch b lo n hs) ≡ n * b = length-stretch b lo n hs hh in
    let few : lo * b + length ns < 2 ^ 16 = omega (arith, add-mul lo n b) in
    ap (map g) (waits-poured L (words-ordered (lo * b) k ns (stretch b lo n hs) valid few))
    ∙ sym (pour-map g (renamed_keeps f.words f.owners newword newowner) (map (λ w. star_of (low_of w)) L) [])
    ∙ ap (λ (s : List Star). pour s [])
    (map-map g (λ w. star_of (low_of w)) L
    ∙ words-stars f.words f.owners newword newowner (lo * b) k ns (stretch b lo n hs) ws os valid few (lh ∙ sym ln) (lw ∙ sym ln) (lv ∙ sym ln)
    (λ i a. named-stretch b lo n newword f.words hw i (omega arith))
    (λ i a. named-stretch b lo n newowner f.owners ho i (omega arith)))
    ∙ sym (select-pour (λ (s : Star). not (eqb s.number k)) (stars_of ns ws os) [] tt)
    ∙ ap (select (λ (s : Star). not (eqb s.number k))) (sym (gathered-stretch b f lo n hn hw ho))

-- .. and with the new star of an entry
pub new-star : (ws os : List ℕ) (newword newowner h k s : ℕ) (l : List ℕ) → k < 2 ^ 31 → s < 2 ^ 16 → fresh k l ≡ true
    → map (renamed ws os newword newowner) (waits (pack h k s ∷ l))
    ≡ insert (star_with k (named_item ws newword s) (named_item os newowner s)) (map (renamed ws os newword newowner) (waits l))
new-star ws os newword newowner h k s l hk hs e =
    let g : Star → Star = renamed ws os newword newowner in
    ap (map g) (waits-cons (pack h k s) l (fresh-led (pack h k s) l (rw (number-pack h k s hk hs) e)))
    ∙ sym (insert-map g (renamed_keeps ws os newword newowner) (star_of (low_of (pack h k s))) (waits l))
    ∙ ap (λ (t : Star). insert t (map g (waits l))) (star-pack ws os newword newowner h k s hk hs)

-- the source past all items names the new one
pub named_past : (l : List ℕ) (new source : ℕ) → source ≡ length l + 1 → named_item l new source ≡ new
unfolding named_item
named_past l new source e = rw (e, add-one (length l)) (get_or-eq_default l new (le_refl (length l)))
