-- The plan over words is the rule over their stars.
use mathlib.Core.Path.{◌≡◌, refl, ap, ◌∙◌}
use mathlib.Core.Bool.{Bool, true, false, not, ◌&&◌}
use mathlib.Core.List.{List, [], ◌∷◌, ◌++◌, append_assoc, append-nil}
use Prim.Native.Nat.{ℕ, zero, suc, ◌+◌, ◌-◌, ◌≤◌, ◌<◌}
use native.Mathlib.Nat.{add-suc}
use native.Mathlib.Omega.{arith}
use lib.Dec.{leb, ltb, eqb}
use borrow.Author.Tests.{le-leb, lt-leb, lt-ltb, leb-true, ltb-true, eqb-true}
use Rattle.buffers.proofs.Tests.{and-true}
use Rattle.hashing.specs.declared.Parameters.{Parameters}
use Rattle.generator.specs.Generator.{signature, top_of_lem}
use Rattle.hashing.specs.Geometry.{multiplier_of}
use Rattle.placement.specs.Rule.{Star, Hash, below, onward, contents_of, pages, left}
use Rattle.placement.specs.Rule.{staying as rule·staying, passing as rule·passing, separator_from as rule·separator_from, separator_of as rule·separator_of}
use Rattle.page_separator.specs.Lists.{selected, all}
use Rattle.page_separator.specs.Words.{home_of, number_in, low_of}
use Rattle.page_plan.specs.Gather.{group_of, group, grouped}
use Rattle.page_separator.specs.Probes.{signature_of, under, staying_words, passing_words, words_separator_from, words_separator, homes_up_to}
use Rattle.page_separator.proofs.Lists.{filter-append, all_head, all_tail, all_append, all_filter, all-filtered, all-mono}
use Rattle.page_plan.specs.Plans.{star_of, waits, homed, settled, carried_on_lem, plans, remains}
use Rattle.page_plan.proofs.Pouring.{select_waits, length-waits}

-- A hash whose signatures are the generator's on the page's probe, t = 1 at home.
pub record Probes (H : Hash) (q : Parameters) : Type 0 where
  pub signatures : (k p : ℕ) → H.signature k p ≡ signature (multiplier_of q) q.bits k (p - H.home k + 1)
  pub top : H.top ≡ top_of_lem q.bits
  pub room_is : H.room ≡ q.places

pub number-low : (w : ℕ) → (star_of (low_of w)).number ≡ number_in w
unfolding star_of low_of number_in
number-low w = omega arith

-- every word is homed above page p
unfoldable pub beyond : ℕ → List ℕ → Bool
beyond p l = all (λ w. ltb p (home_of w)) l

-- two tests that agree wherever a third holds
pub filter-agree : (t q r : ℕ → Bool) (l : List ℕ) → all t l ≡ true → ((w : ℕ) → t w ≡ true → q w ≡ r w) → selected q l ≡ selected r l
unfolding selected
filter-agree t q r [] a h = refl
filter-agree t q r (x ∷ l) a h = rw (h x (all_head t x l a), filter-agree t q r l (all_tail t x l a) h)

pub filter_none : (l : List ℕ) → selected (λ _. false) l ≡ []
unfolding selected
filter_none [] = refl
filter_none (x ∷ l) = filter_none l

filter-every : (l : List ℕ) → selected (λ _. true) l ≡ l
unfolding selected
filter-every [] = refl
filter-every (x ∷ l) = ap (λ (s : List ℕ). x ∷ s) (filter-every l)

all_both : (q r : ℕ → Bool) (l : List ℕ) → all q l ≡ true → all r l ≡ true → all (λ w. q w && r w) l ≡ true
unfolding all
all_both q r [] a b = refl
all_both q r (x ∷ l) a b = rw (all_head q x l a, all_head r x l b) (all_both q r l (all_tail q x l a) (all_tail r x l b))

near-filter : (p : ℕ) (q : ℕ → Bool) (l : List ℕ) → homes_up_to p l ≡ true → homes_up_to p (selected q l) ≡ true
near-filter p q l = all_filter (λ w. leb (home_of w) p) q l

-- as far as the page that a word is first met on goes, its group says it all
near-group : (lo v : ℕ) (l : List ℕ) → homes_up_to (lo + v) (group lo v l) ≡ true
near-group lo v l =
    all-mono (λ w. eqb (group_of lo w) v) (λ w. leb (home_of w) (lo + v)) (group lo v l)
    (λ w e. le-leb (home_of w) (lo + v) (unfold group_of in omega (arith, eqb-true (group_of lo w) v e)))
    (all-filtered (λ w. eqb (group_of lo w) v) l)

pub near-probing : (lo v : ℕ) (w l : List ℕ) → homes_up_to (lo + v) w ≡ true → homes_up_to (lo + v) (w ++ group lo v l) ≡ true
near-probing lo v w l h = all_append (λ x. leb (home_of x) (lo + v)) w (group lo v l) h (near-group lo v l)

pub near-higher : (p q : ℕ) (l : List ℕ) → p ≤ q → homes_up_to p l ≡ true → homes_up_to q l ≡ true
near-higher p q l h n =
    all-mono (λ w. leb (home_of w) p) (λ w. leb (home_of w) q) l (λ w e. le-leb (home_of w) q (omega (arith, leb-true (home_of w) p e))) n

beyond-grouped : (lo v u n : ℕ) (l : List ℕ) → v < u → beyond (lo + v) (grouped lo u n l) ≡ true
unfolding beyond grouped
beyond-grouped lo v u zero l h = unfold all in refl
beyond-grouped lo v u (suc n) l h =
    all_append (λ w. ltb (lo + v) (home_of w)) (group lo u l) (grouped lo (suc u) n l)
    (all-mono (λ w. eqb (group_of lo w) u) (λ w. ltb (lo + v) (home_of w)) (group lo u l)
    (λ w e. lt-ltb (lo + v) (home_of w) (unfold group_of in omega (arith, eqb-true (group_of lo w) u e)))
    (all-filtered (λ w. eqb (group_of lo w) u) l))
    (beyond-grouped lo v (suc u) n l (omega arith))

pub near-onward : (q : Parameters) (p r : ℕ) (l : List ℕ) → p ≤ r → homes_up_to p l ≡ true → homes_up_to r (carried_on_lem q p l) ≡ true
unfolding carried_on_lem passing_words
near-onward q p r l h n = near-higher p r (carried_on_lem q p l) h (near-filter p (λ w. not (under q p (words_separator q p l) w)) l n)

module _ (H : Hash) (q : Parameters) (real : Probes H q) where
  -- of a homed word, whether its star stays
  below-near : (p v w : ℕ) → (eqb (H.home (number_in w)) (home_of w) && leb (home_of w) p) ≡ true
      → below H p v (star_of (low_of w)).number ≡ under q p v w
  unfolding below under signature_of
  below-near p v w e =
      let b = and-true (eqb (H.home (number_in w)) (home_of w)) (leb (home_of w) p) e in
      let h : H.home (number_in w) ≡ home_of w = eqb-true (H.home (number_in w)) (home_of w) b.0 in
      rw (number-low w, real.signatures (number_in w) p, h, b.1)

  below-beyond : (p v w : ℕ) → (eqb (H.home (number_in w)) (home_of w) && ltb p (home_of w)) ≡ true
      → below H p v (star_of (low_of w)).number ≡ false
  unfolding below
  below-beyond p v w e =
      let b = and-true (eqb (H.home (number_in w)) (home_of w)) (ltb p (home_of w)) e in
      let h : H.home (number_in w) ≡ home_of w = eqb-true (H.home (number_in w)) (home_of w) b.0 in
      rw (number-low w, h, lt-leb (home_of w) p (ltb-true p (home_of w) b.1))

  module _ (p : ℕ) (l r : List ℕ) (hl : homed H l ≡ true) (nl : homes_up_to p l ≡ true) (hr : homed H r ≡ true) (br : beyond p r ≡ true) where
    -- of those that probe the page and those homed above it, f of the test goes by the signatures of the first and by false of the others
    parted : (f : Bool → Bool) (v : ℕ) → selected (λ w. f (below H p v (star_of (low_of w)).number)) (l ++ r)
        ≡ selected (λ w. f (under q p v w)) l ++ selected (λ _. f false) r
    unfolding homed beyond
    parted f v =
        filter-append (λ w. f (below H p v (star_of (low_of w)).number)) l r
        ∙ ap (λ (s : List ℕ). s ++ selected (λ w. f (below H p v (star_of (low_of w)).number)) r)
        (filter-agree (λ w. eqb (H.home (number_in w)) (home_of w) && leb (home_of w) p)
        (λ w. f (below H p v (star_of (low_of w)).number)) (λ w. f (under q p v w)) l
        (all_both (λ w. eqb (H.home (number_in w)) (home_of w)) (λ w. leb (home_of w) p) l hl nl)
        (λ w e. ap f (below-near p v w e)))
        ∙ ap (λ (s : List ℕ). selected (λ w. f (under q p v w)) l ++ s)
        (filter-agree (λ w. eqb (H.home (number_in w)) (home_of w) && ltb p (home_of w))
        (λ w. f (below H p v (star_of (low_of w)).number)) (λ _. f false) r
        (all_both (λ w. eqb (H.home (number_in w)) (home_of w)) (λ w. ltb p (home_of w)) r hr br)
        (λ w e. ap f (below-beyond p v w e)))

    pub staying-tie : (v : ℕ) → rule·staying H p v (waits (l ++ r)) ≡ waits (staying_words q p v l)
    unfolding rule·staying staying_words
    staying-tie v =
        select_waits (λ (s : Star). below H p v s.number) (l ++ r)
        ∙ ap waits
        (parted (λ t. t) v
        ∙ ap (λ (s : List ℕ). staying_words q p v l ++ s) (filter_none r)
        ∙ append-nil (staying_words q p v l))

    pub passing-tie : (v : ℕ) → rule·passing H p v (waits (l ++ r)) ≡ waits (passing_words q p v l ++ r)
    unfolding rule·passing passing_words
    passing-tie v =
        select_waits (λ (s : Star). not (below H p v s.number)) (l ++ r)
        ∙ ap waits (parted not v ∙ ap (λ (s : List ℕ). passing_words q p v l ++ s) (filter-every r))

    separator-from : (n : ℕ) → rule·separator_from H p (waits (l ++ r)) n ≡ words_separator_from q p l n
    unfolding rule·separator_from words_separator_from
    separator-from zero = refl
    separator-from (suc v) =
        rw (separator-from v, staying-tie (suc v), length-waits (staying_words q p (suc v) l), real.room_is)

    pub separator_tie : rule·separator_of H p (waits (l ++ r)) ≡ words_separator q p l
    unfolding rule·separator_of words_separator
    separator_tie = separator-from H.top ∙ ap (words_separator_from q p l) real.top

    pub contents_tie : contents_of H p (waits (l ++ r)) ≡ settled q p l
    unfolding contents_of settled
    contents_tie = rw (separator_tie, staying-tie (words_separator q p l))

    pub onward-tie : onward H p (waits (l ++ r)) ≡ waits (carried_on_lem q p l ++ r)
    unfolding onward carried_on_lem
    onward-tie = rw (separator_tie, passing-tie (words_separator q p l))

  pub homed-append : (a b : List ℕ) → homed H a ≡ true → homed H b ≡ true → homed H (a ++ b) ≡ true
  unfolding homed
  homed-append a b = all_append (λ w. eqb (H.home (number_in w)) (home_of w)) a b

  homed-filter : (q : ℕ → Bool) (l : List ℕ) → homed H l ≡ true → homed H (selected q l) ≡ true
  unfolding homed
  homed-filter q l = all_filter (λ w. eqb (H.home (number_in w)) (home_of w)) q l

  homed-grouped : (lo v n : ℕ) (l : List ℕ) → homed H l ≡ true → homed H (grouped lo v n l) ≡ true
  unfolding grouped
  homed-grouped lo v zero l h = unfold homed all in refl
  homed-grouped lo v (suc n) l h =
      homed-append (group lo v l) (grouped lo (suc v) n l) (homed-filter (λ w. eqb (group_of lo w) v) l h) (homed-grouped lo (suc v) n l h)

  -- the words that page lo + v is probed by: those carried on to it and its group
  pub homed-probing : (lo v : ℕ) (w l : List ℕ) → homed H w ≡ true → homed H l ≡ true → homed H (w ++ group lo v l) ≡ true
  homed-probing lo v w l hw hl = homed-append w (group lo v l) hw (homed-filter (λ x. eqb (group_of lo x) v) l hl)

  pub homed-onward : (p : ℕ) (l : List ℕ) → homed H l ≡ true → homed H (carried_on_lem q p l) ≡ true
  unfolding carried_on_lem passing_words
  homed-onward p l h = homed-filter (λ w. not (under q p (words_separator q p l) w)) l h

  pub plans-are : (lo v n : ℕ) (w l : List ℕ) → homed H w ≡ true → homes_up_to (lo + v) w ≡ true → homed H l ≡ true
      → (pages H (lo + v) n (waits (w ++ grouped lo v n l)) ≡ plans q lo v n w l)
      × (left H (lo + v) n (waits (w ++ grouped lo v n l)) ≡ waits (remains q lo v n w l))
  unfolding pages left plans remains grouped
  plans-are lo v zero w l hw nw hl = (refl, ap waits (append-nil w))
  plans-are lo v (suc n) w l hw nw hl =
      let here : List ℕ = w ++ group lo v l in
      let on : List ℕ = carried_on_lem q (lo + v) here in
      let rest : List ℕ = grouped lo (suc v) n l in
      let hh : homed H here ≡ true = homed-probing lo v w l hw hl in
      let nh : homes_up_to (lo + v) here ≡ true = near-probing lo v w l nw in
      let hr : homed H rest ≡ true = homed-grouped lo (suc v) n l hl in
      let br : beyond (lo + v) rest ≡ true = beyond-grouped lo v (suc v) n l (omega arith) in
      let ih = plans-are lo (suc v) n on l (homed-onward (lo + v) here hh) (near-onward q (lo + v) (lo + suc v) here (omega arith) nh) hl in
      rw (← append_assoc w (group lo v l) rest, contents_tie (lo + v) here rest hh nh hr br, onward-tie (lo + v) here rest hh nh hr br, ← add-suc lo v)
      (rw (ih.0, ih.1) (refl, refl))
