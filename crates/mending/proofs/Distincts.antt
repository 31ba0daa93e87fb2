-- The stars that the kept words name are the distinct stars of the file.
use mathlib.Core.Path.{◌≡◌, refl, sym, ap, ◌∙◌}
use mathlib.Core.Bool.{Bool, true, false, cond, not, false≢true}
use mathlib.Core.List.Memᴰ
use mathlib.Core.List.{List, [], ◌∷◌, ◌++◌, map, Memᴰ}
use mathlib.Core.Logic.{⊎_elim, ◌⊎◌, inl, inr}
use Prim.Native.Nat.{ℕ, zero, suc, ◌+◌, ◌*◌, ◌^◌, ◌≤◌, ◌<◌}
use native.Mathlib.Omega.{arith}
use native.Mathlib.Nat.{zero-mul}
use lib.Dec.{eqb, ltb}
use lib.ListN.{length}
use borrow.Author.Tests.{eq-eqb, ne_eqb, eqb-true, eqb-false, not-true, ltb-true}
use Rattle.pages.specs.Shape.{stretch}
use Rattle.hashing.specs.declared.Parameters.{Parameters}
use Rattle.page_separator.specs.Lists.{selected, rises, all}
use Rattle.page_separator.specs.Words.{home_of, number_in, source_of, low_of}
use Rattle.page_plan.specs.Gather.{group_of, group, grouped, groups_below, stretch_words}
use Rattle.placement.specs.Rule.{Star, Hash, keep, pour, without, star_with}
use Rattle.placement.specs.File.{File, stars_of, gathered}
use Rattle.placement.specs.Distinct.{distinct}
use Rattle.placement.proofs.Filters.{filter-all-on}
use Rattle.placement.proofs.Order.{Distinct, member_pour, poured, poured-same}
use Rattle.placement.proofs.Mapping.{pour-map}
use Rattle.placement.proofs.Mixture.{Single, distinct-rising, distinct-member, member_distinct}
use Rattle.placement.proofs.Sound.{sorted-gathered}
use Rattle.page_plan.specs.Sources.{renamed, sourced}
use Rattle.page_plan.specs.Plans.{star_of, waits, homed}
use Rattle.page_plan.proofs.Applying.{renamed_keeps}
use Rattle.page_plan.proofs.RuleOverWords.{Probes}
use Rattle.page_plan.proofs.Sourcing.{ordered, fresh, fresh-led, waits-poured, words-ordered, words-fresh, gathered-stretch, true_stars, length-stretch, map-map}
use Rattle.page_plan.proofs.Placed.{Gatherable, stretch-homed, stretch-grouped, stretch-sourced}
use Rattle.sorting.proofs.Joining.{rises-ordered, all-ordered, member_ordered, ordered-member}
use Rattle.calls.specs.Mend.{agreeing}
use Rattle.calls.proofs.Mending.{single_agreeing}
use Rattle.duplicates.specs.Words.{number_key, neighbours_agree, firsts_after}
use Rattle.mending.specs.Collect.{file_words}
use Rattle.mending.proofs.Agreed.{named, named-is, all-member, member_all, agreed_same, same-agreed, agreeing-single, firsts_member, firsts_all, firsts_cover, Kept, firsts_above}

-- members of a mapped list
pub record Image {A B : Type 0} (f : A → B) (l : List A) (y : B) : Type 0 where
  pub from : A
  pub there : Memᴰ from l
  pub is : y ≡ f from

map-member : {A B : Type 0} (f : A → B) (l : List A) (y : B) → Memᴰ y (map f l) → Image f l y
map-member f [] y m = absurd (Memᴰ.not-nil m)
map-member {A} f (x ∷ l) y m =
    ⊎_elim (λ e. record { from = x; there = Memᴰ.head refl; is = e })
    (λ n. let i = map-member f l y n in record { from = i.from; there = Memᴰ.tail i.there; is = i.is })
    (Memᴰ.cases_cons m)

member_map : {A B : Type 0} (f : A → B) (l : List A) (x : A) → Memᴰ x l → Memᴰ (f x) (map f l)
member_map f [] x m = absurd (Memᴰ.not-nil m)
member_map f (y ∷ l) x m = ⊎_elim (λ e. Memᴰ.head (ap f e)) (λ n. Memᴰ.tail (member_map f l x n)) (Memᴰ.cases_cons m)

-- the words in groups are the words
selected-member : (q : ℕ → Bool) (l : List ℕ) (x : ℕ) → Memᴰ x (selected q l) → Memᴰ x l
unfolding selected
selected-member q [] x m = m
selected-member q (y ∷ l) x m = go (q y) m (selected-member q l x)
  where
    go : (t : Bool) → Memᴰ x (cond t (y ∷ selected q l) (selected q l)) → (Memᴰ x (selected q l) → Memᴰ x l) → Memᴰ x (y ∷ l)
    go true n ih = ⊎_elim (λ e. Memᴰ.head e) (λ j. Memᴰ.tail (ih j)) (Memᴰ.cases_cons n)
    go false n ih = Memᴰ.tail (ih n)

member_selected : (q : ℕ → Bool) (l : List ℕ) (x : ℕ) → Memᴰ x l → q x ≡ true → Memᴰ x (selected q l)
unfolding selected
member_selected q [] x m e = m
member_selected q (y ∷ l) x m e = go (Memᴰ.cases_cons m) (q y) refl (λ n. member_selected q l x n e)
  where
    go : (x ≡ y) ⊎ Memᴰ x l → (t : Bool) → q y ≡ t → (Memᴰ x l → Memᴰ x (selected q l)) → Memᴰ x (cond t (y ∷ selected q l) (selected q l))
    go (inl d) true f ih = Memᴰ.head d
    go (inr n) true f ih = Memᴰ.tail (ih n)
    go (inl d) false f ih = absurd (false≢true (sym f ∙ ap q (sym d) ∙ e))
    go (inr n) false f ih = ih n

append_member : (a b : List ℕ) (x : ℕ) → Memᴰ x (a ++ b) → Memᴰ x a ⊎ Memᴰ x b
append_member [] b x m = inr m
append_member (y ∷ a) b x m =
    ⊎_elim (λ e. inl (Memᴰ.head e)) (λ n. ⊎_elim (λ j. inl (Memᴰ.tail j)) (λ j. inr j) (append_member a b x n)) (Memᴰ.cases_cons m)

member_append : (a b : List ℕ) (x : ℕ) → Memᴰ x a ⊎ Memᴰ x b → Memᴰ x (a ++ b)
member_append [] b x (inl m) = absurd (Memᴰ.not-nil m)
member_append [] b x (inr m) = m
member_append (y ∷ a) b x (inl m) = ⊎_elim (λ e. Memᴰ.head e) (λ n. Memᴰ.tail (member_append a b x (inl n))) (Memᴰ.cases_cons m)
member_append (y ∷ a) b x (inr m) = Memᴰ.tail (member_append a b x (inr m))

grouped-member : (v n : ℕ) (l : List ℕ) (x : ℕ) → Memᴰ x (grouped 0 v n l) → Memᴰ x l
unfolding grouped
grouped-member v zero l x m = absurd (Memᴰ.not-nil m)
grouped-member v (suc n) l x m =
    ⊎_elim (λ j. selected-member (λ w. eqb (group_of 0 w) v) l x j) (λ j. grouped-member (suc v) n l x j) (append_member (group 0 v l) (grouped 0 (suc v) n l) x m)

member_grouped : (v n : ℕ) (l : List ℕ) (x : ℕ) → Memᴰ x l → v ≤ group_of 0 x → group_of 0 x < v + n → Memᴰ x (grouped 0 v n l)
unfolding grouped
member_grouped v zero l x m a b = absurd (omega arith)
member_grouped v (suc n) l x m a b = go (native.Mathlib.Decide.ℕ_discrete (group_of 0 x) v) (member_grouped (suc v) n l x m)
  where
    go : Dec (group_of 0 x ≡ v) → (suc v ≤ group_of 0 x → group_of 0 x < suc v + n → Memᴰ x (grouped 0 (suc v) n l)) → Memᴰ x (group 0 v l ++ grouped 0 (suc v) n l)
    go (yes d) ih = member_append (group 0 v l) (grouped 0 (suc v) n l) x (inl (member_selected (λ w. eqb (group_of 0 w) v) l x m (eq-eqb (group_of 0 x) v d)))
    go (no d) ih = member_append (group 0 v l) (grouped 0 (suc v) n l) x (inr (ih (omega (arith, d)) (omega arith)))

-- no star of a file has the number 0
starred : (ns ws os : List ℕ) (s : Star) → Memᴰ s (stars_of ns ws os) → s.number ≡ 0 → ⊥
unfolding stars_of
starred [] ws os s m e = Memᴰ.not-nil m
starred (n ∷ ns) [] os s m e = Memᴰ.not-nil m
starred (n ∷ ns) (w ∷ ws) [] s m e = Memᴰ.not-nil m
starred (n ∷ ns) (w ∷ ws) (o ∷ os) s m e = go (eqb n 0) refl m (λ j. starred ns ws os s j e)
  where
    go : (t : Bool) → eqb n 0 ≡ t → Memᴰ s (keep (not t) (star_with n w o) (stars_of ns ws os)) → (Memᴰ s (stars_of ns ws os) → ⊥) → ⊥
    go true f j ih = ih j
    go false f j ih = ⊎_elim (λ d. eqb-false n 0 f (sym (ap (λ (z : Star). z.number) d) ∙ e)) ih (Memᴰ.cases_cons j)

-- no two words of one number
abbrev Apart : List ℕ → Type 0
Apart [] = Unit {0}
Apart (x ∷ l) = ((y : ℕ) → Memᴰ y l → number_in y ≡ number_in x → ⊥) × Apart l

apart-ordered : (l : List ℕ) → Apart l → ordered l ≡ true
unfolding ordered fresh
apart-ordered [] a = refl
apart-ordered (x ∷ l) a =
    rw (fresh-led x l (member_all (λ w. not (eqb (number_in w) (number_in x))) l (λ y m. ap not (ne_eqb (number_in y) (number_in x) (a.0 y m))))) (apart-ordered l a.1)

named-number : (ws os : List ℕ) (w : ℕ) → (named ws os w).number ≡ number_in w
named-number ws os w = ap (λ (s : Star). s.number) (named-is ws os w)

apart_distinct : (ws os : List ℕ) (l : List ℕ) → Apart l → Distinct (map (named ws os) l)
apart_distinct ws os [] a = tt
apart_distinct ws os (x ∷ l) a = (
  (λ t m e. let i = map-member (named ws os) l t m in a.0 i.from i.there (sym (named-number ws os i.from) ∙ ap (λ (s : Star). s.number) (sym i.is) ∙ e ∙ named-number ws os x)),
  apart_distinct ws os l a.1,
)

-- words of rising keys, whose homes are their numbers'
firsts_apart : (H : Hash) (k y : ℕ) (l : List ℕ) → rises y l ≡ true → k ≤ number_key y → ((x : ℕ) → Memᴰ x l → H.home (number_in x) ≡ home_of x) → Apart (firsts_after k l)
unfolding firsts_after
firsts_apart H k y [] u h e = tt
firsts_apart H k y (z ∷ l) u h e =
    go (eqb (number_key z) k) (firsts_apart H k z l (Rattle.page_plan.proofs.Order.rises-tail y z l u) up (λ x m. e x (Memᴰ.tail m)))
    (firsts_apart H (number_key z) z l (Rattle.page_plan.proofs.Order.rises-tail y z l u) (omega arith) (λ x m. e x (Memᴰ.tail m)))
  where
    up : k ≤ number_key z
    up = omega (arith, h, Rattle.mending.proofs.Agreed.key-mono y z (Rattle.page_plan.proofs.Order.rises-head y z l u))

    other : (x : ℕ) → Memᴰ x (firsts_after (number_key z) l) → number_in x ≡ number_in z → ⊥
    other x m d =
        key_apart z x (firsts_above (number_key z) z l (Rattle.page_plan.proofs.Order.rises-tail y z l u) (omega arith) x m)
        (sym (e z (Memᴰ.head refl)) ∙ ap H.home (sym d) ∙ e x (Memᴰ.tail (firsts_member (number_key z) l x m))) (sym d)
      where
        key_apart : (a b : ℕ) → number_key a < number_key b → home_of a ≡ home_of b → number_in a ≡ number_in b → ⊥
        key_apart a b h₁ h₂ h₃ = Rattle.mending.proofs.Agreed.key-of_both a b h₁ h₂ h₃

    go : (t : Bool) → Apart (firsts_after k l) → Apart (firsts_after (number_key z) l) → Apart (cond t (firsts_after k l) (z ∷ firsts_after (number_key z) l))
    go true a b = a
    go false a b = (other, b)

module _ (H : Hash) (q : Parameters) (real : Probes H q) (f : File) (hs : List ℕ) (R : Gatherable H q.places 0 q.pages f hs) where
  abbrev L : List ℕ
  L = stretch_words q.places 0 q.pages 0 f.numbers hs

  abbrev S : List ℕ
  S = file_words q f.numbers hs

  abbrev F : List ℕ
  F = firsts_after 0 S

  abbrev star : ℕ → Star
  star = named f.words f.owners

  abbrev stars : List Star
  stars = gathered q.places f 0 q.pages

  few-items : 0 * q.places + length (stretch q.places 0 q.pages f.numbers) < 2 ^ 16
  few-items = omega (arith, length-stretch q.places 0 q.pages f.numbers R.numbers, zero-mul q.places, R.few)

  none-zero : without 0 stars ≡ stars
  unfolding without
  none-zero =
      filter-all-on (λ (s : Star). not (eqb s.number 0)) stars
      (λ s m. ap not (ne_eqb s.number 0 (λ e.
      ⊎_elim (λ j. starred (stretch q.places 0 q.pages f.numbers) (stretch q.places 0 q.pages f.words) (stretch q.places 0 q.pages f.owners) s j e) Memᴰ.not-nil
      (member_pour (stars_of (stretch q.places 0 q.pages f.numbers) (stretch q.places 0 q.pages f.words) (stretch q.places 0 q.pages f.owners)) [] s
      (rw (gathered-stretch q.places f 0 q.pages R.numbers R.words R.owners) at m)))))

  -- the file's stars are those of its words, poured
  stars-poured : pour (map star L) [] ≡ stars
  stars-poured =
      let g : Star → Star = renamed f.words f.owners 0 0 in
      ap (λ (l : List Star). pour l []) (sym (map-map g (λ w. star_of (low_of w)) L))
      ∙ pour-map g (renamed_keeps f.words f.owners 0 0) (map (λ w. star_of (low_of w)) L) []
      ∙ ap (map g) (sym (waits-poured L (words-ordered (0 * q.places) 0 (stretch q.places 0 q.pages f.numbers) (stretch q.places 0 q.pages hs) R.valid few-items)))
      ∙ true_stars q.places 0 q.pages 0 0 0 f hs R.valid R.few R.numbers R.words R.owners R.homes
      ∙ none-zero

  all_of : (t : ℕ → Bool) → all t L ≡ true → all t S ≡ true
  unfolding file_words
  all_of t e = all-ordered t (grouped 0 0 q.pages L) (member_all t (grouped 0 0 q.pages L) (λ x m. all-member t L e x (grouped-member 0 q.pages L x m)))

  word_in : (x : ℕ) → Memᴰ x S → Memᴰ x L
  unfolding file_words
  word_in x m = grouped-member 0 q.pages L x (member_ordered (grouped 0 0 q.pages L) x m)

  in-word : (x : ℕ) → Memᴰ x L → Memᴰ x S
  unfolding file_words
  in-word x m =
      ordered-member (grouped 0 0 q.pages L) x
      (member_grouped 0 q.pages L x m (omega arith) (omega (arith, below)))
    where
      below : group_of 0 x < q.pages
      below = ltb-true (group_of 0 x) q.pages (all-member (λ w. ltb (group_of 0 w) q.pages) L (stretch-grouped H q real 0 q.pages f hs R 0 0 0) x m)

  rise : rises 0 S ≡ true
  unfolding file_words
  rise = rises-ordered (grouped 0 0 q.pages L)

  home-is : (x : ℕ) → Memᴰ x S → H.home (number_in x) ≡ home_of x
  unfolding homed
  home-is x m = eqb-true (H.home (number_in x)) (home_of x) (all-member (λ w. eqb (H.home (number_in w)) (home_of w)) L (stretch-homed H q real 0 q.pages f hs R 0 0 0) x (word_in x m))

  numbered : (x : ℕ) → Memᴰ x S → number_in x ≡ 0 → ⊥
  unfolding fresh
  numbered x m e =
      eqb-false (number_in x) 0
      (not-true (eqb (number_in x) 0)
      (all-member (λ w. not (eqb (number_in w) 0)) L (words-fresh (0 * q.places) 0 (stretch q.places 0 q.pages f.numbers) (stretch q.places 0 q.pages hs) R.valid few-items) x (word_in x m))) e

  -- the stars are those that the words name
  star-of : (s : Star) → Memᴰ s stars → Image star S s
  star-of s m =
      let i = map-member star L s (⊎_elim (λ j. j) (λ j. absurd (Memᴰ.not-nil j)) (member_pour (map star L) [] s (rw (← stars-poured) at m))) in
      record { from = i.from; there = in-word i.from i.there; is = i.is }

  of-star : (x : ℕ) → Memᴰ x S → Memᴰ (star x) stars
  of-star x m = rw stars-poured at (poured (map star L) [] (star x) (member_map star L x (word_in x m)))

  same_key : (x y : ℕ) → Memᴰ x S → Memᴰ y S → number_in x ≡ number_in y → number_key x ≡ number_key y
  same_key x y m n e = Rattle.mending.proofs.Agreed.key-from x y (sym (home-is x m) ∙ ap H.home e ∙ home-is y n) e

  single-if : neighbours_agree f.words f.owners S ≡ true → Single stars
  single-if e s t m n k =
      let a = star-of s m in
      let b = star-of t n in
      let numbers : number_in a.from ≡ number_in b.from
      = sym (named-number f.words f.owners a.from) ∙ ap (λ (z : Star). z.number) (sym a.is) ∙ k ∙ ap (λ (z : Star). z.number) b.is ∙ named-number f.words f.owners b.from in
      a.is ∙ agreed_same f.words f.owners 0 S rise e a.from b.from a.there b.there (same_key a.from b.from a.there b.there numbers) ∙ sym b.is

  agreed_if : Single stars → neighbours_agree f.words f.owners S ≡ true
  agreed_if h =
      same-agreed f.words f.owners S
      (λ x y m n k. h (star x) (star y) (of-star x m) (of-star y n) (named-number f.words f.owners x ∙ Rattle.mending.proofs.Agreed.number-from x y k ∙ sym (named-number f.words f.owners y)))

  -- "a star number occurs with two different words or owners"
  pub agreement : neighbours_agree f.words f.owners S ≡ agreeing stars
  agreement = go (neighbours_agree f.words f.owners S) refl (agreeing stars) refl
    where
      go : (t : Bool) → neighbours_agree f.words f.owners S ≡ t → (u : Bool) → agreeing stars ≡ u → t ≡ u
      go true a true b = refl
      go false a false b = refl
      go true a false b = absurd (false≢true (sym b ∙ single_agreeing stars (single-if a)))
      go false a true b = absurd (false≢true (sym a ∙ agreed_if (agreeing-single stars b)))

  apart : Apart F
  apart = firsts_apart H 0 0 S rise (omega arith) home-is

  -- "collects the distinct stars on the pages"
  pub distinct-words : neighbours_agree f.words f.owners S ≡ true → map (renamed f.words f.owners 0 0) (waits F) ≡ distinct stars
  distinct-words e =
      let g : Star → Star = renamed f.words f.owners 0 0 in
      ap (map g) (waits-poured F (apart-ordered F apart))
      ∙ sym (pour-map g (renamed_keeps f.words f.owners 0 0) (map (λ w. star_of (low_of w)) F) [])
      ∙ ap (λ (l : List Star). pour l []) (map-map g (λ w. star_of (low_of w)) F)
      ∙ poured-same 0 (map star F) (distinct stars) (apart_distinct f.words f.owners F apart) (distinct-rising 0 stars (sorted-gathered q.places f 0 q.pages)) down up
    where
      down : (s : Star) → Memᴰ s (map star F) → Memᴰ s (distinct stars)
      down s m =
          let i = map-member star F s m in
          rw i.is (member_distinct stars (single-if e) (star i.from) (of-star i.from (firsts_member 0 S i.from i.there)))

      up : (s : Star) → Memᴰ s (distinct stars) → Memᴰ s (map star F)
      up s m =
          let i = star-of s (distinct-member stars s m) in
          ⊎_elim (λ z. absurd (numbered i.from i.there (Rattle.mending.proofs.Agreed.number-zero i.from z)))
          (λ (w : Kept 0 S i.from).
          rw (i.is ∙ sym (agreed_same f.words f.owners 0 S rise e w.word i.from (firsts_member 0 S w.word w.there) i.there w.same))
          (member_map star F w.word w.there))
          (firsts_cover 0 S i.from i.there)

  pub firsts_rising : rises 0 F ≡ true
  firsts_rising = Rattle.mending.proofs.Agreed.firsts_rise 0 0 S rise

  pub firsts_homed : homed H F ≡ true
  unfolding homed
  firsts_homed = firsts_all (λ w. eqb (H.home (number_in w)) (home_of w)) 0 S (all_of (λ w. eqb (H.home (number_in w)) (home_of w)) (stretch-homed H q real 0 q.pages f hs R 0 0 0))

  pub firsts_grouped : groups_below 0 q.pages F ≡ true
  firsts_grouped = firsts_all (λ w. ltb (group_of 0 w) q.pages) 0 S (all_of (λ w. ltb (group_of 0 w) q.pages) (stretch-grouped H q real 0 q.pages f hs R 0 0 0))

  pub firsts_sourced : sourced f.numbers 0 F ≡ true
  unfolding sourced
  firsts_sourced = firsts_all (λ w. eqb (Rattle.page_plan.specs.Sources.named_item f.numbers 0 (source_of w)) (number_in w)) 0 S (all_of (λ w. eqb (Rattle.page_plan.specs.Sources.named_item f.numbers 0 (source_of w)) (number_in w)) (stretch-sourced H q real 0 q.pages f hs R 0 0 0 0))
