-- Sound pages are the rule's exactly if no separator could be one greater.
use mathlib.Core.Path.{◌≡◌, refl, sym, ap, ◌∙◌}
use mathlib.Core.Bool.{Bool, true, false, not, cond, ◌&&◌, ◌||◌, and-false}
use mathlib.Core.List.{List, [], ◌∷◌, Memᴰ}
use mathlib.Core.Logic.{◌↔◌}
use Prim.Native.Nat.{ℕ, zero, suc, ◌+◌, ◌≤◌, ◌<◌}
use native.Mathlib.Nat.{zero-add, add-zero, suc-add, add-suc, le_refl}
use native.Mathlib.Numerals.{add-one}
use native.Mathlib.Decide.{dec_le, dec_lt}
use native.Mathlib.Omega.{arith}
use lib.Dec.{leb, ltb, eqb}
use lib.ListN.{length, get_or, take, drop, length-drop}
use lib.Seq.{ext_get_or, take_all, length-take-le, get_or-take, get_or-drop}
use borrow.Author.Tests.{leb-false, ltb-false, le-leb, lt-leb, lt-ltb, le-ltb, eq-eqb, ne_eqb, eqb-true, eqb-false}
use Rattle.pages.specs.Page.{part}
use Rattle.placement.specs.Rule.{Star, Hash, keep, filter, below, staying, passing, separator_of, contents_of, onward, pages, first, pour, separators, star_with}
use Rattle.placement.specs.Shape.{blank}
use Rattle.placement.specs.File.{File, stars_of, stars_at, contents_at, pages_at, gathered, laid, file_of, Clean}
use Rattle.placement.specs.Shape.{Sized}
use Rattle.placement.proofs.Filters.{filter-ext, filter-ext_on, filter-filter}
use Rattle.placement.proofs.Separator.{stays, below-mono, sep_great, sep_unique}
use Rattle.placement.proofs.Standing.{stands_at, first-ge, first_below, first-before, first-later, first-within, page-first}
use Rattle.placement.proofs.Composition.{length-pages}
use Rattle.placement.proofs.Domination.{Holds}
use Rattle.placement.proofs.Order.{Sorted, filter-pour, length-pour, sorted-pour}
use Rattle.placement.proofs.Writing.{get_d_separators, length_part}
use Rattle.placement.proofs.Files.{length-pages_at}
use Rattle.placement.proofs.Sound.{AllSound, gathered-add, gathered-first, stands-gathered, sound-holds, clean_said}
use Rattle.clean_test.specs.Raising.{passed, counts_on, count_on, count_from, raisable_from, raisable}

-- Of the separators vs, from page p, each below top would keep more than room of w if it were one greater.
abbrev pub Unraisable : Hash → ℕ → List ℕ → List Star → Type 0
Unraisable H p [] w = Unit {0}
Unraisable H p (v ∷ vs) w = (v < H.top → H.room < length (staying H p (suc v) w)) × Unraisable H (suc p) vs (passing H p v w)

pub unraisable_rule : (H : Hash) (p : ℕ) (vs : List ℕ) (w : List Star) → Holds H p vs w → Unraisable H p vs w → separators (pages H p (length vs) w) ≡ vs
unfolding pages separators contents_of onward
unraisable_rule H p [] w h t = refl
unraisable_rule H p (v ∷ vs) w h t =
    rw (sep_unique H p w v h.0 h.1 t.0)
    (ap (λ (l : List ℕ). v ∷ l) (unraisable_rule H (suc p) vs (passing H p v w) h.2 t.1))

pub rule_unraisable : (H : Hash) (p n : ℕ) (w : List Star) → Unraisable H p (separators (pages H p n w)) w
unfolding pages separators contents_of onward
rule_unraisable H p zero w = tt
rule_unraisable H p (suc n) w = (λ h. go (dec_le (length (staying H p (suc (separator_of H p w)) w)) H.room) h, rule_unraisable H (suc p) n (onward H p w))
  where
    go : Dec (length (staying H p (suc (separator_of H p w)) w) ≤ H.room) → separator_of H p w < H.top → H.room < length (staying H p (suc (separator_of H p w)) w)
    go (yes d) h = absurd (omega (arith, sep_great H p w (suc (separator_of H p w)) h d))
    go (no d) h = omega arith

-- The star is on no page below p + i, and would be below that page's separator if it were one greater.
abbrev within : Hash → ℕ → List ℕ → ℕ → Star → Bool
within H p vs i s = leb (p + i) (first H p vs s.number) && below H (p + i) (suc (get_or vs i 0)) s.number

within-here : (H : Hash) (p v : ℕ) (vs : List ℕ) (w : List Star) → filter (within H p (v ∷ vs) 0) w ≡ staying H p (suc v) w
unfolding staying
within-here H p v vs w =
    filter-ext (within H p (v ∷ vs) 0) (stays H p (suc v))
    (λ s. rw (add-zero p, le-leb p (first H p (v ∷ vs) s.number) (first-ge H p (v ∷ vs) s.number))) w

within-later : (H : Hash) (p v i : ℕ) (vs : List ℕ) (w : List Star) → filter (within H p (v ∷ vs) (suc i)) w ≡ filter (within H (suc p) vs i) (passing H p v w)
unfolding first passing
within-later H p v i vs w =
    filter-ext (within H p (v ∷ vs) (suc i)) (λ (s : Star). not (stays H p v s) && within H (suc p) vs i s) (λ s. rw (add-suc p i, suc-add p i) (go s (below H p v s.number))) w
    ∙ sym (filter-filter (within H (suc p) vs i) (λ (s : Star). not (stays H p v s)) w)
  where
    go : (s : Star) (t : Bool)
        → leb (suc (p + i)) (cond t p (first H (suc p) vs s.number)) && below H (suc (p + i)) (suc (get_or vs i 0)) s.number
        ≡ not t && (leb (suc (p + i)) (first H (suc p) vs s.number) && below H (suc (p + i)) (suc (get_or vs i 0)) s.number)
    go s true = rw (lt-leb (suc (p + i)) p (omega arith))
    go s false = refl

abbrev AtEach : Hash → ℕ → List ℕ → List Star → Type 0
AtEach H p vs w = (i : ℕ) → i < length vs → get_or vs i 0 < H.top → H.room < length (filter (within H p vs i) w)

each_unraisable : (H : Hash) (p : ℕ) (vs : List ℕ) (w : List Star) → AtEach H p vs w → Unraisable H p vs w
each_unraisable H p [] w t = tt
each_unraisable H p (v ∷ vs) w t = (
  λ h. rw (within-here H p v vs w) at (t zero (omega arith) h),
  each_unraisable H (suc p) vs (passing H p v w) (λ i k h. rw (within-later H p v i vs w) at (t (suc i) (omega arith) h)),
)

unraisable_each : (H : Hash) (p : ℕ) (vs : List ℕ) (w : List Star) → Unraisable H p vs w → AtEach H p vs w
unraisable_each H p [] w t i k h = absurd (omega arith)
unraisable_each H p (v ∷ vs) w t zero k h = rw (within-here H p v vs w) (t.0 h)
unraisable_each H p (v ∷ vs) w t (suc i) k h = rw (within-later H p v i vs w) (unraisable_each H (suc p) vs (passing H p v w) t.1 i (omega arith) h)

-- A signature not below v is below v + 1 if it is v.
next-signature : (x v : ℕ) → v ≤ x → ltb x (suc v) ≡ eqb x v
next-signature x v h = go (eqb x v) refl
  where
    go : (t : Bool) → eqb x v ≡ t → ltb x (suc v) ≡ t
    go true e = lt-ltb x (suc v) (omega (arith, eqb-true x v e))
    go false e = le-ltb x (suc v) (omega (arith, eqb-false x v e))

below_next : (H : Hash) (p v k : ℕ) → below H p v k ≡ false → below H p (suc v) k ≡ leb (H.home k) p && eqb (H.signature k p) v
unfolding below
below_next H p v k e = go (leb (H.home k) p) e
  where
    go : (t : Bool) → t && ltb (H.signature k p) v ≡ false → t && ltb (H.signature k p) (suc v) ≡ t && eqb (H.signature k p) v
    go true e = next-signature (H.signature k p) v (ltb-false (H.signature k p) v e)
    go false e = refl

-- Of the numbers whose first page among the separators from page `from` is their first page of all, those within are those that count.
within-counted : (H : Hash) (from : ℕ) (vs us : List ℕ) (i k : ℕ) → i < length us → get_or us i 0 ≡ get_or vs (from + i) 0
    → leb (from + i) (first H from us k) && below H (from + i) (suc (get_or us i 0)) k ≡ counts_on H vs (from + i) (first H from us k) k
unfolding counts_on passed
within-counted H from vs us i k h e = rw (← e) (go (dec_lt F p) (dec_lt p F))
  where
    p : ℕ
    p = from + i

    F : ℕ
    F = first H from us k

    go : Dec (F < p) → Dec (p < F)
        → leb p F && below H p (suc (get_or us i 0)) k ≡ eqb F p || (leb (H.home k) p && (ltb p F && eqb (H.signature k p) (get_or us i 0)))
    go (yes l) g =
        rw (lt-leb p F l, ne_eqb F p (λ e. omega (arith, e)), le-ltb p F (omega arith)) (sym (and-false (leb (H.home k) p)))
    go (no l) (yes g) =
        let out : below H p (get_or us i 0) k ≡ false = first-before H from i us k h g in
        rw (le-leb p F (omega arith), ne_eqb F p (λ e. omega (arith, e)), lt-ltb p F g) (below_next H p (get_or us i 0) k out)
    go (no l) (no g) =
        let here : F ≡ p = omega arith in
        let stands : below H p (get_or us i 0) k ≡ true = first_below H from i us k h here in
        rw (le-leb p F (omega arith), eq-eqb F p here) (below-mono H p (get_or us i 0) (suc (get_or us i 0)) k (omega arith) stands)

-- Counting stars is counting numbers other than 0.
length-keep : {A : Type 0} (t : Bool) (x : A) (l : List A) → length (keep t x l) ≡ cond t 1 0 + length l
length-keep true x l = omega arith
length-keep false x l = omega arith

count-stars : (q : ℕ → Bool) (ns ws os : List ℕ) → length ns ≡ length ws → length ns ≡ length os
    → length (filter (λ (n : ℕ). not (eqb n 0) && q n) ns) ≡ length (filter (λ (s : Star). q s.number) (stars_of ns ws os))
unfolding filter stars_of
count-stars q [] ws os e eo = refl
count-stars q (n ∷ ns) [] os e eo = absurd (omega (arith, e))
count-stars q (n ∷ ns) (w ∷ ws) [] e eo = absurd (omega (arith, eo))
count-stars q (n ∷ ns) (w ∷ ws) (o ∷ os) e eo = go (eqb n 0) (count-stars q ns ws os (omega (arith, e)) (omega (arith, eo)))
  where
    go : (t : Bool) → length (filter (λ (m : ℕ). not (eqb m 0) && q m) ns) ≡ length (filter (λ (s : Star). q s.number) (stars_of ns ws os))
        → length (keep (not t && q n) n (filter (λ (m : ℕ). not (eqb m 0) && q m) ns))
        ≡ length (filter (λ (s : Star). q s.number) (keep (not t) (star_with n w o) (stars_of ns ws os)))
    go true ih = ih
    go false ih =
        length-keep (q n) n (filter (λ (m : ℕ). not (eqb m 0) && q m) ns)
        ∙ ap (λ (k : ℕ). cond (q n) 1 0 + k) ih
        ∙ sym (length-keep (q n) (star_with n w o) (filter (λ (s : Star). q s.number) (stars_of ns ws os)))

gathered_next : (b : ℕ) (f : File) (from n : ℕ) → gathered b f from (suc n) ≡ pour (gathered b f from n) (pour (stars_at b f (from + n)) [])
unfolding gathered
gathered_next b f from n = ap (gathered b f from) (sym (add-one n)) ∙ gathered-add b f from n 1

length-poured : (q : Star → Bool) (xs l : List Star) → Sorted 0 l → length (filter q (pour xs l)) ≡ length (filter q xs) + length (filter q l)
length-poured q xs l h = ap length (filter-pour q xs l h) ∙ length-pour (filter q xs) (filter q l)

count_next : (q : Star → Bool) (b : ℕ) (f : File) (from n : ℕ)
    → length (filter q (gathered b f from (suc n))) ≡ length (filter q (gathered b f from n)) + length (filter q (stars_at b f (from + n)))
unfolding filter
count_next q b f from n =
    ap (λ (l : List Star). length (filter q l)) (gathered_next b f from n)
    ∙ length-poured q (gathered b f from n) (pour (stars_at b f (from + n)) []) (sorted-pour (stars_at b f (from + n)) [] tt)
    ∙ ap (λ (k : ℕ). length (filter q (gathered b f from n)) + k) (length-poured q (stars_at b f (from + n)) [] tt ∙ add-zero (length (filter q (stars_at b f (from + n)))))

get_d_pages_at : (b : ℕ) (f : File) (p n i : ℕ) → i < n → get_or (pages_at b f p n) i blank ≡ contents_at b f (p + i)
unfolding pages_at
get_d_pages_at b f p zero i h = absurd (omega arith)
get_d_pages_at b f p (suc n) zero h = rw (add-zero p)
get_d_pages_at b f p (suc n) (suc i) h = rw (add-suc p i) (rw (suc-add p i) at (get_d_pages_at b f (suc p) n i (omega arith)))

-- The n pages from `from` on are sound.
module _ (ok : ℕ → Bool) (H : Hash) (M : ℕ) (f : File) (sized : Sized H.room M f) (from n : ℕ) (inside : from + n ≤ M) (all : AllSound ok H f from n) where
  abbrev G : List Star
  G = gathered H.room f from n

  -- their separators
  abbrev us : List ℕ
  us = take n (drop from f.separators)

  size : length us ≡ n
  size = length-take-le n (drop from f.separators) (omega (arith, length-drop from f.separators, sized.of_separators))

  item : (i : ℕ) → i < n → get_or us i 0 ≡ get_or f.separators (from + i) 0
  item i k = get_or-take n (drop from f.separators) i 0 k ∙ get_or-drop from f.separators i 0

  -- A star's first page among them is its first page of all.
  shorter : (s : Star) → Memᴰ s G → first H from us s.number ≡ first H 0 f.separators s.number
  shorter s m =
      let g = gathered-first ok H f from n all s m in
      let later : first H from (drop from f.separators) s.number ≡ first H 0 f.separators s.number =
      rw (zero-add from) at (first-later H 0 from f.separators s.number (omega (arith, sized.of_separators)) (rw (zero-add from) g.0)) in
      first-within H from n (drop from f.separators) s.number (omega (arith, later, g.1)) ∙ later

  abbrev here : ℕ → Star → Bool
  here p s = counts_on H f.separators p (first H 0 f.separators s.number) s.number

  count-page : (p q : ℕ) → from ≤ q → q < from + n → count_on H f.separators f.numbers p q ≡ length (filter (here p) (stars_at H.room f q))
  unfolding count_on stars_at
  count-page p q a h =
      let few : q < M = omega arith in
      count-stars (counts_on H f.separators p q) (part H.room q f.numbers) (part H.room q f.words) (part H.room q f.owners)
      (length_part H.room q M f.numbers sized.of_numbers few ∙ sym (length_part H.room q M f.words sized.of_words_lem few))
      (length_part H.room q M f.numbers sized.of_numbers few ∙ sym (length_part H.room q M f.owners sized.of_owners few))
      ∙ ap length
      (filter-ext_on (λ (s : Star). counts_on H f.separators p q s.number) (here p) (stars_of (part H.room q f.numbers) (part H.room q f.words) (part H.room q f.owners))
      (λ s m. ap (λ (r : ℕ). counts_on H f.separators p r s.number) (sym ((all q a h).here s m))))

  count-pages : (p m : ℕ) → m ≤ n → count_from H f.separators f.numbers from p m ≡ length (filter (here p) (gathered H.room f from m))
  unfolding count_from gathered filter
  count-pages p zero h = refl
  count-pages p (suc m) h =
      rw (count-pages p m (omega arith), count-page p (from + m) (omega arith) (omega arith)) (sym (count_next (here p) H.room f from m))

  count-within : (i : ℕ) → i < n → count_from H f.separators f.numbers from (from + i) n ≡ length (filter (within H from us i) G)
  count-within i h =
      count-pages (from + i) n (le_refl n)
      ∙ ap length
      (filter-ext_on (here (from + i)) (within H from us i) G
      (λ s m.
      ap (λ (r : ℕ). counts_on H f.separators (from + i) r s.number) (sym (shorter s m))
      ∙ sym (within-counted H from f.separators us i s.number (omega (arith, size)) (item i h))))

  -- The rule gives these separators: then it gives these pages.
  pages-said : separators (pages H from n G) ≡ us → pages_at H.room f from n ≡ pages H from n G
  unfolding contents_at
  pages-said e =
      ext_get_or blank (pages_at H.room f from n) (pages H from n G) (length-pages_at H.room f from n ∙ sym (length-pages H from n G))
      (λ i h. same i (omega (arith, length-pages_at H.room f from n)))
    where
      stars-same : (i : ℕ) → i < n → stars_at H.room f (from + i) ≡ (get_or (pages H from n G) i blank).stars
      stars-same i h =
          sym (page-first H from n i G h
          ∙ ap (λ (vs : List ℕ). filter (stands_at H from vs (from + i)) G) e
          ∙ filter-ext_on (stands_at H from us (from + i)) (stands_at H 0 f.separators (from + i)) G (λ s m. ap (λ (r : ℕ). eqb r (from + i)) (shorter s m))
          ∙ stands-gathered ok H f from n (from + i) all (omega arith) (omega arith))

      separator_same : (i : ℕ) → i < n → get_or f.separators (from + i) 0 ≡ (get_or (pages H from n G) i blank).separator
      separator_same i h = sym (item i h) ∙ ap (λ (vs : List ℕ). get_or vs i 0) (sym e) ∙ get_d_separators (pages H from n G) i

      same : (i : ℕ) → i < n → get_or (pages_at H.room f from n) i blank ≡ get_or (pages H from n G) i blank
      same i h = get_d_pages_at H.room f from n i h ∙ (λ j. record { separator = separator_same i h j; stars = stars-same i h j })

  -- No separator of them could be one greater, by their own stars: they are what the rule gives these.
  pub none-ruled : ((p : ℕ) → from ≤ p → p < from + n → raisable_from H from n f.separators f.numbers p ≡ false) → pages_at H.room f from n ≡ pages H from n G
  unfolding raisable_from
  none-ruled none = pages-said rule
    where
      each : AtEach H from us G
      each i k h =
          let within-n : i < n = omega (arith, size) in
          let low : get_or f.separators (from + i) 0 < H.top = rw (item i within-n) at h in
          let more : leb (count_from H f.separators f.numbers from (from + i) n) H.room ≡ false =
          rw (lt-ltb (get_or f.separators (from + i) 0) H.top low) at (none (from + i) (omega arith) (omega arith)) in
          rw (← count-within i within-n) (leb-false (count_from H f.separators f.numbers from (from + i) n) H.room more)

      rule : separators (pages H from n G) ≡ us
      rule = rw size at (unraisable_rule H from us G (sound-holds ok H f M from n sized inside all) (each_unraisable H from us G each))

  ruled-none : separators (pages H from n G) ≡ us → (i : ℕ) → i < n → raisable_from H from n f.separators f.numbers (from + i) ≡ false
  unfolding raisable_from
  ruled-none rule i h = go (dec_lt (get_or f.separators (from + i) 0) H.top)
    where
      each : AtEach H from us G
      each = unraisable_each H from us G (rw rule at (rule_unraisable H from n G))

      go : Dec (get_or f.separators (from + i) 0 < H.top)
          → ltb (get_or f.separators (from + i) 0) H.top && leb (count_from H f.separators f.numbers from (from + i) n) H.room ≡ false
      go (yes d) =
          rw (lt-ltb (get_or f.separators (from + i) 0) H.top d)
          (lt-leb (count_from H f.separators f.numbers from (from + i) n) H.room (rw (count-within i h) (each i (omega (arith, size)) (rw (item i h) d))))
      go (no d) = rw (le-ltb (get_or f.separators (from + i) 0) H.top (omega arith))

module _ (ok : ℕ → Bool) (H : Hash) (M : ℕ) (f : File) (sized : Sized H.room M f) (all : AllSound ok H f 0 M) where
  whole : take M (drop 0 f.separators) ≡ f.separators
  whole = take_all M f.separators (omega (arith, sized.of_separators))

  none-clean : ((p : ℕ) → p < M → raisable H M f.separators f.numbers p ≡ false) → Clean ok H M f
  none-clean none = clean_said ok H f M sized all (none-ruled ok H M f sized 0 M (omega arith) all (λ p a h. none p (omega arith)))

  clean-none : Clean ok H M f → (p : ℕ) → p < M → raisable H M f.separators f.numbers p ≡ false
  unfolding laid file_of
  clean-none c p h = rw (zero-add p) at (ruled-none ok H M f sized 0 M (omega arith) all (rule ∙ sym whole) p h)
    where
      rule : separators (pages H 0 M (gathered H.room f 0 M)) ≡ f.separators
      rule = sym (ap (λ (l : File). l.separators) c.by_rule)

  -- The file is clean exactly if no separator could be one greater.
  pub clean_exactly : ((p : ℕ) → p < M → raisable H M f.separators f.numbers p ≡ false) ↔ Clean ok H M f
  clean_exactly = (none-clean, clean-none)
