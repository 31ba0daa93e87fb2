-- Sound pages of any file: named facts, what the stars of a sound stretch are, and that the rule holds them.
use mathlib.Core.Path.{◌≡◌, refl, sym, ap, ◌∙◌}
use mathlib.Core.Bool.{Bool, true, ◌&&◌}
use mathlib.Core.List.Memᴰ
use mathlib.Core.List.{List, [], ◌∷◌, ◌++◌, map, Memᴰ}
use mathlib.Core.Logic.{◌⊎◌, inl, inr}
use Prim.Native.Nat.{ℕ, zero, suc, ◌+◌, ◌*◌, ◌≤◌, ◌<◌}
use native.Mathlib.Nat.{zero-add, add-zero, suc-add, add-suc, add_comm, zero-mul, suc-mul, add-mul, mul-le-mul_right, le_refl}
use native.Mathlib.Decide.{dec_le}
use native.Mathlib.Omega.{arith}
use lib.Dec.{leb, eqb}
use lib.ListN.{length, take, drop, get_or, length-drop}
use lib.Seq.{drop-cons, drop-drop, take-add, take_all, length-take-le, get_or-take, get_or-drop}
use borrow.Author.Tests.{leb-true, le-leb, le-ltb, eqb-true, eq-eqb, ne_eqb}
use Rattle.buffers.proofs.Tests.{and-true}
use Rattle.buffers.proofs.Written.{written_same}
use Rattle.buffers.specs.Lists.{written, padded}
use Rattle.pages.specs.Page.{part}
use Rattle.placement.specs.Rule.{Star, Hash, Contents, filter, contents_of, onward, pages, left, first, insert, pour, separators}
use Rattle.placement.specs.Shape.{blank}
use Rattle.placement.specs.File.{File, stars_at, contents_at, pages_at, gathered, orderly, every, sound, column, file_of, replaced, laid, Clean}
use Rattle.placement.specs.Shape.{Sized}
use Rattle.placement.proofs.Filters.{filter-all, filter-ext_on, filter-all-on, filter-none-on}
use Rattle.placement.proofs.Separator.{Bounded, sep_le}
use Rattle.placement.proofs.Composition.{length-pages}
use Rattle.placement.proofs.Irrelevance.{near}
use Rattle.placement.proofs.Standing.{stands-first, stands_at, first-later, first-within, past_top}
use Rattle.placement.proofs.Domination.{Holds, holds-part, holds-first, dominated, stored}
use Rattle.placement.proofs.Order.{Sorted, Rising, Absent, sorted_insert, rising-sorted, rising-distinct, rising-pour, pour-insert, pour-comm, pour-pour, pour-nil, filter-pour, member_pour, poured, pour-keeps, sorted-pour}
use Rattle.placement.proofs.Locality.{blocks-pages, blocks-left}
use Rattle.placement.proofs.Writing.{Roomy, part-column, length_part}
use Rattle.placement.proofs.Pages.{Proper, rising-one, every-member, member_every, Columns, orderly-rising, orderly-proper, orderly-columns, orderly-padded, length-stars_of}
use Rattle.placement.proofs.Files.{number_of, word_of, owner_of, roomy-pages, page-member, rising-page, stars_at-laid, gathered-laid}

pub separator_top : (H : Hash) (p n i : ℕ) (w : List Star) → i < n → get_or (separators (pages H p n w)) i 0 ≤ H.top
unfolding pages separators contents_of
separator_top H p zero i w h = absurd (omega arith)
separator_top H p (suc n) zero w h = sep_le H p w
separator_top H p (suc n) (suc i) w h = separator_top H (suc p) n i (onward H p w) (omega arith)

pub record Sound (ok : ℕ → Bool) (H : Hash) (f : File) (p : ℕ) : Type 0 where
  pub in_order_lem : orderly ok 0 (part H.room p f.numbers) (part H.room p f.words) (part H.room p f.owners) ≡ true
  pub at_most : get_or f.separators p 0 ≤ H.top
  pub here : (s : Star) → Memᴰ s (stars_at H.room f p) → first H 0 f.separators s.number ≡ p

pub sound-facts : (ok : ℕ → Bool) (H : Hash) (f : File) (p : ℕ) → sound ok H f p ≡ true → Sound ok H f p
unfolding sound
sound-facts ok H f p e =
    record {
      in_order_lem = a.0;
      at_most = leb-true (get_or f.separators p 0) H.top c.0;
      here = λ s m. eqb-true (first H 0 f.separators s.number) p (every-member test (stars_at H.room f p) c.1 s m);
    }
  where
    test : Star → Bool
    test s = eqb (first H 0 f.separators s.number) p

    a : (orderly ok 0 (part H.room p f.numbers) (part H.room p f.words) (part H.room p f.owners) ≡ true)
        × (leb (get_or f.separators p 0) H.top && every test (stars_at H.room f p) ≡ true)
    a =
        and-true (orderly ok 0 (part H.room p f.numbers) (part H.room p f.words) (part H.room p f.owners))
        (leb (get_or f.separators p 0) H.top && every test (stars_at H.room f p)) e

    c : (leb (get_or f.separators p 0) H.top ≡ true) × (every test (stars_at H.room f p) ≡ true)
    c = and-true (leb (get_or f.separators p 0) H.top) (every test (stars_at H.room f p)) a.1

pub facts-sound : (ok : ℕ → Bool) (H : Hash) (f : File) (p : ℕ) → Sound ok H f p → sound ok H f p ≡ true
unfolding sound
facts-sound ok H f p c =
    rw (c.in_order_lem, le-leb (get_or f.separators p 0) H.top c.at_most)
    (member_every (λ (s : Star). eqb (first H 0 f.separators s.number) p) (stars_at H.room f p) (λ s m. eq-eqb (first H 0 f.separators s.number) p (c.here s m)))

-- The stars of a sound page.
pub sound-rising : (ok : ℕ → Bool) (H : Hash) (f : File) (p : ℕ) → Sound ok H f p → Rising 1 (stars_at H.room f p)
unfolding stars_at
sound-rising ok H f p c = orderly-rising ok 0 (part H.room p f.numbers) (part H.room p f.words) (part H.room p f.owners) (omega arith) c.in_order_lem

pub sound-proper : (ok : ℕ → Bool) (H : Hash) (f : File) (p : ℕ) → Sound ok H f p → Proper ok (stars_at H.room f p)
unfolding stars_at
sound-proper ok H f p c = orderly-proper ok 0 (part H.room p f.numbers) (part H.room p f.words) (part H.room p f.owners) c.in_order_lem

-- Every page of a laid file is sound.
pub sound-laid : (ok : ℕ → Bool) (H : Hash) (M : ℕ) (w : List Star) → Rising 0 w → Proper ok w → (p : ℕ) → p < M → Sound ok H (laid H.room H M w) p
unfolding laid file_of
sound-laid ok H M w r proper p h =
    record {
      in_order_lem =
          rw (part-column H.room number_of cs p roomy inside, part-column H.room word_of cs p roomy inside, part-column H.room owner_of cs p roomy inside)
          (orderly-padded ok H.room (get_or cs p blank).stars
          (rising-one (get_or cs p blank).stars (rising-page H 0 M p 0 w h r) (λ s m. (proper s (page-member H 0 M p w h s m)).0))
          (λ s m. proper s (page-member H 0 M p w h s m)));
      at_most = separator_top H 0 M p w h;
      here = λ s m. (stands-first H 0 M p w s h (rw (stars_at-laid ok H M w proper p h) at m)).1 ∙ zero-add p;
    }
  where
    cs : List Contents
    cs = pages H 0 M w

    roomy : Roomy H.room cs
    roomy = roomy-pages H 0 M w

    inside : p < length cs
    inside = omega (arith, length-pages H 0 M w)

pub clean_laid : (ok : ℕ → Bool) (H : Hash) (M : ℕ) (w : List Star) → Rising 0 w → Proper ok w → left H 0 M w ≡ [] → Clean ok H M (laid H.room H M w)
clean_laid ok H M w r proper e =
    record {
      all_sound_lem = λ p h. facts-sound ok H (laid H.room H M w) p (sound-laid ok H M w r proper p h);
      by_rule = ap (laid H.room H M) (sym (gathered-laid ok H M w proper 0 r e));
    }

abbrev pub AllSound : (ℕ → Bool) → Hash → File → ℕ → ℕ → Type 0
AllSound ok H f p n = (q : ℕ) → p ≤ q → q < p + n → Sound ok H f q

pub sorted-gathered : (b : ℕ) (f : File) (p n : ℕ) → Sorted 0 (gathered b f p n)
unfolding gathered
sorted-gathered b f p zero = tt
sorted-gathered b f p (suc n) = sorted-pour (stars_at b f p) (gathered b f (suc p) n) (sorted-gathered b f (suc p) n)

pub gathered-add : (b : ℕ) (f : File) (p n m : ℕ) → gathered b f p (n + m) ≡ pour (gathered b f p n) (gathered b f (p + n) m)
unfolding gathered pour
gathered-add b f p zero m = rw (zero-add m, add-zero p)
gathered-add b f p (suc n) m =
    rw (suc-add n m, add-suc p n)
    (ap (pour (stars_at b f p)) (rw (suc-add p n) at (gathered-add b f (suc p) n m))
    ∙ sym (pour-pour (stars_at b f p) (gathered b f (suc p) n) (gathered b f (suc (p + n)) m)))

-- A gathered star stands on one of the pages.
pub gathered-member : (b : ℕ) (f : File) (p n : ℕ) (s : Star) → Memᴰ s (gathered b f p n) → (q : ℕ) × (p ≤ q) × (q < p + n) × Memᴰ s (stars_at b f q)
unfolding gathered
gathered-member b f p zero s m = absurd (Memᴰ.not-nil m)
gathered-member b f p (suc n) s m = go (gathered-member b f (suc p) n s) (member_pour (stars_at b f p) (gathered b f (suc p) n) s m)
  where
    go : (Memᴰ s (gathered b f (suc p) n) → (q : ℕ) × (suc p ≤ q) × (q < suc p + n) × Memᴰ s (stars_at b f q))
        → Memᴰ s (stars_at b f p) ⊎ Memᴰ s (gathered b f (suc p) n) → (q : ℕ) × (p ≤ q) × (q < p + suc n) × Memᴰ s (stars_at b f q)
    go ih (inl m) = (p, le_refl p, omega arith, m)
    go ih (inr m) = let r = ih m in (r.0, omega (arith, r.1), omega (arith, r.2), r.3)

pub member_gathered : (b : ℕ) (f : File) (p n q : ℕ) (s : Star) → p ≤ q → q < p + n → Memᴰ s (stars_at b f q) → Memᴰ s (gathered b f p n)
unfolding gathered
member_gathered b f p zero q s h k m = absurd (omega arith)
member_gathered b f p (suc n) q s h k m = go (dec_le q p) (member_gathered b f (suc p) n q s)
  where
    go : Dec (q ≤ p) → (suc p ≤ q → q < suc p + n → Memᴰ s (stars_at b f q) → Memᴰ s (gathered b f (suc p) n))
        → Memᴰ s (pour (stars_at b f p) (gathered b f (suc p) n))
    go (yes d) ih =
        let e : q ≡ p = omega arith in
        poured (stars_at b f p) (gathered b f (suc p) n) s (rw e at m)
    go (no d) ih = pour-keeps (stars_at b f p) (gathered b f (suc p) n) s (ih (omega arith) (omega arith) m)

module _ (ok : ℕ → Bool) (H : Hash) (f : File) where
  -- Its first page is the page where it stands.
  pub gathered-first : (p n : ℕ) → AllSound ok H f p n → (s : Star) → Memᴰ s (gathered H.room f p n)
      → (p ≤ first H 0 f.separators s.number) × (first H 0 f.separators s.number < p + n)
  gathered-first p n a s m =
      let g = gathered-member H.room f p n s m in
      let e = (a g.0 g.1 g.2).here s g.3 in
      (omega (arith, e, g.1), omega (arith, e, g.2))

  pub gathered-proper : (p n : ℕ) → AllSound ok H f p n → Proper ok (gathered H.room f p n)
  gathered-proper p n a s m =
      let g = gathered-member H.room f p n s m in
      sound-proper ok H f g.0 (a g.0 g.1 g.2) s g.3

  pub gathered-rising : (p n : ℕ) → AllSound ok H f p n → Rising 0 (gathered H.room f p n)
  unfolding gathered
  gathered-rising p zero a = tt
  gathered-rising p (suc n) a =
      rising-pour (stars_at H.room f p) (gathered H.room f (suc p) n)
      (rising-distinct 1 (stars_at H.room f p) (sound-rising ok H f p (a p (le_refl p) (omega arith))))
      (λ x m t k e.
      omega (
        arith,
        (a p (le_refl p) (omega arith)).here x m,
        (gathered-first (suc p) n (λ q g h. a q (omega arith) (omega arith)) t k).0,
        ap (first H 0 f.separators) e,
      ))
      (gathered-rising (suc p) n (λ q g h. a q (omega arith) (omega arith)))

  -- A number that the page its separators name does not hold is on no sound page.
  pub absent_named : (p n k : ℕ) → AllSound ok H f p n → Absent k (stars_at H.room f (first H 0 f.separators k)) → Absent k (gathered H.room f p n)
  absent_named p n k a none t m e =
      let g = gathered-member H.room f p n t m in
      let at : first H 0 f.separators k ≡ g.0 = ap (first H 0 f.separators) (sym e) ∙ (a g.0 g.1 g.2).here t g.3 in
      none t (rw at g.3) e

  -- The stars of page q, among those of the stretch.
  pub stands-gathered : (p n q : ℕ) → AllSound ok H f p n → p ≤ q → q < p + n
      → filter (stands_at H 0 f.separators q) (gathered H.room f p n) ≡ stars_at H.room f q
  unfolding gathered pour
  stands-gathered p zero q a h k = absurd (omega arith)
  stands-gathered p (suc n) q a h k =
      filter-pour (stands_at H 0 f.separators q) (stars_at H.room f p) (gathered H.room f (suc p) n) (sorted-gathered H.room f (suc p) n)
      ∙ go (dec_le q p) (stands-gathered (suc p) n q (λ r g i. a r (omega arith) (omega arith)))
    where
      sound-here : (s : Star) → Memᴰ s (stars_at H.room f p) → first H 0 f.separators s.number ≡ p
      sound-here = (a p (le_refl p) (omega arith)).here

      later : (s : Star) → Memᴰ s (gathered H.room f (suc p) n) → suc p ≤ first H 0 f.separators s.number
      later s m = (gathered-first (suc p) n (λ r g i. a r (omega arith) (omega arith)) s m).0

      go : Dec (q ≤ p)
          → (suc p ≤ q → q < suc p + n → filter (stands_at H 0 f.separators q) (gathered H.room f (suc p) n) ≡ stars_at H.room f q)
          → pour (filter (stands_at H 0 f.separators q) (stars_at H.room f p)) (filter (stands_at H 0 f.separators q) (gathered H.room f (suc p) n))
          ≡ stars_at H.room f q
      go (yes d) ih =
          let e : q ≡ p = omega arith in
          let all : filter (stands_at H 0 f.separators q) (stars_at H.room f p) ≡ stars_at H.room f p =
          filter-all-on (stands_at H 0 f.separators q) (stars_at H.room f p) (λ s m. eq-eqb (first H 0 f.separators s.number) q (sound-here s m ∙ sym e)) in
          let none : filter (stands_at H 0 f.separators q) (gathered H.room f (suc p) n) ≡ [] =
          filter-none-on (stands_at H 0 f.separators q) (gathered H.room f (suc p) n) (λ s m. ne_eqb (first H 0 f.separators s.number) q (λ g. omega (arith, g, later s m))) in
          rw (all, none)
          (pour-nil 1 (stars_at H.room f p) (rising-sorted 1 (stars_at H.room f p) (sound-rising ok H f p (a p (le_refl p) (omega arith))))
          ∙ ap (stars_at H.room f) (sym e))
      go (no d) ih =
          let none : filter (stands_at H 0 f.separators q) (stars_at H.room f p) ≡ [] =
          filter-none-on (stands_at H 0 f.separators q) (stars_at H.room f p) (λ s m. ne_eqb (first H 0 f.separators s.number) q (λ g. omega (arith, g, sound-here s m))) in
          rw none (ih (omega arith) (omega arith))

  pub length-stars_at : (M p : ℕ) → Sized H.room M f → p < M → length (stars_at H.room f p) ≤ H.room
  unfolding stars_at
  length-stars_at M p z h =
      omega (arith, length-stars_of (part H.room p f.numbers) (part H.room p f.words) (part H.room p f.owners), length_part H.room p M f.numbers z.of_numbers h)

  -- The stored separators of the stretch hold its stars.
  pub sound-holds : (M p n : ℕ) → Sized H.room M f → p + n ≤ M → AllSound ok H f p n → Holds H p (take n (drop p f.separators)) (gathered H.room f p n)
  sound-holds M p n z h a =
      holds-first H p vs G
      (λ i k. rw (item i (omega (arith, size))) (a (p + i) (omega arith) (omega (arith, size))).at_most)
      (λ i k.
      rw (same (p + i), stands-gathered p n (p + i) a (omega arith) (omega (arith, size)))
      (length-stars_at M (p + i) z (omega (arith, size))))
      (same (p + length vs)
      ∙ filter-none-on (stands_at H 0 f.separators (p + length vs)) G (λ s m. ne_eqb (first H 0 f.separators s.number) (p + length vs) (λ g. omega (arith, g, size, (gathered-first p n a s m).1))))
    where
      vs : List ℕ
      vs = take n (drop p f.separators)

      G : List Star
      G = gathered H.room f p n

      size : length vs ≡ n
      size = length-take-le n (drop p f.separators) (omega (arith, length-drop p f.separators, z.of_separators))

      item : (i : ℕ) → i < n → get_or vs i 0 ≡ get_or f.separators (p + i) 0
      item i k = get_or-take n (drop p f.separators) i 0 k ∙ get_or-drop p f.separators i 0

      shorter : (s : Star) → Memᴰ s G → first H p vs s.number ≡ first H 0 f.separators s.number
      shorter s m =
          let g = gathered-first p n a s m in
          let later : first H p (drop p f.separators) s.number ≡ first H 0 f.separators s.number =
          rw (zero-add p) at (first-later H 0 p f.separators s.number (omega (arith, z.of_separators)) (rw (zero-add p) g.0)) in
          first-within H p n (drop p f.separators) s.number (omega (arith, later, g.1)) ∙ later

      same : (q : ℕ) → filter (stands_at H p vs q) G ≡ filter (stands_at H 0 f.separators q) G
      same q = filter-ext_on (stands_at H p vs q) (stands_at H 0 f.separators q) G (λ s m. ap (λ (r : ℕ). eqb r q) (shorter s m))

  -- So the rule over any part of its stars leaves nothing, and gives separators at or above the stored ones.
  pub sound-fits : (M p n : ℕ) (q : Star → Bool) → Sized H.room M f → p + n ≤ M → AllSound ok H f p n → left H p n (filter q (gathered H.room f p n)) ≡ []
  sound-fits M p n q z h a =
      let size : length (take n (drop p f.separators)) ≡ n = length-take-le n (drop p f.separators) (omega (arith, length-drop p f.separators, z.of_separators)) in
      rw size at
      (dominated H p (take n (drop p f.separators)) (filter q (gathered H.room f p n))
      (holds-part H p (take n (drop p f.separators)) q (gathered H.room f p n) (sound-holds M p n z h a)))

  pub sound-stored : (M p n i : ℕ) (q : Star → Bool) → Sized H.room M f → p + n ≤ M → AllSound ok H f p n → i < n
      → get_or f.separators (p + i) 0 ≤ get_or (separators (pages H p n (filter q (gathered H.room f p n)))) i 0
  sound-stored M p n i q z h a k =
      let size : length (take n (drop p f.separators)) ≡ n = length-take-le n (drop p f.separators) (omega (arith, length-drop p f.separators, z.of_separators)) in
      let item : get_or (take n (drop p f.separators)) i 0 ≡ get_or f.separators (p + i) 0 = get_or-take n (drop p f.separators) i 0 k ∙ get_or-drop p f.separators i 0 in
      rw (size, item) at
      (stored H p (take n (drop p f.separators)) (filter q (gathered H.room f p n))
      (holds-part H p (take n (drop p f.separators)) q (gathered H.room f p n) (sound-holds M p n z h a)) i (omega (arith, size)))

  -- Stars on sound pages above a page whose separator is top are homed above that page.
  pub homed-above : Bounded H → (e q : ℕ) → e < length f.separators → get_or f.separators e 0 ≡ H.top → e < q → Sound ok H f q
      → (s : Star) → Memᴰ s (stars_at H.room f q) → e < H.home s.number
  homed-above b e q h top k c s m =
      omega (
        arith,
        zero-add e,
        past_top H b 0 e f.separators s.number h top (omega (arith, zero-add e, c.here s m)),
      )

  pub gathered-above : Bounded H → (e n : ℕ) → e < length f.separators → get_or f.separators e 0 ≡ H.top → AllSound ok H f (suc e) n
      → filter (near H (suc e)) (gathered H.room f (suc e) n) ≡ []
  gathered-above b e n h top a =
      filter-none-on (near H (suc e)) (gathered H.room f (suc e) n)
      (λ s m.
      let g = gathered-member H.room f (suc e) n s m in
      le-ltb (H.home s.number) (suc e) (homed-above b e g.0 h top (omega (arith, g.1)) (a g.0 g.1 g.2) s g.3))

  -- A newcomer with the stars of two adjacent stretches, as the second's stars poured upon it and the first's.
  pub newcomer : (p n m : ℕ) (s : Star) → AllSound ok H f p (n + m) → Absent s.number (gathered H.room f (p + n) m)
      → insert s (gathered H.room f p (n + m)) ≡ pour (gathered H.room f (p + n) m) (insert s (gathered H.room f p n))
  newcomer p n m s a none =
      ap (insert s)
      (gathered-add H.room f p n m
      ∙ ap (pour P) (sym (pour-nil 0 Q (sorted-gathered H.room f (p + n) m)))
      ∙ pour-comm P Q [] apart
      ∙ ap (pour Q) (pour-nil 0 P (sorted-gathered H.room f p n)))
      ∙ sym (pour-insert Q s P none)
    where
      P : List Star
      P = gathered H.room f p n

      Q : List Star
      Q = gathered H.room f (p + n) m

      apart : (y : Star) → Memᴰ y Q → Absent y.number P
      apart y my t mt e =
          omega (
            arith,
            (gathered-first (p + n) m (λ q g h. a q (omega arith) (omega arith)) y my).0,
            (gathered-first p n (λ q g h. a q (omega arith) (omega arith)) t mt).1,
            ap (first H 0 f.separators) e,
          )

  -- The pages p to p + d, the last with separator top, then m more: the second block waits with what the first leaves.
  pub blocks : Bounded H → (p d m : ℕ) (s : Star) → p + d < length f.separators → get_or f.separators (p + d) 0 ≡ H.top → AllSound ok H f p (suc d + m)
      → Absent s.number (gathered H.room f (p + suc d) m)
      → (pages H p (suc d + m) (insert s (gathered H.room f p (suc d + m)))
      ≡ pages H p (suc d) (insert s (gathered H.room f p (suc d)))
      ++ pages H (p + suc d) m (pour (gathered H.room f (p + suc d) m) (left H p (suc d) (insert s (gathered H.room f p (suc d))))))
      × (left H p (suc d + m) (insert s (gathered H.room f p (suc d + m)))
      ≡ left H (p + suc d) m (pour (gathered H.room f (p + suc d) m) (left H p (suc d) (insert s (gathered H.room f p (suc d))))))
  blocks b p d m s h top a none = (
    ap (pages H p (suc d + m)) (newcomer p (suc d) m s a none) ∙ blocks-pages H p (suc d) m Q A sorted above,
    ap (left H p (suc d + m)) (newcomer p (suc d) m s a none) ∙ blocks-left H p (suc d) m Q A sorted above,
  )
    where
      A : List Star
      A = insert s (gathered H.room f p (suc d))

      Q : List Star
      Q = gathered H.room f (p + suc d) m

      sorted : Sorted 0 A
      sorted = sorted_insert 0 s (gathered H.room f p (suc d)) (omega arith) (sorted-gathered H.room f p (suc d))

      above : filter (near H (p + suc d)) Q ≡ []
      above = rw (add-suc p d) (gathered-above b (p + d) m h top (λ q g i. a q (omega arith) (omega arith)))

  columns-said : (M p : ℕ) → Sized H.room M f → p < M → Sound ok H f p
      → Columns H.room (part H.room p f.numbers) (part H.room p f.words) (part H.room p f.owners) (stars_at H.room f p)
  unfolding stars_at
  columns-said M p z h c =
      let ln : length (part H.room p f.numbers) ≡ H.room = length_part H.room p M f.numbers z.of_numbers h in
      let lw : length (part H.room p f.words) ≡ H.room = length_part H.room p M f.words z.of_words_lem h in
      let lo : length (part H.room p f.owners) ≡ H.room = length_part H.room p M f.owners z.of_owners h in
      rw ln at (orderly-columns ok 0 (part H.room p f.numbers) (part H.room p f.words) (part H.room p f.owners) (ln ∙ sym lw) (ln ∙ sym lo) c.in_order_lem)

  column-said : (M : ℕ) (g : Star → ℕ) (l : List ℕ) → ((q : ℕ) → q < M → Sound ok H f q → part H.room q l ≡ padded H.room (map g (stars_at H.room f q)))
      → (p n : ℕ) → p + n ≤ M → AllSound ok H f p n → column H.room g (pages_at H.room f p n) ≡ take (n * H.room) (drop (p * H.room) l)
  unfolding column pages_at contents_at part
  column-said M g l said p zero h a = rw (zero-mul H.room)
  column-said M g l said p (suc n) h a =
      ap (λ (m : List ℕ). m ++ column H.room g (pages_at H.room f (suc p) n)) (sym (said p (omega arith) (a p (le_refl p) (omega arith))))
      ∙ ap (λ (m : List ℕ). take H.room (drop (p * H.room) l) ++ m)
      (column-said M g l said (suc p) n (omega arith) (λ q k i. a q (omega arith) (omega arith))
      ∙ ap (λ (k : ℕ). take (n * H.room) (drop k l)) (suc-mul p H.room)
      ∙ ap (take (n * H.room)) (sym (drop-drop H.room (p * H.room) l)))
      ∙ sym (take-add H.room (n * H.room) (drop (p * H.room) l))
      ∙ ap (λ (k : ℕ). take k (drop (p * H.room) l)) (add_comm H.room (n * H.room) ∙ sym (suc-mul n H.room))

  separators-said : (p n : ℕ) → p + n ≤ length f.separators → separators (pages_at H.room f p n) ≡ take n (drop p f.separators)
  unfolding separators pages_at contents_at
  separators-said p zero h = refl
  separators-said p (suc n) h =
      ap (λ (l : List ℕ). get_or f.separators p 0 ∷ l) (separators-said (suc p) n (omega arith))
      ∙ ap (take (suc n)) (sym (drop-cons f.separators p 0 (omega arith)))

  -- Sound pages replaced by what they say.
  pub replaced-same : (M p n : ℕ) → Sized H.room M f → p + n ≤ M → AllSound ok H f p n → replaced H.room f p (pages_at H.room f p n) ≡ f
  unfolding replaced
  replaced-same M p n z h a =
      λ i. record {
        separators = first-list i;
        numbers = other number_of f.numbers z.of_numbers (λ q k c. (columns-said M q z k c).0) i;
        words = other word_of f.words z.of_words_lem (λ q k c. (columns-said M q z k c).1) i;
        owners = other owner_of f.owners z.of_owners (λ q k c. (columns-said M q z k c).2) i;
      }
    where
      first-list : written p (separators (pages_at H.room f p n)) f.separators ≡ f.separators
      first-list =
          ap (λ (l : List ℕ). written p l f.separators) (separators-said p n (omega (arith, z.of_separators)))
          ∙ written_same p n f.separators (omega (arith, z.of_separators))

      other : (g : Star → ℕ) (l : List ℕ) → length l ≡ M * H.room
          → ((q : ℕ) → q < M → Sound ok H f q → part H.room q l ≡ padded H.room (map g (stars_at H.room f q)))
          → written (p * H.room) (column H.room g (pages_at H.room f p n)) l ≡ l
      other g l e said =
          ap (λ (m : List ℕ). written (p * H.room) m l) (column-said M g l said p n h a)
          ∙ written_same (p * H.room) (n * H.room) l (omega (arith, e, add-mul p n H.room, mul-le-mul_right H.room h))

  -- A file of sound pages is what they say.
  pub file-said : (M : ℕ) → Sized H.room M f → AllSound ok H f 0 M → file_of H.room (pages_at H.room f 0 M) ≡ f
  unfolding file_of
  file-said M z a =
      λ i. record {
        separators = first-list i;
        numbers = other number_of f.numbers z.of_numbers (λ q k c. (columns-said M q z k c).0) i;
        words = other word_of f.words z.of_words_lem (λ q k c. (columns-said M q z k c).1) i;
        owners = other owner_of f.owners z.of_owners (λ q k c. (columns-said M q z k c).2) i;
      }
    where
      first-list : separators (pages_at H.room f 0 M) ≡ f.separators
      first-list = separators-said 0 M (omega (arith, z.of_separators)) ∙ take_all M f.separators (omega (arith, z.of_separators))

      other : (g : Star → ℕ) (l : List ℕ) → length l ≡ M * H.room
          → ((q : ℕ) → q < M → Sound ok H f q → part H.room q l ≡ padded H.room (map g (stars_at H.room f q)))
          → column H.room g (pages_at H.room f 0 M) ≡ l
      other g l e said =
          column-said M g l said 0 M (omega arith) a
          ∙ ap (λ (k : ℕ). take (M * H.room) (drop k l)) (zero-mul H.room)
          ∙ take_all (M * H.room) l (omega (arith, e))

  -- All pages sound and as the rule gives them: the file is clean.
  pub clean_said : (M : ℕ) → Sized H.room M f → AllSound ok H f 0 M → pages_at H.room f 0 M ≡ pages H 0 M (gathered H.room f 0 M) → Clean ok H M f
  unfolding laid
  clean_said M z a e =
      record {
        all_sound_lem = λ p h. facts-sound ok H f p (a p (omega arith) (omega arith));
        by_rule = sym (file-said M z a) ∙ ap (file_of H.room) e;
      }

  -- A clean file is the layout of a list that fits.
  pub clean_list : (M : ℕ) → Sized H.room M f → Clean ok H M f
      → Rising 0 (gathered H.room f 0 M) × Proper ok (gathered H.room f 0 M) × (left H 0 M (gathered H.room f 0 M) ≡ [])
  clean_list M z c = (gathered-rising 0 M all, gathered-proper 0 M all, fits)
    where
      all : AllSound ok H f 0 M
      all q h k = sound-facts ok H f q (c.all_sound_lem q (omega arith))

      fits : left H 0 M (gathered H.room f 0 M) ≡ []
      fits =
          ap (left H 0 M) (sym (filter-all (λ (s : Star). true) (λ s. refl) (gathered H.room f 0 M)))
          ∙ sound-fits M 0 M (λ (s : Star). true) z (omega arith) all
