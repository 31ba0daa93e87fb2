-- One star moved to the new page: what holds while stars are moved holds after it.
use mathlib.Core.Path.{◌≡◌, refl, sym, ap, ◌∙◌}
use mathlib.Core.Bool.{Bool, true, false}
use mathlib.Core.Logic.{◌⊎◌, inl, inr, ⊎_elim}
use mathlib.Core.List.{List, ◌∷◌, ◌++◌, map, map-append, Memᴰ}
use Prim.Native.Nat.{ℕ, zero, suc, ◌+◌, ◌-◌, ◌*◌, ◌≤◌, ◌<◌}
use native.Mathlib.Decide.{dec_lt}
use native.Mathlib.Omega.{arith}
use lib.Dec.{eqb}
use lib.ListN.{length, drop, get_or, length-append, length-map, get_or-eq_default}
use lib.Seq.{get_or_at}
use borrow.Author.Tests.{eqb-true, eqb-false, eq-eqb, ne_eqb}
use Rattle.buffers.specs.Lists.{padded, written}
use Rattle.buffers.proofs.Lists.{padded-item, length-padded}
use Rattle.hashing.specs.declared.Parameters.{Parameters}
use Rattle.hashing.specs.declared.Growth.{Growth}
use Rattle.hashing.specs.Geometry.{page_count}
use Rattle.pages.specs.Page.{part, place_of}
use Rattle.pages.specs.Position.{valid_word}
use Rattle.pages.proofs.Parts.{page-fits, part-item, part_length}
use Rattle.placement.specs.Rule.{Star, insert, without, star_with}
use Rattle.placement.specs.File.{orderly, greatest}
use Rattle.placement.proofs.Order.{Rising, Absent, rising-insert, rising-without, member_insert, inserted, insert-keeps, member_without, length-insert}
use Rattle.placement.proofs.Pages.{Proper, Numbered, proper-insert, orderly-rising, orderly-proper, orderly-padded, stars_of-padded, length-stars_of}
use Rattle.placement.proofs.Files.{number_of, word_of, owner_of}
use Rattle.page_edit.specs.Shift.{number_at, Ordered, Vacant, Occupied, opened_at, closed_up_lem}
use Rattle.page_edit.proofs.Splits.{Split}
use Rattle.page_edit.proofs.Shifted.{of_numbers_lem, of_words, of_owners_lem, put-list, take-list, taken-split, occupied-place}
use Rattle.growth_in_place.specs.Expansion.{joins, joins_at, joiners_in, joiners_below, page_stars, home_on, Vacancy, Moving, KeptStars}
use Rattle.growth_in_place.proofs.TwoPages.{part-there, written-long, TwoPages, two_pages}
use Rattle.growth_in_place.proofs.Fewer.{split-cases, split-middle, split-drop, joiners_padded, joiners_split, below_less}

-- a page is one of two, or neither
data Which (a b r : ℕ) : Type 0 where
  first : r ≡ a → Which a b r
  second : r ≡ b → Which a b r
  neither : (r ≡ a → ⊥) → (r ≡ b → ⊥) → Which a b r

which : (a b r : ℕ) → Which a b r
which a b r = go (eqb r a) refl (eqb r b) refl
  where
    go : (t : Bool) → eqb r a ≡ t → (u : Bool) → eqb r b ≡ u → Which a b r
    go true e u f = first (eqb-true r a e)
    go false e true f = second (eqb-true r b f)
    go false e false f = neither (eqb-false r a e) (eqb-false r b f)

module _ (p : Parameters) (g : Growth) (ns ws os hs : List ℕ) (u : Moving p g ns ws os hs) where
  pub ordered : (q : ℕ) → q < p.pages → Ordered p.places q ns ws os
  ordered q h =
      record {
        in_numbers = page-fits p.places p.pages q h u.of_numbers;
        in_words = page-fits p.places p.pages q h u.of_words_lem;
        in_owners = page-fits p.places p.pages q h u.of_owners;
        in_order_lem = u.in_order_lem q h;
      }

  proper : (q : ℕ) → q < p.pages → Proper valid_word (page_stars p ns ws os q)
  proper q h = orderly-proper valid_word 0 (part p.places q ns) (part p.places q ws) (part p.places q os) (u.in_order_lem q h)

  pub numbered : (q : ℕ) → q < p.pages → Numbered (page_stars p ns ws os q)
  numbered q h s m = (proper q h s m).0

  rising : (q : ℕ) → q < p.pages → Rising 1 (page_stars p ns ws os q)
  rising q h = orderly-rising valid_word 0 (part p.places q ns) (part p.places q ws) (part p.places q os) (omega arith) (u.in_order_lem q h)

  -- what the place of a page's list has
  module _ (q : ℕ) (inside : q < p.pages) (i : ℕ) (s : Star) (less : List Star) (split : Split s less (page_stars p ns ws os q) i) where
    pub item_of : (f : Star → ℕ) (l : List ℕ) → part p.places q l ≡ padded p.places (map f (page_stars p ns ws os q)) → get_or (part p.places q l) i 0 ≡ f s
    item_of f l e =
        ap (λ (m : List ℕ). get_or m i 0) e
        ∙ padded-item p.places (map f (page_stars p ns ws os q)) i
        ∙ ap (λ (m : List ℕ). get_or m i 0) (ap (map f) split.is_more ∙ map-append f split.front (s ∷ split.back))
        ∙ get_or_at (map f split.front) (f s) (map f split.back) 0 i (length-map split.front f ∙ split.at)

  module _ (room : page_count p g < p.pages) (q i : ℕ) (low : q < page_count p g)
      (held : 0 < number_at p.places q i ns) (chosen : joins p g (number_at p.places q i ns) ≡ true) where
    abbrev P : ℕ
    P = page_count p g

    abbrev S : ℕ → List Star
    S r = page_stars p ns ws os r

    abbrev k : ℕ
    k = number_at p.places q i ns

    inside : q < p.pages
    inside = omega arith

    pub occupied : Occupied p.places q i ns ws os
    occupied = record { ordered = ordered q inside; held = held }

    apart : P ≡ q → ⊥
    apart e = omega (arith, e)

    abbrev s : Star
    s = (taken-split occupied).0

    split : Split s (without k (S q)) (S q) i
    split = (taken-split occupied).1

    number_is : k ≡ s.number
    number_is = item_of q inside i s (without k (S q)) split number_of ns (of_numbers_lem p.places q ns ws os (ordered q inside)).1

    word-is : get_or (part p.places q ws) i 0 ≡ s.payload.word
    word-is = item_of q inside i s (without k (S q)) split word_of ws (of_words p.places q ns ws os (ordered q inside)).1

    owner_is_lem : get_or (part p.places q os) i 0 ≡ s.payload.owner
    owner_is_lem = item_of q inside i s (without k (S q)) split owner_of os (of_owners_lem p.places q ns ws os (ordered q inside)).1

    s-there : Memᴰ s (S q)
    s-there = rw split.is_more (split-middle split.front split.back s)

    -- the star as the lists have it
    abbrev star : Star
    star = star_with (get_or ns (q * p.places + i) 0) (get_or ws (q * p.places + i) 0) (get_or os (q * p.places + i) 0)

    place-low : i < p.places
    place-low = occupied-place occupied

    star-is : star ≡ s
    star-is =
        λ j. star_with
        ((sym (part-item p.places q ns i place-low) ∙ number_is) j)
        ((sym (part-item p.places q ws i place-low) ∙ word-is) j)
        ((sym (part-item p.places q os i place-low) ∙ owner_is_lem) j)

    s-joins : joins p g s.number ≡ true
    s-joins = ap (joins p g) (sym number_is) ∙ chosen

    s-proper : (1 ≤ s.number) × (s.number ≤ greatest) × (valid_word s.payload.word ≡ true)
    s-proper = proper q inside s s-there

    s-counts : joins_at p g s.number ≡ true
    unfolding joins_at
    s-counts = rw (ne_eqb s.number 0 (λ z. omega (arith, z, s-proper.0)), s-joins)

    -- how many that join the new page are on page q, and so below it
    on-page : joiners_in p g (part p.places q ns) ≡ suc (joiners_in p g (map number_of (without k (S q))))
    on-page =
        ap (joiners_in p g) (of_numbers_lem p.places q ns ws os (ordered q inside)).1
        ∙ joiners_padded p g p.places (map number_of (S q))
        ∙ joiners_split p g split s-counts

    some_below : (n : ℕ) → q < n → 0 < joiners_below p g ns n
    unfolding joiners_below
    some_below zero h = absurd (omega arith)
    some_below (suc n) h = go (dec_lt q n) (some_below n)
      where
        go : Dec (q < n) → (q < n → 0 < joiners_below p g ns n) → 0 < joiners_below p g ns n + joiners_in p g (part p.places n ns)
        go (yes d) ih = omega (arith, ih d)
        go (no d) ih =
            let at : q ≡ n = omega arith in
            omega (arith, rw at at on-page)

    -- the new page has room for it
    few-there : length (S P) < p.places
    few-there = omega (arith, u.few, some_below P low)

    pub vacancy : Vacancy p.places P ns ws os
    vacancy =
        record {
          ordered = ordered P room;
          some = omega (arith, few-there);
          empty =
              ap (λ (l : List ℕ). get_or l (p.places - 1) 0) (of_numbers_lem p.places P ns ws os (ordered P room)).1
              ∙ padded-item p.places (map number_of (S P)) (p.places - 1)
              ∙ get_or-eq_default (map number_of (S P)) 0 (omega (arith, few-there, length-map (S P) number_of));
        }

    abbrev L : List Star
    L = insert s (S P)

    abbrev N : List Star
    N = without k (S q)

    few_l : length L ≤ p.places
    few_l = omega (arith, few-there, length-insert s (S P))

    few_n : length N ≤ p.places
    few_n =
        omega (
          arith,
          ap (length {A = Star}) split.is_less,
          ap (length {A = Star}) split.is_more,
          length-append split.front split.back,
          length-append split.front (s ∷ split.back),
          most-there,
        )
      where
        most-there : length (S q) ≤ p.places
        most-there =
            omega (
              arith,
              length-stars_of (part p.places q ns) (part p.places q ws) (part p.places q os),
              part_length p.places q ns (ordered q inside).in_numbers,
            )

    absent : Absent s.number (S P)
    absent t m e = apart (u.once P q room inside t s m s-there e)

    rising_l : Rising 1 L
    rising_l = rising-insert 1 s (S P) s-proper.0 absent (rising P room)

    proper_l : Proper valid_word L
    proper_l = proper-insert valid_word s (S P) s-proper (proper P room)

    rising_n : Rising 1 N
    rising_n = rising-without 1 k (S q) (rising q inside)

    proper_n : Proper valid_word N
    proper_n t m = proper q inside t (member_without k (S q) t m).0

    home-new : home_on p g P star ≡ P
    unfolding home_on joins
    home-new = rw (eq-eqb P P refl) (eqb-true _ _ (ap (joins p g) (ap number_of star-is) ∙ s-joins))

    -- the star put on the new page
    module _ (ns₁ ws₁ os₁ hs₁ : List ℕ)
        (en : ns₁ ≡ written (P * p.places) (padded p.places (map number_of (insert star (S P)))) ns)
        (ew : ws₁ ≡ written (P * p.places) (padded p.places (map word_of (insert star (S P)))) ws)
        (eo : os₁ ≡ written (P * p.places) (padded p.places (map owner_of (insert star (S P)))) os)
        (eh : hs₁ ≡ opened_at (P * p.places + place_of star.number (part p.places P ns)) (p.places - place_of star.number (part p.places P ns)) P hs) where
      abbrev Put : (Star → ℕ) → List ℕ → List ℕ → Type 0
      Put f l l₁ = l₁ ≡ written (P * p.places) (padded p.places (map f L)) l

      putting : (f : Star → ℕ) (l l₁ : List ℕ) → l₁ ≡ written (P * p.places) (padded p.places (map f (insert star (S P)))) l → Put f l l₁
      putting f l l₁ e = e ∙ ap (λ (t : Star). written (P * p.places) (padded p.places (map f (insert t (S P)))) l) star-is

      put-homes : Put (home_on p g P) hs hs₁
      put-homes =
          putting (home_on p g P) hs hs₁
          (eh
          ∙ ap (λ (h : ℕ). opened_at (P * p.places + place_of star.number (part p.places P ns)) (p.places - place_of star.number (part p.places P ns)) h hs) (sym home-new)
          ∙ put-list vacant star.payload.word star.payload.owner (home_on p g P) hs (page-fits p.places p.pages P room u.of_homes, u.homes P room))
        where
          vacant : Vacant p.places P (place_of star.number (part p.places P ns)) star.number ns ws os
          vacant = record { ordered = vacancy.ordered; some = vacancy.some; there = refl; empty = vacancy.empty }

      -- page q is as it was
      module _ (f : Star → ℕ) (l l₁ : List ℕ) (long : length l ≡ p.pages * p.places) (e : Put f l l₁) where
        size : length (padded p.places (map f L)) ≡ p.places
        size = length-padded p.places (map f L) (rw (length-map L f) few_l)

        pub same-part : part p.places q l₁ ≡ part p.places q l
        same-part = ap (part p.places q) e ∙ part-there p.places p.pages P room (padded p.places (map f L)) l size long q (λ z. apart (sym z))

        pub same-long : length l₁ ≡ p.pages * p.places
        same-long = ap length e ∙ written-long p.places p.pages P room (padded p.places (map f L)) l size long ∙ long

      abbrev same_numbers : part p.places q ns₁ ≡ part p.places q ns
      same_numbers = same-part number_of ns ns₁ u.of_numbers (putting number_of ns ns₁ en)

      abbrev same-words : part p.places q ws₁ ≡ part p.places q ws
      same-words = same-part word_of ws ws₁ u.of_words_lem (putting word_of ws ws₁ ew)

      abbrev same-owners : part p.places q os₁ ≡ part p.places q os
      same-owners = same-part owner_of os os₁ u.of_owners (putting owner_of os os₁ eo)

      same-stars : page_stars p ns₁ ws₁ os₁ q ≡ S q
      same-stars = rw (same_numbers, same-words, same-owners)

      same_number : number_at p.places q i ns₁ ≡ k
      same_number = ap (λ (l : List ℕ). get_or l i 0) same_numbers

      pub occupied-after : Occupied p.places q i ns₁ ws₁ os₁
      occupied-after =
          record {
            ordered =
                record {
                  in_numbers = page-fits p.places p.pages q inside (same-long number_of ns ns₁ u.of_numbers (putting number_of ns ns₁ en));
                  in_words = page-fits p.places p.pages q inside (same-long word_of ws ws₁ u.of_words_lem (putting word_of ws ws₁ ew));
                  in_owners = page-fits p.places p.pages q inside (same-long owner_of os os₁ u.of_owners (putting owner_of os os₁ eo));
                  in_order_lem = rw (same_numbers, same-words, same-owners) (u.in_order_lem q inside);
                };
            held = rw same_number held;
          }

      pub homes-after : q * p.places + p.places ≤ length hs₁
      homes-after = page-fits p.places p.pages q inside (same-long (home_on p g P) hs hs₁ u.of_homes put-homes)

      -- .. and taken from its page
      module _ (ns₂ ws₂ os₂ hs₂ : List ℕ)
          (fn : ns₂ ≡ written (q * p.places) (padded p.places (map number_of (without (number_at p.places q i ns₁) (page_stars p ns₁ ws₁ os₁ q)))) ns₁)
          (fw : ws₂ ≡ written (q * p.places) (padded p.places (map word_of (without (number_at p.places q i ns₁) (page_stars p ns₁ ws₁ os₁ q)))) ws₁)
          (fo : os₂ ≡ written (q * p.places) (padded p.places (map owner_of (without (number_at p.places q i ns₁) (page_stars p ns₁ ws₁ os₁ q)))) os₁)
          (fh : hs₂ ≡ closed_up_lem (q * p.places + i) (p.places - i - 1) hs₁) where
        moved : (f h : Star → ℕ) (l l₁ l₂ : List ℕ) → length l ≡ p.pages * p.places → Put f l l₁
            → l₂ ≡ written (q * p.places) (padded p.places (map h (without (number_at p.places q i ns₁) (page_stars p ns₁ ws₁ os₁ q)))) l₁
            → TwoPages p.places p.pages P q f h L N l l₂
        moved f h l l₁ l₂ long e d =
            two_pages p.places p.pages P q f h L N l l₂ room inside apart few_l few_n long
            (d
            ∙ ap (λ (m : List ℕ). written (q * p.places) (padded p.places (map h (without (number_at p.places q i ns₁) (page_stars p ns₁ ws₁ os₁ q)))) m) e
            ∙ rw (same_number, same-stars))

        numbers : TwoPages p.places p.pages P q number_of number_of L N ns ns₂
        numbers = moved number_of number_of ns ns₁ ns₂ u.of_numbers (putting number_of ns ns₁ en) fn

        words : TwoPages p.places p.pages P q word_of word_of L N ws ws₂
        words = moved word_of word_of ws ws₁ ws₂ u.of_words_lem (putting word_of ws ws₁ ew) fw

        owners : TwoPages p.places p.pages P q owner_of owner_of L N os os₂
        owners = moved owner_of owner_of os os₁ os₂ u.of_owners (putting owner_of os os₁ eo) fo

        home-parts : TwoPages p.places p.pages P q (home_on p g P) (home_on p g q) L N hs hs₂
        home-parts =
            moved (home_on p g P) (home_on p g q) hs hs₁ hs₂ u.of_homes put-homes
            (fh
            ∙ take-list occupied-after (home_on p g q) hs₁
            (homes-after, same-part (home_on p g P) hs hs₁ u.of_homes put-homes ∙ u.homes q inside ∙ ap (λ (l : List Star). padded p.places (map (home_on p g q) l)) (sym same-stars)))

        abbrev T : ℕ → List Star
        T r = page_stars p ns₂ ws₂ os₂ r

        at_new : T P ≡ L
        at_new = rw (numbers.here, words.here, owners.here) (stars_of-padded p.places L (λ t m. (proper_l t m).0))

        at_old : T q ≡ N
        at_old = rw (numbers.there, words.there, owners.there) (stars_of-padded p.places N (λ t m. (proper_n t m).0))

        elsewhere : (r : ℕ) → (r ≡ P → ⊥) → (r ≡ q → ⊥) → T r ≡ S r
        elsewhere r a b = rw (numbers.others r a b, words.others r a b, owners.others r a b)

        -- where a star was, and where it is
        came : (r : ℕ) (t : Star) → Memᴰ t (T r) → (Memᴰ t (S r) × (r ≡ q → t.number ≡ k → ⊥)) ⊎ ((t ≡ s) × (r ≡ P))
        came r t m = go (which P q r)
          where
            put : (r ≡ P) → (t ≡ s) ⊎ Memᴰ t (S P) → (Memᴰ t (S r) × (r ≡ q → t.number ≡ k → ⊥)) ⊎ ((t ≡ s) × (r ≡ P))
            put e (inl d) = inr (d, e)
            put e (inr n) = inl (rw e n, λ d. absurd (apart (sym e ∙ d)))

            go : Which P q r → (Memᴰ t (S r) × (r ≡ q → t.number ≡ k → ⊥)) ⊎ ((t ≡ s) × (r ≡ P))
            go (first e) = put e (member_insert s (S P) t (rw (e, at_new) at m))
            go (second e) =
                let n = member_without k (S q) t (rw (e, at_old) at m) in
                inl (rw e n.0, λ d. n.1)
            go (neither a b) = inl (rw (elsewhere r a b) at m, λ d. absurd (b d))

        went : (r : ℕ) (t : Star) → Memᴰ t (S r) → Memᴰ t (T r) ⊎ ((t ≡ s) × Memᴰ t (T P))
        went r t m = go (which P q r)
          where
            new : t ≡ s → Memᴰ t (T P)
            new d = rw (at_new, d) (inserted s (S P))

            old : r ≡ q → (t ≡ s) ⊎ Memᴰ t (split.front ++ split.back) → Memᴰ t (T r) ⊎ ((t ≡ s) × Memᴰ t (T P))
            old e (inl d) = inr (d, new d)
            old e (inr n) = inl (rw (e, at_old, split.is_less) n)

            go : Which P q r → Memᴰ t (T r) ⊎ ((t ≡ s) × Memᴰ t (T P))
            go (first e) = inl (rw (e, at_new) (insert-keeps s (S P) t (rw e at m)))
            go (second e) = old e (split-cases split.front split.back s t (rw (e, split.is_more) at m))
            go (neither a b) = inl (rw (elsewhere r a b) m)

        pub step_kept : KeptStars p g ns ws os ns₂ ws₂ os₂
        step_kept =
            record {
              back = λ r h t m.
                  ⊎_elim
                  (λ (d : Memᴰ t (S r) × (r ≡ q → t.number ≡ k → ⊥)). inl d.0)
                  (λ (d : (t ≡ s) × (r ≡ P)). inr (d.1, ap (λ (x : Star). joins p g x.number) d.0 ∙ s-joins, (q, inside, rw d.0 s-there)))
                  (came r t m);
              forth = λ r h t m.
                  ⊎_elim
                  (λ (d : Memᴰ t (T r)). inl d)
                  (λ (d : (t ≡ s) × Memᴰ t (T P)). inr (ap (λ (x : Star). joins p g x.number) d.0 ∙ s-joins, d.1))
                  (went r t m);
            }

        -- the number of the star that came is on its page only
        never : (r : ℕ) → r < p.pages → (t x : Star) → (Memᴰ t (S r) × (r ≡ q → t.number ≡ k → ⊥)) → x ≡ s → t.number ≡ x.number → ⊥
        never r h t x m d e =
            let same : t.number ≡ s.number = e ∙ ap number_of d in
            m.1 (u.once r q h inside t s m.0 s-there same) (same ∙ sym number_is)

        once_after : (a b : ℕ) → a < p.pages → b < p.pages → (x y : Star) → Memᴰ x (T a) → Memᴰ y (T b) → x.number ≡ y.number → a ≡ b
        once_after a b ha hb x y mx my e = go (came a x mx) (came b y my)
          where
            go : (Memᴰ x (S a) × (a ≡ q → x.number ≡ k → ⊥)) ⊎ ((x ≡ s) × (a ≡ P))
                → (Memᴰ y (S b) × (b ≡ q → y.number ≡ k → ⊥)) ⊎ ((y ≡ s) × (b ≡ P)) → a ≡ b
            go (inl m) (inl n) = u.once a b ha hb x y m.0 n.0 e
            go (inl m) (inr n) = absurd (never a ha x y m n.0 e)
            go (inr m) (inl n) = absurd (never b hb y x n m.0 (sym e))
            go (inr m) (inr n) = m.1 ∙ sym n.1

        fewer : joiners_below p g ns P ≡ suc (joiners_below p g ns₂ P)
        fewer =
            below_less p g ns ns₂ q P low (λ r h d. numbers.others r (λ z. omega (arith, z)) d)
            (on-page ∙ ap suc (sym (ap (joiners_in p g) numbers.there ∙ joiners_padded p g p.places (map number_of N))))

        pub step-underway : Moving p g ns₂ ws₂ os₂ hs₂
        step-underway =
            record {
              of_numbers = numbers.long ∙ u.of_numbers;
              of_words_lem = words.long ∙ u.of_words_lem;
              of_owners = owners.long ∙ u.of_owners;
              of_homes = home-parts.long ∙ u.of_homes;
              in_order_lem = λ r h. in_order r h (which P q r);
              low = λ r h t m j.
                  ⊎_elim
                  (λ (d : Memᴰ t (S r) × (r ≡ q → t.number ≡ k → ⊥)). u.low r h t d.0 j)
                  (λ (d : (t ≡ s) × (r ≡ P)). omega (arith, d.1))
                  (came r t m);
              once = once_after;
              few = omega (arith, u.few, fewer, ap (length {A = Star}) at_new, length-insert s (S P));
              homes = λ r h. at_home r h (which P q r);
            }
          where
            in_order : (r : ℕ) → r < p.pages → Which P q r → orderly valid_word 0 (part p.places r ns₂) (part p.places r ws₂) (part p.places r os₂) ≡ true
            in_order r h (first e) = rw (e, numbers.here, words.here, owners.here) (orderly-padded valid_word p.places L rising_l proper_l)
            in_order r h (second e) = rw (e, numbers.there, words.there, owners.there) (orderly-padded valid_word p.places N rising_n proper_n)
            in_order r h (neither a b) = rw (numbers.others r a b, words.others r a b, owners.others r a b) (u.in_order_lem r h)

            at_home : (r : ℕ) → r < p.pages → Which P q r → part p.places r hs₂ ≡ padded p.places (map (home_on p g r) (T r))
            at_home r h (first e) = rw (e, at_new) home-parts.here
            at_home r h (second e) = rw (e, at_old) home-parts.there
            at_home r h (neither a b) = rw (elsewhere r a b) (home-parts.others r a b ∙ u.homes r h)

        pub step-closed : drop i (T q) ≡ drop (suc i) (S q)
        step-closed = ap (drop i) at_old ∙ split-drop split

    -- the same, with the new page as the code has it
    module _ (added : ℕ) (is : added ≡ page_count p g) where
      pub vacancy-at : Vacancy p.places added ns ws os
      vacancy-at = rw is vacancy

      module _ (ns₁ ws₁ os₁ hs₁ : List ℕ)
          (en : ns₁ ≡ written (added * p.places) (padded p.places (map number_of (insert star (S added)))) ns)
          (ew : ws₁ ≡ written (added * p.places) (padded p.places (map word_of (insert star (S added)))) ws)
          (eo : os₁ ≡ written (added * p.places) (padded p.places (map owner_of (insert star (S added)))) os)
          (eh : hs₁ ≡ opened_at (added * p.places + place_of star.number (part p.places added ns)) (p.places - place_of star.number (part p.places added ns)) added hs) where
        pub still-occupied : Occupied p.places q i ns₁ ws₁ os₁ × (q * p.places + p.places ≤ length hs₁)
        still-occupied = (
          occupied-after ns₁ ws₁ os₁ hs₁ (rw is at en) (rw is at ew) (rw is at eo) (rw is at eh),
          homes-after ns₁ ws₁ os₁ hs₁ (rw is at en) (rw is at ew) (rw is at eo) (rw is at eh),
        )

        module _ (ns₂ ws₂ os₂ hs₂ : List ℕ)
            (fn : ns₂ ≡ written (q * p.places) (padded p.places (map number_of (without (number_at p.places q i ns₁) (page_stars p ns₁ ws₁ os₁ q)))) ns₁)
            (fw : ws₂ ≡ written (q * p.places) (padded p.places (map word_of (without (number_at p.places q i ns₁) (page_stars p ns₁ ws₁ os₁ q)))) ws₁)
            (fo : os₂ ≡ written (q * p.places) (padded p.places (map owner_of (without (number_at p.places q i ns₁) (page_stars p ns₁ ws₁ os₁ q)))) os₁)
            (fh : hs₂ ≡ closed_up_lem (q * p.places + i) (p.places - i - 1) hs₁) where
          pub stepped : Moving p g ns₂ ws₂ os₂ hs₂ × KeptStars p g ns ws os ns₂ ws₂ os₂ × (drop i (page_stars p ns₂ ws₂ os₂ q) ≡ drop (suc i) (S q))
          stepped = (
            step-underway ns₁ ws₁ os₁ hs₁ (rw is at en) (rw is at ew) (rw is at eo) (rw is at eh) ns₂ ws₂ os₂ hs₂ fn fw fo fh,
            step_kept ns₁ ws₁ os₁ hs₁ (rw is at en) (rw is at ew) (rw is at eo) (rw is at eh) ns₂ ws₂ os₂ hs₂ fn fw fo fh,
            step-closed ns₁ ws₁ os₁ hs₁ (rw is at en) (rw is at ew) (rw is at eo) (rw is at eh) ns₂ ws₂ os₂ hs₂ fn fw fo fh,
          )
