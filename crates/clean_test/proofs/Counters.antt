-- One counter for each page: what the loops over pages, places and passed pages add to them.
use mathlib.Core.Path.{◌≡◌, refl, sym, ap, ◌∙◌}
use mathlib.Core.Bool.{Bool, true, false, cond, ◌&&◌, ◌||◌, and-false, false≢true}
use mathlib.Core.List.{List, [], ◌∷◌}
use Prim.Native.Nat.{ℕ, zero, suc, ◌+◌, ◌-◌, ◌*◌, ◌≤◌, ◌<◌}
use native.Mathlib.Nat.{add-zero, suc-mul, mul-le-mul_right}
use native.Mathlib.Numerals.{add-one}
use native.Mathlib.Decide.{dec_le, dec_lt}
use native.Mathlib.Omega.{arith}
use lib.Dec.{leb, ltb, eqb}
use lib.ListN.{length, get_or, set, take, drop, replicate, length-set, length-drop, get_or-replicate}
use lib.Seq.{get_or-set_same, get_or-set_other, get_or-drop, get_or-take}
use borrow.Author.Tests.{le-leb, lt-leb, lt-ltb, le-ltb, eq-eqb, ne_eqb, eqb-true, eqb-false}
use Rattle.buffers.specs.Counts.{one}
use Rattle.hashing.specs.declared.Geometry.{Geometry}
use Rattle.generator.specs.Generator.{top_of_lem}
use Rattle.pages.specs.Page.{part}
use Rattle.placement.specs.Rule.{Hash, keep, filter}
use Rattle.placement.specs.Hash.{hash_of}
use Rattle.placement.specs.Shape.{homes_of, home_under}
use Rattle.reach.specs.Reach.{first_such}
use Rattle.clean_test.specs.Raising.{passed, counts_on, star_number, counted_item, count_on, passed_on_lem, stars_among, own_on, count_from, may_rise, raisable_from, hash_under, first_raisable_lem, first_rising_lem, Counts, Added, AddedBelow, PassersCounted, Homed, HomedFrom, SignablePassed}

pub one-most : (t : Bool) → one t ≤ 1
one-most true = omega arith
one-most false = omega arith

none : (s : Bool) → one (s && false) ≡ 0
none true = refl
none false = refl

module _ (from : ℕ) where
  pub added_none : (more : ℕ → ℕ) (l : List ℕ) → length l ≡ 1024 → ((p : ℕ) → from ≤ p → more p ≡ 0) → Added from more l l
  added_none more l e h = record { size = e; each = λ p o k. omega (arith, h p o) }

  pub added-same : (a b : ℕ → ℕ) (l m : List ℕ) → Added from a l m → ((p : ℕ) → from ≤ p → b p ≡ a p) → Added from b l m
  added-same a b l m c h = record { size = c.size; each = λ p o k. omega (arith, c.each p o k, h p o) }

  pub added_then : (a b d : ℕ → ℕ) (l m n : List ℕ) → Added from a l m → Added from b m n → ((p : ℕ) → d p ≡ a p + b p) → Added from d l n
  added_then a b d l m n c e h = record { size = e.size; each = λ p o k. omega (arith, c.each p o k, e.each p o k, h p) }

-- the counter of page g is n more
pub added-some : (from : ℕ) (l : List ℕ) (g n : ℕ) → length l ≡ 1024 → g < 1024 → Added from (λ p. cond (eqb g p) n 0) l (set l g (get_or l g 0 + n))
added-some from l g n e h = record { size = length-set l g (get_or l g 0 + n) ∙ e; each = λ p o k. go p k (eqb g p) refl }
  where
    go : (p : ℕ) → p < 1024 → (t : Bool) → eqb g p ≡ t → get_or (set l g (get_or l g 0 + n)) p 0 ≡ get_or l p 0 + cond t n 0
    go p k true q =
        let same : g ≡ p = eqb-true g p q in
        rw same (get_or-set_same l p (get_or l p 0 + n) 0 (omega (arith, e)))
    go p k false q = get_or-set_other l g p (get_or l g 0 + n) 0 (λ r. eqb-false g p q (sym r)) ∙ sym (add-zero (get_or l p 0))

module _ (H : Hash) (vs : List ℕ) (k : ℕ) where
  -- those below home and from q on are none of them
  passed-low : (p q : ℕ) → p < H.home k → passed H vs p q k ≡ false
  unfolding passed
  passed-low p q h = rw (lt-leb (H.home k) p h)

  passed-high : (p q : ℕ) → q ≤ p → passed H vs p q k ≡ false
  unfolding passed
  passed-high p q h = rw (le-ltb p q h) (and-false (leb (H.home k) p))

  passed_here : (p : ℕ) → H.home k ≤ p → passed H vs p (p + 1) k ≡ eqb (H.signature k p) (get_or vs p 0)
  unfolding passed
  passed_here p h = rw (le-leb (H.home k) p h, lt-ltb p (p + 1) (omega arith))

  passed-below : (p q r : ℕ) → p < q → q ≤ r → passed H vs p r k ≡ passed H vs p q k
  unfolding passed
  passed-below p q r h l = rw (lt-ltb p r (omega arith), lt-ltb p q h)

  passed-other : (p q : ℕ) → (q ≡ p → ⊥) → passed H vs p (q + 1) k ≡ passed H vs p q k
  unfolding passed
  passed-other p q h = ap (λ (t : Bool). leb (H.home k) p && (t && eqb (H.signature k p) (get_or vs p 0))) (go (dec_le q p))
    where
      go : Dec (q ≤ p) → ltb p (q + 1) ≡ ltb p q
      go (yes d) = le-ltb p (q + 1) (omega (arith, h)) ∙ sym (le-ltb p q d)
      go (no d) = lt-ltb p (q + 1) (omega arith) ∙ sym (lt-ltb p q (omega arith))

  -- one page more: it counts if its separator is the signature
  passed-next : (q : ℕ) → H.home k ≤ q → (t : Bool) → eqb (H.signature k q) (get_or vs q 0) ≡ t
      → (p : ℕ) → one (passed H vs p (q + 1) k) ≡ one (passed H vs p q k) + one (t && eqb q p)
  passed-next q h t e p = go (eqb q p) refl
    where
      all_of : (s : Bool) → one (s && true) ≡ one s
      all_of true = refl
      all_of false = refl

      go : (s : Bool) → eqb q p ≡ s → one (passed H vs p (q + 1) k) ≡ one (passed H vs p q k) + one (t && s)
      go true r =
          let same : q ≡ p = eqb-true q p r in
          let now : passed H vs p (q + 1) k ≡ t = rw (← same) (passed_here q h ∙ e) in
          let before : passed H vs p q k ≡ false = passed-high p q (omega arith) in
          rw (now, before, all_of t) (omega arith)
      go false r = rw (passed-other p q (eqb-false q p r), none t) (omega arith)

  -- the pages from home and `from` up to the one before `next` are counted; none is where the later of them is not below `page`
  pub record ProbesCounted (from page next : ℕ) (entry exit : List ℕ) : Type 0 where
    pub low : H.home k ≤ next
    pub high : page < next → from < next → next ≡ H.home k
    pub added : Added from (λ p. one (passed H vs p next k)) entry exit

  pub probes-none : (from page home start : ℕ) (l : List ℕ) → home ≡ H.home k → home ≤ start → (from < start → start ≡ home) → length l ≡ 1024
      → ProbesCounted from page start l l
  probes-none from page home start l e h m size =
      record {
        low = omega (arith, e);
        high = λ a b. m b ∙ e;
        added = added_none from _ l size (λ p o. go p o (dec_le start p));
      }
    where
      go : (p : ℕ) → from ≤ p → Dec (start ≤ p) → one (passed H vs p start k) ≡ 0
      go p o (yes d) = rw (passed-high p start d)
      go p o (no d) = rw (passed-low p start (omega (arith, e, m (omega arith))))

  module _ (from page next : ℕ) (entry exit : List ℕ) (c : ProbesCounted from page next entry exit) where
    -- the next page is counted too, or is none that counts
    pub probes-counted : next < page → next < 1024 → H.signature k next ≡ get_or vs next 0 → ProbesCounted from page (next + 1) entry (set exit next (get_or exit next 0 + 1))
    probes-counted h m e =
        record {
          low = omega (arith, c.low);
          high = λ g _. absurd (omega arith);
          added =
              added_then from (λ p. one (passed H vs p next k)) (λ p. one (eqb next p)) (λ p. one (passed H vs p (next + 1) k)) entry exit (set exit next (get_or exit next 0 + 1))
              c.added (added-some from exit next 1 c.added.size m)
              (passed-next next c.low true (eq-eqb (H.signature k next) (get_or vs next 0) e));
        }

    pub probes-skipped : next < page → (H.signature k next ≡ get_or vs next 0 → ⊥) → ProbesCounted from page (next + 1) entry exit
    probes-skipped h e =
        record {
          low = omega (arith, c.low);
          high = λ g _. absurd (omega arith);
          added =
              added-same from (λ p. one (passed H vs p next k)) (λ p. one (passed H vs p (next + 1) k)) entry exit c.added
              (λ p _. passed-next next c.low false (ne_eqb (H.signature k next) (get_or vs next 0) e) p ∙ add-zero (one (passed H vs p next k)));
        }

    pub probes-fits : (n : ℕ) → ((p : ℕ) → from ≤ p → p < 1024 → get_or entry p 0 ≤ n) → (p : ℕ) → from ≤ p → p < 1024 → get_or exit p 0 ≤ n + 1
    probes-fits n most p o h = omega (arith, c.added.each p o h, most p o h, one-most (passed H vs p next k))

    pub probes-all : page ≤ next → Added from (λ p. one (passed H vs p page k)) entry exit
    probes-all h =
        added-same from (λ p. one (passed H vs p next k)) (λ p. one (passed H vs p page k)) entry exit c.added
        (λ p o. go p o (dec_le next page) (dec_le page p) (dec_le next p))
      where
        go : (p : ℕ) → from ≤ p → Dec (next ≤ page) → Dec (page ≤ p) → Dec (next ≤ p) → one (passed H vs p page k) ≡ one (passed H vs p next k)
        go p o (yes d) g f = ap (λ (q : ℕ). one (passed H vs p q k)) (omega arith)
        go p o (no d) (yes g) (yes f) = rw (passed-high p page g, passed-high p next f)
        go p o (no d) (yes g) (no f) = rw (passed-high p page g, passed-low p next (omega (arith, c.high (omega arith) (omega arith))))
        go p o (no d) (no g) f =
            let low : p < H.home k = omega (arith, c.high (omega arith) (omega arith)) in
            rw (passed-low p page low, passed-low p next low)

-- the homes of one page's items
pub homed-page : (g : Geometry) (vs ns hs : List ℕ) (from stop page : ℕ) → Homed g vs ns hs from stop → from ≤ page → page < stop → Homed g vs ns hs page (suc page)
homed-page g vs ns hs from stop page h a b =
    record {
      separators = h.separators;
      numbers = h.numbers;
      homes = h.homes;
      low = omega arith;
      high = omega (arith, h.high);
      kept = λ q c d. h.kept q (omega arith) (omega arith);
    }

home-among : (g : Geometry) (ns : List ℕ) (j : ℕ) → (get_or ns j 0 ≡ 0 → ⊥) → get_or (homes_of g.parameters g.growth ns) j 0 ≡ home_under g (get_or ns j 0)
unfolding homes_of
home-among g [] j h = absurd (h refl)
home-among g (n ∷ ns) zero h = rw (ne_eqb n 0 h)
home-among g (n ∷ ns) (suc j) h = home-among g ns j h

-- a star's home among them
pub home-item : (g : Geometry) (vs ns hs : List ℕ) (page : ℕ) → Homed g vs ns hs page (suc page) → (i : ℕ) → i < g.parameters.places
    → (get_or ns (page * g.parameters.places + i) 0 ≡ 0 → ⊥) → get_or hs (page * g.parameters.places + i) 0 ≡ home_under g (get_or ns (page * g.parameters.places + i) 0)
unfolding part
home-item g vs ns hs page h i inside some =
    sym (placed hs)
    ∙ ap (λ (l : List ℕ). get_or l i 0) (h.kept page (omega arith) (omega arith))
    ∙ home-among g (part g.parameters.places page ns) i (λ e. some (sym (placed ns) ∙ e))
    ∙ ap (home_under g) (placed ns)
  where
    placed : (l : List ℕ) → get_or (part g.parameters.places page l) i 0 ≡ get_or l (page * g.parameters.places + i) 0
    placed l = get_or-take g.parameters.places (drop (page * g.parameters.places) l) i 0 inside ∙ get_or-drop (page * g.parameters.places) l i 0

count-taken : (q : ℕ → Bool) (l : List ℕ) (i : ℕ) → i < length l → length (filter q (take (suc i) l)) ≡ length (filter q (take i l)) + one (q (get_or l i 0))
unfolding filter
count-taken q [] i h = absurd (omega arith)
count-taken q (x ∷ l) zero h = go (q x)
  where
    go : (t : Bool) → length (keep t x []) ≡ 0 + one t
    go true = refl
    go false = refl
count-taken q (x ∷ l) (suc i) h = go (q x) (count-taken q l i (omega arith))
  where
    go : (t : Bool) → length (filter q (take (suc i) l)) ≡ length (filter q (take i l)) + one (q (get_or l i 0))
        → length (keep t x (filter q (take (suc i) l))) ≡ length (keep t x (filter q (take i l))) + one (q (get_or l i 0))
    go true ih = omega (arith, ih)
    go false ih = ih

pub taken-most : (q : ℕ → Bool) (l : List ℕ) (i : ℕ) → length (filter q (take i l)) ≤ i
unfolding filter
taken-most q l zero = omega arith
taken-most q [] (suc i) = omega arith
taken-most q (x ∷ l) (suc i) = go (q x) (taken-most q l i)
  where
    go : (t : Bool) → length (filter q (take i l)) ≤ i → length (keep t x (filter q (take i l))) ≤ suc i
    go true ih = omega (arith, ih)
    go false ih = omega (arith, ih)

-- one item more is counted if it is a star
pub stars-next : (ns : List ℕ) (first i stars r : ℕ) → first + i < length ns → stars ≡ stars_among (take i (drop first ns))
    → r ≡ one (star_number (get_or ns (first + i) 0)) → stars + r ≡ stars_among (take (i + 1) (drop first ns))
stars-next ns first i stars r h e f =
    rw (e, f, add-one i, ← get_or-drop first ns i 0) (sym (count-taken star_number (drop first ns) i (omega (arith, length-drop first ns))))

pub count_most : (H : Hash) (vs ns : List ℕ) (from p n : ℕ) → count_from H vs ns from p n ≤ n * H.room
unfolding count_from count_on part
count_most H vs ns from p zero = omega arith
count_most H vs ns from p (suc n) =
    omega (arith, suc-mul n H.room, count_most H vs ns from p n, taken-most (counted_item H vs p (from + n)) (drop ((from + n) * H.room) ns) H.room)

module _ (H : Hash) (vs ns : List ℕ) (from page : ℕ) where
  abbrev some : ℕ → ℕ → ℕ
  some i p = length (filter (λ (n : ℕ). star_number n && passed H vs p page n) (take i (drop (page * H.room) ns)))

  -- those of the first i numbers of the page are counted that passed a page
  pub record PlacesCounted (i : ℕ) (entry exit : List ℕ) : Type 0 where
    pub upto : i ≤ H.room
    pub added : Added from (some i) entry exit

  pub places-none : (l : List ℕ) → length l ≡ 1024 → PlacesCounted 0 l l
  unfolding filter
  places-none l e = record { upto = omega arith; added = added_none from _ l e (λ p _. refl) }

  module _ (i : ℕ) (entry exit : List ℕ) (c : PlacesCounted i entry exit) (h : i < H.room) (long : page * H.room + i < length ns) where
    some_next : (p : ℕ) → some (i + 1) p ≡ some i p + one (star_number (get_or ns (page * H.room + i) 0) && passed H vs p page (get_or ns (page * H.room + i) 0))
    some_next p =
        rw (add-one i, ← get_or-drop (page * H.room) ns i 0)
        (count-taken (λ (n : ℕ). star_number n && passed H vs p page n) (drop (page * H.room) ns) i (omega (arith, length-drop (page * H.room) ns)))

    pub places-empty : get_or ns (page * H.room + i) 0 ≡ 0 → PlacesCounted (i + 1) entry exit
    places-empty e =
        record {
          upto = omega arith;
          added = added-same from (some i) (some (i + 1)) entry exit c.added (λ p _. some_next p ∙ rw e (add-zero (some i p)));
        }

    -- a star counts where it passed
    pub places-star : (n : ℕ) (after : List ℕ) → n ≡ get_or ns (page * H.room + i) 0 → (n ≡ 0 → ⊥) → Added from (λ p. one (passed H vs p page n)) exit after
        → PlacesCounted (i + 1) entry after
    places-star n after e Some-number a =
        record {
          upto = omega arith;
          added =
              added_then from (some i) (λ p. one (passed H vs p page n)) (some (i + 1)) entry exit after c.added a
              (λ p. some_next p ∙ rw (← e, ne_eqb n 0 Some-number));
        }

    -- at home: it passed none
    pub places-home : (n : ℕ) → n ≡ get_or ns (page * H.room + i) 0 → (n ≡ 0 → ⊥) → page ≤ H.home n → PlacesCounted (i + 1) entry exit
    places-home n e Some-number low =
        places-star n exit e Some-number (added_none from _ exit c.added.size (λ p _. go p (dec_le page p)))
      where
        go : (p : ℕ) → Dec (page ≤ p) → one (passed H vs p page n) ≡ 0
        go p (yes d) = rw (passed-high H vs n p page d)
        go p (no d) = rw (passed-low H vs n p page (omega arith))

  pub places-counts : (i n m : ℕ) (entry exit : List ℕ) → PlacesCounted i entry exit → Counts from n entry → n + i ≤ m → Counts from m exit
  places-counts i n m entry exit c most h = (
    c.added.size,
    λ p o k. omega (
      arith,
      c.added.each p o k,
      most.1 p o k,
      taken-most (λ (x : ℕ). star_number x && passed H vs p page x) (drop (page * H.room) ns) i,
    ),
  )

  pub places-all : (i : ℕ) (entry exit : List ℕ) → PlacesCounted i entry exit → H.room ≤ i → Added from (λ p. passed_on_lem H vs ns p page) entry exit
  unfolding passed_on_lem part
  places-all i entry exit c h =
      let e : H.room ≡ i = omega (arith, c.upto) in
      added-same from (some i) (some H.room) entry exit c.added (λ p _. ap (λ (j : ℕ). some j p) e)

  -- where all stars are at home none is counted
  module _ (l : List ℕ) (size : length l ≡ 1024) (long : page * H.room + H.room ≤ length ns)
      (home : (i : ℕ) → i < H.room → (get_or ns (page * H.room + i) 0 ≡ 0 → ⊥) → page ≤ H.home (get_or ns (page * H.room + i) 0)) where
    still : (i : ℕ) → i ≤ H.room → PlacesCounted i l l
    still zero h = places-none l size
    still (suc i) h = rw (← add-one i) (go (dec_le (get_or ns (page * H.room + i) 0) 0) (still i (omega arith)))
      where
        go : Dec (get_or ns (page * H.room + i) 0 ≤ 0) → PlacesCounted i l l → PlacesCounted (i + 1) l l
        go (yes d) c = places-empty i l l c (omega arith) (omega arith) (omega arith)
        go (no d) c = places-home i l l c (omega arith) (omega arith) _ refl (λ e. d (omega arith)) (home i (omega arith) (λ e. d (omega arith)))

    pub places-still : Added from (λ p. passed_on_lem H vs ns p page) l l
    places-still = places-all H.room l l (still H.room (omega arith)) (omega arith)

-- an item counts on a page as one that stands there or as one that passed it
item-parts : (s t u : Bool) → (t ≡ true → u ≡ false) → one (s && (t || u)) ≡ cond t (one s) 0 + one (s && u)
item-parts false true u h = refl
item-parts false false u h = refl
item-parts true true u h = rw (h refl)
item-parts true false u h = omega arith

length-keep : (t : Bool) (x : ℕ) (l : List ℕ) → length (keep t x l) ≡ one t + length l
length-keep true x l = omega arith
length-keep false x l = omega arith

count-parts : (H : Hash) (vs : List ℕ) (p q : ℕ) (l : List ℕ)
    → length (filter (counted_item H vs p q) l) ≡ cond (eqb q p) (stars_among l) 0 + length (filter (λ (n : ℕ). star_number n && passed H vs p q n) l)
unfolding filter counts_on
count-parts H vs p q [] = go (eqb q p)
  where
    go : (t : Bool) → 0 ≡ cond t 0 0 + 0
    go true = refl
    go false = refl
count-parts H vs p q (x ∷ l) =
    rw (
      length-keep (counted_item H vs p q x) x (filter (counted_item H vs p q) l),
      length-keep (star_number x) x (filter star_number l),
      length-keep (star_number x && passed H vs p q x) x (filter (λ (n : ℕ). star_number n && passed H vs p q n) l),
    )
    (go (eqb q p) refl (count-parts H vs p q l))
  where
    go : (t : Bool) → eqb q p ≡ t
        → length (filter (counted_item H vs p q) l) ≡ cond t (stars_among l) 0 + length (filter (λ (n : ℕ). star_number n && passed H vs p q n) l)
        → one (star_number x && (t || passed H vs p q x)) + length (filter (counted_item H vs p q) l)
        ≡ cond t (one (star_number x) + stars_among l) 0 + (one (star_number x && passed H vs p q x) + length (filter (λ (n : ℕ). star_number n && passed H vs p q n) l))
    go true e ih = omega (arith, ih, item-parts (star_number x) true (passed H vs p q x) (λ _. passed-high H vs x p q (omega (arith, eqb-true q p e))))
    go false e ih = omega (arith, ih, item-parts (star_number x) false (passed H vs p q x) (λ f. absurd (false≢true f)))

count-both : (H : Hash) (vs ns : List ℕ) (p q : ℕ) → count_on H vs ns p q ≡ own_on H ns p q + passed_on_lem H vs ns p q
unfolding count_on passed_on_lem
count-both H vs ns p q = count-parts H vs p q (part H.room q ns)

pub passed-most : (H : Hash) (vs ns : List ℕ) (p q : ℕ) → passed_on_lem H vs ns p q ≤ H.room
unfolding passed_on_lem part
passed-most H vs ns p q = taken-most (λ (n : ℕ). star_number n && passed H vs p q n) (drop (q * H.room) ns) H.room

-- a page's own stars are counted on it, or need not be
module _ (H : Hash) (vs ns : List ℕ) (page : ℕ) (entry : List ℕ) (size : length entry ≡ 1024) where
  pub own-counted : page < 1024 → (stars : ℕ) → stars ≡ stars_among (part H.room page ns)
      → AddedBelow H vs (λ p. own_on H ns p page) entry (set entry page (get_or entry page 0 + stars))
  own-counted inside stars e =
      let a : Added 0 (λ p. own_on H ns p page) entry (set entry page (get_or entry page 0 + stars)) = rw e (added-some 0 entry page (stars_among (part H.room page ns)) size inside) in
      record { size = a.size; most = λ p h. omega (arith, a.each p (omega arith) h); each = λ p h _. a.each p (omega arith) h }

  pub own-left : H.top ≤ get_or vs page 0 → AddedBelow H vs (λ p. own_on H ns p page) entry entry
  own-left high = record { size = size; most = λ p h. omega arith; each = λ p h low. go p low (eqb page p) refl }
    where
      go : (p : ℕ) → get_or vs p 0 < H.top → (t : Bool) → eqb page p ≡ t → get_or entry p 0 ≡ get_or entry p 0 + cond t (stars_among (part H.room page ns)) 0
      go p low true q = absurd (omega (arith, low, high, ap (λ (k : ℕ). get_or vs k 0) (eqb-true page p q)))
      go p low false q = omega arith

pub counted_none : (H : Hash) (vs ns : List ℕ) (from : ℕ) → PassersCounted H vs ns from from (replicate {A = ℕ} 1024 0)
unfolding count_from
counted_none H vs ns from = record { size = refl; most = λ p o h. omega (arith, start p h); each = λ p o h _. start p h }
  where
    start : (p : ℕ) → p < 1024 → get_or (replicate {A = ℕ} 1024 0) p 0 ≡ count_from H vs ns from p (from - from)
    start p h =
        let none : from - from ≡ 0 = omega arith in
        get_or-replicate {A = ℕ} 1024 p 0 0 h ∙ sym (ap (count_from H vs ns from p) none)

module _ (H : Hash) (vs ns : List ℕ) (from page : ℕ) (counts : List ℕ) (c : PassersCounted H vs ns from page counts) where
  -- one page more is counted
  further : from ≤ page → (p : ℕ) → count_from H vs ns from p (page + 1 - from) ≡ count_from H vs ns from p (page - from) + count_on H vs ns p page
  unfolding count_from
  further low p =
      let one_more : page + 1 - from ≡ suc (page - from) = omega arith in
      let here : from + (page - from) ≡ page = omega arith in
      ap (count_from H vs ns from p) one_more
      ∙ ap (λ (q : ℕ). count_from H vs ns from p (page - from) + count_on H vs ns p q) here

  pub counted_next : from ≤ page → (between after : List ℕ) → Added from (λ p. passed_on_lem H vs ns p page) counts between → AddedBelow H vs (λ p. own_on H ns p page) between after
      → PassersCounted H vs ns from (page + 1) after
  counted_next low between after a b =
      record {
        size = b.size;
        most = λ p o k. omega (arith, further low p, count-both H vs ns p page, c.most p o k, a.each p o k, b.most p k);
        each = λ p o k v. omega (arith, further low p, count-both H vs ns p page, c.each p o k v, a.each p o k, b.each p k v);
      }

  pub counted-most : (stop m : ℕ) → page ≤ stop → stop * H.room ≤ m → Counts from m counts
  counted-most stop m high h = (
    c.size,
    λ p o k. omega (
      arith,
      c.most p o k,
      count_most H vs ns from p (page - from),
      mul-le-mul_right {m = page - from} {n = stop} H.room (omega arith),
    ),
  )

-- a search goes by what the test says of the numbers from `from` on
such-alike : (t u : ℕ → Bool) (from n : ℕ) → ((q : ℕ) → from ≤ q → q < from + n → t q ≡ u q) → first_such t from n ≡ first_such u from n
unfolding first_such
such-alike t u from zero h = refl
such-alike t u from (suc n) h = rw (h from (omega arith) (omega arith), such-alike t u (suc from) n (λ q a k. h q (omega arith) (omega arith)))

-- the counters tell which separators could be one greater
pub rising-raisable : (g : Geometry) (vs ns counts : List ℕ) (from stop : ℕ) → from ≤ stop → stop ≤ 1024
    → PassersCounted (hash_under g) vs ns from stop counts → first_rising_lem g.parameters vs counts from stop ≡ first_raisable_lem g vs ns from stop
unfolding raisable_from hash_of
rising-raisable g vs ns counts from stop low few c =
    such-alike _ (raisable_from (hash_under g) from (stop - from) vs ns) from (stop - from) (λ q o h. go q o h (dec_lt (get_or vs q 0) (top_of_lem g.parameters.bits)))
  where
    go : (q : ℕ) → from ≤ q → q < from + (stop - from) → Dec (get_or vs q 0 < top_of_lem g.parameters.bits)
        → may_rise (top_of_lem g.parameters.bits) g.parameters.places (get_or vs q 0) (get_or counts q 0)
        ≡ may_rise (top_of_lem g.parameters.bits) g.parameters.places (get_or vs q 0) (count_from (hash_under g) vs ns from q (stop - from))
    go q o h (yes d) = ap (may_rise (top_of_lem g.parameters.bits) g.parameters.places (get_or vs q 0)) (c.each q o (omega arith) d)
    go q o h (no d) = rw (le-ltb (get_or vs q 0) (top_of_lem g.parameters.bits) (omega arith))

-- a table of so many entries signs the stars of a page that are homed at page `low` or above
pub page-signable : (entries places : ℕ) (ns hs : List ℕ) (page low : ℕ) → 2 * (page - low) < entries → HomedFrom low ns hs (page * places) (page * places + places)
    → SignablePassed entries places ns hs page (suc page)
page-signable entries places ns hs page low few here q i f h l star =
    let same : q ≡ page = omega arith in
    let home : low ≤ get_or hs (q * places + i) 0 = rw same (here (page * places + i) (omega arith) (omega arith) (λ z. star (rw same z))) in
    omega (arith, home, few)
