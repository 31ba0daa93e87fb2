-- The items of a stretch of sound pages, and the words of its stars.
use mathlib.Core.Path.{◌≡◌, refl, sym, ap, ◌∙◌}
use mathlib.Core.Bool.{Bool, true, false, not, ◌||◌, true≢false}
use mathlib.Core.List.{List}
use Prim.Native.Nat.{ℕ, suc, ◌+◌, ◌-◌, ◌*◌, ◌/◌, ◌%◌, ◌^◌, ◌≤◌, ◌<◌}
use native.Mathlib.Nat.{add-mul, zero-add, mod-lt, div-add-mod', div-lt_iff_lt-mul, mul-le-mul, mul-le-mul_right}
use native.Mathlib.Omega.{arith}
use lib.Dec.{leb, ltb, eqb}
use lib.ListN.{length, take, drop, get_or, length-map, get_or-map}
use lib.Seq.{get_or-take, get_or-drop}
use borrow.Author.Tests.{le-leb, lt-ltb, ne_eqb, eqb-false}
use Rattle.hashing.specs.declared.Parameters.{Parameters}
use Rattle.hashing.specs.declared.Growth.{Growth}
use Rattle.hashing.specs.Geometry.{multiplier_of}
use Rattle.hashing.specs.Home.{home}
use Rattle.hashing.specs.Limits.{valid_parameters}
use Rattle.hashing.proofs.Bounds.{limits}
use Rattle.pages.specs.Position.{valid_word}
use Rattle.pages.specs.Page.{part, held_at}
use Rattle.pages.specs.Shape.{stretch}
use Rattle.pages.proofs.Parts.{part-item, part_length, page-fits}
use Rattle.pages.proofs.Places.{held-at}
use Rattle.placement.specs.File.{File}
use Rattle.placement.specs.Shape.{Sized}
use Rattle.placement.specs.Hash.{hash_of, sound_at, named_page_lem}
use Rattle.placement.specs.Shape.{homes_of, home_in}
use Rattle.placement.proofs.Standing.{past_top}
use Rattle.placement.proofs.Search.{orderly-numbers}
use Rattle.placement.proofs.Probing.{bounded-real}
use Rattle.placement.proofs.Tested.{ItemOn, item_on, real_facts}
use Rattle.page_separator.specs.Lists.{all, all_below}
use Rattle.page_separator.specs.Words.{pack, home_of, number_in}
use Rattle.page_plan.specs.Gather.{skipped, group_of, groups_below}
use Rattle.page_separator.proofs.Lists.{all-items}
use Rattle.page_separator.proofs.Packing.{home-pack, number-pack}
use Rattle.buffers.proofs.Lists.{map-take, map-drop}
use Rattle.page_plan.specs.Plans.{homed}
use Rattle.page_plan.specs.Sources.{sourced}
use Rattle.page_plan.proofs.Blocks.{from}
use Rattle.page_plan.proofs.Sourcing.{fresh, length-stretch, named-stretch, words-homed, words-sourced, all_words}
use Rattle.page_plan.proofs.Placed.{homes-real}
use Rattle.entry_reach.specs.Entry.{Unheld, block_numbers, block_words}

-- a test that every item passes, every word of the items
unskipped : (n : ℕ) → skipped 0 n ≡ false → eqb n 0 ≡ false
unfolding skipped
unskipped n = go (eqb n 0)
  where
    go : (t : Bool) → t || t ≡ false → t ≡ false
    go true e = e
    go false e = refl

-- a word of a star that stands on one of the n pages from lo
pub record WordOn (p : Parameters) (g : Growth) (f : File) (lo n w : ℕ) : Type 0 where
  pub page : ℕ
  pub least : lo ≤ page
  pub most : page < lo + n
  pub homed : home_of w ≤ page
  pub named : named_page_lem p g f.separators (number_in w) ≡ page
  pub above : (e : ℕ) → e < page → get_or f.separators e 0 ≡ (hash_of p g).top → e < home_of w
  pub other : (k : ℕ) → Unheld p g f k → number_in w ≡ k → ⊥

module _ (p : Parameters) (g : Growth) (f : File) (valid : valid_parameters p ≡ true) (sized : Sized p.places p.pages f) (lo n : ℕ) (inside : lo + n ≤ p.pages) where
  numbers_long : (lo + n) * p.places ≤ length f.numbers
  numbers_long = rw sized.of_numbers (mul-le-mul_right p.places inside)

  pub numbers_count : length (block_numbers p f lo n) ≡ n * p.places
  numbers_count = length-stretch p.places lo n f.numbers numbers_long

  pub items-few : lo * p.places + length (block_numbers p f lo n) < 2 ^ 16
  items-few =
      let l = limits p valid in
      omega (arith, numbers_count, add-mul lo n p.places, numbers_long, sized.of_numbers, mul-le-mul l.pages_most l.places_most)

  -- the homes of the stretch's items
  pub stretch-homes : stretch p.places lo n (homes_of p g f.numbers) ≡ homes_of p g (block_numbers p f lo n)
  unfolding homes_of
  stretch-homes =
      ap (take (n * p.places)) (map-drop (home_in p g) (lo * p.places) f.numbers)
      ∙ map-take (home_in p g) (n * p.places) (drop (lo * p.places) f.numbers)

  -- the words' sources name their numbers
  pub block-sourced : (k : ℕ) → all_below (2 ^ 31) (block_numbers p f lo n) ≡ true → sourced f.numbers k (block_words p g f lo n) ≡ true
  unfolding block_words
  block-sourced k v =
      words-sourced (lo * p.places) 0 (block_numbers p f lo n) (stretch p.places lo n (homes_of p g f.numbers)) v items-few f.numbers k
      (λ i a. named-stretch p.places lo n k f.numbers numbers_long i a)

  -- .. and carry the homes of their numbers
  pub block-homed : all_below (2 ^ 31) (block_numbers p f lo n) ≡ true → homed (hash_of p g) (block_words p g f lo n) ≡ true
  unfolding block_words
  block-homed v =
      words-homed (lo * p.places) 0 (block_numbers p f lo n) (stretch p.places lo n (homes_of p g f.numbers)) v items-few (hash_of p g)
      (stretch-homes ∙ homes-real p g (block_numbers p f lo n))

  module _ (sound : (q : ℕ) → lo ≤ q → q < lo + n → sound_at p g f q ≡ true) where
    -- the page and the place of item i
    module _ (i : ℕ) (h : i < n * p.places) where
      page_of : ℕ
      page_of = lo + i / p.places

      some : 0 < p.places
      some = (limits p valid).places_least

      low : i / p.places < n
      low = (div-lt_iff_lt-mul some).1 h

      page-inside : page_of < p.pages
      unfolding page_of
      page-inside = omega (arith, low)

      page-sound : sound_at p g f page_of ≡ true
      unfolding page_of
      page-sound = sound (lo + i / p.places) (omega arith) (omega (arith, low))

      placed : page_of * p.places + i % p.places ≡ lo * p.places + i
      unfolding page_of
      placed = omega (arith, add-mul lo (i / p.places) p.places, div-add-mod' i p.places)

      item-is : (l : List ℕ) → get_or (stretch p.places lo n l) i 0 ≡ get_or l (page_of * p.places + i % p.places) 0
      item-is l = get_or-take (n * p.places) (drop (lo * p.places) l) i 0 h ∙ get_or-drop (lo * p.places) l i 0 ∙ ap (λ (k : ℕ). get_or l k 0) (sym placed)

      item-there : ItemOn p g f page_of (get_or (block_numbers p f lo n) i 0) (get_or f.words (page_of * p.places + i % p.places) 0) (get_or f.owners (page_of * p.places + i % p.places) 0)
      item-there =
          rw (item-is f.numbers)
          (item_on p g f page_of sized page-inside page-sound (i % p.places) (mod-lt i some))

      -- a star is held by its page
      item-held : (get_or (block_numbers p f lo n) i 0 ≡ 0 → ⊥) → held_at (get_or (block_numbers p f lo n) i 0) (part p.places page_of f.numbers) ≡ true
      unfolding hash_of
      item-held star =
          let long : (l : List ℕ) → length l ≡ p.pages * p.places → length (part p.places page_of l) ≡ p.places
          = λ l e. part_length p.places page_of l (page-fits p.places p.pages page_of page-inside e) in
          let ln : length (part p.places page_of f.numbers) ≡ p.places = long f.numbers sized.of_numbers in
          held-at 0 (get_or (block_numbers p f lo n) i 0) (part p.places page_of f.numbers) (i % p.places)
          (orderly-numbers valid_word 0 (part p.places page_of f.numbers) (part p.places page_of f.words) (part p.places page_of f.owners) (omega arith)
          (ln ∙ sym (long f.words sized.of_words_lem), ln ∙ sym (long f.owners sized.of_owners)) (real_facts p g f page_of page-sound).in_order_lem)
          (omega (arith, star)) (omega (arith, mod-lt i some, ln))
          (part-item p.places page_of f.numbers (i % p.places) (mod-lt i some) ∙ sym (item-is f.numbers))

      module _ (star : get_or (block_numbers p f lo n) i 0 ≡ 0 → ⊥) where
        item-above : (e : ℕ) → e < page_of → get_or f.separators e 0 ≡ (hash_of p g).top → e < home (multiplier_of p) p g (get_or (block_numbers p f lo n) i 0)
        unfolding named_page_lem hash_of
        item-above e h top =
            omega (
              arith,
              zero-add e,
              past_top (hash_of p g) (bounded-real p g valid) 0 e f.separators (get_or (block_numbers p f lo n) i 0) (omega (arith, sized.of_separators, page-inside)) top
                  (omega (arith, zero-add e, (item-there.star star).named)),
            )

        item-other : (k : ℕ) → Unheld p g f k → get_or (block_numbers p f lo n) i 0 ≡ k → ⊥
        item-other k u e =
            let here : named_page_lem p g f.separators k ≡ page_of = ap (named_page_lem p g f.separators) (sym e) ∙ (item-there.star star).named in
            true≢false
            (sym (item-held star)
            ∙ ap (λ (m : ℕ). held_at m (part p.places page_of f.numbers)) e
            ∙ ap (λ (q : ℕ). held_at k (part p.places q f.numbers)) (sym here)
            ∙ u.absent)

    pub numbers_below : all_below (2 ^ 31) (block_numbers p f lo n) ≡ true
    numbers_below =
        all-items (λ x. ltb x (2 ^ 31)) (block_numbers p f lo n)
        (λ i h. lt-ltb (get_or (block_numbers p f lo n) i 0) (2 ^ 31) (omega (arith, (item-there i (rw numbers_count at h)).most)))

    home-there : (i : ℕ) → get_or (homes_of p g (block_numbers p f lo n)) i 0 ≡ home_in p g (get_or (block_numbers p f lo n) i 0)
    unfolding homes_of
    home-there i = get_or-map (home_in p g) (block_numbers p f lo n) i 0

    pub homes-below : all_below (lo + n) (homes_of p g (block_numbers p f lo n)) ≡ true
    unfolding homes_of page_of
    homes-below =
        all-items (λ x. ltb x (lo + n)) (homes_of p g (block_numbers p f lo n))
        (λ i h.
        let short : i < n * p.places = rw (length-map (block_numbers p f lo n) (home_in p g), numbers_count) at h in
        rw (home-there i)
        (lt-ltb (home_in p g (get_or (block_numbers p f lo n) i 0)) (lo + n) (omega (arith, (item-there i short).homed, low i short))))

    -- what holds of each word of the stretch's stars holds of all
    pub words-all : (t : ℕ → Bool) → ((w : ℕ) → WordOn p g f lo n w → t w ≡ true) → all t (block_words p g f lo n) ≡ true
    unfolding block_words page_of
    words-all t each =
        rw stretch-homes
        (all_words t (lo * p.places) 0 (block_numbers p f lo n) (homes_of p g (block_numbers p f lo n))
        (λ i a b s.
        let short : i < n * p.places = rw numbers_count at a in
        let k : ℕ = get_or (block_numbers p f lo n) i 0 in
        let h : ℕ = get_or (homes_of p g (block_numbers p f lo n)) i 0 in
        let w : ℕ = pack h k (suc (lo * p.places + i)) in
        let small : k < 2 ^ 31 = omega (arith, (item-there i short).most) in
        let few : suc (lo * p.places + i) < 2 ^ 16 = omega (arith, items-few) in
        let star : (k ≡ 0 → ⊥) = eqb-false k 0 (unskipped k s) in
        let number : number_in w ≡ k = number-pack h k (suc (lo * p.places + i)) small few in
        let there : home_of w ≡ home (multiplier_of p) p g k = home-pack h k (suc (lo * p.places + i)) small few ∙ home-there i ∙ rw (ne_eqb k 0 star) in
        each w
        (record {
          page = lo + i / p.places;
          least = omega arith;
          most = omega (arith, low i short);
          homed = omega (arith, there, ((item-there i short).star star).homed);
          named = ap (named_page_lem p g f.separators) number ∙ ((item-there i short).star star).named;
          above = λ e a b. omega (arith, there, item-above i short star e a b);
          other = λ k u e. item-other i short star k u (sym number ∙ e);
        })))

    pub block-grouped : groups_below lo n (block_words p g f lo n) ≡ true
    unfolding group_of
    block-grouped = words-all (λ w. ltb (home_of w - lo) n) (λ w o. lt-ltb (home_of w - lo) n (omega (arith, o.homed, o.least, o.most)))

    -- behind a page whose separator is top the words are homed above it
    pub block-above : (e : ℕ) → suc e ≡ lo → get_or f.separators e 0 ≡ (hash_of p g).top → from lo (block_words p g f lo n) ≡ true
    unfolding from
    block-above e next top = words-all (λ w. leb lo (home_of w)) (λ w o. le-leb lo (home_of w) (omega (arith, o.above e (omega (arith, o.least)) top)))

    pub block-fresh : (k : ℕ) → Unheld p g f k → fresh k (block_words p g f lo n) ≡ true
    unfolding fresh
    block-fresh k u = words-all (λ w. not (eqb (number_in w) k)) (λ w o. ap not (ne_eqb (number_in w) k (λ e. o.other k u e)))
