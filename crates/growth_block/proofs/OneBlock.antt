-- A growth that the new page has room for, page by page: a page other than the new one is the rule's over the stars of its own block.
use mathlib.Core.Path.{◌≡◌, refl, sym, ap, ◌∙◌}
use mathlib.Core.Bool.{Bool, true, false, not, cond}
use mathlib.Core.Logic.{◌⊎◌, inl, inr}
use mathlib.Core.List.Memᴰ
use mathlib.Core.List.{List, [], ◌∷◌, Memᴰ}
use Prim.Native.Nat.{ℕ, zero, suc, ◌+◌, ◌-◌, ◌≤◌, ◌<◌}
use native.Mathlib.Nat.{zero-add}
use native.Mathlib.Decide.{dec_lt, dec_le}
use native.Mathlib.Omega.{arith}
use lib.Dec.{leb}
use lib.ListN.{length, get_or, take, drop}
use lib.Seq.{get_or-take, get_or-drop}
use borrow.Author.Tests.{ltb-true, le-ltb}
use Rattle.hashing.specs.declared.Parameters.{Parameters}
use Rattle.hashing.specs.declared.Growth.{Growth}
use Rattle.hashing.specs.Geometry.{multiplier_of, page_count, grown, expands}
use Rattle.hashing.specs.Limits.{valid_parameters, valid_growth}
use Rattle.hashing.specs.Home.{home}
use Rattle.generator.specs.Generator.{top_of_lem}
use Rattle.pages.specs.Position.{valid_word}
use Rattle.placement.specs.Rule.{Star, Hash, Contents, filter, first, below, staying, passing, separator_from, separator_of, contents_of, onward, pages, left, separators}
use Rattle.placement.specs.Shape.{blank}
use Rattle.placement.specs.File.{File, stars_at, gathered}
use Rattle.placement.specs.Shape.{Sized}
use Rattle.placement.specs.Hash.{hash_of}
use Rattle.placement.proofs.Filters.{filter-ext, filter_none, member_filter, filter-member}
use Rattle.placement.proofs.Irrelevance.{near, far, near-covers, is-far, far-home, pages-irr, left_far}
use Rattle.placement.proofs.Order.{rising-same, rising-filter}
use Rattle.placement.proofs.Collecting.{rising-left}
use Rattle.placement.proofs.Composition.{take-pages, middle_pages}
use Rattle.placement.proofs.Standing.{first_home, past_top}
use Rattle.placement.proofs.Domination.{stored}
use Rattle.placement.proofs.Locality.{Ended, ended-top}
use Rattle.placement.proofs.Writing.{get_d_separators}
use Rattle.placement.proofs.Sound.{separator_top, gathered-member, member_gathered, gathered-rising}
use Rattle.placement.proofs.Probing.{bounded-real}
use Rattle.home_update.proofs.Rehomed.{home-moves}
use Rattle.reach.specs.Reach.{first_unsound_lem, all_stars}
use Rattle.growth_in_place.specs.Expansion.{Spacious}
use Rattle.growth_in_place.proofs.JoinedBlocks.{Starts}
use Rattle.growth_in_place.proofs.Whole.{here-before}
use Rattle.growth_block.proofs.Holding.{all_sound, all_held}

-- two hashes by which the same stars stay on the pages below page e
pub record SameBelow (e : ℕ) (H K : Hash) : Type 0 where
  pub stays : (q v k : ℕ) → q < e → below H q v k ≡ below K q v k
  pub top : H.top ≡ K.top
  pub room : H.room ≡ K.room

-- .. place them alike
module _ (e : ℕ) (H K : Hash) (same : SameBelow e H K) where
  staying-same : (q v : ℕ) (w : List Star) → q < e → staying H q v w ≡ staying K q v w
  unfolding staying
  staying-same q v w h = filter-ext _ _ (λ s. same.stays q v s.number h) w

  from-same : (q : ℕ) (w : List Star) → q < e → (v : ℕ) → separator_from H q w v ≡ separator_from K q w v
  unfolding separator_from
  from-same q w h zero = refl
  from-same q w h (suc v) =
      rw (from-same q w h v, staying-same q (suc v) w h)
      (ap (λ (r : ℕ). cond (leb (length (staying K q (suc v) w)) r) (suc v) (separator_from K q w v)) same.room)

  separator_same : (q : ℕ) (w : List Star) → q < e → separator_of H q w ≡ separator_of K q w
  unfolding separator_of
  separator_same q w h = from-same q w h H.top ∙ ap (λ (t : ℕ). separator_from K q w t) same.top

  contents-same : (q : ℕ) (w : List Star) → q < e → contents_of H q w ≡ contents_of K q w
  unfolding contents_of
  contents-same q w h = rw (separator_same q w h, staying-same q (separator_of K q w) w h)

  onward-same : (q : ℕ) (w : List Star) → q < e → onward H q w ≡ onward K q w
  unfolding onward passing
  onward-same q w h = rw (separator_same q w h) (filter-ext _ _ (λ s. ap not (same.stays q (separator_of K q w) s.number h)) w)

  pub pages-same : (q n : ℕ) (w : List Star) → q + n ≤ e → pages H q n w ≡ pages K q n w
  unfolding pages
  pages-same q zero w h = refl
  pages-same q (suc n) w h =
      rw (contents-same q w (omega arith), onward-same q w (omega arith))
      (ap (λ (cs : List Contents). contents_of K q w ∷ cs) (pages-same (suc q) n (onward K q w) (omega arith)))

-- a page of the rule over M pages, by the pages of a stretch that have the same stars at and below it
page-of : (H : Hash) (lo n M step : ℕ) (w v : List Star) → lo ≤ step → step < lo + n → lo + n ≤ M
    → filter (near H (suc step)) (left H 0 lo w) ≡ filter (near H (suc step)) v
    → get_or (pages H 0 M w) step blank ≡ get_or (pages H lo n v) (step - lo) blank
page-of H lo n M step w v low high inside e =
    sym (get_or-take m (drop lo (pages H 0 M w)) (step - lo) blank (omega arith) ∙ get_or-drop lo (pages H 0 M w) (step - lo) blank ∙ ap (λ (i : ℕ). get_or (pages H 0 M w) i blank) at)
    ∙ ap (λ (cs : List Contents). get_or cs (step - lo) blank) (middle_pages H lo m M w (omega arith) ∙ alike ∙ sym few)
    ∙ get_or-take m (pages H lo n v) (step - lo) blank (omega arith)
  where
    m : ℕ
    m = suc (step - lo)

    at : lo + (step - lo) ≡ step
    at = omega arith

    few : take m (pages H lo n v) ≡ pages H lo m v
    few =
        let sum : m + (n - m) ≡ n = omega arith in
        rw sum at (take-pages H lo m (n - m) v)

    end : lo + m ≡ suc step
    end = omega arith

    alike : pages H lo m (left H 0 lo w) ≡ pages H lo m v
    alike =
        let c = near-covers H (lo + m) in
        sym (pages-irr H lo m (near H (lo + m)) c (left H 0 lo w))
        ∙ ap (pages H lo m) (rw (← end) at e)
        ∙ pages-irr H lo m (near H (lo + m)) c v

module _ (p : Parameters) (g : Growth) (f : File) (valid : valid_parameters p ≡ true) (grows : valid_growth p g ≡ true) (sized : Sized p.places p.pages f)
    (all : first_unsound_lem p g f 0 p.pages ≡ p.pages) (room : page_count p g < p.pages) (spacious : Spacious p g f.separators f.numbers) where
  abbrev P : ℕ
  P = page_count p g

  abbrev H : Hash
  H = hash_of p g

  abbrev H' : Hash
  H' = hash_of p (grown p g)

  abbrev w : List Star
  w = all_stars p f

  -- the rule gives each page a separator not below the stored one
  topped : (d : ℕ) → d < p.pages → get_or f.separators d 0 ≡ H.top → get_or (separators (pages H' 0 (suc d) w)) d 0 ≡ H'.top
  unfolding hash_of
  topped d h e =
      let sum : suc d + (p.pages - suc d) ≡ p.pages = omega arith in
      let front : take (suc d) (pages H' 0 p.pages w) ≡ pages H' 0 (suc d) w = rw sum at (take-pages H' 0 (suc d) (p.pages - suc d) w) in
      let same : get_or (separators (pages H' 0 (suc d) w)) d 0 ≡ get_or (separators (pages H' 0 p.pages w)) d 0 =
      get_d_separators (pages H' 0 (suc d) w) d
      ∙ ap (λ (cs : List Contents). (get_or cs d blank).separator) (sym front)
      ∙ ap (λ (c : Contents). c.separator) (get_or-take (suc d) (pages H' 0 p.pages w) d blank (omega arith))
      ∙ sym (get_d_separators (pages H' 0 p.pages w) d) in
      let held = rw sized.of_separators at (stored H' 0 f.separators w (all_held p g f valid grows sized all room spacious) d (omega (arith, sized.of_separators))) in
      omega (arith, same, held, e, separator_top H' 0 p.pages d w h)

  ended : (lo : ℕ) → lo ≤ p.pages → Starts H f lo → Ended H' 0 lo w
  ended zero h starts = filter_none (near H' 0) (λ s. le-ltb (H'.home s.number) 0 (omega arith)) (left H' 0 0 w)
  ended (suc d) h starts = ended-top H' (bounded-real p (grown p g) valid) 0 d w (topped d (omega arith) (starts d refl))

  -- where page `step` is planned by the pages from lo to `stop`, its block and those behind it
  module _ (lo last stop step : ℕ) (starts : Starts H f lo) (low : lo ≤ step) (high : step ≤ last) (past : step < stop) (reached : last ≤ stop) (inside : stop < p.pages)
      (within : (q : ℕ) → lo ≤ q → q < step → get_or f.separators q 0 ≡ top_of_lem p.bits → ⊥)
      (ends : suc last < p.pages → get_or f.separators last 0 ≡ top_of_lem p.bits) (other : step ≡ P → ⊥) where
    abbrev n : ℕ
    n = suc (stop - lo)

    abbrev G : List Star
    G = gathered p.places f lo n

    count : lo + n ≡ suc stop
    count = omega arith

    named : (q : ℕ) → q < p.pages → (s : Star) → Memᴰ s (stars_at p.places f q) → first H 0 f.separators s.number ≡ q
    unfolding stars_at
    named = here-before p g f valid grows sized all room spacious.top

    -- a home under the next growth state is the same, or that of the new page
    moves : (k : ℕ) → (H.home k ≡ H'.home k) ⊎ ((H.home k < P) × (H'.home k ≡ P))
    unfolding hash_of
    moves k = go (home-moves (multiplier_of p) p g k valid grows)
      where
        go : (home (multiplier_of p) p g k ≡ home (multiplier_of p) p (grown p g) k)
            ⊎ ((expands p g (home (multiplier_of p) p g k) ≡ true) × (home (multiplier_of p) p g k < P) × (home (multiplier_of p) p (grown p g) k ≡ P))
            → (home (multiplier_of p) p g k ≡ home (multiplier_of p) p (grown p g) k) ⊎ ((home (multiplier_of p) p g k < P) × (home (multiplier_of p) p (grown p g) k ≡ P))
        go (inl e) = inl e
        go (inr e) = inr (e.1, e.2)

    -- the stars homed from lo on that wait for these pages are those of the file
    far-same : filter (far H' lo) (left H' 0 lo w) ≡ filter (far H' lo) w
    far-same = rw (zero-add lo) at (left_far H' 0 lo (far H' (0 + lo)) (far-home H' (0 + lo)) w)

    waits-far : (s : Star) → Memᴰ s (left H' 0 lo w) → far H' lo s ≡ true
    waits-far s m = go (near H' lo s) refl
      where
        none : filter (near H' lo) (left H' 0 lo w) ≡ []
        none = rw (zero-add lo) at (ended lo (omega arith) starts)

        go : (t : Bool) → near H' lo s ≡ t → not t ≡ true
        go true e = absurd (Memᴰ.not-nil (rw none at (filter-member (near H' lo) (left H' 0 lo w) s m e)))
        go false e = refl

    -- where a star homed on the block's pages up to `step` stands
    stands-low : (q : ℕ) → q < p.pages → (s : Star) → Memᴰ s (stars_at p.places f q) → H.home s.number ≤ q
    stands-low q h s m =
        omega (
          arith,
          named q h s m,
          first_home H 0 f.separators s.number (omega (arith, named q h s m, sized.of_separators, zero-add (length f.separators))),
        )

    stands-past : (q e : ℕ) → q < p.pages → e < q → get_or f.separators e 0 ≡ top_of_lem p.bits → (s : Star) → Memᴰ s (stars_at p.places f q) → e < H.home s.number
    unfolding hash_of
    stands-past q e h k t s m =
        rw (zero-add e) at
        (past_top H (bounded-real p g valid) 0 e f.separators s.number (omega (arith, sized.of_separators)) t (omega (arith, named q h s m, zero-add e)))

    inner : (q : ℕ) → q < p.pages → (s : Star) → Memᴰ s (stars_at p.places f q) → lo ≤ H'.home s.number → H'.home s.number ≤ step → (lo ≤ q) × (q < lo + n)
    inner q h s m a b = go (moves s.number)
      where
        most : Dec (q ≤ last) → H.home s.number ≤ step → q ≤ last
        most (yes d) k = d
        most (no d) k = absurd (omega (arith, stands-past q last h (omega arith) (ends (omega arith)) s m))

        go : (H.home s.number ≡ H'.home s.number) ⊎ ((H.home s.number < P) × (H'.home s.number ≡ P)) → (lo ≤ q) × (q < lo + n)
        go (inl e) =
            let low : H.home s.number ≤ step = omega arith in
            (omega (arith, stands-low q h s m), omega (arith, most (dec_le q last) low, count))
        go (inr e) = absurd (within P (omega (arith, e.1)) (apart (dec_lt P step)) spacious.top)
          where
            apart : Dec (P < step) → P < step
            apart (yes d) = d
            apart (no d) = absurd (other (omega (arith, e.1)))

    down : (s : Star) → Memᴰ s (filter (near H' (suc step)) (left H' 0 lo w)) → Memᴰ s (filter (near H' (suc step)) G)
    down s m =
        let parts = member_filter (near H' (suc step)) (left H' 0 lo w) s m in
        let away = waits-far s parts.0 in
        let whole = member_filter (far H' lo) w s (rw far-same at (filter-member (far H' lo) (left H' 0 lo w) s parts.0 away)) in
        let there = gathered-member p.places f 0 p.pages s whole.0 in
        let here = inner there.0 (omega (arith, there.2)) s there.3 (far-home H' lo s away) (omega (arith, ltb-true (H'.home s.number) (suc step) parts.1)) in
        filter-member (near H' (suc step)) G s (member_gathered p.places f lo n there.0 s here.0 here.1 there.3) parts.1

    not_lower : (k : ℕ) → H.home k ≤ H'.home k
    not_lower k = go (moves k)
      where
        go : (H.home k ≡ H'.home k) ⊎ ((H.home k < P) × (H'.home k ≡ P)) → H.home k ≤ H'.home k
        go (inl e) = omega (arith, e)
        go (inr e) = omega (arith, e.0, e.1)

    homed-from : (d : ℕ) → d ≡ lo → (q : ℕ) → q < p.pages → lo ≤ q → (s : Star) → Memᴰ s (stars_at p.places f q) → lo ≤ H.home s.number
    homed-from zero e q h k s m = omega arith
    homed-from (suc d) e q h k s m = omega (arith, stands-past q d h (omega arith) (unfold hash_of in starts d e) s m)

    up : (s : Star) → Memᴰ s (filter (near H' (suc step)) G) → Memᴰ s (filter (near H' (suc step)) (left H' 0 lo w))
    up s m =
        let parts = member_filter (near H' (suc step)) G s m in
        let there = gathered-member p.places f lo n s parts.0 in
        let within : there.0 < p.pages = omega (arith, there.2, count) in
        let whole = member_gathered p.places f 0 p.pages there.0 s (omega arith) (omega (arith, within)) there.3 in
        let away = is-far H' lo s (omega (arith, homed-from lo refl there.0 within there.1 s there.3, not_lower s.number)) in
        let waits = member_filter (far H' lo) (left H' 0 lo w) s (rw (← far-same) at (filter-member (far H' lo) w s whole away)) in
        filter-member (near H' (suc step)) (left H' 0 lo w) s waits.0 parts.1

    same-stars : filter (near H' (suc step)) (left H' 0 lo w) ≡ filter (near H' (suc step)) G
    unfolding hash_of
    same-stars =
        rising-same 0 0 (filter (near H' (suc step)) (left H' 0 lo w)) (filter (near H' (suc step)) G)
        (rising-filter 0 (near H' (suc step)) (left H' 0 lo w)
        (rising-left H' 0 lo 0 w (gathered-rising valid_word H f 0 p.pages (all_sound p g f valid grows sized all room spacious))))
        (rising-filter 0 (near H' (suc step)) G
        (gathered-rising valid_word H f lo n (λ q a h. all_sound p g f valid grows sized all room spacious q (omega arith) (omega (arith, count)))))
        down up

    -- the page of the growth, by any hash that agrees with the growth's on the pages below `stop`
    pub page-local : (K : Hash) → SameBelow stop H' K → get_or (pages H' 0 p.pages w) step blank ≡ get_or (pages K lo n G) (step - lo) blank
    page-local K same =
        page-of H' lo n p.pages step w G low (omega (arith, count)) (omega (arith, count)) same-stars
        ∙ sym (front H')
        ∙ ap (λ (cs : List Contents). get_or cs (step - lo) blank) (pages-same stop H' K same lo (stop - lo) G (omega arith))
        ∙ front K
      where
        front : (J : Hash) → get_or (pages J lo (stop - lo) G) (step - lo) blank ≡ get_or (pages J lo n G) (step - lo) blank
        front J =
            let sum : stop - lo + 1 ≡ n = omega arith in
            ap (λ (cs : List Contents). get_or cs (step - lo) blank) (sym (rw sum at (take-pages J lo (stop - lo) 1 G)))
            ∙ get_or-take (stop - lo) (pages J lo n G) (step - lo) blank (omega arith)
