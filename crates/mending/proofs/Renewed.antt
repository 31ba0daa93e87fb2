-- All pages placed anew over the kept words, and what mending makes of it.
use mathlib.Core.Path.{◌≡◌, refl, sym, ap, ◌∙◌}
use mathlib.Core.Bool.{Bool, true, false, cond}
use mathlib.Core.List.{List, [], map}
use Prim.Native.Nat.{ℕ, suc, ◌+◌, ◌*◌, ◌^◌, ◌≤◌, ◌<◌}
use native.Mathlib.Nat.{zero-add, zero-mul, mul-le-mul}
use native.Mathlib.Omega.{arith}
use lib.Dec.{eqb, ltb}
use lib.ListN.{length, get_or, take, drop, length-map, get_or-map}
use lib.Seq.{length-take-le, get_or-take, get_or-drop, take_all, paste}
use borrow.Author.Tests.{lt-ltb, ltb-true}
use Rattle.removal_reach.proofs.Ruled.{none_left}
use Rattle.buffers.proofs.Lists.{map-take, map-drop}
use Rattle.buffers.proofs.Written.{written-whole, paste_written, pasted_whole}
use Rattle.pages.specs.Shape.{stretch}
use Rattle.hashing.specs.declared.Parameters.{Parameters}
use Rattle.hashing.specs.declared.Growth.{Growth}
use Rattle.hashing.specs.Limits.{valid_parameters}
use Rattle.hashing.proofs.Bounds.{limits, growth_within, spread}
use Rattle.placement.specs.Rule.{Star, Hash, Contents, pages, left, separators}
use Rattle.placement.specs.File.{File, replaced, laid, file_of, column}
use Rattle.placement.specs.Shape.{Sized}
use Rattle.placement.specs.Distinct.{distinct}
use Rattle.placement.specs.Hash.{hash_of, lent}
use Rattle.placement.specs.Shape.{home_in, homes_of}
use Rattle.plan_transfer.specs.Sources.{named_item}
use Rattle.placement.proofs.Composition.{length-pages}
use Rattle.placement.proofs.Standing.{length-separators}
use Rattle.placement.proofs.Writing.{length-column}
use Rattle.placement.proofs.Files.{roomy-pages}
use Rattle.placement.proofs.Mapping.{mapped, pages-map, left-map}
use Rattle.placement.proofs.Probing.{homed-real}
use Rattle.page_separator.specs.Lists.{all, all_below}
use Rattle.page_separator.specs.Words.{home_of}
use Rattle.page_separator.proofs.Lists.{all-mono}
use Rattle.page_plan.specs.Gather.{group_of, grouped, stretch_words, stars_in, Scattered}
use Rattle.page_plan.proofs.Items.{words_count}
use Rattle.page_plan.proofs.Gathered.{stars_in-most}
use Rattle.reach.specs.Reach.{is_empty, all_stars}
use Rattle.page_plan.specs.Sources.{renamed, sourced}
use Rattle.page_plan.specs.Plans.{waits, homed, plans, remains, AllPlaced, Settleable}
use Rattle.page_plan.proofs.Applying.{applied, renamed_keeps}
use Rattle.page_plan.proofs.Blocks.{grouped-again}
use Rattle.page_plan.proofs.Sourcing.{item_home, length-stretch}
use Rattle.page_plan.proofs.Placed.{Gatherable, probes-real, homes-real, planned-pages, layout, applied-layout, left-count}
use Rattle.removal_reach.proofs.Items.{all-below, ready-stretch}
use Rattle.sorting.specs.Order.{ordered}
use Rattle.calls.specs.Answers.{Pool, placed, refused_by, accepted, refused}
use Rattle.calls.specs.Shape.{Stores}
use Rattle.calls.specs.Calls.{unchanged}
use Rattle.calls.specs.Shape.{Admitted}
use Rattle.calls.specs.Mend.{valid_items, agreeing, mendable, mend_on}
use Rattle.calls.specs.declared.answers.Placed.TheVariants.{On, Refused}
use Rattle.calls.specs.declared.answers.Refusal.TheVariants.{BadContents, Full}
use Rattle.duplicates.specs.Words.{InGroups, firsts_after}
use Rattle.duplicates.proofs.ByHome.{ordered-groups}
use Rattle.mending.specs.Collect.{file_words, Collectable, Collects}
use Rattle.mending.specs.declared.collection.Collected.{Collected}
use Rattle.mending.specs.Renew.{words_fit, words_placed}
use Rattle.mending.proofs.Items.{numbers_small}
use Rattle.mending.proofs.Distincts.{agreement, distinct-words, firsts_rising, firsts_homed, firsts_grouped, firsts_sourced}

-- What gathering leaves is in groups.
module _ (p : Parameters) (ns hs W ends : List ℕ) (C : Collectable p ns hs W ends) where
  abbrev words : List ℕ
  words = stretch_words p.places 0 p.pages 0 ns hs

  whole : (0 + p.pages) * p.places ≡ p.pages * p.places
  whole = rw (zero-add p.pages)

  pub stars-fit : 0 + stars_in 0 (stretch p.places 0 p.pages ns) ≤ length W
  stars-fit =
      omega (arith, stars_in-most 0 (stretch p.places 0 p.pages ns), length-stretch p.places 0 p.pages ns (omega (arith, whole, C.of_numbers)), C.of_words_lem)

  pub words-fit : length words ≤ length W
  words-fit =
      omega (
        arith,
        words_count (0 * p.places) 0 (stretch p.places 0 p.pages ns) (stretch p.places 0 p.pages hs)
            (omega (arith, length-stretch p.places 0 p.pages ns (omega (arith, whole, C.of_numbers)), length-stretch p.places 0 p.pages hs (omega (arith, whole, C.of_homes)))),
        stars-fit,
      )

  pub few_words : length W ≤ 32768
  few_words = omega (arith, C.of_words_lem, mul-le-mul (limits p C.valid).pages_most (limits p C.valid).places_most)

  module _ (X ends' : List ℕ) (end : ℕ) (e : end ≡ 0 + length words) (S : Scattered 0 p.pages 0 words W X ends') where
    pub gathered-words : take end X ≡ grouped 0 0 p.pages words
    gathered-words = ap (λ (n : ℕ). take n X) e ∙ S.words

    pub gathered-groups : length X ≡ length W → length ends' ≡ length ends → InGroups p.pages end X ends'
    gathered-groups ex ee =
        record {
          inside = omega (arith, e, words-fit, ex);
          few = omega (arith, few_words, ex);
          long = omega (arith, (limits p C.valid).pages_most, C.of_ends, ee);
          words = rw gathered-words (grouped-again 0 p.pages p.pages words (omega arith));
          ends_are = record { ended = λ v h. S.ended v h ∙ omega (arith, ap length (ap (grouped 0 0 (suc v)) gathered-words ∙ grouped-again 0 (suc v) p.pages words h)) };
        }

    pub gathered-ordered : (Y : List ℕ) → take end Y ≡ ordered (take end X) → take end Y ≡ file_words p ns hs
    unfolding file_words
    gathered-ordered Y d = d ∙ ap ordered gathered-words

-- What settling all pages needs.
pub settleable : (p : Parameters) → valid_parameters p ≡ true → (end : ℕ) (pool W planned ends : List ℕ) → InGroups p.pages end W ends → length pool ≡ p.pages * p.places → 1024 ≤ length planned
    → Settleable p 0 p.pages 0 end pool W planned ends
unfolding all
settleable p valid end pool W planned ends G ep ed =
    let size : length (take end W) ≡ end = length-take-le end W G.inside in
    let whole : (0 + p.pages) * p.places ≡ p.pages * p.places = rw (zero-add p.pages) in
    record {
      valid = valid;
      pages = omega (arith, (limits p valid).pages_most);
      of_planned = omega (arith, (limits p valid).pages_most);
      of_pool = omega (arith, whole);
      of_ends = G.long;
      few = G.few;
      order = omega arith;
      inside = G.inside;
      grouped_are =
          record {
            room = omega (arith, size, G.inside);
            words = ap (λ (n : ℕ). take n W) (zero-add (length (take end W)) ∙ size) ∙ sym G.words;
            ended = λ v h. G.ends_are.ended v h ∙ sym (zero-add (length (grouped 0 0 (suc v) (take end W))));
          };
      near = refl;
    }

-- What it leaves.
module _ (p : Parameters) (valid : valid_parameters p ≡ true) (f : File) (x : List ℕ) where
  module _ (pool pool' planned planned' W' : List ℕ) where
    pub renew_kept : AllPlaced p x pool pool' planned planned' W' false → (false ≡ words_fit p x) × (f ≡ words_placed p f x)
    unfolding words_fit words_placed
    renew_kept A = rw (sym A.fits) (refl, refl)

    pub renew_placed : AllPlaced p x pool pool' planned planned' W' true → length pool ≡ p.pages * p.places → 1024 ≤ length planned
        → sourced f.numbers 0 x ≡ true
        → (true ≡ words_fit p x) × (applied p.places 0 p.pages 0 0 0 pool' planned' f ≡ words_placed p f x)
    unfolding words_fit words_placed
    renew_placed A ep ed s =
        let whole : (0 + p.pages) * p.places ≡ p.pages * p.places = rw (zero-add p.pages) in
        rw (sym A.fits) (
          refl,
          applied-layout p 0 p.pages 0 0 0 f [] x pool' planned' W' 0
              (layout p 0 p.pages [] x pool pool' planned planned' W' 0 (A.plan refl) (omega (arith, whole)) (omega (arith, (limits p valid).pages_most)))
              (unfold sourced all in refl) s,
        )

-- What writing back leaves.
pub written_back : (ns ws os ss pool W po planned pool₁ W₁ po₁ ns' ws' os' ss' : List ℕ)
    → length ss ≤ length planned → length ns ≡ length pool → length ws ≡ length pool → length os ≡ length pool → length W ≡ length pool → length po ≡ length pool
    → pool₁ ≡ paste pool 0 (map (named_item ns 0) (drop 0 pool)) (length pool)
    → W₁ ≡ paste W 0 (map (named_item ws 0) (drop 0 pool)) (length pool)
    → po₁ ≡ paste po 0 (map (named_item os 0) (drop 0 pool)) (length pool)
    → ns' ≡ paste ns 0 (drop 0 pool₁) (length pool)
    → ws' ≡ paste ws 0 (drop 0 W₁) (length pool)
    → os' ≡ paste os 0 (drop 0 po₁) (length pool)
    → ss' ≡ paste ss 0 (drop 0 planned) (length ss)
    → lent ss' ns' ws' os' ≡ lent (take (length ss) planned) (map (named_item ns 0) pool) (map (named_item ws 0) pool) (map (named_item os 0) pool)
written_back ns ws os ss pool W po planned pool₁ W₁ po₁ ns' ws' os' ss' ls ln lw lo l_w lp e₁ e₂ e₃ en ew eo es =
    let n : ns' ≡ map (named_item ns 0) pool = back ns pool pool₁ ns ns' refl ln e₁ en in
    let w : ws' ≡ map (named_item ws 0) pool = back ws W W₁ ws ws' l_w lw e₂ ew in
    let o : os' ≡ map (named_item os 0) pool = back os po po₁ os os' lp lo e₃ eo in
    let s : ss' ≡ take (length ss) planned
    = es ∙ paste_written ss 0 planned (length ss) ls ∙ written-whole (take (length ss) planned) ss (length-take-le (length ss) planned ls) in
    rw (n, w, o, s)
  where
    back : (l d d₁ e e' : List ℕ) → length d ≡ length pool → length e ≡ length pool → d₁ ≡ paste d 0 (map (named_item l 0) (drop 0 pool)) (length pool) → e' ≡ paste e 0 (drop 0 d₁) (length pool)
        → e' ≡ map (named_item l 0) pool
    back l d d₁ e e' ld le h k =
        let fetched : d₁ ≡ map (named_item l 0) pool = h ∙ pasted_whole d (map (named_item l 0) pool) (length pool) ld (length-map pool (named_item l 0)) in
        k ∙ rw fetched (pasted_whole e (map (named_item l 0) pool) (length pool) le (length-map pool (named_item l 0)))

-- All pages applied: nothing of the file stays.
pub applied-whole : (places M : ℕ) (pool planned ss ns ws os : List ℕ) → length pool ≡ M * places → M ≤ length planned → Sized places M (lent ss ns ws os)
    → lent (take (length ss) planned) (map (named_item ns 0) pool) (map (named_item ws 0) pool) (map (named_item os 0) pool) ≡ applied places 0 M 0 0 0 pool planned (lent ss ns ws os)
unfolding applied
applied-whole places M pool planned ss ns ws os lp ld z =
    λ i. record {
      separators = sep i;
      numbers = sym (items ns ns z.of_numbers) i;
      words = sym (items ws ws z.of_words_lem) i;
      owners = sym (items os os z.of_owners) i;
    }
  where
    sep : take (length ss) planned ≡ Rattle.buffers.specs.Lists.written 0 (take M planned) ss
    sep = ap (λ (n : ℕ). take n planned) z.of_separators ∙ sym (written-whole (take M planned) ss (length-take-le M planned ld ∙ sym z.of_separators))

    all-pages : stretch places 0 M pool ≡ pool
    all-pages = rw (zero-mul places) (take_all (M * places) pool (omega arith))

    items : (l d : List ℕ) → length d ≡ M * places → Rattle.buffers.specs.Lists.written (0 * places) (map (named_item l 0) (stretch places 0 M pool)) d ≡ map (named_item l 0) pool
    items l d e =
        ap (λ (n : ℕ). Rattle.buffers.specs.Lists.written n (map (named_item l 0) (stretch places 0 M pool)) d) (zero-mul places)
        ∙ ap (λ (s : List ℕ). Rattle.buffers.specs.Lists.written 0 (map (named_item l 0) s) d) all-pages
        ∙ written-whole (map (named_item l 0) pool) d (length-map pool (named_item l 0) ∙ lp ∙ sym e)

-- all pages replaced are the whole file
all_laid : (H : Hash) (M : ℕ) (f : File) (w : List Star) → Sized H.room M f → replaced H.room f 0 (pages H 0 M w) ≡ laid H.room H M w
unfolding replaced laid file_of
all_laid H M f w z =
    λ i. record {
      separators = written-whole (separators cs) f.separators (length-separators cs ∙ length-pages H 0 M w ∙ sym z.of_separators) i;
      numbers = whole (λ (s : Star). s.number) f.numbers z.of_numbers i;
      words = whole (λ (s : Star). s.payload.word) f.words z.of_words_lem i;
      owners = whole (λ (s : Star). s.payload.owner) f.owners z.of_owners i;
    }
  where
    cs : List Contents
    cs = pages H 0 M w

    whole : (h : Star → ℕ) (d : List ℕ) → length d ≡ M * H.room → Rattle.buffers.specs.Lists.written (0 * H.room) (column H.room h cs) d ≡ column H.room h cs
    whole h d e =
        ap (λ (n : ℕ). Rattle.buffers.specs.Lists.written n (column H.room h cs) d) (zero-mul H.room)
        ∙ written-whole (column H.room h cs) d (length-column H.room h cs (roomy-pages H 0 M w) ∙ ap (λ (n : ℕ). n * H.room) (length-pages H 0 M w) ∙ sym e)

-- What mending makes of a file past refusals 1 and 2.
module _ (p : Parameters) (g : Growth) (f : File) (pool : Pool) (a : Admitted p g f) where
  abbrev H : Hash
  H = hash_of p g

  abbrev hs : List ℕ
  hs = homes_of p g f.numbers

  pub mend_invalid : valid_items f.numbers f.words f.owners ≡ false → Stores (mend_on p g f pool) (placed (Refused BadContents 0)) f
  unfolding mend_on mendable placed refused_by
  mend_invalid e = rw e (record { answers = refl; files = refl })

  module _ (v : valid_items f.numbers f.words f.owners ≡ true) where
    some-pages : 0 < p.pages
    some-pages =
        let state = growth_within p g a.homing.growth in
        omega (arith, state.pages_fit, (spread p g (limits p a.homing.valid) state).pages_low)

    homes-long : length hs ≡ p.pages * p.places
    unfolding homes_of
    homes-long = length-map f.numbers (home_in p g) ∙ a.sized.of_numbers

    numbers_below : all_below (2 ^ 31) (stretch p.places 0 p.pages f.numbers) ≡ true
    numbers_below =
        all-below (2 ^ 31) (stretch p.places 0 p.pages f.numbers)
        (λ i h. rw (item i (long i h)) (numbers_small f.numbers f.words f.owners v (0 * p.places + i) (inside i (long i h))))
      where
        size : length (stretch p.places 0 p.pages f.numbers) ≡ p.pages * p.places
        size = length-stretch p.places 0 p.pages f.numbers (omega (arith, a.sized.of_numbers, zero-add p.pages, ap (λ (n : ℕ). n * p.places) (zero-add p.pages)))

        long : (i : ℕ) → i < length (stretch p.places 0 p.pages f.numbers) → i < p.pages * p.places
        long i h = omega (arith, size)

        item : (i : ℕ) → i < p.pages * p.places → get_or (stretch p.places 0 p.pages f.numbers) i 0 ≡ get_or f.numbers (0 * p.places + i) 0
        item i h = get_or-take (p.pages * p.places) (drop (0 * p.places) f.numbers) i 0 h ∙ get_or-drop (0 * p.places) f.numbers i 0

        inside : (i : ℕ) → i < p.pages * p.places → 0 * p.places + i < length f.numbers
        inside i h = omega (arith, zero-mul p.places, a.sized.of_numbers)

    true_homes : stretch p.places 0 p.pages hs ≡ map (item_home H) (stretch p.places 0 p.pages f.numbers)
    true_homes =
        ap (stretch p.places 0 p.pages) (homes-real p g f.numbers)
        ∙ ap (take (p.pages * p.places)) (map-drop (item_home H) (0 * p.places) f.numbers)
        ∙ map-take (item_home H) (p.pages * p.places) (drop (0 * p.places) f.numbers)

    home-inside : (x : ℕ) → item_home H x < 0 + p.pages
    unfolding item_home
    home-inside x = go (eqb x 0)
      where
        go : (t : Bool) → cond t 0 ((hash_of p g).home x) < 0 + p.pages
        go true = omega (arith, some-pages)
        go false = omega (arith, homed-real p g a.homing.valid a.homing.growth x)

    homes-below : all_below (0 + p.pages) (stretch p.places 0 p.pages hs) ≡ true
    unfolding item_home
    homes-below =
        let ns : List ℕ = stretch p.places 0 p.pages f.numbers in
        rw true_homes
        (all-below (0 + p.pages) (map (item_home H) ns)
        (λ i h. rw (get_or-map (item_home H) ns i 0) (home-inside (get_or ns i 0))))

    pub collectable : (W ends : List ℕ) → length W ≡ p.pages * p.places → length ends ≡ 1024 → Collectable p f.numbers hs W ends
    collectable W ends ew ee =
        record {
          valid = a.homing.valid;
          some = some-pages;
          of_numbers = a.sized.of_numbers;
          of_homes = homes-long;
          of_words_lem = ew;
          of_ends = ee;
          numbered = numbers_below;
          within = homes-below;
        }

    ready : Gatherable H p.places 0 p.pages f hs
    ready = ready-stretch p f a.homing.valid a.sized 0 p.pages (omega arith) some-pages hs homes-long numbers_below homes-below H true_homes

    abbrev F : List ℕ
    F = firsts_after 0 (file_words p f.numbers hs)

    abbrev W : List Star
    W = distinct (all_stars p f)

    module _ (waiting ends : List ℕ) (r : Collected) (C : Collects p f.numbers f.words f.owners hs waiting ends r) where
      agreed : r.alike ≡ agreeing (all_stars p f)
      agreed = C.alike_is ∙ agreement H p (probes-real p g) f hs ready

      pub mend_differs : r.alike ≡ false → Stores (mend_on p g f pool) (placed (Refused BadContents 0)) f
      unfolding mend_on mendable placed refused_by
      mend_differs e = rw (v, sym agreed ∙ e) (record { answers = refl; files = refl })

      module _ (t : r.alike ≡ true) where
        pub kept-sourced : sourced f.numbers 0 (take r.end waiting) ≡ true
        kept-sourced = rw (C.words t) (firsts_sourced H p (probes-real p g) f hs ready)

        home_below : (w : ℕ) → ltb (group_of 0 w) p.pages ≡ true → ltb (home_of w) p.pages ≡ true
        home_below w h = lt-ltb (home_of w) p.pages (unfold group_of in omega (arith, ltb-true (group_of 0 w) p.pages h))

        pub kept-groups : length waiting ≤ 32768 → length ends ≡ 1024 → InGroups p.pages r.end waiting ends
        kept-groups few long =
            record {
              inside = C.inside;
              few = few;
              long = omega (arith, (limits p a.homing.valid).pages_most);
              words = rw (C.words t) (ordered-groups p.pages F (firsts_rising H p (probes-real p g) f hs ready)
                  (all-mono (λ w. ltb (group_of 0 w) p.pages) (λ w. ltb (home_of w) p.pages) F (λ w h. home_below w h) (firsts_grouped H p (probes-real p g) f hs ready)));
              ends_are = C.ends_are t;
            }

        placing : (map (mapped (renamed f.words f.owners 0 0)) (plans p 0 0 p.pages [] F) ≡ pages H 0 p.pages W)
            × (map (renamed f.words f.owners 0 0) (waits (remains p 0 0 p.pages [] F)) ≡ left H 0 p.pages W)
        placing =
            let k : map (renamed f.words f.owners 0 0) (waits F) ≡ W = distinct-words H p (probes-real p g) f hs ready (sym C.alike_is ∙ t) in
            let b = planned-pages H p (probes-real p g) 0 p.pages [] F (unfold homed all in refl) (unfold all in refl) (firsts_homed H p (probes-real p g) f hs ready) (firsts_grouped H p (probes-real p g) f hs ready) in
            let u : Star → Star = renamed f.words f.owners 0 0 in (
              ap (map (mapped u)) b.0 ∙ sym (pages-map u (renamed_keeps f.words f.owners 0 0) H 0 p.pages (waits F)) ∙ ap (pages H 0 p.pages) k,
              ap (map u) b.1 ∙ sym (left-map u (renamed_keeps f.words f.owners 0 0) H 0 p.pages (waits F)) ∙ ap (left H 0 p.pages) k,
            )

        fit_is : words_fit p F ≡ is_empty (left H 0 p.pages W)
        unfolding words_fit
        fit_is =
            ap (λ (m : ℕ). eqb m 0) (sym (left-count (renamed f.words f.owners 0 0) (remains p 0 0 p.pages [] F) (left H 0 p.pages W) placing.1))
            ∙ none_left (left H 0 p.pages W)

        placed-is : words_placed p f F ≡ cond (is_empty (left H 0 p.pages W)) (laid p.places H p.pages W) f
        unfolding words_placed hash_of
        placed-is = rw (fit_is, placing.0, all_laid H p.pages f W a.sized)

        pub mend_over : false ≡ words_fit p (take r.end waiting) → (f' : File) → f' ≡ words_placed p f (take r.end waiting) → Stores (mend_on p g f pool) (placed (Refused Full 0)) f'
        unfolding mend_on mendable placed refused_by
        mend_over e f' d =
            let past : is_empty (left H 0 p.pages W) ≡ false = sym (fit_is) ∙ ap (words_fit p) (sym (C.words t)) ∙ sym e in
            rw (v, sym agreed ∙ t, past)
            (record { answers = refl; files = d ∙ ap (words_placed p f) (C.words t) ∙ placed-is ∙ rw past })

        pub mend_done : true ≡ words_fit p (take r.end waiting) → (f' : File) → f' ≡ words_placed p f (take r.end waiting) → Stores (mend_on p g f pool) (placed (On 0 0)) f'
        unfolding mend_on mendable placed
        mend_done e f' d =
            let past : is_empty (left H 0 p.pages W) ≡ true = sym (fit_is) ∙ ap (words_fit p) (sym (C.words t)) ∙ sym e in
            rw (v, sym agreed ∙ t, past)
            (record { answers = refl; files = d ∙ ap (words_placed p f) (C.words t) ∙ placed-is ∙ rw past })

-- mending leaves the pool that it is told of
pub mended_pool : (p : Parameters) (g : Growth) (f : File) (pool : Pool) → (mend_on p g f pool).pool ≡ pool
unfolding mend_on
mended_pool p g f pool = go (mendable p f) (is_empty (left (hash_of p g) 0 p.pages (distinct (all_stars p f))))
  where
    go : (t u : Bool)
        → (cond t
        (cond u
        (record { answer = accepted 0; growth = g; file = laid p.places (hash_of p g) p.pages (distinct (all_stars p f)); pool = pool })
        (unchanged g f pool (refused 8 0)))
        (unchanged g f pool (refused 15 0))).pool ≡ pool
    go true true = refl
    go true false = refl
    go false u = refl
