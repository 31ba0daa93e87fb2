-- The plan of a table's rows is the rule over their stars.
use mathlib.Core.Path.{◌≡◌, refl, sym, ap, ◌∙◌}
use mathlib.Core.Bool.{Bool, true, false, not, cond, ◌&&◌, ◌||◌, false≢true}
use mathlib.Core.List.Memᴰ
use mathlib.Core.List.{List, [], ◌∷◌, ◌++◌, map, append-nil, Memᴰ}
use mathlib.Core.Logic.{⊎_elim}
use Prim.Native.Nat.{ℕ, zero, suc, ◌+◌, ◌*◌, ◌/◌, ◌%◌, ◌^◌, ◌≤◌, ◌<◌}
use native.Mathlib.Nat.{zero-add, zero-mul, mul-one}
use native.Mathlib.Omega.{arith}
use lib.Dec.{ltb, eqb}
use lib.ListN.{length, get_or, take, drop, replicate, length-map, length-replicate, drop_of_length-le}
use lib.Seq.{take_all, paste, slice}
use borrow.Author.Tests.{ltb-true, lt-ltb, ne_eqb}
use Rattle.pages.proofs.Numbers.{number-range}
use Rattle.buffers.proofs.Lists.{map-item}
use Rattle.buffers.specs.Lists.{written}
use Rattle.buffers.proofs.Tests.{and-true}
use Rattle.hashing.specs.declared.Geometry.{Geometry}
use Rattle.hashing.specs.declared.Parameters.{Parameters}
use Rattle.hashing.specs.Limits.{valid_parameters, valid_growth}
use Rattle.pages.specs.Shape.{stretch}
use Rattle.pages.specs.Position.{valid_number, valid_position, valid_word, packed}
use Rattle.pages.proofs.Words.{pack-valid}
use Rattle.placement.specs.Rule.{Star, Hash, Contents, pages, left, keep, filter, without, star_with, separators, pour}
use Rattle.placement.specs.File.{File, stars_of, gathered, column, replaced}
use Rattle.placement.specs.Hash.{hash_of, lent}
use Rattle.placement.specs.Shape.{home_under}
use Rattle.placement.proofs.Composition.{length-pages}
use Rattle.placement.proofs.Files.{roomy-pages}
use Rattle.placement.proofs.Filters.{filter-all-on}
use Rattle.placement.proofs.Mapping.{mapped, pages-map, left-map}
use Rattle.placement.proofs.Order.{Rising, Sorted, rising-sorted, pour-nil}
use Rattle.placement.proofs.Probing.{homed-real}
use Rattle.placement.proofs.Writing.{length-column}
use Rattle.reach.specs.Reach.{is_empty}
use Rattle.page_separator.specs.Lists.{all, all_below}
use Rattle.page_separator.specs.Words.{pack}
use Rattle.page_separator.proofs.Lists.{all-items}
use Rattle.page_plan.specs.Gather.{skipped, words_from, groups_below, grouped, Scattered}
use Rattle.page_plan.specs.Keys.{star_key_lem, key_words, Keyed}
use Rattle.page_plan.specs.Sources.{named_item, renamed, sourced, numbered, star_word}
use Rattle.page_plan.specs.Plans.{waits, homed, plans, remains, Started, Planned, AllPlaced}
use Rattle.page_plan.proofs.Numbered.{stars-gathered, keys_small}
use Rattle.page_plan.proofs.Stretch.{started, stands, started-again, planned-again}
use Rattle.page_plan.proofs.Blocks.{plans-grouped}
use Rattle.page_plan.proofs.Applying.{renamed_keeps, applied}
use Rattle.page_plan.proofs.Placed.{probes-real, planned-pages, Layout, layout, applied-layout, left-count}
use Rattle.page_plan.proofs.Sourcing.{item_home, words-homed, words-grouped, words-sourced, gathered-stretch, true_stars}
use Rattle.fits_table.specs.declared.rows.Row.{Row}
use Rattle.fits_table.specs.declared.rows.Row.TheVariants.{Star as Row-as-Star, Wrong}
use Rattle.fits_table.specs.Rows.{from32, position_at, row_answer, row_at, good_after, good_rows, rows_read}
use Rattle.fits_table.specs.Shape.{RowsUp}
use Rattle.fits_table.proofs.Reading.{length-read}
use Rattle.fits_pages.specs.Columns.{numbers_read, words_read, homes_read, keys_from, row_keys, PlansRows}
use Rattle.fits_pages.specs.Placed.{row_stars}
use Rattle.fits_pages.proofs.ReadColumns.{numbers_long, words_long}
use Rattle.fits_pages.proofs.RowKeys.{homes-long, row_keys_long, rows-keyed}

-- good rows rise and are valid
pub good-up : (l : List ℕ) (n last at : ℕ) → good_rows last l at n ≡ true → RowsUp last (rows_read l at n)
unfolding good_rows row_at rows_read
good-up l zero last at g = tt
good-up l (suc n) last at g =
    go (ltb last (from32 l at) && (valid_number (from32 l at) && valid_position (position_at l at))) refl g (λ e. good-up l n (from32 l at) (at + 12) e)
  where
    go : (t : Bool) → ltb last (from32 l at) && (valid_number (from32 l at) && valid_position (position_at l at)) ≡ t
        → good_after (row_answer t (from32 l at) (packed (position_at l at))) (λ (k : ℕ). good_rows k l (at + 12) n) ≡ true
        → (good_rows (from32 l at) l (at + 12) n ≡ true → RowsUp (from32 l at) (rows_read l (at + 12) n))
        → RowsUp last ((from32 l at, packed (position_at l at)) ∷ rows_read l (at + 12) n)
    go false t e ih = absurd (false≢true e)
    go true t e ih =
        let p = and-true (ltb last (from32 l at)) (valid_number (from32 l at) && valid_position (position_at l at)) t in
        let q = and-true (valid_number (from32 l at)) (valid_position (position_at l at)) p.1 in
        (ltb-true last (from32 l at) p.0, (q.0, (pack-valid (position_at l at) q.1, ih e)))

-- Rows that rise

row_range : (rs : List (ℕ × ℕ)) (last i : ℕ) → RowsUp last rs → i < length rs
    → (1 ≤ get_or (map (λ (r : ℕ × ℕ). r.0) rs) i 0) × (get_or (map (λ (r : ℕ × ℕ). r.0) rs) i 0 ≤ 2147483646)
row_range [] last i u h = absurd (omega arith)
row_range (r ∷ rs) last zero u h = number-range r.0 u.1.0
row_range (r ∷ rs) last (suc i) u h = row_range rs r.0 i u.1.1.1 (omega arith)

rows-rising : (last : ℕ) (rs : List (ℕ × ℕ)) → RowsUp last rs → Rising (suc last) (map (λ (r : ℕ × ℕ). star_with r.0 r.1 0) rs)
rows-rising last [] u = tt
rows-rising last (r ∷ rs) u = (u.0, rows-rising r.0 rs u.1.1.1)

rows-numbered : (last : ℕ) (rs : List (ℕ × ℕ)) → RowsUp last rs → (s : Star) → Memᴰ s (map (λ (r : ℕ × ℕ). star_with r.0 r.1 0) rs) → s.number ≡ 0 → ⊥
rows-numbered last [] u s m e = Memᴰ.not-nil m
rows-numbered last (r ∷ rs) u s m e =
    ⊎_elim
    (λ (k : s ≡ star_with r.0 r.1 0). let z : s.number ≡ r.0 = ap (λ (x : Star). x.number) k in omega (arith, number-range r.0 u.1.0))
    (λ (k : Memᴰ s (map (λ (r : ℕ × ℕ). star_with r.0 r.1 0) rs)). rows-numbered r.0 rs u.1.1.1 s k e)
    (Memᴰ.cases_cons m)

-- the stars of the columns
column-stars : (last : ℕ) (rs : List (ℕ × ℕ)) → RowsUp last rs
    → stars_of (map (λ (r : ℕ × ℕ). r.0) rs) (map (λ (r : ℕ × ℕ). r.1) rs) (replicate (length rs) 0) ≡ map (λ (r : ℕ × ℕ). star_with r.0 r.1 0) rs
unfolding stars_of
column-stars last [] u = refl
column-stars last (r ∷ rs) u =
    rw (ne_eqb r.0 0 (λ e. omega (arith, number-range r.0 u.1.0))) (ap (λ (l : List Star). star_with r.0 r.1 0 ∷ l) (column-stars r.0 rs u.1.1.1))

-- the words of keys are those of the columns' items
key-words : (N : List ℕ) (at : ℕ) (ns hs : List ℕ) → length hs ≡ length ns → at + length ns < 2 ^ 16 → ((i : ℕ) → i < length ns → get_or N (at + i) 0 ≡ get_or ns i 0)
    → ((i : ℕ) → i < length ns → get_or ns i 0 ≡ 0 → ⊥) → map (star_word N) (keys_from at hs) ≡ words_from at 0 ns hs
unfolding keys_from words_from star_word star_key_lem named_item skipped
key-words N at [] [] l few is some = refl
key-words N at [] (h ∷ hs) l few is some = absurd (omega arith)
key-words N at (n ∷ ns) [] l few is some = absurd (omega arith)
key-words N at (n ∷ ns) (h ∷ hs) l few is some =
    rw (left_in)
    (ap (λ (x : ℕ). x ∷ map (star_word N) (keys_from (suc at) hs)) here
    ∙ ap (λ (x : List ℕ). pack h n (suc at) ∷ x)
    (key-words N (suc at) ns hs (omega arith) (omega arith) (λ i a. next i a) (λ i a. some (suc i) (omega arith))))
  where
    next : (i : ℕ) → i < length ns → get_or N (suc at + i) 0 ≡ get_or ns i 0
    next i a = let e : suc at + i ≡ at + suc i = omega arith in ap (λ (k : ℕ). get_or N k 0) e ∙ is (suc i) (omega arith)

    left_in : skipped 0 n ≡ false
    left_in = rw (ne_eqb n 0 (some 0 (omega arith)))

    here : star_word N (star_key_lem h (suc at)) ≡ pack h n (suc at)
    here =
        let top : (h * 2 ^ 16 + suc at) / 2 ^ 16 ≡ h = omega arith in
        let low : (h * 2 ^ 16 + suc at) % 2 ^ 16 ≡ suc at = omega arith in
        let e : at + 0 ≡ at = omega arith in
        let item : get_or N at 0 ≡ n = ap (λ (k : ℕ). get_or N k 0) (sym e) ∙ is 0 (omega arith) in
        rw (top, low, item)

-- a list over a shorter one
written_over : {A : Type 0} (s d : List A) → length d ≤ length s → written 0 s d ≡ s
unfolding written
written_over s d h = rw (zero-add (length s), drop_of_length-le d {i = length s} h) (append-nil s)

unowned : (n s : ℕ) → named_item (replicate n 0) 0 s ≡ 0
unfolding named_item
unowned n zero = refl
unowned zero (suc s) = refl
unowned (suc n) (suc s) = unowned n s

-- none is left exactly if none is counted
none-counted : (w : List Star) (n : ℕ) → length w ≡ n → eqb n 0 ≡ is_empty w
none-counted [] n e = rw (← e)
none-counted (s ∷ w) n e = ne_eqb n 0 (λ z. omega arith)

one_by_one : (n : ℕ) (l : List ℕ) → length l ≡ n → stretch 1 0 n l ≡ l
one_by_one n l e = rw (mul-one n) (take_all n l (omega arith))

module _ (g : Geometry) (given : List ℕ) (n : ℕ) (valid : valid_parameters g.parameters ≡ true) (growth : valid_growth g.parameters g.growth ≡ true)
    (some : 0 < g.parameters.pages) (few : n ≤ 32768) (good : good_rows 0 given 5760 n ≡ true) where
  abbrev H : Hash
  H = hash_of g.parameters g.growth

  abbrev ns : List ℕ
  ns = numbers_read given n

  abbrev ws : List ℕ
  ws = words_read given n

  abbrev os : List ℕ
  os = replicate n 0

  abbrev hs : List ℕ
  hs = homes_read g given n

  abbrev F : File
  F = lent [] (numbers_read given n) (words_read given n) (replicate n 0)

  abbrev w : List ℕ
  w = words_from 0 0 (numbers_read given n) (homes_read g given n)

  up : RowsUp 0 (rows_read given 5760 n)
  up = good-up given n 0 5760 good

  in_range : (i : ℕ) → i < n → (1 ≤ get_or (numbers_read given n) i 0) × (get_or (numbers_read given n) i 0 ≤ 2147483646)
  in_range i h = row_range (rows_read given 5760 n) 0 i up (omega (arith, length-read given 5760 n))

  pub numbers_below : all_below (2 ^ 31) (numbers_read given n) ≡ true
  numbers_below =
      all-items (λ x. ltb x (2 ^ 31)) (numbers_read given n)
      (λ i h. lt-ltb (get_or (numbers_read given n) i 0) (2 ^ 31) (omega (arith, in_range i (omega (arith, numbers_long given n)))))

  few-items : 0 + length (numbers_read given n) < 2 ^ 16
  few-items = omega (arith, numbers_long given n)

  -- the gathered words
  pub rows_words : map (star_word (numbers_read given n)) (row_keys g given n) ≡ words_from 0 0 (numbers_read given n) (homes_read g given n)
  rows_words =
      key-words (numbers_read given n) 0 (numbers_read given n) (homes_read g given n) (homes-long g given n ∙ sym (numbers_long given n)) few-items
      (λ i a. ap (λ (k : ℕ). get_or (numbers_read given n) k 0) (zero-add i)) (λ i a e. omega (arith, in_range i (omega (arith, numbers_long given n))))

  true_homes : homes_read g given n ≡ map (item_home H) (numbers_read given n)
  unfolding item_home hash_of
  true_homes = go (numbers_read given n) (λ i h. (in_range i (omega (arith, numbers_long given n))).0)
    where
      go : (l : List ℕ) → ((i : ℕ) → i < length l → 1 ≤ get_or l i 0) → map (home_under g) l ≡ map (item_home (hash_of g.parameters g.growth)) l
      go [] t = refl
      go (x ∷ l) t = rw (ne_eqb x 0 (λ e. omega (arith, t 0 (omega arith)))) (ap (λ (y : List ℕ). home_under g x ∷ y) (go l (λ i h. t (suc i) (omega arith))))

  homes-within : all_below (0 + g.parameters.pages) (homes_read g given n) ≡ true
  unfolding hash_of
  homes-within =
      all-items (λ x. ltb x (0 + g.parameters.pages)) (homes_read g given n)
      (λ i h.
      let e : get_or (homes_read g given n) i 0 < g.parameters.pages
      = rw (map-item (home_under g) (numbers_read given n) i (omega (arith, homes-long g given n, numbers_long given n))) (homed-real g.parameters g.growth valid growth (get_or (numbers_read given n) i 0)) in
      lt-ltb (get_or (homes_read g given n) i 0) (0 + g.parameters.pages) (omega arith))

  words-homed-rows : homed H w ≡ true
  words-homed-rows = words-homed 0 0 (numbers_read given n) (homes_read g given n) numbers_below few-items H true_homes

  words-in-groups : groups_below 0 g.parameters.pages w ≡ true
  words-in-groups = words-grouped 0 0 (numbers_read given n) (homes_read g given n) numbers_below few-items 0 g.parameters.pages some homes-within

  words-named : sourced (numbers_read given n) 0 w ≡ true
  unfolding named_item
  words-named = words-sourced 0 0 (numbers_read given n) (homes_read g given n) numbers_below few-items (numbers_read given n) 0 (λ i a. ap (λ (k : ℕ). get_or (numbers_read given n) k 0) (zero-add i))

  -- the stars that the words name
  stars_are : map (renamed (words_read given n) (replicate n 0) 0 0) (waits w) ≡ row_stars given n
  unfolding without
  stars_are =
      rw (one_by_one n (numbers_read given n) (numbers_long given n), one_by_one n (homes_read g given n) (homes-long g given n)) at
      (true_stars 1 0 n 0 0 0 F (homes_read g given n) (rw (one_by_one n (numbers_read given n) (numbers_long given n)) numbers_below)
      (omega (arith, mul-one (0 + n))) (omega (arith, mul-one (0 + n), numbers_long given n)) (omega (arith, mul-one (0 + n), words_long given n))
      (omega (arith, mul-one (0 + n), length-replicate {A = ℕ} n 0)) (omega (arith, mul-one (0 + n), homes-long g given n)))
      ∙ ap (filter (λ (s : Star). not (eqb s.number 0))) all-stars
      ∙ filter-all-on (λ (s : Star). not (eqb s.number 0)) (row_stars given n)
      (λ s m. ap not (ne_eqb s.number 0 (rows-numbered 0 (rows_read given 5760 n) up s m)))
    where
      all-stars : gathered 1 F 0 n ≡ row_stars given n
      all-stars =
          gathered-stretch 1 F 0 n (omega (arith, mul-one (0 + n), numbers_long given n)) (omega (arith, mul-one (0 + n), words_long given n))
          (omega (arith, mul-one (0 + n), length-replicate {A = ℕ} n 0))
          ∙ rw (one_by_one n (numbers_read given n) (numbers_long given n), one_by_one n (words_read given n) (words_long given n), one_by_one n (replicate n 0) (length-replicate {A = ℕ} n 0))
          (ap (λ (k : ℕ). pour (stars_of (numbers_read given n) (words_read given n) (replicate k 0)) []) (sym (length-read given 5760 n))
          ∙ ap (λ (l : List Star). pour l []) (column-stars 0 (rows_read given 5760 n) up)
          ∙ pour-nil 1 (row_stars given n) (rising-sorted 1 (row_stars given n) (rows-rising 0 (rows_read given 5760 n) up)))

  abbrev named : Star → Star
  named = renamed (words_read given n) (replicate n 0) 0 0

  both : (plans g.parameters 0 0 g.parameters.pages [] w ≡ pages H 0 g.parameters.pages (waits w))
      × (waits (remains g.parameters 0 0 g.parameters.pages [] w) ≡ left H 0 g.parameters.pages (waits w))
  both =
      planned-pages H g.parameters (probes-real g.parameters g.growth) 0 g.parameters.pages [] w (unfold homed all in refl) (unfold all in refl) words-homed-rows words-in-groups

  new-pages : map (mapped named) (plans g.parameters 0 0 g.parameters.pages [] w) ≡ pages H 0 g.parameters.pages (row_stars given n)
  new-pages =
      ap (map (mapped named)) both.0
      ∙ sym (pages-map named (renamed_keeps (words_read given n) (replicate n 0) 0 0) H 0 g.parameters.pages (waits w))
      ∙ ap (pages H 0 g.parameters.pages) stars_are

  past : map named (waits (remains g.parameters 0 0 g.parameters.pages [] w)) ≡ left H 0 g.parameters.pages (row_stars given n)
  past =
      ap (map named) both.1
      ∙ sym (left-map named (renamed_keeps (words_read given n) (replicate n 0) 0 0) H 0 g.parameters.pages (waits w))
      ∙ ap (left H 0 g.parameters.pages) stars_are

  module _ (pool pool' planned planned' W' : List ℕ) (long : length pool ≡ g.parameters.pages * g.parameters.places) (same : length pool' ≡ length pool)
      (room : g.parameters.pages ≤ length planned) (inside : n ≤ length pool)
      (P : Planned g.parameters 0 g.parameters.pages [] w pool pool' planned planned' W' 0) where
    E : applied g.parameters.places 0 g.parameters.pages 0 0 0 pool' planned' F ≡ replaced g.parameters.places F 0 (pages H 0 g.parameters.pages (row_stars given n))
    E =
        applied-layout g.parameters 0 g.parameters.pages 0 0 0 F [] w pool' planned' W' 0
        (layout g.parameters 0 g.parameters.pages [] w pool pool' planned planned' W' 0 P (omega (arith, long, ap (λ (k : ℕ). k * g.parameters.places) (zero-add g.parameters.pages))) (omega arith))
        (unfold sourced all in refl) words-named
        ∙ ap (replaced g.parameters.places F 0) new-pages

    items : stretch g.parameters.places 0 g.parameters.pages pool' ≡ pool'
    items = rw (zero-mul g.parameters.places) (take_all (g.parameters.pages * g.parameters.places) pool' (omega (arith, same, long)))

    column-of : (l : List ℕ) (h : Star → ℕ) → length l ≡ n
        → written (0 * g.parameters.places) (map (named_item l 0) (stretch g.parameters.places 0 g.parameters.pages pool')) l
        ≡ written (0 * g.parameters.places) (column g.parameters.places h (pages H 0 g.parameters.pages (row_stars given n))) l
        → map (named_item l 0) pool' ≡ column g.parameters.places h (pages H 0 g.parameters.pages (row_stars given n))
    unfolding hash_of
    column-of l h e is =
        let b : ℕ = g.parameters.places in
        let cs : List Contents = pages H 0 g.parameters.pages (row_stars given n) in
        let full : length (column b h cs) ≡ g.parameters.pages * b
        = length-column b h cs (roomy-pages H 0 g.parameters.pages (row_stars given n)) ∙ ap (λ (k : ℕ). k * b) (length-pages H 0 g.parameters.pages (row_stars given n)) in
        sym (written_over (map (named_item l 0) pool') l (omega (arith, length-map pool' (named_item l 0), e, same, inside)))
        ∙ (rw (items, zero-mul g.parameters.places) at is)
        ∙ written_over (column b h cs) l (omega (arith, full, e, inside, long))

    none_owned : (l : List ℕ) → map (named_item (replicate n 0) 0) l ≡ replicate (length l) 0
    none_owned [] = refl
    none_owned (x ∷ l) = rw (unowned n x) (ap (λ (y : List ℕ). 0 ∷ y) (none_owned l))

    rows-planned : true ≡ is_empty (left H 0 g.parameters.pages (row_stars given n)) → PlansRows g given n pool' planned' true
    unfolding applied replaced
    rows-planned none =
        record {
          fits = none;
          numbers = λ _. column-of (numbers_read given n) (λ (s : Star). s.number) (numbers_long given n) (ap (λ (x : File). x.numbers) E);
          words = λ _. column-of (words_read given n) (λ (s : Star). s.payload.word) (words_long given n) (ap (λ (x : File). x.words) E);
          owners =
              λ _. sym (none_owned pool') ∙ column-of (replicate n 0) (λ (s : Star). s.payload.owner) (length-replicate {A = ℕ} n 0) (ap (λ (x : File). x.owners) E);
          planned_are =
              λ _. sym (written_over (take g.parameters.pages planned') [] (omega arith))
              ∙ ap (λ (x : File). x.separators) E
              ∙ written_over (separators (pages H 0 g.parameters.pages (row_stars given n))) [] (omega arith);
        }

  left-none : eqb (length (remains g.parameters 0 0 g.parameters.pages [] w)) 0 ≡ is_empty (left H 0 g.parameters.pages (row_stars given n))
  left-none =
      none-counted (left H 0 g.parameters.pages (row_stars given n)) (length (remains g.parameters 0 0 g.parameters.pages [] w))
      (left-count named (remains g.parameters 0 0 g.parameters.pages [] w) (left H 0 g.parameters.pages (row_stars given n)) past)

  -- the words in their groups
  module _ (keys W₀ W ends : List ℕ) (inside : n ≤ length keys) (front : take n keys ≡ row_keys g given n) (most : g.parameters.pages ≤ 1024)
      (room : n ≤ length W₀) (long : length W ≡ length W₀) (S : Scattered 0 g.parameters.pages 0 (key_words 0 n keys) W₀ W ends) where
    keyed : Keyed g.parameters.pages n keys
    keyed = rows-keyed g given n valid growth few keys some most inside front

    pub words_small : all_below (2 ^ 57) (take n W) ≡ true
    words_small = keys_small (numbers_read given n) numbers_below g.parameters.pages n keys keyed W₀ W ends (omega arith) S

    module _ (W' : List ℕ) (same : length W' ≡ length W) (e : W' ≡ paste W 0 (map (numbered (numbers_read given n)) W) n) where
      scattered : Scattered 0 g.parameters.pages 0 w W₀ W' ends
      scattered =
          rw (front, rows_words) at
          (stars-gathered (numbers_read given n) numbers_below g.parameters.pages n keys keyed W₀ W W' ends (omega arith) S e)

      count : length w ≡ n
      count = sym (ap length rows_words) ∙ length-map (row_keys g given n) (star_word (numbers_read given n)) ∙ row_keys_long g given n

      begun : Started 0 g.parameters.pages 0 w W' ends
      begun = started 0 g.parameters.pages 0 w W₀ W' ends scattered (omega (arith, count)) (same ∙ long)

      groups : slice 0 n W' ≡ grouped 0 0 g.parameters.pages w
      groups =
          let all_of : n ≡ 0 + length w = omega (arith, count) in
          ap (λ (k : ℕ). slice 0 k W') all_of ∙ stands 0 g.parameters.pages 0 w W' ends begun

      pub in_groups_lem : Started 0 g.parameters.pages 0 (slice 0 n W') W' ends
      in_groups_lem = rw groups (started-again 0 g.parameters.pages 0 w W' ends begun)

      pub rows_settled : (pool pool' planned planned' W'' : List ℕ) (r : Bool) → length pool ≡ g.parameters.pages * g.parameters.places → length pool' ≡ length pool
          → g.parameters.pages ≤ length planned → n ≤ length pool
          → AllPlaced g.parameters (slice 0 n W') pool pool' planned planned' W'' r → PlansRows g given n pool' planned' r
      rows_settled pool pool' planned planned' W'' r lp sp rp ip A = go r (rw groups at A)
        where
          fit : (t : Bool) → AllPlaced g.parameters (grouped 0 0 g.parameters.pages w) pool pool' planned planned' W'' t
              → t ≡ is_empty (left H 0 g.parameters.pages (row_stars given n))
          fit t B = B.fits ∙ ap (λ (l : List ℕ). eqb (length l) 0) (plans-grouped g.parameters 0 g.parameters.pages [] w).1 ∙ left-none

          go : (t : Bool) → AllPlaced g.parameters (grouped 0 0 g.parameters.pages w) pool pool' planned planned' W'' t → PlansRows g given n pool' planned' t
          go true B =
              rows-planned pool pool' planned planned' W'' lp sp rp ip
              (planned-again g.parameters 0 g.parameters.pages [] w pool pool' planned planned' W'' 0 (B.plan refl)) (fit true B)
          go false B =
              record {
                fits = fit false B;
                numbers = λ e. absurd (false≢true e);
                words = λ e. absurd (false≢true e);
                owners = λ e. absurd (false≢true e);
                planned_are = λ e. absurd (false≢true e);
              }
