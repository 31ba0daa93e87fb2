-- The survey of a stretch, page after page.
use mathlib.Core.Path.{◌≡◌, refl, sym, ap, ◌∙◌}
use mathlib.Core.Bool.{Bool, true, not}
use mathlib.Core.List.{List, ◌++◌}
use Prim.Native.Nat.{ℕ, suc, ◌+◌, ◌-◌, ◌*◌, ◌≤◌, ◌<◌}
use native.Mathlib.Nat.{zero-mul, mul-le-mul_right, suc-mul, add-mul}
use native.Mathlib.Numerals.{add-one}
use native.Mathlib.Decide.{dec_lt}
use native.Mathlib.Omega.{arith}
use lib.ListN.{length, take, drop, length-append, length-drop, length-map, take-append-drop}
use lib.Seq.{paste, paste-zero, drop-paste, take-take, drop-drop, length-take-le}
use Rattle.buffers.specs.Lists.{written}
use Rattle.buffers.proofs.Lists.{map-take, map-drop}
use Rattle.buffers.proofs.Written.{all-written, taken-written}
use Rattle.hashing.specs.declared.Parameters.{Parameters}
use Rattle.hashing.specs.declared.Growth.{Growth}
use Rattle.hashing.specs.declared.Geometry.{Geometry}
use Rattle.pages.specs.Page.{part}
use Rattle.pages.proofs.Parts.{page-fits, part_length, part-front, part-back}
use Rattle.placement.specs.File.{File}
use Rattle.placement.specs.Shape.{Sized}
use Rattle.placement.specs.Hash.{sound_at}
use Rattle.placement.specs.Shape.{homes_of, home_in}
use Rattle.soundness.specs.Stretch.{Lowest}
use Rattle.soundness.proofs.Pastes.{homes-next}
use Rattle.soundness.proofs.Lent.{Passed, ahead as items-ahead}
use Rattle.reach.specs.Known.{Known}
use Rattle.reach.specs.Reach.{first_unsound_lem, first_such}
use Rattle.reach.specs.Shape.{homes_kept}
use Rattle.reach.proofs.Search.{Sought, sought-none, sought-next, sought-found, sought-all, sought-passed}
use Rattle.reach.proofs.Pastes.{paste_more, paste_same}

-- the page is unsound
abbrev pub unsound : Parameters → Growth → File → ℕ → Bool
unsound p g f q = not (sound_at p g f q)

-- the homes of the items from a page on
abbrev pub homes_from : Parameters → Growth → File → ℕ → List ℕ
homes_from p g f from = homes_of p g (drop (from * p.places) f.numbers)

-- the pages from `from` up to the one before `page` are sound, and their homes are kept
pub record Surveyed (p : Parameters) (g : Growth) (f : File) (before : List ℕ) (from n : ℕ) (homes : List ℕ) (page : ℕ) : Type 0 where
  pub sought : Sought (unsound p g f) from n page
  pub long : length homes ≡ length before
  pub kept : homes ≡ paste before (from * p.places) (homes_from p g f from) ((page - from) * p.places)

pub surveyed-none : (p : Parameters) (g : Growth) (f : File) (before : List ℕ) (from n : ℕ) → Surveyed p g f before from n before from
surveyed-none p g f before from n =
    record {
      sought = sought-none (unsound p g f) from n;
      long = refl;
      kept =
          let none : (from - from) * p.places ≡ 0 = ap (λ (k : ℕ). k * p.places) (omega arith) ∙ zero-mul p.places in
          rw none (paste-zero before (from * p.places) (homes_from p g f from));
    }

module _ (p : Parameters) (g : Growth) (f : File) (before : List ℕ) (from n : ℕ) (homes : List ℕ) (page : ℕ)
    (s : Surveyed p g f before from n homes page) (sized : Sized p.places p.pages f) (fits : length before ≡ p.pages * p.places)
    (inside : page < from + n) (bound : from + n ≤ p.pages) where
  ahead : from * p.places + (page - from) * p.places ≡ page * p.places
  ahead =
      let e : from + (page - from) ≡ page = omega (arith, s.sought.low) in
      sym (add-mul from (page - from) p.places) ∙ ap (λ (k : ℕ). k * p.places) e

  more : (page - from) * p.places + p.places ≡ (page + 1 - from) * p.places
  more =
      let e : page + 1 - from ≡ suc (page - from) = omega (arith, s.sought.low) in
      sym (rw e (suc-mul (page - from) p.places))

  within : page * p.places + p.places ≤ p.pages * p.places
  within = omega (arith, suc-mul page p.places, mul-le-mul_right {m = suc page} {n = p.pages} p.places (omega arith))

  page-homes : take p.places (homes_of p g (part p.places page f.numbers))
      ≡ take p.places (drop ((page - from) * p.places) (homes_from p g f from))
  unfolding homes_of part
  page-homes =
      rw (map-take (home_in p g) p.places (take p.places (drop (page * p.places) f.numbers)))
      (rw (take-take p.places p.places (drop (page * p.places) f.numbers) (omega arith))
      (rw (map-drop (home_in p g) ((page - from) * p.places) (drop (from * p.places) f.numbers))
      (rw (drop-drop ((page - from) * p.places) (from * p.places) f.numbers, ahead)
      (sym (map-take (home_in p g) p.places (drop (page * p.places) f.numbers))))))

  long-enough : (page - from) * p.places ≤ length (homes_from p g f from)
  unfolding homes_of
  long-enough =
      rw (length-map (drop (from * p.places) f.numbers) (home_in p g), length-drop (from * p.places) f.numbers)
      (omega (arith, ahead, within, sized.of_numbers))

  -- the homes from this page on are as they were
  unread : drop (page * p.places) homes ≡ drop (page * p.places) before
  unread =
      ap (drop (page * p.places)) s.kept
      ∙ rw (← ahead) (drop-paste before (from * p.places) (homes_from p g f from) ((page - from) * p.places) (omega (arith, ahead, within)) long-enough)

  pub still-known : Known p g f before page → Known p g f homes page
  unfolding part
  still-known k = record { sound = k.sound; kept = λ h. ap (take p.places) unread ∙ k.kept h }

  pub surveyed-next : (after : List ℕ) → sound_at p g f page ≡ true
      → after ≡ paste homes (page * p.places) (homes_of p g (part p.places page f.numbers)) p.places
      → length after ≡ length homes
      → Surveyed p g f before from n after (page + 1)
  unfolding homes_of
  surveyed-next after e h l =
      record {
        sought = rw (add-one page) (sought-next (unsound p g f) from n page s.sought inside (ap not e));
        long = l ∙ s.long;
        kept =
            h
            ∙ (rw (s.kept, ← ahead)
            (paste_more before (from * p.places) (homes_from p g f from) ((page - from) * p.places) (homes_of p g (part p.places page f.numbers)) p.places (omega (arith, ahead, within)) long-enough page-homes
            ∙ rw more));
      }

-- the items of a stretch are among the file's
pub stretch-fits : (b pages from stop : ℕ) → from ≤ stop → stop ≤ pages → from * b + (stop - from) * b ≤ pages * b
stretch-fits b pages from stop h k = omega (arith, items-ahead b from stop h, mul-le-mul_right {m = stop} {n = pages} b k)

-- what a search for an unsound page has done when it ends
module _ (p : Parameters) (g : Growth) (f : File) (from stop r : ℕ) (l : Lowest (sound_at p g f) from stop r) where
  pub lowest_sought : (n : ℕ) → r ≤ from + n → Sought (unsound p g f) from n r
  lowest_sought n h =
      let e : from + (r - from) ≡ r = omega (arith, l.low) in
      rw e at (sought-passed (unsound p g f) from n (r - from) (omega (arith, l.low)) (λ q a b. ap not (l.passed q a (omega (arith, e)))))

  pub lowest_first_lem : (n : ℕ) → from + n ≡ stop → r ≡ first_unsound_lem p g f from n
  unfolding first_unsound_lem
  lowest_first_lem n e = go (dec_lt r stop)
    where
      go : Dec (r < stop) → r ≡ first_such (unsound p g f) from n
      go (yes h) = sought-found (unsound p g f) from n r (lowest_sought n (omega arith)) (omega arith) (ap not (l.failed h))
      go (no h) = sought-all (unsound p g f) from n r (lowest_sought n (omega (arith, l.high))) (omega arith)

  -- an unsound page found in a part of the stretch
  pub lowest_wider : (end : ℕ) → r < stop → stop ≤ end → Lowest (sound_at p g f) from end r
  lowest_wider end h k = record { low = l.low; high = omega arith; passed = l.passed; failed = λ _. l.failed h }

-- a stretch is passed whole
pub passed_on : {test : ℕ → Bool} {from end page stop r : ℕ} → Passed test from end page → Lowest test page stop r → stop ≤ r → stop ≤ end → Passed test from end stop
passed_on {test} {from} {end} {page} {stop} {r} done l h k =
    record { low = omega (arith, done.low, l.low, l.high); high = k; passed = λ q a b. go q a b (dec_lt q page) }
  where
    go : (q : ℕ) → from ≤ q → q < stop → Dec (q < page) → test q ≡ true
    go q a b (yes d) = done.passed q a d
    go q a b (no d) = l.passed q (omega arith) (omega arith)

-- a stretch is sound up to a page that is known, and searched on behind it
pub lowest_around : (p : Parameters) (g : Growth) (f : File) (from known stop r s : ℕ) → Lowest (sound_at p g f) from known r → known ≤ r → sound_at p g f known ≡ true
    → Lowest (sound_at p g f) (known + 1) stop s → Lowest (sound_at p g f) from stop s
lowest_around p g f from known stop r s front h k back =
    record { low = omega (arith, front.low, front.high, back.low); high = back.high; passed = λ q a b. go q a b (dec_lt q known) (dec_lt known q); failed = back.failed }
  where
    here : (q : ℕ) → q ≡ known → sound_at p g f q ≡ true
    here q e = rw e k

    go : (q : ℕ) → from ≤ q → q < s → Dec (q < known) → Dec (known < q) → sound_at p g f q ≡ true
    go q a b (yes d) e = front.passed q a (omega arith)
    go q a b (no d) (yes e) = back.passed q (omega arith) b
    go q a b (no d) (no e) = here q (omega arith)

homes-long : (p : Parameters) (g : Growth) (ns : List ℕ) → length (homes_of p g ns) ≡ length ns
unfolding homes_of
homes-long p g ns = length-map ns (home_in p g)

-- what was written over a page is there
part-written : (places page : ℕ) (s d : List ℕ) → length s ≡ places → page * places ≤ length d → part places page (written (page * places) s d) ≡ s
unfolding part
part-written places page s d e h = taken-written (page * places) places s d e h

-- the page past the file's is known
pub known-none : (p : Parameters) (g : Growth) (f : File) (homes : List ℕ) (page : ℕ) → p.pages ≤ page → Known p g f homes page
known-none p g f homes page h = record { sound = λ b. absurd (omega arith); kept = λ b. absurd (omega arith) }

-- a survey of a known page changes nothing
pub known-surveyed : (p : Parameters) (g : Growth) (f : File) (homes : List ℕ) (page : ℕ) → page < p.pages → Known p g f homes page
    → homes ≡ paste homes (page * p.places) (homes_of p g (part p.places page f.numbers)) p.places
unfolding part
known-surveyed p g f homes page h k = paste_same homes (page * p.places) _ p.places (k.kept h)

-- a surveyed page is known
pub surveyed-known : (p : Parameters) (g : Growth) (f : File) (before after : List ℕ) (page : ℕ) → Sized p.places p.pages f → length before ≡ p.pages * p.places
    → sound_at p g f page ≡ true → after ≡ paste before (page * p.places) (homes_of p g (part p.places page f.numbers)) p.places
    → Known p g f after page
surveyed-known p g f before after page sized fits sound e = record { sound = λ h. sound; kept = there }
  where
    long : page < p.pages → length (homes_of p g (part p.places page f.numbers)) ≡ p.places
    long h = homes-long p g (part p.places page f.numbers) ∙ part_length p.places page f.numbers (page-fits p.places p.pages page h sized.of_numbers)

    there : page < p.pages → part p.places page after ≡ homes_of p g (part p.places page f.numbers)
    there h =
        ap (part p.places page) (e ∙ all-written before (page * p.places) (homes_of p g (part p.places page f.numbers)) p.places (long h))
        ∙ part-written p.places page (homes_of p g (part p.places page f.numbers)) before (long h) (omega (arith, page-fits p.places p.pages page h fits))

-- each page of a surveyed stretch is known
module _ (p : Parameters) (g : Growth) (f : File) (before : List ℕ) (from stop : ℕ) (sized : Sized p.places p.pages f) (fits : length before ≡ p.pages * p.places) (bound : stop ≤ p.pages) where
  abbrev after : List ℕ
  after = paste before (from * p.places) (homes_from p g f from) ((stop - from) * p.places)

  homes-enough : from ≤ stop → (stop - from) * p.places ≤ length (homes_from p g f from)
  homes-enough h =
      rw (homes-long p g (drop (from * p.places) f.numbers), length-drop (from * p.places) f.numbers, sized.of_numbers)
      (omega (arith, reached h, mul-le-mul_right {m = stop} {n = p.pages} p.places bound))
    where
      reached : from ≤ stop → from * p.places + (stop - from) * p.places ≡ stop * p.places
      reached h =
          let e : from + (stop - from) ≡ stop = omega arith in
          sym (add-mul from (stop - from) p.places) ∙ ap (λ (k : ℕ). k * p.places) e

  homes-part : (j : ℕ) → part p.places j (homes_from p g f from) ≡ homes_of p g (part p.places j (drop (from * p.places) f.numbers))
  unfolding part homes_of
  homes-part j =
      ap (take p.places) (map-drop (home_in p g) (j * p.places) (drop (from * p.places) f.numbers))
      ∙ map-take (home_in p g) p.places (drop (j * p.places) (drop (from * p.places) f.numbers))

  dropped : (j : ℕ) → part p.places j (drop (from * p.places) f.numbers) ≡ part p.places (from + j) f.numbers
  unfolding part
  dropped j =
      ap (take p.places) (drop-drop (j * p.places) (from * p.places) f.numbers ∙ ap (λ (k : ℕ). drop k f.numbers) (sym (add-mul from j p.places)))

  kept-page : (j : ℕ) → from + j < stop → part p.places (from + j) after ≡ homes_of p g (part p.places (from + j) f.numbers)
  kept-page j h =
      part-front p.places (from + j) (take (from * p.places) before ++ take N S) (drop (from * p.places + N) before)
      (rw (length-append (take (from * p.places) before) (take N S), low, all-taken) (omega (arith, mul-le-mul_right {m = suc (from + j)} {n = from + (stop - from)} p.places (omega arith), add-mul from (stop - from) p.places)))
      ∙ part-back p.places from j (take (from * p.places) before) (take N S) low
      ∙ sym (part-front p.places j (take N S) (drop N S) (rw all-taken (mul-le-mul_right {m = suc j} {n = stop - from} p.places (omega arith))))
      ∙ ap (part p.places j) (take-append-drop N S)
      ∙ homes-part j
      ∙ ap (homes_of p g) (dropped j)
    where
      N : ℕ
      N = (stop - from) * p.places

      S : List ℕ
      S = homes_from p g f from

      low : length (take (from * p.places) before) ≡ from * p.places
      low = length-take-le (from * p.places) before (omega (arith, fits, mul-le-mul_right {m = from} {n = p.pages} p.places (omega arith)))

      all-taken : length (take N S) ≡ N
      all-taken = length-take-le N S (homes-enough (omega arith))

  pub surveyed-pages : ((q : ℕ) → from ≤ q → q < stop → sound_at p g f q ≡ true) → (q : ℕ) → from ≤ q → q < stop → Known p g f after q
  surveyed-pages sound q a h =
      let e : from + (q - from) ≡ q = omega arith in
      record {
        sound = λ _. sound q a h;
        kept = λ _. rw e at (kept-page (q - from) (omega arith));
      }

-- the homes up to a known page, then those behind it, are the homes of all
module _ (G : Geometry) (f : File) (from known stop r : ℕ) (entry front exit : List ℕ) where
  abbrev P : Parameters
  P = G.parameters

  abbrev E : Growth
  E = G.growth

  pub homes-around : Sized P.places P.pages f → length entry ≡ P.pages * P.places → from ≤ known → known < stop → stop ≤ P.pages
      → Lowest (sound_at P E f) from known r → known ≤ r → Known P E f entry known → length front ≡ length entry
      → front ≡ homes_kept G from known f.numbers entry → exit ≡ homes_kept G (known + 1) stop f.numbers front
      → exit ≡ homes_kept G from stop f.numbers entry
  homes-around sized fits a b c l h k long e t =
      homes-next G f.numbers entry front exit (from * P.places) (from * P.places) ((known + 1 - from) * P.places) ((stop - (known + 1)) * P.places)
      (omega (arith, fits, mul-le-mul_right {m = from} {n = P.pages} P.places (omega arith)))
      (omega (arith, sized.of_numbers, reached, mul-le-mul_right {m = known + 1} {n = P.pages} P.places (omega arith)))
      upto.kept
      (t ∙ rw (← reached))
      ∙ ap (λ (n : ℕ). paste entry (from * P.places) (homes_from P E f from) n) whole
    where
      same : r ≡ known
      same = omega (arith, l.high)

      here : Surveyed P E f entry from (stop - from) front known
      here = record { sought = rw same at (lowest_sought P E f from known r l (stop - from) (omega (arith, l.high))); long = long; kept = e }

      upto : Surveyed P E f entry from (stop - from) front (known + 1)
      upto =
          surveyed-next P E f entry from (stop - from) front known here sized fits (omega arith) (omega arith) front (k.sound (omega arith))
          (known-surveyed P E f front known (omega arith) (still-known P E f entry from (stop - from) front known here sized fits (omega arith) (omega arith) k)) refl

      reached : from * P.places + (known + 1 - from) * P.places ≡ (known + 1) * P.places
      reached = items-ahead P.places from (known + 1) (omega arith)

      whole : (known + 1 - from) * P.places + (stop - (known + 1)) * P.places ≡ (stop - from) * P.places
      whole =
          let e : known + 1 - from + (stop - (known + 1)) ≡ stop - from = omega arith in
          sym (add-mul (known + 1 - from) (stop - (known + 1)) P.places) ∙ ap (λ (n : ℕ). n * P.places) e
