-- The soundness of a stretch of pages, by items and homes that begin anywhere.
use mathlib.Core.Path.{◌≡◌, sym, ap, subst, ◌∙◌}
use mathlib.Core.Bool.{Bool, true, false, and-false}
use mathlib.Core.List.{List, ◌++◌}
use Prim.Native.Nat.{ℕ, suc, ◌+◌, ◌-◌, ◌*◌, ◌≤◌, ◌<◌}
use native.Mathlib.Nat.{add_assoc, add-mul, suc-mul, mul-le-mul_right}
use native.Mathlib.Decide.{dec_lt}
use native.Mathlib.Omega.{arith}
use lib.ListN.{length, get_or, take, drop, length-drop, length-map}
use lib.Seq.{get_or-drop, get_or-take, get_or-append-add, length-take-le, paste, take-paste}
use lib.Dec.{leb}
use borrow.Author.Tests.{ne_eqb}
use Rattle.buffers.proofs.Lists.{map-item}
use Rattle.generator.specs.Generator.{top_of_lem}
use Rattle.hashing.specs.declared.Parameters.{Parameters}
use Rattle.hashing.specs.declared.Growth.{Growth}
use Rattle.hashing.specs.declared.Geometry.{Geometry}
use Rattle.hashing.specs.Geometry.{multiplier_of}
use Rattle.hashing.specs.Home.{home}
use Rattle.soundness.specs.Survey.{admits, admits_item, last_after, sound_in}
use Rattle.placement.specs.File.{File}
use Rattle.placement.specs.Shape.{Sized}
use Rattle.placement.specs.Hash.{sound_at}
use Rattle.placement.specs.Shape.{home_in, homes_of}
use Rattle.pages.specs.Page.{part}
use Rattle.soundness.specs.Stretch.{Items, HomesAt, Lowest, sound_from, sound_of}
use Rattle.soundness.proofs.Items.{Admitting, admitting-none, admitting-refused, admitting-more, sound-items}

-- a star's home
pub star-home : (p : Parameters) (g : Growth) (last n h : ℕ) → h ≡ home_in p g n → last < n → h ≡ home (multiplier_of p) p g n
star-home p g last n h e l = e ∙ rw (ne_eqb n 0 (λ z. omega (arith, z)))

module _ (p : Parameters) (g : Growth) (seps : List ℕ) (page : ℕ) (ns ws os : List ℕ) (at : ℕ) where
  pub lent_none : (homed : ℕ) (hs : List ℕ) → Items (at + p.places) homed ns ws os hs → Admitting p g seps page (drop at ns) (drop at ws) (drop at os) p.places 0 0
  lent_none homed hs e =
      admitting-none p g seps page (drop at ns) (drop at ws) (drop at os) p.places (omega (arith, length-drop at ns, e.numbers)) (omega (arith, length-drop at ws, e.words)) (omega (arith, length-drop at os, e.owners))

  module _ {places i last : ℕ} (done : Admitting p g seps page (drop at ns) (drop at ws) (drop at os) places i last) (h : i < places) where
    same_item : admits_item p g seps page last (get_or (drop at ns) i 0) (get_or (drop at ws) i 0) (get_or (drop at os) i 0) ≡ admits_item p g seps page last (get_or ns (at + i) 0) (get_or ws (at + i) 0) (get_or os (at + i) 0)
    same_item = rw (get_or-drop at ns i 0, get_or-drop at ws i 0, get_or-drop at os i 0)

    pub lent-refused : admits_item p g seps page last (get_or ns (at + i) 0) (get_or ws (at + i) 0) (get_or os (at + i) 0) ≡ false
        → admits p g seps page 0 (take places (drop at ns)) (take places (drop at ws)) (take places (drop at os)) ≡ false
    lent-refused e = admitting-refused p g seps page done h (same_item ∙ e)

    pub lent-more : {next : ℕ} → admits_item p g seps page last (get_or ns (at + i) 0) (get_or ws (at + i) 0) (get_or os (at + i) 0) ≡ true → next ≡ last_after (get_or ns (at + i) 0)
        → Admitting p g seps page (drop at ns) (drop at ws) (drop at os) places (i + 1) next
    lent-more e l = admitting-more p g seps page done h (same_item ∙ e) (rw (get_or-drop at ns i 0) l)

-- a page with an item that is not admitted
pub page-refused : (g : Geometry) (seps ns ws os : List ℕ) (at page : ℕ)
    → admits g.parameters g.growth seps page 0 (take g.parameters.places (drop at ns)) (take g.parameters.places (drop at ws)) (take g.parameters.places (drop at os)) ≡ false
    → false ≡ sound_from g seps ns ws os at page
unfolding sound_from sound_in
page-refused g seps ns ws os at page e = rw e (sym (and-false (leb (get_or seps page 0) (top_of_lem g.parameters.bits))))

-- the numbers from `from` up to the one before `page` pass the test
pub record Passed (test : ℕ → Bool) (from stop page : ℕ) : Type 0 where
  pub low : from ≤ page
  pub high : page ≤ stop
  pub passed : (q : ℕ) → from ≤ q → q < page → test q ≡ true

pub passed_none : (test : ℕ → Bool) (from stop : ℕ) → from ≤ stop → Passed test from stop from
passed_none test from stop h = record { low = omega arith; high = h; passed = λ q a b. absurd (omega arith) }

module _ {test : ℕ → Bool} {from stop page : ℕ} (done : Passed test from stop page) where
  pub passed-next : page < stop → test page ≡ true → Passed test from stop (page + 1)
  passed-next h e = record { low = omega (arith, done.low); high = omega arith; passed = λ q a b. go q a b (dec_lt q page) }
    where
      here : (q : ℕ) → q ≡ page → test q ≡ true
      here q d = rw d e

      go : (q : ℕ) → from ≤ q → q < page + 1 → Dec (q < page) → test q ≡ true
      go q a b (yes l) = done.passed q a l
      go q a b (no l) = here q (omega arith)

  pub passed-found : page < stop → test page ≡ false → Lowest test from stop page
  passed-found h e = record { low = done.low; high = done.high; passed = done.passed; failed = λ _. e }

  pub passed-all : stop ≤ page → Lowest test from stop page
  passed-all h = record { low = done.low; high = done.high; passed = done.passed; failed = λ l. absurd (omega arith) }

  -- the search goes on from the page reached
  pub passed_then : {r : ℕ} → Lowest test page stop r → Lowest test from stop r
  passed_then {r} later = record { low = omega (arith, done.low, later.low); high = later.high; passed = λ q a b. go q a b (dec_lt q page); failed = later.failed }
    where
      go : (q : ℕ) → from ≤ q → q < r → Dec (q < page) → test q ≡ true
      go q a b (yes l) = done.passed q a l
      go q a b (no l) = later.passed q (omega arith) b

pub lowest_same : {test other : ℕ → Bool} {from stop r : ℕ} → ((q : ℕ) → from ≤ q → test q ≡ other q) → Lowest test from stop r → Lowest other from stop r
lowest_same same l = record { low = l.low; high = l.high; passed = λ q a b. sym (same q a) ∙ l.passed q a b; failed = λ h. sym (same _ l.low) ∙ l.failed h }

-- the items of a page among those of its stretch
pub page-items : (b from page stop : ℕ) → from ≤ page → page < stop → (page - from) * b + b ≤ (stop - from) * b
page-items b from page stop h l = omega (arith, suc-mul (page - from) b, mul-le-mul_right {m = suc (page - from)} {n = stop - from} b (omega arith))

-- the items of two stretches, one behind the other
pub both-items : (b from page stop : ℕ) → from ≤ page → page ≤ stop → (page - from) * b + (stop - page) * b ≡ (stop - from) * b
both-items b from page stop h l =
    let e : page - from + (stop - page) ≡ stop - from = omega arith in
    sym (add-mul (page - from) (stop - page) b) ∙ ap (λ (k : ℕ). k * b) e

pub ahead : (b from page : ℕ) → from ≤ page → from * b + (page - from) * b ≡ page * b
ahead b from page h =
    let e : from + (page - from) ≡ page = omega arith in
    sym (add-mul from (page - from) b) ∙ ap (λ (k : ℕ). k * b) e

pub homes-part : (g : Geometry) (ns hs : List ℕ) (at to n k b : ℕ) → HomesAt g n at to ns hs → k + b ≤ n → HomesAt g b (at + k) (to + k) ns hs
homes-part g ns hs at to n k b are h i l =
    rw (add_assoc to k i, add_assoc at k i) (are (k + i) (omega arith))

pasted_item : (d s : List ℕ) (at n i : ℕ) → at ≤ length d → n ≤ length s → i < n → get_or (paste d at s n) (at + i) 0 ≡ get_or s i 0
pasted_item d s at n i h k l =
    sym (get_or-take (at + n) (paste d at s n) (at + i) 0 (omega arith))
    ∙ ap (λ (x : List ℕ). get_or x (at + i) 0) (take-paste d at s n h k)
    ∙ ap (λ (m : ℕ). get_or (take at d ++ take n s) (m + i) 0) (sym (length-take-le at d h))
    ∙ get_or-append-add (take at d) (take n s) i 0
    ∙ get_or-take n s i 0 l

-- homes that were put into a list stand there
pub homes-put : (g : Geometry) (ns d hs : List ℕ) (at to n : ℕ) → to + n ≤ length d → at + n ≤ length ns
    → hs ≡ paste d to (homes_of g.parameters g.growth (drop at ns)) n → HomesAt g n at to ns hs
unfolding homes_of
homes-put g ns d hs at to n h k e i l =
    let f = home_in g.parameters g.growth in
    let long : length (homes_of g.parameters g.growth (drop at ns)) ≡ length ns - at = length-map (drop at ns) f ∙ length-drop at ns in
    ap (λ (x : List ℕ). get_or x (to + i) 0) e
    ∙ pasted_item d (homes_of g.parameters g.growth (drop at ns)) to n i (omega arith) (omega (arith, long)) l
    ∙ map-item f (drop at ns) i (omega (arith, length-drop at ns))
    ∙ ap f (get_or-drop at ns i 0)

-- by its own items a page is sound as the file has it
pub sound-own : (g : Geometry) (f : File) (page : ℕ)
    → sound_from g f.separators f.numbers f.words f.owners (page * g.parameters.places) page ≡ sound_at g.parameters g.growth f page
unfolding sound_from part
sound-own g f page = sound-items g.parameters g.growth f page

pub sound-there : (g : Geometry) (f : File) (page q : ℕ) → page ≤ q
    → sound_of g f.separators f.numbers f.words f.owners (page * g.parameters.places) page q ≡ sound_at g.parameters g.growth f q
sound-there g f page q h =
    ap (λ (k : ℕ). sound_from g f.separators f.numbers f.words f.owners k q) (ahead g.parameters.places page q h) ∙ sound-own g f q

-- a page of a stretch, and the pages from it on, in the lists of a file
module _ (g : Geometry) (f : File) (hs : List ℕ) (to from page stop : ℕ) (sized : Sized g.parameters.places g.parameters.pages f)
    (low : from ≤ page) (bound : stop ≤ g.parameters.pages) (fits : to + (stop - from) * g.parameters.places ≤ length hs) where
  abbrev b : ℕ
  b = g.parameters.places

  inside : page < stop → page * b + b ≤ g.parameters.pages * b
  inside h = omega (arith, suc-mul page b, mul-le-mul_right {m = suc page} {n = g.parameters.pages} b (omega arith))

  rest-inside : page ≤ stop → page * b + (stop - page) * b ≤ g.parameters.pages * b
  rest-inside h = omega (arith, ahead b page stop h, mul-le-mul_right {m = stop} {n = g.parameters.pages} b bound)

  pub here-items : page < stop → Items (page * b + b) (to + (page - from) * b + b) f.numbers f.words f.owners hs
  here-items h =
      record {
        numbers = omega (arith, inside h, sized.of_numbers);
        words = omega (arith, inside h, sized.of_words_lem);
        owners = omega (arith, inside h, sized.of_owners);
        homes = omega (arith, page-items b from page stop low h, fits);
      }

  pub rest-items : page ≤ stop → Items (page * b + (stop - page) * b) (to + (page - from) * b + (stop - page) * b) f.numbers f.words f.owners hs
  rest-items h =
      record {
        numbers = omega (arith, rest-inside h, sized.of_numbers);
        words = omega (arith, rest-inside h, sized.of_words_lem);
        owners = omega (arith, rest-inside h, sized.of_owners);
        homes = omega (arith, both-items b from page stop low h, fits);
      }

  pub homes-here : (n : ℕ) → HomesAt g ((stop - from) * b) (from * b) to f.numbers hs → (page - from) * b + n ≤ (stop - from) * b
      → HomesAt g n (page * b) (to + (page - from) * b) f.numbers hs
  homes-here n are h =
      subst (λ (k : ℕ). HomesAt g n k (to + (page - from) * b) f.numbers hs) (ahead b from page low)
      (homes-part g f.numbers hs (from * b) to ((stop - from) * b) ((page - from) * b) n are h)
