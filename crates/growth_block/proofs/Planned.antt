-- The plan of a page's block: the page of the growth.
use mathlib.Core.Path.{◌≡◌, refl, sym, ap, ◌∙◌}
use mathlib.Core.Bool.{Bool, true, false, cond, ◌&&◌}
use mathlib.Core.List.{List, map}
use Prim.Native.Nat.{ℕ, suc, ◌+◌, ◌-◌, ◌*◌, ◌^◌, ◌≤◌, ◌<◌}
use native.Mathlib.Nat.{add-mul, mul-le-mul_right}
use native.Mathlib.Omega.{arith}
use lib.Dec.{leb, ltb, eqb}
use lib.ListN.{length, get_or, take, drop, length-map, length-drop, get_or-map}
use lib.Seq.{paste, length-take-le, get_or-drop}
use borrow.Author.Tests.{ltb-true, ltb-false, lt-leb, le-ltb}
use Rattle.buffers.proofs.Lists.{map-take, map-drop}
use Rattle.buffers.proofs.Written.{taken-written, paste_written}
use Rattle.generator.specs.Generator.{signature}
use Rattle.hashing.specs.declared.Parameters.{Parameters}
use Rattle.hashing.specs.declared.Growth.{Growth}
use Rattle.hashing.specs.Geometry.{multiplier_of, page_count, grown}
use Rattle.hashing.specs.Limits.{valid_parameters, valid_growth}
use Rattle.hashing.specs.Home.{home}
use Rattle.pages.specs.Shape.{stretch}
use Rattle.placement.specs.Rule.{Hash, Contents, below, pages}
use Rattle.placement.specs.Shape.{blank}
use Rattle.placement.specs.File.{File, gathered, replaced}
use Rattle.placement.specs.Shape.{Sized}
use Rattle.placement.specs.Hash.{hash_of, sound_at}
use Rattle.placement.specs.Shape.{home_in}
use Rattle.placement.proofs.Composition.{length-pages}
use Rattle.placement.proofs.Files.{roomy-pages}
use Rattle.page_separator.specs.Lists.{all_below}
use Rattle.reach.specs.Reach.{first_unsound_lem, all_stars}
use Rattle.page_plan.proofs.Sourcing.{item_home}
use Rattle.page_plan.proofs.RuleOverWords.{Probes}
use Rattle.page_plan.proofs.Applying.{applied}
use Rattle.page_plan.proofs.Placed.{placed}
use Rattle.removal_reach.specs.Stretch.{new_pages}
use Rattle.removal_reach.proofs.Ruled.{applied-stretch}
use Rattle.removal_reach.proofs.Items.{all-below, all_sound, all-numbered, numbers_below, plannable-stretch, ready-stretch}
use Rattle.growth_in_place.specs.Expansion.{Spacious}
use Rattle.growth_block.specs.Block.{home_up_to, hash_up_to, homes_taken, PlansLocally, NamesPage}
use Rattle.growth_block.proofs.OneBlock.{SameBelow, page-local}
use Rattle.growth_block.proofs.Named.{page-named}

-- the homes up to `stop`

pub probes-upto : (p : Parameters) (g : Growth) (stop : ℕ) → Probes (hash_up_to p g stop) p
unfolding hash_up_to
probes-upto p g stop = record { signatures = λ k page. refl; top = refl; room_is = refl }

pub same-below : (p : Parameters) (g : Growth) (stop : ℕ) → SameBelow stop (hash_of p g) (hash_up_to p g stop)
unfolding hash_of hash_up_to home_up_to below
same-below p g stop =
    record {
      stays = λ q v k h. go q v k h (ltb stop (home (multiplier_of p) p g k)) refl;
      top = refl;
      room = refl;
    }
  where
    go : (q v k : ℕ) → q < stop → (t : Bool) → ltb stop (home (multiplier_of p) p g k) ≡ t
        → (leb (home (multiplier_of p) p g k) q && ltb ((hash_of p g).signature k q) v)
        ≡ (leb (cond t stop (home (multiplier_of p) p g k)) q && ltb (signature (multiplier_of p) p.bits k (q - cond t stop (home (multiplier_of p) p g k) + 1)) v)
    go q v k h true e = rw (lt-leb (home (multiplier_of p) p g k) q (omega (arith, ltb-true stop (home (multiplier_of p) p g k) e)), lt-leb stop q h)
    go q v k h false e = refl

pub upto-low : (p : Parameters) (g : Growth) (stop n : ℕ) → item_home (hash_up_to p g stop) n ≤ stop
unfolding item_home hash_up_to home_up_to
upto-low p g stop n = go (eqb n 0) (ltb stop (home (multiplier_of p) p g n)) refl
  where
    go : (z t : Bool) → ltb stop (home (multiplier_of p) p g n) ≡ t → cond z 0 (cond t stop (home (multiplier_of p) p g n)) ≤ stop
    go true t e = omega arith
    go false true e = omega arith
    go false false e = omega (arith, ltb-false stop (home (multiplier_of p) p g n) e)

pub upto-items : (p : Parameters) (g : Growth) (stop : ℕ) (ns : List ℕ) → homes_taken p g stop ns ≡ map (item_home (hash_up_to p g stop)) ns
unfolding homes_taken item_home hash_up_to
upto-items p g stop ns = refl

pub length-upto : (p : Parameters) (g : Growth) (stop : ℕ) (ns : List ℕ) → length (homes_taken p g stop ns) ≡ length ns
unfolding homes_taken
length-upto p g stop ns = length-map ns (λ n. cond (eqb n 0) 0 (home_up_to p g stop n))

-- the next item, from its home under the growth state
pub upto_next : (p : Parameters) (g : Growth) (stop : ℕ) (ns : List ℕ) (first i next x : ℕ) → next ≡ home_in p g (get_or ns (first + i) 0) → x ≡ cond (ltb stop next) stop next
    → x ≡ get_or (drop first (homes_taken p g stop ns)) i 0
unfolding homes_taken home_up_to
upto_next p g stop ns first i next x e d =
    d
    ∙ ap (λ (h : ℕ). cond (ltb stop h) stop h) e
    ∙ go (eqb (get_or ns (first + i) 0) 0)
    ∙ sym (get_or-drop first (homes_taken p g stop ns) i 0 ∙ get_or-map (λ n. cond (eqb n 0) 0 (home_up_to p g stop n)) ns (first + i) 0)
  where
    go : (t : Bool)
        → cond (ltb stop (cond t 0 (home (multiplier_of p) p g (get_or ns (first + i) 0)))) stop (cond t 0 (home (multiplier_of p) p g (get_or ns (first + i) 0)))
        ≡ cond t 0 (cond (ltb stop (home (multiplier_of p) p g (get_or ns (first + i) 0))) stop (home (multiplier_of p) p g (get_or ns (first + i) 0)))
    go true = rw (le-ltb stop 0 (omega arith))
    go false = refl

-- a stretch of items pasted from another list
pasted_stretch : (b lo n : ℕ) (l x : List ℕ) → lo * b + n * b ≤ length l → lo * b + n * b ≤ length x → stretch b lo n (paste l (lo * b) (drop (lo * b) x) (n * b)) ≡ stretch b lo n x
pasted_stretch b lo n l x hl hx =
    let long : n * b ≤ length (drop (lo * b) x) = omega (arith, length-drop (lo * b) x) in
    ap (stretch b lo n) (paste_written l (lo * b) (drop (lo * b) x) (n * b) long)
    ∙ taken-written (lo * b) (n * b) (take (n * b) (drop (lo * b) x)) l (length-take-le (n * b) (drop (lo * b) x) long) (omega arith)

-- the items of the pages from lo to `stop`
module _ (p : Parameters) (g : Growth) (ns : List ℕ) (lo stop : ℕ) (low : lo ≤ stop) (last : stop < p.pages) (many : length ns ≡ p.pages * p.places)
    (pool homes : List ℕ) (long : length pool ≡ p.pages * p.places)
    (homes-are : homes ≡ paste pool (lo * p.places) (drop (lo * p.places) (homes_taken p g stop ns)) (suc (stop - lo) * p.places)) where
  abbrev n : ℕ
  n = suc (stop - lo)

  abbrev K : Hash
  K = hash_up_to p g stop

  count : lo + n ≡ suc stop
  count = omega arith

  fits : lo * p.places + n * p.places ≤ p.pages * p.places
  fits = rw (← add-mul lo n p.places) (mul-le-mul_right p.places (omega (arith, count)))

  pub upto-homes : stretch p.places lo n homes ≡ map (item_home K) (stretch p.places lo n ns)
  upto-homes =
      ap (stretch p.places lo n) homes-are
      ∙ pasted_stretch p.places lo n pool (homes_taken p g stop ns) (omega (arith, fits)) (omega (arith, fits, length-upto p g stop ns))
      ∙ ap (stretch p.places lo n) (upto-items p g stop ns)
      ∙ ap (take (n * p.places)) (map-drop (item_home K) (lo * p.places) ns)
      ∙ map-take (item_home K) (n * p.places) (drop (lo * p.places) ns)

  pub upto-within : all_below (lo + n) (stretch p.places lo n homes) ≡ true
  unfolding item_home
  upto-within =
      let items : List ℕ = stretch p.places lo n ns in
      rw upto-homes
      (all-below (lo + n) (map (item_home K) items)
      (λ i h. rw (get_or-map (item_home K) items i 0) (omega (arith, count, upto-low p g stop (get_or items i 0)))))

module _ (p : Parameters) (g : Growth) (f : File) (valid : valid_parameters p ≡ true) (sized : Sized p.places p.pages f)
    (step : ℕ) (pool pool' planned planned' : List ℕ) (long : length pool ≡ p.pages * p.places)
    (L : PlansLocally p g step f.separators f.numbers pool pool' planned planned')
    (grows : valid_growth p g ≡ true) (all : first_unsound_lem p g f 0 p.pages ≡ p.pages) (room : page_count p g < p.pages) (spacious : Spacious p g f.separators f.numbers)
    (other : step ≡ page_count p g → ⊥) (wide : p.pages ≤ length planned) (kept : length pool' ≡ length pool) (kept' : length planned' ≡ length planned) where
  abbrev from : ℕ
  from = L.lo

  abbrev some : ℕ
  some = suc (L.stop - L.lo)

  abbrev J : Hash
  J = hash_up_to p (grown p g) L.stop

  low : L.lo ≤ L.stop
  low = omega (arith, L.block.starts.low, L.block.past)

  end : from + some ≡ suc L.stop
  end = omega (arith, low)

  inside : from + some ≤ p.pages
  inside = omega (arith, end, L.block.inside)

  size : length L.homes ≡ p.pages * p.places
  size = L.homes-long ∙ long

  within : all_below (from + some) (stretch p.places from some L.homes) ≡ true
  within = upto-within p (grown p g) f.numbers from L.stop low L.block.inside sized.of_numbers pool L.homes long L.homes-are

  sound : (q : ℕ) → from ≤ q → q < from + some → sound_at p g f q ≡ true
  sound q a h = all_sound p g f 0 p.pages (omega (arith, all)) q (omega arith) (omega (arith, inside))

  below-most : all_below (2 ^ 31) (stretch p.places from some f.numbers) ≡ true
  below-most = numbers_below p f valid sized from some inside g sound

  cs : List Contents
  cs = pages J from some (gathered p.places f from some)

  planned-pages : new_pages p from some 0 f L.homes ≡ cs
  unfolding new_pages cs
  planned-pages =
      (placed J p (probes-upto p (grown p g) L.stop) from some f L.homes
      (ready-stretch p f valid sized from some inside (omega arith) L.homes size below-most within J (upto-homes p (grown p g) f.numbers from L.stop low L.block.inside sized.of_numbers pool L.homes long L.homes-are)) 0 0 0).0
      ∙ ap (pages J from some) (all-numbered p g f from some sound)

  leaves : applied p.places from some 0 0 0 pool' planned' f ≡ replaced p.places f from cs
  leaves =
      applied-stretch p from some f L.homes f.words f.owners
      (plannable-stretch p f valid sized from some inside (omega arith) L.homes size below-most within f.words f.owners sized.of_words_lem sized.of_owners) 0
      pool' planned planned' L.waiting L.past_it (omega (arith, inside, wide)) L.plan
      ∙ ap (replaced p.places f from) planned-pages

  -- page `step` of the growth
  pub block-named : NamesPage p f pool' planned' step (get_or (pages (hash_of p (grown p g)) 0 p.pages (all_stars p f)) step blank)
  unfolding cs hash_up_to hash_of
  block-named =
      let B = L.block in
      let same : get_or (pages (hash_of p (grown p g)) 0 p.pages (all_stars p f)) step blank ≡ get_or cs (step - from) blank =
      page-local p g f valid grows sized all room spacious from L.last L.stop step B.starts.starts B.starts.low B.high B.past B.reached B.inside
      B.starts.within B.ends other J (same-below p (grown p g) L.stop) in
      rw same
      (page-named p f from some step pool' planned' cs sized (kept ∙ long) (omega (arith, inside, wide, kept')) inside
      (roomy-pages J from some (gathered p.places f from some)) (length-pages J from some (gathered p.places f from some))
      B.starts.low (omega (arith, end, B.past)) leaves)
