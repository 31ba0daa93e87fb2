-- The plan in the rule's terms: what the planned pages are, with the words and owners that their sources name, and what applying them leaves.
use mathlib.Core.Path.{◌≡◌, refl, sym, ap, ◌∙◌}
use mathlib.Core.Bool.{true}
use mathlib.Core.List.{List, [], ◌∷◌, ◌++◌, map}
use Prim.Native.Nat.{ℕ, suc, zero, ◌+◌, ◌*◌, ◌^◌, ◌≤◌, ◌<◌}
use native.Mathlib.Nat.{add-zero, add-mul, le_refl, mul-one}
use native.Mathlib.Omega.{arith}
use lib.ListN.{length, take, drop, length-map, length-drop, take-append-drop}
use lib.Seq.{paste, length-take-le, drop-append-le, take-append-le, take-add, drop-drop}
use borrow.Author.Tests.{eq-eqb, le-leb}
use Rattle.pages.specs.Shape.{stretch}
use Rattle.buffers.proofs.Lists.{map-take}
use Rattle.buffers.proofs.Written.{taken-written, paste_written}
use Rattle.buffers.specs.Lists.{written}
use Rattle.hashing.specs.declared.Parameters.{Parameters}
use Rattle.hashing.specs.declared.Growth.{Growth}
use Rattle.placement.specs.Rule.{Star, Hash, Contents, pages, left, insert, without, separators, star_with}
use Rattle.placement.specs.File.{File, gathered, column, replaced}
use Rattle.placement.specs.Hash.{hash_of}
use Rattle.placement.specs.Shape.{homes_of}
use Rattle.placement.proofs.Mapping.{Keeps, mapped, pages-map, left-map}
use Rattle.placement.proofs.Standing.{length-separators}
use Rattle.placement.proofs.Writing.{length-column, column-append, separators-append}
use Rattle.page_separator.specs.Lists.{all, all_below}
use Rattle.page_separator.specs.Words.{pack}
use Rattle.page_plan.specs.Gather.{words_from, group, grouped, groups_below, stretch_words}
use Rattle.page_separator.specs.Probes.{homes_up_to}
use Rattle.page_separator.proofs.Packing.{home-pack, number-pack, source_pack}
use Rattle.page_plan.specs.Sources.{renamed, sourced}
use Rattle.page_plan.specs.Plans.{waits, homed, carried_on_lem, plans, remains, Planned}
use Rattle.page_plan.proofs.Pouring.{waits-grouped, length-waits}
use Rattle.page_plan.proofs.RuleOverWords.{Probes, plans-are, homed-onward, homed-probing}
use Rattle.page_plan.proofs.Applying.{renamed_keeps, plans-sourced, applied, applied-is}
use Rattle.page_plan.proofs.Sourcing.{item_home, words_append, words-homed, words-grouped, words-sourced, words-fresh, fresh, named-stretch, named_past, length-stretch, true_stars, new-star}
use Rattle.page_plan.proofs.Stretch.{plans-roomy, length-plans}
use Rattle.page_plan.proofs.Blocks.{from, plans-blocks}

-- document 01's hash probes as the words do
pub probes-real : (p : Parameters) (g : Growth) → Probes (hash_of p g) p
unfolding hash_of
probes-real p g = record { signatures = λ k page. refl; top = refl; room_is = refl }

pub homes-real : (p : Parameters) (g : Growth) (ns : List ℕ) → homes_of p g ns ≡ map (item_home (hash_of p g)) ns
unfolding hash_of homes_of item_home
homes-real p g ns = refl

-- the planned pages are the rule's over the waiting list of all words
pub planned-pages : (H : Hash) (q : Parameters) → Probes H q → (lo n : ℕ) (w l : List ℕ)
    → homed H w ≡ true → homes_up_to lo w ≡ true → homed H l ≡ true → groups_below lo n l ≡ true
    → (plans q lo 0 n w l ≡ pages H lo n (waits (w ++ l))) × (waits (remains q lo 0 n w l) ≡ left H lo n (waits (w ++ l)))
planned-pages H q real lo n w l hw nw hl gl =
    let t = rw (add-zero lo) at (plans-are H q real lo 0 n w l hw (rw (add-zero lo) nw) hl) in
    let same : waits (w ++ grouped lo 0 n l) ≡ waits (w ++ l) = waits-grouped lo n w l gl in
    (sym t.0 ∙ ap (pages H lo n) same, sym t.1 ∙ ap (left H lo n) same)

-- .. with each star as g names it: the rule over any list of stars
pub placed-words : (H : Hash) (q : Parameters) → Probes H q → (lo n : ℕ) (g : Star → Star) → Keeps g → (w l : List ℕ) (t : List Star)
    → homed H w ≡ true → homes_up_to lo w ≡ true → homed H l ≡ true → groups_below lo n l ≡ true → map g (waits (w ++ l)) ≡ t
    → (map (mapped g) (plans q lo 0 n w l) ≡ pages H lo n t) × (map g (waits (remains q lo 0 n w l)) ≡ left H lo n t)
placed-words H q real lo n g keeps w l t hw nw hl gl e =
    let both = planned-pages H q real lo n w l hw nw hl gl in (
      ap (map (mapped g)) both.0 ∙ sym (pages-map g keeps H lo n (waits (w ++ l))) ∙ ap (pages H lo n) e,
      ap (map g) both.1 ∙ sym (left-map g keeps H lo n (waits (w ++ l))) ∙ ap (left H lo n) e,
    )

-- the word of an entry's new star
pub new-homed : (H : Hash) (h k s : ℕ) → h ≡ H.home k → k < 2 ^ 31 → s < 2 ^ 16 → homed H (pack h k s ∷ []) ≡ true
unfolding homed all
new-homed H h k s e hk hs = rw (number-pack h k s hk hs, home-pack h k s hk hs, eq-eqb (H.home k) h (sym e))

pub new-near : (lo h k s : ℕ) → h ≤ lo → k < 2 ^ 31 → s < 2 ^ 16 → homes_up_to lo (pack h k s ∷ []) ≡ true
unfolding all
new-near lo h k s le hk hs = rw (home-pack h k s hk hs, le-leb h lo le)

pub new-sourced : (ns : List ℕ) (h k : ℕ) → k < 2 ^ 31 → length ns + 1 < 2 ^ 16 → sourced ns k (pack h k (length ns + 1) ∷ []) ≡ true
unfolding sourced all
new-sourced ns h k hk hs =
    rw (number-pack h k (length ns + 1) hk hs, source_pack h k (length ns + 1) hs, named_past ns k (length ns + 1) refl, eq-eqb k k refl)

-- what a stretch of n pages from lo must satisfy: its items' homes are hs
pub record Gatherable (H : Hash) (places lo n : ℕ) (f : File) (hs : List ℕ) : Type 0 where
  pub some : 0 < n
  pub few : (lo + n) * places < 2 ^ 16
  pub numbers : (lo + n) * places ≤ length f.numbers
  pub words : (lo + n) * places ≤ length f.words
  pub owners : (lo + n) * places ≤ length f.owners
  pub homes : (lo + n) * places ≤ length hs
  pub valid : all_below (2 ^ 31) (stretch places lo n f.numbers) ≡ true
  pub within : all_below (lo + n) (stretch places lo n hs) ≡ true
  pub true_homes : stretch places lo n hs ≡ map (item_home H) (stretch places lo n f.numbers)

module _ (H : Hash) (q : Parameters) (real : Probes H q) (lo n : ℕ) (f : File) (hs : List ℕ) (R : Gatherable H q.places lo n f hs) (k newword newowner : ℕ) where
  few-items : lo * q.places + length (stretch q.places lo n f.numbers) < 2 ^ 16
  few-items = omega (arith, length-stretch q.places lo n f.numbers R.numbers, add-mul lo n q.places, R.few)

  pub stretch-homed : homed H (stretch_words q.places lo n k f.numbers hs) ≡ true
  stretch-homed = words-homed (lo * q.places) k (stretch q.places lo n f.numbers) (stretch q.places lo n hs) R.valid few-items H R.true_homes

  pub stretch-grouped : groups_below lo n (stretch_words q.places lo n k f.numbers hs) ≡ true
  stretch-grouped = words-grouped (lo * q.places) k (stretch q.places lo n f.numbers) (stretch q.places lo n hs) R.valid few-items lo n R.some R.within

  pub stretch-sourced : (newnumber : ℕ) → sourced f.numbers newnumber (stretch_words q.places lo n k f.numbers hs) ≡ true
  stretch-sourced newnumber =
      words-sourced (lo * q.places) k (stretch q.places lo n f.numbers) (stretch q.places lo n hs) R.valid few-items f.numbers newnumber
      (named-stretch q.places lo n newnumber f.numbers R.numbers)

  stretch-fresh : fresh k (stretch_words q.places lo n k f.numbers hs) ≡ true
  stretch-fresh = words-fresh (lo * q.places) k (stretch q.places lo n f.numbers) (stretch q.places lo n hs) R.valid few-items

  stretch-stars : map (renamed f.words f.owners newword newowner) (waits (stretch_words q.places lo n k f.numbers hs)) ≡ without k (gathered q.places f lo n)
  stretch-stars = true_stars q.places lo n k newword newowner f hs R.valid R.few R.numbers R.words R.owners R.homes

  -- any words w carried in: the rule over the stars that these and the stretch's words name
  placed-with : (w : List ℕ) (t : List Star) → homed H w ≡ true → homes_up_to lo w ≡ true
      → map (renamed f.words f.owners newword newowner) (waits (w ++ stretch_words q.places lo n k f.numbers hs)) ≡ t
      → (map (mapped (renamed f.words f.owners newword newowner)) (plans q lo 0 n w (stretch_words q.places lo n k f.numbers hs)) ≡ pages H lo n t)
      × (map (renamed f.words f.owners newword newowner) (waits (remains q lo 0 n w (stretch_words q.places lo n k f.numbers hs))) ≡ left H lo n t)
  placed-with w t hw nw e =
      placed-words H q real lo n (renamed f.words f.owners newword newowner) (renamed_keeps f.words f.owners newword newowner) w
      (stretch_words q.places lo n k f.numbers hs) t hw nw stretch-homed stretch-grouped e

  -- the stretch by itself: the rule over its stars but the star k
  pub placed : (map (mapped (renamed f.words f.owners newword newowner)) (plans q lo 0 n [] (stretch_words q.places lo n k f.numbers hs)) ≡ pages H lo n (without k (gathered q.places f lo n)))
      × (map (renamed f.words f.owners newword newowner) (waits (remains q lo 0 n [] (stretch_words q.places lo n k f.numbers hs))) ≡ left H lo n (without k (gathered q.places f lo n)))
  placed = placed-with [] (without k (gathered q.places f lo n)) (unfold homed all in refl) (unfold all in refl) stretch-stars

  -- .. and with the new star k, whose source is past the items
  pub placed-new : (h : ℕ) → h ≡ H.home k → h ≤ lo → k < 2 ^ 31 → length f.words + 1 < 2 ^ 16 → length f.owners ≡ length f.words
      → (map (mapped (renamed f.words f.owners newword newowner)) (plans q lo 0 n (pack h k (length f.words + 1) ∷ []) (stretch_words q.places lo n k f.numbers hs))
      ≡ pages H lo n (insert (star_with k newword newowner) (without k (gathered q.places f lo n))))
      × (map (renamed f.words f.owners newword newowner) (waits (remains q lo 0 n (pack h k (length f.words + 1) ∷ []) (stretch_words q.places lo n k f.numbers hs)))
      ≡ left H lo n (insert (star_with k newword newowner) (without k (gathered q.places f lo n))))
  placed-new h eh near hk few same =
      let s : ℕ = length f.words + 1 in
      let x : ℕ = pack h k s in
      let l : List ℕ = stretch_words q.places lo n k f.numbers hs in
      placed-with (x ∷ []) (insert (star_with k newword newowner) (without k (gathered q.places f lo n)))
      (new-homed H h k s eh hk few) (new-near lo h k s near hk few)
      (new-star f.words f.owners newword newowner h k s l hk few stretch-fresh
      ∙ rw (named_past f.words newword s refl, named_past f.owners newowner s (ap (λ (m : ℕ). m + 1) (sym same)), stretch-stars))

pub stretch-add : (b lo n m : ℕ) (l : List ℕ) → stretch b lo (n + m) l ≡ stretch b lo n l ++ stretch b (lo + n) m l
stretch-add b lo n m l =
    ap (λ (k : ℕ). take k (drop (lo * b) l)) (add-mul n m b)
    ∙ take-add (n * b) (m * b) (drop (lo * b) l)
    ∙ ap (λ (x : List ℕ). stretch b lo n l ++ take (m * b) x) (drop-drop (n * b) (lo * b) l ∙ ap (λ (k : ℕ). drop k l) (sym (add-mul lo n b)))

-- a stretch before what is written stays
pub stretch-before : (b lo n at : ℕ) (s d : List ℕ) → (lo + n) * b ≤ at → at ≤ length d → stretch b lo n (written at s d) ≡ stretch b lo n d
unfolding written
stretch-before b lo n at s d h k =
    let inside : lo * b + n * b ≤ at = omega (arith, add-mul lo n b) in
    front (take at d) (s ++ drop (at + length s) d) (rw (length-take-le at d k) inside) ∙ sym (sym-front inside)
  where
    front : (x y : List ℕ) → lo * b + n * b ≤ length x → stretch b lo n (x ++ y) ≡ stretch b lo n x
    front x y le =
        ap (take (n * b)) (drop-append-le (lo * b) x y (omega arith))
        ∙ take-append-le (n * b) (drop (lo * b) x) y (rw (length-drop (lo * b) x) (omega arith))

    sym-front : lo * b + n * b ≤ at → stretch b lo n d ≡ stretch b lo n (take at d)
    sym-front le = ap (stretch b lo n) (sym (take-append-drop at d)) ∙ front (take at d) (drop at d) (rw (length-take-le at d k) le)

-- a stretch that goes on with what is written
pub stretch-on : (b lo n m : ℕ) (s d : List ℕ) → length s ≡ m * b → (lo + n) * b ≤ length d
    → stretch b lo (n + m) (written ((lo + n) * b) s d) ≡ stretch b lo n d ++ s
stretch-on b lo n m s d e h =
    stretch-add b lo n m (written ((lo + n) * b) s d)
    ∙ ap (λ (x : List ℕ). x ++ stretch b (lo + n) m (written ((lo + n) * b) s d)) (stretch-before b lo n ((lo + n) * b) s d (le_refl ((lo + n) * b)) h)
    ∙ ap (λ (x : List ℕ). stretch b lo n d ++ x) (taken-written ((lo + n) * b) (m * b) s d e h)

pub taken-on : (lo n m : ℕ) (s d : List ℕ) → length s ≡ m → lo + n ≤ length d → take (n + m) (drop lo (written (lo + n) s d)) ≡ take n (drop lo d) ++ s
taken-on lo n m s d e h = simp mul-one at (stretch-on 1 lo n m s d (e ∙ sym (mul-one m)) (rw (mul-one (lo + n)) h))

-- what has been planned of n pages from lo: the sources in the pool, the separators, and the r words carried past
pub record Layout (q : Parameters) (lo n : ℕ) (w l pool planned W : List ℕ) (r : ℕ) : Type 0 where
  pub sources : stretch q.places lo n pool ≡ column q.places (λ (s : Star). s.payload.word) (plans q lo 0 n w l)
  pub separators_are : take n (drop lo planned) ≡ separators (plans q lo 0 n w l)
  pub passed : take r W ≡ remains q lo 0 n w l
  pub counted : r ≡ length (remains q lo 0 n w l)

pub length-sources : (q : Parameters) (lo n : ℕ) (w l : List ℕ) → length (column q.places (λ (s : Star). s.payload.word) (plans q lo 0 n w l)) ≡ n * q.places
length-sources q lo n w l =
    length-column q.places (λ (s : Star). s.payload.word) (plans q lo 0 n w l) (plans-roomy q lo 0 n w l)
    ∙ ap (λ (m : ℕ). m * q.places) (length-plans q lo 0 n w l)

length-planned : (q : Parameters) (lo n : ℕ) (w l : List ℕ) → length (separators (plans q lo 0 n w l)) ≡ n
length-planned q lo n w l = length-separators (plans q lo 0 n w l) ∙ length-plans q lo 0 n w l

pub layout : (q : Parameters) (lo n : ℕ) (w l pool pool' planned planned' W' : List ℕ) (r : ℕ)
    → Planned q lo n w l pool pool' planned planned' W' r → (lo + n) * q.places ≤ length pool → lo + n ≤ length planned
    → Layout q lo n w l pool' planned' W' r
layout q lo n w l pool pool' planned planned' W' r P hp hd =
    record {
      sources =
          ap (stretch q.places lo n) P.sources
          ∙ taken-written (lo * q.places) (n * q.places) (column q.places (λ (s : Star). s.payload.word) (plans q lo 0 n w l)) pool (length-sources q lo n w l) (omega (arith, add-mul lo n q.places));
      separators_are =
          ap (λ (m : List ℕ). take n (drop lo m)) P.separators_are
          ∙ taken-written lo n (separators (plans q lo 0 n w l)) planned (length-planned q lo n w l) (omega arith);
      passed = P.passed;
      counted = P.counted;
    }

-- the next stretch planned: where none of its words b is homed below it, the two are one
pub layout-next : (q : Parameters) (lo n m : ℕ) (w a b pool pool' planned planned' W W' : List ℕ) (r r' : ℕ)
    → groups_below lo n a ≡ true → from (lo + n) b ≡ true → (lo + n) * q.places ≤ length pool → lo + n ≤ length planned
    → Layout q lo n w a pool planned W r → Planned q (lo + n) m (take r W) b pool pool' planned planned' W' r'
    → Layout q lo (n + m) w (a ++ b) pool' planned' W' r'
layout-next q lo n m w a b pool pool' planned planned' W W' r r' ga fb hp hd A P =
    let both = plans-blocks q lo n m w a b ga fb in
    let cs : List Contents = plans q lo 0 n w a in
    let ds : List Contents = plans q (lo + n) 0 m (take r W) b in
    let all-pages : plans q lo 0 (n + m) w (a ++ b) ≡ cs ++ ds
    = both.0 ∙ ap (λ (u : List ℕ). cs ++ plans q (lo + n) 0 m u b) (sym A.passed) in
    let past : remains q (lo + n) 0 m (take r W) b ≡ remains q lo 0 (n + m) w (a ++ b)
    = ap (λ (u : List ℕ). remains q (lo + n) 0 m u b) A.passed ∙ sym both.1 in
    record {
      sources =
          ap (stretch q.places lo (n + m)) P.sources
          ∙ stretch-on q.places lo n m (column q.places (λ (s : Star). s.payload.word) ds) pool (length-sources q (lo + n) m (take r W) b) hp
          ∙ ap (λ (x : List ℕ). x ++ column q.places (λ (s : Star). s.payload.word) ds) A.sources
          ∙ sym (column-append q.places (λ (s : Star). s.payload.word) cs ds)
          ∙ ap (column q.places (λ (s : Star). s.payload.word)) (sym all-pages);
      separators_are =
          ap (λ (x : List ℕ). take (n + m) (drop lo x)) P.separators_are
          ∙ taken-on lo n m (separators ds) planned (length-planned q (lo + n) m (take r W) b) hd
          ∙ ap (λ (x : List ℕ). x ++ separators ds) A.separators_are
          ∙ sym (separators-append cs ds)
          ∙ ap separators (sym all-pages);
      passed = P.passed ∙ past;
      counted = P.counted ∙ ap length past;
    }

-- applying the plan replaces the stretch by the planned pages, with the words and owners that the sources name
pub applied-layout : (q : Parameters) (lo n newnumber newword newowner : ℕ) (f : File) (w l pool planned W : List ℕ) (r : ℕ) → Layout q lo n w l pool planned W r
    → sourced f.numbers newnumber w ≡ true → sourced f.numbers newnumber l ≡ true
    → applied q.places lo n newnumber newword newowner pool planned f ≡ replaced q.places f lo (map (mapped (renamed f.words f.owners newword newowner)) (plans q lo 0 n w l))
applied-layout q lo n newnumber newword newowner f w l pool planned W r A sw sl =
    applied-is q.places lo n newnumber newword newowner pool planned f (plans q lo 0 n w l) A.sources A.separators_are
    (plans-sourced f.numbers newnumber q lo 0 n w l sw sl)

-- the homes that a survey leaves in the pool
pub surveyed-homes : (p : Parameters) (g : Growth) (places lo n : ℕ) (hs ns : List ℕ) → (lo + n) * places ≤ length hs → (lo + n) * places ≤ length ns
    → stretch places lo n (paste hs (lo * places) (homes_of p g (drop (lo * places) ns)) (n * places)) ≡ map (item_home (hash_of p g)) (stretch places lo n ns)
surveyed-homes p g places lo n hs ns hh hn =
    let items : List ℕ = map (item_home (hash_of p g)) (drop (lo * places) ns) in
    let long : n * places ≤ length items = rw (length-map (drop (lo * places) ns) (item_home (hash_of p g)), length-drop (lo * places) ns) (omega (arith, add-mul lo n places)) in
    ap (λ (l : List ℕ). stretch places lo n (paste hs (lo * places) l (n * places))) (homes-real p g (drop (lo * places) ns))
    ∙ ap (stretch places lo n) (paste_written hs (lo * places) items (n * places) long)
    ∙ taken-written (lo * places) (n * places) (take (n * places) items) hs (length-take-le (n * places) items long) (omega (arith, add-mul lo n places))
    ∙ map-take (item_home (hash_of p g)) (n * places) (drop (lo * places) ns)

-- the words of two stretches, one after the other
pub stretch-words-add : (places lo n m k : ℕ) (ns hs : List ℕ) → (lo + n) * places ≤ length ns → (lo + n) * places ≤ length hs
    → stretch_words places lo (n + m) k ns hs ≡ stretch_words places lo n k ns hs ++ stretch_words places (lo + n) m k ns hs
stretch-words-add places lo n m k ns hs hn hh =
    let ln : length (stretch places lo n ns) ≡ n * places = length-stretch places lo n ns hn in
    let lh : length (stretch places lo n hs) ≡ n * places = length-stretch places lo n hs hh in
    let seam : lo * places + length (stretch places lo n ns) ≡ (lo + n) * places = omega (arith, add-mul lo n places) in
    ap (λ (l : List ℕ). words_from (lo * places) k l (stretch places lo (n + m) hs)) (stretch-add places lo n m ns)
    ∙ ap (λ (l : List ℕ). words_from (lo * places) k (stretch places lo n ns ++ stretch places (lo + n) m ns) l) (stretch-add places lo n m hs)
    ∙ words_append (lo * places) k (stretch places lo n ns) (stretch places lo n hs) (stretch places (lo + n) m ns) (stretch places (lo + n) m hs) (ln ∙ sym lh)
    ∙ ap (λ (at : ℕ). stretch_words places lo n k ns hs ++ words_from at k (stretch places (lo + n) m ns) (stretch places (lo + n) m hs)) seam

-- as many stars are left as words
pub left-count : (g : Star → Star) (l : List ℕ) (t : List Star) → map g (waits l) ≡ t → length t ≡ length l
left-count g l t e = ap length (sym e) ∙ length-map (waits l) g ∙ length-waits l

-- what is carried past a stretch carries true homes
pub remains-homed : (H : Hash) (q : Parameters) → Probes H q → (lo v n : ℕ) (w l : List ℕ) → homed H w ≡ true → homed H l ≡ true → homed H (remains q lo v n w l) ≡ true
unfolding remains
remains-homed H q real lo v zero w l hw hl = hw
remains-homed H q real lo v (suc n) w l hw hl =
    remains-homed H q real lo (suc v) n (carried_on_lem q (lo + v) (w ++ group lo v l)) l
    (homed-onward H q real (lo + v) (w ++ group lo v l) (homed-probing H q real lo v w l hw hl)) hl
