-- The loop that pushes newcomers: what stands when it comes to page `at`, and what it answers.
use mathlib.Core.Path.{◌≡◌, refl, sym, ap, ◌∙◌, subst}
use mathlib.Core.Bool.{Bool, true, false, cond}
use mathlib.Core.List.{List, [], ◌∷◌, ◌++◌, append-nil}
use Prim.Native.Nat.{ℕ, suc, ◌+◌, ◌-◌, ◌*◌, ◌^◌, ◌≤◌, ◌<◌}
use native.Mathlib.Nat.{add-zero, one-mul, suc-mul, mul-le-mul, mul-le-mul_right}
use native.Mathlib.Numerals.{add-one}
use native.Mathlib.Omega.{arith}
use lib.Dec.{leb, ltb}
use lib.ListN.{length, take, drop, get_or, set, length-append, length-take, length-drop, length-set}
use lib.Seq.{slice, length-slice, take-suc-set, drop-append-le, length-take-le}
use borrow.Author.Tests.{ltb-true}
use Rattle.buffers.proofs.Written.{around}
use Rattle.hashing.specs.declared.Parameters.{Parameters}
use Rattle.hashing.specs.declared.Growth.{Growth}
use Rattle.hashing.specs.Limits.{valid_parameters}
use Rattle.hashing.proofs.Bounds.{limits}
use Rattle.pages.specs.Position.{valid_number}
use Rattle.pages.specs.Page.{part}
use Rattle.pages.specs.Shape.{stretch}
use Rattle.pages.proofs.Parts.{page-fits, part-back}
use Rattle.placement.specs.Rule.{Star}
use Rattle.placement.specs.File.{File, written, replaced}
use Rattle.placement.specs.Shape.{Sized}
use Rattle.placement.specs.Hash.{hash_of, sound_at, named_page_lem}
use Rattle.placement.specs.Shape.{homes_of}
use Rattle.placement.proofs.Writing.{length-column}
use Rattle.page_separator.specs.Lists.{selected, all_below}
use Rattle.page_separator.specs.Words.{home_of}
use Rattle.page_separator.specs.Probes.{Probing, homes_up_to, words_separator_from}
use Rattle.page_separator.proofs.Lists.{all_head, all_tail, all_append}
use Rattle.page_separator.proofs.Counting.{alike-here}
use Rattle.page_separator.proofs.Cutting.{separator_fits}
use Rattle.page_plan.specs.Gather.{group_of, group, grouped, groups_below, skipped, stars_in, stretch_words}
use Rattle.page_plan.specs.Sources.{renamed}
use Rattle.page_plan.proofs.Items.{words-length}
use Rattle.page_plan.proofs.Applying.{applied, applied-is}
use Rattle.reach.specs.Reach.{pages_to}
use Rattle.reach.specs.Cascade.{cascaded, carried_past}
use Rattle.entry_reach.specs.Entry.{Unheld, KnownTo, new_star_lem, block_numbers, block_words}
use Rattle.entry_reach.specs.Pushing.{page_words, lowered_on, Lowered, PushedPage, PushedTo, Pushed}
use Rattle.entry_reach.specs.declared.newcomers.Onward.{Onward}
use Rattle.entry_reach.proofs.Items.{numbers_count, stretch-homes, numbers_below, homes-below, block-grouped}
use Rattle.entry_reach.proofs.Joined.{new_word}
use Rattle.entry_reach.proofs.Tying.{parted}
use Rattle.entry_reach.proofs.PageWords.{page-near}
use Rattle.entry_reach.proofs.Settled.{lowered-roomy}
use Rattle.entry_reach.proofs.Pushed.{carried-length, pushed_none, pushed-next}

-- a page after page p, of a list whose first parts are p pages and one more
part-after : (b p q : ℕ) (xs ys zs : List ℕ) → length xs ≡ p * b → length ys ≡ b → p + 1 ≤ q → part b q (xs ++ (ys ++ zs)) ≡ part b (q - (p + 1)) zs
part-after b p q xs ys zs ex ey h =
    let sum : q ≡ p + (1 + (q - (p + 1))) = omega arith in
    ap (λ (n : ℕ). part b n (xs ++ (ys ++ zs))) sum
    ∙ part-back b p (1 + (q - (p + 1))) xs (ys ++ zs) ex
    ∙ part-back b 1 (q - (p + 1)) ys zs (ey ∙ sym (one-mul b))

-- what is written on page p leaves the pages after it
pub part-past : (b p q : ℕ) (s l : List ℕ) → length s ≡ b → p * b + b ≤ length l → p + 1 ≤ q → part b q (written (p * b) s l) ≡ part b q l
unfolding written
part-past b p q s l e long h =
    part-after b p q (take (p * b) l) s (drop (p * b + length s) l) low e h
    ∙ ap (λ (n : ℕ). part b (q - (p + 1)) (drop (p * b + n) l)) e
    ∙ sym (part-after b p q (take (p * b) l) (take b (drop (p * b) l)) (drop (p * b + b) l) low (length-take-le b (drop (p * b) l) (omega (arith, length-drop (p * b) l))) h)
    ∙ ap (part b q) (sym (around (p * b) b l))
  where
    low : length (take (p * b) l) ≡ p * b
    low = length-take-le (p * b) l (omega arith)

-- words that are all of the first group stand as they came
pub one-group : (lo : ℕ) (l : List ℕ) → groups_below lo 1 l ≡ true → grouped lo 0 1 l ≡ l
unfolding grouped
one-group lo l h = append-nil (group lo 0 l) ∙ first l h
  where
    first : (l : List ℕ) → groups_below lo 1 l ≡ true → group lo 0 l ≡ l
    first [] h = unfold selected in refl
    first (w ∷ l) h =
        alike-here (group_of lo) 0 w l (omega (arith, ltb-true (group_of lo w) 1 (all_head (λ x. ltb (group_of lo x) 1) w l h)))
        ∙ ap (λ (t : List ℕ). w ∷ t) (first l (all_tail (λ x. ltb (group_of lo x) 1) w l h))

-- no more stars than items
stars-most : (ns : List ℕ) → stars_in 0 ns ≤ length ns
unfolding stars_in
stars-most [] = omega arith
stars-most (n ∷ ns) = go (skipped 0 n) (stars-most ns)
  where
    go : (t : Bool) → stars_in 0 ns ≤ length ns → cond t (stars_in 0 ns) (suc (stars_in 0 ns)) ≤ suc (length ns)
    go true ih = omega arith
    go false ih = omega arith

-- a known page, as its words are gathered from the pool
module _ (p : Parameters) (g : Growth) (f : File) (valid : valid_parameters p ≡ true) (sized : Sized p.places p.pages f) (q : ℕ) (inside : q < p.pages)
    (sound : sound_at p g f q ≡ true) (pool : List ℕ) (kept : part p.places q pool ≡ homes_of p g (part p.places q f.numbers)) where
  alone : (r : ℕ) → q ≤ r → r < q + 1 → sound_at p g f r ≡ true
  alone r a b = let same : r ≡ q = omega arith in rw same sound

  pub known-homes : stretch p.places q 1 pool ≡ homes_of p g (block_numbers p f q 1)
  unfolding part
  known-homes = rw (one-mul p.places) kept

  pub known-words : stretch_words p.places q 1 0 f.numbers pool ≡ page_words p g f q
  unfolding block_words
  known-words = rw (known-homes, stretch-homes p g f valid sized q 1 (omega arith))

  pub known-numbers : all_below (2 ^ 31) (block_numbers p f q 1) ≡ true
  known-numbers = numbers_below p g f valid sized q 1 (omega arith) alone

  pub known-below : all_below (q + 1) (stretch p.places q 1 pool) ≡ true
  known-below = rw known-homes (homes-below p g f valid sized q 1 (omega arith) alone)

  pub known-grouped : groups_below q 1 (stretch_words p.places q 1 0 f.numbers pool) ≡ true
  known-grouped = rw known-words (block-grouped p g f valid sized q 1 (omega arith) alone)

  pub words-room : length (page_words p g f q) ≤ p.places
  unfolding block_words
  words-room =
      omega (
        arith,
        words-length (q * p.places) 0 (block_numbers p f q 1) (stretch p.places q 1 (homes_of p g f.numbers)),
        numbers_count p g f valid sized q 1 (omega arith),
        one-mul p.places,
      )

  pub stars-room : stars_in 0 (block_numbers p f q 1) ≤ p.places
  stars-room = omega (arith, stars-most (block_numbers p f q 1), numbers_count p g f valid sized q 1 (omega arith), one-mul p.places)

-- what probes a page whose words have come
pub met-joined : (from end reach : ℕ) (W W' w : List ℕ) → from ≤ end → end ≤ length W → take reach W' ≡ take end W ++ w → slice from reach W' ≡ slice from end W ++ w
met-joined from end reach W W' w low within words = ap (drop from) words ∙ drop-append-le from (take end W) w (omega (arith, length-take-le end W within))

module _ (p : Parameters) (g : Growth) (f : File) (valid : valid_parameters p ≡ true) (sized : Sized p.places p.pages f) (q : ℕ) (inside : q < p.pages)
    (sound : sound_at p g f q ≡ true) (from end reach : ℕ) (W W' : List ℕ) (low : from ≤ end) (within : end ≤ length W) (ends : reach ≡ end + length (page_words p g f q))
    (words : take reach W' ≡ take end W ++ page_words p g f q) where
  reach-within : reach ≤ length W'
  reach-within = omega (arith, ap length words, length-append (take end W) (page_words p g f q), length-take-le end W within, ends, length-take reach W')

  pub met-probing : homes_up_to q (slice from end W) ≡ true → length W' ≡ p.pages * p.places → Probing q from reach W'
  met-probing near lw =
      record {
        order = omega (arith, ends, low);
        inside = reach-within;
        most = let l = limits p valid in omega (arith, reach-within, lw, mul-le-mul l.pages_most l.places_most);
        page = omega (arith, (limits p valid).pages_most);
        homes =
            rw (met-joined from end reach W W' (page_words p g f q) low within words)
            (all_append (λ w. leb (home_of w) q) (slice from end W) (page_words p g f q) near (page-near p g f valid sized q inside sound));
      }

-- the pages below `at` are planned, and the words carried on stand from `from` up to `end`
pub record Rolling (p : Parameters) (g : Growth) (f : File) (k page : ℕ) (pool planned W : List ℕ) (at from end : ℕ) : Type 0 where
  pub done : ℕ
  pub place : at ≡ page + done
  pub carried : Pushed p g f k page pool planned (slice from end W) done
  pub some : from < end
  pub within : end ≤ length W
  pub kept : from ≤ done * p.places
  pub come : end ≤ suc (done * p.places)

module _ (p : Parameters) (g : Growth) (f : File) (k page : ℕ) (valid : valid_parameters p ≡ true) (sized : Sized p.places p.pages f)
    (number : valid_number k ≡ true) (unheld : Unheld p g f k) (here : page ≡ named_page_lem p g f.separators k) where
  pub rolling_none : (pool planned W : List ℕ) → 0 < length W → Rolling p g f k page pool planned (set W 0 (new_word p g f k)) page 0 1
  rolling_none pool planned W some =
      record {
        done = 0;
        place = sym (add-zero page);
        carried = rw (take-suc-set W 0 (new_word p g f k) some) (pushed_none p g f k page valid sized number unheld here pool planned);
        some = omega arith;
        within = rw (length-set W 0 (new_word p g f k)) some;
        kept = omega arith;
        come = omega arith;
      }

  module _ (pool planned W : List ℕ) (at from end : ℕ) (R : Rolling p g f k page pool planned W at from end) where
    carried-long : length (slice from end W) ≡ end - from
    carried-long = length-slice from end W R.within

    some-carried : 0 < length (slice from end W)
    some-carried = omega (arith, carried-long, R.some)

    pub rolling_near : homes_up_to at (slice from end W) ≡ true
    rolling_near = rw R.place R.carried.words.near

    -- the list has room for the words of one more page
    pub rolling_room : (stop : ℕ) → at < stop → stop - page < p.pages → end + p.places ≤ p.pages * p.places
    rolling_room stop h few =
        omega (
          arith,
          R.come,
          R.place,
          (limits p valid).places_least,
          suc-mul (suc R.done) p.places,
          suc-mul R.done p.places,
          mul-le-mul_right {m = suc (suc R.done)} {n = p.pages} p.places (omega (arith, R.place)),
        )

    -- the pages up to `last` are passed
    pub rolling_leaves : (last : ℕ) → page ≤ last → at ≡ last + 1 → Pushed p g f k page pool planned (slice from end W) (pages_to page last)
    rolling_leaves last h e =
        let same : R.done ≡ pages_to page last = omega (arith, R.place) in
        subst (Pushed p g f k page pool planned (slice from end W)) same R.carried

    -- page `at` is sound, and newcomers and its stars are settled
    module _ (inside : at < p.pages) (sound : sound_at p g f at ≡ true) (few_words : length (page_words p g f at) ≤ p.places) (lp : length pool ≡ p.pages * p.places) (ln : p.pages ≤ length planned)
        (pool' planned' W' : List ℕ) (o : Onward) (S : PushedPage p g f at end (slice from end W) pool pool' planned planned' W' o) (reach-within : o.reach ≤ length W') where
      abbrev r : ℕ
      r = o.from

      abbrev reach : ℕ
      reach = o.reach

      abbrev met : List ℕ
      met = slice from end W ++ page_words p g f at

      abbrev stored : ℕ
      stored = get_or f.separators at 0

      settled : Lowered p at stored met reach pool pool' planned planned' W' r
      settled = S.lowered

      pub reach-come : reach ≤ suc (R.done * p.places + p.places)
      reach-come = omega (arith, S.ends, R.come, few_words)

      next : Pushed p g f k page pool' planned' (slice r reach W') (R.done + 1)
      next =
          let N : Lowered p (page + R.done) (get_or f.separators (page + R.done) 0) (slice from end W ++ page_words p g f (page + R.done)) reach pool pool' planned planned' W' r = rw R.place at settled in
          rw N.passed
          (pushed-next p g f k page valid sized number unheld here pool planned (slice from end W) R.done R.carried some-carried
          (omega (arith, R.place)) (rw R.place at sound) pool' planned'
          (rw lp (mul-le-mul_right p.places (omega (arith, R.place)))) (omega (arith, R.place)) N.sources N.separator)

      met-long : length met ≡ reach - from
      met-long = length-append (slice from end W) (page_words p g f at) ∙ omega (arith, carried-long, S.ends, R.some)

      -- at most b words stay
      start-least : r ≤ from + p.places
      unfolding lowered_on
      start-least =
          omega (
            arith,
            settled.start,
            parted p at (words_separator_from p at met stored) met,
            separator_fits p at met stored,
            met-long,
            S.ends,
            R.some,
          )

      pub start-most : r ≤ reach
      start-most = omega (arith, settled.start)

      pub rolling_ends : r ≡ reach → (word owner : ℕ) → PushedTo p g f k word owner page pool' planned' at
      rolling_ends e word owner =
          record {
            within = ap (λ (n : ℕ). carried_past (hash_of p g) f page n (new_star_lem k word owner ∷ [])) count ∙ nothing (carried_past (hash_of p g) f page (R.done + 1) (new_star_lem k word owner ∷ [])) none;
            applies =
                ap (λ (n : ℕ). applied p.places page n k word owner pool' planned' f) count
                ∙ applied-is p.places page (R.done + 1) k word owner pool' planned' f next.contents next.sources next.separators_are next.all_sourced
                ∙ ap (replaced p.places f page) (next.are word owner)
                ∙ ap (λ (n : ℕ). replaced p.places f page (cascaded (hash_of p g) f page n (new_star_lem k word owner ∷ []))) (sym count);
          }
        where
          count : pages_to page at ≡ R.done + 1
          count = omega (arith, R.place)

          nothing : (l : List Star) → length l ≡ 0 → l ≡ []
          nothing [] e = refl
          nothing (s ∷ l) e = absurd (omega arith)

          none : length (carried_past (hash_of p g) f page (R.done + 1) (new_star_lem k word owner ∷ [])) ≡ 0
          none =
              ap length (sym (next.carried word owner))
              ∙ carried-length (renamed f.words f.owners word owner) (slice r reach W')
              ∙ length-slice r reach W' (omega (arith, reach-within))
              ∙ omega arith

      pub rolling_next : (r ≡ reach → ⊥) → Rolling p g f k page pool' planned' W' (at + 1) r reach
      rolling_next more =
          record {
            done = R.done + 1;
            place = omega (arith, R.place);
            carried = next;
            some = omega (arith, start-most, more);
            within = omega (arith, reach-within);
            kept = rw (add-one R.done, suc-mul R.done p.places) (omega (arith, start-least, R.kept));
            come = rw (add-one R.done, suc-mul R.done p.places) reach-come;
          }

      -- the sources written stand on page `at`: the pages after it are known as before
      pub rolling_known : (tested : ℕ) → KnownTo p g f pool at tested → KnownTo p g f pool' (at + 1) tested
      rolling_known tested k q a h =
          record {
            sound = (k q (omega arith) h).sound;
            kept = λ i. ap (part p.places q) settled.sources ∙ part-past p.places at q _ pool (length-column p.places _ _ (lowered-roomy p at stored met, tt) ∙ one-mul p.places) (page-fits p.places p.pages at inside lp) a ∙ (k q (omega arith) h).kept i;
          }
