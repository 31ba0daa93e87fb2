-- The named page has room: the cascade ends there, with all its stars and the new one under the stored separator.
use mathlib.Core.Path.{◌≡◌, refl, sym, ap, ◌∙◌}
use mathlib.Core.Bool.{true}
use mathlib.Core.List.{List, [], ◌∷◌, ◌++◌, map}
use Prim.Native.Nat.{ℕ, ◌+◌, ◌-◌, ◌*◌, ◌≤◌, ◌<◌}
use native.Mathlib.Nat.{add-zero, zero-add, one-mul, sub-zero, mul-le-mul_right}
use native.Mathlib.Omega.{arith}
use lib.Dec.{eqb}
use lib.ListN.{length, take, drop, get_or, set, replicate, length-map}
use lib.Seq.{slice, get_or-take, get_or-drop, take-suc-set, length-take-le}
use borrow.Author.Tests.{lt-ltb, eqb-true, eq-eqb}
use Rattle.buffers.proofs.Written.{set-written}
use Rattle.hashing.specs.declared.Parameters.{Parameters}
use Rattle.hashing.specs.declared.Growth.{Growth}
use Rattle.hashing.specs.Limits.{valid_parameters}
use Rattle.hashing.proofs.Bounds.{limits}
use Rattle.pages.specs.declared.page.Page.{Page}
use Rattle.pages.specs.Shape.{page_at}
use Rattle.pages.specs.Position.{valid_number}
use Rattle.placement.specs.Rule.{Star, Contents, separators}
use Rattle.placement.specs.File.{File, padded, column, written}
use Rattle.placement.specs.Shape.{Sized}
use Rattle.placement.specs.Hash.{hash_of, sound_at, named_page_lem}
use Rattle.placement.specs.Shape.{homes_of, home_in}
use Rattle.placement.proofs.Standing.{first_below}
use Rattle.placement.proofs.Separator.{below-signature}
use Rattle.page_separator.specs.Lists.{all}
use Rattle.page_separator.specs.Words.{home_of, number_in, source_of, low_of}
use Rattle.page_plan.specs.Gather.{words_from, stars_in}
use Rattle.page_separator.specs.Probes.{signature_of, under, staying_words, passing_words, words_separator_from}
use Rattle.page_plan.specs.Settle.{slots_of}
use Rattle.page_separator.proofs.Lists.{all_head, all_tail, all_cons, filter-all}
use Rattle.page_separator.proofs.Cutting.{separator_found}
use Rattle.page_plan.proofs.Items.{words_count}
use Rattle.page_separator.proofs.Packing.{number-pack}
use Rattle.page_plan.specs.Plans.{waits, homed}
use Rattle.page_plan.proofs.RuleOverWords.{homed-append}
use Rattle.page_plan.proofs.Stretch.{sources_column}
use Rattle.page_plan.proofs.Placed.{probes-real, new-homed}
use Rattle.entry_reach.specs.declared.blocks.Reach.TheVariants.{Ends}
use Rattle.entry_reach.specs.Entry.{Unheld, entry_start, block_numbers, block_words}
use Rattle.entry_reach.proofs.Items.{numbers_count, items-few, stretch-homes}
use Rattle.entry_reach.proofs.Joined.{new_word}
use Rattle.entry_reach.specs.Pushing.{page_words, lowered_to, lowered_on}
use Rattle.entry_cascade.specs.Cascade.{Plans}
use Rattle.entry_reach.proofs.Tying.{parted}
use Rattle.entry_cascade.proofs.Appending.{stars-fewer, words-low}
use Rattle.entry_reach.proofs.PageWords.{page-numbers, page-homed, page-named}
use Rattle.entry_cascade.proofs.Loading.{stars-count, loaded-numbers}
use Rattle.entry_reach.proofs.Pushed.{pushed_none, pushed-next, page-inside, small, few}
use Rattle.entry_cascade.proofs.Answers.{plans-ends}

-- waiting stars are known by the low parts of their words
pub waits-low : (a b : List ℕ) → map low_of a ≡ map low_of b → waits a ≡ waits b
unfolding waits slots_of
waits-low a b e = rw e

module _ (p : Parameters) (g : Growth) (f : File) (k page : ℕ) (valid : valid_parameters p ≡ true) (sized : Sized p.places p.pages f)
    (number : valid_number k ≡ true) (unheld : Unheld p g f k) (here : page ≡ named_page_lem p g f.separators k) where
  abbrev stored : ℕ
  stored = get_or f.separators page 0

  abbrev met : List ℕ
  met = new_word p g f k ∷ page_words p g f page

  inside : page < p.pages
  inside = page-inside p g f k page valid sized number unheld here

  pub sound : sound_at p g f page ≡ true
  sound = rw here unheld.sound

  -- a word whose star stands on the page has a signature below its separator
  stands-under : (w : ℕ) → eqb ((hash_of p g).home (number_in w)) (home_of w) ≡ true → eqb (named_page_lem p g f.separators (number_in w)) page ≡ true → under p page stored w ≡ true
  unfolding under signature_of named_page_lem hash_of
  stands-under w h n =
      let low = below-signature (hash_of p g) page stored (number_in w)
      (rw (zero-add page) at (first_below (hash_of p g) 0 page f.separators (number_in w) (omega (arith, sized.of_separators, inside)) (eqb-true (named_page_lem p g f.separators (number_in w)) page n ∙ sym (zero-add page)))) in
      lt-ltb (signature_of p page w) stored (rw (eqb-true ((hash_of p g).home (number_in w)) (home_of w) h) at low)

  met-homed : homed (hash_of p g) met ≡ true
  met-homed =
      homed-append (hash_of p g) p (probes-real p g) (new_word p g f k ∷ []) (page_words p g f page)
      (new-homed (hash_of p g) (entry_start p g k) k (length f.numbers + 1) refl (small p g f k page valid sized number unheld here) (few p g f k page valid sized number unheld here))
      (page-homed p g f valid sized page inside sound)

  met-named : all (λ w. eqb (named_page_lem p g f.separators (number_in w)) page) met ≡ true
  met-named =
      all_cons (λ w. eqb (named_page_lem p g f.separators (number_in w)) page) (new_word p g f k) (page_words p g f page)
      (rw (number-pack (entry_start p g k) k (length f.numbers + 1) (small p g f k page valid sized number unheld here) (few p g f k page valid sized number unheld here))
      (eq-eqb (named_page_lem p g f.separators k) page (sym here)))
      (page-named p g f valid sized page inside sound)

  met-under : all (under p page stored) met ≡ true
  met-under = go met (unfold homed in met-homed) met-named
    where
      go : (l : List ℕ) → all (λ w. eqb ((hash_of p g).home (number_in w)) (home_of w)) l ≡ true → all (λ w. eqb (named_page_lem p g f.separators (number_in w)) page) l ≡ true → all (under p page stored) l ≡ true
      go [] a b = unfold all in refl
      go (w ∷ l) a b =
          all_cons (under p page stored) w l
          (stands-under w (all_head (λ x. eqb ((hash_of p g).home (number_in x)) (home_of x)) w l a) (all_head (λ x. eqb (named_page_lem p g f.separators (number_in x)) page) w l b))
          (go l (all_tail (λ x. eqb ((hash_of p g).home (number_in x)) (home_of x)) w l a) (all_tail (λ x. eqb (named_page_lem p g f.separators (number_in x)) page) w l b))

  all_stay : staying_words p page stored met ≡ met
  unfolding staying_words
  all_stay = filter-all (under p page stored) met met-under

  module _ (room : length (page_words p g f page) < p.places) where
    same-separator : words_separator_from p page met stored ≡ stored
    same-separator = separator_found p page met stored stored (omega arith) (rw all_stay (omega arith)) (λ h. absurd (omega arith))

    filled-to : lowered_to p page stored met ≡ record { separator = stored; stars = waits met }
    unfolding lowered_to
    filled-to = rw (same-separator, all_stay)

    none-on : length (lowered_on p page stored met) ≡ 0
    unfolding lowered_on
    none-on = omega (arith, ap (λ (v : ℕ). length (passing_words p page v met)) same-separator, parted p page stored met, ap length all_stay)

    pub plans-filled : (pool planned pool' planned' : List ℕ) → length pool ≡ p.pages * p.places → p.pages ≤ length planned
        → pool' ≡ written (page * p.places) (column p.places (λ (s : Star). s.payload.word) (record { separator = stored; stars = waits met } ∷ [])) pool
        → planned' ≡ written page (stored ∷ []) planned → Plans p g f k page pool' planned' (Ends page)
    plans-filled pool planned pool' planned' lp ln ep en =
        plans-ends p g f k page pool' planned' (lowered_on p (page + 0) (get_or f.separators (page + 0) 0) (new_word p g f k ∷ page_words p g f (page + 0))) 1
        (pushed-next p g f k page valid sized number unheld here pool planned (new_word p g f k ∷ []) 0 (pushed_none p g f k page valid sized number unheld here pool planned)
        (omega arith) (omega (arith, inside)) (rw (add-zero page) sound) pool' planned'
        (rw (add-zero page, lp) (mul-le-mul_right p.places (omega (arith, inside)))) (omega (arith, inside))
        (rw (add-zero page, filled-to) ep) (rw (add-zero page) separators-there))
        (rw (add-zero page) none-on) page refl (omega arith)
      where
        separators-there : planned' ≡ written page (separators (lowered_to p page stored met ∷ [])) planned
        separators-there = en ∙ ap (λ (c : Contents). written page (c.separator ∷ []) planned) (sym filled-to) ∙ (unfold separators in refl)

    -- as the code fills it: the page value's words, homed nowhere, behind the new one
    module _ (v : Page) (loaded : v ≡ page_at p.places page f.numbers f.words f.owners) where
      abbrev unhomed : List ℕ
      unhomed = words_from (page * p.places) 0 (take p.places v.numbers) (take p.places (replicate 32 0))

      same_numbers : take p.places v.numbers ≡ block_numbers p f page 1
      same_numbers = loaded-numbers p g f valid sized page inside v loaded

      numbers_long : length (block_numbers p f page 1) ≡ p.places
      numbers_long = numbers_count p g f valid sized page 1 (omega (arith, inside)) ∙ one-mul p.places

      zeros-long : length (take {A = ℕ} p.places (replicate 32 0)) ≡ p.places
      zeros-long = length-take-le {A = ℕ} p.places (replicate 32 0) (omega (arith, (limits p valid).places_most))

      pub stars-loaded : stars_in 0 (take p.places v.numbers) ≡ length (page_words p g f page)
      stars-loaded = ap (stars_in 0) same_numbers ∙ sym (stars-count p g f valid sized page inside)

      unhomed-count : length unhomed ≡ length (page_words p g f page)
      unhomed-count =
          words_count (page * p.places) 0 (take p.places v.numbers) (take p.places (replicate 32 0))
          (omega (arith, ap length same_numbers, numbers_long, zeros-long))
          ∙ stars-loaded

      unhomed-low : map low_of unhomed ≡ map low_of (page_words p g f page)
      unfolding block_words homes_of
      unhomed-low =
          rw (same_numbers, stretch-homes p g f valid sized page 1 (omega (arith, inside)))
          (words-low (page * p.places) (block_numbers p f page 1) (take p.places (replicate 32 0)) (map (home_in p g) (block_numbers p f page 1))
          (page-numbers p g f valid sized page inside sound) (items-few p g f valid sized page 1 (omega (arith, inside)))
          (omega (arith, numbers_long, zeros-long)) (omega (arith, length-map (block_numbers p f page 1) (home_in p g))))

      pub plans-fill : (pool planned pool' W W' slots : List ℕ) (x reach : ℕ) → length pool ≡ p.pages * p.places → p.pages ≤ length planned → 0 < length W → x ≡ new_word p g f k
          → take reach W' ≡ take 1 (set W 0 x) ++ unhomed → take (reach - 0) slots ≡ slots_of (slice 0 reach W')
          → pool' ≡ written (page * p.places) (padded p.places (map source_of (take reach slots))) pool → Plans p g f k page pool' (set planned page stored) (Ends page)
      plans-fill pool planned pool' W W' slots x reach lp ln some ex ew es ep =
          plans-filled pool planned pool' (set planned page stored) lp ln
          (ep ∙ ap (λ (l : List ℕ). written (page * p.places) l pool) (sources_column p.places stored reach slots (new_word p g f k ∷ unhomed) slots-are ∙ same-column))
          (set-written planned page stored (omega (arith, inside)))
        where
          front : take 1 (set W 0 x) ≡ new_word p g f k ∷ []
          front = take-suc-set W 0 x some ∙ ap (λ (y : ℕ). y ∷ []) ex

          slots-are : take reach slots ≡ slots_of (new_word p g f k ∷ unhomed)
          slots-are = ap (λ (n : ℕ). take n slots) (sym (sub-zero reach)) ∙ es ∙ ap slots_of (ew ∙ ap (λ (l : List ℕ). l ++ unhomed) front)

          same-column : column p.places (λ (s : Star). s.payload.word) (record { separator = stored; stars = waits (new_word p g f k ∷ unhomed) } ∷ [])
              ≡ column p.places (λ (s : Star). s.payload.word) (record { separator = stored; stars = waits met } ∷ [])
          same-column =
              ap (λ (l : List Star). column p.places (λ (s : Star). s.payload.word) (record { separator = stored; stars = l } ∷ []))
              (waits-low (new_word p g f k ∷ unhomed) met (ap (λ (l : List ℕ). low_of (new_word p g f k) ∷ l) unhomed-low))

      pub fill_reach : (reach : ℕ) → reach ≡ 1 + length unhomed → reach ≤ p.places
      fill_reach reach e = omega (arith, unhomed-count)

  -- the last place is empty
  pub last_empty : get_or f.numbers (page * p.places + p.places - 1) 0 ≡ 0 → length (page_words p g f page) < p.places
  last_empty e =
      let some : 0 < p.places = (limits p valid).places_least in
      let count : length (block_numbers p f page 1) ≡ p.places = numbers_count p g f valid sized page 1 (omega (arith, inside)) ∙ one-mul p.places in
      let there : page * p.places + (p.places - 1) ≡ page * p.places + p.places - 1 = omega arith in
      let last : get_or (block_numbers p f page 1) (p.places - 1) 0 ≡ 0 =
      get_or-take (1 * p.places) (drop (page * p.places) f.numbers) (p.places - 1) 0 (omega (arith, one-mul p.places))
      ∙ get_or-drop (page * p.places) f.numbers (p.places - 1) 0
      ∙ ap (λ (i : ℕ). get_or f.numbers i 0) there
      ∙ e in
      omega (arith, stars-count p g f valid sized page inside, stars-fewer (block_numbers p f page 1) (p.places - 1) (omega arith) last)
