-- The plan of the pages from home on, joined block by block, against the rule over their stars and the new one.
use mathlib.Core.Path.{◌≡◌, refl, sym, ap, ◌∙◌}
use mathlib.Core.Bool.{true, not}
use mathlib.Core.List.{List, [], ◌∷◌, ◌++◌, map}
use Prim.Native.Nat.{ℕ, suc, ◌+◌, ◌*◌, ◌^◌, ◌≤◌, ◌<◌}
use native.Mathlib.Nat.{mul-le-mul, mul-le-mul_right, le_refl}
use native.Mathlib.Omega.{arith}
use lib.Dec.{eqb}
use lib.ListN.{length, length-map, length-append}
use borrow.Author.Tests.{eq-eqb, ne_eqb}
use Rattle.pages.proofs.Numbers.{number-range}
use Rattle.pages.specs.Shape.{stretch}
use Rattle.hashing.specs.declared.Parameters.{Parameters}
use Rattle.hashing.specs.declared.Growth.{Growth}
use Rattle.hashing.specs.Limits.{valid_parameters}
use Rattle.hashing.proofs.Bounds.{limits}
use Rattle.pages.specs.Position.{valid_number, valid_word}
use Rattle.placement.specs.Rule.{Star, Hash, Contents, separators, pages, left, insert, without}
use Rattle.placement.specs.File.{File, gathered}
use Rattle.placement.specs.Shape.{Sized}
use Rattle.placement.specs.Hash.{hash_of, sound_at}
use Rattle.placement.specs.Shape.{homes_of, home_in}
use Rattle.placement.proofs.Filters.{filter-all-on, length-filter}
use Rattle.placement.proofs.Standing.{stands_at, left-first}
use Rattle.placement.proofs.Mapping.{mapped, pages-map, left-map}
use Rattle.placement.proofs.Sound.{AllSound, gathered-proper}
use Rattle.placement.proofs.Tested.{real_facts}
use Rattle.page_separator.specs.Lists.{all}
use Rattle.page_separator.specs.Words.{pack}
use Rattle.page_separator.proofs.Packing.{number-pack}
use Rattle.page_plan.specs.Settle.{slots_of, pour_low}
use Rattle.page_plan.specs.Gather.{stars_in}
use Rattle.page_plan.proofs.Items.{words_count, words-length}
use Rattle.page_plan.specs.Plans.{plans, remains, waits}
use Rattle.page_plan.specs.Sources.{named_item, renamed}
use Rattle.page_plan.proofs.Applying.{Sourced, renamed_keeps}
use Rattle.page_plan.proofs.Sourcing.{fresh, true_stars, new-star, named_past}
use Rattle.page_plan.proofs.Placed.{probes-real, new-homed, new-near, new-sourced, stretch-words-add, left-count}
use Rattle.page_plan.proofs.Placed.{planned-pages as words-planned}
use Rattle.entry_reach.specs.Entry.{Unheld, new_star_lem, entry_start, block_numbers, block_words}
use Rattle.entry_reach.specs.Blocks.{apart, Carriable, entered_left}
use Rattle.entry_reach.proofs.Items.{numbers_count, stretch-homes, numbers_below, block-homed, block-grouped, block-fresh}

-- pages and their sources, in two parts
pub sourced-on : (ns : List ℕ) (new : ℕ) (cs ds : List Contents) → Sourced ns new cs → Sourced ns new ds → Sourced ns new (cs ++ ds)
sourced-on ns new [] ds s t = t
sourced-on ns new (c ∷ cs) ds s t = (s.0, sourced-on ns new cs ds s.1 t)

-- the word of the new star, whose source is the one past the items
abbrev pub new_word : Parameters → Growth → File → ℕ → ℕ
new_word p g f k = pack (entry_start p g k) k (length f.numbers + 1)

-- what the n pages from home get, and what they leave, of their stars and the new one
abbrev pub plans_to : Parameters → Growth → File → ℕ → ℕ → List Contents
plans_to p g f k n = plans p (entry_start p g k) 0 n (new_word p g f k ∷ []) (block_words p g f (entry_start p g k) n)

abbrev pub remains_to : Parameters → Growth → File → ℕ → ℕ → List ℕ
remains_to p g f k n = remains p (entry_start p g k) 0 n (new_word p g f k ∷ []) (block_words p g f (entry_start p g k) n)

-- a stretch's words are those of two parts of it
pub words-add : (p : Parameters) (g : Growth) (f : File) → Sized p.places p.pages f → (lo n m : ℕ) → lo + n ≤ p.pages
    → block_words p g f lo (n + m) ≡ block_words p g f lo n ++ block_words p g f (lo + n) m
unfolding block_words homes_of
words-add p g f sized lo n m h =
    let long : (lo + n) * p.places ≤ length f.numbers = rw sized.of_numbers (mul-le-mul_right p.places h) in
    stretch-words-add p.places lo n m 0 f.numbers (map (home_in p g) f.numbers) long (rw (length-map f.numbers (home_in p g)) long)

-- no more are left than waited
length-left : (H : Hash) (p n : ℕ) (w : List Star) → length (left H p n w) ≤ length w
length-left H p n w = rw (left-first H p n w) (length-filter (stands_at H p (separators (pages H p n w)) (p + n)) w)

module _ (p : Parameters) (g : Growth) (f : File) (k : ℕ) (valid : valid_parameters p ≡ true) (sized : Sized p.places p.pages f) (number : valid_number k ≡ true) (unheld : Unheld p g f k) where
  small : k < 2 ^ 31
  small = omega (arith, number-range k number)

  few : length f.numbers + 1 < 2 ^ 16
  few = let l = limits p valid in omega (arith, sized.of_numbers, mul-le-mul l.pages_most l.places_most)

  -- past the items a source names the new star
  past-items : (l : List ℕ) (new : ℕ) → length l ≡ p.pages * p.places → named_item l new (length f.numbers + 1) ≡ new
  past-items l new e = named_past l new (length f.numbers + 1) (omega (arith, sized.of_numbers, e))

  -- the new star alone is carried at first
  pub new-carried : (word owner : ℕ) → map (renamed f.words f.owners word owner) (waits (new_word p g f k ∷ [])) ≡ new_star_lem k word owner ∷ []
  unfolding insert waits slots_of pour_low
  new-carried word owner =
      new-star f.words f.owners word owner (entry_start p g k) k (length f.numbers + 1) [] small few (unfold fresh all in refl)
      ∙ rw (past-items f.words word sized.of_words_lem, past-items f.owners owner sized.of_owners)

  pub new-carriable : (lo : ℕ) → entry_start p g k ≤ lo → Carriable p g f k lo (new_word p g f k ∷ [])
  new-carriable lo h =
      record {
        true_homes = new-homed (hash_of p g) (entry_start p g k) k (length f.numbers + 1) refl small few;
        near = new-near lo (entry_start p g k) k (length f.numbers + 1) h small few;
        true_sources = new-sourced f.numbers (entry_start p g k) k small few;
        below = unfold apart all in rw (number-pack (entry_start p g k) k (length f.numbers + 1) small few, eq-eqb k k refl);
      }

  module _ (n : ℕ) (inside : entry_start p g k + n ≤ p.pages) (sound : (q : ℕ) → entry_start p g k ≤ q → q < entry_start p g k + n → sound_at p g f q ≡ true) where
    sums : (entry_start p g k + n) * p.places ≤ p.pages * p.places
    sums = mul-le-mul_right p.places inside

    stars-there : (word owner : ℕ) → map (renamed f.words f.owners word owner) (waits (block_words p g f (entry_start p g k) n)) ≡ without 0 (gathered p.places f (entry_start p g k) n)
    unfolding block_words homes_of
    stars-there word owner =
        true_stars p.places (entry_start p g k) n 0 word owner f (map (home_in p g) f.numbers)
        (numbers_below p g f valid sized (entry_start p g k) n inside sound)
        (omega (arith, few, sums))
        (omega (arith, sums, sized.of_numbers))
        (omega (arith, sums, sized.of_words_lem))
        (omega (arith, sums, sized.of_owners))
        (omega (arith, sums, sized.of_numbers, length-map f.numbers (home_in p g)))

    all_sound : AllSound valid_word (hash_of p g) f (entry_start p g k) n
    all_sound q a b = real_facts p g f q (sound q a b)

    -- no number is 0
    all-numbered : without 0 (gathered p.places f (entry_start p g k) n) ≡ gathered p.places f (entry_start p g k) n
    unfolding without hash_of
    all-numbered =
        filter-all-on (λ (s : Star). not (eqb s.number 0)) (gathered p.places f (entry_start p g k) n)
        (λ s m. ap not (ne_eqb s.number 0 (λ e. omega (arith, e, (gathered-proper valid_word (hash_of p g) f (entry_start p g k) n all_sound s m).0))))

    -- the stars that wait, with the words and owners that their sources name
    pub stars_are : (word owner : ℕ) → map (renamed f.words f.owners word owner) (waits (new_word p g f k ∷ block_words p g f (entry_start p g k) n)) ≡ insert (new_star_lem k word owner) (gathered p.places f (entry_start p g k) n)
    unfolding block_words
    stars_are word owner =
        new-star f.words f.owners word owner (entry_start p g k) k (length f.numbers + 1) (block_words p g f (entry_start p g k) n) small few (block-fresh p g f valid sized (entry_start p g k) n inside sound k unheld)
        ∙ rw (past-items f.words word sized.of_words_lem, past-items f.owners owner sized.of_owners, stars-there word owner, all-numbered)

    pub waited : (word owner : ℕ) → length (insert (new_star_lem k word owner) (gathered p.places f (entry_start p g k) n)) ≡ suc (length (block_words p g f (entry_start p g k) n))
    waited word owner =
        left-count (renamed f.words f.owners word owner) (new_word p g f k ∷ block_words p g f (entry_start p g k) n) (insert (new_star_lem k word owner) (gathered p.places f (entry_start p g k) n)) (stars_are word owner)

    tied : (plans_to p g f k n ≡ pages (hash_of p g) (entry_start p g k) n (waits (new_word p g f k ∷ block_words p g f (entry_start p g k) n)))
        × (waits (remains_to p g f k n) ≡ left (hash_of p g) (entry_start p g k) n (waits (new_word p g f k ∷ block_words p g f (entry_start p g k) n)))
    tied =
        words-planned (hash_of p g) p (probes-real p g) (entry_start p g k) n (new_word p g f k ∷ []) (block_words p g f (entry_start p g k) n)
        (new-carriable (entry_start p g k) (le_refl (entry_start p g k))).true_homes (new-carriable (entry_start p g k) (le_refl (entry_start p g k))).near
        (block-homed p g f valid sized (entry_start p g k) n inside (numbers_below p g f valid sized (entry_start p g k) n inside sound))
        (block-grouped p g f valid sized (entry_start p g k) n inside sound)

    pub planned-pages : (word owner : ℕ) → pages (hash_of p g) (entry_start p g k) n (insert (new_star_lem k word owner) (gathered p.places f (entry_start p g k) n)) ≡ map (mapped (renamed f.words f.owners word owner)) (plans_to p g f k n)
    planned-pages word owner =
        ap (pages (hash_of p g) (entry_start p g k) n) (sym (stars_are word owner))
        ∙ pages-map (renamed f.words f.owners word owner) (renamed_keeps f.words f.owners word owner) (hash_of p g) (entry_start p g k) n (waits (new_word p g f k ∷ block_words p g f (entry_start p g k) n))
        ∙ ap (map (mapped (renamed f.words f.owners word owner))) (sym tied.0)

    pub planned-left : (word owner : ℕ) → left (hash_of p g) (entry_start p g k) n (insert (new_star_lem k word owner) (gathered p.places f (entry_start p g k) n)) ≡ map (renamed f.words f.owners word owner) (waits (remains_to p g f k n))
    planned-left word owner =
        ap (left (hash_of p g) (entry_start p g k) n) (sym (stars_are word owner))
        ∙ left-map (renamed f.words f.owners word owner) (renamed_keeps f.words f.owners word owner) (hash_of p g) (entry_start p g k) n (waits (new_word p g f k ∷ block_words p g f (entry_start p g k) n))
        ∙ ap (map (renamed f.words f.owners word owner)) (sym tied.1)

  block-count : (lo n : ℕ) → lo + n ≤ p.pages → length (block_words p g f lo n) ≡ stars_in 0 (block_numbers p f lo n)
  unfolding block_words homes_of
  block-count lo n inside =
      rw (stretch-homes p g f valid sized lo n inside)
      (words_count (lo * p.places) 0 (block_numbers p f lo n) (map (home_in p g) (block_numbers p f lo n))
      (omega (arith, length-map (block_numbers p f lo n) (home_in p g))))

  -- the waiting stars are no more than the list holds, or the pages are too few
  pub crowds : (d m : ℕ) → entry_start p g k + (d + m) ≤ p.pages → ((q : ℕ) → entry_start p g k ≤ q → q < entry_start p g k + (d + m) → sound_at p g f q ≡ true)
      → (word owner : ℕ) → length (entered_left p g f k d word owner) + stars_in 0 (block_numbers p f (entry_start p g k + d) m) ≤ length (insert (new_star_lem k word owner) (gathered p.places f (entry_start p g k) (d + m)))
  crowds d m inside sound word owner =
      omega (
        arith,
        waited d (omega arith) first-sound word owner,
        waited (d + m) inside sound word owner,
        length-left (hash_of p g) (entry_start p g k) d (stars d),
        ap length (words-add p g f sized (entry_start p g k) d m (omega arith)),
        length-append (block_words p g f (entry_start p g k) d) (block_words p g f (entry_start p g k + d) m),
        block-count (entry_start p g k + d) m (omega arith),
      )
    where
      stars : ℕ → List Star
      stars n = insert (new_star_lem k word owner) (gathered p.places f (entry_start p g k) n)

      first-sound : (q : ℕ) → entry_start p g k ≤ q → q < entry_start p g k + d → sound_at p g f q ≡ true
      first-sound q a b = sound q a (omega arith)

  pub few-stars : (n : ℕ) → entry_start p g k + n ≤ p.pages → ((q : ℕ) → entry_start p g k ≤ q → q < entry_start p g k + n → sound_at p g f q ≡ true)
      → (word owner : ℕ) → length (insert (new_star_lem k word owner) (gathered p.places f (entry_start p g k) n)) ≤ suc (n * p.places)
  unfolding block_words
  few-stars n inside sound word owner =
      omega (
        arith,
        waited n inside sound word owner,
        words-length (entry_start p g k * p.places) 0 (block_numbers p f (entry_start p g k) n) (stretch p.places (entry_start p g k) n (homes_of p g f.numbers)),
        numbers_count p g f valid sized (entry_start p g k) n inside,
      )
