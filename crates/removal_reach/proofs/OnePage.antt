-- A removal from a home page whose stored separator is 2^k − 1: its reach is that page, and the other stars stay, the separator with them.
use mathlib.Core.Path.{◌≡◌, refl, sym, ap, subst, ◌∙◌}
use mathlib.Core.Bool.{true, not}
use mathlib.Core.List.{List, [], ◌∷◌, map, Memᴰ}
use Prim.Native.Nat.{ℕ, suc, ◌+◌, ◌-◌, ◌*◌, ◌≤◌, ◌<◌}
use native.Mathlib.Omega.{arith}
use lib.Dec.{leb, eqb}
use lib.ListN.{length, get_or}
use borrow.Author.Tests.{leb-true, eq-eqb, le-ltb}
use Rattle.buffers.specs.Lists.{padded, written}
use Rattle.buffers.proofs.Tests.{and-true}
use Rattle.hashing.specs.declared.Parameters.{Parameters}
use Rattle.hashing.specs.declared.Growth.{Growth}
use Rattle.generator.specs.Generator.{top_of_lem}
use Rattle.hashing.specs.Limits.{valid_parameters, valid_growth}
use Rattle.pages.specs.Page.{part, place_of}
use Rattle.pages.specs.Position.{valid_number, valid_word}
use Rattle.pages.proofs.Places.{held-there}
use Rattle.placement.specs.Rule.{Star, pages, without}
use Rattle.placement.specs.File.{File, stars_at, gathered, replaced}
use Rattle.placement.specs.Shape.{Sized}
use Rattle.placement.specs.Hash.{hash_of, sound_at, named_page_lem, lent}
use Rattle.placement.proofs.Filters.{length-filter}
use Rattle.placement.proofs.Order.{member_without}
use Rattle.placement.proofs.Files.{number_of, word_of, owner_of}
use Rattle.placement.proofs.Sound.{length-stars_at}
use Rattle.placement.proofs.Probing.{bounded-real, homed-real}
use Rattle.reach.specs.Reach.{pages_to, stored_top, removal_end}
use Rattle.page_edit.specs.Shift.{number_at, stars_on, Occupied}
use Rattle.page_edit.proofs.OnePage.{file-alone, pages-alone, first-here, named-home, ordered-page, homed-here, gathered-alone, unsound-alone}
use Rattle.page_plan.specs.declared.outcome.Outcome.TheVariants.{On}
use Rattle.decision.specs.declared.chosen.Decision.TheVariants.{Take}
use Rattle.removal_reach.specs.Removal.{Held, removal_start, removal_count, removal_unsound, removal_answer, removal_file, DecidesRemoval}

module _ (p : Parameters) (g : Growth) (f : File) (k : ℕ) (valid : valid_parameters p ≡ true) (grows : valid_growth p g ≡ true) (sized : Sized p.places p.pages f) (number : valid_number k ≡ true)
    (held : Held p g f k) (stored : get_or f.separators (removal_start p g k) 0 ≡ top_of_lem p.bits) where
  stored-top : get_or f.separators (removal_start p g k) 0 ≡ (hash_of p g).top
  unfolding hash_of
  stored-top = stored

  home-inside : removal_start p g k < p.pages
  home-inside = homed-real p g valid grows k

  named-there : named_page_lem p g f.separators k ≡ removal_start p g k
  named-there = named-home p g f sized (removal_start p g k) home-inside valid k refl stored-top

  sound-there : sound_at p g f (removal_start p g k) ≡ true
  sound-there = ap (sound_at p g f) (sym named-there) ∙ held.sound

  some_number : 0 < k
  unfolding valid_number
  some_number = leb-true 1 k (and-true (leb 1 k) _ number).0

  -- where the star stands
  module _ (place : ℕ) (there : place ≡ place_of k (part p.places (named_page_lem p g f.separators k) f.numbers)) where
    taken_is : number_at p.places (removal_start p g k) place f.numbers ≡ k
    taken_is =
        ap (λ (q : ℕ). number_at p.places q place f.numbers) (sym named-there)
        ∙ ap (λ (i : ℕ). number_at p.places (named_page_lem p g f.separators k) i f.numbers) there
        ∙ (held-there k (part p.places (named_page_lem p g f.separators k) f.numbers) held.present).1

    occupied-home : Occupied p.places (removal_start p g k) place f.numbers f.words f.owners
    occupied-home = record { ordered = ordered-page p g f sized (removal_start p g k) home-inside sound-there; held = omega (arith, taken_is, some_number) }

  abbrev stars : List Star
  stars = stars_at (hash_of p g).room f (removal_start p g k)

  one : pages_to (removal_start p g k) (removal_start p g k) ≡ 1
  one = omega arith

  ends : removal_end (hash_of p g) p.pages f (removal_start p g k) ≡ removal_start p g k
  unfolding removal_end
  ends = first-here (stored_top f.separators (hash_of p g).top) (removal_start p g k) (p.pages - 1 - removal_start p g k) (eq-eqb (get_or f.separators (removal_start p g k) 0) (hash_of p g).top stored-top)

  count : removal_count p g f k ≡ 1
  count = ap (pages_to (removal_start p g k)) ends ∙ one

  homed : (s : Star) → Memᴰ s (without k stars) → (hash_of p g).home s.number ≤ removal_start p g k
  homed s m = homed-here p g f sized (removal_start p g k) home-inside sound-there s (member_without k stars s m).0

  few : length (without k stars) ≤ (hash_of p g).room
  unfolding hash_of without
  few =
      omega (
        arith,
        length-filter (λ (s : Star). not (eqb s.number k)) (stars_at p.places f (removal_start p g k)),
        length-stars_at valid_word (hash_of p g) f p.pages (removal_start p g k) sized home-inside,
      )

  abbrev gathered_from : ℕ → List Star
  gathered_from n = without k (gathered (hash_of p g).room f (removal_start p g k) n)

  contents : pages (hash_of p g) (removal_start p g k) (removal_count p g f k) (gathered_from (removal_count p g f k)) ≡ record { separator = (hash_of p g).top; stars = without k stars } ∷ []
  contents =
      ap (λ (n : ℕ). pages (hash_of p g) (removal_start p g k) n (gathered_from n)) count
      ∙ ap (λ (l : List Star). pages (hash_of p g) (removal_start p g k) 1 (without k l)) (gathered-alone p g f sized (removal_start p g k) home-inside sound-there)
      ∙ pages-alone (hash_of p g) (bounded-real p g valid) (removal_start p g k) (without k stars) homed few

  none-unsound : removal_unsound p g f k ≡ suc (removal_start p g k)
  none-unsound = rw count (unsound-alone p g f sized (removal_start p g k) home-inside sound-there)

  decided : (page : ℕ) → (On page ≡ removal_answer p g f k page)
      × (removal_file p g f k ≡ replaced p.places f (removal_start p g k) (record { separator = (hash_of p g).top; stars = without k (stars_at p.places f (removal_start p g k)) } ∷ []))
  unfolding removal_answer removal_file hash_of
  decided page =
      let past = le-ltb (removal_unsound p g f k) (removal_start p g k + removal_count p g f k) (omega (arith, none-unsound, count)) in
      (rw past, rw past (ap (replaced p.places f (removal_start p g k)) contents))

  -- the lists without the star
  alone-lists : (page from taken : ℕ) → from ≡ removal_start p g k → taken ≡ k → (ns ws os : List ℕ)
      → ns ≡ written (from * p.places) (padded p.places (map number_of (without taken (stars_on p.places from f.numbers f.words f.owners)))) f.numbers
      → ws ≡ written (from * p.places) (padded p.places (map word_of (without taken (stars_on p.places from f.numbers f.words f.owners)))) f.words
      → os ≡ written (from * p.places) (padded p.places (map owner_of (without taken (stars_on p.places from f.numbers f.words f.owners)))) f.owners
      → (On page ≡ removal_answer p g f k page) × (lent f.separators ns ws os ≡ removal_file p g f k)
  unfolding stars_at
  alone-lists page from taken e t ns ws os en ew eo = (
    (decided page).0,
    file-alone p.places f (removal_start p g k) (hash_of p g).top (without k (stars_at p.places f (removal_start p g k))) ns ws os (omega (arith, home-inside, sized.of_separators)) stored-top
        (rw (e, t) at en) (rw (e, t) at ew) (rw (e, t) at eo)
        ∙ sym (decided page).1,
  )

  -- the star is taken from its page
  pub taken-decided : (page place : ℕ) → page ≡ named_page_lem p g f.separators k → place ≡ place_of k (part p.places page f.numbers) → (pool planned : List ℕ)
      → DecidesRemoval p g f k page pool planned (Take page place)
  taken-decided page place here there pool planned =
      let at : page ≡ removal_start p g k = here ∙ named-there in
      let sought : place ≡ place_of k (part p.places (named_page_lem p g f.separators k) f.numbers) = there ∙ ap (λ (q : ℕ). place_of k (part p.places q f.numbers)) here in
      let taken : number_at p.places page place f.numbers ≡ k = ap (λ (q : ℕ). number_at p.places q place f.numbers) at ∙ taken_is place sought in
      let done = alone-lists page page (number_at p.places page place f.numbers) at taken _ _ _ refl refl refl in
      record {
        answers = done.0;
        files = done.1;
        feasible = (
          omega (arith, at, home-inside),
          subst (λ (q : ℕ). Occupied p.places q place f.numbers f.words f.owners) (sym at) (occupied-home place sought),
        );
      }
