-- An entry that the home page takes alone: its reach is that page, all its stars and the new one stay, and the separator with them.
use mathlib.Core.Path.{◌≡◌, refl, sym, ap, subst, ◌∙◌}
use mathlib.Core.Bool.{true}
use mathlib.Core.List.{List, [], ◌∷◌, map, Memᴰ}
use mathlib.Core.Logic.{⊎_elim}
use Prim.Native.Nat.{ℕ, ◌-◌, ◌*◌, ◌≤◌, ◌<◌}
use native.Mathlib.Nat.{le_refl}
use native.Mathlib.Omega.{arith}
use lib.Dec.{eqb}
use lib.ListN.{length, get_or}
use borrow.Author.Tests.{eqb-true, eq-eqb}
use Rattle.hashing.specs.declared.Parameters.{Parameters}
use Rattle.hashing.specs.declared.Growth.{Growth}
use Rattle.generator.specs.Generator.{top_of_lem}
use Rattle.hashing.specs.Limits.{valid_parameters, valid_growth}
use Rattle.hashing.proofs.Bounds.{limits}
use Rattle.pages.specs.Page.{part, place_of}
use Rattle.placement.specs.Rule.{Star, pages, insert}
use Rattle.placement.specs.File.{File, stars_at, replaced}
use Rattle.placement.specs.Shape.{Sized}
use Rattle.placement.specs.Hash.{hash_of, sound_at, named_page_lem, lent}
use Rattle.buffers.specs.Lists.{padded, written}
use Rattle.buffers.proofs.Tests.{and-true}
use Rattle.placement.proofs.Order.{member_insert, inserted, length-insert}
use Rattle.placement.proofs.Probing.{bounded-real, homed-real}
use Rattle.placement.proofs.Files.{number_of, word_of, owner_of}
use Rattle.reach.specs.Reach.{pages_to, entering, enters_within, entry_end, holding}
use Rattle.page_edit.specs.Shift.{number_at, stars_on, Vacant, takes_alone_lem}
use Rattle.page_edit.proofs.Shifted.{vacant-room}
use Rattle.page_edit.proofs.OnePage.{file-alone, pages-alone, left_alone, first-here, named-home, ordered-page, homed-here, gathered-alone}
use Rattle.page_plan.specs.declared.outcome.Outcome.TheVariants.{On, Unsound, Overflows}
use Rattle.entry_reach.specs.Entry.{Unheld, new_star_lem, entry_start, entry_last, entry_unsound, entry_contents, entry_answer, entry_file, DecidesEntry}
use Rattle.decision.specs.declared.chosen.Decision.TheVariants.{Put}
use Rattle.entry_reach.specs.Blocks.{ending}
use Rattle.entry_reach.proofs.Reached.{by-reach}
use Rattle.entry_reach.proofs.Holding.{member_has}

module _ (p : Parameters) (g : Growth) (f : File) (k : ℕ) (valid : valid_parameters p ≡ true) (grows : valid_growth p g ≡ true) (sized : Sized p.places p.pages f) (unheld : Unheld p g f k)
    (alone : takes_alone_lem p f.separators f.numbers (entry_start p g k) ≡ true) where
  tests : (eqb (get_or f.separators (entry_start p g k) 0) (top_of_lem p.bits) ≡ true) × (eqb (number_at p.places (entry_start p g k) (p.places - 1) f.numbers) 0 ≡ true)
  unfolding takes_alone_lem
  tests = and-true (eqb (get_or f.separators (entry_start p g k) 0) (top_of_lem p.bits)) (eqb (number_at p.places (entry_start p g k) (p.places - 1) f.numbers) 0) alone

  stored-top : get_or f.separators (entry_start p g k) 0 ≡ (hash_of p g).top
  unfolding hash_of
  stored-top = eqb-true (get_or f.separators (entry_start p g k) 0) (top_of_lem p.bits) tests.0

  home-inside : entry_start p g k < p.pages
  home-inside = homed-real p g valid grows k

  named-there : named_page_lem p g f.separators k ≡ entry_start p g k
  named-there = named-home p g f sized (entry_start p g k) home-inside valid k refl stored-top

  sound-there : sound_at p g f (entry_start p g k) ≡ true
  sound-there = ap (sound_at p g f) (sym named-there) ∙ unheld.sound

  -- where the new star is put
  vacant-home : (place : ℕ) → place ≡ place_of k (part p.places (named_page_lem p g f.separators k) f.numbers)
      → Vacant p.places (entry_start p g k) place k f.numbers f.words f.owners
  vacant-home place e =
      record {
        ordered = ordered-page p g f sized (entry_start p g k) home-inside sound-there;
        some = (limits p valid).places_least;
        there = e ∙ ap (λ (q : ℕ). place_of k (part p.places q f.numbers)) named-there;
        empty = eqb-true (number_at p.places (entry_start p g k) (p.places - 1) f.numbers) 0 tests.1;
      }

  module _ (word owner : ℕ) where
    abbrev stars : List Star
    stars = stars_at (hash_of p g).room f (entry_start p g k)

    one : pages_to (entry_start p g k) (entry_start p g k) ≡ 1
    one = omega arith

    waiting : entering (hash_of p g) f (new_star_lem k word owner) (entry_start p g k) ≡ insert (new_star_lem k word owner) stars
    unfolding entering
    waiting = rw (one, gathered-alone p g f sized (entry_start p g k) home-inside sound-there)

    homed : (s : Star) → Memᴰ s (insert (new_star_lem k word owner) stars) → (hash_of p g).home s.number ≤ entry_start p g k
    homed s m =
        ⊎_elim
        (λ (e : s ≡ new_star_lem k word owner). omega (arith, ap (λ (t : Star). (hash_of p g).home t.number) e))
        (λ (n : Memᴰ s stars). homed-here p g f sized (entry_start p g k) home-inside sound-there s n)
        (member_insert (new_star_lem k word owner) stars s m)

    few : length (insert (new_star_lem k word owner) stars) ≤ (hash_of p g).room
    unfolding hash_of stars_at
    few =
        omega (
          arith,
          length-insert (new_star_lem k word owner) (stars_at p.places f (entry_start p g k)),
          vacant-room (vacant-home (place_of k (part p.places (named_page_lem p g f.separators k) f.numbers)) refl),
        )

    enters : enters_within (hash_of p g) f (new_star_lem k word owner) (entry_start p g k) ≡ true
    unfolding enters_within
    enters = rw (waiting, one, left_alone (hash_of p g) (bounded-real p g valid) (entry_start p g k) (insert (new_star_lem k word owner) stars) homed few)

    ends : entry_last p g f (new_star_lem k word owner) ≡ entry_start p g k
    unfolding entry_end
    ends = first-here (ending p g f (new_star_lem k word owner)) (entry_start p g k) (p.pages - 1 - entry_start p g k) (rw (eq-eqb (get_or f.separators (entry_start p g k) 0) (hash_of p g).top stored-top, enters))

    contents : entry_contents p g f (new_star_lem k word owner) ≡ record { separator = (hash_of p g).top; stars = insert (new_star_lem k word owner) stars } ∷ []
    contents =
        ap (λ (q : ℕ). pages (hash_of p g) (entry_start p g k) (pages_to (entry_start p g k) q) (entering (hash_of p g) f (new_star_lem k word owner) q)) ends
        ∙ rw (waiting, one) (pages-alone (hash_of p g) (bounded-real p g valid) (entry_start p g k) (insert (new_star_lem k word owner) stars) homed few)

    holds : holding k (entry_start p g k) (entry_contents p g f (new_star_lem k word owner)) ≡ entry_start p g k
    unfolding holding
    holds = rw (contents, member_has k (insert (new_star_lem k word owner) stars) (new_star_lem k word owner) refl (inserted (new_star_lem k word owner) stars))

    sound-all : (q : ℕ) → entry_start p g k ≤ q → q ≤ entry_start p g k → sound_at p g f q ≡ true
    sound-all q a b =
        let same : q ≡ entry_start p g k = omega arith in
        ap (sound_at p g f) same ∙ sound-there

    alone-answer : On (entry_start p g k) ≡ entry_answer p g f (new_star_lem k word owner)
    unfolding entry_answer
    alone-answer =
        sym
        (by-reach p g f k (entry_start p g k) (le_refl (entry_start p g k)) sound-all word owner true (Unsound (entry_unsound p g f (new_star_lem k word owner))) Overflows
        (On (holding k (entry_start p g k) (entry_contents p g f (new_star_lem k word owner)))) ends enters
        ∙ ap On holds)

    alone-file : replaced p.places f (entry_start p g k) (record { separator = (hash_of p g).top; stars = insert (new_star_lem k word owner) (stars_at p.places f (entry_start p g k)) } ∷ []) ≡ entry_file p g f (new_star_lem k word owner)
    unfolding entry_file hash_of
    alone-file =
        sym
        (by-reach p g f k (entry_start p g k) (le_refl (entry_start p g k)) sound-all word owner true f f (replaced p.places f (entry_start p g k) (entry_contents p g f (new_star_lem k word owner))) ends enters
        ∙ ap (replaced p.places f (entry_start p g k)) contents)

    -- the lists with the star put on its home page
    alone-lists : (from : ℕ) → from ≡ entry_start p g k → (ns ws os : List ℕ)
        → ns ≡ written (from * p.places) (padded p.places (map number_of (insert (new_star_lem k word owner) (stars_on p.places from f.numbers f.words f.owners)))) f.numbers
        → ws ≡ written (from * p.places) (padded p.places (map word_of (insert (new_star_lem k word owner) (stars_on p.places from f.numbers f.words f.owners)))) f.words
        → os ≡ written (from * p.places) (padded p.places (map owner_of (insert (new_star_lem k word owner) (stars_on p.places from f.numbers f.words f.owners)))) f.owners
        → (On from ≡ entry_answer p g f (new_star_lem k word owner)) × (lent f.separators ns ws os ≡ entry_file p g f (new_star_lem k word owner))
    unfolding stars_at
    alone-lists from e ns ws os en ew eo = (
      ap On e ∙ alone-answer,
      file-alone p.places f (entry_start p g k) (hash_of p g).top (insert (new_star_lem k word owner) (stars_at p.places f (entry_start p g k))) ns ws os (omega (arith, home-inside, sized.of_separators)) stored-top
          (rw e at en) (rw e at ew) (rw e at eo)
          ∙ alone-file,
    )

    -- the star is put on its home page
    pub alone-decided : (from page place : ℕ) → from ≡ entry_start p g k → page ≡ named_page_lem p g f.separators k → place ≡ place_of k (part p.places page f.numbers) → (pool planned : List ℕ)
        → DecidesEntry p g f (new_star_lem k word owner) pool planned (Put from place)
    alone-decided from page place at here there pool planned =
        let done = alone-lists from at _ _ _ refl refl refl in
        record {
          answers = done.0;
          files = done.1;
          feasible = (
            omega (arith, at, home-inside),
            subst (λ (q : ℕ). Vacant p.places q place k f.numbers f.words f.owners) (sym at)
                (vacant-home place (there ∙ ap (λ (q : ℕ). place_of k (part p.places q f.numbers)) here)),
          );
        }
