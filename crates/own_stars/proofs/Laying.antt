-- On a file that the rule lays: what an entry leaves, and what a removal from a home page that has not overflowed.
use mathlib.Core.Path.{◌≡◌, refl, sym, ap, subst, ◌∙◌}
use mathlib.Core.Bool.{Bool, true, false, not, false≢true, and-eq-true_iff}
use mathlib.Core.List.{List, Memᴰ}
use mathlib.Core.Logic.{◌⊎◌, inl, inr, ⊎_elim}
use Prim.Native.Nat.{ℕ, ◌+◌, ◌-◌, ◌*◌, ◌≤◌, ◌<◌}
use native.Mathlib.Omega.{arith}
use lib.Dec.{leb, ltb}
use lib.ListN.{length, get_or}
use lib.Seq.{paste}
use borrow.Author.Tests.{leb-true, le-ltb}
use Rattle.pages.proofs.Numbers.{number-valid}
use Rattle.hashing.specs.declared.Parameters.{Parameters}
use Rattle.hashing.specs.declared.Growth.{Growth}
use Rattle.generator.specs.Generator.{top_of_lem}
use Rattle.hashing.specs.Limits.{valid_parameters, valid_growth}
use Rattle.pages.specs.Page.{part, place_of}
use Rattle.pages.specs.Position.{valid_number, valid_word}
use Rattle.placement.specs.Rule.{Star, Hash, insert, without, star_with}
use Rattle.placement.specs.File.{File, laid, greatest, file_of}
use Rattle.placement.specs.Shape.{Sized}
use Rattle.placement.specs.Hash.{hash_of, sound_at, named_page_lem}
use Rattle.placement.proofs.Order.{Rising, Absent, rising-insert, rising-without, member_without}
use Rattle.placement.proofs.Pages.{Proper, proper-insert}
use Rattle.placement.proofs.Files.{sized-laid}
use Rattle.placement.proofs.Sound.{sound-laid, facts-sound}
use Rattle.placement.proofs.Search.{found, missing}
use Rattle.placement.proofs.Probing.{bounded-real, homed-real}
use Rattle.placement.proofs.Entry.{removed}
use Rattle.reach.specs.Reach.{enters_within, first_unsound_lem, removal_end, holding}
use Rattle.reach.proofs.Reaching.{Reach, entry-reach, removal_reach_lem}
use Rattle.reach.proofs.Entries.{entry-laid, entry-carried}
use Rattle.reach.proofs.Surveyed.{homes_from, surveyed-pages}
use Rattle.reach.specs.Known.{Known}
use Rattle.page_edit.proofs.OnePage.{named-home}
use Rattle.calls.specs.Shape.{stopped_file}
use Rattle.calls.specs.Stores.{store_order}
use Rattle.calls.proofs.Alike.{none-such}
use Rattle.calls.proofs.Stores.{all-stored}
use Rattle.calls.proofs.Stored.{few-stores}
use Rattle.decision.specs.Carried.{carried_out}
use Rattle.decision.specs.declared.chosen.Decision.TheVariants.{Take}
use Rattle.page_plan.specs.declared.outcome.Outcome.{Outcome}
use Rattle.page_plan.specs.declared.outcome.Outcome.TheVariants.{On, Unsound, Overflows}
use Rattle.entry_reach.specs.Entry.{Unheld, entry_start, entry_last, entry_count, entry_unsound, entry_contents, entry_answer, entry_file}
use Rattle.removal_reach.specs.Removal.{Held, removal_start, removal_count, removal_unsound, removal_file, DecidesRemoval}
use Rattle.removal_reach.proofs.OnePage.{taken-decided}
use Rattle.own_stars.specs.Own.{Fits, LaidOut, OneEntered}
use Rattle.placement.proofs.Naming.{page-named}

-- with a store for every page, all is stored
pub whole-file : (lowest : Bool) (p : Parameters) (f l : File) → stopped_file lowest p f l p.pages ≡ l
whole-file lowest p f l = all-stored p.places f l (store_order lowest p.places f l p.pages) p.pages (few-stores lowest p.places p.pages f l)

pub overflows_on : (page : ℕ) → Overflows ≡ On page → ⊥
overflows_on page e = let z : ◌≡◌ {A = ℕ} 0 1 = cc in omega arith

pub unsound-on : (bad page : ℕ) → Unsound bad ≡ On page → ⊥
unsound-on bad page e = let z : ◌≡◌ {A = ℕ} 0 1 = cc in omega arith

module _ (p : Parameters) (g : Growth) (t : List Star) (valid : valid_parameters p ≡ true) (grows : valid_growth p g ≡ true)
    (rising : Rising 0 t) (proper : Proper valid_word t) (fits : Fits p g t) where
  abbrev H : Hash
  H = hash_of p g

  abbrev F : File
  F = laid p.places H p.pages t

  sound-there : (q : ℕ) → q < p.pages → sound_at p g F q ≡ true
  unfolding sound_at hash_of
  sound-there q h = facts-sound valid_word H F q (sound-laid valid_word H p.pages t rising proper q h)

  none-unsound : (from n : ℕ) → from + n ≤ p.pages → first_unsound_lem p g F from n ≡ from + n
  unfolding first_unsound_lem
  none-unsound from n h = none-such (λ (q : ℕ). not (sound_at p g F q)) from n (λ q k. ap not (sound-there q (omega arith)))

  named-there : (k : ℕ) → named_page_lem p g F.separators k < p.pages
  unfolding named_page_lem laid file_of
  named-there k = page-named H (bounded-real p g valid) p.pages t k fits (homed-real p g valid grows k)

  unheld-there : (k : ℕ) → 1 ≤ k → Absent k t → Unheld p g F k
  unheld-there k h a =
      record {
        named = named-there k;
        sound = sound-there (named_page_lem p g F.separators k) (named-there k);
        absent = unfold hash_of in missing valid_word H p.pages t rising proper fits k (named_page_lem p g F.separators k) h a (named-there k);
      }

  held-there : (s : Star) → Memᴰ s t → Held p g F s.number
  held-there s m =
      record {
        sound = sound-there (named_page_lem p g F.separators s.number) (named-there s.number);
        present = unfold hash_of named_page_lem in (found valid_word H p.pages t rising proper fits s (named_page_lem p g F.separators s.number) m refl).1;
      }

  -- the reach of an entry is sound; it decides as the rule over all pages
  module _ (s : Star) where
    entry : Reach H p.pages F (entry_start p g s.number) (entry_last p g F s)
    entry = entry-reach H p.pages F s (homed-real p g valid grows s.number)

    past : ltb (entry_unsound p g F s) (entry_start p g s.number + entry_count p g F s) ≡ false
    past =
        le-ltb (entry_unsound p g F s) (entry_start p g s.number + entry_count p g F s)
        (omega (arith, none-unsound (entry_start p g s.number) (entry_count p g F s) entry.high))

    entered-there : (enters_within H F s (entry_last p g F s) ≡ true)
        → (entry_file p g F s ≡ laid p.places H p.pages (insert s t)) × Fits p g (insert s t)
    unfolding entry_file hash_of
    entered-there e =
        let both = entry-laid valid_word H (bounded-real p g valid) p.pages t s rising proper fits (homed-real p g valid grows s.number) e in
        rw (past, e) both

    carried-there : (enters_within H F s (entry_last p g F s) ≡ false) → Fits p g (insert s t) → ⊥
    unfolding hash_of
    carried-there e = entry-carried valid_word H (bounded-real p g valid) p.pages t s rising proper fits (homed-real p g valid grows s.number) e

    entry-decides : ((entry_answer p g F s ≡ Overflows) × (entry_file p g F s ≡ F) × (Fits p g (insert s t) → ⊥))
        ⊎ ((page : ℕ) × (entry_answer p g F s ≡ On page) × (entry_file p g F s ≡ laid p.places H p.pages (insert s t)) × Fits p g (insert s t))
    entry-decides = go (enters_within H F s (entry_last p g F s)) refl
      where
        go : (b : Bool) → enters_within H F s (entry_last p g F s) ≡ b
            → ((entry_answer p g F s ≡ Overflows) × (entry_file p g F s ≡ F) × (Fits p g (insert s t) → ⊥))
            ⊎ ((page : ℕ) × (entry_answer p g F s ≡ On page) × (entry_file p g F s ≡ laid p.places H p.pages (insert s t)) × Fits p g (insert s t))
        go true e = inr (holding s.number (entry_start p g s.number) (entry_contents p g F s), (unfold entry_answer in rw (past, e)), (entered-there e).0, (entered-there e).1)
        go false e = inl ((unfold entry_answer in rw (past, e)), (unfold entry_file in rw (past, e)), carried-there e)

  -- a removal
  module _ (k : ℕ) where
    removal : Reach H p.pages F (removal_start p g k) (removal_end H p.pages F (removal_start p g k))
    removal = removal_reach_lem H p.pages F (removal_start p g k) (homed-real p g valid grows k)

    removed-there : (removal_file p g F k ≡ laid p.places H p.pages (without k t)) × Fits p g (without k t)
    unfolding removal_file hash_of
    removed-there =
        let all = removed valid_word H (bounded-real p g valid) p.pages (removal_start p g k) (removal_end H p.pages F (removal_start p g k) - removal_start p g k) t
        rising proper fits removal.high k refl removal.ends in
        let here = le-ltb (removal_unsound p g F k) (removal_start p g k + removal_count p g F k)
        (omega (arith, none-unsound (removal_start p g k) (removal_count p g F k) removal.high)) in
        rw here (all.1, all.2)

-- the same of any file that is laid
module _ (p : Parameters) (g : Growth) (f : File) (t : List Star) (valid : valid_parameters p ≡ true) (grows : valid_growth p g ≡ true) (L : LaidOut p g f t) where
  pub laid-sized : Sized p.places p.pages f
  unfolding hash_of
  laid-sized = rw L.file (sized-laid valid_word (hash_of p g) p.pages t L.proper)

  pub laid-sound : (q : ℕ) → q < p.pages → sound_at p g f q ≡ true
  laid-sound q h = rw L.file (sound-there p g t valid grows L.rising L.proper L.fits q h)

  pub laid-unheld : (k : ℕ) → valid_number k ≡ true → Absent k t → Unheld p g f k
  unfolding valid_number
  laid-unheld k v a =
      rw L.file (unheld-there p g t valid grows L.rising L.proper L.fits k (leb-true 1 k ((and-eq-true_iff (leb 1 k) (leb k 2147483646)).0 v).0) a)

  pub laid-held : (s : Star) → Memᴰ s t → Held p g f s.number
  laid-held s m = rw L.file (held-there p g t valid grows L.rising L.proper L.fits s m)

  pub laid-removed : (k : ℕ) → LaidOut p g (removal_file p g f k) (without k t)
  laid-removed k =
      let both = removed-there p g t valid grows L.rising L.proper L.fits k in
      record {
        file = ap (λ (l : File). removal_file p g l k) L.file ∙ both.0;
        rising = rising-without 0 k t L.rising;
        proper = λ s m. L.proper s (member_without k t s m).0;
        fits = both.1;
      }

  -- a surveyed page is known
  pub laid-known : (pool pool' : List ℕ) (page r : ℕ) → length pool ≡ p.pages * p.places → page < p.pages → r ≡ first_unsound_lem p g f page (page + 1 - page)
      → (r ≡ page + 1 → pool' ≡ paste pool (page * p.places) (homes_from p g f page) ((page + 1 - page) * p.places)) → Known p g f pool' page
  laid-known pool pool' page r size h er kept =
      let all : first_unsound_lem p g f page (page + 1 - page) ≡ page + (page + 1 - page)
      = ap (λ (l : File). first_unsound_lem p g l page (page + 1 - page)) L.file ∙ none-unsound p g t valid grows L.rising L.proper L.fits page (page + 1 - page) (omega arith) in
      subst (λ (l : List ℕ). Known p g f l page) (sym (kept (omega (arith, er, all))))
      (surveyed-pages p g f pool page (page + 1) laid-sized size (omega arith) (λ q a b. laid-sound q (omega arith)) page (omega arith) (omega arith))

  -- a star homed on a page that has not overflowed stands there
  module _ (page k : ℕ) (inside : page < p.pages) (homed : (hash_of p g).home k ≡ page) (top : get_or f.separators page 0 ≡ top_of_lem p.bits)
      (s : Star) (named : s.number ≡ k) (member : Memᴰ s t) where
    stored-top : get_or f.separators (removal_start p g k) 0 ≡ top_of_lem p.bits
    stored-top = rw homed top

    named_here : page ≡ named_page_lem p g f.separators k
    unfolding hash_of
    named_here = sym (named-home p g f laid-sized page inside valid k homed top)

    pub take-decides : (place : ℕ) → place ≡ place_of k (part p.places page f.numbers) → (pool planned : List ℕ) → DecidesRemoval p g f k page pool planned (Take page place)
    take-decides place there pool planned =
        let ranged = L.proper s member in
        taken-decided p g f k valid grows laid-sized (rw (← named) (number-valid s.number ranged.0 ranged.1)) (rw (← named) (laid-held s member)) stored-top page place named_here there pool planned

    pub taken-one : (f' : File) (place : ℕ) (pool planned : List ℕ) → place ≡ place_of k (part p.places page f.numbers)
        → f' ≡ stopped_file true p f (carried_out p.places (star_with 0 0 0) pool planned f (Take page place)) p.pages
        → LaidOut p g f' (without k t) × (f'.separators ≡ f.separators)
    taken-one f' place pool planned there e =
        let stored : f' ≡ carried_out p.places (star_with 0 0 0) pool planned f (Take page place) = e ∙ whole-file true p f (carried_out p.places (star_with 0 0 0) pool planned f (Take page place)) in
        (subst (λ (x : File). LaidOut p g x (without k t)) (sym (stored ∙ (take-decides place there pool planned).files)) (laid-removed k), ap (λ (x : File). x.separators) stored)

  abbrev laid_file : File
  laid_file = laid p.places (hash_of p g) p.pages t

  module _ (s : Star) (number : valid_number s.number ≡ true) (word : valid_word s.payload.word ≡ true) (absent : Absent s.number t) where
    in_range : (1 ≤ s.number) × (s.number ≤ greatest)
    unfolding valid_number
    in_range =
        let h = (and-eq-true_iff (leb 1 s.number) (leb s.number 2147483646)).0 number in
        (leb-true 1 s.number h.0, leb-true s.number 2147483646 h.1)

    -- accepted, the file is laid with the star; refused, not all fit with it
    pub laid-entered : ((entry_answer p g f s ≡ Overflows) × (entry_file p g f s ≡ f) × (Fits p g (insert s t) → ⊥))
        ⊎ ((page : ℕ) × (entry_answer p g f s ≡ On page) × LaidOut p g (entry_file p g f s) (insert s t))
    laid-entered = ⊎_elim (λ l. inl (same l)) (λ r. inr (new r)) (entry-decides p g t valid grows L.rising L.proper L.fits s)
      where
        same : ((entry_answer p g laid_file s ≡ Overflows) × (entry_file p g laid_file s ≡ laid_file) × (Fits p g (insert s t) → ⊥))
            → (entry_answer p g f s ≡ Overflows) × (entry_file p g f s ≡ f) × (Fits p g (insert s t) → ⊥)
        same l = (ap (λ (x : File). entry_answer p g x s) L.file ∙ l.0, ap (λ (x : File). entry_file p g x s) L.file ∙ l.1 ∙ sym L.file, l.2)

        new : ((page : ℕ) × (entry_answer p g laid_file s ≡ On page) × (entry_file p g laid_file s ≡ laid p.places (hash_of p g) p.pages (insert s t)) × Fits p g (insert s t))
            → (page : ℕ) × (entry_answer p g f s ≡ On page) × LaidOut p g (entry_file p g f s) (insert s t)
        new r = (
          r.0,
          ap (λ (x : File). entry_answer p g x s) L.file ∙ r.1,
          record {
            file = ap (λ (x : File). entry_file p g x s) L.file ∙ r.2;
            rising = rising-insert 0 s t (omega arith) absent L.rising;
            proper = proper-insert valid_word s t (in_range.0, in_range.1, word) L.proper;
            fits = r.3;
          },
        )

    -- by what the code answers
    module _ (f' : File) (o : Outcome) (answer : o ≡ entry_answer p g f s) (left_is : f' ≡ stopped_file false p f (entry_file p g f s) p.pages) where
      stored_is : f' ≡ entry_file p g f s
      stored_is = left_is ∙ whole-file false p f (entry_file p g f s)

      pub entered_on : (page : ℕ) → o ≡ On page → OneEntered p g f f' s t true
      entered_on page e =
          record {
            accepted = λ _. ⊎_elim (λ l. absurd (overflows_on page (sym l.0 ∙ sym answer ∙ e))) (λ r. subst (λ (x : File). LaidOut p g x (insert s t)) (sym stored_is) r.2) laid-entered;
            kept = λ d. absurd (false≢true (sym d));
            refused = λ d. absurd (false≢true (sym d));
          }

      pub entered-not : ((page : ℕ) → o ≡ On page → ⊥) → OneEntered p g f f' s t false
      entered-not never =
          record {
            accepted = λ d. absurd (false≢true d);
            kept = λ _. ⊎_elim (λ l. stored_is ∙ l.1) (λ r. absurd (never r.0 (answer ∙ r.1))) laid-entered;
            refused = λ _. ⊎_elim (λ l. l.2) (λ r. absurd (never r.0 (answer ∙ r.1))) laid-entered;
          }
