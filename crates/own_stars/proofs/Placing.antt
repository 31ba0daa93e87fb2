-- The stars of a page's value, place by place.
use mathlib.Core.Path.{◌≡◌, refl, sym, ap, subst, ◌∙◌}
use mathlib.Core.Bool.{Bool, true, false, false≢true}
use mathlib.Core.List.{List, [], ◌∷◌, Memᴰ}
use Prim.Native.Nat.{ℕ, zero, suc, ◌+◌, ◌-◌, ◌*◌, ◌≤◌, ◌<◌}
use native.Mathlib.Decide.{ℕ_discrete}
use native.Mathlib.Omega.{arith}
use borrow.Author.Tests.{eq-eqb, ne_eqb}
use lib.ListN.{length, take, drop, get_or, set, length-set}
use lib.Seq.{length-take-le, drop-cons, get_or-take, get_or-set_same, get_or-set_other}
use Rattle.pages.proofs.Numbers.{number-valid}
use Rattle.hashing.specs.declared.Parameters.{Parameters}
use Rattle.hashing.specs.declared.Growth.{Growth}
use Rattle.hashing.specs.Limits.{valid_parameters, valid_growth}
use Rattle.pages.specs.declared.page.Page.{Page}
use Rattle.pages.specs.declared.page.Place.{Place}
use Rattle.pages.specs.Page.{part, place_of}
use Rattle.pages.specs.Shape.{filled, page_at, place_in}
use Rattle.pages.specs.Position.{valid_number, valid_word}
use Rattle.pages.proofs.Parts.{part_length, part-item, filled-length, filled-item, take-filled}
use Rattle.pages.proofs.Places.{place-le}
use Rattle.placement.specs.Rule.{Star, insert, without, star_with}
use Rattle.placement.specs.File.{File}
use Rattle.placement.specs.Shape.{Sized}
use Rattle.placement.specs.Ready.{Pooled}
use Rattle.placement.proofs.Order.{Absent, inserted}
use Rattle.placement.proofs.Pages.{Numbered}
use Rattle.own_stars.specs.Own.{apart_from, LaidOut, EntersOne, Enterable, TakesOne, numbers_of_lem, rest_from_lem, Listed, EnteredBelow, OwnEntered, EntersPlace, Takeable, TakeableOwn, OwnOf, own_number}
use Rattle.own_stars.proofs.Among.{apart_none, apart-zero, apart-without, apart-absent, apart-insert}
use Rattle.own_stars.proofs.Laying.{laid-sized}

-- a number sought on a loaded page
module _ (places page k : ℕ) (ns ws os : List ℕ) (v : Page) (r : Place) (loaded : v ≡ page_at places page ns ws os) (found : r ≡ place_in k (take places v.numbers))
    (fits : page * places + places ≤ length ns) where
  pub found_at : r.at ≡ place_of k (part places page ns)
  found_at =
      ap (λ (x : Place). x.at) found
      ∙ ap (λ (x : Page). place_of k (take places x.numbers)) loaded
      ∙ ap (place_of k) (take-filled places page ns fits)

  pub found-low : places ≤ 32 → r.at ≤ 32
  found-low h =
      let there = ap (λ (x : Place). x.at) found in
      omega (arith, there, place-le k (take places v.numbers), ap length (ap (λ (x : Page). take places x.numbers) loaded ∙ take-filled places page ns fits), part_length places page ns fits)

module _ (places : ℕ) (own : Page) (w : List Star) (listed : Listed places own w) where
  numbered : Numbered w
  numbered s m = (listed.proper s m).0

  long : length (numbers_of_lem places own) ≡ places
  long = length-take-le places own.numbers (omega (arith, listed.of_numbers, listed.few))

  pub rest_all : rest_from_lem places own w places ≡ w
  rest_all = ap (λ (l : List ℕ). apart_from l w) (past (numbers_of_lem places own) places (omega (arith, long))) ∙ apart_none w
    where
      past : (l : List ℕ) (n : ℕ) → length l ≤ n → drop n l ≡ []
      past [] zero h = refl
      past [] (suc n) h = refl
      past (x ∷ l) zero h = absurd (omega arith)
      past (x ∷ l) (suc n) h = past l n (omega arith)

  module _ (i : ℕ) (h : i < places) where
    abbrev n : ℕ
    n = get_or own.numbers i 0

    abbrev star : Star
    star = star_with n (get_or own.words i 0) (get_or own.owners i 0)

    next-is : drop i (numbers_of_lem places own) ≡ n ∷ drop (suc i) (numbers_of_lem places own)
    next-is =
        drop-cons (numbers_of_lem places own) i 0 (omega (arith, long))
        ∙ ap (λ (m : ℕ). m ∷ drop (suc i) (numbers_of_lem places own)) (get_or-take places own.numbers i 0 h)

    pub rest-zero : n ≡ 0 → rest_from_lem places own w i ≡ rest_from_lem places own w (suc i)
    rest-zero e =
        ap (λ (l : List ℕ). apart_from l w) (next-is ∙ ap (λ (m : ℕ). m ∷ drop (suc i) (numbers_of_lem places own)) e)
        ∙ apart-zero (drop (suc i) (numbers_of_lem places own)) w numbered

    pub rest-without : without n (rest_from_lem places own w (suc i)) ≡ rest_from_lem places own w i
    rest-without = sym (apart-without n (drop (suc i) (numbers_of_lem places own)) w) ∙ ap (λ (l : List ℕ). apart_from l w) (sym next-is)

    module _ (some : n ≡ 0 → ⊥) where
      pub rest-star : insert star (rest_from_lem places own w i) ≡ rest_from_lem places own w (suc i)
      rest-star =
          ap (λ (l : List ℕ). insert star (apart_from l w)) next-is
          ∙ apart-insert star (drop (suc i) (numbers_of_lem places own)) w listed.rising (listed.star i h some) (listed.once i h some)

      pub rest-absent : Absent n (rest_from_lem places own w i)
      rest-absent = rw next-is (apart-absent n (drop (suc i) (numbers_of_lem places own)) w)

      pub rest-member : Memᴰ star (rest_from_lem places own w (suc i))
      rest-member = rw (← rest-star) (inserted star (rest_from_lem places own w i))

      pub star-number : valid_number n ≡ true
      star-number = let r = listed.proper star (listed.star i h some) in number-valid n r.0 r.1

      pub star-word : valid_word (get_or own.words i 0) ≡ true
      star-word = (listed.proper star (listed.star i h some)).2

-- the star at a place entered
module _ (p : Parameters) (g : Growth) (f : File) (own : Page) (i : ℕ) (h : i < p.places) where
  pub none-entered : get_or own.numbers i 0 ≡ 0 → EntersPlace p g f f own i true
  none-entered e w listed laid =
      record {
        accepted = λ _. rw (← rest-zero p.places own w listed i h e) laid;
        kept = λ _. refl;
        refused = λ d. absurd (false≢true (sym d));
      }

  module _ (some : get_or own.numbers i 0 ≡ 0 → ⊥) where
    pub one-enterable : EnteredBelow p g f own i → Enterable p g f (get_or own.numbers i 0) (get_or own.words i 0)
    one-enterable b =
        record {
          number = star-number p.places own b.stars b.listed i h some;
          valid = star-word p.places own b.stars b.listed i h some;
          stars = rest_from_lem p.places own b.stars i;
          laid_out = b.laid_out;
          absent = rest-absent p.places own b.stars b.listed i h some;
        }

    pub one-entered : (f' : File) (r : Bool) → EntersOne p g f f' (star_with (get_or own.numbers i 0) (get_or own.words i 0) (get_or own.owners i 0)) r → EntersPlace p g f f' own i r
    one-entered f' r E w listed laid =
        let O = E (rest_from_lem p.places own w i) laid (rest-absent p.places own w listed i h some) in
        let next = rest-star p.places own w listed i h some in
        record {
          accepted = λ e. rw (← next) (O.accepted e);
          kept = O.kept;
          refused = λ e d. O.refused e (rw next d);
        }

-- the loop that enters
pub record Rolling (p : Parameters) (g : Growth) (f f' : File) (own : Page) (pool waiting poolowners : List ℕ) (from i : ℕ) : Type 0 where
  pub most : i ≤ p.places
  pub sized : Sized p.places p.pages f'
  pub pooled : Pooled p pool waiting poolowners
  pub laid_out : (w : List Star) → Listed p.places own w → LaidOut p g f (rest_from_lem p.places own w from) → LaidOut p g f' (rest_from_lem p.places own w i)

module _ (p : Parameters) (g : Growth) (f f' : File) (own : Page) (pool waiting poolowners : List ℕ) (from i : ℕ)
    (valid : valid_parameters p ≡ true) (grows : valid_growth p g ≡ true) (b : EnteredBelow p g f own from)
    (R : Rolling p g f f' own pool waiting poolowners from i) (h : i < p.places) where
  pub rolling_begun : EnteredBelow p g f' own i
  rolling_begun = record { stars = b.stars; listed = b.listed; begun = R.most; laid_out = R.laid_out b.stars b.listed b.laid_out }

  module _ (f'' : File) (r : Bool) (E : EntersPlace p g f' f'' own i r) where
    pub rolling_next : r ≡ true → (pool' waiting' poolowners' : List ℕ) → Pooled p pool' waiting' poolowners' → Rolling p g f f'' own pool' waiting' poolowners' from (i + 1)
    rolling_next e pool' waiting' poolowners' pooled =
        let next : i + 1 ≡ suc i = omega arith in
        rw next (record {
          most = omega arith;
          sized = laid-sized p g f'' (rest_from_lem p.places own b.stars (suc i)) valid grows ((E b.stars b.listed (R.laid_out b.stars b.listed b.laid_out)).accepted e);
          pooled = pooled;
          laid_out = λ w l o. (E w l (R.laid_out w l o)).accepted e;
        })

    pub rolling_stops : r ≡ false → (w : List Star) → Listed p.places own w → LaidOut p g f (rest_from_lem p.places own w from) → OwnEntered p g f'' own w i
    rolling_stops e w l o =
        let done = E w l (R.laid_out w l o) in
        record {
          most = R.most;
          laid_out = subst (λ (x : File). LaidOut p g x (rest_from_lem p.places own w i)) (sym (done.kept e)) (R.laid_out w l o);
          stopped = λ _ d. done.refused e d;
        }

-- the loop that takes, from the last place down
pub record Emptying (p : Parameters) (g : Growth) (f f' : File) (own : Page) (pool waiting poolowners : List ℕ) (i : ℕ) : Type 0 where
  pub most : i ≤ p.places
  pub sized : Sized p.places p.pages f'
  pub pooled : Pooled p pool waiting poolowners
  pub stored : f'.separators ≡ f.separators
  pub laid_out : (w : List Star) → Listed p.places own w → LaidOut p g f w → LaidOut p g f' (rest_from_lem p.places own w i)

pub emptying_none : (p : Parameters) (g : Growth) (f : File) (own : Page) (pool waiting poolowners : List ℕ) → Sized p.places p.pages f → Pooled p pool waiting poolowners
    → Emptying p g f f own pool waiting poolowners p.places
emptying_none p g f own pool waiting poolowners sized pooled =
    record { most = omega arith; sized = sized; pooled = pooled; stored = refl; laid_out = λ w l o. rw (rest_all p.places own w l) o }

module _ (p : Parameters) (g : Growth) (f f' : File) (own : Page) (page : ℕ) (pool waiting poolowners : List ℕ) (i : ℕ) (valid : valid_parameters p ≡ true) (grows : valid_growth p g ≡ true)
    (T : TakeableOwn p g f own page) (R : Emptying p g f f' own pool waiting poolowners i) (h : 0 < i) where
  low : i - 1 < p.places
  low = omega (arith, R.most)

  up : suc (i - 1) ≡ i
  up = omega arith

  laid-now : (w : List Star) → Listed p.places own w → LaidOut p g f w → LaidOut p g f' (rest_from_lem p.places own w (suc (i - 1)))
  laid-now w l o = rw up (R.laid_out w l o)

  pub emptying_same : get_or own.numbers (i - 1) 0 ≡ 0 → Emptying p g f f' own pool waiting poolowners (i - 1)
  emptying_same e =
      record {
        most = omega (arith, R.most);
        sized = R.sized;
        pooled = R.pooled;
        stored = R.stored;
        laid_out = λ w l o. rw (rest-zero p.places own w l (i - 1) low e) (laid-now w l o);
      }

  module _ (some : get_or own.numbers (i - 1) 0 ≡ 0 → ⊥) where
    pub emptying_takes : Takeable p g f' page (get_or own.numbers (i - 1) 0)
    emptying_takes =
        record {
          inside = T.inside;
          homed = T.homed (i - 1) low some;
          top = rw R.stored T.top;
          stars = rest_from_lem p.places own T.stars (suc (i - 1));
          laid_out = laid-now T.stars T.listed T.laid_out;
          star = star_with (get_or own.numbers (i - 1) 0) (get_or own.words (i - 1) 0) (get_or own.owners (i - 1) 0);
          named = refl;
          member = rest-member p.places own T.stars T.listed (i - 1) low some;
        }

    pub emptying_next : (f'' : File) (pool' waiting' poolowners' : List ℕ) → TakesOne p g f' f'' page (get_or own.numbers (i - 1) 0) → Pooled p pool' waiting' poolowners'
        → Emptying p g f f'' own pool' waiting' poolowners' (i - 1)
    emptying_next f'' pool' waiting' poolowners' E pooled =
        record {
          most = omega (arith, R.most);
          sized = laid-sized p g f'' (rest_from_lem p.places own T.stars (i - 1)) valid grows (next T.stars T.listed T.laid_out);
          pooled = pooled;
          stored = (taken T.stars T.listed T.laid_out).1 ∙ R.stored;
          laid_out = next;
        }
      where
        taken : (w : List Star) → Listed p.places own w → LaidOut p g f w
            → LaidOut p g f'' (without (get_or own.numbers (i - 1) 0) (rest_from_lem p.places own w (suc (i - 1)))) × (f''.separators ≡ f'.separators)
        taken w l o = E (rest_from_lem p.places own w (suc (i - 1))) (laid-now w l o) _ refl (rest-member p.places own w l (i - 1) low some)

        next : (w : List Star) → Listed p.places own w → LaidOut p g f w → LaidOut p g f'' (rest_from_lem p.places own w (i - 1))
        next w l o = rw (← rest-without p.places own w l (i - 1) low) (taken w l o).0

-- the loop that finds: the places below i have only own numbers
pub record Finding (places page : ℕ) (ns ws os homes : List ℕ) (own : Page) (i : ℕ) : Type 0 where
  pub most : i ≤ places
  pub of_numbers : length own.numbers ≡ 32
  pub each : (j : ℕ) → j < i → get_or own.numbers j 0 ≡ own_number page (get_or ns (page * places + j) 0) (get_or homes (page * places + j) 0)
  pub later : (j : ℕ) → i ≤ j → j < places → get_or own.numbers j 0 ≡ get_or ns (page * places + j) 0
  pub words : own.words ≡ filled (part places page ws)
  pub owners : own.owners ≡ filled (part places page os)

pub finding-none : (places page : ℕ) (ns ws os homes : List ℕ) (own : Page) → places ≤ 32 → page * places + places ≤ length ns → own ≡ page_at places page ns ws os
    → Finding places page ns ws os homes own 0
finding-none places page ns ws os homes own few long e =
    record {
      most = omega arith;
      of_numbers = ap (λ (v : Page). length v.numbers) e ∙ filled-length places page ns long few;
      each = λ j h. absurd (omega arith);
      later = λ j a h. ap (λ (v : Page). get_or v.numbers j 0) e ∙ filled-item (part places page ns) j ∙ part-item places page ns j h;
      words = ap (λ (v : Page). v.words) e;
      owners = ap (λ (v : Page). v.owners) e;
    }

module _ (places page : ℕ) (ns ws os homes : List ℕ) (own : Page) (i : ℕ) (few : places ≤ 32) (F : Finding places page ns ws os homes own i) (h : i < places) where
  pub finding-own : get_or homes (page * places + i) 0 ≡ page → Finding places page ns ws os homes own (i + 1)
  finding-own e =
      record {
        most = omega arith;
        of_numbers = F.of_numbers;
        each = λ j a. go j a (ℕ_discrete j i);
        later = λ j a b. F.later j (omega arith) b;
        words = F.words;
        owners = F.owners;
      }
    where
      here : get_or own.numbers i 0 ≡ own_number page (get_or ns (page * places + i) 0) (get_or homes (page * places + i) 0)
      here = rw (eq-eqb (get_or homes (page * places + i) 0) page e) (F.later i (omega arith) h)

      go : (j : ℕ) → j < i + 1 → Dec (j ≡ i) → get_or own.numbers j 0 ≡ own_number page (get_or ns (page * places + j) 0) (get_or homes (page * places + j) 0)
      go j a (yes d) = rw d here
      go j a (no d) = F.each j (omega (arith, d))

  pub finding-guest : (get_or homes (page * places + i) 0 ≡ page → ⊥)
      → Finding places page ns ws os homes (record { numbers = set own.numbers i 0; words = own.words; owners = own.owners }) (i + 1)
  finding-guest e =
      record {
        most = omega arith;
        of_numbers = length-set own.numbers i 0 ∙ F.of_numbers;
        each = λ j a. go j a (ℕ_discrete j i);
        later = λ j a b. get_or-set_other own.numbers i j 0 0 (λ d. omega (arith, d)) ∙ F.later j (omega arith) b;
        words = F.words;
        owners = F.owners;
      }
    where
      here : get_or (set own.numbers i 0) i 0 ≡ own_number page (get_or ns (page * places + i) 0) (get_or homes (page * places + i) 0)
      here = rw (ne_eqb (get_or homes (page * places + i) 0) page e) (get_or-set_same own.numbers i 0 0 (omega (arith, F.of_numbers)))

      go : (j : ℕ) → j < i + 1 → Dec (j ≡ i) → get_or (set own.numbers i 0) j 0 ≡ own_number page (get_or ns (page * places + j) 0) (get_or homes (page * places + j) 0)
      go j a (yes d) = rw d here
      go j a (no d) = get_or-set_other own.numbers i j 0 0 d ∙ F.each j (omega (arith, d))

pub finding-all : (places page : ℕ) (ns ws os homes : List ℕ) (own : Page) (i : ℕ) → i ≡ places → Finding places page ns ws os homes own i → OwnOf places page ns ws os homes own
finding-all places page ns ws os homes own i e F = record { of_numbers = F.of_numbers; each = λ j h. F.each j (omega arith); words = F.words; owners = F.owners }
