-- A shrinking of pages that are the rule's, of which the one given back has not overflowed: its own stars alone get other homes.
use mathlib.Core.Path.{◌≡◌, refl, sym, ap, subst, ◌∙◌}
use mathlib.Core.Bool.{Bool, true, false, not, cond, ◌||◌, true≢false}
use mathlib.Core.List.{List, [], ◌∷◌, Memᴰ}
use Prim.Native.Nat.{ℕ, zero, suc, ◌+◌, ◌-◌, ◌*◌, ◌≤◌, ◌<◌}
use native.Mathlib.Decide.{ℕ_discrete, dec_lt}
use native.Mathlib.Omega.{arith}
use lib.Dec.{eqb, ltb}
use lib.ListN.{length, take, drop, get_or, length-drop, get_or-map}
use lib.Seq.{length-take-le, get_or-take, get_or-drop, drop-cons}
use borrow.Author.Tests.{eq-eqb, ne_eqb, le-ltb}
use Rattle.buffers.specs.Lists.{among}
use Rattle.hashing.specs.declared.Parameters.{Parameters}
use Rattle.hashing.specs.declared.Growth.{Growth}
use Rattle.hashing.specs.declared.Geometry.{Geometry}
use Rattle.generator.specs.Generator.{top_of_lem}
use Rattle.hashing.specs.Geometry.{multiplier_of, highest, grown, is_ungrown, shrunk}
use Rattle.hashing.specs.Home.{home}
use Rattle.hashing.specs.Limits.{valid_parameters, valid_growth}
use Rattle.hashing.proofs.Bounds.{limits, growth_within}
use Rattle.hashing.proofs.Homes.{home-highest}
use Rattle.hashing.proofs.Shrinking.{grown-shrunk, shrunk-page, shrunk-below, shrunk-valid}
use Rattle.home_update.proofs.Rehomed.{home-shrunk}
use Rattle.pages.specs.declared.page.Page.{Page}
use Rattle.pages.specs.Page.{part}
use Rattle.pages.specs.Shape.{filled}
use Rattle.pages.specs.Position.{valid_word}
use Rattle.pages.proofs.Parts.{page-fits, part_length, part-item, filled-length, filled-item}
use Rattle.placement.specs.Rule.{Star, pages, left, first, star_with}
use Rattle.placement.specs.File.{File, gathered, stars_at, laid, replaced, file_of, Clean}
use Rattle.placement.specs.Shape.{Sized, home_in, homes_of}
use Rattle.placement.specs.Hash.{hash_of, sound_at, named_page_lem}
use Rattle.placement.proofs.Domination.{left-part}
use Rattle.placement.proofs.Composition.{length-pages}
use Rattle.placement.proofs.Files.{roomy-pages, gathered-laid}
use Rattle.placement.proofs.Order.{Rising}
use Rattle.placement.proofs.Pages.{Proper}
use Rattle.placement.proofs.Probing.{homed-real}
use Rattle.placement.proofs.Search.{star-at, at-star, found_at}
use Rattle.placement.proofs.Sound.{sound-facts, clean_list, member_gathered}
use Rattle.placement.proofs.Tested.{rising-on}
use Rattle.page_edit.proofs.OnePage.{named-home}
use Rattle.reach.specs.Reach.{first_unsound_lem, first_such, all_stars, is_empty}
use Rattle.reach.proofs.Search.{such}
use Rattle.calls.proofs.Alike.{none-such}
use Rattle.calls.proofs.Ruled.{all_sound}
use Rattle.growth_in_place.proofs.Alike.{map-part}
use Rattle.clean_test.specs.Raising.{Homed, first_raisable_lem, raisable}
use Rattle.clean_test.proofs.Raising.{clean_exactly}
use Rattle.page_plan.specs.declared.outcome.Outcome.TheVariants.{On, Unsound, Overflows}
use Rattle.own_stars.specs.Own.{apart_from, Fits, LaidOut, numbers_of_lem, rest_from_lem, Listed, OwnEntered, TakeableOwn, OwnOf}
use Rattle.own_stars.proofs.Among.{rising-apart, apart-member}
use Rattle.own_stars.proofs.Laying.{laid-sized, laid-sound}
use Rattle.own_stars.proofs.Placing.{rest_all}
use Rattle.growth_plan.specs.Growth.{growth_answer, growth_file}
use Rattle.growth_plan.specs.Shrinking.{Simple, MovesOwn}
use Rattle.growth_plan.proofs.InPlace.{replaced-whole}
use Rattle.growth_plan.proofs.Agreeing.{Agree, pages-same, left-same}

-- a number that no item is
among_none : (k : ℕ) (l : List ℕ) → ((j : ℕ) → j < length l → get_or l j 0 ≡ k → ⊥) → among k l ≡ false
unfolding among
among_none k [] h = refl
among_none k (n ∷ l) h = rw (ne_eqb n k (h 0 (omega arith)), among_none k l (λ j a. h (suc j) (omega arith)))

-- .. and one that is an item
among-item : (k : ℕ) (l : List ℕ) (j : ℕ) → j < length l → get_or l j 0 ≡ k → among k l ≡ true
unfolding among
among-item k [] j h e = absurd (omega arith)
among-item k (n ∷ l) zero h e = rw (eq-eqb n k e)
among-item k (n ∷ l) (suc j) h e = rw (among-item k l j (omega arith) e) (last (eqb n k))
  where
    last : (b : Bool) → b || true ≡ true
    last true = refl
    last false = refl

-- part of what fits
fits-part : (p : Parameters) (g : Growth) (ns : List ℕ) (w : List Star) → Fits p g w → Fits p g (apart_from ns w)
unfolding apart_from
fits-part p g ns w e = left-part (hash_of p g) 0 p.pages (λ (s : Star). not (among s.number ns)) w e

-- a file that is laid of stars that fit grows to what is laid of them
module _ (p : Parameters) (g next : Growth) (f : File) (t : List Star) (valid : valid_parameters p ≡ true) (grows : valid_growth p g ≡ true) (L : LaidOut p g f t) where
  stars_are : all_stars p f ≡ t
  unfolding hash_of
  stars_are = ap (λ (l : File). gathered p.places l 0 p.pages) L.file ∙ gathered-laid valid_word (hash_of p g) p.pages t L.proper 0 L.rising L.fits

  sound-all : ltb (first_unsound_lem p g f 0 p.pages) p.pages ≡ false
  unfolding first_unsound_lem
  sound-all =
      le-ltb (first_unsound_lem p g f 0 p.pages) p.pages
      (omega (arith, none-such (λ (q : ℕ). not (sound_at p g f q)) 0 p.pages (λ q h. ap not (laid-sound p g f t valid grows L q (omega arith)))))

  laid-anew : replaced p.places f 0 (pages (hash_of p next) 0 p.pages t) ≡ laid p.places (hash_of p next) p.pages t
  unfolding laid hash_of
  laid-anew = replaced-whole p.places p.pages f (pages (hash_of p next) 0 p.pages t) (laid-sized p g f t valid grows L) (roomy-pages (hash_of p next) 0 p.pages t) (length-pages (hash_of p next) 0 p.pages t)

  pub grown-laid : Fits p next t → (growth_file p g f next ≡ laid p.places (hash_of p next) p.pages t) × ((page : ℕ) → On page ≡ growth_answer p g f next page)
  unfolding growth_file growth_answer
  grown-laid fits = rw (sound-all, stars_are, fits) (laid-anew, λ page. refl)

  pub not_grown : (Fits p next t → ⊥) → (growth_file p g f next ≡ f) × ((page : ℕ) → Overflows ≡ growth_answer p g f next page)
  unfolding growth_file growth_answer
  not_grown never = rw (sound-all, stars_are) (go (left (hash_of p next) 0 p.pages t) never)
    where
      go : (l : List Star) → (l ≡ [] → ⊥)
          → (cond (is_empty l) (replaced p.places f 0 (pages (hash_of p next) 0 p.pages t)) f ≡ f) × ((page : ℕ) → Overflows ≡ cond (is_empty l) (On page) Overflows)
      go [] n = absurd (n refl)
      go (s ∷ l) n = (refl, λ page. refl)

pub highest-inside : (p : Parameters) (g : Growth) → valid_parameters p ≡ true → valid_growth p g ≡ true → highest p g < p.pages
unfolding highest
highest-inside p g valid grows = let w = growth_within p g grows in omega (arith, w.pages_fit, homed-real p g valid grows 0)

-- what the code has found, by the page given back
pub own_of : (places q P : ℕ) (ns ws os hs hs' : List ℕ) (own : Page) → q ≡ P → hs ≡ hs' → OwnOf places q ns ws os hs own → OwnOf places P ns ws os hs' own
own_of places q P ns ws os hs hs' own e d O = subst (λ (x : List ℕ). OwnOf places P ns ws os x own) d (subst (λ (x : ℕ). OwnOf places x ns ws os hs own) e O)

pub homes-kept : (p : Parameters) (g : Growth) (f : File) (hs : List ℕ) → Sized p.places p.pages f → length hs ≡ p.pages * p.places → hs ≡ homes_of p g f.numbers
    → Homed (record { parameters = p; growth = g }) f.separators f.numbers hs 0 p.pages
homes-kept p g f hs sized size e =
    record {
      separators = sized.of_separators;
      numbers = sized.of_numbers;
      homes = size;
      low = omega arith;
      high = omega arith;
      kept = λ q a h. ap (part p.places q) e ∙ (unfold homes_of in map-part (home_in p g) p.places q f.numbers);
    }

pub moved_on : (p : Parameters) (g : Growth) (f f' : File) (r : Bool) → MovesOwn p g f f' r → r ≡ true → (page : ℕ)
    → (On page ≡ growth_answer p g f (shrunk p g) page) × (f' ≡ growth_file p g f (shrunk p g))
moved_on p g f f' r m e page = (ap (λ (b : Bool). cond b (On page) Overflows) (sym e) ∙ m.answers page, m.file)

pub moved-not : (p : Parameters) (g : Growth) (f f' : File) (r : Bool) → MovesOwn p g f f' r → r ≡ false → (page : ℕ)
    → (Overflows ≡ growth_answer p g f (shrunk p g) page) × (f' ≡ growth_file p g f (shrunk p g))
moved-not p g f f' r m e page = (ap (λ (b : Bool). cond b (On page) Overflows) (sym e) ∙ m.answers page, m.file)

-- clean pages
module _ (p : Parameters) (g : Growth) (f : File) (valid : valid_parameters p ≡ true) (grows : valid_growth p g ≡ true) (sized : Sized p.places p.pages f)
    (sound : first_unsound_lem p g f 0 p.pages ≡ p.pages) (simple : Simple (record { parameters = p; growth = g }) f.separators f.numbers) where
  abbrev S : List Star
  S = all_stars p f

  abbrev P : ℕ
  P = highest p g

  is-clean : Clean valid_word (hash_of p g) p.pages f
  unfolding hash_of sound_at
  is-clean =
      let all_of : p.pages - 0 ≡ p.pages = omega arith in
      let e : first_such (raisable (hash_of p g) p.pages f.separators f.numbers) 0 p.pages ≡ p.pages = rw all_of at simple.clean in
      (clean_exactly valid_word (hash_of p g) p.pages f sized (λ q k i. sound-facts valid_word (hash_of p g) f q (all_sound p g f sound q (omega arith)))).0
      (λ q k. (such (raisable (hash_of p g) p.pages f.separators f.numbers) 0 p.pages).before q (omega arith) (omega (arith, e)))

  pub clean_laid : LaidOut p g f S
  unfolding hash_of
  clean_laid =
      let l = clean_list valid_word (hash_of p g) f p.pages sized is-clean in
      record { file = is-clean.by_rule; rising = l.0; proper = l.1; fits = l.2 }

  page-inside : P < p.pages
  page-inside = highest-inside p g valid grows

  sound-page : sound_at p g f P ≡ true
  sound-page = laid-sound p g f S valid grows clean_laid P page-inside

  -- the own stars of the page given back
  module _ (own : Page) (O : OwnOf p.places P f.numbers f.words f.owners (homes_of p g f.numbers) own) where
    fits_in : (l : List ℕ) → length l ≡ p.pages * p.places → P * p.places + p.places ≤ length l
    fits_in l e = page-fits p.places p.pages P page-inside e

    home-there : (i : ℕ) → get_or (homes_of p g f.numbers) i 0 ≡ home_in p g (get_or f.numbers i 0)
    unfolding homes_of
    home-there i = get_or-map (home_in p g) f.numbers i 0

    -- an own number is the item's, and its home is the page
    own_is : (i : ℕ) → i < p.places → (get_or own.numbers i 0 ≡ 0 → ⊥)
        → (get_or own.numbers i 0 ≡ get_or f.numbers (P * p.places + i) 0) × (home (multiplier_of p) p g (get_or own.numbers i 0) ≡ P)
    own_is i h some = go (ℕ_discrete (get_or (homes_of p g f.numbers) (P * p.places + i) 0) P)
      where
        n : ℕ
        n = get_or f.numbers (P * p.places + i) 0

        go : Dec (get_or (homes_of p g f.numbers) (P * p.places + i) 0 ≡ P)
            → (get_or own.numbers i 0 ≡ get_or f.numbers (P * p.places + i) 0) × (home (multiplier_of p) p g (get_or own.numbers i 0) ≡ P)
        go (no d) = absurd (some (O.each i h ∙ rw (ne_eqb (get_or (homes_of p g f.numbers) (P * p.places + i) 0) P d)))
        go (yes d) =
            let same : get_or own.numbers i 0 ≡ get_or f.numbers (P * p.places + i) 0 = O.each i h ∙ rw (eq-eqb (get_or (homes_of p g f.numbers) (P * p.places + i) 0) P d) in
            (same, ap (home (multiplier_of p) p g) same ∙ real (get_or f.numbers (P * p.places + i) 0) (λ z. some (same ∙ z)) ∙ sym (home-there (P * p.places + i)) ∙ d)
          where
            real : (n : ℕ) → (n ≡ 0 → ⊥) → home (multiplier_of p) p g n ≡ home_in p g n
            real n z = rw (ne_eqb n 0 z)

    -- the star at a place of the page, and the place of a star
    long-part : (l : List ℕ) → length l ≡ p.pages * p.places → length (part p.places P l) ≡ p.places
    long-part l e = part_length p.places P l (fits_in l e)

    star-there : (i : ℕ) → i < p.places → 1 ≤ get_or (part p.places P f.numbers) i 0
        → Memᴰ (star_with (get_or (part p.places P f.numbers) i 0) (get_or (part p.places P f.words) i 0) (get_or (part p.places P f.owners) i 0)) (stars_at p.places f P)
    unfolding stars_at
    star-there i h least =
        at-star (part p.places P f.numbers) (part p.places P f.words) (part p.places P f.owners) i
        (omega (arith, long-part f.numbers sized.of_numbers)) (omega (arith, long-part f.words sized.of_words_lem)) (omega (arith, long-part f.owners sized.of_owners)) least

    place-there : (s : Star) → Memᴰ s (stars_at p.places f P) → (i : ℕ) × (i < p.places) × (get_or f.numbers (P * p.places + i) 0 ≡ s.number)
    unfolding stars_at
    place-there s m =
        let at = star-at (part p.places P f.numbers) (part p.places P f.words) (part p.places P f.owners) s m in
        let low : at.0 < p.places = omega (arith, at.1, long-part f.numbers sized.of_numbers) in
        (at.0, low, sym (part-item p.places P f.numbers at.0 low) ∙ at.2)

    own-long : length (numbers_of_lem p.places own) ≡ p.places
    own-long = length-take-le p.places own.numbers (omega (arith, O.of_numbers, (limits p valid).places_most))

    own-item : (i : ℕ) → i < p.places → get_or (numbers_of_lem p.places own) i 0 ≡ get_or own.numbers i 0
    own-item i h = get_or-take p.places own.numbers i 0 h

    pub own-listed : Listed p.places own S
    own-listed =
        record {
          rising = clean_laid.rising;
          proper = clean_laid.proper;
          few = (limits p valid).places_most;
          of_numbers = O.of_numbers;
          of_words_lem = ap length O.words ∙ filled-length p.places P f.words (fits_in f.words sized.of_words_lem) (limits p valid).places_most;
          of_owners = ap length O.owners ∙ filled-length p.places P f.owners (fits_in f.owners sized.of_owners) (limits p valid).places_most;
          star = member;
          once = once;
        }
      where
        member : (i : ℕ) → i < p.places → (get_or own.numbers i 0 ≡ 0 → ⊥) → Memᴰ (star_with (get_or own.numbers i 0) (get_or own.words i 0) (get_or own.owners i 0)) S
        member i h some =
            let number : get_or own.numbers i 0 ≡ get_or (part p.places P f.numbers) i 0 = (own_is i h some).0 ∙ sym (part-item p.places P f.numbers i h) in
            let word : get_or own.words i 0 ≡ get_or (part p.places P f.words) i 0 = ap (λ (l : List ℕ). get_or l i 0) O.words ∙ filled-item (part p.places P f.words) i in
            let owner : get_or own.owners i 0 ≡ get_or (part p.places P f.owners) i 0 = ap (λ (l : List ℕ). get_or l i 0) O.owners ∙ filled-item (part p.places P f.owners) i in
            let least : 1 ≤ get_or (part p.places P f.numbers) i 0 = omega (arith, number, some) in
            rw (number, word, owner)
            (member_gathered p.places f 0 p.pages P _ (omega arith) (omega (arith, page-inside)) (star-there i h least))

        once : (i : ℕ) → i < p.places → (get_or own.numbers i 0 ≡ 0 → ⊥) → among (get_or own.numbers i 0) (drop (suc i) (numbers_of_lem p.places own)) ≡ false
        once i h some =
            among_none (get_or own.numbers i 0) (drop (suc i) (numbers_of_lem p.places own))
            (λ j a e.
            let low : suc i + j < p.places = omega (arith, a, length-drop (suc i) (numbers_of_lem p.places own), own-long) in
            let same : get_or own.numbers (suc i + j) 0 ≡ get_or own.numbers i 0 = sym (own-item (suc i + j) low) ∙ sym (get_or-drop (suc i) (numbers_of_lem p.places own) j 0) ∙ e in
            let later = (own_is (suc i + j) low (λ z. some (sym same ∙ z))).0 in
            let here = (own_is i h some).0 in
            let rise = rising-on p g f P sized page-inside sound-page i (suc i + j) (omega arith) low (λ z. some (sym same ∙ later ∙ z)) in
            omega (arith, rise.1, same, later, here))

    pub own-takeable : TakeableOwn p g f own P
    unfolding hash_of
    own-takeable =
        record { inside = page-inside; top = simple.top; homed = λ i h some. (own_is i h some).1; stars = S; listed = own-listed; laid_out = clean_laid }

    -- the others keep their homes
    module _ (old : is_ungrown g ≡ false) where
      abbrev before : Growth
      before = shrunk p g

      standing : (s : Star) → Memᴰ s S → Memᴰ s (stars_at p.places f (named_page_lem p g f.separators s.number))
      unfolding named_page_lem hash_of
      standing s m =
          subst (λ (l : File). Memᴰ s (stars_at p.places l (first (hash_of p g) 0 l.separators s.number))) (sym clean_laid.file)
          (found_at valid_word (hash_of p g) p.pages S clean_laid.rising clean_laid.proper clean_laid.fits s m).1

      own-named : (s : Star) → Memᴰ s S → (hash_of p g).home s.number ≡ P → among s.number (numbers_of_lem p.places own) ≡ true
      own-named s m e =
          let named : named_page_lem p g f.separators s.number ≡ P = unfold hash_of in named-home p g f sized P page-inside valid s.number e simple.top in
          let stands : Memᴰ s (stars_at p.places f P) = subst (λ (q : ℕ). Memᴰ s (stars_at p.places f q)) named (standing s m) in
          let at = place-there s stands in
          let low : at.0 < p.places = at.1 in
          let item : get_or f.numbers (P * p.places + at.0) 0 ≡ s.number = at.2 in
          let homed : get_or (homes_of p g f.numbers) (P * p.places + at.0) 0 ≡ P
          = home-there (P * p.places + at.0) ∙ ap (home_in p g) item ∙ rw (ne_eqb s.number 0 (λ z. omega (arith, z, (clean_laid.proper s m).0))) (unfold hash_of in e) in
          among-item s.number (numbers_of_lem p.places own) at.0 (omega (arith, own-long, low))
          (own-item at.0 low ∙ O.each at.0 low ∙ rw (eq-eqb (get_or (homes_of p g f.numbers) (P * p.places + at.0) 0) P homed) item)

      others-agree : Agree p g before (rest_from_lem p.places own S 0)
      unfolding hash_of
      others-agree s m =
          let both = apart-member (drop 0 (numbers_of_lem p.places own)) S s m in
          sym (home-shrunk p g valid old grows (multiplier_of p) s.number (λ e. true≢false (sym (own-named s both.0 e) ∙ both.1)))

      pub others-laid : (f' : File) → LaidOut p g f' (rest_from_lem p.places own S 0) → LaidOut p before f' (rest_from_lem p.places own S 0)
      unfolding laid hash_of
      others-laid f' L =
          record {
            file = L.file ∙ ap (file_of p.places) (pages-same p g before 0 p.pages (rest_from_lem p.places own S 0) others-agree);
            rising = L.rising;
            proper = L.proper;
            fits = sym (left-same p g before 0 p.pages (rest_from_lem p.places own S 0) others-agree) ∙ L.fits;
          }

      part-fits : (r : ℕ) → Fits p g (rest_from_lem p.places own S r)
      part-fits r = fits-part p g (drop r (numbers_of_lem p.places own)) S clean_laid.fits

      -- all are entered
      pub all-entered : (f' : File) (r : ℕ) → OwnEntered p before f' own S r → r ≡ p.places → MovesOwn p g f f' true
      all-entered f' r E e =
          let L : LaidOut p before f' S = subst (λ (w : List Star). LaidOut p before f' w) (ap (rest_from_lem p.places own S) e ∙ rest_all p.places own S own-listed) E.laid_out in
          let G = grown-laid p g before f S valid grows clean_laid L.fits in
          record { answers = G.1; file = L.file ∙ sym G.0 }

      -- not all fit: the pages grow again, and the stars left are entered again
      pub back-grown : (f' : File) (r : ℕ) → OwnEntered p before f' own S r → LaidOut p g (growth_file p before f' (grown p before)) (rest_from_lem p.places own S r)
      back-grown f' r E =
          record {
            file =
                ap (growth_file p before f') (grown-shrunk p g valid old grows)
                ∙ (grown-laid p before g f' (rest_from_lem p.places own S r) valid (shrunk-valid p g valid old grows) E.laid_out (part-fits r)).0;
            rising = E.laid_out.rising;
            proper = E.laid_out.proper;
            fits = part-fits r;
          }

      pub none-entered : (f' f'' : File) (r r' : ℕ) → OwnEntered p before f' own S r → (r ≡ p.places → ⊥) → OwnEntered p g f'' own S r' → MovesOwn p g f f'' false
      none-entered f' f'' r r' E never E' =
          let none : (Fits p before S → ⊥) = λ fits. E.stopped (omega (arith, E.most, never)) (fits-part p before (drop (suc r) (numbers_of_lem p.places own)) S fits) in
          let G = not_grown p g before f S valid grows clean_laid none in
          let all : r' ≡ p.places = go (dec_lt r' p.places) in
          let L : LaidOut p g f'' S = subst (λ (w : List Star). LaidOut p g f'' w) (ap (rest_from_lem p.places own S) all ∙ rest_all p.places own S own-listed) E'.laid_out in
          record { answers = G.1; file = L.file ∙ sym clean_laid.file ∙ sym G.0 }
        where
          go : Dec (r' < p.places) → r' ≡ p.places
          go (yes d) = absurd (E'.stopped d (part-fits (suc r')))
          go (no d) = omega (arith, E'.most, d)
