-- The cascade after d pages: what is planned of them, and the words carried on.
use mathlib.Core.Path.{◌≡◌, refl, sym, ap, ◌∙◌}
use mathlib.Core.Bool.{true, not, ◌||◌}
use mathlib.Core.List.{List, [], ◌∷◌, ◌++◌, map, map-append}
use Prim.Native.Nat.{ℕ, ◌+◌, ◌*◌, ◌^◌, ◌≤◌, ◌<◌}
use native.Mathlib.Nat.{zero-mul, mul-le-mul}
use native.Mathlib.Decide.{dec_lt}
use native.Mathlib.Omega.{arith}
use lib.Dec.{leb, ltb, eqb}
use lib.ListN.{length, take, drop, get_or, length-map, length-append}
use borrow.Author.Tests.{le-leb, leb-true}
use Rattle.pages.proofs.Numbers.{number-range}
use Rattle.pages.specs.Shape.{stretch}
use Rattle.hashing.specs.declared.Parameters.{Parameters}
use Rattle.hashing.specs.declared.Growth.{Growth}
use Rattle.hashing.specs.Geometry.{multiplier_of}
use Rattle.hashing.specs.Home.{home}
use Rattle.hashing.specs.Limits.{valid_parameters}
use Rattle.hashing.proofs.Bounds.{limits}
use Rattle.pages.specs.Position.{valid_number}
use Rattle.placement.specs.Rule.{Star, Contents, separators}
use Rattle.placement.specs.File.{File, column, written}
use Rattle.placement.specs.Shape.{Sized}
use Rattle.placement.specs.Hash.{hash_of, sound_at, named_page_lem}
use Rattle.placement.proofs.Mapping.{mapped}
use Rattle.placement.proofs.Standing.{first_home}
use Rattle.placement.proofs.Writing.{column-append, separators-append}
use Rattle.reach.specs.Cascade.{cascaded, carried_past}
use Rattle.page_separator.specs.Words.{pack, home_of, number_in}
use Rattle.page_separator.specs.Probes.{under, staying_words, passing_words, words_separator_from}
use Rattle.page_separator.proofs.Lists.{all_filter, all-mono}
use Rattle.page_plan.specs.Plans.{waits, homed}
use Rattle.page_plan.specs.Sources.{renamed, sourced}
use Rattle.page_plan.proofs.Applying.{sourced-waits, sourced-append, sourced-filter}
use Rattle.page_plan.proofs.Pouring.{length-waits}
use Rattle.entry_reach.specs.Entry.{Unheld, new_star_lem, entry_start}
use Rattle.entry_reach.proofs.Joined.{sourced-on, new_word, new-carried, new-carriable}
use Rattle.entry_reach.specs.Blocks.{apart}
use Rattle.entry_reach.specs.Pushing.{page_words, lowered_to, lowered_on, Pushed}
use Rattle.entry_reach.proofs.Visiting.{cascaded-add, carried-add, cascaded-one, carried-one}
use Rattle.entry_reach.proofs.PageWords.{page-sourced, apart-joined}
use Rattle.entry_reach.proofs.Settled.{lowered-roomy, sources_on, separators-on, met-homed, met-near, pushes_to, pushes_on}

-- as many stars are carried on as words
pub carried-length : (g : Star → Star) (l : List ℕ) → length (map g (waits l)) ≡ length l
carried-length g l = length-map (waits l) g ∙ length-waits l

module _ (p : Parameters) (g : Growth) (f : File) (k page : ℕ) (valid : valid_parameters p ≡ true) (sized : Sized p.places p.pages f)
    (number : valid_number k ≡ true) (unheld : Unheld p g f k) (here : page ≡ named_page_lem p g f.separators k) where
  pub small : k < 2 ^ 31
  small = omega (arith, number-range k number)

  pub few : length f.numbers + 1 < 2 ^ 16
  few = let l = limits p valid in omega (arith, sized.of_numbers, mul-le-mul l.pages_most l.places_most)

  pub page-inside : page < p.pages
  page-inside = omega (arith, here, unheld.named)

  home_below : entry_start p g k ≤ page
  unfolding named_page_lem
  home_below = rw here (first_home (hash_of p g) 0 f.separators k (omega (arith, unheld.named, sized.of_separators)))

  -- the word that the code packs
  pub new-packed : (from : ℕ) → from ≡ home (multiplier_of p) p g k → pack from k (length f.numbers + 1) ≡ new_word p g f k
  unfolding hash_of
  new-packed from e = ap (λ (h : ℕ). pack h k (length f.numbers + 1)) e

  pub pushed_none : (pool planned : List ℕ) → Pushed p g f k page pool planned (new_word p g f k ∷ []) 0
  pushed_none pool planned =
      record {
        most = omega (arith, page-inside);
        sound = λ q a b. absurd (omega arith);
        contents = [];
        size = refl;
        sources = unfold column in ap (λ (n : ℕ). take n (drop (page * p.places) pool)) (zero-mul p.places);
        separators_are = unfold separators in refl;
        all_sourced = tt;
        are = λ word owner. unfold cascaded in refl;
        carried = λ word owner. unfold carried_past in new-carried p g f k valid sized number unheld word owner;
        words = new-carriable p g f k valid sized number unheld (page + 0) (omega (arith, home_below));
      }

  -- one more page
  module _ (pool planned w : List ℕ) (d : ℕ) (P : Pushed p g f k page pool planned w d) (some : 0 < length w)
      (inside : page + d < p.pages) (sound : sound_at p g f (page + d) ≡ true) where
    abbrev met : List ℕ
    met = w ++ page_words p g f (page + d)

    abbrev stored : ℕ
    stored = get_or f.separators (page + d) 0

    abbrev new : Contents
    new = lowered_to p (page + d) stored met

    abbrev rename : ℕ → ℕ → Star → Star
    rename word owner = renamed f.words f.owners word owner

    one-page : (word owner : ℕ) → cascaded (hash_of p g) f (page + d) 1 (carried_past (hash_of p g) f page d (new_star_lem k word owner ∷ [])) ≡ mapped (rename word owner) new ∷ []
    one-page word owner =
        ap (cascaded (hash_of p g) f (page + d) 1) (sym (P.carried word owner))
        ∙ cascaded-one (hash_of p g) f (page + d) (map (rename word owner) (waits w)) (omega (arith, carried-length (rename word owner) w))
        ∙ ap (λ (c : Contents). c ∷ []) (pushes_to p g f valid sized (page + d) inside sound k unheld w P.words.true_homes P.words.near P.words.below word owner)

    carried-past : (word owner : ℕ) → carried_past (hash_of p g) f (page + d) 1 (carried_past (hash_of p g) f page d (new_star_lem k word owner ∷ [])) ≡ map (rename word owner) (waits (lowered_on p (page + d) stored met))
    carried-past word owner =
        ap (carried_past (hash_of p g) f (page + d) 1) (sym (P.carried word owner))
        ∙ carried-one (hash_of p g) f (page + d) (map (rename word owner) (waits w)) (omega (arith, carried-length (rename word owner) w))
        ∙ pushes_on p g f valid sized (page + d) inside sound k unheld w P.words.true_homes P.words.near P.words.below word owner

    met-sourced : sourced f.numbers k met ≡ true
    met-sourced = sourced-append f.numbers k w (page_words p g f (page + d)) P.words.true_sources (page-sourced p g f valid sized (page + d) inside sound k)

    all_sound : (q : ℕ) → page ≤ q → q < page + (d + 1) → sound_at p g f q ≡ true
    all_sound q a b = go (dec_lt q (page + d))
      where
        go : Dec (q < page + d) → sound_at p g f q ≡ true
        go (yes l) = P.sound q a l
        go (no l) = let same : q ≡ page + d = omega arith in rw same sound

    before-next : apart p g f k (page + (d + 1)) (lowered_on p (page + d) stored met) ≡ true
    unfolding apart lowered_on passing_words
    before-next =
        let next : page + d + 1 ≡ page + (d + 1) = omega arith in
        all_filter (λ x. eqb (number_in x) k || ltb (named_page_lem p g f.separators (number_in x)) (page + (d + 1))) (λ x. not (under p (page + d) (words_separator_from p (page + d) met stored) x)) met
        (rw next at (apart-joined p g f valid sized (page + d) inside sound k unheld w P.words.below))

    pub pushed-next : (pool' planned' : List ℕ) → (page + d) * p.places ≤ length pool → page + d ≤ length planned
        → pool' ≡ written ((page + d) * p.places) (column p.places (λ (s : Star). s.payload.word) (new ∷ [])) pool
        → planned' ≡ written (page + d) (separators (new ∷ [])) planned
        → Pushed p g f k page pool' planned' (lowered_on p (page + d) stored met) (d + 1)
    pushed-next pool' planned' lp ln ep en =
        record {
          most = omega arith;
          sound = all_sound;
          contents = P.contents ++ (new ∷ []);
          size = length-append P.contents (new ∷ []) ∙ ap (λ (n : ℕ). n + 1) P.size;
          sources =
              ap (stretch p.places page (d + 1)) ep
              ∙ sources_on p.places page d new pool (lowered-roomy p (page + d) stored met) lp
              ∙ ap (λ (l : List ℕ). l ++ column p.places (λ (s : Star). s.payload.word) (new ∷ [])) P.sources
              ∙ sym (column-append p.places (λ (s : Star). s.payload.word) P.contents (new ∷ []));
          separators_are =
              ap (λ (l : List ℕ). take (d + 1) (drop page l)) en
              ∙ separators-on page d new planned ln
              ∙ ap (λ (l : List ℕ). l ++ separators (new ∷ [])) P.separators_are
              ∙ sym (separators-append P.contents (new ∷ []));
          all_sourced =
              sourced-on f.numbers k P.contents (new ∷ []) P.all_sourced (
                (unfold lowered_to staying_words in sourced-waits f.numbers k (staying_words p (page + d) (words_separator_from p (page + d) met stored) met)
                    (sourced-filter f.numbers k (under p (page + d) (words_separator_from p (page + d) met stored)) met met-sourced)),
                tt,
              );
          are = λ word owner.
              map-append (mapped (rename word owner)) P.contents (new ∷ [])
              ∙ ap (λ (cs : List Contents). cs ++ (mapped (rename word owner) new ∷ [])) (P.are word owner)
              ∙ ap (λ (cs : List Contents). cascaded (hash_of p g) f page d (new_star_lem k word owner ∷ []) ++ cs) (sym (one-page word owner))
              ∙ sym (cascaded-add (hash_of p g) f page d 1 (new_star_lem k word owner ∷ []));
          carried = λ word owner. sym (carried-past word owner) ∙ sym (carried-add (hash_of p g) f page d 1 (new_star_lem k word owner ∷ []));
          words =
              record {
                true_homes =
                    unfold lowered_on passing_words homed in all_filter (λ x. eqb ((hash_of p g).home (number_in x)) (home_of x)) (λ x. not (under p (page + d) (words_separator_from p (page + d) met stored) x)) met
                    (met-homed p g f valid sized (page + d) inside sound k unheld w P.words.true_homes P.words.near P.words.below);
                near =
                    unfold lowered_on passing_words in all_filter (λ x. leb (home_of x) (page + (d + 1))) (λ x. not (under p (page + d) (words_separator_from p (page + d) met stored) x)) met
                    (all-mono (λ x. leb (home_of x) (page + d)) (λ x. leb (home_of x) (page + (d + 1))) met
                    (λ x e. le-leb (home_of x) (page + (d + 1)) (omega (arith, leb-true (home_of x) (page + d) e)))
                    (met-near p g f valid sized (page + d) inside sound k unheld w P.words.true_homes P.words.near P.words.below));
                true_sources = unfold lowered_on passing_words in sourced-filter f.numbers k (λ x. not (under p (page + d) (words_separator_from p (page + d) met stored) x)) met met-sourced;
                below = before-next;
              };
        }
