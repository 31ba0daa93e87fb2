-- The words of the stars of n sound pages from page lo, and what they make of the words carried to it.
use mathlib.Core.Path.{◌≡◌, refl, sym, ap, ◌∙◌}
use mathlib.Core.Bool.{Bool, true, false, not, ◌||◌}
use mathlib.Core.List.{List, ◌++◌, map}
use Prim.Native.Nat.{ℕ, zero, suc, ◌+◌, ◌*◌, ◌≤◌, ◌<◌}
use native.Mathlib.Nat.{add-zero, zero-add}
use native.Mathlib.Omega.{arith}
use lib.Dec.{ltb, eqb}
use borrow.Author.Tests.{lt-ltb, ltb-true, ne_eqb, eqb-true}
use Rattle.hashing.specs.declared.Parameters.{Parameters}
use Rattle.hashing.specs.declared.Growth.{Growth}
use Rattle.hashing.specs.Limits.{valid_parameters}
use Rattle.pages.specs.Shape.{stretch}
use Rattle.placement.specs.Rule.{Star, pages, left, pour}
use Rattle.placement.specs.File.{File}
use Rattle.placement.specs.Shape.{Sized}
use Rattle.placement.specs.Hash.{hash_of, sound_at, named_page_lem}
use Rattle.placement.specs.Shape.{homes_of}
use Rattle.placement.proofs.Mapping.{mapped, pour-map}
use Rattle.page_separator.specs.Lists.{all}
use Rattle.page_separator.specs.Words.{number_in, source_of}
use Rattle.page_separator.specs.Probes.{under, passing_words, words_separator}
use Rattle.page_separator.proofs.Lists.{all_append, all_filter, all-mono}
use Rattle.page_plan.specs.Gather.{group, group_of}
use Rattle.page_plan.specs.Plans.{waits, carried_on_lem, plans, remains}
use Rattle.page_plan.specs.Sources.{named_item, renamed, sourced}
use Rattle.page_plan.proofs.Applying.{renamed_keeps}
use Rattle.page_plan.proofs.Sourcing.{fresh, led, ordered, fresh-led, words-ordered}
use Rattle.page_plan.proofs.Stretch.{remains-near}
use Rattle.page_plan.proofs.Placed.{probes-real, placed-words, remains-homed}
use Rattle.entry_reach.specs.Entry.{Unheld, block_numbers, block_words}
use Rattle.entry_reach.specs.Blocks.{apart, Carriable}
use Rattle.entry_reach.proofs.Items.{WordOn, items-few, numbers_below, block-homed, block-sourced, block-grouped, words-all}
use Rattle.entry_reach.proofs.Tying.{waits-joined}

-- a test that all words pass, those that are carried past them pass
pub remains-all : (t : ℕ → Bool) (q : Parameters) (lo v n : ℕ) (w l : List ℕ) → all t w ≡ true → all t l ≡ true → all t (remains q lo v n w l) ≡ true
unfolding remains carried_on_lem passing_words
remains-all t q lo v zero w l hw hl = hw
remains-all t q lo v (suc n) w l hw hl =
    let here : List ℕ = w ++ group lo v l in
    remains-all t q lo (suc v) n (carried_on_lem q (lo + v) here) l
    (all_filter t (λ x. not (under q (lo + v) (words_separator q (lo + v) here) x)) here
    (all_append t w (group lo v l) hw (all_filter t (λ x. eqb (group_of lo x) v) l hl))) hl

pub apart-later : (p : Parameters) (g : Growth) (f : File) (k lo hi : ℕ) (w : List ℕ) → lo ≤ hi → apart p g f k lo w ≡ true → apart p g f k hi w ≡ true
unfolding apart
apart-later p g f k lo hi w h =
    all-mono (λ x. eqb (number_in x) k || ltb (named_page_lem p g f.separators (number_in x)) lo) (λ x. eqb (number_in x) k || ltb (named_page_lem p g f.separators (number_in x)) hi) w
    (λ x. later (eqb (number_in x) k) (named_page_lem p g f.separators (number_in x)))
  where
    later : (t : Bool) (n : ℕ) → t || ltb n lo ≡ true → t || ltb n hi ≡ true
    later true n e = e
    later false n e = lt-ltb n hi (omega (arith, ltb-true n lo e))

module _ (p : Parameters) (g : Growth) (f : File) (valid : valid_parameters p ≡ true) (sized : Sized p.places p.pages f)
    (lo n : ℕ) (inside : lo + n ≤ p.pages) (sound : (q : ℕ) → lo ≤ q → q < lo + n → sound_at p g f q ≡ true) where
  abbrev l : List ℕ
  l = block_words p g f lo n

  block-ordered : ordered (block_words p g f lo n) ≡ true
  unfolding block_words
  block-ordered =
      words-ordered (lo * p.places) 0 (block_numbers p f lo n) (stretch p.places lo n (homes_of p g f.numbers))
      (numbers_below p g f valid sized lo n inside sound) (items-few p g f valid sized lo n inside)

  pub block_apart : (k : ℕ) → apart p g f k (lo + n) (block_words p g f lo n) ≡ true
  unfolding apart
  block_apart k =
      words-all p g f valid sized lo n inside sound (λ x. eqb (number_in x) k || ltb (named_page_lem p g f.separators (number_in x)) (lo + n))
      (λ x o. here (eqb (number_in x) k) (named_page_lem p g f.separators (number_in x)) (omega (arith, o.named, o.most)))
    where
      here : (t : Bool) (q : ℕ) → q < lo + n → t || ltb q (lo + n) ≡ true
      here true q h = refl
      here false q h = lt-ltb q (lo + n) h

  module _ (k : ℕ) (unheld : Unheld p g f k) where
    -- none of their stars is among those carried to page lo
    block-led : (w : List ℕ) → apart p g f k lo w ≡ true → all (λ x. led x w) (block_words p g f lo n) ≡ true
    block-led w before =
        words-all p g f valid sized lo n inside sound (λ x. led x w)
        (λ x o. fresh-led x w
        (unfold fresh apart in all-mono (λ y. eqb (number_in y) k || ltb (named_page_lem p g f.separators (number_in y)) lo) (λ y. not (eqb (number_in y) (number_in x))) w
        (λ y. other x o y (eqb (number_in y) k) refl) before))
      where
        other : (x : ℕ) → WordOn p g f lo n x → (y : ℕ) (t : Bool) → eqb (number_in y) k ≡ t → t || ltb (named_page_lem p g f.separators (number_in y)) lo ≡ true
            → not (eqb (number_in y) (number_in x)) ≡ true
        other x o y true d c = ap not (ne_eqb (number_in y) (number_in x) (λ e. o.other k unheld (sym e ∙ eqb-true (number_in y) k d)))
        other x o y false d c =
            ap not (ne_eqb (number_in y) (number_in x) (λ e.
            omega (arith, ltb-true (named_page_lem p g f.separators (number_in y)) lo c, ap (named_page_lem p g f.separators) e, o.named, o.least)))

    pub block-joined : (w : List ℕ) → apart p g f k lo w ≡ true → (word owner : ℕ)
        → map (renamed f.words f.owners word owner) (waits (w ++ block_words p g f lo n))
        ≡ pour (map (renamed f.words f.owners word owner) (waits (block_words p g f lo n))) (map (renamed f.words f.owners word owner) (waits w))
    block-joined w before word owner =
        ap (map (renamed f.words f.owners word owner)) (waits-joined w l block-ordered (block-led w before))
        ∙ sym (pour-map (renamed f.words f.owners word owner) (renamed_keeps f.words f.owners word owner) (waits l) (waits w))

    -- what is carried past them
    pub block-carriable : (w : List ℕ) → Carriable p g f k lo w → Carriable p g f k (lo + n) (remains p lo 0 n w (block_words p g f lo n))
    block-carriable w C =
        record {
          true_homes = remains-homed (hash_of p g) p (probes-real p g) lo 0 n w l C.true_homes (block-homed p g f valid sized lo n inside (numbers_below p g f valid sized lo n inside sound));
          near = rw (zero-add n) at (remains-near p lo l 0 n w (rw (add-zero lo) C.near));
          true_sources =
              unfold sourced in remains-all (λ x. eqb (named_item f.numbers k (source_of x)) (number_in x)) p lo 0 n w l C.true_sources
              (block-sourced p g f valid sized lo n inside k (numbers_below p g f valid sized lo n inside sound));
          below =
              unfold apart in remains-all (λ x. eqb (number_in x) k || ltb (named_page_lem p g f.separators (number_in x)) (lo + n)) p lo 0 n w l
              (apart-later p g f k lo (lo + n) w (omega arith) C.below) (block_apart k);
        }

    -- the plan goes by the stars carried on, whatever the order of their words
    pub same_block : (w v : List ℕ) → Carriable p g f k lo w → Carriable p g f k lo v → (word owner : ℕ)
        → map (renamed f.words f.owners word owner) (waits w) ≡ map (renamed f.words f.owners word owner) (waits v)
        → (map (mapped (renamed f.words f.owners word owner)) (plans p lo 0 n w (block_words p g f lo n)) ≡ map (mapped (renamed f.words f.owners word owner)) (plans p lo 0 n v (block_words p g f lo n)))
        × (map (renamed f.words f.owners word owner) (waits (remains p lo 0 n w (block_words p g f lo n))) ≡ map (renamed f.words f.owners word owner) (waits (remains p lo 0 n v (block_words p g f lo n))))
    same_block w v C D word owner e =
        let a = placed w C (ap (pour (map rename (waits l))) e) in
        let b = placed v D refl in
        (a.0 ∙ sym b.0, a.1 ∙ sym b.1)
      where
        rename : Star → Star
        rename = renamed f.words f.owners word owner

        met : List Star
        met = pour (map rename (waits l)) (map rename (waits v))

        placed : (u : List ℕ) → Carriable p g f k lo u → pour (map rename (waits l)) (map rename (waits u)) ≡ met
            → (map (mapped rename) (plans p lo 0 n u l) ≡ pages (hash_of p g) lo n met) × (map rename (waits (remains p lo 0 n u l)) ≡ left (hash_of p g) lo n met)
        placed u U same =
            placed-words (hash_of p g) p (probes-real p g) lo n rename (renamed_keeps f.words f.owners word owner) u l met U.true_homes U.near
            (block-homed p g f valid sized lo n inside (numbers_below p g f valid sized lo n inside sound)) (block-grouped p g f valid sized lo n inside sound)
            (block-joined u U.below word owner ∙ same)
