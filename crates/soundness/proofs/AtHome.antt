-- Pages with the greatest separator where all stars are at home.
use mathlib.Core.Path.{◌≡◌, refl, sym, subst, ◌∙◌}
use mathlib.Core.Bool.{true, ◌&&◌}
use mathlib.Core.List.{List}
use Prim.Native.Nat.{ℕ, zero, suc, ◌+◌, ◌-◌, ◌≤◌, ◌<◌}
use native.Mathlib.Omega.{arith}
use lib.Dec.{leb, ltb, eqb}
use lib.ListN.{length, get_or, take, drop}
use borrow.Author.Tests.{ne_eqb, le-leb, lt-ltb}
use Rattle.hashing.specs.declared.Geometry.{Geometry}
use Rattle.generator.specs.Generator.{top_of_lem}
use Rattle.hashing.specs.Geometry.{multiplier_of}
use Rattle.hashing.specs.Home.{home}
use Rattle.hashing.specs.Limits.{valid_parameters}
use Rattle.pages.specs.Position.{valid_word}
use Rattle.placement.specs.File.{greatest}
use Rattle.placement.specs.Hash.{named_page_lem}
use Rattle.soundness.specs.Survey.{admits, admits_item, last_after, sound_in}
use Rattle.soundness.specs.Stretch.{Items, HomesAt, Unused, sound_from}
use Rattle.soundness.proofs.Probed.{none-probed, named-before-top}
use Rattle.soundness.proofs.Items.{Admitting, admitting-all, empty-item, passed-item}
use Rattle.soundness.proofs.Lent.{star-home, lent-more}

-- What the lists of a page and a file are when the separator is the greatest.
pub record Topped (g : Geometry) (seps ns ws os hs : List ℕ) (at to places page : ℕ) : Type 0 where
  pub valid : valid_parameters g.parameters ≡ true
  pub inside : page < length seps
  pub top : get_or seps page 0 ≡ top_of_lem g.parameters.bits
  pub all : places ≡ g.parameters.places
  pub items : Items (at + g.parameters.places) (to + g.parameters.places) ns ws os hs
  pub homes : HomesAt g g.parameters.places at to ns hs

-- The first i items of such a page are stars at home and in order, the greatest of which is `last`; it may be too great.
abbrev pub AtHome : List ℕ → List ℕ → List ℕ → List ℕ → ℕ → ℕ → ℕ → ℕ → ℕ → ℕ → Type 0
AtHome ns ws os hs at to places page i last =
    (g : Geometry) (seps : List ℕ) → Topped g seps ns ws os hs at to places page → last ≤ greatest
    → Admitting g.parameters g.growth seps page (drop at ns) (drop at ws) (drop at os) places i last

module _ (ns ws os hs : List ℕ) (at to places page : ℕ) where
  -- a star at home stands on it
  stands : (g : Geometry) (seps : List ℕ) → Topped g seps ns ws os hs at to places page → (k : ℕ) → home (multiplier_of g.parameters) g.parameters g.growth k ≡ page
      → eqb (named_page_lem g.parameters g.growth seps k) page ≡ true
  stands g seps t k e =
      sym (named-before-top g.parameters g.growth seps k page (sym e) t.valid page t.inside (omega arith) (omega (arith, t.top)))
      ∙ none-probed g.parameters seps k page page refl (omega (arith, t.inside))

  module _ (i last : ℕ) (done : AtHome ns ws os hs at to places page i last) (inside : i < places) where
    pub home-next : (n : ℕ) → n ≡ get_or ns (at + i) 0 → last < n → get_or hs (to + i) 0 ≡ page → valid_word (get_or ws (at + i) 0) ≡ true
        → AtHome ns ws os hs at to places page (i + 1) n
    home-next n e h here valid g seps t most =
        let p = g.parameters in
        let number = get_or ns (at + i) 0 in
        let word = get_or ws (at + i) 0 in
        let owner = get_or os (at + i) 0 in
        let star : number ≡ 0 → ⊥ = λ z. omega (arith, z, e, h) in
        let ordered : ltb last number && (leb number greatest && valid_word word) ≡ true = rw (lt-ltb last number (omega (arith, e, h)), le-leb number greatest (omega (arith, e, most)), valid) in
        let at_home : home (multiplier_of p) p g.growth number ≡ page = sym (star-home p g.growth last number (get_or hs (to + i) 0) (t.homes i (omega (arith, t.all))) (omega (arith, e, h))) ∙ here in
        let taken : admits_item p g.growth seps page last number word owner ≡ true = passed-item p g.growth seps page last number word owner star ordered ∙ stands g seps t number at_home in
        lent-more p g.growth seps page ns ws os at (done g seps t (omega arith)) inside taken (e ∙ sym (after number star))
      where
        after : (m : ℕ) → (m ≡ 0 → ⊥) → last_after m ≡ m
        after m h = rw (ne_eqb m 0 h)

  -- the places from the i-th on are empty
  rest : (g : Geometry) (seps : List ℕ) (n i last : ℕ) → i + n ≡ places → Admitting g.parameters g.growth seps page (drop at ns) (drop at ws) (drop at os) places i last
      → Unused ns ws os (at + i) (at + places)
      → admits g.parameters g.growth seps page 0 (take places (drop at ns)) (take places (drop at ws)) (take places (drop at os)) ≡ true
  rest g seps zero i last e done empty = admitting-all g.parameters g.growth seps page done (omega arith)
  rest g seps (suc n) i last e done empty =
      let here = empty (at + i) (omega arith) (omega arith) in
      rest g seps n (i + 1) greatest (omega arith)
      (lent-more g.parameters g.growth seps page ns ws os at done (omega arith)
      (empty-item g.parameters g.growth seps page last (get_or ns (at + i) 0) (get_or ws (at + i) 0) (get_or os (at + i) 0) here.0 ∙ here.1)
      (sym (rw here.0)))
      (λ j a b. empty j (omega arith) b)

  module _ (g : Geometry) (seps : List ℕ) (t : Topped g seps ns ws os hs at to places page) where
    whole : admits g.parameters g.growth seps page 0 (take places (drop at ns)) (take places (drop at ws)) (take places (drop at os)) ≡ true → sound_from g seps ns ws os at page ≡ true
    unfolding sound_from sound_in
    whole e =
        rw (le-leb (get_or seps page 0) (top_of_lem g.parameters.bits) (omega (arith, t.top)))
        (subst (λ (b : ℕ). admits g.parameters g.growth seps page 0 (take b (drop at ns)) (take b (drop at ws)) (take b (drop at os)) ≡ true) t.all e)

    pub home_all : (i last : ℕ) → AtHome ns ws os hs at to places page i last → i ≡ places → last ≤ greatest → sound_from g seps ns ws os at page ≡ true
    home_all i last done e h = whole (admitting-all g.parameters g.growth seps page (done g seps t h) e)

    pub home-rest : (i last : ℕ) → AtHome ns ws os hs at to places page i last → i < places → last ≤ greatest → Unused ns ws os (at + i) (at + places) → sound_from g seps ns ws os at page ≡ true
    home-rest i last done e h empty = whole (rest g seps (places - i) i last (omega arith) (done g seps t h) empty)
