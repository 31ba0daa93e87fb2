-- The items of an orderly page moved by one place are those of its stars with one more, or with one less.
use mathlib.Core.Path.{◌≡◌, sym, ap, ◌∙◌}
use mathlib.Core.List.{List, ◌∷◌, ◌++◌, map}
use Prim.Native.Nat.{ℕ, suc, ◌+◌, ◌-◌, ◌*◌, ◌≤◌, ◌<◌}
use native.Mathlib.Omega.{arith}
use lib.ListN.{length, get_or, replicate, length-append, length-map}
use Rattle.pages.specs.Page.{part, place_of}
use Rattle.pages.specs.Position.{valid_word}
use Rattle.pages.proofs.Parts.{part_length}
use Rattle.placement.specs.Rule.{Star, insert, without, star_with}
use Rattle.buffers.specs.Lists.{padded, written}
use Rattle.placement.proofs.Order.{Rising}
use Rattle.placement.proofs.Pages.{Numbered, Columns, orderly-rising, orderly-proper, orderly-columns, length-stars_of}
use Rattle.placement.proofs.Files.{number_of, word_of, owner_of}
use Rattle.page_edit.specs.Shift.{opened_at, closed_up_lem, stars_on, number_at, Ordered, Vacant, Occupied}
use Rattle.page_edit.proofs.Splits.{numbered, Split, insert-split, without-split, room-left}
use Rattle.page_edit.proofs.Columns.{put-column, take-column}

module _ (places page : ℕ) (ns ws os : List ℕ) (o : Ordered places page ns ws os) where
  abbrev stars : List Star
  stars = stars_on places page ns ws os

  size : length (part places page ns) ≡ places
  size = part_length places page ns o.in_numbers

  columns : Columns places (part places page ns) (part places page ws) (part places page os) stars
  columns =
      rw size at
      (orderly-columns valid_word 0 (part places page ns) (part places page ws) (part places page os)
      (size ∙ sym (part_length places page ws o.in_words)) (size ∙ sym (part_length places page os o.in_owners)) o.in_order_lem)

  starred : Numbered stars
  starred s m = (orderly-proper valid_word 0 (part places page ns) (part places page ws) (part places page os) o.in_order_lem s m).0

  rises : Rising 1 stars
  rises = orderly-rising valid_word 0 (part places page ns) (part places page ws) (part places page os) (omega arith) o.in_order_lem

  most : length stars ≤ places
  most = omega (arith, length-stars_of (part places page ns) (part places page ws) (part places page os), size)

  spare : ℕ
  spare = places - length stars

  numbers-are : part places page ns ≡ numbered stars spare
  unfolding padded spare
  numbers-are = columns.0 ∙ ap (λ (n : ℕ). map number_of stars ++ replicate (places - n) 0) (length-map stars number_of)

  -- an item list whose page is these stars' column
  abbrev Of : (Star → ℕ) → List ℕ → Type 0
  Of g l = (page * places + places ≤ length l) × (part places page l ≡ padded places (map g stars))

  module _ (s : Star) (place : ℕ) (there : place ≡ place_of s.number (part places page ns)) (some : 0 < places) (empty : number_at places page (places - 1) ns ≡ 0) where
    roomy : length stars < places
    unfolding spare
    roomy =
        let left : 0 < spare = room-left stars spare (places - 1) starred (omega (arith, most)) (sym (ap (λ (l : List ℕ). get_or l (places - 1) 0) numbers-are) ∙ empty) in
        omega arith

    split : Split s stars (insert s stars) (place_of s.number (numbered stars spare))
    split = insert-split s stars spare starred

    at_place : length split.front ≡ place
    at_place = split.at ∙ sym (there ∙ ap (place_of s.number) numbers-are)

    few : length split.front + length split.back < places
    few = omega (arith, roomy, ap (length {A = Star}) split.is_less, length-append split.front split.back)

    put-place : place < places
    put-place = omega (arith, few, at_place)

    put-items : (g : Star → ℕ) (l : List ℕ) → Of g l → opened_at (page * places + place) (places - place) (g s) l ≡ written (page * places) (padded places (map g (insert s stars))) l
    unfolding part
    put-items g l e =
        ap (λ (i : ℕ). opened_at (page * places + i) (places - i) (g s) l) (sym at_place)
        ∙ put-column g s split.front split.back places few (page * places) l e.0 (e.1 ∙ ap (λ (m : List Star). padded places (map g m)) split.is_less)
        ∙ ap (λ (m : List Star). written (page * places) (padded places (map g m)) l) (sym split.is_more)

  module _ (place : ℕ) (held : 0 < number_at places page place ns) where
    abbrev taken : ℕ
    taken = number_at places page place ns

    same : get_or (numbered stars spare) place 0 ≡ taken
    same = sym (ap (λ (l : List ℕ). get_or l place 0) numbers-are)

    divided : (s : Star) × Split s (without taken stars) stars place
    divided = rw same at (without-split 1 stars spare place rises (omega (arith, same)))

    fewer : suc (length divided.1.front + length divided.1.back) ≤ places
    fewer = omega (arith, most, ap (length {A = Star}) divided.1.is_more, length-append divided.1.front (divided.0 ∷ divided.1.back))

    take-place : place < places
    take-place = omega (arith, fewer, divided.1.at)

    take-items : (g : Star → ℕ) (l : List ℕ) → Of g l → closed_up_lem (page * places + place) (places - place - 1) l ≡ written (page * places) (padded places (map g (without taken stars))) l
    unfolding part
    take-items g l e =
        ap (λ (i : ℕ). closed_up_lem (page * places + i) (places - i - 1) l) (sym divided.1.at)
        ∙ take-column g divided.0 divided.1.front divided.1.back places fewer (page * places) l e.0 (e.1 ∙ ap (λ (m : List Star). padded places (map g m)) divided.1.is_more)
        ∙ ap (λ (m : List Star). written (page * places) (padded places (map g m)) l) (sym divided.1.is_less)

  pub of_numbers_lem : Of number_of ns
  of_numbers_lem = (o.in_numbers, columns.0)

  pub of_words : Of word_of ws
  of_words = (o.in_words, columns.1)

  pub of_owners_lem : Of owner_of os
  of_owners_lem = (o.in_owners, columns.2)

-- as the code asks

module _ {places page place k : ℕ} {ns ws os : List ℕ} (v : Vacant places page place k ns ws os) where
  pub vacant-place : place < places
  vacant-place = put-place places page ns ws os v.ordered (star_with k 0 0) place v.there v.some v.empty

  pub vacant-room : length (stars_on places page ns ws os) < places
  vacant-room = roomy places page ns ws os v.ordered (star_with k 0 0) place v.there v.some v.empty

  pub put-list : (word owner : ℕ) (g : Star → ℕ) (l : List ℕ) → Of places page ns ws os v.ordered g l
      → opened_at (page * places + place) (places - place) (g (star_with k word owner)) l
      ≡ written (page * places) (padded places (map g (insert (star_with k word owner) (stars_on places page ns ws os)))) l
  put-list word owner = put-items places page ns ws os v.ordered (star_with k word owner) place v.there v.some v.empty

module _ {places page place : ℕ} {ns ws os : List ℕ} (h : Occupied places page place ns ws os) where
  pub occupied-place : place < places
  occupied-place = take-place places page ns ws os h.ordered place h.held

  -- the star that is taken, and the others
  pub taken-split : (s : Star) × Split s (without (number_at places page place ns) (stars_on places page ns ws os)) (stars_on places page ns ws os) place
  taken-split = divided places page ns ws os h.ordered place h.held

  pub take-list : (g : Star → ℕ) (l : List ℕ) → Of places page ns ws os h.ordered g l
      → closed_up_lem (page * places + place) (places - place - 1) l ≡ written (page * places) (padded places (map g (without (number_at places page place ns) (stars_on places page ns ws os)))) l
  take-list = take-items places page ns ws os h.ordered place h.held
