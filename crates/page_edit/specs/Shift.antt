-- A page altered in place: its items moved by one place, and the stars that then stand on it. Assumes nothing.
use Rattle.std.specs.Prelude.{◌≡◌, Bool, true, ◌&&◌, List, [], ◌∷◌, ◌++◌, map, ℕ, ◌+◌, ◌-◌, ◌*◌, ◌≤◌, ◌<◌, eqb, length, take, drop, get_or}
use Rattle.std.proofs.Math.Seq.{paste}
use Rattle.buffers.specs.Lists.{padded, written}
use Rattle.generator.specs.Generator.{top_of_lem}
use Rattle.hashing.specs.declared.Parameters.{Parameters}
use Rattle.pages.specs.Page.{part, place_of}
use Rattle.pages.specs.Position.{valid_word}
use Rattle.placement.specs.Rule.{Star}
use Rattle.placement.specs.File.{stars_of, orderly}
use Rattle.placement.specs.Lent.{Lent}

-- x at `from`, and the items from there, up to the one before from + count, moved up by one
abbrev pub opened_at : ℕ → ℕ → ℕ → List ℕ → List ℕ
opened_at from count x l = paste l from (x ∷ drop from l) count

-- without the item at `from`: the `behind` items after it moved down by one, and 0 after them
abbrev pub closed_up_lem : ℕ → ℕ → List ℕ → List ℕ
closed_up_lem from behind l = paste l from (take behind (drop (from + 1) l) ++ (0 ∷ [])) (behind + 1)

-- the stars of a page of the lent lists
abbrev pub stars_on : ℕ → ℕ → List ℕ → List ℕ → List ℕ → List Star
stars_on places page ns ws os = stars_of (part places page ns) (part places page ws) (part places page os)

abbrev pub stars_before : ℕ → ℕ → Lent → Lent → Lent → List Star
stars_before places page numbers words owners = stars_on places page numbers.entry.now words.entry.now owners.entry.now

-- the number at a place of the page
abbrev pub number_at : ℕ → ℕ → ℕ → List ℕ → ℕ
number_at places page place ns = get_or (part places page ns) place 0

-- the page's stored separator is 2^k − 1, and its last place is empty
unfoldable pub takes_alone_lem : Parameters → List ℕ → List ℕ → ℕ → Bool
takes_alone_lem p separators numbers page =
    eqb (get_or separators page 0) (top_of_lem p.bits) && eqb (number_at p.places page (p.places - 1) numbers) 0

-- a page within the lists, in order
pub record Ordered (places page : ℕ) (ns ws os : List ℕ) : Type 0 where
  pub in_numbers : page * places + places ≤ length ns
  pub in_words : page * places + places ≤ length ws
  pub in_owners : page * places + places ≤ length os
  pub in_order_lem : orderly valid_word 0 (part places page ns) (part places page ws) (part places page os) ≡ true

-- the search of k ended at this place of such a page, whose last place is empty: it has room for one more
pub record Vacant (places page place k : ℕ) (ns ws os : List ℕ) : Type 0 where
  pub ordered : Ordered places page ns ws os
  pub some : 0 < places
  pub there : place ≡ place_of k (part places page ns)
  pub empty : number_at places page (places - 1) ns ≡ 0

-- a star of such a page
pub record Occupied (places page place : ℕ) (ns ws os : List ℕ) : Type 0 where
  pub ordered : Ordered places page ns ws os
  pub held : 0 < number_at places page place ns

-- "Stars stay in rising order of number", "Empty places last": the page's items are now those of these stars, and the other items stay
pub record StandsOn (places page : ℕ) (stars : List Star) (numbers words owners : Lent) : Type 0 where
  pub of_numbers : numbers.exit.now ≡ written (page * places) (padded places (map (λ (s : Star). s.number) stars)) numbers.entry.now
  pub of_words_lem : words.exit.now ≡ written (page * places) (padded places (map (λ (s : Star). s.payload.word) stars)) words.entry.now
  pub of_owners : owners.exit.now ≡ written (page * places) (padded places (map (λ (s : Star). s.payload.owner) stars)) owners.entry.now
