-- A page edited in place is one store of the call's file.
use mathlib.Core.Path.{◌≡◌, refl, sym, ap, ◌∙◌}
use mathlib.Core.Bool.{Bool, true, false, cond, not}
use mathlib.Core.List.{List, map}
use Prim.Native.Nat.{ℕ, ◌+◌, ◌*◌, ◌≤◌, ◌<◌}
use native.Mathlib.Omega.{arith}
use lib.Dec.{eqb}
use lib.ListN.{length, length-map}
use Rattle.buffers.specs.Lists.{padded}
use Rattle.pages.specs.Page.{part}
use Rattle.placement.specs.Rule.{Star, insert, without, star_with}
use Rattle.placement.specs.File.{File}
use Rattle.placement.specs.Shape.{Sized}
use Rattle.placement.specs.Hash.{lent}
use Rattle.placement.proofs.Filters.{length-filter}
use Rattle.placement.proofs.Order.{length-insert}
use Rattle.placement.proofs.OnePage.{written-long, part-there}
use Rattle.buffers.proofs.Lists.{length-padded}
use Rattle.placement.proofs.Pages.{length-stars_of}
use Rattle.pages.proofs.Parts.{part_length}
use Rattle.page_edit.specs.Shift.{number_at, Vacant, Occupied}
use Rattle.page_edit.proofs.Shifted.{vacant-room}
use Rattle.calls.specs.Stores.{stored_file, store_order}
use Rattle.calls.proofs.Stores.{SamePage}
use Rattle.calls.proofs.Stored.{one-page-stored}
use Rattle.decision.specs.Edits.{standing}
use Rattle.decision.specs.Carried.{with_stars, stars_there}

module _ (b M page : ℕ) (f : File) (sized : Sized b M f) (inside : page < M) (stars : List Star) (few : length stars ≤ b) where
  size : (g : Star → ℕ) → length (padded b (map g stars)) ≡ b
  size g = length-padded b (map g stars) (rw (length-map stars g) few)

  sized-after : Sized b M (with_stars b f page stars)
  sized-after =
      record {
        of_separators = sized.of_separators;
        of_numbers = written-long b M page inside (padded b (map (λ (s : Star). s.number) stars)) f.numbers (size (λ (s : Star). s.number)) sized.of_numbers ∙ sized.of_numbers;
        of_words_lem = written-long b M page inside (padded b (map (λ (s : Star). s.payload.word) stars)) f.words (size (λ (s : Star). s.payload.word)) sized.of_words_lem ∙ sized.of_words_lem;
        of_owners = written-long b M page inside (padded b (map (λ (s : Star). s.payload.owner) stars)) f.owners (size (λ (s : Star). s.payload.owner)) sized.of_owners ∙ sized.of_owners;
      }

  elsewhere : (q : ℕ) → (q ≡ page → ⊥) → SamePage b f (with_stars b f page stars) q
  elsewhere q other =
      record {
        numbers = sym (part-there b M page inside (padded b (map (λ (s : Star). s.number) stars)) f.numbers (size (λ (s : Star). s.number)) sized.of_numbers q other);
        words = sym (part-there b M page inside (padded b (map (λ (s : Star). s.payload.word) stars)) f.words (size (λ (s : Star). s.payload.word)) sized.of_words_lem q other);
        owners = sym (part-there b M page inside (padded b (map (λ (s : Star). s.payload.owner) stars)) f.owners (size (λ (s : Star). s.payload.owner)) sized.of_owners q other);
      }

  edited : (up : Bool) (n : ℕ) → stored_file b f (with_stars b f page stars) (store_order up b f (with_stars b f page stars) M) n ≡ cond (eqb n 0) f (with_stars b f page stars)
  edited up n = one-page-stored b M page f (with_stars b f page stars) elsewhere up n sized sized-after refl

  -- the lists that an edit leaves
  pub edited_lists : (up : Bool) (n : ℕ) (ns ws os : List ℕ)
      → ns ≡ cond (eqb n 0) f.numbers (standing b page (λ (s : Star). s.number) stars f.numbers)
      → ws ≡ cond (eqb n 0) f.words (standing b page (λ (s : Star). s.payload.word) stars f.words)
      → os ≡ cond (eqb n 0) f.owners (standing b page (λ (s : Star). s.payload.owner) stars f.owners)
      → lent f.separators ns ws os ≡ stored_file b f (with_stars b f page stars) (store_order up b f (with_stars b f page stars) M) n
  edited_lists up n ns ws os en ew eo = go (eqb n 0) en ew eo ∙ sym (edited up n)
    where
      go : (t : Bool)
          → ns ≡ cond t f.numbers (standing b page (λ (s : Star). s.number) stars f.numbers)
          → ws ≡ cond t f.words (standing b page (λ (s : Star). s.payload.word) stars f.words)
          → os ≡ cond t f.owners (standing b page (λ (s : Star). s.payload.owner) stars f.owners)
          → lent f.separators ns ws os ≡ cond t f (with_stars b f page stars)
      go true en ew eo = λ i. record { separators = f.separators; numbers = en i; words = ew i; owners = eo i }
      go false en ew eo = λ i. record { separators = f.separators; numbers = en i; words = ew i; owners = eo i }

pub few-put : (b page place k word owner : ℕ) (f : File) → Vacant b page place k f.numbers f.words f.owners
    → length (insert (star_with k word owner) (stars_there b f page)) ≤ b
few-put b page place k word owner f v = omega (arith, length-insert (star_with k word owner) (stars_there b f page), vacant-room v)

pub few-take : (b page place k : ℕ) (f : File) → Occupied b page place f.numbers f.words f.owners → length (without k (stars_there b f page)) ≤ b
unfolding without
few-take b page place k f o =
    omega (
      arith,
      length-filter (λ (s : Star). not (eqb s.number k)) (stars_there b f page),
      length-stars_of (part b page f.numbers) (part b page f.words) (part b page f.owners),
      part_length b page f.numbers o.ordered.in_numbers,
    )
