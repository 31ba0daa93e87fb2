-- A model that a history can reach, and what holds of its own file.
use mathlib.Core.Path.{◌≡◌, sym, ap}
use mathlib.Core.Bool.{true, and-eq-true_iff}
use mathlib.Core.List.{List, []}
use Prim.Native.Nat.{ℕ, ◌≤◌, ◌<◌}
use native.Mathlib.Omega.{arith}
use lib.Dec.{leb}
use borrow.Author.Tests.{leb-true, lt-ltb, eq-eqb}
use Rattle.hashing.specs.declared.Parameters.{Parameters}
use Rattle.hashing.specs.declared.Growth.{Growth}
use Rattle.hashing.specs.Geometry.{multiplier_of}
use Rattle.hashing.specs.Limits.{valid_parameters, valid_growth}
use Rattle.hashing.proofs.Homes.{home-pages}
use Rattle.pages.specs.Position.{valid_number, valid_word}
use Rattle.placement.proofs.Probing.{bounded-real}
use Rattle.placement.specs.Rule.{Star, Hash, left}
use Rattle.placement.specs.File.{laid, greatest, file_of}
use Rattle.placement.specs.Shape.{Sized}
use Rattle.placement.specs.Hash.{hash_of, sound_at}
use Rattle.placement.proofs.Order.{Rising, rising-less}
use Rattle.placement.proofs.Pages.{Proper}
use Rattle.placement.proofs.Files.{sized-laid}
use Rattle.placement.proofs.Sound.{sound-laid, facts-sound}
use Rattle.calls.specs.Calls.{file_fits_lem, readable}
use Rattle.histories.specs.Model.{Model, entry_stars, model_file, page_for}
use Rattle.histories.proofs.Entries.{Ordered}
use Rattle.histories.proofs.Stars.{stars-rise, stars-valid}
use Rattle.placement.proofs.Naming.{page-named}

-- Homes are pages.
pub homed : (p : Parameters) (g : Growth) (k : ℕ) → valid_parameters p ≡ true → valid_growth p g ≡ true → (hash_of p g).home k < p.pages
unfolding hash_of
homed p g k v w = home-pages (multiplier_of p) p g k v w

-- Valid, and its stars fit the pages.
pub record Fitting (p : Parameters) (m : Model) : Type 0 where
  pub parameters : valid_parameters p ≡ true
  pub growth : valid_growth p m.growth ≡ true
  pub ordered : Ordered 1 m.entries
  pub fits : left (hash_of p m.growth) 0 p.pages (entry_stars m.entries) ≡ []

abbrev pub hash_for : Parameters → Model → Hash
hash_for p m = hash_of p m.growth

abbrev pub stars_for : Model → List Star
stars_for m = entry_stars m.entries

-- the model's file, by its stars
pub laid-stars : (p : Parameters) (m : Model) (w : List Star) → stars_for m ≡ w → laid p.places (hash_for p m) p.pages w ≡ model_file p m
unfolding model_file
laid-stars p m w e = ap (laid p.places (hash_for p m) p.pages) (sym e)

pub in_range : (k : ℕ) → valid_number k ≡ true → (1 ≤ k) × (k ≤ greatest)
unfolding valid_number
in_range k v =
    let h = (and-eq-true_iff (leb 1 k) (leb k 2147483646)).0 v in
    (leb-true 1 k h.0, leb-true k 2147483646 h.1)

module _ (p : Parameters) (m : Model) (t : Fitting p m) where
  pub rising : Rising 1 (stars_for m)
  rising = stars-rise 1 m.entries t.ordered

  pub rising-from : Rising 0 (stars_for m)
  rising-from = rising-less 0 1 (stars_for m) (omega arith) rising

  pub proper : Proper valid_word (stars_for m)
  proper s n =
      let v = stars-valid 1 m.entries t.ordered s n in
      let r = in_range s.number v.number in
      (r.0, r.1, v.word)

  pub sized : Sized p.places p.pages (model_file p m)
  unfolding model_file hash_of
  sized = sized-laid valid_word (hash_for p m) p.pages (stars_for m) proper

  pub lengths : file_fits_lem p (model_file p m) ≡ true
  unfolding file_fits_lem
  lengths = rw (eq-eqb _ _ sized.of_separators, eq-eqb _ _ sized.of_numbers, eq-eqb _ _ sized.of_words_lem, eq-eqb _ _ sized.of_owners)

  pub all_sound : (page : ℕ) → page < p.pages → sound_at p m.growth (model_file p m) page ≡ true
  unfolding sound_at model_file hash_of
  all_sound page h =
      facts-sound valid_word (hash_for p m) (model_file p m) page
      (sound-laid valid_word (hash_for p m) p.pages (stars_for m) rising-from proper page h)

  pub named-inside : (k : ℕ) → page_for p m k < p.pages
  unfolding page_for model_file laid file_of
  named-inside k =
      page-named (hash_for p m) (bounded-real p m.growth t.parameters) p.pages (stars_for m) k t.fits (homed p m.growth k t.parameters t.growth)

  pub named-readable : (k : ℕ) → readable p m.growth (model_file p m) (page_for p m k) ≡ true
  unfolding readable
  named-readable k = rw (lt-ltb (page_for p m k) p.pages (named-inside k), all_sound (page_for p m k) (named-inside k))
