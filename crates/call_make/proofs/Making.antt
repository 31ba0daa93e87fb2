-- Making an empty file, by the definitions.
use mathlib.Core.Path.{◌≡◌, refl}
use mathlib.Core.Bool.{Bool, true, false, ◌&&◌}
use mathlib.Core.List.{List}
use Prim.Native.Nat.{ℕ}
use lib.ListN.{length, replicate}
use Rattle.hashing.specs.declared.Parameters.{Parameters}
use Rattle.generator.specs.Generator.{top_of_lem}
use Rattle.hashing.specs.Geometry.{ungrown}
use Rattle.hashing.specs.Limits.{valid_parameters, valid_growth}
use Rattle.hashing.proofs.Homes.{start-valid}
use Rattle.placement.specs.File.{File}
use Rattle.placement.specs.Shape.{Sized}
use Rattle.placement.specs.Hash.{lent}
use Rattle.calls.specs.declared.answers.Refusal.{Refusal}
use Rattle.calls.specs.Answers.{Pool, Leaves, accepted, refusal_number, refused_by}
use Rattle.calls.specs.Calls.{unless, or_else, unlent, make_of, file_fits_lem, empty_file_lem}
use Rattle.calls.proofs.Refusals.{made_by, turned-away}

-- a new file's growth state is valid, so the guard of the other calls is make's too
new-guard : (p : Parameters) (lengths : Bool) → or_else (unless (valid_parameters p) 1) (unless lengths 2) ≡ unlent p ungrown lengths
unfolding unlent
new-guard p lengths = go (valid_parameters p) refl
  where
    go : (t : Bool) → valid_parameters p ≡ t → or_else (unless t 1) (unless lengths 2) ≡ or_else (unless (t && valid_growth p ungrown) 1) (unless lengths 2)
    go true e = rw (start-valid p e)
    go false e = refl

module _ (p : Parameters) (f : File) (pool : Pool) where
  pub make_refused : (r : Refusal) → refusal_number r ≡ unlent p ungrown (file_fits_lem p f) → Leaves (make_of p f pool) (refused_by r 0) f pool × (ungrown ≡ (make_of p f pool).growth)
  unfolding make_of
  make_refused r e =
      made_by (make_of p f pool) (refused_by r 0) ungrown f pool
      (rw (new-guard p (file_fits_lem p f)) (turned-away ungrown f pool _ p (file_fits_lem p f) r e))

  pub make_empty : (f' : File) → valid_parameters p ≡ true → file_fits_lem p f ≡ true → f' ≡ empty_file_lem p
      → Leaves (make_of p f pool) (accepted 0) f' pool × (ungrown ≡ (make_of p f pool).growth)
  unfolding make_of
  make_empty f' e l is = made_by (make_of p f pool) (accepted 0) ungrown f' pool (rw (e, l, is))

-- every buffer filled at its length
pub emptied : (p : Parameters) (f : File) (separators numbers words owners : List ℕ) → Sized p.places p.pages f → separators ≡ replicate (length f.separators) (top_of_lem p.bits)
    → numbers ≡ replicate (length f.numbers) 0 → words ≡ replicate (length f.words) 0 → owners ≡ replicate (length f.owners) 0 → lent separators numbers words owners ≡ empty_file_lem p
unfolding empty_file_lem
emptied p f separators numbers words owners z es en ew eo = rw (es, en, ew, eo, z.of_separators, z.of_numbers, z.of_words_lem, z.of_owners)
