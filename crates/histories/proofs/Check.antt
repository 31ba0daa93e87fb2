-- Checks: the model's own file is what the rule gives its stars.
use mathlib.Core.Path.{◌≡◌, refl, sym, ◌∙◌}
use mathlib.Core.Bool.{Bool, true, false}
use Prim.Native.Nat.{suc, ◌*◌}
use native.Mathlib.Nat.{zero-add, le_refl}
use native.Mathlib.Omega.{arith}
use borrow.Author.Tests.{le-ltb}
use Rattle.hashing.specs.declared.Parameters.{Parameters}
use Rattle.hashing.specs.declared.Growth.{Growth}
use Rattle.pages.specs.Position.{valid_word}
use Rattle.placement.specs.Rule.{pages}
use Rattle.placement.specs.File.{laid, replaced}
use Rattle.placement.specs.Hash.{hash_of}
use Rattle.placement.proofs.Composition.{length-pages}
use Rattle.placement.proofs.Files.{gathered-laid, roomy-pages, all-replaced}
use Rattle.calls.specs.Answers.{Pool, spotted, refused, cleared, accepted}
use Rattle.reach.specs.Reach.{first_unsound_lem, all_stars}
use Rattle.calls.specs.Spots.{first_spot, ruled}
use Rattle.calls.specs.Calls.{pool_fits_lem, unless, guarded, unchanged, checked_at, check_of}
use Rattle.histories.specs.Model.{Model, check, updated, model_file}
use Rattle.histories.proofs.Fitting.{Fitting, hash_for, stars_for, rising, proper}
use Rattle.histories.proofs.Guards.{lent-pool}
use Rattle.histories.proofs.Searching.{none-unsound, no_spot}
use Rattle.histories.proofs.Conforms.{Conforms, refused-conforms, accepted-conforms}

module _ (p : Parameters) (m : Model) (t : Fitting p m) where
  -- The file's stars are the model's.
  pub all-stars : all_stars p (model_file p m) ≡ stars_for m
  unfolding model_file hash_of
  all-stars = gathered-laid valid_word (hash_for p m) p.pages (stars_for m) (proper p m t) 1 (rising p m t) t.fits

  -- Placed anew under any growth state, they make that layout.
  pub placed-anew : (g : Growth) → replaced p.places (model_file p m) 0 (pages (hash_of p g) 0 p.pages (stars_for m)) ≡ laid p.places (hash_of p g) p.pages (stars_for m)
  unfolding model_file laid hash_of
  placed-anew g =
      all-replaced p.places (pages (hash_for p m) 0 p.pages (stars_for m)) (pages (hash_of p g) 0 p.pages (stars_for m))
      (roomy-pages (hash_for p m) 0 p.pages (stars_for m))
      (roomy-pages (hash_of p g) 0 p.pages (stars_for m))
      (length-pages (hash_of p g) 0 p.pages (stars_for m) ∙ sym (length-pages (hash_for p m) 0 p.pages (stars_for m)))

  as-ruled : ruled p m.growth (model_file p m) ≡ model_file p m
  unfolding ruled model_file
  as-ruled = rw all-stars (placed-anew m.growth)

  pub finds_nothing : checked_at p (first_unsound_lem p m.growth (model_file p m) 0 p.pages) (first_spot p (model_file p m) (ruled p m.growth (model_file p m))) ≡ accepted 0
  unfolding checked_at
  finds_nothing =
      rw (
        none-unsound p m t 0 p.pages (omega (arith, zero-add p.pages)),
        zero-add p.pages,
        as-ruled,
        no_spot p (model_file p m),
        le-ltb p.pages p.pages (le_refl p.pages),
        le-ltb (p.pages * suc p.places) (p.pages * suc p.places) (le_refl (p.pages * suc p.places)),
      )

  pub check_conforms : (pool : Pool) → Conforms p m check (check_of p m.growth (model_file p m) pool)
  unfolding check_of updated spotted
  check_conforms pool = rw (lent-pool p m t (pool_fits_lem p pool)) (go (pool_fits_lem p pool))
    where
      go : (v : Bool)
          → Conforms p m check
          (guarded m.growth (model_file p m) pool (unless v 2)
          (unchanged m.growth (model_file p m) (cleared pool)
          (checked_at p (first_unsound_lem p m.growth (model_file p m) 0 p.pages) (first_spot p (model_file p m) (ruled p m.growth (model_file p m))))))
      go false = refused-conforms p m t check pool (refused 2 0) (λ e. omega arith) (λ e. omega arith)
      go true =
          rw finds_nothing
          (accepted-conforms p m t check (unchanged m.growth (model_file p m) (cleared pool) (accepted 0)) refl refl refl t (λ k e. cc))
