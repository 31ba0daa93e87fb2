-- Shrinking at (0, 0) "refuses with 9, right after 2", whatever the pages hold: document 02 (i).
use mathlib.Core.Path.{◌≡◌}
use mathlib.Core.Bool.{true, ◌&&◌}
use Rattle.hashing.specs.declared.Parameters.{Parameters}
use Rattle.hashing.specs.declared.Growth.{Growth}
use Rattle.hashing.specs.Geometry.{is_ungrown}
use Rattle.hashing.specs.Limits.{valid_parameters, valid_growth}
use Rattle.placement.specs.File.{File}
use Rattle.calls.specs.Answers.{Pool, cleared, refused}
use Rattle.calls.specs.Calls.{file_fits_lem, pool_fits_lem, unchanged, shrink_of}
use Rattle.calls.proofs.Refusals.{well-lent}

pub nothing-given-back : (p : Parameters) (g : Growth) (f : File) (pool : Pool) → valid_parameters p && valid_growth p g ≡ true
    → file_fits_lem p f && pool_fits_lem p pool ≡ true → is_ungrown g ≡ true → shrink_of p g f pool ≡ unchanged g f (cleared pool) (refused 9 0)
unfolding shrink_of
nothing-given-back p g f pool valid fits none = rw (well-lent p g (file_fits_lem p f && pool_fits_lem p pool) valid fits, none)
