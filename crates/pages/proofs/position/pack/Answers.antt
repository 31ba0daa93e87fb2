-- `pages::position::pack` meets its contract: the machine's declination is the raised one, and the word fits.
-- Assumes nothing.
use borrow.Author.Rules.{rules}
use native.Mathlib.Omega.{arith}
use mir.Facts.{to_z-of_z}
use Rattle.pages.specs.Position.{packed}
use Rattle.pages.proofs.Words.{Valid, valid, raised-back}
use Rattle.pages.proofs.position.pack.Goals as goal
use Rattle.pages.proofs.position.pack.Goals.{After-struct_told-1}

known : (c : After-struct_told-1) → Valid c.args.position
known c = valid _ c.requires

pub overflow_add-result : goal.overflow_add-result
overflow_add-result c =
    let v = (known c).second in
    rw (to_z-of_z v.fits, v.is) (record { sfits = omega (arith, v.small) })

pub overflow_cast-result-2 : goal.overflow_cast-result-2
overflow_cast-result-2 c =
    rw (raised-back _ (known c).second) (tt, record { fits = omega (arith, (known c).second.small) })

pub overflow_add-result-2 : goal.overflow_add-result-2
overflow_add-result-2 c =
    rw (raised-back _ (known c).second) (record { fits = omega (arith, (known c).first, (known c).second.small) })

pub returns : goal.returns
unfolding packed
returns c = rw (raised-back _ (known c).second)
