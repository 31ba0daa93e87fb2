-- `homes::scalars::group` meets its contract.
use mathlib.Core.Path.{◌∙◌, ap}
use Prim.Native.Nat.{ℕ, ◌*◌, ◌%◌}
use native.Mathlib.Nat.{mod-lt, mod-mod_of_dvd, dvd-mul_left}
use native.Mathlib.Omega.{arith}
use borrow.Author.Rules.{rules}
use Rattle.homes.proofs.scalars.group.Goals as goal

pub reduced-requires-2 : goal.reduced-requires-2
reduced-requires-2 c = let start = c.before in rw c.reduced.ensures (mod-lt start.args.page {m = 2 * start.args.count} (omega (arith, start.requires.le_count.0)))

pub returns : goal.returns
returns c =
    let start = c.before.before in
    let count = start.args.count in
    c.reduced-2.ensures
    ∙ ap (λ (x : ℕ). x % count) c.reduced.ensures
    ∙ mod-mod_of_dvd count start.args.page (dvd-mul_left count 2)
