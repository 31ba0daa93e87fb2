use mathlib.Core.Path.{◌≡◌, ◌∙◌, sym, ap}
use Prim.Native.Nat.{ℕ, ◌+◌}
use mathlib.Core.Bool.{Bool, true, false}
use lib.Seq.{take_all}
use native.Mathlib.Omega.{arith}
use lib.ListN.{take}
use Rattle.pages.specs.Page.{part}
use Rattle.pages.proofs.Parts.{part_length, part-item}
use Rattle.growth_in_place.specs.Expansion.{joins_at, joiners_in}
use Rattle.growth_in_place.proofs.Joiners.{one_if, home-item, length-homes, joiners_none, joiners_next}
use Rattle.growth_in_place.proofs.tallying.count_page.Goals as goal
use Rattle.growth_in_place.proofs.tallying.count_page.Goals.{then-joins, else-joins}

pub loop-i-init : goal.loop-i-init
loop-i-init c = (omega arith, sym (joiners_none _ _))

pub bounds-homes-at : goal.bounds-homes-at
bounds-homes-at c = omega (arith, length-homes _ _ _ _ c.requires.homes_value)

pub joins-requires : goal.joins-requires
joins-requires c =
    record {
      homing = c.requires.homing;
      home_value = home-item _ _ _ _ _ c.requires.homes_value;
      added_value = c.requires.added_value;
    }

pub loop-i-preserved : goal.loop-i-preserved
loop-i-preserved c =
    let p = c.args.geometry.parameters in
    let g = c.args.geometry.growth in
    let l = part p.places c.args.page c.args.numbers.now in
    let i = c.loop-i.i in
    let counted : (t : Bool) → c.joins.result ≡ t → c.loop-i.count + one_if t ≡ joiners_in p g (take (i + 1) l)
    = λ t e. ap (λ (n : ℕ). n + one_if t) c.loop-i.invariant.1
    ∙ sym (joiners_next p g l i t (omega (arith, part_length p.places c.args.page c.args.numbers.now c.requires.places_in_bounds))
    (ap (joins_at p g) (part-item p.places c.args.page c.args.numbers.now i (omega arith)) ∙ sym c.joins.ensures ∙ e)) in
    elim c.if-joins.branch [
      | then-joins w ↦ (omega arith, w.count-is ∙ counted true w.if-joins.true)
      | else-joins w ↦ (omega arith, omega (arith, counted false w.if-joins.false))
    ]

pub returns : goal.returns
returns c =
    let size = part_length c.args.geometry.parameters.places c.args.page c.args.numbers.now c.requires.places_in_bounds in
    c.loop-i.invariant.1 ∙ ap (joiners_in c.args.geometry.parameters c.args.geometry.growth) (take_all c.loop-i.i (part c.args.geometry.parameters.places c.args.page c.args.numbers.now) (omega arith))
