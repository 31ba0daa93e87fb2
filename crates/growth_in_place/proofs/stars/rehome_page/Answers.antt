use mathlib.Core.Path.{◌≡◌, refl, ◌∙◌, sym}
use lib.Seq.{get_or-drop}
use Prim.Native.Nat.{◌+◌, ◌*◌}
use native.Mathlib.Omega.{arith}
use lib.ListN.{length, length-drop}
use Rattle.hashing.specs.Geometry.{grown}
use Rattle.placement.specs.Shape.{homes_of}
use Rattle.buffers.proofs.Copies.{none, turn, done, unread}
use Rattle.growth_in_place.proofs.Joiners.{home-item, length-homes}
use Rattle.growth_in_place.proofs.stars.rehome_page.Goals as goal

pub loop-i-init : goal.loop-i-init
loop-i-init c = none _ _ _

pub bounds-homes-first : goal.bounds-homes-first
bounds-homes-first c = omega (arith, length-homes _ _ _ _ c.requires.homes_value)

pub bounds-homes-first-in-loop-i : goal.bounds-homes-first-in-loop-i
bounds-homes-first-in-loop-i c = omega (arith, length-homes _ _ _ _ c.requires.homes_value)

pub item_grown-requires : goal.item_grown-requires
item_grown-requires c =
    let p = c.args.geometry.parameters in
    let at = c.args.page * p.places in
    let homes = homes_of p (grown p c.args.geometry.growth) c.args.numbers.now in
    let long : length c.args.homes.now ≡ length c.args.numbers.now = length-homes _ _ _ _ c.requires.homes_value in
    let same : length homes ≡ length c.args.numbers.now = length-homes p (grown p c.args.geometry.growth) _ c.args.numbers.now refl in
    record {
      homing = c.requires.homing;
      value = unread _ at _ _ _ (omega (arith, long)) (omega (arith, length-drop at homes, same)) c.loop-i.invariant ∙ home-item _ _ _ _ _ c.requires.homes_value;
    }

pub loop-i-preserved : goal.loop-i-preserved
loop-i-preserved c =
    let p = c.args.geometry.parameters in
    let at = c.args.page * p.places in
    let ns = c.args.numbers.now in
    let i = c.loop-i.i in
    let homes = homes_of p (grown p c.args.geometry.growth) ns in
    let long : length c.args.homes.now ≡ length ns = length-homes _ _ _ _ c.requires.homes_value in
    let same : length homes ≡ length ns = length-homes p (grown p c.args.geometry.growth) _ ns refl in
    turn _ at _ _ i _ (omega (arith, long)) (omega (arith, length-drop at homes, same))
    (c.item_grown.ensures ∙ sym (get_or-drop at homes i 0 ∙ home-item p (grown p c.args.geometry.growth) _ ns (at + i) refl))
    c.loop-i.invariant

pub returns : goal.returns
returns c = done c.args.geometry.parameters.places (omega arith) (omega arith) c.loop-i.invariant
