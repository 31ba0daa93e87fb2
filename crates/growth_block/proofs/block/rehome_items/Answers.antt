use mathlib.Core.Path.{◌≡◌, ap, ◌∙◌}
use mathlib.Core.Bool.{cond}
use mathlib.Core.List.{List}
use Prim.Native.Nat.{ℕ, ◌+◌, ◌-◌}
use native.Mathlib.Decide.{dec_lt}
use native.Mathlib.Omega.{arith}
use lib.Dec.{ltb}
use lib.ListN.{length, drop, length-drop}
use borrow.Author.Tests.{lt-ltb, le-ltb}
use Rattle.std.specs.Prelude.{min}
use Rattle.hashing.specs.Geometry.{grown}
use Rattle.hashing.specs.declared.Growth.{Growth}
use Rattle.hashing.specs.declared.Parameters.{Parameters}
use Rattle.placement.specs.Shape.{homes_of}
use Rattle.buffers.proofs.Copies.{none, turn, done, unread}
use Rattle.growth_in_place.proofs.Joiners.{home-item, length-homes}
use Rattle.growth_block.specs.Block.{homes_taken}
use Rattle.growth_block.proofs.Planned.{length-upto, upto_next}
use Rattle.growth_block.proofs.block.rehome_items.Goals as goal

least : (home stop : ℕ) → min home stop ≡ cond (ltb stop home) stop home
least home stop = elim (dec_lt stop home) [
  | yes h ↦ rw (lt-ltb stop home h) (omega arith)
  | no h ↦ rw (le-ltb stop home (omega arith)) (omega arith)
]

-- the lists are as long as the numbers
lengths : (p : Parameters) (g : Growth) (hs ns : List ℕ) (first stop : ℕ) → hs ≡ homes_of p g ns
    → (length hs ≡ length ns) × (length (drop first (homes_taken p (grown p g) stop ns)) ≡ length ns - first)
lengths p g hs ns first stop e = (
  length-homes p g hs ns e,
  length-drop first (homes_taken p (grown p g) stop ns) ∙ ap (λ (n : ℕ). n - first) (length-upto p (grown p g) stop ns),
)

pub loop-i-init : goal.loop-i-init
loop-i-init c =
    let none-yet : c.args.first - c.args.first ≡ 0 = omega arith in
    rw none-yet (none _ _ _)

pub bounds-homes-i : goal.bounds-homes-i
bounds-homes-i c = omega (arith, length-homes _ _ _ _ c.requires.homes_value)

pub bounds-homes-i-in-loop-i : goal.bounds-homes-i-in-loop-i
bounds-homes-i-in-loop-i c = omega (arith, length-homes _ _ _ _ c.requires.homes_value)

pub item_grown-next-requires : goal.item_grown-next-requires
item_grown-next-requires c =
    let i = c.loop-i.i in
    let l = lengths c.args.geometry.parameters c.args.geometry.growth c.args.homes.now c.args.numbers.now c.args.first c.args.stop c.requires.homes_value in
    let at : c.args.first + (i - c.args.first) ≡ i = omega arith in
    record {
      homing = c.requires.homing;
      value = rw at at (unread _ c.args.first _ _ (i - c.args.first) (omega (arith, l)) (omega (arith, l)) c.loop-i.invariant) ∙ home-item _ _ _ _ _ c.requires.homes_value;
    }

pub loop-i-preserved : goal.loop-i-preserved
loop-i-preserved c =
    let p = c.args.geometry.parameters in
    let g = grown p c.args.geometry.growth in
    let first = c.args.first in
    let i = c.loop-i.i in
    let l = lengths c.args.geometry.parameters c.args.geometry.growth c.args.homes.now c.args.numbers.now c.args.first c.args.stop c.requires.homes_value in
    let at : first + (i - first) ≡ i = omega arith in
    let next : i + 1 - first ≡ i - first + 1 = omega arith in
    rw next
    (rw at at (turn _ first _ _ (i - first) _ (omega (arith, l)) (omega (arith, l))
    (upto_next p g c.args.stop c.args.numbers.now first (i - first) _ _ (rw at c.item_grown-next.ensures) (c.min.ensures ∙ least _ _))
    c.loop-i.invariant))

pub returns : goal.returns
returns c = done c.args.count (omega arith) (omega arith) c.loop-i.invariant
