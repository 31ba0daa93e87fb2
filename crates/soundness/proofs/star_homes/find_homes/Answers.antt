-- `soundness::star_homes::find_homes` meets its contract.
use mathlib.Core.Path.{◌≡◌, refl, ap, ◌∙◌}
use Prim.Native.Nat.{ℕ, ◌+◌, ◌≤◌}
use native.Mathlib.Omega.{arith}
use lib.ListN.{drop}
use lib.Seq.{paste, paste-zero}
use Rattle.placement.specs.Shape.{homes_of}
use Rattle.soundness.proofs.Pastes.{homes-next}
use Rattle.soundness.proofs.star_homes.find_homes.Lts as lts
use Rattle.soundness.proofs.star_homes.find_homes.Tie as tie
use Rattle.soundness.proofs.star_homes.find_homes.Reads as reads
use Rattle.soundness.proofs.star_homes.find_homes.Goals as goal
use Rattle.soundness.proofs.star_homes.find_homes.Goals.{Start}

abbrev After-slice_known-in-loop-i-1 : Type 0
After-slice_known-in-loop-i-1 = lts.After-slice_known2 tie.the-claims reads.Pre reads.Post goal.the-invariant-loop-i goal.the-decreases-loop-i tie.handed_clauses

pub loop-i-init : goal.loop-i-init
loop-i-init c = let s = c.args in (omega arith, refl, paste-zero s.homes.now s.to (homes_of s.geometry.parameters s.geometry.growth (drop s.first s.numbers.now)))

pub find_block-i-requires : goal.find_block-i-requires
find_block-i-requires c =
    let l = c.loop-i.invariant in
    let p = c.requires in
    let inside = c.loop-i-test.true in
    record {
      homing = p.homing;
      le = (omega (arith, inside), (omega (arith, inside, p.in_bounds.0), omega (arith, inside, p.in_bounds.1, l.1)));
    }

abbrev start : After-slice_known-in-loop-i-1 → Start
start c = c.before.before.before.before.before.before.before.before

-- the items so far and those of the block
upto : (c : After-slice_known-in-loop-i-1) → c.loop-i.i + c.find_block-i.result ≤ (start c).args.items
upto c = omega (arith, c.find_block-i.ensures.lower_bound, c.loop-i-test.true)

pub overflow_add-i : goal.overflow_add-i
overflow_add-i c = record { fits = omega (arith, upto c.before) }

pub loop-i-smaller : goal.loop-i-smaller
loop-i-smaller c = omega (arith, c.find_block-i.ensures.lower_bound, c.loop-i-test.true)

pub loop-i-preserved : goal.loop-i-preserved
loop-i-preserved c =
    let s = start c.before in
    let l = c.loop-i in
    let d = c.find_block-i in (
      upto c.before,
      d.auto.homes ∙ l.invariant.1,
      homes-next s.args.geometry s.args.numbers.now s.args.homes.now l.homes _ s.args.to s.args.first l.i d.result
          (omega (arith, s.requires.in_bounds.1)) (omega (arith, s.requires.in_bounds.0, l.invariant.0)) l.invariant.2 d.ensures.homes_after,
    )

pub shape_of-homes : goal.shape_of-homes
shape_of-homes c = c.loop-i.invariant.1

pub returns : goal.returns
returns c =
    let s = c.before.before.before.before.before in
    let e : c.loop-i.i ≡ s.args.items = omega (arith, c.loop-i-test.false, c.loop-i.invariant.0) in
    c.loop-i.invariant.2 ∙ ap (λ (k : ℕ). paste s.args.homes.now s.args.to (homes_of s.args.geometry.parameters s.args.geometry.growth (drop s.args.first s.args.numbers.now)) k) e
