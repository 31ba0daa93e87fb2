use mathlib.Core.Path.{ap, ◌∙◌}
use Prim.Native.Nat.{ℕ}
use native.Mathlib.Nat.{le_antisymm}
use native.Mathlib.Omega.{arith}
use lib.ListN.{drop}
use lib.Seq.{paste, paste-zero}
use Rattle.buffers.proofs.Copies.{moved_next}
use Rattle.buffers.proofs.slices.move_down.Goals as goal

pub loop-i-init : goal.loop-i-init
loop-i-init g c = paste-zero c.args.items.now c.args.to (drop c.args.from c.args.items.now)

pub loop-i-preserved : goal.loop-i-preserved
loop-i-preserved g c = moved_next c.args.items.now c.loop-i.items c.args.to c.args.from c.loop-i.i c.index-items-from.result c.requires.down (omega arith) c.loop-i.invariant c.index-items-from.is

pub returns : goal.returns
returns g c =
    let a = c.args in
    c.loop-i.invariant ∙ ap (λ (n : ℕ). paste a.items.now a.to (drop a.from a.items.now) n) (le_antisymm c.loop-i.auto.i-end c.loop-i-test.false)
