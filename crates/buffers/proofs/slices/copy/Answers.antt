use mathlib.Core.Path.{ap, ◌∙◌}
use Prim.Native.Nat.{ℕ}
use native.Mathlib.Nat.{le_antisymm}
use native.Mathlib.Omega.{arith}
use lib.ListN.{drop}
use lib.Seq.{paste, paste-zero}
use Rattle.buffers.proofs.Copies.{copied_next}
use Rattle.buffers.proofs.slices.copy.Goals as goal

pub loop-i-init : goal.loop-i-init
loop-i-init g c = paste-zero c.args.to.now c.args.at (drop c.args.start c.args.from.now)

pub loop-i-preserved : goal.loop-i-preserved
loop-i-preserved g c =
    copied_next c.args.to.now c.loop-i.to c.args.from.now c.args.at c.args.start c.loop-i.i c.index-from-start.result (omega arith) (omega arith) c.loop-i.invariant c.index-from-start.is

pub returns : goal.returns
returns g c =
    let a = c.args in
    c.loop-i.invariant ∙ ap (λ (n : ℕ). paste a.to.now a.at (drop a.start a.from.now) n) (le_antisymm c.loop-i.auto.i-end c.loop-i-test.false)
