use mathlib.Core.List.{List}
use Rattle.lines.specs.Replies.{TextAt}
use Prim.Native.Nat.{ℕ, ◌*◌, ◌-◌, ◌≤◌}
use native.Mathlib.Numerals.{add-one}
use native.Mathlib.Omega.{arith}
use mathlib.Core.Path.{◌≡◌, ap, ◌∙◌}
use lib.ListN.{length, take}
use lib.Seq.{take_all, length-sets}
use Rattle.lines.specs.Programs.{Stands}
use Rattle.lines.proofs.Programs.{start-stands, block_more}
use Rattle.sessions.specs.Commands.{answering, run_in}
use Rattle.sessions.proofs.blocks.answer_block.Goals as goal

same_size : (before text after : List ℕ) (at next : ℕ) → TextAt at text before after next → length after ≡ length before
same_size before text after at next w = ap length w.buffer ∙ simp length-sets

pub loop-byte-init : goal.loop-byte-init
loop-byte-init c = (omega arith, start-stands _ _ _ _)

pub take_byte-step-requires : goal.take_byte-step-requires
take_byte-step-requires c =
    omega (arith, same_size _ _ _ _ _ c.loop-byte.invariant.1.text, c.loop-byte-test.true, c.requires)

pub loop-byte-preserved : goal.loop-byte-preserved
loop-byte-preserved c =
    rw (add-one c.loop-byte.byte-index) (
      omega (arith, c.take_byte-step.ensures.1),
      block_more _ _ _ _ _ _ _ _ _ _ _ c.loop-byte-test.true c.loop-byte.invariant.1 c.take_byte-step.ensures.0,
    )

pub shape_of-out : goal.shape_of-out
shape_of-out c = same_size _ _ _ _ _ c.loop-byte.invariant.1.text

pub returns : goal.returns
returns c =
    let block = c.args.block.now in
    let all : take c.loop-byte.byte-index block ≡ block = take_all _ _ c.loop-byte-test.false in
    (rw all at c.loop-byte.invariant.1, omega arith)
