-- `homes::page::prepare` meets its contract. The invariant: the blocks below `at` are filled.
use Rattle.std.proofs.Common.{◌≡◌, ◌∙◌, ◌+◌, ◌≤◌, length, ap, arith}
use Rattle.std.proofs.Math.Seq.{length-paste}
use Rattle.homes.specs.Lanes.{KeysOf}
use Rattle.homes.proofs.Lists.{blocks-next}
use Rattle.homes.proofs.page.prepare.Invariants.{started}
use Rattle.homes.proofs.page.prepare.Goals as goal

pub loop-at-preserved : goal.loop-at-preserved
loop-at-preserved c =
    let was = c.loop-at.invariant in
    let kl : c.loop-at.at + 8 ≤ length c.loop-at.keys = omega (arith, was.0, was.1, c.requires.places_bound) in
    let pl : c.loop-at.at + 8 ≤ length c.loop-at.pages = omega (arith, was.0, was.1, c.requires.places_bound) in (
      omega (arith, was.0),
      (
        ap length c.copy.ensures ∙ length-paste _ c.loop-at.at _ 8 kl (omega (arith, c.keys_of.array_long)) ∙ was.1.0,
        ap length c.copy-in-loop-at.ensures ∙ length-paste _ c.loop-at.at _ 8 pl (omega (arith, c.starts.array_long)) ∙ was.1.1,
      ),
      blocks-next c.loop-at.keys _ c.keys_of.new.keys c.loop-at.at was.0 kl c.keys_of.array_long c.copy.ensures (KeysOf c.args.numbers.now) was.2 c.keys_of.ensures,
      blocks-next c.loop-at.pages _ c.starts.new.pages c.loop-at.at was.0 pl c.starts.array_long c.copy-in-loop-at.ensures (λ b block. block ≡ started c.args.factor c.args.span c.args.numbers.now b) was.3
          (rw c.keys_of.ensures.0 at c.starts.ensures),
    )

pub returns-2-clause-blocks : goal.returns-2-clause-blocks
returns-2-clause-blocks c b m h =
    let was = c.loop-at.invariant in
    let fits : c.loop-at.at + 8 ≤ length c.loop-at.keys = omega (arith, was.0, was.1, c.requires.places_bound) in
    blocks-next c.loop-at.keys _ c.keys_of.new.keys c.loop-at.at was.0 fits c.keys_of.array_long c.copy.ensures (KeysOf c.args.numbers.now) was.2 c.keys_of.ensures b m (omega arith)

pub returns-2-clause-blocks_2 : goal.returns-2-clause-blocks_2
returns-2-clause-blocks_2 c b m h =
    let was = c.loop-at.invariant in
    let fits : c.loop-at.at + 8 ≤ length c.loop-at.pages = omega (arith, was.0, was.1, c.requires.places_bound) in
    blocks-next c.loop-at.pages _ c.starts.new.pages c.loop-at.at was.0 fits c.starts.array_long c.copy-in-loop-at.ensures (λ b block. block ≡ started c.args.factor c.args.span c.args.numbers.now b) was.3
    (rw c.keys_of.ensures.0 at c.starts.ensures) b m (omega arith)
