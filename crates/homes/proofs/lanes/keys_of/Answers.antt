-- `homes::lanes::keys_of` meets its contract. The invariant: the first i places are filled.
use Rattle.std.proofs.Common.{◌≡◌, ◌+◌, ◌≤◌, ℕ, get_or, arith}
use Rattle.homes.specs.Lanes.{residue_of, keys_at}
use Rattle.homes.proofs.Lists.{lane, lane-none, lane-next, lane-more, lane-end}
use Rattle.homes.proofs.lanes.keys_of.Goals as goal
use Rattle.homes.proofs.lanes.keys_of.Goals.{Start}

abbrev value : Start → ℕ → ℕ
value c j = residue_of (get_or c.args.numbers.now (c.args.at + j) 0)

pub loop-i-init : goal.loop-i-init
loop-i-init c = (lane-none _ _, λ j h. absurd (omega arith))

pub loop-i-preserved : goal.loop-i-preserved
loop-i-preserved c =
    let was = c.loop-i.invariant in
    let key = c.keyed.ensures in (
      lane-next _ _ _ _ _ (omega (arith, c.requires.keys_len)) was.0 key.0,
      lane-more (λ n. n ≤ 2147483648) _ _ was.1 (rw key.0 at key.1),
    )

pub returns : goal.returns
unfolding keys_at
returns c =
    let done : c.loop-i.i ≡ 8 = omega arith in
    let was = rw done at c.loop-i.invariant in
    let filled = lane-end _ _ _ 8 c.requires.keys_len was.0 in
    (filled, λ j b. rw (filled, lane 8 _ j b) (omega (arith, was.1 j b)))
