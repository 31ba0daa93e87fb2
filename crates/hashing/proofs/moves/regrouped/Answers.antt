-- `hashing::regrouped` meets its contract, by the law of a group after more doublings.
use mathlib.Core.Path.{◌≡◌}
use Prim.Native.Nat.{◌-◌, ◌*◌, ◌/◌, ◌%◌, ◌^◌, ◌≤◌}
use native.Mathlib.Nat.{le_trans, mod-le, mul-le-mul_right}
use native.Mathlib.Omega.{arith}
use borrow.Author.Rules.{rules}
use lib.Pow.{pow_pos}
use Rattle.hashing.specs.Moves.{code_count}
use Rattle.generator.proofs.Numbers.{shifted}
use Rattle.hashing.proofs.Bounds.{limits, few-doublings}
use Rattle.hashing.proofs.Codes.{regroup}
use Rattle.hashing.proofs.moves.regrouped.Goals as goal
use Rattle.hashing.proofs.moves.regrouped.Goals.{After-count_of, Start}

few : (c : Start) → c.args.next / 8 ≤ 10
unfolding code_count
few c = few-doublings c.args.parameters.groups (c.args.next / 8) (limits _ c.requires.parameters_value).groups_least c.requires.code_bound.1

power : (c : Start) → 1 * 2 ^ (c.args.next / 8 - c.args.code / 8) % 65536 ≡ 2 ^ (c.args.next / 8 - c.args.code / 8)
power c = shifted (c.args.next / 8 - c.args.code / 8) 16 (omega (arith, few c))

product :
    (c : After-count_of) →
    c.args.code % 8 % (1 * 2 ^ (c.args.next / 8 - c.args.code / 8) % 65536) * c.count_of.result ≤ 1024
product c =
    let start = c.before in
    rw c.count_of.ensures (le_trans (mul-le-mul_right (code_count start.args.parameters start.args.code) (mod-le (start.args.code % 8) _)) start.requires.landed.1.1)

pub overflow_shl-rest : goal.overflow_shl-rest
overflow_shl-rest c = let low = few c in search rules

pub nonzero_rem-rest-2 : goal.nonzero_rem-rest-2
nonzero_rem-rest-2 c = rw (power c) (pow_pos (c.args.next / 8 - c.args.code / 8))

pub overflow_mul-result : goal.overflow_mul-result
overflow_mul-result c = omega (arith, product c)

pub overflow_add-result : goal.overflow_add-result
overflow_add-result c = omega (arith, product c, c.requires.landed)

pub returns : goal.returns
unfolding code_count
returns c =
    let start = c.before in
    rw (power start, c.count_of.ensures)
    (regroup start.args.parameters start.args.code start.args.order (start.args.next / 8) start.requires.landed.0 start.requires.code_bound.0)
