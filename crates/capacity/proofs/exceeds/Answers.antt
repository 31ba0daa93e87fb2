use mathlib.Core.Path.{refl}
use Prim.Native.Nat.{◌*◌, ◌≤◌}
use native.Mathlib.Nat.{mul-le-mul}
use native.Mathlib.Omega.{arith}
use borrow.Author.Rules.{rules}
use Rattle.hashing.proofs.Bounds.{limits}
use Rattle.calls.specs.Due.{exceeds}
use Rattle.capacity.proofs.exceeds.Goals as goal
use Rattle.capacity.proofs.exceeds.Goals.{Start}

room : (c : Start) → c.args.parameters.load * c.args.parameters.places ≤ 99 * 32
room c = mul-le-mul (limits _ c.requires.parameters_value).load_most (limits _ c.requires.parameters_value).places_most

rooms : (c : Start) → c.args.parameters.load * c.args.parameters.places * c.args.pages ≤ 99 * 32 * 1024
rooms c = mul-le-mul (room c) c.requires.pages_bound

pub overflow_mul-room : goal.overflow_mul-room
overflow_mul-room c = omega (arith, room c.before)

pub overflow_mul-room-2 : goal.overflow_mul-room-2
overflow_mul-room-2 c = omega (arith, rooms c.before)

pub overflow_cast-result : goal.overflow_cast-result
overflow_cast-result c = omega (arith, rooms c.before)

pub returns : goal.returns
unfolding exceeds
returns c = refl
