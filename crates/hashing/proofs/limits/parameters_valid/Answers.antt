-- `hashing::parameters_valid` meets its contract, for every content.
use mathlib.Core.Path.{◌≡◌, ap}
use mathlib.Core.Bool.{true, not}
use Prim.Native.Nat.{◌*◌}
use native.Mathlib.Nat.{mul-le-mul}
use native.Mathlib.Omega.{arith}
use borrow.Author.Rules.{rules}
use Rattle.hashing.specs.Limits.{within, valid_parameters}
use Rattle.hashing.proofs.Bounds.{within-bounds, failed, passed}
use Rattle.hashing.proofs.limits.parameters_valid.Goals as goal
use Rattle.hashing.proofs.limits.parameters_valid.Goals.{Else-not-within, Else-not-within-2, Else-not-within-3, Else-not-within-4, Else-not-within-5, Else-not-within-6, Else-not-within-7}

ok1 : (c : Else-not-within) → within 1 c.args.parameters.places 32 ≡ true
ok1 c = passed _ _ c.within.ensures (ap not c.if-not-within.false)

ok2 : (c : Else-not-within-2) → within 1 c.args.parameters.groups 256 ≡ true
ok2 c = passed _ _ c.within-2.ensures (ap not c.if-not-within-2.false)

ok3 : (c : Else-not-within-3) → within 1 c.args.parameters.width 4 ≡ true
ok3 c = passed _ _ c.within-3.ensures (ap not c.if-not-within-3.false)

ok4 :
    (c : Else-not-within-4) →
    within 1 c.args.parameters.step c.args.parameters.groups ≡ true
ok4 c = passed _ _ c.within-4.ensures (ap not c.if-not-within-4.false)

ok5 : (c : Else-not-within-5) → within 1 c.args.parameters.bits 8 ≡ true
ok5 c = passed _ _ c.within-5.ensures (ap not c.if-not-within-5.false)

ok6 :
    (c : Else-not-within-6) →
    within 1 c.args.parameters.load 99 ≡ true
ok6 c = passed _ _ c.within-6.ensures (ap not c.if-not-within-6.false)

ok7 : (c : Else-not-within-7) → let p = c.args.parameters in within (p.width * p.groups) p.pages 1024 ≡ true
ok7 c = passed _ _ c.within-7.ensures (ap not c.if-not-within-7.false)

pub returns-then-not-within : goal.returns-then-not-within
unfolding valid_parameters
returns-then-not-within c = rw (failed _ _ c.within.ensures (ap not c.if-not-within.true))

pub returns-then-not-within-2 : goal.returns-then-not-within-2
unfolding valid_parameters
returns-then-not-within-2 c = rw (ok1 c.before.before, failed _ _ c.within-2.ensures (ap not c.if-not-within-2.true))

pub returns-then-not-within-3 : goal.returns-then-not-within-3
unfolding valid_parameters
returns-then-not-within-3 c = rw (ok1 c.before.before.before.before, ok2 c.before.before, failed _ _ c.within-3.ensures (ap not c.if-not-within-3.true))

pub returns-then-not-within-4 : goal.returns-then-not-within-4
unfolding valid_parameters
returns-then-not-within-4 c = rw (ok1 c.before.before.before.before.before.before, ok2 c.before.before.before.before, ok3 c.before.before, failed _ _ c.within-4.ensures (ap not c.if-not-within-4.true))

pub returns-then-not-within-5 : goal.returns-then-not-within-5
unfolding valid_parameters
returns-then-not-within-5 c = rw (ok1 c.before.before.before.before.before.before.before.before, ok2 c.before.before.before.before.before.before, ok3 c.before.before.before.before, ok4 c.before.before, failed _ _ c.within-5.ensures (ap not c.if-not-within-5.true))

pub returns-then-not-within-6 : goal.returns-then-not-within-6
unfolding valid_parameters
returns-then-not-within-6 c = rw (ok1 c.before.before.before.before.before.before.before.before.before.before, ok2 c.before.before.before.before.before.before.before.before, ok3 c.before.before.before.before.before.before, ok4 c.before.before.before.before, ok5 c.before.before, failed _ _ c.within-6.ensures (ap not c.if-not-within-6.true))

pub overflow_mul-parameters : goal.overflow_mul-parameters
overflow_mul-parameters c =
    let p = c.args.parameters in
    let g = within-bounds 1 p.groups 256 (ok2 c.before.before.before.before.before.before.before.before.before) in
    let w = within-bounds 1 p.width 4 (ok3 c.before.before.before.before.before.before.before) in
    omega (arith, mul-le-mul w.1 g.1)

pub returns-then-not-within-7 : goal.returns-then-not-within-7
unfolding valid_parameters
returns-then-not-within-7 c = rw (ok1 c.before.before.before.before.before.before.before.before.before.before.before.before.before, ok2 c.before.before.before.before.before.before.before.before.before.before.before, ok3 c.before.before.before.before.before.before.before.before.before, ok4 c.before.before.before.before.before.before.before, ok5 c.before.before.before.before.before, ok6 c.before.before.before, failed _ _ c.within-7.ensures (ap not c.if-not-within-7.true))

pub returns : goal.returns
unfolding valid_parameters
returns c = rw (ok1 c.before.before.before.before.before.before.before.before.before.before.before.before.before.before, ok2 c.before.before.before.before.before.before.before.before.before.before.before.before, ok3 c.before.before.before.before.before.before.before.before.before.before, ok4 c.before.before.before.before.before.before.before.before, ok5 c.before.before.before.before.before.before, ok6 c.before.before.before.before, ok7 c.before) c.multiplier_valid.ensures
