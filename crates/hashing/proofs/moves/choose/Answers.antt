-- `hashing::choose` meets its contract. The invariant: the first `count` codes are those of the steps passed that choose the number.
use Rattle.std.proofs.Common.{◌≡◌, ◌∙◌, ◌+◌, ◌*◌, ◌≤◌, refl, sym, set, take, length-set, arith}
use Rattle.hashing.specs.Geometry.{multiplier_of}
use Rattle.hashing.specs.Home.{chosen}
use Rattle.hashing.specs.Moves.{code_at, moves}
use Rattle.hashing.proofs.Bounds.{limits}
use Rattle.hashing.proofs.Codes.{code_size, code_start, moves-taken, moves-passed}
use Rattle.generator.proofs.Powers.{first_below, times_step}
use Rattle.hashing.proofs.moves.choose.Goals as goal
use Rattle.hashing.proofs.moves.choose.Goals.{then-taken, else-taken}

pub overflow_cast-code : goal.overflow_cast-code
overflow_cast-code c = omega (arith, (limits _ c.requires.parameters_value).width_most)

pub loop-i-init : goal.loop-i-init
unfolding moves
loop-i-init c = (omega arith, c.requires.steps_len, sym (code_start c.args.parameters), refl)

pub chosen-taken-requires-clause-factor_lt_modulus : goal.chosen-taken-requires-clause-factor_lt_modulus
chosen-taken-requires-clause-factor_lt_modulus c =
    (rw c.requires.table_value (first_below (multiplier_of c.args.parameters) (2 * c.loop-i.i + 1) (omega (arith, c.requires.expansions_bound))), c.requires.key_lt_modulus)

pub loop-i-preserved : goal.loop-i-preserved
unfolding chosen
loop-i-preserved c =
    let p = c.args.parameters in
    let a = multiplier_of p in
    let i = c.loop-i.i in
    let was = c.loop-i.invariant in
    let few : i ≤ 32 = omega (arith, c.requires.expansions_bound) in
    let taken : chosen a p c.args.key i ≡ c.chosen-taken.result =
    rw (c.chosen-taken.ensures, c.requires.table_value, times_step a i c.args.key few, was.2, code_size p i (limits _ c.requires.parameters_value)) in
    let codes : take c.if-taken.count (set c.loop-i.steps c.loop-i.count (code_at p i)) ≡ moves a p c.args.key (i + 1) =
    elim c.if-taken.branch [
      | then-taken w ↦ rw w.count-is (moves-taken a p c.args.key i c.loop-i.count c.loop-i.steps (taken ∙ w.if-taken.true) (omega arith) was.3)
      | else-taken w ↦ rw w.count-is (moves-passed a p c.args.key i c.loop-i.count c.loop-i.steps (taken ∙ w.if-taken.false) was.3)
    ] in
    let bound : c.if-taken.count ≤ i + 1 = elim c.if-taken.branch [ then-taken w ↦ omega arith | else-taken w ↦ omega arith ] in
    (bound, simp length-set was.1, c.next_code-code.ensures, rw was.2 codes)
