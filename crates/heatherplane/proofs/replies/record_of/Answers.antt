use native.Mathlib.Omega.{arith}
use borrow.Author.Tests.{lt-ltb, le-ltb, ne_eqb}
use Rattle.heatherplane.proofs.replies.record_of.Goals as goal

pub returns-then-growing-gt1 : goal.returns-then-growing-gt1
returns-then-growing-gt1 c =
    let growing = c.args.growing in
    rw (ne_eqb growing 1 (λ e. omega (arith, c.if-growing-gt1.true)), lt-ltb 1 growing c.if-growing-gt1.true)

pub returns : goal.returns
returns c = rw (le-ltb 1 _ c.if-growing-gt1.false)
