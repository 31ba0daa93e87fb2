-- `lines::push` meets its contract.
use Prim.Native.Nat.{◌<◌}
use native.Mathlib.Omega.{arith}
use borrow.Author.Rules.{rules}
use Rattle.lines.specs.Grammar.{line_bytes}
use Rattle.lines.proofs.Kept.{array_of, kept_full, kept_more}
use Rattle.lines.proofs.push.Goals as goal

pub returns-then-n-lt-KEPT : goal.returns-then-n-lt-KEPT
unfolding line_bytes
returns-then-n-lt-KEPT c =
    let room : c.args.line.length < 65 = omega arith in
    kept_more _ (array_of _ c.well_formed.0.1.1.0.1.0.1) _ _ room

pub returns : goal.returns
unfolding line_bytes
returns c = kept_full _ (array_of _ c.well_formed.0.1.1.0.1.0.1) _ _ c.if-n-lt-KEPT.false
