-- `catalogues::listing::refuse` meets its contract.
use native.Mathlib.Omega.{arith}
use lib.ListN.{length-append}
use borrow.Author.Tests.{eq-eqb, ne_eqb}
use Rattle.lines.proofs.Digits.{length-field}
use Rattle.lines.proofs.Writing.{then}
use Rattle.catalogues.specs.Listing.{refusal_line, at_first_lem}
use Rattle.lines.proofs.Writing.{nothing_put}
use Rattle.catalogues.proofs.Entering.{put-short}
use borrow.Author.Rules.{rules}
use Rattle.catalogues.proofs.listing.refuse.Goals as goal

pub returns-then-part-ne0 : goal.returns-then-part-ne0
unfolding at_first_lem
returns-then-part-ne0 c = rw (ne_eqb c.args.part 0 c.if-part-ne0.true) (nothing_put 0 _, omega arith)

pub put_field-requires : goal.put_field-requires
put_field-requires c =
    omega (arith, length-field c.args.refusal 32, c.put_field-second, c.put-first, c.requires)

pub returns : goal.returns
unfolding at_first_lem refusal_line
returns c =
    let n = c.args.refusal in
    rw (eq-eqb c.args.part 0 (omega (arith, c.if-part-ne0.false)))
    (put-short 64 0 _ _ _ _ (then _ _ _ _ _ _ _ _ c.put-first.ensures (then _ _ _ _ _ _ _ _ c.put_field-second.ensures c.put_field.ensures))
    (simp length-append (omega (arith, length-field n 32, length-field 0 10))))
