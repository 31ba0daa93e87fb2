use mathlib.Core.Path.{◌∙◌, ap}
use native.Mathlib.Omega.{arith}
use Rattle.hashing.proofs.Bounds.{limits}
use Rattle.placement.specs.Hash.{lent}
use Rattle.mending.proofs.Renewed.{settleable, renew_kept, renew_placed, applied-whole}
use borrow.Author.Tests.{not-true, not-false}
use mathlib.Core.Bool.{not}
use Rattle.mending.proofs.renewing.renew.Goals as goal

pub place_all-requires : goal.place_all-requires
place_all-requires c = settleable _ c.requires.parameters_value _ _ _ _ _ c.requires.in_groups c.requires.pooled.of_numbers (omega arith)

pub returns-then-not-place_all : goal.returns-then-not-place_all
returns-then-not-place_all c =
    record {
      value = (renew_kept c.args.parameters c.requires.parameters_value (lent c.args.separators.now c.args.numbers.now c.args.words.now c.args.owners.now) _ _ _ _ _ _ (rw (not-true c.place_all.result (ap not c.if-not-place_all.true)) at c.place_all.ensures)).0;
      owners_value = (renew_kept c.args.parameters c.requires.parameters_value (lent c.args.separators.now c.args.numbers.now c.args.words.now c.args.owners.now) _ _ _ _ _ _ (rw (not-true c.place_all.result (ap not c.if-not-place_all.true)) at c.place_all.ensures)).1;
    }

pub write_back-requires : goal.write_back-requires
write_back-requires c =
    let l = limits c.args.parameters c.requires.parameters_value in
    let z = c.requires.sized in
    let o = c.requires.pooled in
    let e = c.place_all.auto.pool in record {
      separators_in_bounds = omega (arith, z.of_separators, l.pages_most, c.place_all.auto.planned);
      numbers_len = (omega (arith, z.of_numbers, o.of_numbers, e), (omega (arith, z.of_words_lem, o.of_numbers, e), omega (arith, z.of_owners, o.of_numbers, e)));
      waiting_len = (omega (arith, o.of_words_lem, o.of_numbers, e, c.place_all.auto.waiting), omega (arith, o.of_owners, o.of_numbers, e));
    }

pub returns : goal.returns
returns c =
    let done = renew_placed c.args.parameters c.requires.parameters_value (lent c.args.separators.now c.args.numbers.now c.args.words.now c.args.owners.now) _ _ _ _ _ _ (rw (not-false c.place_all.result (ap not c.if-not-place_all.false)) at c.place_all.ensures) c.requires.pooled.of_numbers (omega arith) c.requires.waiting_value in
    let l = limits c.args.parameters c.requires.parameters_value in record {
      value = done.0;
      owners_value = c.write_back.ensures
          ∙ applied-whole c.args.parameters.places c.args.parameters.pages _ _ _ _ _ _ (omega (arith, c.requires.pooled.of_numbers, c.place_all.auto.pool))
          (omega (arith, l.pages_most, c.place_all.auto.planned)) c.requires.sized
          ∙ done.1;
    }
