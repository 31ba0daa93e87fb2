-- The counters lack the words from i on, and those before i are signed.
use Rattle.std.proofs.Common.{get_or, arith, sym, leb}
use borrow.Author.Tests.{leb-true}
use Rattle.page_separator.specs.Words.{home_of}
use Rattle.page_separator.proofs.Counting.{lacking_none, lacking_next, lacking_fits, lacking_all}
use Rattle.page_separator.proofs.Cutting.{signature_byte}
use Rattle.page_separator.proofs.Factors.{factor_kept, signed-none, signed-next}
use Rattle.page_separator.proofs.Lists.{slice_all}
use Rattle.page_separator.proofs.signatures.tally_signatures.Goals as goal

pub loop-i-init : goal.loop-i-init
loop-i-init c =
    let p = c.requires in record {
      factor = factor_kept _ _ _ c.first_factor-factor.ensures;
      counts = lacking_none _ _ _ _ _ _ p.probing.order p.probing.inside p.counts_len.0 p.counts_len.1;
      signed = signed-none _ _ _ _ _ p.signatures_len;
    }

pub factor_for-factor-requires-clause-word_bound : goal.factor_for-factor-requires-clause-word_bound
factor_for-factor-requires-clause-word_bound c =
    let p = c.requires.probing in
    (leb-true _ _ (slice_all (λ w. leb (home_of w) c.args.page) c.args.from c.args.reach c.args.waiting.now c.loop-i.i p.homes p.inside (omega arith) (omega arith)), p.page)

pub overflow_add-counts : goal.overflow_add-counts
overflow_add-counts c =
    let byte = signature_byte c.args.parameters c.args.page (get_or c.args.waiting.now c.loop-i.i 0) c.requires.signers.valid in
    omega (arith, lacking_fits _ _ _ _ _ _ _ c.loop-i.invariant.counts c.signature_of-signature.result (omega arith))

pub loop-i-preserved : goal.loop-i-preserved
loop-i-preserved c =
    let held = c.loop-i.invariant in record {
      factor = factor_kept _ _ _ c.factor_for-factor.ensures;
      counts = lacking_next _ _ _ _ _ _ _ held.counts _ (omega arith) (sym c.signature_of-signature.ensures);
      signed = signed-next _ _ _ _ _ _ held.signed _ c.signature_of-signature.ensures;
    }

pub returns-clause-by_index : goal.returns-clause-by_index
returns-clause-by_index c = lacking_all _ _ _ _ _ _ _ c.loop-i.invariant.counts (omega arith)
