-- `catalogues::listing::keep` meets its contract.
use Rattle.std.proofs.Common.{arith}
use Rattle.catalogues.proofs.Listed.{block-kept}
use Rattle.catalogues.proofs.listing.keep.Goals as goal

pub returns : goal.returns
returns c =
    let a = c.args in (
      omega arith,
      block-kept a.given.now _ a.block.now a.at c.min-n.result c.requires.0 c.requires.1 (omega arith) (omega arith)
          (λ h. omega arith) (λ h. omega arith) c.copy.ensures,
    )
