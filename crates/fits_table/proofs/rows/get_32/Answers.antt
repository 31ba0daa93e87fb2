use Rattle.std.proofs.Common.{◌∙◌, arith}
use Rattle.fits_table.specs.Rows.{from32}
use Rattle.fits_table.proofs.rows.get_32.Goals as goal

pub returns : goal.returns
unfolding from32
returns c = c.from_be_bytes.ensures ∙ omega arith
