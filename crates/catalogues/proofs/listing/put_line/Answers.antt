-- `catalogues::listing::put_line` meets its contract.
use native.Mathlib.Omega.{arith}
use mathlib.Core.Path.{◌≡◌}
use mir.Syntax.{w32}
use mir.Val.{to_z, of_z}
use lib.ListN.{length-append}
use Rattle.lines.proofs.Digits.{length-field}
use Rattle.lines.proofs.Texts.{length-signed}
use Rattle.lines.proofs.Writing.{then}
use Rattle.catalogues.specs.Listing.{row_line}
use Rattle.catalogues.proofs.Entering.{put-short}
use Rattle.catalogues.proofs.Listed.{dec_back}
use borrow.Author.Rules.{rules}
use Rattle.catalogues.proofs.listing.put_line.Goals as goal

pub put_field-third-requires : goal.put_field-third-requires
put_field-third-requires c =
    omega (arith, length-field c.args.number 32, c.put_field-second, c.put-first, c.requires.at_in_bounds)

pub put_declination-requires : goal.put_declination-requires
put_declination-requires c =
    omega (
      arith,
      length-field c.args.number 32,
      length-field c.unpack-position.result.ra 32,
      c.put_field-third,
      c.put_field-second,
      c.put-first,
      c.requires.at_in_bounds,
    )

pub returns : goal.returns
unfolding row_line
returns c =
    let back : to_z w32 (of_z w32 c.unpack-position.result.dec) ≡ c.unpack-position.result.dec = rw c.unpack-position.ensures (dec_back c.args.word c.requires.word_value) in
    rw (← c.unpack-position.ensures)
    (put-short 36 _ _ _ _ _
    (then _ _ _ _ _ _ _ _ c.put-first.ensures
    (then _ _ _ _ _ _ _ _ c.put_field-second.ensures
    (then _ _ _ _ _ _ _ _ c.put_field-third.ensures (rw back at c.put_declination.ensures))))
    (simp length-append (omega (arith, length-field c.args.number 32, length-field c.unpack-position.result.ra 32, length-signed c.unpack-position.result.dec))))
