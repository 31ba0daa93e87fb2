use Rattle.fits_table.proofs.Signs.{row_steps}
use Rattle.pages.proofs.Words.{valid-word}
use Rattle.fits_table.proofs.rows.put_row.Goals as goal

pub lowered-dec-requires : goal.lowered-dec-requires
lowered-dec-requires c = (valid-word _ c.requires.word_value).low

pub returns : goal.returns
returns c =
    let s = c in
    let a = s.args in
    row_steps a.out.now c.put_32.new.out c.put_32-2.new.out c.put_32-3.new.out a.at a.number a.word c.lowered-dec.result
    s.requires.at_in_bounds (valid-word _ s.requires.word_value).low c.put_32.ensures c.put_32-2.ensures c.put_32-3.ensures c.lowered-dec.ensures
