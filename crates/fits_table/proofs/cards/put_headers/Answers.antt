use Rattle.fits_table.proofs.Fields.{headers-steps}
use Rattle.fits_table.proofs.cards.put_headers.Goals as goal

pub returns : goal.returns
returns c =
    headers-steps c.args.out.now c.put_template.new.out c.put_field.new.out c.args.rows c.requires c.put_template.ensures c.put_field.ensures
