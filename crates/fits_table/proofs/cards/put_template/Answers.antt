use Rattle.std.proofs.Common.{◌≡◌, refl, ◌∙◌, arith}
use Rattle.fits_table.proofs.Fields.{template-next, template-none, template-all}
use Rattle.fits_table.specs.Header.{ascii, card}
use Rattle.fits_table.specs.Shape.{card_table}
use Rattle.fits_table.proofs.cards.put_template.Goals as goal

pub loop-slot-init : goal.loop-slot-init
loop-slot-init c = template-none _

pub card_of-card-requires-clause-cards_value : goal.card_of-card-requires-clause-cards_value
unfolding card_table card ascii
card_of-card-requires-clause-cards_value c = refl

pub loop-slot-preserved : goal.loop-slot-preserved
loop-slot-preserved c =
    let t = c.loop-slot in
    c.copy.ensures ∙ template-next c.args.out.now t.out t.slot c.card_of-card.result c.loop-slot-test.true c.requires t.invariant c.card_of-card.ensures

pub returns : goal.returns
returns c =
    let e : c.loop-slot.slot ≡ 72 = omega arith in
    c.loop-slot.invariant ∙ template-all _ _ e
