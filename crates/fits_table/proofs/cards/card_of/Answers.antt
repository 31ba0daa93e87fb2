use Rattle.fits_table.proofs.Fields.{slot_small, slot_is}
use Rattle.fits_table.specs.Shape.{card_table}
use lib.ListN.{get_or}
use Prim.Native.Nat.{ℕ}
use mathlib.Core.List.{List, []}
use Prim.Native.Nat.{◌<◌}
use mathlib.Core.Path.{ap, ◌∙◌}
use native.Mathlib.Omega.{arith}
use Rattle.fits_table.proofs.cards.card_of.Goals as goal
use Rattle.fits_table.proofs.cards.card_of.Goals.{After-slot_card}

small : (c : After-slot_card) → c.slot_card.result < 18
small c = omega (arith, c.slot_card.ensures, slot_small c.args.slot c.requires.slot_bound)

pub offset_bounds-cards-slot_card : goal.offset_bounds-cards-slot_card
offset_bounds-cards-slot_card c = omega (arith, small c)

pub bounds-cards-slot_card : goal.bounds-cards-slot_card
bounds-cards-slot_card c = small c

pub returns : goal.returns
returns c =
    let s = c.before.before in
    ap (λ (l : List (List ℕ)). get_or l c.slot_card.result []) s.requires.cards_value ∙ ap (λ (k : ℕ). get_or card_table k []) c.slot_card.ensures ∙ slot_is s.args.slot [] s.requires.slot_bound
