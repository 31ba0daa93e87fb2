-- `catalogues::entries::entry` meets its contract.
use native.Mathlib.Omega.{arith}
use Prim.Native.Nat.{ℕ, ◌≤◌}
use mathlib.Core.Bool.{true}
use mathlib.Core.List.{List}
use mathlib.Core.Path.{◌≡◌, sym, ◌∙◌}
use lib.ListN.{length}
use borrow.Author.Tests.{not-true, not-false}
use Rattle.pages.specs.Position.{valid_number, valid_position}
use Rattle.catalogues.specs.Entries.{rows_held}
use Rattle.catalogues.proofs.Held.{held-length}
use Rattle.catalogues.proofs.Entering.{number-refused, position-refused, full, taken, again, other}
use borrow.Author.Rules.{rules}
use Rattle.catalogues.proofs.entries.entry.Goals as goal

rows : (count : ℕ) (numbers words : List ℕ) → List (ℕ × ℕ)
rows count numbers words = rows_held count numbers words

size : (count : ℕ) (numbers words : List ℕ) → (count ≤ length numbers) × (count ≤ length words) → length (rows count numbers words) ≡ count
unfolding rows
size count numbers words h = held-length count numbers words h.0 h.1

pub returns-then-not-number_valid : goal.returns-then-not-number_valid
returns-then-not-number_valid c = number-refused _ _ _ (sym c.number_valid.ensures ∙ c.if-not-number_valid.true)

pub returns-then-not-position_valid : goal.returns-then-not-position_valid
returns-then-not-position_valid c =
    position-refused _ _ _ (sym c.number_valid.ensures ∙ c.if-not-number_valid.false)
    (sym c.position_valid.ensures ∙ c.if-not-position_valid.true)

pub pack-word-requires : goal.pack-word-requires
pack-word-requires c = sym c.position_valid.ensures ∙ c.if-not-position_valid.false

pub returns-then-count-ge32768 : goal.returns-then-count-ge32768
unfolding rows
returns-then-count-ge32768 c =
    full (rows c.args.count c.args.numbers.now c.args.words.now) _ _ (sym c.number_valid.ensures ∙ c.if-not-number_valid.false) (sym c.position_valid.ensures ∙ c.if-not-position_valid.false) _ c.pack-word.ensures _ c.standing_among.ensures c.in-New.is
    (omega (arith, size c.args.count c.args.numbers.now c.args.words.now c.requires, c.if-count-ge32768.true))

pub returns-else-count-ge32768 : goal.returns-else-count-ge32768
unfolding rows
returns-else-count-ge32768 c =
    taken (rows c.args.count c.args.numbers.now c.args.words.now) _ _ (sym c.number_valid.ensures ∙ c.if-not-number_valid.false) (sym c.position_valid.ensures ∙ c.if-not-position_valid.false) _ c.pack-word.ensures _ c.standing_among.ensures c.in-New.is
    (omega (arith, size c.args.count c.args.numbers.now c.args.words.now c.requires, c.if-count-ge32768.false))

pub returns-in-Same : goal.returns-in-Same
unfolding rows
returns-in-Same c =
    again (rows c.args.count c.args.numbers.now c.args.words.now) _ _ (sym c.number_valid.ensures ∙ c.if-not-number_valid.false) (sym c.position_valid.ensures ∙ c.if-not-position_valid.false) _ c.pack-word.ensures _ c.standing_among.ensures c.in-Same.is

pub returns-in-Other : goal.returns-in-Other
unfolding rows
returns-in-Other c =
    other (rows c.args.count c.args.numbers.now c.args.words.now) _ _ (sym c.number_valid.ensures ∙ c.if-not-number_valid.false) (sym c.position_valid.ensures ∙ c.if-not-position_valid.false) _ c.pack-word.ensures _ c.standing_among.ensures c.in-Other.is
