-- `lines::enter` meets its contract.
use Prim.Native.Nat.{ℕ, suc, ◌<◌, ◌≤◌}
use native.Mathlib.Numerals.{add-one}
use native.Mathlib.Omega.{arith}
use mathlib.Core.List.{List, ◌∷◌}
use mathlib.Core.Path.{◌≡◌, sym, ap, ◌∙◌}
use lib.ListN.{length, take, drop}
use lib.Seq.{length-take-le}
use Rattle.lines.specs.Grammar.{fields, enter_from}
use Rattle.lines.specs.Shape.{field_length}
use Rattle.lines.proofs.Fields.{fields-more, rest-is}
use Rattle.lines.proofs.Commands.{enter_short, enter_wrong}
use borrow.Author.Rules.{rules}
use Rattle.lines.proofs.enter.Goals as goal

pub returns-then-a-operands : goal.returns-then-a-operands
returns-then-a-operands c = sym (enter_short _ (sym c.first_blank-a.ensures.0 ∙ c.if-a-operands.true))

pub slice_bounds-read_natural-end : goal.slice_bounds-read_natural-end
slice_bounds-read_natural-end c = sym (length-take-le _ _ c.first_blank-a.ensures.1)

-- the number is the first field
split :
    (l : List ℕ) (k : ℕ) → (k ≡ field_length l) × (k ≤ length l) → (k ≡ length l → ⊥) →
    enter_from (fields l) ≡ enter_from (take k l ∷ fields (drop (suc k) l))
split l k e h =
    let within : field_length l < length l = omega (arith, e, h) in
    rw e.0 (ap enter_from (fields-more l within))

pub returns-in_default : goal.returns-in_default
returns-in_default c =
    sym (split c.args.operands.now _ c.first_blank-a.ensures c.if-a-operands.false ∙ enter_wrong _ _ (sym c.read_natural.ensures ∙ c.in_default.is))

pub returns : goal.returns
returns c =
    let k = c.first_blank-a.result in
    rw (add-one k, rest-is) at
    (c.enter_at.ensures _ (sym c.read_natural.ensures ∙ c.in-Of.is))
    ∙ sym (split c.args.operands.now _ c.first_blank-a.ensures c.if-a-operands.false)
