-- `lines::parse` meets its contract.
use native.Mathlib.Omega.{arith}
use mathlib.Core.Path.{◌≡◌, sym, ap, ◌∙◌}
use lib.ListN.{drop, get_or}
use Rattle.lines.specs.Grammar.{command_of, fields, natural_of, number_with, by_letter}
use Rattle.lines.specs.declared.Command.TheVariants.{LookUp, Remove}
use Rattle.lines.proofs.Fields.{rest-is}
use Rattle.lines.proofs.SingleField.{number-alone}
use Rattle.lines.proofs.Commands.{empty-bad, grow_alone, other-alone, second-bad, lettered, wrong_number, other-letter}
use borrow.Author.Rules.{rules}
use Rattle.lines.proofs.parse.Goals as goal

pub returns-then-line-eq0 : goal.returns-then-line-eq0
returns-then-line-eq0 c = sym (empty-bad _ c.if-line-eq0.true)

pub returns-then-letter-eq71 : goal.returns-then-letter-eq71
returns-then-letter-eq71 c = sym (grow_alone _ c.if-line-eq1.true c.if-letter-eq71.true)

pub returns-then-line-eq1 : goal.returns-then-line-eq1
returns-then-line-eq1 c = sym (other-alone _ c.if-line-eq1.true c.if-letter-eq71.false)

pub returns-then-line-ne32 : goal.returns-then-line-ne32
returns-then-line-ne32 c = sym (second-bad _ (omega arith) c.if-line-ne32.true)

pub returns-then-letter-eq69 : goal.returns-then-letter-eq69
unfolding by_letter
returns-then-letter-eq69 c = c.enter.ensures ∙ sym (rw rest-is (lettered c.args.line.now (omega arith) c.if-line-ne32.false ∙ rw c.if-letter-eq69.true))

pub returns-in_default : goal.returns-in_default
returns-in_default c = sym (lettered c.args.line.now (omega arith) c.if-line-ne32.false ∙ wrong_number _ _ c.if-letter-eq69.false (sym (rw rest-is at c.read_natural.ensures) ∙ c.in_default.is))

pub returns-then-letter-eq76 : goal.returns-then-letter-eq76
unfolding by_letter number_with
returns-then-letter-eq76 c =
    sym
    (lettered c.args.line.now (omega arith) c.if-line-ne32.false
    ∙ rw c.if-letter-eq76.true
    (number-alone LookUp _ ∙ ap (number_with LookUp) (sym (rw rest-is at c.read_natural.ensures) ∙ c.in-Of.is)))

pub returns-then-letter-eq82 : goal.returns-then-letter-eq82
unfolding by_letter number_with
returns-then-letter-eq82 c =
    sym
    (lettered c.args.line.now (omega arith) c.if-line-ne32.false
    ∙ rw c.if-letter-eq82.true
    (number-alone Remove _ ∙ ap (number_with Remove) (sym (rw rest-is at c.read_natural.ensures) ∙ c.in-Of.is)))

pub returns : goal.returns
returns c = sym (lettered c.args.line.now (omega arith) c.if-line-ne32.false ∙ other-letter _ _ c.if-letter-eq69.false c.if-letter-eq76.false c.if-letter-eq82.false)
