use mathlib.Core.Path.{sym, ◌∙◌}
use Prim.Native.Nat.{◌-◌}
use native.Mathlib.Omega.{arith}
use lib.ListN.{get_or}
use borrow.Author.Rules.{rules}
use borrow.Author.Tests.{eq-eqb, ne_eqb}
use Rattle.generator.specs.Generator.{top_of_lem}
use Rattle.hashing.proofs.Bounds.{limits}
use Rattle.pages.proofs.Parts.{part-item}
use Rattle.page_edit.specs.Shift.{takes_alone_lem}
use Rattle.page_edit.proofs.room.takes_alone.Goals as goal

pub returns-then-separators-page : goal.returns-then-separators-page
unfolding takes_alone_lem
returns-then-separators-page c =
    let s = c.before.before.before.before.before.before.before in
    rw (ne_eqb (get_or s.args.separators.now s.args.page 0) (top_of_lem s.args.parameters.bits) (λ e. c.if-separators-page.true (e ∙ sym c.top_of.ensures)))

pub overflow_sub-last : goal.overflow_sub-last
overflow_sub-last c = omega (arith, (limits _ c.requires.parameters_value).places_least)

pub bounds-numbers-page : goal.bounds-numbers-page
bounds-numbers-page c = omega (arith, c.requires.places_in_bounds, (limits _ c.requires.parameters_value).places_least)

pub returns : goal.returns
unfolding takes_alone_lem
returns c =
    let s = c.before.before.before.before.before.before.before.before in
    let places = s.args.parameters.places in
    rw (
      eq-eqb (get_or s.args.separators.now s.args.page 0) (top_of_lem s.args.parameters.bits) (c.if-separators-page.false ∙ c.top_of.ensures),
      part-item places s.args.page s.args.numbers.now (places - 1) (omega (arith, (limits _ s.requires.parameters_value).places_least)),
    )
