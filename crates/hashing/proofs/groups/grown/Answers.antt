-- `hashing::grown` meets its contract.
use mathlib.Core.Path.{◌∙◌, sym}
use native.Mathlib.Omega.{arith}
use borrow.Author.Rules.{rules}
use borrow.Author.Tests.{eq-eqb, ne_eqb}
use Rattle.hashing.specs.Geometry.{grown, grown_by_lem}
use Rattle.hashing.proofs.Bounds.{Spread, limits, growth_within, spread}
use Rattle.hashing.proofs.groups.grown.Goals as goal
use Rattle.hashing.proofs.groups.grown.Goals.{Start}

state : (c : Start) → Spread c.args.geometry.parameters c.args.geometry.growth
state c = spread _ _ (limits _ c.requires.parameters_value) (growth_within _ _ c.requires.growth_value)

pub overflow_add-next : goal.overflow_add-next
overflow_add-next c = let start = c.before.before in omega (arith, state start, (growth_within _ _ start.requires.growth_value).expanded_below)

pub overflow_add-result : goal.overflow_add-result
overflow_add-result c = let start = c.before.before.before.before in omega (arith, state start)

pub returns-then-next-count : goal.returns-then-next-count
unfolding grown grown_by_lem
returns-then-next-count c = rw (eq-eqb _ _ (c.if-next-count.true ∙ c.group_count-count.ensures))

pub returns : goal.returns
unfolding grown grown_by_lem
returns c = rw (ne_eqb _ _ (λ e. c.if-next-count.false (e ∙ sym c.group_count-count.ensures)))
