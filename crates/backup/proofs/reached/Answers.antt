-- `backup::reached` meets its contract.
use mathlib.Core.Path.{◌≡◌, sym, ◌∙◌}
use mathlib.Core.Bool.{true}
use Prim.Native.Nat.{ℕ, ◌+◌, ◌≤◌}
use native.Mathlib.Omega.{arith}
use borrow.Author.Tests.{eq-eqb, ne_eqb}
use Rattle.hashing.specs.Geometry.{page_count, highest}
use Rattle.hashing.specs.Limits.{valid_parameters, valid_growth}
use Rattle.hashing.specs.declared.Growth.{Growth}
use Rattle.hashing.specs.declared.Parameters.{Parameters}
use Rattle.hashing.proofs.Bounds.{limits, growth_within, spread}
use Rattle.backup.proofs.reached.Goals as goal
use Rattle.backup.proofs.reached.Goals.{then-expands, else-expands}

-- the page past the highest address is the new one
address : (p : Parameters) (g : Growth) (r : ℕ) → valid_parameters p ≡ true → valid_growth p g ≡ true → r ≡ highest p g → (r + 1 ≡ page_count p g) × (page_count p g ≤ 1024)
unfolding highest
address p g r v u e =
    let l = limits p v in
    let w = growth_within p g u in
    (omega (arith, e, (spread p g l w).pages_low), omega (arith, l.pages_most, w.pages_fit))

pub overflow_add-highest_address : goal.overflow_add-highest_address
overflow_add-highest_address c =
    omega (arith, address c.args.geometry.parameters c.args.geometry.growth _ c.requires.parameters_value c.requires.growth_value c.highest_address.ensures)

pub returns-then-page-highest_address : goal.returns-then-page-highest_address
returns-then-page-highest_address c =
    let new = (address c.args.geometry.parameters c.args.geometry.growth _ c.requires.parameters_value c.requires.growth_value c.highest_address.ensures).0 in (
      elim c.if-expands.branch [
        | then-expands w ↦ rw (w.result-is, ← c.expands.ensures, w.if-expands.true)
        | else-expands w ↦ rw (w.result-is, ← c.expands.ensures, w.if-expands.false)
      ],
      rw (eq-eqb _ _ c.if-page-highest_address.true, eq-eqb _ _ (c.if-page-highest_address.true ∙ new)),
    )

pub returns-else-page-highest_address : goal.returns-else-page-highest_address
returns-else-page-highest_address c =
    let new = (address c.args.geometry.parameters c.args.geometry.growth _ c.requires.parameters_value c.requires.growth_value c.highest_address.ensures).0 in (
      elim c.if-expands.branch [
        | then-expands w ↦ rw (w.result-is, ← c.expands.ensures, w.if-expands.true)
        | else-expands w ↦ rw (w.result-is, ← c.expands.ensures, w.if-expands.false)
      ],
      rw (ne_eqb c.args.page _ (λ e. c.if-page-highest_address.false (e ∙ sym new))),
    )
