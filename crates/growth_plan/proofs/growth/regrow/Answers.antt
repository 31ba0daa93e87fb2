-- `growth_plan::growth::regrow` meets its contract.
use mathlib.Core.Path.{◌≡◌, sym, subst}
use mathlib.Core.Bool.{Bool, true, false}
use Prim.Native.Nat.{ℕ}
use Rattle.hashing.specs.declared.Parameters.{Parameters}
use Rattle.hashing.specs.declared.Growth.{Growth}
use Rattle.placement.specs.File.{File}
use Rattle.page_plan.specs.declared.outcome.Outcome.{Outcome}
use Rattle.growth_plan.specs.Growth.{state_after, Movable, growth_answer, growth_file}
use Rattle.growth_plan.proofs.growth.regrow.Goals as goal

-- either way
movable : (b back : Bool) (p : Parameters) (g : Growth) → back ≡ b → Movable back p g → Movable b p g
movable b back p g e m = subst (λ (x : Bool). Movable x p g) e m

regrown : (b back : Bool) (p : Parameters) (g : Growth) (f f' : File) (r : Outcome) (page : ℕ) → back ≡ b
    → (r ≡ growth_answer p g f (state_after b p g) page) × (f' ≡ growth_file p g f (state_after b p g))
    → (r ≡ growth_answer p g f (state_after back p g) page) × (f' ≡ growth_file p g f (state_after back p g))
regrown b back p g f f' r page e d = subst (λ (x : Bool). (r ≡ growth_answer p g f (state_after x p g) page) × (f' ≡ growth_file p g f (state_after x p g))) (sym e) d

pub shrink-requires : goal.shrink-requires
shrink-requires c =
    record {
      ready = c.requires.ready;
      pooled = c.requires.pooled;
      movable = movable true _ _ _ c.if-back.true c.requires.movable;
    }

pub returns-then-back : goal.returns-then-back
returns-then-back c = record {
  value = (regrown true _ _ _ _ _ _ _ c.if-back.true (c.shrink.ensures.value, c.shrink.ensures.owners_value)).0;
  owners_value = (regrown true _ _ _ _ _ _ _ c.if-back.true (c.shrink.ensures.value, c.shrink.ensures.owners_value)).1;
}

pub grow-requires : goal.grow-requires
grow-requires c =
    record {
      ready = c.requires.ready;
      pooled = c.requires.pooled;
      movable = movable false _ _ _ c.if-back.false c.requires.movable;
    }

pub returns : goal.returns
returns c = record {
  value = (regrown false _ _ _ _ _ _ _ c.if-back.false (c.grow.ensures.value, c.grow.ensures.owners_value)).0;
  owners_value = (regrown false _ _ _ _ _ _ _ c.if-back.false (c.grow.ensures.value, c.grow.ensures.owners_value)).1;
}
