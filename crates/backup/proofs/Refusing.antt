-- What the refusal number says of the marking.
use mathlib.Core.Path.{◌≡◌, refl}
use mathlib.Core.Bool.{Bool, true, false, cond, ◌&&◌}
use mathlib.Core.List.{List}
use Prim.Native.Nat.{ℕ, zero, suc, ◌-◌, ◌<◌}
use native.Mathlib.Omega.{arith}
use lib.Dec.{eqb}
use lib.ListN.{length}
use borrow.Author.Tests.{eqb-true}
use Rattle.hashing.specs.declared.Parameters.{Parameters}
use Rattle.hashing.specs.declared.Growth.{Growth}
use Rattle.hashing.specs.Geometry.{page_count, highest}
use Rattle.hashing.specs.Limits.{valid_parameters, valid_growth}
use Rattle.hashing.proofs.Bounds.{both}
use Rattle.backup.proofs.Ranges.{more-pages}
use Rattle.backup.specs.Marks.{told, mark_refusal, marks_of, marked_unless, marking_of}

pub record Markable (p : Parameters) (g : Growth) (old new marks : ℕ) : Type 0 where
  pub parameters : valid_parameters p ≡ true
  pub growth : valid_growth p g ≡ true
  pub more : page_count p g < p.pages
  pub of_old : old ≡ p.pages
  pub of_new : new ≡ p.pages
  pub of_marks : marks ≡ p.pages

past : (s t u : Bool) → ◌≡◌ {A = ℕ} (cond s (cond t (cond u 8 0) 2) 1) 0 → (s ≡ true) × (t ≡ true) × (u ≡ false)
past true true true e = absurd (omega arith)
past true true false e = (refl, refl, refl)
past true false u e = absurd (omega arith)
past false t u e = absurd (omega arith)

pub markable : (p : Parameters) (g : Growth) (old new marks : ℕ) → mark_refusal p g old new marks ≡ 0 → Markable p g old new marks
unfolding mark_refusal
markable p g old new marks e =
    let t = past (valid_parameters p && valid_growth p g) (eqb old p.pages && (eqb new p.pages && eqb marks p.pages)) (eqb (highest p g) (p.pages - 1)) e in
    let v = both (valid_parameters p) (valid_growth p g) t.0 in
    let l = both (eqb old p.pages) (eqb new p.pages && eqb marks p.pages) t.1 in
    let m = both (eqb new p.pages) (eqb marks p.pages) l.1 in
    record {
      parameters = v.0;
      growth = v.1;
      more = more-pages p g v.0 v.1 t.2;
      of_old = eqb-true old p.pages l.0;
      of_new = eqb-true new p.pages m.0;
      of_marks = eqb-true marks p.pages m.1;
    }

module _ (p : Parameters) (g : Growth) (old new marks : List ℕ) where
  pub refused-marks : (r : ℕ) → r ≡ mark_refusal p g (length old) (length new) (length marks) → (r ≡ 0 → ⊥) → told r marks ≡ marking_of p g old new marks
  unfolding marking_of
  refused-marks r e h = rw (← e) (go r h)
    where
      go : (n : ℕ) → (n ≡ 0 → ⊥) → told n marks ≡ marked_unless n marks (marks_of p g old new)
      go zero f = absurd (f refl)
      go (suc n) f = refl

  pub accepted-marks : mark_refusal p g (length old) (length new) (length marks) ≡ 0 → told 0 (marks_of p g old new) ≡ marking_of p g old new marks
  unfolding marking_of
  accepted-marks e = rw e
