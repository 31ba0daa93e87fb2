-- The marks and the theorem together.
use mathlib.Core.Path.{◌≡◌, refl, sym, ap, ◌∙◌}
use mathlib.Core.Bool.{Bool, true, false}
use mathlib.Core.List.{List}
use Prim.Native.Nat.{ℕ, ◌-◌, ◌<◌}
use native.Mathlib.Omega.{arith}
use lib.ListN.{length, get_or}
use borrow.Author.Tests.{eq-eqb, ne_eqb}
use Rattle.hashing.specs.declared.Parameters.{Parameters}
use Rattle.hashing.specs.declared.Growth.{Growth}
use Rattle.hashing.specs.Geometry.{page_count, highest}
use Rattle.hashing.proofs.Bounds.{limits, growth_within, spread}
use Rattle.homes.proofs.Lists.{lane}
use Rattle.placement.specs.File.{File}
use Rattle.backup.specs.Stretches.{may_change}
use Rattle.backup.specs.Local.{Pool, grow_of, Untouched, Grows}
use Rattle.backup.specs.Marks.{Marking, mark, mark_refusal, marks_of, marking_of, MarksTell}
use Rattle.backup.proofs.Accepted.{accepted-growth}
use Rattle.backup.proofs.Local.{growth_local, sized-after}
use Rattle.backup.proofs.Refusing.{accepted-marks}

unmarked : (t : Bool) → mark t ≡ 0 → t ≡ false
unmarked true e = absurd (omega arith)
unmarked false e = refl

module _ (p : Parameters) (g : Growth) (f : File) (pool : Pool) (grows : Grows p g f pool) (marks : List ℕ) (size : length marks ≡ p.pages) where
  abbrev after : List ℕ
  after = (grow_of p g f pool).file.separators

  none-met : mark_refusal p g (length f.separators) (length after) (length marks) ≡ 0
  unfolding mark_refusal highest
  none-met =
      let done = accepted-growth p g f pool grows.accepted in
      let low = (spread p g (limits p done.parameters) (growth_within p g done.growth)).pages_low in
      rw (
        done.parameters,
        done.growth,
        eq-eqb (length f.separators) p.pages done.sized.of_separators,
        eq-eqb (length after) p.pages (sized-after p g f pool grows),
        eq-eqb (length marks) p.pages size,
        ne_eqb (page_count p g - 1) (p.pages - 1) (λ e. omega (arith, done.more, low)),
      )

  marked : marking_of p g f.separators after marks ≡ record { refusal = 0; marks = marks_of p g f.separators after }
  marked = sym (accepted-marks p g f.separators after marks none-met)

  unmarked-same : (page : ℕ) → page < p.pages → get_or (marking_of p g f.separators after marks).marks page 0 ≡ 0 → Untouched p.places f (grow_of p g f pool).file page
  unfolding marks_of
  unmarked-same page inside e =
      growth_local p g f pool grows page inside
      (unmarked (may_change p g f.separators after page)
      (sym (lane p.pages (λ (q : ℕ). mark (may_change p g f.separators after q)) page inside)
      ∙ ap (λ (m : Marking). get_or m.marks page 0) (sym marked)
      ∙ e))

pub marks_tell : MarksTell
marks_tell p g f pool grows marks size = (ap (λ (m : Marking). m.refusal) (marked p g f pool grows marks size), unmarked-same p g f pool grows marks size)
