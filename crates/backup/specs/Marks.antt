-- The marks of all pages that a growth may have altered, for a backup.
use Rattle.std.specs.Prelude.{◌≡◌, Bool, cond, ◌&&◌, List, ℕ, zero, suc, ◌-◌, ◌<◌, eqb, length, get_or}
use Rattle.hashing.specs.declared.Parameters.{Parameters}
use Rattle.hashing.specs.declared.Growth.{Growth}
use Rattle.hashing.specs.Geometry.{highest}
use Rattle.hashing.specs.Limits.{valid_parameters, valid_growth}
use Rattle.homes.specs.Indexed.{lanes}
use Rattle.placement.specs.File.{File}
use Rattle.backup.specs.Stretches.{may_change}
use Rattle.backup.specs.Local.{Pool, grow_of, Untouched, Grows}

-- a refusal's number, 0 for none, and the lent marks after the call
pub record Marking : Type 0 where
  pub refusal : ℕ
  pub marks : List ℕ

abbrev pub told : ℕ → List ℕ → Marking
told refusal marks = record { refusal = refusal; marks = marks }

-- As growth refuses: "a parameter, or (e, x)" is 1, "a buffer length" 2, "highest address is M−1" 8. All three lengths are M
unfoldable pub mark_refusal : Parameters → Growth → ℕ → ℕ → ℕ → ℕ
mark_refusal p g old new marks =
    cond (valid_parameters p && valid_growth p g)
    (cond (eqb old p.pages && (eqb new p.pages && eqb marks p.pages))
    (cond (eqb (highest p g) (p.pages - 1)) 8 0)
    2)
    1

-- 1 for a page that may have changed, 0 for another
abbrev pub mark : Bool → ℕ
mark t = cond t 1 0

unfoldable pub marks_of : Parameters → Growth → List ℕ → List ℕ → List ℕ
marks_of p g old new = lanes p.pages (λ (page : ℕ). mark (may_change p g old new page))

-- a refusal leaves the marks as found
abbrev pub marked_unless : ℕ → List ℕ → List ℕ → Marking
marked_unless zero found made = told 0 made
marked_unless (suc n) found made = told (suc n) found

unfoldable pub marking_of : Parameters → Growth → List ℕ → List ℕ → List ℕ → Marking
marking_of p g old new marks = marked_unless (mark_refusal p g (length old) (length new) (length marks)) marks (marks_of p g old new)

-- On a clean file, marks of the separators before and after an accepted growth are not refused, and a page without one is as it was
abbrev pub MarksTell : Type 0
MarksTell =
    (p : Parameters) (g : Growth) (f : File) (pool : Pool) → Grows p g f pool → (marks : List ℕ) → length marks ≡ p.pages
    → ((marking_of p g f.separators (grow_of p g f pool).file.separators marks).refusal ≡ 0)
    × ((page : ℕ) → page < p.pages → get_or (marking_of p g f.separators (grow_of p g f pool).file.separators marks).marks page 0 ≡ 0
    → Untouched p.places f (grow_of p g f pool).file page)
