-- The filter made anew, report by report.
use mathlib.Core.Path.{◌≡◌, sym, ◌∙◌}
use mathlib.Core.List.{List, [], ◌∷◌, ◌++◌}
use Prim.Native.Nat.{ℕ, ◌+◌, ◌-◌, ◌≤◌, ◌<◌}
use native.Mathlib.Numerals.{add-one}
use native.Mathlib.Omega.{arith}
use lib.ListN.{length, take, drop, get_or, replicate}
use lib.Seq.{take-suc}
use Rattle.std.proofs.lemmas.List.{drop-take}
use Rattle.reports.specs.Bits.{no_bits, marked}
use Rattle.reports.specs.declared.Report.{Report}
use Rattle.reports.specs.Reports.{no_report, marked_all, filter_of}
use Rattle.reports.proofs.Marks.{marked-last}

pub none-marked : (a : ℕ) (f₀ f : List ℕ) → length f₀ ≡ 32 → f ≡ replicate (length f₀) 0 → f ≡ filter_of a []
unfolding filter_of marked_all no_bits
none-marked a f₀ f size e = e ∙ rw size

pub one-marked : (a i : ℕ) (xs : List Report) (f g : List ℕ) → i < length xs → f ≡ filter_of a (take i xs) → g ≡ marked a f (get_or xs i no_report).number
    → g ≡ filter_of a (take (i + 1) xs)
unfolding filter_of
one-marked a i xs f g lt e m = rw (add-one, take-suc xs i no_report lt, marked-last, ← e) m

-- the reports from one place to another
pub between : (from count : ℕ) (xs : List Report) → from ≤ count → take (count - from) (drop from xs) ≡ drop from (take count xs)
between from count xs le =
    let whole : from + (count - from) ≡ count = omega arith in
    sym (rw whole at (drop-take from (count - from) xs))
