-- The list taken in.
use mathlib.Core.Path.{◌≡◌, ◌∙◌}
use mathlib.Core.List.{List, [], ◌++◌}
use Prim.Native.Nat.{ℕ, ◌-◌, ◌≤◌}
use native.Mathlib.Omega.{arith}
use lib.ListN.{length, take, drop, replicate, length-append, length-replicate}
use lib.Seq.{length-take-le}
use Rattle.std.proofs.lemmas.List.{drop-replicate}
use Rattle.reports.specs.declared.Report.{Report}
use Rattle.reports.specs.Reports.{no_report}
use Rattle.tray_list.specs.Loading.{loaded}

pub length-loaded : (i : ℕ) (ys : List Report) → i ≤ length ys → i ≤ 256 → length (loaded (take i ys)) ≡ 256
unfolding loaded
length-loaded i ys h g =
    length-append (take i ys) (replicate (256 - length (take i ys)) no_report)
    ∙ rw (length-replicate (256 - length (take i ys)) no_report, length-take-le i ys h) (omega (arith, g))

-- the first reports before the zeros of a list without any
pub loaded_part : (i : ℕ) (ys : List Report) → i ≤ length ys → i ≤ 256 → take i ys ++ drop i (loaded []) ≡ loaded (take i ys)
unfolding loaded
loaded_part i ys h g = rw (drop-replicate i 256 no_report, length-take-le i ys h)
