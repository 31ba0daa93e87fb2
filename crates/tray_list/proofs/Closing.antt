-- The list closed up place by place.
use mathlib.Core.Path.{◌≡◌, refl, ◌∙◌}
use mathlib.Core.List.{List, [], ◌∷◌}
use Prim.Native.Nat.{ℕ, zero, suc, ◌+◌}
use native.Mathlib.Omega.{arith}
use lib.ListN.{length, get_or, length-append}
use Rattle.reports.specs.declared.Report.{Report}
use Rattle.reports.specs.Reports.{no_report}
use Rattle.tray_list.specs.Closing.{kept_or, places_after, closed_to}

pub length-places : (m n i : ℕ) (ys : List Report) → length (places_after m n i ys) ≡ i
unfolding places_after
length-places m n zero ys = refl
length-places m n (suc i) ys = length-append (places_after m n i ys) (kept_or i n (get_or ys (m + i) no_report) ∷ []) ∙ rw (length-places m n i ys) (omega arith)

pub closed_none : (m n : ℕ) (ys : List Report) → ys ≡ closed_to m n 0 ys
unfolding closed_to places_after
closed_none m n ys = refl
