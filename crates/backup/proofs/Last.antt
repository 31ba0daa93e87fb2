-- With nothing carried past the last page, its separator is top.
use mathlib.Core.Path.{◌≡◌, sym, ap, ◌∙◌}
use mathlib.Core.List.{List, []}
use Prim.Native.Nat.{ℕ, suc, ◌+◌}
use native.Mathlib.Nat.{zero-add, add-zero}
use native.Mathlib.Omega.{arith}
use lib.ListN.{get_or}
use Rattle.placement.specs.Rule.{Star, Hash, Contents, contents_of, pages, left, separators}
use Rattle.placement.proofs.Separator.{Bounded, stay_all}
use Rattle.placement.proofs.Composition.{left-add}
use Rattle.placement.proofs.Writing.{get_d_separators}
use Rattle.backup.proofs.Settled.{part_of}

pub last-top : (H : Hash) → Bounded H → (d : ℕ) (t : List Star) → left H 0 (suc d) t ≡ [] → get_or (separators (pages H 0 (suc d) t)) d 0 ≡ H.top
unfolding left pages contents_of
last-top H b d t e =
    get_d_separators (pages H 0 (suc d) t) d
    ∙ ap (λ (c : Contents). c.separator) (rw (add-zero d) at (part_of H (suc d) d 0 t (omega arith)))
    ∙ stay_all H b d (left H 0 d t) ((rw (zero-add d, one) at (sym (left-add H 0 d 1 t))) ∙ e)
  where
    one : d + 1 ≡ suc d
    one = omega arith
