-- A list that the rule places wholly: its last separator is the top, so a page is named for every number.
use mathlib.Core.Path.{◌≡◌, sym, ap, ◌∙◌}
use mathlib.Core.Bool.{true, false, true≢false}
use mathlib.Core.List.{List, []}
use Prim.Native.Nat.{ℕ, zero, suc, ◌<◌}
use native.Mathlib.Nat.{zero-add}
use native.Mathlib.Decide.{dec_lt}
use native.Mathlib.Omega.{arith}
use lib.ListN.{length, get_or}
use borrow.Author.Tests.{le-leb}
use Rattle.placement.specs.Rule.{Star, Hash, below, contents_of, onward, pages, left, first, separators}
use Rattle.placement.proofs.Separator.{Bounded, below_top, stay_all}
use Rattle.placement.proofs.Composition.{length-pages}
use Rattle.placement.proofs.Standing.{length-separators, first-before}

pub last-top : (H : Hash) → Bounded H → (p n : ℕ) (w : List Star) → left H p (suc n) w ≡ [] → get_or (separators (pages H p (suc n) w)) n 0 ≡ H.top
unfolding left pages separators contents_of
last-top H b p zero w e = stay_all H b p w e
last-top H b p (suc n) w e = last-top H b (suc p) n (onward H p w) e

-- So every number whose home is one of the pages has a page named.
pub page-named : (H : Hash) → Bounded H → (M : ℕ) (w : List Star) (k : ℕ) → left H 0 M w ≡ [] → H.home k < M → first H 0 (separators (pages H 0 M w)) k < M
page-named H b zero w k e h = absurd (omega arith)
page-named H b (suc n) w k e h = go (dec_lt (first H 0 vs k) (suc n))
  where
    vs : List ℕ
    vs = separators (pages H 0 (suc n) w)

    size : length vs ≡ suc n
    size = length-separators (pages H 0 (suc n) w) ∙ length-pages H 0 (suc n) w

    go : Dec (first H 0 vs k < suc n) → first H 0 vs k < suc n
    go (yes d) = d
    go (no d) =
        let past : below H n (get_or vs n 0) k ≡ false = rw (zero-add n) at (first-before H 0 n vs k (omega (arith, size)) (omega (arith, zero-add n))) in
        let here : below H n (get_or vs n 0) k ≡ true = ap (λ (v : ℕ). below H n v k) (last-top H b 0 n w e) ∙ below_top H b n k ∙ le-leb (H.home k) n (omega arith) in
        absurd (true≢false (sym here ∙ past))
