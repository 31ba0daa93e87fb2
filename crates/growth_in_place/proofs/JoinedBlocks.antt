-- The rule over sound pages, block after block: it carries nothing past a block, whose stars wait for none before it.
use mathlib.Core.Path.{◌≡◌, refl, sym, ap, ◌∙◌}
use mathlib.Core.Bool.{Bool, true}
use mathlib.Core.List.{List, [], ◌++◌, Memᴰ}
use Prim.Native.Nat.{ℕ, zero, suc, ◌+◌, ◌≤◌}
use native.Mathlib.Nat.{zero-add}
use native.Mathlib.Omega.{arith}
use lib.ListN.{get_or}
use borrow.Author.Tests.{le-ltb}
use Rattle.placement.specs.Rule.{Star, Hash, filter, pages, left, first, pour}
use Rattle.placement.specs.File.{File, gathered}
use Rattle.placement.specs.Shape.{Sized}
use Rattle.placement.proofs.Filters.{filter-all, filter-none-on}
use Rattle.placement.proofs.Separator.{Bounded}
use Rattle.placement.proofs.Irrelevance.{near}
use Rattle.placement.proofs.Order.{Absent, pour-nil, pour-comm}
use Rattle.placement.proofs.Locality.{blocks-pages}
use Rattle.placement.proofs.Sound.{AllSound, sorted-gathered, gathered-add, gathered-first, gathered-above, sound-fits}

-- page lo is the first one, or the page before it has the separator 2^k − 1
abbrev pub Starts : Hash → File → ℕ → Type 0
Starts H f lo = (e : ℕ) → suc e ≡ lo → get_or f.separators e 0 ≡ H.top

-- the rule carries nothing past sound pages
pub nothing_left : (ok : ℕ → Bool) (H : Hash) (f : File) (M lo n : ℕ) → Sized H.room M f → lo + n ≤ M → AllSound ok H f lo n → left H lo n (gathered H.room f lo n) ≡ []
nothing_left ok H f M lo n sized h sound =
    ap (left H lo n) (sym (filter-all (λ (s : Star). true) (λ s. refl) (gathered H.room f lo n)))
    ∙ sound-fits ok H f M lo n (λ (s : Star). true) sized h sound

module _ (ok : ℕ → Bool) (H : Hash) (f : File) (M : ℕ) (sized : Sized H.room M f) (sound : AllSound ok H f 0 M) where
  part_sound : (lo n : ℕ) → lo + n ≤ M → AllSound ok H f lo n
  part_sound lo n h q a b = sound q (omega arith) (omega arith)

  -- no star of a block is homed below it
  homed-from : Bounded H → (lo n : ℕ) → Starts H f lo → lo + n ≤ M → filter (near H lo) (gathered H.room f lo n) ≡ []
  homed-from b zero n starts h = filter-none-on (near H 0) (gathered H.room f 0 n) (λ s m. le-ltb (H.home s.number) 0 (omega arith))
  homed-from b (suc e) n starts h = gathered-above ok H f b e n (omega (arith, sized.of_separators)) (starts e refl) (part_sound (suc e) n h)

  -- the stars of the block poured upon those below it
  poured-last : (lo n : ℕ) → lo + n ≤ M → gathered H.room f 0 (lo + n) ≡ pour (gathered H.room f lo n) (gathered H.room f 0 lo)
  poured-last lo n h =
      rw (zero-add lo) at (gathered-add H.room f 0 lo n)
      ∙ ap (pour P) (sym (pour-nil 0 Q (sorted-gathered H.room f lo n)))
      ∙ pour-comm P Q [] apart
      ∙ ap (pour Q) (pour-nil 0 P (sorted-gathered H.room f 0 lo))
    where
      P : List Star
      P = gathered H.room f 0 lo

      Q : List Star
      Q = gathered H.room f lo n

      apart : (y : Star) → Memᴰ y Q → Absent y.number P
      apart y my t mt e =
          omega (
            arith,
            (gathered-first ok H f lo n (part_sound lo n h) y my).0,
            (gathered-first ok H f 0 lo (part_sound 0 lo (omega arith)) t mt).1,
            ap (first H 0 f.separators) e,
          )

  pub pages-joined : Bounded H → (lo n : ℕ) → Starts H f lo → lo + n ≤ M
      → pages H 0 (lo + n) (gathered H.room f 0 (lo + n)) ≡ pages H 0 lo (gathered H.room f 0 lo) ++ pages H lo n (gathered H.room f lo n)
  pages-joined b lo n starts h =
      let P : List Star = gathered H.room f 0 lo in
      let Q : List Star = gathered H.room f lo n in
      ap (pages H 0 (lo + n)) (poured-last lo n h)
      ∙ blocks-pages H 0 lo n Q P (sorted-gathered H.room f 0 lo) (rw (zero-add lo) (homed-from b lo n starts h))
      ∙ rw (zero-add lo, nothing_left ok H f M 0 lo sized (omega arith) (part_sound 0 lo (omega arith)), pour-nil 0 Q (sorted-gathered H.room f lo n))
