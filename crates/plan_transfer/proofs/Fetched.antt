-- What the sources of a part name, item by item, and the part written through the pool.
use mathlib.Core.Path.{◌≡◌, refl, sym, ap, ◌∙◌}
use mathlib.Core.List.{List, map}
use Prim.Native.Nat.{ℕ, zero, suc, ◌+◌, ◌-◌, ◌*◌, ◌≤◌, ◌<◌}
use native.Mathlib.Nat.{add-mul}
use native.Mathlib.Omega.{arith}
use lib.ListN.{length, get_or, set, take, drop, length-drop, length-map, get_or-map, get_or-eq_default}
use lib.Seq.{paste, drop-paste, get_or-drop}
use Rattle.buffers.specs.Lists.{written}
use Rattle.buffers.proofs.Lists.{map-take, within}
use Rattle.buffers.proofs.Copies.{Copied, turn}
use Rattle.buffers.proofs.Written.{paste_written, through}
use Rattle.pages.specs.Shape.{stretch}
use Rattle.plan_transfer.specs.Sources.{named_item}

suc_sub : (i : ℕ) → suc i - 1 ≡ i
suc_sub i = omega arith

-- what a source names, item by item
named-item : (l : List ℕ) (new at j : ℕ) (s : List ℕ) → named_item l new (get_or s (at + j) 0) ≡ get_or (map (named_item l new) (drop at s)) j 0
unfolding named_item
named-item l new at j s = rw (← get_or-drop at s j 0) (sym (get_or-map (named_item l new) (drop at s) j 0))

pub left-named : (l : List ℕ) (new at n j : ℕ) (s : List ℕ) → at + n ≤ length s → j < n → j < length (map (named_item l new) (drop at s))
left-named l new at n j s h k = rw (length-map (drop at s) (named_item l new)) (rw (length-drop at s) (omega arith))

-- one item more of d fetched by the sources of s
pub fetched-next : (l : List ℕ) (new at n j : ℕ) (s d e : List ℕ) (x source : ℕ) → at + n ≤ length s → at + n ≤ length d → j < n → source ≡ get_or s (at + j) 0
    → x ≡ named_item l new source → Copied d at (map (named_item l new) (drop at s)) e j → Copied d at (map (named_item l new) (drop at s)) (set e (at + j) x) (j + 1)
fetched-next l new at n j s d e x source hs hd k from named c =
    turn d at (map (named_item l new) (drop at s)) e j x (omega arith) (left-named l new at n j s hs k)
    (named ∙ ap (λ (y : ℕ). named_item l new y) from ∙ named-item l new at j s) c

-- what a source names, by its three cases
pub named_none : (l : List ℕ) (new source : ℕ) → source ≡ 0 → 0 ≡ named_item l new source
unfolding named_item
named_none l new source e = rw e

pub named-item-of : (l : List ℕ) (new source : ℕ) → (source ≡ 0 → ⊥) → source - 1 < length l → get_or l (source - 1) 0 ≡ named_item l new source
unfolding named_item
named-item-of l new zero e h = absurd (e refl)
named-item-of l new (suc i) e h = rw (suc_sub i) (sym (within l new i (rw (suc_sub i) at h)))

pub named_new : (l : List ℕ) (new source : ℕ) → (source ≡ 0 → ⊥) → length l ≤ source - 1 → new ≡ named_item l new source
unfolding named_item
named_new l new zero e h = absurd (e refl)
named_new l new (suc i) e h = sym (get_or-eq_default l new (rw (suc_sub i) at h))

-- d's part becomes what the sources of s's part name, by way of e's part
pub fetched-back : (d e l s : List ℕ) (new at n : ℕ) → at + n ≤ length e → at + n ≤ length s
    → paste d at (drop at (paste e at (map (named_item l new) (drop at s)) n)) n ≡ written at (map (named_item l new) (take n (drop at s))) d
fetched-back d e l s new at n he hs =
    through d e at n (map (named_item l new) (drop at s)) (omega arith) (rw (length-map (drop at s) (named_item l new), length-drop at s) (omega arith))
    ∙ ap (λ (m : List ℕ). written at m d) (map-take (named_item l new) n (drop at s))

-- d's stretch stored from p, which e became when what the sources of s's stretch name was fetched
pub fetched-stored : (d e l s p : List ℕ) (new b lo n : ℕ) → (lo + n) * b ≤ length e → (lo + n) * b ≤ length s → (lo + n) * b ≤ length p
    → p ≡ paste e (lo * b) (map (named_item l new) (drop (lo * b) s)) (n * b)
    → written (lo * b) (stretch b lo n p) d ≡ written (lo * b) (map (named_item l new) (stretch b lo n s)) d
fetched-stored d e l s p new b lo n he hs hp is =
    sym (paste_written d (lo * b) (drop (lo * b) p) (n * b) (rw (length-drop (lo * b) p) (omega (arith, add-mul lo n b))))
    ∙ ap (λ (q : List ℕ). paste d (lo * b) (drop (lo * b) q) (n * b)) is
    ∙ fetched-back d e l s new (lo * b) (n * b) (omega (arith, add-mul lo n b)) (omega (arith, add-mul lo n b))

-- the items of s behind the stretch stay where its own are fetched
pub fetched-behind : (l s : List ℕ) (new b lo n : ℕ) → (lo + n) * b ≤ length s
    → drop ((lo + n) * b) (paste s (lo * b) (map (named_item l new) (drop (lo * b) s)) (n * b)) ≡ drop ((lo + n) * b) s
fetched-behind l s new b lo n h =
    let x : List ℕ = map (named_item l new) (drop (lo * b) s) in
    let inside : lo * b + n * b ≤ length s = rw (← add-mul lo n b) h in
    let some : n * b ≤ length x = rw (length-map (drop (lo * b) s) (named_item l new), length-drop (lo * b) s) (omega arith) in
    rw (add-mul lo n b) (drop-paste s (lo * b) x (n * b) (omega arith) some)
