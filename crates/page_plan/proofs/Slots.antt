-- The sources of a page's slots, and a part of a list moved down to its front.
use mathlib.Core.Path.{◌≡◌, refl, sym, ap, ◌∙◌}
use mathlib.Core.Bool.{Bool, true, false, cond}
use mathlib.Core.List.{List, ◌++◌, map}
use Prim.Native.Nat.{ℕ, ◌+◌, ◌-◌, ◌≤◌, ◌<◌, zero-le}
use native.Mathlib.Nat.{zero-add, add_comm}
use native.Mathlib.Omega.{arith}
use lib.Dec.{leb}
use lib.ListN.{length, get_or, set, take, drop, length-drop, length-map, get_or-map, get_or-eq_default}
use lib.Seq.{slice, paste, get_or-take, get_or-drop, get_or-append-add, length-take-le, take_at}
use borrow.Author.Tests.{leb-true, leb-false}
use Rattle.buffers.specs.Lists.{padded}
use Rattle.std.proofs.lemmas.List.Edits.{take-paste}
use Rattle.buffers.proofs.Copies.{Copied, turn}
use Rattle.buffers.proofs.Lists.{drop-take, padded-item, length-padded}
pub use Rattle.buffers.proofs.Written.{all-written}
use Rattle.page_separator.specs.Words.{source_of}
use Rattle.page_plan.specs.Plans.{slot_source}

pub slot_item : (slots : List ℕ) (kept places i : ℕ) → kept ≤ length slots
    → slot_source slots kept i ≡ get_or (padded places (map source_of (take kept slots))) i 0
unfolding slot_source source_of
slot_item slots kept places i h = go (leb kept i) refl
  where
    page : List ℕ
    page = map source_of (take kept slots)

    size : length page ≡ kept
    size = length-map (take kept slots) source_of ∙ length-take-le kept slots h

    go : (t : Bool) → leb kept i ≡ t → cond t 0 (source_of (get_or slots i 0)) ≡ get_or (padded places page) i 0
    go true e =
        let past : length page ≤ i = omega (arith, size, leb-true kept i e) in
        sym (padded-item places page i ∙ get_or-eq_default page 0 past)
    go false e =
        let under : i < kept = leb-false kept i e in
        sym (padded-item places page i
        ∙ get_or-map source_of (take kept slots) i 0
        ∙ ap source_of (get_or-take kept slots i 0 under))

pub length-page : (slots : List ℕ) (kept places : ℕ) → kept ≤ length slots → kept ≤ places → length (padded places (map source_of (take kept slots))) ≡ places
length-page slots kept places h k =
    length-padded places (map source_of (take kept slots)) (rw (length-map (take kept slots) source_of, length-take-le kept slots h) k)

-- what a turn of moving down reads has not been written yet
unwritten : (W e : List ℕ) (from j : ℕ) → from + j < length W → Copied W 0 (drop from W) e j → get_or e (from + j) 0 ≡ get_or (drop from W) j 0
unwritten W e from j h c =
    let size : length (take j (drop from W)) ≡ j = length-take-le j (drop from W) (rw (length-drop from W) (omega arith)) in
    let there : from + j ≡ length (take j (drop from W)) + from = omega arith in
    ap (λ (l : List ℕ). get_or l (from + j) 0) c.is
    ∙ ap (λ (k : ℕ). get_or (take j (drop from W) ++ drop k W) (from + j) 0) (zero-add j)
    ∙ ap (λ (k : ℕ). get_or (take j (drop from W) ++ drop j W) k 0) there
    ∙ get_or-append-add (take j (drop from W)) (drop j W) from 0
    ∙ get_or-drop j W from 0
    ∙ ap (λ (k : ℕ). get_or W k 0) (add_comm j from)
    ∙ sym (get_or-drop from W j 0)

-- a turn of moving down
pub down : (W e : List ℕ) (from j : ℕ) → from + j < length W → Copied W 0 (drop from W) e j → Copied W 0 (drop from W) (set e j (get_or e (from + j) 0)) (j + 1)
down W e from j h c =
    rw (zero-add j) at
    (turn W 0 (drop from W) e j (get_or e (from + j) 0) (omega arith) (rw (length-drop from W) (omega arith)) (unwritten W e from j h c) c)

pub moved_down : (W e : List ℕ) (from end j : ℕ) → from ≤ end → end ≤ length W → j ≡ end - from → Copied W 0 (drop from W) e j → take j e ≡ slice from end W
moved_down W e from end j a b ej c =
    let size : length (take j (drop from W)) ≡ j = length-take-le j (drop from W) (rw (length-drop from W) (omega arith)) in
    ap (take j) c.is
    ∙ take_at (take j (drop from W)) (drop (0 + j) W) j size
    ∙ ap (λ (k : ℕ). take k (drop from W)) ej
    ∙ sym (drop-take from end W)

-- the same at once
pub closed_up : (W : List ℕ) (from end : ℕ) → from ≤ end → end ≤ length W
    → take (end - from) (paste W 0 (drop from W) (end - from)) ≡ slice from end W
closed_up W from end a b =
    let whole : take (0 + (end - from)) (paste W 0 (drop from W) (end - from)) ≡ take (end - from) (drop from W)
    = take-paste W 0 (drop from W) (end - from) zero-le (rw (length-drop from W) (omega arith)) in
    ap (λ (k : ℕ). take k (paste W 0 (drop from W) (end - from))) (sym (zero-add (end - from))) ∙ whole ∙ sym (drop-take from end W)
