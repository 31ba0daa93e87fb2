-- The words of another file's stars, as their keys give them.
use mathlib.Core.Path.{◌≡◌, refl}
use mathlib.Core.Bool.{Bool, true, false, cond}
use mathlib.Core.List.{List, [], ◌∷◌, map}
use Prim.Native.Nat.{ℕ, suc, ◌+◌, ◌*◌, ◌/◌, ◌%◌, ◌^◌, ◌<◌}
use native.Mathlib.Nat.{add-zero, add-suc, suc-add}
use native.Mathlib.Omega.{arith}
use lib.Dec.{ltb}
use lib.ListN.{length, get_or}
use borrow.Author.Tests.{ltb-true, lt-ltb}
use Rattle.page_separator.specs.Lists.{all, all_below}
use Rattle.page_separator.specs.Words.{pack}
use Rattle.page_separator.proofs.Lists.{all_head, all_tail, all_cons}
use Rattle.page_plan.specs.Gather.{skipped, words_from}
use Rattle.page_plan.specs.Keys.{star_key_lem}
use Rattle.page_plan.specs.Sources.{named_item, star_word}
use Rattle.carrying.specs.Keys.{item_keys}

-- a source names the item before it
pub named-own : (l : List ℕ) (i : ℕ) → named_item l 0 (suc i) ≡ get_or l i 0
unfolding named_item
named-own l i = refl

pub star-word : (l : List ℕ) (h n s : ℕ) → s < 2 ^ 16 → named_item l 0 s ≡ n → star_word l (star_key_lem h s) ≡ pack h n s
unfolding star_word star_key_lem
star-word l h n s small e =
    let home : (h * 2 ^ 16 + s) / 2 ^ 16 ≡ h = omega arith in
    let source : (h * 2 ^ 16 + s) % 2 ^ 16 ≡ s = omega arith in
    rw (home, source, e)

pub keys_words : (l : List ℕ) (at : ℕ) (ns hs : List ℕ) → at + length ns < 2 ^ 16 → ((i : ℕ) → i < length ns → named_item l 0 (suc (at + i)) ≡ get_or ns i 0)
    → map (star_word l) (item_keys at ns hs) ≡ words_from at 0 ns hs
unfolding item_keys words_from
keys_words l at [] hs few named = refl
keys_words l at (n ∷ ns) [] few named = refl
keys_words l at (n ∷ ns) (h ∷ hs) few named =
    go (skipped 0 n)
    (keys_words l (suc at) ns hs (omega arith) (λ i a. rw (suc-add at i, ← add-suc at i) (named (suc i) (omega arith))))
    (star-word l h n (suc at) (omega arith) (rw (add-zero at) at (named 0 (omega arith))))
  where
    go : (t : Bool) → map (star_word l) (item_keys (suc at) ns hs) ≡ words_from (suc at) 0 ns hs → star_word l (star_key_lem h (suc at)) ≡ pack h n (suc at)
        → map (star_word l) (cond t (item_keys (suc at) ns hs) (star_key_lem h (suc at) ∷ item_keys (suc at) ns hs))
        ≡ cond t (words_from (suc at) 0 ns hs) (pack h n (suc at) ∷ words_from (suc at) 0 ns hs)
    go true ih e = ih
    go false ih e = rw (e, ih)

pub keys_below : (M at : ℕ) (ns hs : List ℕ) → at + length ns < 2 ^ 16 → all_below M hs ≡ true → all_below (M * 2 ^ 16) (item_keys at ns hs) ≡ true
unfolding item_keys star_key_lem
keys_below M at [] hs few e = unfold all in refl
keys_below M at (n ∷ ns) [] few e = unfold all in refl
keys_below M at (n ∷ ns) (h ∷ hs) few e =
    go (skipped 0 n) (keys_below M (suc at) ns hs (omega arith) (all_tail (λ x. ltb x M) h hs e)) (ltb-true h M (all_head (λ x. ltb x M) h hs e))
  where
    go : (t : Bool) → all_below (M * 2 ^ 16) (item_keys (suc at) ns hs) ≡ true → h < M
        → all_below (M * 2 ^ 16) (cond t (item_keys (suc at) ns hs) ((h * 2 ^ 16 + suc at) ∷ item_keys (suc at) ns hs)) ≡ true
    go true ih low = ih
    go false ih low =
        all_cons (λ x. ltb x (M * 2 ^ 16)) (h * 2 ^ 16 + suc at) (item_keys (suc at) ns hs) (lt-ltb (h * 2 ^ 16 + suc at) (M * 2 ^ 16) (omega arith)) ih
