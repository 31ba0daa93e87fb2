-- The stars of a page's items appended as words, item after item.
use mathlib.Core.Path.{◌≡◌, refl, sym, ap, ◌∙◌}
use mathlib.Core.Bool.{Bool, true, false, cond}
use mathlib.Core.List.{List, [], ◌∷◌, ◌++◌, map, append-nil}
use Prim.Native.Nat.{ℕ, zero, suc, ◌+◌, ◌^◌, ◌≤◌, ◌<◌}
use native.Mathlib.Nat.{add-zero}
use native.Mathlib.Numerals.{add-one}
use native.Mathlib.Omega.{arith}
use lib.Dec.{ltb, eqb}
use lib.ListN.{length, get_or, take, set, length-append, length-set}
use lib.Seq.{slice, slice-cons, slice_empty, take-suc-set, append_snoc, length-take-le}
use borrow.Author.Tests.{eq-eqb, ne_eqb, ltb-true}
use Rattle.page_separator.specs.Lists.{all_below}
use Rattle.page_separator.specs.Words.{pack, low_of}
use Rattle.page_plan.specs.Gather.{skipped, words_from, stars_in}
use Rattle.page_separator.proofs.Lists.{all_head, all_tail, slice_all}
use Rattle.page_plan.proofs.Items.{stars-next}
use Rattle.page_separator.proofs.Packing.{low-pack}

unskipped : (n : ℕ) (t : Bool) → eqb n 0 ≡ t → skipped 0 n ≡ t
unfolding skipped
unskipped n true e = rw e
unskipped n false e = rw e

-- no more stars than items, and fewer where an item is empty
pub stars-most : (ns : List ℕ) → stars_in 0 ns ≤ length ns
unfolding stars_in
stars-most [] = omega arith
stars-most (n ∷ ns) = go (skipped 0 n) (stars-most ns)
  where
    go : (t : Bool) → stars_in 0 ns ≤ length ns → cond t (stars_in 0 ns) (suc (stars_in 0 ns)) ≤ suc (length ns)
    go true ih = omega arith
    go false ih = omega arith

pub stars-fewer : (ns : List ℕ) (i : ℕ) → i < length ns → get_or ns i 0 ≡ 0 → stars_in 0 ns < length ns
unfolding stars_in
stars-fewer [] i h e = absurd (omega arith)
stars-fewer (n ∷ ns) zero h e = rw (unskipped n true (eq-eqb n 0 e)) (omega (arith, stars-most ns))
stars-fewer (n ∷ ns) (suc i) h e = go (skipped 0 n) (stars-fewer ns i (omega arith) e)
  where
    go : (t : Bool) → stars_in 0 ns < length ns → cond t (stars_in 0 ns) (suc (stars_in 0 ns)) < suc (length ns)
    go true ih = omega arith
    go false ih = omega arith

-- the low parts do not depend on the homes
pub words-low : (at : ℕ) (ns hs gs : List ℕ) → all_below (2 ^ 31) ns ≡ true → at + length ns < 2 ^ 16 → length ns ≤ length hs → length ns ≤ length gs
    → map low_of (words_from at 0 ns hs) ≡ map low_of (words_from at 0 ns gs)
unfolding words_from
words-low at [] hs gs v h a b = refl
words-low at (n ∷ ns) [] gs v h a b = absurd (omega arith)
words-low at (n ∷ ns) (x ∷ hs) [] v h a b = absurd (omega arith)
words-low at (n ∷ ns) (x ∷ hs) (y ∷ gs) v h a b =
    go (skipped 0 n) (words-low (suc at) ns hs gs (all_tail (λ z. ltb z (2 ^ 31)) n ns v) (omega arith) (omega arith) (omega arith))
  where
    small : n < 2 ^ 31
    small = ltb-true n (2 ^ 31) (all_head (λ z. ltb z (2 ^ 31)) n ns v)

    go : (t : Bool) → map low_of (words_from (suc at) 0 ns hs) ≡ map low_of (words_from (suc at) 0 ns gs)
        → map low_of (cond t (words_from (suc at) 0 ns hs) (pack x n (suc at) ∷ words_from (suc at) 0 ns hs))
        ≡ map low_of (cond t (words_from (suc at) 0 ns gs) (pack y n (suc at) ∷ words_from (suc at) 0 ns gs))
    go true ih = ih
    go false ih = rw (low-pack x n (suc at) small (omega arith), low-pack y n (suc at) small (omega arith), ih)

-- the words of the items from i on
abbrev pub words_past : ℕ → ℕ → ℕ → List ℕ → List ℕ → List ℕ
words_past places at i ns hs = words_from (at + i) 0 (slice i places ns) (slice i places hs)

-- the items before i are appended
pub record Appended (places at : ℕ) (ns hs W₀ : List ℕ) (end : ℕ) (W : List ℕ) (reach i : ℕ) : Type 0 where
  pub upto : i ≤ places
  pub long : length W ≡ length W₀
  pub room : reach + stars_in 0 (slice i places ns) ≤ length W
  pub words : take reach W ++ words_past places at i ns hs ≡ take end W₀ ++ words_from at 0 (take places ns) (take places hs)

pub appended_none : (places at : ℕ) (ns hs W : List ℕ) (end : ℕ) → end + stars_in 0 (take places ns) ≤ length W → Appended places at ns hs W end W end 0
appended_none places at ns hs W end h =
    record { upto = omega arith; long = refl; room = h; words = ap (λ (k : ℕ). take end W ++ words_from k 0 (take places ns) (take places hs)) (add-zero at) }

module _ (places at : ℕ) (ns hs W₀ : List ℕ) (end : ℕ) (W : List ℕ) (reach i : ℕ) (A : Appended places at ns hs W₀ end W reach i)
    (ln : places ≤ length ns) (lh : places ≤ length hs) where
  words-at : i < places → words_past places at i ns hs
      ≡ cond (skipped 0 (get_or ns i 0)) (words_past places at (i + 1) ns hs) (pack (get_or hs i 0) (get_or ns i 0) (at + (i + 1)) ∷ words_past places at (i + 1) ns hs)
  unfolding words_from
  words-at h =
      let next : suc (at + i) ≡ at + (i + 1) = omega arith in
      rw (slice-cons i places ns 0 h ln, slice-cons i places hs 0 h lh, next, add-one i)

  pub appended_skip : i < places → get_or ns i 0 ≡ 0 → Appended places at ns hs W₀ end W reach (i + 1)
  appended_skip h e =
      let t : skipped 0 (get_or ns i 0) ≡ true = unskipped (get_or ns i 0) true (eq-eqb (get_or ns i 0) 0 e) in
      record {
        upto = omega arith;
        long = A.long;
        room = omega (arith, A.room, stars-next i places 0 ns true h ln t);
        words = ap (λ (l : List ℕ). take reach W ++ l) (sym (words-at h ∙ rw t)) ∙ A.words;
      }

  pub appended_inside : i < places → (get_or ns i 0 ≡ 0 → ⊥) → reach < length W
  appended_inside h s =
      omega (arith, A.room, stars-next i places 0 ns false h ln (unskipped (get_or ns i 0) false (ne_eqb (get_or ns i 0) 0 s)))

  pub appended_star : i < places → (get_or ns i 0 ≡ 0 → ⊥) → (x : ℕ) → x ≡ pack (get_or hs i 0) (get_or ns i 0) (at + i + 1)
      → Appended places at ns hs W₀ end (set W reach x) (reach + 1) (i + 1)
  appended_star h s x e =
      let t : skipped 0 (get_or ns i 0) ≡ false = unskipped (get_or ns i 0) false (ne_eqb (get_or ns i 0) 0 s) in
      let source : at + i + 1 ≡ at + (i + 1) = omega arith in
      record {
        upto = omega arith;
        long = length-set W reach x ∙ A.long;
        room = rw (length-set W reach x) (omega (arith, A.room, stars-next i places 0 ns false h ln t));
        words =
            ap (λ (k : ℕ). take k (set W reach x) ++ words_past places at (i + 1) ns hs) (add-one reach)
            ∙ ap (λ (l : List ℕ). l ++ words_past places at (i + 1) ns hs) (take-suc-set W reach x (appended_inside h s))
            ∙ append_snoc (take reach W) x (words_past places at (i + 1) ns hs)
            ∙ ap (λ (y : ℕ). take reach W ++ (y ∷ words_past places at (i + 1) ns hs)) (e ∙ ap (pack (get_or hs i 0) (get_or ns i 0)) source)
            ∙ ap (λ (l : List ℕ). take reach W ++ l) (sym (words-at h ∙ rw t))
            ∙ A.words;
      }

  all_there : i ≡ places → take reach W ≡ take end W₀ ++ words_from at 0 (take places ns) (take places hs)
  unfolding words_from
  all_there e =
      let none : words_past places at i ns hs ≡ [] = rw (e, slice_empty places ns) in
      sym (append-nil (take reach W)) ∙ ap (λ (l : List ℕ). take reach W ++ l) (sym none) ∙ A.words

  pub appended_all : i ≡ places → end ≤ length W₀
      → (reach ≡ end + length (words_from at 0 (take places ns) (take places hs))) × (take reach W ≡ take end W₀ ++ words_from at 0 (take places ns) (take places hs))
  appended_all e h = (
    sym (length-take-le reach W (omega (arith, A.room)))
        ∙ ap length (all_there e)
        ∙ length-append (take end W₀) (words_from at 0 (take places ns) (take places hs))
        ∙ ap (λ (n : ℕ). n + length (words_from at 0 (take places ns) (take places hs))) (length-take-le end W₀ h),
    all_there e,
  )

-- items below a bound
pub item-below : (b places : ℕ) (l : List ℕ) (i : ℕ) → all_below b (take places l) ≡ true → places ≤ length l → i < places → get_or l i 0 < b
item-below b places l i e h k = ltb-true (get_or l i 0) b (slice_all (λ x. ltb x b) 0 places l i e h (omega arith) k)
