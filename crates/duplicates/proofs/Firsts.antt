-- Neighbours compared, and the first word of each key kept.
use mathlib.Core.Path.{◌≡◌, refl, sym, ap, ◌∙◌}
use mathlib.Core.Bool.{true, false, ◌&&◌}
use mathlib.Core.List.{List, [], ◌∷◌, ◌++◌, append_assoc, append-nil}
use Prim.Native.Nat.{ℕ, suc, ◌+◌, ◌/◌, ◌%◌, ◌≤◌, ◌<◌, zero-le}
use native.Mathlib.Omega.{arith}
use native.Mathlib.Numerals.{add-one}
use lib.Dec.{eqb}
use lib.ListN.{length, get_or, take, drop, set, length-set, length-drop}
use lib.Seq.{drop-cons, take-suc-set, drop-set-lt, get_or-take, get_or-drop, length-take-le}
use borrow.Author.Tests.{eq-eqb, ne_eqb}
use Rattle.plan_transfer.specs.Sources.{named_item}
use Rattle.page_separator.specs.Words.{source_of}
use Rattle.duplicates.specs.Words.{number_key, pair_agrees_lem, leads_agreed, neighbours_agree, firsts_after}

-- Two words.
module _ (ws os : List ℕ) (x y : ℕ) where
  pub pair_apart : (x / 65536 ≡ y / 65536 → ⊥) → true ≡ pair_agrees_lem ws os x y
  unfolding pair_agrees_lem number_key
  pair_apart e = rw (ne_eqb (x / 65536) (y / 65536) e)

  module _ (e : x / 65536 ≡ y / 65536) (a b : ℕ) (ea : a ≡ named_item ws 0 (x % 65536)) (eb : b ≡ named_item ws 0 (y % 65536)) where
    pub pair_words : (a ≡ b → ⊥) → false ≡ pair_agrees_lem ws os x y
    unfolding pair_agrees_lem number_key source_of
    pair_words d = rw (eq-eqb (x / 65536) (y / 65536) e, ← ea, ← eb, ne_eqb a b d)

    pub pair_owners : a ≡ b → (m n : ℕ) → m ≡ named_item os 0 (x % 65536) → n ≡ named_item os 0 (y % 65536) → eqb m n ≡ pair_agrees_lem ws os x y
    unfolding pair_agrees_lem number_key source_of
    pair_owners d m n em en = rw (eq-eqb (x / 65536) (y / 65536) e, ← ea, ← eb, eq-eqb a b d, em, en)

-- The words before i agree.
pub record Agreeing (ws os : List ℕ) (end : ℕ) (W : List ℕ) (i : ℕ) : Type 0 where
  pub rest : neighbours_agree ws os (take end W) ≡ neighbours_agree ws os (drop i (take end W))

next-two : (end : ℕ) (W : List ℕ) (i : ℕ) → end ≤ length W → i + 1 < end → drop i (take end W) ≡ get_or W i 0 ∷ get_or W (i + 1) 0 ∷ drop (suc (suc i)) (take end W)
next-two end W i h k =
    let size : length (take end W) ≡ end = length-take-le end W h in
    drop-cons (take end W) i 0 (omega (arith, size))
    ∙ ap (λ (l : List ℕ). get_or (take end W) i 0 ∷ l) (drop-cons (take end W) (suc i) 0 (omega (arith, size)))
    ∙ rw (get_or-take end W i 0 (omega arith), get_or-take end W (suc i) 0 (omega arith), add-one i)

module _ (ws os : List ℕ) (end : ℕ) (W : List ℕ) (i : ℕ) (A : Agreeing ws os end W i) (h : end ≤ length W) where
  split : i + 1 < end → neighbours_agree ws os (take end W) ≡ pair_agrees_lem ws os (get_or W i 0) (get_or W (i + 1) 0) && neighbours_agree ws os (drop (suc i) (take end W))
  unfolding neighbours_agree leads_agreed
  split k =
      let size : length (take end W) ≡ end = length-take-le end W h in
      let same : drop (suc i) (take end W) ≡ get_or W (i + 1) 0 ∷ drop (suc (suc i)) (take end W)
      = drop-cons (take end W) (suc i) 0 (omega (arith, size)) ∙ rw (get_or-take end W (suc i) 0 (omega arith), add-one i) in
      A.rest ∙ ap (neighbours_agree ws os) (next-two end W i h k)
      ∙ ap (λ (l : List ℕ). pair_agrees_lem ws os (get_or W i 0) (get_or W (i + 1) 0) && neighbours_agree ws os l) (sym same)

  pub agreeing-fails : (j : ℕ) → j ≡ i + 1 → j < end → pair_agrees_lem ws os (get_or W i 0) (get_or W j 0) ≡ false → false ≡ neighbours_agree ws os (take end W)
  agreeing-fails j q k e = sym (split (rw q at k) ∙ rw (rw q at e))

  pub agreeing-next : (j : ℕ) → j ≡ i + 1 → j < end → pair_agrees_lem ws os (get_or W i 0) (get_or W j 0) ≡ true → (m : ℕ) → m ≡ i + 1 → Agreeing ws os end W m
  agreeing-next j q k e m r = record { rest = split (rw q at k) ∙ rw (rw q at e, r, add-one i) }

  pub agreeing-all : end ≤ i + 1 → true ≡ neighbours_agree ws os (take end W)
  unfolding neighbours_agree leads_agreed
  agreeing-all k = sym (A.rest ∙ short (drop i (take end W)) (omega (arith, length-drop i (take end W), length-take-le end W h)))
    where
      short : (l : List ℕ) → length l ≤ 1 → neighbours_agree ws os l ≡ true
      short [] z = refl
      short (x ∷ []) z = refl
      short (x ∷ y ∷ l) z = absurd (omega arith)

-- Of the first i words those that stay stand in front; the last of them has the key `last`.
pub record Keeping (end : ℕ) (W₀ W : List ℕ) (last kept i : ℕ) : Type 0 where
  pub order : kept ≤ i
  pub size : length W ≡ length W₀
  pub is : firsts_after 0 (take end W₀) ≡ take kept W ++ firsts_after last (drop i (take end W₀))
  pub ahead : drop i W ≡ drop i W₀

pub keeping_none : (end : ℕ) (W₀ : List ℕ) → Keeping end W₀ W₀ 0 0 0
keeping_none end W₀ = record { order = zero-le; size = refl; is = refl; ahead = refl }

module _ (end : ℕ) (W₀ W : List ℕ) (last kept i : ℕ) (K : Keeping end W₀ W last kept i) (fits : end ≤ length W₀) (h : i < end) where
  here : get_or W i 0 ≡ get_or W₀ i 0
  here =
      ap (λ (k : ℕ). get_or W k 0) (sym (omega arith)) ∙ sym (get_or-drop i W 0 0) ∙ ap (λ (l : List ℕ). get_or l 0 0) K.ahead ∙ get_or-drop i W₀ 0 0
      ∙ ap (λ (k : ℕ). get_or W₀ k 0) (omega arith)

  opened : drop i (take end W₀) ≡ get_or W i 0 ∷ drop (suc i) (take end W₀)
  opened =
      drop-cons (take end W₀) i 0 (omega (arith, length-take-le end W₀ fits))
      ∙ ap (λ (x : ℕ). x ∷ drop (suc i) (take end W₀)) (get_or-take end W₀ i 0 h ∙ sym here)

  next : drop (suc i) W ≡ drop (suc i) W₀
  next =
      ap (λ (k : ℕ). drop k W) (sym (add-one i)) ∙ sym (lib.Seq.drop-drop 1 i W) ∙ ap (drop 1) K.ahead ∙ lib.Seq.drop-drop 1 i W₀
      ∙ ap (λ (k : ℕ). drop k W₀) (add-one i)

  pub keeping_repeated : number_key (get_or W i 0) ≡ last → Keeping end W₀ W last kept (i + 1)
  unfolding firsts_after
  keeping_repeated e =
      record {
        order = omega (arith, K.order);
        size = K.size;
        is = K.is ∙ ap (λ (l : List ℕ). take kept W ++ firsts_after last l) opened ∙ rw (eq-eqb (number_key (get_or W i 0)) last e, add-one i);
        ahead = rw (add-one i) next;
      }

  pub keeping_first : (number_key (get_or W i 0) ≡ last → ⊥) → Keeping end W₀ (set W kept (get_or W i 0)) (number_key (get_or W i 0)) (kept + 1) (i + 1)
  unfolding firsts_after
  keeping_first e =
      record {
        order = omega (arith, K.order);
        size = length-set W kept (get_or W i 0) ∙ K.size;
        is =
            K.is ∙ ap (λ (l : List ℕ). take kept W ++ firsts_after last l) opened
            ∙ rw (ne_eqb (number_key (get_or W i 0)) last e, add-one i, add-one kept)
            (sym (append_assoc (take kept W) (get_or W i 0 ∷ []) (firsts_after (number_key (get_or W i 0)) (drop (suc i) (take end W₀))))
            ∙ ap (λ (l : List ℕ). l ++ firsts_after (number_key (get_or W i 0)) (drop (suc i) (take end W₀))) (sym (take-suc-set W kept (get_or W i 0) (omega (arith, K.order, K.size)))));
        ahead = rw (add-one i) (drop-set-lt (suc i) W kept (get_or W i 0) (omega (arith, K.order)) ∙ next);
      }

pub keeping_all : (end : ℕ) (W₀ W : List ℕ) (last kept i : ℕ) → Keeping end W₀ W last kept i → end ≤ length W₀ → end ≤ i → take kept W ≡ firsts_after 0 (take end W₀)
unfolding firsts_after
keeping_all end W₀ W last kept i K fits h =
    let done : length (take end W₀) ≤ i = omega (arith, length-take-le end W₀ fits) in
    sym (K.is ∙ ap (λ (l : List ℕ). take kept W ++ firsts_after last l) (lib.ListN.drop_of_length-le (take end W₀) done) ∙ append-nil (take kept W))
