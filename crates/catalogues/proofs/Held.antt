-- Rows in two columns.
-- Assumes nothing.
use mathlib.Core.Path.{◌≡◌, refl, sym, ap, ◌∙◌}
use mathlib.Core.Bool.{Bool, true, false, cond}
use mathlib.Core.List.{List, [], ◌∷◌, ◌++◌}
use Prim.Native.Nat.{ℕ, zero, suc, ◌+◌, ◌≤◌, ◌<◌}
use native.Mathlib.Numerals.{add-one}
use native.Mathlib.Omega.{arith}
use lib.Dec.{eqb}
use lib.ListN.{length, get_or, set, take, drop}
use lib.Seq.{take-suc-set, length-take-le, drop-cons, drop-length, get_or-take}
use borrow.Author.Tests.{eq-eqb, ne_eqb}
use Rattle.std.specs.List.{AllWithin, HoldsAt}
use Rattle.catalogues.specs.Entries.{pairs, rows_held, standing_of}
use Rattle.catalogues.specs.declared.entries.Standing.{Standing}
use Rattle.catalogues.specs.declared.entries.Standing.TheVariants.{New, Same, Other}

pairs-snoc : (a b : List ℕ) (n w : ℕ) → length a ≡ length b → pairs (a ++ (n ∷ [])) (b ++ (w ∷ [])) ≡ pairs a b ++ ((n, w) ∷ [])
unfolding pairs
pairs-snoc [] [] n w e = refl
pairs-snoc [] (y ∷ b) n w e = absurd (omega arith)
pairs-snoc (x ∷ a) [] n w e = absurd (omega arith)
pairs-snoc (x ∷ a) (y ∷ b) n w e = ap (λ (l : List (ℕ × ℕ)). (x, y) ∷ l) (pairs-snoc a b n w (omega arith))

pub held-add : (k : ℕ) (ns ws : List ℕ) (n w : ℕ) → k < length ns → k < length ws
    → rows_held (k + 1) (set ns k n) (set ws k w) ≡ rows_held k ns ws ++ ((n, w) ∷ [])
unfolding rows_held
held-add k ns ws n w p q =
    let same : length (take k ns) ≡ length (take k ws) = length-take-le k ns (omega arith) ∙ sym (length-take-le k ws (omega arith)) in
    rw (add-one k, take-suc-set ns k n p, take-suc-set ws k w q) (pairs-snoc (take k ns) (take k ws) n w same)

length_pairs : (a b : List ℕ) → length a ≡ length b → length (pairs a b) ≡ length a
unfolding pairs
length_pairs [] b e = refl
length_pairs (x ∷ a) [] e = absurd (omega arith)
length_pairs (x ∷ a) (y ∷ b) e = ap suc (length_pairs a b (omega arith))

pub held-length : (k : ℕ) (ns ws : List ℕ) → k ≤ length ns → k ≤ length ws → length (rows_held k ns ws) ≡ k
unfolding rows_held
held-length k ns ws p q =
    length_pairs (take k ns) (take k ws) (length-take-le k ns p ∙ sym (length-take-le k ws q)) ∙ length-take-le k ns p

item-pairs : (a b : List ℕ) (i : ℕ) → i < length a → i < length b → get_or (pairs a b) i (0, 0) ≡ (get_or a i 0, get_or b i 0)
unfolding pairs
item-pairs [] b i p q = absurd (omega arith)
item-pairs (x ∷ a) [] i p q = absurd (omega arith)
item-pairs (x ∷ a) (y ∷ b) zero p q = refl
item-pairs (x ∷ a) (y ∷ b) (suc i) p q = item-pairs a b i (omega arith) (omega arith)

pub held-item : (k : ℕ) (ns ws : List ℕ) (i : ℕ) → k ≤ length ns → k ≤ length ws → i < k → get_or (rows_held k ns ws) i (0, 0) ≡ (get_or ns i 0, get_or ws i 0)
unfolding rows_held
held-item k ns ws i p q h =
    item-pairs (take k ns) (take k ws) i (omega (arith, length-take-le k ns p)) (omega (arith, length-take-le k ws q))
    ∙ rw (get_or-take k ns i 0 h, get_or-take k ws i 0 h)

-- Searching the rows from the first on: those from row i on decide.
abbrev pub Sought : ℕ → List ℕ → List ℕ → ℕ → ℕ → ℕ → Type 0
Sought k ns ws number word i = standing_of number word (rows_held k ns ws) ≡ standing_of number word (drop i (rows_held k ns ws))

module _ (k : ℕ) (ns ws : List ℕ) (p : k ≤ length ns) (q : k ≤ length ws) (number word : ℕ) where
  opened : (i : ℕ) → i < k → drop i (rows_held k ns ws) ≡ (get_or ns i 0, get_or ws i 0) ∷ drop (suc i) (rows_held k ns ws)
  opened i h =
      drop-cons (rows_held k ns ws) i (0, 0) (omega (arith, held-length k ns ws p q))
      ∙ ap (λ (r : ℕ × ℕ). r ∷ drop (suc i) (rows_held k ns ws)) (held-item k ns ws i p q h)

  at_row : (i : ℕ) → i < k → Sought k ns ws number word i
      → standing_of number word (rows_held k ns ws)
      ≡ cond (eqb (get_or ns i 0) number) (cond (eqb (get_or ws i 0) word) Same Other) (standing_of number word (drop (suc i) (rows_held k ns ws)))
  unfolding standing_of
  at_row i h s = s ∙ ap (standing_of number word) (opened i h)

  pub sought-next : (i : ℕ) → i < k → (get_or ns i 0 ≡ number → ⊥) → Sought k ns ws number word i → Sought k ns ws number word (i + 1)
  sought-next i h n s = at_row i h s ∙ rw (ne_eqb (get_or ns i 0) number n, add-one i)

  reached : (i : ℕ) → i ≤ k → ((j : ℕ) → j < i → get_or ns j 0 ≡ number → ⊥) → Sought k ns ws number word i
  reached zero h f = refl
  reached (suc i) h f = rw (add-one i) at (sought-next i (omega arith) (f i (omega arith)) (reached i (omega arith) (λ j g. f j (omega arith))))

  -- the first of the numbers that is the one sought
  pub first_at : (i : ℕ) → (i < length (take k ns)) × HoldsAt (λ n. n ≡ number) (take k ns) i × AllWithin (λ n. n ≡ number → ⊥) (take k ns) 0 i
      → (i < k) × (get_or ns i 0 ≡ number) × Sought k ns ws number word i
  first_at i h =
      let within : i < k = omega (arith, h.0, length-take-le k ns p) in (
        within,
        sym (get_or-take k ns i 0 within) ∙ h.1 0,
        reached i (omega arith) (λ j g e. h.2 j 0 (omega arith) g (get_or-take k ns j 0 (omega arith) ∙ e)),
      )

  pub none_there : AllWithin (λ n. n ≡ number → ⊥) (take k ns) 0 (length (take k ns)) → Sought k ns ws number word k
  none_there h =
      reached k (omega arith) (λ j g e. h j 0 (omega arith) (omega (arith, length-take-le k ns p)) (get_or-take k ns j 0 g ∙ e))

  pub sought-same : (i : ℕ) → i < k → get_or ns i 0 ≡ number → get_or ws i 0 ≡ word → Sought k ns ws number word i → Same ≡ standing_of number word (rows_held k ns ws)
  sought-same i h n w s = sym (at_row i h s ∙ rw (eq-eqb (get_or ns i 0) number n, eq-eqb (get_or ws i 0) word w))

  pub sought-other : (i : ℕ) → i < k → get_or ns i 0 ≡ number → (get_or ws i 0 ≡ word → ⊥) → Sought k ns ws number word i → Other ≡ standing_of number word (rows_held k ns ws)
  sought-other i h n w s = sym (at_row i h s ∙ rw (eq-eqb (get_or ns i 0) number n, ne_eqb (get_or ws i 0) word w))

  pub sought-last : (i : ℕ) → i ≤ k → k ≤ i → Sought k ns ws number word i → New ≡ standing_of number word (rows_held k ns ws)
  unfolding standing_of
  sought-last i a b s =
      let all : i ≡ length (rows_held k ns ws) = omega (arith, held-length k ns ws p q) in
      sym (s ∙ ap (standing_of number word) (ap (λ (j : ℕ). drop j (rows_held k ns ws)) all ∙ drop-length (rows_held k ns ws)))
