-- Laws of `written`, and what copies are in its terms.
use mathlib.Core.Path.{◌≡◌, sym, ap, ◌∙◌}
use mathlib.Core.List.{List, [], ◌∷◌, ◌++◌, append-nil, append_assoc}
use Prim.Native.Nat.{ℕ, ◌+◌, ◌-◌, ◌≤◌, ◌<◌}
use native.Mathlib.Nat.{le_refl, add-zero, zero-add}
use native.Mathlib.Numerals.{add-one}
use native.Mathlib.Omega.{arith}
use lib.ListN.{length, set, take, drop, length-append, length-drop, take-append-drop}
use lib.Seq.{paste, take_at, take_all, drop_at, drop-drop, drop-length, length-take-le, set_split}
use Rattle.buffers.specs.Lists.{written}

module _ {A : Type 0} where
  pub written_none : (at : ℕ) (d : List A) → d ≡ written at [] d
  unfolding written
  written_none at d = sym (ap (λ (k : ℕ). take at d ++ drop k d) (add-zero at) ∙ take-append-drop at d)

  pub set-written : (l : List A) (i : ℕ) (x : A) → i < length l → set l i x ≡ written i (x ∷ []) l
  unfolding written
  set-written l i x h = set_split l i x h ∙ ap (λ (k : ℕ). take i l ++ (x ∷ drop k l)) (sym (add-one i))

  pub written-whole : (s d : List A) → length s ≡ length d → written 0 s d ≡ s
  unfolding written
  written-whole s d e =
      let all_of : 0 + length s ≡ length d = zero-add (length s) ∙ e in
      rw (all_of, drop-length d) (append-nil s)

  pub written-middle : (a : ℕ) (P Q X R : List A) → length P ≡ a → length X ≡ length Q → written a X (P ++ (Q ++ R)) ≡ P ++ (X ++ R)
  unfolding written
  written-middle a P Q X R lp lx =
      rw (take_at P (Q ++ R) a lp)
      (ap (λ (l : List A). P ++ (X ++ l))
      (sym (drop-drop (length X) a (P ++ (Q ++ R))) ∙ ap (drop (length X)) (drop_at P (Q ++ R) a lp) ∙ drop_at Q R (length X) (sym lx)))

  pub length-written : (a : ℕ) (s d : List A) → a + length s ≤ length d → length (written a s d) ≡ length d
  unfolding written
  length-written a s d h =
      length-append (take a d) (s ++ drop (a + length s) d)
      ∙ omega (arith, length-append s (drop (a + length s) d), length-take-le a d (omega arith), length-drop (a + length s) d)

  -- one after the other, as one
  pub written-add : (a : ℕ) (s u d : List A) → a ≤ length d → written (a + length s) u (written a s d) ≡ written a (s ++ u) d
  unfolding written
  written-add a s u d h =
      ap (λ (l : List A). take (a + length s) l ++ (u ++ drop (a + length s + length u) l)) (sym (append_assoc (take a d) s (drop (a + length s) d)))
      ∙ ap (λ (l : List A). l ++ (u ++ drop (a + length s + length u) (take a d ++ s ++ drop (a + length s) d))) (take_at (take a d ++ s) (drop (a + length s) d) (a + length s) size)
      ∙ ap (λ (l : List A). take a d ++ s ++ (u ++ l)) rest
      ∙ append_assoc (take a d) s (u ++ drop (a + length (s ++ u)) d)
      ∙ ap (λ (l : List A). take a d ++ l) (sym (append_assoc s u (drop (a + length (s ++ u)) d)))
    where
      size : length (take a d ++ s) ≡ a + length s
      size = length-append (take a d) s ∙ ap (λ (k : ℕ). k + length s) (length-take-le a d h)

      rest : drop (a + length s + length u) (take a d ++ s ++ drop (a + length s) d) ≡ drop (a + length (s ++ u)) d
      rest =
          let sum : a + length s + length u ≡ a + length (s ++ u) = omega (arith, length-append s u) in
          sym (drop-drop (length u) (a + length s) (take a d ++ s ++ drop (a + length s) d))
          ∙ ap (drop (length u)) (drop_at (take a d ++ s) (drop (a + length s) d) (a + length s) size)
          ∙ drop-drop (length u) (a + length s) d
          ∙ ap (λ (k : ℕ). drop k d) sum

  -- a list around its n items from a
  pub around : (a n : ℕ) (d : List A) → d ≡ take a d ++ (take n (drop a d) ++ drop (a + n) d)
  around a n d =
      sym (take-append-drop a d)
      ∙ ap (λ (l : List A). take a d ++ l) (sym (take-append-drop n (drop a d)) ∙ ap (λ (l : List A). take n (drop a d) ++ l) (drop-drop n a d))

  -- what stands there already
  pub written_same : (a n : ℕ) (d : List A) → a + n ≤ length d → written a (take n (drop a d)) d ≡ d
  unfolding written
  written_same a n d h =
      ap (λ (k : ℕ). take a d ++ (take n (drop a d) ++ drop (a + k) d)) (length-take-le n (drop a d) (omega (arith, length-drop a d)))
      ∙ sym (around a n d)

  -- what was written is there
  pub taken-written : (at n : ℕ) (s d : List A) → length s ≡ n → at ≤ length d → take n (drop at (written at s d)) ≡ s
  unfolding written
  taken-written at n s d e h =
      ap (take n) (drop_at (take at d) (s ++ drop (at + length s) d) at (length-take-le at d h)) ∙ take_at s (drop (at + length s) d) n e

  -- n items of s copied
  pub paste_written : (d : List A) (at : ℕ) (s : List A) (n : ℕ) → n ≤ length s → paste d at s n ≡ written at (take n s) d
  unfolding written
  paste_written d at s n h =
      append_assoc (take at d) (take n s) (drop (at + n) d)
      ∙ ap (λ (k : ℕ). take at d ++ (take n s ++ drop (at + k) d)) (sym (length-take-le n s h))

  -- all items of s copied
  pub all-written : (d : List A) (at : ℕ) (s : List A) (n : ℕ) → length s ≡ n → paste d at s n ≡ written at s d
  all-written d at s n e = paste_written d at s n (rw e (le_refl n)) ∙ ap (λ (l : List A). written at l d) (take_all n s (rw e (le_refl n)))

  -- a list copied over another of its length
  pub pasted_whole : (d s : List A) (n : ℕ) → length d ≡ n → length s ≡ n → paste d 0 s n ≡ s
  pasted_whole d s n ed es = all-written d 0 s n es ∙ written-whole s d (es ∙ sym ed)

  -- a part of d copied from the same part of e, after n items of s were copied to that
  pub through : (d e : List A) (at n : ℕ) (s : List A) → at ≤ length e → n ≤ length s → paste d at (drop at (paste e at s n)) n ≡ written at (take n s) d
  unfolding written
  through d e at n s he hs =
      let size : length (take n s) ≡ n = length-take-le n s hs in
      let back : drop at (paste e at s n) ≡ take n s ++ drop (at + n) e
      = ap (drop at) (append_assoc (take at e) (take n s) (drop (at + n) e))
      ∙ drop_at (take at e) (take n s ++ drop (at + n) e) at (length-take-le at e he) in
      ap (λ (l : List A). paste d at l n) back
      ∙ ap (λ (l : List A). take at d ++ l ++ drop (at + n) d) (take_at (take n s) (drop (at + n) e) n size)
      ∙ append_assoc (take at d) (take n s) (drop (at + n) d)
      ∙ ap (λ (k : ℕ). take at d ++ (take n s ++ drop (at + k) d)) (sym size)

  -- what stands behind the items written stays
  pub written_behind : (at k : ℕ) (s d : List A) → at ≤ length d → at + length s ≡ k → drop k (written at s d) ≡ drop k d
  unfolding written
  written_behind at k s d h e =
      rw (← append_assoc (take at d) s (drop (at + length s) d))
      (drop_at (take at d ++ s) (drop (at + length s) d) k (length-append (take at d) s ∙ ap (λ (m : ℕ). m + length s) (length-take-le at d h) ∙ e)
      ∙ ap (λ (m : ℕ). drop m d) e)

  -- lists alike from k on are alike from any later item on
  pub alike-later : (k j : ℕ) (c d : List A) → k ≤ j → drop k c ≡ drop k d → drop j c ≡ drop j d
  alike-later k j c d h e =
      let sum : k + (j - k) ≡ j = omega arith in
      rw (← sum, ← drop-drop (j - k) k c, ← drop-drop (j - k) k d, e)

  -- written to the front
  pub written-to-front : (s d : List A) → written 0 s d ≡ s ++ drop (length s) d
  unfolding written
  written-to-front s d = ap (λ (k : ℕ). s ++ drop k d) (zero-add (length s))
