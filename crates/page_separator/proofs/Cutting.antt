-- The separator of a page, found from the counts of the signatures. Assumes nothing.
use mathlib.Core.Path.{◌≡◌, refl, ap, sym, ◌∙◌}
use mathlib.Core.Bool.{Bool, true, false, cond, not}
use mathlib.Core.List.{List, [], ◌∷◌, ◌++◌}
use Prim.Native.Nat.{ℕ, zero, suc, ◌+◌, ◌-◌, ◌≤◌, ◌<◌, zero-le}
use native.Mathlib.Omega.{arith}
use lib.Arith.{le-zero}
use lib.Dec.{leb, ltb, eqb}
use lib.ListN.{length, get_or}
use borrow.Author.Tests.{leb-true, leb-false, ltb-true, ltb-false, eqb-true, eqb-false, le-leb, lt-leb, lt-ltb, le-ltb}
use Rattle.hashing.specs.declared.Parameters.{Parameters}
use Rattle.generator.specs.Generator.{top_of_lem}
use Rattle.hashing.specs.Geometry.{multiplier_of}
use Rattle.generator.proofs.Scrambling.{signature-below}
use Rattle.hashing.specs.Limits.{valid_parameters}
use Rattle.hashing.proofs.Bounds.{limits}
use Rattle.generator.proofs.Scrambling.{top_most}
use Rattle.page_separator.specs.Lists.{selected, having, sum_to}
use Rattle.page_separator.specs.Words.{home_of, number_in}
use Rattle.page_separator.specs.Probes.{signature_of, under, staying_words, passing_words, words_separator_from, words_separator}
use Rattle.page_separator.proofs.Lists.{filter-append, filter-length, filter-true, filter-false}
use Rattle.page_separator.proofs.Counting.{sum-next, sum-none, alike-here, alike-other}

module _ (q : Parameters) (p : ℕ) where
  pub stays : (v w : ℕ) (l : List ℕ) → signature_of q p w < v → staying_words q p v (w ∷ l) ≡ w ∷ staying_words q p v l
  unfolding staying_words under
  stays v w l h = filter-true (under q p v) w l (lt-ltb (signature_of q p w) v h)

  pub goes : (v w : ℕ) (l : List ℕ) → v ≤ signature_of q p w → staying_words q p v (w ∷ l) ≡ staying_words q p v l
  unfolding staying_words under
  goes v w l h = filter-false (under q p v) w l (le-ltb (signature_of q p w) v h)

  pub passes-not : (v w : ℕ) (l : List ℕ) → signature_of q p w < v → passing_words q p v (w ∷ l) ≡ passing_words q p v l
  unfolding passing_words under
  passes-not v w l h = filter-false (λ x. not (under q p v x)) w l (rw (lt-ltb (signature_of q p w) v h))

  pub passes : (v w : ℕ) (l : List ℕ) → v ≤ signature_of q p w → passing_words q p v (w ∷ l) ≡ w ∷ passing_words q p v l
  unfolding passing_words under
  passes v w l h = filter-true (λ x. not (under q p v x)) w l (rw (le-ltb (signature_of q p w) v h))

  pub staying-nil : (v : ℕ) → staying_words q p v [] ≡ []
  unfolding staying_words selected
  staying-nil v = refl

  pub passing-nil : (v : ℕ) → passing_words q p v [] ≡ []
  unfolding passing_words selected
  passing-nil v = refl

  pub staying-append : (v : ℕ) (a b : List ℕ) → staying_words q p v (a ++ b) ≡ staying_words q p v a ++ staying_words q p v b
  unfolding staying_words
  staying-append v a b = filter-append (under q p v) a b

  pub passing-length : (v : ℕ) (l : List ℕ) → length (passing_words q p v l) ≤ length l
  unfolding passing_words
  passing-length v l = filter-length (λ w. not (under q p v w)) l

  pub staying-length : (v : ℕ) (l : List ℕ) → length (staying_words q p v l) ≤ length l
  unfolding staying_words
  staying-length v l = filter-length (under q p v) l

  pub staying-zero : (l : List ℕ) → length (staying_words q p 0 l) ≡ 0
  staying-zero [] = ap length (staying-nil 0)
  staying-zero (w ∷ l) = ap length (goes 0 w l zero-le) ∙ staying-zero l

  -- one separator higher: those of that signature stay too
  pub staying-suc : (v : ℕ) (l : List ℕ) → length (staying_words q p (suc v) l) ≡ length (staying_words q p v l) + length (having (signature_of q p) v l)
  unfolding selected
  staying-suc v [] = rw (staying-nil v, staying-nil (suc v))
  staying-suc v (w ∷ l) = go (ltb (signature_of q p w) v) refl (eqb (signature_of q p w) v) refl (staying-suc v l)
    where
      go : (a : Bool) → ltb (signature_of q p w) v ≡ a → (b : Bool) → eqb (signature_of q p w) v ≡ b
          → length (staying_words q p (suc v) l) ≡ length (staying_words q p v l) + length (having (signature_of q p) v l)
          → length (staying_words q p (suc v) (w ∷ l)) ≡ length (staying_words q p v (w ∷ l)) + length (having (signature_of q p) v (w ∷ l))
      go a ea true eb rec =
          let same : signature_of q p w ≡ v = eqb-true (signature_of q p w) v eb in
          omega (arith, ap length (stays (suc v) w l (omega arith)), ap length (goes v w l (omega arith)), ap length (alike-here (signature_of q p) v w l same))
      go true ea false eb rec =
          let less : signature_of q p w < v = ltb-true (signature_of q p w) v ea in
          omega (arith, ap length (stays (suc v) w l (omega arith)), ap length (stays v w l less), ap length (alike-other (signature_of q p) v w l (eqb-false (signature_of q p w) v eb)))
      go false ea false eb rec =
          let more : v ≤ signature_of q p w = ltb-false (signature_of q p w) v ea in
          let other : signature_of q p w ≡ v → ⊥ = eqb-false (signature_of q p w) v eb in
          omega (arith, ap length (goes (suc v) w l (omega arith)), ap length (goes v w l more), ap length (alike-other (signature_of q p) v w l other))

  pub staying-mono : (l : List ℕ) (u v : ℕ) → u ≤ v → length (staying_words q p u l) ≤ length (staying_words q p v l)
  staying-mono l u zero h = ap-le (le-zero h)
    where
      ap-le : u ≡ zero → length (staying_words q p u l) ≤ length (staying_words q p zero l)
      ap-le e = rw e (omega arith)
  staying-mono l u (suc v) h = go (leb u v) refl (staying-mono l u v)
    where
      go : (t : Bool) → leb u v ≡ t → (u ≤ v → length (staying_words q p u l) ≤ length (staying_words q p v l)) → length (staying_words q p u l) ≤ length (staying_words q p (suc v) l)
      go true e rec = omega (arith, rec (leb-true u v e), staying-suc v l)
      go false e rec = let same : u ≡ suc v = omega (arith, leb-false u v e) in rw same (omega arith)

  -- the counts of the signatures below v are those that stay under it
  pub staying-sum : (l counts : List ℕ) → ((v : ℕ) → v < 256 → get_or counts v 0 ≡ length (having (signature_of q p) v l))
      → (v : ℕ) → v ≤ 256 → sum_to v counts ≡ length (staying_words q p v l)
  staying-sum l counts H zero h = sum-none counts ∙ sym (staying-zero l)
  staying-sum l counts H (suc v) h =
      omega (arith, staying-sum l counts H v (omega arith), sum-next v counts, H v h, staying-suc v l)

  module _ (l : List ℕ) where
    pub separator_found : (n v : ℕ) → v ≤ n → length (staying_words q p v l) ≤ q.places → (v < n → q.places < length (staying_words q p (v + 1) l)) → words_separator_from q p l n ≡ v
    unfolding words_separator_from
    separator_found zero v h fits more = sym (le-zero h)
    separator_found (suc n) v h fits more = go (eqb v (suc n)) refl (separator_found n v)
      where
        go : (t : Bool) → eqb v (suc n) ≡ t
            → (v ≤ n → length (staying_words q p v l) ≤ q.places → (v < n → q.places < length (staying_words q p (v + 1) l)) → words_separator_from q p l n ≡ v)
            → cond (leb (length (staying_words q p (suc n) l)) q.places) (suc n) (words_separator_from q p l n) ≡ v
        go true e rec =
            let same : v ≡ suc n = eqb-true v (suc n) e in
            rw (le-leb (length (staying_words q p (suc n) l)) q.places (rw same at fits)) (sym same)
        go false e rec =
            let other : v ≡ suc n → ⊥ = eqb-false v (suc n) e in
            rw (lt-leb (length (staying_words q p (suc n) l)) q.places (omega (arith, more (omega arith), staying-mono l (v + 1) (suc n) (omega arith))))
            (rec (omega arith) fits (λ k. more (omega arith)))

    pub separator_fits : (n : ℕ) → length (staying_words q p (words_separator_from q p l n) l) ≤ q.places
    unfolding words_separator_from
    separator_fits zero = omega (arith, staying-zero l)
    separator_fits (suc n) = go (leb (length (staying_words q p (suc n) l)) q.places) refl (separator_fits n)
      where
        go : (t : Bool) → leb (length (staying_words q p (suc n) l)) q.places ≡ t → length (staying_words q p (words_separator_from q p l n) l) ≤ q.places
            → length (staying_words q p (cond t (suc n) (words_separator_from q p l n)) l) ≤ q.places
        go true e rec = leb-true (length (staying_words q p (suc n) l)) q.places e
        go false e rec = rec

    pub separator_most : (n : ℕ) → words_separator_from q p l n ≤ n
    unfolding words_separator_from
    separator_most zero = omega arith
    separator_most (suc n) = go (leb (length (staying_words q p (suc n) l)) q.places) (separator_most n)
      where
        go : (t : Bool) → words_separator_from q p l n ≤ n → cond t (suc n) (words_separator_from q p l n) ≤ suc n
        go true rec = omega arith
        go false rec = omega arith

    -- all stay where there is room for all
    pub separator_top : length l ≤ q.places → words_separator q p l ≡ top_of_lem q.bits
    unfolding words_separator
    separator_top h = separator_found (top_of_lem q.bits) (top_of_lem q.bits) (omega arith) (omega (arith, staying-length (top_of_lem q.bits) l)) (λ k. omega arith)

  module _ (some : 1 ≤ q.bits) where
    pub signature-small : (w : ℕ) → signature_of q p w < top_of_lem q.bits
    unfolding signature_of
    signature-small w = signature-below (multiplier_of q) q.bits (number_in w) (p - home_of w + 1) some

    pub staying-top : (l : List ℕ) → staying_words q p (top_of_lem q.bits) l ≡ l
    staying-top [] = staying-nil (top_of_lem q.bits)
    staying-top (w ∷ l) = stays (top_of_lem q.bits) w l (signature-small w) ∙ ap (λ (r : List ℕ). w ∷ r) (staying-top l)

    pub passing-top : (l : List ℕ) → passing_words q p (top_of_lem q.bits) l ≡ []
    passing-top [] = passing-nil (top_of_lem q.bits)
    passing-top (w ∷ l) = passes-not (top_of_lem q.bits) w l (signature-small w) ∙ passing-top l

    pub staying-full : (l : List ℕ) (v : ℕ) → top_of_lem q.bits ≤ v → length (staying_words q p v l) ≡ length l
    staying-full l v h =
        omega (arith, ap length (staying-top l), staying-mono l (top_of_lem q.bits) v h, staying-length v l)

-- a signature is one of 255
pub signature_byte : (q : Parameters) (p w : ℕ) → valid_parameters q ≡ true → signature_of q p w < 255
signature_byte q p w v =
    let l = limits q v in
    omega (arith, signature-small q p l.bits_least w, top_most q.bits l.bits_most)
