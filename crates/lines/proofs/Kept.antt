-- What is kept of a line means what the line means.
use Prim.Native.Nat.{ℕ, zero, suc, ◌+◌, ◌<◌, ◌≤◌}
use native.Mathlib.Decide.{dec_lt}
use native.Mathlib.Numerals.{add-one}
use native.Mathlib.Omega.{arith}
use mathlib.Core.Bool.{Bool, true, false, cond}
use mathlib.Core.List.{List, [], ◌∷◌, ◌++◌, map}
use lib.Dec.{eqb, eqb-suc-zero}
use mathlib.Core.Path.{◌≡◌, refl, sym, ap, ◌∙◌}
use lib.ListN.{length, take, set, length-take, length-map}
use lib.Seq.{take_all, take-take, take-append-le, length-take-le, take-suc-set}
use Rattle.lines.specs.Grammar.{command_of, kept, no_bytes, lines_from}
use Rattle.lines.specs.declared.Command.TheVariants.{Bad}
use Rattle.lines.proofs.Lengths.{long-bad}

kept-command : (l : List ℕ) → command_of (kept l) ≡ command_of l
unfolding kept
kept-command l = go (dec_lt 64 (length l))
  where
    go : Dec (64 < length l) → command_of (take 65 l) ≡ command_of l
    go (yes p) = long-bad (take 65 l) (omega (arith, length-take-le 65 l p)) ∙ sym (long-bad l p)
    go (no p) = ap command_of (take_all 65 l (omega arith))

kept_then : (l : List ℕ) (b : ℕ) → kept (kept l ++ (b ∷ [])) ≡ kept (l ++ (b ∷ []))
unfolding kept
kept_then l b = go (dec_lt 64 (length l))
  where
    go : Dec (64 < length l) → take 65 (take 65 l ++ (b ∷ [])) ≡ take 65 (l ++ (b ∷ []))
    go (yes p) =
        take-append-le 65 (take 65 l) (b ∷ []) (simp length-take (omega arith))
        ∙ take-take 65 65 l (omega arith)
        ∙ sym (take-append-le 65 l (b ∷ []) p)
    go (no p) = rw (take_all 65 l (omega arith))

pub kept-twice : (l : List ℕ) → kept (kept l) ≡ kept l
unfolding kept
kept-twice l = take-take 65 65 l (omega arith)

same : (k m : List ℕ) → kept k ≡ kept m → command_of k ≡ command_of m
same k m e = sym (kept-command k) ∙ ap command_of e ∙ kept-command m

-- a byte more of what is kept of a line
kept_next : (k l : List ℕ) (b : ℕ) → kept k ≡ kept l → kept (k ++ (b ∷ [])) ≡ kept (l ++ (b ∷ []))
kept_next k l b e = sym (kept_then k b) ∙ ap (λ (m : List ℕ). kept (m ++ (b ∷ []))) e ∙ kept_then l b

kept-empty : (l : List ℕ) → no_bytes (kept l) ≡ no_bytes l
unfolding kept no_bytes
kept-empty [] = refl
kept-empty (c ∷ l) = refl

-- lines of which only the first bytes are kept mean the same commands
pub commands_kept :
    (l k m : List ℕ) → kept k ≡ kept m → map command_of (lines_from k l) ≡ map command_of (lines_from m l)
unfolding lines_from
commands_kept [] k m e =
    rw (sym (kept-empty k) ∙ ap no_bytes e ∙ kept-empty m) (go (no_bytes m))
  where
    go : (t : Bool) → map command_of (cond t [] (k ∷ [])) ≡ map command_of (cond t [] (m ∷ []))
    go true = refl
    go false = rw (same k m e)
commands_kept (c ∷ l) k m e = go (eqb c 10) (commands_kept l (k ++ (c ∷ [])) (m ++ (c ∷ [])) (kept_next k m c e))
  where
    go :
        (t : Bool) →
        map command_of (lines_from (k ++ (c ∷ [])) l) ≡ map command_of (lines_from (m ++ (c ∷ [])) l) →
        map command_of (cond t (k ∷ lines_from [] l) (lines_from (k ++ (c ∷ [])) l))
        ≡ map command_of (cond t (m ∷ lines_from [] l) (lines_from (m ++ (c ∷ [])) l))
    go true h = rw (same k m e)
    go false h = h

-- the bytes of a Line's array, of which `c.good` says how many they are
pub counted : (bytes : List ℕ) → length (map (λ (v : ℕ). v) bytes) ≡ 72 → length bytes ≡ 72
counted bytes e = sym (length-map {A = ℕ} bytes (λ v. v)) ∙ e

-- and back
pub array_of : (bytes : List ℕ) → length bytes ≡ 72 → length (map (λ (v : ℕ). v) bytes) ≡ 72
array_of bytes e = length-map {A = ℕ} bytes (λ v. v) ∙ e

module _ (bytes : List ℕ) (array : length (map (λ (v : ℕ). v) bytes) ≡ 72) (n b : ℕ) where
  whole : length bytes ≡ 72
  whole = counted bytes array

  pub kept-long : 65 ≤ n → command_of (kept (take n bytes)) ≡ Bad
  unfolding kept
  kept-long h = long-bad (take 65 (take n bytes)) (simp length-take (omega (arith, whole)))

  pub kept-short : n < 65 → kept (take n bytes) ≡ take n bytes
  unfolding kept
  kept-short h = take_all 65 (take n bytes) (simp length-take (omega (arith, whole)))

  -- no byte is kept after the 65th
  pub kept_full : 65 ≤ n → kept (take n bytes) ≡ kept (kept (take n bytes) ++ (b ∷ []))
  unfolding kept
  kept_full h =
      sym
      (take-append-le 65 (take 65 (take n bytes)) (b ∷ []) (simp length-take (omega (arith, whole)))
      ∙ take-take 65 65 (take n bytes) (omega arith))

  pub kept_more : n < 65 → kept (take (n + 1) (set bytes n b)) ≡ kept (kept (take n bytes) ++ (b ∷ []))
  kept_more h = rw (kept-short h, add-one n, take-suc-set bytes n b (omega (arith, whole)))

  pub kept-none : no_bytes (kept (take n bytes)) ≡ eqb n 0
  unfolding kept no_bytes
  kept-none = go n bytes whole
    where
      go : (m : ℕ) (l : List ℕ) → length l ≡ 72 → no_bytes (kept (take m l)) ≡ eqb m 0
      go zero l e = refl
      go (suc m) [] e = absurd (omega arith)
      go (suc m) (c ∷ l) e = sym (eqb-suc-zero m)
