-- A page's items for two lists of stars of which one has one star more: moving the items by one place takes one to the other.
use mathlib.Core.Path.{◌≡◌, sym, ap, ◌∙◌}
use mathlib.Core.List.{List, [], ◌∷◌, ◌++◌, map, map-append, append_assoc}
use Prim.Native.Nat.{ℕ, suc, ◌+◌, ◌-◌, ◌≤◌, ◌<◌}
use native.Mathlib.Omega.{arith}
use lib.ListN.{length, take, drop, replicate, length-append, length-map, length-replicate, replicate-append-replicate}
use lib.Seq.{length-take-le}
use Rattle.placement.specs.Rule.{Star}
use Rattle.buffers.specs.Lists.{padded, written}
use Rattle.buffers.proofs.Written.{around}
use Rattle.buffers.proofs.Lists.{length-padded}
use Rattle.page_edit.specs.Shift.{opened_at, closed_up_lem}
use Rattle.page_edit.proofs.Moving.{opened-is, closed_is}

module _ (g : Star → ℕ) (s : Star) (front back : List Star) (places : ℕ) (room : length front + length back < places) where
  -- the items of `back` and the empty places, but one
  abbrev behind : List ℕ
  behind = map g back ++ replicate (places - suc (length front + length back)) 0

  length-behind : suc (length front + length behind) ≡ places
  length-behind =
      omega (
        arith,
        length-append (map g back) (replicate (places - suc (length front + length back)) 0),
        length-map back g,
        length-replicate {A = ℕ} (places - suc (length front + length back)) 0,
      )

  less : padded places (map g (front ++ back)) ≡ map g front ++ (behind ++ (0 ∷ []))
  unfolding padded
  less =
      ap (λ (l : List ℕ). l ++ replicate (places - length l) 0) (map-append g front back)
      ∙ ap (λ (n : ℕ). map g front ++ map g back ++ replicate n 0) spare
      ∙ ap (λ (l : List ℕ). map g front ++ map g back ++ l) (sym (replicate-append-replicate (places - suc (length front + length back)) 1 0))
      ∙ append_assoc (map g front) (map g back) (replicate (places - suc (length front + length back)) 0 ++ (0 ∷ []))
      ∙ ap (λ (l : List ℕ). map g front ++ l) (sym (append_assoc (map g back) (replicate (places - suc (length front + length back)) 0) (0 ∷ [])))
    where
      spare : places - length (map g front ++ map g back) ≡ places - suc (length front + length back) + 1
      spare = omega (arith, length-append (map g front) (map g back), length-map front g, length-map back g)

  more : padded places (map g (front ++ (s ∷ back))) ≡ map g front ++ (g s ∷ behind)
  unfolding padded
  more =
      ap (λ (l : List ℕ). l ++ replicate (places - length l) 0) (map-append g front (s ∷ back))
      ∙ ap (λ (n : ℕ). map g front ++ (g s ∷ map g back) ++ replicate n 0) spare
      ∙ append_assoc (map g front) (g s ∷ map g back) (replicate (places - suc (length front + length back)) 0)
    where
      spare : places - length (map g front ++ (g s ∷ map g back)) ≡ places - suc (length front + length back)
      spare = omega (arith, length-append (map g front) (g s ∷ map g back), length-map front g, length-map back g)

  module _ (at : ℕ) (l : List ℕ) (fits : at + places ≤ length l) where
    abbrev rest : List ℕ
    rest = drop (at + places) l

    -- a list around such a page's items
    surrounded : (P Q T : List ℕ) → take places (drop at l) ≡ P → P ≡ T ++ Q → l ≡ take at l ++ T ++ (Q ++ rest)
    surrounded P Q T e d =
        around at places l
        ∙ ap (λ (m : List ℕ). take at l ++ (m ++ rest)) (e ∙ d)
        ∙ ap (λ (m : List ℕ). take at l ++ m) (append_assoc T Q rest)
        ∙ sym (append_assoc (take at l) T (Q ++ rest))

    wrote : (X Q T : List ℕ) → length X ≡ places → X ≡ T ++ Q → take at l ++ T ++ (Q ++ rest) ≡ written at X l
    unfolding written
    wrote X Q T n d =
        append_assoc (take at l) T (Q ++ rest)
        ∙ ap (λ (m : List ℕ). take at l ++ m) (sym (append_assoc T Q rest))
        ∙ ap (λ (m : List ℕ). take at l ++ (m ++ rest)) (sym d)
        ∙ ap (λ (k : ℕ). take at l ++ (X ++ drop (at + k) l)) (sym n)

    ahead : length (take at l ++ map g front) ≡ at + length front
    ahead = length-append (take at l) (map g front) ∙ omega (arith, length-take-le at l (omega arith), length-map front g)

    pub put-column : take places (drop at l) ≡ padded places (map g (front ++ back))
        → opened_at (at + length front) (places - length front) (g s) l ≡ written at (padded places (map g (front ++ (s ∷ back)))) l
    put-column e =
        ap (opened_at (at + length front) (places - length front) (g s))
        (surrounded (padded places (map g (front ++ back))) (behind ++ (0 ∷ [])) (map g front) e less
        ∙ ap (λ (m : List ℕ). take at l ++ map g front ++ m) (append_assoc behind (0 ∷ []) rest))
        ∙ opened-is (take at l ++ map g front) behind rest (g s) 0 (at + length front) (places - length front) ahead (omega (arith, length-behind))
        ∙ wrote (padded places (map g (front ++ (s ∷ back)))) (g s ∷ behind) (map g front)
        (length-padded places (map g (front ++ (s ∷ back))) (omega (arith, length-map (front ++ (s ∷ back)) g, length-append front (s ∷ back)))) more

    pub take-column : take places (drop at l) ≡ padded places (map g (front ++ (s ∷ back)))
        → closed_up_lem (at + length front) (places - length front - 1) l ≡ written at (padded places (map g (front ++ back))) l
    take-column e =
        ap (closed_up_lem (at + length front) (places - length front - 1))
        (surrounded (padded places (map g (front ++ (s ∷ back)))) (g s ∷ behind) (map g front) e more)
        ∙ closed_is (take at l ++ map g front) behind rest (g s) (at + length front) (places - length front - 1) ahead (omega (arith, length-behind))
        ∙ ap (λ (m : List ℕ). take at l ++ map g front ++ m) (sym (append_assoc behind (0 ∷ []) rest))
        ∙ wrote (padded places (map g (front ++ back))) (behind ++ (0 ∷ [])) (map g front)
        (length-padded places (map g (front ++ back)) (omega (arith, length-map (front ++ back) g, length-append front back))) less
