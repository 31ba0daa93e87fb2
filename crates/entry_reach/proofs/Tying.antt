-- What the rule selects of the waiting stars, with the words and owners that their sources name, it selects of their words.
use mathlib.Core.Path.{◌≡◌, refl, sym, ap, ◌∙◌}
use mathlib.Core.Bool.{Bool, true, false, not, cond}
use mathlib.Core.List.{List, [], ◌∷◌, ◌++◌, map, map-append, append-nil}
use Prim.Native.Nat.{ℕ, zero, suc, ◌+◌}
use native.Mathlib.Omega.{arith}
use lib.ListN.{length, length-map}
use Rattle.buffers.proofs.Tests.{and-true}
use Rattle.hashing.specs.declared.Parameters.{Parameters}
use Rattle.placement.specs.Rule.{Star, Hash, below, insert, pour}
use Rattle.placement.specs.Rule.{staying as rule·staying, passing as rule·passing, separator_from as rule·separator_from}
use Rattle.placement.proofs.Mapping.{Keeps, filter_map, staying-map}
use Rattle.placement.proofs.Order.{pour-pour}
use Rattle.page_separator.specs.Lists.{selected, all}
use Rattle.page_separator.specs.Words.{low_of}
use Rattle.page_separator.specs.Probes.{under, staying_words, passing_words, words_separator_from, homes_up_to}
use Rattle.page_plan.specs.Settle.{pour_low, slots_of, insert_low}
use Rattle.page_separator.proofs.Lists.{all_head, all_tail, all_append}
use Rattle.page_plan.proofs.Order.{pour-append}
use Rattle.page_plan.specs.Plans.{star_of, waits, homed}
use Rattle.page_plan.proofs.Pouring.{pour-cons, length-waits}
use Rattle.page_plan.proofs.RuleOverWords.{Probes, beyond, staying-tie, passing-tie}
use Rattle.page_plan.proofs.Sourcing.{leads, led, ordered, waits-cons, waits-poured}

module _ (H : Hash) (q : Parameters) (real : Probes H q) (g : Star → Star) (keeps : Keeps g) (p : ℕ) (l : List ℕ) (hl : homed H l ≡ true) (nl : homes_up_to p l ≡ true) where
  none-homed : homed H [] ≡ true
  unfolding homed all
  none-homed = refl

  none-beyond : beyond p [] ≡ true
  unfolding beyond all
  none-beyond = refl

  pub stay_tie : (v : ℕ) → rule·staying H p v (map g (waits l)) ≡ map g (waits (staying_words q p v l))
  stay_tie v =
      staying-map g keeps H p v (waits l)
      ∙ ap (map g) (rw (append-nil l) at (staying-tie H q real p l [] hl nl none-homed none-beyond v))

  pub pass_tie : (v : ℕ) → rule·passing H p v (map g (waits l)) ≡ map g (waits (passing_words q p v l))
  unfolding rule·passing
  pass_tie v =
      filter_map g keeps (λ (k : ℕ). not (below H p v k)) (waits l)
      ∙ ap (map g) (rw (append-nil l, append-nil (passing_words q p v l)) at (passing-tie H q real p l [] hl nl none-homed none-beyond v))

  pub lower-tie : (n : ℕ) → rule·separator_from H p (map g (waits l)) n ≡ words_separator_from q p l n
  unfolding rule·separator_from words_separator_from
  lower-tie zero = refl
  lower-tie (suc v) =
      rw (lower-tie v, stay_tie (suc v), length-map (waits (staying_words q p (suc v) l)) g, length-waits (staying_words q p (suc v) l), real.room_is)

-- words that join those that wait

-- in any order
pub waits-swap : (a b : List ℕ) → waits (a ++ b) ≡ waits (b ++ a)
unfolding waits slots_of
waits-swap a b = ap (map star_of) (poured a b ∙ swapped (map low_of a) (map low_of b) ∙ sym (poured b a))
  where
    poured : (x y : List ℕ) → pour_low (map low_of (x ++ y)) [] ≡ pour_low (map low_of y) (pour_low (map low_of x) [])
    poured x y = ap (λ (s : List ℕ). pour_low s []) (map-append low_of x y) ∙ pour-append (map low_of x) (map low_of y) []

    swapped : (x y : List ℕ) → pour_low y (pour_low x []) ≡ pour_low x (pour_low y [])
    swapped [] y = unfold pour_low in refl
    swapped (c ∷ x) y =
        ap (pour_low y) (pour-cons c x []) ∙ into y c (pour_low x []) ∙ ap (insert_low c) (swapped x y) ∙ sym (pour-cons c x (pour_low y []))
      where
        into : (y : List ℕ) (c : ℕ) (l : List ℕ) → pour_low y (insert_low c l) ≡ insert_low c (pour_low y l)
        into y c l = unfold pour_low in pour-cons c y l

-- each one inserted, where it goes before all later ones and before those that wait
pub waits-onto : (a w : List ℕ) → ordered a ≡ true → all (λ x. led x w) a ≡ true → waits (a ++ w) ≡ pour (map (λ x. star_of (low_of x)) a) (waits w)
unfolding pour
waits-onto [] w o e = refl
waits-onto (x ∷ a) w o e =
    let t : (led x a ≡ true) × (ordered a ≡ true) = unfold ordered in and-true (led x a) (ordered a) o in
    waits-cons x (a ++ w) (joined t.0 (all_head (λ y. led y w) x a e))
    ∙ ap (insert (star_of (low_of x))) (waits-onto a w t.1 (all_tail (λ y. led y w) x a e))
  where
    joined : led x a ≡ true → led x w ≡ true → led x (a ++ w) ≡ true
    joined s t = unfold led in all_append (λ y. leads (low_of x) (low_of y)) a w s t

-- .. so that the stars of both are poured together
pub waits-joined : (w a : List ℕ) → ordered a ≡ true → all (λ x. led x w) a ≡ true → waits (w ++ a) ≡ pour (waits a) (waits w)
unfolding pour
waits-joined w a o e =
    waits-swap w a
    ∙ waits-onto a w o e
    ∙ sym (pour-pour (map (λ x. star_of (low_of x)) a) [] (waits w))
    ∙ ap (λ (s : List Star). pour s (waits w)) (sym (waits-poured a o))

-- those that stay and those that pass on are all
pub parted : (q : Parameters) (p v : ℕ) (l : List ℕ) → length (staying_words q p v l) + length (passing_words q p v l) ≡ length l
unfolding staying_words passing_words selected
parted q p v [] = refl
parted q p v (x ∷ l) = go (under q p v x) (parted q p v l)
  where
    go : (t : Bool) → length (selected (under q p v) l) + length (selected (λ w. not (under q p v w)) l) ≡ length l
        → length (cond t (x ∷ selected (under q p v) l) (selected (under q p v) l))
        + length (cond (not t) (x ∷ selected (λ w. not (under q p v w)) l) (selected (λ w. not (under q p v w)) l))
        ≡ suc (length l)
    go true ih = omega arith
    go false ih = omega arith
