-- The rule over sound pages without a star, ended early: where the first pages hold one star fewer than before, what is left is what stands
-- on the later pages.
use mathlib.Core.Path.{◌≡◌, refl, sym, ap, ◌∙◌}
use mathlib.Core.Bool.{Bool, true, false, not, ◌&&◌}
use mathlib.Core.List.{List, [], ◌∷◌, ◌++◌, Memᴰ}
use Prim.Native.Nat.{ℕ, zero, suc, ◌+◌, ◌*◌, ◌≤◌, ◌<◌, zero-le}
use native.Mathlib.Nat.{zero-add, add-mul, mul-le-mul_right}
use native.Mathlib.Omega.{arith}
use lib.Dec.{eqb}
use lib.ListN.{length, get_or, take, drop, length-drop}
use lib.Seq.{length-take-le, get_or-take, get_or-drop}
use borrow.Author.Tests.{ne_eqb, eqb-true}
use Rattle.buffers.specs.Lists.{written}
use Rattle.buffers.proofs.Written.{written_same, written_behind, taken-written, length-written}
use Rattle.placement.specs.Rule.{Star, Hash, Contents, keep, filter, below, staying, passing, separator_of, contents_of, onward, pages, left, first, pour, without, separators}
use Rattle.placement.specs.Shape.{collected, blank}
use Rattle.placement.specs.File.{File, pages_at, gathered, column, replaced}
use Rattle.placement.specs.Shape.{Sized}
use Rattle.placement.proofs.Filters.{filter-filter, filter-all-on, filter-none-on, length-filter, length-split}
use Rattle.placement.proofs.Order.{Rising, rising-member, filter-pour, length-pour}
use Rattle.placement.proofs.Composition.{pages-add, length-pages, take-pages}
use Rattle.placement.proofs.Standing.{length-separators, stands_at, left-first, first_in, first-later, first-within}
use Rattle.placement.proofs.Mixture.{first-mono}
use Rattle.placement.proofs.Writing.{get_d_separators, length-column}
use Rattle.placement.proofs.Files.{number_of, word_of, owner_of, length-pages_at, roomy-pages, replaced-add}
use Rattle.placement.proofs.Sound.{AllSound, sorted-gathered, gathered-add, gathered-first, gathered-rising, sound-stored, replaced-same}

-- a filter that drops nothing
filter-full : (q : Star → Bool) (l : List Star) → length l ≤ length (filter q l) → filter q l ≡ l
unfolding filter
filter-full q [] e = refl
filter-full q (x ∷ l) e = go (q x) e (filter-full q l)
  where
    go : (t : Bool) → suc (length l) ≤ length (keep t x (filter q l)) → (length l ≤ length (filter q l) → filter q l ≡ l) → keep t x (filter q l) ≡ x ∷ l
    go true e ih = ap (λ (m : List Star). x ∷ m) (ih (omega arith))
    go false e ih = absurd (omega (arith, length-filter q l))

-- numbers that differ: at most one star goes
fewer : (j k : ℕ) (w : List Star) → Rising j w → length w ≤ suc (length (without k w))
unfolding without filter
fewer j k [] r = zero-le
fewer j k (s ∷ w) r = go (eqb s.number k) refl (fewer (suc s.number) k w r.1)
  where
    rest : s.number ≡ k → filter (λ (t : Star). not (eqb t.number k)) w ≡ w
    rest e =
        filter-all-on (λ (t : Star). not (eqb t.number k)) w
        (λ t m. ap not (ne_eqb t.number k (λ z. omega (arith, rising-member (suc s.number) w r.1 t m))))

    go : (t : Bool) → eqb s.number k ≡ t → length w ≤ suc (length (filter (λ (t : Star). not (eqb t.number k)) w))
        → suc (length w) ≤ suc (length (keep (not t) s (filter (λ (t : Star). not (eqb t.number k)) w)))
    go true e ih = omega (arith, ap length (rest (eqb-true s.number k e)))
    go false e ih = omega arith

-- what the pages get and what is left are all
pub counted : (H : Hash) (p n : ℕ) (w : List Star) → length (collected (pages H p n w)) + length (left H p n w) ≡ length w
unfolding pages left collected contents_of onward staying passing
counted H p zero w = omega arith
counted H p (suc n) w =
    omega (
      arith,
      length-pour (staying H p (separator_of H p w) w) (collected (pages H (suc p) n (onward H p w))),
      counted H (suc p) n (onward H p w),
      length-split (λ (s : Star). below H p (separator_of H p w) s.number) w,
    )

-- what stands behind the items written, written again
written_over : (a b : ℕ) (c r l : List ℕ) → a + length c ≡ b → b + length r ≤ length l → written b r l ≡ l → written b r (written a c l) ≡ written a c l
written_over a b c r l e h said =
    ap (λ (x : List ℕ). written b x (written a c l)) there
    ∙ written_same b (length r) (written a c l) (omega (arith, length-written a c l (omega arith)))
  where
    there : r ≡ take (length r) (drop b (written a c l))
    there =
        sym (taken-written b (length r) r l refl (omega arith))
        ∙ ap (λ (x : List ℕ). take (length r) (drop b x)) said
        ∙ ap (take (length r)) (sym (written_behind a b c l (omega arith) e))

-- n + m sound pages from page p on, and the rule over their stars but the star k
module _ (ok : ℕ → Bool) (H : Hash) (M : ℕ) (f : File) (sized : Sized H.room M f) (p n m k : ℕ) (inside : p + (n + m) ≤ M) (all : AllSound ok H f p (n + m)) where
  abbrev G : List Star
  G = gathered H.room f p (n + m)

  abbrev A : List Star
  A = gathered H.room f p n

  abbrev R : List Star
  R = gathered H.room f (p + n) m

  abbrev C : List Contents
  C = pages H p n (without k G)

  stored : List ℕ
  stored = take n (drop p f.separators)

  count-stored : length stored ≡ n
  unfolding stored
  count-stored = length-take-le n (drop p f.separators) (omega (arith, length-drop p f.separators, sized.of_separators, inside))

  -- the new separators of the first pages are at or above the stored ones
  raised : (i : ℕ) → i < length stored → get_or stored i 0 ≤ get_or (separators C) i 0
  unfolding stored without
  raised i h =
      let low : i < n = omega (arith, count-stored) in
      rw (get_or-take n (drop p f.separators) i 0 low, get_or-drop p f.separators i 0, get_d_separators C i, ← take-pages H p n m (without k G), get_or-take n (pages H p (n + m) (without k G)) i blank low)
      (rw (get_d_separators (pages H p (n + m) (without k G)) i) at
      (sound-stored ok H f M p (n + m) i (λ (s : Star). not (eqb s.number k)) sized inside all (omega arith)))

  -- so their stars find places there
  front-stays : (s : Star) → Memᴰ s A → eqb (first_in H p n (without k G) s.number) (p + n) ≡ false
  unfolding stored
  front-stays s there =
      let at = gathered-first ok H f p n (λ q a b. all q a (omega arith)) s there in
      let later : first H p (drop p f.separators) s.number ≡ first H 0 f.separators s.number =
      rw (zero-add p) at (first-later H 0 p f.separators s.number (omega (arith, sized.of_separators, inside)) (rw (zero-add p) at.0)) in
      let within : first H p stored s.number ≡ first H p (drop p f.separators) s.number =
      first-within H p n (drop p f.separators) s.number (omega (arith, later, at.1)) in
      let lower = first-mono H p stored (separators C) s.number (length-separators C ∙ length-pages H p n (without k G) ∙ sym count-stored) raised in
      ne_eqb (first_in H p n (without k G) s.number) (p + n) (λ e. omega (arith, e, within, later, at.1, lower))

  passes : Star → Bool
  passes s = not (eqb s.number k) && stands_at H p (separators C) (p + n) s

  left_is : left H p n (without k G) ≡ filter passes R
  unfolding without pour passes
  left_is =
      left-first H p n (without k G)
      ∙ filter-filter (stands_at H p (separators C) (p + n)) (λ (s : Star). not (eqb s.number k)) G
      ∙ ap (filter passes) (gathered-add H.room f p n m)
      ∙ filter-pour passes A R (sorted-gathered H.room f (p + n) m)
      ∙ ap (λ (l : List Star). pour l (filter passes R)) (filter-none-on passes A (λ s there. rw (front-stays s there) (off (not (eqb s.number k)))))
    where
      off : (t : Bool) → t && false ≡ false
      off true = refl
      off false = refl

  module _ (ended : length (collected C) + 1 ≡ length A) where
    left-same : left H p n (without k G) ≡ R
    left-same =
        let rising : Rising 0 G = gathered-rising ok H f p (n + m) all in
        left_is ∙ filter-full passes R
        (omega (
          arith,
          ended,
          ap length left_is,
          counted H p n (without k G),
          fewer 0 k G rising,
          ap length (gathered-add H.room f p n m),
          length-pour A R,
        ))

    -- the later pages are the rule's
    module _ (ruled : pages_at H.room f (p + n) m ≡ pages H (p + n) m R) where
      abbrev rest : List Contents
      rest = pages_at H.room f (p + n) m

      rest-same : replaced H.room (replaced H.room f p C) (p + n) rest ≡ replaced H.room f p C
      unfolding replaced
      rest-same =
          λ i. record {
            separators = first-list i;
            numbers = other number_of f.numbers sized.of_numbers (ap (λ (x : File). x.numbers) said) i;
            words = other word_of f.words sized.of_words_lem (ap (λ (x : File). x.words) said) i;
            owners = other owner_of f.owners sized.of_owners (ap (λ (x : File). x.owners) said) i;
          }
        where
          said : replaced H.room f (p + n) rest ≡ f
          said = replaced-same ok H f M (p + n) m sized (omega (arith, inside)) (λ q a b. all q (omega arith) (omega arith))

          first-list : written (p + n) (separators rest) (written p (separators C) f.separators) ≡ written p (separators C) f.separators
          first-list =
              written_over p (p + n) (separators C) (separators rest) f.separators (omega (arith, length-separators C, length-pages H p n (without k G)))
              (omega (arith, length-separators rest, length-pages_at H.room f (p + n) m, sized.of_separators, inside)) (ap (λ (x : File). x.separators) said)

          other : (g : Star → ℕ) (l : List ℕ) → length l ≡ M * H.room → written ((p + n) * H.room) (column H.room g rest) l ≡ l
              → written ((p + n) * H.room) (column H.room g rest) (written (p * H.room) (column H.room g C) l) ≡ written (p * H.room) (column H.room g C) l
          other g l e h =
              let front : length (column H.room g C) ≡ n * H.room = length-column H.room g C (roomy-pages H p n (without k G)) ∙ ap (λ (i : ℕ). i * H.room) (length-pages H p n (without k G)) in
              let back : length (column H.room g rest) ≡ m * H.room =
              length-column H.room g rest (rw ruled (roomy-pages H (p + n) m R)) ∙ ap (λ (i : ℕ). i * H.room) (length-pages_at H.room f (p + n) m) in
              written_over (p * H.room) ((p + n) * H.room) (column H.room g C) (column H.room g rest) l (omega (arith, front, add-mul p n H.room))
              (omega (arith, back, e, add-mul (p + n) m H.room, mul-le-mul_right H.room inside')) h
            where
              inside' : p + n + m ≤ M
              inside' = omega (arith, inside)

      pub front-file : replaced H.room f p (pages H p (n + m) (without k G)) ≡ replaced H.room f p C
      front-file =
          ap (replaced H.room f p)
          (pages-add H p n m (without k G) ∙ ap (λ (l : List Star). C ++ pages H (p + n) m l) left-same ∙ ap (λ (cs : List Contents). C ++ cs) (sym ruled))
          ∙ sym (replaced-add H.room M f p C rest sized (roomy-pages H p n (without k G)) (omega (arith, inside)))
          ∙ ap (λ (i : ℕ). replaced H.room (replaced H.room f p C) (p + i) rest) (length-pages H p n (without k G))
          ∙ rest-same
