-- An entry into sound pages that are what the rule gives their stars: where its cascade ends there, that stretch is its reach, and the cascade writes what the entry writes.
use mathlib.Core.Path.{◌≡◌, refl, sym, ap, ◌∙◌}
use mathlib.Core.Bool.{Bool, true, false}
use mathlib.Core.List.{List, [], ◌∷◌, ◌++◌, append_assoc}
use Prim.Native.Nat.{ℕ, ◌+◌, ◌-◌, ◌*◌, ◌≤◌, ◌<◌}
use native.Mathlib.Nat.{zero-add, mul-le-mul_right}
use native.Mathlib.Omega.{arith}
use lib.ListN.{length, take, drop, get_or, length-append}
use lib.Seq.{length-take-le}
use Rattle.buffers.specs.Lists.{written}
use Rattle.buffers.proofs.Written.{written-middle}
use Rattle.placement.specs.Rule.{Star, Hash, Contents, below, pages, left, first, insert, pour, separators}
use Rattle.placement.specs.File.{File, pages_at, gathered, column, replaced}
use Rattle.placement.specs.Shape.{Sized}
use Rattle.placement.proofs.Filters.{filter-all}
use Rattle.placement.proofs.Standing.{length-separators, first-before}
use Rattle.placement.proofs.Order.{Absent}
use Rattle.placement.proofs.Writing.{Roomy, roomy-append, separators-append, column-append, length-column}
use Rattle.placement.proofs.Files.{number_of, word_of, owner_of, length-pages_at, roomy-pages, replaced-add}
use Rattle.placement.proofs.Sound.{AllSound, gathered-rising, sound-fits, replaced-same}
use Rattle.reach.specs.Cascade.{cascaded, carried_past}
use Rattle.reach.proofs.Cascading.{length-cascaded, roomy-cascaded, pages_at-add, said-after, new-pages, new-left}

-- Writing over part of what stands there already.
written_over : (a : ℕ) (q c r l : List ℕ) → length c ≡ length q → a ≤ length l → written a (q ++ r) l ≡ l → written a (c ++ r) l ≡ written a c l
unfolding written
written_over a q c r l e h said =
    ap (λ (x : List ℕ). take a l ++ x) (append_assoc c r (drop (a + length (c ++ r)) l) ∙ ap (λ (n : ℕ). c ++ (r ++ drop (a + n) l)) same)
    ∙ sym (written-middle a (take a l) q c (r ++ drop (a + length (q ++ r)) l) (length-take-le a l h) e)
    ∙ ap (written a c) (ap (λ (x : List ℕ). take a l ++ x) (sym (append_assoc q r (drop (a + length (q ++ r)) l))) ∙ said)
  where
    same : length (c ++ r) ≡ length (q ++ r)
    same = length-append c r ∙ ap (λ (n : ℕ). n + length r) e ∙ sym (length-append q r)

replaced-over : (b M : ℕ) (f : File) (p : ℕ) (Q C R : List Contents) → Sized b M f → Roomy b Q → Roomy b C → length C ≡ length Q → p ≤ M
    → replaced b f p (Q ++ R) ≡ f → replaced b f p (C ++ R) ≡ replaced b f p C
unfolding replaced
replaced-over b M f p Q C R z rq rc e h said =
    λ i. record {
      separators = first-list i;
      numbers = other number_of f.numbers z.of_numbers (ap (λ (x : File). x.numbers) said) i;
      words = other word_of f.words z.of_words_lem (ap (λ (x : File). x.words) said) i;
      owners = other owner_of f.owners z.of_owners (ap (λ (x : File). x.owners) said) i;
    }
  where
    first-list : written p (separators (C ++ R)) f.separators ≡ written p (separators C) f.separators
    first-list =
        ap (λ (l : List ℕ). written p l f.separators) (separators-append C R)
        ∙ written_over p (separators Q) (separators C) (separators R) f.separators (length-separators C ∙ e ∙ sym (length-separators Q)) (omega (arith, z.of_separators))
        (ap (λ (l : List ℕ). written p l f.separators) (sym (separators-append Q R)) ∙ ap (λ (x : File). x.separators) said)

    other : (g : Star → ℕ) (l : List ℕ) → length l ≡ M * b → written (p * b) (column b g (Q ++ R)) l ≡ l
        → written (p * b) (column b g (C ++ R)) l ≡ written (p * b) (column b g C) l
    other g l size d =
        ap (λ (x : List ℕ). written (p * b) x l) (column-append b g C R)
        ∙ written_over (p * b) (column b g Q) (column b g C) (column b g R) l
        (length-column b g C rc ∙ ap (λ (n : ℕ). n * b) e ∙ sym (length-column b g Q rq))
        (omega (arith, size, mul-le-mul_right b h))
        (ap (λ (x : List ℕ). written (p * b) x l) (sym (column-append b g Q R)) ∙ d)

-- The stretch of n pages from the star's home, of which the first q have separators that pass it by.
module _ (ok : ℕ → Bool) (H : Hash) (M : ℕ) (f : File) (sized : Sized H.room M f) (s : Star) (q m : ℕ)
    (inside : H.home s.number + (q + m) ≤ M) (all : AllSound ok H f (H.home s.number) (q + m))
    (said : pages_at H.room f (H.home s.number) (q + m) ≡ pages H (H.home s.number) (q + m) (gathered H.room f (H.home s.number) (q + m)))
    (absent : Absent s.number (gathered H.room f (H.home s.number) (q + m)))
    (named : first H 0 f.separators s.number ≡ H.home s.number + q)
    (ends : carried_past H f (H.home s.number + q) m (s ∷ []) ≡ []) where
  abbrev from : ℕ
  from = H.home s.number

  abbrev G : List Star
  G = gathered H.room f from (q + m)

  abbrev C : List Contents
  C = cascaded H f (from + q) m (s ∷ [])

  above : (i : ℕ) → from ≤ i → i < from + q → below H i (get_or f.separators i 0) s.number ≡ false
  above i g h = rw (zero-add i) at (first-before H 0 i f.separators s.number (omega (arith, sized.of_separators, inside)) (omega (arith, zero-add i, named)))

  pub stretch-leaves : left H from (q + m) (insert s G) ≡ []
  unfolding pour
  stretch-leaves =
      new-left H f from q m G s (gathered-rising ok H f from (q + m) all) absent said above
      ∙ ap (λ (l : List Star). pour l (carried_past H f (from + q) m (s ∷ [])))
      (ap (left H from (q + m)) (sym (filter-all (λ (x : Star). true) (λ x. refl) G)) ∙ sound-fits ok H f M from (q + m) (λ (x : Star). true) sized inside all)
      ∙ ends

  few : length C ≤ m
  few = length-cascaded H f (from + q) m (s ∷ [])

  -- the pages before those visited, those visited, and those after them, as the file says them
  A : List Contents
  A = pages_at H.room f from q

  Q : List Contents
  Q = pages_at H.room f (from + q) (length C)

  R : List Contents
  R = pages_at H.room f (from + q + length C) (m - length C)

  parts : pages_at H.room f (from + q) m ≡ Q ++ R
  unfolding Q R
  parts =
      let sum : m ≡ length C + (m - length C) = omega (arith, few) in
      ap (pages_at H.room f (from + q)) sum ∙ pages_at-add H.room f (from + q) (length C) (m - length C)

  said-parts : pages H from (q + m) G ≡ A ++ (Q ++ R)
  unfolding A
  said-parts = sym said ∙ pages_at-add H.room f from q m ∙ ap (λ (l : List Contents). pages_at H.room f from q ++ l) parts

  entered-parts : pages H from (q + m) (insert s G) ≡ A ++ (C ++ R)
  unfolding A Q
  entered-parts =
      new-pages H f from q m G s (gathered-rising ok H f from (q + m) all) absent said above
      ∙ ap (written q C) said-parts
      ∙ written-middle q A Q C R (length-pages_at H.room f from q) (sym (length-pages_at H.room f (from + q) (length C)))

  roomy-q : Roomy H.room Q
  unfolding Q
  roomy-q =
      (roomy-append H.room Q R
      (rw parts at (rw (sym (said-after H f from q m G s (gathered-rising ok H f from (q + m) all) absent said above)) at (roomy-pages H (from + q) m (left H from q G))))).0

  -- The entry writes what the cascade writes.
  pub stretch-file : replaced H.room f from (pages H from (q + m) (insert s G)) ≡ replaced H.room f (from + q) C
  unfolding A Q
  stretch-file =
      ap (replaced H.room f from) entered-parts
      ∙ sym (replaced-add H.room M f from A (C ++ R) sized roomy-a (omega (arith, inside)))
      ∙ ap (λ (x : File). replaced H.room x (from + length A) (C ++ R)) (replaced-same ok H f M from q sized (omega (arith, inside)) (λ p a h. all p a (omega arith)))
      ∙ ap (λ (n : ℕ). replaced H.room f (from + n) (C ++ R)) (length-pages_at H.room f from q)
      ∙ replaced-over H.room M f (from + q) Q C R sized roomy-q (roomy-cascaded H f (from + q) m (s ∷ [])) (sym (length-pages_at H.room f (from + q) (length C))) (omega (arith, inside))
      (ap (replaced H.room f (from + q)) (sym parts) ∙ replaced-same ok H f M (from + q) m sized (omega (arith, inside)) (λ p a h. all p (omega arith) (omega arith)))
    where
      roomy-a : Roomy H.room (pages_at H.room f from q)
      roomy-a = (roomy-append H.room (pages_at H.room f from q) (Q ++ R) (rw said-parts at (roomy-pages H from (q + m) G))).0
