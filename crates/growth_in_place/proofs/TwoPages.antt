-- Two pages of a list written, one after the other: these are new, and the others stay.
use mathlib.Core.Path.{◌≡◌, sym, ap, ◌∙◌}
use mathlib.Core.List.{List, ◌++◌, map, append_assoc}
use Prim.Native.Nat.{ℕ, suc, ◌+◌, ◌-◌, ◌*◌, ◌≤◌, ◌<◌}
use native.Mathlib.Nat.{suc-mul}
use native.Mathlib.Decide.{dec_lt}
use native.Mathlib.Omega.{arith}
use lib.ListN.{length, take, drop, length-append, length-map, take-append-drop}
use lib.Seq.{length-take-le}
use Rattle.buffers.specs.Lists.{padded, written}
use Rattle.buffers.proofs.Lists.{length-padded}
use Rattle.buffers.proofs.Written.{length-written, taken-written}
use Rattle.pages.specs.Page.{part}
use Rattle.pages.proofs.Parts.{pages-apart, page-fits, part-front, part-back}
use Rattle.placement.specs.Rule.{Star}

module _ (b M q : ℕ) (inside : q < M) (X l : List ℕ) (size : length X ≡ b) (long : length l ≡ M * b) where
  fits : q * b + b ≤ length l
  fits = page-fits b M q inside long

  pub written-long : length (written (q * b) X l) ≡ length l
  written-long = length-written (q * b) X l (omega (arith, fits))

  pub part-here : part b q (written (q * b) X l) ≡ X
  unfolding part
  part-here = taken-written (q * b) b X l size (omega (arith, fits))

  pub part-there : (r : ℕ) → (r ≡ q → ⊥) → part b r (written (q * b) X l) ≡ part b r l
  unfolding written
  part-there r other = go (dec_lt r q)
    where
      front : List ℕ
      front = take (q * b) l

      front_long : length front ≡ q * b
      front_long = length-take-le (q * b) l (omega (arith, fits))

      ahead : length (front ++ X) ≡ suc q * b
      ahead = length-append front X ∙ omega (arith, front_long, suc-mul q b)

      upto : length (take (suc q * b) l) ≡ suc q * b
      upto = length-take-le (suc q * b) l (omega (arith, fits, suc-mul q b))

      next : q * b + length X ≡ suc q * b
      next = omega (arith, suc-mul q b)

      go : Dec (r < q) → part b r (front ++ (X ++ drop (q * b + length X) l)) ≡ part b r l
      go (yes h) =
          let near : suc r * b ≤ length front = omega (arith, front_long, pages-apart b r q h, suc-mul r b) in
          part-front b r front (X ++ drop (q * b + length X) l) near
          ∙ sym (part-front b r front (drop (q * b) l) near)
          ∙ ap (part b r) (take-append-drop (q * b) l)
      go (no h) =
          let j : ℕ = r - suc q in
          let at : suc q + j ≡ r = omega arith in
          ap (part b r) (sym (append_assoc front X (drop (q * b + length X) l)))
          ∙ ap (λ (k : ℕ). part b k (front ++ X ++ drop (q * b + length X) l)) (sym at)
          ∙ part-back b (suc q) j (front ++ X) (drop (q * b + length X) l) ahead
          ∙ ap (λ (k : ℕ). part b j (drop k l)) next
          ∙ sym (part-back b (suc q) j (take (suc q * b) l) (drop (suc q * b) l) upto)
          ∙ ap (λ (k : ℕ). part b k (take (suc q * b) l ++ drop (suc q * b) l)) at
          ∙ ap (part b r) (take-append-drop (suc q * b) l)

-- page `new` has the column of L by f, page `old` that of N by h
pub record TwoPages (b M new old : ℕ) (f h : Star → ℕ) (L N : List Star) (l l' : List ℕ) : Type 0 where
  pub long : length l' ≡ length l
  pub here : part b new l' ≡ padded b (map f L)
  pub there : part b old l' ≡ padded b (map h N)
  pub others : (r : ℕ) → (r ≡ new → ⊥) → (r ≡ old → ⊥) → part b r l' ≡ part b r l

pub two_pages : (b M new old : ℕ) (f h : Star → ℕ) (L N : List Star) (l l' : List ℕ) → new < M → old < M → (new ≡ old → ⊥)
    → length L ≤ b → length N ≤ b → length l ≡ M * b → l' ≡ written (old * b) (padded b (map h N)) (written (new * b) (padded b (map f L)) l)
    → TwoPages b M new old f h L N l l'
two_pages b M new old f h L N l l' hn ho apart few_l few_n e is =
    record {
      long = ap length is ∙ written-long b M old ho Y m size_y longm ∙ written-long b M new hn X l size_x e;
      here = ap (part b new) is ∙ part-there b M old ho Y m size_y longm new apart ∙ part-here b M new hn X l size_x e;
      there = ap (part b old) is ∙ part-here b M old ho Y m size_y longm;
      others = λ r a c. ap (part b r) is ∙ part-there b M old ho Y m size_y longm r c ∙ part-there b M new hn X l size_x e r a;
    }
  where
    X : List ℕ
    X = padded b (map f L)

    Y : List ℕ
    Y = padded b (map h N)

    size_x : length X ≡ b
    size_x = length-padded b (map f L) (rw (length-map L f) few_l)

    size_y : length Y ≡ b
    size_y = length-padded b (map h N) (rw (length-map N h) few_n)

    m : List ℕ
    m = written (new * b) X l

    longm : length m ≡ M * b
    longm = written-long b M new hn X l size_x e ∙ e
