-- Laws of `part` and `column`: pages in the lent buffers.
use mathlib.Core.Path.{◌≡◌, refl, sym, ap, ◌∙◌}
use mathlib.Core.List.{List, [], ◌∷◌, ◌++◌, map, append_assoc}
use Prim.Native.Nat.{ℕ, zero, suc, ◌+◌, ◌-◌, ◌*◌, ◌≤◌, ◌<◌}
use native.Mathlib.Nat.{add_comm, suc-mul, zero-mul}
use native.Mathlib.Omega.{arith}
use lib.ListN.{length, take, drop, get_or, length-append, length-drop, length-map, take-append-drop, get_or-map}
use lib.Seq.{take_at, drop_at, length-take-le, drop-drop}
use Rattle.buffers.specs.Lists.{written, padded}
use Rattle.buffers.proofs.Lists.{length-padded}
use Rattle.buffers.proofs.Written.{around, written-middle}
use Rattle.placement.specs.Rule.{Star, Contents, separators}
use Rattle.placement.specs.Shape.{blank}
use Rattle.pages.specs.Page.{part}
use Rattle.pages.proofs.Parts.{part_length, page-fits}
use Rattle.placement.specs.File.{column}
use Rattle.placement.proofs.Standing.{length-separators}

pub part-zero : (b : ℕ) (l : List ℕ) → part b 0 l ≡ take b l
unfolding part
part-zero b l = rw (zero-mul b)

pub part-suc : (b p : ℕ) (l : List ℕ) → part b (suc p) l ≡ part b p (drop b l)
unfolding part
part-suc b p l =
    ap (take b) (ap (λ (k : ℕ). drop k l) (suc-mul p b ∙ add_comm (p * b) b) ∙ sym (drop-drop (p * b) b l))

-- Page q of a list that goes on, and page i + j of one that begins with i pages.
pub length_part : (b p M : ℕ) (l : List ℕ) → length l ≡ M * b → p < M → length (part b p l) ≡ b
length_part b p M l e h = part_length b p l (page-fits b M p h e)

-- A list of M pages is determined by them.
pub parts_same : (b M : ℕ) (k l : List ℕ) → length k ≡ M * b → length l ≡ M * b → ((p : ℕ) → p < M → part b p k ≡ part b p l) → k ≡ l
parts_same b zero k l ek el h = empty k (ek ∙ zero-mul b) ∙ sym (empty l (el ∙ zero-mul b))
  where
    empty : (m : List ℕ) → length m ≡ 0 → m ≡ []
    empty [] e = refl
    empty (x ∷ xs) e = absurd (omega arith)
parts_same b (suc M) k l ek el h =
    sym (take-append-drop b k)
    ∙ ap (λ (m : List ℕ). m ++ drop b k) (sym (part-zero b k) ∙ h 0 (omega arith) ∙ part-zero b l)
    ∙ ap (λ (m : List ℕ). take b l ++ m)
    (parts_same b M (drop b k) (drop b l) (shorter k ek) (shorter l el) (λ p g. sym (part-suc b p k) ∙ h (suc p) (omega arith) ∙ part-suc b p l))
    ∙ take-append-drop b l
  where
    shorter : (m : List ℕ) → length m ≡ suc M * b → length (drop b m) ≡ M * b
    shorter m e = omega (arith, length-drop b m, suc-mul M b)

-- At most so many stars on each page.
abbrev pub Roomy : ℕ → List Contents → Type 0
Roomy b [] = Unit {0}
Roomy b (c ∷ cs) = (length c.stars ≤ b) × Roomy b cs

pub roomy-append : (b : ℕ) (cs ds : List Contents) → Roomy b (cs ++ ds) → Roomy b cs × Roomy b ds
roomy-append b [] ds r = (tt, r)
roomy-append b (c ∷ cs) ds r = ((r.0, (roomy-append b cs ds r.1).0), (roomy-append b cs ds r.1).1)

pub append_roomy : (b : ℕ) (cs ds : List Contents) → Roomy b cs → Roomy b ds → Roomy b (cs ++ ds)
append_roomy b [] ds r s = s
append_roomy b (c ∷ cs) ds r s = (r.0, append_roomy b cs ds r.1 s)

pub separators-append : (cs ds : List Contents) → separators (cs ++ ds) ≡ separators cs ++ separators ds
unfolding separators
separators-append [] ds = refl
separators-append (c ∷ cs) ds = ap (λ (l : List ℕ). c.separator ∷ l) (separators-append cs ds)

pub get_d_separators : (cs : List Contents) (i : ℕ) → get_or (separators cs) i 0 ≡ (get_or cs i blank).separator
unfolding separators
get_d_separators cs i = get_or-map (λ (c : Contents). c.separator) cs i blank

module _ (b : ℕ) (g : Star → ℕ) where
  pub column-append : (cs ds : List Contents) → column b g (cs ++ ds) ≡ column b g cs ++ column b g ds
  unfolding column
  column-append [] ds = refl
  column-append (c ∷ cs) ds =
      ap (λ (l : List ℕ). padded b (map g c.stars) ++ l) (column-append cs ds)
      ∙ sym (append_assoc (padded b (map g c.stars)) (column b g cs) (column b g ds))

  pub length-column : (cs : List Contents) → Roomy b cs → length (column b g cs) ≡ length cs * b
  unfolding column
  length-column [] r = sym (zero-mul b)
  length-column (c ∷ cs) r =
      length-append (padded b (map g c.stars)) (column b g cs)
      ∙ omega (arith, length-padded b (map g c.stars) (rw (length-map c.stars g) r.0), length-column cs r.1, suc-mul (length cs) b)

  pub part-column : (cs : List Contents) (p : ℕ) → Roomy b cs → p < length cs → part b p (column b g cs) ≡ padded b (map g (get_or cs p blank).stars)
  unfolding column
  part-column [] p r h = absurd (omega arith)
  part-column (c ∷ cs) zero r h =
      part-zero b (column b g (c ∷ cs)) ∙ take_at (padded b (map g c.stars)) (column b g cs) b (length-padded b (map g c.stars) (rw (length-map c.stars g) r.0))
  part-column (c ∷ cs) (suc p) r h =
      part-suc b p (column b g (c ∷ cs))
      ∙ ap (part b p) (drop_at (padded b (map g c.stars)) (column b g cs) b (length-padded b (map g c.stars) (rw (length-map c.stars g) r.0)))
      ∙ part-column cs p r.1 (omega arith)

  pub written-column : (p : ℕ) (ds cs : List Contents) → Roomy b cs → Roomy b ds → p + length ds ≤ length cs
      → written (p * b) (column b g ds) (column b g cs) ≡ column b g (written p ds cs)
  unfolding written
  written-column p ds cs rc rd h =
      ap (written (p * b) (column b g ds)) (ap (column b g) whole ∙ column-append P (Q ++ R) ∙ ap (λ (l : List ℕ). column b g P ++ l) (column-append Q R))
      ∙ written-middle (p * b) (column b g P) (column b g Q) (column b g ds) (column b g R)
      (length-column P roomy_p ∙ ap (λ (k : ℕ). k * b) length_p)
      (length-column ds rd ∙ sym (length-column Q roomy_q ∙ ap (λ (k : ℕ). k * b) length_q))
      ∙ ap (λ (l : List ℕ). column b g P ++ l) (sym (column-append ds R))
      ∙ sym (column-append P (ds ++ R))
    where
      P : List Contents
      P = take p cs

      Q : List Contents
      Q = take (length ds) (drop p cs)

      R : List Contents
      R = drop (p + length ds) cs

      whole : cs ≡ P ++ (Q ++ R)
      whole = around p (length ds) cs

      roomy : Roomy b (P ++ (Q ++ R))
      roomy = rw whole at rc

      roomy_p : Roomy b P
      roomy_p = (roomy-append b P (Q ++ R) roomy).0

      roomy_q : Roomy b Q
      roomy_q = (roomy-append b Q R (roomy-append b P (Q ++ R) roomy).1).0

      length_p : length P ≡ p
      length_p = length-take-le p cs (omega arith)

      length_q : length Q ≡ length ds
      length_q = length-take-le (length ds) (drop p cs) (omega (arith, length-drop p cs))

pub written-separators : (p : ℕ) (ds cs : List Contents) → p + length ds ≤ length cs → written p (separators ds) (separators cs) ≡ separators (written p ds cs)
unfolding written
written-separators p ds cs h =
    ap (written p (separators ds)) (ap separators (around p (length ds) cs) ∙ separators-append P (Q ++ R) ∙ ap (λ (l : List ℕ). separators P ++ l) (separators-append Q R))
    ∙ written-middle p (separators P) (separators Q) (separators ds) (separators R)
    (length-separators P ∙ length-take-le p cs (omega arith))
    (length-separators ds ∙ sym (length-separators Q ∙ length-take-le (length ds) (drop p cs) (omega (arith, length-drop p cs))))
    ∙ ap (λ (l : List ℕ). separators P ++ l) (sym (separators-append ds R))
    ∙ sym (separators-append P (ds ++ R))
  where
    P : List Contents
    P = take p cs

    Q : List Contents
    Q = take (length ds) (drop p cs)

    R : List Contents
    R = drop (p + length ds) cs
