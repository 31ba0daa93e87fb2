-- Files that are alike in their first pages: no spot differs, and the other way round.
use mathlib.Core.Path.{◌≡◌, refl, sym, ap, ◌∙◌}
use mathlib.Core.Bool.{Bool, true, false, not, cond, ◌||◌, true≢false}
use Prim.Native.Nat.{ℕ, zero, suc, ◌+◌, ◌*◌, ◌/◌, ◌%◌, ◌≤◌, ◌<◌}
use native.Mathlib.Nat.{zero-add, mod-lt, div-add-mod', div-lt_iff_lt-mul, le_refl, mul-zero}
use native.Mathlib.Decide.{dec_lt}
use native.Mathlib.Omega.{arith}
use lib.Dec.{eqb, ltb}
use lib.ListN.{get_or}
use lib.Seq.{ext_get_or}
use borrow.Author.Tests.{lt-ltb, le-ltb, ltb-true, eq-eqb, eqb-true, not-false}
use Rattle.buffers.proofs.Tests.{either-false}
use Rattle.placement.specs.File.{File}
use Rattle.placement.specs.Shape.{Sized}
use Rattle.reach.specs.Reach.{first_such}
use Rattle.reach.proofs.Search.{Such, such}
use Rattle.calls.specs.Spots.{differ, differ_at, spot_in}
use Rattle.calls.proofs.Spots.{spot_page, spot_place, spot_within, item-within}

-- no number passes the test
pub none-such : (test : ℕ → Bool) (from n : ℕ) → ((q : ℕ) → q < from + n → test q ≡ false) → first_such test from n ≡ from + n
none-such test from n h = go (dec_lt (first_such test from n) (from + n))
  where
    found : Such test from n (first_such test from n)
    found = such test from n

    go : Dec (first_such test from n < from + n) → first_such test from n ≡ from + n
    go (yes d) = absurd (true≢false (sym (found.passes d) ∙ h (first_such test from n) d))
    go (no d) = omega (arith, found.high)

-- a search goes by what the test says of these numbers
pub such-same : (t u : ℕ → Bool) (from n : ℕ) → ((q : ℕ) → q < from + n → t q ≡ u q) → first_such t from n ≡ first_such u from n
unfolding first_such
such-same t u from zero h = refl
such-same t u from (suc n) h = rw (h from (omega arith), such-same t u (suc from) n (λ q k. h q (omega arith)))

pub record Alike (count places : ℕ) (f l : File) : Type 0 where
  pub separators : (q : ℕ) → q < count → get_or f.separators q 0 ≡ get_or l.separators q 0
  pub numbers : (i : ℕ) → i < count * places → get_or f.numbers i 0 ≡ get_or l.numbers i 0
  pub words : (i : ℕ) → i < count * places → get_or f.words i 0 ≡ get_or l.words i 0
  pub owners : (i : ℕ) → i < count * places → get_or f.owners i 0 ≡ get_or l.owners i 0

pub alike_self : (count places : ℕ) (f : File) → Alike count places f f
alike_self count places f = record { separators = λ q h. refl; numbers = λ i h. refl; words = λ i h. refl; owners = λ i h. refl }

spot_count : (count places j : ℕ) → j < 0 + count * suc places → j / suc places < count
spot_count count places j h =
    let some : 0 < suc places = omega arith in
    (div-lt_iff_lt-mul some).1 (rw (zero-add (count * suc places)) at h)

module _ (count places : ℕ) (f l m : File) (a : Alike count places l m) where
  differ-alike : (page place : ℕ) → page < count → differ places f l page place ≡ differ places f m page place
  unfolding differ
  differ-alike page place h = go (ltb place places) refl
    where
      i : ℕ
      i = page * places + place

      go : (t : Bool) → ltb place places ≡ t
          → cond t
          (not (eqb (get_or f.numbers i 0) (get_or l.numbers i 0))
          || (not (eqb (get_or f.words i 0) (get_or l.words i 0)) || not (eqb (get_or f.owners i 0) (get_or l.owners i 0))))
          (not (eqb (get_or f.separators page 0) (get_or l.separators page 0)))
          ≡ cond t
          (not (eqb (get_or f.numbers i 0) (get_or m.numbers i 0))
          || (not (eqb (get_or f.words i 0) (get_or m.words i 0)) || not (eqb (get_or f.owners i 0) (get_or m.owners i 0))))
          (not (eqb (get_or f.separators page 0) (get_or m.separators page 0)))
      go true e =
          let k : i < count * places = item-within count places page place h (ltb-true place places e) in
          rw (a.numbers i k, a.words i k, a.owners i k)
      go false e = rw (a.separators page h)

  pub spot_alike : spot_in count places f l ≡ spot_in count places f m
  spot_alike =
      such-same (differ_at places f l) (differ_at places f m) 0 (count * suc places)
      (λ j h. differ-alike (j / suc places) (j % suc places) (spot_count count places j h))

same_spot : (places : ℕ) (f : File) (page place : ℕ) → differ places f f page place ≡ false
unfolding differ
same_spot places f page place = go (ltb place places)
  where
    same : (n : ℕ) → not (eqb n n) ≡ false
    same n = ap not (eq-eqb n n refl)

    go : (t : Bool)
        → cond t
        (not (eqb (get_or f.numbers (page * places + place) 0) (get_or f.numbers (page * places + place) 0))
        || (not (eqb (get_or f.words (page * places + place) 0) (get_or f.words (page * places + place) 0))
        || not (eqb (get_or f.owners (page * places + place) 0) (get_or f.owners (page * places + place) 0))))
        (not (eqb (get_or f.separators page 0) (get_or f.separators page 0)))
        ≡ false
    go true =
        rw (same (get_or f.numbers (page * places + place) 0), same (get_or f.words (page * places + place) 0))
        (same (get_or f.owners (page * places + place) 0))
    go false = same (get_or f.separators page 0)

-- a file does not differ from itself
pub no_spot : (count places : ℕ) (f : File) → spot_in count places f f ≡ count * suc places
no_spot count places f =
    none-such (differ_at places f f) 0 (count * suc places) (λ j h. same_spot places f (j / suc places) (j % suc places))
    ∙ zero-add (count * suc places)

-- files that differ at no spot are alike
module _ (count places : ℕ) (f l : File) (none : spot_in count places f l ≡ count * suc places) where
  same_at : (page place : ℕ) → page < count → place ≤ places → differ places f l page place ≡ false
  same_at page place h k =
      rw (spot_page places page place k, spot_place places page place k) at
      ((such (differ_at places f l) 0 (count * suc places)).before (page * suc places + place) (omega arith)
      (rw none (spot_within count places page place h k)))

  same-separator : (q : ℕ) → q < count → get_or f.separators q 0 ≡ get_or l.separators q 0
  unfolding differ
  same-separator q h =
      eqb-true (get_or f.separators q 0) (get_or l.separators q 0)
      (not-false (eqb (get_or f.separators q 0) (get_or l.separators q 0))
      (rw (le-ltb places places (le_refl places)) at (same_at q places h (le_refl places))))

  -- two items that do not differ
  same-items : (x y : ℕ) → not (eqb x y) ≡ false → x ≡ y
  same-items x y e = eqb-true x y (not-false (eqb x y) e)

  -- number, word and owner of an item
  abbrev SameItem : ℕ → Type 0
  SameItem i =
      (get_or f.numbers i 0 ≡ get_or l.numbers i 0) × (get_or f.words i 0 ≡ get_or l.words i 0) × (get_or f.owners i 0 ≡ get_or l.owners i 0)

  same_place : (page place : ℕ) → page < count → place < places → SameItem (page * places + place)
  unfolding differ
  same_place page place h k =
      let i : ℕ = page * places + place in
      let n = either-false (not (eqb (get_or f.numbers i 0) (get_or l.numbers i 0)))
      (not (eqb (get_or f.words i 0) (get_or l.words i 0)) || not (eqb (get_or f.owners i 0) (get_or l.owners i 0)))
      (rw (lt-ltb place places k) at (same_at page place h (omega arith))) in
      let w = either-false (not (eqb (get_or f.words i 0) (get_or l.words i 0))) (not (eqb (get_or f.owners i 0) (get_or l.owners i 0))) n.1 in (
        same-items (get_or f.numbers i 0) (get_or l.numbers i 0) n.0,
        same-items (get_or f.words i 0) (get_or l.words i 0) w.0,
        same-items (get_or f.owners i 0) (get_or l.owners i 0) w.1,
      )

  some-places : (i : ℕ) → i < count * places → 0 < places
  some-places i h = go places h
    where
      go : (b : ℕ) → i < count * b → 0 < b
      go zero k = absurd (omega (arith, mul-zero count))
      go (suc b) k = omega arith

  same_item : (i : ℕ) → i < count * places → SameItem i
  same_item i h =
      let some : 0 < places = some-places i h in
      rw (div-add-mod' i places) at
      (same_place (i / places) (i % places) ((div-lt_iff_lt-mul some).1 h) (mod-lt i some))

  pub alike-by-spot : Alike count places f l
  alike-by-spot = record { separators = same-separator; numbers = λ i h. (same_item i h).0; words = λ i h. (same_item i h).1; owners = λ i h. (same_item i h).2 }

-- files of one size that are alike are the same
pub alike_same : (count places : ℕ) (f l : File) → Sized places count f → Sized places count l → Alike count places f l → f ≡ l
alike_same count places f l zf zl a =
    λ i. record {
      separators = ext_get_or 0 f.separators l.separators (zf.of_separators ∙ sym zl.of_separators) (λ q h. a.separators q (omega (arith, zf.of_separators))) i;
      numbers = ext_get_or 0 f.numbers l.numbers (zf.of_numbers ∙ sym zl.of_numbers) (λ q h. a.numbers q (omega (arith, zf.of_numbers))) i;
      words = ext_get_or 0 f.words l.words (zf.of_words_lem ∙ sym zl.of_words_lem) (λ q h. a.words q (omega (arith, zf.of_words_lem))) i;
      owners = ext_get_or 0 f.owners l.owners (zf.of_owners ∙ sym zl.of_owners) (λ q h. a.owners q (omega (arith, zf.of_owners))) i;
    }
