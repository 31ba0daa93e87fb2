-- What a sound page tells of its items, under the file's hash.
use mathlib.Core.Path.{◌≡◌, refl, sym, ◌∙◌}
use mathlib.Core.Bool.{Bool, true, false, cond, ◌&&◌, false≢true}
use mathlib.Core.List.{List, [], ◌∷◌, Memᴰ}
use Prim.Native.Nat.{ℕ, zero, suc, ◌+◌, ◌-◌, ◌*◌, ◌≤◌, ◌<◌}
use native.Mathlib.Nat.{zero-add}
use native.Mathlib.Omega.{arith}
use lib.Dec.{leb, ltb, eqb}
use lib.ListN.{length, get_or, get_or-map}
use borrow.Author.Tests.{leb-true, ltb-true, eqb-true, eqb-false, le-leb}
use Rattle.buffers.proofs.Tests.{and-true}
use Rattle.hashing.specs.declared.Parameters.{Parameters}
use Rattle.hashing.specs.declared.Growth.{Growth}
use Rattle.generator.specs.Generator.{signature}
use Rattle.hashing.specs.Geometry.{multiplier_of}
use Rattle.hashing.specs.Home.{home}
use Rattle.pages.specs.Position.{valid_number, valid_word}
use Rattle.pages.specs.Page.{part}
use Rattle.pages.proofs.Parts.{page-fits, part_length, part-item}
use Rattle.placement.specs.Rule.{Star}
use Rattle.placement.specs.File.{File, stars_at, greatest, orderly}
use Rattle.placement.specs.Shape.{Sized}
use Rattle.placement.specs.Hash.{hash_of, sound_at, named_page_lem}
use Rattle.placement.specs.Shape.{home_in, homes_of}
use Rattle.placement.proofs.Separator.{below-home, below-signature}
use Rattle.placement.proofs.Standing.{first_below}
use Rattle.placement.proofs.Search.{star_at, at-star}
use Rattle.placement.proofs.Sound.{Sound, sound-facts, facts-sound, sound-proper}

-- An item and those after it, whose numbers are above `next`: none where the item is an empty place.
record Ordered (ok : ℕ → Bool) (last n w o : ℕ) (ns ws os : List ℕ) : Type 0 where
  next : ℕ
  rest : orderly ok next ns ws os ≡ true
  low : last ≤ greatest → last ≤ next
  high : next ≤ greatest
  star : next < greatest → (0 < n) × (n ≡ next)
  empty : n ≡ 0 → (w ≡ 0) × (o ≡ 0)
  above : (n ≡ 0 → ⊥) → last < n
  most : n ≤ greatest

ordered : (ok : ℕ → Bool) (last n w o : ℕ) (ns ws os : List ℕ) → orderly ok last (n ∷ ns) (w ∷ ws) (o ∷ os) ≡ true → Ordered ok last n w o ns ws os
unfolding orderly
ordered ok last n w o ns ws os e = go (eqb n 0) refl e
  where
    go : (t : Bool) → eqb n 0 ≡ t
        → cond t (eqb w 0 && (eqb o 0 && orderly ok greatest ns ws os)) (ltb last n && (leb n greatest && (ok w && orderly ok n ns ws os))) ≡ true
        → Ordered ok last n w o ns ws os
    go true z e =
        let c = and-true (eqb w 0) (eqb o 0 && orderly ok greatest ns ws os) e in
        let d = and-true (eqb o 0) (orderly ok greatest ns ws os) c.1 in
        let none : n ≡ 0 = eqb-true n 0 z in
        record {
          next = greatest;
          rest = d.1;
          low = λ h. h;
          high = omega arith;
          star = λ h. absurd (omega (arith, h));
          empty = λ h. (eqb-true w 0 c.0, eqb-true o 0 d.0);
          above = λ h. absurd (h none);
          most = omega arith;
        }
    go false z e =
        let b = and-true (ltb last n) (leb n greatest && (ok w && orderly ok n ns ws os)) e in
        let c = and-true (leb n greatest) (ok w && orderly ok n ns ws os) b.1 in
        let d = and-true (ok w) (orderly ok n ns ws os) c.1 in
        let over : last < n = ltb-true last n b.0 in
        let within : n ≤ greatest = leb-true n greatest c.0 in
        let some : (n ≡ 0 → ⊥) = eqb-false n 0 z in
        record {
          next = n;
          rest = d.1;
          low = λ h. omega arith;
          high = within;
          star = λ h. (omega arith, refl);
          empty = λ h. absurd (some h);
          above = λ h. over;
          most = within;
        }

module _ (ok : ℕ → Bool) where
  item-most : (last : ℕ) (ns ws os : List ℕ) → orderly ok last ns ws os ≡ true → (i : ℕ) → get_or ns i 0 ≤ greatest
  unfolding orderly
  item-most last [] ws os e i = omega arith
  item-most last (n ∷ ns) [] os e i = absurd (false≢true e)
  item-most last (n ∷ ns) (w ∷ ws) [] e i = absurd (false≢true e)
  item-most last (n ∷ ns) (w ∷ ws) (o ∷ os) e zero = (ordered ok last n w o ns ws os e).most
  item-most last (n ∷ ns) (w ∷ ws) (o ∷ os) e (suc i) = let r = ordered ok last n w o ns ws os e in item-most r.next ns ws os r.rest i

  item-empty : (last : ℕ) (ns ws os : List ℕ) → orderly ok last ns ws os ≡ true → (i : ℕ) → i < length ns → get_or ns i 0 ≡ 0 → (get_or ws i 0 ≡ 0) × (get_or os i 0 ≡ 0)
  unfolding orderly
  item-empty last [] ws os e i h z = absurd (omega arith)
  item-empty last (n ∷ ns) [] os e i h z = absurd (false≢true e)
  item-empty last (n ∷ ns) (w ∷ ws) [] e i h z = absurd (false≢true e)
  item-empty last (n ∷ ns) (w ∷ ws) (o ∷ os) e zero h z = (ordered ok last n w o ns ws os e).empty z
  item-empty last (n ∷ ns) (w ∷ ws) (o ∷ os) e (suc i) h z = let r = ordered ok last n w o ns ws os e in item-empty r.next ns ws os r.rest i (omega arith) z

  item-above : (last : ℕ) (ns ws os : List ℕ) → orderly ok last ns ws os ≡ true → last ≤ greatest → (i : ℕ) → (get_or ns i 0 ≡ 0 → ⊥) → last < get_or ns i 0
  unfolding orderly
  item-above last [] ws os e l i s = absurd (s refl)
  item-above last (n ∷ ns) [] os e l i s = absurd (false≢true e)
  item-above last (n ∷ ns) (w ∷ ws) [] e l i s = absurd (false≢true e)
  item-above last (n ∷ ns) (w ∷ ws) (o ∷ os) e l zero s = (ordered ok last n w o ns ws os e).above s
  item-above last (n ∷ ns) (w ∷ ws) (o ∷ os) e l (suc i) s =
      let r = ordered ok last n w o ns ws os e in
      omega (arith, r.low l, item-above r.next ns ws os r.rest r.high i s)

  -- a star has only smaller stars before it
  items-rise : (last : ℕ) (ns ws os : List ℕ) → orderly ok last ns ws os ≡ true → (i j : ℕ) → i < j → (get_or ns j 0 ≡ 0 → ⊥) → (0 < get_or ns i 0) × (get_or ns i 0 < get_or ns j 0)
  unfolding orderly
  items-rise last [] ws os e i j h s = absurd (s refl)
  items-rise last (n ∷ ns) [] os e i j h s = absurd (false≢true e)
  items-rise last (n ∷ ns) (w ∷ ws) [] e i j h s = absurd (false≢true e)
  items-rise last (n ∷ ns) (w ∷ ws) (o ∷ os) e i zero h s = absurd (omega arith)
  items-rise last (n ∷ ns) (w ∷ ws) (o ∷ os) e zero (suc j) h s =
      let r = ordered ok last n w o ns ws os e in
      let over : r.next < get_or ns j 0 = item-above r.next ns ws os r.rest r.high j s in
      let here = r.star (omega (arith, item-most r.next ns ws os r.rest j)) in
      (here.0, omega (arith, here.1))
  items-rise last (n ∷ ns) (w ∷ ws) (o ∷ os) e (suc i) (suc j) h s = let r = ordered ok last n w o ns ws os e in items-rise r.next ns ws os r.rest i j (omega arith) s

-- What holds of a star that stands on a sound page.
pub record StarOn (p : Parameters) (g : Growth) (f : File) (page n w : ℕ) : Type 0 where
  pub number : valid_number n ≡ true
  pub word : valid_word w ≡ true
  pub named : named_page_lem p g f.separators n ≡ page
  pub homed : home (multiplier_of p) p g n ≤ page
  pub below : signature (multiplier_of p) p.bits n (page - home (multiplier_of p) p g n + 1) < get_or f.separators page 0

-- What holds of an item of a sound page.
pub record ItemOn (p : Parameters) (g : Growth) (f : File) (page n w o : ℕ) : Type 0 where
  pub star : (n ≡ 0 → ⊥) → StarOn p g f page n w
  pub empty : n ≡ 0 → (w ≡ 0) × (o ≡ 0)
  pub most : n ≤ greatest
  pub homed : home_in p g n ≤ page

module _ (p : Parameters) (g : Growth) (f : File) (page : ℕ) where
  -- the named facts, both ways
  pub real_facts : sound_at p g f page ≡ true → Sound valid_word (hash_of p g) f page
  unfolding sound_at
  real_facts e = sound-facts valid_word (hash_of p g) f page e

  pub facts-real : Sound valid_word (hash_of p g) f page → sound_at p g f page ≡ true
  unfolding sound_at
  facts-real c = facts-sound valid_word (hash_of p g) f page c

  module _ (sized : Sized p.places p.pages f) (inside : page < p.pages) (e : sound_at p g f page ≡ true) where
    pub star-on : (s : Star) → Memᴰ s (stars_at p.places f page) → StarOn p g f page s.number s.payload.word
    unfolding valid_number named_page_lem hash_of
    star-on s m =
        let c = real_facts e in
        let proper = sound-proper valid_word (hash_of p g) f page c s m in
        let stands = c.here s m in
        let stays =
        rw (zero-add page) at
        (first_below (hash_of p g) 0 page f.separators s.number (omega (arith, sized.of_separators)) (stands ∙ sym (zero-add page))) in
        record {
          number = rw (le-leb 1 s.number proper.0, le-leb s.number greatest proper.1);
          word = proper.2;
          named = stands;
          homed = below-home (hash_of p g) page (get_or f.separators page 0) s.number stays;
          below = below-signature (hash_of p g) page (get_or f.separators page 0) s.number stays;
        }

    -- place i
    module _ (i : ℕ) (h : i < p.places) where
      pub item_on : ItemOn p g f page (get_or f.numbers (page * p.places + i) 0) (get_or f.words (page * p.places + i) 0) (get_or f.owners (page * p.places + i) 0)
      unfolding stars_at hash_of
      item_on =
          rw (← part-item p.places page f.numbers i h, ← part-item p.places page f.words i h, ← part-item p.places page f.owners i h)
          (record {
            star = star;
            empty = item-empty valid_word 0 ns ws os in_order_lem i (within f.numbers sized.of_numbers);
            most = item-most valid_word 0 ns ws os in_order_lem i;
            homed = go (eqb (get_or ns i 0) 0) refl;
          })
        where
          ns : List ℕ
          ns = part p.places page f.numbers

          ws : List ℕ
          ws = part p.places page f.words

          os : List ℕ
          os = part p.places page f.owners

          within : (l : List ℕ) → length l ≡ p.pages * p.places → i < length (part p.places page l)
          within l e = omega (arith, part_length p.places page l (page-fits p.places p.pages page inside e))

          in_order_lem : orderly valid_word 0 ns ws os ≡ true
          in_order_lem = (real_facts e).in_order_lem

          star : (get_or ns i 0 ≡ 0 → ⊥) → StarOn p g f page (get_or ns i 0) (get_or ws i 0)
          star s =
              star-on (star_at ns ws os i)
              (at-star ns ws os i (within f.numbers sized.of_numbers) (within f.words sized.of_words_lem) (within f.owners sized.of_owners) (omega (arith, s)))

          go : (t : Bool) → eqb (get_or ns i 0) 0 ≡ t → cond t 0 (home (multiplier_of p) p g (get_or ns i 0)) ≤ page
          go true z = omega arith
          go false z = (star (eqb-false (get_or ns i 0) 0 z)).homed

    -- the numbers rise strictly, and no empty place stands before a star
    pub rising-on : (i j : ℕ) → i < j → j < p.places → (get_or f.numbers (page * p.places + j) 0 ≡ 0 → ⊥)
        → (0 < get_or f.numbers (page * p.places + i) 0) × (get_or f.numbers (page * p.places + i) 0 < get_or f.numbers (page * p.places + j) 0)
    unfolding hash_of
    rising-on i j h k =
        rw (← part-item p.places page f.numbers i (omega arith), ← part-item p.places page f.numbers j k)
        (items-rise valid_word 0 (part p.places page f.numbers) (part p.places page f.words) (part p.places page f.owners) (real_facts e).in_order_lem i j h)

    -- the homes that a survey keeps
    pub homes-on : (i : ℕ) → i < p.places → get_or (homes_of p g (part p.places page f.numbers)) i 0 ≤ page
    unfolding homes_of
    homes-on i h =
        rw (get_or-map (home_in p g) (part p.places page f.numbers) i 0, part-item p.places page f.numbers i h)
        (item_on i h).homed
