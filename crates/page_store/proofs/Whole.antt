-- The stores told from the whole file: its changed pages are those of the stretch, in the same order, and storing them from the file after the
-- call is storing them from the pool.
use mathlib.Core.Path.{◌≡◌, refl, sym, ap, ◌∙◌}
use mathlib.Core.Bool.{Bool, true, false, cond}
use mathlib.Core.Logic.{◌⊎◌, inl, inr}
use mathlib.Core.List.{List, [], ◌∷◌, ◌++◌}
use Prim.Native.Nat.{ℕ, zero, suc, ◌+◌, ◌-◌, ◌*◌, ◌≤◌, ◌<◌}
use native.Mathlib.Nat.{zero-add, add-zero, add-suc, suc-add, mul-le-mul_right, suc-mul, le_refl}
use native.Mathlib.Decide.{dec_lt}
use native.Mathlib.Omega.{arith}
use lib.ListN.{length, take, drop, take-append-drop}
use lib.Seq.{length-take-le}
use Rattle.buffers.specs.Lists.{written}
use Rattle.buffers.proofs.Written.{alike-later}
use Rattle.pages.specs.Page.{part}
use Rattle.pages.specs.Shape.{stretch}
use Rattle.pages.proofs.Parts.{pages-apart, part-front}
use Rattle.page_store.specs.Columns.{Columns}
use Rattle.page_store.specs.Stores.{columns_change, lowest_first, highest_first, changed_pages, enough, column_stored, page_in_turn_lem}
use Rattle.page_store.proofs.Alike.{SamePage, same-unchanged}
use Rattle.page_store.proofs.Order.{turn_of, turn-of}
use Rattle.page_store.proofs.Reached.{Reached}
use Rattle.page_store.proofs.Loop.{Fits}
use Rattle.page_store.proofs.Laws.{ended, ended-all, enough-count, numbers_after, words-after, owners_after_lem, numbers_all, words-all, owners_all}

part-from : (b r : ℕ) (k l : List ℕ) → drop (r * b) k ≡ drop (r * b) l → part b r k ≡ part b r l
unfolding part
part-from b r k l e = ap (take b) e

-- Pages outside the stretch are as they were.
pub outside_same : (b lo hi r : ℕ) (out old : List ℕ) → hi * b ≤ length old → length out ≡ length old → lo ≤ hi
    → take (lo * b) out ≡ take (lo * b) old → drop (hi * b) out ≡ drop (hi * b) old → (r < lo) ⊎ (hi ≤ r) → part b r out ≡ part b r old
outside_same b lo hi r out old f k o lower upper (inl h) =
    below out (omega (arith, f, k, mul-le-mul_right {m = lo} {n = hi} b o))
    ∙ ap (part b r) lower
    ∙ sym (below old (omega (arith, f, mul-le-mul_right {m = lo} {n = hi} b o)))
  where
    below : (x : List ℕ) → lo * b ≤ length x → part b r x ≡ part b r (take (lo * b) x)
    below x g =
        ap (part b r) (sym (take-append-drop (lo * b) x))
        ∙ part-front b r (take (lo * b) x) (drop (lo * b) x) (omega (arith, length-take-le (lo * b) x g, pages-apart b r lo h, suc-mul r b))
outside_same b lo hi r out old f k o lower upper (inr h) =
    part-from b r out old (alike-later (hi * b) (r * b) out old (mul-le-mul_right {m = hi} {n = r} b h) upper)

-- Lists of changed pages: pages that do not change may be left out at both ends.
module _ (whole changes : ℕ → Bool) where
  none-up : (p k : ℕ) → ((r : ℕ) → p ≤ r → r < p + k → whole r ≡ false) → lowest_first whole p k ≡ []
  unfolding lowest_first
  none-up p zero h = refl
  none-up p (suc k) h = rw (h p (omega arith) (omega arith)) (none-up (suc p) k (λ r f g. h r (omega arith) (omega arith)))

  skip-up : (p j k : ℕ) → ((r : ℕ) → p ≤ r → r < p + j → whole r ≡ false) → lowest_first whole p (j + k) ≡ lowest_first whole (p + j) k
  unfolding lowest_first
  skip-up p zero k h = rw (zero-add k, add-zero p)
  skip-up p (suc j) k h =
      rw (suc-add j k, h p (omega arith) (omega arith))
      (skip-up (suc p) j k (λ r f g. h r (omega arith) (omega arith)) ∙ ap (λ (q : ℕ). lowest_first whole q k) (suc-add p j ∙ sym (add-suc p j)))

  same_up : (p n k : ℕ) → ((r : ℕ) → p ≤ r → r < p + n → whole r ≡ changes r) → ((r : ℕ) → p + n ≤ r → r < p + n + k → whole r ≡ false)
      → lowest_first whole p (n + k) ≡ lowest_first changes p n
  unfolding lowest_first
  same_up p zero k s h = rw (zero-add k) (none-up p k (λ r f g. h r (omega arith) (omega arith)))
  same_up p (suc n) k s h =
      rw (suc-add n k, s p (omega arith) (omega arith))
      (ap (λ (l : List ℕ). cond (changes p) (p ∷ l) l)
      (same_up (suc p) n k (λ r f g. s r (omega arith) (omega arith)) (λ r f g. h r (omega arith) (omega arith))))

  none-down : (k : ℕ) → ((r : ℕ) → r < k → whole r ≡ false) → highest_first whole 0 k ≡ []
  unfolding highest_first
  none-down zero h = refl
  none-down (suc k) h = rw (zero-add k, h k (omega arith)) (none-down k (λ r g. h r (omega arith)))

  skip-down : (m k : ℕ) → ((r : ℕ) → m ≤ r → r < m + k → whole r ≡ false) → highest_first whole 0 (m + k) ≡ highest_first whole 0 m
  unfolding highest_first
  skip-down m zero h = rw (add-zero m)
  skip-down m (suc k) h =
      rw (add-suc m k, zero-add (m + k), h (m + k) (omega arith) (omega arith)) (skip-down m k (λ r f g. h r f (omega arith)))

  same-down : (lo n : ℕ) → ((r : ℕ) → r < lo → whole r ≡ false) → ((r : ℕ) → lo ≤ r → r < lo + n → whole r ≡ changes r)
      → highest_first whole 0 (lo + n) ≡ highest_first changes lo n
  unfolding highest_first
  same-down lo zero h s = rw (add-zero lo) (none-down lo h)
  same-down lo (suc n) h s =
      rw (add-suc lo n, zero-add (lo + n), s (lo + n) (omega arith) (omega arith))
      (ap (λ (l : List ℕ). cond (changes (lo + n)) ((lo + n) ∷ l) l) (same-down lo n h (λ r f g. s r f (omega arith))))

  -- of all M pages and of the stretch
  pub whole-up : (lo count M : ℕ) → lo + count ≤ M → ((r : ℕ) → lo ≤ r → r < lo + count → whole r ≡ changes r)
      → ((r : ℕ) → r < M → (r < lo) ⊎ (lo + count ≤ r) → whole r ≡ false) → lowest_first whole 0 M ≡ lowest_first changes lo count
  whole-up lo count M h s o =
      let sum : M ≡ lo + (count + (M - (lo + count))) = omega arith in
      ap (λ (m : ℕ). lowest_first whole 0 m) sum
      ∙ skip-up 0 lo (count + (M - (lo + count))) (λ r f g. o r (omega arith) (inl (omega arith)))
      ∙ ap (λ (q : ℕ). lowest_first whole q (count + (M - (lo + count)))) (zero-add lo)
      ∙ same_up lo count (M - (lo + count)) s (λ r f g. o r (omega arith) (inr f))

  pub whole-down : (lo count M : ℕ) → lo + count ≤ M → ((r : ℕ) → lo ≤ r → r < lo + count → whole r ≡ changes r)
      → ((r : ℕ) → r < M → (r < lo) ⊎ (lo + count ≤ r) → whole r ≡ false) → highest_first whole 0 M ≡ highest_first changes lo count
  whole-down lo count M h s o =
      let sum : M ≡ lo + count + (M - (lo + count)) = omega arith in
      ap (λ (m : ℕ). highest_first whole 0 m) sum
      ∙ skip-down (lo + count) (M - (lo + count)) (λ r f g. o r (omega arith) (inr f))
      ∙ same-down lo count (λ r g. o r (omega arith) (inl g)) s

-- The pages stored lie in the stretch.
abbrev pub Within : ℕ → ℕ → List ℕ → Type 0
Within lo hi [] = Unit {0}
Within lo hi (r ∷ rs) = ((lo ≤ r) × (r < hi)) × Within lo hi rs

within-take : (lo hi n : ℕ) (l : List ℕ) → Within lo hi l → Within lo hi (take n l)
within-take lo hi zero l w = tt
within-take lo hi (suc n) [] w = tt
within-take lo hi (suc n) (r ∷ rs) w = (w.0, within-take lo hi n rs w.1)

within-up : (changes : ℕ → Bool) (lo hi p n : ℕ) → lo ≤ p → p + n ≤ hi → Within lo hi (lowest_first changes p n)
unfolding lowest_first
within-up changes lo hi p zero f g = tt
within-up changes lo hi p (suc n) f g = go (changes p) (within-up changes lo hi (suc p) n (omega arith) (omega arith))
  where
    go : (t : Bool) → Within lo hi (lowest_first changes (suc p) n) → Within lo hi (cond t (p ∷ lowest_first changes (suc p) n) (lowest_first changes (suc p) n))
    go true w = ((f, omega arith), w)
    go false w = w

within-down : (changes : ℕ → Bool) (lo hi n : ℕ) → lo + n ≤ hi → Within lo hi (highest_first changes lo n)
unfolding highest_first
within-down changes lo hi zero g = tt
within-down changes lo hi (suc n) g = go (changes (lo + n)) (within-down changes lo hi n (omega arith))
  where
    go : (t : Bool) → Within lo hi (highest_first changes lo n) → Within lo hi (cond t ((lo + n) ∷ highest_first changes lo n) (highest_first changes lo n))
    go true w = ((omega arith, omega arith), w)
    go false w = w

pub within-changed : (upward : Bool) (b lo count : ℕ) (old new : Columns) → Within lo (lo + count) (changed_pages upward b lo count old new)
unfolding changed_pages
within-changed true b lo count old new = within-up (columns_change b old new) lo (lo + count) lo count (le_refl lo) (le_refl (lo + count))
within-changed false b lo count old new = within-down (columns_change b old new) lo (lo + count) count (le_refl (lo + count))

-- A column stored from lists that agree on those pages.
stored-alike : (b lo hi : ℕ) (x y : List ℕ) → ((r : ℕ) → lo ≤ r → r < hi → part b r x ≡ part b r y) → (l old : List ℕ) → Within lo hi l
    → column_stored b x l old ≡ column_stored b y l old
unfolding column_stored
stored-alike b lo hi x y s [] old w = refl
stored-alike b lo hi x y s (r ∷ rs) old w =
    stored-alike b lo hi x y s rs (written (r * b) (part b r x) old) w.1
    ∙ ap (λ (z : List ℕ). column_stored b y rs (written (r * b) z old)) (s r w.0.0 w.0.1)

-- The file after the call.
abbrev pub finished : ℕ → ℕ → ℕ → Columns → Columns → Columns
finished b lo count old new =
    record {
      numbers = written (lo * b) (stretch b lo count new.numbers) old.numbers;
      words = written (lo * b) (stretch b lo count new.words) old.words;
      owners = written (lo * b) (stretch b lo count new.owners) old.owners;
    }

module _ (upward : Bool) (b lo count M : ℕ) (old new : Columns) (inside : lo + count ≤ M) (fo : Fits b (lo + count) old) (fn : Fits b (lo + count) new) where
  all : enough count (changed_pages upward b lo count old new) ≡ true
  all = enough-count upward b lo count old new count (le_refl count)

  -- one column of it: the pool's in the stretch, the old one's outside
  here : (x y z : List ℕ) → z ≡ written (lo * b) (stretch b lo count y) x → Reached b lo count (page_in_turn_lem upward lo count) y x count z
      → (r : ℕ) → lo ≤ r → r < lo + count → part b r (written (lo * b) (stretch b lo count y) x) ≡ part b r y
  here x y z e m r f g =
      let t = turn-of upward lo count r f g in
      ap (part b r) (sym e) ∙ rw t.1 at (m.done (turn_of upward lo count r) t.0 t.0)

  there : (x y z : List ℕ) → (lo + count) * b ≤ length x → z ≡ written (lo * b) (stretch b lo count y) x → Reached b lo count (page_in_turn_lem upward lo count) y x count z
      → (r : ℕ) → (r < lo) ⊎ (lo + count ≤ r) → part b r (written (lo * b) (stretch b lo count y) x) ≡ part b r x
  there x y z f e m r o =
      ap (part b r) (sym e) ∙ outside_same b lo (lo + count) r z x f m.kept (omega arith) m.lower m.upper o

  ns : Reached b lo count (page_in_turn_lem upward lo count) new.numbers old.numbers count (column_stored b new.numbers (take count (changed_pages upward b lo count old new)) old.numbers)
  ns = rw (ended-all upward b lo count old new count all) at (numbers_after upward b lo count old new fo fn count)

  ws : Reached b lo count (page_in_turn_lem upward lo count) new.words old.words count (column_stored b new.words (take count (changed_pages upward b lo count old new)) old.words)
  ws = rw (ended-all upward b lo count old new count all) at (words-after upward b lo count old new fo fn count)

  os : Reached b lo count (page_in_turn_lem upward lo count) new.owners old.owners count (column_stored b new.owners (take count (changed_pages upward b lo count old new)) old.owners)
  os = rw (ended-all upward b lo count old new count all) at (owners_after_lem upward b lo count old new fo fn count)

  pub finished-here : (r : ℕ) → lo ≤ r → r < lo + count → SamePage b (finished b lo count old new) new r
  finished-here r f g =
      record {
        numbers = here old.numbers new.numbers _ (numbers_all upward b lo count count old new fo fn all) ns r f g;
        words = here old.words new.words _ (words-all upward b lo count count old new fo fn all) ws r f g;
        owners = here old.owners new.owners _ (owners_all upward b lo count count old new fo fn all) os r f g;
      }

  pub finished-there : (r : ℕ) → (r < lo) ⊎ (lo + count ≤ r) → SamePage b old (finished b lo count old new) r
  finished-there r o =
      record {
        numbers = sym (there old.numbers new.numbers _ fo.numbers (numbers_all upward b lo count count old new fo fn all) ns r o);
        words = sym (there old.words new.words _ fo.words (words-all upward b lo count count old new fo fn all) ws r o);
        owners = sym (there old.owners new.owners _ fo.owners (owners_all upward b lo count count old new fo fn all) os r o);
      }

  changes-here : (r : ℕ) → lo ≤ r → r < lo + count → columns_change b old (finished b lo count old new) r ≡ columns_change b old new r
  unfolding columns_change
  changes-here r f g = let s = finished-here r f g in rw (s.numbers, s.words, s.owners)

  changes-there : (r : ℕ) → r < M → (r < lo) ⊎ (lo + count ≤ r) → columns_change b old (finished b lo count old new) r ≡ false
  changes-there r h o = same-unchanged b old (finished b lo count old new) r (finished-there r o)

  -- Law 4. The changed pages of the whole file are those of the stretch.
  pub changed-whole : changed_pages upward b 0 M old (finished b lo count old new) ≡ changed_pages upward b lo count old new
  unfolding changed_pages
  changed-whole = go upward
    where
      go : (u : Bool) → changed_pages u b 0 M old (finished b lo count old new) ≡ changed_pages u b lo count old new
      go true = whole-up (columns_change b old (finished b lo count old new)) (columns_change b old new) lo count M inside changes-here changes-there
      go false = whole-down (columns_change b old (finished b lo count old new)) (columns_change b old new) lo count M inside changes-here changes-there

  -- .. and storing n of them from the finished file is storing n of them from the pool
  pub numbers_whole : (n : ℕ)
      → column_stored b (finished b lo count old new).numbers (take n (changed_pages upward b 0 M old (finished b lo count old new))) old.numbers
      ≡ column_stored b new.numbers (take n (changed_pages upward b lo count old new)) old.numbers
  numbers_whole n =
      ap (λ (l : List ℕ). column_stored b (finished b lo count old new).numbers (take n l) old.numbers) changed-whole
      ∙ stored-alike b lo (lo + count) _ new.numbers (λ r f g. (finished-here r f g).numbers) (take n (changed_pages upward b lo count old new)) old.numbers
      (within-take lo (lo + count) n (changed_pages upward b lo count old new) (within-changed upward b lo count old new))

  pub words-whole : (n : ℕ)
      → column_stored b (finished b lo count old new).words (take n (changed_pages upward b 0 M old (finished b lo count old new))) old.words
      ≡ column_stored b new.words (take n (changed_pages upward b lo count old new)) old.words
  words-whole n =
      ap (λ (l : List ℕ). column_stored b (finished b lo count old new).words (take n l) old.words) changed-whole
      ∙ stored-alike b lo (lo + count) _ new.words (λ r f g. (finished-here r f g).words) (take n (changed_pages upward b lo count old new)) old.words
      (within-take lo (lo + count) n (changed_pages upward b lo count old new) (within-changed upward b lo count old new))

  pub owners_whole : (n : ℕ)
      → column_stored b (finished b lo count old new).owners (take n (changed_pages upward b 0 M old (finished b lo count old new))) old.owners
      ≡ column_stored b new.owners (take n (changed_pages upward b lo count old new)) old.owners
  owners_whole n =
      ap (λ (l : List ℕ). column_stored b (finished b lo count old new).owners (take n l) old.owners) changed-whole
      ∙ stored-alike b lo (lo + count) _ new.owners (λ r f g. (finished-here r f g).owners) (take n (changed_pages upward b lo count old new)) old.owners
      (within-take lo (lo + count) n (changed_pages upward b lo count old new) (within-changed upward b lo count old new))
