-- What the loop of the stores keeps.
use mathlib.Core.Path.{◌≡◌, refl, sym, ap, ◌∙◌}
use mathlib.Core.Bool.{Bool, true, false, cond}
use mathlib.Core.List.{List, [], ◌∷◌}
use Prim.Native.Nat.{ℕ, zero, suc, ◌+◌, ◌-◌, ◌*◌, ◌≤◌, ◌<◌}
use native.Mathlib.Nat.{zero-add, sub-zero, le_refl}
use native.Mathlib.Numerals.{add-one}
use native.Mathlib.Omega.{arith}
use lib.Dec.{leb}
use lib.ListN.{length, take, drop}
use lib.Seq.{take-nil}
use borrow.Author.Tests.{le-leb, lt-leb}
use Rattle.buffers.specs.Lists.{written}
use Rattle.pages.specs.Page.{part}
use Rattle.page_store.specs.Columns.{Columns, columns}
use Rattle.page_store.specs.Stores.{columns_change, changed_pages, enough, column_stored, page_in_turn_lem}
use Rattle.page_store.proofs.Alike.{SamePage, unchanged-same, changes-alike}
use Rattle.page_store.proofs.Order.{todo, todo-skip, todo-store, changed-todo, turn_inside, turn-apart}
use Rattle.page_store.proofs.Reached.{Given, Reached, page-fits, reached-none, reached-skip, reached-store}

-- One column before turn i, when `stored` pages were stored: what the rest of the stores make of it is what all of them make of the old one.
pub record Going (b lo count limit : ℕ) (page : ℕ → ℕ) (changes : ℕ → Bool) (new old : List ℕ) (i stored : ℕ) (cur : List ℕ) : Type 0 where
  pub reached : Reached b lo count page new old i cur
  pub rest : column_stored b new (take limit (todo changes page 0 count)) old ≡ column_stored b new (take (limit - stored) (todo changes page i (count - i))) cur

-- the stores so far and those of the rest
pub record Counted (count limit : ℕ) (page : ℕ → ℕ) (changes : ℕ → Bool) (i stored : ℕ) : Type 0 where
  pub few : stored ≤ limit
  pub within : i ≤ count
  pub sum : length (todo changes page 0 count) ≡ stored + length (todo changes page i (count - i))

module _ {count limit : ℕ} {page : ℕ → ℕ} {changes : ℕ → Bool} {i stored : ℕ} (h : i < count) (m : Counted count limit page changes i stored) where
  one_less : count - i ≡ suc (count - suc i)
  one_less = omega arith

  pub counted_skip : changes (page i) ≡ false → Counted count limit page changes (suc i) stored
  counted_skip e =
      record {
        few = m.few;
        within = h;
        sum = m.sum ∙ ap (λ (l : List ℕ). stored + length l) (ap (todo changes page i) one_less ∙ todo-skip changes page i (count - suc i) e);
      }

  pub counted-store : changes (page i) ≡ true → stored < limit → Counted count limit page changes (suc i) (suc stored)
  counted-store e k =
      record {
        few = k;
        within = h;
        sum =
            m.sum
            ∙ ap (λ (l : List ℕ). stored + length l) (ap (todo changes page i) one_less ∙ todo-store changes page i (count - suc i) e)
            ∙ omega arith;
      }

  -- a changed page is left, and no store for it
  pub counted_stop : changes (page i) ≡ true → limit ≤ stored → limit < length (todo changes page 0 count)
  counted_stop e k =
      let more : length (todo changes page i (count - i)) ≡ suc (length (todo changes page (suc i) (count - suc i)))
      = ap (λ (l : List ℕ). length l) (ap (todo changes page i) one_less ∙ todo-store changes page i (count - suc i) e) in
      omega (arith, m.sum, more)

-- all turns are over
pub counted-end : {count limit : ℕ} {page : ℕ → ℕ} {changes : ℕ → Bool} {i stored : ℕ} → count ≤ i → Counted count limit page changes i stored
    → length (todo changes page 0 count) ≤ limit
unfolding todo
counted-end {count} {limit} {page} {changes} {i} {stored} h m =
    let none : count - i ≡ 0 = omega arith in
    let nothing : length (todo changes page i (count - i)) ≡ 0 = ap (λ (n : ℕ). length (todo changes page i n)) none in
    omega (arith, m.few, m.sum, nothing)

module _ {b lo count limit : ℕ} {page : ℕ → ℕ} {changes : ℕ → Bool} {new old : List ℕ} (g : Given b lo count page changes new old) where
  pub going-none : Going b lo count limit page changes new old 0 0 old
  going-none = record { reached = reached-none g; rest = rw (sub-zero limit, sub-zero count) }

  pub going-skip : {i stored : ℕ} {cur : List ℕ} → i < count → changes (page i) ≡ false → Going b lo count limit page changes new old i stored cur
      → Going b lo count limit page changes new old (suc i) stored cur
  going-skip {i} {stored} {cur} h e m =
      let one_less : count - i ≡ suc (count - suc i) = omega arith in
      record {
        reached = reached-skip g i cur h e m.reached;
        rest =
            m.rest
            ∙ ap (λ (l : List ℕ). column_stored b new (take (limit - stored) l) cur) (ap (todo changes page i) one_less ∙ todo-skip changes page i (count - suc i) e);
      }

  pub going-store : {i stored : ℕ} {cur : List ℕ} → i < count → changes (page i) ≡ true → stored < limit → Going b lo count limit page changes new old i stored cur
      → Going b lo count limit page changes new old (suc i) (suc stored) (written (page i * b) (part b (page i) new) cur)
  unfolding column_stored
  going-store {i} {stored} {cur} h e k m =
      let one_less : count - i ≡ suc (count - suc i) = omega arith in
      let one_left : limit - stored ≡ suc (limit - suc stored) = omega arith in
      record {
        reached = reached-store g i cur h m.reached;
        rest =
            m.rest
            ∙ ap (λ (l : List ℕ). column_stored b new (take (limit - stored) l) cur) (ap (todo changes page i) one_less ∙ todo-store changes page i (count - suc i) e)
            ∙ ap (λ (n : ℕ). column_stored b new (take n (page i ∷ todo changes page (suc i) (count - suc i))) cur) one_left;
      }

  pub going-stop : {i stored : ℕ} {cur : List ℕ} → limit ≤ stored → Going b lo count limit page changes new old i stored cur
      → cur ≡ column_stored b new (take limit (todo changes page 0 count)) old
  unfolding column_stored
  going-stop {i} {stored} {cur} h m =
      let none : limit - stored ≡ 0 = omega arith in
      sym (m.rest ∙ ap (λ (n : ℕ). column_stored b new (take n (todo changes page i (count - i))) cur) none)

  pub going_end : {i stored : ℕ} {cur : List ℕ} → count ≤ i → Going b lo count limit page changes new old i stored cur
      → cur ≡ column_stored b new (take limit (todo changes page 0 count)) old
  unfolding column_stored todo
  going_end {i} {stored} {cur} h m =
      let none : count - i ≡ 0 = omega arith in
      sym (m.rest ∙ ap (λ (n : ℕ). column_stored b new (take (limit - stored) (todo changes page i n)) cur) none ∙ ap (λ (l : List ℕ). column_stored b new l cur) (take-nil (limit - stored)))

-- All three columns.
pub record Fits (b hi : ℕ) (c : Columns) : Type 0 where
  pub numbers : hi * b ≤ length c.numbers
  pub words : hi * b ≤ length c.words
  pub owners : hi * b ≤ length c.owners

module _ (upward : Bool) (b lo count : ℕ) (old new : Columns) (fo : Fits b (lo + count) old) (fn : Fits b (lo + count) new) where
  pub of_numbers_lem : Given b lo count (page_in_turn_lem upward lo count) (columns_change b old new) new.numbers old.numbers
  of_numbers_lem =
      record {
        inside = turn_inside upward lo count;
        apart = turn-apart upward lo count;
        same = λ j h e. (unchanged-same b old new (page_in_turn_lem upward lo count j) e).numbers;
        fits_old = fo.numbers;
        fits_new = fn.numbers;
      }

  pub of_words : Given b lo count (page_in_turn_lem upward lo count) (columns_change b old new) new.words old.words
  of_words =
      record {
        inside = turn_inside upward lo count;
        apart = turn-apart upward lo count;
        same = λ j h e. (unchanged-same b old new (page_in_turn_lem upward lo count j) e).words;
        fits_old = fo.words;
        fits_new = fn.words;
      }

  pub of_owners_lem : Given b lo count (page_in_turn_lem upward lo count) (columns_change b old new) new.owners old.owners
  of_owners_lem =
      record {
        inside = turn_inside upward lo count;
        apart = turn-apart upward lo count;
        same = λ j h e. (unchanged-same b old new (page_in_turn_lem upward lo count j) e).owners;
        fits_old = fo.owners;
        fits_new = fn.owners;
      }

-- The loop's invariant: `i` turns are over, `stored` pages stored, and the columns are ns, ws and os.
pub record Storing (upward : Bool) (b lo count limit : ℕ) (old new : Columns) (i stored : ℕ) (ns ws os : List ℕ) : Type 0 where
  pub fits_old : Fits b (lo + count) old
  pub fits_new : Fits b (lo + count) new
  pub numbers : Going b lo count limit (page_in_turn_lem upward lo count) (columns_change b old new) new.numbers old.numbers i stored ns
  pub words : Going b lo count limit (page_in_turn_lem upward lo count) (columns_change b old new) new.words old.words i stored ws
  pub owners : Going b lo count limit (page_in_turn_lem upward lo count) (columns_change b old new) new.owners old.owners i stored os
  pub counted : Counted count limit (page_in_turn_lem upward lo count) (columns_change b old new) i stored

-- What `store_pages` promises.
pub record Stored (upward : Bool) (b lo count limit : ℕ) (old new : Columns) (answer : Bool) (ns ws os : List ℕ) : Type 0 where
  pub all : answer ≡ enough limit (changed_pages upward b lo count old new)
  pub numbers : ns ≡ column_stored b new.numbers (take limit (changed_pages upward b lo count old new)) old.numbers
  pub words : ws ≡ column_stored b new.words (take limit (changed_pages upward b lo count old new)) old.words
  pub owners : os ≡ column_stored b new.owners (take limit (changed_pages upward b lo count old new)) old.owners

module _ {upward : Bool} {b lo count limit : ℕ} {old new : Columns} where
  pub storing_none : Fits b (lo + count) old → Fits b (lo + count) new → Storing upward b lo count limit old new 0 0 old.numbers old.words old.owners
  storing_none fo fn =
      record {
        fits_old = fo;
        fits_new = fn;
        numbers = going-none (of_numbers_lem upward b lo count old new fo fn);
        words = going-none (of_words upward b lo count old new fo fn);
        owners = going-none (of_owners_lem upward b lo count old new fo fn);
        counted =
            record {
              few = omega arith;
              within = omega arith;
              sum = rw (sub-zero count, zero-add);
            };
      }

module _ {upward : Bool} {b lo count limit : ℕ} {old new : Columns} {i stored : ℕ} {ns ws os : List ℕ}
    (m : Storing upward b lo count limit old new i stored ns ws os) where
  changed : changed_pages upward b lo count old new ≡ todo (columns_change b old new) (page_in_turn_lem upward lo count) 0 count
  changed = changed-todo upward b lo count old new

  -- what is compared and stored lies within
  pub storing_fits : (page : ℕ) → page ≡ page_in_turn_lem upward lo count i → i < count
      → ((page * b + b ≤ length ns) × (page * b + b ≤ length new.numbers))
      × (((page * b + b ≤ length ws) × (page * b + b ≤ length new.words)) × ((page * b + b ≤ length os) × (page * b + b ≤ length new.owners)))
  storing_fits page e h =
      let inside : page * b + b ≤ (lo + count) * b = rw e (page-fits (of_numbers_lem upward b lo count old new m.fits_old m.fits_new) i h) in (
        (omega (arith, inside, m.numbers.reached.kept, m.fits_old.numbers), omega (arith, inside, m.fits_new.numbers)),
        (
          (omega (arith, inside, m.words.reached.kept, m.fits_old.words), omega (arith, inside, m.fits_new.words)),
          (omega (arith, inside, m.owners.reached.kept, m.fits_old.owners), omega (arith, inside, m.fits_new.owners)),
        ),
      )

  -- the page in turn is as it was, so it is told from it whether it changes
  pub storing_told : (page : ℕ) (t : Bool) → page ≡ page_in_turn_lem upward lo count i → i < count → t ≡ columns_change b (columns ns ws os) new page
      → columns_change b old new (page_in_turn_lem upward lo count i) ≡ t
  storing_told page t e h d =
      sym
      (d
      ∙ ap (columns_change b (columns ns ws os) new) e
      ∙ changes-alike b (columns ns ws os) old new (page_in_turn_lem upward lo count i)
      (record {
        numbers = m.numbers.reached.ahead i (le_refl i) h;
        words = m.words.reached.ahead i (le_refl i) h;
        owners = m.owners.reached.ahead i (le_refl i) h;
      }))

  pub storing_skip : i < count → columns_change b old new (page_in_turn_lem upward lo count i) ≡ false → Storing upward b lo count limit old new (i + 1) stored ns ws os
  storing_skip h e =
      rw (add-one i)
      (record {
        fits_old = m.fits_old;
        fits_new = m.fits_new;
        numbers = going-skip (of_numbers_lem upward b lo count old new m.fits_old m.fits_new) h e m.numbers;
        words = going-skip (of_words upward b lo count old new m.fits_old m.fits_new) h e m.words;
        owners = going-skip (of_owners_lem upward b lo count old new m.fits_old m.fits_new) h e m.owners;
        counted = counted_skip h m.counted e;
      })

  pub storing_store : (page : ℕ) (ns' ws' os' : List ℕ) → page ≡ page_in_turn_lem upward lo count i → i < count → stored < limit
      → columns_change b old new (page_in_turn_lem upward lo count i) ≡ true
      → ns' ≡ written (page * b) (part b page new.numbers) ns
      → ws' ≡ written (page * b) (part b page new.words) ws
      → os' ≡ written (page * b) (part b page new.owners) os
      → Storing upward b lo count limit old new (i + 1) (stored + 1) ns' ws' os'
  storing_store page ns' ws' os' p h k e en ew eo =
      rw (add-one i, add-one stored, en, ew, eo, p)
      (record {
        fits_old = m.fits_old;
        fits_new = m.fits_new;
        numbers = going-store (of_numbers_lem upward b lo count old new m.fits_old m.fits_new) h e k m.numbers;
        words = going-store (of_words upward b lo count old new m.fits_old m.fits_new) h e k m.words;
        owners = going-store (of_owners_lem upward b lo count old new m.fits_old m.fits_new) h e k m.owners;
        counted = counted-store h m.counted e k;
      })

  -- no store is left for the page in turn
  pub storing_stop : i < count → limit ≤ stored → columns_change b old new (page_in_turn_lem upward lo count i) ≡ true → Stored upward b lo count limit old new false ns ws os
  unfolding enough
  storing_stop h k e =
      record {
        all = rw changed (sym (lt-leb (length (todo (columns_change b old new) (page_in_turn_lem upward lo count) 0 count)) limit (counted_stop h m.counted e k)));
        numbers = rw changed (going-stop (of_numbers_lem upward b lo count old new m.fits_old m.fits_new) k m.numbers);
        words = rw changed (going-stop (of_words upward b lo count old new m.fits_old m.fits_new) k m.words);
        owners = rw changed (going-stop (of_owners_lem upward b lo count old new m.fits_old m.fits_new) k m.owners);
      }

  -- all turns are over
  pub storing_end : count ≤ i → Stored upward b lo count limit old new true ns ws os
  unfolding enough
  storing_end h =
      record {
        all = rw changed (sym (le-leb (length (todo (columns_change b old new) (page_in_turn_lem upward lo count) 0 count)) limit (counted-end h m.counted)));
        numbers = rw changed (going_end (of_numbers_lem upward b lo count old new m.fits_old m.fits_new) h m.numbers);
        words = rw changed (going_end (of_words upward b lo count old new m.fits_old m.fits_new) h m.words);
        owners = rw changed (going_end (of_owners_lem upward b lo count old new m.fits_old m.fits_new) h m.owners);
      }

-- the separators, written when every page is stored
pub separators-written : {r all : Bool} (w s : List ℕ) {out : List ℕ} → r ≡ all → r ≡ true → out ≡ w → out ≡ cond all w s
separators-written w s e t o = rw (sym e ∙ t) o

pub separators-kept : {r all : Bool} (w s : List ℕ) → r ≡ all → r ≡ false → s ≡ cond all w s
separators-kept w s e t = rw (sym e ∙ t)
