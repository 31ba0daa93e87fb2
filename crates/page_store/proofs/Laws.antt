-- What the stores leave, after any number of them: document 02 (xii).
use mathlib.Core.Path.{◌≡◌, refl, sym, ap, ◌∙◌}
use mathlib.Core.Bool.{Bool, true, false, cond}
use mathlib.Core.List.{List}
use Prim.Native.Nat.{ℕ, zero, suc, ◌+◌, ◌-◌, ◌*◌, ◌≤◌, ◌<◌}
use native.Mathlib.Nat.{zero-add}
use native.Mathlib.Omega.{arith}
use lib.Dec.{leb}
use lib.ListN.{length, take, drop}
use borrow.Author.Tests.{le-leb, leb-true}
use Rattle.buffers.specs.Lists.{written}
use Rattle.pages.specs.Page.{part}
use Rattle.pages.specs.Shape.{stretch}
use Rattle.page_store.specs.Columns.{Columns}
use Rattle.page_store.specs.Stores.{columns_change, changed_pages, enough, column_stored, page_in_turn_lem}
use Rattle.page_store.proofs.OnePage.{stretch-written}
use Rattle.page_store.proofs.Order.{todo, todo-few, changed-todo, turn_of, turn-of}
use Rattle.page_store.proofs.Reached.{Given, Reached, stop, stop-all, stop-within, reached-none, reached-after}
use Rattle.page_store.proofs.Loop.{Fits, of_numbers_lem, of_words, of_owners_lem}

-- One column after some stores: its length and all outside the stretch is kept; from page c on it is `upper`, below c it is `lower`.
pub record Mixed (b lo count c : ℕ) (lower upper old out : List ℕ) : Type 0 where
  pub kept : length out ≡ length old
  pub before : take (lo * b) out ≡ take (lo * b) old
  pub behind : drop ((lo + count) * b) out ≡ drop ((lo + count) * b) old
  pub under : (r : ℕ) → lo ≤ r → r < lo + count → r < c → part b r out ≡ part b r lower
  pub over : (r : ℕ) → lo ≤ r → r < lo + count → c ≤ r → part b r out ≡ part b r upper

-- by turns, and by pages
down-mixed : (b lo count m : ℕ) (new old out : List ℕ) → m ≤ count → Reached b lo count (page_in_turn_lem false lo count) new old m out
    → Mixed b lo count (lo + (count - m)) old new old out
unfolding turn_of
down-mixed b lo count m new old out k h =
    record {
      kept = h.kept;
      before = h.lower;
      behind = h.upper;
      under = λ r f g d.
          let t = turn-of false lo count r f g in
          rw t.1 at (h.ahead (lo + count - suc r) (omega arith) t.0);
      over = λ r f g d.
          let t = turn-of false lo count r f g in
          rw t.1 at (h.done (lo + count - suc r) (omega arith) t.0);
    }

up_mixed : (b lo count m : ℕ) (new old out : List ℕ) → m ≤ count → Reached b lo count (page_in_turn_lem true lo count) new old m out
    → Mixed b lo count (lo + m) new old old out
unfolding turn_of
up_mixed b lo count m new old out k h =
    record {
      kept = h.kept;
      before = h.lower;
      behind = h.upper;
      under = λ r f g d.
          let t = turn-of true lo count r f g in
          rw t.1 at (h.done (r - lo) (omega arith) t.0);
      over = λ r f g d.
          let t = turn-of true lo count r f g in
          rw t.1 at (h.ahead (r - lo) (omega arith) t.0);
    }

all-reached : (upward : Bool) (b lo count : ℕ) (new old out : List ℕ) → (lo + count) * b ≤ length new
    → Reached b lo count (page_in_turn_lem upward lo count) new old count out → out ≡ written (lo * b) (stretch b lo count new) old
all-reached upward b lo count new old out f h =
    stretch-written b lo count out new old f h.lower h.upper
    (λ r k l.
    let t = turn-of upward lo count r k l in
    rw t.1 at (h.done (turn_of upward lo count r) t.0 t.0))

-- the turn at which n stores end: the same for the three columns
unfoldable pub ended : Bool → ℕ → ℕ → ℕ → Columns → Columns → ℕ → ℕ
ended upward b lo count old new n = stop (columns_change b old new) (page_in_turn_lem upward lo count) 0 count n

module _ (upward : Bool) (b lo count : ℕ) (old new : Columns) where
  pub ended-within : (n : ℕ) → ended upward b lo count old new n ≤ count
  unfolding ended
  ended-within n = rw (zero-add count) at (stop-within (columns_change b old new) (page_in_turn_lem upward lo count) 0 count n)

  -- "with a store for every changed page, or more"
  pub ended-all : (n : ℕ) → enough n (changed_pages upward b lo count old new) ≡ true → ended upward b lo count old new n ≡ count
  unfolding ended enough
  ended-all n e =
      stop-all (columns_change b old new) (page_in_turn_lem upward lo count) 0 count n
      (rw (changed-todo upward b lo count old new) at (leb-true (length (changed_pages upward b lo count old new)) n e))
      ∙ zero-add count

  -- as many as there are pages is enough
  pub enough-count : (n : ℕ) → count ≤ n → enough n (changed_pages upward b lo count old new) ≡ true
  unfolding enough
  enough-count n h =
      le-leb (length (changed_pages upward b lo count old new)) n
      (rw (changed-todo upward b lo count old new) (omega (arith, todo-few (columns_change b old new) (page_in_turn_lem upward lo count) 0 count)))

module _ (upward : Bool) (b lo count : ℕ) (old new : Columns) (fo : Fits b (lo + count) old) (fn : Fits b (lo + count) new) where
  after : {x y : List ℕ} (n : ℕ) → Given b lo count (page_in_turn_lem upward lo count) (columns_change b old new) y x
      → Reached b lo count (page_in_turn_lem upward lo count) y x (ended upward b lo count old new n) (column_stored b y (take n (changed_pages upward b lo count old new)) x)
  unfolding ended
  after {x} {y} n g = rw (changed-todo upward b lo count old new) (reached-after g 0 count n x (zero-add count) (reached-none g))

  pub numbers_after : (n : ℕ) → Reached b lo count (page_in_turn_lem upward lo count) new.numbers old.numbers (ended upward b lo count old new n) (column_stored b new.numbers (take n (changed_pages upward b lo count old new)) old.numbers)
  numbers_after n = after n (of_numbers_lem upward b lo count old new fo fn)

  pub words-after : (n : ℕ) → Reached b lo count (page_in_turn_lem upward lo count) new.words old.words (ended upward b lo count old new n) (column_stored b new.words (take n (changed_pages upward b lo count old new)) old.words)
  words-after n = after n (of_words upward b lo count old new fo fn)

  pub owners_after_lem : (n : ℕ) → Reached b lo count (page_in_turn_lem upward lo count) new.owners old.owners (ended upward b lo count old new n) (column_stored b new.owners (take n (changed_pages upward b lo count old new)) old.owners)
  owners_after_lem n = after n (of_owners_lem upward b lo count old new fo fn)

-- Law 1. With a store for every changed page, or more, every column has the whole stretch: what `apply` promises.
module _ (upward : Bool) (b lo count n : ℕ) (old new : Columns) (fo : Fits b (lo + count) old) (fn : Fits b (lo + count) new)
    (e : enough n (changed_pages upward b lo count old new) ≡ true) where
  pub numbers_all : column_stored b new.numbers (take n (changed_pages upward b lo count old new)) old.numbers ≡ written (lo * b) (stretch b lo count new.numbers) old.numbers
  numbers_all =
      all-reached upward b lo count new.numbers old.numbers _ fn.numbers
      (rw (ended-all upward b lo count old new n e) at (numbers_after upward b lo count old new fo fn n))

  pub words-all : column_stored b new.words (take n (changed_pages upward b lo count old new)) old.words ≡ written (lo * b) (stretch b lo count new.words) old.words
  words-all =
      all-reached upward b lo count new.words old.words _ fn.words
      (rw (ended-all upward b lo count old new n e) at (words-after upward b lo count old new fo fn n))

  pub owners_all : column_stored b new.owners (take n (changed_pages upward b lo count old new)) old.owners ≡ written (lo * b) (stretch b lo count new.owners) old.owners
  owners_all =
      all-reached upward b lo count new.owners old.owners _ fn.owners
      (rw (ended-all upward b lo count old new n e) at (owners_after_lem upward b lo count old new fo fn n))

-- Law 2. After n stores there is one page c for the three columns: highest first, pages from c on are new and those below c old;
-- lowest first, pages below c are new and those from c on old. A page that does not change is both.
pub record MixedColumns (b lo count c : ℕ) (lower upper old out : Columns) : Type 0 where
  pub numbers : Mixed b lo count c lower.numbers upper.numbers old.numbers out.numbers
  pub words : Mixed b lo count c lower.words upper.words old.words out.words
  pub owners : Mixed b lo count c lower.owners upper.owners old.owners out.owners

abbrev pub stored : Bool → ℕ → ℕ → ℕ → ℕ → Columns → Columns → Columns
stored upward b lo count n old new =
    record {
      numbers = column_stored b new.numbers (take n (changed_pages upward b lo count old new)) old.numbers;
      words = column_stored b new.words (take n (changed_pages upward b lo count old new)) old.words;
      owners = column_stored b new.owners (take n (changed_pages upward b lo count old new)) old.owners;
    }

module _ (b lo count n : ℕ) (old new : Columns) (fo : Fits b (lo + count) old) (fn : Fits b (lo + count) new) where
  pub stored-down : (c : ℕ) × MixedColumns b lo count c old new old (stored false b lo count n old new)
  stored-down =
      let m : ℕ = ended false b lo count old new n in
      let k : m ≤ count = ended-within false b lo count old new n in (
        lo + (count - m),
        record {
          numbers = down-mixed b lo count m new.numbers old.numbers _ k (numbers_after false b lo count old new fo fn n);
          words = down-mixed b lo count m new.words old.words _ k (words-after false b lo count old new fo fn n);
          owners = down-mixed b lo count m new.owners old.owners _ k (owners_after_lem false b lo count old new fo fn n);
        },
      )

  pub stored-up : (c : ℕ) × MixedColumns b lo count c new old old (stored true b lo count n old new)
  stored-up =
      let m : ℕ = ended true b lo count old new n in
      let k : m ≤ count = ended-within true b lo count old new n in (
        lo + m,
        record {
          numbers = up_mixed b lo count m new.numbers old.numbers _ k (numbers_after true b lo count old new fo fn n);
          words = up_mixed b lo count m new.words old.words _ k (words-after true b lo count old new fo fn n);
          owners = up_mixed b lo count m new.owners old.owners _ k (owners_after_lem true b lo count old new fo fn n);
        },
      )
