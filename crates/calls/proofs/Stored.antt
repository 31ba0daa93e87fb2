-- What the one function that writes leaves is the file that document 02 (xii) names: told from the whole file before the call and after it.
use mathlib.Core.Path.{◌≡◌, refl, sym, ap, ◌∙◌}
use mathlib.Core.Bool.{Bool, true, false, cond, true≢false}
use mathlib.Core.List.{List, [], ◌∷◌}
use Prim.Native.Nat.{ℕ, zero, suc, ◌+◌, ◌≤◌, ◌<◌}
use native.Mathlib.Nat.{zero-add, le_refl}
use native.Mathlib.Decide.{ℕ_discrete, dec_lt}
use native.Mathlib.Omega.{arith}
use lib.Dec.{eqb, leb}
use lib.ListN.{length, take}
use borrow.Author.Tests.{leb-true, le-leb, ne_eqb}
use Rattle.placement.specs.Rule.{keep}
use Rattle.placement.specs.File.{File}
use Rattle.placement.specs.Shape.{Sized}
use Rattle.placement.proofs.Files.{determined}
use Rattle.hashing.specs.declared.Parameters.{Parameters}
use Rattle.page_store.specs.Columns.{Columns, columns}
use Rattle.page_store.specs.Stores.{lowest_first, highest_first, changed_pages, enough, column_stored}
use Rattle.page_store.specs.Stores as storing
use Rattle.page_store.proofs.Alike as alike
use Rattle.page_store.proofs.Loop.{Fits}
use Rattle.page_store.proofs.Laws.{numbers_all, words-all, owners_all}
use Rattle.page_store.proofs.Whole.{finished, changed-whole, numbers_whole, words-whole, owners_whole}
use Rattle.calls.specs.Answers.{After}
use Rattle.calls.specs.Stores.{page_changes, downward, upward, page_stored, pages_stored, stored_file, store_order}
use Rattle.calls.specs.Shape.{stopped}
use Rattle.calls.proofs.Stores.{SamePage, same_self, unchanged-same, same-unchanged, none-upward, one-upward, downward-none, length-downward, length-upward, all-stored, all-stores}

abbrev pub cols : File → Columns
cols f = columns f.numbers f.words f.owners

in_columns : (b : ℕ) (f l : File) (r : ℕ) → SamePage b f l r → alike.SamePage b (cols f) (cols l) r
in_columns b f l r s = record { numbers = s.numbers; words = s.words; owners = s.owners }

in_file : (b : ℕ) (f l : File) (r : ℕ) → alike.SamePage b (cols f) (cols l) r → SamePage b f l r
in_file b f l r s = record { numbers = s.numbers; words = s.words; owners = s.owners }

-- The two tests of a page agree.
pub same_test : (b M : ℕ) (f l : File) (r : ℕ) → Sized b M f → Sized b M l → r < M → page_changes b f l r ≡ storing.columns_change b (cols f) (cols l) r
same_test b M f l r zf zl h = go (page_changes b f l r) refl (storing.columns_change b (cols f) (cols l) r) refl
  where
    go : (s : Bool) → page_changes b f l r ≡ s → (t : Bool) → storing.columns_change b (cols f) (cols l) r ≡ t → s ≡ t
    go true d true e = refl
    go false d false e = refl
    go false d true e = absurd (true≢false (sym e ∙ alike.same-unchanged b (cols f) (cols l) r (in_columns b f l r (unchanged-same b M f l r zf zl h d))))
    go true d false e = absurd (true≢false (sym d ∙ same-unchanged b f l r (in_file b f l r (alike.unchanged-same b (cols f) (cols l) r e))))

kept : (t : Bool) (x : ℕ) (l : List ℕ) → keep t x l ≡ cond t (x ∷ l) l
kept true x l = refl
kept false x l = refl

down-same : (b M : ℕ) (f l : File) → Sized b M f → Sized b M l → (m : ℕ) → m ≤ M → downward b f l m ≡ highest_first (storing.columns_change b (cols f) (cols l)) 0 m
unfolding downward highest_first
down-same b M f l zf zl zero h = refl
down-same b M f l zf zl (suc m) h =
    kept (page_changes b f l m) m (downward b f l m)
    ∙ rw (zero-add m, same_test b M f l m zf zl h)
    (ap (λ (k : List ℕ). cond (storing.columns_change b (cols f) (cols l) m) (m ∷ k) k) (down-same b M f l zf zl m (omega arith)))

up_same : (b M : ℕ) (f l : File) → Sized b M f → Sized b M l → (p m : ℕ) → p + m ≤ M → upward b f l p m ≡ lowest_first (storing.columns_change b (cols f) (cols l)) p m
unfolding upward lowest_first
up_same b M f l zf zl p zero h = refl
up_same b M f l zf zl p (suc m) h =
    kept (page_changes b f l p) p (upward b f l (suc p) m)
    ∙ rw (same_test b M f l p zf zl (omega arith))
    (ap (λ (k : List ℕ). cond (storing.columns_change b (cols f) (cols l) p) (p ∷ k) k) (up_same b M f l zf zl (suc p) m (omega arith)))

-- The paper's list of stores over the whole file.
pub order_is : (up : Bool) (b M : ℕ) (f l : File) → Sized b M f → Sized b M l → store_order up b f l M ≡ changed_pages up b 0 M (cols f) (cols l)
unfolding changed_pages
order_is true b M f l zf zl = up_same b M f l zf zl 0 M (omega arith)
order_is false b M f l zf zl = down-same b M f l zf zl M (le_refl M)

-- Pages of a file, column by column.
pub by-columns : (b : ℕ) (l : File) (stores : List ℕ) (f : File)
    → pages_stored b l stores f
    ≡ record { separators = f.separators; numbers = column_stored b l.numbers stores f.numbers; words = column_stored b l.words stores f.words; owners = column_stored b l.owners stores f.owners }
unfolding pages_stored page_stored column_stored
by-columns b l [] f = refl
by-columns b l (r ∷ rs) f = by-columns b l rs (page_stored b l f r)

-- What `store` leaves is the stopped file of (xii): l is the file after the call, with the separators written and the stretch of the pool.
pub stored_is : (up : Bool) (b lo count M n : ℕ) (f : File) (new : Columns) (separators : List ℕ) (l : File)
    → lo + count ≤ M → Sized b M f → Sized b M l → Fits b (lo + count) (cols f) → Fits b (lo + count) new
    → l ≡ record { separators = separators; numbers = (finished b lo count (cols f) new).numbers; words = (finished b lo count (cols f) new).words; owners = (finished b lo count (cols f) new).owners }
    → stored_file b f l (store_order up b f l M) n
    ≡ record {
      separators = cond (enough n (changed_pages up b lo count (cols f) new)) separators f.separators;
      numbers = column_stored b new.numbers (take n (changed_pages up b lo count (cols f) new)) f.numbers;
      words = column_stored b new.words (take n (changed_pages up b lo count (cols f) new)) f.words;
      owners = column_stored b new.owners (take n (changed_pages up b lo count (cols f) new)) f.owners;
    }
unfolding stored_file enough
stored_is up b lo count M n f new separators l inside zf zl fo fn e =
    ap (λ (s : List ℕ). cond (leb (length s) n) l (pages_stored b l (take n s) f)) stores
    ∙ go (enough n S) refl
  where
    S : List ℕ
    S = changed_pages up b lo count (cols f) new

    after : File
    after = record { separators = separators; numbers = (finished b lo count (cols f) new).numbers; words = (finished b lo count (cols f) new).words; owners = (finished b lo count (cols f) new).owners }

    stores : store_order up b f l M ≡ S
    stores =
        order_is up b M f l zf zl
        ∙ ap (λ (k : File). changed_pages up b 0 M (cols f) (cols k)) e
        ∙ changed-whole up b lo count M (cols f) new inside fo fn

    numbers : column_stored b (finished b lo count (cols f) new).numbers (take n S) f.numbers ≡ column_stored b new.numbers (take n S) f.numbers
    numbers =
        sym (ap (λ (s : List ℕ). column_stored b (finished b lo count (cols f) new).numbers (take n s) f.numbers) (changed-whole up b lo count M (cols f) new inside fo fn))
        ∙ numbers_whole up b lo count M (cols f) new inside fo fn n

    words : column_stored b (finished b lo count (cols f) new).words (take n S) f.words ≡ column_stored b new.words (take n S) f.words
    words =
        sym (ap (λ (s : List ℕ). column_stored b (finished b lo count (cols f) new).words (take n s) f.words) (changed-whole up b lo count M (cols f) new inside fo fn))
        ∙ words-whole up b lo count M (cols f) new inside fo fn n

    owners : column_stored b (finished b lo count (cols f) new).owners (take n S) f.owners ≡ column_stored b new.owners (take n S) f.owners
    owners =
        sym (ap (λ (s : List ℕ). column_stored b (finished b lo count (cols f) new).owners (take n s) f.owners) (changed-whole up b lo count M (cols f) new inside fo fn))
        ∙ owners_whole up b lo count M (cols f) new inside fo fn n

    go : (t : Bool) → enough n S ≡ t → cond t l (pages_stored b l (take n S) f)
        ≡ record {
          separators = cond t separators f.separators;
          numbers = column_stored b new.numbers (take n S) f.numbers;
          words = column_stored b new.words (take n S) f.words;
          owners = column_stored b new.owners (take n S) f.owners;
        }
    go true d =
        e ∙ rw (numbers_all up b lo count n (cols f) new fo fn d, words-all up b lo count n (cols f) new fo fn d, owners_all up b lo count n (cols f) new fo fn d)
    go false d = ap (λ (k : File). pages_stored b k (take n S) f) e ∙ by-columns b after (take n S) f ∙ rw (numbers, words, owners)

-- Nothing changes: nothing is stored.
pub none-stored : (up : Bool) (b M n : ℕ) (f : File) → stored_file b f f (store_order up b f f M) n ≡ f
unfolding stored_file
none-stored up b M n f = rw (none up, le-leb 0 n (omega arith))
  where
    none : (up : Bool) → store_order up b f f M ≡ []
    none true = none-upward b f f 0 M (λ q k. same-unchanged b f f q (same_self b f q))
    none false = downward-none b f f M (λ q k. same-unchanged b f f q (same_self b f q))

-- There are no more stores than pages.
pub few-stores : (up : Bool) (b M : ℕ) (f l : File) → length (store_order up b f l M) ≤ M
few-stores true b M f l = length-upward b f l 0 M
few-stores false b M f l = length-downward b f l M

-- "with a store for every changed page, or more, it is the call"
pub whole-stopped : (up : Bool) (p : Parameters) (f : File) (n : ℕ) (after : After) → p.pages ≤ n → stopped up p f n after ≡ after
whole-stopped up p f n after h =
    all-stores p.places f (store_order up p.places f after.file p.pages) n after (omega (arith, few-stores up p.places p.pages f after.file))

-- A call that changes one page at most: nothing without a store, all with one.
module _ (b M r : ℕ) (f l : File) (elsewhere : (q : ℕ) → (q ≡ r → ⊥) → SamePage b f l q) where
  one-downward : (c : ℕ) → length (downward b f l c) ≤ 1
  unfolding downward
  one-downward zero = omega arith
  one-downward (suc c) = go (ℕ_discrete c r) (one-downward c)
    where
      more : (t : Bool) (xs : List ℕ) → xs ≡ [] → length (keep t c xs) ≤ 1
      more true xs e = rw e (le_refl 1)
      more false xs e = rw e (omega arith)

      go : Dec (c ≡ r) → length (downward b f l c) ≤ 1 → length (keep (page_changes b f l c) c (downward b f l c)) ≤ 1
      go (yes e) ih = more (page_changes b f l c) (downward b f l c) (downward-none b f l c (λ q k. same-unchanged b f l q (elsewhere q (λ d. omega (arith, d, e)))))
      go (no e) ih = rw (same-unchanged b f l c (elsewhere c e)) ih

  one-order : (up : Bool) → length (store_order up b f l M) ≤ 1
  one-order true = one-upward b f l r 0 M (λ q d. same-unchanged b f l q (elsewhere q d))
  one-order false = one-downward M

  kept-long : (t : Bool) (x : ℕ) (xs : List ℕ) → length xs ≤ length (keep t x xs)
  kept-long true x xs = omega arith
  kept-long false x xs = omega arith

  some-downward : (c : ℕ) → r < c → page_changes b f l r ≡ true → 1 ≤ length (downward b f l c)
  unfolding downward
  some-downward zero h e = absurd (omega arith)
  some-downward (suc c) h e = go (ℕ_discrete r c) (some-downward c)
    where
      go : Dec (r ≡ c) → (r < c → page_changes b f l r ≡ true → 1 ≤ length (downward b f l c)) → 1 ≤ length (keep (page_changes b f l c) c (downward b f l c))
      go (yes d) ih = rw (ap (page_changes b f l) (sym d) ∙ e) (omega arith)
      go (no d) ih = omega (arith, ih (omega (arith, d)) e, kept-long (page_changes b f l c) c (downward b f l c))

  some-upward : (c j : ℕ) → c ≤ r → r < c + j → page_changes b f l r ≡ true → 1 ≤ length (upward b f l c j)
  unfolding upward
  some-upward c zero g h e = absurd (omega arith)
  some-upward c (suc j) g h e = go (ℕ_discrete r c) (some-upward (suc c) j)
    where
      go : Dec (r ≡ c) → (suc c ≤ r → r < suc c + j → page_changes b f l r ≡ true → 1 ≤ length (upward b f l (suc c) j)) → 1 ≤ length (keep (page_changes b f l c) c (upward b f l (suc c) j))
      go (yes d) ih = rw (ap (page_changes b f l) (sym d) ∙ e) (omega arith)
      go (no d) ih = omega (arith, ih (omega (arith, d)) (omega arith) e, kept-long (page_changes b f l c) c (upward b f l (suc c) j))

  some-order : (up : Bool) → r < M → page_changes b f l r ≡ true → 1 ≤ length (store_order up b f l M)
  some-order true h e = some-upward 0 M (omega arith) (omega arith) e
  some-order false h e = some-downward M h e

  pub one-page-stored : (up : Bool) (n : ℕ) → Sized b M f → Sized b M l → f.separators ≡ l.separators → stored_file b f l (store_order up b f l M) n ≡ cond (eqb n 0) f l
  unfolding stored_file pages_stored
  one-page-stored up zero zf zl e = go (leb (length (store_order up b f l M)) 0) refl
    where
      all : page_changes b f l r ≡ false → f ≡ l
      all d = determined b M f l zf zl e (λ q k. (same q k).numbers) (λ q k. (same q k).words) (λ q k. (same q k).owners)
        where
          at : (q : ℕ) → q < M → Dec (q ≡ r) → SamePage b f l q
          at q k (yes x) = unchanged-same b M f l q zf zl k (ap (page_changes b f l) x ∙ d)
          at q k (no x) = elsewhere q x

          same : (q : ℕ) → q < M → SamePage b f l q
          same q k = at q k (ℕ_discrete q r)

      none : length (store_order up b f l M) ≤ 0 → (t : Bool) → page_changes b f l r ≡ t → Dec (r < M) → f ≡ l
      none h t d (no x) = determined b M f l zf zl e (λ q k. (elsewhere q (λ y. omega (arith, x, y))).numbers) (λ q k. (elsewhere q (λ y. omega (arith, x, y))).words) (λ q k. (elsewhere q (λ y. omega (arith, x, y))).owners)
      none h true d (yes x) = absurd (omega (arith, some-order up x d))
      none h false d (yes x) = all d

      go : (t : Bool) → leb (length (store_order up b f l M)) 0 ≡ t → cond t l (pages_stored b l (take 0 (store_order up b f l M)) f) ≡ f
      go true d = sym (none (leb-true (length (store_order up b f l M)) 0 d) (page_changes b f l r) refl (dec_lt r M))
      go false d = refl
  one-page-stored up (suc n) zf zl e =
      rw (ne_eqb (suc n) 0 (λ d. omega (arith, d))) (all-stored b f l (store_order up b f l M) (suc n) (omega (arith, one-order up)))
