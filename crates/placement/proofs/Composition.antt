-- The rule over n + m pages is the rule over n, then over m from what is left. Lengths and counts.
use mathlib.Core.Path.{◌≡◌, refl, ap, ◌∙◌}
use mathlib.Core.List.{List, [], ◌∷◌, ◌++◌}
use Prim.Native.Nat.{ℕ, zero, suc, ◌+◌, ◌-◌, ◌*◌, ◌≤◌, ◌<◌}
use native.Mathlib.Nat.{zero-add, add-zero, suc-add, add-suc, suc-mul, zero-mul}
use native.Mathlib.Omega.{arith}
use lib.ListN.{length, take, drop}
use lib.Seq.{take_at, drop_at}
use Rattle.placement.specs.Rule.{Star, Hash, Contents, staying, passing, separator_of, contents_of, onward, pages, left}
use Rattle.placement.proofs.Filters.{length-split}
use Rattle.placement.proofs.Separator.{stays, sep_fits}

pub left-add : (H : Hash) (p n m : ℕ) (w : List Star) → left H p (n + m) w ≡ left H (p + n) m (left H p n w)
unfolding left
left-add H p zero m w = rw (zero-add m, add-zero p)
left-add H p (suc n) m w = rw (suc-add n m, add-suc p n) (rw (suc-add p n) at (left-add H (suc p) n m (onward H p w)))

pub pages-add : (H : Hash) (p n m : ℕ) (w : List Star) → pages H p (n + m) w ≡ pages H p n w ++ pages H (p + n) m (left H p n w)
unfolding pages left
pages-add H p zero m w = rw (zero-add m, add-zero p)
pages-add H p (suc n) m w =
    rw (suc-add n m, add-suc p n) (ap (λ (cs : List Contents). contents_of H p w ∷ cs) (rw (suc-add p n) at (pages-add H (suc p) n m (onward H p w))))

pub length-pages : (H : Hash) (p n : ℕ) (w : List Star) → length (pages H p n w) ≡ n
unfolding pages
length-pages H p zero w = refl
length-pages H p (suc n) w = ap suc (length-pages H (suc p) n (onward H p w))

pub take-pages : (H : Hash) (p n m : ℕ) (w : List Star) → take n (pages H p (n + m) w) ≡ pages H p n w
take-pages H p n m w =
    rw (pages-add H p n m w) (take_at (pages H p n w) (pages H (p + n) m (left H p n w)) n (length-pages H p n w))

pub drop-pages : (H : Hash) (p n m : ℕ) (w : List Star) → drop n (pages H p (n + m) w) ≡ pages H (p + n) m (left H p n w)
drop-pages H p n m w =
    rw (pages-add H p n m w) (drop_at (pages H p n w) (pages H (p + n) m (left H p n w)) n (length-pages H p n w))

-- The n pages from a, of M.
pub middle_pages : (H : Hash) (a n M : ℕ) (w : List Star) → a + n ≤ M → take n (drop a (pages H 0 M w)) ≡ pages H a n (left H 0 a w)
middle_pages H a n M w h =
    ap (λ (k : ℕ). take n (drop a (pages H 0 k w))) whole
    ∙ ap (take n) (drop-pages H 0 a (n + rest) w)
    ∙ rw (zero-add a) (take-pages H a n rest (left H 0 a w))
  where
    rest : ℕ
    rest = M - (a + n)

    whole : M ≡ a + (n + rest)
    whole = omega arith

-- The n pages keep at most room stars each.
pub count : (H : Hash) (p n : ℕ) (w : List Star) → length w ≤ n * H.room + length (left H p n w)
unfolding left onward passing staying
count H p zero w = rw zero-mul (omega arith)
count H p (suc n) w =
    rw (suc-mul n H.room)
    (go (length-split (stays H p (separator_of H p w)) w) (sep_fits H p w) (count H (suc p) n (onward H p w)))
  where
    go : length (staying H p (separator_of H p w) w) + length (onward H p w) ≡ length w → length (staying H p (separator_of H p w) w) ≤ H.room
        → length (onward H p w) ≤ n * H.room + length (left H (suc p) n (onward H p w))
        → length w ≤ n * H.room + H.room + length (left H (suc p) n (onward H p w))
    go e f g = omega arith

-- More stars than places: some are left.
pub crowded : (H : Hash) (p n : ℕ) (w : List Star) → n * H.room < length w → left H p n w ≡ [] → ⊥
crowded H p n w h e = omega (arith, rw e at (count H p n w))
