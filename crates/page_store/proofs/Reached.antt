-- A column while its pages are stored in turn: new up to some turn, old from there on, and untouched outside the stretch.
use mathlib.Core.Path.{◌≡◌, refl, sym, ap, ◌∙◌}
use mathlib.Core.Bool.{Bool, true, false, cond}
use mathlib.Core.List.{List, [], ◌∷◌}
use Prim.Native.Nat.{ℕ, zero, suc, ◌+◌, ◌-◌, ◌*◌, ◌≤◌, ◌<◌}
use native.Mathlib.Nat.{mul-le-mul_right, le_refl, add-zero, add-suc, suc-add}
use native.Mathlib.Decide.{ℕ_discrete}
use native.Mathlib.Omega.{arith}
use lib.ListN.{length, take, drop}
use lib.Seq.{take-nil}
use Rattle.buffers.specs.Lists.{written}
use Rattle.pages.specs.Page.{part}
use Rattle.pages.proofs.Parts.{pages-apart, part_length}
use Rattle.page_store.specs.Stores.{column_stored}
use Rattle.page_store.proofs.OnePage.{written-long, part-here, part-there, lower-stays, upper_stays}
use Rattle.page_store.proofs.Order.{todo}

-- the pages of `count` turns are those of the stretch, each once; a page that does not change is the same in both columns
pub record Given (b lo count : ℕ) (page : ℕ → ℕ) (changes : ℕ → Bool) (new old : List ℕ) : Type 0 where
  pub inside : (j : ℕ) → j < count → (lo ≤ page j) × (page j < lo + count)
  pub apart : (i j : ℕ) → i < count → j < count → page j ≡ page i → j ≡ i
  pub same : (j : ℕ) → j < count → changes (page j) ≡ false → part b (page j) old ≡ part b (page j) new
  pub fits_old : (lo + count) * b ≤ length old
  pub fits_new : (lo + count) * b ≤ length new

pub record Reached (b lo count : ℕ) (page : ℕ → ℕ) (new old : List ℕ) (m : ℕ) (cur : List ℕ) : Type 0 where
  pub kept : length cur ≡ length old
  pub done : (j : ℕ) → j < m → j < count → part b (page j) cur ≡ part b (page j) new
  pub ahead : (j : ℕ) → m ≤ j → j < count → part b (page j) cur ≡ part b (page j) old
  pub lower : take (lo * b) cur ≡ take (lo * b) old
  pub upper : drop ((lo + count) * b) cur ≡ drop ((lo + count) * b) old

-- the turn before which the stores end, when there are k of them: the first changed page after those, or the end of the stretch
unfoldable pub stop : (ℕ → Bool) → (ℕ → ℕ) → ℕ → ℕ → ℕ → ℕ
stop changes page i zero k = i
stop changes page i (suc n) zero = cond (changes (page i)) i (stop changes page (suc i) n zero)
stop changes page i (suc n) (suc k) = cond (changes (page i)) (stop changes page (suc i) n k) (stop changes page (suc i) n (suc k))

-- with a store for every changed page, or more, that is the end
pub stop-all : (changes : ℕ → Bool) (page : ℕ → ℕ) (i n k : ℕ) → length (todo changes page i n) ≤ k → stop changes page i n k ≡ i + n
unfolding stop todo
stop-all changes page i zero k h = sym (add-zero i)
stop-all changes page i (suc n) zero h = go (changes (page i)) h (stop-all changes page (suc i) n zero)
  where
    go : (t : Bool) → length (cond t (page i ∷ todo changes page (suc i) n) (todo changes page (suc i) n)) ≤ 0
        → (length (todo changes page (suc i) n) ≤ 0 → stop changes page (suc i) n zero ≡ suc i + n) → cond t i (stop changes page (suc i) n zero) ≡ i + suc n
    go true h ih = absurd (omega arith)
    go false h ih = ih h ∙ omega arith
stop-all changes page i (suc n) (suc k) h = go (changes (page i)) h (stop-all changes page (suc i) n k) (stop-all changes page (suc i) n (suc k))
  where
    go : (t : Bool) → length (cond t (page i ∷ todo changes page (suc i) n) (todo changes page (suc i) n)) ≤ suc k
        → (length (todo changes page (suc i) n) ≤ k → stop changes page (suc i) n k ≡ suc i + n)
        → (length (todo changes page (suc i) n) ≤ suc k → stop changes page (suc i) n (suc k) ≡ suc i + n)
        → cond t (stop changes page (suc i) n k) (stop changes page (suc i) n (suc k)) ≡ i + suc n
    go true h ih jh = ih (omega arith) ∙ omega arith
    go false h ih jh = jh h ∙ omega arith

pub stop-within : (changes : ℕ → Bool) (page : ℕ → ℕ) (i n k : ℕ) → stop changes page i n k ≤ i + n
unfolding stop
stop-within changes page i zero k = omega arith
stop-within changes page i (suc n) zero = go (changes (page i)) (stop-within changes page (suc i) n zero)
  where
    go : (t : Bool) → stop changes page (suc i) n zero ≤ suc i + n → cond t i (stop changes page (suc i) n zero) ≤ i + suc n
    go true h = omega arith
    go false h = omega arith
stop-within changes page i (suc n) (suc k) = go (changes (page i)) (stop-within changes page (suc i) n k) (stop-within changes page (suc i) n (suc k))
  where
    go : (t : Bool) → stop changes page (suc i) n k ≤ suc i + n → stop changes page (suc i) n (suc k) ≤ suc i + n
        → cond t (stop changes page (suc i) n k) (stop changes page (suc i) n (suc k)) ≤ i + suc n
    go true h g = omega arith
    go false h g = omega arith

module _ {b lo count : ℕ} {page : ℕ → ℕ} {changes : ℕ → Bool} {new old : List ℕ} (g : Given b lo count page changes new old) where
  pub page-fits : (i : ℕ) → i < count → page i * b + b ≤ (lo + count) * b
  page-fits i h = pages-apart b (page i) (lo + count) (g.inside i h).1

  pub reached-none : Reached b lo count page new old 0 old
  reached-none = record { kept = refl; done = λ j h k. absurd (omega arith); ahead = λ j h k. refl; lower = refl; upper = refl }

  pub reached-skip : (i : ℕ) (cur : List ℕ) → i < count → changes (page i) ≡ false → Reached b lo count page new old i cur → Reached b lo count page new old (suc i) cur
  reached-skip i cur h e m =
      record {
        kept = m.kept;
        done = λ j k l. at j k l (ℕ_discrete j i);
        ahead = λ j k l. m.ahead j (omega arith) l;
        lower = m.lower;
        upper = m.upper;
      }
    where
      at : (j : ℕ) → j < suc i → j < count → Dec (j ≡ i) → part b (page j) cur ≡ part b (page j) new
      at j k l (yes d) = rw d (m.ahead i (le_refl i) h ∙ g.same i h e)
      at j k l (no d) = m.done j (omega (arith, d)) l

  pub reached-store : (i : ℕ) (cur : List ℕ) → i < count → Reached b lo count page new old i cur
      → Reached b lo count page new old (suc i) (written (page i * b) (part b (page i) new) cur)
  reached-store i cur h m =
      record {
        kept = written-long b (page i) (part b (page i) new) cur size fits ∙ m.kept;
        done = λ j k l. at j k l (ℕ_discrete j i);
        ahead = λ j k l. part-there b (page i) (part b (page i) new) cur size fits (page j) (λ e. away j k l e) ∙ m.ahead j (omega arith) l;
        lower = lower-stays b (page i) (part b (page i) new) cur size fits lo (mul-le-mul_right {m = lo} {n = page i} b (g.inside i h).0) ∙ m.lower;
        upper = upper_stays b (page i) (part b (page i) new) cur size fits (lo + count) (page-fits i h) ∙ m.upper;
      }
    where
      size : length (part b (page i) new) ≡ b
      size = part_length b (page i) new (omega (arith, page-fits i h, g.fits_new))

      fits : page i * b + b ≤ length cur
      fits = omega (arith, page-fits i h, g.fits_old, m.kept)

      away : (j : ℕ) → suc i ≤ j → j < count → page j ≡ page i → ⊥
      away j k l e = omega (arith, g.apart i j h l e)

      at : (j : ℕ) → j < suc i → j < count → Dec (j ≡ i) → part b (page j) (written (page i * b) (part b (page i) new) cur) ≡ part b (page j) new
      at j k l (yes d) = rw d (part-here b (page i) (part b (page i) new) cur size fits)
      at j k l (no d) =
          part-there b (page i) (part b (page i) new) cur size fits (page j) (λ e. d (g.apart i j h l e)) ∙ m.done j (omega (arith, d)) l

  -- after k stores
  pub reached-after : (i n k : ℕ) (cur : List ℕ) → i + n ≡ count → Reached b lo count page new old i cur
      → Reached b lo count page new old (stop changes page i n k) (column_stored b new (take k (todo changes page i n)) cur)
  unfolding stop todo column_stored
  reached-after i zero zero cur e m = m
  reached-after i zero (suc k) cur e m = m
  reached-after i (suc n) zero cur e m = go (changes (page i)) refl (reached-after (suc i) n zero cur (omega arith))
    where
      go : (t : Bool) → changes (page i) ≡ t
          → (Reached b lo count page new old (suc i) cur → Reached b lo count page new old (stop changes page (suc i) n zero) cur)
          → Reached b lo count page new old (cond t i (stop changes page (suc i) n zero)) cur
      go true d ih = m
      go false d ih = ih (reached-skip i cur (omega arith) d m)
  reached-after i (suc n) (suc k) cur e m =
      go (changes (page i)) refl (reached-after (suc i) n k (written (page i * b) (part b (page i) new) cur) (omega arith)) (reached-after (suc i) n (suc k) cur (omega arith))
    where
      go : (t : Bool) → changes (page i) ≡ t
          → (Reached b lo count page new old (suc i) (written (page i * b) (part b (page i) new) cur)
          → Reached b lo count page new old (stop changes page (suc i) n k) (column_stored b new (take k (todo changes page (suc i) n)) (written (page i * b) (part b (page i) new) cur)))
          → (Reached b lo count page new old (suc i) cur
          → Reached b lo count page new old (stop changes page (suc i) n (suc k)) (column_stored b new (take (suc k) (todo changes page (suc i) n)) cur))
          → Reached b lo count page new old
          (cond t (stop changes page (suc i) n k) (stop changes page (suc i) n (suc k)))
          (column_stored b new (take (suc k) (cond t (page i ∷ todo changes page (suc i) n) (todo changes page (suc i) n))) cur)
      go true d ih jh = ih (reached-store i cur (omega arith) m)
      go false d ih jh = jh (reached-skip i cur (omega arith) d m)
