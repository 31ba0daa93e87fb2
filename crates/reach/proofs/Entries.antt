-- On the file that the rule lays an entry's reach decides as the rule over all pages, and the cascade as the entry.
use mathlib.Core.Path.{◌≡◌, refl, sym, ap, subst, ◌∙◌}
use mathlib.Core.Bool.{Bool, true, false, ◌&&◌, and-eq-true_iff, true≢false}
use mathlib.Core.List.{List, [], ◌∷◌}
use Prim.Native.Nat.{ℕ, ◌+◌, ◌-◌, ◌≤◌, ◌<◌}
use native.Mathlib.Decide.{dec_lt}
use native.Mathlib.Omega.{arith}
use lib.ListN.{length}
use Rattle.buffers.specs.Lists.{written}
use Rattle.placement.specs.Rule.{Star, Hash, Contents, pages, left, first, insert}
use Rattle.placement.specs.File.{File, gathered, replaced, laid}
use Rattle.placement.proofs.Separator.{Bounded}
use Rattle.placement.proofs.Order.{Rising, Absent, inserted}
use Rattle.placement.proofs.Locality.{standing, enters}
use Rattle.placement.proofs.Pages.{Proper}
use Rattle.placement.proofs.Files.{gathered-stretch}
use Rattle.placement.proofs.Entry.{ends-ended, entered, entry-refused}
use Rattle.reach.specs.Reach.{is_empty, pages_to, stored_top, entering, enters_within, entry_end, holding}
use Rattle.reach.specs.Cascade.{cascaded, carried_past}
use Rattle.reach.proofs.Search.{Such, such}
use Rattle.reach.proofs.Reaching.{is-empty, Reach, entry-reach}
use Rattle.reach.proofs.Cascading.{cascade-inside, cascade-pages, cascade-file, cascade-left}
use Rattle.reach.proofs.Holding.{holding-written}

-- Where the cascade of s begins, what it writes, and what the entry's reach writes from home on.
abbrev pub start : Hash → File → Star → ℕ
start H f s = first H 0 f.separators s.number

abbrev pub cascade_pages : Hash → ℕ → File → Star → List Contents
cascade_pages H M f s = cascaded H f (start H f s) (M - start H f s) (s ∷ [])

abbrev pub reach_pages : Hash → ℕ → File → Star → List Contents
reach_pages H M f s = pages H (H.home s.number) (pages_to (H.home s.number) (entry_end H M f s)) (entering H f s (entry_end H M f s))

-- Document 02 (ix): "On every clean file, separators, pages and answers are those of the present entry".
pub record AsEntry (H : Hash) (M : ℕ) (f : File) (s : Star) : Type 0 where
  pub inside : start H f s + length (cascade_pages H M f s) ≤ M
  pub carries : is_empty (carried_past H f (start H f s) (M - start H f s) (s ∷ [])) ≡ enters_within H f s (entry_end H M f s)
  pub file :
      enters_within H f s (entry_end H M f s) ≡ true
      → replaced H.room f (start H f s) (cascade_pages H M f s) ≡ replaced H.room f (H.home s.number) (reach_pages H M f s)
  pub page :
      enters_within H f s (entry_end H M f s) ≡ true
      → holding s.number (start H f s) (cascade_pages H M f s) ≡ holding s.number (H.home s.number) (reach_pages H M f s)

module _ (ok : ℕ → Bool) (H : Hash) (b : Bounded H) (M : ℕ) (t : List Star) (s : Star) (rising : Rising 0 t) (proper : Proper ok t) (fits : left H 0 M t ≡ []) (homed : H.home s.number < M) where
  abbrev F : File
  F = laid H.room H M t

  abbrev from : ℕ
  from = H.home s.number

  abbrev to : ℕ
  to = entry_end H M F s

  reached : Reach H M F from to
  reached = entry-reach H M F s homed

  -- The reach leaves nothing: the new pages are those of all the stars, which fit.
  pub entry-laid : enters_within H F s to ≡ true → (replaced H.room F from (reach_pages H M F s) ≡ laid H.room H M (insert s t)) × (left H 0 M (insert s t) ≡ [])
  unfolding entering enters_within
  entry-laid e = entered ok H b M from (to - from) t rising proper fits reached.high s refl reached.ends (is-empty _ e)

  entry-pages : enters_within H F s to ≡ true → pages H 0 M (insert s t) ≡ written from (reach_pages H M F s) (pages H 0 M t)
  unfolding entering enters_within
  entry-pages e =
      rw here
      (subst (λ (k : ℕ). pages H 0 k (insert s t) ≡ written from (pages H from n (insert s (standing H from n t))) (pages H 0 k t)) whole
      (enters H from n (M - (from + n)) t s rising refl (omega arith) (ends-ended H b M from (to - from) t fits reached.high reached.ends) (ap (λ (l : List Star). left H from n (insert s l)) (sym here) ∙ is-empty _ e)).0)
    where
      n : ℕ
      n = pages_to from to

      whole : from + (n + (M - (from + n))) ≡ M
      whole = omega (arith, reached.high)

      here : gathered H.room F from n ≡ standing H from n t
      here = gathered-stretch ok H M t proper from n reached.high

  -- It carries a star on: so does the rule over all pages.
  pub entry-carried : enters_within H F s to ≡ false → left H 0 M (insert s t) ≡ [] → ⊥
  unfolding entering enters_within entry_end
  entry-carried e none = go (dec_lt to (from + (M - 1 - from)))
    where
      stops : ℕ → Bool
      stops q = stored_top F.separators H.top q && enters_within H F s q

      found : Such stops from (M - 1 - from) to
      found = such stops from (M - 1 - from)

      go : Dec (to < from + (M - 1 - from)) → ⊥
      go (yes d) = true≢false (sym ((and-eq-true_iff (stored_top F.separators H.top to) (enters_within H F s to)).0 (found.passes d)).1 ∙ e)
      go (no d) = true≢false (sym (ap is_empty (sym last ∙ none)) ∙ e)
        where
          last : left H 0 M (insert s t) ≡ left H from (pages_to from to) (insert s (gathered H.room F from (pages_to from to)))
          last = entry-refused ok H b M from (to - from) t rising proper fits reached.high s refl (omega (arith, found.low, found.high, homed))

  pub as_entry : Absent s.number t → AsEntry H M F s
  as_entry absent =
      record {
        inside = inside;
        carries = ap is_empty (sym (cascade-left ok H M t s rising proper absent fits)) ∙ go (enters_within H F s to) (left H 0 M (insert s t)) refl refl;
        file = λ e. cascade-file ok H M t s rising proper absent ∙ sym (entry-laid e).0;
        page = λ e.
            sym (on-pages e (start H F s) (cascade_pages H M F s) (omega (arith, inside)) (cascade-pages ok H M t s rising proper absent))
            ∙ on-pages e from (reach_pages H M F s) (omega (arith, homed)) (entry-pages e);
      }
    where
      inside : start H F s + length (cascade_pages H M F s) ≤ M
      inside = cascade-inside ok H M t s rising proper absent

      go : (e : Bool) (l : List Star) → enters_within H F s to ≡ e → left H 0 M (insert s t) ≡ l → is_empty l ≡ e
      go true l e d = ap is_empty (sym d ∙ (entry-laid e).1)
      go false [] e d = absurd (entry-carried e d)
      go false (x ∷ l) e d = refl

      on-pages : enters_within H F s to ≡ true → (a : ℕ) (X : List Contents) → a ≤ M → pages H 0 M (insert s t) ≡ written a X (pages H 0 M t)
          → holding s.number 0 (pages H 0 M (insert s t)) ≡ holding s.number a X
      on-pages e a X h d = holding-written H M a t (insert s t) s X absent h d (entry-laid e).1 (inserted s t)
