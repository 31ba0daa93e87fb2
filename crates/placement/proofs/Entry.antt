-- Entry and removal in the file that the rule lays.
use mathlib.Core.Path.{◌≡◌, sym, ap, ◌∙◌, subst}
use mathlib.Core.Bool.{Bool}
use mathlib.Core.List.{List, [], ◌++◌, Memᴰ}
use mathlib.Core.Logic.{⊎_elim, ◌⊎◌}
use Prim.Native.Nat.{ℕ, suc, ◌+◌, ◌-◌, ◌≤◌, ◌<◌}
use native.Mathlib.Nat.{zero-add}
use native.Mathlib.Omega.{arith}
use lib.ListN.{length, take, drop, get_or, length-append}
use lib.Seq.{get_or-take, get_or-drop, drop_at, length-take-le}
use Rattle.buffers.specs.Lists.{written}
use Rattle.placement.specs.Rule.{Star, Hash, Contents, pages, left, first, insert, without, separators}
use Rattle.placement.specs.Shape.{blank}
use Rattle.placement.specs.File.{File, gathered, file_of, replaced, laid}
use Rattle.placement.proofs.Separator.{Bounded}
use Rattle.placement.proofs.Composition.{length-pages, left-add, middle_pages}
use Rattle.placement.proofs.Standing.{length-separators, looked_up_lem, first-home-on, first-append}
use Rattle.placement.proofs.Order.{Rising, inserted}
use Rattle.placement.proofs.Locality.{Ended, ended-top, ended-empty, standing, enters, refused, removes}
use Rattle.placement.proofs.Writing.{get_d_separators, separators-append}
use Rattle.placement.proofs.Pages.{Proper}
use Rattle.placement.proofs.Files.{roomy-pages, replaced-of, gathered-stretch}

-- The reach of pages a to a + d ends: at a page whose stored separator is top, or at the last.
abbrev pub Ends : Hash → ℕ → File → ℕ → ℕ → Type 0
Ends H M f a d = (get_or f.separators (a + d) 0 ≡ H.top) ⊎ (a + suc d ≡ M)

pub ends-ended : (H : Hash) → Bounded H → (M a d : ℕ) (t : List Star) → left H 0 M t ≡ [] → a + suc d ≤ M → Ends H M (laid H.room H M t) a d
    → Ended H a (suc d) (left H 0 a t)
unfolding laid file_of
ends-ended H b M a d t fits h c =
    ⊎_elim (λ (e : get_or (separators (pages H 0 M t)) (a + d) 0 ≡ H.top). ended-top H b a d (left H 0 a t) (same ∙ e))
    (λ (e : a + suc d ≡ M). ended-empty H a (suc d) (left H 0 a t) (sym (rw (zero-add a) at (left-add H 0 a (suc d) t)) ∙ ap (λ (k : ℕ). left H 0 k t) e ∙ fits))
    c
  where
    same : get_or (separators (pages H a (suc d) (left H 0 a t))) d 0 ≡ get_or (separators (pages H 0 M t)) (a + d) 0
    same =
        get_d_separators (pages H a (suc d) (left H 0 a t)) d
        ∙ ap (λ (cs : List Contents). (get_or cs d blank).separator) (sym (middle_pages H a (suc d) M t h))
        ∙ ap (λ (c : Contents). c.separator) (get_or-take (suc d) (drop a (pages H 0 M t)) d blank (omega arith) ∙ get_or-drop a (pages H 0 M t) d blank)
        ∙ sym (get_d_separators (pages H 0 M t) (a + d))

-- One stretch replaced, as a whole file.
relaid : (H : Hash) (M a n : ℕ) (t u A : List Star) → a + n ≤ M → pages H 0 M u ≡ written a (pages H a n A) (pages H 0 M t)
    → replaced H.room (laid H.room H M t) a (pages H a n A) ≡ laid H.room H M u
unfolding laid
relaid H M a n t u A h e =
    replaced-of H.room (pages H 0 M t) (pages H a n A) a (roomy-pages H 0 M t) (roomy-pages H a n A) (omega (arith, length-pages H a n A, length-pages H 0 M t))
    ∙ ap (file_of H.room) (sym e)

module _ (ok : ℕ → Bool) (H : Hash) (b : Bounded H) (M a d : ℕ) (t : List Star) (rising : Rising 0 t) (proper : Proper ok t) (fits : left H 0 M t ≡ []) (inside : a + suc d ≤ M) where
  rest : ℕ
  rest = M - (a + suc d)

  whole : a + (suc d + rest) ≡ M
  unfolding rest
  whole = omega arith

  here : gathered H.room (laid H.room H M t) a (suc d) ≡ standing H a (suc d) t
  here = gathered-stretch ok H M t proper a (suc d) inside

  -- Entry: the stretch from home to the end of the reach, with the new star, leaves nothing.
  entry-pages : (s : Star) → H.home s.number ≡ a → Ends H M (laid H.room H M t) a d → left H a (suc d) (insert s (standing H a (suc d) t)) ≡ []
      → (pages H 0 M (insert s t) ≡ written a (pages H a (suc d) (insert s (standing H a (suc d) t))) (pages H 0 M t)) × (left H 0 M (insert s t) ≡ left H 0 M t)
  entry-pages s e c f = subst Both whole (enters H a (suc d) rest t s rising e (omega arith) (ends-ended H b M a d t fits inside c) f)
    where
      Both : ℕ → Type 0
      Both k =
          (pages H 0 k (insert s t) ≡ written a (pages H a (suc d) (insert s (standing H a (suc d) t))) (pages H 0 k t)) × (left H 0 k (insert s t) ≡ left H 0 k t)

  pub entered : (s : Star) → H.home s.number ≡ a → Ends H M (laid H.room H M t) a d
      → left H a (suc d) (insert s (gathered H.room (laid H.room H M t) a (suc d))) ≡ []
      → (replaced H.room (laid H.room H M t) a (pages H a (suc d) (insert s (gathered H.room (laid H.room H M t) a (suc d)))) ≡ laid H.room H M (insert s t))
      × (left H 0 M (insert s t) ≡ [])
  entered s e c f =
      let both = entry-pages s e c (rw here at f) in
      rw here (relaid H M a (suc d) t (insert s t) (insert s (standing H a (suc d) t)) inside both.0, both.1 ∙ fits)

  -- The page where the new star stands, by the stretch's new separators alone.
  pub entered-page : (s : Star) → H.home s.number ≡ a → Ends H M (laid H.room H M t) a d
      → left H a (suc d) (insert s (gathered H.room (laid H.room H M t) a (suc d))) ≡ []
      → first H 0 (laid H.room H M (insert s t)).separators s.number
      ≡ first H a (separators (pages H a (suc d) (insert s (gathered H.room (laid H.room H M t) a (suc d))))) s.number
  unfolding laid file_of written
  entered-page s e c f =
      ap (λ (cs : List Contents). first H 0 (separators cs) s.number) (entry-pages s e c fitted).0
      ∙ ap (λ (vs : List ℕ). first H 0 vs s.number) (separators-append P (X ++ R) ∙ ap (λ (vs : List ℕ). separators P ++ vs) (separators-append X R))
      ∙ sym from-home
      ∙ ap (λ (vs : List ℕ). first H a vs s.number) (drop_at (separators P) (separators X ++ separators R) a size)
      ∙ first-append H a (separators X) (separators R) s.number (omega (arith, length-separators X, length-pages H a (suc d) A, stand.1, stand.2))
      ∙ ap (λ (l : List Star). first H a (separators (pages H a (suc d) (insert s l))) s.number) (sym here)
    where
      A : List Star
      A = insert s (standing H a (suc d) t)

      fitted : left H a (suc d) A ≡ []
      fitted = rw here at f

      P : List Contents
      P = take a (pages H 0 M t)

      X : List Contents
      X = pages H a (suc d) A

      R : List Contents
      R = drop (a + length X) (pages H 0 M t)

      size : length (separators P) ≡ a
      size = length-separators P ∙ length-take-le a (pages H 0 M t) (omega (arith, length-pages H 0 M t))

      stand : (i : ℕ) × (i < suc d) × (first H a (separators X) s.number ≡ a + i) × Memᴰ s (get_or X i blank).stars
      stand = looked_up_lem H a (suc d) A s fitted (inserted s (standing H a (suc d) t))

      from-home : first H a (drop a (separators P ++ (separators X ++ separators R))) s.number ≡ first H 0 (separators P ++ (separators X ++ separators R)) s.number
      from-home =
          rw (zero-add a) at
          (first-home-on H 0 a (separators P ++ (separators X ++ separators R)) s.number
          (omega (arith, size, length-append (separators P) (separators X ++ separators R)))
          (omega (arith, zero-add a)))

  -- Entry whose reach runs to the last page: what the whole rule leaves is what the stretch leaves (refusal 8).
  pub entry-refused : (s : Star) → H.home s.number ≡ a → a + suc d ≡ M
      → left H 0 M (insert s t) ≡ left H a (suc d) (insert s (gathered H.room (laid H.room H M t) a (suc d)))
  entry-refused s e c =
      ap (λ (k : ℕ). left H 0 k (insert s t)) (sym c)
      ∙ refused H a (suc d) t s rising e (ap (λ (k : ℕ). left H 0 k t) c ∙ fits)
      ∙ ap (λ (l : List Star). left H a (suc d) (insert s l)) (sym here)

  -- Removal of the star of number k.
  pub removed : (k : ℕ) → H.home k ≡ a → Ends H M (laid H.room H M t) a d
      → (left H a (suc d) (without k (gathered H.room (laid H.room H M t) a (suc d))) ≡ [])
      × (replaced H.room (laid H.room H M t) a (pages H a (suc d) (without k (gathered H.room (laid H.room H M t) a (suc d)))) ≡ laid H.room H M (without k t))
      × (left H 0 M (without k t) ≡ [])
  removed k e c =
      rw here (all.0, relaid H M a (suc d) t (without k t) (without k (standing H a (suc d) t)) inside all.1, all.2 ∙ fits)
    where
      All : ℕ → Type 0
      All n =
          (left H a (suc d) (without k (standing H a (suc d) t)) ≡ [])
          × (pages H 0 n (without k t) ≡ written a (pages H a (suc d) (without k (standing H a (suc d) t))) (pages H 0 n t))
          × (left H 0 n (without k t) ≡ left H 0 n t)

      all : All M
      all = subst All whole (removes H a (suc d) rest t k rising e (omega arith) (ends-ended H b M a d t fits inside c))
