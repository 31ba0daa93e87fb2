-- The cascade of document 02 (ix) gives the pages that the rule gives the file's stars with the new one.
use mathlib.Core.Path.{◌≡◌, refl, sym, ap, subst, ◌∙◌}
use mathlib.Core.Bool.{Bool, true, false, not, not-not}
use mathlib.Core.List.Memᴰ
use mathlib.Core.List.{List, [], ◌∷◌, ◌++◌, Memᴰ}
use mathlib.Core.Logic.{⊎_elim}
use Prim.Native.Nat.{ℕ, zero, suc, ◌+◌, ◌-◌, ◌≤◌, ◌<◌, zero-le}
use native.Mathlib.Nat.{zero-add, add-zero, suc-add, add-suc, le_refl, le_trans, le_antisymm}
use native.Mathlib.Omega.{arith}
use lib.Dec.{eqb}
use lib.ListN.{length, take, drop, get_or}
use lib.Seq.{drop-drop, take_at, drop_at}
use borrow.Author.Tests.{eqb-false}
use Rattle.buffers.specs.Lists.{written}
use Rattle.buffers.proofs.Tests.{not_mono}
use Rattle.placement.specs.Rule.{Star, Hash, Contents, keep, filter, below, staying, passing, separator_from, separator_of, contents_of, onward, pages, left, first, insert, pour, star_with}
use Rattle.placement.specs.File.{File, stars_of, stars_at, contents_at, pages_at, file_of, replaced, laid}
use Rattle.placement.proofs.Filters.{filter-ext, filter_comm, filter-absorb, filter-rest, member_filter}
use Rattle.placement.proofs.Separator.{stays, below-mono, sep_le, sep_fits, sep_great}
use Rattle.placement.proofs.Composition.{length-pages, pages-add, left-add, take-pages, drop-pages, middle_pages}
use Rattle.placement.proofs.Standing.{first-le, first-before}
use Rattle.placement.proofs.Order.{Sorted, Rising, Absent, rising-sorted, rising-filter, sorted_filter, sorted-pour, filter-pour, length-pour, pour-insert, pour-nil, pour-pour, pour-split, member_pour}
use Rattle.placement.proofs.Collecting.{rising-left, sorted-left}
use Rattle.placement.proofs.Writing.{Roomy}
use Rattle.placement.proofs.Pages.{Proper, Numbered}
use Rattle.placement.proofs.Files.{AllNumbered, length-pages_at, pages_at-laid, sized-laid, replaced-of, roomy-pages}
use Rattle.reach.specs.Cascade.{meeting, lowered, pushed_to, pushed_on, cascaded, carried_past}

-- "not above the stored one": the separator of a rule whose top is that one
abbrev capped : Hash → ℕ → Hash
capped H v = record { home = H.home; signature = H.signature; top = v; room = H.room }

from-capped : (H : Hash) (p : ℕ) (w : List Star) (v u : ℕ) → separator_from H p w u ≡ separator_from (capped H v) p w u
unfolding separator_from staying below
from-capped H p w v zero = refl
from-capped H p w v (suc u) = rw (from-capped H p w v u)

module _ (H : Hash) (f : File) (p : ℕ) (a : List Star) where
  abbrev stored : ℕ
  stored = get_or f.separators p 0

  lowered-capped : lowered H f p a ≡ separator_of (capped H stored) p (meeting H f p a)
  unfolding lowered separator_of
  lowered-capped = from-capped H p (meeting H f p a) stored stored

  pub lowered-stored : lowered H f p a ≤ stored
  lowered-stored = rw lowered-capped (sep_le (capped H stored) p (meeting H f p a))

  pub lowered-fits : length (staying H p (lowered H f p a) (meeting H f p a)) ≤ H.room
  unfolding staying below
  lowered-fits = rw lowered-capped (sep_fits (capped H stored) p (meeting H f p a))

  pub lowered-great : (u : ℕ) → u ≤ stored → length (staying H p u (meeting H f p a)) ≤ H.room → u ≤ lowered H f p a
  unfolding staying below
  lowered-great u h g = rw lowered-capped (sep_great (capped H stored) p (meeting H f p a) u h g)

pub length-cascaded : (H : Hash) (f : File) (p n : ℕ) (a : List Star) → length (cascaded H f p n a) ≤ n
unfolding cascaded
length-cascaded H f p zero a = zero-le
length-cascaded H f p (suc n) [] = zero-le
length-cascaded H f p (suc n) (s ∷ a) = omega (arith, length-cascaded H f (suc p) n (pushed_on H f p (s ∷ a)))

pub roomy-cascaded : (H : Hash) (f : File) (p n : ℕ) (a : List Star) → Roomy H.room (cascaded H f p n a)
unfolding cascaded pushed_to
roomy-cascaded H f p zero a = tt
roomy-cascaded H f p (suc n) [] = tt
roomy-cascaded H f p (suc n) (s ∷ a) = (lowered-fits H f p (s ∷ a), roomy-cascaded H f (suc p) n (pushed_on H f p (s ∷ a)))

-- A place whose number is 0 is empty.
numbered-stars : (ns ws os : List ℕ) → Numbered (stars_of ns ws os)
unfolding stars_of
numbered-stars [] ws os s m = absurd (Memᴰ.not-nil m)
numbered-stars (n ∷ ns) [] os s m = absurd (Memᴰ.not-nil m)
numbered-stars (n ∷ ns) (w ∷ ws) [] s m = absurd (Memᴰ.not-nil m)
numbered-stars (n ∷ ns) (w ∷ ws) (o ∷ os) s m = go (eqb n 0) refl (numbered-stars ns ws os s) m
  where
    go : (t : Bool) → eqb n 0 ≡ t → (Memᴰ s (stars_of ns ws os) → 1 ≤ s.number) → Memᴰ s (keep (not t) (star_with n w o) (stars_of ns ws os)) → 1 ≤ s.number
    go true e ih m = ih m
    go false e ih m =
        let other : (n ≡ 0 → ⊥) = eqb-false n 0 e in
        ⊎_elim (λ (d : s ≡ star_with n w o). omega (arith, other, ap (λ (t : Star). t.number) d)) ih (Memᴰ.cases_cons m)

numbered-met : (H : Hash) (f : File) (p : ℕ) (a : List Star) → Numbered a → Numbered (meeting H f p a)
unfolding meeting stars_at
numbered-met H f p a h t m = ⊎_elim (numbered-stars _ _ _ t) (h t) (member_pour (stars_at H.room f p) a t m)

pub numbered-cascaded : (H : Hash) (f : File) (p n : ℕ) (a : List Star) → Numbered a → AllNumbered (cascaded H f p n a)
unfolding cascaded pushed_to pushed_on staying passing
numbered-cascaded H f p zero a h i k = absurd (omega arith)
numbered-cascaded H f p (suc n) [] h i k = absurd (omega arith)
numbered-cascaded H f p (suc n) (s ∷ a) h zero k = λ t m. numbered-met H f p (s ∷ a) h t (member_filter _ (meeting H f p (s ∷ a)) t m).0
numbered-cascaded H f p (suc n) (s ∷ a) h (suc i) k =
    numbered-cascaded H f (suc p) n (pushed_on H f p (s ∷ a)) (λ t m. numbered-met H f p (s ∷ a) h t (member_filter _ (meeting H f p (s ∷ a)) t m).0) i (omega arith)

module _ (H : Hash) (p : ℕ) (w a : List Star) (waiting : Rising 0 w) (arriving : Sorted 0 a) where
  abbrev v : ℕ
  v = separator_of H p w

  abbrev passes : ℕ → Star → Bool
  passes u s = not (stays H p u s)

  staying-both : (u : ℕ) → staying H p u (pour w a) ≡ pour (staying H p u w) (staying H p u a)
  unfolding staying
  staying-both u = filter-pour (stays H p u) w a arriving

  passing-both : (u : ℕ) → passing H p u (pour w a) ≡ pour (passing H p u w) (passing H p u a)
  unfolding passing
  passing-both u = filter-pour (passes u) w a arriving

  -- Arriving stars raise no separator.
  not-above : separator_of H p (pour w a) ≤ v
  not-above =
      sep_great H p w u (sep_le H p (pour w a))
      (omega (arith, sep_fits H p (pour w a), ap length (staying-both u), length-pour (staying H p u w) (staying H p u a)))
    where
      u : ℕ
      u = separator_of H p (pour w a)

  -- None of them stays: the page is as it was, and they go on.
  module _ (none : staying H p v a ≡ []) where
    same-stars : staying H p v (pour w a) ≡ staying H p v w
    unfolding staying
    same-stars =
        staying-both v ∙ ap (pour (staying H p v w)) none
        ∙ pour-nil 0 (staying H p v w) (sorted_filter 0 (stays H p v) w (rising-sorted 0 w waiting))

    same-separator : separator_of H p (pour w a) ≡ v
    same-separator = le_antisymm not-above (sep_great H p (pour w a) v (sep_le H p w) (rw same-stars (sep_fits H p w)))

    same-contents : contents_of H p (pour w a) ≡ contents_of H p w
    unfolding contents_of
    same-contents = rw (same-separator, same-stars)

    passed-by : onward H p (pour w a) ≡ pour (onward H p w) a
    unfolding onward passing staying
    passed-by = rw same-separator (passing-both v ∙ ap (pour (onward H p w)) (filter-rest (stays H p v) a none))

  -- The page as the file says it, visited by the cascade.
  module _ (f : File) (said : contents_at H.room f p ≡ contents_of H p w) where
    abbrev u : ℕ
    u = lowered H f p a

    meet : meeting H f p a ≡ pour (staying H p v w) a
    unfolding meeting contents_at contents_of
    meet = ap (λ (c : Contents). pour c.stars a) said

    said-separator : get_or f.separators p 0 ≡ v
    unfolding contents_at contents_of
    said-separator = ap (λ (c : Contents). c.separator) said

    -- Those below a separator at or below the stored one are on the page or arrive.
    stay-met : (x : ℕ) → x ≤ v → staying H p x (pour w a) ≡ staying H p x (meeting H f p a)
    unfolding staying
    stay-met x h =
        staying-both x
        ∙ ap (λ (l : List Star). pour l (staying H p x a)) (sym (filter-absorb (stays H p x) (stays H p v) (λ s. below-mono H p x v s.number h) w))
        ∙ sym (filter-pour (stays H p x) (staying H p v w) a arriving)
        ∙ ap (staying H p x) (sym meet)

    low : u ≤ v
    low = rw (← said-separator) (lowered-stored H f p a)

    lowers : separator_of H p (pour w a) ≡ u
    lowers =
        le_antisymm
        (lowered-great H f p a (separator_of H p (pour w a)) (rw said-separator not-above) (rw (← stay-met (separator_of H p (pour w a)) not-above) (sep_fits H p (pour w a))))
        (sep_great H p (pour w a) u (le_trans low (sep_le H p w)) (rw (stay-met u low) (lowered-fits H f p a)))

    visited : contents_of H p (pour w a) ≡ pushed_to H f p a
    unfolding contents_of pushed_to
    visited = rw (lowers, stay-met u low)

    -- Of the stars w those go on that did before, and those of the page that no longer stay.
    pass-met : pour (onward H p w) (passing H p u (staying H p v w)) ≡ passing H p u w
    unfolding onward passing staying
    pass-met =
        ap (λ (l : List Star). pour l (filter (passes u) (filter (stays H p v) w)))
        (sym (filter-absorb (passes v) (passes u) (λ s. not_mono (stays H p u s) (stays H p v s) (below-mono H p u v s.number low)) w))
        ∙ ap (pour (filter (passes v) (filter (passes u) w)))
        (filter_comm (passes u) (stays H p v) w
        ∙ sym (filter-ext (λ (s : Star). not (passes v s)) (stays H p v) (λ s. not-not (stays H p v s)) (filter (passes u) w)))
        ∙ pour-split 0 (passes v) (filter (passes u) w) (rising-filter 0 (passes u) w waiting)

    carries : onward H p (pour w a) ≡ pour (onward H p w) (pushed_on H f p a)
    unfolding onward passing pushed_on
    carries =
        rw (lowers, meet)
        (passing-both u
        ∙ ap (λ (l : List Star). pour l (passing H p u a)) (sym pass-met)
        ∙ pour-pour (onward H p w) (passing H p u (staying H p v w)) (passing H p u a)
        ∙ ap (pour (onward H p w)) (sym (filter-pour (passes u) (staying H p v w) a arriving)))

rising-onward : (H : Hash) (p : ℕ) (w : List Star) → Rising 0 w → Rising 0 (onward H p w)
unfolding onward passing
rising-onward H p w r = rising-filter 0 (λ (s : Star). not (stays H p (separator_of H p w) s)) w r

sorted-on : (H : Hash) (f : File) (p : ℕ) (a : List Star) → Sorted 0 a → Sorted 0 (pushed_on H f p a)
unfolding pushed_on passing meeting
sorted-on H f p a o =
    sorted_filter 0 (λ (s : Star). not (stays H p (lowered H f p a) s)) (meeting H f p a) (sorted-pour (stars_at H.room f p) a o)

-- None of the stars a is below the separators of the n pages.
unreached : (H : Hash) (f : File) (p n : ℕ) (w a : List Star) → Rising 0 w → Sorted 0 a → pages_at H.room f p n ≡ pages H p n w
    → ((i : ℕ) → p ≤ i → i < p + n → staying H i (get_or f.separators i 0) a ≡ [])
    → (pages H p n (pour w a) ≡ pages H p n w) × (left H p n (pour w a) ≡ pour (left H p n w) a)
unfolding pages left pages_at
unreached H f p zero w a r o e none = (refl, refl)
unreached H f p (suc n) w a r o e none =
    let said : contents_at H.room f p ≡ contents_of H p w = cc in
    let here : staying H p (separator_of H p w) a ≡ [] = rw (said-separator H p w a r o f said) at (none p (le_refl p) (omega arith)) in
    let rest = unreached H f (suc p) n (onward H p w) a (rising-onward H p w r) o (cc) (λ i g h. none i (omega arith) (omega arith)) in
    rw (same-contents H p w a r o here, passed-by H p w a r o here, rest.0) (refl, rest.1)

-- The cascade over the n pages, from the stars a that arrive at the first.
cascades : (H : Hash) (f : File) (p n : ℕ) (w a : List Star) → Rising 0 w → Sorted 0 a → pages_at H.room f p n ≡ pages H p n w
    → (pages H p n (pour w a) ≡ cascaded H f p n a ++ drop (length (cascaded H f p n a)) (pages H p n w))
    × (left H p n (pour w a) ≡ pour (left H p n w) (carried_past H f p n a))
unfolding pages left pages_at cascaded carried_past
cascades H f p zero w a r o e = (refl, refl)
cascades H f p (suc n) w [] r o e =
    rw (pour-nil 0 w (rising-sorted 0 w r))
    (refl, sym (pour-nil 0 (left H (suc p) n (onward H p w)) (sorted-left H (suc p) n 0 (onward H p w) (rising-sorted 0 (onward H p w) (rising-onward H p w r)))))
cascades H f p (suc n) w (s ∷ a) r o e =
    let said : contents_at H.room f p ≡ contents_of H p w = cc in
    let rest = cascades H f (suc p) n (onward H p w) (pushed_on H f p (s ∷ a)) (rising-onward H p w r) (sorted-on H f p (s ∷ a) o) (cc) in
    rw (visited H p w (s ∷ a) r o f said, carries H p w (s ∷ a) r o f said, rest.0) (refl, rest.1)

-- What the file says of pages after others.
pub pages_at-add : (b : ℕ) (f : File) (p n m : ℕ) → pages_at b f p (n + m) ≡ pages_at b f p n ++ pages_at b f (p + n) m
unfolding pages_at
pages_at-add b f p zero m = rw (zero-add m, add-zero p)
pages_at-add b f p (suc n) m = rw (suc-add n m, add-suc p n) (ap (λ (l : List Contents). contents_at b f p ∷ l) (rw (suc-add p n) at (pages_at-add b f (suc p) n m)))

-- A star that is new to w, whose rule's pages the file says. It is below no separator of the first q pages from `from`, and the cascade runs over the m after them.
module _ (H : Hash) (f : File) (from q m : ℕ) (w : List Star) (s : Star) (rising : Rising 0 w) (absent : Absent s.number w)
    (said : pages_at H.room f from (q + m) ≡ pages H from (q + m) w)
    (above : (i : ℕ) → from ≤ i → i < from + q → below H i (get_or f.separators i 0) s.number ≡ false) where
  poured-in : insert s w ≡ pour w (s ∷ [])
  unfolding insert
  poured-in = sym (pour-insert w s [] absent ∙ ap (insert s) (pour-nil 0 w (rising-sorted 0 w rising)))

  alone : Sorted 0 (s ∷ [])
  alone = (omega arith, tt)

  pub said-before : pages_at H.room f from q ≡ pages H from q w
  said-before =
      sym (take_at (pages_at H.room f from q) (pages_at H.room f (from + q) m) q (length-pages_at H.room f from q))
      ∙ ap (take q) (sym (pages_at-add H.room f from q m) ∙ said)
      ∙ take-pages H from q m w

  pub said-after : pages_at H.room f (from + q) m ≡ pages H (from + q) m (left H from q w)
  said-after =
      sym (drop_at (pages_at H.room f from q) (pages_at H.room f (from + q) m) q (length-pages_at H.room f from q))
      ∙ ap (drop q) (sym (pages_at-add H.room f from q m) ∙ said)
      ∙ drop-pages H from q m w

  before : (pages H from q (pour w (s ∷ [])) ≡ pages H from q w) × (left H from q (pour w (s ∷ [])) ≡ pour (left H from q w) (s ∷ []))
  unfolding left staying filter
  before = unreached H f from q w (s ∷ []) rising alone said-before (λ i g h. rw (above i g h))

  after : (pages H (from + q) m (pour (left H from q w) (s ∷ [])) ≡ cascaded H f (from + q) m (s ∷ []) ++ drop (length (cascaded H f (from + q) m (s ∷ []))) (pages H (from + q) m (left H from q w)))
      × (left H (from + q) m (pour (left H from q w) (s ∷ [])) ≡ pour (left H (from + q) m (left H from q w)) (carried_past H f (from + q) m (s ∷ [])))
  after = cascades H f (from + q) m (left H from q w) (s ∷ []) (rising-left H from q 0 w rising) alone said-after

  pub new-pages : pages H from (q + m) (insert s w) ≡ written q (cascaded H f (from + q) m (s ∷ [])) (pages H from (q + m) w)
  unfolding written
  new-pages =
      ap (pages H from (q + m)) poured-in
      ∙ pages-add H from q m (pour w (s ∷ []))
      ∙ rw (before.0, before.1, after.0, take-pages H from q m w, ← drop-drop (length (cascaded H f (from + q) m (s ∷ []))) q (pages H from (q + m) w), drop-pages H from q m w)

  pub new-left : left H from (q + m) (insert s w) ≡ pour (left H from (q + m) w) (carried_past H f (from + q) m (s ∷ []))
  new-left =
      ap (left H from (q + m)) poured-in
      ∙ left-add H from q m (pour w (s ∷ []))
      ∙ rw (before.1, after.1, left-add H from q m w)

module _ (ok : ℕ → Bool) (H : Hash) (M : ℕ) (t : List Star) (s : Star) (rising : Rising 0 t) (proper : Proper ok t) (absent : Absent s.number t) where
  abbrev F : File
  F = laid H.room H M t

  said-pages : (k : ℕ) → k ≡ M → pages_at H.room F 0 k ≡ pages H 0 k t
  unfolding left
  said-pages k e = pages_at-laid ok H M t proper 0 k (omega (arith, e)) ∙ middle_pages H 0 k M t (omega (arith, e))

  abbrev named : ℕ
  named = first H 0 F.separators s.number

  abbrev cascade : List Contents
  cascade = cascaded H F named (M - named) (s ∷ [])

  size : length F.separators ≡ M
  size = (sized-laid ok H M t proper).of_separators

  all : named + (M - named) ≡ M
  all = omega (arith, first-le H 0 F.separators s.number, zero-add (length F.separators), size)

  above : (i : ℕ) → 0 ≤ i → i < 0 + named → below H i (get_or F.separators i 0) s.number ≡ false
  above i g h = rw (zero-add i) at (first-before H 0 i F.separators s.number (omega (arith, size, all)) (omega (arith, zero-add i)))

  pub cascade-inside : named + length cascade ≤ M
  cascade-inside = omega (arith, all, length-cascaded H F named (M - named) (s ∷ []))

  -- Document 02 (ix): "separators, pages .. are those of the present entry".
  pub cascade-pages : pages H 0 M (insert s t) ≡ written named cascade (pages H 0 M t)
  cascade-pages = subst (λ (k : ℕ). pages H 0 k (insert s t) ≡ written named cascade (pages H 0 k t)) all
      (rw (zero-add named) at (new-pages H F 0 named (M - named) t s rising absent (said-pages (named + (M - named)) all) above))

  pub cascade-file : replaced H.room F named cascade ≡ laid H.room H M (insert s t)
  unfolding laid
  cascade-file =
      replaced-of H.room (pages H 0 M t) cascade named (roomy-pages H 0 M t) (roomy-cascaded H F named (M - named) (s ∷ [])) (omega (arith, cascade-inside, length-pages H 0 M t))
      ∙ ap (file_of H.room) (sym cascade-pages)

  -- What is carried past the last page is what the rule leaves: refusal 8.
  pub cascade-left : left H 0 M t ≡ [] → left H 0 M (insert s t) ≡ carried_past H F named (M - named) (s ∷ [])
  unfolding pour
  cascade-left fits =
      subst (λ (k : ℕ). left H 0 k (insert s t) ≡ pour (left H 0 k t) (carried_past H F named (M - named) (s ∷ []))) all
      (rw (zero-add named) at (new-left H F 0 named (M - named) t s rising absent (said-pages (named + (M - named)) all) above))
      ∙ ap (λ (l : List Star). pour l (carried_past H F named (M - named) (s ∷ []))) fits
