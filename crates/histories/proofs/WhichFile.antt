-- Which of the two files mending leaves: the one after the call exactly if the star's page was stored. Document 02 (xii).
use mathlib.Core.Path.{◌≡◌, refl, sym, ap, ◌∙◌}
use mathlib.Core.Bool.{Bool, true, false, not, cond, ◌||◌, false≢true}
use mathlib.Core.List.{List, [], ◌∷◌, Memᴰ}
use mathlib.Core.Logic.{◌⊎◌, inl, inr}
use mathlib.Core.Option.{Option, none, some}
use Prim.Native.Nat.{ℕ, zero, suc, ◌+◌, ◌≤◌, ◌<◌}
use native.Mathlib.Nat.{zero-add}
use native.Mathlib.Decide.{ℕ_discrete, dec_le}
use native.Mathlib.Omega.{arith}
use lib.Dec.{eqb, leb}
use lib.ListN.{length, get_or, take}
use lib.Seq.{take_all}
use borrow.Author.Tests.{eq-eqb, ne_eqb, eqb-true, le-leb, lt-leb, leb-true}
use Rattle.buffers.specs.Lists.{among}
use Rattle.hashing.specs.declared.Parameters.{Parameters}
use Rattle.hashing.specs.declared.Growth.{Growth}
use Rattle.pages.specs.declared.position.Position.{Position}
use Rattle.pages.specs.Position.{valid_word}
use Rattle.placement.specs.Rule.{Star, Hash, keep, pages, left, without, insert}
use Rattle.placement.specs.Shape.{blank}
use Rattle.placement.specs.File.{File, laid, file_of, stars_at}
use Rattle.placement.specs.Shape.{Sized}
use Rattle.placement.specs.Hash.{hash_of, named_page_lem}
use Rattle.placement.proofs.Order.{Rising, Absent, member_without, inserted}
use Rattle.placement.proofs.Filters.{filter-all-on}
use Rattle.placement.proofs.Pages.{Proper}
use Rattle.placement.proofs.Files.{stars_at-laid}
use Rattle.placement.proofs.Standing.{first_in, stands-first, looked_up_lem}
use Rattle.placement.proofs.Mixture.{kept-without, without-inserted}
use Rattle.calls.specs.Answers.{Pool, After}
use Rattle.calls.specs.Calls.{pool_fits_lem, named, enter_of, change_of, remove_of}
use Rattle.calls.specs.Stores.{page_changes, downward, upward, page_stored, pages_stored, stored_file, enter_stopped_of, change_stopped_of, remove_stopped_of, with_separators}
use Rattle.calls.specs.Mend.{mend_of}
use Rattle.calls.proofs.Stores.{SamePage, Mixed, Mixture, same_self, same-both, same_back, unchanged-same, sized-stored, stored_here, stored_there, stopped-down, stopped-up}
use Rattle.calls.proofs.Mending.{mended_to, lent_again, mend_same, mend_mixed}
use Rattle.histories.specs.Model.{Model, enter, change, remove, updated, fed, held_position, held_owner, model_file}
use Rattle.histories.specs.Call.{is_accepted}
use Rattle.histories.specs.PowerLoss.{WhichFile, WhichAfterLoss}
use Rattle.histories.proofs.Stars.{star_of, held-star, no_star, stars-enter, stars-strike}
use Rattle.histories.proofs.Fitting.{Fitting, stars_for, rising-from, proper, sized}
use Rattle.histories.proofs.Change.{change_conforms}
use Rattle.histories.proofs.Remove.{remove_conforms}
use Rattle.histories.proofs.Cleaned.{Modelled, check_modelled}
use Rattle.histories.proofs.PowerLoss.{Entered, as_before, more, entry-leaves, change_elsewhere, fed-growth}

-- Who is among some pages.
among-tail : (x page : ℕ) (xs : List ℕ) → among page xs ≡ true → among page (x ∷ xs) ≡ true
unfolding among
among-tail x page xs e = go (eqb x page)
  where
    go : (t : Bool) → t || among page xs ≡ true
    go true = refl
    go false = e

among-head : (x : ℕ) (xs : List ℕ) → among x (x ∷ xs) ≡ true
unfolding among
among-head x xs = rw (eq-eqb x x refl)

among_cases : (x page : ℕ) (xs : List ℕ) → among page (x ∷ xs) ≡ true → (x ≡ page) ⊎ (among page xs ≡ true)
unfolding among
among_cases x page xs = go (eqb x page) refl
  where
    go : (t : Bool) → eqb x page ≡ t → t || among page xs ≡ true → (x ≡ page) ⊎ (among page xs ≡ true)
    go true d e = inl (eqb-true x page d)
    go false d e = inr e

among-take : (n page : ℕ) (xs : List ℕ) → among page (take n xs) ≡ true → among page xs ≡ true
unfolding among
among-take zero page xs e = absurd (false≢true e)
among-take (suc n) page [] e = e
among-take (suc n) page (x ∷ xs) e = go (among_cases x page (take n xs) e) (among-take n page xs)
  where
    go : (x ≡ page) ⊎ (among page (take n xs) ≡ true) → (among page (take n xs) ≡ true → among page xs ≡ true) → among page (x ∷ xs) ≡ true
    go (inl d) ih = rw d (among-head page xs)
    go (inr d) ih = among-tail x page xs (ih d)

-- The changed pages are stored, and are pages of the file.
module _ (b : ℕ) (f l : File) where
  down-changed : (c r : ℕ) → r < c → page_changes b f l r ≡ true → among r (downward b f l c) ≡ true
  unfolding downward
  down-changed zero r h e = absurd (omega arith)
  down-changed (suc c) r h e = go (ℕ_discrete c r) (page_changes b f l c) refl (down-changed c r)
    where
      go : Dec (c ≡ r) → (t : Bool) → page_changes b f l c ≡ t → (r < c → page_changes b f l r ≡ true → among r (downward b f l c) ≡ true) → among r (keep t c (downward b f l c)) ≡ true
      go (yes d) true u ih = rw d (among-head r (downward b f l r))
      go (yes d) false u ih = absurd (false≢true (sym u ∙ ap (page_changes b f l) d ∙ e))
      go (no d) true u ih = among-tail c r (downward b f l c) (ih (omega (arith, d)) e)
      go (no d) false u ih = ih (omega (arith, d)) e

  down-inside : (c r : ℕ) → among r (downward b f l c) ≡ true → r < c
  unfolding downward among
  down-inside zero r e = absurd (false≢true e)
  down-inside (suc c) r e = go (page_changes b f l c) e (down-inside c r)
    where
      go : (t : Bool) → among r (keep t c (downward b f l c)) ≡ true → (among r (downward b f l c) ≡ true → r < c) → r < suc c
      go true e ih = at (among_cases c r (downward b f l c) e)
        where
          at : (c ≡ r) ⊎ (among r (downward b f l c) ≡ true) → r < suc c
          at (inl d) = omega (arith, d)
          at (inr d) = omega (arith, ih d)
      go false e ih = omega (arith, ih e)

  up-changed : (c j r : ℕ) → c ≤ r → r < c + j → page_changes b f l r ≡ true → among r (upward b f l c j) ≡ true
  unfolding upward
  up-changed c zero r g h e = absurd (omega arith)
  up-changed c (suc j) r g h e = go (ℕ_discrete c r) (page_changes b f l c) refl (up-changed (suc c) j r)
    where
      go : Dec (c ≡ r) → (t : Bool) → page_changes b f l c ≡ t → (suc c ≤ r → r < suc c + j → page_changes b f l r ≡ true → among r (upward b f l (suc c) j) ≡ true)
          → among r (keep t c (upward b f l (suc c) j)) ≡ true
      go (yes d) true u ih = rw d (among-head r (upward b f l (suc r) j))
      go (yes d) false u ih = absurd (false≢true (sym u ∙ ap (page_changes b f l) d ∙ e))
      go (no d) true u ih = among-tail c r (upward b f l (suc c) j) (ih (omega (arith, d)) (omega arith) e)
      go (no d) false u ih = ih (omega (arith, d)) (omega arith) e

  up-inside : (c j r : ℕ) → among r (upward b f l c j) ≡ true → r < c + j
  unfolding upward among
  up-inside c zero r e = absurd (false≢true e)
  up-inside c (suc j) r e = go (page_changes b f l c) e (up-inside (suc c) j r)
    where
      go : (t : Bool) → among r (keep t c (upward b f l (suc c) j)) ≡ true → (among r (upward b f l (suc c) j) ≡ true → r < suc c + j) → r < c + suc j
      go true e ih = at (among_cases c r (upward b f l (suc c) j) e)
        where
          at : (c ≡ r) ⊎ (among r (upward b f l (suc c) j) ≡ true) → r < c + suc j
          at (inl d) = omega (arith, d)
          at (inr d) = omega (arith, ih d)
      go false e ih = omega (arith, ih e)

module _ (b M : ℕ) (f l : File) (zf : Sized b M f) (zl : Sized b M l) where
  -- A page that was stored is l's, any other is as it was.
  stored-page : (stores : List ℕ) (x : File) (r : ℕ) → Sized b M x → ((s : ℕ) → among s stores ≡ true → s < M)
      → SamePage b (pages_stored b l stores x) (cond (among r stores) l x) r
  unfolding pages_stored among
  stored-page [] x r z h = same_self b x r
  stored-page (s ∷ stores) x r z h =
      go (ℕ_discrete r s) (eqb s r) refl (among r stores)
      (stored-page stores (page_stored b l x s) r (sized-stored b M x l s z zl inside) (λ q d. h q (among-tail s q stores d)))
    where
      inside : s < M
      inside = h s (among-head s stores)

      go : Dec (r ≡ s) → (t : Bool) → eqb s r ≡ t → (u : Bool) → SamePage b (pages_stored b l stores (page_stored b l x s)) (cond u l (page_stored b l x s)) r
          → SamePage b (pages_stored b l stores (page_stored b l x s)) (cond (t || u) l x) r
      go d true e true i = i
      go (yes d) true e false i = same-both i (rw d (stored_here b M x l s z zl inside))
      go (no d) true e false i = absurd (d (sym (eqb-true s r e)))
      go d false e true i = i
      go (yes d) false e false i = absurd (false≢true (sym e ∙ eq-eqb s r (sym d)))
      go (no d) false e false i = same-both i (stored_there b M x l s z zl inside r d)

  -- So it is with the n first of the changed pages, or with all of them.
  stopped-page : (stores : List ℕ) (n r : ℕ) → ((s : ℕ) → among s stores ≡ true → s < M) → r < M → (page_changes b f l r ≡ true → among r stores ≡ true)
      → SamePage b (stored_file b f l stores n) (cond (among r (take n stores)) l f) r
  unfolding stored_file
  stopped-page stores n r inside h changed = go (leb (length stores) n) refl
    where
      whole : (t : Bool) → among r stores ≡ t → (u : Bool) → page_changes b f l r ≡ u → SamePage b l (cond t l f) r
      whole true d u e = same_self b l r
      whole false d true e = absurd (false≢true (sym d ∙ changed e))
      whole false d false e = same_back (unchanged-same b M f l r zf zl h e)

      go : (t : Bool) → leb (length stores) n ≡ t → SamePage b (cond t l (pages_stored b l (take n stores) f)) (cond (among r (take n stores)) l f) r
      go true e = rw (take_all n stores (leb-true (length stores) n e)) (whole (among r stores) refl (page_changes b f l r) refl)
      go false e = stored-page (take n stores) f r zf (λ s d. inside s (among-take n s stores d))

  down-page : (n r : ℕ) → r < M → SamePage b (stored_file b f l (downward b f l M) n) (cond (among r (take n (downward b f l M))) l f) r
  down-page n r h = stopped-page (downward b f l M) n r (down-inside b f l M) h (down-changed b f l M r h)

  up-page : (n r : ℕ) → r < M → SamePage b (stored_file b f l (upward b f l 0 M) n) (cond (among r (take n (upward b f l 0 M))) l f) r
  up-page n r h =
      stopped-page (upward b f l 0 M) n r (λ s e. omega (arith, up-inside b f l 0 M s e)) h
      (up-changed b f l 0 M r (omega arith) (omega arith))

alike : (b : ℕ) (f l : File) (r : ℕ) → SamePage b f l r → stars_at b f r ≡ stars_at b l r
unfolding stars_at
alike b f l r s = rw (s.numbers, s.words, s.owners)

without-absent : (k : ℕ) (w : List Star) → Absent k w → without k w ≡ w
unfolding without
without-absent k w a = filter-all-on (λ (s : Star). not (eqb s.number k)) w (λ s m. ap not (ne_eqb s.number k (a s m)))

proper-without : (k : ℕ) (w : List Star) → Proper valid_word w → Proper valid_word (without k w)
proper-without k w h s m = h s (member_without k w s m).0

-- Of a page that differs in the two files, which of the two it is says on which side of c it is.
side : (b M c : ℕ) (lower upper x : File) (r : ℕ) (t : Bool) → Mixed b M c lower upper x → r < M → (SamePage b lower upper r → ⊥)
    → SamePage b x (cond t upper lower) r → leb c r ≡ t
side b M c lower upper x r true m h differs s = go (dec_le c r)
  where
    go : Dec (c ≤ r) → leb c r ≡ true
    go (yes d) = le-leb c r d
    go (no d) = absurd (differs (same-both (same_back (m.under r h (omega arith))) s))
side b M c lower upper x r false m h differs s = go (dec_le c r)
  where
    go : Dec (c ≤ r) → leb c r ≡ false
    go (yes d) = absurd (differs (same-both (same_back s) (m.over r h d)))
    go (no d) = lt-leb c r (omega arith)

module _ (p : Parameters) (m : Model) (t : Fitting p m) where
  abbrev g : Growth
  g = m.growth

  abbrev H : Hash
  H = hash_of p g

  abbrev lay : List Star → File
  lay w = laid p.places H p.pages w

  lay-cond : (u : Bool) (w v : List Star) → lay (cond u w v) ≡ cond u (lay w) (lay v)
  lay-cond true w v = refl
  lay-cond false w v = refl

  -- One star s more in w: its page there differs from that of the others alone.
  module _ (w : List Star) (rising : Rising 0 w) (proper-w : Proper valid_word w) (fits : left H 0 p.pages w ≡ []) (s : Star) (member : Memᴰ s w) where
    abbrev there : ℕ
    there = first_in H 0 p.pages w s.number

    inside : there < p.pages
    inside = let at = looked_up_lem H 0 p.pages w s fits member in omega (arith, at.1, at.2)

    differs : SamePage p.places (lay (without s.number w)) (lay w) there → ⊥
    unfolding hash_of without
    differs same = (member_without s.number w s gone.0).1 refl
      where
        at : (i : ℕ) × (i < p.pages) × (there ≡ 0 + i) × Memᴰ s (get_or (pages H 0 p.pages w) i blank).stars
        at = looked_up_lem H 0 p.pages w s fits member

        here : Memᴰ s (stars_at p.places (lay w) there)
        here = rw (stars_at-laid valid_word H p.pages w proper-w there inside) (rw (sym (at.2 ∙ zero-add at.0)) at at.3)

        also : Memᴰ s (stars_at p.places (lay (without s.number w)) there)
        also = rw (alike p.places (lay (without s.number w)) (lay w) there same) here

        gone : Memᴰ s (without s.number w) × (first_in H 0 p.pages (without s.number w) s.number ≡ 0 + there)
        gone =
            stands-first H 0 p.pages there (without s.number w) s inside
            (rw (stars_at-laid valid_word H p.pages (without s.number w) (proper-without s.number w proper-w) there inside) at also)

    module _ (vs : List ℕ) (size : length vs ≡ p.pages) (again : Pool) (fit : pool_fits_lem p again ≡ true) where
      one-which : (x : File) (u : Bool) → Mixture p.places p.pages (lay (without s.number w)) (lay w) x
          → SamePage p.places x (cond u (lay w) (lay (without s.number w))) there
          → (mend_of p g (with_separators vs x) again).file ≡ cond u (lay w) (lay (without s.number w))
      unfolding without
      one-which x u c same =
          ap (λ (a : After). a.file)
          (mend_mixed p g c.0 (λ (r : Star). not (eqb r.number s.number)) w rising proper-w fits x c.1 again vs
          (lent_again p g x again vs t.parameters t.growth c.1.sized size fit)
          ∙ ap (mended_to p g again) (kept-without H p.pages c.0 s.number w))
          ∙ ap (λ (b : Bool). lay (cond b w (without s.number w)))
          (side p.places p.pages c.0 (lay (without s.number w)) (lay w) x there u c.1 inside differs same)
          ∙ lay-cond u w (without s.number w)

  -- Pages of the model's file alone.
  module _ (vs : List ℕ) (size : length vs ≡ p.pages) (again : Pool) (fit : pool_fits_lem p again ≡ true) where
    same-which : (x : File) → Mixture p.places p.pages (model_file p m) (model_file p m) x → (mend_of p g (with_separators vs x) again).file ≡ model_file p m
    unfolding model_file
    same-which x c =
        ap (λ (a : After). a.file)
        (mend_same p g t.parameters t.growth (stars_for m) (rising-from p m t) (proper p m t) t.fits x again vs size fit c)

-- The three calls on a model's own file.
module _ (p : Parameters) (m : Model) (t : Fitting p m) (n : ℕ) (vs : List ℕ) (size : length vs ≡ p.pages) (again : Pool) (fit : pool_fits_lem p again ≡ true) where
  abbrev mended_file : File → File
  mended_file x = (mend_of p m.growth (with_separators vs x) again).file

  -- nothing changes
  unmoved : (stores : List ℕ) (u : Bool) → Mixture p.places p.pages (model_file p m) (model_file p m) (stored_file p.places (model_file p m) (model_file p m) stores n)
      → mended_file (stored_file p.places (model_file p m) (model_file p m) stores n) ≡ cond u (model_file p m) (model_file p m)
  unmoved stores true c = same-which p m t vs size again fit (stored_file p.places (model_file p m) (model_file p m) stores n) c
  unmoved stores false c = same-which p m t vs size again fit (stored_file p.places (model_file p m) (model_file p m) stores n) c

  -- f has one star fewer than l, or l than f
  module _ (w : List Star) (rising : Rising 0 w) (proper-w : Proper valid_word w) (fits : left (hash_of p m.growth) 0 p.pages w ≡ []) (s : Star) (member : Memᴰ s w)
      (f l : File) (zf : Sized p.places p.pages f) (zl : Sized p.places p.pages l) where
    abbrev M : ℕ
    M = p.pages

    abbrev page : ℕ
    page = first_in (hash_of p m.growth) 0 M w s.number

    more-which : f ≡ lay p m t (without s.number w) → l ≡ lay p m t w
        → mended_file (stored_file p.places f l (downward p.places f l M) n) ≡ cond (among page (take n (downward p.places f l M))) l f
    more-which ef el =
        let x = stored_file p.places f l (downward p.places f l M) n in
        let u = among page (take n (downward p.places f l M)) in
        one-which p m t w rising proper-w fits s member vs size again fit x u
        (rw (← ef, ← el) (stopped-down p.places M f l zf zl n))
        (rw (← ef, ← el) (down-page p.places M f l zf zl n page (inside p m t w rising proper-w fits s member)))
        ∙ rw (ef, el)

    fewer-which : l ≡ lay p m t (without s.number w) → f ≡ lay p m t w
        → mended_file (stored_file p.places f l (upward p.places f l 0 M) n) ≡ cond (among page (take n (upward p.places f l 0 M))) l f
    fewer-which el ef =
        let x = stored_file p.places f l (upward p.places f l 0 M) n in
        let u = among page (take n (upward p.places f l 0 M)) in
        one-which p m t w rising proper-w fits s member vs size again fit x (not u)
        (rw (← ef, ← el) (stopped-up p.places M f l zf zl n))
        (rw (← ef, ← el, turned u) (up-page p.places M f l zf zl n page (inside p m t w rising proper-w fits s member)))
        ∙ rw (← ef, ← el) (turned u)
      where
        turned : (u : Bool) → cond (not u) f l ≡ cond u l f
        turned true = refl
        turned false = refl

  entry-which : (caller k : ℕ) (q : Position) (l : File) → Entered p m t caller k q l
      → mended_file (stored_file p.places (model_file p m) l (downward p.places (model_file p m) l p.pages) n)
      ≡ cond (among (named p m.growth l k) (take n (downward p.places (model_file p m) l p.pages))) l (model_file p m)
  unfolding model_file updated named_page_lem laid file_of
  entry-which caller k q l (as_before e) =
      rw e (unmoved (downward p.places (model_file p m) (model_file p m) p.pages) (among (named p m.growth (model_file p m) k) (take n (downward p.places (model_file p m) (model_file p m) p.pages)))
      (stopped-down p.places p.pages (model_file p m) (model_file p m) (sized p m t) (sized p m t) n))
  entry-which caller k q l (more e fits absent) =
      rw named-there
      (more-which w (rising-from p m' fits) (proper p m' fits) fits.fits new member (model_file p m) l (sized p m t) (rw e (sized p m' fits)) less e)
    where
      m' : Model
      m' = updated p (enter caller k q) m

      w : List Star
      w = stars_for m'

      new : Star
      new = star_of k q caller

      named-there : named p m.growth l k ≡ first_in (hash_of p m.growth) 0 p.pages w k
      named-there = ap (λ (x : File). named p m.growth x k) e

      member : Memᴰ new w
      member = rw (stars-enter caller k q m.entries absent) (inserted new (stars_for m))

      less : model_file p m ≡ lay p m t (without k w)
      less =
          ap (lay p m t) (sym (ap (without k) (stars-enter caller k q m.entries absent) ∙ without-inserted new (stars_for m) (no_star k m.entries absent)))

  removal-which : (caller k : ℕ) (l : File) (b : Bool) → l ≡ model_file p (fed p (remove caller k) b m) → Fitting p (fed p (remove caller k) b m)
      → mended_file (stored_file p.places (model_file p m) l (upward p.places (model_file p m) l 0 p.pages) n)
      ≡ cond (among (named p m.growth (model_file p m) k) (take n (upward p.places (model_file p m) l 0 p.pages))) l (model_file p m)
  unfolding fed updated model_file named_page_lem laid file_of
  removal-which caller k l b e fits = go b e fits (held_position k m.entries) refl
    where
      kept : l ≡ model_file p m
          → mended_file (stored_file p.places (model_file p m) l (upward p.places (model_file p m) l 0 p.pages) n)
          ≡ cond (among (named p m.growth (model_file p m) k) (take n (upward p.places (model_file p m) l 0 p.pages))) l (model_file p m)
      kept d =
          rw d (unmoved (upward p.places (model_file p m) (model_file p m) 0 p.pages) (among (named p m.growth (model_file p m) k) (take n (upward p.places (model_file p m) (model_file p m) 0 p.pages)))
          (stopped-up p.places p.pages (model_file p m) (model_file p m) (sized p m t) (sized p m t) n))

      go : (b : Bool) → l ≡ model_file p (fed p (remove caller k) b m) → Fitting p (fed p (remove caller k) b m)
          → (o : Option Position) → held_position k m.entries ≡ o
          → mended_file (stored_file p.places (model_file p m) l (upward p.places (model_file p m) l 0 p.pages) n)
          ≡ cond (among (named p m.growth (model_file p m) k) (take n (upward p.places (model_file p m) l 0 p.pages))) l (model_file p m)
      go false e fits o d = kept e
      go true e fits none d =
          kept (e ∙ ap (lay p m t) (stars-strike k m.entries ∙ without-absent k (stars_for m) (no_star k m.entries d)))
      go true e fits (some q) d =
          fewer-which (stars_for m) (rising-from p m t) (proper p m t) t.fits (star_of k q (held_owner k m.entries)) (held-star k q m.entries d)
          (model_file p m) l (sized p m t) (rw e (sized p (updated p (remove caller k) m) fits)) (e ∙ ap (lay p m t) (stars-strike k m.entries)) refl

  change-which : (l : File) (m' : Model) (page : ℕ) → l ≡ model_file p m' → Fitting p m' → m'.growth ≡ m.growth
      → ((r : ℕ) → (r ≡ page → ⊥) → SamePage p.places (model_file p m) l r)
      → mended_file (stored_file p.places (model_file p m) l (upward p.places (model_file p m) l 0 p.pages) n)
      ≡ cond (among page (take n (upward p.places (model_file p m) l 0 p.pages))) l (model_file p m)
  change-which l m' page e fits same elsewhere = go (among page (take n stores)) refl
    where
      stores : List ℕ
      stores = upward p.places (model_file p m) l 0 p.pages

      x : File
      x = stored_file p.places (model_file p m) l stores n

      long : Sized p.places p.pages l
      long = rw e (sized p m' fits)

      at-page : (r : ℕ) → r < p.pages → SamePage p.places x (cond (among r (take n stores)) l (model_file p m)) r
      at-page r h = up-page p.places p.pages (model_file p m) l (sized p m t) long n r h

      other : (u v : Bool) (r : ℕ) → SamePage p.places (model_file p m) l r → SamePage p.places x (cond v l (model_file p m)) r → SamePage p.places x (cond u l (model_file p m)) r
      other true true r a i = i
      other true false r a i = same-both i a
      other false true r a i = same-both i (same_back a)
      other false false r a i = i

      at : (u : Bool) → among page (take n stores) ≡ u → (r : ℕ) → r < p.pages → Dec (r ≡ page) → SamePage p.places x (cond u l (model_file p m)) r
      at u a r h (yes d) = rw (ap (λ (z : ℕ). among z (take n stores)) d ∙ a) at (at-page r h)
      at u a r h (no d) = other u (among r (take n stores)) r (elsewhere r d) (at-page r h)

      whole : (u : Bool) → among page (take n stores) ≡ u → Mixed p.places p.pages 0 (cond u l (model_file p m)) (cond u l (model_file p m)) x
      whole u a =
          record {
            sized = (stopped-up p.places p.pages (model_file p m) l (sized p m t) long n).1.sized;
            under = λ r h k. absurd (omega arith);
            over = λ r h k. at u a r h (ℕ_discrete r page);
          }

      go : (u : Bool) → among page (take n stores) ≡ u → mended_file x ≡ cond u l (model_file p m)
      go true a =
          ap (λ (g : Growth). (mend_of p g (with_separators vs x) again).file) (sym same)
          ∙ same-which p m' fits vs size again fit x (rw (← e) (0, whole true a))
          ∙ sym e
      go false a = same-which p m t vs size again fit x (0, whole false a)

model_which : (p : Parameters) (m : Model) → Fitting p m → WhichFile p m.growth (model_file p m)
unfolding enter_stopped_of change_stopped_of remove_stopped_of
model_which p m t =
    record {
      entries = λ pool caller k q n vs size again fit. entry-which p m t n vs size again fit caller k q (enter_of p m.growth (model_file p m) pool caller k q).file (entry-leaves p m t pool caller k q);
      changes = λ pool caller k q n vs size again fit.
          let after = change_of p m.growth (model_file p m) pool caller k q in
          let told = change_conforms p m t caller k q pool in
          change-which p m t n vs size again fit after.file (fed p (change caller k q) (is_accepted after.answer) m) (named p m.growth (model_file p m) k) told.file told.fitting
          (fed-growth p m caller k q (is_accepted after.answer)) (change_elsewhere p m.growth (model_file p m) pool caller k q);
      removals = λ pool caller k n vs size again fit.
          let after = remove_of p m.growth (model_file p m) pool caller k in
          let told = remove_conforms p m t caller k pool in
          removal-which p m t n vs size again fit caller k after.file (is_accepted after.answer) told.file told.fitting;
    }

-- On every file that the check accepts.
pub which-after-loss : WhichAfterLoss
which-after-loss p g f pool clean = go (check_modelled p g f pool clean)
  where
    go : Modelled p g f → WhichFile p g f
    go d = rw (← d.file, ← d.growth) (model_which p d.model d.fitting)
