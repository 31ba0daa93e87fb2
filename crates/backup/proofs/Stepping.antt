-- Page by page upward: which stretches run at a page, from those that run at the one below.
use mathlib.Core.Path.{◌≡◌, refl, sym, ap, ◌∙◌}
use mathlib.Core.Bool.{Bool, true, false, not, ◌&&◌, ◌||◌, and-true, and-false, or-false, and-or_distrib_right}
use mathlib.Core.List.{List, ◌++◌}
use Prim.Native.Nat.{ℕ, zero, suc, ◌+◌, ◌-◌, ◌≤◌, ◌<◌}
use native.Mathlib.Decide.{dec_lt}
use native.Mathlib.Numerals.{add-one}
use native.Mathlib.Omega.{arith}
use lib.Dec.{leb, eqb}
use lib.ListN.{length, get_or, set, drop}
use borrow.Author.Tests.{le-leb, lt-leb, eq-eqb, ne_eqb}
use Rattle.hashing.specs.declared.Parameters.{Parameters}
use Rattle.hashing.specs.declared.Growth.{Growth}
use Rattle.hashing.specs.Geometry.{page_count}
use Rattle.hashing.specs.Limits.{within}
use Rattle.generator.specs.Generator.{top_of_lem}
use Rattle.homes.specs.Indexed.{lanes}
use Rattle.homes.proofs.Lists.{lane-none, lane-next, lane-end}
use Rattle.reach.specs.Reach.{first_such}
use Rattle.reach.proofs.Search.{Such, such}
use Rattle.backup.specs.declared.Running.{Running}
use Rattle.backup.specs.Stretches.{expands, top_at, top_twice, end_from, in_stretch, any_below, near_group, may_change}
use Rattle.backup.specs.Marks.{mark, marks_of}

-- What runs at the page below, and does not end there.
unfoldable pub carried : (ℕ → Bool) → (ℕ → Bool) → ℕ → Bool
carried runs ends zero = false
carried runs ends (suc q) = runs q && not (ends q)

module _ (p : Parameters) (test : ℕ → Bool) (r : ℕ) (inside : r < p.pages) where
  e : ℕ
  e = first_such test r (p.pages - 1 - r)

  found : Such test r (p.pages - 1 - r) e
  unfolding e
  found = such test r (p.pages - 1 - r)

  first-page : within r 0 e ≡ eqb 0 r || false
  unfolding within
  first-page = go (dec_lt 0 r)
    where
      go : Dec (0 < r) → leb r 0 && leb 0 e ≡ eqb 0 r || false
      go (yes d) = rw (lt-leb r 0 d, ne_eqb 0 r (omega arith))
      go (no d) = rw (le-leb r 0 (omega arith), le-leb 0 e (omega arith), eq-eqb 0 r (omega arith))

  next-page : (q : ℕ) → suc q < p.pages → within r (suc q) e ≡ eqb (suc q) r || (within r q e && not (test q))
  unfolding within
  next-page q h = go (dec_lt (suc q) r) (dec_lt q r) (dec_lt q e) (dec_lt e q)
    where
      ends : q ≡ e → test q ≡ true
      ends d = ap test d ∙ found.passes (omega arith)

      go : Dec (suc q < r) → Dec (q < r) → Dec (q < e) → Dec (e < q)
          → leb r (suc q) && leb (suc q) e ≡ eqb (suc q) r || ((leb r q && leb q e) && not (test q))
      go (yes a) b c d = rw (lt-leb r (suc q) a, ne_eqb (suc q) r (omega arith), lt-leb r q (omega arith))
      go (no a) (yes b) c d = rw (le-leb r (suc q) (omega arith), le-leb (suc q) e (omega (arith, found.low)), eq-eqb (suc q) r (omega arith))
      go (no a) (no b) (yes c) d =
          rw (le-leb r (suc q) (omega arith), le-leb (suc q) e c, ne_eqb (suc q) r (omega arith), le-leb r q (omega arith), le-leb q e (omega arith), found.before q (omega arith) c)
      go (no a) (no b) (no c) (yes d) =
          rw (le-leb r (suc q) (omega arith), lt-leb (suc q) e (omega arith), ne_eqb (suc q) r (omega arith), le-leb r q (omega arith), lt-leb q e d)
      go (no a) (no b) (no c) (no d) =
          rw (le-leb r (suc q) (omega arith), lt-leb (suc q) e (omega arith), ne_eqb (suc q) r (omega arith), ends (omega arith), and-false (leb r q && leb q e))

  pub stretch-step : (q : ℕ) → q < p.pages → in_stretch p test r q ≡ eqb q r || carried (in_stretch p test r) test q
  unfolding in_stretch end_from carried e
  stretch-step zero h = first-page
  stretch-step (suc q) h = next-page q h

swap : (a b c d : Bool) → (a || b) || (c || d) ≡ (a || c) || (b || d)
swap true b c d = refl
swap false true true d = refl
swap false true false d = refl
swap false false true d = refl
swap false false false d = refl

any_same : (f g : ℕ → Bool) (n : ℕ) → ((r : ℕ) → r < n → f r ≡ g r) → any_below f n ≡ any_below g n
unfolding any_below
any_same f g zero h = refl
any_same f g (suc n) h = rw (any_same f g n (λ r d. h r (omega arith)), h n (omega arith))

any-either : (f g : ℕ → Bool) (n : ℕ) → any_below (λ (r : ℕ). f r || g r) n ≡ any_below f n || any_below g n
unfolding any_below
any-either f g zero = refl
any-either f g (suc n) = rw (any-either f g n) (swap (any_below f n) (any_below g n) (f n) (g n))

any-both : (f : ℕ → Bool) (t : Bool) (n : ℕ) → any_below (λ (r : ℕ). f r && t) n ≡ any_below f n && t
unfolding any_below
any-both f t zero = refl
any-both f t (suc n) = rw (any-both f t n) (sym (and-or_distrib_right (any_below f n) (f n) t))

-- of numbers that are not q, none is
any-other : (f : ℕ → Bool) (q n : ℕ) → n ≤ q → any_below (λ (r : ℕ). f r && eqb q r) n ≡ false
unfolding any_below
any-other f q zero h = refl
any-other f q (suc n) h = rw (any-other f q n (omega arith), ne_eqb q n (omega arith)) (and-false (f n))

any-one : (f : ℕ → Bool) (q n : ℕ) → q < n → any_below (λ (r : ℕ). f r && eqb q r) n ≡ f q
unfolding any_below
any-one f q zero h = absurd (omega arith)
any-one f q (suc n) h = go (dec_lt q n) (any-one f q n)
  where
    go : Dec (q < n) → (q < n → any_below (λ (r : ℕ). f r && eqb q r) n ≡ f q) → any_below (λ (r : ℕ). f r && eqb q r) n || (f n && eqb q n) ≡ f q
    go (yes d) ih = rw (ih d, ne_eqb q n (omega arith), and-false (f n)) (or-false (f q))
    go (no d) ih =
        let same : q ≡ n = omega arith in
        rw (any-other f q n (omega arith), eq-eqb q n same, same) (and-true (f n))

apart : (a b c d : Bool) → a && (b || (c && d)) ≡ (a && b) || ((a && c) && d)
apart true b c d = refl
apart false b c d = refl

alone : (a b : Bool) → a && (b || false) ≡ a && b
alone true b = or-false b
alone false b = refl

module _ (p : Parameters) (g : Growth) (old : List ℕ) where
  pub group-step : (q : ℕ) → q < p.pages → near_group p g old q ≡ expands p g q || carried (near_group p g old) (top_at p old) q
  unfolding near_group carried
  group-step zero h =
      any_same (λ (r : ℕ). expands p g r && in_stretch p (top_at p old) r 0) (λ (r : ℕ). expands p g r && eqb 0 r) p.pages
      (λ r d. ap (λ (t : Bool). expands p g r && t) (stretch-step p (top_at p old) r d 0 h) ∙ alone (expands p g r) (eqb 0 r))
      ∙ any-one (expands p g) 0 p.pages h
      ∙ sym (or-false (expands p g 0))
  group-step (suc q) h =
      any_same (λ (r : ℕ). expands p g r && in_stretch p test r (suc q)) (λ (r : ℕ). (expands p g r && eqb (suc q) r) || ((expands p g r && in_stretch p test r q) && go_on)) p.pages
      (λ r d. ap (λ (t : Bool). expands p g r && t) (stretch-step p test r d (suc q) h) ∙ apart (expands p g r) (eqb (suc q) r) (in_stretch p test r q) go_on)
      ∙ any-either (λ (r : ℕ). expands p g r && eqb (suc q) r) (λ (r : ℕ). (expands p g r && in_stretch p test r q) && go_on) p.pages
      ∙ rw (any-one (expands p g) (suc q) p.pages h, any-both (λ (r : ℕ). expands p g r && in_stretch p test r q) go_on p.pages)
    where
      test : ℕ → Bool
      test = top_at p old

      go_on : Bool
      go_on = not (top_at p old q)

  module _ (new : List ℕ) where
    abbrev runs_new : ℕ → Bool
    runs_new = in_stretch p (top_twice p old new) (page_count p g)

    abbrev mark_at : ℕ → ℕ
    mark_at page = mark (may_change p g old new page)

    -- Below this page all marks are made, and the stretches that go on to it are known.
    pub record Upto (found marks : List ℕ) (run : Running) (page : ℕ) : Type 0 where
      pub most : page ≤ p.pages
      pub group : run.group ≡ carried (near_group p g old) (top_at p old) page
      pub added : run.added ≡ carried runs_new (top_twice p old new) page
      pub made : marks ≡ lanes page mark_at ++ drop page found

    pub upto-none : (found : List ℕ) (run : Running) → run.group ≡ false → run.added ≡ false → Upto found found run 0
    unfolding carried
    upto-none found run a b = record { most = omega arith; group = a; added = b; made = lane-none mark_at found }

    module _ (found marks : List ℕ) (run : Running) (page : ℕ) (upto : Upto found marks run page) (sized : length found ≡ p.pages) (here : Running) where
      -- what is told of the page, of its mark and of those that go on past it
      pub upto_next : page_count p g < p.pages → page < p.pages
          → (here.group ≡ expands p g page || run.group) × (here.added ≡ eqb page (page_count p g) || run.added)
          → (v : ℕ) → v ≡ mark (here.group || here.added)
          → (next : Running)
          → (next.group ≡ here.group && not (eqb (get_or old page 0) (top_of_lem p.bits)))
          × (next.added ≡ here.added && not (eqb (get_or old page 0) (top_of_lem p.bits) && eqb (get_or new page 0) (top_of_lem p.bits)))
          → Upto found (set marks page v) next (page + 1)
      unfolding top_at top_twice may_change carried
      upto_next more inside reached v marked next passed =
          record {
            most = omega arith;
            group = rw (add-one page, ← in_group) passed.0;
            added = rw (add-one page, ← in-new) passed.1;
            made = lane-next mark_at found marks page v (omega (arith, sized)) upto.made (marked ∙ ap mark changes);
          }
        where
          in_group : here.group ≡ near_group p g old page
          in_group = reached.0 ∙ ap (λ (t : Bool). expands p g page || t) upto.group ∙ sym (group-step page inside)

          in-new : here.added ≡ runs_new page
          in-new = reached.1 ∙ ap (λ (t : Bool). eqb page (page_count p g) || t) upto.added ∙ sym (stretch-step p (top_twice p old new) (page_count p g) more page inside)

          changes : here.group || here.added ≡ may_change p g old new page
          changes = rw (in_group, in-new)

    pub upto_all : (found marks : List ℕ) (run : Running) (page : ℕ) → Upto found marks run page → length found ≡ p.pages → p.pages ≤ page → marks ≡ marks_of p g old new
    unfolding marks_of
    upto_all found marks run page upto sized h =
        let all : page ≡ p.pages = omega (arith, upto.most) in
        lane-end mark_at found marks p.pages sized (rw all at upto.made)
