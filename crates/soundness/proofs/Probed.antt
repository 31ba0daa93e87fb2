-- Probing from home upward, and that no page above the one asked about matters.
use mathlib.Core.Path.{◌≡◌, refl, sym, ap, ◌∙◌}
use mathlib.Core.Bool.{true, false, cond, true≢false}
use mathlib.Core.List.{List, []}
use Prim.Native.Nat.{ℕ, suc, ◌+◌, ◌-◌, ◌≤◌, ◌<◌}
use native.Mathlib.Nat.{zero-add}
use native.Mathlib.Numerals.{add-one}
use native.Mathlib.Decide.{dec_lt}
use native.Mathlib.Omega.{arith}
use lib.Dec.{eqb, ltb}
use lib.ListN.{length, get_or, take, drop, take-append-drop}
use lib.Seq.{drop-cons, drop-length, take-length, length-take-le, get_or-take, take-take}
use borrow.Author.Tests.{eq-eqb, ne_eqb, le-leb, lt-ltb}
use Rattle.hashing.specs.declared.Parameters.{Parameters}
use Rattle.hashing.specs.declared.Growth.{Growth}
use Rattle.generator.specs.Generator.{signature, top_of_lem}
use Rattle.hashing.specs.Geometry.{multiplier_of}
use Rattle.hashing.specs.Home.{home}
use Rattle.hashing.specs.Limits.{valid_parameters}
use Rattle.hashing.proofs.Bounds.{limits}
use Rattle.generator.proofs.Scrambling.{signature-below}
use Rattle.placement.specs.Rule.{Hash, below, first}
use Rattle.placement.specs.Hash.{hash_of, named_page_lem}
use Rattle.placement.specs.Shape.{hash_from}
use Rattle.placement.proofs.Standing.{first-le, first_home, first-home-on, first-later, first-within, first_below, first-before, first-append}
use Rattle.placement.proofs.Probing.{first-from}

-- the first page is not above one that keeps the number, nor above the first of fewer pages
first_stops : (H : Hash) (vs : List ℕ) (k p : ℕ) → p < length vs → below H p (get_or vs p 0) k ≡ true → first H 0 vs k ≤ p
first_stops H vs k p h b = go (dec_lt p (first H 0 vs k))
  where
    go : Dec (p < first H 0 vs k) → first H 0 vs k ≤ p
    go (yes d) = absurd (true≢false (sym b ∙ (rw (zero-add p) at (first-before H 0 p vs k h (rw (zero-add p) d)))))
    go (no d) = omega arith

first-seen : (H : Hash) (vs : List ℕ) (k n p : ℕ) → n ≤ length vs → p < n → first H 0 (take n vs) k ≡ p → first H 0 vs k ≤ p
first-seen H vs k n p h d e =
    first_stops H vs k p (omega arith)
    (rw (zero-add p, get_or-take n vs p 0 d) at
    (first_below H 0 p (take n vs) k (omega (arith, length-take-le n vs h)) (e ∙ sym (zero-add p))))

-- No page below p is the first one.
pub record Probed (H : Hash) (vs : List ℕ) (k p : ℕ) : Type 0 where
  pub is : first H 0 vs k ≡ first H p (drop p vs) k

module _ (H : Hash) (vs : List ℕ) (k p : ℕ) where
  pub probed_none : p ≤ length vs → p ≤ H.home k → Probed H vs k p
  probed_none h g = record { is = sym (rw (zero-add p) at (first-home-on H 0 p vs k h (rw (zero-add p) g))) }

  -- the next page is the first one, or the one after it may be
  next : p < length vs → first H p (drop p vs) k ≡ cond (below H p (get_or vs p 0) k) p (first H (suc p) (drop (suc p) vs) k)
  unfolding first
  next h = rw (drop-cons vs p 0 h)

  pub probed-more : p < length vs → below H p (get_or vs p 0) k ≡ false → Probed H vs k p → Probed H vs k (p + 1)
  probed-more h e done = record { is = rw (add-one p) (done.is ∙ next h ∙ rw e) }

  pub probed-found : p < length vs → below H p (get_or vs p 0) k ≡ true → Probed H vs k p → p ≡ first H 0 vs k
  probed-found h e done = sym (done.is ∙ next h ∙ rw e)

  pub probed-all : p ≡ length vs → Probed H vs k p → p ≡ first H 0 vs k
  unfolding first
  probed-all h done =
      let none : drop p vs ≡ [] = rw h (drop-length vs) in
      sym (done.is ∙ rw none)

  -- whether p is the first page is seen without the pages above it
  pub first_taken : p < length vs → eqb (first H 0 (take (suc p) vs) k) p ≡ eqb (first H 0 vs k) p
  first_taken h = go (dec_lt (first H 0 vs k) (suc p))
    where
      go : Dec (first H 0 vs k < suc p) → eqb (first H 0 (take (suc p) vs) k) p ≡ eqb (first H 0 vs k) p
      go (yes d) = rw (first-within H 0 (suc p) vs k (rw (zero-add (suc p)) d))
      go (no d) = ne_eqb (first H 0 (take (suc p) vs) k) p other ∙ sym (ne_eqb (first H 0 vs k) p (λ e. omega (arith, e)))
        where
          not-here : below H p (get_or vs p 0) k ≡ false
          not-here = rw (zero-add p) at (first-before H 0 p vs k h (omega arith))

          other : first H 0 (take (suc p) vs) k ≡ p → ⊥
          other e =
              true≢false
              (sym (rw (zero-add p, get_or-take (suc p) vs p 0 (omega arith)) at
              (first_below H 0 p (take (suc p) vs) k (omega (arith, length-take-le (suc p) vs h)) (e ∙ sym (zero-add p))))
              ∙ not-here)

  -- .. and without p itself, if it keeps the number
  pub first-before-kept : p < length vs → below H p (get_or vs p 0) k ≡ true → eqb (first H 0 (take p vs) k) p ≡ eqb (first H 0 vs k) p
  first-before-kept h b = go (dec_lt (first H 0 vs k) p) (dec_lt (first H 0 (take p vs) k) p)
    where
      go : Dec (first H 0 vs k < p) → Dec (first H 0 (take p vs) k < p) → eqb (first H 0 (take p vs) k) p ≡ eqb (first H 0 vs k) p
      go (yes d) t = rw (first-within H 0 p vs k (rw (zero-add p) d))
      go (no d) (yes t) = absurd (omega (arith, first-seen H vs k p (first H 0 (take p vs) k) (omega arith) t refl))
      go (no d) (no t) =
          let long = length-take-le p vs (omega arith) in
          let all : first H 0 (take p vs) k ≡ p = omega (arith, first-le H 0 (take p vs) k, long) in
          let here : first H 0 vs k ≡ p = omega (arith, first_stops H vs k p h b) in
          rw (all, here)

-- From home on, a page keeps those with a signature below its separator.
pub below-from : (p : Parameters) (h k page v : ℕ) → h ≤ page → below (hash_from p h) page v k ≡ ltb (signature (multiplier_of p) p.bits k (page - h + 1)) v
unfolding below hash_from
below-from p h k page v g = rw (le-leb h page g)

-- no signature reaches the greatest separator
below_top : (p : Parameters) (g : Growth) (k page v : ℕ) → valid_parameters p ≡ true → home (multiplier_of p) p g k ≤ page → top_of_lem p.bits ≤ v
    → below (hash_of p g) page v k ≡ true
unfolding below hash_of
below_top p g k page v ok h t =
    let low = signature-below (multiplier_of p) p.bits k (page - home (multiplier_of p) p g k + 1) (limits p ok).bits_least in
    rw (le-leb (home (multiplier_of p) p g k) page h, lt-ltb (signature (multiplier_of p) p.bits k (page - home (multiplier_of p) p g k + 1)) v (omega (arith, low, t)))

-- from home to home no page is probed
pub none_first : (p : Parameters) (seps : List ℕ) (k h : ℕ) → h ≤ length seps → first (hash_from p h) 0 (take h seps) k ≡ h
unfolding hash_from
none_first p seps k h i =
    let long = length-take-le h seps i in
    let here = probed_none (hash_from p h) (take h seps) k h (omega (arith, long)) (omega arith) in
    sym (probed-all (hash_from p h) (take h seps) k h (sym long) here)

pub none-probed : (p : Parameters) (seps : List ℕ) (k h page : ℕ) → h ≡ page → page ≤ length seps → eqb (first (hash_from p h) 0 (take page seps) k) page ≡ true
none-probed p seps k h page e i = rw (← e) (eq-eqb (first (hash_from p h) 0 (take h seps) k) h (none_first p seps k h (omega (arith, e, i))))

-- pages that were probed without success need not be probed again
pub probed-from : (H : Hash) (seps : List ℕ) (k start stop : ℕ) → start ≤ stop → stop ≤ length seps → first H 0 (take start seps) k ≡ start → Probed H (take stop seps) k start
probed-from H seps k start stop h l e =
    record {
      is =
          sym
          (rw (zero-add start) at
          (first-later H 0 start (take stop seps) k (omega (arith, length-take-le stop seps l)) (rw (zero-add start) (go (dec_lt (first H 0 (take stop seps) k) start)))));
    }
  where
    go : Dec (first H 0 (take stop seps) k < start) → start ≤ first H 0 (take stop seps) k
    go (yes d) =
        omega (
          arith,
          e,
          first-within H 0 start (take stop seps) k (rw (zero-add start) d),
          ap (λ (vs : List ℕ). first H 0 vs k) (take-take start stop seps h),
        )
    go (no d) = omega arith

-- a page found below n is found among all
first_found : (H : Hash) (vs : List ℕ) (k n : ℕ) → n ≤ length vs → first H 0 (take n vs) k < n → first H 0 (take n vs) k ≡ first H 0 vs k
first_found H vs k n l h =
    sym
    (ap (λ (us : List ℕ). first H 0 us k) (sym (take-append-drop n vs))
    ∙ first-append H 0 (take n vs) (drop n vs) k (omega (arith, h, length-take-le n vs l)))

-- a number that stays on none of the first n pages
pub none_found : (H : Hash) (vs : List ℕ) (k n r : ℕ) → n ≤ length vs → r ≡ first H 0 (take n vs) k → n ≤ r → first H 0 (take n vs) k ≡ n
none_found H vs k n r l e h = omega (arith, e, h, first-le H 0 (take n vs) k, length-take-le n vs l)

-- What a probe of a number from its home finds: of all pages the named one, of those up to a page whether that is named.
module _ (p : Parameters) (g : Growth) (seps : List ℕ) (k h : ℕ) (at_home : h ≡ home (multiplier_of p) p g k) where
  pub named-is : first (hash_from p h) 0 (take (length seps) seps) k ≡ named_page_lem p g seps k
  unfolding named_page_lem
  named-is = rw (at_home, take-length seps) (first-from p g 0 seps k)

  pub named-found : (n r : ℕ) → r ≡ first (hash_from p h) 0 (take n seps) k → n ≤ length seps → r < n → r ≡ named_page_lem p g seps k
  unfolding named_page_lem
  named-found n r e i l = e ∙ first_found (hash_from p h) seps k n i (omega (arith, e, l)) ∙ rw at_home (first-from p g 0 seps k)

  pub named_here : (page : ℕ) → page < length seps → eqb (first (hash_from p h) 0 (take (page + 1) seps) k) page ≡ eqb (named_page_lem p g seps k) page
  unfolding named_page_lem
  named_here page i =
      rw (at_home, add-one page, first-from p g 0 (take (suc page) seps) k) (first_taken (hash_of p g) seps k page i)

  pub named-before-top : valid_parameters p ≡ true → (page : ℕ) → page < length seps → h ≤ page → top_of_lem p.bits ≤ get_or seps page 0
      → eqb (first (hash_from p h) 0 (take page seps) k) page ≡ eqb (named_page_lem p g seps k) page
  unfolding named_page_lem
  named-before-top ok page i low t =
      rw (at_home, first-from p g 0 (take page seps) k)
      (first-before-kept (hash_of p g) seps k page i (below_top p g k page (get_or seps page 0) ok (rw at_home at low) t))

  pub named-above : (page : ℕ) → page < length seps → page < h → eqb (named_page_lem p g seps k) page ≡ false
  unfolding named_page_lem hash_of
  named-above page i low =
      ne_eqb (first (hash_of p g) 0 seps k) page
      (λ e. omega (arith, e, first_home (hash_of p g) 0 seps k (omega (arith, e))))
