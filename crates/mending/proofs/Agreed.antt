-- Words of one star: their neighbours agree exactly if all stars of one number are one star.
use mathlib.Core.Path.{◌≡◌, refl, sym, ap, ◌∙◌}
use mathlib.Core.Bool.{Bool, true, false, cond, not, ◌&&◌, ◌||◌}
use mathlib.Core.List.Memᴰ
use mathlib.Core.List.{List, [], ◌∷◌, Memᴰ}
use mathlib.Core.Logic.{⊎_elim, ◌⊎◌, inl, inr}
use Prim.Native.Nat.{ℕ, ◌/◌, ◌%◌, ◌^◌, ◌≤◌, ◌<◌}
use native.Mathlib.Omega.{arith}
use native.Mathlib.Decide.{ℕ_discrete}
use lib.Dec.{eqb}
use borrow.Author.Tests.{eq-eqb, ne_eqb, eqb-true}
use Rattle.page_plan.proofs.Pouring.{rises-lower}
use Rattle.buffers.proofs.Tests.{and-true}
use Rattle.page_separator.specs.Lists.{rises, all}
use Rattle.page_separator.specs.Words.{home_of, number_in, source_of, low_of}
use Rattle.page_separator.proofs.Lists.{all_head, all_tail}
use Rattle.page_plan.proofs.Order.{rises-head, rises-tail}
use Rattle.placement.specs.Rule.{Star, star_with}
use Rattle.placement.specs.File.{every}
use Rattle.placement.proofs.Pages.{every-member}
use Rattle.placement.proofs.Mixture.{Single}
use Rattle.page_plan.specs.Sources.{named_item, renamed}
use Rattle.page_plan.specs.Plans.{star_of}
use Rattle.calls.specs.Mend.{agrees, agreeing}
use Rattle.duplicates.specs.Words.{number_key, pair_agrees_lem, leads_agreed, neighbours_agree, firsts_after}

-- the star that a word names
abbrev pub named : List ℕ → List ℕ → ℕ → Star
named ws os w = renamed ws os 0 0 (star_of (low_of w))

pub named-is : (ws os : List ℕ) (w : ℕ) → named ws os w ≡ star_with (number_in w) (named_item ws 0 (source_of w)) (named_item os 0 (source_of w))
unfolding renamed star_of low_of number_in source_of
named-is ws os w =
    let n : w % 2 ^ 47 / 2 ^ 16 ≡ w / 2 ^ 16 % 2 ^ 31 = omega arith in
    let s : w % 2 ^ 47 % 2 ^ 16 ≡ w % 2 ^ 16 = omega arith in
    rw (n, s)

pub all-member : (q : ℕ → Bool) (l : List ℕ) → all q l ≡ true → (x : ℕ) → Memᴰ x l → q x ≡ true
all-member q [] e x m = absurd (Memᴰ.not-nil m)
all-member q (y ∷ l) e x m = ⊎_elim (λ (d : x ≡ y). ap q d ∙ all_head q y l e) (λ (n : Memᴰ x l). all-member q l (all_tail q y l e) x n) (Memᴰ.cases_cons m)

pub member_all : (q : ℕ → Bool) (l : List ℕ) → ((x : ℕ) → Memᴰ x l → q x ≡ true) → all q l ≡ true
unfolding all
member_all q [] h = refl
member_all q (y ∷ l) h = rw (h y (Memᴰ.head refl), member_all q l (λ x m. h x (Memᴰ.tail m)))

rises-member : (b : ℕ) (l : List ℕ) → rises b l ≡ true → (x : ℕ) → Memᴰ x l → b ≤ x
rises-member b [] u x m = absurd (Memᴰ.not-nil m)
rises-member b (y ∷ l) u x m =
    ⊎_elim (λ (e : x ≡ y). omega (arith, e, rises-head b y l u)) (λ (n : Memᴰ x l). omega (arith, rises-head b y l u, rises-member y l (rises-tail b y l u) x n)) (Memᴰ.cases_cons m)

key-between : (x z y : ℕ) → x ≤ z → z ≤ y → number_key x ≡ number_key y → number_key x ≡ number_key z
unfolding number_key
key-between x z y a b k = omega (arith, k)

pub key-of_both : (x y : ℕ) → number_key x < number_key y → home_of x ≡ home_of y → number_in x ≡ number_in y → ⊥
unfolding number_key home_of number_in
key-of_both x y h a b = omega arith

pub key-from : (x y : ℕ) → home_of x ≡ home_of y → number_in x ≡ number_in y → number_key x ≡ number_key y
unfolding number_key home_of number_in
key-from x y a b = omega arith

pub number-from : (x y : ℕ) → number_key x ≡ number_key y → number_in x ≡ number_in y
unfolding number_key number_in
number-from x y k = ap (λ (z : ℕ). z % 2 ^ 31) k

pub number-zero : (x : ℕ) → number_key x ≡ 0 → number_in x ≡ 0
unfolding number_key number_in
number-zero x k = ap (λ (z : ℕ). z % 2 ^ 31) k

pub key-mono : (x y : ℕ) → x ≤ y → number_key x ≤ number_key y
unfolding number_key
key-mono x y h = omega arith

module _ (ws os : List ℕ) where
  -- two words of one key that agree
  pair_same : (x y : ℕ) → pair_agrees_lem ws os x y ≡ true → number_key x ≡ number_key y → named ws os x ≡ named ws os y
  unfolding pair_agrees_lem number_key
  pair_same x y e k =
      let t = and-true (eqb (named_item ws 0 (source_of x)) (named_item ws 0 (source_of y))) (eqb (named_item os 0 (source_of x)) (named_item os 0 (source_of y)))
      (rw (eq-eqb (x / 2 ^ 16) (y / 2 ^ 16) k) at e) in
      let n : number_in x ≡ number_in y = unfold number_in in ap (λ (z : ℕ). z % 2 ^ 31) k in
      named-is ws os x
      ∙ rw (n, eqb-true (named_item ws 0 (source_of x)) (named_item ws 0 (source_of y)) t.0, eqb-true (named_item os 0 (source_of x)) (named_item os 0 (source_of y)) t.1)
      (sym (named-is ws os y))

  same-pair : (x y : ℕ) → (number_key x ≡ number_key y → named ws os x ≡ named ws os y) → pair_agrees_lem ws os x y ≡ true
  unfolding pair_agrees_lem
  same-pair x y h = go (ℕ_discrete (number_key x) (number_key y))
    where
      go : Dec (number_key x ≡ number_key y)
          → not (eqb (number_key x) (number_key y)) || (eqb (named_item ws 0 (source_of x)) (named_item ws 0 (source_of y)) && eqb (named_item os 0 (source_of x)) (named_item os 0 (source_of y))) ≡ true
      go (yes d) =
          let s = sym (named-is ws os x) ∙ h d ∙ named-is ws os y in
          rw (
            eq-eqb (number_key x) (number_key y) d,
            eq-eqb (named_item ws 0 (source_of x)) (named_item ws 0 (source_of y)) (ap (λ (z : Star). z.payload.word) s),
            eq-eqb (named_item os 0 (source_of x)) (named_item os 0 (source_of y)) (ap (λ (z : Star). z.payload.owner) s),
          )
      go (no d) = rw (ne_eqb (number_key x) (number_key y) d)

  -- in order, the words of one key stand side by side
  lead-same : (x : ℕ) (l : List ℕ) → rises x l ≡ true → leads_agreed ws os x l ≡ true → (y : ℕ) → Memᴰ y l → number_key x ≡ number_key y → named ws os x ≡ named ws os y
  unfolding leads_agreed
  lead-same x [] u a y m k = absurd (Memᴰ.not-nil m)
  lead-same x (z ∷ l) u a y m k = go (Memᴰ.cases_cons m) (lead-same z l (rises-tail x z l u) t.1 y)
    where
      t : (pair_agrees_lem ws os x z ≡ true) × (leads_agreed ws os z l ≡ true)
      t = and-true (pair_agrees_lem ws os x z) (leads_agreed ws os z l) a

      between : z ≤ y → number_key x ≡ number_key z
      between h = key-between x z y (rises-head x z l u) h k

      go : (y ≡ z) ⊎ Memᴰ y l → (Memᴰ y l → number_key z ≡ number_key y → named ws os z ≡ named ws os y) → named ws os x ≡ named ws os y
      go (inl e) ih = rw e (pair_same x z t.0 (rw e at k))
      go (inr n) ih =
          let b : number_key x ≡ number_key z = between (rises-member z l (rises-tail x z l u) y n) in
          pair_same x z t.0 b ∙ ih n (sym b ∙ k)

  pub agreed_same : (b : ℕ) (l : List ℕ) → rises b l ≡ true → neighbours_agree ws os l ≡ true → (x y : ℕ) → Memᴰ x l → Memᴰ y l → number_key x ≡ number_key y → named ws os x ≡ named ws os y
  unfolding neighbours_agree
  agreed_same b [] u a x y m n k = absurd (Memᴰ.not-nil m)
  agreed_same b (z ∷ l) u a x y m n k = go (Memᴰ.cases_cons m) (Memᴰ.cases_cons n) (rest l a) (agreed_same z l (rises-tail b z l u))
    where
      rest : (r : List ℕ) → leads_agreed ws os z r ≡ true → neighbours_agree ws os r ≡ true
      rest [] e = refl
      rest (v ∷ r) e = (and-true (pair_agrees_lem ws os z v) (leads_agreed ws os v r) (unfold leads_agreed in e)).1

      go : (x ≡ z) ⊎ Memᴰ x l → (y ≡ z) ⊎ Memᴰ y l → neighbours_agree ws os l ≡ true
          → (neighbours_agree ws os l ≡ true → (v w : ℕ) → Memᴰ v l → Memᴰ w l → number_key v ≡ number_key w → named ws os v ≡ named ws os w) → named ws os x ≡ named ws os y
      go (inl e) (inl d) r ih = ap (named ws os) (e ∙ sym d)
      go (inl e) (inr d) r ih = ap (named ws os) e ∙ lead-same z l (rises-tail b z l u) a y d (sym (ap number_key e) ∙ k)
      go (inr e) (inl d) r ih = sym (ap (named ws os) d ∙ lead-same z l (rises-tail b z l u) a x e (sym (ap number_key d) ∙ sym k))
      go (inr e) (inr d) r ih = ih r x y e d k

  pub same-agreed : (l : List ℕ) → ((x y : ℕ) → Memᴰ x l → Memᴰ y l → number_key x ≡ number_key y → named ws os x ≡ named ws os y) → neighbours_agree ws os l ≡ true
  unfolding neighbours_agree leads_agreed
  same-agreed [] h = refl
  same-agreed (x ∷ []) h = refl
  same-agreed (x ∷ y ∷ l) h =
      rw (same-pair x y (h x y (Memᴰ.head refl) (Memᴰ.tail (Memᴰ.head refl)))) (same-agreed (y ∷ l) (λ v w m n. h v w (Memᴰ.tail m) (Memᴰ.tail n)))

star-same : (s t : Star) → s.number ≡ t.number → s.payload.word ≡ t.payload.word → s.payload.owner ≡ t.payload.owner → s ≡ t
star-same s t a b c = λ i. record { number = a i; payload = record { word = b i; owner = c i } }

-- agreeing stars of one number are one star
pub agreeing-single : (w : List Star) → agreeing w ≡ true → Single w
unfolding agreeing agrees
agreeing-single [] e s t m n k = absurd (Memᴰ.not-nil m)
agreeing-single (x ∷ w) e s t m n k = go (Memᴰ.cases_cons m) (Memᴰ.cases_cons n) (agreeing-single w c.1 s t)
  where
    c : (every (agrees x) w ≡ true) × (agreeing w ≡ true)
    c = and-true (every (agrees x) w) (agreeing w) e

    with-head : (y : Star) → Memᴰ y w → y.number ≡ x.number → y ≡ x
    with-head y j q =
        let a : not (eqb y.number x.number) || (eqb y.payload.word x.payload.word && eqb y.payload.owner x.payload.owner) ≡ true = every-member (agrees x) w c.0 y j in
        let b = and-true (eqb y.payload.word x.payload.word) (eqb y.payload.owner x.payload.owner) (rw (eq-eqb y.number x.number q) at a) in
        star-same y x q (eqb-true y.payload.word x.payload.word b.0) (eqb-true y.payload.owner x.payload.owner b.1)

    go : (s ≡ x) ⊎ Memᴰ s w → (t ≡ x) ⊎ Memᴰ t w → (Memᴰ s w → Memᴰ t w → s.number ≡ t.number → s ≡ t) → s ≡ t
    go (inl a) (inl b) ih = a ∙ sym b
    go (inl a) (inr b) ih = a ∙ sym (with-head t b (sym k ∙ ap (λ (z : Star). z.number) a))
    go (inr a) (inl b) ih = with-head s a (k ∙ ap (λ (z : Star). z.number) b) ∙ sym b
    go (inr a) (inr b) ih = ih a b k

-- The first word of each key.
pub firsts_member : (k : ℕ) (l : List ℕ) (x : ℕ) → Memᴰ x (firsts_after k l) → Memᴰ x l
unfolding firsts_after
firsts_member k [] x m = m
firsts_member k (y ∷ l) x m = go (eqb (number_key y) k) m (λ j. firsts_member j l x)
  where
    go : (t : Bool) → Memᴰ x (cond t (firsts_after k l) (y ∷ firsts_after (number_key y) l)) → ((j : ℕ) → Memᴰ x (firsts_after j l) → Memᴰ x l) → Memᴰ x (y ∷ l)
    go true n ih = Memᴰ.tail (ih k n)
    go false n ih = ⊎_elim (λ (e : x ≡ y). Memᴰ.head e) (λ (j : Memᴰ x (firsts_after (number_key y) l)). Memᴰ.tail (ih (number_key y) j)) (Memᴰ.cases_cons n)

pub firsts_all : (q : ℕ → Bool) (k : ℕ) (l : List ℕ) → all q l ≡ true → all q (firsts_after k l) ≡ true
firsts_all q k l e = member_all q (firsts_after k l) (λ x m. all-member q l e x (firsts_member k l x m))

pub record Kept (k : ℕ) (l : List ℕ) (x : ℕ) : Type 0 where
  pub word : ℕ
  pub there : Memᴰ word (firsts_after k l)
  pub same : number_key word ≡ number_key x

pub firsts_cover : (k : ℕ) (l : List ℕ) (x : ℕ) → Memᴰ x l → (number_key x ≡ k) ⊎ Kept k l x
unfolding firsts_after
firsts_cover k [] x m = absurd (Memᴰ.not-nil m)
firsts_cover k (y ∷ l) x m = go (ℕ_discrete (number_key y) k) (Memᴰ.cases_cons m) (λ j. firsts_cover j l x)
  where
    go : Dec (number_key y ≡ k) → (x ≡ y) ⊎ Memᴰ x l → ((j : ℕ) → Memᴰ x l → (number_key x ≡ j) ⊎ Kept j l x) → (number_key x ≡ k) ⊎ Kept k (y ∷ l) x
    go (yes d) (inl e) ih = inl (ap number_key e ∙ d)
    go (yes d) (inr n) ih =
        ⊎_elim (λ (e : number_key x ≡ k). inl e) (λ (w : Kept k l x). inr (record { word = w.word; there = rw (eq-eqb (number_key y) k d) w.there; same = w.same })) (ih k n)
    go (no d) (inl e) ih = inr (record { word = y; there = rw (ne_eqb (number_key y) k d) (Memᴰ.head refl); same = ap number_key (sym e) })
    go (no d) (inr n) ih =
        ⊎_elim (λ (e : number_key x ≡ number_key y). inr (record { word = y; there = rw (ne_eqb (number_key y) k d) (Memᴰ.head refl); same = sym e }))
        (λ (w : Kept (number_key y) l x). inr (record { word = w.word; there = rw (ne_eqb (number_key y) k d) (Memᴰ.tail w.there); same = w.same }))
        (ih (number_key y) n)

pub firsts_rise : (b k : ℕ) (l : List ℕ) → rises b l ≡ true → rises b (firsts_after k l) ≡ true
unfolding firsts_after
firsts_rise b k [] u = u
firsts_rise b k (y ∷ l) u = go (eqb (number_key y) k) (λ j. firsts_rise y j l (rises-tail b y l u))
  where
    go : (t : Bool) → ((j : ℕ) → rises y (firsts_after j l) ≡ true) → rises b (cond t (firsts_after k l) (y ∷ firsts_after (number_key y) l)) ≡ true
    go true ih = rises-lower b y (firsts_after k l) (rises-head b y l u) (ih k)
    go false ih = Rattle.page_plan.proofs.Order.rises-cons b y (firsts_after (number_key y) l) (rises-head b y l u) (ih (number_key y))

-- the keys of those that stay rise strictly
pub firsts_above : (k y : ℕ) (l : List ℕ) → rises y l ≡ true → k ≤ number_key y → (x : ℕ) → Memᴰ x (firsts_after k l) → k < number_key x
unfolding firsts_after
firsts_above k y [] u h x m = absurd (Memᴰ.not-nil m)
firsts_above k y (z ∷ l) u h x m = go (ℕ_discrete (number_key z) k) m (firsts_above k z l (rises-tail y z l u) up x) (firsts_above (number_key z) z l (rises-tail y z l u) (omega arith) x)
  where
    up : k ≤ number_key z
    up = omega (arith, h, key-mono y z (rises-head y z l u))

    go : Dec (number_key z ≡ k) → Memᴰ x (cond (eqb (number_key z) k) (firsts_after k l) (z ∷ firsts_after (number_key z) l))
        → (Memᴰ x (firsts_after k l) → k < number_key x) → (Memᴰ x (firsts_after (number_key z) l) → number_key z < number_key x) → k < number_key x
    go (yes d) n same later = same (rw (eq-eqb (number_key z) k d) at n)
    go (no d) n same later =
        ⊎_elim (λ (e : x ≡ z). omega (arith, ap number_key e, up, d)) (λ (j : Memᴰ x (firsts_after (number_key z) l)). omega (arith, later j, up)) (Memᴰ.cases_cons (rw (ne_eqb (number_key z) k d) at n))
