-- A stretch planned in two parts: where no word of the second part is homed below it, the parts are planned one after the other.
use mathlib.Core.Path.{◌≡◌, refl, ap, ◌∙◌}
use mathlib.Core.Bool.{Bool, true, false}
use mathlib.Core.List.{List, [], ◌++◌, append-nil}
use Prim.Native.Nat.{ℕ, zero, suc, ◌+◌, ◌≤◌, ◌<◌}
use native.Mathlib.Nat.{add-suc, suc-add, add-zero, zero-add}
use native.Mathlib.Omega.{arith}
use lib.Dec.{leb, ltb, eqb}
use borrow.Author.Tests.{leb-true, ltb-true, ne_eqb, eq-eqb, eqb-true, eqb-false}
use Rattle.hashing.specs.declared.Parameters.{Parameters}
use Rattle.placement.specs.Rule.{Contents}
use Rattle.page_separator.specs.Lists.{all}
use Rattle.page_separator.specs.Words.{home_of}
use Rattle.page_plan.specs.Gather.{group, group_of, grouped, groups_below}
use Rattle.page_separator.proofs.Lists.{filter-append, filter-all, all-filtered}
use Rattle.page_plan.proofs.Grouping.{grouped-least}
use Rattle.page_plan.specs.Plans.{carried_on_lem, plans, remains}
use Rattle.page_plan.proofs.RuleOverWords.{filter-agree, filter_none}

-- every word is homed at page p or higher
unfoldable pub from : ℕ → List ℕ → Bool
from p l = all (λ w. leb p (home_of w)) l

-- the plan goes by the groups alone
module _ (q : Parameters) where
  pub groups-alone : (lo v lo' v' n : ℕ) (w l l' : List ℕ) → lo + v ≡ lo' + v' → ((i : ℕ) → i < n → group lo (v + i) l ≡ group lo' (v' + i) l')
      → (plans q lo v n w l ≡ plans q lo' v' n w l') × (remains q lo v n w l ≡ remains q lo' v' n w l')
  unfolding plans remains
  groups-alone lo v lo' v' zero w l l' e g = (refl, refl)
  groups-alone lo v lo' v' (suc n) w l l' e g =
      let first : group lo v l ≡ group lo' v' l' = rw (add-zero v, add-zero v') at (g 0 (omega arith)) in
      let ih = groups-alone lo (suc v) lo' (suc v') n (carried_on_lem q (lo + v) (w ++ group lo v l)) l l' (rw (add-suc lo v, add-suc lo' v') (ap suc e))
      (λ i h. rw (suc-add v i, suc-add v' i, ← add-suc v i, ← add-suc v' i) (g (suc i) (omega arith))) in
      rw (ih.0, ih.1, first, e) (refl, refl)

  pub plans-add : (lo v n m : ℕ) (w l : List ℕ)
      → (plans q lo v (n + m) w l ≡ plans q lo v n w l ++ plans q lo (v + n) m (remains q lo v n w l) l)
      × (remains q lo v (n + m) w l ≡ remains q lo (v + n) m (remains q lo v n w l) l)
  unfolding plans remains
  plans-add lo v zero m w l = rw (zero-add m, add-zero v) (refl, refl)
  plans-add lo v (suc n) m w l =
      let ih = plans-add lo (suc v) n m (carried_on_lem q (lo + v) (w ++ group lo v l)) l in
      rw (suc-add n m, add-suc v n, ← suc-add v n) (rw (ih.0, ih.1) (refl, refl))

-- the earlier groups of two parts are the first part's
group-first : (lo n v : ℕ) (a b : List ℕ) → v < n → from (lo + n) b ≡ true → group lo v (a ++ b) ≡ group lo v a
unfolding from
group-first lo n v a b h e =
    filter-append (λ w. eqb (group_of lo w) v) a b
    ∙ ap (λ (s : List ℕ). group lo v a ++ s)
    (filter-agree (λ w. leb (lo + n) (home_of w)) (λ w. eqb (group_of lo w) v) (λ _. false) b e
    (λ w t. ne_eqb (group_of lo w) v (λ q. unfold group_of in omega (arith, leb-true (lo + n) (home_of w) t)))
    ∙ filter_none b)
    ∙ append-nil (group lo v a)

same_test : (a b c d : ℕ) → (a ≡ b → c ≡ d) → (c ≡ d → a ≡ b) → eqb a b ≡ eqb c d
same_test a b c d f g = go (eqb c d) refl
  where
    go : (t : Bool) → eqb c d ≡ t → eqb a b ≡ t
    go true e = eq-eqb a b (g (eqb-true c d e))
    go false e = ne_eqb a b (λ p. eqb-false c d e (f p))

-- .. and the later ones the second part's
group-second : (lo n v : ℕ) (a b : List ℕ) → groups_below lo n a ≡ true → from (lo + n) b ≡ true → group lo (n + v) (a ++ b) ≡ group (lo + n) v b
unfolding from
group-second lo n v a b ea eb =
    filter-append (λ w. eqb (group_of lo w) (n + v)) a b
    ∙ ap (λ (s : List ℕ). s ++ group lo (n + v) b)
    (filter-agree (λ w. ltb (group_of lo w) n) (λ w. eqb (group_of lo w) (n + v)) (λ _. false) a ea
    (λ w t. ne_eqb (group_of lo w) (n + v) (λ q. omega (arith, ltb-true (group_of lo w) n t)))
    ∙ filter_none a)
    ∙ filter-agree (λ w. leb (lo + n) (home_of w)) (λ w. eqb (group_of lo w) (n + v)) (λ w. eqb (group_of (lo + n) w) v) b eb
    (λ w t. same_test (group_of lo w) (n + v) (group_of (lo + n) w) v
    (λ p. unfold group_of in omega (arith, leb-true (lo + n) (home_of w) t))
    (λ p. unfold group_of in omega (arith, leb-true (lo + n) (home_of w) t)))

pub plans-blocks : (q : Parameters) (lo n m : ℕ) (w a b : List ℕ) → groups_below lo n a ≡ true → from (lo + n) b ≡ true
    → (plans q lo 0 (n + m) w (a ++ b) ≡ plans q lo 0 n w a ++ plans q (lo + n) 0 m (remains q lo 0 n w a) b)
    × (remains q lo 0 (n + m) w (a ++ b) ≡ remains q (lo + n) 0 m (remains q lo 0 n w a) b)
plans-blocks q lo n m w a b ea eb =
    let both = plans-add q lo 0 n m w (a ++ b) in
    let first = groups-alone q lo 0 lo 0 n w (a ++ b) a refl (λ i h. group-first lo n (0 + i) a b (omega arith) eb) in
    let second = groups-alone q lo (0 + n) (lo + n) 0 m (remains q lo 0 n w a) (a ++ b) b (omega arith)
    (λ i h. rw (zero-add n, zero-add i) (group-second lo n i a b ea eb)) in (
      both.0 ∙ ap (λ (cs : List Contents). cs ++ plans q lo (0 + n) m (remains q lo 0 n w (a ++ b)) (a ++ b)) first.0
          ∙ ap (λ (r : List ℕ). plans q lo 0 n w a ++ plans q lo (0 + n) m r (a ++ b)) first.1
          ∙ ap (λ (cs : List Contents). plans q lo 0 n w a ++ cs) second.0,
      both.1 ∙ ap (λ (r : List ℕ). remains q lo (0 + n) m r (a ++ b)) first.1 ∙ second.1,
    )

-- words in groups have the groups of the words
pub group-grouped : (lo v u n : ℕ) (l : List ℕ) → u ≤ v → v < u + n → group lo v (grouped lo u n l) ≡ group lo v l
unfolding grouped
group-grouped lo v u zero l a b = absurd (omega arith)
group-grouped lo v u (suc n) l a b =
    filter-append (λ w. eqb (group_of lo w) v) (group lo u l) (grouped lo (suc u) n l)
    ∙ go (eqb u v) refl (group-grouped lo v (suc u) n l)
  where
    later : group lo v (grouped lo (suc v) n l) ≡ []
    later =
        filter-agree (λ w. leb (suc v) (group_of lo w)) (λ w. eqb (group_of lo w) v) (λ _. false) (grouped lo (suc v) n l) (grouped-least lo (suc v) n l)
        (λ w t. ne_eqb (group_of lo w) v (λ q. omega (arith, leb-true (suc v) (group_of lo w) t)))
        ∙ filter_none (grouped lo (suc v) n l)

    other : (u ≡ v → ⊥) → group lo v (group lo u l) ≡ []
    other d =
        filter-agree (λ w. eqb (group_of lo w) u) (λ w. eqb (group_of lo w) v) (λ _. false) (group lo u l) (all-filtered (λ w. eqb (group_of lo w) u) l)
        (λ w t. ne_eqb (group_of lo w) v (λ q. d (omega (arith, eqb-true (group_of lo w) u t))))
        ∙ filter_none (group lo u l)

    go : (t : Bool) → eqb u v ≡ t → (suc u ≤ v → v < suc u + n → group lo v (grouped lo (suc u) n l) ≡ group lo v l)
        → group lo v (group lo u l) ++ group lo v (grouped lo (suc u) n l) ≡ group lo v l
    go true e ih =
        let same : u ≡ v = eqb-true u v e in
        rw (same, filter-all (λ w. eqb (group_of lo w) v) (group lo v l) (all-filtered (λ w. eqb (group_of lo w) v) l), later) (append-nil (group lo v l))
    go false e ih = let d : u ≡ v → ⊥ = eqb-false u v e in rw (other d) (ih (omega arith) (omega arith))

grouped-same : (lo v n : ℕ) (l l' : List ℕ) → ((i : ℕ) → i < n → group lo (v + i) l ≡ group lo (v + i) l') → grouped lo v n l ≡ grouped lo v n l'
unfolding grouped
grouped-same lo v zero l l' g = refl
grouped-same lo v (suc n) l l' g =
    let first : group lo v l ≡ group lo v l' = rw (add-zero v) at (g 0 (omega arith)) in
    let ih = grouped-same lo (suc v) n l l' (λ i h. rw (suc-add v i, ← add-suc v i) (g (suc i) (omega arith))) in
    rw (first, ih)

pub grouped-again : (lo m n : ℕ) (l : List ℕ) → m ≤ n → grouped lo 0 m (grouped lo 0 n l) ≡ grouped lo 0 m l
grouped-again lo m n l h = grouped-same lo 0 m (grouped lo 0 n l) l (λ i k. group-grouped lo (0 + i) 0 n l (omega arith) (omega arith))

pub plans-grouped : (q : Parameters) (lo n : ℕ) (w l : List ℕ)
    → (plans q lo 0 n w (grouped lo 0 n l) ≡ plans q lo 0 n w l) × (remains q lo 0 n w (grouped lo 0 n l) ≡ remains q lo 0 n w l)
plans-grouped q lo n w l =
    groups-alone q lo 0 lo 0 n w (grouped lo 0 n l) l refl (λ i h. group-grouped lo (0 + i) 0 n l (omega arith) (omega arith))
