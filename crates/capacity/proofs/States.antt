-- The state chosen, growth by growth.
use mathlib.Core.Path.{◌≡◌, refl, sym, ◌∙◌}
use mathlib.Core.Bool.{Bool, true, false, cond, true≢false}
use Prim.Native.Nat.{ℕ, zero, suc, ◌+◌, ◌-◌, ◌*◌, ◌≤◌, ◌<◌}
use native.Mathlib.Nat.{add-zero, zero-mod}
use native.Mathlib.Decide.{dec_lt}
use native.Mathlib.Omega.{arith}
use Rattle.hashing.specs.declared.Parameters.{Parameters}
use Rattle.hashing.specs.declared.Growth.{Growth}
use Rattle.hashing.specs.Geometry.{size_at, page_count, grown, ungrown}
use Rattle.hashing.specs.Limits.{valid_parameters, valid_growth}
use Rattle.hashing.proofs.Bounds.{limits}
use Rattle.hashing.proofs.Homes.{start-count, start-valid, grown-count, grown-valid}
use Rattle.calls.specs.Answers.{counted}
use Rattle.calls.specs.Due.{exceeds}
use Rattle.capacity.specs.State.{state_from, state_for_lem, choice_of, Suits, StateSuits}

pub start-pages : (p : Parameters) → page_count p ungrown ≡ p.width * p.groups
unfolding page_count size_at
start-pages p = rw (zero-mod p.width, start-count p, add-zero p.width, add-zero (p.width * p.groups))

-- growths left, with so many pages addressed
more : (m c : ℕ) → c < m → m - c ≡ suc (m - (c + 1))
more m c h = omega arith

pub state-here : (p : Parameters) (stars c : ℕ) (g : Growth) → c ≡ page_count p g → c < p.pages → exceeds p c stars ≡ false → state_from p stars g (p.pages - c) ≡ g
unfolding state_from
state-here p stars c g e h t = rw (more p.pages c h, ← e, t)

pub state-next :
    (p : Parameters) (stars c : ℕ) (g : Growth) → c ≡ page_count p g → c < p.pages → exceeds p c stars ≡ true →
    state_from p stars g (p.pages - c) ≡ state_from p stars (grown p g) (p.pages - (c + 1))
unfolding state_from
state-next p stars c g e h t = rw (more p.pages c h, ← e, t)

-- the loop has come to a state from which the one chosen is found
pub record Reached (p : Parameters) (stars : ℕ) (g : Growth) (pages : ℕ) : Type 0 where
  pub counted : pages ≡ page_count p g
  pub within : pages ≤ p.pages
  pub valid : valid_growth p g ≡ true
  pub leads : state_for_lem p stars ≡ state_from p stars g (p.pages - pages)

pub reached-all : {p : Parameters} {stars : ℕ} {g : Growth} {pages : ℕ} → Reached p stars g pages → p.pages ≤ pages → state_for_lem p stars ≡ g
unfolding state_from
reached-all {p} {stars} {g} {pages} r h =
    let none : p.pages - pages ≡ 0 = omega (arith, h) in
    rw none at r.leads

pub chosen-told :
    (p : Parameters) (stars pages : ℕ) (g : Growth) (t : Bool) → valid_parameters p ≡ true → g ≡ state_for_lem p stars → pages ≡ page_count p g →
    exceeds p pages stars ≡ t → choice_of p stars ≡ record { answer = counted t stars; growth = g }
unfolding choice_of
chosen-told p stars pages g t v e c d = rw (v, ← e, ← c, d)

module _ (p : Parameters) (stars : ℕ) (v : valid_parameters p ≡ true) where
  abbrev Passed : ℕ → Type 0
  Passed c = (count : ℕ) → page_count p ungrown ≤ count → count < c → exceeds p count stars ≡ true

  passed-one : (c : ℕ) → Passed c → exceeds p c stars ≡ true → Passed (c + 1)
  passed-one c h t count low high = go (dec_lt count c)
    where
      go : Dec (count < c) → exceeds p count stars ≡ true
      go (yes l) = h count low l
      go (no l) = let same : count ≡ c = omega arith in rw same t

  suits-from : (k : ℕ) (g : Growth) → valid_growth p g ≡ true → page_count p g + k ≡ p.pages → Passed (page_count p g) → Suits p stars (state_from p stars g k)
  unfolding state_from
  suits-from zero g w e h = record { valid = w; least = h; last = λ _. sym (add-zero (page_count p g)) ∙ e }
  suits-from (suc k) g w e h = go (exceeds p (page_count p g) stars) refl (suits-from k (grown p g))
    where
      more-pages : page_count p (grown p g) ≡ page_count p g + 1
      more-pages = grown-count p g v

      go :
          (t : Bool) → exceeds p (page_count p g) stars ≡ t →
          (valid_growth p (grown p g) ≡ true → page_count p (grown p g) + k ≡ p.pages → Passed (page_count p (grown p g)) → Suits p stars (state_from p stars (grown p g) k)) →
          Suits p stars (cond t (state_from p stars (grown p g) k) g)
      go true t further =
          further (grown-valid p g v w (omega (arith, e))) (omega (arith, e, more-pages))
          (rw more-pages (passed-one (page_count p g) h t))
      go false t further = record { valid = w; least = h; last = λ d. absurd (true≢false (sym d ∙ t)) }

pub state-suits : StateSuits
unfolding state_for_lem
state-suits p stars v =
    suits-from p stars v (p.pages - p.width * p.groups) ungrown (start-valid p v)
    (rw (start-pages p) (omega (arith, (limits p v).pages_least)))
    (λ count low high. absurd (omega (arith, low, high)))
