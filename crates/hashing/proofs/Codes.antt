-- The laws of the two passes to a home.
use mathlib.Core.Path.{◌≡◌, ◌∙◌, refl, sym, ap, subst⁻¹}
use mathlib.Core.Bool.{Bool, true, false, cond}
use mathlib.Core.List.{List, [], ◌∷◌, ◌++◌, append-nil}
use mathlib.Core.Logic.{◌⊎◌, inl, inr}
use Prim.Native.Nat.{ℕ, zero, suc, ◌+◌, ◌-◌, ◌*◌, ◌/◌, ◌%◌, ◌^◌, ◌≤◌, ◌<◌}
use native.Mathlib.Nat.{le_trans, zero-div, zero-mod, mul_assoc, mul_comm, le_refl, div-le_self, mul-one, mod-lt, mul-le-mul, mul-le-mul_left, div-add-mod', div-lt_iff_lt-mul}
use native.Mathlib.Numerals.{add-one}
use native.Mathlib.Omega.{arith}
use lib.ListN.{length, get_or, take, drop, set}
use lib.Seq.{drop-cons, drop-length, take-suc-set, take-set-le}
use lib.Pow.{pow-add, pow_pos}
use lib.Arith.{digits_div, digits_mod, mod-mul}
use Rattle.hashing.specs.declared.Parameters.{Parameters}
use Rattle.hashing.specs.declared.Growth.{Growth}
use Rattle.hashing.specs.declared.moves.Landing.{Landing}
use Rattle.generator.specs.Generator.{modulus}
use Rattle.generator.proofs.Scrambling.{scrambled-key}
use Rattle.hashing.specs.Geometry.{size_at, count_at_lem, rank}
use Rattle.hashing.specs.Home.{rank_at, chosen, moved_if, step_from, after_steps, home}
use Rattle.hashing.specs.Moves.{code_at, moves, code_count, code_page, moved_to, followed, landing, Narrow, Landed, NarrowRising}
use Rattle.generator.proofs.Numbers.{next, Next, div_mono}
use Rattle.hashing.proofs.Bounds.{Limits, Within, size-most}
use Rattle.hashing.proofs.Homes.{step-over, steps_one, rank_below, span-most, count_fits}

-- only the remainder of a number mod m counts

pub chosen-key : (a : ℕ) (p : Parameters) (k i : ℕ) → chosen a p (k % modulus) i ≡ chosen a p k i
unfolding chosen
chosen-key a p k i = rw (scrambled-key a (2 * suc i) k)

steps_key : (a : ℕ) (p : Parameters) (g : Growth) (k i : ℕ) → after_steps a p g (k % modulus) i ≡ after_steps a p g k i
unfolding after_steps step_from
steps_key a p g k zero = rw (scrambled-key a 1 k)
steps_key a p g k (suc i) = rw (steps_key a p g k i, chosen-key a p k i)

pub home-key : (a : ℕ) (p : Parameters) (g : Growth) (k : ℕ) → home a p g (k % modulus) ≡ home a p g k
unfolding home
home-key a p g k = steps_key a p g k (g.expansions + 1)

-- codes

pub code_size : (p : Parameters) (i : ℕ) → Limits p → code_at p i % 8 ≡ size_at p i
unfolding code_at
code_size p i l = digits_mod (i / p.width) {m = 8} {r = size_at p i} (omega (arith, size-most p i l))

pub code_level : (p : Parameters) (i : ℕ) → Limits p → code_at p i / 8 ≡ i / p.width
unfolding code_at
code_level p i l = digits_div (i / p.width) {m = 8} {r = size_at p i} (omega (arith, size-most p i l))

pub code_count_lem : (p : Parameters) (i : ℕ) → Limits p → code_count p (code_at p i) ≡ count_at_lem p i
unfolding code_count count_at_lem
code_count_lem p i l = rw (code_level p i l)

pub code_start : (p : Parameters) → code_at p 0 ≡ p.width
unfolding code_at size_at
code_start p = rw (zero-div p.width, zero-mod p.width) (omega arith)

-- the next step: the group grows by a page, or the groups double and the size starts again
pub code_next :
    (p : Parameters) (i : ℕ) → Limits p →
    ((code_at p i % 8 + 1 < 2 * p.width) × (code_at p (suc i) ≡ code_at p i + 1)) ⊎ ((code_at p i % 8 + 1 ≡ 2 * p.width) × (code_at p (suc i) + p.width ≡ code_at p i + 9))
unfolding size_at code_at
code_next p i l = rw (code_size p i l) (go (next p.width i l.width_least))
  where
    go :
        Next p.width i →
        ((p.width + i % p.width + 1 < 2 * p.width) × (suc i / p.width * 8 + (p.width + suc i % p.width) ≡ i / p.width * 8 + (p.width + i % p.width) + 1)) ⊎ ((p.width + i % p.width + 1 ≡ 2 * p.width) × (suc i / p.width * 8 + (p.width + suc i % p.width) + p.width ≡ i / p.width * 8 + (p.width + i % p.width) + 9))
    go (inl (t, m, d)) = inl (omega arith, rw (m, d) (omega arith))
    go (inr (t, m, d)) = inr (omega arith, rw (m, d) (omega arith))

pub code_most : (p : Parameters) (i : ℕ) → Limits p → i ≤ 33 → code_at p i ≤ 271
unfolding code_at
code_most p i l h = omega (arith, size-most p i l, div-le_self i p.width)

pub code_narrow : (p : Parameters) (g : Growth) (i : ℕ) → Limits p → Within p g → i ≤ g.expansions → Narrow p (code_at p i)
code_narrow p g i l w h =
    rw (code_count_lem p i l, code_size p i l)
    (omega (arith, count_fits p g i l w h, l.pages_most), omega (arith, span-most p g i l w h, l.pages_most))

moved-code : (p : Parameters) (i page : ℕ) → Limits p → moved_to p page (code_at p i) ≡ moved_if p i page true
unfolding moved_to code_page rank_at
moved-code p i page l = rw (code_count_lem p i l, code_size p i l)

-- one more step: its code is stored, and counted if the step chooses the number

pub moves-taken :
    (a : ℕ) (p : Parameters) (k i n : ℕ) (l : List ℕ) → chosen a p k i ≡ true → n < length l → take n l ≡ moves a p k i →
    take (n + 1) (set l n (code_at p i)) ≡ moves a p k (i + 1)
unfolding moves
moves-taken a p k i n l e h s = rw (add-one i, add-one n, take-suc-set l n (code_at p i) h, e, s)

pub moves-passed :
    (a : ℕ) (p : Parameters) (k i n : ℕ) (l : List ℕ) → chosen a p k i ≡ false → take n l ≡ moves a p k i →
    take n (set l n (code_at p i)) ≡ moves a p k (i + 1)
unfolding moves
moves-passed a p k i n l e s = rw (add-one i, take-set-le n l n (code_at p i) (le_refl n), e, s, append-nil (moves a p k i))

-- following

followed-append : (p : Parameters) (page : ℕ) (cs ds : List ℕ) → followed p page (cs ++ ds) ≡ followed p (followed p page cs) ds
unfolding followed
followed-append p page [] ds = refl
followed-append p page (c ∷ cs) ds = followed-append p (moved_to p page c) cs ds

pub moves-followed :
    (a : ℕ) (p : Parameters) (g : Growth) (k i : ℕ) → Limits p → i ≤ g.expansions →
    followed p (after_steps a p g k 0) (moves a p k i) ≡ after_steps a p g k i
unfolding moves followed after_steps
moves-followed a p g k zero l h = refl
moves-followed a p g k (suc i) l h =
    rw (
      followed-append p (after_steps a p g k 0) (moves a p k i) (cond (chosen a p k i) (code_at p i ∷ []) []),
      moves-followed a p g k i l (omega arith),
      step-over a p g k i (after_steps a p g k i) h,
    )
    (go (chosen a p k i))
  where
    go : (t : Bool) → followed p (after_steps a p g k i) (cond t (code_at p i ∷ []) []) ≡ moved_if p i (after_steps a p g k i) t
    go true = moved-code p i (after_steps a p g k i) l
    go false = refl

rising-more : (p : Parameters) (low high higher : ℕ) (cs : List ℕ) → NarrowRising p low cs high → high ≤ higher → NarrowRising p low cs higher
rising-more p low high higher [] h l = le_trans h l
rising-more p low high higher (c ∷ cs) h l = (h.0, rising-more p (c / 8) high higher cs h.1 l)

rising-one : (p : Parameters) (low high c : ℕ) (cs : List ℕ) → NarrowRising p low cs high → high ≤ c / 8 → Narrow p c → NarrowRising p low (cs ++ (c ∷ [])) (c / 8)
rising-one p low high c [] h l n = ((le_trans h l, n), le_refl (c / 8))
rising-one p low high c (d ∷ cs) h l n = (h.0, rising-one p (d / 8) high c cs h.1 l n)

pub moves-rising :
    (a : ℕ) (p : Parameters) (g : Growth) (k i : ℕ) → Limits p → Within p g → i ≤ g.expansions → NarrowRising p 0 (moves a p k i) (i / p.width)
unfolding moves
moves-rising a p g k zero l w h = omega arith
moves-rising a p g k (suc i) l w h = go (chosen a p k i) (moves-rising a p g k i l w (omega arith))
  where
    up : i / p.width ≤ suc i / p.width
    up = div_mono p.width (omega arith)

    go : (t : Bool) → NarrowRising p 0 (moves a p k i) (i / p.width) → NarrowRising p 0 (moves a p k i ++ cond t (code_at p i ∷ []) []) (suc i / p.width)
    go true r =
        rising-more p 0 (code_at p i / 8) (suc i / p.width) (moves a p k i ++ (code_at p i ∷ []))
        (rising-one p 0 (i / p.width) (code_at p i) (moves a p k i) r (rw (code_level p i l) (le_refl (i / p.width))) (code_narrow p g i l w (omega arith)))
        (rw (code_level p i l) up)
    go false r = rw (append-nil (moves a p k i)) (rising-more p 0 (i / p.width) (suc i / p.width) (moves a p k i) r up)

-- a page's group after more doublings keeps its order and the low bits of the group size
pub regroup :
    (p : Parameters) (code order level : ℕ) → order < code_count p code → code / 8 ≤ level →
    code % 8 % 2 ^ (level - code / 8) * code_count p code + order ≡ code_page p code order % (p.groups * 2 ^ level)
unfolding code_page code_count
regroup p code order level h l =
    rw (
      wider,
      mod-mul (code % 8 * code_count p code + order) {m = 2 ^ (level - code / 8)} {c = code_count p code} (pow_pos (level - code / 8)) (omega arith),
      digits_div (code % 8) h,
      digits_mod (code % 8) h,
    )
  where
    wider : p.groups * 2 ^ level ≡ 2 ^ (level - code / 8) * code_count p code
    wider =
        let b = code / 8 in
        let parts : level ≡ b + (level - b) = omega arith in
        ap (λ (n : ℕ). p.groups * 2 ^ n) parts
        ∙ ap (λ (n : ℕ). p.groups * n) (pow-add 2 b (level - b))
        ∙ sym (mul_assoc p.groups (2 ^ b) (2 ^ (level - b)))
        ∙ mul_comm (p.groups * 2 ^ b) (2 ^ (level - b))

pub count-of_least : (p : Parameters) (code : ℕ) → Limits p → 1 ≤ code_count p code
unfolding code_count
count-of_least p code l = mul-le-mul {n₁ = 1} {m₁ = 1} l.groups_least (pow_pos (code / 8))

pub count-of_step : (p : Parameters) (code : ℕ) → Limits p → p.step ≤ code_count p code
unfolding code_count
count-of_step p code l = omega (arith, mul-le-mul_left p.groups (pow_pos (code / 8)), mul-one p.groups, l.step_most)

pub order_below : (p : Parameters) (code page : ℕ) → Limits p → rank p.step (code_count p code) (page % code_count p code) < code_count p code
order_below p code page l =
    rank_below p.step (code_count p code) (page % code_count p code)
    (mod-lt page {m = code_count p code} (count-of_least p code l))
    l.step_least
    (count-of_step p code l)

-- landings

pub landing-page :
    (p : Parameters) (code order : ℕ) (codes : List ℕ) →
    code_page p (landing p code order codes).code (landing p code order codes).order ≡ followed p (code_page p code order) codes
unfolding landing followed moved_to
landing-page p code order [] = refl
landing-page p code order (c ∷ cs) = landing-page p c (rank p.step (code_count p c) (code_page p code order % code_count p c)) cs

pub landing-landed :
    (p : Parameters) (code order high : ℕ) (codes : List ℕ) → Limits p → Landed p code order → NarrowRising p (code / 8) codes high →
    Landed p (landing p code order codes).code (landing p code order codes).order × ((landing p code order codes).code / 8 ≤ high)
unfolding landing
landing-landed p code order high [] l h r = (h, r)
landing-landed p code order high (c ∷ cs) l h r =
    landing-landed p c (rank p.step (code_count p c) (code_page p code order % code_count p c)) high cs l (order_below p c (code_page p code order) l, r.0.1) r.1

-- a page of the new file, by its group and the groups before it
pub record Started (p : Parameters) (start : ℕ) : Type 0 where
  pub level : start / p.groups / 8 ≡ 0
  pub landed : Landed p (start / p.groups) (start % p.groups)
  pub same : code_page p (start / p.groups) (start % p.groups) ≡ start

pub started : (p : Parameters) (start : ℕ) → Limits p → start < p.width * p.groups → Started p start
unfolding code_page code_count
started p start l h =
    record {
      level = level;
      landed = rw (level, size, mul-one p.groups) (mod-lt start {m = p.groups} l.groups_least, (omega (arith, l.groups_most), omega (arith, whole, l.pages_least, l.pages_most)));
      same = rw (level, size, mul-one p.groups, whole);
    }
  where
    small : start / p.groups < p.width
    small = (div-lt_iff_lt-mul {k = p.groups} {x = start} {y = p.width} l.groups_least).1 h

    level : start / p.groups / 8 ≡ 0
    level = omega (arith, small, l.width_most)

    size : start / p.groups % 8 ≡ start / p.groups
    size = omega (arith, small, l.width_most)

    whole : start / p.groups * p.groups + start % p.groups ≡ start
    whole = div-add-mod' start p.groups

-- the page with that code and order is reached after j steps: the others lead from it to the same end
pub record Reached (p : Parameters) (ending : Landing) (codes : List ℕ) (code order j : ℕ) : Type 0 where
  pub landed : Landed p code order
  pub rising : NarrowRising p (code / 8) (drop j codes) 10
  pub same : landing p code order (drop j codes) ≡ ending

pub reached-start :
    (p : Parameters) (start : ℕ) (codes : List ℕ) → Limits p → start < p.width * p.groups → NarrowRising p 0 codes 10 →
    Reached p (landing p (start / p.groups) (start % p.groups) codes) codes (start / p.groups) (start % p.groups) 0
reached-start p start codes l h r =
    let s = started p start l h in
    record { landed = s.landed; rising = rw s.level r; same = refl }

pub reached-next :
    (p : Parameters) (ending : Landing) (codes : List ℕ) (code order j : ℕ) → Limits p → j < length codes → Reached p ending codes code order j →
    Reached p ending codes (get_or codes j 0) (rank p.step (code_count p (get_or codes j 0)) (code_page p code order % code_count p (get_or codes j 0))) (suc j)
unfolding landing
reached-next p ending codes code order j l h w =
    let opened : NarrowRising p (code / 8) (get_or codes j 0 ∷ drop (suc j) codes) 10 = rw (drop-cons codes j 0 h) at w.rising in
    record {
      landed = (order_below p (get_or codes j 0) (code_page p code order) l, opened.0.1);
      rising = opened.1;
      same = rw (drop-cons codes j 0 h) at w.same;
    }

pub reached-end :
    (p : Parameters) (ending : Landing) (codes : List ℕ) (code order j : ℕ) → j ≡ length codes → Reached p ending codes code order j →
    record { code = code; order = order } ≡ ending
unfolding landing
reached-end p ending codes code order j e w = rw (e, drop-length codes) at w.same

-- the two passes together

-- what the two passes hand to the last step
pub record Passed (a : ℕ) (p : Parameters) (g : Growth) (k : ℕ) (ending : Landing) : Type 0 where
  pub landed : Landed p ending.code ending.order
  pub level : ending.code / 8 ≤ code_at p g.expansions / 8
  pub same : home a p g k ≡ step_from a p g k g.expansions (code_page p ending.code ending.order)

pub chosen-rising :
    (a : ℕ) (p : Parameters) (g : Growth) (k high : ℕ) (codes : List ℕ) → Limits p → Within p g → g.expansions / p.width ≤ high →
    codes ≡ moves a p k g.expansions → NarrowRising p 0 codes high
chosen-rising a p g k high codes l w h e =
    subst⁻¹ (λ (cs : List ℕ). NarrowRising p 0 cs high) e
    (rising-more p 0 (g.expansions / p.width) high (moves a p k g.expansions) (moves-rising a p g k g.expansions l w (le_refl g.expansions)) h)

pub passed :
    (a : ℕ) (p : Parameters) (g : Growth) (k start : ℕ) (codes : List ℕ) (ending : Landing) → Limits p → Within p g → start < p.width * p.groups →
    start ≡ after_steps a p g k 0 → codes ≡ moves a p k g.expansions → ending ≡ landing p (start / p.groups) (start % p.groups) codes →
    Passed a p g k ending
unfolding home
passed a p g k start codes ending l w h s m e = subst⁻¹ (λ (r : Landing). Passed a p g k r) e found
  where
    first : Started p start
    first = started p start l h

    rising : NarrowRising p (start / p.groups / 8) codes (g.expansions / p.width)
    rising = rw first.level (chosen-rising a p g k (g.expansions / p.width) codes l w (le_refl (g.expansions / p.width)) m)

    near :
        Landed p (landing p (start / p.groups) (start % p.groups) codes).code (landing p (start / p.groups) (start % p.groups) codes).order × ((landing p (start / p.groups) (start % p.groups) codes).code / 8 ≤ g.expansions / p.width)
    near = landing-landed p (start / p.groups) (start % p.groups) (g.expansions / p.width) codes l first.landed rising

    found : Passed a p g k (landing p (start / p.groups) (start % p.groups) codes)
    found =
        record {
          landed = near.0;
          level = rw (code_level p g.expansions l) near.1;
          same =
              rw (
                landing-page p (start / p.groups) (start % p.groups) codes,
                first.same,
                m,
                s,
                moves-followed a p g k g.expansions l (le_refl g.expansions),
                steps_one a p g k g.expansions,
              );
        }
