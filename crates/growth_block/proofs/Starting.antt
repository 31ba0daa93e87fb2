-- Where a page's block starts and ends: its first page is sought downwards.
use mathlib.Core.Path.{◌≡◌, refl, ◌∙◌, ap}
use mathlib.Core.Bool.{Bool, true, false, cond}
use mathlib.Core.List.{List}
use Prim.Native.Nat.{ℕ, suc, ◌+◌, ◌-◌, ◌≤◌, ◌<◌}
use native.Mathlib.Decide.{dec_lt}
use native.Mathlib.Omega.{arith}
use lib.Dec.{ltb}
use lib.ListN.{length, get_or}
use borrow.Author.Tests.{ltb-true, ltb-false, eqb-true}
use Rattle.generator.specs.Generator.{top_of_lem}
use Rattle.hashing.specs.declared.Parameters.{Parameters}
use Rattle.reach.specs.Reach.{first_such, stored_top}
use Rattle.reach.proofs.Search.{Such, such}
use Rattle.growth_block.specs.Block.{StartsBlock, BlockAt}

-- the search stands at page lo, and no page from there up to `page` has the separator `top`
abbrev pub Seeking : List ℕ → ℕ → ℕ → ℕ → Type 0
Seeking stored top page lo = (lo ≤ page) × ((q : ℕ) → lo ≤ q → q < page → get_or stored q 0 ≡ top → ⊥)

module _ (stored : List ℕ) (top page lo : ℕ) (s : Seeking stored top page lo) where
  pub seeking_next : 0 < lo → (get_or stored (lo - 1) 0 ≡ top → ⊥) → Seeking stored top page (lo - 1)
  seeking_next h e = (omega (arith, s.0), λ q a b d. go (dec_lt q lo) a b d)
    where
      go : {q : ℕ} → Dec (q < lo) → lo - 1 ≤ q → q < page → get_or stored q 0 ≡ top → ⊥
      go {q} (yes k) a b d =
          let at : lo - 1 ≡ q = omega arith in
          e (ap (λ (i : ℕ). get_or stored i 0) at ∙ d)
      go {q} (no k) a b d = s.1 q (omega arith) b d

  pub seeking_found : 0 < lo → get_or stored (lo - 1) 0 ≡ top → StartsBlock stored top page lo
  seeking_found h e =
      record {
        low = s.0;
        starts =
            λ d k.
            let at : d ≡ lo - 1 = omega arith in
            ap (λ (i : ℕ). get_or stored i 0) at ∙ e;
        within = s.1;
      }

  pub seeking_none : lo ≤ 0 → StartsBlock stored top page lo
  seeking_none h = record { low = s.0; starts = λ d k. absurd (omega arith); within = s.1 }

pub ends-inside : (stored : List ℕ) (top step last : ℕ) → step < length stored → last ≡ first_such (stored_top stored top) step (length stored - 1 - step) → last < length stored
ends-inside stored top step last h e = omega (arith, e, (such (stored_top stored top) step (length stored - 1 - step)).high)

-- the pages that the code plans page `step` with
pub block_at : (p : Parameters) (stored : List ℕ) (step top lo last stop : ℕ) → length stored ≡ p.pages → step + 1 < p.pages → top ≡ top_of_lem p.bits
    → StartsBlock stored top step lo → last ≡ first_such (stored_top stored top) step (length stored - 1 - step)
    → stop ≡ cond (ltb (last + 1) p.pages) (last + 1) last → BlockAt p stored step lo last stop
block_at p stored step top lo last stop size inner is first el es = go (ltb (last + 1) p.pages) refl es
  where
    found : Such (stored_top stored top) step (length stored - 1 - step) last
    found = rw el (such (stored_top stored top) step (length stored - 1 - step))

    ends : suc last < p.pages → get_or stored last 0 ≡ top_of_lem p.bits
    ends h = eqb-true (get_or stored last 0) top (found.passes (omega arith)) ∙ is

    go : (t : Bool) → ltb (last + 1) p.pages ≡ t → stop ≡ cond t (last + 1) last → BlockAt p stored step lo last stop
    go true e d =
        record {
          starts = rw (← is) first;
          high = found.low;
          past = omega (arith, found.low);
          reached = omega arith;
          inside = omega (arith, ltb-true (last + 1) p.pages e);
          ends = ends;
        }
    go false e d =
        let most = ltb-false (last + 1) p.pages e in
        record {
          starts = rw (← is) first;
          high = found.low;
          past = omega arith;
          reached = omega arith;
          inside = omega (arith, found.high, found.low);
          ends = ends;
        }
