-- `named_page::find_kept` meets its contract.
use mathlib.Core.Path.{◌≡◌, refl, sym, ◌∙◌}
use mathlib.Core.Bool.{true, false≢true}
use Prim.Native.Nat.{ℕ, ◌+◌, ◌*◌, ◌≤◌}
use native.Mathlib.Omega.{arith}
use borrow.Author.Rules.{rules}
use borrow.Author.Tests.{not-true, not-false}
use Rattle.hashing.proofs.Bounds.{limits}
use Rattle.pages.proofs.Parts.{page-fits}
use Rattle.calls.proofs.Refusals.{items-most}
use Rattle.named_page.proofs.Found.{named-inside, named-known}
use Rattle.named_page.proofs.finding.find_kept.Lts as lts
use Rattle.named_page.proofs.finding.find_kept.Tie as tie
use Rattle.named_page.proofs.finding.find_kept.Reads as reads
use Rattle.named_page.proofs.finding.find_kept.Goals as goal
use Rattle.named_page.proofs.finding.find_kept.Goals.{Start}

abbrev Else-not-named : Type 0
Else-not-named = lts.Else1 tie.the-claims reads.Pre reads.Post tie.handed_clauses

pub home-home-requires : goal.home-home-requires
home-home-requires c = let ready = c.requires.ready.homing in record {
  table_value = ready.table;
  parameters_value = ready.valid;
  growth_value = ready.growth;
}

pub find-named-requires : goal.find-named-requires
find-named-requires c =
    let pre = c.requires in
    record {
      ready = pre.ready;
      number_value = pre.number_value;
      home_value = c.home-home.ensures;
      homes_len = refl;
    }

pub returns-then-not-named : goal.returns-then-not-named
returns-then-not-named c = record {
  named_as = c.find-named.ensures.named_as;
  known = λ e. absurd (false≢true (sym (not-true _ c.if-not-named.true) ∙ e));
}

-- past the test, the page is readable
abbrev start : Else-not-named → Start
start c = c.before.before.before.before.before.before.before.before.before.before

opened : (c : Else-not-named) → c.find-named.result.readable ≡ true
opened c = (not-false _ c.if-not-named.false)

-- its items lie within the pool
inside : (c : Else-not-named) {n : ℕ} → n ≡ (start c).args.geometry.parameters.pages * (start c).args.geometry.parameters.places
    → c.find-named.result.page * (start c).args.geometry.parameters.places + (start c).args.geometry.parameters.places ≤ n
inside c e = page-fits _ _ _ (named-inside _ _ _ _ _ c.find-named.ensures.named_as (opened c)) e

pub overflow_mul-page : goal.overflow_mul-page
overflow_mul-page c =
    let e = c.before.before.before in
    omega (arith, inside e (start e).requires.pool_len, items-most _ (start e).requires.ready.homing.valid, (start e).requires.pool_len)

pub slice_bounds-copy-end : goal.slice_bounds-copy-end
slice_bounds-copy-end c = sym c.find-named.ensures.homed_as.long

pub copy-requires : goal.copy-requires
copy-requires c =
    let e = c.before.before.before.before in
    record {
      in_bounds = inside e (start e).requires.pool_len;
      in_bounds_2 = omega (arith, (limits _ (start e).requires.ready.homing.valid).places_most, e.find-named.ensures.homed_as.long);
    }

pub returns : goal.returns
returns c =
    let e = c.before.before.before.before.before.before.before in
    let s = start e in
    let found = e.find-named.ensures in
    record {
      named_as = found.named_as;
      known = λ t. named-known _ _ _ _ _ found.named_as (opened e) _ _ _ found.homed_as s.requires.ready.sized s.requires.pool_len c.copy.ensures;
    }
