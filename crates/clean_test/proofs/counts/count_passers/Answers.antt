-- Of a page whose stars are all at home none passed another page; of others those are counted one by one that stand above their home.
use mathlib.Core.Path.{refl, sym, ◌∙◌}
use mathlib.Core.Bool.{true≢false, false≢true}
use Prim.Native.Nat.{ℕ, ◌+◌, ◌*◌, ◌≤◌, ◌<◌}
use native.Mathlib.Nat.{suc-mul, mul-le-mul_right}
use native.Mathlib.Omega.{arith}
use lib.ListN.{length}
use Rattle.hashing.proofs.Bounds.{limits}
use Rattle.placement.specs.Hash.{hash_of}
use Rattle.calls.proofs.Refusals.{items-most}
use Rattle.clean_test.specs.Raising.{hash_under, Added, passed_on_lem}
use Rattle.clean_test.proofs.Counters.{home-item, places-still}
use Rattle.clean_test.proofs.counts.count_passers.Lts as lts
use Rattle.clean_test.proofs.counts.count_passers.Tie as tie
use Rattle.clean_test.proofs.counts.count_passers.Reads as reads
use Rattle.clean_test.proofs.counts.count_passers.Goals as goal
use Rattle.clean_test.proofs.counts.count_passers.Goals.{Start}

abbrev After-struct_known-1 : Type 0
After-struct_known-1 = lts.After-struct_known tie.the-claims reads.Pre reads.Post tie.handed_clauses

abbrev Then-count_below-eq0 : Type 0
Then-count_below-eq0 = lts.Then1 tie.the-claims reads.Pre reads.Post tie.handed_clauses

low-page : (s : Start) → s.args.page < 1024
low-page s = omega (arith, s.requires.homed.high, (limits s.args.geometry.parameters s.requires.signers.valid).pages_most)

-- where the page ends
last : (s : Start) →
    let p = s.args.geometry.parameters in
    s.args.page * p.places + p.places ≤ p.pages * p.places
last s =
    let p = s.args.geometry.parameters in
    omega (arith, mul-le-mul_right p.places s.requires.homed.high, suc-mul s.args.page p.places)

few : (s : Start) → s.args.page * s.args.geometry.parameters.places + s.args.geometry.parameters.places ≤ 32768
few s = omega (arith, last s, items-most s.args.geometry.parameters s.requires.signers.valid)

inside : (s : Start) →
    let e = s.args.page * s.args.geometry.parameters.places + s.args.geometry.parameters.places in
    (e ≤ length s.args.numbers.now) × (e ≤ length s.args.homes.now)
inside s = (omega (arith, last s, s.requires.homed.numbers), omega (arith, last s, s.requires.homed.homes))

abbrev start : After-struct_known-1 → Start
start c = c.before.before.before.before.before

pub overflow_mul-first : goal.overflow_mul-first
overflow_mul-first c = omega (arith, few c.before.before.before.before.before.before)

pub overflow_add-first : goal.overflow_add-first
overflow_add-first c = omega (arith, few (start c.before))

pub count_below-requires : goal.count_below-requires
count_below-requires c = record {
  first_le_last = (omega arith, inside (start c.before));
  last_bound = few (start c.before);
}

-- all stars are at home
unmoved : (c : Then-count_below-eq0) →
    let a = (start c.before.before).args in
    Added a.from (λ (p : ℕ). passed_on_lem (hash_under a.geometry) a.separators.now a.numbers.now p a.page) a.counts.now a.counts.now
unfolding hash_of
unmoved c =
    let s = start c.before.before in
    let a = s.args in
    let first = a.page * a.geometry.parameters.places in
    places-still _ _ _ _ _ _ s.requires.counts.0 (inside s).0
    (λ i h star.
    omega (
      arith,
      c.count_below.ensures c.if-count_below-eq0.true (first + i) (omega arith) (omega arith) star,
      home-item a.geometry a.separators.now a.numbers.now a.homes.now a.page s.requires.homed i h star,
    ))

pub returns-then-count_below-eq0 : goal.returns-then-count_below-eq0
returns-then-count_below-eq0 c = record {
  adds_counts = λ _. unmoved c.before;
  counts_unchanged = λ e. absurd (true≢false e);
  value = λ _. refl;
}

pub signs_page-requires : goal.signs_page-requires
signs_page-requires c =
    let s = start c.before.before.before in
    record {
      entries_nonzero = (omega (arith, s.requires.signers.long), (low-page s, (limits s.args.geometry.parameters s.requires.signers.valid).places_most));
      places_in_bounds = inside s;
    }

pub returns-then-not-signs_page : goal.returns-then-not-signs_page
returns-then-not-signs_page c = record {
  adds_counts = λ e. absurd (false≢true e);
  counts_unchanged = λ _. refl;
  value = λ h. sym c.if-not-signs_page.true ∙ c.signs_page.ensures.value h;
}

pub count_off_home-requires : goal.count_off_home-requires
count_off_home-requires c =
    let s = start c.before.before.before.before.before.before in record {
      signers = s.requires.signers;
      homed = s.requires.homed;
      counts = (s.requires.counts.0, λ p o k. omega (arith, s.requires.counts.1 p o k));
      signable_passed = c.signs_page.ensures.signable_passed c.if-not-signs_page.false;
    }

pub returns : goal.returns
returns c = record {
  adds_counts = λ _. c.count_off_home.ensures;
  counts_unchanged = λ e. absurd (true≢false e);
  value = λ _. refl;
}
