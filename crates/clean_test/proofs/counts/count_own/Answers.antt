-- The count of a page with the greatest separator is left as it is.
use mathlib.Core.Path.{◌≡◌}
use Prim.Native.Nat.{suc, ◌+◌, ◌*◌, ◌≤◌, ◌<◌}
use native.Mathlib.Nat.{suc-mul, mul-le-mul_right}
use native.Mathlib.Omega.{arith}
use lib.ListN.{drop}
use Rattle.hashing.proofs.Bounds.{limits}
use Rattle.pages.specs.Page.{part}
use Rattle.placement.specs.Hash.{hash_of}
use Rattle.calls.proofs.Refusals.{items-most}
use Rattle.clean_test.specs.Raising.{hash_under, star_number, stars_among}
use Rattle.clean_test.proofs.Counters.{taken-most, own-counted, own-left}
use Rattle.clean_test.proofs.counts.count_own.Lts as lts
use Rattle.clean_test.proofs.counts.count_own.Tie as tie
use Rattle.clean_test.proofs.counts.count_own.Reads as reads
use Rattle.clean_test.proofs.counts.count_own.Goals as goal
use Rattle.clean_test.proofs.counts.count_own.Goals.{Start}

abbrev After-struct_known-1 : Type 0
After-struct_known-1 = lts.After-struct_known tie.the-claims reads.Pre reads.Post tie.handed_clauses

abbrev After-count_stars-stars : Type 0
After-count_stars-stars = lts.After-count_stars tie.the-claims reads.Pre reads.Post tie.handed_clauses

low-page : (s : Start) → s.args.page < 1024
low-page s = omega (arith, s.requires.page_lt_pages.0, (limits s.args.geometry.parameters s.requires.parameters_value).pages_most)

-- where the page ends
last : (s : Start) →
    let p = s.args.geometry.parameters in
    s.args.page * p.places + p.places ≤ p.pages * p.places
last s =
    let p = s.args.geometry.parameters in
    omega (arith, mul-le-mul_right {m = suc s.args.page} {n = p.pages} p.places (omega (arith, s.requires.page_lt_pages.0)), suc-mul s.args.page p.places)

pub returns-then-top_of-separators : goal.returns-then-top_of-separators
unfolding hash_of
returns-then-top_of-separators c =
    let s = c.before.before.before.before.before.before.before in
    own-left (hash_under s.args.geometry) _ _ _ _ s.requires.counts_len.0 (rw c.top_of.ensures at c.if-top_of-separators.true)

abbrev start : After-struct_known-1 → Start
start c = c.before.before.before.before.before.before.before

pub overflow_mul-page : goal.overflow_mul-page
overflow_mul-page c =
    let s = start c.before in
    omega (arith, last s, items-most s.args.geometry.parameters s.requires.parameters_value)

pub count_stars-stars-requires : goal.count_stars-stars-requires
count_stars-stars-requires c =
    let s = start c.before in
    (omega (arith, last s, s.requires.numbers_len), (limits s.args.geometry.parameters s.requires.parameters_value).places_most)

pub bounds-counts-page : goal.bounds-counts-page
bounds-counts-page c = low-page (start c.before.before.before)

pub overflow_add-counts : goal.overflow_add-counts
overflow_add-counts c =
    let k = c.before.before.before in
    let s = start k.before in
    let a = s.args in
    omega (
      arith,
      s.requires.counts_len.1,
      k.count_stars-stars.ensures,
      taken-most star_number (drop (a.page * a.geometry.parameters.places) a.numbers.now) a.geometry.parameters.places,
      (limits a.geometry.parameters s.requires.parameters_value).places_most,
    )

pub bounds-counts-page-2 : goal.bounds-counts-page-2
bounds-counts-page-2 c = low-page (start c.before.before.before.before)

counted : (c : After-count_stars-stars) →
    let a = (start c.before).args in
    c.count_stars-stars.result ≡ stars_among (part a.geometry.parameters.places a.page a.numbers.now)
unfolding part
counted c = c.count_stars-stars.ensures

pub returns : goal.returns
unfolding hash_of
returns c =
    let k = c.before.before.before in
    let s = start k.before in
    own-counted (hash_under s.args.geometry) _ _ _ _ s.requires.counts_len.0 (low-page s) _ (counted k)
