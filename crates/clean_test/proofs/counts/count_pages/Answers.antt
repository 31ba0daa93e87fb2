-- The pages from `from` up to the one before `page` are counted.
use Prim.Native.Nat.{◌≤◌, ◌<◌}
use native.Mathlib.Nat.{mul-le-mul_right}
use native.Mathlib.Omega.{arith}
use Rattle.placement.specs.Hash.{hash_of}
use Rattle.hashing.proofs.Bounds.{limits}
use Rattle.calls.proofs.Refusals.{items-most}
use Rattle.clean_test.specs.Raising.{hash_under}
use Rattle.clean_test.proofs.Counters.{counted_next, counted-most, passed-most}
use Rattle.clean_test.proofs.counts.count_pages.Goals as goal

pub count_passers-requires-clause-counts : goal.count_passers-requires-clause-counts
unfolding hash_of
count_passers-requires-clause-counts c =
    let p = c.args.geometry.parameters in
    let r = c.requires in
    counted-most _ _ _ _ _ _ c.loop-page.invariant c.args.stop 32768 (omega arith) (omega (arith, items-most p r.signers.valid, mul-le-mul_right p.places r.homed.high))

pub count_own-requires-clause-counts_len : goal.count_own-requires-clause-counts_len
unfolding hash_of
count_own-requires-clause-counts_len c =
    let a = c.args in
    let p = a.geometry.parameters in
    let r = c.requires in
    let page = c.loop-page.page in
    let most = limits p r.signers.valid in
    let near : page < 1024 = omega (arith, r.homed.high, most.pages_most) in
    let low : a.from ≤ page = omega arith in
    let added = c.count_passers.ensures.adds_counts c.if-not-count_passers.false in
    let few = counted-most _ _ _ _ _ _ c.loop-page.invariant a.stop 32768 (omega arith) (omega (arith, items-most p r.signers.valid, mul-le-mul_right p.places r.homed.high)) in
    let some = passed-most (hash_under a.geometry) a.separators.now a.numbers.now page page in
    (added.size, omega (arith, added.each page low near, few.1 page low near, some, most.places_most))

pub loop-page-preserved : goal.loop-page-preserved
loop-page-preserved c =
    counted_next _ _ _ _ _ _ c.loop-page.invariant (omega arith) _ _ (c.count_passers.ensures.adds_counts c.if-not-count_passers.false) c.count_own.ensures
