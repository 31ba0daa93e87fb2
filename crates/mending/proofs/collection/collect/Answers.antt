use mathlib.Core.Path.{◌≡◌, sym, ap, ◌∙◌}
use mathlib.Core.Bool.{false≢true, not}
use Prim.Native.Nat.{◌+◌, ◌*◌, ◌≤◌}
use native.Mathlib.Nat.{zero-add}
use native.Mathlib.Omega.{arith}
use lib.ListN.{length, take}
use Rattle.hashing.proofs.Bounds.{limits, passed, failed}
use Rattle.sorting.proofs.Joining.{rises-ordered}
use Rattle.duplicates.specs.Words.{InGroups, neighbours_agree, firsts_after}
use Rattle.mending.specs.Collect.{file_words}
use Rattle.mending.proofs.Agreed.{firsts_rise}
use Rattle.mending.proofs.Renewed.{stars-fit, gathered-groups, gathered-ordered}
use Rattle.mending.proofs.collection.collect.Goals as goal

pub gather-end-requires : goal.gather-end-requires
gather-end-requires c =
    let l = limits c.args.parameters c.requires.valid in
    let whole : (0 + c.args.parameters.pages) * c.args.parameters.places ≡ c.args.parameters.pages * c.args.parameters.places = rw (zero-add c.args.parameters.pages) in record {
      places_bound = (l.places_most, (c.requires.some, omega (arith, l.pages_most)));
      places_in_bounds = (omega (arith, whole, c.requires.of_numbers), omega (arith, whole, c.requires.of_homes));
      numbers_value = c.requires.numbered;
      homes_value = c.requires.within;
      count_in_bounds = (omega (arith, l.pages_most, c.requires.of_ends), omega arith);
      numbers_in_bounds = stars-fit _ _ _ _ _ c.requires;
    }

pub sort_groups-requires : goal.sort_groups-requires
sort_groups-requires c =
    let groups : InGroups c.args.parameters.pages c.gather-end.result c.gather-end.new.waiting c.gather-end.new.ends = gathered-groups _ _ _ _ _ c.requires _ _ _ c.gather-end.ensures.value c.gather-end.ensures.scatters c.gather-end.auto.waiting c.gather-end.auto.ends in
    groups

pub all_agree-requires : goal.all_agree-requires
all_agree-requires c =
    let groups : InGroups c.args.parameters.pages c.gather-end.result c.gather-end.new.waiting c.gather-end.new.ends = gathered-groups _ _ _ _ _ c.requires _ _ _ c.gather-end.ensures.value c.gather-end.ensures.scatters c.gather-end.auto.waiting c.gather-end.auto.ends in
    let end-inside : c.gather-end.result ≤ length c.sort_groups.new.waiting = omega (arith, groups.inside, c.sort_groups.auto.waiting) in
    let end-few : c.gather-end.result ≤ 32768 = omega (arith, groups.inside, groups.few) in
    record {
      end_in_bounds = end-inside;
      end_bound = end-few;
    }

pub returns-then-not-all_agree : goal.returns-then-not-all_agree
returns-then-not-all_agree c =
    let sorted : take c.gather-end.result c.sort_groups.new.waiting ≡ file_words c.args.parameters c.args.numbers.now c.args.homes.now = gathered-ordered _ _ _ _ _ c.requires _ _ _ c.gather-end.ensures.value c.gather-end.ensures.scatters _ c.sort_groups.ensures in
    record {
      alike_is = sym (failed _ _ c.all_agree.ensures (ap not c.if-not-all_agree.true)) ∙ ap (neighbours_agree _ _) sorted;
      inside = omega arith;
      words = λ e. absurd (false≢true e);
      ends_are = λ e. absurd (false≢true e);
    }

pub drop_repeated-kept-requires : goal.drop_repeated-kept-requires
drop_repeated-kept-requires c =
    let groups : InGroups c.args.parameters.pages c.gather-end.result c.gather-end.new.waiting c.gather-end.new.ends = gathered-groups _ _ _ _ _ c.requires _ _ _ c.gather-end.ensures.value c.gather-end.ensures.scatters c.gather-end.auto.waiting c.gather-end.auto.ends in
    let end-inside : c.gather-end.result ≤ length c.sort_groups.new.waiting = omega (arith, groups.inside, c.sort_groups.auto.waiting) in
    end-inside

pub mark_ends-requires : goal.mark_ends-requires
mark_ends-requires c =
    let groups : InGroups c.args.parameters.pages c.gather-end.result c.gather-end.new.waiting c.gather-end.new.ends = gathered-groups _ _ _ _ _ c.requires _ _ _ c.gather-end.ensures.value c.gather-end.ensures.scatters c.gather-end.auto.waiting c.gather-end.auto.ends in
    let end-inside : c.gather-end.result ≤ length c.sort_groups.new.waiting = omega (arith, groups.inside, c.sort_groups.auto.waiting) in
    let end-few : c.gather-end.result ≤ 32768 = omega (arith, groups.inside, groups.few) in
    let e = c.drop_repeated-kept.ensures in record {
      end_in_bounds = (omega (arith, e.upper_bound, end-inside, c.drop_repeated-kept.auto.waiting), groups.long);
      end_bound = (omega (arith, e.upper_bound, end-few), (limits c.args.parameters c.requires.valid).pages_most);
      waiting_value = rw e.waiting_after (firsts_rise 0 0 _ (rw c.sort_groups.ensures (rises-ordered _)));
    }

pub returns : goal.returns
returns c =
    let sorted : take c.gather-end.result c.sort_groups.new.waiting ≡ file_words c.args.parameters c.args.numbers.now c.args.homes.now = gathered-ordered _ _ _ _ _ c.requires _ _ _ c.gather-end.ensures.value c.gather-end.ensures.scatters _ c.sort_groups.ensures in
    let groups : InGroups c.args.parameters.pages c.gather-end.result c.gather-end.new.waiting c.gather-end.new.ends = gathered-groups _ _ _ _ _ c.requires _ _ _ c.gather-end.ensures.value c.gather-end.ensures.scatters c.gather-end.auto.waiting c.gather-end.auto.ends in
    let end-inside : c.gather-end.result ≤ length c.sort_groups.new.waiting = omega (arith, groups.inside, c.sort_groups.auto.waiting) in
    record {
      alike_is = sym (passed _ _ c.all_agree.ensures (ap not c.if-not-all_agree.false)) ∙ ap (neighbours_agree _ _) sorted;
      inside = omega (arith, c.drop_repeated-kept.ensures.upper_bound, end-inside, c.drop_repeated-kept.auto.waiting);
      words = λ e. c.drop_repeated-kept.ensures.waiting_after ∙ ap (firsts_after 0) sorted;
      ends_are = λ e. c.mark_ends.ensures;
    }
