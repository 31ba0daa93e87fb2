-- `homes::passes::turn_at` meets its contract.
use Rattle.std.proofs.Common.{◌≡◌, ◌∙◌, ◌+◌, ◌≤◌, List, ℕ, length, refl, ap, arith}
use Rattle.std.proofs.Math.Seq.{paste}
use Rattle.homes.specs.Lanes.{block_at}
use Rattle.homes.proofs.Lists.{copied-block, part_length}
use Rattle.homes.proofs.passes.turn_at.Goals as goal

pub turn-requires-clause-keys : goal.turn-requires-clause-keys
turn-requires-clause-keys c =
    let keys : c.copy.new.to ≡ block_at c.args.keys.now c.args.at = copied-block c.args.keys.now c.args.at c.copy.ensures (omega (arith, c.requires.at_bound, c.told-keys)) in
    let groups : c.copy-2.new.to ≡ block_at c.args.groups.now c.args.at = copied-block c.args.groups.now c.args.at c.copy-2.ensures (omega (arith, c.requires.at_bound, c.requires.groups_len)) in
    (rw keys c.requires.keys, ap length groups ∙ part_length c.args.groups.now c.args.at)

pub turn-requires-clause-grouped : goal.turn-requires-clause-grouped
turn-requires-clause-grouped c =
    let keys : c.copy.new.to ≡ block_at c.args.keys.now c.args.at = copied-block c.args.keys.now c.args.at c.copy.ensures (omega (arith, c.requires.at_bound, c.told-keys)) in
    let groups : c.copy-2.new.to ≡ block_at c.args.groups.now c.args.at = copied-block c.args.groups.now c.args.at c.copy-2.ensures (omega (arith, c.requires.at_bound, c.requires.groups_len)) in
    rw (keys, groups) c.requires.grouped_at

pub turn-requires-clause-pages_value : goal.turn-requires-clause-pages_value
turn-requires-clause-pages_value c =
    let keys : c.copy.new.to ≡ block_at c.args.keys.now c.args.at = copied-block c.args.keys.now c.args.at c.copy.ensures (omega (arith, c.requires.at_bound, c.told-keys)) in
    let pages : c.copy-3.new.to ≡ block_at c.args.pages.now c.args.at = copied-block c.args.pages.now c.args.at c.copy-3.ensures (omega (arith, c.requires.at_bound, c.requires.groups_len)) in
    rw (keys, pages) c.requires.paged_at

pub returns-clause-groups_after : goal.returns-clause-groups_after
returns-clause-groups_after c =
    let keys : c.copy.new.to ≡ block_at c.args.keys.now c.args.at = copied-block c.args.keys.now c.args.at c.copy.ensures (omega (arith, c.requires.at_bound, c.told-keys)) in
    c.copy-4.ensures ∙ ap (λ (b : List ℕ). paste c.args.groups.now c.args.at b 8) (rw keys at c.turn.ensures.groups_after)

pub returns-clause-pages_after : goal.returns-clause-pages_after
returns-clause-pages_after c =
    let keys : c.copy.new.to ≡ block_at c.args.keys.now c.args.at = copied-block c.args.keys.now c.args.at c.copy.ensures (omega (arith, c.requires.at_bound, c.told-keys)) in
    c.copy-5.ensures ∙ ap (λ (b : List ℕ). paste c.args.pages.now c.args.at b 8) (rw keys at c.turn.ensures.pages_after)
