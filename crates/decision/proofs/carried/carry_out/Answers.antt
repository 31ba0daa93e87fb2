use mathlib.Core.Path.{◌∙◌}
use borrow.Author.Rules.{rules}
use Rattle.placement.specs.Hash.{lent}
use Rattle.decision.specs.declared.chosen.Decision.TheVariants.{Put, Take, Planned}
use Rattle.decision.proofs.Carrying.{unsound-carried, overflows_carried, feasible_there, put-carried, take-carried, planned-carried}
use Rattle.decision.proofs.carried.carry_out.Goals as goal

pub put-requires : goal.put-requires
put-requires c =
    let a = c.args in
    let f = lent a.separators.now a.numbers.now a.words.now a.owners.now in
    (feasible_there a.upward a.parameters a.limit f a.star.number a.star.word a.star.owner a.pool.now a.planned.now a.decision (Put _ _) c.in-Put.is c.requires.feasible).1

pub take-requires : goal.take-requires
take-requires c =
    let a = c.args in
    let f = lent a.separators.now a.numbers.now a.words.now a.owners.now in
    (feasible_there a.upward a.parameters a.limit f a.star.number a.star.word a.star.owner a.pool.now a.planned.now a.decision (Take _ _) c.in-Take.is c.requires.feasible).1

pub store_stretch-requires : goal.store_stretch-requires
store_stretch-requires c =
    let a = c.args in
    let f = lent a.separators.now a.numbers.now a.words.now a.owners.now in
    record {
      parameters_value = c.requires.parameters_value;
      sized = c.requires.sized;
      pooled = c.requires.pooled;
      count_bound = feasible_there a.upward a.parameters a.limit f a.star.number a.star.word a.star.owner a.pool.now a.planned.now a.decision (Planned _ _ _) c.in-Planned.is c.requires.feasible;
    }

pub returns-in-Unsound : goal.returns-in-Unsound
returns-in-Unsound c =
    let a = c.args in
    let f = lent a.separators.now a.numbers.now a.words.now a.owners.now in
    unsound-carried a.upward a.parameters a.limit f a.star.number a.star.word a.star.owner a.pool.now a.planned.now a.decision _ c.in-Unsound.is

pub returns-in-Overflows : goal.returns-in-Overflows
returns-in-Overflows c =
    let a = c.args in
    let f = lent a.separators.now a.numbers.now a.words.now a.owners.now in
    overflows_carried a.upward a.parameters a.limit f a.star.number a.star.word a.star.owner a.pool.now a.planned.now a.decision c.in-Overflows.is

pub returns-in-Put : goal.returns-in-Put
returns-in-Put c =
    let a = c.args in
    let f = lent a.separators.now a.numbers.now a.words.now a.owners.now in
    let done = c.put.ensures in
    put-carried a.upward a.parameters a.limit f a.star.number a.star.word a.star.owner a.pool.now a.planned.now c.requires.sized a.decision _ _ c.in-Put.is c.requires.feasible _ _ _ (done.of_numbers, (done.of_words_lem, done.of_owners))

pub returns-in-Take : goal.returns-in-Take
returns-in-Take c =
    let a = c.args in
    let f = lent a.separators.now a.numbers.now a.words.now a.owners.now in
    let done = c.take.ensures in
    take-carried a.upward a.parameters a.limit f a.star.number a.star.word a.star.owner a.pool.now a.planned.now c.requires.sized a.decision _ _ c.in-Take.is c.requires.feasible _ _ _ (done.of_numbers, (done.of_words_lem, done.of_owners))

pub returns-in-Planned : goal.returns-in-Planned
returns-in-Planned c =
    let a = c.args in
    let f = lent a.separators.now a.numbers.now a.words.now a.owners.now in
    planned-carried a.upward a.parameters a.limit f a.star.number a.star.word a.star.owner a.pool.now a.planned.now a.decision _ _ _ _ c.in-Planned.is c.store_stretch.ensures
