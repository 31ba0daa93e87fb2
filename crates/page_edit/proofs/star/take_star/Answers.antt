use mathlib.Core.Path.{◌∙◌}
use native.Mathlib.Omega.{arith}
use borrow.Author.Rules.{rules}
use Rattle.placement.proofs.Files.{number_of, word_of, owner_of}
use Rattle.page_edit.proofs.Shifted.{occupied-place, take-list, of_numbers_lem, of_words, of_owners_lem}
use Rattle.page_edit.proofs.star.take_star.Goals as goal

pub overflow_add-from : goal.overflow_add-from
overflow_add-from c = omega (arith, occupied-place c.requires, c.requires.ordered.in_numbers)

pub overflow_sub-behind : goal.overflow_sub-behind
overflow_sub-behind c = omega (arith, occupied-place c.requires, c.requires.ordered.in_numbers)

pub overflow_sub-behind-2 : goal.overflow_sub-behind-2
overflow_sub-behind-2 c = omega (arith, occupied-place c.requires, c.requires.ordered.in_numbers)

pub take_number-requires : goal.take_number-requires
take_number-requires c = omega (arith, occupied-place c.requires, c.requires.ordered.in_numbers)

pub take_word-requires : goal.take_word-requires
take_word-requires c = omega (arith, occupied-place c.requires, c.requires.ordered.in_words)

pub take_owner-requires : goal.take_owner-requires
take_owner-requires c = omega (arith, occupied-place c.requires, c.requires.ordered.in_owners)

pub returns : goal.returns
returns c =
    let s = c.before.before.before.before.before.before.before.before.before.before.before.before.before.before.before.before in
    record {
      of_numbers = c.take_number.ensures ∙ take-list s.requires number_of _ (of_numbers_lem _ _ _ _ _ s.requires.ordered);
      of_words_lem = c.take_word.ensures ∙ take-list s.requires word_of _ (of_words _ _ _ _ _ s.requires.ordered);
      of_owners = c.take_owner.ensures ∙ take-list s.requires owner_of _ (of_owners_lem _ _ _ _ _ s.requires.ordered);
    }
