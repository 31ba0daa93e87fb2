use mathlib.Core.Path.{◌∙◌}
use native.Mathlib.Omega.{arith}
use borrow.Author.Rules.{rules}
use Rattle.placement.proofs.Files.{number_of, word_of, owner_of}
use Rattle.page_edit.proofs.Shifted.{vacant-place, put-list, of_numbers_lem, of_words, of_owners_lem}
use Rattle.page_edit.proofs.star.put_star.Goals as goal

pub overflow_add-from : goal.overflow_add-from
overflow_add-from c = omega (arith, vacant-place c.requires, c.requires.ordered.in_numbers)

pub overflow_sub-count : goal.overflow_sub-count
overflow_sub-count c = omega (arith, vacant-place c.requires, c.requires.ordered.in_numbers)

pub put_number-requires : goal.put_number-requires
put_number-requires c = omega (arith, vacant-place c.requires, c.requires.ordered.in_numbers)

pub put_word-requires : goal.put_word-requires
put_word-requires c = omega (arith, vacant-place c.requires, c.requires.ordered.in_words)

pub put_owner-requires : goal.put_owner-requires
put_owner-requires c = omega (arith, vacant-place c.requires, c.requires.ordered.in_owners)

pub returns : goal.returns
returns c =
    let s = c.before.before.before.before.before.before.before.before.before.before.before.before.before.before.before.before in
    record {
      of_numbers = c.put_number.ensures ∙ put-list s.requires s.args.word s.args.owner number_of _ (of_numbers_lem _ _ _ _ _ s.requires.ordered);
      of_words_lem = c.put_word.ensures ∙ put-list s.requires s.args.word s.args.owner word_of _ (of_words _ _ _ _ _ s.requires.ordered);
      of_owners = c.put_owner.ensures ∙ put-list s.requires s.args.word s.args.owner owner_of _ (of_owners_lem _ _ _ _ _ s.requires.ordered);
    }
