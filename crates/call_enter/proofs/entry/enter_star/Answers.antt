-- `call_enter::entry::enter_star` meets its contract.
use mathlib.Core.Path.{◌≡◌, sym, ap, ◌∙◌}
use mathlib.Core.Bool.{true, false}
use Prim.Native.Nat.{ℕ}
use native.Mathlib.Omega.{arith}
use borrow.Author.Tests.{not-true, not-false}
use Rattle.hashing.proofs.Bounds.{limits}
use Rattle.pages.specs.Page.{part, place_of}
use Rattle.placement.specs.File.{File}
use Rattle.placement.specs.Hash.{lent}
use Rattle.entry_reach.specs.Entry.{new_star_lem}
use Rattle.calls.specs.declared.answers.Refusal.TheVariants.{Damaged}
use Rattle.calls.specs.declared.answers.Placed.TheVariants.{Refused}
use Rattle.calls.specs.Shape.{stopped_file}
use Rattle.calls.specs.Answers.{placed, refused_by, pooled, cleared}
use Rattle.calls.specs.Calls.{entered_again_lem, named, place_for}
use Rattle.outcome_answer.proofs.Resent.{again-is}
use Rattle.call_enter.proofs.Outcomes.{entry-small, cascade-small, entered-is, cascaded-is}
use Rattle.call_guard.proofs.Admitting.{prepared, tabled}
use Rattle.call_enter.specs.Entries.{entry_on}
use Rattle.call_enter.proofs.Pools.{unheld, kept-stores}
use Rattle.call_enter.proofs.entry.enter_star.Goals as goal

pub first_multipliers-table-requires : goal.first_multipliers-table-requires
first_multipliers-table-requires c = tabled c.requires.admitted

pub find_kept-named-requires : goal.find_kept-named-requires
find_kept-named-requires c = record {
  ready = prepared c.first_multipliers-table.ensures c.requires.admitted;
  pool_len = c.requires.pooled.of_numbers;
  number_value = c.requires.number_value;
}

pub overflow_cast-page : goal.overflow_cast-page
overflow_cast-page c = omega (arith, c.find_kept-named.ensures.named_as.page_most, (limits _ c.requires.admitted.homing.valid).pages_most)

pub returns-then-not-named : goal.returns-then-not-named
unfolding placed refused_by
returns-then-not-named c =
    let f = lent c.args.separators.now c.args.numbers.now c.args.words.now c.args.owners.now in
    let pool = pooled c.args.poolnumbers.now c.args.poolwords.now c.args.poolowners.now in
    let on = entry_on c.args.cascading c.args.parameters c.args.growth f (cleared pool) (named c.args.parameters c.args.growth f c.args.number) (new_star_lem c.args.number c.args.word c.args.caller) in
    let found = c.find_kept-named.ensures.named_as in
    let unread = sym found.readable_is ∙ not-true _ c.if-not-named.true in
    kept-stores c.args.cascading c.args.parameters c.args.stores {after = on} {answer = placed (Refused (Damaged c.find_kept-named.result.page) 0)} {f = f} (record { answers = rw (unread, found.page_is); files = rw unread })

pub returns-then-named : goal.returns-then-named
unfolding entered_again_lem
returns-then-named c =
    let f = lent c.args.separators.now c.args.numbers.now c.args.words.now c.args.owners.now in
    let pool = pooled c.args.poolnumbers.now c.args.poolwords.now c.args.poolowners.now in
    let on = entry_on c.args.cascading c.args.parameters c.args.growth f (cleared pool) (named c.args.parameters c.args.growth f c.args.number) (new_star_lem c.args.number c.args.word c.args.caller) in
    let found = c.find_kept-named.ensures.named_as in
    let opened = not-false _ c.if-not-named.false in
    let read = sym found.readable_is ∙ opened in
    let there = c.if-named.true in
    let held = sym (found.held_is opened) ∙ there in
    kept-stores c.args.cascading c.args.parameters c.args.stores {after = on} {answer = placed c.entered_again.result} {f = f}
    (record {
      answers = rw (read, held) (again-is _ _ _ _ _ _ _ _ c.entered_again.ensures found.page_is (found.place_is_lem opened) (found.word_is there));
      files = rw (read, held);
    })

pub cascade-requires : goal.cascade-requires
cascade-requires c =
    let f = lent c.args.separators.now c.args.numbers.now c.args.words.now c.args.owners.now in
    let found = c.find_kept-named.ensures.named_as in
    let opened = not-false _ c.if-not-named.false in
    let read = sym found.readable_is ∙ opened in
    let held = sym (found.held_is opened) ∙ c.if-named.false in
    let missing = unheld c.args.parameters c.args.growth f c.args.number read held in
    record {
      enters = record {
        ready = prepared c.first_multipliers-table.ensures c.requires.admitted;
        number = c.requires.number_value;
        unheld = missing;
        homed = found.home_is;
        here = found.page_is;
      };
      pooled = record { of_numbers = c.find_kept-named.auto.pool ∙ c.requires.pooled.of_numbers; of_words_lem = c.requires.pooled.of_words_lem; of_owners = c.requires.pooled.of_owners };
      known = c.find_kept-named.ensures.known opened;
    }

pub placed_from-requires : goal.placed_from-requires
placed_from-requires c =
    let f = lent c.args.separators.now c.args.numbers.now c.args.words.now c.args.owners.now in
    let found = c.find_kept-named.ensures.named_as in
    let opened = not-false _ c.if-not-named.false in
    let read = sym found.readable_is ∙ opened in
    let held = sym (found.held_is opened) ∙ c.if-named.false in
    let missing = unheld c.args.parameters c.args.growth f c.args.number read held in
    rw c.cascade.ensures.value
    (cascade-small c.args.parameters c.args.growth f c.requires.admitted.homing.valid c.requires.admitted.homing.growth (new_star_lem c.args.number c.args.word c.args.caller) c.find_kept-named.result.page
    (omega (arith, found.page_is, missing.named)))

pub returns-then-cascading : goal.returns-then-cascading
returns-then-cascading c =
    let f = lent c.args.separators.now c.args.numbers.now c.args.words.now c.args.owners.now in
    let pool = pooled c.args.poolnumbers.now c.args.poolwords.now c.args.poolowners.now in
    let page = named c.args.parameters c.args.growth f c.args.number in
    let star = new_star_lem c.args.number c.args.word c.args.caller in
    let found = c.find_kept-named.ensures.named_as in
    let opened = not-false _ c.if-not-named.false in
    let read = sym found.readable_is ∙ opened in
    let held = sym (found.held_is opened) ∙ c.if-named.false in
    let value = rw found.page_is at c.cascade.ensures.value in
    let file = rw found.page_is at c.cascade.ensures.owners_value in
    let is = cascaded-is c.args.parameters c.args.growth f (cleared pool) star (place_for c.args.parameters f page c.args.number) page in
    record {
      answers = rw (read, held, c.if-cascading.true) (ap placed (rw (value, found.place_is_lem opened) at c.placed_from.ensures) ∙ is.0);
      files = rw (read, held, c.if-cascading.true) (file ∙ is.1);
    }

pub enter_star-requires : goal.enter_star-requires
enter_star-requires c =
    let f = lent c.args.separators.now c.args.numbers.now c.args.words.now c.args.owners.now in
    let found = c.find_kept-named.ensures.named_as in
    let opened = not-false _ c.if-not-named.false in
    let read = sym found.readable_is ∙ opened in
    let held = sym (found.held_is opened) ∙ c.if-named.false in
    let missing = unheld c.args.parameters c.args.growth f c.args.number read held in
    record {
      enters = record {
        ready = prepared c.first_multipliers-table.ensures c.requires.admitted;
        number = c.requires.number_value;
        unheld = missing;
        homed = found.home_is;
        here = found.page_is;
      };
      pooled = record { of_numbers = c.find_kept-named.auto.pool ∙ c.requires.pooled.of_numbers; of_words_lem = c.requires.pooled.of_words_lem; of_owners = c.requires.pooled.of_owners };
      known = c.find_kept-named.ensures.known opened;
      place_value = found.place_is_lem opened ∙ ap (λ (q : ℕ). place_of c.args.number (part c.args.parameters.places q c.args.numbers.now)) (sym found.page_is);
    }

pub placed_from-requires-2 : goal.placed_from-requires-2
placed_from-requires-2 c =
    let f = lent c.args.separators.now c.args.numbers.now c.args.words.now c.args.owners.now in
    rw c.enter_star.ensures.value
    (entry-small c.args.parameters c.args.growth f c.requires.admitted.homing.valid c.requires.admitted.homing.growth (new_star_lem c.args.number c.args.word c.args.caller))

pub returns : goal.returns
returns c =
    let f = lent c.args.separators.now c.args.numbers.now c.args.words.now c.args.owners.now in
    let pool = pooled c.args.poolnumbers.now c.args.poolwords.now c.args.poolowners.now in
    let page = named c.args.parameters c.args.growth f c.args.number in
    let star = new_star_lem c.args.number c.args.word c.args.caller in
    let found = c.find_kept-named.ensures.named_as in
    let opened = not-false _ c.if-not-named.false in
    let read = sym found.readable_is ∙ opened in
    let held = sym (found.held_is opened) ∙ c.if-named.false in
    let reached = c.if-cascading.false in
    let done = c.enter_star.ensures in
    let is = entered-is c.args.parameters c.args.growth f (cleared pool) star (place_for c.args.parameters f page c.args.number) in
    record {
      answers = rw (read, held, reached) (ap placed (rw (done.value, found.place_is_lem opened) at c.placed_from-2.ensures) ∙ is.0);
      files = rw (read, held, reached) (done.owners_value ∙ ap (λ (l : File). stopped_file false c.args.parameters f l c.args.stores) is.1);
    }
