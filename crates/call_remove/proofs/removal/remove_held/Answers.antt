-- `call_remove::removal::remove_held` meets its contract.
use mathlib.Core.Path.{◌≡◌, sym, ap, ◌∙◌}
use mathlib.Core.Bool.{true}
use Prim.Native.Nat.{ℕ}
use native.Mathlib.Omega.{arith}
use borrow.Author.Tests.{not-true, not-false}
use Rattle.hashing.proofs.Bounds.{limits}
use Rattle.pages.specs.Page.{part, place_of}
use Rattle.placement.specs.File.{File}
use Rattle.placement.specs.Hash.{lent}
use Rattle.calls.specs.declared.answers.Refusal.TheVariants.{Damaged, NotHeld, NotOwner}
use Rattle.calls.specs.declared.answers.Placed.TheVariants.{Refused}
use Rattle.calls.specs.Shape.{stopped_file}
use Rattle.calls.specs.Answers.{placed, refused_by, pooled, cleared}
use Rattle.calls.specs.Calls.{remove_on, allowed, named, place_for}
use Rattle.removal_reach.specs.Removal.{removal_answer}
use Rattle.call_remove.proofs.Outcomes.{outcome-told, removal_small, removed-is}
use Rattle.outcome_answer.proofs.Stopped.{unmoved-stores}
use Rattle.call_guard.proofs.Admitting.{prepared, tabled, altered}
use Rattle.call_remove.proofs.Pools.{held-star}
use borrow.Author.Rules.{rules}
use Rattle.call_remove.proofs.removal.remove_held.Goals as goal

pub first_multipliers-table-requires : goal.first_multipliers-table-requires
first_multipliers-table-requires c = tabled c.requires.admitted

pub find_kept-named-requires : goal.find_kept-named-requires
find_kept-named-requires c = record {
  ready = prepared c.first_multipliers-table.ensures c.requires.admitted;
  pool_len = c.requires.pooled.of_numbers;
  number_value = c.requires.number_value;
}

pub overflow_cast-page : goal.overflow_cast-page
overflow_cast-page c = omega (arith, c.find_kept-named.ensures.named_as.page_most, (limits _ c.requires.admitted.homing.valid).pages_most)

pub returns-then-not-named : goal.returns-then-not-named
unfolding remove_on placed refused_by
returns-then-not-named c =
    let f = lent c.args.separators.now c.args.numbers.now c.args.words.now c.args.owners.now in
    let pool = pooled c.args.poolnumbers.now c.args.poolwords.now c.args.poolowners.now in
    let on = remove_on c.args.parameters c.args.growth f (cleared pool) (named c.args.parameters c.args.growth f c.args.number) c.args.caller c.args.number in
    let found = c.find_kept-named.ensures.named_as in
    let unread = sym found.readable_is ∙ not-true _ c.if-not-named.true in
    unmoved-stores true c.args.parameters c.args.stores {after = on} {answer = placed (Refused (Damaged c.find_kept-named.result.page) 0)} {f = f} (record { answers = rw (unread, found.page_is); files = rw unread })

pub returns-then-not-named-2 : goal.returns-then-not-named-2
unfolding remove_on placed refused_by
returns-then-not-named-2 c =
    let f = lent c.args.separators.now c.args.numbers.now c.args.words.now c.args.owners.now in
    let pool = pooled c.args.poolnumbers.now c.args.poolwords.now c.args.poolowners.now in
    let on = remove_on c.args.parameters c.args.growth f (cleared pool) (named c.args.parameters c.args.growth f c.args.number) c.args.caller c.args.number in
    let found = c.find_kept-named.ensures.named_as in
    let opened = not-false _ c.if-not-named.false in
    let read = sym found.readable_is ∙ opened in
    let held = sym (found.held_is opened) ∙ not-true _ c.if-not-named-2.true in
    unmoved-stores true c.args.parameters c.args.stores {after = on} {answer = placed (Refused NotHeld c.find_kept-named.result.place)} {f = f} (record { answers = rw (read, held, ← found.place_is_lem opened); files = rw (read, held) })

pub returns-then-not-may_alter : goal.returns-then-not-may_alter
unfolding remove_on allowed placed refused_by
returns-then-not-may_alter c =
    let f = lent c.args.separators.now c.args.numbers.now c.args.words.now c.args.owners.now in
    let pool = pooled c.args.poolnumbers.now c.args.poolwords.now c.args.poolowners.now in
    let on = remove_on c.args.parameters c.args.growth f (cleared pool) (named c.args.parameters c.args.growth f c.args.number) c.args.caller c.args.number in
    let found = c.find_kept-named.ensures.named_as in
    let opened = not-false _ c.if-not-named.false in
    let read = sym found.readable_is ∙ opened in
    let there = not-false _ c.if-not-named-2.false in
    let held = sym (found.held_is opened) ∙ there in
    let may = altered _ _ _ _ _ (found.owner_is there) c.may_alter.ensures c.if-not-may_alter.true in
    unmoved-stores true c.args.parameters c.args.stores {after = on} {answer = placed (Refused NotOwner c.find_kept-named.result.place)} {f = f} (record { answers = rw (read, held, may, ← found.place_is_lem opened); files = rw (read, held, may) })

-- the caller may remove the star that the search found

pub remove_held-requires : goal.remove_held-requires
remove_held-requires c =
    let f = lent c.args.separators.now c.args.numbers.now c.args.words.now c.args.owners.now in
    let found = c.find_kept-named.ensures.named_as in
    let opened = not-false _ c.if-not-named.false in
    let read = sym found.readable_is ∙ opened in
    let there = not-false _ c.if-not-named-2.false in
    let held = sym (found.held_is opened) ∙ there in
    record {
      removes = record {
        ready = prepared c.first_multipliers-table.ensures c.requires.admitted;
        number = c.requires.number_value;
        held = held-star c.args.parameters c.args.growth f c.args.number read held;
        homed = found.home_is;
        here = found.page_is;
        there = found.place_is_lem opened ∙ ap (λ (q : ℕ). place_of c.args.number (part c.args.parameters.places q c.args.numbers.now)) (sym found.page_is);
      };
      pooled = record { of_numbers = c.find_kept-named.auto.pool ∙ c.requires.pooled.of_numbers; of_words_lem = c.requires.pooled.of_words_lem; of_owners = c.requires.pooled.of_owners };
      known = c.find_kept-named.ensures.known opened;
    }

pub placed_from-requires : goal.placed_from-requires
placed_from-requires c =
    let f = lent c.args.separators.now c.args.numbers.now c.args.words.now c.args.owners.now in
    rw c.remove_held.ensures.value
    (removal_small c.args.parameters c.args.growth f c.requires.admitted.homing.valid c.requires.admitted.homing.growth c.args.number c.find_kept-named.result.page
    (omega (arith, c.find_kept-named.ensures.named_as.page_most, (limits _ c.requires.admitted.homing.valid).pages_most)))

pub returns : goal.returns
unfolding remove_on allowed
returns c =
    let f = lent c.args.separators.now c.args.numbers.now c.args.words.now c.args.owners.now in
    let pool = pooled c.args.poolnumbers.now c.args.poolwords.now c.args.poolowners.now in
    let found = c.find_kept-named.ensures.named_as in
    let opened = not-false _ c.if-not-named.false in
    let read = sym found.readable_is ∙ opened in
    let there = not-false _ c.if-not-named-2.false in
    let held = sym (found.held_is opened) ∙ there in
    let may = altered _ _ _ _ _ (found.owner_is there) c.may_alter.ensures c.if-not-may_alter.false in
    let done = c.remove_held.ensures in
    let page = named c.args.parameters c.args.growth f c.args.number in
    let is = removed-is c.args.parameters c.args.growth f (cleared pool) page c.args.number (place_for c.args.parameters f page c.args.number) in
    record {
      answers = rw (read, held, may) (outcome-told c.placed_from.ensures (done.value ∙ ap (removal_answer c.args.parameters c.args.growth f c.args.number) found.page_is) (found.place_is_lem opened) ∙ is.0);
      files = rw (read, held, may) (done.owners_value ∙ ap (λ (l : File). stopped_file true c.args.parameters f l c.args.stores) is.1);
    }
