use mathlib.Core.Path.{◌∙◌}
use native.Mathlib.Omega.{arith}
use lib.ListN.{take, drop, length-drop}
use Rattle.buffers.specs.Lists.{written}
use Rattle.buffers.proofs.Written.{paste_written}
use Rattle.page_store.proofs.Loop.{separators-written, separators-kept}
use borrow.Author.Rules.{rules}
use Rattle.page_store.proofs.in_turn.store.Goals as goal

pub returns-then-all : goal.returns-then-all
returns-then-all c =
    let s = c in
    let a = s.args in
    let p = c.store_pages-all.ensures in
    let w = written a.lo (take a.count (drop a.lo a.planned.now)) a.separators.now in
    let copied = c.copy.ensures ∙ paste_written a.separators.now a.lo (drop a.lo a.planned.now) a.count (rw (length-drop a.lo a.planned.now) (omega (arith, s.requires))) in
    record {
      value = p.value;
      separators_after = separators-written w a.separators.now p.value c.if-all.true copied;
      numbers_after = p.numbers_after;
      words_after = p.words_after;
      owners_after = p.owners_after;
    }

pub returns-else-all : goal.returns-else-all
returns-else-all c =
    let a = c.args in
    let p = c.store_pages-all.ensures in
    let w = written a.lo (take a.count (drop a.lo a.planned.now)) a.separators.now in
    record {
      value = p.value;
      separators_after = separators-kept w a.separators.now p.value c.if-all.false;
      numbers_after = p.numbers_after;
      words_after = p.words_after;
      owners_after = p.owners_after;
    }
