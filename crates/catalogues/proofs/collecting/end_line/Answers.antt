-- `catalogues::collecting::end_line` meets its contract.
use Rattle.std.proofs.Common.{ℕ, ◌≡◌, ◌+◌, ◌<◌, ◌≤◌, ◌||◌, cond, ltb, min, arith}
use borrow.Author.Tests.{lt-ltb, le-ltb}
use native.Mathlib.Decide.{dec_lt}
use Rattle.catalogues.specs.Entries.{rows_held, is_refusal_lem}
use Rattle.catalogues.specs.Runs.{line_after_lem}
use Rattle.catalogues.proofs.Held.{held-length}
use Rattle.catalogues.proofs.Entering.{effect-good, added-room}
use Rattle.catalogues.proofs.Ending.{line_fits, line_ended}
use Rattle.catalogues.proofs.collecting.end_line.Goals as goal
use Rattle.catalogues.proofs.collecting.end_line.Goals.{then-collection, else-collection}

pub add-count-requires-clause-count_bound_2 : goal.add-count-requires-clause-count_bound_2
add-count-requires-clause-count_bound_2 c = λ t.
    let f = c.requires.fit in
    let a = c.args in
    let rows = rows_held a.collection.count a.numbers.now a.words.now in
    omega (
      arith,
      held-length a.collection.count a.numbers.now a.words.now (omega (arith, f.few, f.numbers)) (omega (arith, f.few, f.words)),
      added-room rows c.line_effect-done.result (rw c.line_effect-done.ensures (effect-good rows _)) t,
    )

pub returns-clause-fit_2 : goal.returns-clause-fit_2
returns-clause-fit_2 c =
    line_fits _ _ _ _ _ _ c.line_effect-done.result c.line_effect-done.ensures c.add-count.ensures.words_after c.requires.fit c.add-count.ensures.upper_bound
    c.add-count.auto.numbers c.add-count.auto.words

saturated : (n r : ℕ) → n ≤ 4294967295 → r ≡ min (n + 1) 4294967295 → r ≡ line_after_lem n
unfolding line_after_lem
saturated n r h e = go (dec_lt n 4294967295)
  where
    go : Dec (n < 4294967295) → r ≡ cond (ltb n 4294967295) (n + 1) n
    go (yes p) = rw (lt-ltb n 4294967295 p) (omega arith)
    go (no p) = rw (le-ltb n 4294967295 (omega arith)) (omega arith)

pub returns-clause-stands : goal.returns-clause-stands
returns-clause-stands c =
    let refused : c.if-collection.refused ≡ (c.args.collection.refused || is_refusal_lem c.line_effect-done.result)
    = elim c.if-collection.branch [
      | then-collection w ↦ rw (w.refused-is, w.if-collection.true)
      | else-collection w ↦ rw (w.refused-is, w.if-collection.false, w.is_refusal-refused.ensures)
    ] in (
      line_ended _ _ _ _ _ _ c.line_effect-done.result c.line_effect-done.ensures c.add-count.ensures.words_after _ _ _ _
          (saturated _ _ (omega arith) c.saturating_add-lines.ensures) c.put_effect-next.ensures.0 refused c.blank_line.ensures,
      c.put_effect-next.ensures.1,
    )
