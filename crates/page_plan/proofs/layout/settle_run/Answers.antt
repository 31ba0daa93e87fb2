-- With v pages settled, what waits stands from `from` up to the end of group v - 1.
use Rattle.std.proofs.Common.{◌≡◌, arith}
use Rattle.page_plan.proofs.Stretch.{settling-next}
use Rattle.page_plan.proofs.AllPages.{from-inside, page_probing}
use Rattle.page_plan.proofs.layout.settle_run.Goals as goal

pub overflow_sub-end : goal.overflow_sub-end
overflow_sub-end c =
    let u = c.requires.spare_bound.1 in
    from-inside _ _ _ _ _ _ _ _ _ u.settleable _ _ _ _ _ (c.loop-v.invariant _ _ _ _ u.settleable u.settling)

pub signs_words-requires-clause-probing : goal.signs_words-requires-clause-probing
signs_words-requires-clause-probing c =
    let u = c.requires.spare_bound.1 in
    page_probing _ _ _ _ _ _ _ _ _ u.settleable _ _ _ _ _ (c.loop-v.invariant _ _ _ _ u.settleable u.settling) c.loop-v-test.true

pub settle_page-from-requires-clause-probing : goal.settle_page-from-requires-clause-probing
settle_page-from-requires-clause-probing c =
    let u = c.requires.spare_bound.1 in
    page_probing _ _ _ _ _ _ _ _ _ u.settleable _ _ _ _ _ (c.loop-v.invariant _ _ _ _ u.settleable u.settling) c.loop-v-test.true

pub loop-v-preserved : goal.loop-v-preserved
loop-v-preserved c =
    λ carried P W S p begun.
    let d = c.settle_page-from in
    let here = c.loop-v.invariant carried P W S p begun in
    settling-next _ _ _ _ _ _ _ _ _ p.grouped_are _ _ _ _ _ here c.loop-v-test.true _ (p.grouped_are.ended _ c.loop-v-test.true) _ _ _ _
    d.ensures p.of_pool p.of_planned d.auto.pool d.auto.waiting d.auto.planned

pub returns-clause-continues : goal.returns-clause-continues
returns-clause-continues c =
    λ carried P W S p begun.
    let here = c.loop-v.invariant carried P W S p begun in
    let last : c.loop-v.v ≡ c.args.count = omega (arith, here.upto) in
    rw last at here
