use mathlib.Core.Path.{◌∙◌}
use Prim.Native.Nat.{◌-◌}
use native.Mathlib.Omega.{arith}
use Rattle.page_store.specs.Columns.{columns}
use Rattle.page_store.proofs.Loop.{Fits, Storing, Stored, storing_none, storing_fits, storing_told, storing_skip, storing_store, storing_stop, storing_end}
use Rattle.page_store.proofs.in_turn.store_pages.Goals as goal
use Rattle.page_store.proofs.in_turn.store_pages.Goals.{then-page_differs+else-stored-limit, else-page_differs}

pub loop-turn-init : goal.loop-turn-init
loop-turn-init c =
    storing_none
    (record { numbers = omega (arith, c.requires); words = omega (arith, c.requires); owners = omega (arith, c.requires) })
    (record { numbers = omega (arith, c.requires); words = omega (arith, c.requires); owners = omega (arith, c.requires) })

pub page_in_turn-page-requires : goal.page_in_turn-page-requires
page_in_turn-page-requires c = omega (arith, c.loop-turn-test.true, c.requires)

pub page_differs-requires : goal.page_differs-requires
page_differs-requires c = record {
  places_in_bounds = (storing_fits c.loop-turn.invariant c.page_in_turn-page.result c.page_in_turn-page.ensures c.loop-turn-test.true).0;
  places_in_bounds_2 = (storing_fits c.loop-turn.invariant c.page_in_turn-page.result c.page_in_turn-page.ensures c.loop-turn-test.true).1.0;
  places_in_bounds_3 = (storing_fits c.loop-turn.invariant c.page_in_turn-page.result c.page_in_turn-page.ensures c.loop-turn-test.true).1.1;
}

pub returns-then-stored-limit : goal.returns-then-stored-limit
returns-then-stored-limit c =
    let m = c.loop-turn.invariant in
    let h = c.loop-turn-test.true in
    let t = storing_told m c.page_in_turn-page.result c.page_differs.result c.page_in_turn-page.ensures h c.page_differs.ensures ∙ c.if-page_differs.true in
    let s = storing_stop m h c.if-stored-limit.true t in
    record {
      value = s.all;
      numbers_after = s.numbers;
      words_after = s.words;
      owners_after = s.owners;
    }

pub store_page-requires : goal.store_page-requires
store_page-requires c = record {
  places_in_bounds = (storing_fits c.loop-turn.invariant c.page_in_turn-page.result c.page_in_turn-page.ensures c.loop-turn-test.true).0;
  places_in_bounds_2 = (storing_fits c.loop-turn.invariant c.page_in_turn-page.result c.page_in_turn-page.ensures c.loop-turn-test.true).1.0;
  places_in_bounds_3 = (storing_fits c.loop-turn.invariant c.page_in_turn-page.result c.page_in_turn-page.ensures c.loop-turn-test.true).1.1;
}

pub overflow_add-stored : goal.overflow_add-stored
overflow_add-stored c = omega (arith, c.ranges.limit)

pub loop-turn-preserved : goal.loop-turn-preserved
loop-turn-preserved c =
    let m = c.loop-turn.invariant in
    let page = c.page_in_turn-page.result in
    let e = c.page_in_turn-page.ensures in
    let h = c.loop-turn-test.true in
    let t = storing_told m page c.page_differs.result e h c.page_differs.ensures in
    elim c.if-page_differs.branch [
      | then-page_differs+else-stored-limit w ↦
          rw w.stored-is
          (storing_store m page c.if-page_differs.numbers c.if-page_differs.words c.if-page_differs.owners e h w.if-stored-limit.false (t ∙ w.if-page_differs.true)
          (w.numbers-is ∙ w.store_page.ensures.numbers_after) (w.words-is ∙ w.store_page.ensures.words_after) (w.owners-is ∙ w.store_page.ensures.owners_after))
      | else-page_differs w ↦ rw (w.numbers-is, w.words-is, w.owners-is, w.stored-is) (storing_skip m h (t ∙ w.if-page_differs.false))
    ]

pub returns : goal.returns
returns c =
    let s = storing_end c.loop-turn.invariant c.loop-turn-test.false in
    record {
      value = s.all;
      numbers_after = s.numbers;
      words_after = s.words;
      owners_after = s.owners;
    }
