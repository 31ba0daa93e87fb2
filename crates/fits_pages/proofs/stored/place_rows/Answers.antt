-- `fits_pages::stored::place_rows` meets its contract.
use mathlib.Core.Path.{refl, sym, ◌∙◌, ap}
use native.Mathlib.Omega.{arith}
use lib.ListN.{length}
use Rattle.hashing.proofs.Bounds.{limits}
use Rattle.fits_pages.proofs.LaidRows.{no_room, overfull, all-stored, pasted_front, zeros-as_long}
use borrow.Author.Rules.{rules}
use borrow.Author.Tests.{not-true, not-false}
use mathlib.Core.Bool.{not}
use Rattle.fits_pages.proofs.stored.place_rows.Goals as goal

pub returns-then-pool-rows : goal.returns-then-pool-rows
returns-then-pool-rows c = let s = c in no_room _ s.args.given.now s.args.rows _ (omega (arith, c.if-pool-rows.true, s.requires.pool_len.0))

pub plan_rows-requires : goal.plan_rows-requires
plan_rows-requires c =
    let s = c in
    record {
      homing = s.requires.ready.homing;
      rows_bound = s.requires.rows_bound;
      rows_value = s.requires.rows_value;
      pool_len = s.requires.pool_len;
      rows_in_bounds = omega arith;
      planned_len = refl;
    }

pub returns-then-not-plan_rows : goal.returns-then-not-plan_rows
returns-then-not-plan_rows c =
    let d = c in
    let s = c in
    overfull _ s.args.given.now s.args.rows _ _ _ (rw c.if-not-plan_rows.true at d.plan_rows.ensures.plans_rows)

pub slice_bounds-copy-end : goal.slice_bounds-copy-end
slice_bounds-copy-end c = sym c.plan_rows.ensures.planned_len_2

pub copy-requires : goal.copy-requires
copy-requires c =
    let d = c in
    let s = c in
    let most = (limits s.args.geometry.parameters s.requires.ready.homing.valid).pages_most in
    record {
      in_bounds = omega (arith, s.requires.ready.sized.of_separators);
      in_bounds_2 = omega (arith, d.plan_rows.ensures.planned_len_2, most);
    }

pub store_rows-requires : goal.store_rows-requires
store_rows-requires c =
    let d = c in
    let s = c in
    let same = d.plan_rows.auto.pool in
    let z = s.requires.ready.sized in record {
      rows_bound = s.requires.rows_bound;
      rows_value = s.requires.rows_value;
      numbers_len = (omega (arith, same, s.requires.pool_len.0, z.of_numbers), (omega (arith, same, s.requires.pool_len.0, z.of_words_lem), omega (arith, same, s.requires.pool_len.0, z.of_owners)));
    }

pub returns : goal.returns
returns c =
    let d = c in
    let s = c in
    let e = c.store_rows.ensures in
    let same = d.plan_rows.auto.pool in
    let chosen = c in
    all-stored _ s.args.given.now s.args.rows _ _ _ (rw c.if-not-plan_rows.false at d.plan_rows.ensures.plans_rows) _ _ _ _
    (c.copy.ensures ∙ pasted_front _ _ _ s.requires.ready.sized.of_separators) e.numbers_after e.words_after
    (e.owners_after ∙ zeros-as_long (length s.args.owners.now) (length d.plan_rows.new.pool) (omega (arith, same, s.requires.pool_len.0, s.requires.ready.sized.of_owners)))
