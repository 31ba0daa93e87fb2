use Rattle.std.proofs.Common.{◌+◌, ◌≤◌, refl, arith}
use Rattle.buffers.proofs.Copies.{none, done}
use Rattle.fits_pages.proofs.RowKeys.{homes-count, keys_next}
use Rattle.fits_pages.proofs.gathered.key_rows.Goals as goal

pub loop-first-init : goal.loop-first-init
loop-first-init c = (omega arith, none _ _ _)

pub of_page-requires : goal.of_page-requires
of_page-requires c =
    record {
      powers_value = c.requires.homing.table;
      parameters_value = c.requires.homing.valid;
      growth_value = c.requires.homing.growth;
      places_bound = omega arith;
      numbers_len = (c.numbers_at-block.ensures.0, refl);
    }

pub put_keys-requires : goal.put_keys-requires
put_keys-requires c =
    record {
      count_in_bounds = (omega arith, omega arith);
      count_bound = (omega arith, homes-count c.args.geometry _ _ _ (omega (arith, c.numbers_at-block.ensures.0)) c.of_page.ensures);
    }

pub loop-first-preserved : goal.loop-first-preserved
loop-first-preserved c =
    let t = c.loop-first in
    let n = c.min-count.result in
    let within : t.first + n ≤ c.args.rows = omega arith in (
      within,
      keys_next c.args.geometry c.args.given.now c.args.rows c.args.keys.now t.keys _ t.first n _ _ within c.requires.rows_in_bounds
          c.of_page.ensures c.numbers_at-block.ensures.1 t.invariant.1 c.put_keys.ensures c.put_keys.auto.keys,
    )

pub returns : goal.returns
returns c = done c.args.rows (omega arith) (omega arith) c.loop-first.invariant.1
