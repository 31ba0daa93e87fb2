-- What the sources name is fetched to the pool, and copied from there.
use native.Mathlib.Omega.{arith}
use Rattle.mending.proofs.Renewed.{written_back}
use Rattle.mending.proofs.renewing.write_back.Goals as goal

pub copy-requires-2 : goal.copy-requires-2
copy-requires-2 c =
    record {
      in_bounds = omega (arith, c.requires.numbers_len);
      in_bounds_2 = omega (arith, c.fetch.auto.waiting, c.requires.waiting_len);
    }

pub copy-requires-3 : goal.copy-requires-3
copy-requires-3 c =
    record {
      in_bounds = omega (arith, c.requires.numbers_len);
      in_bounds_2 = omega (arith, c.fetch.auto.poolowners, c.requires.waiting_len);
    }

pub copy-requires-4 : goal.copy-requires-4
copy-requires-4 c =
    record {
      in_bounds = omega arith;
      in_bounds_2 = omega (arith, c.requires.separators_in_bounds);
    }

pub returns : goal.returns
returns c =
    written_back c.args.numbers.now c.args.words.now c.args.owners.now c.args.separators.now c.args.pool.now c.args.waiting.now c.args.poolowners.now
    c.args.planned.now _ _ _ _ _ _ _ c.requires.separators_in_bounds c.requires.numbers_len.0 c.requires.numbers_len.1.0 c.requires.numbers_len.1.1 c.requires.waiting_len.0 c.requires.waiting_len.1
    c.fetch.ensures.pool_after c.fetch.ensures.waiting_after c.fetch.ensures.poolowners_after c.copy.ensures c.copy-2.ensures c.copy-3.ensures c.copy-4.ensures
