-- `starfits::make_table` meets its contract.
use native.Mathlib.Omega.{arith}
use Prim.Native.Nat.{◌≤◌}
use lib.ListN.{length}
use mathlib.Core.Path.{sym}
use Rattle.lines.proofs.Streams.{put_is, serves_first}
use Rattle.catalogues.specs.Runs.{cataloguing}
use Rattle.starfits.proofs.make_table.Goals as goal

pub collect-requires-clause-fit : goal.collect-requires-clause-fit
collect-requires-clause-fit g c =
    c.start-start.ensures.by_index_2 _ _ (sym c.number_space-numbers.ensures) (sym c.word_space-words.ensures)

pub returns : goal.returns
unfolding cataloguing
returns g c =
    let room : c.finish-at.result ≤ length c.collect_all.new.out =
    omega (arith, c.finish-at.ensures.1, c.collect_all.auto.out, c.collect.auto.out, c.table_space-out.ensures) in
    serves_first cataloguing _ _ _ c.args.first.now _ _ _ _ _ _ (c.start-start.ensures.by_index _ _) c.in_ok-begun.ensures.goes_on
    c.in_ok-begun.ensures.written c.in_ok-all.ensures.serves c.in_ok-all.ensures.end
    (put_is _ _ _ _ _ _ c.finish-at.ensures.0 room c.in_ok-write_all.ensures.bytes)
