-- `history_replay::replaying::kinds_known` meets its contract.
use Rattle.std.proofs.Common.{rules}
use Rattle.std.specs.Prelude.{IsTrue, EachIndex, ◌↔◌, ◌<◌, slice_index}
use Rattle.std.proofs.iter.runs.Made.{chains}
use Rattle.history_replay.proofs.Known.{all-known}
use Rattle.history_replay.proofs.replaying.kinds_known.Goals as goal

pub returns : goal.returns
returns c =
    let e : IsTrue c.all.result ↔ EachIndex c.args.kinds.now (λ k. slice_index c.args.kinds.now k < 9) = search (rules, chains) in
    all-known _ _ e
