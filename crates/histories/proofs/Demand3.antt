-- Demand 3.
use Rattle.histories.specs.Demand3.{Demand3}
use Rattle.histories.proofs.Every.{every-history, each_state_lem, history_independence_lem}
use Rattle.histories.proofs.FilingCalls.{filing-is-calls}
use Rattle.histories.proofs.Alike.{look_ups_alike_lem}

pub demand_3 : Demand3
demand_3 =
    record {
      every_history = every-history;
      history_independence = history_independence_lem;
      each_state = each_state_lem;
      filing_is_calls = filing-is-calls;
      look_ups_alike = look_ups_alike_lem;
    }
