-- The refusals by a growth record are 1 and 2.
use mathlib.Core.Bool.{Bool, true, false, ◌&&◌}
use Prim.Native.Nat.{◌≤◌}
use native.Mathlib.Omega.{arith}
use Rattle.hashing.specs.declared.Parameters.{Parameters}
use Rattle.hashing.specs.Limits.{valid_parameters, valid_growth}
use Rattle.calls.specs.declared.records.GrowthRecord.{GrowthRecord}
use Rattle.calls.specs.Calls.{unless, or_else, unlent}
use Rattle.calls.specs.Records.{valid_steps}
use Rattle.call_guard.specs.Turn.{record_refusal}

pub refusal-most : (p : Parameters) (r : GrowthRecord) (lengths : Bool) → record_refusal p r lengths ≤ 2
unfolding record_refusal unlent
refusal-most p r lengths = go (valid_steps p r) (valid_parameters p && valid_growth p r.state) lengths
  where
    go : (s t u : Bool) → or_else (unless s 1) (or_else (unless t 1) (unless u 2)) ≤ 2
    go true true true = omega arith
    go true true false = omega arith
    go true false u = omega arith
    go false t u = omega arith
