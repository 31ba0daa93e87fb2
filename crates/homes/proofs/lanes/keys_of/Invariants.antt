-- `homes::lanes::keys_of` meets its contract. The invariant: the first i places are filled.
use Rattle.std.proofs.Common.{◌≡◌, ◌+◌, ◌≤◌, ◌<◌, ◌++◌, ℕ, get_or, drop}
use Rattle.homes.specs.Lanes.{residue_of}
use Rattle.homes.specs.Indexed.{lanes}
use Rattle.homes.proofs.lanes.keys_of.Given as goal

abbrev pub invariant-loop-i : goal.invariant-loop-i
invariant-loop-i l =
    (l.keys ≡ lanes l.i (λ j. residue_of (get_or l.numbers (l.at + j) 0)) ++ drop l.i l.initial.keys)
    × ((j : ℕ) → j < l.i → residue_of (get_or l.numbers (l.at + j) 0) ≤ 2147483648)
