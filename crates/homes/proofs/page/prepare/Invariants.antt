-- `homes::page::prepare` meets its contract. The invariant: the blocks below `at` are filled.
use Rattle.std.proofs.Common.{◌≡◌, ◌-◌, ◌*◌, ◌%◌, ℕ, List, length, get_or}
use Rattle.generator.specs.Generator.{modulus}
use Rattle.homes.specs.Lanes.{block_at, Blocks, keys_at, KeysOf}
use Rattle.homes.specs.Indexed.{lanes}
use Rattle.homes.proofs.page.prepare.Given as goal

-- the pages of a block before the first step
abbrev pub started : ℕ → ℕ → List ℕ → ℕ → List ℕ
started factor span numbers at = lanes 8 (λ j. factor * get_or (keys_at numbers at) j 0 % modulus % span)

abbrev pub invariant-loop-at : goal.invariant-loop-at
invariant-loop-at l =
    (l.at % 8 ≡ 0)
    × ((length l.keys ≡ 32) × (length l.pages ≡ 32))
    × Blocks l.at (λ b. KeysOf l.numbers b (block_at l.keys b))
    × Blocks l.at (λ b. block_at l.pages b ≡ started l.factor l.span l.numbers b)

abbrev pub decreases-loop-at : goal.decreases-loop-at
decreases-loop-at l = l.places - l.at
