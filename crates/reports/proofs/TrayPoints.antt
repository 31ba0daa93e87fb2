-- Worked numbers of the filter, by computation.
use mathlib.Core.Path.{◌≡◌, refl}
use mathlib.Core.List.{[], ◌∷◌}
use Rattle.generator.specs.Generator.{scrambled}
use Rattle.reports.specs.Bits.{bit_of, with_bit_lem, bit_at, bit_set, no_bits, hash_bit, marked, ones, bits_set}

-- star 1 under the multiplier of 1988
bits_of_1 : (hash_bit 16807 1 1 ∷ hash_bit 16807 2 1 ∷ hash_bit 16807 3 1 ∷ []) ≡ 423 ∷ 753 ∷ 1241 ∷ []
unfolding hash_bit scrambled
bits_of_1 = refl

-- its three bits, and none more when it is reported twice
three-set : bits_set (marked 16807 (marked 16807 no_bits 1) 1) ≡ 3
unfolding hash_bit scrambled marked bit_set bit_at bit_of with_bit_lem no_bits bits_set ones
three-set = refl
