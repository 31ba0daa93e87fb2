-- Star numbers, positions and position words.
-- Assumes nothing.
use Rattle.std.specs.Prelude.{ℕ, ◌+◌, ◌*◌, ◌/◌, ◌%◌, ◌^◌, Bool, ◌&&◌, leb, ℤ, pos, negsuc, nat_abs, ◌+ℤ◌, ◌-ℤ◌}
use Rattle.std.specs.Int.Signed.{le_z}
use Rattle.pages.specs.declared.position.Position.{Position}

-- "Star number: 1 to 2,147,483,646"
unfoldable pub valid_number : ℕ → Bool
valid_number k = leb 1 k && leb k 2147483646

-- "right ascension 0 to 1,295,999,999; declination −324,000,000 to 324,000,000, signed" (negsuc n is −(n + 1))
unfoldable pub valid_position : Position → Bool
valid_position p = leb p.ra 1295999999 && (le_z (negsuc 323999999) p.dec && le_z p.dec (pos 324000000))

-- "(declination + 324,000,000)": of a valid position this is not negative
abbrev pub raised : ℤ → ℕ
raised dec = nat_abs (dec +ℤ pos 324000000)

-- "Word = right ascension·2^32 + (declination + 324,000,000)"
unfoldable pub packed : Position → ℕ
packed p = p.ra * 2 ^ 32 + raised p.dec

-- a word of a valid position
unfoldable pub valid_word : ℕ → Bool
valid_word w = leb (w / 2 ^ 32) 1295999999 && leb (w % 2 ^ 32) 648000000

-- the position of a word
unfoldable pub unpacked : ℕ → Position
unpacked w = record { ra = w / 2 ^ 32; dec = pos (w % 2 ^ 32) -ℤ pos 324000000 }
