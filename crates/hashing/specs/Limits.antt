-- Which parameters and growth states are valid: document 01, "The lent buffers".
use Rattle.std.specs.Prelude.{Bool, ◌&&◌, ℕ, ◌*◌, leb, ltb}
use Rattle.generator.specs.Generator.{valid_multiplier}
use Rattle.hashing.specs.declared.Parameters.{Parameters}
use Rattle.hashing.specs.declared.Growth.{Growth}
use Rattle.hashing.specs.Geometry.{group_count_lem, page_count}

unfoldable pub within : ℕ → ℕ → ℕ → Bool
within low n high = leb low n && leb n high

-- b 1 to 32; N 1 to 256; n0 1 to 4; s 1 to N; k 1 to 8; A 1 to 99; M from n0·N to 1,024; the multiplier is one of the two
unfoldable pub valid_parameters : Parameters → Bool
valid_parameters p =
    within 1 p.places 32
    && (within 1 p.groups 256
    && (within 1 p.width 4
    && (within 1 p.step p.groups
    && (within 1 p.bits 8
    && (within 1 p.load 99
    && (within (p.width * p.groups) p.pages 1024
    && valid_multiplier p.multiplier))))))

-- x is below G and n·G + x is at most M
unfoldable pub valid_growth : Parameters → Growth → Bool
valid_growth p g = ltb g.expanded (group_count_lem p g) && leb (page_count p g) p.pages
