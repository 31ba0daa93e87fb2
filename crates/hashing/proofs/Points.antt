-- The points of document 01 that this crate's definitions answer, each by computation.
use mathlib.Core.Path.{◌≡◌, refl}
use Rattle.hashing.specs.declared.Parameters.{Parameters}
use Rattle.hashing.specs.declared.Growth.{Growth}
use Rattle.generator.specs.Generator.{scrambled, top_of_lem, signature}
use Rattle.hashing.specs.Geometry.{size_at, count_at_lem, grown, grown_by_lem, ungrown, rank, swept}
use Rattle.hashing.specs.Home.{rank_at, chosen, expanded_at, step_from, after_steps, home}

-- N = n0 = 2, s = 1; the other parameters are those of starline
abbrev pub small : Parameters
small = record { places = 2; groups = 2; width = 2; step = 1; bits = 8; load = 80; pages = 8; multiplier = 16807 }

abbrev pub grown_once : Growth
grown_once = grown small ungrown

abbrev pub grown_twice : Growth
grown_twice = grown small grown_once

pub scrambled-3_1 : scrambled 16807 3 1 ≡ 1622650073
unfolding scrambled
scrambled-3_1 = refl

pub scrambled-1_last : scrambled 16807 1 2147483646 ≡ 2147466840
unfolding scrambled
scrambled-1_last = refl

pub signature-1_of_1 : signature 16807 8 1 1 ≡ 158
unfolding signature scrambled top_of_lem
signature-1_of_1 = refl

pub signature-2_of_1 : signature 16807 8 1 2 ≡ 175
unfolding signature scrambled top_of_lem
signature-2_of_1 = refl

pub signature-1_of_2 : signature 16807 8 2 1 ≡ 189
unfolding signature scrambled top_of_lem
signature-1_of_2 = refl

pub rank-of_7 : rank 3 10 7 ≡ 7
unfolding rank swept
rank-of_7 = refl

pub rank-of_1 : rank 3 10 1 ≡ 9
unfolding rank swept
rank-of_1 = refl

pub home-of_1 : home 16807 small ungrown 1 ≡ 3
unfolding home after_steps step_from expanded_at chosen rank_at rank swept size_at count_at_lem scrambled
home-of_1 = refl

pub home-of_1_grown : home 16807 small grown_once 1 ≡ 4
unfolding grown grown_by_lem home after_steps step_from expanded_at chosen rank_at rank swept size_at count_at_lem scrambled
home-of_1_grown = refl

pub home-of_2 : home 16807 small ungrown 2 ≡ 2
unfolding home after_steps step_from expanded_at chosen rank_at rank swept size_at count_at_lem scrambled
home-of_2 = refl

pub home-of_2_grown : home 16807 small grown_twice 2 ≡ 5
unfolding grown grown_by_lem home after_steps step_from expanded_at chosen rank_at rank swept size_at count_at_lem scrambled
home-of_2_grown = refl
