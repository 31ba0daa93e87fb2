-- The proved points, one theorem.
use mathlib.Core.Path.{refl}
use Rattle.generator.specs.Generator.{top_of_lem}
use Rattle.placement.specs.Rule.{filter, below, staying, separator_from, separator_of}
use Rattle.hashing.proofs.Points.{
  scrambled-3_1,
  scrambled-1_last,
  signature-1_of_1,
  signature-2_of_1,
  signature-1_of_2,
  rank-of_7,
  rank-of_1,
  home-of_1,
  home-of_1_grown,
  home-of_2,
  home-of_2_grown,
}
use Rattle.pages.proofs.Points.{word-of_one}
use Rattle.calls.specs.Points.{Points}

pub points : Points
unfolding top_of_lem separator_of separator_from staying below filter
points =
    record {
      third = scrambled-3_1;
      first_of_last = scrambled-1_last;
      signature1_of1 = signature-1_of_1;
      signature2_of1 = signature-2_of_1;
      signature1_of2 = signature-1_of_2;
      rank_of7 = rank-of_7;
      rank_of1 = rank-of_1;
      home_of1 = home-of_1;
      home_of1_grown = home-of_1_grown;
      home_of2 = home-of_2;
      home_of2_grown_twice = home-of_2_grown;
      four_kept = refl;
      four_separator = refl;
      two_kept = refl;
      two_separator = refl;
      three_kept = refl;
      three_separator = refl;
      none_kept = refl;
      none_separator = refl;
      word_of_one = word-of_one;
    }
