-- A word holds what was packed into it. Assumes nothing.
use mathlib.Core.Path.{◌≡◌}
use Prim.Native.Nat.{ℕ, ◌≤◌, ◌<◌, ◌^◌}
use native.Mathlib.Omega.{arith}
use Rattle.page_separator.specs.Words.{pack, home_of, number_in, source_of, low_of}

pub home-pack : (h k s : ℕ) → k < 2 ^ 31 → s < 2 ^ 16 → home_of (pack h k s) ≡ h
unfolding pack home_of
home-pack h k s hk hs = omega arith

pub number-pack : (h k s : ℕ) → k < 2 ^ 31 → s < 2 ^ 16 → number_in (pack h k s) ≡ k
unfolding pack number_in
number-pack h k s hk hs = omega arith

pub source_pack : (h k s : ℕ) → s < 2 ^ 16 → source_of (pack h k s) ≡ s
unfolding pack source_of
source_pack h k s hs = omega arith

-- the low part does not depend on the home
pub low-pack : (h k s : ℕ) → k < 2 ^ 31 → s < 2 ^ 16 → low_of (pack h k s) ≡ pack 0 k s
unfolding pack low_of
low-pack h k s hk hs = omega arith

pub pack-fits : (h k s : ℕ) → h ≤ 1024 → k < 2 ^ 31 → s < 2 ^ 16 → pack h k s < 2 ^ 64
unfolding pack
pack-fits h k s hh hk hs = omega arith

pub number-low : (w : ℕ) → number_in (low_of w) ≡ number_in w
unfolding number_in low_of
number-low w = omega arith

pub source_low : (w : ℕ) → source_of (low_of w) ≡ source_of w
unfolding source_of low_of
source_low w = omega arith

-- numeric order of low parts is order by number
pub number-mono : (x y : ℕ) → low_of x ≤ low_of y → number_in x ≤ number_in y
unfolding number_in low_of
number-mono x y h = omega arith

-- a word that is not below the least of a home has that home or a higher one
pub home-least : (h w : ℕ) → pack h 0 0 ≤ w → h ≤ home_of w
unfolding pack home_of
home-least h w l = omega arith
