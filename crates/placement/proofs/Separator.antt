-- Laws of a page's separator: it fits, is the greatest that fits, and rises when stars go.
use mathlib.Core.Path.{◌≡◌, refl, ap}
use mathlib.Core.Bool.{Bool, true, false, cond, ◌&&◌, and-false}
use mathlib.Core.List.{List, []}
use Prim.Native.Nat.{ℕ, zero, suc, ◌≤◌, ◌<◌}
use native.Mathlib.Nat.{le_antisymm, le_refl, le_trans}
use native.Mathlib.Decide.{dec_le}
use native.Mathlib.Omega.{arith}
use lib.Dec.{leb, ltb}
use lib.ListN.{length}
use borrow.Author.Tests.{leb-true, leb-false, ltb-true, le-leb, lt-leb, lt-ltb, le-ltb}
use Rattle.buffers.proofs.Tests.{and-true}
use Rattle.placement.specs.Rule.{Star, Hash, filter, below, staying, passing, onward, separator_from, separator_of}
use Rattle.placement.proofs.Filters.{filter-ext, filter_comm, filter_none, filter-absorb, length-filter, length-split, length-within}

-- The one fact of the hash that the rule needs.
abbrev pub Bounded : Hash → Type 0
Bounded H = (k p : ℕ) → H.signature k p < H.top

abbrev pub stays : Hash → ℕ → ℕ → Star → Bool
stays H p v s = below H p v s.number

pub below-home : (H : Hash) (p v k : ℕ) → below H p v k ≡ true → H.home k ≤ p
unfolding below
below-home H p v k e = leb-true (H.home k) p (and-true (leb (H.home k) p) _ e).0

pub below-signature : (H : Hash) (p v k : ℕ) → below H p v k ≡ true → H.signature k p < v
unfolding below
below-signature H p v k e = ltb-true (H.signature k p) v (and-true (leb (H.home k) p) _ e).1

pub is_below : (H : Hash) (p v k : ℕ) → H.home k ≤ p → H.signature k p < v → below H p v k ≡ true
unfolding below
is_below H p v k h s = rw (le-leb (H.home k) p h, lt-ltb (H.signature k p) v s)

pub not_below-home : (H : Hash) (p v k : ℕ) → p < H.home k → below H p v k ≡ false
unfolding below
not_below-home H p v k h = rw (lt-leb (H.home k) p h)

pub below-mono : (H : Hash) (p u v k : ℕ) → u ≤ v → below H p u k ≡ true → below H p v k ≡ true
below-mono H p u v k h e = is_below H p v k (below-home H p u k e) (le_trans (below-signature H p u k e) h)

pub below-zero : (H : Hash) (p k : ℕ) → below H p zero k ≡ false
unfolding below
below-zero H p k = rw (le-ltb (H.signature k p) zero (omega arith), and-false (leb (H.home k) p))

pub staying-mono : (H : Hash) (p u v : ℕ) (w : List Star) → u ≤ v → length (staying H p u w) ≤ length (staying H p v w)
unfolding staying
staying-mono H p u v w h = length-within (stays H p u) (stays H p v) (λ s. below-mono H p u v s.number h) w

pub staying-filter : (H : Hash) (p v : ℕ) (q : Star → Bool) (w : List Star) → staying H p v (filter q w) ≡ filter q (staying H p v w)
unfolding staying
staying-filter H p v q w = filter_comm (stays H p v) q w

module _ (H : Hash) (p : ℕ) (w : List Star) where
  from_le : (v : ℕ) → separator_from H p w v ≤ v
  unfolding separator_from
  from_le zero = le_refl zero
  from_le (suc v) = go (leb (length (staying H p (suc v) w)) H.room) (from_le v)
    where
      go : (t : Bool) → separator_from H p w v ≤ v → cond t (suc v) (separator_from H p w v) ≤ suc v
      go true ih = le_refl (suc v)
      go false ih = omega arith

  from-fits : (v : ℕ) → length (staying H p (separator_from H p w v) w) ≤ H.room
  unfolding separator_from staying
  from-fits zero = rw (filter_none (stays H p zero) (λ s. below-zero H p s.number) w) (omega arith)
  from-fits (suc v) = go (leb (length (staying H p (suc v) w)) H.room) refl (from-fits v)
    where
      go : (t : Bool) → leb (length (staying H p (suc v) w)) H.room ≡ t → length (staying H p (separator_from H p w v) w) ≤ H.room
          → length (staying H p (cond t (suc v) (separator_from H p w v)) w) ≤ H.room
      go true e ih = leb-true (length (staying H p (suc v) w)) H.room e
      go false e ih = ih

  from-great : (v u : ℕ) → u ≤ v → length (staying H p u w) ≤ H.room → u ≤ separator_from H p w v
  unfolding separator_from
  from-great zero u h f = h
  from-great (suc v) u h f = go (leb (length (staying H p (suc v) w)) H.room) refl (λ g. from-great v u g f)
    where
      go : (t : Bool) → leb (length (staying H p (suc v) w)) H.room ≡ t → (u ≤ v → u ≤ separator_from H p w v)
          → u ≤ cond t (suc v) (separator_from H p w v)
      go true e ih = h
      go false e ih =
          let big : H.room < length (staying H p (suc v) w) = leb-false (length (staying H p (suc v) w)) H.room e in
          case (dec_le (suc v) u) big
        where
          case : Dec (suc v ≤ u) → H.room < length (staying H p (suc v) w) → u ≤ separator_from H p w v
          case (yes g) big = absurd (omega (arith, staying-mono H p (suc v) u w g))
          case (no g) big = ih (omega arith)

  pub sep_le : separator_of H p w ≤ H.top
  unfolding separator_of
  sep_le = from_le H.top

  -- At most room stay.
  pub sep_fits : length (staying H p (separator_of H p w) w) ≤ H.room
  unfolding separator_of
  sep_fits = from-fits H.top

  pub sep_great : (u : ℕ) → u ≤ H.top → length (staying H p u w) ≤ H.room → u ≤ separator_of H p w
  unfolding separator_of
  sep_great = from-great H.top

  -- A separator that fits, and is top or no longer fits when raised by one, is the separator.
  pub sep_unique : (v : ℕ) → v ≤ H.top → length (staying H p v w) ≤ H.room → (v < H.top → H.room < length (staying H p (suc v) w)) → separator_of H p w ≡ v
  sep_unique v h f g = go (dec_le (separator_of H p w) v)
    where
      go : Dec (separator_of H p w ≤ v) → separator_of H p w ≡ v
      go (yes d) = le_antisymm d (sep_great v h f)
      go (no d) = absurd (omega (arith, g (omega (arith, sep_le)), staying-mono H p (suc v) (separator_of H p w) w (omega arith), sep_fits))

-- Fewer stars, no lower separator.
pub sep_mono : (H : Hash) (p : ℕ) (q : Star → Bool) (w : List Star) → separator_of H p w ≤ separator_of H p (filter q w)
sep_mono H p q w =
    sep_great H p (filter q w) (separator_of H p w) (sep_le H p w)
    (rw (staying-filter H p (separator_of H p w) q w)
    (le_trans (length-filter q (staying H p (separator_of H p w) w)) (sep_fits H p w)))

-- Lists with the same stars homed at p or lower have the same separator there, as those alone probe.
abbrev pub probes : Hash → ℕ → Star → Bool
probes H p s = leb (H.home s.number) p

pub staying-probing : (H : Hash) (p v : ℕ) (w : List Star) → staying H p v (filter (probes H p) w) ≡ staying H p v w
unfolding staying
staying-probing H p v w =
    filter-absorb (stays H p v) (probes H p) (λ s e. le-leb (H.home s.number) p (below-home H p v s.number e)) w

-- Under the top all who probe stay.
pub below_top : (H : Hash) → Bounded H → (p k : ℕ) → below H p H.top k ≡ leb (H.home k) p
unfolding below
below_top H b p k = go (leb (H.home k) p)
  where
    go : (t : Bool) → t && ltb (H.signature k p) H.top ≡ t
    go true = lt-ltb (H.signature k p) H.top (b k p)
    go false = refl

pub staying-top : (H : Hash) → Bounded H → (p : ℕ) (w : List Star) → staying H p H.top w ≡ filter (probes H p) w
unfolding staying
staying-top H b p w = filter-ext (stays H p H.top) (probes H p) (λ s. below_top H b p s.number) w

-- The separator is top exactly if at most room stars probe.
pub top_probing : (H : Hash) → Bounded H → (p : ℕ) (w : List Star) → separator_of H p w ≡ H.top → length (filter (probes H p) w) ≤ H.room
top_probing H b p w e = rw (← staying-top H b p w) (rw e at (sep_fits H p w))

pub probing-top : (H : Hash) → Bounded H → (p : ℕ) (w : List Star) → length (filter (probes H p) w) ≤ H.room → separator_of H p w ≡ H.top
probing-top H b p w h =
    le_antisymm (sep_le H p w) (sep_great H p w H.top (le_refl H.top) (rw (staying-top H b p w) h))

-- Then all who probe stay.
pub top_all : (H : Hash) → Bounded H → (p : ℕ) (w : List Star) → separator_of H p w ≡ H.top → staying H p (separator_of H p w) w ≡ filter (probes H p) w
top_all H b p w e = rw e (staying-top H b p w)

pub all-top : (H : Hash) → Bounded H → (p : ℕ) (w : List Star) → staying H p (separator_of H p w) w ≡ filter (probes H p) w → separator_of H p w ≡ H.top
all-top H b p w e = probing-top H b p w (rw e at (sep_fits H p w))

-- Where nothing passes a page, its separator is the top.
pub stay_all : (H : Hash) → Bounded H → (p : ℕ) (w : List Star) → onward H p w ≡ [] → separator_of H p w ≡ H.top
unfolding onward passing staying
stay_all H b p w e = probing-top H b p w (le_trans (length-filter (probes H p) w) few)
  where
    few : length w ≤ H.room
    few = omega (arith, length-split (stays H p (separator_of H p w)) w, ap length e, sep_fits H p w)
