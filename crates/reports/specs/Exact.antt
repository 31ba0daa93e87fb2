-- "For a tray and filter left by these calls alone, from zeros and under one multiplier, the bits set are exactly those of the waiting reports": document 02 (xi).
use Rattle.std.specs.Prelude.{◌≡◌, false, List, [], ◌∷◌, ℕ, ◌^◌, ◌<◌, ◌≤◌, length, get_or}
use Rattle.hashing.specs.declared.Parameters.{Parameters}
use Rattle.placement.specs.File.{File}
use Rattle.calls.specs.declared.records.GrowthRecord.{GrowthRecord}
use Rattle.calls.specs.Answers.{Pool}
use Rattle.reports.specs.Bits.{no_bits, bit_at, passes, how_many, bits_of}
use Rattle.reports.specs.Reports.{Report, Tray, empty_tray, waiting, is_bit_of_any, names_star}
use Rattle.reports.specs.TrayCalls.{add_of, combined_of, unfiltered_of}
use Rattle.reports.specs.Filing.{filing_of}

-- a call, each with parameters, record and buffers of its own
pub data TrayCall : Type 0 where
  add : Parameters → GrowthRecord → Report → TrayCall
  seek : Parameters → GrowthRecord → File → ℕ → TrayCall
  filing : Parameters → GrowthRecord → File → Pool → TrayCall

unfoldable pub called_under : TrayCall → ℕ
called_under (add p r x) = p.multiplier
called_under (seek p r f k) = p.multiplier
called_under (filing p r f pool) = p.multiplier

pub record Kept : Type 0 where
  pub tray : Tray
  pub filter : List ℕ

-- "from zeros"
unfoldable pub from_zeros : Kept
from_zeros = record { tray = empty_tray; filter = no_bits }

-- what a call leaves of tray and filter
unfoldable pub called : Kept → TrayCall → Kept
called s (add p r x) = record { tray = (add_of p r s.tray s.filter x).tray; filter = (add_of p r s.tray s.filter x).filter }
called s (seek p r f k) = s
called s (filing p r f pool) =
    record { tray = (filing_of p r f pool s.tray s.filter).tray; filter = (filing_of p r f pool s.tray s.filter).filter }

unfoldable pub called_all : Kept → List TrayCall → Kept
called_all s [] = s
called_all s (c ∷ cs) = called_all (called s c) cs

-- "under one multiplier"
unfoldable pub OneMultiplier : ℕ → List TrayCall → Type 0
OneMultiplier a [] = Unit {0}
OneMultiplier a (c ∷ cs) = (called_under c ≡ a) × OneMultiplier a cs

pub record Exact (a : ℕ) (t : Tray) (filter : List ℕ) : Type 0 where
  -- "the bits set are exactly those of the waiting reports"
  pub bits : (i : ℕ) → i < 2048 → bit_at filter i ≡ is_bit_of_any a (waiting t) i
  -- "so the filter's "no" means that no report names the star"
  pub absent : (k : ℕ) → passes a filter k ≡ false → names_star k (waiting t) ≡ false
  -- the combined look-up answers by the latest report, else by the file
  pub looks : (p : Parameters) (r : GrowthRecord) (f : File) (k : ℕ) → p.multiplier ≡ a
      → combined_of p r f t filter k ≡ unfiltered_of p r f t filter k
  -- "how many of the filter's bits are set"
  pub shown : bits_of filter ≡ record { refusal = 0; bits = how_many (is_bit_of_any a (waiting t)) 0 2048 }
  -- lengths, count and words that no later call refuses or loses
  pub reports_lent : length t.reports ≡ 256
  pub filter_lent : length filter ≡ 32
  pub counted : t.count ≤ 256
  pub words : (i : ℕ) → get_or filter i 0 < 2 ^ 64

abbrev pub FilterExact : Type 0
FilterExact = (a : ℕ) (cs : List TrayCall) → OneMultiplier a cs → Exact a (called_all from_zeros cs).tray (called_all from_zeros cs).filter
