-- Look-ups that agree in the one page they read: demand 3's last sentence, for any two files, damaged ones included.
use Rattle.std.specs.Prelude.{◌≡◌, ℕ, length}
use Rattle.hashing.specs.declared.Parameters.{Parameters}
use Rattle.pages.specs.Page.{part}
use Rattle.placement.specs.File.{File}
use Rattle.calls.specs.declared.records.GrowthRecord.{GrowthRecord}
use Rattle.calls.specs.Answers.{Pool}
use Rattle.calls.specs.Calls.{named}
use Rattle.calls.specs.Records.{look_up_under}

-- two files with the same separators, buffer lengths and items of the page that these separators name for k
pub record Alike (p : Parameters) (r : GrowthRecord) (k : ℕ) (f h : File) : Type 0 where
  pub separators : f.separators ≡ h.separators
  pub numbers_length : length f.numbers ≡ length h.numbers
  pub words_length : length f.words ≡ length h.words
  pub owners_length : length f.owners ≡ length h.owners
  pub numbers : part p.places (named p r.state f k) f.numbers ≡ part p.places (named p r.state f k) h.numbers
  pub words : part p.places (named p r.state f k) f.words ≡ part p.places (named p r.state f k) h.words
  pub owners : part p.places (named p r.state f k) f.owners ≡ part p.places (named p r.state f k) h.owners

-- they get the same answer, refused or not, whatever else is stored; "look-ups that are alike have the whole growth record alike": document 02 (xiii)
abbrev pub LookUpsAlike : Type 0
LookUpsAlike =
    (p : Parameters) (r : GrowthRecord) (k : ℕ) (f h : File) (pool other : Pool) → Alike p r k f h
    → (look_up_under p r f pool k).answer ≡ (look_up_under p r h other k).answer
