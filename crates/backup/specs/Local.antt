-- What growth leaves of a clean file: document 02 (xiv).
use Rattle.std.specs.Prelude.{◌≡◌, true, false, ℕ, ◌<◌, get_or}
use Rattle.hashing.specs.declared.Parameters.{Parameters}
use Rattle.hashing.specs.declared.Growth.{Growth}
use Rattle.pages.specs.Position.{valid_word}
use Rattle.pages.specs.Page.{part}
use Rattle.placement.specs.File.{File, Clean}
use Rattle.placement.specs.Hash.{hash_of}
pub use Rattle.calls.specs.Answers.{Pool}
pub use Rattle.calls.specs.Calls.{grow_of}
use Rattle.backup.specs.Stretches.{top_at, top_twice, end_from, may_change}

-- the separator, numbers, words and owners of a page are the same in two files
pub record Untouched (places : ℕ) (before after : File) (page : ℕ) : Type 0 where
  pub separator : get_or after.separators page 0 ≡ get_or before.separators page 0
  pub numbers : part places page after.numbers ≡ part places page before.numbers
  pub words : part places page after.words ≡ part places page before.words
  pub owners : part places page after.owners ≡ part places page before.owners

-- a clean file, and a growth of it that is accepted
pub record Grows (p : Parameters) (g : Growth) (f : File) (pool : Pool) : Type 0 where
  pub clean : Clean valid_word (hash_of p g) p.pages f
  pub accepted : (grow_of p g f pool).answer.refusal ≡ 0

-- "On a clean file growth alters nothing outside these stretches"
abbrev pub GrowthLocal : Type 0
GrowthLocal =
    (p : Parameters) (g : Growth) (f : File) (pool : Pool) → Grows p g f pool → (page : ℕ) → page < p.pages
    → may_change p g f.separators (grow_of p g f pool).file.separators page ≡ false
    → Untouched p.places f (grow_of p g f pool).file page

-- "or to page M−1 where there is none" never applies: from any page on, the page at which a stretch of either kind ends passes its test
abbrev pub StretchesEnd : Type 0
StretchesEnd =
    (p : Parameters) (g : Growth) (f : File) (pool : Pool) → Grows p g f pool → (q : ℕ) → q < p.pages
    → (top_at p f.separators (end_from p (top_at p f.separators) q) ≡ true)
    × (top_twice p f.separators (grow_of p g f pool).file.separators (end_from p (top_twice p f.separators (grow_of p g f pool).file.separators) q) ≡ true)
