-- What placing sound pages anew, block by block, needs of the lent buffers.
use Rattle.std.specs.Prelude.{◌≡◌, true, List, ℕ, ◌+◌, ◌*◌, ◌≤◌, ◌<◌, drop}
use Rattle.hashing.specs.declared.Geometry.{Geometry}
use Rattle.hashing.specs.Limits.{valid_parameters}
use Rattle.pages.specs.Shape.{stretch}
use Rattle.placement.specs.File.{File}
use Rattle.placement.specs.Shape.{Sized}
use Rattle.placement.specs.Hash.{sound_at}
use Rattle.placement.specs.Shape.{homes_of}
use Rattle.placement.specs.Ready.{Pooled}

-- valid parameters, and a file and a pool as long as they say
pub record Placeable (g : Geometry) (f : File) (pool waiting poolowners : List ℕ) : Type 0 where
  pub valid : valid_parameters g.parameters ≡ true
  pub sized : Sized g.parameters.places g.parameters.pages f
  pub pooled : Pooled g.parameters pool waiting poolowners

-- the pages of two files from page lo on are the same
pub record AlikeFrom (places lo : ℕ) (f g : File) : Type 0 where
  pub separators : drop lo f.separators ≡ drop lo g.separators
  pub numbers : drop (lo * places) f.numbers ≡ drop (lo * places) g.numbers
  pub words : drop (lo * places) f.words ≡ drop (lo * places) g.words
  pub owners : drop (lo * places) f.owners ≡ drop (lo * places) g.owners

-- n pages from lo on, sound in the file that was stored before pages below them were placed anew; the pool holds the homes of their items
pub record SoundBlock (g : Geometry) (lo n : ℕ) (f : File) (pool waiting poolowners : List ℕ) : Type 0 where
  pub ready : Placeable g f pool waiting poolowners
  pub some : 0 < n
  pub inside : lo + n ≤ g.parameters.pages
  pub stored : File
  pub sized : Sized g.parameters.places g.parameters.pages stored
  pub alike : AlikeFrom g.parameters.places lo f stored
  pub sound : (q : ℕ) → lo ≤ q → q < lo + n → sound_at g.parameters g.growth stored q ≡ true
  pub homes :
      stretch g.parameters.places lo n pool
      ≡ homes_of g.parameters g.growth (stretch g.parameters.places lo n f.numbers)
