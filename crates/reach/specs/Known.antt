-- A page that a caller has tested before it asks for a survey.
use Rattle.std.specs.Prelude.{◌≡◌, true, List, ℕ, ◌<◌}
use Rattle.hashing.specs.declared.Parameters.{Parameters}
use Rattle.hashing.specs.declared.Growth.{Growth}
use Rattle.pages.specs.Page.{part}
use Rattle.placement.specs.File.{File}
use Rattle.placement.specs.Hash.{sound_at}
use Rattle.placement.specs.Shape.{homes_of}

-- if it is one of the file's, it is sound, and its homes are kept; the page past them says nothing
pub record Known (p : Parameters) (g : Growth) (f : File) (homes : List ℕ) (page : ℕ) : Type 0 where
  pub sound : page < p.pages → sound_at p g f page ≡ true
  pub kept : page < p.pages → part p.places page homes ≡ homes_of p g (part p.places page f.numbers)
