-- What a page visited adds to the words carried to it.
use Rattle.std.specs.Prelude.{◌≡◌, true, false, List, ◌++◌, ℕ, ◌+◌, ◌*◌, ◌<◌, length, take}
use Rattle.hashing.specs.declared.Parameters.{Parameters}
use Rattle.hashing.specs.declared.Growth.{Growth}
use Rattle.hashing.specs.declared.Geometry.{Geometry}
use Rattle.placement.specs.File.{File}
use Rattle.pages.specs.Page.{part}
use Rattle.placement.specs.Hash.{sound_at}
use Rattle.placement.specs.Shape.{homes_of}
use Rattle.placement.specs.Lent.{Lent}
use Rattle.soundness.specs.Survey.{sound_in}
use Rattle.entry_reach.specs.Pushing.{page_words}
use Rattle.entry_cascade.specs.declared.arriving.Taken.{Taken}
use Rattle.entry_cascade.specs.declared.arriving.Taken.TheVariants.{Joined, Unsound, Crowded}

pub record Joins (p : Parameters) (g : Growth) (f : File) (q end : ℕ) (W W' : List ℕ) (reach : ℕ) : Type 0 where
  pub sound : sound_at p g f q ≡ true
  pub ends : reach ≡ end + length (page_words p g f q)
  pub words : take reach W' ≡ take end W ++ page_words p g f q

pub record Crowds (p : Parameters) (g : Growth) (f : File) (q end : ℕ) : Type 0 where
  pub sound : sound_at p g f q ≡ true
  pub many : p.pages * p.places < end + length (page_words p g f q)

abbrev pub TakenIn : Parameters → Growth → File → ℕ → ℕ → List ℕ → List ℕ → Taken → Type 0
TakenIn p g f q end W W' (Joined reach) = Joins p g f q end W W' reach
TakenIn p g f q end W W' Unsound = sound_at p g f q ≡ false
TakenIn p g f q end W W' Crowded = Crowds p g f q end

-- the words that have come stand before `end`
abbrev pub TakesIn : Geometry → File → ℕ → ℕ → Lent → Taken → Type 0
TakesIn g f q end waiting r = TakenIn g.parameters g.growth f q end waiting.entry.now waiting.exit.now r

-- the page whose numbers, words and owners these are is sound, and the pool holds its homes
pub record KnownValue (g : Geometry) (seps : List ℕ) (page : ℕ) (ns ws os pool : List ℕ) : Type 0 where
  pub sound : sound_in g.parameters g.growth seps page (take g.parameters.places ns) (take g.parameters.places ws) (take g.parameters.places os) ≡ true
  pub kept : part g.parameters.places page pool ≡ homes_of g.parameters g.growth (take g.parameters.places ns)
