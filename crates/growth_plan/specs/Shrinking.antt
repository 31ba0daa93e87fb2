-- A shrinking of pages that are the rule's, of which the one given back has not overflowed.
use Rattle.std.specs.Prelude.{◌≡◌, Bool, cond, List, ℕ, get_or}
use Rattle.hashing.specs.declared.Parameters.{Parameters}
use Rattle.hashing.specs.declared.Growth.{Growth}
use Rattle.hashing.specs.declared.Geometry.{Geometry}
use Rattle.hashing.specs.Geometry.{highest, shrunk}
use Rattle.generator.specs.Generator.{top_of_lem}
use Rattle.placement.specs.File.{File}
use Rattle.clean_test.specs.Raising.{first_raisable_lem}
use Rattle.page_plan.specs.declared.outcome.Outcome.TheVariants.{On, Overflows}
use Rattle.growth_plan.specs.Growth.{growth_answer, growth_file}

-- that page's separator is 2^k − 1, and no separator could be one greater
pub record Simple (g : Geometry) (vs ns : List ℕ) : Type 0 where
  pub top : get_or vs (highest g.parameters g.growth) 0 ≡ top_of_lem g.parameters.bits
  pub clean : first_raisable_lem g vs ns 0 g.parameters.pages ≡ g.parameters.pages

-- the file is the shrinking's, and so is the answer
pub record MovesOwn (p : Parameters) (g : Growth) (f f' : File) (r : Bool) : Type 0 where
  pub answers : (page : ℕ) → cond r (On page) Overflows ≡ growth_answer p g f (shrunk p g) page
  pub file : f' ≡ growth_file p g f (shrunk p g)
