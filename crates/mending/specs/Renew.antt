-- All pages placed anew over the stars of the words l. Assumes nothing.
use Rattle.std.specs.Prelude.{Bool, cond, List, [], map, ℕ, eqb, length}
use Rattle.hashing.specs.declared.Parameters.{Parameters}
use Rattle.placement.specs.File.{File, replaced}
use Rattle.placement.proofs.Mapping.{mapped}
use Rattle.page_plan.specs.Sources.{renamed}
use Rattle.page_plan.specs.Plans.{plans, remains}

-- nothing is carried past the last page
unfoldable pub words_fit : Parameters → List ℕ → Bool
words_fit p l = eqb (length (remains p 0 0 p.pages [] l)) 0

unfoldable pub words_placed : Parameters → File → List ℕ → File
words_placed p f l =
    cond (words_fit p l) (replaced p.places f 0 (map (mapped (renamed f.words f.owners 0 0)) (plans p 0 0 p.pages [] l))) f
