-- The entry of a held star by the papers' values.
use mathlib.Core.Path.{◌≡◌, refl, ap, ◌∙◌}
use mathlib.Core.Bool.{Bool, true, false, cond}
use Prim.Native.Nat.{ℕ}
use lib.Dec.{eqb}
use Rattle.calls.specs.declared.answers.Refusal.TheVariants.{Held}
use Rattle.calls.specs.declared.answers.Placed.{Placed}
use Rattle.calls.specs.declared.answers.Placed.TheVariants.{On, Refused}
use Rattle.calls.specs.Answers.{accepted_at, refused_at, refused_by, placed}
use Rattle.outcome_answer.specs.Outcomes.{again_placed}

again-placed : (page place stored word : ℕ) → placed (again_placed page place stored word) ≡ cond (eqb stored word) (accepted_at page place) (refused_at 6 0 place)
unfolding placed refused_by
again-placed page place stored word = go (eqb stored word)
  where
    go : (t : Bool) → placed (cond t (On page place) (Refused Held place)) ≡ cond t (accepted_at page place) (refused_at 6 0 place)
    go true = refl
    go false = refl

-- .. with the page, place and word as the definitions of the calls name them
pub again-is : (r : Placed) (page place stored word page' place' stored' : ℕ) → r ≡ again_placed page place stored word → page ≡ page' → place ≡ place' → stored ≡ stored'
    → placed r ≡ cond (eqb stored' word) (accepted_at page' place') (refused_at 6 0 place')
again-is r page place stored word page' place' stored' e ep el es =
    ap placed e ∙ again-placed page place stored word ∙ rw (ep, el, es)
