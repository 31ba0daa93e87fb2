-- What comes of placing pages anew, as answers of the calls. Their pages are small enough for 32 bits.
use Rattle.std.specs.Prelude.{cond, ℕ, ◌^◌, ◌<◌, eqb}
use Rattle.hashing.specs.declared.Growth.{Growth}
use Rattle.page_plan.specs.declared.outcome.Outcome.{Outcome}
use Rattle.page_plan.specs.declared.outcome.Outcome.TheVariants.{On, Unsound, Overflows}
use Rattle.calls.specs.declared.answers.Refusal.{Refusal}
use Rattle.calls.specs.declared.answers.Refusal.TheVariants.{Damaged, Full, Held}
use Rattle.calls.specs.declared.answers.Placed.{Placed}
use Rattle.calls.specs.declared.answers.Placed.TheVariants.{On as placed·On, Refused}
use Rattle.calls.specs.declared.answers.Grown.{Grown}

abbrev pub OutcomeSmall : Outcome → Type 0
OutcomeSmall (On page) = page < 2 ^ 32
OutcomeSmall (Unsound page) = page < 2 ^ 32
OutcomeSmall Overflows = Unit {0}

abbrev pub outcome_placed : Outcome → ℕ → Placed
outcome_placed (On page) place = placed·On page place
outcome_placed (Unsound page) place = Refused (Damaged page) place
outcome_placed Overflows place = Refused Full place

-- "a held star with exactly its stored position is now accepted .. Any other position is 6": document 02 (v)
abbrev pub again_placed : ℕ → ℕ → ℕ → ℕ → Placed
again_placed page place stored word = cond (eqb stored word) (placed·On page place) (Refused Held place)

-- refused, with the growth state as it was
abbrev pub unmoved_by : Growth → Refusal → Grown
unmoved_by growth refusal = record { answer = Refused refusal 0; growth = growth }

-- accepted, with the growth state that it goes to
abbrev pub placed_grown : Placed → Growth → Growth → Grown
placed_grown (placed·On page place) growth next = record { answer = placed·On page place; growth = next }
placed_grown (Refused refusal place) growth next = unmoved_by growth refusal

abbrev pub outcome_grown : Outcome → Growth → Growth → Grown
outcome_grown outcome growth next = placed_grown (outcome_placed outcome 0) growth next
