-- What a decision answers, and the file when all of it is stored.
use Rattle.std.specs.Prelude.{List, ℕ, ◌+◌, ◌≤◌, ◌<◌, length}
use Rattle.hashing.specs.declared.Parameters.{Parameters}
use Rattle.placement.specs.Rule.{Star, insert, without, star_with}
use Rattle.placement.specs.File.{File}
use Rattle.placement.specs.Hash.{lent}
use Rattle.page_edit.specs.Shift.{stars_on, number_at, Vacant, Occupied}
use Rattle.page_plan.proofs.Applying.{applied}
use Rattle.page_plan.specs.declared.outcome.Outcome.{Outcome}
use Rattle.page_plan.specs.declared.outcome.Outcome.TheVariants.{On, Unsound as outcome·Unsound, Overflows as outcome·Overflows}
use Rattle.decision.specs.declared.chosen.Decision.{Decision}
use Rattle.decision.specs.declared.chosen.Decision.TheVariants.{Unsound, Overflows, Put, Take, Planned}
use Rattle.decision.specs.declared.chosen.Newcomer.{Newcomer}
use Rattle.decision.specs.Edits.{standing}

abbrev pub newcomer : Newcomer → Star
newcomer s = star_with s.number s.word s.owner

abbrev pub outcome_of_lem : Decision → Outcome
outcome_of_lem (Unsound page) = outcome·Unsound page
outcome_of_lem Overflows = outcome·Overflows
outcome_of_lem (Put page place) = On page
outcome_of_lem (Take page place) = On page
outcome_of_lem (Planned lo count page) = On page

-- the file with these stars on the page in the place of its own
abbrev pub with_stars : ℕ → File → ℕ → List Star → File
with_stars places f page stars =
    lent f.separators
    (standing places page (λ (s : Star). s.number) stars f.numbers)
    (standing places page (λ (s : Star). s.payload.word) stars f.words)
    (standing places page (λ (s : Star). s.payload.owner) stars f.owners)

abbrev pub stars_there : ℕ → File → ℕ → List Star
stars_there places f page = stars_on places page f.numbers f.words f.owners

abbrev pub carried_out : ℕ → Star → List ℕ → List ℕ → File → Decision → File
carried_out places s pool planned f (Unsound page) = f
carried_out places s pool planned f Overflows = f
carried_out places s pool planned f (Put page place) = with_stars places f page (insert s (stars_there places f page))
carried_out places s pool planned f (Take page place) = with_stars places f page (without (number_at places page place f.numbers) (stars_there places f page))
carried_out places s pool planned f (Planned lo count page) = applied places lo count s.number s.payload.word s.payload.owner pool planned f

-- what carrying it out needs: room for the star k, a star to take, or a stretch within the file
abbrev pub Feasible : Parameters → File → ℕ → List ℕ → Decision → Type 0
Feasible p f k planned (Unsound page) = Unit {0}
Feasible p f k planned Overflows = Unit {0}
Feasible p f k planned (Put page place) = (page < p.pages) × Vacant p.places page place k f.numbers f.words f.owners
Feasible p f k planned (Take page place) = (page < p.pages) × Occupied p.places page place f.numbers f.words f.owners
Feasible p f k planned (Planned lo count page) = (lo + count ≤ p.pages) × (lo + count ≤ length planned)
