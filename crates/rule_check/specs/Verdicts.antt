-- What is told of a whole file: document 01, "The cut".
use Rattle.std.specs.Prelude.{cond, ℕ, suc, ◌*◌, ◌/◌, ◌%◌, ltb}
use Rattle.hashing.specs.declared.Parameters.{Parameters}
use Rattle.hashing.specs.declared.Growth.{Growth}
use Rattle.placement.specs.File.{File}
use Rattle.reach.specs.Reach.{first_unsound_lem}
use Rattle.calls.specs.Shape.{spot_of}
use Rattle.rule_check.specs.declared.telling.Verdict.{Verdict}
use Rattle.rule_check.specs.declared.telling.Verdict.TheVariants.{Clean, Differs, Unsound}

-- "Check tells of the lowest unsound page; if all are sound, the search stops at the first page and place that differ from the rule"
unfoldable pub verdict_of : Parameters → ℕ → ℕ → Verdict
verdict_of p bad spot =
    cond (ltb bad p.pages)
    (Unsound bad)
    (cond (ltb spot (p.pages * suc p.places)) (Differs (spot / suc p.places) (spot % suc p.places)) Clean)

abbrev pub verdict_for : Parameters → Growth → File → Verdict
verdict_for p g f = verdict_of p (first_unsound_lem p g f 0 p.pages) (spot_of p g f)
