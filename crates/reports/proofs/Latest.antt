-- Which report answers, and which reports stay after a filing.
use mathlib.Core.Path.{◌≡◌, refl, ap, ◌∙◌}
use mathlib.Core.Bool.{Bool, true, false, cond}
use mathlib.Core.List.{List, [], ◌∷◌, ◌++◌}
use Prim.Native.Nat.{ℕ, suc, ◌+◌}
use native.Mathlib.Nat.{zero-add, suc-add}
use lib.Dec.{eqb}
use lib.ListN.{length, drop}
use Rattle.hashing.specs.declared.Parameters.{Parameters}
use Rattle.placement.specs.File.{File}
use Rattle.calls.specs.declared.records.GrowthRecord.{GrowthRecord}
use Rattle.calls.specs.declared.answers.Answer.{Answer}
use Rattle.calls.specs.Answers.{Pool}
use Rattle.reports.specs.Reports.{Report, reported, latest_or}
use Rattle.reports.specs.Filing.{report_filed, one_more_lem, filed_from}

-- "the latest on a star answers": the last report does if it is on the star, and otherwise the others
pub latest : (M k : ℕ) (xs : List Report) (x : Report) (plain : Answer)
    → latest_or M k (xs ++ (x ∷ [])) plain ≡ cond (eqb x.number k) (reported M x) (latest_or M k xs plain)
unfolding latest_or
latest M k [] x plain = refl
latest M k (y ∷ xs) x plain = latest M k xs x (cond (eqb y.number k) (reported M y) plain)

-- "Filed reports .. leave the tray": as many as were filed, from the front
pub rest-is : (p : Parameters) (r : GrowthRecord) (f : File) (pool : Pool) (xs : List Report) → (filed_from p r f pool xs).rest ≡ drop (filed_from p r f pool xs).filed xs
unfolding filed_from
rest-is p r f pool [] = refl
rest-is p r f pool (x ∷ xs) = go (eqb (report_filed p r f pool x).answer.refusal 0) (rest-is p r (report_filed p r f pool x).file pool xs)
  where
    go : (y : Bool)
        → (filed_from p r (report_filed p r f pool x).file pool xs).rest ≡ drop (filed_from p r (report_filed p r f pool x).file pool xs).filed xs
        → (cond y
        (one_more_lem (filed_from p r (report_filed p r f pool x).file pool xs))
        (record { filed = 0; answer = (report_filed p r f pool x).answer; file = (report_filed p r f pool x).file; rest = x ∷ xs })).rest
        ≡ drop (cond y
        (one_more_lem (filed_from p r (report_filed p r f pool x).file pool xs))
        (record { filed = 0; answer = (report_filed p r f pool x).answer; file = (report_filed p r f pool x).file; rest = x ∷ xs })).filed (x ∷ xs)
    go true h = h
    go false h = refl

pub filed-and_rest : (p : Parameters) (r : GrowthRecord) (f : File) (pool : Pool) (xs : List Report)
    → (filed_from p r f pool xs).filed + length (filed_from p r f pool xs).rest ≡ length xs
unfolding filed_from
filed-and_rest p r f pool [] = refl
filed-and_rest p r f pool (x ∷ xs) = go (eqb (report_filed p r f pool x).answer.refusal 0) (filed-and_rest p r (report_filed p r f pool x).file pool xs)
  where
    go : (y : Bool)
        → (filed_from p r (report_filed p r f pool x).file pool xs).filed + length (filed_from p r (report_filed p r f pool x).file pool xs).rest ≡ length xs
        → (cond y
        (one_more_lem (filed_from p r (report_filed p r f pool x).file pool xs))
        (record { filed = 0; answer = (report_filed p r f pool x).answer; file = (report_filed p r f pool x).file; rest = x ∷ xs })).filed
        + length (cond y
        (one_more_lem (filed_from p r (report_filed p r f pool x).file pool xs))
        (record { filed = 0; answer = (report_filed p r f pool x).answer; file = (report_filed p r f pool x).file; rest = x ∷ xs })).rest
        ≡ suc (length xs)
    go true h = suc-add _ _ ∙ ap suc h
    go false h = zero-add (suc (length xs))
