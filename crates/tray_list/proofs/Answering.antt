-- The latest report on a star, read one by one, and what it answers.
use mathlib.Core.Path.{◌≡◌, refl, ap, ◌∙◌}
use mathlib.Core.Bool.{Bool, true, false, cond}
use mathlib.Core.List.{List, [], ◌∷◌, ◌++◌}
use Prim.Native.Nat.{ℕ, suc, ◌+◌, ◌<◌}
use lib.Dec.{eqb}
use lib.ListN.{length, take, get_or}
use lib.Seq.{take-suc}
use Rattle.calls.specs.declared.answers.Answer.{Answer}
use Rattle.reports.specs.declared.Report.{Report}
use Rattle.reports.specs.Reports.{no_report, latest_or, reported}
use Rattle.tray_list.specs.declared.reading.Latest.{Latest}
use Rattle.tray_list.specs.Latest.{later, latest_in, or_plain, nothing}

latest-last : (k : ℕ) (l : Latest) (xs : List Report) (x : Report) → latest_in k l (xs ++ (x ∷ [])) ≡ later k (latest_in k l xs) x
unfolding latest_in
latest-last k l [] x = refl
latest-last k l (y ∷ ys) x = latest-last k (later k l y) ys x

-- one report more
pub latest-next : (k : ℕ) (l : Latest) (ys : List Report) (i : ℕ) → i < length ys → later k (latest_in k l (take i ys)) (get_or ys i no_report) ≡ latest_in k l (take (suc i) ys)
latest-next k l ys i h = rw (take-suc ys i no_report h, latest-last)

later-answers : (M k : ℕ) (l : Latest) (x : Report) (plain : Answer) → or_plain M (later k l x) plain ≡ cond (eqb x.number k) (reported M x) (or_plain M l plain)
unfolding later or_plain
later-answers M k l x plain = go (eqb x.number k)
  where
    go : (t : Bool) → cond (cond t (record { found = t; report = x }) l).found (reported M (cond t (record { found = t; report = x }) l).report) plain ≡ cond t (reported M x) (cond l.found (reported M l.report) plain)
    go true = refl
    go false = refl

-- it answers as the definition's latest report, or else as `plain`
pub latest-answers : (M k : ℕ) (l : Latest) (xs : List Report) (plain : Answer) → or_plain M (latest_in k l xs) plain ≡ latest_or M k xs (or_plain M l plain)
unfolding latest_in latest_or
latest-answers M k l [] plain = refl
latest-answers M k l (x ∷ xs) plain = latest-answers M k (later k l x) xs plain ∙ ap (latest_or M k xs) (later-answers M k l x plain)

pub nothing-answers : (M : ℕ) (plain : Answer) → or_plain M nothing plain ≡ plain
unfolding or_plain nothing
nothing-answers M plain = refl

pub latest-none : (k : ℕ) (ys : List Report) → nothing ≡ latest_in k nothing (take 0 ys)
unfolding latest_in
latest-none k ys = refl
