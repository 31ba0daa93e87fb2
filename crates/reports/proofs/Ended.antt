-- A whole filing: the reports that it filed are the first ones, each was accepted, and they left its file.
use mathlib.Core.Path.{◌≡◌, refl, sym, ap}
use mathlib.Core.Bool.{Bool, true, false}
use mathlib.Core.List.{List, [], ◌∷◌}
use Prim.Native.Nat.{ℕ, ◌≤◌}
use native.Mathlib.Omega.{arith}
use lib.Dec.{eqb}
use lib.ListN.{length, take}
use borrow.Author.Tests.{eqb-false}
use Rattle.hashing.specs.declared.Parameters.{Parameters}
use Rattle.placement.specs.File.{File}
use Rattle.calls.specs.declared.records.GrowthRecord.{GrowthRecord}
use Rattle.calls.specs.Answers.{Pool, After, spotted, accepted}
use Rattle.reports.specs.Reports.{Report}
use Rattle.reports.specs.Filing.{report_filed, Filed, one_more_lem, filed_from}
use Rattle.reports.proofs.Trying.{Begun, goes_on, NotOwn, not_own-0, Tried, report-tried}

-- all of n reports filed, which left h
abbrev pub all_filed : ℕ → File → Filed
all_filed n h = record { filed = n; answer = accepted 0; file = h; rest = [] }

-- filed with what it filed, the rest being left
pub record Ended (p : Parameters) (r : GrowthRecord) (f : File) (pool : Pool) (xs : List Report) (d : Filed) : Type 0 where
  pub within : d.filed ≤ length xs
  -- these alone leave the same file: a report that was refused left it
  pub done : filed_from p r f pool (take d.filed xs) ≡ all_filed d.filed d.file
  -- with the lengths that the calls need
  pub ready : Begun p r d.file pool
  pub number : NotOwn d.answer.refusal

pub ended : (p : Parameters) (r : GrowthRecord) (f : File) (pool : Pool) (xs : List Report) → Begun p r f pool → Ended p r f pool xs (filed_from p r f pool xs)
unfolding filed_from spotted
ended p r f pool [] t = record { within = omega arith; done = refl; ready = t; number = not_own-0 }
ended p r f pool (x ∷ xs) t = go (eqb after.answer.refusal 0) refl (ended p r after.file pool xs onward)
  where
    after : After
    after = report_filed p r f pool x

    tried : Tried p r.state f pool after
    tried = report-tried p r f pool t x

    onward : Begun p r after.file pool
    onward = goes_on p r f pool after.file t tried.fits

    go : (y : Bool) → eqb after.answer.refusal 0 ≡ y → Ended p r after.file pool xs (filed_from p r after.file pool xs)
        → Ended p r f pool (x ∷ xs) (filed_from p r f pool (x ∷ xs))
    go true e ih =
        rw e
        (record {
          within = omega (arith, ih.within);
          done = rw e (ap (λ (d : Filed). one_more_lem d) ih.done);
          ready = ih.ready;
          number = ih.number;
        })
    go false e ih =
        rw e
        (record {
          within = omega arith;
          done = ap (all_filed 0) (sym (tried.kept (eqb-false after.answer.refusal 0 e)));
          ready = onward;
          number = tried.number;
        })
