-- What is to be shown of a call under a growth record, at a state whose file and second set are the model's.
use mathlib.Core.Path.{◌≡◌}
use mathlib.Core.Bool.{true, false}
use mathlib.Core.List.{[], Memᴰ}
use Prim.Native.Nat.{ℕ, ◌-◌, ◌<◌}
use lib.Dec.{eqb}
use Rattle.hashing.specs.declared.Parameters.{Parameters}
use Rattle.hashing.specs.Geometry.{highest, grown}
use Rattle.placement.specs.Rule.{left}
use Rattle.placement.specs.File.{File}
use Rattle.placement.specs.Hash.{hash_of}
use Rattle.calls.specs.declared.records.GrowthRecord.{GrowthRecord}
use Rattle.calls.specs.Answers.{Pool}
use Rattle.calls.specs.Records.{valid_steps}
use Rattle.histories.specs.Model.{Model, Request, look_up_lem, Made, calls_made, fed_by, model_file, unfinished_file, answered}
use Rattle.histories.specs.Call.{Element, plain, Outcome, counts_as, feeding, tells_of_file}
use Rattle.histories.proofs.Fitting.{Fitting, stars_for}
use Rattle.histories.proofs.Conforms.{fed_with}

-- A growth that was opened, and so would be accepted, with so many steps done.
pub record Unfinished (p : Parameters) (m : Model) (steps : ℕ) (second : File) : Type 0 where
  pub inside : steps < p.pages
  pub possible : eqb (highest p m.growth) (p.pages - 1) ≡ false
  pub fits : left (hash_of p (grown p m.growth)) 0 p.pages (stars_for m) ≡ []
  pub pages_done : second ≡ unfinished_file p m steps

-- Growth record, file and second set are the model's.
pub record Matches (p : Parameters) (m : Model) (r : GrowthRecord) (f second : File) : Type 0 where
  pub growth : r.state ≡ m.growth
  pub file : f ≡ model_file p m
  pub fitting : Fitting p m
  pub steps : valid_steps p r ≡ true
  pub unfinished : r.growing ≡ true → Unfinished p m r.steps second

-- A request to the model's own file is answered as it should be and leaves what is the fed model's.
pub record ConformsUnder (p : Parameters) (m : Model) (r : GrowthRecord) (q : Request) (o : Outcome) : Type 0 where
  pub matches : Matches o.parameters (fed_with o.parameters (counts_as r q o) o.answer m) o.growth o.file o.second
  pub undamaged : o.answer.refusal ≡ 5 → ⊥
  pub found : (k : ℕ) → q ≡ look_up_lem k → o.answer.refusal ≡ 0 → o.answer ≡ answered p m k

-- An element on the model's own file f, lent a pool, does so.
pub record ElementConforms (p : Parameters) (m : Model) (r : GrowthRecord) (f : File) (pool : Pool) (e : Element) (o : Outcome) : Type 0 where
  pub matches : Matches o.parameters (fed_by o.parameters (feeding p r f pool o e) m) o.growth o.file o.second
  pub undamaged : tells_of_file e ≡ true → o.answer.refusal ≡ 5 → ⊥
  pub each : (c : Made) → Memᴰ c (calls_made (feeding p r f pool o e)) → c.refusal ≡ 5 → ⊥
  pub found : (k : ℕ) → e ≡ plain (look_up_lem k) → o.answer.refusal ≡ 0 → o.answer ≡ answered p m k
