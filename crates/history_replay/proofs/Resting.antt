-- A replay opens no growth: under a closed record each of its calls is the call on (e, x), and the record stays closed.
use mathlib.Core.Path.{◌≡◌, refl, ap, sym, ◌∙◌}
use mathlib.Core.Bool.{Bool, true, false, cond}
use Prim.Native.Nat.{ℕ}
use lib.Dec.{eqb}
use Rattle.hashing.specs.declared.Parameters.{Parameters}
use Rattle.hashing.specs.declared.Growth.{Growth}
use Rattle.pages.specs.declared.position.Position.{Position}
use Rattle.placement.specs.File.{File}
use Rattle.calls.specs.declared.records.GrowthRecord.{GrowthRecord}
use Rattle.calls.specs.Answers.{Pool, unpooled}
use Rattle.calls.specs.Records.{
  valid_steps,
  closed_record,
  look_up_under,
  enter_under,
  cascade_under,
  change_under,
  remove_under,
  grow_under,
  shrink_under,
  due_under,
  check_under,
}
use Rattle.histories.specs.Model.{Request, look_up_lem, enter, cascade, change, remove, grow, shrink, due, check}
use Rattle.histories.specs.Call.{Outcome, keeping_pool, on_file, step}
use Rattle.history_replay.specs.Replay.{request_of}
use Rattle.history_replay.specs.Steps.{call_at}
use Rattle.history_replay.proofs.Stepping.{change_over}

module _ (p : Parameters) (f second set : File) (pool : Pool) (kind caller k : ℕ) (q : Position) where
  -- the request of a kind, by which one it is
  abbrev by : Bool → Bool → Bool → Bool → Bool → Bool → Bool → Bool → Request
  by is0 is1 is8 is2 is3 is4 is5 is7 =
      cond is0
      (look_up_lem k)
      (cond is1
      (enter caller k q)
      (cond is8
      (cascade caller k q)
      (cond is2 (change caller k q) (cond is3 (remove caller k) (cond is4 grow (cond is5 due (cond is7 shrink check)))))))

  each-kind : (g : Growth) (is0 is1 is8 is2 is3 is4 is5 is7 : Bool)
      → step p (closed_record g) f second set pool (by is0 is1 is8 is2 is3 is4 is5 is7)
      ≡ on_file p (closed_record g) second (call_at p g f pool (by is0 is1 is8 is2 is3 is4 is5 is7))
  unfolding step call_at look_up_under enter_under cascade_under change_under remove_under grow_under shrink_under due_under check_under valid_steps
  each-kind g true is1 is8 is2 is3 is4 is5 is7 = refl
  each-kind g false true is8 is2 is3 is4 is5 is7 = refl
  each-kind g false false true is2 is3 is4 is5 is7 = refl
  each-kind g false false false true is3 is4 is5 is7 =
      ap (on_file p (closed_record g) second) (ap (keeping_pool pool) (change_over p g f unpooled caller k q) ∙ sym (change_over p g f pool caller k q))
  each-kind g false false false false true is4 is5 is7 = refl
  each-kind g false false false false false true is5 is7 = refl
  each-kind g false false false false false false true is7 = refl
  each-kind g false false false false false false false true = refl
  each-kind g false false false false false false false false = refl

  pub at_rest : (g : Growth)
      → step p (closed_record g) f second set pool (request_of kind caller k q) ≡ on_file p (closed_record g) second (call_at p g f pool (request_of kind caller k q))
  unfolding request_of
  at_rest g = each-kind g (eqb kind 0) (eqb kind 1) (eqb kind 8) (eqb kind 2) (eqb kind 3) (eqb kind 4) (eqb kind 5) (eqb kind 7)

  -- the parameters stay
  pub keeps-parameters : (r : GrowthRecord) → r ≡ closed_record r.state → (step p r f second set pool (request_of kind caller k q)).parameters ≡ p
  keeps-parameters r e =
      ap (λ (s : GrowthRecord). (step p s f second set pool (request_of kind caller k q)).parameters) e
      ∙ ap (λ (o : Outcome). o.parameters) (at_rest r.state)

  -- so a closed record is closed after it
  pub closed_after : (r : GrowthRecord) → r ≡ closed_record r.state
      → (step p r f second set pool (request_of kind caller k q)).growth ≡ closed_record (step p r f second set pool (request_of kind caller k q)).growth.state
  closed_after r e =
      let a : (step p r f second set pool (request_of kind caller k q)).growth ≡ closed_record (call_at p r.state f pool (request_of kind caller k q)).growth =
      ap (λ (s : GrowthRecord). (step p s f second set pool (request_of kind caller k q)).growth) e
      ∙ ap (λ (o : Outcome). o.growth) (at_rest r.state) in
      a ∙ ap (λ (s : GrowthRecord). closed_record s.state) (sym a)
