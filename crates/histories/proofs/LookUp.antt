-- Look-ups.
use mathlib.Core.Path.{◌≡◌, refl, ap, ◌∙◌}
use mathlib.Core.Bool.{Bool, true, false, cond}
use mathlib.Core.Option.{Option, none, some}
use Prim.Native.Nat.{ℕ, ◌≤◌}
use native.Mathlib.Omega.{arith}
use lib.ListN.{get_or}
use Rattle.hashing.specs.declared.Parameters.{Parameters}
use Rattle.pages.specs.declared.position.Position.{Position}
use Rattle.pages.specs.Position.{valid_number, unpacked}
use Rattle.pages.proofs.Words.{unpack_pack}
use Rattle.placement.specs.Hash.{named_page_lem}
use Rattle.calls.specs.Answers.{Pool, spotted, accepted_at, refused, found_at}
use Rattle.calls.specs.Calls.{unless, guarded, unchanged, holds, item_of, looked_up, look_up_of}
use Rattle.histories.specs.Model.{Model, look_up_lem, updated, held_position, model_file, page_for, place_on_lem, answer_with, answered}
use Rattle.histories.proofs.Entries.{position-valid}
use Rattle.histories.proofs.Fitting.{Fitting, in_range, named-readable}
use Rattle.histories.proofs.Held.{held, held_word, not_held}
use Rattle.histories.proofs.Guards.{lent}
use Rattle.histories.proofs.Conforms.{Conforms, refused-conforms, accepted-conforms}

module _ (p : Parameters) (m : Model) (t : Fitting p m) where
  pub looks_up : (k : ℕ) → 1 ≤ k → looked_up p m.growth (model_file p m) (page_for p m k) k ≡ answered p m k
  unfolding looked_up answered answer_with
  looks_up k h = rw (named-readable p m t k) (go (held_position k m.entries) refl)
    where
      page : ℕ
      page = page_for p m k

      go : (o : Option Position) → held_position k m.entries ≡ o
          → cond (holds p (model_file p m) page k) (found_at page (place_on_lem p m k) (unpacked (get_or (model_file p m).words (item_of p (model_file p m) page k) 0))) (accepted_at page (place_on_lem p m k))
          ≡ answer_with o page (place_on_lem p m k)
      go none e = rw (not_held p m t k h e)
      go (some q) e =
          rw (held p m t k q e, held_word p m t k q e, unpack_pack q (position-valid 1 k q m.entries t.ordered e).position)

  pub answer-accepted : (k : ℕ) → (answered p m k).refusal ≡ 0
  unfolding answered answer_with spotted found_at
  answer-accepted k = go (held_position k m.entries)
    where
      go : (o : Option Position) → (answer_with o (page_for p m k) (place_on_lem p m k)).refusal ≡ 0
      go none = refl
      go (some q) = refl

  pub look_up_conforms : (pool : Pool) (k : ℕ) → Conforms p m (look_up_lem k) (look_up_of p m.growth (model_file p m) pool k)
  unfolding look_up_of updated page_for named_page_lem spotted
  look_up_conforms pool k = rw (lent p m t) (go (valid_number k) refl)
    where
      go : (v : Bool) → valid_number k ≡ v
          → Conforms p m (look_up_lem k) (guarded m.growth (model_file p m) pool (unless v 3) (unchanged m.growth (model_file p m) pool (looked_up p m.growth (model_file p m) (page_for p m k) k)))
      go false v = refused-conforms p m t (look_up_lem k) pool (refused 3 0) (λ e. omega arith) (λ e. omega arith)
      go true v =
          let same = looks_up k (in_range k v).0 in
          accepted-conforms p m t (look_up_lem k) (unchanged m.growth (model_file p m) pool (looked_up p m.growth (model_file p m) (page_for p m k) k))
          (rw same (answer-accepted k))
          refl
          refl
          t
          (λ j e.
          let d : k ≡ j = cc in
          same ∙ ap (answered p m) d)
