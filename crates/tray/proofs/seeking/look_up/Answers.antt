-- `tray::seeking::look_up` meets its contract.
use mathlib.Core.Path.{sym, ap, ◌∙◌}
use Prim.Native.Nat.{ℕ}
use lib.ListN.{take}
use Rattle.placement.specs.Hash.{lent}
use Rattle.calls.specs.Shape.{admission_number}
use Rattle.tray_list.specs.Latest.{latest_in, nothing}
use Rattle.tray.proofs.Refused.{screen_most}
use Rattle.tray.proofs.Sought.{sought-refusal-is, combined_is}
use Rattle.tray.proofs.seeking.look_up.Goals as goal

pub latest_on-found-requires : goal.latest_on-found-requires
latest_on-found-requires c = c.screen-screened.ensures.1.1

pub answer-requires : goal.answer-requires
answer-requires c = rw c.screen-screened.ensures.0 (screen_most _ _ _ _)

pub returns : goal.returns
returns c =
    let a = c.args in
    let f = lent a.separators.now a.numbers.now a.words.now a.owners.now in
    let s = c.screen-screened in
    record {
      answer =
          c.answer.ensures
          ∙ combined_is a.parameters a.growth f a.reports.now a.count a.filter.now a.number (admission_number s.result.admission) c.latest_on-found.result
          (s.ensures.0 ∙ sym (sought-refusal-is a.parameters a.growth f a.reports.now a.count a.filter.now a.number))
          (c.latest_on-found.ensures ∙ ap (λ (n : ℕ). latest_in a.number nothing (take n a.reports.now)) s.ensures.1.0);
    }
