use mathlib.Core.Path.{◌≡◌, sym, ap, ◌∙◌}
use mathlib.Core.List.{List}
use Prim.Native.Nat.{ℕ, ◌+◌, ◌-◌, ◌≤◌}
use native.Mathlib.Omega.{arith}
use lib.ListN.{take, drop}
use lib.Seq.{paste, length-take-le}
use Rattle.placement.specs.Hash.{named_page_lem}
use Rattle.entry_reach.proofs.Runs.{completed-kept, completed-is}
use Rattle.entry_reach.proofs.newcomers.name_page.Goals as goal

pub slice_bounds-named_from-end-2 : goal.slice_bounds-named_from-end-2
slice_bounds-named_from-end-2 c = sym (length-take-le c.args.geometry.parameters.pages c.copy-2.new.to (omega (arith, c.requires.separators_len.1, c.copy-2.auto.to, c.copy.auto.to)))

pub named_from-requires : goal.named_from-requires
named_from-requires c = record {
  homing = c.requires.homing;
  separators_len = length-take-le c.args.geometry.parameters.pages c.copy-2.new.to (omega (arith, c.requires.separators_len.1, c.copy-2.auto.to, c.copy.auto.to));
  home_value = c.requires.home_value;
}

pub returns : goal.returns
returns c =
    let s = c in
    let M = s.args.geometry.parameters.pages in
    let low : s.args.page ≤ s.args.end + 1 = omega (arith, s.requires.page_le_end.0) in
    let high : s.args.end + 1 ≤ M = omega (arith, s.requires.page_le_end.1) in
    let completed : c.copy-2.new.to
    ≡ paste (paste s.args.planned.now 0 s.args.separators.now s.args.page) (s.args.end + 1) (drop (s.args.end + 1) s.args.separators.now) (M - (s.args.end + 1)) =
    c.copy-2.ensures ∙ ap (λ (l : List ℕ). paste l (s.args.end + 1) (drop (s.args.end + 1) s.args.separators.now) (M - (s.args.end + 1))) c.copy.ensures in
    record {
      value = c.named_from.ensures
          ∙ ap (λ (l : List ℕ). named_page_lem s.args.geometry.parameters s.args.geometry.growth l s.args.number)
          (ap (take M) completed ∙ completed-is s.args.planned.now s.args.separators.now s.args.page (s.args.end + 1) M low high s.requires.separators_len.0 s.requires.separators_len.1);
      planned_unchanged = ap (λ (l : List ℕ). take (s.args.end + 1 - s.args.page) (drop s.args.page l)) completed
          ∙ completed-kept s.args.planned.now s.args.separators.now s.args.page (s.args.end + 1) M low high s.requires.separators_len.0 s.requires.separators_len.1;
    }
