-- `tray_filter::counting::count_ones` meets its contract.
use Rattle.std.proofs.Common.{arith, rules, ◌≡◌, ◌∙◌, ◌<◌, ℕ, sym}
use Rattle.std.proofs.iter.runs.Made.{chains}
use Rattle.std.specs.List.{sum_by}
use Rattle.reports.specs.Bits.{ones}
use Rattle.tray_filter.proofs.Ones.{set_sum, few_ones}
use Rattle.tray_filter.proofs.counting.count_ones.Goals as goal

pub sum-requires-clause-fits : goal.sum-requires-clause-fits
sum-requires-clause-fits c =
    let fits : sum_by (λ (w : ℕ). ones w 64) c.args.filter.now < 4294967296 = omega (arith, few_ones c.args.filter.now, set_sum c.args.filter.now) in
    search (rules, chains)

pub returns : goal.returns
returns c =
    let e : c.sum.result ≡ sum_by (λ (w : ℕ). ones w 64) c.args.filter.now = search (rules, chains) in
    e ∙ sym (set_sum c.args.filter.now)
