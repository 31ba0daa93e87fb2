-- The last word's factor where the probes agree, else the table's. Assumes nothing.
use mathlib.Core.Path.{ap, sym, ◌∙◌}
use Prim.Native.Nat.{ℕ, ◌+◌, ◌-◌, ◌*◌, ◌<◌}
use lib.ListN.{length}
use Rattle.hashing.specs.Geometry.{multiplier_of}
use Rattle.generator.proofs.Powers.{lent-entry}
use Rattle.page_separator.specs.Probes.{factor_of}
use Rattle.page_separator.proofs.signatures.factor_for.Lts as lts
use Rattle.page_separator.proofs.signatures.factor_for.Tie as tie
use Rattle.page_separator.proofs.signatures.factor_for.Reads as reads
use Rattle.page_separator.proofs.signatures.factor_for.Goals as goal

abbrev Else-probe-last : Type 0
Else-probe-last = lts.Else1 tie.the-claims reads.Pre reads.Post tie.handed_clauses

pub returns-then-probe-last : goal.returns-then-probe-last
returns-then-probe-last c =
    let s = c.before.before.before.before.before in
    s.requires.last_value
    ∙ ap (factor_of s.args.parameters) (sym c.if-probe-last.true ∙ ap (λ (h : ℕ). s.args.page - h + 1) c.home_of.ensures)

-- the entry is one of the table
entry : (c : Else-probe-last) → 2 * (c.args.page - c.home_of.result + 1) < length c.args.table.now
entry c =
    let s = c.before.before.before.before in
    rw c.home_of.ensures s.requires.word_in_bounds

pub bounds-table-probe : goal.bounds-table-probe
bounds-table-probe c = entry c.before.before

pub returns : goal.returns
unfolding factor_of
returns c =
    let e = c.before.before in
    let s = e.before.before.before.before in
    rw (lent-entry (multiplier_of s.args.parameters) _ s.requires.signers.table _ (entry e), e.home_of.ensures)
