-- The counters lack the words from i on, and those before i are signed.
use Rattle.std.proofs.Common.{◌≡◌}
use Rattle.page_separator.specs.Probes.{Signed, factor_of, signature_of}
use Rattle.page_separator.proofs.Counting.{Lacking}
use Rattle.page_separator.proofs.signatures.tally_signatures.Given as goal

abbrev pub invariant-loop-i : goal.invariant-loop-i
invariant-loop-i l = record {
  factor : l.factor ≡ factor_of l.parameters l.factor.probe;
  counts : Lacking (signature_of l.parameters l.page) 256 l.waiting l.from l.reach l.counts l.i;
  signed : Signed l.parameters l.page l.from l.i l.waiting l.signatures;
}
