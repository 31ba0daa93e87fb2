-- The pages from home and `from` up to the one before `probed` are counted.
use mathlib.Core.Path.{◌≡◌, sym, ap, ◌∙◌}
use mathlib.Core.List.{List}
use Prim.Native.Nat.{ℕ, ◌+◌, ◌-◌, ◌*◌, ◌%◌, ◌≤◌, ◌<◌}
use native.Mathlib.Omega.{arith}
use borrow.Author.Rules.{rules}
use lib.ListN.{length, get_or}
use Rattle.std.proofs.Common.{max}
use Rattle.hashing.specs.declared.Geometry.{Geometry}
use Rattle.generator.specs.Generator.{modulus, top_of_lem}
use Rattle.generator.proofs.Powers.{lent_below}
use Rattle.generator.proofs.Scrambling.{lent-signature}
use Rattle.hashing.proofs.Bounds.{limits}
use Rattle.placement.specs.Hash.{hash_of}
use Rattle.placement.specs.Shape.{home_under}
use Rattle.placement.specs.Ready.{Signers}
use Rattle.clean_test.specs.Raising.{hash_under}
use Rattle.clean_test.proofs.Counters.{probes-none, probes-counted, probes-skipped, probes-all}
use Rattle.clean_test.proofs.counts.count_passed.Goals as goal
use Rattle.clean_test.proofs.counts.count_passed.Goals.{then-signature-separators, else-signature-separators}

-- the code's signature is that of the rule
signed : (g : Geometry) (table : List ℕ) (number home probed signature : ℕ) → Signers g.parameters table → home ≡ home_under g number → home ≤ probed → 2 * (probed + 1 - home) < length table
    → signature ≡ get_or table (2 * (probed + 1 - home)) 0 * number % modulus % top_of_lem g.parameters.bits → (hash_under g).signature number probed ≡ signature
unfolding hash_of
signed g table number home probed signature signers e low entry made =
    let bits = g.parameters.bits in
    let probe : probed + 1 - home ≡ probed - home + 1 = omega arith in
    rw (← e)
    (sym
    (made
    ∙ ap (λ (t : ℕ). get_or table (2 * t) 0 * number % modulus % top_of_lem bits) probe
    ∙ lent-signature g.parameters.multiplier bits number (probed - home + 1) table signers.table (omega arith)))

pub loop-probed-init : goal.loop-probed-init
unfolding hash_of
loop-probed-init c =
    let p = c.requires in
    let later : c.max-first.result ≡ max c.args.from c.args.home = search rules in
    (omega arith, probes-none _ _ _ _ _ _ _ _ p.home_value (omega arith) (λ h. omega arith) p.counts.0)

pub signature_by-signature-requires : goal.signature_by-signature-requires
unfolding hash_of
signature_by-signature-requires c =
    let s = c.requires.signers in
    let l = limits c.args.geometry.parameters s.valid in
    (lent_below c.args.geometry.parameters.multiplier _ s.table _ (omega (arith, c.requires.home_value, c.loop-probed.invariant.1.low)), (l.bits_least, l.bits_most))

pub loop-probed-preserved : goal.loop-probed-preserved
unfolding hash_of
loop-probed-preserved c =
    let a = c.args in
    let r = c.requires in
    let done = c.loop-probed.invariant in
    let tested = signed a.geometry a.table.now a.number a.home _ _ r.signers r.home_value (omega (arith, r.home_value, done.1.low)) (omega (arith, r.home_value, done.1.low)) c.signature_by-signature.ensures in
    elim c.if-signature-separators.branch [
      | then-signature-separators w ↦ (omega arith, rw w.counts-is (probes-counted _ _ _ _ _ _ _ _ done.1 (omega arith) (omega arith) (tested ∙ w.if-signature-separators.true)))
      | else-signature-separators w ↦ (omega arith, rw w.counts-is (probes-skipped _ _ _ _ _ _ _ _ done.1 (omega arith) (λ e. w.if-signature-separators.false (sym tested ∙ e))))
    ]

pub returns : goal.returns
returns c = probes-all _ _ _ _ _ _ _ _ c.loop-probed.invariant.1 c.loop-probed-test.false
