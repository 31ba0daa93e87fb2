use mathlib.Core.Path.{◌≡◌, sym, ◌∙◌}
use mathlib.Core.List.{List}
use Prim.Native.Nat.{ℕ, ◌+◌, ◌-◌, ◌*◌, ◌%◌, ◌≤◌, ◌<◌}
use lib.Dec.{ltb}
use native.Mathlib.Omega.{arith}
use borrow.Author.Tests.{lt-ltb, le-ltb}
use lib.ListN.{length, get_or, take}
use lib.Seq.{length-take-le, get_or-take}
use Rattle.hashing.specs.declared.Parameters.{Parameters}
use Rattle.hashing.specs.Geometry.{multiplier_of}
use Rattle.hashing.proofs.Bounds.{limits}
use Rattle.generator.specs.Generator.{modulus, top_of_lem}
use Rattle.generator.proofs.Powers.{lent_below}
use Rattle.generator.proofs.Scrambling.{lent-signature}
use Rattle.placement.specs.Rule.{below}
use Rattle.placement.specs.Shape.{hash_from}
use Rattle.placement.specs.Ready.{Signers}
use Rattle.soundness.proofs.Probed.{probed-from, probed-more, probed-found, probed-all, below-from}
use Rattle.soundness.proofs.probing.probe.Goals as goal

-- the code's test is that of the rule
tested : (p : Parameters) (table seps : List ℕ) (number home page stop signature : ℕ) → Signers p table → home ≤ page → page < stop → 2 * (page - home + 1) < length table
    → signature ≡ get_or table (2 * (page - home + 1)) 0 * number % modulus % top_of_lem p.bits
    → below (hash_from p home) page (get_or (take stop seps) page 0) number ≡ ltb signature (get_or seps page 0)
tested p table seps number home page stop signature signers low inside entry signed =
    let t : signature ≡ _ = signed ∙ lent-signature (multiplier_of p) p.bits number (page - home + 1) table signers.table entry in
    rw (below-from p home number page (get_or (take stop seps) page 0) low, get_or-take stop seps page 0 inside, ← t)

pub loop-page-init : goal.loop-page-init
loop-page-init c = let p = c.requires in probed-from _ _ _ _ _ p.home_le_start.1.0 p.home_le_start.1.1 p.number_value

pub signature_by-signature-requires : goal.signature_by-signature-requires
signature_by-signature-requires c =
    let s = c.requires.signers in
    let l = limits _ s.valid in
    (lent_below (multiplier_of c.args.parameters) _ s.table _ (omega arith), (l.bits_least, l.bits_most))

pub returns-then-signature-separators : goal.returns-then-signature-separators
returns-then-signature-separators c =
    let a = c.args in
    probed-found _ _ _ _ (omega (arith, length-take-le a.stop a.separators.now c.requires.home_le_start.1.1))
    (tested a.parameters a.table.now a.separators.now a.number a.home _ a.stop _ c.requires.signers (omega arith) c.loop-page-test.true (omega arith) c.signature_by-signature.ensures
    ∙ lt-ltb _ _ c.if-signature-separators.true)
    c.loop-page.invariant

pub loop-page-preserved : goal.loop-page-preserved
loop-page-preserved c =
    let a = c.args in
    probed-more _ _ _ _ (omega (arith, length-take-le a.stop a.separators.now c.requires.home_le_start.1.1))
    (tested a.parameters a.table.now a.separators.now a.number a.home _ a.stop _ c.requires.signers (omega arith) c.loop-page-test.true (omega arith) c.signature_by-signature.ensures
    ∙ le-ltb _ _ c.if-signature-separators.false)
    c.loop-page.invariant

pub returns : goal.returns
returns c =
    let all : c.loop-page.page ≡ c.args.stop = omega arith in
    probed-all _ _ _ _ (sym (length-take-le c.args.stop c.args.separators.now c.requires.home_le_start.1.1)) (rw all at c.loop-page.invariant)
