-- The histogram counts who stays under each separator. Assumes nothing.
use Prim.Native.Nat.{ℕ, ◌≤◌, ◌-◌, ◌+◌}
use mathlib.Core.Path.{◌≡◌, refl, sym, ◌∙◌}
use mathlib.Core.List.{List}
use lib.ListN.{length, get_or-replicate}
use lib.Seq.{slice, length-slice}
use native.Mathlib.Omega.{arith}
use Rattle.generator.specs.Generator.{top_of_lem}
use Rattle.hashing.proofs.Bounds.{Limits, limits}
use Rattle.generator.proofs.Scrambling.{top_most}
use Rattle.page_separator.specs.Lists.{sum_to}
use Rattle.page_separator.specs.Probes.{staying_words}
use Rattle.page_separator.proofs.Cutting.{staying-sum, staying-length, staying-full, separator_found}
use Rattle.page_separator.proofs.separating.separator_under.Lts as lts
use Rattle.page_separator.proofs.separating.separator_under.Tie as tie
use Rattle.page_separator.proofs.separating.separator_under.Reads as reads
use Rattle.page_separator.proofs.separating.separator_under.Goals as goal
use Rattle.page_separator.proofs.separating.separator_under.Goals.{Start}

abbrev After-tally_signatures : Type 0
After-tally_signatures = lts.After-tally_signatures tie.the-claims reads.Pre reads.Post tie.handed_clauses

abbrev start : After-tally_signatures → Start
start k = k.before.before.before.before.before

abbrev probing : Start → List ℕ
probing s = slice s.args.from s.args.reach s.args.waiting.now

bounds : (s : Start) → Limits s.args.parameters
bounds s = limits s.args.parameters s.requires.signers.valid

sums : (k : After-tally_signatures) (v : ℕ) → v ≤ 256
    → sum_to v k.tally_signatures.new.counts ≡ length (staying_words (start k).args.parameters (start k).args.page v (probing (start k)))
sums k v h = staying-sum (start k).args.parameters (start k).args.page (probing (start k)) k.tally_signatures.new.counts k.tally_signatures.ensures.by_index v h

-- all signatures are below the greatest separator
full : (k : After-tally_signatures) (v : ℕ) → top_of_lem (start k).args.parameters.bits ≤ v → v ≤ 256
    → sum_to v k.tally_signatures.new.counts ≡ (start k).args.reach - (start k).args.from
full k v h u =
    let s = start k in
    sums k v u ∙ staying-full s.args.parameters s.args.page (bounds s).bits_least (probing s) v h
    ∙ length-slice s.args.from s.args.reach s.args.waiting.now s.requires.probing.inside

pub tally_signatures-requires : goal.tally_signatures-requires
tally_signatures-requires c =
    let p = c.requires in
    record {
      signers = p.signers;
      probing = p.probing;
      counts_len = (refl, λ v h. get_or-replicate 256 v 0 0 h);
      signatures_len = p.most_bound.1;
      signable = p.signable;
    }

pub counted_below-below-requires : goal.counted_below-below-requires
counted_below-below-requires c =
    let k = c.before.before.before in
    let s = start k in record {
      most_bound = (
        s.requires.most_bound.0,
        (omega (arith, c.top_of.ensures, top_most s.args.parameters.bits (bounds s).bits_most), omega (arith, s.requires.probing.most)),
      );
      by_index = λ v h u. full k v (omega (arith, c.top_of.ensures)) u;
    }

pub cut-requires : goal.cut-requires
cut-requires c =
    let k = c.before.before.before.before.before.before in
    let s = start k in (
      s.requires.most_bound.0,
      (
        c.counted_below-below.ensures,
        omega (
          arith,
          c.counted_below-below.ensures,
          sums k s.args.most (omega (arith, s.requires.most_bound.0)),
          staying-length s.args.parameters s.args.page s.args.most (probing s),
          length-slice s.args.from s.args.reach s.args.waiting.now s.requires.probing.inside,
          s.requires.probing.most,
        ),
      ),
    )

pub returns : goal.returns
returns c =
    let k = c.before.before.before.before.before.before.before in
    let s = start k in
    let low : c.cut.result ≤ 255 = omega (arith, c.cut.ensures.upper_bound, s.requires.most_bound.0) in record {
      value = sym
          (separator_found s.args.parameters s.args.page (probing s) s.args.most c.cut.result c.cut.ensures.upper_bound.0
          (omega (arith, c.cut.ensures.upper_bound, sums k c.cut.result (omega arith)))
          (λ h. omega (arith, c.cut.ensures.room_bound h, sums k (c.cut.result + 1) (omega arith))));
      signed = k.tally_signatures.ensures.signed;
    }
