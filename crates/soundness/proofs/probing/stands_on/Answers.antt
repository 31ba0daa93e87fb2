-- `soundness::probing::stands_on` meets its contract.
-- Assumes nothing.
use mathlib.Core.Path.{sym}
use Prim.Native.Nat.{◌≤◌}
use native.Mathlib.Omega.{arith}
use Rattle.hashing.proofs.Bounds.{limits}
use Rattle.soundness.proofs.Probed.{none_first, named_here, named-before-top, named-above}
use Rattle.soundness.proofs.probing.stands_on.Goals as goal
use Rattle.soundness.proofs.probing.stands_on.Goals.{Start}

pages-most : (c : Start) → c.args.geometry.parameters.pages ≤ 1024
pages-most c = (limits c.args.geometry.parameters c.requires.signers.valid).pages_most

pub returns-then-page-home : goal.returns-then-page-home
returns-then-page-home c =
    let s = c.before.before.before.before.before in
    sym (named-above _ _ _ _ _ s.requires.home_value s.args.page (omega arith) c.if-page-home.true)

pub passes-requires : goal.passes-requires
passes-requires c =
    let s = c.before.before.before.before.before.before.before.before in
    record {
      signers = s.requires.signers;
      home_le_page = (omega arith, (omega (arith, pages-most s), omega (arith, s.requires.separators_len, s.requires.page_lt_pages)));
      home_in_bounds = omega (arith, s.requires.page_lt_pages.1);
    }

pub returns-then-top_of-separators : goal.returns-then-top_of-separators
returns-then-top_of-separators c =
    let s = c.before.before.before.before.before.before.before.before.before in
    rw c.passes.ensures
    (named-before-top _ _ _ _ _ s.requires.home_value s.requires.signers.valid s.args.page (omega arith) (omega arith)
    (rw c.top_of.ensures at c.if-top_of-separators.true))

pub probe-requires : goal.probe-requires
probe-requires c =
    let s = c.before.before.before.before.before.before.before.before in
    let low : s.args.home ≤ s.args.page = omega arith in record {
      signers = s.requires.signers;
      home_le_start = (omega arith, (omega arith, omega (arith, s.requires.separators_len, s.requires.page_lt_pages)));
      stop_bound = (omega (arith, pages-most s, s.requires.page_lt_pages.0), omega (arith, s.requires.page_lt_pages.1));
      number_value = none_first _ _ _ _ (omega (arith, s.requires.separators_len, s.requires.page_lt_pages));
    }

pub returns : goal.returns
returns c =
    let s = c.before.before.before.before.before.before.before.before.before in
    rw c.probe.ensures (named_here _ _ _ _ _ s.requires.home_value s.args.page (omega arith))
