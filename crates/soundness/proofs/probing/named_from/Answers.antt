use mathlib.Core.Path.{◌≡◌, ◌∙◌, ap}
use mathlib.Core.List.{List}
use Prim.Native.Nat.{ℕ, ◌+◌, ◌≤◌}
use native.Mathlib.Omega.{arith}
use borrow.Author.Rules.{rules}
use lib.ListN.{length, take}
use Rattle.std.proofs.Common.{min}
use Rattle.hashing.specs.declared.Geometry.{Geometry}
use Rattle.hashing.specs.Geometry.{multiplier_of}
use Rattle.hashing.proofs.Bounds.{limits}
use Rattle.hashing.proofs.Homes.{home-pages}
use Rattle.placement.specs.Rule.{first}
use Rattle.placement.specs.Shape.{hash_from, home_under}
use Rattle.placement.specs.Ready.{Homing}
use Rattle.placement.proofs.Prepared.{first-long, first-signers}
use Rattle.soundness.proofs.Probed.{none_first, none_found, named-is, named-found}
use Rattle.soundness.proofs.probing.named_from.Goals as goal

-- the first 44 pages from home are pages of at most 1,024
near : {g : Geometry} {t : List ℕ} (number : ℕ) {home pages end : ℕ} → Homing g t → pages ≡ g.parameters.pages → home ≡ home_under g number → end ≡ min (home + 44) pages
    → (home ≤ end) × (end ≤ pages) × (end ≤ home + 44) × (pages ≤ 1024)
near {g} number ready separated at_home ended =
    let low = home-pages (multiplier_of g.parameters) g.parameters g.growth number ready.valid ready.growth in
    let most = (limits g.parameters ready.valid).pages_most in
    (omega (arith, low), omega arith, omega arith, omega (arith, most))

pub probe-page-requires : goal.probe-page-requires
probe-page-requires c =
    let r = c.requires in
    let ended : c.min-end.result ≡ min (c.args.home + 44) (length c.args.separators.now) = search rules in
    let n = near c.args.number r.homing r.separators_len r.home_value ended in record {
      signers = first-signers r.homing.table r.homing.valid;
      home_le_start = (omega arith, (n.0, n.1));
      stop_bound = (omega (arith, n.1, n.3), omega (arith, n.2, first-long (multiplier_of c.args.geometry.parameters) r.homing.table));
      number_value = none_first _ _ _ _ (omega (arith, n.0, n.1));
    }

pub returns-then-page-end : goal.returns-then-page-end
returns-then-page-end c =
    let ended : c.min-end.result ≡ min (c.args.home + 44) (length c.args.separators.now) = search rules in
    named-found _ _ _ _ _ c.requires.home_value _ _ c.probe-page.ensures (omega (arith, ended)) c.if-page-end.true

pub returns-then-end-separators : goal.returns-then-end-separators
returns-then-end-separators c =
    let a = c.args in
    c.probe-page.ensures
    ∙ ap (λ (n : ℕ). first (hash_from a.geometry.parameters a.home) 0 (take n a.separators.now) a.number) c.if-end-separators.true
    ∙ named-is _ _ _ _ _ c.requires.home_value

pub probe_beyond-requires : goal.probe_beyond-requires
probe_beyond-requires c =
    let r = c.requires in
    let ended : c.min-end.result ≡ min (c.args.home + 44) (length c.args.separators.now) = search rules in
    let n = near c.args.number r.homing r.separators_len r.home_value ended in
    record {
      parameters_value = r.homing.valid;
      home_le_start = (n.0, (n.1, n.3));
      number_value = none_found _ _ _ _ _ n.1 c.probe-page.ensures c.if-page-end.false;
    }

pub returns : goal.returns
returns c = c.probe_beyond.ensures ∙ named-is _ _ _ _ _ c.requires.home_value
