use mathlib.Core.Path.{◌≡◌, sym, ◌∙◌}
use Prim.Native.Nat.{◌+◌, ◌<◌}
use native.Mathlib.Omega.{arith}
use Rattle.hashing.specs.Geometry.{page_count}
use Rattle.hashing.proofs.Bounds.{limits}
use Rattle.growth_in_place.specs.Expansion.{runs_to, is_near}
use Rattle.growth_in_place.proofs.OnPage.{kept-none, kept_more, settled-next}
use Rattle.growth_in_place.proofs.Walk.{runs_none, runs-next, near-is, none_left}
use Rattle.growth_in_place.proofs.stars.move_below.Goals as goal
use Rattle.growth_in_place.proofs.stars.move_below.Goals.{then-here, else-here}

pub loop-page-init : goal.loop-page-init
loop-page-init c = (c.requires.moving, kept-none _ _ _ _ _, (λ r h. absurd (omega arith)), sym (runs_none _ _ _))

pub near-here-requires : goal.near-here-requires
near-here-requires c =
    record {
      parameters_value = c.requires.homing.valid;
      growth_value = c.requires.homing.growth;
      page_bound = omega (arith, (limits _ c.requires.homing.valid).pages_most);
    }

pub runs_on-runs-requires : goal.runs_on-runs-requires
runs_on-runs-requires c = c.requires.homing.valid

pub move_from-requires : goal.move_from-requires
move_from-requires c =
    record {
      homing = c.requires.homing;
      moving = c.loop-page.invariant.0;
      added_value = c.requires.added_value;
      page_lt_added = c.loop-page-test.true;
    }

pub loop-page-preserved : goal.loop-page-preserved
loop-page-preserved c =
    let p = c.args.geometry.parameters in
    let g = c.args.geometry.growth in
    let loop = c.loop-page in
    let room : page_count p g < p.pages = omega (arith, c.requires.added_value.0) in
    let low : loop.page < page_count p g = omega (arith, c.requires.added_value.0) in
    let near-here : c.near-here.result ≡ is_near p g c.args.separators.now loop.page = near-is _ _ _ _ _ _ loop.invariant.3 c.near-here.ensures in
    let walked : c.runs_on-runs.result ≡ runs_to p g c.args.separators.now (loop.page + 1) = runs-next _ _ _ _ _ _ near-here c.runs_on-runs.ensures in
    elim c.if-here.branch [
      | then-here w ↦ rw (w.numbers-is, w.words-is, w.owners-is, w.homes-is) (
        w.move_from.ensures.stepped.underway,
        kept_more _ _ _ _ _ _ _ _ _ _ _ room loop.invariant.1 w.move_from.ensures.stepped.kept,
        settled-next _ _ _ _ _ _ _ _ loop.page w.move_from.ensures.stepped.kept low room loop.invariant.2 w.move_from.ensures.none_joins,
        walked,
      )
      | else-here w ↦ rw (w.numbers-is, w.words-is, w.owners-is, w.homes-is) (
        loop.invariant.0,
        loop.invariant.1,
        settled-next _ _ _ _ _ _ _ _ loop.page (kept-none _ _ _ _ _) low room loop.invariant.2
            (none_left _ _ _ _ _ _ _ _ _ c.requires.none_away loop.invariant.1 room loop.page low (sym near-here ∙ w.if-here.false)),
        walked,
      )
    ]

pub returns : goal.returns
returns c =
    let inv = c.loop-page.invariant in
    record {
      stepped = record { underway = inv.0; kept = inv.1 };
      settled_below = λ r h. inv.2 r (omega arith);
    }
