use mathlib.Core.Path.{◌≡◌, ◌∙◌, sym, ap}
use Prim.Native.Nat.{◌+◌, ◌*◌, ◌≤◌}
use native.Mathlib.Nat.{mul-le-mul}
use native.Mathlib.Omega.{arith}
use Rattle.hashing.proofs.Bounds.{limits}
use Rattle.pages.proofs.Parts.{page-fits}
use Rattle.growth_in_place.specs.Expansion.{joiners_below, runs_to, is_near}
use Rattle.growth_in_place.proofs.Joiners.{below_none, below_next, below-most}
use Rattle.growth_in_place.proofs.Walk.{runs_none, runs-next, near-is}
use Rattle.growth_in_place.proofs.tallying.count_stars.Goals as goal
use Rattle.growth_in_place.proofs.tallying.count_stars.Goals.{then-here, else-here}

pub loop-page-init : goal.loop-page-init
loop-page-init c = (sym (below_none _ _ _), sym (runs_none _ _ _))

pub near-here-requires : goal.near-here-requires
near-here-requires c =
    record {
      parameters_value = c.requires.homing.valid;
      growth_value = c.requires.homing.growth;
      page_bound = omega (arith, (limits _ c.requires.homing.valid).pages_most);
    }

pub runs_on-runs-requires : goal.runs_on-runs-requires
runs_on-runs-requires c = c.requires.homing.valid

pub count_page-total-requires : goal.count_page-total-requires
count_page-total-requires c =
    record {
      homing = c.requires.homing;
      added_value = c.requires.added_value;
      places_in_bounds = page-fits _ c.args.geometry.parameters.pages _ (omega arith) c.requires.numbers_len;
      homes_value = c.requires.homes_value;
    }

-- few enough to fit
pub overflow_add-total : goal.overflow_add-total
overflow_add-total c =
    let p = c.args.geometry.parameters in
    let g = c.args.geometry.growth in
    let page = c.loop-page.page in
    let l = limits p c.requires.homing.valid in
    let low : page + 1 ≤ 1024 = omega (arith, l.pages_most) in
    let wide : (page + 1) * p.places ≤ 1024 * 32 = mul-le-mul low l.places_most in
    omega (arith, below_next p g c.args.numbers.now page, below-most p g c.args.numbers.now (page + 1), c.count_page-total.ensures)

pub loop-page-preserved : goal.loop-page-preserved
loop-page-preserved c =
    let p = c.args.geometry.parameters in
    let g = c.args.geometry.growth in
    let page = c.loop-page.page in
    let near-here : c.near-here.result ≡ is_near p g c.args.separators.now page = near-is _ _ _ _ _ _ c.loop-page.invariant.1 c.near-here.ensures in
    let walked : c.runs_on-runs.result ≡ runs_to p g c.args.separators.now (page + 1) = runs-next _ _ _ _ _ _ near-here c.runs_on-runs.ensures in
    elim c.if-here.branch [
      | then-here w ↦ (omega (arith, w.total-is, w.count_page-total.ensures, below_next p g c.args.numbers.now page), walked)
      | else-here w ↦ (
        omega (arith, w.total-is, c.requires.none_counted page (omega arith) (sym near-here ∙ w.if-here.false), below_next p g c.args.numbers.now page),
        walked,
      )
    ]

pub returns : goal.returns
returns c =
    let end : c.loop-page.page ≡ c.args.added = omega arith in
    c.loop-page.invariant.0 ∙ ap (joiners_below c.args.geometry.parameters c.args.geometry.growth c.args.numbers.now) end
