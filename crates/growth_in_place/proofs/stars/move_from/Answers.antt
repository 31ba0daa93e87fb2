use mathlib.Core.Path.{◌≡◌, sym, ap, ◌∙◌}
use mathlib.Core.Bool.{true}
use Prim.Native.Nat.{ℕ, ◌+◌, ◌-◌, ◌*◌, ◌≤◌, ◌<◌}
use native.Mathlib.Nat.{mul-le-mul}
use native.Mathlib.Omega.{arith}
use Rattle.hashing.specs.declared.Parameters.{Parameters}
use Rattle.hashing.specs.Limits.{valid_parameters}
use Rattle.hashing.specs.Geometry.{page_count}
use Rattle.hashing.proofs.Bounds.{limits}
use Rattle.pages.proofs.Parts.{page-fits, part-item}
use Rattle.page_edit.specs.Shift.{number_at}
use Rattle.growth_in_place.specs.Expansion.{joins_at}
use Rattle.growth_in_place.proofs.OnPage.{held-joins, kept-none, kept_more, home-there, none-behind, taken-there, left_there}
use Rattle.growth_in_place.proofs.stars.move_from.Goals as goal

-- the page's places are in the file, which has at most 32768
within : (p : Parameters) (page n : ℕ) → valid_parameters p ≡ true → page < p.pages → n ≡ p.pages * p.places → (page * p.places + p.places ≤ n) × (n ≤ 32768)
within p page n v h e =
    let l = limits p v in
    let wide : p.pages * p.places ≤ 1024 * 32 = mul-le-mul l.pages_most l.places_most in
    (page-fits p.places p.pages page h e, omega arith)

pub overflow_mul-first : goal.overflow_mul-first
overflow_mul-first c = omega (arith, within c.args.geometry.parameters c.args.page _ c.requires.homing.valid (omega arith) c.requires.moving.of_numbers)

pub loop-i-init : goal.loop-i-init
loop-i-init c = (c.requires.moving, kept-none _ _ _ _ _, none-behind _ _ _ _ _ _ c.requires.moving _ (omega arith))

pub overflow_add-number : goal.overflow_add-number
overflow_add-number c = omega (arith, within c.args.geometry.parameters c.args.page _ c.requires.homing.valid (omega arith) c.requires.moving.of_numbers)

pub offset_bounds-numbers-first : goal.offset_bounds-numbers-first
offset_bounds-numbers-first c = omega (arith, within c.args.geometry.parameters c.args.page _ c.requires.homing.valid (omega arith) c.requires.moving.of_numbers)

pub bounds-numbers-first : goal.bounds-numbers-first
bounds-numbers-first c = omega (arith, within c.args.geometry.parameters c.args.page _ c.requires.homing.valid (omega arith) c.requires.moving.of_numbers)

pub overflow_add-home : goal.overflow_add-home
overflow_add-home c = omega (arith, within c.args.geometry.parameters c.args.page _ c.requires.homing.valid (omega arith) c.requires.moving.of_numbers)

pub offset_bounds-homes-first : goal.offset_bounds-homes-first
offset_bounds-homes-first c = omega (arith, within c.args.geometry.parameters c.args.page _ c.requires.homing.valid (omega arith) c.requires.moving.of_homes)

pub bounds-homes-first : goal.bounds-homes-first
bounds-homes-first c = omega (arith, within c.args.geometry.parameters c.args.page _ c.requires.homing.valid (omega arith) c.requires.moving.of_homes)

pub joins-requires : goal.joins-requires
joins-requires c =
    let low : c.args.page < page_count c.args.geometry.parameters c.args.geometry.growth = omega (arith, c.requires.added_value.0) in
    record {
      homing = c.requires.homing;
      home_value = home-there _ _ _ _ _ _ c.loop-i.invariant.0 _ (omega arith) _ (omega arith) (λ z. omega (arith, z, low));
      added_value = c.requires.added_value.0;
    }

-- a number there that joins the new page, as the moving has it
pub move_star-requires : goal.move_star-requires
move_star-requires c =
    let p = c.args.geometry.parameters in
    let loop = c.loop-i in
    let there = held-joins p c.args.geometry.growth (number_at p.places c.args.page (loop.i - 1) loop.numbers) (ap (joins_at p c.args.geometry.growth) (part-item p.places c.args.page loop.numbers (loop.i - 1) (omega arith)) ∙ sym c.joins.ensures ∙ c.if-joins.true) in
    record {
      parameters_value = c.requires.homing.valid;
      moving = loop.invariant.0;
      added_value = c.requires.added_value;
      page_lt_added = (c.requires.page_lt_added, omega arith);
      numbers_nonzero = there.0;
      numbers_value = there.1;
    }

pub loop-i-preserved-then-joins : goal.loop-i-preserved-then-joins
loop-i-preserved-then-joins c =
    let room : page_count c.args.geometry.parameters c.args.geometry.growth < c.args.geometry.parameters.pages = omega (arith, c.requires.added_value.0) in
    let inv = c.loop-i.invariant in
    let moved = c.move_star.ensures in (
      moved.stepped.underway,
      kept_more _ _ _ _ _ _ _ _ _ _ _ room inv.1 moved.stepped.kept,
      taken-there _ _ c.loop-i.i _ _ (omega arith) moved.closed_up inv.2,
    )

pub loop-i-preserved : goal.loop-i-preserved
loop-i-preserved c =
    let inv = c.loop-i.invariant in
    (inv.0, inv.1, left_there _ _ _ _ _ _ inv.0 _ c.loop-i.i (omega arith) (omega arith) (omega arith) (sym c.joins.ensures ∙ c.if-joins.false) inv.2)

pub returns : goal.returns
returns c =
    let none : c.loop-i.i ≡ 0 = omega arith in
    record {
      stepped = record { underway = c.loop-i.invariant.0; kept = c.loop-i.invariant.1 };
      none_joins = rw none at c.loop-i.invariant.2;
    }
