-- `fits_pages::stored::plan_rows` meets its contract.
use mathlib.Core.Path.{◌≡◌, refl, ◌∙◌}
use mathlib.Core.List.{List}
use Prim.Native.Nat.{ℕ, ◌*◌, ◌≤◌, ◌<◌}
use native.Mathlib.Nat.{mul-le-mul, zero-add}
use native.Mathlib.Omega.{arith}
use lib.ListN.{length, take}
use Rattle.hashing.proofs.Bounds.{limits, growth_within, spread}
use Rattle.page_separator.specs.Lists.{all}
use Rattle.fits_pages.specs.Columns.{row_keys}
use Rattle.fits_pages.proofs.RowKeys.{keys_front, rows-keyed}
use Rattle.fits_pages.proofs.PlacedRows.{words_small, in_groups_lem, rows_settled}
use borrow.Author.Rules.{rules}
use Rattle.fits_pages.proofs.stored.plan_rows.Lts as lts
use Rattle.fits_pages.proofs.stored.plan_rows.Tie as tie
use Rattle.fits_pages.proofs.stored.plan_rows.Reads as reads
use Rattle.fits_pages.proofs.stored.plan_rows.Goals as goal
use Rattle.fits_pages.proofs.stored.plan_rows.Goals.{Start}

abbrev After-key_rows : Type 0
After-key_rows = lts.After-key_rows tie.the-claims reads.Pre reads.Post tie.handed_clauses

abbrev After-gather_keys : Type 0
After-gather_keys = lts.After-gather_keys tie.the-claims reads.Pre reads.Post tie.handed_clauses

-- what the parameters say
some : (s : Start) → 0 < s.args.geometry.parameters.pages
some s =
    let p = s.args.geometry.parameters in
    let state = growth_within p s.args.geometry.growth s.requires.homing.growth in
    omega (arith, state.pages_fit, (spread p s.args.geometry.growth (limits p s.requires.homing.valid) state).pages_low)

most : (s : Start) → s.args.geometry.parameters.pages ≤ 1024
most s = (limits s.args.geometry.parameters s.requires.homing.valid).pages_most

few-items : (s : Start) → s.args.geometry.parameters.pages * s.args.geometry.parameters.places ≤ 32768
few-items s = let l = limits s.args.geometry.parameters s.requires.homing.valid in mul-le-mul l.pages_most l.places_most

-- the keys of the rows
abbrev begun : After-key_rows → Start
begun c = c.before.before.before.before.before.before

abbrev keys_of : After-key_rows → List ℕ
keys_of c = c.key_rows.new.keys

front : (c : After-key_rows) → take (begun c).args.rows (keys_of c) ≡ row_keys (begun c).args.geometry (begun c).args.given.now (begun c).args.rows
front c = keys_front _ _ _ (begun c).args.pool.now _ (begun c).requires.rows_in_bounds c.key_rows.ensures

inside : (c : After-key_rows) → (begun c).args.rows ≤ length (keys_of c)
inside c = omega (arith, (begun c).requires.rows_in_bounds, c.key_rows.auto.keys)

room : (s : Start) → s.args.rows ≤ length s.args.waiting.now
room s = omega (arith, s.requires.pool_len.1, s.requires.rows_in_bounds)

pub gather_keys-requires : goal.gather_keys-requires
gather_keys-requires c =
    let k = c.before.before.before.before.before in
    let s = begun k in
    record {
      keyed = rows-keyed _ s.args.given.now _ s.requires.homing.valid s.requires.homing.growth s.requires.rows_bound.0 _ (some s) (most s) (inside k) (front k);
      pages_in_bounds = (most s, room s);
    }

abbrev keyed : After-gather_keys → After-key_rows
keyed c = c.before.before.before.before.before

pub number_rows-requires : goal.number_rows-requires
number_rows-requires c =
    let d = c.before.before.before.before.before in
    let k = keyed d in
    let s = begun k in record {
      rows_bound = s.requires.rows_bound;
      rows_in_bounds = omega (arith, room s, d.gather_keys.auto.waiting);
      waiting_value = words_small s.args.geometry s.args.given.now s.args.rows s.requires.homing.valid s.requires.homing.growth (some s) s.requires.rows_bound.0 s.requires.rows_value (keys_of k)
          s.args.waiting.now _ _ (inside k) (front k) (most s) (room s) d.gather_keys.auto.waiting d.gather_keys.ensures;
    }

pub place_all-requires : goal.place_all-requires
place_all-requires c =
    let m = c.before.before.before.before.before.before.before.before in
    let d = m.before.before.before.before.before in
    let k = keyed d in
    let s = begun k in
    record {
      valid = s.requires.homing.valid;
      pages = omega (arith, most s);
      of_planned = omega (arith, most s, s.requires.planned_len);
      of_pool = rw (zero-add s.args.geometry.parameters.pages) (omega (arith, s.requires.pool_len.0, k.key_rows.auto.keys));
      of_ends = omega (arith, most s, d.gather_keys.auto.ends);
      few = omega (arith, few-items s, s.requires.pool_len, d.gather_keys.auto.waiting, m.number_rows.auto.waiting);
      order = omega arith;
      inside = omega (arith, room s, d.gather_keys.auto.waiting, m.number_rows.auto.waiting);
      grouped_are =
          in_groups_lem s.args.geometry s.args.given.now s.args.rows s.requires.homing.valid s.requires.homing.growth (some s) s.requires.rows_bound.0 s.requires.rows_value (keys_of k)
          s.args.waiting.now _ _ (inside k) (front k) (most s) (room s) d.gather_keys.auto.waiting d.gather_keys.ensures _ m.number_rows.auto.waiting m.number_rows.ensures;
      near = unfold all in refl;
    }

pub returns : goal.returns
returns c =
    let u = c.before.before.before.before.before in
    let m = u.before.before.before.before.before.before.before.before in
    let d = m.before.before.before.before.before in
    let k = keyed d in
    let s = begun k in record {
      plans_rows = rows_settled s.args.geometry s.args.given.now s.args.rows s.requires.homing.valid s.requires.homing.growth (some s) s.requires.rows_bound.0 s.requires.rows_value (keys_of k)
          s.args.waiting.now _ _ (inside k) (front k) (most s) (room s) d.gather_keys.auto.waiting d.gather_keys.ensures _ m.number_rows.auto.waiting m.number_rows.ensures
          (keys_of k) _ _ _ _ _ (k.key_rows.auto.keys ∙ s.requires.pool_len.0) u.place_all.auto.pool (omega (arith, most s, s.requires.planned_len)) (inside k) u.place_all.ensures;
      planned_len_2 = u.place_all.auto.planned ∙ s.requires.planned_len;
    }
