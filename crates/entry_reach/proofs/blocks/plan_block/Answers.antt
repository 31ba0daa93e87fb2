use mathlib.Core.Path.{◌≡◌, ◌∙◌}
use Prim.Native.Nat.{◌+◌, ◌-◌, ◌*◌, ◌≤◌, ◌<◌}
use native.Mathlib.Nat.{mul-le-mul, mul-le-mul_right}
use native.Mathlib.Omega.{arith}
use lib.ListN.{take, drop}
use lib.Seq.{paste, length-take-le}
use Rattle.hashing.proofs.Bounds.{Limits, limits}
use Rattle.placement.specs.File.{File}
use Rattle.placement.specs.Hash.{lent}
use Rattle.placement.specs.Shape.{homes_of}
use Rattle.reach.specs.Reach.{first_unsound_lem}
use Rattle.entry_reach.specs.Entry.{Extends, BlockSound}
use Rattle.entry_reach.proofs.Surveyed.{extent-low, extent-high, extent-unsound, extent-homes, block-unsound, bad_none, block-clear, found-numbers, found_below, found-count, block-planned, block-crowded}
use Rattle.entry_reach.proofs.blocks.plan_block.Lts as lts
use Rattle.entry_reach.proofs.blocks.plan_block.Tie as tie
use Rattle.entry_reach.proofs.blocks.plan_block.Reads as reads
use Rattle.entry_reach.proofs.blocks.plan_block.Goals as goal
use Rattle.entry_reach.proofs.blocks.plan_block.Goals.{Start}

abbrev Else-unsound-stop : Type 0
Else-unsound-stop = lts.Else1 tie.the-claims reads.Pre reads.Post tie.handed_clauses

-- the parameters' limits, at entry
bounds : (s : Start) → Limits s.args.geometry.parameters
bounds s = limits s.args.geometry.parameters s.requires.ready.homing.valid

abbrev file : Start → File
file s = lent s.args.separators.now s.args.numbers.now s.args.words.now s.args.owners.now

-- the block
extent : (s : Start) → Extends s.args.geometry.parameters s.args.geometry.growth (file s) s.args.pool.now s.args.block
extent s = s.requires.extends

low : (s : Start) → s.args.block.first ≤ s.args.block.last
low s = extent-low s.args.geometry.parameters s.args.geometry.growth (file s) s.requires.ready.homing.valid s.requires.ready.sized s.args.pool.now s.requires.pool_len.0 s.args.block (extent s)

high : (s : Start) → s.args.block.last < s.args.geometry.parameters.pages
high s = extent-high s.args.geometry.parameters s.args.geometry.growth (file s) s.requires.ready.homing.valid s.requires.ready.sized s.args.pool.now s.requires.pool_len.0 s.args.block (extent s)

items : (s : Start) → (s.args.block.last + 1) * s.args.geometry.parameters.places ≤ s.args.geometry.parameters.pages * s.args.geometry.parameters.places
items s = mul-le-mul_right s.args.geometry.parameters.places (omega (arith, high s))

few : (s : Start) → s.args.geometry.parameters.pages * s.args.geometry.parameters.places ≤ 32768
few s = mul-le-mul (bounds s).pages_most (bounds s).places_most

-- where all its pages are sound
abbrev from : Else-unsound-stop → Start
from c = c.before.before.before.before.before.before.before.before.before.before.before.before.before.before.before

told : (c : Else-unsound-stop) → c.survey_pages-unsound.result
    ≡ first_unsound_lem (from c).args.geometry.parameters (from c).args.geometry.growth (file (from c)) (from c).args.block.first ((from c).args.block.last + 1 - (from c).args.block.first)
told c =
    let s = from c in
    c.survey_pages-unsound.ensures.value
    ∙ extent-unsound s.args.geometry.parameters s.args.geometry.growth (file s) s.requires.ready.homing.valid s.requires.ready.sized s.args.pool.now s.requires.pool_len.0 s.args.block (extent s)

pub overflow_add-stop : goal.overflow_add-stop
overflow_add-stop c =
    let s = c.before.before.before.before.before.before.before.before.before.before.before in
    record { fits = omega (arith, high s, (bounds s).pages_most) }

pub survey_pages-unsound-requires : goal.survey_pages-unsound-requires
survey_pages-unsound-requires c =
    let s = c.before.before.before.before.before.before.before.before.before.before.before.before in
    record {
      ready = s.requires.ready;
      homes_len = s.requires.pool_len.0;
      from_le_stop = (extent s).high;
      stop_le_pages = omega (arith, high s);
      known = (extent s).besides;
    }

pub returns-then-unsound-stop : goal.returns-then-unsound-stop
returns-then-unsound-stop c =
    let s = c.before.before.before.before.before.before.before.before.before.before.before.before.before.before.before.before in
    block-unsound s.args.geometry.parameters s.args.geometry.growth (file s) s.requires.ready.homing.valid s.requires.ready.sized s.args.block.first (extent s).inside
    s.args.block.last (extent s).ends c.survey_pages-unsound.result
    (c.survey_pages-unsound.ensures.value
    ∙ extent-unsound s.args.geometry.parameters s.args.geometry.growth (file s) s.requires.ready.homing.valid s.requires.ready.sized s.args.pool.now s.requires.pool_len.0 s.args.block (extent s))
    c.if-unsound-stop.true

pub overflow_sub-waiting : goal.overflow_sub-waiting
overflow_sub-waiting c =
    omega (arith, (from c.before).requires.incoming_in_bounds.0)

pub overflow_mul-lo : goal.overflow_mul-lo
overflow_mul-lo c =
    record { fits = omega (arith, few (from c.before), items (from c.before), mul-le-mul_right {m = (from c.before).args.block.first} {n = (from c.before).args.block.last + 1} (from c.before).args.geometry.parameters.places (omega (arith, low (from c.before)))) }

pub overflow_mul-stop : goal.overflow_mul-stop
overflow_mul-stop c =
    record { fits = omega (arith, few (from c.before), items (from c.before)) }

pub count_stars-requires : goal.count_stars-requires
count_stars-requires c = (
  mul-le-mul_right (from c.before).args.geometry.parameters.places (omega (arith, low (from c.before))),
  omega (arith, items (from c.before), (from c.before).requires.ready.sized.of_numbers),
)

clear : (c : Else-unsound-stop) → BlockSound (from c).args.geometry.parameters (from c).args.geometry.growth (file (from c)) (from c).args.block.first
clear c =
    let s = from c in
    block-clear s.args.geometry.parameters s.args.geometry.growth (file s) s.requires.ready.homing.valid s.requires.ready.sized s.args.block.first (extent s).inside
    s.args.block.last (extent s).ends c.survey_pages-unsound.result (told c) c.if-unsound-stop.false

-- the pool holds the block's homes
homes : (c : Else-unsound-stop) → c.survey_pages-unsound.new.homes
    ≡ paste (from c).args.pool.now ((from c).args.block.first * (from c).args.geometry.parameters.places)
    (homes_of (from c).args.geometry.parameters (from c).args.geometry.growth (drop ((from c).args.block.first * (from c).args.geometry.parameters.places) (from c).args.numbers.now))
    (((from c).args.block.last + 1 - (from c).args.block.first) * (from c).args.geometry.parameters.places)
homes c =
    let s = from c in
    c.survey_pages-unsound.ensures.homes_after
    (bad_none s.args.geometry.parameters s.args.geometry.growth (file s) s.requires.ready.homing.valid s.requires.ready.sized s.args.block.first (extent s).inside
    s.args.block.last (extent s).ends c.survey_pages-unsound.result (told c) c.if-unsound-stop.false)
    ∙ extent-homes s.args.geometry.parameters s.args.geometry.growth (file s) s.requires.ready.homing.valid s.requires.ready.sized s.args.pool.now s.requires.pool_len.0 s.args.block (extent s)

pub returns-then-waiting-incoming : goal.returns-then-waiting-incoming
returns-then-waiting-incoming c =
    let d = c.before.before.before in
    let s = from d in
    block-crowded s.args.geometry.parameters s.args.geometry.growth (file s) s.requires.ready.homing.valid s.requires.ready.sized s.args.block.first (extent s).inside
    s.args.block.last (extent s).ends (clear d) (take s.args.incoming s.args.waiting.now) s.args.incoming
    (length-take-le s.args.incoming s.args.waiting.now s.requires.incoming_in_bounds.0)
    (omega (
      arith,
      c.if-waiting-incoming.true,
      c.count_stars.ensures,
      s.requires.pool_len.1,
      s.requires.incoming_in_bounds.0,
      found-count s.args.geometry.parameters s.args.geometry.growth (file s) s.requires.ready.homing.valid s.requires.ready.sized s.args.block.first (extent s).inside s.args.block.last (extent s).ends (clear d),
    ))

pub overflow_sub-stop : goal.overflow_sub-stop
overflow_sub-stop c =
    omega (arith, low (from c.before.before.before.before.before.before))

pub plan-left-requires : goal.plan-left-requires
plan-left-requires c =
    let d = c.before.before.before.before.before.before in
    let s = from d in
    let y = c.survey_pages-unsound in
    let sum : s.args.block.first + (s.args.block.last + 1 - s.args.block.first) ≡ s.args.block.last + 1 = omega (arith, low s) in
    let fits : (s.args.block.first + (s.args.block.last + 1 - s.args.block.first)) * s.args.geometry.parameters.places ≤ s.args.geometry.parameters.pages * s.args.geometry.parameters.places = rw sum (items s) in record {
      parameters_value = s.requires.ready.homing.valid;
      count_nonzero = (omega (arith, low s), (omega (arith, sum, high s, (bounds s).pages_most), omega (arith, sum, high s, s.requires.pages_in_bounds)));
      places_in_bounds = (omega (arith, fits, s.requires.ready.sized.of_numbers), omega (arith, fits, y.auto.homes, s.requires.pool_len.0));
      numbers_value = found-numbers s.args.geometry.parameters s.args.geometry.growth (file s) s.requires.ready.homing.valid s.requires.ready.sized s.args.block.first (extent s).inside s.args.block.last (extent s).ends (clear d);
      pool_value = found_below s.args.geometry.parameters s.args.geometry.growth (file s) s.requires.ready.homing.valid s.requires.ready.sized s.args.block.first (extent s).inside s.args.block.last (extent s).ends (clear d) s.args.pool.now y.new.homes s.requires.pool_len.0 (homes d);
      numbers_in_bounds = (
        omega (arith, c.if-waiting-incoming.false, c.count_stars.ensures, s.requires.incoming_in_bounds.0, found-count s.args.geometry.parameters s.args.geometry.growth (file s) s.requires.ready.homing.valid s.requires.ready.sized s.args.block.first (extent s).inside s.args.block.last (extent s).ends (clear d)),
        omega (arith, few s, s.requires.pool_len.1),
      );
      waiting_value = s.requires.incoming_in_bounds.1;
    }

pub returns : goal.returns
returns c =
    let d = c.before.before.before.before.before.before.before.before.before.before.before.before.before in
    let s = from d in
    let y = c.survey_pages-unsound in
    block-planned s.args.geometry.parameters s.args.geometry.growth (file s) s.requires.ready.homing.valid s.requires.ready.sized s.args.block.first (extent s).inside
    s.args.block.last (extent s).ends (clear d) s.args.pool.now y.new.homes s.requires.pool_len.0 (homes d)
    (take s.args.incoming s.args.waiting.now) s.args.planned.now c.plan-left.new.pool c.plan-left.new.planned c.plan-left.new.waiting c.plan-left.result
    c.plan-left.ensures
