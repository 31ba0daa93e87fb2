use mathlib.Core.Path.{◌≡◌, sym, ap, ◌∙◌, subst}
use mathlib.Core.Bool.{true}
use Prim.Native.Nat.{ℕ, ◌+◌, ◌≤◌, ◌<◌}
use native.Mathlib.Nat.{le_refl}
use native.Mathlib.Omega.{arith}
use lib.ListN.{length, take}
use lib.Seq.{length-take-le}
use borrow.Author.Tests.{eqb-true}
use Rattle.hashing.proofs.Bounds.{Limits, limits}
use Rattle.pages.proofs.Parts.{page-fits}
use Rattle.placement.specs.File.{File}
use Rattle.placement.specs.Hash.{lent, sound_at}
use Rattle.entry_reach.specs.declared.blocks.Extent.{Extent}
use Rattle.entry_reach.specs.Entry.{entry_start, block_end}
use Rattle.entry_reach.specs.declared.newcomers.Pushing.{Pushing}
use Rattle.entry_reach.specs.declared.newcomers.Pushing.TheVariants.{Ends, Leaves}
use Rattle.entry_reach.specs.Pushing.{Ruled, PushesTo}
use Rattle.entry_reach.proofs.Surveyed.{extent-tested}
use Rattle.entry_reach.proofs.Runs.{home-is, home-inside, named-low, named-high, run-high, run-decided, pushed-decided, pushed-leaves}
use Rattle.entry_reach.proofs.newcomers.decide_clean.Lts as lts
use Rattle.entry_reach.proofs.newcomers.decide_clean.Tie as tie
use Rattle.entry_reach.proofs.newcomers.decide_clean.Reads as reads
use Rattle.entry_reach.proofs.newcomers.decide_clean.Goals as goal
use Rattle.entry_reach.proofs.newcomers.decide_clean.Goals.{Start}

abbrev After-push_within : Type 0
After-push_within = lts.After-push_within tie.the-claims reads.Pre reads.Post tie.handed_clauses

abbrev file : Start → File
file s = lent s.args.separators.now s.args.numbers.now s.args.words.now s.args.owners.now

bounds : (s : Start) → Limits s.args.geometry.parameters
bounds s = limits s.args.geometry.parameters s.requires.enters.ready.homing.valid

run : (s : Start) → Ruled s.args.geometry.parameters s.args.geometry.growth (file s) s.args.pool.now s.args.star.number s.args.last
run s = s.requires.ruled

homed : (s : Start) → s.args.star.home ≡ entry_start s.args.geometry.parameters s.args.geometry.growth s.args.star.number
homed s = home-is s.args.geometry s.args.star.number s.args.star.home s.requires.enters.homed

inside : (s : Start) → s.args.star.page < s.args.geometry.parameters.pages
inside s = omega (arith, s.requires.enters.here, s.requires.enters.unheld.named)

high : (s : Start) → s.args.last < s.args.geometry.parameters.pages
high s =
    let e = s.requires.enters in
    run-high s.args.geometry.parameters s.args.geometry.growth (file s) s.args.star.number e.ready.homing.valid e.ready.sized e.number e.unheld s.args.last (run s).ends

sound : (s : Start) (q : ℕ) → entry_start s.args.geometry.parameters s.args.geometry.growth s.args.star.number ≤ q → q ≤ s.args.last
    → sound_at s.args.geometry.parameters s.args.geometry.growth (file s) q ≡ true
sound s q a h = ((run s).known q a (omega (arith, h))).sound (omega (arith, h, high s))

page-low : (s : Start) → entry_start s.args.geometry.parameters s.args.geometry.growth s.args.star.number ≤ s.args.star.page
page-low s = omega (arith, s.requires.enters.here, named-low s.args.geometry.parameters s.args.geometry.growth (file s) s.args.star.number s.requires.enters.ready.sized s.requires.enters.unheld)

page-high : (s : Start) → s.args.star.page ≤ s.args.last
page-high s =
    let e = s.requires.enters in
    omega (arith, e.here, named-high s.args.geometry.parameters s.args.geometry.growth (file s) s.args.star.number e.ready.homing.valid e.ready.sized e.number e.unheld s.args.last (run s).ends (sound s))

-- from the push on
abbrev Place : Type 0
Place = After-push_within

abbrev start : Place → Start
start x = x.before.before.before.before.before.before.before.before.before.before.before.before.before.before.before.before.before

told : (x : Place) (b : Pushing) → x.push_within.result ≡ b
    → PushesTo (start x).args.geometry.parameters (start x).args.geometry.growth (file (start x)) (start x).args.star.number (start x).args.star.page (start x).args.last
    x.push_within.new.pool x.push_within.new.planned x.push_within.new.waiting b
told x b e =
    subst (PushesTo (start x).args.geometry.parameters (start x).args.geometry.growth (file (start x)) (start x).args.star.number (start x).args.star.page (start x).args.last
    x.push_within.new.pool x.push_within.new.planned x.push_within.new.waiting) e x.push_within.ensures

planned-long : (x : Place) → (start x).args.geometry.parameters.pages ≤ length x.push_within.new.planned
planned-long x = omega (arith, x.push_within.auto.planned, (start x).requires.pages_in_bounds)

pub has_room-requires : goal.has_room-requires
has_room-requires c =
    let s = c.before.before.before.before.before.before.before.before.before in
    record {
      parameters_value = s.requires.enters.ready.homing.valid;
      page_bound = omega (arith, inside s, (bounds s).pages_most);
      places_in_bounds = page-fits _ _ _ (inside s) s.requires.enters.ready.sized.of_numbers;
    }

pub returns-then-has_room : goal.returns-then-has_room
returns-then-has_room c =
    let s = c.before.before.before.before.before.before.before.before.before.before.before.before in
    let e = s.requires.enters in
    run-decided s.args.geometry.parameters s.args.geometry.growth (file s) s.args.star.number s.args.star.page e.ready.homing.valid e.ready.sized e.number e.unheld e.here s.args.last (run s).ends (sound s) (run s).ruled
    s.args.star.word s.args.star.owner s.args.star.place s.requires.place_value (eqb-true _ _ (sym c.has_room.ensures ∙ c.if-has_room.true)) s.args.pool.now s.args.planned.now

pub overflow_add-stop : goal.overflow_add-stop
overflow_add-stop c = let s = c.before.before.before.before.before.before.before.before.before.before.before in omega (arith, high s, (bounds s).pages_most)

pub overflow_sub-stop : goal.overflow_sub-stop
overflow_sub-stop c = let s = c.before.before.before.before.before.before.before.before.before.before.before.before in omega (arith, page-high s)

pub decide_stretch-requires : goal.decide_stretch-requires
decide_stretch-requires c =
    let k = c.surveyed_block-first in
    let s = c.before.before.before.before.before.before.before.before.before.before.before.before.before.before.before.before.before.before.before.before in
    let from : s.args.star.home < s.args.geometry.parameters.pages = omega (arith, homed s, home-inside s.args.geometry.parameters s.args.geometry.growth (file s) s.args.star.number s.requires.enters.ready.sized s.requires.enters.unheld) in record {
      enters = s.requires.enters;
      pool_len = s.requires.pool_len;
      pages_in_bounds = s.requires.pages_in_bounds;
      home_value = (
        sym (ap (λ (x : Extent). x.first) k.ensures),
        extent-tested s.args.geometry.parameters s.args.geometry.growth (file s) s.args.pool.now s.args.star.home s.args.last (s.args.last + 1) from ((run s).ends ∙ ap (block_end s.args.geometry.parameters s.args.geometry.growth (file s)) (sym (homed s)))
            (omega (arith, homed s, page-low s, page-high s)) (le_refl _) (λ q a b. (run s).known q (omega (arith, homed s, a)) b) k.result k.ensures,
      );
    }

pub push_within-requires : goal.push_within-requires
push_within-requires c =
    let s = c.before.before.before.before.before.before.before.before.before.before.before.before.before.before.before.before.before in record {
      enters = s.requires.enters;
      pool_len = s.requires.pool_len;
      pages_in_bounds = s.requires.pages_in_bounds;
      page_le_last = (page-high s, (high s, omega (arith, c.if-stop-star.false, high s)));
      known_to = λ q a b. (run s).known q (omega (arith, page-low s, a)) b;
    }

pub decide_onward-requires : goal.decide_onward-requires
decide_onward-requires c =
    let x = c.before.before.before.before.before.before.before.before.before.before.before in
    let s = start x in
    let e = s.requires.enters in
    let w = c.in-Leaves in
    let n = w.carried in
    let done = told x (Leaves n) w.is in record {
      enters = e;
      pool_len = (x.push_within.auto.pool ∙ s.requires.pool_len.0, x.push_within.auto.waiting ∙ s.requires.pool_len.1);
      pages_in_bounds = planned-long x;
      carried_in_bounds = done.1.0;
      leaves_run = pushed-leaves s.args.geometry.parameters s.args.geometry.growth (file s) s.args.star.number s.args.star.page e.ready.homing.valid e.ready.sized e.number e.unheld e.here s.args.last (run s).ends (sound s) (run s).ruled
          x.push_within.new.pool x.push_within.new.planned (take n x.push_within.new.waiting) done.1.1
          (omega (arith, done.0, length-take-le n x.push_within.new.waiting done.1.0));
    }

pub name_page-page-requires : goal.name_page-page-requires
name_page-page-requires c =
    let x = c.before.before.before.before.before.before.before.before.before in
    let s = start x in
    let w = c.in-Ends in
    let done = told x (Ends w.end) w.is in
    record {
      homing = s.requires.enters.ready.homing;
      separators_len = (s.requires.enters.ready.sized.of_separators, planned-long x);
      page_le_end = (done.0, omega (arith, done.1.0, high s));
      home_value = s.requires.enters.homed;
    }

pub overflow_add-count : goal.overflow_add-count
overflow_add-count c =
    let x = c.before.before.before.before.before.before.before.before.before.before.before.before in
    let w = c.in-Ends in
    omega (arith, (told x (Ends w.end) w.is).1.0, high (start x), (bounds (start x)).pages_most)

pub overflow_sub-count : goal.overflow_sub-count
overflow_sub-count c =
    let x = c.before.before.before.before.before.before.before.before.before.before.before.before.before in
    let w = c.in-Ends in
    omega (arith, (told x (Ends w.end) w.is).0)

pub returns-in-Ends : goal.returns-in-Ends
returns-in-Ends c =
    let x = c.before.before.before.before.before.before.before.before.before.before.before.before.before in
    let n = c.name_page-page in
    let s = start x in
    let e = s.requires.enters in
    let w = c.in-Ends in
    let done = told x (Ends w.end) w.is in
    pushed-decided s.args.geometry.parameters s.args.geometry.growth (file s) s.args.star.number s.args.star.page e.ready.homing.valid e.ready.sized e.number e.unheld e.here s.args.last (run s).ends (sound s) (run s).ruled
    s.args.star.word s.args.star.owner x.push_within.new.pool x.push_within.new.planned w.end done.0 done.1.0 (done.1.1 s.args.star.word s.args.star.owner)
    n.new.planned n.result (omega (arith, planned-long x, n.auto.planned)) n.ensures.planned_unchanged n.ensures.value
