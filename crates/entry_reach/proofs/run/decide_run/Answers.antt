use mathlib.Core.Path.{◌≡◌, sym, ap, subst, ◌∙◌}
use mathlib.Core.Bool.{true}
use mathlib.Core.List.{List}
use Prim.Native.Nat.{ℕ, ◌+◌, ◌-◌, ◌*◌, ◌≤◌, ◌<◌}
use native.Mathlib.Nat.{le_refl}
use native.Mathlib.Omega.{arith}
use lib.ListN.{length}
use Rattle.hashing.proofs.Bounds.{Limits, limits}
use Rattle.placement.specs.File.{File}
use Rattle.placement.specs.Hash.{hash_of, sound_at, lent}
use Rattle.reach.specs.Known.{Known}
use Rattle.reach.specs.Reach.{first_such, first_unsound_lem}
use Rattle.reach.proofs.Surveyed.{surveyed-pages}
use Rattle.clean_test.specs.Raising.{raisable_from}
use Rattle.entry_reach.specs.declared.blocks.Extent.{Extent}
use Rattle.entry_reach.specs.Entry.{entry_start, block_end}
use Rattle.entry_reach.proofs.Surveyed.{bad_none, block-clear, extent-tested}
use Rattle.entry_reach.proofs.Reached.{block-sound}
use Rattle.entry_reach.proofs.Runs.{home-is, home-inside, run-low, run-high, run-unsound, run-ruled}
use Rattle.entry_reach.proofs.run.decide_run.Lts as lts
use Rattle.entry_reach.proofs.run.decide_run.Tie as tie
use Rattle.entry_reach.proofs.run.decide_run.Reads as reads
use Rattle.entry_reach.proofs.run.decide_run.Goals as goal
use Rattle.entry_reach.proofs.run.decide_run.Goals.{Start}

abbrev Else-unsound-stop : Type 0
Else-unsound-stop = lts.Else1 tie.the-claims reads.Pre reads.Post tie.handed_clauses

abbrev file : Start → File
file s = lent s.args.separators.now s.args.numbers.now s.args.words.now s.args.owners.now

bounds : (s : Start) → Limits s.args.geometry.parameters
bounds s = limits s.args.geometry.parameters s.requires.enters.ready.homing.valid

homed : (s : Start) → s.args.star.home ≡ entry_start s.args.geometry.parameters s.args.geometry.growth s.args.star.number
homed s = home-is s.args.geometry s.args.star.number s.args.star.home s.requires.enters.homed

ended : (s : Start) → s.args.last ≡ block_end s.args.geometry.parameters s.args.geometry.growth (file s) (entry_start s.args.geometry.parameters s.args.geometry.growth s.args.star.number)
ended s = s.requires.last_value ∙ ap (block_end s.args.geometry.parameters s.args.geometry.growth (file s)) (homed s)

inside : (s : Start) → s.args.star.home < s.args.geometry.parameters.pages
inside s = omega (arith, homed s, home-inside s.args.geometry.parameters s.args.geometry.growth (file s) s.args.star.number s.requires.enters.ready.sized s.requires.enters.unheld)

low : (s : Start) → s.args.star.home ≤ s.args.last
low s =
    let e = s.requires.enters in
    omega (arith, homed s, run-low s.args.geometry.parameters s.args.geometry.growth (file s) s.args.star.number e.ready.homing.valid e.ready.sized e.number e.unheld s.args.last (ended s))

high : (s : Start) → s.args.last < s.args.geometry.parameters.pages
high s =
    let e = s.requires.enters in
    run-high s.args.geometry.parameters s.args.geometry.growth (file s) s.args.star.number e.ready.homing.valid e.ready.sized e.number e.unheld s.args.last (ended s)

-- past the survey
abbrev begun : Else-unsound-stop → Start
begun c = c.before.before.before.before.before.before.before.before.before.before.before.before.before

abbrev surveyed : Else-unsound-stop → List ℕ
surveyed c = c.survey_pages-unsound.new.homes

told : (c : Else-unsound-stop) → c.survey_pages-unsound.result ≡ first_unsound_lem (begun c).args.geometry.parameters (begun c).args.geometry.growth (file (begun c)) (begun c).args.star.home ((begun c).args.last + 1 - (begun c).args.star.home)
told c = c.survey_pages-unsound.ensures.value

none : (c : Else-unsound-stop) → c.survey_pages-unsound.result ≡ (begun c).args.last + 1
none c =
    let s = begun c in
    let e = s.requires.enters.ready in
    bad_none s.args.geometry.parameters s.args.geometry.growth (file s) e.homing.valid e.sized s.args.star.home (inside s) s.args.last s.requires.last_value c.survey_pages-unsound.result (told c) c.if-unsound-stop.false

sound : (c : Else-unsound-stop) (q : ℕ) → (begun c).args.star.home ≤ q → q < (begun c).args.last + 1 → sound_at (begun c).args.geometry.parameters (begun c).args.geometry.growth (file (begun c)) q ≡ true
sound c q a h =
    let s = begun c in
    let e = s.requires.enters.ready in
    block-sound s.args.geometry.parameters s.args.geometry.growth (file s) s.args.star.home (inside s) q a
    (omega (arith, block-clear s.args.geometry.parameters s.args.geometry.growth (file s) e.homing.valid e.sized s.args.star.home (inside s) s.args.last s.requires.last_value c.survey_pages-unsound.result (told c) c.if-unsound-stop.false, s.requires.last_value, low s))

known : (c : Else-unsound-stop) (q : ℕ) → (begun c).args.star.home ≤ q → q < (begun c).args.last + 1 → Known (begun c).args.geometry.parameters (begun c).args.geometry.growth (file (begun c)) (surveyed c) q
known c q a h =
    let s = begun c in
    subst (λ (l : List ℕ). Known s.args.geometry.parameters s.args.geometry.growth (file s) l q) (sym (c.survey_pages-unsound.ensures.homes_after (none c)))
    (surveyed-pages s.args.geometry.parameters s.args.geometry.growth (file s) s.args.pool.now s.args.star.home (s.args.last + 1) s.requires.enters.ready.sized s.requires.pool_len.0 (omega (arith, high s)) (sound c) q a h)

long : (c : Else-unsound-stop) → length (surveyed c) ≡ (begun c).args.geometry.parameters.pages * (begun c).args.geometry.parameters.places
long c = c.survey_pages-unsound.auto.homes ∙ (begun c).requires.pool_len.0

pub overflow_add-stop : goal.overflow_add-stop
overflow_add-stop c = let s = c.before.before.before.before.before.before.before.before.before in omega (arith, high s, (bounds s).pages_most)

pub survey_pages-unsound-requires : goal.survey_pages-unsound-requires
survey_pages-unsound-requires c =
    let s = c.before.before.before.before.before.before.before.before.before.before in
    record {
      ready = s.requires.enters.ready;
      homes_len = s.requires.pool_len.0;
      from_le_stop = omega (arith, low s);
      stop_le_pages = omega (arith, high s);
      known = s.requires.known;
    }

pub returns-then-unsound-stop : goal.returns-then-unsound-stop
returns-then-unsound-stop c =
    let s = c.before.before.before.before.before.before.before.before.before.before.before.before.before.before in
    let e = s.requires.enters in
    let p = s.args.geometry.parameters in
    let g = s.args.geometry.growth in
    let done =
    run-unsound p g (file s) s.args.star.number e.ready.homing.valid e.ready.sized e.number e.unheld s.args.last (ended s) s.args.star.word s.args.star.owner c.survey_pages-unsound.result
    (c.survey_pages-unsound.ensures.value ∙ ap (λ (h : ℕ). first_unsound_lem p g (file s) h (s.args.last + 1 - h)) (homed s)) c.if-unsound-stop.true in
    record { answers = done.0; files = done.1; feasible = tt }

pub first_raisable-requires : goal.first_raisable-requires
first_raisable-requires c =
    let e = c.before in
    let s = begun e in record {
      parameters_value = s.requires.enters.ready.homing.valid;
      homed = record {
        separators = s.requires.enters.ready.sized.of_separators;
        numbers = s.requires.enters.ready.sized.of_numbers;
        homes = long e;
        low = omega (arith, low s);
        high = omega (arith, high s);
        kept = λ q a h. (known e q a h).kept (omega (arith, high s));
      };
    }

pub decide_stretch-requires : goal.decide_stretch-requires
decide_stretch-requires c =
    let e = c.before.before.before.before.before.before.before.before in
    let k = c.surveyed_block-first in
    let s = begun e in record {
      enters = s.requires.enters;
      pool_len = (long e, s.requires.pool_len.1);
      pages_in_bounds = s.requires.pages_in_bounds;
      home_value = (
        sym (ap (λ (x : Extent). x.first) k.ensures),
        extent-tested s.args.geometry.parameters s.args.geometry.growth (file s) (surveyed e) s.args.star.home s.args.last (s.args.last + 1) (inside s) s.requires.last_value (omega (arith, low s)) (le_refl _) (known e) k.result k.ensures,
      );
    }

pub decide_clean-requires : goal.decide_clean-requires
decide_clean-requires c =
    let e = c.before.before.before.before.before.before in
    let s = begun e in
    let v = s.requires.enters in
    let p = s.args.geometry.parameters in
    let g = s.args.geometry.growth in
    let all : (q : ℕ) → entry_start p g s.args.star.number ≤ q → q ≤ s.args.last → sound_at p g (file s) q ≡ true = λ q a h. sound e q (omega (arith, homed s)) (omega arith) in record {
      enters = s.requires.enters;
      pool_len = (long e, s.requires.pool_len.1);
      pages_in_bounds = s.requires.pages_in_bounds;
      place_value = s.requires.place_value;
      ruled = record {
        ends = ended s;
        known = λ q a h. known e q (omega (arith, homed s, a)) h;
        ruled =
            run-ruled p g (file s) s.args.star.number v.ready.homing.valid v.ready.sized v.number v.unheld s.args.last (ended s) all c.first_raisable.result
            (c.first_raisable.ensures
            ∙ ap (λ (h : ℕ). first_such (raisable_from (hash_of p g) h (s.args.last + 1 - h) s.args.separators.now s.args.numbers.now) h (s.args.last + 1 - h)) (homed s))
            c.if-first_raisable-stop.false;
      };
    }
