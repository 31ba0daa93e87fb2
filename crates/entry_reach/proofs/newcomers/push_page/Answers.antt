use mathlib.Core.Path.{◌≡◌, ap, ◌∙◌}
use mathlib.Core.List.{List, ◌++◌}
use Prim.Native.Nat.{ℕ, ◌+◌, ◌*◌, ◌≤◌, ◌<◌}
use native.Mathlib.Nat.{mul-le-mul, mul-le-mul_right}
use native.Mathlib.Omega.{arith}
use lib.ListN.{length, take}
use lib.Seq.{slice}
use Rattle.hashing.proofs.Bounds.{Limits, limits}
use Rattle.pages.proofs.Parts.{page-fits}
use Rattle.placement.specs.File.{File}
use Rattle.placement.specs.Hash.{lent}
use Rattle.placement.proofs.Prepared.{first-signers}
use Rattle.entry_reach.specs.Pushing.{page_words}
use Rattle.entry_reach.proofs.PushLoop.{known-words, known-numbers, known-below, known-grouped, stars-room, met-joined, met-probing}
use Rattle.entry_reach.proofs.newcomers.push_page.Lts as lts
use Rattle.entry_reach.proofs.newcomers.push_page.Tie as tie
use Rattle.entry_reach.proofs.newcomers.push_page.Reads as reads
use Rattle.entry_reach.proofs.newcomers.push_page.Goals as goal
use Rattle.entry_reach.proofs.newcomers.push_page.Goals.{Start}

abbrev After-join_page-reach : Type 0
After-join_page-reach = lts.After-join_page tie.the-claims reads.Pre reads.Post tie.handed_clauses

abbrev file : Start → File
file s = lent s.args.separators.now s.args.numbers.now s.args.words.now s.args.owners.now

bounds : (s : Start) → Limits s.args.geometry.parameters
bounds s = limits s.args.geometry.parameters s.requires.ready.homing.valid

few : (s : Start) → s.args.geometry.parameters.pages * s.args.geometry.parameters.places ≤ 32768
few s = mul-le-mul (bounds s).pages_most (bounds s).places_most

inside : (s : Start) → s.args.page < s.args.geometry.parameters.pages
inside s = s.requires.pages_in_bounds.1

fits : (s : Start) → (s.args.page + 1) * s.args.geometry.parameters.places ≤ s.args.geometry.parameters.pages * s.args.geometry.parameters.places
fits s = mul-le-mul_right s.args.geometry.parameters.places (omega (arith, inside s))

pub overflow_cast-stored : goal.overflow_cast-stored
overflow_cast-stored c = omega (arith, c.type_inv.separators c.args.page)

pub join_page-reach-requires : goal.join_page-reach-requires
join_page-reach-requires c =
    let s = c.before.before.before.before.before.before.before.before.before.before.before.before in
    let p = s.args.geometry.parameters in
    let g = s.args.geometry.growth in
    let v = s.requires.ready.homing.valid in
    let k = s.requires.known in record {
      places_bound = ((bounds s).places_most, omega (arith, inside s, (bounds s).pages_most));
      places_in_bounds = (omega (arith, fits s, s.requires.ready.sized.of_numbers), omega (arith, fits s, s.requires.pool_len.0));
      numbers_value = known-numbers p g (file s) v s.requires.ready.sized s.args.page (inside s) (k.sound (inside s)) s.args.pool.now (k.kept (inside s));
      pool_value = known-below p g (file s) v s.requires.ready.sized s.args.page (inside s) (k.sound (inside s)) s.args.pool.now (k.kept (inside s));
      pool_value_2 = known-grouped p g (file s) v s.requires.ready.sized s.args.page (inside s) (k.sound (inside s)) s.args.pool.now (k.kept (inside s));
      end_bound = (
        omega (arith, few s, s.requires.pool_len.1, s.requires.from_le_end.1.0),
        omega (arith, stars-room p g (file s) v s.requires.ready.sized s.args.page (inside s) (k.sound (inside s)) s.args.pool.now (k.kept (inside s)), s.requires.from_le_end.1.0),
      );
    }

-- from the page's words on
abbrev Place : Type 0
Place = After-join_page-reach

abbrev start : Place → Start
start x = x.before.before.before.before.before.before.before.before.before.before.before.before

abbrev come : Place → List ℕ
come x = x.join_page-reach.new.waiting

ends : (x : Place) → x.join_page-reach.result ≡ (start x).args.end + length (page_words (start x).args.geometry.parameters (start x).args.geometry.growth (file (start x)) (start x).args.page)
ends x =
    let s = start x in
    let k = s.requires.known in
    x.join_page-reach.ensures.value
    ∙ ap (λ (l : List ℕ). s.args.end + length l)
    (known-words s.args.geometry.parameters s.args.geometry.growth (file s) s.requires.ready.homing.valid s.requires.ready.sized s.args.page (inside s) (k.sound (inside s)) s.args.pool.now (k.kept (inside s)))

words : (x : Place) → take x.join_page-reach.result (come x) ≡ take (start x).args.end (start x).args.waiting.now ++ page_words (start x).args.geometry.parameters (start x).args.geometry.growth (file (start x)) (start x).args.page
words x =
    let s = start x in
    let k = s.requires.known in
    x.join_page-reach.ensures.waiting_after
    ∙ ap (λ (l : List ℕ). take s.args.end s.args.waiting.now ++ l)
    (known-words s.args.geometry.parameters s.args.geometry.growth (file s) s.requires.ready.homing.valid s.requires.ready.sized s.args.page (inside s) (k.sound (inside s)) s.args.pool.now (k.kept (inside s)))

within : (s : Start) → s.args.end ≤ length s.args.waiting.now
within s = omega (arith, s.requires.from_le_end.1.0)

joined : (x : Place) → slice (start x).args.from x.join_page-reach.result (come x)
    ≡ slice (start x).args.from (start x).args.end (start x).args.waiting.now ++ page_words (start x).args.geometry.parameters (start x).args.geometry.growth (file (start x)) (start x).args.page
joined x = met-joined (start x).args.from (start x).args.end x.join_page-reach.result (start x).args.waiting.now (come x) _ (start x).requires.from_le_end.0 (within (start x)) (words x)

pub lower_page-on-requires : goal.lower_page-on-requires
lower_page-on-requires c =
    let x = c.before.before.before.before.before.before in
    let s = start x in
    let p = s.args.geometry.parameters in
    let k = s.requires.known in record {
      signers = first-signers s.requires.ready.homing.table s.requires.ready.homing.valid;
      probing = met-probing p s.args.geometry.growth (file s) s.requires.ready.homing.valid s.requires.ready.sized s.args.page (inside s) (k.sound (inside s)) s.args.from s.args.end x.join_page-reach.result s.args.waiting.now (come x)
          s.requires.from_le_end.0 (within s) (ends x) (words x) s.requires.from_le_end.1.1 (x.join_page-reach.auto.waiting ∙ s.requires.pool_len.1);
      most_bound = (
        omega (arith, c.type_inv.separators s.args.page),
        (omega (arith, inside s, s.requires.pages_in_bounds.0), page-fits _ _ _ (inside s) s.requires.pool_len.0),
      );
    }

pub returns : goal.returns
returns c =
    let y = c.before.before.before.before.before.before.before in
    let x = y.before.before.before.before.before.before in
    record { ends = ends x; lowered = rw (joined x) at y.lower_page-on.ensures }
