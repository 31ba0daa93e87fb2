use mathlib.Core.Path.{◌≡◌, sym, ap, ◌∙◌}
use mathlib.Core.List.{◌∷◌, []}
use Prim.Native.Nat.{ℕ, ◌+◌, ◌*◌, ◌≤◌, ◌<◌}
use native.Mathlib.Nat.{mul-le-mul}
use native.Mathlib.Omega.{arith}
use lib.ListN.{length, take, set, length-set}
use lib.Seq.{take-suc-set}
use Rattle.pages.proofs.Numbers.{number-range}
use Rattle.hashing.specs.Geometry.{multiplier_of}
use Rattle.hashing.proofs.Bounds.{Limits, limits}
use Rattle.hashing.proofs.Homes.{home-pages}
use Rattle.placement.specs.File.{File}
use Rattle.placement.specs.Hash.{lent}
use Rattle.page_separator.specs.Words.{pack}
use Rattle.entry_reach.specs.Entry.{entry_start}
use Rattle.entry_reach.specs.Blocks.{Reached}
use Rattle.entry_reach.proofs.Joined.{new_word}
use Rattle.entry_reach.proofs.Reached.{some-items, home-starts, reached-first}
use Rattle.entry_reach.proofs.blocks.plan_entry.Lts as lts
use Rattle.entry_reach.proofs.blocks.plan_entry.Tie as tie
use Rattle.entry_reach.proofs.blocks.plan_entry.Reads as reads
use Rattle.entry_reach.proofs.blocks.plan_entry.Goals as goal
use Rattle.entry_reach.proofs.blocks.plan_entry.Goals.{Start}

abbrev After-pack : Type 0
After-pack = lts.After-pack tie.the-claims reads.Pre reads.Post tie.handed_clauses

abbrev file : Start → File
file s = lent s.args.separators.now s.args.numbers.now s.args.words.now s.args.owners.now

bounds : (s : Start) → Limits s.args.geometry.parameters
bounds s = limits s.args.geometry.parameters s.requires.ready.homing.valid

few : (s : Start) → s.args.geometry.parameters.pages * s.args.geometry.parameters.places ≤ 32768
few s = mul-le-mul (bounds s).pages_most (bounds s).places_most

items : (s : Start) → 0 < length s.args.waiting.now
items s = omega (arith, s.requires.pool_len.1, some-items s.args.geometry.parameters s.args.geometry.growth s.requires.ready.homing.valid s.requires.ready.homing.growth s.args.number)

from : (s : Start) → s.args.home ≡ entry_start s.args.geometry.parameters s.args.geometry.growth s.args.number
from s = s.requires.home_value.0 ∙ home-starts s.args.geometry.parameters s.args.geometry.growth s.args.number

inside : (s : Start) → s.args.home < s.args.geometry.parameters.pages
inside s =
    omega (arith, s.requires.home_value.0, home-pages (multiplier_of s.args.geometry.parameters) s.args.geometry.parameters s.args.geometry.growth s.args.number s.requires.ready.homing.valid s.requires.ready.homing.growth)

abbrev start : After-pack → Start
start a = a.before.before.before.before.before.before.before.before

-- the new star's word alone waits
reached : (a : After-pack) → Reached (start a).args.geometry.parameters (start a).args.geometry.growth (file (start a)) (start a).args.number
    (entry_start (start a).args.geometry.parameters (start a).args.geometry.growth (start a).args.number) (start a).args.first.first (start a).args.pool.now (start a).args.planned.now
    (take 1 (set (start a).args.waiting.now 0 a.pack.result))
reached a =
    let s = start a in
    let at : s.args.first.first ≡ entry_start s.args.geometry.parameters s.args.geometry.growth s.args.number = sym s.requires.home_value.1 ∙ from s in
    let packed : a.pack.result ≡ new_word s.args.geometry.parameters s.args.geometry.growth (file s) s.args.number =
    a.pack.ensures ∙ ap (λ (h : ℕ). pack h s.args.number (length s.args.numbers.now + 1)) (from s) in
    let waits : take 1 (set s.args.waiting.now 0 a.pack.result) ≡ a.pack.result ∷ [] = take-suc-set s.args.waiting.now 0 a.pack.result (items s) in
    reached-first s.args.geometry.parameters s.args.geometry.growth (file s) s.args.number s.requires.ready.homing.valid s.requires.ready.sized s.requires.number_value s.requires.unheld
    s.args.pool.now s.args.planned.now (take 1 (set s.args.waiting.now 0 a.pack.result)) s.args.first.first at (waits ∙ ap (λ (x : ℕ). x ∷ []) packed)
    (omega (arith, at, from s, inside s))

pub pack-requires : goal.pack-requires
pack-requires c =
    let s = c.before.before.before.before.before.before.before.before in
    record {
      home_bound = omega (arith, inside s, (bounds s).pages_most);
      number_bound = omega (arith, number-range s.args.number s.requires.number_value);
      source_bound = omega (arith, few s, s.requires.ready.sized.of_numbers);
    }

pub bounds-waiting-0 : goal.bounds-waiting-0
bounds-waiting-0 c = omega (arith, items (start c.before))

pub plan_onward-requires : goal.plan_onward-requires
plan_onward-requires c =
    let a = c.before.before.before.before in
    let s = start a in
    let r = reached a in
    record {
      ready = s.requires.ready;
      pool_len = (s.requires.pool_len.0, simp length-set s.requires.pool_len.1);
      pages_in_bounds = s.requires.pages_in_bounds;
      incoming_in_bounds = (simp length-set (omega (arith, items s)), rw r.at r.spanned.words.near);
      extends = s.requires.extends;
    }

pub returns : goal.returns
returns c =
    let x = c.before.before.before.before.before.before.before in
    let a = x.before.before.before.before in
    let s = start a in
    let told = x.plan_onward.ensures s.args.number (entry_start s.args.geometry.parameters s.args.geometry.growth s.args.number) s.requires.number_value s.requires.unheld (reached a) in
    record {
      by_index = told.0;
      applies = told.1;
    }
