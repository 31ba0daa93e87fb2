use mathlib.Core.Path.{◌≡◌, sym, ap, ◌∙◌}
use mathlib.Core.Bool.{true, false}
use mathlib.Core.List.{List}
use Prim.Native.Nat.{ℕ, ◌<◌}
use native.Mathlib.Omega.{arith}
use Rattle.hashing.specs.Geometry.{multiplier_of}
use Rattle.hashing.proofs.Bounds.{limits}
use Rattle.hashing.proofs.Homes.{home-pages}
use Rattle.pages.proofs.Parts.{page-fits}
use Rattle.placement.specs.File.{File}
use Rattle.placement.specs.Hash.{lent}
use Rattle.page_edit.proofs.OnePage.{home-start}
use Rattle.page_edit.specs.Shift.{takes_alone_lem}
use Rattle.calls.specs.Shape.{stopped_file}
use Rattle.decision.specs.declared.chosen.Decision.TheVariants.{Put}
use Rattle.entry_reach.specs.Entry.{new_star_lem, entry_start, DecidesEntry}
use Rattle.entry_reach.proofs.OnePage.{alone-decided}
use Rattle.entry_reach.proofs.star.enter_star.Lts as lts
use Rattle.entry_reach.proofs.star.enter_star.Tie as tie
use Rattle.entry_reach.proofs.star.enter_star.Reads as reads
use Rattle.entry_reach.proofs.star.enter_star.Goals as goal
use Rattle.entry_reach.proofs.star.enter_star.Goals.{After-carry_out, After-carry_out-2, Start}

abbrev Then-takes_alone : Type 0
Then-takes_alone = lts.Then1 tie.the-claims reads.Pre reads.Post tie.handed_clauses

abbrev file : Start → File
file s = lent s.args.separators.now s.args.numbers.now s.args.words.now s.args.owners.now

home-inside : (s : Start) → s.args.star.home < s.args.geometry.parameters.pages
home-inside s =
    let p = s.args.geometry.parameters in
    let e = s.requires.enters in
    omega (arith, e.homed, home-pages (multiplier_of p) p s.args.geometry.growth s.args.star.number e.ready.homing.valid e.ready.homing.growth)

home-is : (s : Start) → s.args.star.home ≡ entry_start s.args.geometry.parameters s.args.geometry.growth s.args.star.number
home-is s = s.requires.enters.homed ∙ home-start s.args.geometry.parameters s.args.geometry.growth s.args.star.number

-- the home page takes the star alone
abbrev begun : Then-takes_alone → Start
begun c = c.before.before.before.before.before.before.before.before.before.before.before

alone : (c : Then-takes_alone)
    → takes_alone_lem (begun c).args.geometry.parameters (begun c).args.separators.now (begun c).args.numbers.now (entry_start (begun c).args.geometry.parameters (begun c).args.geometry.growth (begun c).args.star.number) ≡ true
alone c =
    let s = begun c in
    ap (takes_alone_lem s.args.geometry.parameters s.args.separators.now s.args.numbers.now) (sym (home-is s)) ∙ sym c.takes_alone.ensures ∙ c.if-takes_alone.true

decided : (c : Then-takes_alone) (pool planned : List ℕ)
    → DecidesEntry (begun c).args.geometry.parameters (begun c).args.geometry.growth (file (begun c)) (new_star_lem (begun c).args.star.number (begun c).args.star.word (begun c).args.star.owner) pool planned (Put (begun c).args.star.home (begun c).args.star.place)
decided c pool planned =
    let s = begun c in
    let e = s.requires.enters in
    alone-decided s.args.geometry.parameters s.args.geometry.growth (file s) s.args.star.number e.ready.homing.valid e.ready.homing.growth e.ready.sized e.unheld (alone c)
    s.args.star.word s.args.star.owner s.args.star.home s.args.star.page s.args.star.place (home-is s) e.here s.requires.place_value pool planned

pub takes_alone-requires : goal.takes_alone-requires
takes_alone-requires c =
    let s = c.before.before.before.before.before.before.before.before.before.before in
    let e = s.requires.enters.ready in
    record {
      parameters_value = e.homing.valid;
      page_in_bounds = omega (arith, home-inside s, e.sized.of_separators);
      places_in_bounds = page-fits _ _ _ (home-inside s) e.sized.of_numbers;
    }

pub carry_out-requires : goal.carry_out-requires
carry_out-requires c =
    let d = c.before.before.before.before.before.before.before.before.before in
    let s = begun d in
    let e = s.requires.enters.ready in
    record {
      parameters_value = e.homing.valid;
      sized = e.sized;
      pooled = s.requires.pooled;
      feasible = (decided d s.args.pool.now s.args.separators.now).feasible;
    }

pub returns-then-takes_alone : goal.returns-then-takes_alone
returns-then-takes_alone c =
    let d = c.before.before.before.before.before.before.before.before.before.before.before.before.before.before.before.before.before.before.before.before.before.before.before.before.before in
    let s = begun d in
    let done = c.carry_out.ensures in
    let chosen = decided d s.args.pool.now s.args.separators.now in
    record {
      value = chosen.answers;
      owners_value = done ∙ ap (λ (l : File). stopped_file false s.args.geometry.parameters (file s) l s.args.limit) chosen.files;
    }

pub decide-decision-requires : goal.decide-decision-requires
decide-decision-requires c =
    let s = c.before.before.before.before.before.before.before.before.before.before.before.before.before.before.before in
    record {
      enters = s.requires.enters;
      pool_len = (s.requires.pooled.of_numbers, s.requires.pooled.of_words_lem);
      pages_in_bounds = (limits _ s.requires.enters.ready.homing.valid).pages_most;
      known = s.requires.known;
      place_value = s.requires.place_value;
    }

pub carry_out-requires-2 : goal.carry_out-requires-2
carry_out-requires-2 c =
    let s = c.before.before.before.before.before.before.before.before.before.before.before.before.before.before.before.before.before.before.before.before.before.before.before.before.before.before.before.before in
    let e = s.requires.enters.ready in
    let pools = s.requires.pooled in
    let planned = c.decide-decision in record {
      parameters_value = e.homing.valid;
      sized = e.sized;
      pooled = record { of_numbers = planned.auto.pool ∙ pools.of_numbers; of_words_lem = planned.auto.waiting ∙ pools.of_words_lem; of_owners = pools.of_owners };
      feasible = planned.ensures.feasible;
    }

pub returns : goal.returns
returns c =
    let s = c.before.before.before.before.before.before.before.before.before.before.before.before.before.before.before.before.before.before.before.before.before.before.before.before.before.before.before.before.before.before.before.before.before.before.before.before.before.before.before.before.before.before.before.before.before in
    let done = c.carry_out-2.ensures in
    let chosen = c.decide-decision.ensures in
    record {
      value = c.outcome_of.ensures ∙ chosen.answers;
      owners_value = done ∙ ap (λ (l : File). stopped_file false s.args.geometry.parameters (file s) l s.args.limit) chosen.files;
    }
