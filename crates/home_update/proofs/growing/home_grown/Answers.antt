-- `home_update::home_grown` meets its contract, by the law of a home after one growth.
use mathlib.Core.Path.{◌≡◌, ◌∙◌, sym, ap}
use mathlib.Core.Bool.{false, cond, ◌&&◌, not}
use Prim.Native.Nat.{ℕ, ◌+◌, ◌*◌}
use native.Mathlib.Nat.{le_refl}
use native.Mathlib.Omega.{arith}
use borrow.Author.Rules.{rules}
use borrow.Author.Tests.{le-leb, lt-leb, eq-eqb, ne_eqb, not-true, not-false}
use lib.Dec.{leb, eqb}
use Rattle.hashing.specs.Geometry.{multiplier_of, page_count, group_size_lem, group_count_lem, grown}
use Rattle.hashing.specs.Home.{home, chosen, rank_at}
use Rattle.hashing.specs.Moves.{code_page}
use Rattle.hashing.proofs.Bounds.{Limits, Within, limits, growth_within, spread}
use Rattle.hashing.proofs.Homes.{home-pages}
use Rattle.hashing.proofs.Codes.{chosen-key, code_size, code_count_lem, code_narrow, count-of_least}
use Rattle.home_update.proofs.Rehomed.{home-regrown}
use Rattle.home_update.proofs.growing.home_grown.Goals as goal
use Rattle.home_update.proofs.growing.home_grown.Goals.{After-chosen_last, After-page_of-first, Else-first-page, Start}

abbrev span : Start → ℕ
span c = group_size_lem c.args.geometry.parameters c.args.geometry.growth * group_count_lem c.args.geometry.parameters c.args.geometry.growth

abbrev expanded : Start → ℕ
expanded c = c.args.geometry.growth.expanded

abbrev order : Start → ℕ
order c = rank_at c.args.geometry.parameters c.args.geometry.growth.expansions c.args.old

bounds : (c : Start) → Limits c.args.geometry.parameters
bounds c = limits _ c.requires.parameters_value

state : (c : Start) → Within c.args.geometry.parameters c.args.geometry.growth
state c = growth_within _ _ c.requires.growth_value

regrown :
    (c : Start) →
    home (multiplier_of c.args.geometry.parameters) c.args.geometry.parameters (grown c.args.geometry.parameters c.args.geometry.growth) c.args.number ≡ cond (leb (span c) c.args.old) c.args.old (cond (chosen (multiplier_of c.args.geometry.parameters) c.args.geometry.parameters c.args.number c.args.geometry.growth.expansions && eqb (order c) (expanded c)) (span c + expanded c) c.args.old)
regrown c = home-regrown (multiplier_of c.args.geometry.parameters) _ _ _ _ c.requires.parameters_value c.requires.growth_value c.requires.value

first : (c : After-page_of-first) → c.page_of-first.result ≡ span c.before.before.before.before
unfolding code_page
first c =
    let start = c.before.before.before.before in
    let p = start.args.geometry.parameters in
    let e = start.args.geometry.growth.expansions in
    c.page_of-first.ensures
    ∙ rw (c.last_code-last.ensures, code_size p e (bounds start), code_count_lem p e (bounds start)) (omega arith)

-- past the first test the star was not moved yet
lower : (c : Else-first-page) → leb (span c.before.before.before.before.before) c.args.old ≡ false
lower c = lt-leb (span c.before.before.before.before.before) c.args.old (omega (arith, first c.before))

-- the code's test is that of the last step
test :
    (c : After-chosen_last) →
    chosen (multiplier_of c.args.geometry.parameters) c.args.geometry.parameters c.args.number c.args.geometry.growth.expansions ≡ c.chosen_last.result
test c =
    let start = c.before.before.before.before.before.before in
    sym (c.chosen_last.ensures ∙ chosen-key (multiplier_of start.args.geometry.parameters) start.args.geometry.parameters start.args.number start.args.geometry.growth.expansions)

pub overflow_cast-page : goal.overflow_cast-page
overflow_cast-page c =
    let start = c.before in
    omega (arith, start.requires.value, home-pages (multiplier_of start.args.geometry.parameters) _ _ start.args.number start.requires.parameters_value start.requires.growth_value, (bounds start).pages_most)

pub overflow_cast-expanded : goal.overflow_cast-expanded
overflow_cast-expanded c =
    let start = c.before.before in
    omega (arith, (state start).expanded_below, (spread _ _ (bounds start) (state start)).count_high)

pub page_of-first-requires : goal.page_of-first-requires
page_of-first-requires c =
    let start = c.before.before.before in
    let p = start.args.geometry.parameters in
    let e = start.args.geometry.growth.expansions in
    record {
      parameters_value = start.requires.parameters_value;
      landed = (count-of_least p c.last_code-last.result (bounds start), rw c.last_code-last.ensures (code_narrow p _ e (bounds start) (state start) (le_refl e)));
    }

pub returns-then-first-page : goal.returns-then-first-page
returns-then-first-page c =
    let start = c.before.before.before.before.before in
    rw (regrown start, le-leb (span start) start.args.old (omega (arith, first c.before)))

pub chosen_last-requires : goal.chosen_last-requires
chosen_last-requires c =
    let start = c.before.before.before.before.before in
    record {
      table_value = start.requires.table_value;
      parameters_value = start.requires.parameters_value;
      growth_value = start.requires.growth_value;
      key_lt_modulus = omega arith;
      last_value = c.last_code-last.ensures;
    }

pub returns-then-not-chosen_last : goal.returns-then-not-chosen_last
returns-then-not-chosen_last c =
    let start = c.before.before.before.before.before.before.before in
    rw (regrown start, lower c.before.before, test c.before, not-true c.chosen_last.result (ap not c.if-not-chosen_last.true))

pub overflow_add-result : goal.overflow_add-result
unfolding page_count
overflow_add-result c =
    let start = c.before.before.before.before.before.before.before.before.before in
    omega (arith, first c.before.before.before.before.before, (bounds start).pages_most, (state start).pages_fit)

pub returns-then-last_rank-expanded : goal.returns-then-last_rank-expanded
returns-then-last_rank-expanded c =
    let start = c.before.before.before.before.before.before.before.before.before in
    let same : order start ≡ expanded start = omega (arith, c.if-last_rank-expanded.true, c.last_rank.ensures) in
    rw (
      first c.before.before.before.before.before,
      regrown start,
      lower c.before.before.before.before,
      test c.before.before.before,
      not-false c.chosen_last.result (ap not c.if-not-chosen_last.false),
      eq-eqb (order start) (expanded start) same,
    )

pub returns : goal.returns
returns c =
    let start = c.before.before.before.before.before.before.before.before.before in
    rw (
      regrown start,
      lower c.before.before.before.before,
      test c.before.before.before,
      not-false c.chosen_last.result (ap not c.if-not-chosen_last.false),
      ne_eqb (order start) (expanded start) (λ e. c.if-last_rank-expanded.false (c.last_rank.ensures ∙ e)),
    )
