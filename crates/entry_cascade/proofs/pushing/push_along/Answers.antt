-- Page after page as `Rolling` says.
use mathlib.Core.Path.{◌≡◌, refl, ◌∙◌, subst}
use Prim.Native.Nat.{ℕ, ◌*◌, ◌≤◌, ◌<◌}
use native.Mathlib.Nat.{le_refl}
use native.Mathlib.Omega.{arith}
use lib.ListN.{length, length-set}
use Rattle.hashing.specs.Geometry.{multiplier_of}
use Rattle.hashing.proofs.Bounds.{Limits, limits}
use Rattle.hashing.proofs.Homes.{home-pages}
use Rattle.pages.proofs.Parts.{page-fits}
use Rattle.placement.specs.Hash.{lent}
use Rattle.placement.proofs.Prepared.{first-signers}
use Rattle.entry_reach.proofs.Reached.{some-items}
use Rattle.entry_cascade.specs.declared.arriving.Taken.{Taken}
use Rattle.entry_cascade.specs.declared.arriving.Taken.TheVariants.{Joined, Unsound, Crowded}
use Rattle.entry_cascade.specs.Arriving.{TakenIn, Joins}
use Rattle.entry_reach.proofs.Pushed.{small, few, new-packed}
use Rattle.entry_cascade.proofs.Rolling.{Rolling, rolling_none, rolling_unsound, rolling_crowded, rolling_probing, rolling_ends, rolling_next, rolling_known, rolling_overflow}
use Rattle.entry_cascade.proofs.pushing.push_along.Goals as goal

-- at the loop's head
-- from the page's stars on
pub pack-requires : goal.pack-requires
pack-requires c =
    let bounds : Limits c.args.geometry.parameters = limits c.args.geometry.parameters c.requires.enters.ready.homing.valid in
    record {
      home_bound = omega (arith, c.requires.enters.homed, home-pages (multiplier_of c.args.geometry.parameters) c.args.geometry.parameters c.args.geometry.growth c.args.number c.requires.enters.ready.homing.valid c.requires.enters.ready.homing.growth, bounds.pages_most);
      number_bound = small c.args.geometry.parameters c.args.geometry.growth (lent c.args.separators.now c.args.numbers.now c.args.words.now c.args.owners.now) c.args.number c.args.page c.requires.enters.ready.homing.valid c.requires.enters.ready.sized c.requires.enters.number c.requires.enters.unheld c.requires.enters.here;
      source_bound = few c.args.geometry.parameters c.args.geometry.growth (lent c.args.separators.now c.args.numbers.now c.args.words.now c.args.owners.now) c.args.number c.args.page c.requires.enters.ready.homing.valid c.requires.enters.ready.sized c.requires.enters.number c.requires.enters.unheld c.requires.enters.here;
    }

pub bounds-waiting-0 : goal.bounds-waiting-0
bounds-waiting-0 c =
    let items : 0 < length c.args.waiting.now = omega (arith, c.requires.pool_len.1, some-items c.args.geometry.parameters c.args.geometry.growth c.requires.enters.ready.homing.valid c.requires.enters.ready.homing.growth c.args.number) in
    omega (arith, items)

pub loop-at-init : goal.loop-at-init
loop-at-init c =
    let items : 0 < length c.args.waiting.now = omega (arith, c.requires.pool_len.1, some-items c.args.geometry.parameters c.args.geometry.growth c.requires.enters.ready.homing.valid c.requires.enters.ready.homing.growth c.args.number) in
    let e = c.requires.enters in
    let p = c.args.geometry.parameters in
    let g = c.args.geometry.growth in (
      refl,
      (
        refl,
        (
          refl,
          (
            c.requires.known_to,
            rw (c.pack.ensures ∙ new-packed p g (lent c.args.separators.now c.args.numbers.now c.args.words.now c.args.owners.now) c.args.number c.args.page e.ready.homing.valid e.ready.sized e.number e.unheld e.here c.args.home e.homed)
                (rolling_none p g (lent c.args.separators.now c.args.numbers.now c.args.words.now c.args.owners.now) c.args.number c.args.page e.ready.homing.valid e.ready.sized e.number e.unheld e.here c.args.pool.now c.args.planned.now c.args.waiting.now items),
          ),
        ),
      ),
    )

pub take_in-requires : goal.take_in-requires
take_in-requires c =
    let rolls : Rolling c.args.geometry.parameters c.args.geometry.growth (lent c.args.separators.now c.args.numbers.now c.args.words.now c.args.owners.now) c.args.number c.args.page c.loop-at.pool c.loop-at.planned c.loop-at.waiting c.loop-at.at c.loop-at.from c.loop-at.end = c.loop-at.invariant.1.1.1.1 in
    let pool-long : length c.loop-at.pool ≡ c.args.geometry.parameters.pages * c.args.geometry.parameters.places = c.loop-at.invariant.0 ∙ c.requires.pool_len.0 in
    let waiting-same : length c.loop-at.waiting ≡ length c.args.waiting.now = c.loop-at.invariant.1.0 ∙ simp length-set in
    let waiting-long : length c.loop-at.waiting ≡ c.args.geometry.parameters.pages * c.args.geometry.parameters.places = waiting-same ∙ c.requires.pool_len.1 in
    record {
      ready = c.requires.enters.ready;
      waiting_len = (waiting-long, pool-long);
      page_lt_pages = (c.loop-at-test.true, rolls.within);
      known = λ t. c.loop-at.invariant.1.1.1.0 c.loop-at.at (le_refl _) t;
    }

pub shape_of-waiting-in-Unsound : goal.shape_of-waiting-in-Unsound
shape_of-waiting-in-Unsound c =
    let waiting-same : length c.loop-at.waiting ≡ length c.args.waiting.now = c.loop-at.invariant.1.0 ∙ simp length-set in
    let waiting_kept : length c.take_in.new.waiting ≡ length c.args.waiting.now = c.take_in.auto.waiting ∙ waiting-same in
    waiting_kept

pub returns-in-Unsound : goal.returns-in-Unsound
returns-in-Unsound c =
    let rolls : Rolling c.args.geometry.parameters c.args.geometry.growth (lent c.args.separators.now c.args.numbers.now c.args.words.now c.args.owners.now) c.args.number c.args.page c.loop-at.pool c.loop-at.planned c.loop-at.waiting c.loop-at.at c.loop-at.from c.loop-at.end = c.loop-at.invariant.1.1.1.1 in
    let inside : c.loop-at.at < c.args.geometry.parameters.pages = c.loop-at-test.true in
    let known : (t : Taken) → c.take_in.result ≡ t → TakenIn c.args.geometry.parameters c.args.geometry.growth (lent c.args.separators.now c.args.numbers.now c.args.words.now c.args.owners.now) c.loop-at.at c.loop-at.end c.loop-at.waiting c.take_in.new.waiting t = λ t e. subst (λ (t : Taken). TakenIn c.args.geometry.parameters c.args.geometry.growth (lent c.args.separators.now c.args.numbers.now c.args.words.now c.args.owners.now) c.loop-at.at c.loop-at.end c.loop-at.waiting c.take_in.new.waiting t) e c.take_in.ensures in
    let e = c.requires.enters in
    rolling_unsound c.args.geometry.parameters c.args.geometry.growth (lent c.args.separators.now c.args.numbers.now c.args.words.now c.args.owners.now) c.args.number c.args.page e.ready.homing.valid e.ready.sized e.number e.unheld e.here
    c.loop-at.pool c.loop-at.planned c.loop-at.waiting c.loop-at.at c.loop-at.from c.loop-at.end rolls inside (known Unsound c.in-Unsound.is)

pub shape_of-waiting-in-Crowded : goal.shape_of-waiting-in-Crowded
shape_of-waiting-in-Crowded c =
    let waiting-same : length c.loop-at.waiting ≡ length c.args.waiting.now = c.loop-at.invariant.1.0 ∙ simp length-set in
    let waiting_kept : length c.take_in.new.waiting ≡ length c.args.waiting.now = c.take_in.auto.waiting ∙ waiting-same in
    waiting_kept

pub returns-in-Crowded : goal.returns-in-Crowded
returns-in-Crowded c =
    let rolls : Rolling c.args.geometry.parameters c.args.geometry.growth (lent c.args.separators.now c.args.numbers.now c.args.words.now c.args.owners.now) c.args.number c.args.page c.loop-at.pool c.loop-at.planned c.loop-at.waiting c.loop-at.at c.loop-at.from c.loop-at.end = c.loop-at.invariant.1.1.1.1 in
    let pool-long : length c.loop-at.pool ≡ c.args.geometry.parameters.pages * c.args.geometry.parameters.places = c.loop-at.invariant.0 ∙ c.requires.pool_len.0 in
    let planned-long : c.args.geometry.parameters.pages ≤ length c.loop-at.planned = omega (arith, c.loop-at.invariant.1.1.0, c.requires.pages_in_bounds) in
    let inside : c.loop-at.at < c.args.geometry.parameters.pages = c.loop-at-test.true in
    let known : (t : Taken) → c.take_in.result ≡ t → TakenIn c.args.geometry.parameters c.args.geometry.growth (lent c.args.separators.now c.args.numbers.now c.args.words.now c.args.owners.now) c.loop-at.at c.loop-at.end c.loop-at.waiting c.take_in.new.waiting t = λ t e. subst (λ (t : Taken). TakenIn c.args.geometry.parameters c.args.geometry.growth (lent c.args.separators.now c.args.numbers.now c.args.words.now c.args.owners.now) c.loop-at.at c.loop-at.end c.loop-at.waiting c.take_in.new.waiting t) e c.take_in.ensures in
    let e = c.requires.enters in
    rolling_crowded c.args.geometry.parameters c.args.geometry.growth (lent c.args.separators.now c.args.numbers.now c.args.words.now c.args.owners.now) c.args.number c.args.page e.ready.homing.valid e.ready.sized e.number e.unheld e.here
    c.loop-at.pool c.loop-at.planned c.loop-at.waiting c.loop-at.at c.loop-at.from c.loop-at.end rolls inside pool-long planned-long (known Crowded c.in-Crowded.is)

pub bounds-separators-at : goal.bounds-separators-at
bounds-separators-at c =
    let inside : c.loop-at.at < c.args.geometry.parameters.pages = c.loop-at-test.true in
    omega (arith, inside, c.requires.enters.ready.sized.of_separators)

pub overflow_cast-most : goal.overflow_cast-most
overflow_cast-most c = omega (arith, c.type_inv.separators c.loop-at.at)

pub lower_page-from-requires : goal.lower_page-from-requires
lower_page-from-requires c =
    let rolls : Rolling c.args.geometry.parameters c.args.geometry.growth (lent c.args.separators.now c.args.numbers.now c.args.words.now c.args.owners.now) c.args.number c.args.page c.loop-at.pool c.loop-at.planned c.loop-at.waiting c.loop-at.at c.loop-at.from c.loop-at.end = c.loop-at.invariant.1.1.1.1 in
    let pool-long : length c.loop-at.pool ≡ c.args.geometry.parameters.pages * c.args.geometry.parameters.places = c.loop-at.invariant.0 ∙ c.requires.pool_len.0 in
    let planned-long : c.args.geometry.parameters.pages ≤ length c.loop-at.planned = omega (arith, c.loop-at.invariant.1.1.0, c.requires.pages_in_bounds) in
    let inside : c.loop-at.at < c.args.geometry.parameters.pages = c.loop-at-test.true in
    let known : (t : Taken) → c.take_in.result ≡ t → TakenIn c.args.geometry.parameters c.args.geometry.growth (lent c.args.separators.now c.args.numbers.now c.args.words.now c.args.owners.now) c.loop-at.at c.loop-at.end c.loop-at.waiting c.take_in.new.waiting t = λ t e. subst (λ (t : Taken). TakenIn c.args.geometry.parameters c.args.geometry.growth (lent c.args.separators.now c.args.numbers.now c.args.words.now c.args.owners.now) c.loop-at.at c.loop-at.end c.loop-at.waiting c.take_in.new.waiting t) e c.take_in.ensures in
    let joins : (reach : ℕ) → c.take_in.result ≡ Joined reach → Joins c.args.geometry.parameters c.args.geometry.growth (lent c.args.separators.now c.args.numbers.now c.args.words.now c.args.owners.now) c.loop-at.at c.loop-at.end c.loop-at.waiting c.take_in.new.waiting reach = λ reach e. known (Joined reach) e in
    let waiting-same : length c.loop-at.waiting ≡ length c.args.waiting.now = c.loop-at.invariant.1.0 ∙ simp length-set in
    let waiting_kept : length c.take_in.new.waiting ≡ length c.args.waiting.now = c.take_in.auto.waiting ∙ waiting-same in
    let e = c.requires.enters in
    record {
      signers = first-signers e.ready.homing.table e.ready.homing.valid;
      probing = rolling_probing c.args.geometry.parameters c.args.geometry.growth (lent c.args.separators.now c.args.numbers.now c.args.words.now c.args.owners.now) c.args.number c.args.page e.ready.homing.valid e.ready.sized e.number e.unheld e.here
          c.loop-at.pool c.loop-at.planned c.loop-at.waiting c.loop-at.at c.loop-at.from c.loop-at.end rolls inside c.take_in.new.waiting c.in-Joined.reach (joins c.in-Joined.reach c.in-Joined.is) (waiting_kept ∙ c.requires.pool_len.1);
      most_bound = (
        omega (arith, c.type_inv.separators c.loop-at.at),
        (omega (arith, inside, planned-long), page-fits _ _ _ inside pool-long),
      );
    }

-- from the page's plan on
pub returns-then-from-reach : goal.returns-then-from-reach
returns-then-from-reach c =
    let rolls : Rolling c.args.geometry.parameters c.args.geometry.growth (lent c.args.separators.now c.args.numbers.now c.args.words.now c.args.owners.now) c.args.number c.args.page c.loop-at.pool c.loop-at.planned c.loop-at.waiting c.loop-at.at c.loop-at.from c.loop-at.end = c.loop-at.invariant.1.1.1.1 in
    let pool-long : length c.loop-at.pool ≡ c.args.geometry.parameters.pages * c.args.geometry.parameters.places = c.loop-at.invariant.0 ∙ c.requires.pool_len.0 in
    let planned-long : c.args.geometry.parameters.pages ≤ length c.loop-at.planned = omega (arith, c.loop-at.invariant.1.1.0, c.requires.pages_in_bounds) in
    let inside : c.loop-at.at < c.args.geometry.parameters.pages = c.loop-at-test.true in
    let known : (t : Taken) → c.take_in.result ≡ t → TakenIn c.args.geometry.parameters c.args.geometry.growth (lent c.args.separators.now c.args.numbers.now c.args.words.now c.args.owners.now) c.loop-at.at c.loop-at.end c.loop-at.waiting c.take_in.new.waiting t = λ t e. subst (λ (t : Taken). TakenIn c.args.geometry.parameters c.args.geometry.growth (lent c.args.separators.now c.args.numbers.now c.args.words.now c.args.owners.now) c.loop-at.at c.loop-at.end c.loop-at.waiting c.take_in.new.waiting t) e c.take_in.ensures in
    let joins : (reach : ℕ) → c.take_in.result ≡ Joined reach → Joins c.args.geometry.parameters c.args.geometry.growth (lent c.args.separators.now c.args.numbers.now c.args.words.now c.args.owners.now) c.loop-at.at c.loop-at.end c.loop-at.waiting c.take_in.new.waiting reach = λ reach e. known (Joined reach) e in
    let e = c.requires.enters in
    rolling_ends c.args.geometry.parameters c.args.geometry.growth (lent c.args.separators.now c.args.numbers.now c.args.words.now c.args.owners.now) c.args.number c.args.page e.ready.homing.valid e.ready.sized e.number e.unheld e.here
    c.loop-at.pool c.loop-at.planned c.loop-at.waiting c.loop-at.at c.loop-at.from c.loop-at.end rolls inside c.take_in.new.waiting c.in-Joined.reach (joins c.in-Joined.reach c.in-Joined.is) pool-long planned-long
    c.lower_page-from.new.pool c.lower_page-from.new.planned c.lower_page-from.new.waiting c.lower_page-from.result c.lower_page-from.ensures c.lower_page-from.auto.waiting c.if-from-reach.true

pub loop-at-preserved : goal.loop-at-preserved
loop-at-preserved c =
    let rolls : Rolling c.args.geometry.parameters c.args.geometry.growth (lent c.args.separators.now c.args.numbers.now c.args.words.now c.args.owners.now) c.args.number c.args.page c.loop-at.pool c.loop-at.planned c.loop-at.waiting c.loop-at.at c.loop-at.from c.loop-at.end = c.loop-at.invariant.1.1.1.1 in
    let pool-long : length c.loop-at.pool ≡ c.args.geometry.parameters.pages * c.args.geometry.parameters.places = c.loop-at.invariant.0 ∙ c.requires.pool_len.0 in
    let planned-long : c.args.geometry.parameters.pages ≤ length c.loop-at.planned = omega (arith, c.loop-at.invariant.1.1.0, c.requires.pages_in_bounds) in
    let inside : c.loop-at.at < c.args.geometry.parameters.pages = c.loop-at-test.true in
    let known : (t : Taken) → c.take_in.result ≡ t → TakenIn c.args.geometry.parameters c.args.geometry.growth (lent c.args.separators.now c.args.numbers.now c.args.words.now c.args.owners.now) c.loop-at.at c.loop-at.end c.loop-at.waiting c.take_in.new.waiting t = λ t e. subst (λ (t : Taken). TakenIn c.args.geometry.parameters c.args.geometry.growth (lent c.args.separators.now c.args.numbers.now c.args.words.now c.args.owners.now) c.loop-at.at c.loop-at.end c.loop-at.waiting c.take_in.new.waiting t) e c.take_in.ensures in
    let joins : (reach : ℕ) → c.take_in.result ≡ Joined reach → Joins c.args.geometry.parameters c.args.geometry.growth (lent c.args.separators.now c.args.numbers.now c.args.words.now c.args.owners.now) c.loop-at.at c.loop-at.end c.loop-at.waiting c.take_in.new.waiting reach = λ reach e. known (Joined reach) e in
    let e = c.requires.enters in (
      c.lower_page-from.auto.pool ∙ c.loop-at.invariant.0,
      (
        c.lower_page-from.auto.waiting ∙ (c.take_in.auto.waiting ∙ c.loop-at.invariant.1.0),
        (
          c.lower_page-from.auto.planned ∙ c.loop-at.invariant.1.1.0,
          (
            rolling_known c.args.geometry.parameters c.args.geometry.growth (lent c.args.separators.now c.args.numbers.now c.args.words.now c.args.owners.now) c.args.number c.args.page e.ready.homing.valid e.ready.sized e.number e.unheld e.here
                c.loop-at.pool c.loop-at.planned c.loop-at.waiting c.loop-at.at c.loop-at.from c.loop-at.end rolls inside c.take_in.new.waiting c.in-Joined.reach (joins c.in-Joined.reach c.in-Joined.is) pool-long planned-long
                c.lower_page-from.new.pool c.lower_page-from.new.planned c.lower_page-from.new.waiting c.lower_page-from.result c.lower_page-from.ensures c.args.tested c.loop-at.invariant.1.1.1.0,
            rolling_next c.args.geometry.parameters c.args.geometry.growth (lent c.args.separators.now c.args.numbers.now c.args.words.now c.args.owners.now) c.args.number c.args.page e.ready.homing.valid e.ready.sized e.number e.unheld e.here
                c.loop-at.pool c.loop-at.planned c.loop-at.waiting c.loop-at.at c.loop-at.from c.loop-at.end rolls inside c.take_in.new.waiting c.in-Joined.reach (joins c.in-Joined.reach c.in-Joined.is) pool-long planned-long
                c.lower_page-from.new.pool c.lower_page-from.new.planned c.lower_page-from.new.waiting c.lower_page-from.result c.lower_page-from.ensures c.lower_page-from.auto.waiting c.if-from-reach.false,
          ),
        ),
      ),
    )

pub shape_of-pool : goal.shape_of-pool
shape_of-pool c = c.loop-at.invariant.0

pub shape_of-waiting : goal.shape_of-waiting
shape_of-waiting c =
    let waiting-same : length c.loop-at.waiting ≡ length c.args.waiting.now = c.loop-at.invariant.1.0 ∙ simp length-set in
    waiting-same

pub shape_of-planned : goal.shape_of-planned
shape_of-planned c = c.loop-at.invariant.1.1.0

pub returns : goal.returns
returns c =
    let rolls : Rolling c.args.geometry.parameters c.args.geometry.growth (lent c.args.separators.now c.args.numbers.now c.args.words.now c.args.owners.now) c.args.number c.args.page c.loop-at.pool c.loop-at.planned c.loop-at.waiting c.loop-at.at c.loop-at.from c.loop-at.end = c.loop-at.invariant.1.1.1.1 in
    let e = c.requires.enters in
    rolling_overflow c.args.geometry.parameters c.args.geometry.growth (lent c.args.separators.now c.args.numbers.now c.args.words.now c.args.owners.now) c.args.number c.args.page e.ready.homing.valid e.ready.sized e.number e.unheld e.here
    c.loop-at.pool c.loop-at.planned c.loop-at.waiting c.loop-at.at c.loop-at.from c.loop-at.end rolls c.loop-at-test.false
