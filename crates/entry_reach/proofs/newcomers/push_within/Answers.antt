-- Page after page as `Rolling` says.
use mathlib.Core.Path.{◌≡◌, refl, ◌∙◌}
use Prim.Native.Nat.{◌+◌, ◌*◌, ◌≤◌, ◌<◌}
use native.Mathlib.Nat.{le_refl}
use native.Mathlib.Omega.{arith}
use lib.ListN.{length, length-set}
use Rattle.hashing.specs.Geometry.{multiplier_of}
use Rattle.hashing.proofs.Bounds.{limits}
use Rattle.hashing.proofs.Homes.{home-pages}
use Rattle.placement.specs.Hash.{lent}
use Rattle.entry_reach.proofs.Reached.{some-items}
use Rattle.entry_reach.proofs.Pushed.{small, few, new-packed}
use Rattle.entry_reach.proofs.PushLoop.{rolling_none, rolling_near, rolling_room, rolling_ends, rolling_next, rolling_known, rolling_leaves, words-room}
use Rattle.entry_reach.proofs.newcomers.push_within.Goals as goal

pub pack-requires : goal.pack-requires
pack-requires c =
    let e = c.requires.enters in
    let f = lent c.args.separators.now c.args.numbers.now c.args.words.now c.args.owners.now in
    record {
      home_bound = omega (arith, e.homed, home-pages (multiplier_of c.args.geometry.parameters) c.args.geometry.parameters c.args.geometry.growth c.args.star.number e.ready.homing.valid e.ready.homing.growth, (limits c.args.geometry.parameters e.ready.homing.valid).pages_most);
      number_bound = small c.args.geometry.parameters c.args.geometry.growth f c.args.star.number c.args.star.page e.ready.homing.valid e.ready.sized e.number e.unheld e.here;
      source_bound = few c.args.geometry.parameters c.args.geometry.growth f c.args.star.number c.args.star.page e.ready.homing.valid e.ready.sized e.number e.unheld e.here;
    }

pub bounds-waiting-0 : goal.bounds-waiting-0
bounds-waiting-0 c =
    let e = c.requires.enters in
    omega (arith, c.requires.pool_len.1, some-items c.args.geometry.parameters c.args.geometry.growth e.ready.homing.valid e.ready.homing.growth c.args.star.number)

pub loop-at-init : goal.loop-at-init
loop-at-init c =
    let e = c.requires.enters in
    let f = lent c.args.separators.now c.args.numbers.now c.args.words.now c.args.owners.now in
    let items : 0 < length c.args.waiting.now = omega (arith, c.requires.pool_len.1, some-items c.args.geometry.parameters c.args.geometry.growth e.ready.homing.valid e.ready.homing.growth c.args.star.number) in (
      refl,
      (
        refl,
        (
          refl,
          (
            c.requires.known_to,
            rw (c.pack.ensures ∙ new-packed c.args.geometry.parameters c.args.geometry.growth f c.args.star.number c.args.star.page e.ready.homing.valid e.ready.sized e.number e.unheld e.here c.args.star.home e.homed)
                (rolling_none c.args.geometry.parameters c.args.geometry.growth f c.args.star.number c.args.star.page e.ready.homing.valid e.ready.sized e.number e.unheld e.here c.args.pool.now c.args.planned.now c.args.waiting.now items),
          ),
        ),
      ),
    )

pub push_page-next-requires-clause-from_le_end : goal.push_page-next-requires-clause-from_le_end
push_page-next-requires-clause-from_le_end c =
    let e = c.requires.enters in
    let f = lent c.args.separators.now c.args.numbers.now c.args.words.now c.args.owners.now in
    let rolls = c.loop-at.invariant.1.1.1.1 in
    let room = rolling_room c.args.geometry.parameters c.args.geometry.growth f c.args.star.number c.args.star.page e.ready.homing.valid e.ready.sized e.number e.unheld e.here c.loop-at.pool c.loop-at.planned c.loop-at.waiting c.loop-at.at c.loop-at.from c.loop-at.end rolls (c.args.last + 1) c.loop-at-test.true c.requires.page_le_last.1.1 in
    let same : length c.loop-at.waiting ≡ length c.args.waiting.now = c.loop-at.invariant.1.0 ∙ simp length-set in (
      omega (arith, rolls.some),
      (
        omega (arith, room, same, c.requires.pool_len.1),
        rolling_near c.args.geometry.parameters c.args.geometry.growth f c.args.star.number c.args.star.page e.ready.homing.valid e.ready.sized e.number e.unheld e.here c.loop-at.pool c.loop-at.planned c.loop-at.waiting c.loop-at.at c.loop-at.from c.loop-at.end rolls,
      ),
    )

pub returns-then-from-end : goal.returns-then-from-end
returns-then-from-end c =
    let e = c.requires.enters in
    let f = lent c.args.separators.now c.args.numbers.now c.args.words.now c.args.owners.now in
    let rolls = c.loop-at.invariant.1.1.1.1 in
    let inside : c.loop-at.at < c.args.geometry.parameters.pages = omega (arith, c.loop-at-test.true, c.requires.page_le_last.1.0) in
    let known = c.loop-at.invariant.1.1.1.0 c.loop-at.at (le_refl _) c.loop-at-test.true in
    let sound = known.sound inside in
    let few_words = words-room c.args.geometry.parameters c.args.geometry.growth f e.ready.homing.valid e.ready.sized c.loop-at.at inside sound c.loop-at.pool (known.kept inside) in
    let long : length c.loop-at.pool ≡ c.args.geometry.parameters.pages * c.args.geometry.parameters.places = c.loop-at.invariant.0 ∙ c.requires.pool_len.0 in
    let planned-long : c.args.geometry.parameters.pages ≤ length c.loop-at.planned = omega (arith, c.loop-at.invariant.1.1.0, c.requires.pages_in_bounds) in
    let same : length c.push_page-next.new.waiting ≡ length c.args.waiting.now = c.push_page-next.auto.waiting ∙ c.loop-at.invariant.1.0 ∙ simp length-set in
    let room = rolling_room c.args.geometry.parameters c.args.geometry.growth f c.args.star.number c.args.star.page e.ready.homing.valid e.ready.sized e.number e.unheld e.here c.loop-at.pool c.loop-at.planned c.loop-at.waiting c.loop-at.at c.loop-at.from c.loop-at.end rolls (c.args.last + 1) c.loop-at-test.true c.requires.page_le_last.1.1 in
    let come : c.push_page-next.result.reach ≤ length c.push_page-next.new.waiting = omega (arith, c.push_page-next.ensures.ends, few_words, room, same, c.requires.pool_len.1) in (
      omega (arith, rolls.place),
      (
        omega (arith, c.loop-at-test.true),
        rolling_ends c.args.geometry.parameters c.args.geometry.growth f c.args.star.number c.args.star.page e.ready.homing.valid e.ready.sized e.number e.unheld e.here c.loop-at.pool c.loop-at.planned c.loop-at.waiting c.loop-at.at c.loop-at.from c.loop-at.end rolls inside sound few_words long planned-long
            c.push_page-next.new.pool c.push_page-next.new.planned c.push_page-next.new.waiting c.push_page-next.result c.push_page-next.ensures come c.if-from-end.true,
      ),
    )

pub loop-at-preserved : goal.loop-at-preserved
loop-at-preserved c =
    let e = c.requires.enters in
    let f = lent c.args.separators.now c.args.numbers.now c.args.words.now c.args.owners.now in
    let rolls = c.loop-at.invariant.1.1.1.1 in
    let inside : c.loop-at.at < c.args.geometry.parameters.pages = omega (arith, c.loop-at-test.true, c.requires.page_le_last.1.0) in
    let known = c.loop-at.invariant.1.1.1.0 c.loop-at.at (le_refl _) c.loop-at-test.true in
    let sound = known.sound inside in
    let few_words = words-room c.args.geometry.parameters c.args.geometry.growth f e.ready.homing.valid e.ready.sized c.loop-at.at inside sound c.loop-at.pool (known.kept inside) in
    let long : length c.loop-at.pool ≡ c.args.geometry.parameters.pages * c.args.geometry.parameters.places = c.loop-at.invariant.0 ∙ c.requires.pool_len.0 in
    let planned-long : c.args.geometry.parameters.pages ≤ length c.loop-at.planned = omega (arith, c.loop-at.invariant.1.1.0, c.requires.pages_in_bounds) in
    let same : length c.push_page-next.new.waiting ≡ length c.args.waiting.now = c.push_page-next.auto.waiting ∙ c.loop-at.invariant.1.0 ∙ simp length-set in
    let room = rolling_room c.args.geometry.parameters c.args.geometry.growth f c.args.star.number c.args.star.page e.ready.homing.valid e.ready.sized e.number e.unheld e.here c.loop-at.pool c.loop-at.planned c.loop-at.waiting c.loop-at.at c.loop-at.from c.loop-at.end rolls (c.args.last + 1) c.loop-at-test.true c.requires.page_le_last.1.1 in
    let come : c.push_page-next.result.reach ≤ length c.push_page-next.new.waiting = omega (arith, c.push_page-next.ensures.ends, few_words, room, same, c.requires.pool_len.1) in (
      c.push_page-next.auto.pool ∙ c.loop-at.invariant.0,
      (
        c.push_page-next.auto.waiting ∙ c.loop-at.invariant.1.0,
        (
          c.push_page-next.auto.planned ∙ c.loop-at.invariant.1.1.0,
          (
            rolling_known c.args.geometry.parameters c.args.geometry.growth f c.args.star.number c.args.star.page e.ready.homing.valid e.ready.sized e.number e.unheld e.here c.loop-at.pool c.loop-at.planned c.loop-at.waiting c.loop-at.at c.loop-at.from c.loop-at.end rolls inside sound few_words long planned-long
                c.push_page-next.new.pool c.push_page-next.new.planned c.push_page-next.new.waiting c.push_page-next.result c.push_page-next.ensures come (c.args.last + 1) c.loop-at.invariant.1.1.1.0,
            rolling_next c.args.geometry.parameters c.args.geometry.growth f c.args.star.number c.args.star.page e.ready.homing.valid e.ready.sized e.number e.unheld e.here c.loop-at.pool c.loop-at.planned c.loop-at.waiting c.loop-at.at c.loop-at.from c.loop-at.end rolls inside sound few_words long planned-long
                c.push_page-next.new.pool c.push_page-next.new.planned c.push_page-next.new.waiting c.push_page-next.result c.push_page-next.ensures come c.if-from-end.false,
          ),
        ),
      ),
    )

pub move_front-requires : goal.move_front-requires
move_front-requires c =
    let rolls = c.loop-at.invariant.1.1.1.1 in
    (omega (arith, rolls.some), rolls.within)

pub returns : goal.returns
returns c =
    let e = c.requires.enters in
    let f = lent c.args.separators.now c.args.numbers.now c.args.words.now c.args.owners.now in
    let rolls = c.loop-at.invariant.1.1.1.1 in
    let m = c.move_front in
    let there : c.loop-at.at ≡ c.args.last + 1 = omega (arith, c.loop-at-test.false, c.requires.page_le_last.0) in (
      omega (arith, m.ensures.value, rolls.some),
      (
        omega (arith, m.ensures.value, rolls.within, m.auto.waiting),
        rw m.ensures.waiting_after
            (rolling_leaves c.args.geometry.parameters c.args.geometry.growth f c.args.star.number c.args.star.page e.ready.homing.valid e.ready.sized e.number e.unheld e.here c.loop-at.pool c.loop-at.planned c.loop-at.waiting c.loop-at.at c.loop-at.from c.loop-at.end rolls c.args.last c.requires.page_le_last.0 there),
      ),
    )
