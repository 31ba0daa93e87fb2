-- The stars among the first items are counted.
use mathlib.Core.Path.{◌≡◌, refl, ◌∙◌}
use mathlib.Core.Bool.{Bool, true, false}
use mathlib.Core.List.{List}
use Prim.Native.Nat.{ℕ, ◌+◌, ◌-◌, ◌≤◌, ◌<◌}
use native.Mathlib.Omega.{arith}
use mir.Val.{bool_byte}
use lib.ListN.{length, get_or, take, drop, length-drop}
use lib.Seq.{length-take-le, get_or-take, get_or-drop}
use Rattle.buffers.specs.Counts.{one}
use Rattle.placement.specs.Rule.{filter}
use Rattle.clean_test.specs.Raising.{star_number}
use Rattle.clean_test.proofs.Counters.{one-most, taken-most, stars-next}
use Rattle.clean_test.proofs.counts.count_stars.Goals as goal

counted_once : (b : Bool) → bool_byte b ≡ one b
counted_once true = refl
counted_once false = refl

-- an item of the part is one of the list
module _ (ns : List ℕ) (first places i : ℕ) (fits : first + places ≤ length ns) (inside : i < length (take (first + places - first) (drop first ns))) where
  within : i < places
  within = omega (arith, length-take-le (first + places - first) (drop first ns) (omega (arith, length-drop first ns)))

  counted : (r : ℕ) → r ≡ bool_byte (star_number (get_or (take (first + places - first) (drop first ns)) i 0)) → r ≡ one (star_number (get_or ns (first + i) 0))
  counted r e =
      e ∙ counted_once (star_number (get_or (take (first + places - first) (drop first ns)) i 0))
      ∙ rw (get_or-take (first + places - first) (drop first ns) i 0 (omega (arith, within)), get_or-drop first ns i 0)

pub loop-number-init : goal.loop-number-init
unfolding filter
loop-number-init c = refl

pub overflow_add-stars : goal.overflow_add-stars
overflow_add-stars c =
    let a = c.args in
    let ns = a.numbers.now in
    let i = c.loop-number.number-index in
    let inside = c.loop-number-test.true in
    omega (
      arith,
      within ns a.first a.places i c.requires.0 inside,
      counted ns a.first a.places i c.requires.0 inside _ c.from-stars.ensures,
      one-most (star_number (get_or ns (a.first + i) 0)),
      c.loop-number.invariant,
      taken-most star_number (drop a.first ns) i,
      c.requires.1,
    )

pub loop-number-preserved : goal.loop-number-preserved
loop-number-preserved c =
    let a = c.args in
    let ns = a.numbers.now in
    let inside = c.loop-number-test.true in
    let next = within ns a.first a.places c.loop-number.number-index c.requires.0 inside in
    stars-next ns a.first _ _ _ (omega (arith, next, c.requires.0)) c.loop-number.invariant (counted ns a.first a.places _ c.requires.0 inside _ c.from-stars.ensures)
