-- `call_due::due` meets its contract.
use mathlib.Core.Path.{◌≡◌, sym, ap, ◌∙◌}
use mathlib.Core.Bool.{Bool}
use Prim.Native.Nat.{ℕ, ◌*◌, ◌+◌, ◌-◌, ◌/◌, ◌≤◌, max}
use native.Mathlib.Omega.{arith}
use lib.ListN.{length}
use lib.Seq.{length-take-le}
use borrow.Author.Tests.{lt-ltb, le-ltb}
use native.Mathlib.Nat.{mul-le-mul, mul-le-mul_right}
use Rattle.hashing.specs.Geometry.{page_count, highest}
use Rattle.hashing.proofs.Bounds.{limits, growth_within, spread}
use Rattle.placement.specs.File.{File}
use Rattle.calls.specs.Answers.{After, lent, due_said}
use Rattle.calls.specs.Shape.{Admitted}
use Rattle.calls.specs.Calls.{unlent, due_of, file_fits_lem}
use Rattle.call_due.specs.Used.{Reaches}
use Rattle.calls.specs.Due.{pages_in_use, exceeds, is_due}
use Rattle.calls.specs.Shape.{admission_number}
use Rattle.std.specs.Prelude.{Result, Ok, Err}
use Rattle.calls.specs.declared.answers.Refusal.{Refusal}
use Rattle.calls.proofs.Refusals.{turned-away, refusal_is, none_is, admitted, items-most}
use Rattle.call_due.proofs.Tallies.{stars-most, blank-stars}
use Rattle.calls.proofs.InUse.{in_use_most}
use Rattle.call_due.proofs.Reached.{in_use_reached}
use Rattle.hashing.specs.declared.Parameters.{Parameters}
use Rattle.hashing.specs.declared.Growth.{Growth}
use Rattle.call_due.proofs.load.due.Goals as goal

-- what is known past the guard
module _ (p : Parameters) (g : Growth) (f : File) (none : unlent p g (file_fits_lem p f) ≡ 0) where
  lent-well : Admitted p g f
  lent-well = admitted _ _ _ none

  few : length f.numbers ≤ 32768
  few = omega (arith, lent-well.sized.of_numbers, items-most _ lent-well.homing.valid)

  highest-most : highest p g + 1 ≤ p.pages
  unfolding highest
  highest-most =
      let v = lent-well.homing in
      let w = growth_within p g v.growth in
      let least : 1 ≤ page_count p g = (spread _ _ (limits _ v.valid) w).pages_low in
      omega (arith, w.pages_fit)

  -- the addressed items are some of all
  split-most : (top : ℕ) → top ≡ highest p g → (top + 1) * p.places ≤ length f.numbers
  split-most top e =
      let within : (top + 1) * p.places ≤ p.pages * p.places = mul-le-mul_right _ (omega (arith, e, highest-most)) in
      omega (arith, lent-well.sized.of_numbers)

  -- the pages in use
  module _ (top end pages : ℕ) (e : top ≡ highest p g) (reached : Reaches f.numbers ((top + 1) * p.places) end) (is : pages ≡ max (top + 1) ((end + p.places - 1) / p.places)) where
    pages-are : pages ≡ pages_in_use p g f.numbers
    pages-are =
        is
        ∙ (ap (λ (n : ℕ). max (n + 1) ((end + p.places - 1) / p.places)) e
        ∙ sym (in_use_reached p g f.numbers _ (limits _ lent-well.homing.valid).places_least lent-well.sized.of_numbers (rw e at reached)))

    pages-most : pages ≤ 1024
    pages-most = omega (arith, pages-are, in_use_most _ _ f.numbers highest-most, (limits _ lent-well.homing.valid).pages_most)

none-of : (p : Parameters) (g : Growth) (f : File) {fits : Bool} {a : Result (Unit {0}) Refusal} → admission_number a ≡ unlent p g fits → fits ≡ file_fits_lem p f → a ≡ Ok tt → unlent p g (file_fits_lem p f) ≡ 0
none-of p g f e l t = none_is _ _ e l t

pub returns-in-Err : goal.returns-in-Err
unfolding due_of due_said file_fits_lem
returns-in-Err c = sym (ap (λ (x : After). x.answer) (turned-away _ _ _ _ _ _ _ (refusal_is _ _ c.guard.ensures c.file_fits-fits.ensures c.in-Err.is)))

pub highest_address-highest-requires : goal.highest_address-highest-requires
unfolding file_fits_lem
highest_address-highest-requires c =
    let f = lent c.args.separators.now c.args.numbers.now c.args.words.now c.args.owners.now in
    let r = (lent-well c.args.parameters c.args.growth f (none-of _ _ f c.guard.ensures c.file_fits-fits.ensures c.in_default.is)).homing in
    record { parameters_value = r.valid; growth_value = r.growth }

pub overflow_mul-split : goal.overflow_mul-split
unfolding file_fits_lem
overflow_mul-split c =
    let f = lent c.args.separators.now c.args.numbers.now c.args.words.now c.args.owners.now in
    let none = none-of c.args.parameters c.args.growth f c.guard.ensures c.file_fits-fits.ensures c.in_default.is in
    let l = limits _ (lent-well _ _ f none).homing.valid in
    omega (arith, split-most _ _ f none _ c.highest_address-highest.ensures, few _ _ f none)

pub end_of_use-end-requires : goal.end_of_use-end-requires
unfolding file_fits_lem
end_of_use-end-requires c =
    let f = lent c.args.separators.now c.args.numbers.now c.args.words.now c.args.owners.now in
    let none = none-of c.args.parameters c.args.growth f c.guard.ensures c.file_fits-fits.ensures c.in_default.is in
    let l = limits _ (lent-well _ _ f none).homing.valid in
    (split-most _ _ f none _ c.highest_address-highest.ensures, few _ _ f none)

pub slice_bounds-occupied-end : goal.slice_bounds-occupied-end
slice_bounds-occupied-end c = sym (length-take-le _ _ c.end_of_use-end.ensures.blank.within)

pub occupied-count-requires : goal.occupied-count-requires
unfolding file_fits_lem
occupied-count-requires c =
    let f = lent c.args.separators.now c.args.numbers.now c.args.words.now c.args.owners.now in
    let none = none-of c.args.parameters c.args.growth f c.guard.ensures c.file_fits-fits.ensures c.in_default.is in
    let l = limits _ (lent-well _ _ f none).homing.valid in
    rw (length-take-le _ _ c.end_of_use-end.ensures.blank.within) (omega (arith, few _ _ f none, c.end_of_use-end.ensures.blank.within))

pub in_use-pages-requires : goal.in_use-pages-requires
unfolding file_fits_lem
in_use-pages-requires c =
    let f = lent c.args.separators.now c.args.numbers.now c.args.words.now c.args.owners.now in
    let none = none-of c.args.parameters c.args.growth f c.guard.ensures c.file_fits-fits.ensures c.in_default.is in
    let l = limits _ (lent-well _ _ f none).homing.valid in (
      l.places_least,
      l.places_most,
      omega (arith, c.highest_address-highest.ensures, highest-most _ _ f none, l.pages_most),
      omega (arith, few _ _ f none, c.end_of_use-end.ensures.blank.within),
    )

pub overflow_mul-room : goal.overflow_mul-room
unfolding file_fits_lem
overflow_mul-room c =
    let f = lent c.args.separators.now c.args.numbers.now c.args.words.now c.args.owners.now in
    let none = none-of c.args.parameters c.args.growth f c.guard.ensures c.file_fits-fits.ensures c.in_default.is in
    let l = limits _ (lent-well _ _ f none).homing.valid in
    let m : c.args.parameters.load * c.args.parameters.places ≤ 99 * 32 = mul-le-mul l.load_most l.places_most in
    omega arith

pub overflow_mul-room-2 : goal.overflow_mul-room-2
unfolding file_fits_lem
overflow_mul-room-2 c =
    let f = lent c.args.separators.now c.args.numbers.now c.args.words.now c.args.owners.now in
    let none = none-of c.args.parameters c.args.growth f c.guard.ensures c.file_fits-fits.ensures c.in_default.is in
    let l = limits _ (lent-well _ _ f none).homing.valid in
    let most = pages-most _ _ f none _ _ _ c.highest_address-highest.ensures c.end_of_use-end.ensures c.in_use-pages.ensures in
    let m : c.args.parameters.load * c.args.parameters.places * c.in_use-pages.result ≤ 99 * 32 * 1024 = mul-le-mul (mul-le-mul l.load_most l.places_most) most in
    omega arith

pub overflow_mul-count : goal.overflow_mul-count
unfolding file_fits_lem
overflow_mul-count c =
    let f = lent c.args.separators.now c.args.numbers.now c.args.words.now c.args.owners.now in
    let none = none-of c.args.parameters c.args.growth f c.guard.ensures c.file_fits-fits.ensures c.in_default.is in
    let l = limits _ (lent-well _ _ f none).homing.valid in
    let count = c.occupied-count.ensures ∙ sym (blank-stars _ _ c.end_of_use-end.ensures.blank) in
    omega (arith, few _ _ f none, stars-most c.args.numbers.now, count)

pub returns-then-room-count : goal.returns-then-room-count
unfolding file_fits_lem due_of due_said is_due exceeds
returns-then-room-count c =
    let f = lent c.args.separators.now c.args.numbers.now c.args.words.now c.args.owners.now in
    let none = none-of c.args.parameters c.args.growth f c.guard.ensures c.file_fits-fits.ensures c.in_default.is in
    let l = limits _ (lent-well _ _ f none).homing.valid in
    let count = c.occupied-count.ensures ∙ sym (blank-stars _ _ c.end_of_use-end.ensures.blank) in
    let pages = pages-are _ _ f none _ _ _ c.highest_address-highest.ensures c.end_of_use-end.ensures c.in_use-pages.ensures in
    rw none (rw (← count, ← pages, lt-ltb _ _ c.if-room-count.true))

pub returns : goal.returns
unfolding file_fits_lem due_of due_said is_due exceeds
returns c =
    let f = lent c.args.separators.now c.args.numbers.now c.args.words.now c.args.owners.now in
    let none = none-of c.args.parameters c.args.growth f c.guard.ensures c.file_fits-fits.ensures c.in_default.is in
    let l = limits _ (lent-well _ _ f none).homing.valid in
    let count = c.occupied-count.ensures ∙ sym (blank-stars _ _ c.end_of_use-end.ensures.blank) in
    let pages = pages-are _ _ f none _ _ _ c.highest_address-highest.ensures c.end_of_use-end.ensures c.in_use-pages.ensures in
    rw none (rw (← count, ← pages, le-ltb _ _ c.if-room-count.false))
