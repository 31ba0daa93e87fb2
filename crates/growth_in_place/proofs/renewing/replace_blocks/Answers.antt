use mathlib.Core.Path.{sym, ◌∙◌}
use Prim.Native.Nat.{◌≤◌, ◌<◌}
use native.Mathlib.Omega.{arith}
use Rattle.hashing.proofs.Bounds.{limits}
use Rattle.placement.specs.Shape.{Sized}
use Rattle.placement.specs.Hash.{lent}
use Rattle.growth_in_place.proofs.Renewed.{renewed_none, renewed_all, renewed_sized, ends-least, ends-most, renewed_block, renewed_next}
use Rattle.growth_in_place.proofs.renewing.replace_blocks.Goals as goal

pub loop-lo-init : goal.loop-lo-init
loop-lo-init c =
    renewed_none _ _ _ _ _ c.requires.placeable c.requires.pages_value c.requires.pool_value

pub stretch_end-stop-requires : goal.stretch_end-stop-requires
stretch_end-stop-requires c =
    omega (arith, (renewed_sized _ _ _ _ _ c.requires.placeable c.requires.pages_value c.requires.pool_value _ _ _ _ _ c.loop-lo.invariant).of_separators)

-- the block that starts at page lo
pub overflow_add-stop : goal.overflow_add-stop
overflow_add-stop c =
    let high : c.stretch_end-stop.result < c.args.geometry.parameters.pages = ends-most _ _ _ _ _ c.requires.placeable c.requires.pages_value c.requires.pool_value _ _ _ _ _ c.loop-lo.invariant _ _ c.top_of-top.ensures (omega arith) c.stretch_end-stop.ensures in
    omega (arith, high, (limits _ c.requires.placeable.valid).pages_most)

pub overflow_sub-stop : goal.overflow_sub-stop
overflow_sub-stop c =
    let low : c.loop-lo.lo ≤ c.stretch_end-stop.result = ends-least _ _ _ _ _ c.requires.placeable c.requires.pages_value c.requires.pool_value _ _ _ _ _ c.loop-lo.invariant _ _ c.top_of-top.ensures (omega arith) c.stretch_end-stop.ensures in
    omega (arith, low)

pub replace_block-requires : goal.replace_block-requires
replace_block-requires c =
    renewed_block _ _ _ _ _ c.requires.placeable c.requires.pages_value c.requires.pool_value _ _ _ _ _ c.loop-lo.invariant _ _ c.top_of-top.ensures (omega arith) c.stretch_end-stop.ensures

pub loop-lo-smaller : goal.loop-lo-smaller
loop-lo-smaller c =
    let low : c.loop-lo.lo ≤ c.stretch_end-stop.result = ends-least _ _ _ _ _ c.requires.placeable c.requires.pages_value c.requires.pool_value _ _ _ _ _ c.loop-lo.invariant _ _ c.top_of-top.ensures (omega arith) c.stretch_end-stop.ensures in
    let high : c.stretch_end-stop.result < c.args.geometry.parameters.pages = ends-most _ _ _ _ _ c.requires.placeable c.requires.pages_value c.requires.pool_value _ _ _ _ _ c.loop-lo.invariant _ _ c.top_of-top.ensures (omega arith) c.stretch_end-stop.ensures in
    omega (arith, low, high)

pub loop-lo-preserved : goal.loop-lo-preserved
loop-lo-preserved c =
    let placed = c.replace_block in
    let inv = c.loop-lo.invariant in
    let kept = placed.auto in
    renewed_next _ _ _ _ _ c.requires.placeable c.requires.pages_value c.requires.pool_value _ _ _ _ _ inv _ _ c.top_of-top.ensures (omega arith) c.stretch_end-stop.ensures
    _ _ _ _ placed.ensures.owners_value placed.ensures.pool_unchanged
    (record {
      of_numbers = kept.pool ∙ inv.pooled.of_numbers;
      of_words_lem = kept.waiting ∙ inv.pooled.of_words_lem;
      of_owners = kept.poolowners ∙ inv.pooled.of_owners;
    })

-- from the end of the loop on
pub shape_of-separators : goal.shape_of-separators
shape_of-separators c =
    let sizes : Sized c.args.geometry.parameters.places c.args.geometry.parameters.pages (lent c.loop-lo.separators c.loop-lo.numbers c.loop-lo.words c.loop-lo.owners) = renewed_sized _ _ _ _ _ c.requires.placeable c.requires.pages_value c.requires.pool_value _ _ _ _ _ c.loop-lo.invariant in
    sizes.of_separators ∙ sym c.requires.placeable.sized.of_separators

pub shape_of-numbers : goal.shape_of-numbers
shape_of-numbers c =
    let sizes : Sized c.args.geometry.parameters.places c.args.geometry.parameters.pages (lent c.loop-lo.separators c.loop-lo.numbers c.loop-lo.words c.loop-lo.owners) = renewed_sized _ _ _ _ _ c.requires.placeable c.requires.pages_value c.requires.pool_value _ _ _ _ _ c.loop-lo.invariant in
    sizes.of_numbers ∙ sym c.requires.placeable.sized.of_numbers

pub shape_of-words : goal.shape_of-words
shape_of-words c =
    let sizes : Sized c.args.geometry.parameters.places c.args.geometry.parameters.pages (lent c.loop-lo.separators c.loop-lo.numbers c.loop-lo.words c.loop-lo.owners) = renewed_sized _ _ _ _ _ c.requires.placeable c.requires.pages_value c.requires.pool_value _ _ _ _ _ c.loop-lo.invariant in
    sizes.of_words_lem ∙ sym c.requires.placeable.sized.of_words_lem

pub shape_of-owners : goal.shape_of-owners
shape_of-owners c =
    let sizes : Sized c.args.geometry.parameters.places c.args.geometry.parameters.pages (lent c.loop-lo.separators c.loop-lo.numbers c.loop-lo.words c.loop-lo.owners) = renewed_sized _ _ _ _ _ c.requires.placeable c.requires.pages_value c.requires.pool_value _ _ _ _ _ c.loop-lo.invariant in
    sizes.of_owners ∙ sym c.requires.placeable.sized.of_owners

pub shape_of-pool : goal.shape_of-pool
shape_of-pool c = c.loop-lo.invariant.pooled.of_numbers ∙ sym c.requires.placeable.pooled.of_numbers

pub shape_of-waiting : goal.shape_of-waiting
shape_of-waiting c = c.loop-lo.invariant.pooled.of_words_lem ∙ sym c.requires.placeable.pooled.of_words_lem

pub shape_of-poolowners : goal.shape_of-poolowners
shape_of-poolowners c = c.loop-lo.invariant.pooled.of_owners ∙ sym c.requires.placeable.pooled.of_owners

pub returns : goal.returns
returns c =
    renewed_all _ _ _ _ _ c.requires.placeable c.requires.pages_value c.requires.pool_value _ _ _ _ _ c.loop-lo.invariant (omega arith)
