use Rattle.std.proofs.Common.{ℕ, List, ◌≡◌, ◌<◌, ◌≤◌, ◌++◌, ◌^◌, ltb, map, take, drop, length, get_or, sym, ap, ◌∙◌, arith}
use Rattle.std.proofs.Math.ListN.{length-map}
use Rattle.std.proofs.Math.Nat.{zero-add}
use Rattle.std.proofs.Math.Seq.{paste, length-take-le}
use borrow.Author.Tests.{ltb-true}
use Rattle.buffers.proofs.Copies.{Copied, none}
use Rattle.buffers.proofs.Lists.{map-take}
use Rattle.buffers.proofs.Written.{pasted_whole}
use Rattle.page_separator.specs.Words.{source_of}
use Rattle.page_separator.proofs.Lists.{all_get_d}
use Rattle.page_plan.specs.Sources.{numbered}
use Rattle.page_plan.proofs.Numbered.{still, numbering_next}
use Rattle.fits_pages.proofs.gathered.number_rows.Goals as goal

-- the front items changed, as a part of the whole list
front : (f : ℕ → ℕ) (l e : List ℕ) (i n : ℕ) → i ≡ length (take n l) → Copied (take n l) 0 (map f (take n l)) e i → e ++ drop n l ≡ paste l 0 (map f l) n
front f l e i n all c =
    let is : e ≡ take n (map f l) = c.is ∙ pasted_whole (take n l) (map f (take n l)) i (sym all) (length-map (take n l) f ∙ sym all) ∙ sym (map-take f n l) in
    ap (λ (p : List ℕ). p ++ drop n l) is ∙ ap (λ (k : ℕ). take n (map f l) ++ drop k l) (sym (zero-add n))

pub loop-word-init : goal.loop-word-init
loop-word-init c = none _ _ _

pub overflow_add-word : goal.overflow_add-word
overflow_add-word c =
    let t = c.loop-word in
    let l = take c.args.rows c.args.waiting.now in
    let small : get_or t.word-items t.word-index 0 < 2 ^ 57
    = rw (still _ _ _ _ c.loop-word-test.true t.invariant)
    (ltb-true _ _ (all_get_d (λ x. ltb x (2 ^ 57)) l t.word-index c.requires.waiting_value c.loop-word-test.true)) in
    record { fits = omega (arith, c.from.ensures, c.number_at-number.type_inv) }

pub loop-word-preserved : goal.loop-word-preserved
unfolding numbered source_of
loop-word-preserved c =
    let t = c.loop-word in
    numbering_next _ _ _ _ c.loop-word-test.true t.invariant _
    (rw (c.from.ensures, c.number_at-number.ensures, still _ _ _ _ c.loop-word-test.true t.invariant))

pub returns : goal.returns
returns c =
    front (numbered _) c.args.waiting.now _ _ c.args.rows (omega arith) c.loop-word.invariant
