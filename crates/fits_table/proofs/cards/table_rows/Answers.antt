use Rattle.std.proofs.Common.{ℕ, Bool, ◌≡◌, ◌&&◌, not, List, [], ◌∷◌, eqb, length, take, refl, sym, ap, ◌∙◌, arith}
use borrow.Author.Tests.{not-true, not-false}
use Rattle.std.specs.Str.{bytes_eq}
use Rattle.buffers.specs.Lists.{written, alike}
use Rattle.fits_table.specs.Header.{headers, candidate}
use Rattle.fits_table.proofs.Fields.{headers-whole, told-short, told-many, told-unlike, told-long, told-rows}
use Rattle.fits_table.proofs.cards.table_rows.Goals as goal

alike-bytes : (k l : List ℕ) → bytes_eq k l ≡ alike k l
unfolding alike
alike-bytes [] [] = refl
alike-bytes [] (y ∷ ys) = refl
alike-bytes (x ∷ xs) [] = refl
alike-bytes (x ∷ xs) (y ∷ ys) = ap (λ (t : Bool). eqb x y && t) (alike-bytes xs ys)

compared : (given z e : List ℕ) (rows : ℕ) (r : Bool) → r ≡ not (bytes_eq (take 5760 given) e) → length z ≡ 5760 → e ≡ written 0 (headers rows) z → rows ≡ candidate given
    → not (alike (take 5760 given) (headers (candidate given))) ≡ r
compared given z e rows r is long put told =
    ap (λ (l : List ℕ). not (alike (take 5760 given) l)) (sym (headers-whole z e rows long put ∙ ap headers told))
    ∙ ap not (sym (alike-bytes (take 5760 given) e)) ∙ sym is

pub returns-then-given-lt5760 : goal.returns-then-given-lt5760
returns-then-given-lt5760 c = told-short _ c.if-given-lt5760.true

pub returns-then-rows-gt32768 : goal.returns-then-rows-gt32768
returns-then-rows-gt32768 c = told-many _ (omega arith) (rw (← c.candidate_rows-rows.ensures) c.if-rows-gt32768.true)

pub returns-then-ne : goal.returns-then-ne
returns-then-ne c =
    let r = c.candidate_rows-rows.ensures in
    let e = compared c.args.given.now _ _ _ _ c.ne.ensures refl c.put_headers.ensures r in
    told-unlike _ c.if-given-lt5760.false (rw (← r) c.if-rows-gt32768.false) (not-true _ (e ∙ c.if-ne.true))

pub returns-then-given-count : goal.returns-then-given-count
returns-then-given-count c =
    let r = c.candidate_rows-rows.ensures in
    let e = compared c.args.given.now _ _ _ _ c.ne.ensures refl c.put_headers.ensures r in
    told-long _ c.if-given-lt5760.false (rw (← r) c.if-rows-gt32768.false) (not-false _ (e ∙ c.if-ne.false)) (λ q. c.if-given-count.true (rw r q))

pub returns : goal.returns
returns c =
    let r = c.candidate_rows-rows.ensures in
    let e = compared c.args.given.now _ _ _ _ c.ne.ensures refl c.put_headers.ensures r in
    rw r (told-rows _ c.if-given-lt5760.false (rw (← r) c.if-rows-gt32768.false) (not-false _ (e ∙ c.if-ne.false)) (rw (← r) c.if-given-count.false))
