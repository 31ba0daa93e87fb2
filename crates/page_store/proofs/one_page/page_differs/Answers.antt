use mathlib.Core.Path.{ap, ◌∙◌}
use Prim.Native.Nat.{◌*◌}
use mathlib.Core.Bool.{not}
use native.Mathlib.Omega.{arith}
use Rattle.pages.specs.Page.{part}
use Rattle.page_store.specs.Columns.{columns}
use Rattle.page_store.proofs.Alike.{same-alike, numbers_differ, words-differ, owners_differ}
use Rattle.page_store.proofs.one_page.page_differs.Goals as goal

pub returns-then-not-same : goal.returns-then-not-same
unfolding part
returns-then-not-same c =
    let a = c.args in
    numbers_differ a.places (columns a.numbers.now a.words.now a.owners.now) (columns a.poolnumbers.now a.poolwords.now a.poolowners.now) a.page
    c.same.result (c.same.ensures ∙ same-alike (a.page * a.places) a.places a.numbers.now a.poolnumbers.now (omega arith) (omega arith)) (ap not c.if-not-same.true)

pub returns-then-not-same-2 : goal.returns-then-not-same-2
unfolding part
returns-then-not-same-2 c =
    let a = c.args in
    words-differ a.places (columns a.numbers.now a.words.now a.owners.now) (columns a.poolnumbers.now a.poolwords.now a.poolowners.now) a.page
    c.same.result c.same-2.result (c.same.ensures ∙ same-alike (a.page * a.places) a.places a.numbers.now a.poolnumbers.now (omega arith) (omega arith))
    (c.same-2.ensures ∙ same-alike (a.page * a.places) a.places a.words.now a.poolwords.now (omega arith) (omega arith)) (ap not c.if-not-same.false) (ap not c.if-not-same-2.true)

pub returns : goal.returns
unfolding part
returns c =
    let a = c.args in
    owners_differ a.places (columns a.numbers.now a.words.now a.owners.now) (columns a.poolnumbers.now a.poolwords.now a.poolowners.now) a.page
    c.same.result c.same-2.result c.same-3.result (c.same.ensures ∙ same-alike (a.page * a.places) a.places a.numbers.now a.poolnumbers.now (omega arith) (omega arith))
    (c.same-2.ensures ∙ same-alike (a.page * a.places) a.places a.words.now a.poolwords.now (omega arith) (omega arith))
    (c.same-3.ensures ∙ same-alike (a.page * a.places) a.places a.owners.now a.poolowners.now (omega arith) (omega arith)) (ap not c.if-not-same.false) (ap not c.if-not-same-2.false)
