use mathlib.Core.Path.{◌∙◌}
use native.Mathlib.Omega.{arith}
use Rattle.page_store.proofs.OnePage.{page-copied}
use borrow.Author.Rules.{rules}
use Rattle.page_store.proofs.one_page.store_page.Goals as goal

pub returns : goal.returns
returns c =
    let s = c in
    let a = s.args in record {
      numbers_after = c.copy.ensures ∙ page-copied a.places a.page a.poolnumbers.now a.numbers.now (omega (arith, s.requires));
      words_after = c.copy-2.ensures ∙ page-copied a.places a.page a.poolwords.now a.words.now (omega (arith, s.requires));
      owners_after = c.copy-3.ensures ∙ page-copied a.places a.page a.poolowners.now a.owners.now (omega (arith, s.requires));
    }
