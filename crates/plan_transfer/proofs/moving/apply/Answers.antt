use mathlib.Core.Path.{ap, ◌∙◌}
use mathlib.Core.Bool.{Bool, false, cond}
use Prim.Native.Nat.{◌+◌, ◌*◌}
use native.Mathlib.Nat.{le_refl}
use native.Mathlib.Omega.{arith}
use lib.ListN.{take, drop}
use Rattle.buffers.specs.Lists.{written}
use Rattle.page_store.specs.Columns.{columns}
use Rattle.page_store.proofs.Loop.{Fits}
use Rattle.page_store.proofs.Laws.{enough-count, numbers_all, words-all, owners_all}
use Rattle.plan_transfer.proofs.Fetched.{fetched-stored, fetched-behind}
use borrow.Author.Rules.{rules}
use Rattle.plan_transfer.proofs.moving.apply.Goals as goal

pub store-requires : goal.store-requires
store-requires c = record {
  count_in_bounds = omega (arith, c.requires);
  places_in_bounds = omega (arith, c.requires, c.fetch.auto);
  places_in_bounds_2 = omega (arith, c.requires, c.fetch.auto);
  places_in_bounds_3 = omega (arith, c.requires, c.fetch.auto);
}

pub returns : goal.returns
returns c =
    let a = c.args in
    let f = c.fetch in
    let t = c.store.ensures in
    let b = a.places in
    let lo = a.lo in
    let n = a.count in
    let old = columns a.numbers.now a.words.now a.owners.now in
    let new = columns f.new.pool f.new.waiting f.new.poolowners in
    let fo : Fits b (lo + n) old = record { numbers = omega (arith, c.requires); words = omega (arith, c.requires); owners = omega (arith, c.requires) } in
    let fn : Fits b (lo + n) new = record { numbers = omega (arith, c.requires, f.auto); words = omega (arith, c.requires, f.auto); owners = omega (arith, c.requires, f.auto) } in
    let all = enough-count false b lo n old new n (le_refl n) in
    let w = written lo (take n (drop lo a.planned.now)) a.separators.now in record {
      separators_after = t.separators_after ∙ ap (λ (q : Bool). cond q w a.separators.now) all;
      numbers_after = t.numbers_after ∙ numbers_all false b lo n n old new fo fn all ∙ fetched-stored a.numbers.now a.pool.now a.numbers.now a.pool.now f.new.pool a.newnumber b lo n (omega (arith, c.requires)) (omega (arith, c.requires)) fn.numbers f.ensures.pool_after;
      words_after = t.words_after ∙ words-all false b lo n n old new fo fn all ∙ fetched-stored a.words.now a.waiting.now a.words.now a.pool.now f.new.waiting a.newword b lo n (omega (arith, c.requires)) (omega (arith, c.requires)) fn.words f.ensures.waiting_after;
      owners_after = t.owners_after ∙ owners_all false b lo n n old new fo fn all ∙ fetched-stored a.owners.now a.poolowners.now a.owners.now a.pool.now f.new.poolowners a.newowner b lo n (omega (arith, c.requires)) (omega (arith, c.requires)) fn.owners f.ensures.poolowners_after;
      pool_unchanged = ap (drop ((lo + n) * b)) f.ensures.pool_after ∙ fetched-behind a.numbers.now a.pool.now a.newnumber b lo n (omega (arith, c.requires));
    }
