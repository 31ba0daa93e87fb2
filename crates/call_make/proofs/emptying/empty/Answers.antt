-- `call_make::emptying::empty` meets its contract.
use mathlib.Core.Path.{◌∙◌, ap}
use Prim.Native.Nat.{ℕ}
use lib.ListN.{length, replicate}
use Rattle.placement.specs.Hash.{lent}
use Rattle.call_make.proofs.Making.{emptied}
use borrow.Author.Rules.{rules}
use Rattle.call_make.proofs.emptying.empty.Goals as goal

pub returns : goal.returns
returns c =
    emptied c.args.parameters (lent c.args.separators.now c.args.numbers.now c.args.words.now c.args.owners.now) _ _ _ _ c.requires.sized
    (c.fill.ensures ∙ ap (replicate {A = ℕ} (length c.args.separators.now)) c.top_of-top.ensures)
    c.clear.ensures.pool_after
    c.clear.ensures.waiting_after
    c.clear.ensures.poolowners_after
