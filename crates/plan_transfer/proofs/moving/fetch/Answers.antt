use native.Mathlib.Omega.{arith}
use Rattle.buffers.proofs.Copies.{none, done, unread}
use Rattle.plan_transfer.proofs.Fetched.{left-named, fetched-next}
use Rattle.plan_transfer.proofs.moving.fetch.Goals as goal

pub loop-i-init : goal.loop-i-init
loop-i-init c = record { numbers = none _ _ _; words = none _ _ _; owners = none _ _ _ }

pub loop-i-preserved : goal.loop-i-preserved
loop-i-preserved c =
    let a = c.args in
    let i = c.loop-i.i in
    let h = c.loop-i.invariant in
    let room = left-named a.numbers.now a.newnumber a.at a.items i a.pool.now (omega arith) (omega arith) in
    let from = unread _ _ _ _ _ (omega arith) (omega (arith, room)) h.numbers in record {
      numbers = fetched-next a.numbers.now a.newnumber a.at a.items i a.pool.now a.pool.now _ _ _ (omega arith) (omega arith) (omega arith) from c.number_named.ensures h.numbers;
      words = fetched-next a.words.now a.newword a.at a.items i a.pool.now a.waiting.now _ _ _ (omega arith) (omega arith) (omega arith) from c.word_named.ensures h.words;
      owners = fetched-next a.owners.now a.newowner a.at a.items i a.pool.now a.poolowners.now _ _ _ (omega arith) (omega arith) (omega arith) from c.owner_named.ensures h.owners;
    }

pub returns : goal.returns
returns c =
    let h = c.loop-i.invariant in
    let items = c.args.items in
    record {
      pool_after = done items (omega arith) (omega arith) h.numbers;
      waiting_after = done items (omega arith) (omega arith) h.words;
      poolowners_after = done items (omega arith) (omega arith) h.owners;
    }
