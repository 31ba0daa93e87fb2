use Rattle.duplicates.proofs.Firsts.{pair_apart, pair_words, pair_owners}
use Rattle.duplicates.proofs.agreement.pair_agrees.Goals as goal

pub returns-then-first-second : goal.returns-then-first-second
returns-then-first-second c = pair_apart _ _ _ _ c.if-first-second.true

pub returns-then-word_named : goal.returns-then-word_named
returns-then-word_named c = pair_words _ _ _ _ c.if-first-second.false _ _ c.word_named.ensures c.word_named-2.ensures c.if-word_named.true

pub returns : goal.returns
returns c = pair_owners _ _ _ _ c.if-first-second.false _ _ c.word_named.ensures c.word_named-2.ensures c.if-word_named.false _ _ c.owner_named.ensures c.owner_named-2.ensures
