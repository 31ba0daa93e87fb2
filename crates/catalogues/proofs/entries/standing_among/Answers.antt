-- `catalogues::entries::standing_among` meets its contract.
use Rattle.std.proofs.Common.{ℕ, ◌≡◌, take, Some, None, rules, tests, arith}
use Rattle.std.proofs.lemmas.Iterator.{YieldsList-from_slice, IsFirst-from_position}
use Rattle.catalogues.proofs.Held.{first_at, none_there, sought-same, sought-other, sought-last}
use Rattle.catalogues.proofs.entries.standing_among.Goals as goal

pub returns-in-Some : goal.returns-in-Some
returns-in-Some c =
    let a = c.args in
    let first = first_at a.count a.numbers.now a.words.now c.requires.0 c.requires.1 a.number a.word c.in-Some.i
    (IsFirst-from_position _ _ (Some c.in-Some.i) (λ (n : ℕ). n ≡ a.number) (λ n. n ≡ a.number → ⊥) c.in-Some.ensures.ran
    (YieldsList-from_slice (take a.count a.numbers.now) cc) (λ x q k. search (rules, tests)) (λ x q k. search (rules, tests))) in
    sought-same a.count a.numbers.now a.words.now c.requires.0 c.requires.1 a.number a.word c.in-Some.i first.0 first.1 c.if-words-i.true first.2

pub returns-in-Some-2 : goal.returns-in-Some-2
returns-in-Some-2 c =
    let a = c.args in
    let first = first_at a.count a.numbers.now a.words.now c.requires.0 c.requires.1 a.number a.word c.in-Some.i
    (IsFirst-from_position _ _ (Some c.in-Some.i) (λ (n : ℕ). n ≡ a.number) (λ n. n ≡ a.number → ⊥) c.in-Some.ensures.ran
    (YieldsList-from_slice (take a.count a.numbers.now) cc) (λ x q k. search (rules, tests)) (λ x q k. search (rules, tests))) in
    sought-other a.count a.numbers.now a.words.now c.requires.0 c.requires.1 a.number a.word c.in-Some.i first.0 first.1 c.if-words-i.false first.2

pub returns-in-None : goal.returns-in-None
returns-in-None c =
    let a = c.args in
    let none = none_there a.count a.numbers.now a.words.now c.requires.0 c.requires.1 a.number a.word
    (IsFirst-from_position _ _ None (λ (n : ℕ). n ≡ a.number) (λ n. n ≡ a.number → ⊥) c.in-None.ensures.ran
    (YieldsList-from_slice (take a.count a.numbers.now) cc) (λ x q k. search (rules, tests)) (λ x q k. search (rules, tests))) in
    sought-last a.count a.numbers.now a.words.now c.requires.0 c.requires.1 a.number a.word a.count (omega arith) (omega arith) none
