-- The pool after a call that uses it.
use mathlib.Core.Path.{◌≡◌, sym, ◌∙◌}
use mathlib.Core.Bool.{Bool, true, false, cond}
use mathlib.Core.List.{List}
use Prim.Native.Nat.{ℕ}
use lib.ListN.{length, replicate}
use Rattle.placement.specs.Rule.{left}
use Rattle.placement.specs.File.{File}
use Rattle.calls.specs.declared.answers.Answer.{Answer}
use Rattle.calls.specs.Answers.{After, Pool, Leaves, pooled, cleared, zeros}
use Rattle.calls.specs.Shape.{Stores}

-- zeros of the lengths that the pool had
pub cleared-is : (ns ws os ns' ws' os' : List ℕ) (n m l : ℕ) → ns' ≡ replicate n 0 → ws' ≡ replicate m 0 → os' ≡ replicate l 0
    → n ≡ length ns → m ≡ length ws → l ≡ length os → pooled ns' ws' os' ≡ cleared (pooled ns ws os)
unfolding cleared zeros
cleared-is ns ws os ns' ws' os' n m l en ew eo ln lw lo = rw (en, ew, eo, ln, lw, lo)

pub leaves-cleared : (after : After) (a : Answer) (f : File) (pool left : Pool) → Stores after a f → after.pool ≡ cleared pool → left ≡ cleared pool → Leaves after a f left
leaves-cleared after a f pool left s e l = record { answers = s.answers; files = s.files; pools = l ∙ sym e }

pub cases_pool : (t u : Bool) (a b c : After) (pool : Pool) → a.pool ≡ pool → b.pool ≡ pool → c.pool ≡ pool → (cond t a (cond u b c)).pool ≡ pool
cases_pool true u a b c pool ea eb ec = ea
cases_pool false true a b c pool ea eb ec = eb
cases_pool false false a b c pool ea eb ec = ec

pub named-pool : (t u : Bool) (a b c : After) (pool : Pool) → a.pool ≡ pool → b.pool ≡ pool → c.pool ≡ pool → (cond t (cond u a b) c).pool ≡ pool
named-pool true true a b c pool ea eb ec = ea
named-pool true false a b c pool ea eb ec = eb
named-pool false u a b c pool ea eb ec = ec
