-- Where a call is its stopped form: it leaves the file, and so stores nothing, or there is a store for every page.
use mathlib.Core.Path.{◌≡◌, sym, ap, ◌∙◌}
use mathlib.Core.Bool.{Bool}
use Prim.Native.Nat.{ℕ, ◌≤◌}
use Rattle.hashing.specs.declared.Parameters.{Parameters}
use Rattle.placement.specs.File.{File}
use Rattle.calls.specs.declared.answers.Answer.{Answer}
use Rattle.calls.specs.Answers.{Pool, After, Leaves}
use Rattle.calls.specs.Shape.{Stores}
use Rattle.calls.specs.Shape.{stopped_file, stopped}
use Rattle.calls.proofs.Stored.{none-stored, whole-stopped}

module _ (lowest : Bool) (p : Parameters) (n : ℕ) where
  unmoved : (f l : File) → f ≡ l → f ≡ stopped_file lowest p f l n
  unmoved f l e = sym (ap (λ (x : File). stopped_file lowest p f x n) (sym e) ∙ none-stored lowest p.places p.pages n f)

  pub unmoved-leaves : {after : After} {answer : Answer} {f : File} {pool : Pool} → Leaves after answer f pool → Leaves (stopped lowest p f n after) answer f pool
  unmoved-leaves {after} {answer} {f} L = record { answers = L.answers; files = unmoved f after.file L.files; pools = L.pools }

  pub unmoved-stores : {after : After} {answer : Answer} {f : File} → Stores after answer f → Stores (stopped lowest p f n after) answer f
  unmoved-stores {after} {answer} {f} L = record { answers = L.answers; files = unmoved f after.file L.files }

  -- with a store for every page it is the call
  pub whole-leaves : (after : After) (f : File) {answer : Answer} {x : File} {pool : Pool} → p.pages ≤ n → Leaves (stopped lowest p f n after) answer x pool → Leaves after answer x pool
  whole-leaves after f h L = record { answers = L.answers; files = L.files ∙ ap (λ (y : After). y.file) (whole-stopped lowest p f n after h); pools = L.pools }
