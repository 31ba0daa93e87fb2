-- The calls of a program's code: one on each block of its input, in turn, and what is called at the end.
use Rattle.std.specs.Prelude.{ℕ, ◌≤◌, List, [], ◌∷◌, ◌++◌, map, ◌≡◌, length, take}
use Rattle.lines.specs.Programs.{Program, Run, last_of, Stands}
use Rattle.lines.specs.Replies.{TextAt}

-- a block of input, the text written for it, and what the code keeps then
pub record Turn (C : Type 0) : Type 0 where
  pub block : List ℕ
  pub text : List ℕ
  pub next : C

-- each turn goes on from what the one before left, and the last text from what they all left
abbrev pub Turns : {C : Type 0} → (C → Turn C → Type 0) → (C → List ℕ → Type 0) → C → List (Turn C) → List ℕ → Type 0
Turns Takes Ends c [] last = Ends c last
Turns Takes Ends c (t ∷ ts) last = Takes c t × Turns Takes Ends t.next ts last

-- all that is written: the turns' texts, then the last one
unfoldable pub output : {C : Type 0} → List (Turn C) → List ℕ → List ℕ
output [] last = last
output (t ∷ ts) last = t.text ++ output ts last

abbrev pub input_blocks : {C : Type 0} → List (Turn C) → List (List ℕ)
input_blocks {C} ts = map (λ (t : Turn C). t.block) ts

-- blocks of input as one
unfoldable pub joined : List (List ℕ) → List ℕ
joined [] = []
joined (b ∷ bs) = b ++ joined bs

-- What is written after a call, by its contract on the buffer that it is lent, on what it leaves there and on its answer: `&out[..at]`. The
-- room is what the bounds give that each contract states.
pub record PutOut (Contract : List ℕ → List ℕ → ℕ → Type 0) (text : List ℕ) : Type 0 where
  pub before : List ℕ
  pub after : List ℕ
  pub at : ℕ
  pub contract : Contract before after at
  pub room : at ≤ length before
  pub bytes : text ≡ take at after

-- the contract of the call on a block; what the code keeps stands for a run of the program
abbrev pub Answers : {C S : Type 0} → Program S → (C → Run S) → C → Turn C → Type 0
Answers p run_of c t =
    PutOut (λ before after at. Stands p (run_of c) t.block 0 before after (run_of t.next) at) t.text

-- that of the call at the end
abbrev pub Finishes : {C S : Type 0} → Program S → (C → Run S) → C → List ℕ → Type 0
Finishes p run_of c last = PutOut (λ before after at. TextAt 0 (last_of p (run_of c)) before after at) last
