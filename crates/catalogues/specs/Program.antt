-- The calls that the program's code makes, each as its contract says, on input that it reads block by block: an empty block is the end of
-- the input. What `begins_table` answers for the first block tells which they are.
-- Assumes nothing.
use Rattle.std.specs.Prelude.{◌≡◌, true, false, List, [], ◌∷◌, ◌++◌, ◌⊎◌, ℕ, ◌≤◌, length, take}
use Rattle.lines.specs.Programs.{Run, opened}
use Rattle.lines.specs.Replies.{TextAt}
use Rattle.lines.specs.Turns.{Turn, Turns, output, input_blocks, joined, PutOut, Answers, Finishes}
use Rattle.catalogues.specs.Runs.{Catalogue, cataloguing, run_held}
use Rattle.catalogues.specs.Listing.{is_table, kept_table, part_of, in_parts}
use Rattle.catalogues.specs.declared.collecting.Collection.{Collection}

-- what is kept of lines: a collection, and the two columns of its rows
pub record HeldRows : Type 0 where
  pub collection : Collection
  pub numbers : List ℕ
  pub words : List ℕ

abbrev pub run_of : HeldRows → Run Catalogue
run_of h = run_held h.collection h.numbers h.words

-- for lines: `start`, then `collect` on each block, and `finish`
pub record LineCalls (input written : List ℕ) : Type 0 where
  pub held : HeldRows
  pub first : Turn HeldRows
  pub more : List (Turn HeldRows)
  pub last : List ℕ
  pub begins : is_table first.block ≡ false
  pub starts : run_of held ≡ opened cataloguing
  pub turns : Turns (Answers cataloguing run_of) (Finishes cataloguing run_of) held (first ∷ more) last
  pub ends : first.block ≡ [] → input ≡ []
  pub reads : input ≡ joined (input_blocks (first ∷ more))
  pub writes : written ≡ output (first ∷ more) last

-- what is kept of a table: the first `at` bytes of a buffer
pub record Space : Type 0 where
  pub given : List ℕ
  pub at : ℕ

-- `keep` on a block, and the room that it requires; nothing is written
pub record Keeps (k : Space) (t : Turn Space) : Type 0 where
  pub room : 400321 ≤ length k.given
  pub few : t.next.at ≤ 400321
  pub bytes : take t.next.at t.next.given ≡ kept_table (take k.at k.given ++ t.block)
  pub silent : t.text ≡ []

-- The rest of the input is a block of which `keep` kept nothing, for it is empty or there is no room, and what is left unread; then `list`
-- of each part is written.
pub record Lists (rest : List ℕ) (k : Space) (last : List ℕ) : Type 0 where
  pub final : Turn Space
  pub unread : List ℕ
  pub part : ℕ → List ℕ
  pub keeps : Keeps k final
  pub same : final.next.at ≡ k.at
  pub ends : final.block ≡ [] → unread ≡ []
  pub left : rest ≡ final.block ++ unread
  pub lists :
      (i : ℕ) → i ≤ 3 →
      PutOut (λ before after at. TextAt 0 (part_of i (take final.next.at final.next.given)) before after at) (part i)
  pub writes : last ≡ in_parts part

-- for a table: `keep` on each block until nothing more is kept, and `list` of the four parts
pub record TableCalls (input written : List ℕ) : Type 0 where
  pub space : Space
  pub first : Turn Space
  pub more : List (Turn Space)
  pub rest : List ℕ
  pub last : List ℕ
  pub begins : is_table first.block ≡ true
  pub starts : space.at ≡ 0
  pub turns : Turns Keeps (Lists rest) space (first ∷ more) last
  pub reads : input ≡ joined (input_blocks (first ∷ more)) ++ rest
  pub writes : written ≡ output (first ∷ more) last

abbrev pub Calls : List ℕ → List ℕ → Type 0
Calls input written = LineCalls input written ⊎ TableCalls input written
