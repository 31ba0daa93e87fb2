-- What the program writes in all: what its input is converted to, in whatever blocks the input comes.
-- Assumes nothing.
use mathlib.Core.Path.{◌≡◌, refl, sym, ap, ◌∙◌}
use mathlib.Core.Bool.{true, false}
use mathlib.Core.List.{List, [], ◌∷◌, ◌++◌, append-nil, append_assoc}
use mathlib.Core.Logic.{inl, inr}
use Prim.Native.Nat.{ℕ, ◌+◌, ◌≤◌, ◌<◌}
use native.Mathlib.Decide.{dec_lt}
use native.Mathlib.Omega.{arith}
use lib.ListN.{length, take, length-append, length-take}
use lib.Seq.{take-append-le, length-take-le}
use Rattle.lines.specs.Turns.{Turn, Turns, output, input_blocks, joined}
use Rattle.lines.proofs.Turns.{written_is, turns_put-out}
use Rattle.catalogues.specs.Runs.{cataloguing, from_lines}
use Rattle.catalogues.specs.Listing.{is_table, listed, kept_table, part_of, in_parts, converted}
use Rattle.catalogues.specs.Program.{run_of, LineCalls, Space, Keeps, Lists, TableCalls, Calls}
use Rattle.catalogues.proofs.Listed.{parts_listed, kept-listed, kept_then}

-- the first block tells the kind of the input
pub same_kind : (b more : List ℕ) → (b ≡ [] → b ++ more ≡ []) → is_table (b ++ more) ≡ is_table b
unfolding is_table
same_kind [] more h = ap is_table (h refl)
same_kind (c ∷ b) more h = refl

-- nothing begins no table
pub table_kind : (b more : List ℕ) → is_table b ≡ true → is_table (b ++ more) ≡ true
unfolding is_table
table_kind [] more t = cc
table_kind (c ∷ b) more t = t

lines_converted : (input written : List ℕ) → LineCalls input written → written ≡ converted input
unfolding converted joined cataloguing
lines_converted input written c =
    let kind : is_table input ≡ false =
    ap is_table c.reads
    ∙ same_kind c.first.block (joined (input_blocks c.more)) (λ e. sym c.reads ∙ c.ends e)
    ∙ c.begins in
    rw kind
    (c.writes
    ∙ turns_put-out cataloguing run_of c.held (c.first ∷ c.more) c.last c.starts c.turns
    ∙ ap from_lines (sym c.reads))

-- what is kept of a prefix, once it fills the space
pub kept_full : (a b : List ℕ) → 400321 ≤ length (kept_table a) → kept_table (a ++ b) ≡ kept_table a
unfolding kept_table
kept_full a b h = take-append-le 400321 a b (omega (arith, length-take 400321 a))

nothing : (l : List ℕ) → length l ≡ 0 → l ≡ []
nothing [] e = refl
nothing (c ∷ l) e = absurd (omega arith)

-- a block of which nothing is kept, in a space that has room for more, is empty
pub nothing-more :
    (given given' block : List ℕ) (at : ℕ) → at < 400321 → 400321 ≤ length given →
    take at given' ≡ kept_table (take at given ++ block) → block ≡ []
unfolding kept_table
nothing-more given given' block at small room e =
    let kept : length (take at given') ≡ length (take 400321 (take at given ++ block)) = ap length e in
    nothing block
    (omega (
      arith,
      kept,
      length-take at given',
      length-take 400321 (take at given ++ block),
      length-append (take at given) block,
      length-take-le at given (omega arith),
    ))

-- the end is where as much of the input is kept as tells its table
stopped :
    (a rest last : List ℕ) (k : Space) (l : Lists rest k last) → k.at ≤ 400321 → take k.at k.given ≡ kept_table a →
    take l.final.next.at l.final.next.given ≡ kept_table (a ++ rest)
stopped a rest last k l few e =
    l.keeps.bytes ∙ ap (λ (x : List ℕ). kept_table (x ++ block)) e ∙ kept_then a block ∙ go (dec_lt k.at 400321)
  where
    block : List ℕ
    block = l.final.block

    go : Dec (k.at < 400321) → kept_table (a ++ block) ≡ kept_table (a ++ rest)
    go (yes p) =
        let bytes : take k.at l.final.next.given ≡ kept_table (take k.at k.given ++ block) =
        ap (λ (n : ℕ). take n l.final.next.given) (sym l.same) ∙ l.keeps.bytes in
        let none : l.unread ≡ [] = l.ends (nothing-more k.given l.final.next.given block k.at p l.keeps.room bytes) in
        ap (λ (x : List ℕ). kept_table (a ++ x)) (sym (l.left ∙ ap (λ (x : List ℕ). block ++ x) none ∙ append-nil block))
    go (no p) =
        let full : 400321 ≤ length (kept_table a) =
        rw (← e) (omega (arith, length-take-le k.at k.given (omega (arith, l.keeps.room)))) in
        kept_full a block full ∙ sym (kept_full a rest full)

parts_written : (given rest last : List ℕ) (k : Space) (l : Lists rest k last) → take l.final.next.at l.final.next.given ≡ given → last ≡ listed given
unfolding in_parts
parts_written given rest last k l e =
    l.writes ∙ rw (part 0 (omega arith), part 1 (omega arith), part 2 (omega arith), part 3 (omega arith)) (parts_listed given)
  where
    part : (i : ℕ) → i ≤ 3 → l.part i ≡ part_of i given
    part i h = written_is (part_of i (take l.final.next.at l.final.next.given)) (l.part i) (l.lists i h) ∙ ap (part_of i) e

-- from what is kept of the input so far
table_turns :
    (ts : List (Turn Space)) (k : Space) (a rest last : List ℕ) → k.at ≤ 400321 → take k.at k.given ≡ kept_table a →
    Turns Keeps (Lists rest) k ts last → output ts last ≡ listed (a ++ (joined (input_blocks ts) ++ rest))
unfolding output joined
table_turns [] k a rest last few e turns =
    parts_written (kept_table (a ++ rest)) rest last k turns (stopped a rest last k turns few e) ∙ kept-listed (a ++ rest)
table_turns (t ∷ ts) k a rest last few e turns =
    let kept : take t.next.at t.next.given ≡ kept_table (a ++ t.block) =
    turns.0.bytes ∙ ap (λ (x : List ℕ). kept_table (x ++ t.block)) e ∙ kept_then a t.block in
    ap (λ (x : List ℕ). x ++ output ts last) turns.0.silent
    ∙ table_turns ts t.next (a ++ t.block) rest last turns.0.few kept turns.1
    ∙ ap listed
    (append_assoc a t.block (joined (input_blocks ts) ++ rest)
    ∙ ap (λ (x : List ℕ). a ++ x) (sym (append_assoc t.block (joined (input_blocks ts)) rest)))

table_converted : (input written : List ℕ) → TableCalls input written → written ≡ converted input
unfolding converted joined kept_table
table_converted input written c =
    let whole : input ≡ c.first.block ++ (joined (input_blocks c.more) ++ c.rest) =
    c.reads ∙ append_assoc c.first.block (joined (input_blocks c.more)) c.rest in
    let kind : is_table input ≡ true =
    ap is_table whole ∙ table_kind c.first.block (joined (input_blocks c.more) ++ c.rest) c.begins in
    rw kind
    (c.writes
    ∙ table_turns (c.first ∷ c.more) c.space [] c.rest c.last (rw c.starts (omega arith)) (rw c.starts)
    c.turns
    ∙ ap listed (sym c.reads))

-- all together, calls that are as their contracts say write what the input is converted to
pub program_converts : (input written : List ℕ) → Calls input written → written ≡ converted input
program_converts input written (inl c) = lines_converted input written c
program_converts input written (inr c) = table_converted input written c
