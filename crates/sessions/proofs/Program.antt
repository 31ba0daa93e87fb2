-- What the program writes in all: the answers to its input's lines, in whatever blocks the input comes.
use Prim.Native.Nat.{ℕ}
use mathlib.Core.List.{List, map}
use mathlib.Core.Path.{◌≡◌}
use Rattle.lines.specs.Grammar.{command_of, lines_of}
use Rattle.lines.specs.Programs.{put_out, opened, written_out}
use Rattle.lines.specs.Turns.{Turn, Turns, output, input_blocks, joined, Answers, Finishes}
use Rattle.lines.proofs.Programs.{as_one}
use Rattle.lines.proofs.Turns.{turns_put-out}
use Rattle.sessions.specs.Commands.{new_file, answering, run_in}
use Rattle.sessions.specs.declared.blocks.Session.{Session}

-- the program's text for every input, by the definitions of its commands
pub every-input :
    (blocks : List (List ℕ)) →
    written_out answering (opened answering) blocks ≡ put_out answering new_file (map command_of (lines_of (joined blocks)))
unfolding opened answering
every-input blocks = as_one answering blocks (opened answering)

-- From the session of `start`, over turns each as the contract of `answer_block` says, to a last text as that of `finish` says: the answers to
-- the input's lines, in whatever blocks the input comes.
pub program_answers :
    (s : Session) (ts : List (Turn Session)) (last : List ℕ) → run_in s ≡ opened answering →
    Turns (Answers answering run_in) (Finishes answering run_in) s ts last →
    output ts last ≡ put_out answering new_file (map command_of (lines_of (joined (input_blocks ts))))
unfolding answering
program_answers s ts last begins turns = turns_put-out answering run_in s ts last begins turns
