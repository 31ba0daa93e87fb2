-- What a program's calls write in all is what the program puts out, in whatever blocks the input comes.
use Prim.Native.Nat.{ℕ, ◌+◌, ◌≤◌}
use native.Mathlib.Nat.{zero-add}
use native.Mathlib.Omega.{arith}
use mathlib.Core.List.{List, [], ◌∷◌, ◌++◌, map, append-nil}
use mathlib.Core.Path.{◌≡◌, sym, ap, ◌∙◌}
use lib.ListN.{length, take, drop}
use lib.Seq.{sets-eq, take-append-le, take_all, drop-length}
use Rattle.lines.specs.Grammar.{command_of, lines_of}
use Rattle.lines.specs.Programs.{Program, put_out, Run, opened, runs, text_for, last_of, written_out}
use Rattle.lines.specs.Replies.{TextAt}
use Rattle.lines.specs.Turns.{Turn, Turns, output, input_blocks, joined, PutOut, Answers, Finishes}
use Rattle.lines.proofs.Programs.{as_one}

put_front : (text before after : List ℕ) (at : ℕ) → TextAt 0 text before after at → at ≤ length before → take at after ≡ text
put_front text before after at t room =
    let whole : at ≡ length text = omega (arith, t.end) in
    ap (take at) (t.buffer ∙ sets-eq text before 0 (omega arith))
    ∙ take-append-le at text (drop (0 + length text) before) (omega arith)
    ∙ take_all at text (omega arith)

-- what is written after a call that puts text at the front of its buffer is this text
pub written_is : (put text : List ℕ) → PutOut (λ before after at. TextAt 0 put before after at) text → text ≡ put
written_is put text w = w.bytes ∙ put_front put w.before w.after w.at w.contract w.room

-- a buffer of the text's own length will do
own-buffer : (text : List ℕ) → TextAt 0 text text text (length text)
own-buffer text =
    let behind : drop (0 + length text) text ≡ [] = rw (zero-add (length text)) (drop-length text) in
    record {
      buffer = sym (sets-eq text text 0 (omega arith) ∙ ap (λ (rest : List ℕ). text ++ rest) behind ∙ append-nil text);
      end = omega arith;
    }

module _ {C S : Type 0} (p : Program S) (run_of : C → Run S) where
  -- where the code's state follows the program's run, its text makes a turn
  pub turn-of :
      (c next : C) (block : List ℕ) → run_of next ≡ runs p (run_of c) block →
      Answers p run_of c (record { block = block; text = text_for p (run_of c) block; next = next })
  turn-of c next block follows =
      let text : List ℕ = text_for p (run_of c) block in
      record {
        before = text;
        after = text;
        at = length text;
        contract = record { run = follows; text = own-buffer text };
        room = omega arith;
        bytes = sym (take_all (length text) text (omega arith));
      }

  turns-written :
      (ts : List (Turn C)) (c : C) (last : List ℕ) → Turns (Answers p run_of) (Finishes p run_of) c ts last →
      output ts last ≡ written_out p (run_of c) (input_blocks ts)
  unfolding output written_out
  turns-written [] c last turns = written_is (last_of p (run_of c)) last turns
  turns-written (t ∷ ts) c last turns =
      let w = turns.0 in
      let text : t.text ≡ text_for p (run_of c) t.block =
      w.bytes ∙ put_front (text_for p (run_of c) t.block) w.before w.after w.at w.contract.text w.room in
      rw (text, turns-written ts t.next last turns.1, w.contract.run)

  -- from the program's beginning over all blocks to the end: what it puts out for the input's lines
  pub turns_put-out :
      (c : C) (ts : List (Turn C)) (last : List ℕ) → run_of c ≡ opened p → Turns (Answers p run_of) (Finishes p run_of) c ts last →
      output ts last ≡ put_out p p.first (map command_of (lines_of (joined (input_blocks ts))))
  unfolding opened
  turns_put-out c ts last begins turns =
      turns-written ts c last turns
      ∙ (ap (λ (r : Run S). written_out p r (input_blocks ts)) begins ∙ as_one p (input_blocks ts) (opened p))
