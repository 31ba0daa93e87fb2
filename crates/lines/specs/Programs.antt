-- A program that is fed lines, byte by byte and in whatever blocks they come. What a command does to its state is open.
use Rattle.std.specs.Prelude.{ℕ, cond, List, [], ◌∷◌, ◌++◌, map, ◌≡◌, eqb}
use Rattle.lines.specs.Grammar.{command_of, lines_from, kept}
use Rattle.lines.specs.Replies.{TextAt}
use Rattle.lines.specs.declared.Command.{Command}

-- where its state begins, what a command leaves and puts out, and what is put out when the input has ended
pub record Program (S : Type 0) : Type 0 where
  pub first : S
  pub next : S → Command → S
  pub text : S → Command → List ℕ
  pub last : S → List ℕ

-- all that is put out for commands, one after another
unfoldable pub put_out : {S : Type 0} → Program S → S → List Command → List ℕ
put_out p s [] = p.last s
put_out p s (c ∷ cs) = p.text s c ++ put_out p (p.next s c) cs

-- A run, byte by byte: the state, and what is kept of the present line.
pub record Run (S : Type 0) : Type 0 where
  pub state : S
  pub begun : List ℕ

unfoldable pub opened : {S : Type 0} → Program S → Run S
opened p = record { state = p.first; begun = [] }

-- one byte more; a newline (byte 10) ends the line
unfoldable pub stepped_by : {S : Type 0} → Program S → Run S → ℕ → Run S
stepped_by p r c =
    cond (eqb c 10)
    (record { state = p.next r.state (command_of r.begun); begun = [] })
    (record { state = r.state; begun = kept (r.begun ++ (c ∷ [])) })

-- what is put out for it
unfoldable pub text_by : {S : Type 0} → Program S → Run S → ℕ → List ℕ
text_by p r c = cond (eqb c 10) (p.text r.state (command_of r.begun)) []

unfoldable pub runs : {S : Type 0} → Program S → Run S → List ℕ → Run S
runs p r [] = r
runs p r (c ∷ l) = runs p (stepped_by p r c) l

unfoldable pub text_for : {S : Type 0} → Program S → Run S → List ℕ → List ℕ
text_for p r [] = []
text_for p r (c ∷ l) = text_by p r c ++ text_for p (stepped_by p r c) l

-- what is put out when the input has ended; "the last line may lack" its newline
unfoldable pub last_of : {S : Type 0} → Program S → Run S → List ℕ
last_of p r = put_out p r.state (map command_of (lines_from r.begun []))

-- what is put out for input that comes in blocks
unfoldable pub written_out : {S : Type 0} → Program S → Run S → List (List ℕ) → List ℕ
written_out p r [] = last_of p r
written_out p r (b ∷ bs) = text_for p r b ++ written_out p (runs p r b) bs

-- the run q and a buffer stand where the run r stands after some input
pub record Stands {S : Type 0} (p : Program S) (r : Run S) (input : List ℕ) (at : ℕ) (before after : List ℕ) (q : Run S) (next : ℕ)
    : Type 0 where
  pub run : q ≡ runs p r input
  pub text : TextAt at (text_for p r input) before after next
