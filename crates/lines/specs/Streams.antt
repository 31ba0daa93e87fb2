-- What a program does with its input and its output, where their bytes are known.
use Rattle.std.specs.Prelude.{Option, ℕ, List, ◌≡◌}
use Rattle.std.specs.Io.KnownBytes.{Consumes, Appends}
use Rattle.lines.specs.Programs.{Program, Run, runs, text_for}

-- Some input was read, what the program puts out for it was written, and its run went on by it.
pub record Serves {S : Type 0} (p : Program S) (run next : Run S) (left left_then held held_then : Option (List ℕ)) : Type 0 where
  pub input : List ℕ
  pub read : Consumes left left_then input
  pub goes_on : next ≡ runs p run input
  pub written : Appends held held_then (text_for p run input)
