-- A catalogue's lines, one after another, and what is put out for them.
-- Assumes nothing.
use Rattle.std.specs.Prelude.{◌≡◌, Bool, true, false, cond, ◌||◌, List, [], ◌∷◌, map, ℕ, ◌+◌, ◌≤◌, ltb, length}
use Rattle.lines.specs.declared.Command.{Command}
use Rattle.lines.specs.Grammar.{command_of, lines_of, line_bytes}
use Rattle.lines.specs.Programs.{Program, put_out, Run}
use Rattle.pages.specs.Position.{valid_number, valid_word}
use Rattle.fits_table.specs.Order.{sort_by, All}
use Rattle.fits_table.specs.Rows.{table_of}
use Rattle.catalogues.specs.Entries.{rows_held, effect_of, added_to, is_refusal_lem, effect_text}
use Rattle.catalogues.specs.declared.collecting.Collection.{Collection}

-- the rows in the order of their lines, how many lines there were, and whether one was refused
pub record Catalogue : Type 0 where
  pub rows : List (ℕ × ℕ)
  pub lines : ℕ
  pub refused : Bool

unfoldable pub no_lines : Catalogue
no_lines = record { rows = []; lines = 0; refused = false }

-- lines count from 1; the greatest number of 32 bits stands for every line from there on
unfoldable pub line_after_lem : ℕ → ℕ
line_after_lem n = cond (ltb n 4294967295) (n + 1) n

unfoldable pub next_of : Catalogue → Command → Catalogue
next_of s c =
    record {
      rows = added_to s.rows (effect_of s.rows c);
      lines = line_after_lem s.lines;
      refused = s.refused || is_refusal_lem (effect_of s.rows c);
    }

unfoldable pub text_of : Catalogue → Command → List ℕ
text_of s c = effect_text (line_after_lem s.lines) (effect_of s.rows c)

-- "rows in rising number"
unfoldable pub table_from : List (ℕ × ℕ) → List ℕ
table_from rows = table_of (sort_by (λ (r : ℕ × ℕ). r.0) rows)

-- the table, unless a line was refused
unfoldable pub table_unless : Catalogue → List ℕ
table_unless s = cond s.refused [] (table_from s.rows)

-- the program from lines to a table: a line for each refused one, and if there is none, the table
unfoldable pub cataloguing : Program Catalogue
cataloguing = record { first = no_lines; next = next_of; text = text_of; last = table_unless }

abbrev pub from_lines : List ℕ → List ℕ
from_lines input = put_out cataloguing no_lines (map command_of (lines_of input))

-- The run of the code's values: a collection and the two columns of its rows.
unfoldable pub run_held : Collection → List ℕ → List ℕ → Run Catalogue
run_held c ns ws =
    record {
      state = record { rows = rows_held c.count ns ws; lines = c.lines; refused = c.refused };
      begun = line_bytes c.line;
    }

-- rows of different numbers, all of them valid
abbrev pub Proper : List (ℕ × ℕ) → Type 0
Proper [] = Unit {0}
Proper (r ∷ rs) = ((valid_number r.0 ≡ true) × (valid_word r.1 ≡ true)) × (All (λ (s : ℕ × ℕ). r.0 ≡ s.0 → ⊥) rs × Proper rs)

-- columns of 32,768 items that hold proper rows
pub record Fit (c : Collection) (ns ws : List ℕ) : Type 0 where
  pub few : c.count ≤ 32768
  pub numbers : length ns ≡ 32768
  pub words : length ws ≡ 32768
  pub proper : Proper (rows_held c.count ns ws)
