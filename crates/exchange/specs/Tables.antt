-- A file written as a table, and a table read into a file: document 02 (vi).
use Rattle.std.specs.Prelude.{◌≡◌, Bool, cond, false, ◌&&◌, List, map, ℕ, zero, suc, ◌+◌, ◌*◌, leb, ltb, length, drop}
use Rattle.buffers.specs.Lists.{written}
use Rattle.hashing.specs.declared.Parameters.{Parameters}
use Rattle.hashing.specs.declared.Growth.{Growth}
use Rattle.pages.specs.Page.{empties}
use Rattle.placement.specs.Rule.{Star, left, star_with}
use Rattle.placement.specs.File.{File, laid}
use Rattle.placement.specs.Hash.{hash_of}
use Rattle.reach.specs.Reach.{is_empty, all_stars, first_unsound_lem}
use Rattle.calls.specs.declared.answers.Answer.{Answer}
use Rattle.calls.specs.declared.records.GrowthRecord.{GrowthRecord}
use Rattle.calls.specs.Answers.{After, Pool, accepted, refused, counted, cleared}
use Rattle.calls.specs.Calls.{unless, or_else, unlent, guarded, unchanged, file_fits_lem, pool_fits_lem}
use Rattle.calls.specs.Records.{valid_steps, unless_open}
use Rattle.fits_table.specs.Header.{table_in}
use Rattle.fits_table.specs.Rows.{row_of_star, table_of, good_rows, rows_read}
use Rattle.fits_table.specs.declared.cards.Table.{Table}
use Rattle.fits_table.specs.declared.cards.Table.TheVariants.{Rows, Nothing}

-- a row's star: "FITS tables are read in with owner 0" (x)
abbrev pub star_of_row : ℕ × ℕ → Star
star_of_row r = star_with r.0 r.1 0

-- Writing

-- "rows in rising number": the table of all stars
unfoldable pub table_of_file : Parameters → File → List ℕ
table_of_file p f = table_of (map row_of_star (all_stars p f))

-- the answer, and the lent output afterwards; the file is only read
pub record AfterWrite : Type 0 where
  pub answer : Answer
  pub output : List ℕ

abbrev pub not_written : List ℕ → Answer → AfterWrite
not_written out answer = record { answer = answer; output = out }

-- refused with n before a page was read, or what else the call does
abbrev pub guarded_write : List ℕ → ℕ → AfterWrite → AfterWrite
guarded_write out zero after = after
guarded_write out (suc n) after = not_written out (refused (suc n) 0)

-- "answers its length, leaves bytes past that and refuses with 5 the lowest unsound page", "with 12, on writing, an output shorter than the table".
-- The length is answered in the count of an answer.
unfoldable pub write_on : Parameters → Growth → File → List ℕ → AfterWrite
write_on p g f out =
    let bad = first_unsound_lem p g f 0 p.pages in
    cond (ltb bad p.pages)
    (not_written out (refused 5 bad))
    (cond (ltb (length out) (length (table_of_file p f)))
    (not_written out (refused 12 0))
    (record { answer = counted false (length (table_of_file p f)); output = written 0 (table_of_file p f) out }))

-- the file is read, also while a growth is open
unfoldable pub write_under : Parameters → GrowthRecord → File → List ℕ → AfterWrite
write_under p r f out =
    guarded_write out (or_else (unless (valid_steps p r) 1) (unlent p r.state (file_fits_lem p f))) (write_on p r.state f out)

-- the answer and the output at exit are those of the definition
pub record Writes (after : AfterWrite) (answer : Answer) (out : List ℕ) : Type 0 where
  pub answers : answer ≡ after.answer
  pub outputs : out ≡ after.output

-- Reading

-- "a row out of order or range or a non-zero pad"
unfoldable pub good_data : List ℕ → ℕ → Bool
good_data given rows = good_rows 0 given 5760 rows && empties (drop (5760 + 12 * rows) given)

abbrev pub stars_read : List ℕ → ℕ → List Star
stars_read given rows = map star_of_row (rows_read given 5760 rows)

-- "replaces the lent file by these stars under given parameters and (e, x)"; "8 comes last"
unfoldable pub read_to : Parameters → Growth → File → Pool → List Star → After
read_to p g f pool w =
    cond (is_empty (left (hash_of p g) 0 p.pages w))
    (record { answer = accepted 0; growth = g; file = laid p.places (hash_of p g) p.pages w; pool = pool })
    (unchanged g f pool (refused 8 0))

-- "with 10 a header and length that the writer can't produce together, then with 11"
unfoldable pub read_on : Parameters → Growth → File → Pool → List ℕ → Table → After
read_on p g f pool given Nothing = unchanged g f pool (refused 10 0)
read_on p g f pool given (Rows n) = cond (good_data given n) (read_to p g f pool (stars_read given n)) (unchanged g f pool (refused 11 0))

unfoldable pub read_of : Parameters → Growth → File → Pool → List ℕ → After
read_of p g f pool given =
    guarded g f pool (unlent p g (file_fits_lem p f && pool_fits_lem p pool)) (read_on p g f (cleared pool) given (table_in given))

unfoldable pub read_under : Parameters → GrowthRecord → File → Pool → List ℕ → After
read_under p r f pool given = unless_open p r (file_fits_lem p f && pool_fits_lem p pool) f pool (read_of p r.state f pool given)
