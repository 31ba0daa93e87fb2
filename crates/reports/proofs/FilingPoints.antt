-- A filing on a small file, by computation.
use mathlib.Core.Path.{◌≡◌, refl}
use mathlib.Core.List.{List, [], ◌∷◌}
use Prim.Native.Nat.{ℕ}
use lib.IntN.{pos}
use Rattle.buffers.specs.Lists.{written, padded}
use Rattle.hashing.specs.declared.Parameters.{Parameters}
use Rattle.hashing.specs.Limits.{within, valid_parameters, valid_growth}
use Rattle.hashing.specs.Geometry.{size_at, count_at_lem, page_count, ungrown, rank, swept}
use Rattle.hashing.specs.Home.{rank_at, chosen, expanded_at, step_from, after_steps, home}
use Rattle.generator.specs.Generator.{valid_multiplier, scrambled, signature, top_of_lem}
use Rattle.pages.specs.Position.{valid_number, valid_position, valid_word, packed}
use Rattle.pages.specs.Page.{part, place_of, held_at}
use Rattle.placement.specs.Rule.{filter, below, staying, passing, separator_from, separator_of, contents_of, onward, pages, left, first, insert, pour, without, separators}
use Rattle.placement.specs.File.{File, stars_of, stars_at, gathered, orderly, every, sound, column, replaced}
use Rattle.placement.specs.Hash.{hash_of, sound_at, named_page_lem}
use Rattle.reach.specs.Reach.{first_such, removal_end, entering, enters_within, entry_end, first_unsound_lem, has_number, holding}
use Rattle.calls.specs.Answers.{Pool, spotted, zeros, cleared}
use Rattle.calls.specs.Calls.{file_fits_lem, pool_fits_lem, unlent, readable, holds, item_of, may_alter_lem, allowed, enter_to, entered_again_lem, enter_on, enter_of, change_on, change_of, remove_to, remove_on, remove_of}
use Rattle.calls.specs.Records.{closed_record, valid_steps, enter_under, change_under, remove_under}
use Rattle.reports.specs.Bits.{no_bits}
use Rattle.reports.specs.Reports.{Report, waiting, tray_fits_lem, no_report, closed_tray}
use Rattle.reports.specs.TrayCalls.{tray_refusal}
use Rattle.reports.specs.Filing.{removal_filed, position_filed, report_filed, filed_from, AfterFiling, filed_unless, left_by, filing_of}

-- b = 1, two pages, all homes 0: star 32 has signatures 223 and 126, star 170 has 149 and 215
abbrev tiny : Parameters
tiny = record { places = 1; groups = 1; width = 1; step = 1; bits = 8; load = 50; pages = 2; multiplier = 16807 }

abbrev pool : Pool
pool = record { numbers = 1 ∷ 2 ∷ []; words = 3 ∷ 4 ∷ []; owners = 5 ∷ 6 ∷ [] }

-- star 32 alone, which is observer 1's
abbrev with32 : File
with32 = record { separators = 255 ∷ 255 ∷ []; numbers = 32 ∷ 0 ∷ []; words = 5 ∷ 0 ∷ []; owners = 1 ∷ 0 ∷ [] }

abbrev seen : ℕ → ℕ → Report
seen owner k = record { number = k; ra = 1; dec = pos 0; owner = owner; removed = 0 }

abbrev gone : ℕ → ℕ → Report
gone owner k = record { number = k; ra = 0; dec = pos 0; owner = owner; removed = 1 }

-- observer 1 changes its star, 2 removes one that is not held and enters it; then 2 would remove 1's star, and 1 would enter another
abbrev five : List Report
five = seen 1 32 ∷ gone 2 170 ∷ seen 2 170 ∷ gone 2 32 ∷ seen 1 7 ∷ []

abbrev filing : AfterFiling
filing = filing_of tiny (closed_record ungrown) with32 pool (closed_tray five) no_bits

record Points : Type 0 where
  filed : filing.filed ≡ 3
  stopped : filing.answer ≡ spotted 13 0 0
  file : filing.file ≡ record { separators = 223 ∷ 255 ∷ []; numbers = 170 ∷ 32 ∷ []; words = 4618967296 ∷ 4618967296 ∷ []; owners = 2 ∷ 1 ∷ [] }
  pooled : filing.pool ≡ record { numbers = 0 ∷ 0 ∷ []; words = 0 ∷ 0 ∷ []; owners = 0 ∷ 0 ∷ [] }
  rest : filing.tray ≡ closed_tray (gone 2 32 ∷ seen 1 7 ∷ [])

points : Points
unfolding filing_of filed_unless left_by filed_from report_filed position_filed removal_filed tray_refusal tray_fits_lem waiting closed_tray no_report no_bits valid_steps enter_under change_under remove_under change_of change_on remove_of remove_on remove_to removal_end allowed may_alter_lem item_of entered_again_lem without page_count first_such enter_of enter_on enter_to unlent valid_parameters valid_growth within valid_multiplier file_fits_lem pool_fits_lem valid_number valid_position readable holds held_at place_of part sound_at sound orderly every stars_at stars_of first below named_page_lem hash_of home after_steps step_from expanded_at chosen rank_at rank swept size_at count_at_lem scrambled signature top_of_lem valid_word entry_end enters_within entering insert gathered pour left onward passing filter separator_of separator_from staying first_unsound_lem replaced separators column padded written pages contents_of holding has_number cleared zeros packed spotted
points = record { filed = refl; stopped = refl; file = refl; pooled = refl; rest = refl }
