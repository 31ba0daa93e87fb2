-- What the reader's code tests and leaves, against the definition.
use mathlib.Core.Path.{◌≡◌, refl, sym, ap, ◌∙◌}
use mathlib.Core.Bool.{Bool, true, false, cond, ◌&&◌}
use mathlib.Core.List.{List, [], map}
use Prim.Native.Nat.{ℕ, ◌+◌, ◌*◌, ◌≤◌}
use native.Mathlib.Omega.{arith}
use lib.ListN.{length, drop}
use Rattle.buffers.proofs.Tests.{and-true}
use Rattle.pages.specs.Page.{empties}
use Rattle.hashing.specs.declared.Parameters.{Parameters}
use Rattle.hashing.specs.declared.Growth.{Growth}
use Rattle.placement.specs.Rule.{Star, left}
use Rattle.placement.specs.File.{File, laid}
use Rattle.placement.specs.Hash.{hash_of}
use Rattle.reach.specs.Reach.{is_empty}
use Rattle.calls.specs.declared.answers.Refusal.TheVariants.{Full, BadHeader, BadRows}
use Rattle.calls.specs.declared.answers.Placed.TheVariants.{On, Refused}
use Rattle.calls.specs.Answers.{After, Pool, placed, refused_by, spotted, accepted, refused}
use Rattle.calls.specs.Shape.{Stores}
use Rattle.calls.specs.Calls.{unchanged}
use Rattle.fits_table.specs.declared.cards.Table.{Table}
use Rattle.fits_table.specs.declared.cards.Table.TheVariants.{Rows, Nothing}
use Rattle.fits_table.specs.Header.{table_in, table_length}
use Rattle.fits_table.specs.Rows.{good_rows}
use Rattle.fits_table.proofs.Reading.{told}
use Rattle.fits_pages.specs.Placed.{Places, row_stars}
use Rattle.exchange.specs.Tables.{good_data, stars_read, read_to, read_on}

-- the rows alone
pub rows-good : (given : List ℕ) (n : ℕ) → good_data given n ≡ true → good_rows 0 given 5760 n ≡ true
unfolding good_data
rows-good given n e = (and-true (good_rows 0 given 5760 n) (empties (drop (5760 + 12 * n) given)) e).0

module _ (p : Parameters) (g : Growth) (f : File) (pool : Pool) (given : List ℕ) where
  pub bad_header : {t : Table} → t ≡ table_in given → t ≡ Nothing → Stores (read_on p g f pool given (table_in given)) (placed (Refused BadHeader 0)) f
  unfolding read_on placed refused_by
  bad_header e n = rw (sym e ∙ n) (record { answers = refl; files = refl })

  module _ {t : Table} (n : ℕ) (e : t ≡ table_in given) (is : t ≡ Rows n) where
    -- the rows lie within the given bytes
    pub rows_inside : (n ≤ 32768) × (5760 + 12 * n ≤ length given)
    rows_inside =
        let k = told given n (sym e ∙ is) in
        (k.few, omega (arith, k.size))

    pub bad_rows : good_data given n ≡ false → Stores (read_on p g f pool given (table_in given)) (placed (Refused BadRows 0)) f
    unfolding read_on placed refused_by
    bad_rows b = rw (sym e ∙ is, b) (record { answers = refl; files = refl })

    module _ (good : good_data given n ≡ true) {f' : File} {r : Bool} (P : Places (record { parameters = p; growth = g }) given n f f' r) where
      pub too_many : r ≡ false → Stores (read_on p g f pool given (table_in given)) (placed (Refused Full 0)) f'
      unfolding read_on read_to placed refused_by
      too_many z =
          rw (sym e ∙ is, good, sym P.fits ∙ z) (record { answers = refl; files = P.file ∙ rw z })

      pub all_placed : r ≡ true → Stores (read_on p g f pool given (table_in given)) (placed (On 0 0)) f'
      unfolding read_on read_to placed
      all_placed z =
          rw (sym e ∙ is, good, sym P.fits ∙ z) (record { answers = refl; files = P.file ∙ rw z })

  -- the pool is the caller's to clear
  pub read-pool : (t : Table) → (read_on p g f pool given t).pool ≡ pool
  unfolding read_on read_to
  read-pool Nothing = refl
  read-pool (Rows n) = go (good_data given n) (is_empty (left (hash_of p g) 0 p.pages (stars_read given n)))
    where
      go : (t u : Bool)
          → (cond t
          (cond u
          (record { answer = accepted 0; growth = g; file = laid p.places (hash_of p g) p.pages (stars_read given n); pool = pool })
          (unchanged g f pool (refused 8 0)))
          (unchanged g f pool (refused 11 0))).pool ≡ pool
      go true true = refl
      go true false = refl
      go false u = refl
