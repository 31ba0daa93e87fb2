-- A table read into a file, and a file written as one: document 02 (vi).
use mathlib.Core.Path.{◌≡◌, refl, sym, ap, subst}
use mathlib.Core.Bool.{Bool, true, false, cond, ◌&&◌, true≢false}
use mathlib.Core.List.{List, ◌∷◌}
use Prim.Native.Nat.{ℕ, zero, suc, ◌+◌, ◌*◌}
use native.Mathlib.Nat.{le_refl}
use native.Mathlib.Omega.{arith}
use lib.Dec.{ltb}
use lib.ListN.{length, drop}
use borrow.Author.Tests.{ltb-true, le-ltb}
use Rattle.hashing.specs.declared.Parameters.{Parameters}
use Rattle.hashing.specs.declared.Growth.{Growth}
use Rattle.hashing.specs.Limits.{valid_parameters, valid_growth}
use Rattle.hashing.proofs.Bounds.{both}
use Rattle.pages.specs.declared.position.Position.{Position}
use Rattle.pages.specs.Position.{valid_number, valid_position, valid_word, packed}
use Rattle.pages.specs.Page.{empties}
use Rattle.pages.proofs.Words.{pack-valid}
use Rattle.placement.specs.Rule.{Star, left}
use Rattle.placement.specs.File.{File, laid}
use Rattle.placement.specs.Hash.{hash_of}
use Rattle.placement.proofs.Order.{Rising, rising-less}
use Rattle.placement.proofs.Pages.{Proper}
use Rattle.reach.specs.Reach.{is_empty}
use Rattle.calls.specs.declared.records.GrowthRecord.{GrowthRecord}
use Rattle.calls.specs.Answers.{Pool, After, spotted, counted, accepted, refused, cleared}
use Rattle.calls.specs.Calls.{unless, or_else, unlent, guarded, unchanged, file_fits_lem, pool_fits_lem}
use Rattle.calls.specs.Records.{valid_steps}
use Rattle.fits_table.specs.Header.{table_in}
use Rattle.fits_table.specs.Rows.{from32, position_at, row_answer, row_at, good_after, good_rows, rows_read}
use Rattle.fits_table.specs.Shape.{RowsUp}
use Rattle.fits_table.specs.declared.cards.Table.{Table}
use Rattle.fits_table.specs.declared.cards.Table.TheVariants.{Rows, Nothing}
use Rattle.exchange.specs.Tables.{table_of_file, not_written, guarded_write, write_on, write_under, good_data, stars_read, read_to, read_on, read_of, read_under}
use Rattle.exchange.proofs.Exchanged.{WasRead, was_read, rows-rise, rows-proper}
use Rattle.histories.specs.Model.{empty_model}
use Rattle.histories.specs.Call.{table_stars}
use Rattle.histories.specs.Carrying.{fed_in, OrderOf, EnteredAs}
use Rattle.histories.specs.Reading.{ReadIsEntered}
use Rattle.histories.proofs.Cleaned.{Modelled}
use Rattle.histories.proofs.Carrying.{all-entered, Begun, begins, none-bad}

-- Rows that are good rise and are valid, whatever numbers stand for bytes.
good-up : (last : ℕ) (l : List ℕ) (at n : ℕ) → good_rows last l at n ≡ true → RowsUp last (rows_read l at n)
unfolding good_rows rows_read row_at
good-up last l at zero e = tt
good-up last l at (suc n) e = go (ltb last k && (valid_number k && valid_position q)) refl e (good-up k l (at + 12) n)
  where
    k : ℕ
    k = from32 l at

    q : Position
    q = position_at l at

    go : (b : Bool) → ltb last k && (valid_number k && valid_position q) ≡ b → good_after (row_answer b k (packed q)) (λ (i : ℕ). good_rows i l (at + 12) n) ≡ true
        → (good_rows k l (at + 12) n ≡ true → RowsUp k (rows_read l (at + 12) n)) → RowsUp last ((k, packed q) ∷ rows_read l (at + 12) n)
    go false d e later = absurd (true≢false (sym e))
    go true d e later =
        let a = both (ltb last k) (valid_number k && valid_position q) d in
        let b = both (valid_number k) (valid_position q) a.1 in
        (ltb-true last k a.0, (b.0, (pack-valid q b.1, later e)))

module _ (q : Parameters) (s : GrowthRecord) (lent : File) (pool : Pool) (given : List ℕ) (n : ℕ) (w : WasRead q s lent pool given n) where
  up : RowsUp 0 (rows_read given 5760 n)
  unfolding good_data
  up = good-up 0 given 5760 n (both (good_rows 0 given 5760 n) (empties (drop (5760 + 12 * n) given)) w.good).0

  read-rises : Rising 0 (stars_read given n)
  read-rises = rising-less 0 1 (stars_read given n) (omega arith) (rows-rise 0 (rows_read given 5760 n) up)

  read-valid : Proper valid_word (stars_read given n)
  read-valid = rows-proper 0 (rows_read given 5760 n) up

  given-valid : (valid_parameters q ≡ true) × (valid_growth q s.state ≡ true)
  given-valid = both (valid_parameters q) (valid_growth q s.state) w.valid

  -- what was read is the file of the model into which the rows were entered
  pub read-begins : Begun q s.state (stars_read given n) (fed_in q (stars_read given n) (empty_model s.state))
  read-begins =
      begins q s.state given-valid.0 given-valid.1 pool (both (file_fits_lem q lent) (pool_fits_lem q pool) w.lengths).1 (stars_read given n)
      read-rises read-valid w.fits

  -- and what entering the rows leaves
  rows-entered : (xs : List Star) → OrderOf (table_stars given (table_in given)) xs → (pools : Star → Pool) → ((t : Star) → pool_fits_lem q (pools t) ≡ true)
      → EnteredAs q s.state pools xs (read_under q s lent pool given).file
  unfolding table_stars
  rows-entered xs o pools fit =
      subst (EnteredAs q s.state pools xs) (sym (ap (λ (a : After). a.file) w.is))
      (all-entered q s.state given-valid.0 given-valid.1 (stars_read given n) read-rises read-valid pools fit xs (rw w.header at o) w.fits)

pub read-is-entered : ReadIsEntered
read-is-entered p r f pool given e xs o pools fit =
    let t = was_read p r f pool given e in
    rows-entered p r f pool given t.0 t.1 xs o pools fit

-- A reading is never refused with 5.
passes : (g : Growth) (f : File) (pool : Pool) (n : ℕ) (a : After) → (n ≡ 5 → ⊥) → (a.answer.refusal ≡ 5 → ⊥) → (guarded g f pool n a).answer.refusal ≡ 5 → ⊥
unfolding spotted
passes g f pool zero a h d e = d e
passes g f pool (suc n) a h d e = h e

few : (p : Parameters) (g : Growth) (lengths : Bool) → unlent p g lengths ≡ 5 → ⊥
unfolding unlent
few p g lengths = go (valid_parameters p && valid_growth p g) lengths
  where
    go : (a b : Bool) → or_else (unless a 1) (unless b 2) ≡ 5 → ⊥
    go false b e = omega arith
    go true false e = omega arith
    go true true e = omega arith

table_undamaged : (p : Parameters) (g : Growth) (f : File) (pool : Pool) (given : List ℕ) (t : Table) → (read_on p g f pool given t).answer.refusal ≡ 5 → ⊥
unfolding read_on read_to spotted
table_undamaged p g f pool given Nothing e = omega arith
table_undamaged p g f pool given (Rows n) e = go (good_data given n) (is_empty (left (hash_of p g) 0 p.pages (stars_read given n))) e
  where
    go : (a b : Bool)
        → (cond a
        (cond b (record { answer = accepted 0; growth = g; file = laid p.places (hash_of p g) p.pages (stars_read given n); pool = pool }) (unchanged g f pool (refused 8 0)))
        (unchanged g f pool (refused 11 0))).answer.refusal ≡ 5 → ⊥
    go false b e = omega arith
    go true true e = omega arith
    go true false e = omega arith

pub read-undamaged : (p : Parameters) (r : GrowthRecord) (f : File) (pool : Pool) (given : List ℕ) → (read_under p r f pool given).answer.refusal ≡ 5 → ⊥
unfolding read_under read_of spotted
read-undamaged p r f pool given =
    passes r.state f pool (unless (valid_steps p r) 1) _ (once (valid_steps p r)) (go r.growing)
  where
    once : (b : Bool) → unless b 1 ≡ 5 → ⊥
    once true e = omega arith
    once false e = omega arith

    lens : Bool
    lens = file_fits_lem p f && pool_fits_lem p pool

    go : (b : Bool)
        → (cond b
        (guarded r.state f pool (unlent p r.state lens) (unchanged r.state f (cleared pool) (refused 16 0)))
        (guarded r.state f pool (unlent p r.state lens) (read_on p r.state f (cleared pool) given (table_in given)))
        ).answer.refusal ≡ 5 → ⊥
    go true = passes r.state f pool (unlent p r.state lens) _ (few p r.state lens) (λ e. omega arith)
    go false = passes r.state f pool (unlent p r.state lens) _ (few p r.state lens) (table_undamaged p r.state f (cleared pool) given (table_in given))

-- Nor is a writing of a clean file.
pub write_undamaged : (p : Parameters) (r : GrowthRecord) (f : File) → Modelled p r.state f → (out : List ℕ) → (write_under p r f out).answer.refusal ≡ 5 → ⊥
unfolding write_under write_on spotted counted
write_undamaged p r f c out =
    rw (none-bad p r.state f c, le-ltb p.pages p.pages (le_refl p.pages)) (go (valid_steps p r) (unlent p r.state (file_fits_lem p f)) (few p r.state (file_fits_lem p f)) (ltb (length out) (length (table_of_file p f))))
  where
    go : (a : Bool) (n : ℕ) → (n ≡ 5 → ⊥) → (b : Bool)
        → (guarded_write out (or_else (unless a 1) n)
        (cond b (not_written out (refused 12 0)) (record { answer = counted false (length (table_of_file p f)); output = Rattle.buffers.specs.Lists.written 0 (table_of_file p f) out }))
        ).answer.refusal ≡ 5 → ⊥
    go false n h b e = omega arith
    go true (suc n) h b e = h e
    go true zero h true e = omega arith
    go true zero h false e = omega arith
