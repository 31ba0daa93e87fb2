-- What the writer's code tests and answers, against the definition.
use mathlib.Core.Path.{◌≡◌, refl, sym, ap, ◌∙◌}
use mathlib.Core.Bool.{Bool, false}
use mathlib.Core.List.{List, map}
use Prim.Native.Nat.{ℕ, zero, suc, ◌≤◌, ◌<◌}
use native.Mathlib.Omega.{arith}
use lib.Dec.{ltb}
use lib.ListN.{length, get_or, length-map}
use borrow.Author.Tests.{lt-ltb, le-ltb}
use Rattle.call_guard.proofs.Recorded.{refusal-most}
use Rattle.buffers.specs.Lists.{written}
use Rattle.hashing.specs.declared.Parameters.{Parameters}
use Rattle.hashing.specs.declared.Growth.{Growth}
use Rattle.placement.specs.File.{File}
use Rattle.placement.specs.Hash.{hash_of}
use Rattle.reach.specs.Reach.{first_unsound_lem}
use Rattle.reach.proofs.Search.{such}
use Rattle.reach.proofs.Surveyed.{unsound}
use Rattle.calls.specs.declared.answers.Answer.{Answer}
use Rattle.calls.specs.declared.answers.Refusal.{Refusal}
use Rattle.calls.specs.declared.answers.Refusal.TheVariants.{
  BadParameters,
  BadLength,
  BadNumber,
  BadPosition,
  Damaged,
  Held,
  NotHeld,
  Full,
  Ungrown,
  BadHeader,
  BadRows,
  ShortOutput,
  NotOwner,
  TrayFull,
  BadContents,
  OutOfTurn,
}
use Rattle.std.specs.Prelude.{Result, Ok, Err}
use Rattle.calls.specs.declared.records.GrowthRecord.{GrowthRecord}
use Rattle.calls.specs.Answers.{refusal_number, refusal_page, refused_by, spotted, refused, counted}
use Rattle.calls.specs.Shape.{admission_number}
use Rattle.calls.specs.Calls.{unless, or_else, unlent, file_fits_lem}
use Rattle.calls.specs.Shape.{Admitted}
use Rattle.calls.specs.Records.{valid_steps}
use Rattle.calls.proofs.Numbers.{numbered}
use Rattle.calls.proofs.Refusals.{admitted, items-most}
use Rattle.call_guard.specs.Turn.{record_refusal}
use Rattle.fits_table.specs.Header.{table_length}
use Rattle.fits_table.specs.Items.{held_items}
use Rattle.fits_table.specs.Order.{sort_by}
use Rattle.fits_table.specs.Rows.{row_of_star, table_of}
use Rattle.fits_table.specs.Shape.{row_of, rows_in, RowsUp}
use Rattle.fits_table.proofs.FileRows.{file-rows}
use Rattle.fits_table.proofs.FileTable.{file-up}
use Rattle.fits_table.proofs.Orders.{length-sort}
use Rattle.fits_table.proofs.Told.{table_long}
use Rattle.exchange.specs.Tables.{AfterWrite, not_written, guarded_write, table_of_file, write_on, write_under, Writes}
use Rattle.exchange.proofs.Exchanged.{else_zero, sound-pages}
use Rattle.fits.specs.declared.putting.Written.TheVariants.{Length, Refused}
use Rattle.fits.specs.Written.{length_said}
use Rattle.fits.specs.Shape.{fitted}

pub writes : (after : AfterWrite) {a b : Answer} {o : List ℕ} → after ≡ record { answer = a; output = o } → b ≡ a → Writes after b o
writes after e h = record { answers = h ∙ sym (ap (λ (x : AfterWrite). x.answer) e); outputs = sym (ap (λ (x : AfterWrite). x.output) e) }

-- refusals 1 and 2 have no page
pageless : (r : Refusal) → refusal_number r ≤ 2 → refusal_page r ≡ 0
pageless BadParameters h = refl
pageless BadLength h = refl
pageless BadNumber h = refl
pageless BadPosition h = refl
pageless (Damaged page) h = absurd (omega arith)
pageless Held h = refl
pageless NotHeld h = refl
pageless Full h = refl
pageless Ungrown h = refl
pageless BadHeader h = refl
pageless BadRows h = refl
pageless ShortOutput h = refl
pageless NotOwner h = refl
pageless TrayFull h = refl
pageless BadContents h = refl
pageless OutOfTurn h = refl

early : (out : List ℕ) (x : Refusal) (after : AfterWrite) → refusal_number x ≤ 2 → guarded_write out (refusal_number x) after ≡ not_written out (refused_by x 0)
unfolding refused_by
early out x after h = go (refusal_number x) refl
  where
    go : (n : ℕ) → refusal_number x ≡ n → guarded_write out n after ≡ not_written out (spotted (refusal_number x) (refusal_page x) 0)
    go zero e = absurd (omega (arith, numbered x))
    go (suc n) e = rw (e, pageless x h)

module _ (p : Parameters) (r : GrowthRecord) (f : File) (out : List ℕ) where
  pub refused-first : {a : Result (Unit {0}) Refusal} {fits : Bool} {x : Refusal} → admission_number a ≡ record_refusal p r fits → fits ≡ file_fits_lem p f → a ≡ Err x
      → Writes (write_under p r f out) (length_said (Refused x)) out
  unfolding write_under length_said record_refusal
  refused-first {a} {fits} {x} e l t =
      let is : refusal_number x ≡ record_refusal p r (file_fits_lem p f) = sym (ap admission_number t) ∙ (e ∙ ap (record_refusal p r) l) in
      writes (write_under p r f out)
      (rw (← is) (early out x (write_on p r.state f out) (rw is (refusal-most p r (file_fits_lem p f))))) refl

  module _ {a : Result (Unit {0}) Refusal} {fits : Bool} (e : admission_number a ≡ record_refusal p r fits) (l : fits ≡ file_fits_lem p f) (t : a ≡ Ok tt) where
    none_refused : or_else (unless (valid_steps p r) 1) (unlent p r.state (file_fits_lem p f)) ≡ 0
    unfolding record_refusal
    none_refused = sym (ap (record_refusal p r) l) ∙ (sym e ∙ ap admission_number t)

    pub well-admitted : Admitted p r.state f
    well-admitted = admitted p r.state f (else_zero (valid_steps p r) (unlent p r.state (file_fits_lem p f)) none_refused).1

    on : write_under p r f out ≡ write_on p r.state f out
    unfolding write_under
    on = rw none_refused

    pub unsound-first : (bad : ℕ) → bad ≡ first_unsound_lem p r.state f 0 p.pages → bad < p.pages → Writes (write_under p r f out) (length_said (Refused (Damaged bad))) out
    unfolding write_on length_said refused_by
    unsound-first bad is h =
        writes (write_under p r f out)
        (on ∙ rw (← is, lt-ltb bad p.pages h)) refl

    module _ (bad : ℕ) (is : bad ≡ first_unsound_lem p r.state f 0 p.pages) (past : p.pages ≤ bad) where
      all_are : first_unsound_lem p r.state f 0 p.pages ≡ p.pages
      unfolding first_unsound_lem
      all_are = omega (arith, (such (unsound p r.state f) 0 p.pages).high)

      pub rows-rise : RowsUp 0 (rows_in f.numbers f.words)
      unfolding hash_of
      rows-rise = file-up (hash_of p r.state) p.pages f well-admitted.sized (sound-pages p r.state f all_are)

      pub sound-written : {b : Answer} {o : List ℕ} → Writes (fitted (table_of (rows_in f.numbers f.words)) out) b o → Writes (write_under p r f out) b o
      unfolding write_on table_of_file fitted
      sound-written w =
          rw (on, le-ltb (first_unsound_lem p r.state f 0 p.pages) p.pages (omega (arith, all_are)), file-rows p.places p.pages f well-admitted.sized) w

-- the table's length, by its number of rows
module _ (ns ws out : List ℕ) (n : ℕ) (count : n ≡ length (held_items 0 ns)) where
  table_size : length (table_of (rows_in ns ws)) ≡ table_length n
  unfolding rows_in
  table_size =
      let rows : length (map (row_of ns ws) (sort_by (λ (x : ℕ). get_or ns x 0) (held_items 0 ns))) ≡ n =
      length-map (sort_by (λ (x : ℕ). get_or ns x 0) (held_items 0 ns)) (row_of ns ws) ∙ length-sort (λ (x : ℕ). get_or ns x 0) (held_items 0 ns) ∙ sym count in
      table_long (map (row_of ns ws) (sort_by (λ (x : ℕ). get_or ns x 0) (held_items 0 ns))) ∙ ap table_length rows

  pub too_short : length out < table_length n → Writes (fitted (table_of (rows_in ns ws)) out) (length_said (Refused ShortOutput)) out
  unfolding fitted length_said refused_by
  too_short h = writes _ (rw (lt-ltb (length out) (length (table_of (rows_in ns ws))) (omega (arith, table_size)))) refl

  pub put_whole : (o : List ℕ) → table_length n ≤ length out → o ≡ written 0 (table_of (rows_in ns ws)) out → Writes (fitted (table_of (rows_in ns ws)) out) (length_said (Length (table_length n))) o
  unfolding fitted length_said
  put_whole o h e =
      rw (e) (writes _ (rw (le-ltb (length out) (length (table_of (rows_in ns ws))) (omega (arith, table_size)))) (ap (λ (k : ℕ). counted false k) (sym table_size)))
