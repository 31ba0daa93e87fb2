-- Tables promise what they are exchanged for: a written one is taken, a file comes back, and so do a table's bytes.
use mathlib.Core.Path.{◌≡◌, refl, sym, ap, ◌∙◌, subst}
use mathlib.Core.Bool.{Bool, true, false, not, cond, ◌&&◌}
use mathlib.Core.List.Memᴰ
use mathlib.Core.List.{List, [], ◌∷◌, ◌++◌, map, append_assoc, Memᴰ}
use mathlib.Core.Logic.{⊎_elim}
use Prim.Native.Nat.{ℕ, zero, suc, ◌+◌, ◌-◌, ◌*◌, ◌≤◌, ◌<◌}
use native.Mathlib.Nat.{zero-add}
use native.Mathlib.Omega.{arith}
use lib.Dec.{leb, ltb, eqb}
use lib.ListN.{length, get_or, take, drop, replicate, length-map}
use lib.Seq.{drop_at, drop-drop}
use borrow.Author.Tests.{ltb-false, le-ltb, eqb-true, eq-eqb, leb-true}
use Rattle.buffers.specs.Lists.{written}
use Rattle.buffers.proofs.Tests.{and-true}
use Rattle.buffers.proofs.Written.{taken-written}
use Rattle.hashing.specs.declared.Parameters.{Parameters}
use Rattle.hashing.specs.declared.Growth.{Growth}
use Rattle.hashing.specs.Limits.{valid_parameters, valid_growth}
use Rattle.pages.specs.Page.{part, empties}
use Rattle.pages.specs.Position.{valid_number, valid_word}
use Rattle.placement.specs.Rule.{Star, Hash, left, keep, star_with}
use Rattle.placement.specs.File.{File, Clean, stars_of, stars_at, greatest, laid}
use Rattle.placement.specs.Shape.{Sized}
use Rattle.placement.specs.Hash.{hash_of, sound_at}
use Rattle.placement.proofs.Composition.{count}
use Rattle.placement.proofs.Files.{gathered-laid, sized-laid}
use Rattle.placement.proofs.Filters.{filter-all}
use Rattle.placement.proofs.Order.{Rising, rising-less}
use Rattle.placement.proofs.Pages.{Proper}
use Rattle.placement.proofs.Sound.{AllSound, sound-facts, gathered-rising, gathered-proper, gathered-member, sound-fits, clean_laid, clean_list}
use Rattle.reach.specs.Reach.{is_empty, all_stars, first_unsound_lem}
use Rattle.reach.proofs.Reaching.{is-empty}
use Rattle.reach.proofs.Search.{such}
use Rattle.reach.proofs.Surveyed.{unsound}
use Rattle.calls.specs.declared.records.GrowthRecord.{GrowthRecord}
use Rattle.calls.specs.Answers.{After, Pool, spotted, accepted, refused, counted, cleared}
use Rattle.calls.specs.Calls.{unless, or_else, unlent, guarded, unchanged, file_fits_lem, pool_fits_lem, check_of}
use Rattle.calls.specs.Records.{valid_steps, closed_record, unless_open}
use Rattle.calls.proofs.Accepting.{check_clean}
use Rattle.calls.proofs.Refusals.{unlent-most, unlent-facts, well-lent, sized, items-most}
use Rattle.calls.proofs.Ruled.{all_sound, accepts-clean}
use Rattle.fits_table.specs.declared.cards.Table.{Table}
use Rattle.fits_table.specs.declared.cards.Table.TheVariants.{Rows, Nothing}
use Rattle.fits_table.specs.declared.rows.Row.TheVariants.{Star as Row-as-Star}
use Rattle.fits_table.specs.Header.{table_in, headers, blocks_of}
use Rattle.fits_table.specs.Rows.{row_of_star, row_bytes, from32, row_at, good_rows, rows_bytes, table_of, rows_read}
use Rattle.fits_table.specs.Shape.{RowsUp}
use Rattle.exchange.specs.Tables.{star_of_row, table_of_file, AfterWrite, guarded_write, write_on, write_under, good_data, stars_read, read_to, read_on, read_of, read_under}
use Rattle.exchange.specs.Exchange.{put, Written, WrittenIsTaken, WriteRead, ReadWritten}
use Rattle.fits_table.proofs.Fields.{headers-long}
use Rattle.fits_table.proofs.FileTable.{stars-up}
use Rattle.fits_table.proofs.Reading.{Accepted, table_taken, table_back, empties-zeros, length-read}
use Rattle.fits_table.proofs.RoundTrip.{row_read, taken-number, taken_word, number_small}
use Rattle.fits_table.proofs.Whole.{length-row, length-rows}

-- Refusals passed

pub else_zero : (t : Bool) (m : ℕ) → or_else (unless t 1) m ≡ 0 → (t ≡ true) × (m ≡ 0)
else_zero true m e = (refl, e)
else_zero false m e = absurd (omega arith)

pub guarded-past : (g : Growth) (f : File) (pool : Pool) (n : ℕ) (after : After) → (guarded g f pool n after).answer.refusal ≡ 0 → n ≡ 0
unfolding spotted
guarded-past g f pool zero after e = refl
guarded-past g f pool (suc n) after e = absurd (omega arith)

-- What an accepted writing shows

pub sound-pages : (p : Parameters) (g : Growth) (f : File) → first_unsound_lem p g f 0 p.pages ≡ p.pages → AllSound valid_word (hash_of p g) f 0 p.pages
unfolding sound_at
sound-pages p g f e q h k = sound-facts valid_word (hash_of p g) f q (all_sound p g f e q (omega arith))

none-unsound : (p : Parameters) (g : Growth) (f : File) → p.pages ≤ first_unsound_lem p g f 0 p.pages → first_unsound_lem p g f 0 p.pages ≡ p.pages
unfolding first_unsound_lem
none-unsound p g f h = omega (arith, (such (unsound p g f) 0 p.pages).high)

pub record Wrote (p : Parameters) (r : GrowthRecord) (f : File) (out : List ℕ) : Type 0 where
  pub valid : valid_parameters p && valid_growth p r.state ≡ true
  pub fits : file_fits_lem p f ≡ true
  pub sound : first_unsound_lem p r.state f 0 p.pages ≡ p.pages
  pub room : length (table_of_file p f) ≤ length out
  pub is : write_under p r f out ≡ record { answer = counted false (length (table_of_file p f)); output = written 0 (table_of_file p f) out }

pub wrote : (p : Parameters) (r : GrowthRecord) (f : File) (out : List ℕ) → Written p r f out → Wrote p r f out
unfolding write_under write_on spotted counted
wrote p r f out =
    go (or_else (unless (valid_steps p r) 1) (unlent p r.state (file_fits_lem p f))) refl
    (ltb (first_unsound_lem p r.state f 0 p.pages) p.pages) refl (ltb (length out) (length (table_of_file p f))) refl
  where
    bad : ℕ
    bad = first_unsound_lem p r.state f 0 p.pages

    done : AfterWrite
    done = record { answer = counted false (length (table_of_file p f)); output = written 0 (table_of_file p f) out }

    go : (n : ℕ) → or_else (unless (valid_steps p r) 1) (unlent p r.state (file_fits_lem p f)) ≡ n → (t : Bool) → ltb bad p.pages ≡ t
        → (u : Bool) → ltb (length out) (length (table_of_file p f)) ≡ u
        → (guarded_write out n (cond t (record { answer = refused 5 bad; output = out }) (cond u (record { answer = refused 12 0; output = out }) done))).answer.refusal ≡ 0
        → Wrote p r f out
    go (suc n) en t et u eu e = absurd (omega arith)
    go zero en true et u eu e = absurd (omega arith)
    go zero en false et true eu e = absurd (omega arith)
    go zero en false et false eu e =
        let lent = unlent-facts p r.state (file_fits_lem p f) (else_zero (valid_steps p r) (unlent p r.state (file_fits_lem p f)) en).1 in
        record {
          valid = lent.0;
          fits = lent.1;
          sound = none-unsound p r.state f (ltb-false bad p.pages et);
          room = ltb-false (length out) (length (table_of_file p f)) eu;
          is = rw (en, et, eu);
        }

module _ (p : Parameters) (r : GrowthRecord) (f : File) (out : List ℕ) (w : Wrote p r f out) where
  put-table : put p r f out ≡ table_of_file p f
  unfolding counted
  put-table =
      ap (λ (a : AfterWrite). take a.answer.stars a.output) w.is
      ∙ taken-written 0 (length (table_of_file p f)) (table_of_file p f) out refl (omega arith)

  all : AllSound valid_word (hash_of p r.state) f 0 p.pages
  all = sound-pages p r.state f w.sound

  file-sized : Sized p.places p.pages f
  file-sized = sized p f w.fits

  rows-up : RowsUp 0 (map row_of_star (all_stars p f))
  unfolding hash_of
  rows-up =
      stars-up (all_stars p f) (gathered-rising valid_word (hash_of p r.state) f 0 p.pages all) (gathered-proper valid_word (hash_of p r.state) f 0 p.pages all)

  -- sound pages have no more stars than places
  few : length (map row_of_star (all_stars p f)) ≤ 32768
  unfolding hash_of
  few =
      let H = hash_of p r.state in
      let fits : left H 0 p.pages (all_stars p f) ≡ [] =
      ap (left H 0 p.pages) (sym (filter-all (λ (s : Star). true) (λ s. refl) (all_stars p f)))
      ∙ sound-fits valid_word H f p.pages 0 p.pages (λ (s : Star). true) file-sized (omega arith) all in
      rw (length-map (all_stars p f) row_of_star)
      (omega (arith, rw fits at (count H 0 p.pages (all_stars p f)), items-most p (and-true (valid_parameters p) (valid_growth p r.state) w.valid).0))

  -- so its table is taken
  taken : Accepted (table_of_file p f) (length (map row_of_star (all_stars p f)))
  unfolding table_of_file
  taken = table_taken (map row_of_star (all_stars p f)) few rows-up

-- The header, rows and pad of a taken table pass
taken-on : (p : Parameters) (g : Growth) (f : File) (pool : Pool) (given : List ℕ) (n : ℕ) → Accepted given n → read_on p g f pool given (table_in given) ≡ read_to p g f pool (stars_read given n)
unfolding read_on good_data
taken-on p g f pool given n a = rw (a.header, a.good, a.pad)

-- Neither 10 nor 11

abbrev Neither : ℕ → Type 0
Neither n = (n ≡ 10 → ⊥) × (n ≡ 11 → ⊥)

neither-few : (n : ℕ) → n ≤ 9 → Neither n
neither-few n h = (λ e. omega arith, λ e. omega arith)

guarded-neither : (g : Growth) (f : File) (pool : Pool) (n : ℕ) (after : After) → n ≤ 9 → Neither after.answer.refusal → Neither (guarded g f pool n after).answer.refusal
unfolding spotted
guarded-neither g f pool zero after h k = k
guarded-neither g f pool (suc n) after h k = neither-few (suc n) h

under-neither : (p : Parameters) (r : GrowthRecord) (lengths : Bool) (f : File) (pool : Pool) (after : After) → Neither after.answer.refusal
    → Neither (unless_open p r lengths f pool after).answer.refusal
unfolding spotted
under-neither p r lengths f pool after k = go (valid_steps p r) r.growing
  where
    go : (t u : Bool)
        → Neither (guarded r.state f pool (unless t 1) (cond u (guarded r.state f pool (unlent p r.state lengths) (unchanged r.state f (cleared pool) (refused 16 0))) after)).answer.refusal
    go false u = neither-few 1 (omega arith)
    go true true =
        guarded-neither r.state f pool (unlent p r.state lengths) (unchanged r.state f (cleared pool) (refused 16 0))
        (omega (arith, unlent-most p r.state lengths)) (λ e. omega arith, λ e. omega arith)
    go true false = k

read-neither : (p : Parameters) (g : Growth) (f : File) (pool : Pool) (w : List Star) → Neither (read_to p g f pool w).answer.refusal
unfolding read_to spotted
read-neither p g f pool w = go (is_empty (left (hash_of p g) 0 p.pages w))
  where
    go : (t : Bool)
        → Neither (cond t (record { answer = accepted 0; growth = g; file = laid p.places (hash_of p g) p.pages w; pool = pool }) (unchanged g f pool (refused 8 0))).answer.refusal
    go true = neither-few 0 (omega arith)
    go false = neither-few 8 (omega arith)

pub written-is-taken : WrittenIsTaken
unfolding read_under read_of
written-is-taken p r f out e q s second pool =
    let w = wrote p r f out e in
    rw (put-table p r f out w)
    (under-neither q s (file_fits_lem q second && pool_fits_lem q pool) second pool _
    (guarded-neither s.state second pool (unlent q s.state (file_fits_lem q second && pool_fits_lem q pool)) _ (omega (arith, unlent-most q s.state (file_fits_lem q second && pool_fits_lem q pool)))
    (rw (taken-on q s.state second (cleared pool) (table_of_file p f) (length (map row_of_star (all_stars p f))) (taken p r f out w))
    (read-neither q s.state second (cleared pool) (stars_read (table_of_file p f) (length (map row_of_star (all_stars p f))))))))

-- What an accepted reading shows

pub record WasRead (p : Parameters) (r : GrowthRecord) (f : File) (pool : Pool) (given : List ℕ) (n : ℕ) : Type 0 where
  pub recorded : (valid_steps p r ≡ true) × (r.growing ≡ false)
  pub valid : valid_parameters p && valid_growth p r.state ≡ true
  pub lengths : file_fits_lem p f && pool_fits_lem p pool ≡ true
  pub header : table_in given ≡ Rows n
  pub good : good_data given n ≡ true
  pub fits : left (hash_of p r.state) 0 p.pages (stars_read given n) ≡ []
  pub is : read_under p r f pool given
      ≡ record { answer = accepted 0; growth = r.state; file = laid p.places (hash_of p r.state) p.pages (stars_read given n); pool = cleared pool }

pub was_read : (p : Parameters) (r : GrowthRecord) (f : File) (pool : Pool) (given : List ℕ) → (read_under p r f pool given).answer.refusal ≡ 0
    → (n : ℕ) × WasRead p r f pool given n
unfolding read_under read_of read_on read_to spotted
was_read p r f pool given = steps (valid_steps p r) refl r.growing refl
  where
    lens : Bool
    lens = file_fits_lem p f && pool_fits_lem p pool

    H : Hash
    H = hash_of p r.state

    told : Table → After
    told t = read_on p r.state f (cleared pool) given t

    rows : (n : ℕ) → valid_steps p r ≡ true → r.growing ≡ false → unlent p r.state lens ≡ 0 → table_in given ≡ Rows n
        → (t : Bool) → good_data given n ≡ t → (u : Bool) → is_empty (left H 0 p.pages (stars_read given n)) ≡ u
        → (cond t
        (cond u
        (record { answer = accepted 0; growth = r.state; file = laid p.places H p.pages (stars_read given n); pool = cleared pool })
        (unchanged r.state f (cleared pool) (refused 8 0)))
        (unchanged r.state f (cleared pool) (refused 11 0))).answer.refusal ≡ 0
        → (n : ℕ) × WasRead p r f pool given n
    rows n es eg ef eh false et u eu e = absurd (omega arith)
    rows n es eg ef eh true et false eu e = absurd (omega arith)
    rows n es eg ef eh true et true eu e =
        let lent = unlent-facts p r.state lens ef in (
          n,
          record {
            recorded = (es, eg);
            valid = lent.0;
            lengths = lent.1;
            header = eh;
            good = et;
            fits = is-empty (left H 0 p.pages (stars_read given n)) eu;
            is = rw (es, eg, ef, eh, et, eu);
          },
        )

    table : (t : Table) → table_in given ≡ t → valid_steps p r ≡ true → r.growing ≡ false → unlent p r.state lens ≡ 0 → (told t).answer.refusal ≡ 0
        → (n : ℕ) × WasRead p r f pool given n
    table Nothing eh es eg ef e = absurd (omega arith)
    table (Rows n) eh es eg ef e = rows n es eg ef eh (good_data given n) refl (is_empty (left H 0 p.pages (stars_read given n))) refl e

    past : (n : ℕ) → unlent p r.state lens ≡ n → valid_steps p r ≡ true → r.growing ≡ false
        → (guarded r.state f pool n (told (table_in given))).answer.refusal ≡ 0 → (n : ℕ) × WasRead p r f pool given n
    past zero ef es eg e = table (table_in given) refl es eg ef e
    past (suc n) ef es eg e = absurd (omega arith)

    still_open : (n : ℕ) → (guarded r.state f pool n (unchanged r.state f (cleared pool) (refused 16 0))).answer.refusal ≡ 0 → ⊥
    still_open zero e = omega arith
    still_open (suc n) e = omega arith

    steps : (t : Bool) → valid_steps p r ≡ t → (u : Bool) → r.growing ≡ u
        → (guarded r.state f pool (unless t 1)
        (cond u
        (guarded r.state f pool (unlent p r.state lens) (unchanged r.state f (cleared pool) (refused 16 0)))
        (guarded r.state f pool (unlent p r.state lens) (told (table_in given))))).answer.refusal ≡ 0
        → (n : ℕ) × WasRead p r f pool given n
    steps false es u eg e = absurd (omega arith)
    steps true es true eg e = absurd (still_open (unlent p r.state lens) e)
    steps true es false eg e = past (unlent p r.state lens) refl es eg e

-- Rows as stars

stars-rows : (rs : List (ℕ × ℕ)) → map row_of_star (map star_of_row rs) ≡ rs
stars-rows [] = refl
stars-rows (x ∷ rs) = ap (λ (l : List (ℕ × ℕ)). x ∷ l) (stars-rows rs)

pub rows-rise : (last : ℕ) (rs : List (ℕ × ℕ)) → RowsUp last rs → Rising (suc last) (map star_of_row rs)
rows-rise last [] u = tt
rows-rise last (x ∷ rs) u = (u.0, rows-rise x.0 rs u.1.1.1)

pub rows-proper : (last : ℕ) (rs : List (ℕ × ℕ)) → RowsUp last rs → Proper valid_word (map star_of_row rs)
unfolding valid_number
rows-proper last [] u s m = absurd (Memᴰ.not-nil m)
rows-proper last (x ∷ rs) u s m =
    ⊎_elim
    (λ (e : s ≡ star_of_row x). subst (λ (t : Star). (1 ≤ t.number) × (t.number ≤ greatest) × (valid_word t.payload.word ≡ true)) (sym e) here)
    (λ (k : Memᴰ s (map star_of_row rs)). rows-proper x.0 rs u.1.1.1 s k)
    (Memᴰ.cases_cons m)
  where
    range : (leb 1 x.0 ≡ true) × (leb x.0 2147483646 ≡ true)
    range = and-true (leb 1 x.0) (leb x.0 2147483646) u.1.0

    here : (1 ≤ x.0) × (x.0 ≤ greatest) × (valid_word x.1 ≡ true)
    here = (leb-true 1 x.0 range.0, leb-true x.0 2147483646 range.1, u.1.1.0)

module _ (p : Parameters) (r : GrowthRecord) (f : File) (pool : Pool) (given : List ℕ) (bytes : (i : ℕ) → get_or given i 0 < 256) (n : ℕ)
    (w : WasRead p r f pool given n) where
  abbrev rows : List (ℕ × ℕ)
  rows = rows_read given 5760 n

  back : (given ≡ table_of (rows_read given 5760 n)) × RowsUp 0 (rows_read given 5760 n)
  unfolding good_data
  back =
      let g = and-true (good_rows 0 given 5760 n) (empties (drop (5760 + 12 * n) given)) w.good in
      table_back given n bytes w.header g.0 g.1

  -- the stars read rise and are valid
  pub read-rising : Rising 0 (stars_read given n)
  read-rising = rising-less 0 1 (stars_read given n) (omega arith) (rows-rise 0 rows back.1)

  pub read-proper : Proper valid_word (stars_read given n)
  read-proper = rows-proper 0 rows back.1

  -- the file read
  abbrev new : File
  new = laid p.places (hash_of p r.state) p.pages (stars_read given n)

  pub read-clean : Clean valid_word (hash_of p r.state) p.pages new
  unfolding hash_of
  read-clean = clean_laid valid_word (hash_of p r.state) p.pages (stars_read given n) read-rising read-proper w.fits

  pub read-sized : Sized p.places p.pages new
  unfolding hash_of
  read-sized = sized-laid valid_word (hash_of p r.state) p.pages (stars_read given n) read-proper

  pub read-stars : all_stars p new ≡ stars_read given n
  unfolding hash_of
  read-stars = gathered-laid valid_word (hash_of p r.state) p.pages (stars_read given n) read-proper 0 read-rising w.fits

  same-table : table_of_file p new ≡ given
  unfolding table_of_file
  same-table = ap (λ (l : List Star). table_of (map row_of_star l)) read-stars ∙ ap table_of (stars-rows rows) ∙ sym back.0

  new-fits : file_fits_lem p new ≡ true
  unfolding file_fits_lem
  new-fits = rw (read-sized.of_separators, read-sized.of_numbers, read-sized.of_words_lem, read-sized.of_owners, eq-eqb p.pages p.pages refl, eq-eqb (p.pages * p.places) (p.pages * p.places) refl)

  written_back : (out : List ℕ) → length given ≤ length out
      → write_under p r new out ≡ record { answer = counted false (length given); output = written 0 given out }
  unfolding write_under write_on
  written_back out h =
      let sound = ((accepts-clean p r.state new read-sized).1 read-clean).0 in
      rw (w.recorded.0, well-lent p r.state (file_fits_lem p new) w.valid new-fits, le-ltb (first_unsound_lem p r.state new 0 p.pages) p.pages (omega (arith, sound)), same-table, le-ltb (length out) (length given) h)

pub write_read : WriteRead
write_read p r f pool given bytes e out h =
    let t = was_read p r f pool given e in
    ap (λ (a : After). write_under p r a.file out) t.1.is ∙ written_back p r f pool given bytes t.0 t.1 out h

-- A file read back

-- the rows of a table are those it was made of
rows_are : (rs : List (ℕ × ℕ)) (last : ℕ) (l rest : List ℕ) (at : ℕ) → drop at l ≡ rows_bytes rs ++ rest → RowsUp last rs → rows_read l at (length rs) ≡ rs
unfolding rows_read rows_bytes
rows_are [] last l rest at e u = refl
rows_are (x ∷ rs) last l rest at e u =
    let here : drop at l ≡ row_bytes x.0 x.1 ++ (rows_bytes rs ++ rest) = e ∙ append_assoc (row_bytes x.0 x.1) (rows_bytes rs) rest in
    let next : drop (at + 12) l ≡ rows_bytes rs ++ rest
    = sym (drop-drop 12 at l) ∙ ap (drop 12) here ∙ drop_at (row_bytes x.0 x.1) (rows_bytes rs ++ rest) 12 (length-row x.0 x.1) in
    let row : row_at last l at ≡ Row-as-Star x.0 x.1
    = row_read l (rows_bytes rs ++ rest) at x.0 x.1 here (number_small x.0 u.1.0) u.1.1.0 last u.0 u.1.0 in
    rw (taken-number last l at x.0 x.1 row, taken_word last l at x.0 x.1 row, rows_are rs x.0 l rest (at + 12) next u.1.1.1)

table_rows_lem : (rs : List (ℕ × ℕ)) → RowsUp 0 rs → rows_read (table_of rs) 5760 (length rs) ≡ rs
unfolding table_of
table_rows_lem rs u =
    rows_are rs 0 (headers (length rs) ++ (rows_bytes rs ++ pad)) pad 5760 (drop_at (headers (length rs)) (rows_bytes rs ++ pad) 5760 (headers-long (length rs))) u
  where
    pad : List ℕ
    pad = replicate (blocks_of (12 * length rs) - 12 * length rs) 0

-- stars of owner 0 are those of their rows
empties-take : (n : ℕ) (l : List ℕ) → empties l ≡ true → empties (take n l) ≡ true
unfolding empties
empties-take zero l e = refl
empties-take (suc n) [] e = refl
empties-take (suc n) (x ∷ l) e = let t = and-true (eqb x 0) (empties l) e in rw t.0 (empties-take n l t.1)

empties-drop : (n : ℕ) (l : List ℕ) → empties l ≡ true → empties (drop n l) ≡ true
unfolding empties
empties-drop zero l e = e
empties-drop (suc n) [] e = refl
empties-drop (suc n) (x ∷ l) e = empties-drop n l (and-true (eqb x 0) (empties l) e).1

unowned : (ns ws os : List ℕ) → empties os ≡ true → (s : Star) → Memᴰ s (stars_of ns ws os) → s.payload.owner ≡ 0
unfolding stars_of empties
unowned [] ws os e s m = absurd (Memᴰ.not-nil m)
unowned (n ∷ ns) [] os e s m = absurd (Memᴰ.not-nil m)
unowned (n ∷ ns) (w ∷ ws) [] e s m = absurd (Memᴰ.not-nil m)
unowned (n ∷ ns) (w ∷ ws) (o ∷ os) e s m = go (not (eqb n 0)) (unowned ns ws os (and-true (eqb o 0) (empties os) e).1 s) m
  where
    go : (t : Bool) → (Memᴰ s (stars_of ns ws os) → s.payload.owner ≡ 0) → Memᴰ s (keep t (star_with n w o) (stars_of ns ws os)) → s.payload.owner ≡ 0
    go false ih m = ih m
    go true ih m =
        ⊎_elim (λ (k : s ≡ star_with n w o). ap (λ (x : Star). x.payload.owner) k ∙ eqb-true o 0 (and-true (eqb o 0) (empties os) e).0) ih (Memᴰ.cases_cons m)

rows-stars : (l : List Star) → ((s : Star) → Memᴰ s l → s.payload.owner ≡ 0) → map star_of_row (map row_of_star l) ≡ l
rows-stars [] h = refl
rows-stars (s ∷ l) h =
    let e : s.payload.owner ≡ 0 = h s (Memᴰ.head refl) in
    ap (λ (o : ℕ). star_with s.number s.payload.word o ∷ map star_of_row (map row_of_star l)) (sym e) ∙ ap (λ (x : List Star). s ∷ x) (rows-stars l (λ t m. h t (Memᴰ.tail m)))

all-unowned : (p : Parameters) (f : File) → empties f.owners ≡ true → (s : Star) → Memᴰ s (all_stars p f) → s.payload.owner ≡ 0
unfolding stars_at part
all-unowned p f e s m =
    let there = gathered-member p.places f 0 p.pages s m in
    unowned (part p.places there.0 f.numbers) (part p.places there.0 f.words) (part p.places there.0 f.owners)
    (empties-take p.places (drop (there.0 * p.places) f.owners) (empties-drop (there.0 * p.places) f.owners e)) s there.3

check_lent : (p : Parameters) (g : Growth) (f : File) (pool : Pool) → (check_of p g f pool).answer.refusal ≡ 0 → file_fits_lem p f && pool_fits_lem p pool ≡ true
unfolding check_of
check_lent p g f pool e =
    let n = guarded-past g f pool (unlent p g (file_fits_lem p f && pool_fits_lem p pool)) _ e in
    (unlent-facts p g (file_fits_lem p f && pool_fits_lem p pool) n).1

-- a clean file's own stars, placed under its own growth state
placed-again : (p : Parameters) (g : Growth) (f second : File) (pool : Pool) → Sized p.places p.pages f → Clean valid_word (hash_of p g) p.pages f
    → read_to p g second pool (all_stars p f) ≡ unchanged g f pool (accepted 0)
unfolding read_to hash_of
placed-again p g f second pool z c =
    let l = clean_list valid_word (hash_of p g) f p.pages z c in
    rw l.2 (ap (λ (x : File). unchanged g x pool (accepted 0)) (sym c.by_rule))

-- a closed record and well-lent buffers leave it to the table
closed-read : (p : Parameters) (g : Growth) (f : File) (pool : Pool) (given : List ℕ) → valid_parameters p && valid_growth p g ≡ true → file_fits_lem p f && pool_fits_lem p pool ≡ true
    → read_under p (closed_record g) f pool given ≡ read_on p g f (cleared pool) given (table_in given)
unfolding read_under read_of valid_steps
closed-read p g f pool given v l = rw (well-lent p g (file_fits_lem p f && pool_fits_lem p pool) v l)

module _ (p : Parameters) (r : GrowthRecord) (f : File) (out : List ℕ) (w : Wrote p r f out) (zeros : f.owners ≡ replicate (length f.owners) 0) where
  own-stars : stars_read (table_of_file p f) (length (map row_of_star (all_stars p f))) ≡ all_stars p f
  unfolding table_of_file
  own-stars =
      ap (map star_of_row) (table_rows_lem (map row_of_star (all_stars p f)) (rows-up p r f out w))
      ∙ rows-stars (all_stars p f) (all-unowned p f (ap empties zeros ∙ empties-zeros (length f.owners)))

pub read-written : ReadWritten
read-written p r f own checked zeros out e second pool fits =
    let w = wrote p r f out e in
    let clean = (check_clean p r.state f own w.valid (check_lent p r.state f own checked) w.fits).0 checked in
    ap (read_under p (closed_record r.state) second pool) (put-table p r f out w)
    ∙ closed-read p r.state second pool (table_of_file p f) w.valid fits
    ∙ taken-on p r.state second (cleared pool) (table_of_file p f) (length (map row_of_star (all_stars p f))) (taken p r f out w)
    ∙ ap (read_to p r.state second (cleared pool)) (own-stars p r f out w zeros)
    ∙ placed-again p r.state f second (cleared pool) (sized p f w.fits) clean
