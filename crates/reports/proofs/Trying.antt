-- What a report leaves, past the filing's own refusals: the pool's zeros, the file's lengths, the file itself where it is refused, and no 1, 2 or 16.
use mathlib.Core.Path.{◌≡◌, refl, ◌∙◌}
use mathlib.Core.Bool.{Bool, true, false, cond, ◌&&◌}
use mathlib.Core.List.{List}
use Prim.Native.Nat.{ℕ, zero, suc, ◌+◌, ◌≤◌, ◌<◌}
use native.Mathlib.Omega.{arith}
use lib.Dec.{eqb, ltb}
use lib.ListN.{length, get_or, set, replicate, length-set, length-replicate}
use borrow.Author.Tests.{eq-eqb}
use Rattle.hashing.specs.declared.Parameters.{Parameters}
use Rattle.hashing.specs.declared.Growth.{Growth}
use Rattle.hashing.specs.Limits.{valid_parameters, valid_growth}
use Rattle.hashing.proofs.Bounds.{both}
use Rattle.pages.specs.declared.position.Position.{Position}
use Rattle.pages.specs.Position.{valid_number, valid_position, packed}
use Rattle.placement.specs.Rule.{Star, pages, without}
use Rattle.placement.specs.File.{File, gathered, replaced}
use Rattle.placement.specs.Shape.{Sized}
use Rattle.placement.specs.Hash.{hash_of}
use Rattle.placement.proofs.Composition.{length-pages}
use Rattle.placement.proofs.Files.{roomy-pages, sized-replaced}
use Rattle.placement.proofs.Probing.{homed-real}
use Rattle.reach.specs.Reach.{pages_to, removal_end, entering, enters_within, entry_end, first_unsound_lem}
use Rattle.reach.proofs.Reaching.{entry-reach, removal_reach_lem}
use Rattle.calls.specs.declared.records.GrowthRecord.{GrowthRecord}
use Rattle.calls.specs.Answers.{Pool, After, zeros, cleared, spotted, accepted_at, refused_at}
use Rattle.calls.specs.Calls.{file_fits_lem, pool_fits_lem, unless, or_else, unlent, guarded, unchanged, readable, named, holds, place_for, item_of, owner_for, may_alter_lem, allowed, enter_to, entered_again_lem, enter_on, entered, enter_of, change_on, change_of, remove_to, remove_on, remove_of}
use Rattle.calls.specs.Records.{valid_steps, enter_under, change_under, remove_under}
use Rattle.calls.proofs.Refusals.{well-lent, sized, unlent-facts}
use Rattle.reports.specs.Reports.{Report, reported_position, is_removal}
use Rattle.reports.specs.TrayCalls.{tray_refusal}
use Rattle.reports.specs.Filing.{removal_filed, position_filed, report_filed}

-- Lengths.

pub sized-fits : (p : Parameters) (f : File) → Sized p.places p.pages f → file_fits_lem p f ≡ true
unfolding file_fits_lem
sized-fits p f z = rw (eq-eqb _ _ z.of_separators, eq-eqb _ _ z.of_numbers, eq-eqb _ _ z.of_words_lem, eq-eqb _ _ z.of_owners)

long : (l : List ℕ) → length (replicate {A = ℕ} (length l) 0) ≡ length l
long l = length-replicate (length l) 0

pub cleared-fits : (p : Parameters) (pool : Pool) → pool_fits_lem p (cleared pool) ≡ pool_fits_lem p pool
unfolding pool_fits_lem cleared zeros
cleared-fits p pool = rw (long pool.numbers, long pool.words, long pool.owners)

pub cleared-twice : (pool : Pool) → cleared (cleared pool) ≡ cleared pool
unfolding cleared zeros
cleared-twice pool = rw (long pool.numbers, long pool.words, long pool.owners)

-- what a filing has past its own refusals, its pool cleared
pub record Begun (p : Parameters) (r : GrowthRecord) (f : File) (pool : Pool) : Type 0 where
  pub steps : valid_steps p r ≡ true
  pub closed : r.growing ≡ false
  pub state : valid_parameters p && valid_growth p r.state ≡ true
  pub file : file_fits_lem p f ≡ true
  pub pooled : pool_fits_lem p pool ≡ true
  pub clear : cleared pool ≡ pool

pub begun : (p : Parameters) (r : GrowthRecord) (f : File) (pool : Pool) (t : Bool) → tray_refusal p r (file_fits_lem p f && (pool_fits_lem p pool && t)) ≡ 0 → r.growing ≡ false → Begun p r f (cleared pool)
unfolding tray_refusal
begun p r f pool t e shut = go (valid_steps p r) refl e
  where
    go : (y : Bool) → valid_steps p r ≡ y → or_else (unless y 1) (unlent p r.state (file_fits_lem p f && (pool_fits_lem p pool && t))) ≡ 0 → Begun p r f (cleared pool)
    go true s e =
        let h = unlent-facts p r.state (file_fits_lem p f && (pool_fits_lem p pool && t)) e in
        let l = both (file_fits_lem p f) (pool_fits_lem p pool && t) h.1 in
        record {
          steps = s;
          closed = shut;
          state = h.0;
          file = l.0;
          pooled = cleared-fits p pool ∙ (both (pool_fits_lem p pool) t l.1).0;
          clear = cleared-twice pool;
        }
    go false s e = absurd (omega arith)

-- the same with the file that a report left
pub goes_on : (p : Parameters) (r : GrowthRecord) (f : File) (pool : Pool) (h : File) → Begun p r f pool → file_fits_lem p h ≡ true → Begun p r h pool
goes_on p r f pool h t e = record { steps = t.steps; closed = t.closed; state = t.state; file = e; pooled = t.pooled; clear = t.clear }

-- none of the refusals that a filing meets before its reports
pub record NotOwn (n : ℕ) : Type 0 where
  pub parameters : n ≡ 1 → ⊥
  pub lengths : n ≡ 2 → ⊥
  pub turn : n ≡ 16 → ⊥

pub not_own-0 : NotOwn 0
not_own-0 = record { parameters = λ e. omega arith; lengths = λ e. omega arith; turn = λ e. omega arith }

not_own : (n : ℕ) → 3 ≤ n → n ≤ 15 → NotOwn n
not_own n l h = record { parameters = λ e. omega arith; lengths = λ e. omega arith; turn = λ e. omega arith }

-- what a report leaves of growth state, file and pool
pub record Tried (p : Parameters) (g : Growth) (f : File) (pool : Pool) (a : After) : Type 0 where
  pub growth : a.growth ≡ g
  pub fits : file_fits_lem p a.file ≡ true
  pub pools : a.pool ≡ pool
  -- where it is refused
  pub kept : (a.answer.refusal ≡ 0 → ⊥) → a.file ≡ f
  pub number : NotOwn a.answer.refusal

module _ (p : Parameters) (g : Growth) (f : File) (pool : Pool) (state : valid_parameters p && valid_growth p g ≡ true) (file : file_fits_lem p f ≡ true) where
  either : (t : Bool) (a b : After) → (t ≡ true → Tried p g f pool a) → (t ≡ false → Tried p g f pool b) → Tried p g f pool (cond t a b)
  either true a b h k = h refl
  either false a b h k = k refl

  stays : (n page place : ℕ) → NotOwn n → Tried p g f pool (unchanged g f pool (spotted n page place))
  unfolding spotted
  stays n page place own = record { growth = refl; fits = file; pools = refl; kept = λ _. refl; number = own }

  puts : (h : File) (page place : ℕ) → file_fits_lem p h ≡ true → Tried p g f pool (record { answer = accepted_at page place; growth = g; file = h; pool = pool })
  unfolding spotted
  puts h page place e = record { growth = refl; fits = e; pools = refl; kept = λ n. absurd (n refl); number = not_own-0 }

  past : (n : ℕ) (a : After) → NotOwn n → (n ≡ 0 → Tried p g f pool a) → Tried p g f pool (guarded g f pool n a)
  past zero a own h = h refl
  past (suc n) a own h = stays (suc n) 0 0 own

  -- the rule's pages, written inside the file
  lays : (from n : ℕ) (w : List Star) → from + n ≤ p.pages → file_fits_lem p (replaced p.places f from (pages (hash_of p g) from n w)) ≡ true
  unfolding hash_of
  lays from n w inside =
      sized-fits p _
      (sized-replaced p.places p.pages f from (pages (hash_of p g) from n w) (sized p f file) (roomy-pages (hash_of p g) from n w)
      (omega (arith, length-pages (hash_of p g) from n w)))

  home : (k : ℕ) → (hash_of p g).home k < p.pages
  home k = homed-real p g (both (valid_parameters p) (valid_growth p g) state).0 (both (valid_parameters p) (valid_growth p g) state).1 k

  entry-tried : (s : Star) (place : ℕ) → Tried p g f pool (enter_to p g f pool s place (entry_end (hash_of p g) p.pages f s))
  unfolding enter_to
  entry-tried s place =
      either (ltb (first_unsound_lem p g f from n) (from + n)) _ _
      (λ _. stays 5 (first_unsound_lem p g f from n) place (not_own 5 (omega arith) (omega arith)))
      (λ _.
      either (enters_within (hash_of p g) f s to) _ _
      (λ _. puts _ _ place (lays from n (entering (hash_of p g) f s to) (entry-reach (hash_of p g) p.pages f s (home s.number)).high))
      (λ _. stays 8 0 place (not_own 8 (omega arith) (omega arith))))
    where
      to : ℕ
      to = entry_end (hash_of p g) p.pages f s

      from : ℕ
      from = (hash_of p g).home s.number

      n : ℕ
      n = pages_to from to

  removal-tried : (page k place : ℕ) → Tried p g f pool (remove_to p g f pool page k place (removal_end (hash_of p g) p.pages f ((hash_of p g).home k)))
  unfolding remove_to
  removal-tried page k place =
      either (ltb (first_unsound_lem p g f from n) (from + n)) _ _
      (λ _. stays 5 (first_unsound_lem p g f from n) place (not_own 5 (omega arith) (omega arith)))
      (λ _. puts _ page place (lays from n (without k (gathered p.places f from n)) (removal_reach_lem (hash_of p g) p.pages f from (home k)).high))
    where
      from : ℕ
      from = (hash_of p g).home k

      n : ℕ
      n = pages_to from (removal_end (hash_of p g) p.pages f from)

  again-tried : (page : ℕ) (s : Star) → Tried p g f pool (unchanged g f pool (entered_again_lem p f page s))
  unfolding entered_again_lem
  again-tried page s = go (eqb (get_or f.words (item_of p f page s.number) 0) s.payload.word)
    where
      go : (y : Bool) → Tried p g f pool (unchanged g f pool (cond y (accepted_at page (place_for p f page s.number)) (refused_at 6 0 (place_for p f page s.number))))
      go true = stays 0 page (place_for p f page s.number) not_own-0
      go false = stays 6 0 (place_for p f page s.number) (not_own 6 (omega arith) (omega arith))

  -- the named page: 5, or what else the call does
  read : (page : ℕ) (a : After) → Tried p g f pool a → Tried p g f pool (cond (readable p g f page) a (unchanged g f pool (spotted 5 page 0)))
  read page a h = either (readable p g f page) _ _ (λ _. h) (λ _. stays 5 page 0 (not_own 5 (omega arith) (omega arith)))

  allows : (page caller k : ℕ) (a : After) → Tried p g f pool a → Tried p g f pool (allowed p g f pool page caller k a)
  unfolding allowed
  allows page caller k a h =
      either (may_alter_lem caller (owner_for p f page k)) _ _ (λ _. h) (λ _. stays 13 0 (place_for p f page k) (not_own 13 (omega arith) (omega arith)))

  -- a star not held is 7
  unheld : (page k : ℕ) (a : After) → Tried p g f pool a → Tried p g f pool (cond (holds p f page k) a (unchanged g f pool (refused_at 7 0 (place_for p f page k))))
  unheld page k a h = either (holds p f page k) _ _ (λ _. h) (λ _. stays 7 0 (place_for p f page k) (not_own 7 (omega arith) (omega arith)))

  word_fits : (item word : ℕ) → file_fits_lem p (record { separators = f.separators; numbers = f.numbers; words = set f.words item word; owners = f.owners }) ≡ true
  word_fits item word =
      let z = sized p f file in
      sized-fits p _ (record { of_separators = z.of_separators; of_numbers = z.of_numbers; of_words_lem = length-set f.words item word ∙ z.of_words_lem; of_owners = z.of_owners })

  number-valid : (s : Bool) → NotOwn (unless s 3)
  number-valid true = not_own-0
  number-valid false = not_own 3 (omega arith) (omega arith)

  numbered : (s t : Bool) → NotOwn (or_else (unless s 3) (unless t 4))
  numbered true true = not_own-0
  numbered true false = not_own 4 (omega arith) (omega arith)
  numbered false t = not_own 3 (omega arith) (omega arith)

  pub change_tried : (caller k : ℕ) (q : Position) → Tried p g f pool (change_of p g f pool caller k q)
  unfolding change_of change_on
  change_tried caller k q =
      rw (well-lent p g (file_fits_lem p f) state file)
      (past (or_else (unless (valid_number k) 3) (unless (valid_position q) 4)) (change_on p g f pool page caller k (packed q)) (numbered (valid_number k) (valid_position q))
      (λ _.
      read page _ (unheld page k _ (allows page caller k _ (puts _ page (place_for p f page k) (word_fits (item_of p f page k) (packed q)))))))
    where
      page : ℕ
      page = named p g f k

  module _ (fit : pool_fits_lem p pool ≡ true) (clear : cleared pool ≡ pool) where
    lent : file_fits_lem p f && pool_fits_lem p pool ≡ true
    lent = rw (file, fit)

    pub enter_tried : (caller k : ℕ) (q : Position) → Tried p g f pool (enter_of p g f pool caller k q)
    unfolding enter_of enter_on
    enter_tried caller k q =
        rw (well-lent p g (file_fits_lem p f && pool_fits_lem p pool) state lent, clear)
        (past (or_else (unless (valid_number k) 3) (unless (valid_position q) 4)) (enter_on p g f pool page (entered caller k q)) (numbered (valid_number k) (valid_position q))
        (λ _.
        read page _
        (either (holds p f page k) _ _ (λ _. again-tried page (entered caller k q)) (λ _. entry-tried (entered caller k q) (place_for p f page k)))))
      where
        page : ℕ
        page = named p g f k

    pub remove_tried : (caller k : ℕ) → Tried p g f pool (remove_of p g f pool caller k)
    unfolding remove_of remove_on
    remove_tried caller k =
        rw (well-lent p g (file_fits_lem p f && pool_fits_lem p pool) state lent, clear)
        (past (unless (valid_number k) 3) (remove_on p g f pool page caller k) (number-valid (valid_number k))
        (λ _. read page _ (unheld page k _ (allows page caller k _ (removal-tried page k (place_for p f page k))))))
      where
        page : ℕ
        page = named p g f k

-- The report's call, and the report.
module _ (p : Parameters) (r : GrowthRecord) (f : File) (pool : Pool) (t : Begun p r f pool) where
  pub entered-tried : (caller k : ℕ) (q : Position) → Tried p r.state f pool (enter_under p r f pool caller k q)
  unfolding enter_under
  entered-tried caller k q = rw (t.steps, t.closed) (enter_tried p r.state f pool t.state t.file t.pooled t.clear caller k q)

  pub changed-tried : (caller k : ℕ) (q : Position) → Tried p r.state f pool (change_under p r f pool caller k q)
  unfolding change_under
  changed-tried caller k q = rw (t.steps, t.closed) (change_tried p r.state f pool t.state t.file caller k q)

  pub removed-tried : (caller k : ℕ) → Tried p r.state f pool (remove_under p r f pool caller k)
  unfolding remove_under
  removed-tried caller k = rw (t.steps, t.closed) (remove_tried p r.state f pool t.state t.file t.pooled t.clear caller k)

  pub report-tried : (x : Report) → Tried p r.state f pool (report_filed p r f pool x)
  unfolding report_filed removal_filed position_filed
  report-tried x =
      either p r.state f pool t.state t.file (is_removal x) _ _
      (λ _.
      either p r.state f pool t.state t.file (eqb (remove_under p r f pool x.owner x.number).answer.refusal 7) _ _
      (λ _. stays p r.state f pool t.state t.file 0 0 0 not_own-0)
      (λ _. removed-tried x.owner x.number))
      (λ _.
      either p r.state f pool t.state t.file (eqb (change_under p r f pool x.owner x.number (reported_position x)).answer.refusal 7) _ _
      (λ _. entered-tried x.owner x.number (reported_position x))
      (λ _. changed-tried x.owner x.number (reported_position x)))
