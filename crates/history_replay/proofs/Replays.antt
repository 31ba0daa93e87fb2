-- What a replay answers and leaves, from the refusal that was met or from the run; and that an accepted one is the model's.
use mathlib.Core.Path.{◌≡◌, refl, sym, ap, ◌∙◌}
use mathlib.Core.Bool.{Bool, true, false}
use mathlib.Core.List.{List, [], append-nil}
use Prim.Native.Nat.{ℕ, zero, suc, ◌-◌}
use native.Mathlib.Omega.{arith}
use lib.ListN.{length}
use Rattle.hashing.specs.declared.Parameters.{Parameters}
use Rattle.hashing.specs.declared.Growth.{Growth}
use Rattle.hashing.specs.Geometry.{ungrown}
use Rattle.hashing.specs.Limits.{valid_parameters}
use Rattle.placement.specs.File.{File}
use Rattle.calls.specs.declared.answers.Refusal.{Refusal}
use Rattle.calls.specs.declared.answers.Refusal.TheVariants.{BadLength}
use Rattle.calls.specs.declared.answers.Placed.{Placed}
use Rattle.calls.specs.declared.answers.Placed.TheVariants.{On, Refused as NotPlaced}
use Rattle.calls.proofs.Numbers.{numbered}
use Rattle.calls.specs.declared.answers.Answer.{Answer}
use Rattle.calls.specs.declared.records.GrowthRecord.{GrowthRecord}
use Rattle.calls.specs.Answers.{Pool, After, Leaves, unpooled, refusal_number, placed, refused_by, spotted}
use Rattle.calls.specs.Calls.{file_fits_lem, unless, or_else, guarded, empty_file_lem, make_of}
use Rattle.history_replay.specs.declared.replaying.Replayed.{Replayed}
use Rattle.history_replay.specs.declared.replaying.Replayed.TheVariants.{Done, BadKind, Refused}
use Rattle.histories.specs.Model.{model_file}
use Rattle.histories.specs.Run.{fresh, initial, end}
use Rattle.history_replay.specs.Replay.{LentHistory, all_kinds, requests_of, even_lengths, even_pool, evenly_lent, unknown_kind, refusal_of_lem, no_second, start_of, history_of, replayed_with, replay_of, resumption_refusal, resumed_with, resume_of, refusal_said, growth_said, Replays, Resumes, EveryReplay}
use Rattle.history_replay.specs.Steps.{Runs}
use Rattle.histories.proofs.Histories.{end-agrees}
use Rattle.histories.proofs.Make.{initial-agrees}
use Rattle.histories.proofs.Elements.{conforming}
use Rattle.histories.proofs.Every.{every-history}
use Rattle.history_replay.proofs.Running.{none_open, same-parameters}

refusal-number : (r : Refusal) → refusal_number r ≡ suc (refusal_number r - 1)
refusal-number r = omega (arith, numbered r)

-- A refused make leaves the file as it was.
make_refuses : (p : Parameters) (f : File) (pool : Pool) (n : ℕ) → (make_of p f pool).answer.refusal ≡ suc n → (make_of p f pool).file ≡ f
unfolding make_of spotted
make_refuses p f pool n e = go (valid_parameters p) (file_fits_lem p f) e
  where
    empty : After
    empty = record { answer = spotted 0 0 0; growth = ungrown; file = empty_file_lem p; pool = pool }

    go : (s t : Bool)
        → (guarded ungrown f pool (or_else (unless s 1) (unless t 2)) empty).answer.refusal ≡ suc n
        → (guarded ungrown f pool (or_else (unless s 1) (unless t 2)) empty).file ≡ f
    go true true e = absurd (omega arith)
    go true false e = refl
    go false t e = refl

module _ (p : Parameters) (f : File) (pool : Pool) (h : LentHistory) (answers : List ℕ) where
  refused-replays : (n : ℕ) → refusal_of_lem p f pool h answers ≡ suc n → (r : Replayed) → refusal_said r ≡ suc n → growth_said r ≡ ungrown
      → Replays (replay_of p f pool h answers) r answers f pool
  unfolding replay_of replayed_with
  refused-replays n e r s g = rw e (record { refusals = s; growths = g; answers_are = refl; files = refl; pools = refl })

  -- lengths that do not agree, in the history or in the pool
  abbrev lengths : Bool
  lengths = even_lengths (length h.kinds) (length h.callers) (length h.stars) (length h.ras) (length h.decs) (length answers)

  abbrev pools : Bool
  pools = even_pool (length f.numbers) (length f.words) (length f.owners) (length pool.numbers) (length pool.words) (length pool.owners)

  pub uneven_history : lengths ≡ false → Replays (replay_of p f pool h answers) (Refused BadLength) answers f pool
  unfolding refusal_of_lem evenly_lent refusal_said growth_said
  uneven_history e = refused-replays 1 (rw e) (Refused BadLength) refl refl

  module _ (even : lengths ≡ true) where
    pub uneven_pool : pools ≡ false → Replays (replay_of p f pool h answers) (Refused BadLength) answers f pool
    unfolding refusal_of_lem evenly_lent refusal_said growth_said
    uneven_pool e = refused-replays 1 (rw (even, e)) (Refused BadLength) refl refl

    module _ (lent : pools ≡ true) where
      pub unknown_kind_lem : all_kinds h.kinds ≡ false → Replays (replay_of p f pool h answers) BadKind answers f pool
      unfolding refusal_of_lem evenly_lent refusal_said growth_said
      unknown_kind_lem e = refused-replays 255 (rw (even, lent, e)) BadKind refl refl

      module _ (known : all_kinds h.kinds ≡ true) (a : Placed) (file : File) (made : Leaves (make_of p f unpooled) (placed a) file unpooled) where
        -- the rest is what make says
        as-made : refusal_of_lem p f pool h answers ≡ (placed a).refusal
        unfolding refusal_of_lem evenly_lent
        as-made = rw (even, lent, known) (sym (ap (λ (x : Answer). x.refusal) made.answers))

        pub make_refused : (r : Refusal) (place : ℕ) → a ≡ NotPlaced r place → Replays (replay_of p f pool h answers) (Refused r) answers file pool
        unfolding placed refused_by spotted refusal_said growth_said
        make_refused r place e =
            let n : (placed a).refusal ≡ suc (refusal_number r - 1) = rw e (refusal-number r) in
            let refusal = sym (ap (λ (x : Answer). x.refusal) made.answers) in
            let same : file ≡ f = made.files ∙ make_refuses p f unpooled (refusal_number r - 1) (refusal ∙ n) in
            rw same (refused-replays (refusal_number r - 1) (as-made ∙ n) (Refused r) (refusal-number r) refl)

        pub make_done : (page place : ℕ) → a ≡ On page place → (growth : Growth) → growth ≡ (make_of p f unpooled).growth
            → (last : Growth) (answers' : List ℕ) (file' : File) (pool' : Pool)
            → Runs (fresh p growth file no_second) pool (requests_of h) [] last answers' file' pool'
            → Replays (replay_of p f pool h answers) (Done last) answers' file' pool'
        unfolding placed spotted replay_of replayed_with initial refusal_said growth_said
        make_done page place e growth g last answers' file' pool' t =
            let n : refusal_of_lem p f pool h answers ≡ 0 = as-made ∙ rw e in
            let u : Runs (start_of p f) pool (requests_of h) [] last answers' file' pool' = rw (g, made.files) at t in
            rw n
            (record {
              refusals = refl;
              growths = ap (λ (r : GrowthRecord). r.state) u.growths;
              answers_are = u.answers_are ∙ append-nil _;
              files = u.files;
              pools = u.pools;
            })

-- The same from a lent file.
module _ (p : Parameters) (g : Growth) (f : File) (pool : Pool) (h : LentHistory) (answers : List ℕ) where
  refused-resumption : (n : ℕ) → resumption_refusal h answers ≡ suc n
      → Resumes (resume_of p g f pool h answers) (record { refusal = suc n; growth = g }) answers f pool
  unfolding resume_of resumed_with
  refused-resumption n e = rw e (record { refusals = refl; growths = refl; answers_are = refl; files = refl; pools = refl })

  abbrev evens : Bool
  evens = even_lengths (length h.kinds) (length h.callers) (length h.stars) (length h.ras) (length h.decs) (length answers)

  pub uneven_resumption : evens ≡ false → Resumes (resume_of p g f pool h answers) (record { refusal = 2; growth = g }) answers f pool
  unfolding resumption_refusal
  uneven_resumption e = refused-resumption 1 (rw e)

  module _ (even : evens ≡ true) where
    pub unknown_resumption : all_kinds h.kinds ≡ false → Resumes (resume_of p g f pool h answers) (record { refusal = unknown_kind; growth = g }) answers f pool
    unfolding resumption_refusal
    unknown_resumption e = refused-resumption 255 (rw (even, e))

    pub resumed : all_kinds h.kinds ≡ true → (last : Growth) (answers' : List ℕ) (file' : File) (pool' : Pool)
        → Runs (fresh p g f no_second) pool (requests_of h) [] last answers' file' pool'
        → Resumes (resume_of p g f pool h answers) (record { refusal = 0; growth = last }) answers' file' pool'
    unfolding resumption_refusal resume_of resumed_with
    resumed known last answers' file' pool' u =
        rw (even, known)
        (record {
          refusals = refl;
          growths = ap (λ (r : GrowthRecord). r.state) u.growths;
          answers_are = u.answers_are ∙ append-nil _;
          files = u.files;
          pools = u.pools;
        })

-- Every accepted replay is of a history from a file that make accepted.
either-none : (m n : ℕ) → or_else m n ≡ 0 → n ≡ 0
either-none zero n e = e
either-none (suc m) n e = absurd (omega arith)

accepted-run : (n : ℕ) (p : Parameters) (f : File) (pool : Pool) (h : LentHistory) (answers : List ℕ)
    → (replayed_with n p f pool h answers).refusal ≡ 0 → n ≡ 0
unfolding replayed_with
accepted-run zero p f pool h answers e = refl
accepted-run (suc n) p f pool h answers e = absurd (omega arith)

pub every-replay : EveryReplay
unfolding replay_of replayed_with refusal_of_lem initial
every-replay p f pool h answers e =
    let n : refusal_of_lem p f pool h answers ≡ 0 = accepted-run (refusal_of_lem p f pool h answers) p f pool h answers e in
    let rest = either-none (unless (evenly_lent f pool h answers) 2) _ n in
    let made : (make_of p f unpooled).answer.refusal ≡ 0 = either-none (unless (all_kinds h.kinds) unknown_kind) _ rest in
    let keeps : (end (start_of p f) (history_of p f pool h)).parameters ≡ p = same-parameters (start_of p f) pool h (length h.kinds) refl in
    let agrees = end-agrees conforming (start_of p f) (initial-agrees p f no_second unpooled made) (history_of p f pool h) in
    record {
      as_model = every-history p f no_second unpooled made (history_of p f pool h);
      file_is = rw n (agrees.file ∙ ap (λ (q : Parameters). model_file q (end (start_of p f) (history_of p f pool h)).model) keeps);
      growth_is = rw n agrees.growth;
      none_open_lem = rw n (none_open (start_of p f) pool h (length h.kinds) refl);
    }
