-- One step of a replay: each kind's call, at the pool lent to all of them.
use mathlib.Core.Path.{◌≡◌, refl, sym, ap, ◌∙◌}
use mathlib.Core.Bool.{Bool, true, false, cond, ◌&&◌}
use mathlib.Core.List.{List, [], ◌∷◌}
use Prim.Native.Nat.{ℕ, zero, suc, ◌+◌, ◌-◌}
use lib.Dec.{eqb, ltb}
use lib.ListN.{length}
use lib.Seq.{paste}
use borrow.Author.Tests.{ne_eqb, eqb-true}
use Rattle.placement.specs.Hash.{hash_of}
use Rattle.hashing.specs.declared.Parameters.{Parameters}
use Rattle.hashing.specs.declared.Growth.{Growth}
use Rattle.pages.specs.declared.position.Position.{Position}
use Rattle.pages.specs.Position.{valid_number, valid_position, packed}
use Rattle.placement.specs.Rule.{Star, star_with}
use Rattle.placement.specs.File.{File}
use Rattle.reach.specs.Reach.{pages_to, entry_end, removal_end, enters_within, first_unsound_lem, is_empty}
use Rattle.reach.specs.Cascade.{cascaded, carried_past}
use Rattle.calls.specs.declared.answers.Answer.{Answer}
use Rattle.calls.specs.Answers.{Pool, After, Leaves, unpooled}
use Rattle.calls.specs.Calls.{file_fits_lem, pool_fits_lem, unless, or_else, unlent, unchanged, guarded, readable, named, holds, owner_for, may_alter_lem, allowed, looked_up, look_up_of, enter_to, enter_on, enter_of, cascade_from, cascade_on, cascade_of, change_on, change_of, remove_to, remove_on, remove_of, grow_of, shrink_of, due_of, check_of}
use Rattle.calls.specs.declared.records.GrowthRecord.{GrowthRecord}
use Rattle.calls.specs.Records.{
  valid_steps,
  closed_record,
  look_up_under,
  enter_under,
  cascade_under,
  change_under,
  remove_under,
  grow_under,
  shrink_under,
  due_under,
  check_under,
  record_after,
}
use Rattle.history_replay.specs.declared.calling.Stepped.{Stepped}
use Rattle.history_replay.specs.Replay.{request_of, encoded}
use Rattle.history_replay.specs.Steps.{call_at, pooled_request, whole_request, entry_request, Steps, Recorded}

-- A call that only answers leaves every pool as it was.
only_answers : (g : Growth) (f : File) (pool : Pool) (n : ℕ) (a : Answer)
    → guarded g f pool n (unchanged g f pool a)
    ≡ unchanged g f pool (guarded g f unpooled n (unchanged g f unpooled a)).answer
only_answers g f pool zero a = refl
only_answers g f pool (suc n) a = refl

-- after a call that was lent no pool, at the growth state g
abbrev over : Growth → Pool → After → After
over g pool a = record { answer = a.answer; growth = g; file = a.file; pool = pool }

guarded-over : (g : Growth) (f : File) (pool : Pool) (n : ℕ) (a b : After) → a ≡ over g pool b
    → guarded g f pool n a ≡ over g pool (guarded g f unpooled n b)
guarded-over g f pool zero a b e = e
guarded-over g f pool (suc n) a b e = refl

cases_over : (g : Growth) (f h : File) (pool : Pool) (t u v : Bool) (w x y z : Answer)
    → cond t (cond u (cond v (record { answer = w; growth = g; file = h; pool = pool }) (unchanged g f pool x)) (unchanged g f pool y)) (unchanged g f pool z)
    ≡ over g pool
    (cond t (cond u (cond v (record { answer = w; growth = g; file = h; pool = unpooled }) (unchanged g f unpooled x)) (unchanged g f unpooled y)) (unchanged g f unpooled z))
cases_over g f h pool true true true w x y z = refl
cases_over g f h pool true true false w x y z = refl
cases_over g f h pool true false v w x y z = refl
cases_over g f h pool false u v w x y z = refl

-- A call that does not grow keeps the growth state.
guarded-growth : (g : Growth) (f : File) (pool : Pool) (n : ℕ) (a : After) → a.growth ≡ g → (guarded g f pool n a).growth ≡ g
guarded-growth g f pool zero a e = e
guarded-growth g f pool (suc n) a e = refl

cond-growth : (t : Bool) (a b : After) (g : Growth) → a.growth ≡ g → b.growth ≡ g → (cond t a b).growth ≡ g
cond-growth true a b g ea eb = ea
cond-growth false a b g ea eb = eb

module _ (p : Parameters) (g : Growth) (f : File) (pool : Pool) where
  look-up-over : (k : ℕ) → look_up_of p g f pool k ≡ unchanged g f pool (look_up_of p g f unpooled k).answer
  unfolding look_up_of
  look-up-over k = only_answers g f pool (or_else (unlent p g (file_fits_lem p f)) (unless (valid_number k) 3)) (looked_up p g f (named p g f k) k)

  due-over : due_of p g f pool ≡ unchanged g f pool (due_of p g f unpooled).answer
  unfolding due_of
  due-over = only_answers g f pool (unlent p g (file_fits_lem p f)) _

  pub change_over : (caller k : ℕ) (q : Position) → change_of p g f pool caller k q ≡ over g pool (change_of p g f unpooled caller k q)
  unfolding change_of change_on allowed
  change_over caller k q =
      guarded-over g f pool (or_else (unlent p g (file_fits_lem p f)) (or_else (unless (valid_number k) 3) (unless (valid_position q) 4))) _ _
      (cases_over g f _ pool (readable p g f (named p g f k)) (holds p f (named p g f k) k) (may_alter_lem caller (owner_for p f (named p g f k) k)) _ _ _ _)

  enter-growth : (caller k : ℕ) (q : Position) → (enter_of p g f pool caller k q).growth ≡ g
  unfolding enter_of enter_on enter_to
  enter-growth caller k q =
      let s : Star = star_with k (packed q) caller in
      let from = (hash_of p g).home k in
      let to = entry_end (hash_of p g) p.pages f s in
      guarded-growth g f pool
      (or_else (unlent p g (file_fits_lem p f && pool_fits_lem p pool)) (or_else (unless (valid_number k) 3) (unless (valid_position q) 4))) _
      (cond-growth (readable p g f (named p g f k)) _ _ g
      (cond-growth (holds p f (named p g f k) k) _ _ g refl
      (cond-growth (ltb (first_unsound_lem p g f from (pages_to from to)) (from + pages_to from to)) _ _ g refl
      (cond-growth (enters_within (hash_of p g) f s to) _ _ g refl refl)))
      refl)

  cascade-growth : (caller k : ℕ) (q : Position) → (cascade_of p g f pool caller k q).growth ≡ g
  unfolding cascade_of cascade_on cascade_from
  cascade-growth caller k q =
      let H = hash_of p g in
      let page = named p g f k in
      let n = p.pages - page in
      let s : Star = star_with k (packed q) caller in
      let visited = length (cascaded H f page n (s ∷ [])) in
      guarded-growth g f pool
      (or_else (unlent p g (file_fits_lem p f && pool_fits_lem p pool)) (or_else (unless (valid_number k) 3) (unless (valid_position q) 4))) _
      (cond-growth (readable p g f page) _ _ g
      (cond-growth (holds p f page k) _ _ g refl
      (cond-growth (ltb (first_unsound_lem p g f page visited) (page + visited)) _ _ g refl
      (cond-growth (is_empty (carried_past H f page n (s ∷ []))) _ _ g refl refl)))
      refl)

  remove-growth : (caller k : ℕ) → (remove_of p g f pool caller k).growth ≡ g
  unfolding remove_of remove_on remove_to allowed
  remove-growth caller k =
      let from = (hash_of p g).home k in
      let to = removal_end (hash_of p g) p.pages f from in
      guarded-growth g f pool (or_else (unlent p g (file_fits_lem p f && pool_fits_lem p pool)) (unless (valid_number k) 3)) _
      (cond-growth (readable p g f (named p g f k)) _ _ g
      (cond-growth (holds p f (named p g f k) k) _ _ g
      (cond-growth (may_alter_lem caller (owner_for p f (named p g f k) k)) _ _ g
      (cond-growth (ltb (first_unsound_lem p g f from (pages_to from to)) (from + pages_to from to)) _ _ g refl refl)
      refl)
      refl)
      refl)

  check-growth : (check_of p g f pool).growth ≡ g
  unfolding check_of
  check-growth = guarded-growth g f pool (unlent p g (file_fits_lem p f && pool_fits_lem p pool)) _ refl

  -- The step of each kind, from what its call ensures.
  module _ (kind caller k : ℕ) (q : Position) (a : Answer) where
    pub look_up_steps : kind ≡ 0 → a ≡ (look_up_under p (closed_record g) f unpooled k).answer
        → Steps (call_at p g f pool (request_of kind caller k q)) (record { answer = a; growth = g }) f pool
    unfolding call_at request_of look_up_under valid_steps
    look_up_steps e h = rw (e, look-up-over k) (record { answers = h; growths = refl; files = refl; pools = refl })

    pub due_steps : kind ≡ 5 → a ≡ (due_under p (closed_record g) f unpooled).answer
        → Steps (call_at p g f pool (request_of kind caller k q)) (record { answer = a; growth = g }) f pool
    unfolding call_at request_of due_under valid_steps
    due_steps e h = rw (e, due-over) (record { answers = h; growths = refl; files = refl; pools = refl })

    module _ (said-so : Answer) (h : a ≡ said-so) where
      pub change_steps : (file : File) → kind ≡ 2 → Leaves (change_under p (closed_record g) f unpooled caller k q) said-so file unpooled
          → Steps (call_at p g f pool (request_of kind caller k q)) (record { answer = a; growth = g }) file pool
      unfolding call_at request_of change_under valid_steps
      change_steps file e l = rw (e, change_over caller k q) (record { answers = h ∙ l.answers; growths = refl; files = l.files; pools = refl })

      pub enter_steps : (file : File) (left : Pool) → (kind ≡ 8 → ⊥) → Leaves (enter_under p (closed_record g) f pool caller k q) said-so file left
          → Steps (call_at p g f pool (entry_request kind caller k q)) (record { answer = a; growth = g }) file left
      unfolding call_at entry_request enter_under valid_steps
      enter_steps file left e l =
          rw (ne_eqb _ _ e) (record { answers = h ∙ l.answers; growths = sym (enter-growth caller k q); files = l.files; pools = l.pools })

      pub cascade-steps : (file : File) (left : Pool) → kind ≡ 8 → Leaves (cascade_under p (closed_record g) f pool caller k q) said-so file left
          → Steps (call_at p g f pool (entry_request kind caller k q)) (record { answer = a; growth = g }) file left
      unfolding call_at entry_request cascade_under valid_steps
      cascade-steps file left e l = rw e (record { answers = h ∙ l.answers; growths = sym (cascade-growth caller k q); files = l.files; pools = l.pools })

      pub remove_steps : (file : File) (left : Pool) → kind ≡ 3 → Leaves (remove_under p (closed_record g) f pool caller k) said-so file left
          → Steps (call_at p g f pool (pooled_request kind caller k q)) (record { answer = a; growth = g }) file left
      unfolding call_at pooled_request remove_under valid_steps
      remove_steps file left e l = rw e (record { answers = h ∙ l.answers; growths = sym (remove-growth caller k); files = l.files; pools = l.pools })

  -- The kinds left over, by the requests of those that are lent the pool.
  module _ (kind caller k : ℕ) (q : Position) (r : Stepped) (file : File) (left : Pool) where
    pub pooled-steps : (kind ≡ 0 → ⊥) → (kind ≡ 2 → ⊥) → (kind ≡ 5 → ⊥)
        → Steps (call_at p g f pool (pooled_request kind caller k q)) r file left → Steps (call_at p g f pool (request_of kind caller k q)) r file left
    unfolding request_of pooled_request whole_request
    pooled-steps e0 e2 e5 s = rw (ne_eqb _ _ e0, ne_eqb _ _ e2, ne_eqb _ _ e5) s

    -- either entry
    module _ (s : Steps (call_at p g f pool (entry_request kind caller k q)) r file left) where
      pub entered-steps : kind ≡ 1 → Steps (call_at p g f pool (pooled_request kind caller k q)) r file left
      unfolding entry_request pooled_request
      entered-steps e = rw e (rw e at s)

      pub cascaded-steps : eqb kind 8 ≡ true → Steps (call_at p g f pool (pooled_request kind caller k q)) r file left
      unfolding entry_request pooled_request
      cascaded-steps e = let eight : kind ≡ 8 = eqb-true kind 8 e in rw eight (rw eight at s)

    pub whole-steps : (kind ≡ 1 → ⊥) → eqb kind 8 ≡ false → (kind ≡ 3 → ⊥)
        → Steps (call_at p g f pool (whole_request kind)) r file left → Steps (call_at p g f pool (pooled_request kind caller k q)) r file left
    unfolding pooled_request
    whole-steps e1 e8 e3 s = rw (ne_eqb _ _ e1, e8, ne_eqb _ _ e3) s

  -- a call that may move the growth state
  module _ (kind : ℕ) (a said-so : Answer) (h : a ≡ said-so) (file : File) (left : Pool) where
    moving-steps : (after : After) → call_at p g f pool (whole_request kind) ≡ after → (next : Growth) → next ≡ after.growth
        → Leaves after said-so file left
        → Steps (call_at p g f pool (whole_request kind)) (record { answer = a; growth = next }) file left
    moving-steps after e next n l = rw e (record { answers = h ∙ l.answers; growths = n; files = l.files; pools = l.pools })

    pub grow_steps : kind ≡ 4 → (next : GrowthRecord) → next ≡ record_after (closed_record g) (grow_under p (closed_record g) f pool)
        → Leaves (grow_under p (closed_record g) f pool) said-so file left
        → Steps (call_at p g f pool (whole_request kind)) (record { answer = a; growth = next.state }) file left
    unfolding call_at whole_request grow_under valid_steps
    grow_steps e next n = moving-steps (grow_of p g f pool) (rw e) next.state (ap (λ (r : GrowthRecord). r.state) n)

    pub shrink_steps : kind ≡ 7 → (next : GrowthRecord) → next ≡ record_after (closed_record g) (shrink_under p (closed_record g) f pool)
        → Leaves (shrink_under p (closed_record g) f pool) said-so file left
        → Steps (call_at p g f pool (whole_request kind)) (record { answer = a; growth = next.state }) file left
    unfolding call_at whole_request shrink_under valid_steps
    shrink_steps e next n = moving-steps (shrink_of p g f pool) (rw e) next.state (ap (λ (r : GrowthRecord). r.state) n)

    pub check_steps : (kind ≡ 4 → ⊥) → (kind ≡ 7 → ⊥) → Leaves (check_under p (closed_record g) f pool) said-so file left
        → Steps (call_at p g f pool (whole_request kind)) (record { answer = a; growth = g }) file left
    unfolding call_at whole_request check_under valid_steps
    check_steps e4 e7 = moving-steps (check_of p g f pool) (rw (ne_eqb _ _ e4, ne_eqb _ _ e7)) g (sym check-growth)

-- the answers of a step, recorded
pub recorded : (after : After) (r : Stepped) (file : File) (pool : Pool) (before answers : List ℕ) (at : ℕ)
    → Steps after r file pool → answers ≡ paste before at (encoded r.answer) 8
    → Recorded after before at r.growth answers file pool
recorded after r file pool before answers at s w =
    record {
      answers_are = w ∙ ap (λ (a : Answer). paste before at (encoded a) 8) s.answers;
      growths = s.growths;
      files = s.files;
      pools = s.pools;
    }
