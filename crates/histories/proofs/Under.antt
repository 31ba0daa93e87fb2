-- The calls under a growth record, at rest and while a growth is open, from the laws of the calls under its growth state.
use mathlib.Core.Path.{◌≡◌, refl, sym, ap, ◌∙◌, subst}
use mathlib.Core.Bool.{Bool, true, false, cond, ◌&&◌, true≢false}
use mathlib.Core.List.{List, [], ◌∷◌}
use Prim.Native.Nat.{ℕ, suc, ◌-◌, ◌<◌}
use native.Mathlib.Omega.{arith}
use lib.Dec.{eqb}
use borrow.Author.Tests.{lt-ltb, eqb-true, eqb-false}
use Rattle.hashing.specs.declared.Parameters.{Parameters}
use Rattle.hashing.specs.declared.Growth.{Growth}
use Rattle.hashing.specs.Geometry.{page_count, highest, grown}
use Rattle.placement.specs.Rule.{Star}
use Rattle.placement.specs.File.{File, pages_at, replaced}
use Rattle.calls.specs.declared.answers.Answer.{Answer}
use Rattle.calls.specs.declared.records.GrowthRecord.{GrowthRecord}
use Rattle.calls.specs.Answers.{Pool, After, spotted, unpooled, accepted, refused, cleared}
use Rattle.calls.specs.Calls.{file_fits_lem, pool_fits_lem, unless, guarded, unchanged, empty_file_lem, grow_on}
use Rattle.calls.specs.Records.{
  valid_steps,
  closed_record,
  open_record,
  look_up_under,
  enter_under,
  cascade_under,
  change_under,
  remove_under,
  grow_under,
  shrink_under,
  due_under,
  check_under,
  AfterStep,
  not_stepped,
  guarded_step,
  step_refusal,
  open_on,
  open_under,
  with_page,
  step_on,
  step_under,
}
use Rattle.histories.specs.Model.{Model, Request, look_up_lem, enter, cascade, change, remove, grow, shrink, due, check, open_growth_lem, step_growth_lem, updated, fed, model_file, unfinished_file}
use Rattle.histories.specs.Call.{is_accepted, finishes, counts_as, keeping_pool, on_file, on_opening, on_step, step}
use Rattle.histories.proofs.Fitting.{Fitting}
use Rattle.histories.proofs.Guards.{lent, lent-pool}
use Rattle.histories.proofs.Conforms.{Conforms, fed_with, fed-refused, refused-conforms}
use Rattle.histories.proofs.Matching.{Unfinished, Matches, ConformsUnder}
use Rattle.histories.proofs.LookUp.{look_up_conforms}
use Rattle.histories.proofs.Enter.{enter_conforms}
use Rattle.histories.proofs.Cascade.{cascade-conforms}
use Rattle.histories.proofs.Change.{change_conforms}
use Rattle.histories.proofs.Remove.{remove_conforms}
use Rattle.histories.proofs.Grow.{regrown, carried, moved, stayed, moved_if, regrows, regrown-fits, more-pages, next-valid, grow_conforms, shrink_conforms}
use Rattle.histories.proofs.Due.{due_conforms}
use Rattle.histories.proofs.Check.{check_conforms}
use Rattle.histories.proofs.Unfinished.{none_done, one_more, all_done, unfinished_fits}

-- Valid records.
closed-valid : (p : Parameters) (g : Growth) → valid_steps p (closed_record g) ≡ true
unfolding valid_steps
closed-valid p g = refl

opened-valid : (p : Parameters) (g : Growth) (j : ℕ) → j < p.pages → valid_steps p (open_record g j) ≡ true
unfolding valid_steps
opened-valid p g j h = lt-ltb j p.pages h

-- requests that the model makes nothing of
quiet : (p : Parameters) (q : Request) (m : Model) → updated p q m ≡ m → (b : Bool) → fed p q b m ≡ m
unfolding fed
quiet p q m e true = e
quiet p q m e false = refl

module _ (p : Parameters) (m : Model) (t : Fitting p m) (second : File) where
  abbrev g : Growth
  g = m.growth

  abbrev f : File
  f = model_file p m

  -- the growth, where there is a further page or not, and where stars are carried past the last one or not
  abbrev grew : Pool → Bool → List Star → After
  grew pool none l = cond none (stayed p m pool 8) (moved_if p m pool (grown p g) (page_count p g) l)

  grows : (pool : Pool) → grow_on p g f pool ≡ grew pool (eqb (highest p g) (p.pages - 1)) (carried p m (grown p g))
  grows pool = rw (regrows p m t pool (grown p g) (page_count p g))

  keeping : (q : Request) (pool : Pool) (a : After) → Conforms p m q a → Conforms p m q (keeping_pool pool a)
  keeping q pool a c = record { growth = c.growth; file = c.file; fitting = c.fitting; undamaged = c.undamaged; found = c.found }

  -- With no growth open a call on the file is the call under the growth state.
  at_rest : (q : Request) (a : After) → Conforms p m q a → ConformsUnder p m (closed_record g) q (on_file p (closed_record g) second a)
  unfolding finishes counts_as
  at_rest q a c =
      record {
        matches = record { growth = c.growth; file = c.file; fitting = c.fitting; steps = closed-valid p a.growth; unfinished = λ e. absurd (true≢false (sym e)) };
        undamaged = c.undamaged;
        found = c.found;
      }

  rest-refused : (q : Request) (pool : Pool) (a : Answer) → (a.refusal ≡ 0 → ⊥) → (a.refusal ≡ 5 → ⊥)
      → ConformsUnder p m (closed_record g) q (record { answer = a; parameters = p; growth = closed_record g; file = f; second = second; pool = pool })
  rest-refused q pool a z d = at_rest q (unchanged g f pool a) (refused-conforms p m t q pool a z d)

  -- an opening, by what the growth would answer
  abbrev opened_by : File → Pool → After → AfterStep
  opened_by set pool whole =
      cond (eqb whole.answer.refusal 0)
      (record { answer = accepted 0; growth = open_record g 0; second = empty_file_lem p; pool = pool })
      (not_stepped (closed_record g) set pool whole.answer)

  opens : (set : File) (pool : Pool) → ConformsUnder p m (closed_record g) open_growth_lem (on_opening p f second (open_under p (closed_record g) f set pool))
  unfolding open_under step_refusal open_on spotted is_accepted finishes counts_as fed updated
  opens set pool =
      rw (closed-valid p g, lent-pool p m t (file_fits_lem p set && pool_fits_lem p pool), grows (cleared pool))
      (go (file_fits_lem p set && pool_fits_lem p pool) (eqb (highest p g) (p.pages - 1)) refl (carried p m (grown p g)) refl)
    where
      go : (fits none : Bool) → eqb (highest p g) (p.pages - 1) ≡ none → (l : List Star) → carried p m (grown p g) ≡ l
          → ConformsUnder p m (closed_record g) open_growth_lem
          (on_opening p f second (guarded_step (closed_record g) set pool (unless fits 2) (opened_by set (cleared pool) (grew (cleared pool) none l))))
      go false none e l d = rest-refused open_growth_lem pool (refused 2 0) (λ z. omega arith) (λ z. omega arith)
      go true true e l d = rest-refused open_growth_lem (cleared pool) (refused 8 0) (λ z. omega arith) (λ z. omega arith)
      go true false e (s ∷ l) d = rest-refused open_growth_lem (cleared pool) (refused 8 0) (λ z. omega arith) (λ z. omega arith)
      go true false e [] d =
          let inside : 0 < p.pages = omega (arith, more-pages p m t e) in
          record {
            matches =
                record {
                  growth = refl;
                  file = refl;
                  fitting = t;
                  steps = opened-valid p g 0 inside;
                  unfinished = λ _. record { inside = inside; possible = e; fits = d; pages_done = sym (none_done p m t) };
                };
            undamaged = λ z. omega arith;
            found = λ k z _. cc;
          }

  not-stepped : (set : File) (pool : Pool) → ConformsUnder p m (closed_record g) step_growth_lem (on_step p (closed_record g) f second (step_under p (closed_record g) f set pool))
  unfolding step_under step_refusal spotted finishes counts_as
  not-stepped set pool = rw (closed-valid p g, lent-pool p m t (file_fits_lem p set && pool_fits_lem p pool)) (go (file_fits_lem p set && pool_fits_lem p pool))
    where
      go : (fits : Bool)
          → ConformsUnder p m (closed_record g) step_growth_lem
          (on_step p (closed_record g) f second (guarded_step (closed_record g) set pool (unless fits 2) (not_stepped (closed_record g) set (cleared pool) (refused 16 0))))
      go false = rest-refused step_growth_lem pool (refused 2 0) (λ z. omega arith) (λ z. omega arith)
      go true = rest-refused step_growth_lem (cleared pool) (refused 16 0) (λ z. omega arith) (λ z. omega arith)

  pub rest-conforms : (set : File) (pool : Pool) (q : Request) → ConformsUnder p m (closed_record g) q (step p (closed_record g) f second set pool q)
  unfolding step look_up_under enter_under cascade_under change_under remove_under grow_under shrink_under due_under check_under
  rest-conforms set pool (look_up_lem k) = rw (closed-valid p g) (at_rest (look_up_lem k) _ (look_up_conforms p m t pool k))
  rest-conforms set pool (enter caller k q) = rw (closed-valid p g) (at_rest (enter caller k q) _ (enter_conforms p m t caller k q pool))
  rest-conforms set pool (cascade caller k q) = rw (closed-valid p g) (at_rest (cascade caller k q) _ (cascade-conforms p m t caller k q pool))
  rest-conforms set pool (change caller k q) = rw (closed-valid p g) (at_rest (change caller k q) _ (keeping (change caller k q) pool _ (change_conforms p m t caller k q unpooled)))
  rest-conforms set pool (remove caller k) = rw (closed-valid p g) (at_rest (remove caller k) _ (remove_conforms p m t caller k pool))
  rest-conforms set pool grow = rw (closed-valid p g) (at_rest grow _ (grow_conforms p m t pool))
  rest-conforms set pool shrink = rw (closed-valid p g) (at_rest shrink _ (shrink_conforms p m t pool))
  rest-conforms set pool due = rw (closed-valid p g) (at_rest due _ (due_conforms p m t pool))
  rest-conforms set pool check = rw (closed-valid p g) (at_rest check _ (check_conforms p m t pool))
  rest-conforms set pool open_growth_lem = opens set pool
  rest-conforms set pool step_growth_lem = not-stepped set pool

  -- While a growth is open.
  module _ (j : ℕ) (u : Unfinished p m j second) where
    abbrev r : GrowthRecord
    r = open_record g j

    valid : valid_steps p r ≡ true
    valid = opened-valid p g j u.inside

    -- a call that leaves the model
    while-open : (q : Request) (a : After) → Conforms p m q a → fed_with p q a.answer m ≡ m → ConformsUnder p m r q (on_file p r second a)
    unfolding finishes counts_as
    while-open q a c e =
        record {
          matches = record { growth = c.growth; file = c.file; fitting = c.fitting; steps = opened-valid p a.growth j u.inside; unfinished = λ _. rw e u };
          undamaged = c.undamaged;
          found = c.found;
        }

    open_refused : (q : Request) (pool : Pool) (a : Answer) → (a.refusal ≡ 0 → ⊥) → (a.refusal ≡ 5 → ⊥)
        → ConformsUnder p m r q (record { answer = a; parameters = p; growth = r; file = f; second = second; pool = pool })
    open_refused q pool a z d = while-open q (unchanged g f pool a) (refused-conforms p m t q pool a z d) (fed-refused p m t q a z)

    -- a call that writes the file
    not-now : (q : Request) (pool : Pool) (fits : Bool)
        → ConformsUnder p m r q (on_file p r second (guarded g f pool (unless fits 2) (unchanged g f (cleared pool) (refused 16 0))))
    unfolding spotted
    not-now q pool false = open_refused q pool (refused 2 0) (λ z. omega arith) (λ z. omega arith)
    not-now q pool true = open_refused q (cleared pool) (refused 16 0) (λ z. omega arith) (λ z. omega arith)

    not_opened : (set : File) (pool : Pool) → ConformsUnder p m r open_growth_lem (on_opening p f second (open_under p r f set pool))
    unfolding open_under step_refusal spotted is_accepted
    not_opened set pool = rw (valid, lent-pool p m t (file_fits_lem p set && pool_fits_lem p pool)) (go (file_fits_lem p set && pool_fits_lem p pool))
      where
        go : (fits : Bool)
            → ConformsUnder p m r open_growth_lem (on_opening p f second (guarded_step r set pool (unless fits 2) (not_stepped r set (cleared pool) (refused 16 0))))
        go false = open_refused open_growth_lem pool (refused 2 0) (λ z. omega arith) (λ z. omega arith)
        go true = open_refused open_growth_lem (cleared pool) (refused 16 0) (λ z. omega arith) (λ z. omega arith)

    -- A step: the growth would be accepted, and one page more is done.
    accepts : (pool : Pool) → grow_on p g f pool ≡ moved p m pool (grown p g) (page_count p g)
    accepts pool = grows pool ∙ rw (u.possible, u.fits)

    page-done : replaced p.places second j (pages_at p.places (model_file p (regrown m (grown p g))) j 1) ≡ unfinished_file p m (suc j)
    page-done =
        ap (λ (h : File). replaced p.places h j (pages_at p.places (model_file p (regrown m (grown p g))) j 1)) u.pages_done
        ∙ one_more p m t j u.inside

    -- step M, or one before it
    abbrev stepped_to : Pool → Bool → AfterStep
    stepped_to pool last =
        cond last
        (record { answer = accepted (page_count p g); growth = closed_record (grown p g); second = unfinished_file p m (suc j); pool = pool })
        (record { answer = accepted 0; growth = open_record g (suc j); second = unfinished_file p m (suc j); pool = pool })

    steps-to : (pool : Pool) → step_on p r f second pool ≡ stepped_to pool (eqb (suc j) p.pages)
    unfolding step_on with_page spotted
    steps-to pool = rw (accepts pool, page-done)

    steps : (pool : Pool) → ConformsUnder p m r step_growth_lem (on_step p r f second (step_under p r f second pool))
    unfolding step_under step_refusal spotted is_accepted finishes counts_as fed updated
    steps pool =
        rw (valid, lent-pool p m t (file_fits_lem p second && pool_fits_lem p pool), steps-to (cleared pool))
        (go (file_fits_lem p second && pool_fits_lem p pool) (eqb (suc j) p.pages) refl)
      where
        go : (fits last : Bool) → eqb (suc j) p.pages ≡ last
            → ConformsUnder p m r step_growth_lem (on_step p r f second (guarded_step r second pool (unless fits 2) (stepped_to (cleared pool) last)))
        go false last e = open_refused step_growth_lem pool (refused 2 0) (λ z. omega arith) (λ z. omega arith)
        go true true e =
            record {
              matches =
                  record {
                    growth = refl;
                    file = ap (unfinished_file p m) (eqb-true (suc j) p.pages e) ∙ all_done p m t;
                    fitting = regrown-fits p m t (grown p g) (next-valid p m t u.possible) u.fits;
                    steps = closed-valid p (grown p g);
                    unfinished = λ z. absurd (true≢false (sym z));
                  };
              undamaged = λ z. omega arith;
              found = λ k z _. cc;
            }
        go true false e =
            let inside : suc j < p.pages = omega (arith, eqb-false (suc j) p.pages e, u.inside) in
            record {
              matches =
                  record {
                    growth = refl;
                    file = refl;
                    fitting = t;
                    steps = opened-valid p g (suc j) inside;
                    unfinished = λ _. record { inside = inside; possible = u.possible; fits = u.fits; pages_done = refl };
                  };
              undamaged = λ z. omega arith;
              found = λ k z _. cc;
            }

    -- it is accepted where the pool fits
    pub step-accepted : (pool : Pool) → pool_fits_lem p pool ≡ true → (step_under p r f second pool).answer.refusal ≡ 0
    unfolding step_under step_refusal spotted
    step-accepted pool fit =
        rw (valid, lent-pool p m t (file_fits_lem p second && pool_fits_lem p pool), ap (file_fits_lem p) u.pages_done ∙ unfinished_fits p m t j u.inside, fit, steps-to (cleared pool))
        (go (eqb (suc j) p.pages))
      where
        go : (last : Bool) → (stepped_to (cleared pool) last).answer.refusal ≡ 0
        go true = refl
        go false = refl

    pub open_conforms : (set : File) (pool : Pool) (q : Request) → ConformsUnder p m r q (step p r f second set pool q)
    unfolding step look_up_under enter_under cascade_under change_under remove_under grow_under shrink_under due_under check_under updated spotted
    open_conforms set pool (look_up_lem k) = rw valid (while-open (look_up_lem k) _ (look_up_conforms p m t pool k) (quiet p (look_up_lem k) m refl _))
    open_conforms set pool (enter caller k q) = rw (valid, lent-pool p m t (pool_fits_lem p pool)) (not-now (enter caller k q) pool (pool_fits_lem p pool))
    open_conforms set pool (cascade caller k q) = rw (valid, lent-pool p m t (pool_fits_lem p pool)) (not-now (cascade caller k q) pool (pool_fits_lem p pool))
    open_conforms set pool (change caller k q) = rw (valid, lent p m t) (open_refused (change caller k q) pool (refused 16 0) (λ z. omega arith) (λ z. omega arith))
    open_conforms set pool (remove caller k) = rw (valid, lent-pool p m t (pool_fits_lem p pool)) (not-now (remove caller k) pool (pool_fits_lem p pool))
    open_conforms set pool grow = rw (valid, lent-pool p m t (pool_fits_lem p pool)) (not-now grow pool (pool_fits_lem p pool))
    open_conforms set pool shrink = rw (valid, lent-pool p m t (pool_fits_lem p pool)) (not-now shrink pool (pool_fits_lem p pool))
    open_conforms set pool due = rw valid (while-open due _ (due_conforms p m t pool) (quiet p due m refl _))
    open_conforms set pool check = rw valid (while-open check _ (check_conforms p m t pool) (quiet p check m refl _))
    open_conforms set pool open_growth_lem = not_opened set pool
    open_conforms set pool step_growth_lem = steps pool

-- A valid record is closed, or open with so many steps.
module _ (p : Parameters) (m : Model) (r : GrowthRecord) (f second : File) (x : Matches p m r f second) where
  none-done-yet : r.growing ≡ false → r.steps ≡ 0
  unfolding valid_steps
  none-done-yet e = eqb-true r.steps 0 (rw e at x.steps)

  pub is-closed : r.growing ≡ false → r ≡ closed_record m.growth
  is-closed e = let z = none-done-yet e in λ i. record { state = x.growth i; growing = e i; steps = z i }

  pub is-opened : r.growing ≡ true → r ≡ open_record m.growth r.steps
  is-opened e = λ i. record { state = x.growth i; growing = e i; steps = r.steps }

-- one law for every call
pub request_conforms : (p : Parameters) (m : Model) (r : GrowthRecord) (f second : File) → Matches p m r f second
    → (set : File) (pool : Pool) (q : Request) → ConformsUnder p m r q (step p r f second set pool q)
request_conforms p m r f second x set pool q = go r.growing refl
  where
    go : (b : Bool) → r.growing ≡ b → ConformsUnder p m r q (step p r f second set pool q)
    go false e = rw (is-closed p m r f second x e, x.file) (rest-conforms p m x.fitting second set pool q)
    go true e =
        let u = x.unfinished e in
        rw x.file (subst (λ (s : GrowthRecord). ConformsUnder p m s q (step p s (model_file p m) second set pool q)) (sym (is-opened p m r f second x e)) (open_conforms p m x.fitting second r.steps u set pool q))
