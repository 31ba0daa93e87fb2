-- Opening and M steps are the growth, on every file whose growth is accepted.
use mathlib.Core.Path.{◌≡◌, refl, sym, ap, ◌∙◌, subst}
use mathlib.Core.Bool.{Bool, true, false, cond, ◌&&◌}
use mathlib.Core.List.{List, []}
use Prim.Native.Nat.{ℕ, zero, suc, ◌+◌, ◌-◌, ◌*◌, ◌≤◌, ◌<◌}
use native.Mathlib.Nat.{zero-mul, zero-add}
use native.Mathlib.Omega.{arith}
use lib.Dec.{eqb, ltb}
use lib.ListN.{length}
use borrow.Author.Tests.{lt-ltb, eq-eqb, ne_eqb, eqb-true}
use Rattle.hashing.proofs.Bounds.{both}
use Rattle.buffers.proofs.Written.{written-whole}
use Rattle.hashing.specs.declared.Parameters.{Parameters}
use Rattle.hashing.specs.declared.Growth.{Growth}
use Rattle.hashing.specs.Geometry.{page_count, highest, grown}
use Rattle.hashing.specs.Limits.{valid_parameters, valid_growth}
use Rattle.hashing.proofs.Bounds.{limits, growth_within, spread}
use Rattle.pages.specs.Position.{valid_word}
use Rattle.placement.specs.Rule.{Star, Contents, pages, left, separators}
use Rattle.placement.specs.File.{File, column, file_of, laid, replaced, written}
use Rattle.placement.specs.Shape.{Sized}
use Rattle.placement.specs.Hash.{hash_of}
use Rattle.placement.proofs.Composition.{length-pages}
use Rattle.placement.proofs.Pages.{Proper}
use Rattle.placement.proofs.Sound.{gathered-proper}
use Rattle.placement.proofs.Standing.{length-separators}
use Rattle.placement.proofs.Writing.{Roomy, length-column}
use Rattle.placement.proofs.Files.{roomy-pages}
use Rattle.reach.specs.Reach.{is_empty, all_stars, first_unsound_lem}
use Rattle.calls.specs.declared.answers.Answer.{Answer}
use Rattle.calls.specs.declared.records.GrowthRecord.{GrowthRecord}
use Rattle.calls.specs.Answers.{Pool, After, spotted, accepted, refused, cleared}
use Rattle.calls.specs.Calls.{file_fits_lem, pool_fits_lem, unless, unlent, guarded, unchanged, regrow_to, grow_on, grow_of, shrink_of}
use Rattle.calls.specs.Records.{AfterStep, valid_steps, closed_record, open_record, record_after, grow_under, step_refusal, open_on, open_under, with_page, step_on, step_under}
use Rattle.calls.proofs.Refusals.{unlent-facts, sized}
use Rattle.histories.specs.RoundTrips.{Restores}
use Rattle.histories.specs.Steps.{steps_of, partly_done, LentSteps, GrowthInSteps, StepsAreGrowth, in_steps, StepsRoundTrips, RoundTripsInSteps, LocalInSteps}
use Rattle.histories.proofs.Searching.{all-sound-before}
use Rattle.histories.proofs.RoundTrips.{round_trips}
use Rattle.histories.proofs.StepsPages.{none_done, one_more, all_done, partly_fits}
use Rattle.backup.specs.Local.{Untouched}
use Rattle.backup.specs.Stretches.{may_change}
use Rattle.backup.proofs.Local.{growth_local}

-- What an accepted growth has passed.
record Passed (p : Parameters) (r : GrowthRecord) (f : File) (pool : Pool) : Type 0 where
  steps : valid_steps p r ≡ true
  closed : r.growing ≡ false
  lent : unlent p r.state (file_fits_lem p f && pool_fits_lem p pool) ≡ 0
  further : eqb (highest p r.state) (p.pages - 1) ≡ false
  sound : ltb (first_unsound_lem p r.state f 0 p.pages) p.pages ≡ false
  fit : is_empty (left (hash_of p (grown p r.state)) 0 p.pages (all_stars p f)) ≡ true

passed : (p : Parameters) (r : GrowthRecord) (f : File) (pool : Pool) → (grow_under p r f pool).answer.refusal ≡ 0 → Passed p r f pool
unfolding grow_under grow_of regrow_to spotted
passed p r f pool =
    go (valid_steps p r) refl r.growing refl (unlent p g (file_fits_lem p f && pool_fits_lem p pool)) refl (eqb (highest p g) (p.pages - 1)) refl
    (ltb bad p.pages) refl (is_empty (left (hash_of p (grown p g)) 0 p.pages (all_stars p f))) refl
  where
    g : Growth
    g = r.state

    bad : ℕ
    bad = first_unsound_lem p g f 0 p.pages

    done : After
    done = record { answer = accepted (page_count p g); growth = grown p g; file = replaced p.places f 0 (pages (hash_of p (grown p g)) 0 p.pages (all_stars p f)); pool = cleared pool }

    go : (v : Bool) → valid_steps p r ≡ v → (o : Bool) → r.growing ≡ o → (n : ℕ) → unlent p g (file_fits_lem p f && pool_fits_lem p pool) ≡ n
        → (h : Bool) → eqb (highest p g) (p.pages - 1) ≡ h → (u : Bool) → ltb bad p.pages ≡ u
        → (e : Bool) → is_empty (left (hash_of p (grown p g)) 0 p.pages (all_stars p f)) ≡ e
        → (guarded g f pool (unless v 1)
        (cond o
        (guarded g f pool n (unchanged g f (cleared pool) (refused 16 0)))
        (guarded g f pool n
        (cond h (unchanged g f (cleared pool) (refused 8 0))
        (cond u (unchanged g f (cleared pool) (refused 5 bad)) (cond e done (unchanged g f (cleared pool) (refused 8 0)))))))).answer.refusal
        ≡ 0
        → Passed p r f pool
    go true a false b zero c false d false i true k z = record { steps = a; closed = b; lent = c; further = d; sound = i; fit = k }
    go true a false b zero c false d false i false k z = absurd (omega arith)
    go true a false b zero c false d true i e k z = absurd (omega arith)
    go true a false b zero c true d u i e k z = absurd (omega arith)
    go true a false b (suc n) c h d u i e k z = absurd (omega arith)
    go true a true b zero c h d u i e k z = absurd (omega arith)
    go true a true b (suc n) c h d u i e k z = absurd (omega arith)
    go false a o b n c h d u i e k z = absurd (omega arith)

module _ (p : Parameters) (r : GrowthRecord) (f : File) (pool : Pool) (t : Passed p r f pool) where
  abbrev g : Growth
  g = r.state

  valid : (valid_parameters p && valid_growth p g ≡ true) × (file_fits_lem p f && pool_fits_lem p pool ≡ true)
  valid = unlent-facts p g (file_fits_lem p f && pool_fits_lem p pool) t.lent

  lengths : (file_fits_lem p f ≡ true) × (pool_fits_lem p pool ≡ true)
  lengths = both (file_fits_lem p f) (pool_fits_lem p pool) valid.1

  states : (valid_parameters p ≡ true) × (valid_growth p g ≡ true)
  states = both (valid_parameters p) (valid_growth p g) valid.0

  abbrev new : File
  new = laid p.places (hash_of p (grown p g)) p.pages (all_stars p f)

  proper : Proper valid_word (all_stars p f)
  unfolding hash_of
  proper =
      gathered-proper valid_word (hash_of p g) f 0 p.pages
      (all-sound-before p g f 0 p.pages (rw (zero-add p.pages) t.sound))

  -- all pages are replaced
  anew : replaced p.places f 0 (pages (hash_of p (grown p g)) 0 p.pages (all_stars p f)) ≡ new
  unfolding replaced laid file_of hash_of
  anew =
      λ i. record {
        separators = separators-anew i;
        numbers = column-anew (λ (s : Star). s.number) f.numbers z.of_numbers i;
        words = column-anew (λ (s : Star). s.payload.word) f.words z.of_words_lem i;
        owners = column-anew (λ (s : Star). s.payload.owner) f.owners z.of_owners i;
      }
    where
      z : Sized p.places p.pages f
      z = sized p f lengths.0

      cs : List Contents
      cs = pages (hash_of p (grown p g)) 0 p.pages (all_stars p f)

      count : length cs ≡ p.pages
      count = length-pages (hash_of p (grown p g)) 0 p.pages (all_stars p f)

      separators-anew : written 0 (separators cs) f.separators ≡ separators cs
      separators-anew = written-whole (separators cs) f.separators (length-separators cs ∙ count ∙ sym z.of_separators)

      column-anew : (h : Star → ℕ) (l : List ℕ) → length l ≡ p.pages * p.places → written (0 * p.places) (column p.places h cs) l ≡ column p.places h cs
      column-anew h l e =
          ap (λ (n : ℕ). written n (column p.places h cs) l) (zero-mul p.places)
          ∙ written-whole (column p.places h cs) l (length-column p.places h cs (roomy-pages (hash_of p (grown p g)) 0 p.pages (all_stars p f)) ∙ ap (λ (n : ℕ). n * p.places) count ∙ sym e)

  grows : (lent : Pool) → grow_on p g f lent ≡ record { answer = accepted (page_count p g); growth = grown p g; file = new; pool = lent }
  unfolding regrow_to
  grows lent = rw (t.further, t.sound, t.fit, anew)

  grew : grow_under p r f pool ≡ record { answer = accepted (page_count p g); growth = grown p g; file = new; pool = cleared pool }
  unfolding grow_under grow_of
  grew = rw (t.steps, t.closed, t.lent, grows (cleared pool))

  module _ (second : File) (pools : ℕ → Pool) (l : LentSteps p second pools) where
    abbrev during : ℕ → AfterStep
    during j = record { answer = accepted 0; growth = open_record g j; second = partly_done p new j; pool = cleared (pools j) }

    opened : open_under p r f second (pools 0) ≡ during 0
    unfolding open_under step_refusal open_on unlent spotted
    opened =
        rw (t.steps, valid.0, lengths.0, l.of_second, l.of_pools 0, t.closed, grows (cleared (pools 0)))
        (ap (λ (x : File). record { answer = accepted 0; growth = open_record g 0; second = x; pool = cleared (pools 0) }) (sym (none_done p new)))

    refusal-none : (j : ℕ) → j < p.pages → step_refusal p (open_record g j) f (partly_done p new j) (pools (suc j)) ≡ 0
    unfolding step_refusal unlent valid_steps
    refusal-none j h =
        rw (lt-ltb j p.pages h, valid.0, lengths.0, partly_fits p (grown p g) states.0 (all_stars p f) proper j h, l.of_pools (suc j))

    stepped : (j : ℕ) → j < p.pages → step_under p (open_record g j) f (partly_done p new j) (pools (suc j))
        ≡ cond (eqb (suc j) p.pages)
        (record { answer = accepted (page_count p g); growth = closed_record (grown p g); second = partly_done p new (suc j); pool = cleared (pools (suc j)) })
        (during (suc j))
    unfolding step_under step_on with_page spotted
    stepped j h =
        rw (refusal-none j h, grows (cleared (pools (suc j))), one_more p (grown p g) states.0 (all_stars p f) proper j h)

    steps-to : (j : ℕ) → j < p.pages → steps_of p r f second pools j ≡ during j
    unfolding steps_of
    steps-to zero h = opened
    steps-to (suc j) h =
        ap (λ (a : AfterStep). step_under p a.growth f a.second (pools (suc j))) (steps-to j (omega arith))
        ∙ stepped j (omega arith)
        ∙ rw (ne_eqb (suc j) p.pages (λ e. omega arith))

    last : (j : ℕ) → suc j ≡ p.pages
        → steps_of p r f second pools (suc j) ≡ record { answer = accepted (page_count p g); growth = closed_record (grown p g); second = new; pool = cleared (pools (suc j)) }
    unfolding steps_of
    last j e =
        ap (λ (a : AfterStep). step_under p a.growth f a.second (pools (suc j))) (steps-to j (omega arith))
        ∙ stepped j (omega arith)
        ∙ rw (eq-eqb (suc j) p.pages e) (ap (λ (x : File). record { answer = accepted (page_count p g); growth = closed_record (grown p g); second = x; pool = cleared (pools (suc j)) })
        (ap (partly_done p new) e ∙ all_done p (grown p g) states.0 (all_stars p f) proper))

    in-steps : GrowthInSteps p r f (grow_under p r f pool) second pools
    unfolding valid_steps
    in-steps = rw grew (record { unfinished = steps-to; finished = finish p.pages refl })
      where
        some : 1 ≤ p.pages
        some =
            let v = states in
            omega (arith, (spread p g (limits p v.0) (growth_within p g v.1)).pages_low, (growth_within p g v.1).pages_fit)

        closes : record_after r (record { answer = accepted (page_count p g); growth = grown p g; file = new; pool = cleared pool }) ≡ closed_record (grown p g)
        closes =
            let none : r.steps ≡ 0 = eqb-true r.steps 0 (rw t.closed at t.steps) in
            λ i. record { state = grown p g; growing = t.closed i; steps = none i }

        finish : (n : ℕ) → n ≡ p.pages
            → steps_of p r f second pools n
            ≡ record { answer = accepted (page_count p g); growth = record_after r (record { answer = accepted (page_count p g); growth = grown p g; file = new; pool = cleared pool }); second = new; pool = cleared (pools n) }
        finish zero e = absurd (omega (arith, some))
        finish (suc j) e =
            last j e ∙ ap (λ (x : GrowthRecord). record { answer = accepted (page_count p g); growth = x; second = new; pool = cleared (pools (suc j)) }) (sym closes)

pub steps_are_growth : StepsAreGrowth
steps_are_growth p r f pool e second pools l = in-steps p r f pool (passed p r f pool e) second pools l

-- Of a closed record, as one call.
module _ (p : Parameters) (g : Growth) (f : File) (pool : Pool) (e : (grow_of p g f pool).answer.refusal ≡ 0) (second : File) (pools : ℕ → Pool) (l : LentSteps p second pools) where
  pub as_one : in_steps p g f second pools
      ≡ record { answer = (grow_of p g f pool).answer; growth = (grow_of p g f pool).growth; file = (grow_of p g f pool).file; pool = cleared (pools p.pages) }
  unfolding grow_under valid_steps
  as_one =
      ap (λ (a : AfterStep). record { answer = a.answer; growth = a.growth.state; file = a.second; pool = a.pool })
      (steps_are_growth p (closed_record g) f pool e second pools l).finished

pub round_trips_in_steps : RoundTripsInSteps
round_trips_in_steps p g f pool clean second pools l =
    record {
      growth_then_shrink = λ lent again fit e.
          let back = round_trips.growth_then_shrink p g f pool clean lent again fit e in
          again-is (in_steps p g f second pools)
          (record { answer = (grow_of p g f lent).answer; growth = (grow_of p g f lent).growth; file = (grow_of p g f lent).file; pool = cleared (pools p.pages) })
          (as_one p g f lent e second pools l) g f again
          (record { answer = back.answer; growth = back.growth; separators = back.separators; numbers = back.numbers; words = back.words; owners = back.owners });
      shrink_then_growth = λ lent e.
          let back = round_trips.shrink_then_growth p g f pool clean lent (pools 0) (l.of_pools 0) e in
          let ok = ap (λ (a : Answer). a.refusal) back.answer ∙ e in
          rw (as_one p (shrink_of p g f lent).growth (shrink_of p g f lent).file (pools 0) ok second pools l)
          (record { answer = back.answer; growth = back.growth; separators = back.separators; numbers = back.numbers; words = back.words; owners = back.owners });
    }
  where
    again-is : (a b : After) → a ≡ b → (g : Growth) (f : File) (again : Pool) → Restores g f b (shrink_of p b.growth b.file again)
        → Restores g f a (shrink_of p a.growth a.file again)
    again-is a b d g f again back = rw d back

pub local-in_steps : LocalInSteps
local-in_steps p g f pool grows second pools l page inside =
    go (in_steps p g f second pools).file (ap (λ (a : After). a.file) (as_one p g f pool grows.accepted second pools l))
  where
    go : (x : File) → x ≡ (grow_of p g f pool).file → may_change p g f.separators x.separators page ≡ false → Untouched p.places f x page
    go x d h = rw d (growth_local p g f pool grows page inside (rw d at h))
