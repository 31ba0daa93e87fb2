-- What a carrying answers and leaves, by what its parts tell.
use mathlib.Core.Path.{◌≡◌, refl, ap, sym, ◌∙◌}
use mathlib.Core.Bool.{Bool, true, false, cond, false≢true}
use mathlib.Core.List.{List, [], ◌∷◌, map}
use Prim.Native.Nat.{ℕ, ◌+◌, ◌*◌, ◌^◌, ◌≤◌, ◌<◌}
use native.Mathlib.Nat.{zero-mul, zero-add, mul-le-mul}
use native.Mathlib.Omega.{arith}
use lib.Dec.{eqb, ltb, leb}
use lib.ListN.{length, get_or, set, take, drop, length-map, get_or-map}
use lib.Seq.{paste, take_all, length-take-le}
use borrow.Author.Tests.{lt-ltb, le-ltb, ltb-true, ltb-false, ne_eqb, leb-true, leb-false}
use Rattle.buffers.proofs.Copies.{Copied, turn, done}
use Rattle.buffers.proofs.Written.{paste_written, written-whole, pasted_whole}
use Rattle.hashing.specs.declared.Parameters.{Parameters}
use Rattle.hashing.specs.declared.Geometry.{Geometry}
use Rattle.hashing.specs.Limits.{valid_parameters, valid_growth}
use Rattle.hashing.proofs.Bounds.{limits, both}
use Rattle.pages.specs.Shape.{stretch}
use Rattle.placement.specs.Rule.{Star, pages, left, separators}
use Rattle.placement.specs.File.{File, column, file_of, laid}
use Rattle.placement.specs.Shape.{Sized}
use Rattle.placement.specs.Hash.{hash_of, lent}
use Rattle.placement.specs.Shape.{home_in, homes_of}
use Rattle.placement.proofs.Mapping.{mapped}
use Rattle.placement.proofs.Prepared.{ready}
use Rattle.placement.proofs.Standing.{length-separators}
use Rattle.page_separator.specs.Lists.{all, all_below}
use Rattle.reach.specs.Reach.{is_empty, all_stars, first_unsound_lem}
use Rattle.plan_transfer.specs.Sources.{named_item}
use Rattle.page_plan.specs.Plans.{homed, waits, plans, remains}
use Rattle.page_plan.specs.Sources.{renamed, sourced}
use Rattle.page_plan.specs.declared.outcome.Outcome.{Outcome}
use Rattle.page_plan.specs.declared.outcome.Outcome.TheVariants.{On, Unsound, Overflows}
use Rattle.page_plan.proofs.Applying.{renamed_keeps, plans-sourced, fetched-is}
use Rattle.page_plan.proofs.Sourcing.{words-sourced, true_stars}
use Rattle.page_plan.proofs.Stretch.{length-plans}
use Rattle.page_plan.proofs.Placed.{probes-real, placed-words, left-count}
use Rattle.removal_reach.proofs.Items.{all_sound, all-numbered, numbers_below}
use Rattle.calls.specs.declared.answers.Placed.{Placed}
use Rattle.calls.specs.declared.answers.Placed.TheVariants.{Refused}
use Rattle.calls.specs.declared.answers.Refusal.TheVariants.{BadParameters, BadLength}
use Rattle.calls.specs.declared.records.GrowthRecord.{GrowthRecord}
use Rattle.calls.specs.declared.records.Recorded.{Recorded}
use Rattle.calls.specs.Answers.{Pool, placed, refused_by, accepted, refused, cleared}
use Rattle.calls.specs.Carry.{valid_state, carry_states, carry_lengths, carry_on, carry_of}
use Rattle.calls.specs.Shape.{Admitted}
use Rattle.calls.specs.Records.{AfterStep, not_stepped, LeavesStep}
use Rattle.calls.proofs.CarryRefusals.{carry_refusals}
use Rattle.calls.proofs.Refusals.{sized, pool-sized}
use Rattle.outcome_answer.specs.Outcomes.{OutcomeSmall, outcome_placed}
use Rattle.outcome_answer.proofs.Outcomes.{unsound-most}
use Rattle.carrying.specs.Carried.{carried_words, fetched_file, AllPlanned, PlacesSecond, carry_answer, carry_file, carry_admitted, StoresCarry}
use Rattle.carrying.proofs.Placing.{words-home, words-below}
use Rattle.carrying.proofs.Words.{named-own}

-- the items of d before i are what the sources name
abbrev pub Named : List ℕ → List ℕ → List ℕ → List ℕ → ℕ → Type 0
Named l pool d e i = Copied d 0 (map (named_item l 0) pool) e i

module _ (l pool d e : List ℕ) (i : ℕ) (size : length d ≡ length pool) (I : Named l pool d e i) where
  pub named-next : (x : ℕ) → i < length pool → x ≡ named_item l 0 (get_or pool i 0) → Named l pool d (set e i x) (i + 1)
  unfolding named_item
  named-next x h ex =
      rw (zero-add i) at
      (turn d 0 (map (named_item l 0) pool) e i x (omega arith) (omega (arith, length-map pool (named_item l 0))) (ex ∙ sym (get_or-map (named_item l 0) pool i 0)) I)

  pub named-all : i ≤ length pool → length pool ≤ i → e ≡ map (named_item l 0) pool
  named-all a b = done (length pool) a b I ∙ pasted_whole d (map (named_item l 0) pool) (length pool) size (length-map pool (named_item l 0))

-- what writing the second set leaves
pub second-written : (ss planned ss' sn sw so sn' sw' so' : List ℕ) → length ss ≤ length planned → ss' ≡ paste ss 0 (drop 0 planned) (length ss)
    → sn' ≡ sn → sw' ≡ sw → so' ≡ so → lent ss' sn' sw' so' ≡ lent (take (length ss) planned) sn sw so
second-written ss planned ss' sn sw so sn' sw' so' h es en ew eo =
    let s : ss' ≡ take (length ss) planned
    = es ∙ paste_written ss 0 planned (length ss) h ∙ written-whole (take (length ss) planned) ss (length-take-le (length ss) planned h) in
    rw (s, en, ew, eo)

-- the planned separators are as many as pages
pub planned-long : (q : Parameters) (l planned : List ℕ) → take q.pages planned ≡ separators (plans q 0 0 q.pages [] l) → q.pages ≤ length planned
planned-long q l planned e = go (leb q.pages (length planned)) refl
  where
    count : length (take q.pages planned) ≡ q.pages
    count = ap length e ∙ length-separators (plans q 0 0 q.pages [] l) ∙ length-plans q 0 0 q.pages [] l

    go : (t : Bool) → leb q.pages (length planned) ≡ t → q.pages ≤ length planned
    go true b = leb-true q.pages (length planned) b
    go false b =
        let short : length planned < q.pages = leb-false q.pages (length planned) b in
        omega (arith, count, ap length (take_all q.pages planned (omega arith)))

-- what placing the stars answers and leaves, by the plan
module _ (new : Geometry) (ns ws os pool planned : List ℕ) (r : Bool) (A : AllPlanned new.parameters (carried_words new ns) pool planned r) (second : File) where
  pub placed-none : r ≡ false → PlacesSecond new ns ws os second second Overflows
  placed-none e =
      record { overflows = λ t. (refl, refl); places = λ t. absurd (false≢true (sym e ∙ A.fits ∙ t)) }

  pub placed-stars : r ≡ true → (second' : File) → second' ≡ fetched_file ns ws os (take new.parameters.pages planned) pool
      → PlacesSecond new ns ws os second second' (On 0)
  placed-stars e second' is =
      record {
        overflows = λ t. absurd (false≢true (sym t ∙ sym A.fits ∙ e));
        places = λ t. (refl, rw (← A.sources e, ← A.separators_are e) is);
      }

-- no star is left exactly if none is counted
empty-count : (t : List Star) (n : ℕ) → length t ≡ n → is_empty t ≡ eqb n 0
empty-count [] n e = rw (← e)
empty-count (s ∷ t) n e = sym (ne_eqb n 0 (λ z. omega arith))

module _ (old new : Geometry) (f second : File) (bad : ℕ) (survey : bad ≡ first_unsound_lem old.parameters old.growth f 0 old.parameters.pages) where
  unsound-carried : bad < old.parameters.pages → (Unsound bad ≡ carry_answer old f new) × (second ≡ carry_file old f new second)
  unfolding carry_answer carry_file
  unsound-carried h =
      let t : ltb (first_unsound_lem old.parameters old.growth f 0 old.parameters.pages) old.parameters.pages ≡ true
      = lt-ltb (first_unsound_lem old.parameters old.growth f 0 old.parameters.pages) old.parameters.pages (omega arith) in
      rw (t, survey) (refl, refl)

  module _ (valid : valid_parameters old.parameters ≡ true) (size : Sized old.parameters.places old.parameters.pages f) (past : old.parameters.pages ≤ bad) where
    all-fine : 0 + old.parameters.pages ≤ first_unsound_lem old.parameters old.growth f 0 old.parameters.pages
    all-fine = omega arith

    items : old.parameters.pages * old.parameters.places ≤ 32768
    items = mul-le-mul (limits old.parameters valid).pages_most (limits old.parameters valid).places_most

    pub carried-few : length f.numbers ≤ 32768
    carried-few = omega (arith, items, size.of_numbers)

    whole : (l : List ℕ) → length l ≡ old.parameters.pages * old.parameters.places → stretch old.parameters.places 0 old.parameters.pages l ≡ l
    whole l e = rw (zero-mul old.parameters.places) (take_all (old.parameters.pages * old.parameters.places) l (omega arith))

    pub carried-numbers : all_below (2 ^ 31) f.numbers ≡ true
    carried-numbers =
        rw (whole f.numbers size.of_numbers) at
        (numbers_below old.parameters f valid size 0 old.parameters.pages (omega arith) old.growth
        (all_sound old.parameters old.growth f 0 old.parameters.pages all-fine))

    module _ (newvalid : valid_parameters new.parameters ≡ true) (newgrowth : valid_growth new.parameters new.growth ≡ true) where
      stars-carried : map (renamed f.words f.owners 0 0) (waits (carried_words new f.numbers)) ≡ all_stars old.parameters f
      unfolding homes_of
      stars-carried =
          let p : Parameters = old.parameters in
          let hs : List ℕ = homes_of new.parameters new.growth f.numbers in
          let lh : length hs ≡ p.pages * p.places = length-map f.numbers (home_in new.parameters new.growth) ∙ size.of_numbers in
          rw (whole f.numbers size.of_numbers, whole hs lh, zero-mul p.places) at
          (true_stars p.places 0 p.pages 0 0 0 f hs (rw (whole f.numbers size.of_numbers) carried-numbers) (rw (zero-add p.pages) (omega (arith, items)))
          (rw (zero-add p.pages) (omega (arith, size.of_numbers))) (rw (zero-add p.pages) (omega (arith, size.of_words_lem)))
          (rw (zero-add p.pages) (omega (arith, size.of_owners))) (rw (zero-add p.pages) (omega (arith, lh))))
          ∙ all-numbered p old.growth f 0 p.pages (all_sound p old.growth f 0 p.pages all-fine)

      laid_out : (map (mapped (renamed f.words f.owners 0 0)) (plans new.parameters 0 0 new.parameters.pages [] (carried_words new f.numbers))
          ≡ pages (hash_of new.parameters new.growth) 0 new.parameters.pages (all_stars old.parameters f))
          × (map (renamed f.words f.owners 0 0) (waits (remains new.parameters 0 0 new.parameters.pages [] (carried_words new f.numbers)))
          ≡ left (hash_of new.parameters new.growth) 0 new.parameters.pages (all_stars old.parameters f))
      laid_out =
          placed-words (hash_of new.parameters new.growth) new.parameters (probes-real new.parameters new.growth) 0 new.parameters.pages
          (renamed f.words f.owners 0 0) (renamed_keeps f.words f.owners 0 0) [] (carried_words new f.numbers) (all_stars old.parameters f)
          (unfold homed all in refl) (unfold all in refl)
          (words-home new newvalid newgrowth f.numbers carried-few carried-numbers) (words-below new newvalid newgrowth f.numbers carried-few carried-numbers) stars-carried

      none_left : is_empty (left (hash_of new.parameters new.growth) 0 new.parameters.pages (all_stars old.parameters f))
          ≡ eqb (length (remains new.parameters 0 0 new.parameters.pages [] (carried_words new f.numbers))) 0
      none_left =
          empty-count (left (hash_of new.parameters new.growth) 0 new.parameters.pages (all_stars old.parameters f)) _
          (left-count (renamed f.words f.owners 0 0) (remains new.parameters 0 0 new.parameters.pages [] (carried_words new f.numbers)) _ laid_out.1)

      fine : ltb (first_unsound_lem old.parameters old.growth f 0 old.parameters.pages) old.parameters.pages ≡ false
      fine = le-ltb (first_unsound_lem old.parameters old.growth f 0 old.parameters.pages) old.parameters.pages (omega (arith, all-fine))

      overflow-carried : eqb (length (remains new.parameters 0 0 new.parameters.pages [] (carried_words new f.numbers))) 0 ≡ false
          → (Overflows ≡ carry_answer old f new) × (second ≡ carry_file old f new second)
      unfolding carry_answer carry_file
      overflow-carried e = rw (fine, none_left ∙ e) (refl, refl)

      placed-carried : (second' : File) → eqb (length (remains new.parameters 0 0 new.parameters.pages [] (carried_words new f.numbers))) 0 ≡ true
          → second' ≡ fetched_file f.numbers f.words f.owners (separators (plans new.parameters 0 0 new.parameters.pages [] (carried_words new f.numbers)))
          (column new.parameters.places (λ (s : Star). s.payload.word) (plans new.parameters 0 0 new.parameters.pages [] (carried_words new f.numbers)))
          → (On 0 ≡ carry_answer old f new) × (second' ≡ carry_file old f new second)
      unfolding carry_answer carry_file laid
      placed-carried second' e e2 =
          rw (fine, none_left ∙ e) (
            refl,
            e2
                ∙ fetched-is new.parameters.places _ _ f
                (plans new.parameters 0 0 new.parameters.pages [] (carried_words new f.numbers)) refl refl
                (plans-sourced f.numbers 0 new.parameters 0 0 new.parameters.pages [] (carried_words new f.numbers) (unfold sourced all in refl)
                (words-sourced 0 0 f.numbers (homes_of new.parameters new.growth f.numbers) carried-numbers (omega (arith, carried-few)) f.numbers 0
                (λ i a. named-own f.numbers (0 + i) ∙ rw (zero-add i))))
                ∙ ap (file_of new.parameters.places) laid_out.0,
          )

      sound-carried : (second' : File) (r : Outcome) → PlacesSecond new f.numbers f.words f.owners second second' r
          → (r ≡ carry_answer old f new) × (second' ≡ carry_file old f new second)
      sound-carried second' r P = go (eqb (length (remains new.parameters 0 0 new.parameters.pages [] (carried_words new f.numbers))) 0) refl
        where
          go : (t : Bool) → eqb (length (remains new.parameters 0 0 new.parameters.pages [] (carried_words new f.numbers))) 0 ≡ t
              → (r ≡ carry_answer old f new) × (second' ≡ carry_file old f new second)
          go true e = let c = placed-carried second' e (P.places e).1 in ((P.places e).0 ∙ c.0, c.1)
          go false e = let c = overflow-carried e in ((P.overflows e).0 ∙ c.0, (P.overflows e).1 ∙ c.1)

module _ (old new : Geometry) (f second : File) (bad : ℕ) (survey : bad ≡ first_unsound_lem old.parameters old.growth f 0 old.parameters.pages)
    (valid : valid_parameters old.parameters ≡ true) (size : Sized old.parameters.places old.parameters.pages f)
    (newvalid : valid_parameters new.parameters ≡ true) (newgrowth : valid_growth new.parameters new.growth ≡ true) where
  pub tested-carried : (second' : File) (r : Outcome) → (bad < old.parameters.pages → (r ≡ Unsound bad) × (second' ≡ second))
      → (old.parameters.pages ≤ bad → PlacesSecond new f.numbers f.words f.owners second second' r)
      → (r ≡ carry_answer old f new) × (second' ≡ carry_file old f new second)
  tested-carried second' r unsound places = go (ltb bad old.parameters.pages) refl
    where
      go : (t : Bool) → ltb bad old.parameters.pages ≡ t → (r ≡ carry_answer old f new) × (second' ≡ carry_file old f new second)
      go true e =
          let h : bad < old.parameters.pages = ltb-true bad old.parameters.pages e in
          let c = unsound-carried old new f second bad survey h in
          ((unsound h).0 ∙ c.0, (unsound h).1 ∙ c.1)
      go false e =
          let h : old.parameters.pages ≤ bad = ltb-false bad old.parameters.pages e in
          sound-carried old new f second bad survey valid size h newvalid newgrowth second' r (places h)

-- the outcome as the answer of the call
pub carry_small : (old new : Geometry) (f : File) → valid_parameters old.parameters ≡ true → OutcomeSmall (carry_answer old f new)
unfolding carry_answer
carry_small old new f valid =
    go (ltb (first_unsound_lem old.parameters old.growth f 0 old.parameters.pages) old.parameters.pages)
    (is_empty (left (hash_of new.parameters new.growth) 0 new.parameters.pages (all_stars old.parameters f)))
  where
    go : (t u : Bool) → OutcomeSmall (cond t (Unsound (first_unsound_lem old.parameters old.growth f 0 old.parameters.pages)) (cond u (On 0) Overflows))
    go true u = omega (arith, unsound-most old.parameters old.growth f 0 old.parameters.pages, (limits old.parameters valid).pages_most)
    go false true = omega arith
    go false false = tt

pub carry_stored : (p : Parameters) (r : GrowthRecord) (f : File) (q : Parameters) (s : GrowthRecord) (second : File) (pool : Pool) →
    let old : Geometry = record { parameters = p; growth = r.state } in
    let new : Geometry = record { parameters = q; growth = s.state } in
    StoresCarry (carry_on p r f q s second pool) (placed (outcome_placed (carry_answer old f new) 0)) (carry_file old f new second)
unfolding carry_on carry_answer carry_file placed refused_by
carry_stored p r f q s second pool =
    go (ltb (first_unsound_lem p r.state f 0 p.pages) p.pages) (is_empty (left (hash_of q s.state) 0 q.pages (all_stars p f)))
  where
    new-file : File
    new-file = laid q.places (hash_of q s.state) q.pages (all_stars p f)

    bad : ℕ
    bad = first_unsound_lem p r.state f 0 p.pages

    go : (t u : Bool)
        → StoresCarry
        (cond t (not_stepped s second pool (refused 5 bad))
        (cond u (record { answer = accepted 0; growth = s; second = new-file; pool = pool }) (not_stepped s second pool (refused 8 0))))
        (placed (outcome_placed (cond t (Unsound bad) (cond u (On 0) Overflows)) 0))
        (cond t second (cond u new-file second))
    go true u = record { answers = refl; seconds = refl }
    go false true = record { answers = refl; seconds = refl }
    go false false = record { answers = refl; seconds = refl }

-- .. where the new file's record has nothing open
pub carry_told : (p : Parameters) (r : GrowthRecord) (f : File) (q : Parameters) (s : GrowthRecord) (second : File) (pool : Pool) (outcome : Outcome) (answer : Placed)
    (second' : File) → s.growing ≡ false
    → outcome ≡ carry_answer (record { parameters = p; growth = r.state }) f (record { parameters = q; growth = s.state })
    → answer ≡ outcome_placed outcome 0
    → second' ≡ carry_file (record { parameters = p; growth = r.state }) f (record { parameters = q; growth = s.state }) second
    → StoresCarry (carry_admitted p r f q s second pool) (placed answer) second'
carry_told p r f q s second pool outcome answer second' closed told said left =
    rw (said, told, left) (go s.growing closed)
  where
    old : Geometry
    old = record { parameters = p; growth = r.state }

    new : Geometry
    new = record { parameters = q; growth = s.state }

    go : (t : Bool) → t ≡ false
        → StoresCarry (cond t (not_stepped s second pool (refused 16 0)) (carry_on p r f q s second pool)) (placed (outcome_placed (carry_answer old f new) 0)) (carry_file old f new second)
    go true e = absurd (false≢true (sym e))
    go false e = carry_stored p r f q s second pool

module _ (p : Parameters) (r : GrowthRecord) (f : File) (q : Parameters) (s : GrowthRecord) (second : File) (pool : Pool) where
  pub carry_first : carry_states p r q s ≡ false → LeavesStep (carry_of p r f q s second pool) (record { answer = Refused BadParameters 0; growth = s }) second pool
  unfolding placed refused_by
  carry_first e = rw ((carry_refusals p r f q s second pool).one e) (record { answers = refl; growths = refl; seconds = refl; pools = refl })

  pub carry_length : carry_states p r q s ≡ true → carry_lengths p f q second pool ≡ false
      → LeavesStep (carry_of p r f q s second pool) (record { answer = Refused BadLength 0; growth = s }) second pool
  unfolding placed refused_by
  carry_length e l = rw ((carry_refusals p r f q s second pool).two e l) (record { answers = refl; growths = refl; seconds = refl; pools = refl })

  -- past refusals 1 and 2
  pub carry_past : carry_states p r q s ≡ true → carry_lengths p f q second pool ≡ true → carry_of p r f q s second pool ≡ carry_admitted p r f q s second (cleared pool)
  unfolding carry_of
  carry_past e l = rw (e, l)

  pub carry_lent : carry_states p r q s ≡ true → carry_lengths p f q second pool ≡ true
      → Admitted p r.state f × (Admitted q s.state second × ((length pool.numbers ≡ q.pages * q.places) × (length pool.words ≡ q.pages * q.places)))
  unfolding carry_states valid_state carry_lengths
  carry_lent e l =
      let a = both _ _ e in
      let b = both _ _ a.1 in
      let v = both _ _ a.0 in
      let w = both _ _ b.0 in
      let m = both _ _ l in
      let n = both _ _ m.1 in
      let t = pool-sized q pool n.1 in
      (ready refl v.0 (both _ _ v.1).0 (sized p f m.0), (ready refl w.0 (both _ _ w.1).0 (sized q second n.0), (t.0, t.1.0)))

  carry-pool : (carry_admitted p r f q s second pool).pool ≡ pool
  unfolding carry_on
  carry-pool =
      go s.growing (ltb (first_unsound_lem p r.state f 0 p.pages) p.pages) (is_empty (left (hash_of q s.state) 0 q.pages (all_stars p f)))
    where
      new-file : File
      new-file = laid q.places (hash_of q s.state) q.pages (all_stars p f)

      bad : ℕ
      bad = first_unsound_lem p r.state f 0 p.pages

      go : (o t u : Bool)
          → (cond o (not_stepped s second pool (refused 16 0))
          (cond t (not_stepped s second pool (refused 5 bad))
          (cond u (record { answer = accepted 0; growth = s; second = new-file; pool = pool }) (not_stepped s second pool (refused 8 0))))).pool
          ≡ pool
      go true t u = refl
      go false true u = refl
      go false false true = refl
      go false false false = refl

pub carry_done : (p : Parameters) (r : GrowthRecord) (f : File) (q : Parameters) (s : GrowthRecord) (second : File) (pool : Pool)
    → carry_states p r q s ≡ true → carry_lengths p f q second pool ≡ true → (a : Recorded) (second' : File) (pool' : Pool) → a.growth ≡ s
    → StoresCarry (carry_admitted p r f q s second (cleared pool)) (placed a.answer) second' → pool' ≡ cleared pool
    → LeavesStep (carry_of p r f q s second pool) a second' pool'
carry_done p r f q s second pool e l a second' pool' eg S ep =
    record {
      answers = S.answers ∙ ap (λ (x : AfterStep). x.answer) (sym past);
      growths = eg ∙ sym (carry_refusals p r f q s second pool).growth;
      seconds = S.seconds ∙ ap (λ (x : AfterStep). x.second) (sym past);
      pools = ep ∙ sym (ap (λ (x : AfterStep). x.pool) past ∙ carry-pool p r f q s second (cleared pool));
    }
  where
    past : carry_of p r f q s second pool ≡ carry_admitted p r f q s second (cleared pool)
    past = carry_past p r f q s second pool e l
