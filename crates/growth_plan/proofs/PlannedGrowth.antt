-- A growth planned over all pages, or accepted without a plan: what the code's answers say of the growth, and of one page of it.
use mathlib.Core.Path.{◌≡◌, refl, sym, ap, subst, ◌∙◌}
use mathlib.Core.Bool.{Bool, true, false, cond}
use mathlib.Core.List.{List, []}
use Prim.Native.Nat.{ℕ, ◌+◌, ◌-◌, ◌*◌, ◌^◌, ◌≤◌, ◌<◌}
use native.Mathlib.Omega.{arith}
use native.Mathlib.Nat.{sub-zero, le_refl}
use lib.Dec.{eqb, ltb}
use lib.ListN.{length, get_or, take, replicate, length-replicate}
use lib.Seq.{slice}
use borrow.Author.Tests.{le-ltb}
use Rattle.own_stars.proofs.Laying.{unsound-on, overflows_on}
use Rattle.hashing.specs.declared.Parameters.{Parameters}
use Rattle.hashing.specs.declared.Growth.{Growth}
use Rattle.hashing.specs.Geometry.{page_count, grown}
use Rattle.hashing.specs.Limits.{valid_parameters, valid_growth}
use Rattle.hashing.proofs.Bounds.{limits}
use Rattle.pages.specs.Shape.{stretch}
use Rattle.placement.specs.Rule.{pages, left}
use Rattle.placement.specs.Shape.{blank}
use Rattle.placement.specs.File.{File, replaced}
use Rattle.placement.specs.Shape.{Sized}
use Rattle.placement.specs.Hash.{hash_of, lent}
use Rattle.placement.specs.Shape.{homes_of}
use Rattle.placement.proofs.Composition.{length-pages}
use Rattle.placement.proofs.Files.{roomy-pages}
use Rattle.page_separator.specs.Lists.{all, all_below}
use Rattle.page_plan.specs.Gather.{stretch_words, grouped, Scattered}
use Rattle.reach.specs.Reach.{is_empty, first_unsound_lem, all_stars}
use Rattle.page_plan.specs.Plans.{AllPlaced, Started, Settleable}
use Rattle.page_plan.proofs.Applying.{applied}
use Rattle.page_plan.proofs.Blocks.{plans-grouped}
use Rattle.page_plan.proofs.Items.{words_count}
use Rattle.page_plan.proofs.Sourcing.{length-stretch}
use Rattle.page_plan.proofs.Stretch.{started, stands, started-again, planned-again}
use Rattle.page_plan.specs.declared.outcome.Outcome.TheVariants.{On, Unsound, Overflows}
use Rattle.removal_reach.specs.Stretch.{StretchReady, fitting, restretched}
use Rattle.removal_reach.proofs.Items.{plannable-stretch}
use Rattle.removal_reach.proofs.Ruled.{stars-fit, applied-stretch}
use Rattle.growth_in_place.specs.Expansion.{Spacious}
use Rattle.growth_block.specs.Block.{NamesPage}
use Rattle.growth_block.proofs.Holding.{nothing-past}
use Rattle.growth_block.proofs.Named.{page-named}
use Rattle.growth_plan.specs.Growth.{growth_answer, growth_file}
use Rattle.growth_plan.proofs.Growing.{some-pages, homes-size, homes-within, growth_plannable, growth_done}

-- the items alone, as a file
pub all-ready : (p : Parameters) (next : Growth) (ns pool waiting : List ℕ) → valid_parameters p ≡ true → valid_growth p next ≡ true
    → length ns ≡ p.pages * p.places → length waiting ≡ p.pages * p.places → all_below (2 ^ 31) (stretch p.places 0 p.pages ns) ≡ true
    → pool ≡ homes_of p next ns → StretchReady p 0 p.pages (lent (replicate p.pages 0) ns ns ns) pool waiting waiting
all-ready p next ns pool waiting valid later many long below e =
    plannable-stretch p (lent (replicate p.pages 0) ns ns ns) valid
    (record { of_separators = length-replicate p.pages 0; of_numbers = many; of_words_lem = many; of_owners = many }) 0 p.pages (omega arith)
    (some-pages p next ns pool valid later many e) pool (homes-size p next ns pool valid later many e) below (homes-within p next ns pool valid later many e)
    waiting waiting long long

-- the waiting list has room for the words of a stretch
pub words-fit : (q : Parameters) (lo n : ℕ) (f : File) (pool waiting poolowners : List ℕ) → StretchReady q lo n f pool waiting poolowners
    → 0 + length (stretch_words q.places lo n 0 f.numbers pool) ≤ length waiting
words-fit q lo n f pool waiting poolowners L =
    rw (words_count (lo * q.places) 0 (stretch q.places lo n f.numbers) (stretch q.places lo n pool)
    (omega (arith, length-stretch q.places lo n f.numbers L.numbers_long, length-stretch q.places lo n pool L.pool_long)))
    (stars-fit q lo n f pool waiting poolowners L 0)

-- words gathered by home, and all pages placed over them
module _ (q : Parameters) (l U W ends : List ℕ) (S : Scattered 0 q.pages 0 l U W ends) (room : 0 + length l ≤ length U) (kept : length W ≡ length U)
    (end : ℕ) (all_of : end ≡ 0 + length l) where
  ready : Started 0 q.pages 0 l W ends
  ready = started 0 q.pages 0 l U W ends S room kept

  in_groups_lem : slice 0 end W ≡ grouped 0 0 q.pages l
  in_groups_lem = ap (λ (n : ℕ). slice 0 n W) all_of ∙ stands 0 q.pages 0 l W ends ready

  pub settleable : (pool planned : List ℕ) → valid_parameters q ≡ true → 0 + q.pages ≤ length planned → (0 + q.pages) * q.places ≤ length pool
      → q.pages ≤ length ends → length U ≤ 32768 → Settleable q 0 q.pages 0 end pool W planned ends
  settleable pool planned valid of_planned of_pool of_ends few =
      record {
        valid = valid;
        pages = omega (arith, (limits q valid).pages_most);
        of_planned = of_planned;
        of_pool = of_pool;
        of_ends = of_ends;
        few = omega arith;
        order = omega arith;
        inside = omega arith;
        grouped_are = rw in_groups_lem (started-again 0 q.pages 0 l W ends ready);
        near = unfold all in refl;
      }

  pub placed-again : (pool pool' planned planned' W' : List ℕ) (r : Bool) → AllPlaced q (take end W) pool pool' planned planned' W' r
      → AllPlaced q l pool pool' planned planned' W' r
  placed-again pool pool' planned planned' W' r A =
      let B : AllPlaced q (grouped 0 0 q.pages l) pool pool' planned planned' W' r
      = subst (λ (s : List ℕ). AllPlaced q s pool pool' planned planned' W' r) in_groups_lem A in
      record {
        fits = B.fits ∙ ap (λ (s : List ℕ). eqb (length s) 0) (plans-grouped q 0 q.pages [] l).1;
        plan = λ e. planned-again q 0 q.pages [] l pool pool' planned planned' W' 0 (B.plan e);
      }

-- all pages are sound, and planned under the growth state `next`
module _ (p : Parameters) (g next : Growth) (f : File) (valid : valid_parameters p ≡ true) (sized : Sized p.places p.pages f)
    (later : valid_growth p next ≡ true) (every : first_unsound_lem p g f 0 p.pages ≡ p.pages)
    (pool' planned planned' W' : List ℕ) (r : Bool) (page : ℕ)
    (A : AllPlaced p (stretch_words p.places 0 p.pages 0 f.numbers (homes_of p next f.numbers)) (homes_of p next f.numbers) pool' planned planned' W' r) where
  abbrev homes : List ℕ
  homes = homes_of p next f.numbers

  decided : (t : Bool) → r ≡ t → t ≡ fitting p 0 p.pages 0 f homes
  unfolding fitting
  decided t e = sym e ∙ A.fits

  pub plan_overflows : r ≡ false → (Overflows ≡ growth_answer p g f next page) × (f ≡ growth_file p g f next)
  unfolding restretched
  plan_overflows e =
      growth_done p g f valid sized every next later homes refl page false (decided false e) f (rw (← decided false e))

  pub plan_fits : r ≡ true → p.pages ≤ length planned
      → (On page ≡ growth_answer p g f next page) × (applied p.places 0 p.pages 0 0 0 pool' planned' f ≡ growth_file p g f next)
  unfolding restretched
  plan_fits e room =
      let ready = growth_plannable p g f valid sized every next later homes refl f.words f.owners sized.of_words_lem sized.of_owners in
      growth_done p g f valid sized every next later homes refl page true (decided true e) (applied p.places 0 p.pages 0 0 0 pool' planned' f)
      (rw (← decided true e) (applied-stretch p 0 p.pages f homes f.words f.owners ready 0 pool' planned planned' W' 0 (omega arith) (A.plan e)))

-- which of three things the growth decides, by the answer
pub on-way : (t u : Bool) (new first page : ℕ) → On new ≡ cond t (Unsound first) (cond u (On page) Overflows) → (t ≡ false) × (u ≡ true)
on-way true u new first page e = absurd (unsound-on first new (sym e))
on-way false true new first page e = (refl, refl)
on-way false false new first page e = absurd (overflows_on new (sym e))

-- a growth that is accepted
module _ (p : Parameters) (g next : Growth) (f : File) (page new : ℕ) (answer : On new ≡ growth_answer p g f next page) where
  pub ways : (ltb (first_unsound_lem p g f 0 p.pages) p.pages ≡ false) × (is_empty (left (hash_of p next) 0 p.pages (all_stars p f)) ≡ true)
  unfolding growth_answer
  ways = on-way (ltb (first_unsound_lem p g f 0 p.pages) p.pages) (is_empty (left (hash_of p next) 0 p.pages (all_stars p f))) new _ page answer

  pub grown-file : growth_file p g f next ≡ replaced p.places f 0 (pages (hash_of p next) 0 p.pages (all_stars p f))
  unfolding growth_file
  grown-file = rw (ways.0, ways.1)

  -- one page of the plan of all pages
  pub all_named : (step : ℕ) (pool planned : List ℕ) → Sized p.places p.pages f → length pool ≡ p.pages * p.places → p.pages ≤ length planned → step < p.pages
      → applied p.places 0 p.pages 0 0 0 pool planned f ≡ growth_file p g f next
      → NamesPage p f pool planned step (get_or (pages (hash_of p next) 0 p.pages (all_stars p f)) step blank)
  unfolding hash_of
  all_named step pool planned sized long room inside e =
      rw (sub-zero step) at
      (page-named p f 0 p.pages step pool planned (pages (hash_of p next) 0 p.pages (all_stars p f)) sized long (omega arith) (omega arith)
      (roomy-pages (hash_of p next) 0 p.pages (all_stars p f)) (length-pages (hash_of p next) 0 p.pages (all_stars p f)) (omega arith) (omega arith) (e ∙ grown-file))

-- the new page has room: no 8 is possible
pub spacious-answer : (p : Parameters) (g : Growth) (f : File) → valid_parameters p ≡ true → valid_growth p g ≡ true → Sized p.places p.pages f
    → first_unsound_lem p g f 0 p.pages ≡ p.pages → page_count p g < p.pages → Spacious p g f.separators f.numbers → (page : ℕ) → On page ≡ growth_answer p g f (grown p g) page
unfolding growth_answer
spacious-answer p g f valid grows sized all room spacious page =
    let sound : ltb (first_unsound_lem p g f 0 p.pages) p.pages ≡ false = rw all (le-ltb p.pages p.pages (le_refl p.pages)) in
    rw (sound, nothing-past p g f valid grows sized all room spacious)
