-- One page of a growth: the page of the plan, in the second set, is the page of the file that the growth leaves.
use mathlib.Core.Path.{◌≡◌, refl, ◌∙◌}
use mathlib.Core.Bool.{Bool, true, false, cond}
use mathlib.Core.List.{List, [], ◌∷◌, map}
use Prim.Native.Nat.{ℕ, ◌*◌, ◌<◌}
use native.Mathlib.Omega.{arith}
use lib.Dec.{ltb}
use lib.ListN.{get_or, take, drop}
use borrow.Author.Tests.{ltb-false}
use Rattle.own_stars.proofs.Laying.{unsound-on, overflows_on}
use Rattle.buffers.specs.Lists.{written}
use Rattle.pages.specs.Page.{part}
use Rattle.pages.specs.Position.{valid_word}
use Rattle.hashing.specs.declared.Parameters.{Parameters}
use Rattle.hashing.specs.declared.Growth.{Growth}
use Rattle.placement.specs.Rule.{Contents, pages, left}
use Rattle.placement.specs.Shape.{blank}
use Rattle.placement.specs.File.{File, pages_at, file_of, replaced, laid}
use Rattle.placement.specs.Shape.{Sized}
use Rattle.placement.specs.Hash.{hash_of, lent}
use Rattle.placement.proofs.Composition.{length-pages}
use Rattle.placement.proofs.Sound.{gathered-proper}
use Rattle.placement.proofs.Pages.{Proper}
use Rattle.placement.proofs.Writing.{Roomy}
use Rattle.placement.proofs.Files.{roomy-pages, pages_at-laid}
use Rattle.reach.specs.Reach.{is_empty, first_unsound_lem, all_stars}
use Rattle.page_plan.specs.Sources.{named_item}
use Rattle.page_plan.specs.declared.outcome.Outcome.TheVariants.{On, Unsound, Overflows}
use Rattle.removal_reach.proofs.Items.{all_sound, real_sound}
use Rattle.growth_block.specs.Block.{NamesPage}
use Rattle.growth_block.proofs.Named.{one-item}
use Rattle.growth_plan.specs.Growth.{growth_answer, growth_file}
use Rattle.growth_plan.proofs.InPlace.{replaced-whole}
use Rattle.growth_plan.specs.Step.{page_stepped}
use Rattle.growth_plan.proofs.PlannedGrowth.{ways, grown-file}

-- which of three things the growth decides, by the answer

unsound-overflows : (bad : ℕ) → Unsound bad ≡ Overflows → ⊥
unsound-overflows bad e = let z : ◌≡◌ {A = ℕ} 0 1 = cc in omega arith

unsound-way : {A : Type 0} (t u : Bool) (bad first page : ℕ) (x y : A) → Unsound bad ≡ cond t (Unsound first) (cond u (On page) Overflows) → x ≡ cond t x (cond u y x)
unsound-way true u bad first page x y e = refl
unsound-way false true bad first page x y e = absurd (unsound-on bad page e)
unsound-way false false bad first page x y e = refl

overflows_way : {A : Type 0} (t u : Bool) (first page : ℕ) (x y : A) → Overflows ≡ cond t (Unsound first) (cond u (On page) Overflows) → x ≡ cond t x (cond u y x)
overflows_way true u first page x y e = refl
overflows_way false true first page x y e = absurd (overflows_on page e)
overflows_way false false first page x y e = refl

module _ (p : Parameters) (g next : Growth) (f second : File) (step page : ℕ) where
  pub unsound-stepped : (bad : ℕ) → Unsound bad ≡ growth_answer p g f next page → second ≡ page_stepped p g f next second step
  unfolding growth_answer page_stepped
  unsound-stepped bad e = unsound-way (ltb (first_unsound_lem p g f 0 p.pages) p.pages) (is_empty (left (hash_of p next) 0 p.pages (all_stars p f))) bad _ page second _ e

  pub overflows_stepped : Overflows ≡ growth_answer p g f next page → second ≡ page_stepped p g f next second step
  unfolding growth_answer page_stepped
  overflows_stepped e = overflows_way (ltb (first_unsound_lem p g f 0 p.pages) p.pages) (is_empty (left (hash_of p next) 0 p.pages (all_stars p f))) _ page second _ e

-- what the code writes of a page is the page
page-written : (p : Parameters) (f second : File) (step : ℕ) (pool planned : List ℕ) (c : Contents) → NamesPage p f pool planned step c
    → lent (written step (take 1 (drop step planned)) second.separators)
    (written (step * p.places) (map (named_item f.numbers 0) (part p.places step pool)) second.numbers)
    (written (step * p.places) (map (named_item f.words 0) (part p.places step pool)) second.words)
    (written (step * p.places) (map (named_item f.owners 0) (part p.places step pool)) second.owners)
    ≡ replaced p.places second step (c ∷ [])
unfolding replaced
page-written p f second step pool planned c N = rw (N.of_separators, N.of_numbers, N.of_words_lem, N.of_owners)

-- the page written where the growth is accepted
module _ (p : Parameters) (g next : Growth) (f second : File) (step page new : ℕ) (sized : Sized p.places p.pages f) (inside : step < p.pages)
    (answer : On new ≡ growth_answer p g f next page) where
  abbrev cs : List Contents
  cs = pages (hash_of p next) 0 p.pages (all_stars p f)

  decided : (ltb (first_unsound_lem p g f 0 p.pages) p.pages ≡ false) × (is_empty (left (hash_of p next) 0 p.pages (all_stars p f)) ≡ true)
  decided = ways p g next f page new answer

  proper : Proper valid_word (all_stars p f)
  unfolding hash_of
  proper =
      gathered-proper valid_word (hash_of p g) f 0 p.pages
      (real_sound p g f 0 p.pages (all_sound p g f 0 p.pages (omega (arith, ltb-false (first_unsound_lem p g f 0 p.pages) p.pages decided.0))))

  roomy : Roomy p.places cs
  unfolding hash_of
  roomy = roomy-pages (hash_of p next) 0 p.pages (all_stars p f)

  whole : growth_file p g f next ≡ file_of p.places cs
  whole = grown-file p g next f page new answer ∙ replaced-whole p.places p.pages f cs sized roomy (length-pages (hash_of p next) 0 p.pages (all_stars p f))

  one-page : pages_at p.places (file_of p.places cs) step 1 ≡ get_or cs step blank ∷ []
  unfolding hash_of laid
  one-page =
      pages_at-laid valid_word (hash_of p next) p.pages (all_stars p f) proper step 1 (omega arith)
      ∙ one-item cs step blank (omega (arith, length-pages (hash_of p next) 0 p.pages (all_stars p f)))

  pub on-stepped : (pool planned : List ℕ) → NamesPage p f pool planned step (get_or cs step blank) → (s n w o : List ℕ)
      → s ≡ written step (take 1 (drop step planned)) second.separators
      → n ≡ written (step * p.places) (map (named_item f.numbers 0) (part p.places step pool)) second.numbers
      → w ≡ written (step * p.places) (map (named_item f.words 0) (part p.places step pool)) second.words
      → o ≡ written (step * p.places) (map (named_item f.owners 0) (part p.places step pool)) second.owners
      → lent s n w o ≡ page_stepped p g f next second step
  unfolding page_stepped
  on-stepped pool planned named s n w o es en ew eo =
      rw (es, en, ew, eo, decided.0, decided.1, whole, one-page)
      (page-written p f second step pool planned (get_or cs step blank) named)
