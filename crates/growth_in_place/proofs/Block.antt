-- One block: a plan over it can be made, and what the code leaves of it is the rule over its stars.
use mathlib.Core.Path.{◌≡◌, sym, ap, ◌∙◌}
use mathlib.Core.Bool.{true}
use mathlib.Core.List.{List, [], map}
use Prim.Native.Nat.{ℕ, ◌+◌, ◌-◌, ◌*◌, ◌^◌, ◌<◌}
use native.Mathlib.Omega.{arith}
use lib.ListN.{get_or, take}
use Rattle.hashing.specs.declared.Parameters.{Parameters}
use Rattle.hashing.specs.declared.Geometry.{Geometry}
use Rattle.generator.specs.Generator.{top_of_lem}
use Rattle.pages.specs.Page.{part}
use Rattle.pages.specs.Shape.{stretch}
use Rattle.pages.specs.Position.{valid_word}
use Rattle.placement.specs.Rule.{Hash, pages, left, without}
use Rattle.placement.specs.File.{File, pages_at, gathered, replaced}
use Rattle.placement.specs.Hash.{hash_of}
use Rattle.placement.specs.Shape.{home_in, homes_of}
use Rattle.placement.proofs.Composition.{length-pages}
use Rattle.placement.proofs.Files.{roomy-pages}
use Rattle.placement.proofs.Sound.{AllSound, replaced-same}
use Rattle.placement.proofs.Probing.{bounded-real}
use Rattle.reach.proofs.Search.{such}
use Rattle.clean_test.specs.Raising.{Homed, raisable_from, first_raisable_lem}
use Rattle.clean_test.proofs.Raising.{none-ruled}
use Rattle.page_separator.specs.Lists.{all_below}
use Rattle.page_plan.proofs.Sourcing.{item_home}
use Rattle.page_plan.proofs.Placed.{probes-real, homes-real}
use Rattle.removal_reach.specs.Stretch.{StretchReady, restretched}
use Rattle.removal_reach.proofs.Items.{real_sound, all-numbered, numbers_below, homes-below, plannable-stretch, ready-stretch}
use Rattle.removal_reach.proofs.Ruled.{restretched-is}
use Rattle.growth_in_place.specs.Blocks.{SoundBlock}
use Rattle.growth_in_place.proofs.JoinedBlocks.{nothing_left}
use Rattle.growth_in_place.proofs.Alike.{gathered-alike, separator_alike, raisable-alike, replaced-still, part-within, map-part, ruled-alone}

module _ (g : Geometry) (lo n : ℕ) (f : File) (pool waiting poolowners : List ℕ) (B : SoundBlock g lo n f pool waiting poolowners) where
  abbrev p : Parameters
  p = g.parameters

  abbrev H : Hash
  H = hash_of g.parameters g.growth

  same_numbers : stretch p.places lo n f.numbers ≡ stretch p.places lo n B.stored.numbers
  same_numbers = ap (take (n * p.places)) B.alike.numbers

  true_homes : stretch p.places lo n pool ≡ map (item_home H) (stretch p.places lo n f.numbers)
  true_homes = B.homes ∙ homes-real p g.growth (stretch p.places lo n f.numbers)

  below : all_below (2 ^ 31) (stretch p.places lo n f.numbers) ≡ true
  below = rw same_numbers (numbers_below p B.stored B.ready.valid B.sized lo n B.inside g.growth B.sound)

  within : all_below (lo + n) (stretch p.places lo n pool) ≡ true
  within = rw (true_homes, same_numbers) (homes-below p B.stored B.ready.valid B.sized lo n B.inside g.growth B.sound)

  pub block-ready : StretchReady p lo n f pool waiting poolowners
  block-ready =
      let sizes = B.ready.pooled in
      plannable-stretch p f B.ready.valid B.ready.sized lo n B.inside B.some pool sizes.of_numbers below within waiting poolowners sizes.of_words_lem sizes.of_owners

  same-stars : gathered p.places f lo n ≡ gathered p.places B.stored lo n
  same-stars = gathered-alike p.places lo n f B.stored B.alike

  numbered : without 0 (gathered p.places f lo n) ≡ gathered p.places f lo n
  numbered = rw same-stars (all-numbered p g.growth B.stored lo n B.sound)

  fits : left H lo n (gathered p.places f lo n) ≡ []
  unfolding hash_of
  fits = rw same-stars (nothing_left valid_word H B.stored p.pages lo n B.sized B.inside (real_sound p g.growth B.stored lo n B.sound))

  pub block-placed : restretched p lo n 0 f pool ≡ replaced p.places f lo (pages H lo n (gathered p.places f lo n))
  block-placed =
      restretched-is H p (probes-real p g.growth) lo n f pool
      (ready-stretch p f B.ready.valid B.ready.sized lo n B.inside B.some pool B.ready.pooled.of_numbers below within H true_homes) 0
      ∙ rw (numbered, fits)

  all_sound : AllSound valid_word H B.stored lo n
  all_sound = real_sound p g.growth B.stored lo n B.sound

  -- the rule gives what stands there
  kept : pages_at p.places B.stored lo n ≡ pages H lo n (gathered p.places B.stored lo n) → f ≡ replaced p.places f lo (pages H lo n (gathered p.places f lo n))
  unfolding hash_of
  kept ruled =
      let still : replaced p.places f lo (pages H lo n (gathered p.places B.stored lo n)) ≡ f
      = replaced-still p.places p.pages lo f B.stored (pages H lo n (gathered p.places B.stored lo n)) B.ready.sized B.sized B.alike
      (roomy-pages H lo n (gathered p.places B.stored lo n))
      (omega (arith, B.inside, length-pages H lo n (gathered p.places B.stored lo n)))
      (rw (← ruled) (replaced-same valid_word H B.stored p.pages lo n B.sized B.inside all_sound)) in
      rw same-stars (sym still)

  -- a block of one page whose separator is 2^k − 1
  pub block-stays : n ≡ 1 → get_or f.separators lo 0 ≡ top_of_lem p.bits → f ≡ replaced p.places f lo (pages H lo n (gathered p.places f lo n))
  unfolding hash_of
  block-stays one top =
      let inside : lo < p.pages = omega (arith, B.inside) in
      let here = all_sound lo (omega arith) (omega arith) in
      let stored-top : get_or B.stored.separators lo 0 ≡ top_of_lem p.bits = sym (separator_alike p.places lo lo f B.stored B.alike (omega arith)) ∙ top in
      kept
      (rw one
      (sym (ruled-alone valid_word H (bounded-real p g.growth B.ready.valid) B.stored p.pages lo B.sized inside here stored-top)))

  -- the homes of each of its pages
  pub block-homed : Homed g f.separators f.numbers pool lo (lo + n)
  unfolding homes_of
  block-homed =
      record {
        separators = B.ready.sized.of_separators;
        numbers = B.ready.sized.of_numbers;
        homes = B.ready.pooled.of_numbers;
        low = omega arith;
        high = B.inside;
        kept =
            λ q a h.
            part-within p.places lo n q pool a h
            ∙ ap (part p.places (q - lo)) B.homes
            ∙ map-part (home_in p g.growth) p.places (q - lo) (stretch p.places lo n f.numbers)
            ∙ ap (map (home_in p g.growth)) (sym (part-within p.places lo n q f.numbers a h));
      }

  -- a block of which no separator could be one greater
  pub block-ruled : first_raisable_lem g f.separators f.numbers lo (lo + n) ≡ lo + n → f ≡ replaced p.places f lo (pages H lo n (gathered p.places f lo n))
  unfolding hash_of
  block-ruled e =
      let count : lo + n - lo ≡ n = omega arith in
      let found = such (raisable_from H lo (lo + n - lo) f.separators f.numbers) lo (lo + n - lo) in
      kept
      (none-ruled valid_word H p.pages B.stored B.sized lo n B.inside all_sound
      (λ q a h.
      sym (raisable-alike H lo f B.stored B.alike n q a)
      ∙ rw count at (found.before q a (omega (arith, e)))))
