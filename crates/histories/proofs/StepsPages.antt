-- The second set of a growth in steps: page after page of the file that the growth leaves.
use mathlib.Core.Path.{◌≡◌, refl, sym, ap, ◌∙◌}
use mathlib.Core.Bool.{true}
use mathlib.Core.List.{List, [], ◌∷◌, ◌++◌}
use Prim.Native.Nat.{ℕ, zero, suc, ◌<◌}
use native.Mathlib.Nat.{zero-mul, zero-add}
use native.Mathlib.Numerals.{add-one}
use native.Mathlib.Omega.{arith}
use borrow.Author.Tests.{eq-eqb}
use lib.ListN.{length, take, length-replicate}
use lib.Seq.{take_all}
use Rattle.hashing.specs.declared.Parameters.{Parameters}
use Rattle.hashing.specs.declared.Growth.{Growth}
use Rattle.hashing.specs.Limits.{valid_parameters}
use Rattle.pages.specs.Position.{valid_word}
use Rattle.placement.proofs.Probing.{bounded-real}
use Rattle.placement.specs.Rule.{Star, Contents, pages, separators}
use Rattle.placement.specs.File.{File, pages_at, column, file_of, laid, replaced, written}
use Rattle.placement.specs.Shape.{Sized}
use Rattle.placement.specs.Hash.{hash_of}
use Rattle.placement.proofs.Composition.{length-pages}
use Rattle.placement.proofs.Pages.{Proper}
use Rattle.placement.proofs.Writing.{Roomy}
use Rattle.placement.proofs.Files.{length-pages_at, all-replaced, replaced-add, sized-replaced, roomy-pages, pages_at-laid}
use Rattle.reach.proofs.Cascading.{pages_at-add}
use Rattle.calls.specs.Calls.{file_fits_lem, empty_file_lem}
use Rattle.histories.specs.Steps.{partly_done}
use Rattle.histories.proofs.Make.{laid_none}

replaced-none : (b : ℕ) (f : File) → replaced b f 0 [] ≡ f
unfolding replaced separators column written
replaced-none b f = rw (zero-mul b)

roomy-take : (b n : ℕ) (cs : List Contents) → Roomy b cs → Roomy b (take n cs)
roomy-take b zero cs r = tt
roomy-take b (suc n) [] r = tt
roomy-take b (suc n) (c ∷ cs) r = (r.0, roomy-take b n cs r.1)

empty-sized : (p : Parameters) → Sized p.places p.pages (empty_file_lem p)
unfolding empty_file_lem
empty-sized p = record { of_separators = length-replicate _ _; of_numbers = length-replicate _ _; of_words_lem = length-replicate _ _; of_owners = length-replicate _ _ }

pub none_done : (p : Parameters) (finished : File) → partly_done p finished 0 ≡ empty_file_lem p
unfolding partly_done pages_at
none_done p finished = replaced-none p.places (empty_file_lem p)

-- The finished file is the layout of some stars.
module _ (p : Parameters) (g : Growth) (valid : valid_parameters p ≡ true) (w : List Star) (proper : Proper valid_word w) where
  abbrev finished : File
  finished = laid p.places (hash_of p g) p.pages w

  -- its pages, by the rule
  done-pages : (n : ℕ) → n < suc p.pages → pages_at p.places finished 0 n ≡ take n (pages (hash_of p g) 0 p.pages w)
  unfolding hash_of
  done-pages n h = pages_at-laid valid_word (hash_of p g) p.pages w proper 0 n (omega (arith, zero-add n))

  done-roomy : (n : ℕ) → n < suc p.pages → Roomy p.places (pages_at p.places finished 0 n)
  unfolding hash_of
  done-roomy n h = rw (done-pages n h) (roomy-take p.places n _ (roomy-pages (hash_of p g) 0 p.pages w))

  pub one_more : (j : ℕ) → j < p.pages → replaced p.places (partly_done p finished j) j (pages_at p.places finished j 1) ≡ partly_done p finished (suc j)
  unfolding partly_done
  one_more j h =
      let front : List Contents = pages_at p.places finished 0 j in
      ap (λ (n : ℕ). replaced p.places (replaced p.places (empty_file_lem p) 0 front) n (pages_at p.places finished j 1))
      (omega (arith, length-pages_at p.places finished 0 j, zero-add (length front)))
      ∙ replaced-add p.places p.pages (empty_file_lem p) 0 front (pages_at p.places finished j 1) (empty-sized p) (done-roomy j (omega arith)) (omega arith)
      ∙ ap (λ (n : ℕ). replaced p.places (empty_file_lem p) 0 (front ++ pages_at p.places finished n 1)) (sym (zero-add j))
      ∙ ap (replaced p.places (empty_file_lem p) 0) (sym (pages_at-add p.places finished 0 j 1) ∙ ap (pages_at p.places finished 0) (add-one j))

  pub all_done : partly_done p finished p.pages ≡ finished
  unfolding partly_done laid hash_of empty_file_lem
  all_done =
      let H = hash_of p g in
      ap (λ (f : File). replaced p.places f 0 (pages_at p.places finished 0 p.pages)) (sym (laid_none p.places H (bounded-real p g valid) p.pages))
      ∙ ap (replaced p.places (file_of p.places (pages H 0 p.pages [])) 0)
      (done-pages p.pages (omega arith) ∙ take_all p.pages (pages H 0 p.pages w) (omega (arith, length-pages H 0 p.pages w)))
      ∙ all-replaced p.places (pages H 0 p.pages []) (pages H 0 p.pages w) (roomy-pages H 0 p.pages []) (roomy-pages H 0 p.pages w)
      (length-pages H 0 p.pages w ∙ sym (length-pages H 0 p.pages []))

  -- its buffers have the right lengths
  pub partly_fits : (j : ℕ) → j < p.pages → file_fits_lem p (partly_done p finished j) ≡ true
  unfolding file_fits_lem partly_done
  partly_fits j h =
      let front : List Contents = pages_at p.places finished 0 j in
      let z =
      sized-replaced p.places p.pages (empty_file_lem p) 0 front (empty-sized p) (done-roomy j (omega arith))
      (omega (arith, length-pages_at p.places finished 0 j, zero-add (length front))) in
      rw (eq-eqb _ _ z.of_separators, eq-eqb _ _ z.of_numbers, eq-eqb _ _ z.of_words_lem, eq-eqb _ _ z.of_owners)
