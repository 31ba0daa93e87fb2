-- A growth in place: the stars that move are on the new page, all pages are sound under the next growth state, blocks are placed anew.
use mathlib.Core.Path.{◌≡◌, sym, ap, ◌∙◌}
use mathlib.Core.Bool.{false}
use mathlib.Core.List.{List, []}
use Prim.Native.Nat.{ℕ, ◌*◌}
use native.Mathlib.Nat.{zero-mul, le_refl}
use lib.Dec.{ltb}
use lib.ListN.{length}
use borrow.Author.Tests.{le-ltb}
use Rattle.buffers.specs.Lists.{written}
use Rattle.buffers.proofs.Written.{written-whole}
use Rattle.hashing.specs.declared.Parameters.{Parameters}
use Rattle.hashing.specs.declared.Growth.{Growth}
use Rattle.hashing.specs.Geometry.{grown}
use Rattle.placement.specs.Rule.{Star, Contents, pages, left, separators}
use Rattle.placement.specs.File.{File, column, file_of, replaced}
use Rattle.placement.specs.Shape.{Sized}
use Rattle.placement.specs.Hash.{hash_of}
use Rattle.placement.proofs.Composition.{length-pages}
use Rattle.placement.proofs.Standing.{length-separators}
use Rattle.placement.proofs.Writing.{Roomy, length-column}
use Rattle.placement.proofs.Files.{number_of, word_of, owner_of, roomy-pages}
use Rattle.reach.specs.Reach.{first_unsound_lem, all_stars}
use Rattle.page_plan.specs.declared.outcome.Outcome.TheVariants.{On}
use Rattle.growth_in_place.proofs.Renewed.{nothing-past}
use Rattle.growth_in_place.specs.Expansion.{Moved}
use Rattle.growth_plan.specs.Growth.{growth_answer, growth_file}

-- all pages replaced: nothing of the file is left
pub replaced-whole : (b M : ℕ) (f : File) (cs : List Contents) → Sized b M f → Roomy b cs → length cs ≡ M → replaced b f 0 cs ≡ file_of b cs
unfolding replaced file_of
replaced-whole b M f cs z r e =
    λ i. record { separators = whole-list i; numbers = whole number_of f.numbers z.of_numbers i; words = whole word_of f.words z.of_words_lem i; owners = whole owner_of f.owners z.of_owners i }
  where
    whole-list : written 0 (separators cs) f.separators ≡ separators cs
    whole-list = written-whole (separators cs) f.separators (length-separators cs ∙ e ∙ sym z.of_separators)

    whole : (h : Star → ℕ) (l : List ℕ) → length l ≡ M * b → written (0 * b) (column b h cs) l ≡ column b h cs
    whole h l k = rw (zero-mul b) (written-whole (column b h cs) l (length-column b h cs r ∙ ap (λ (n : ℕ). n * b) e ∙ sym k))

module _ (p : Parameters) (g : Growth) (f f₁ f₂ : File) (homes : List ℕ) (sized : Sized p.places p.pages f)
    (sound : first_unsound_lem p g f 0 p.pages ≡ p.pages) (moved : Moved p g f f₁ homes)
    (renewed : f₂ ≡ replaced p.places f₁ 0 (pages (hash_of p (grown p g)) 0 p.pages (all_stars p f₁))) where
  all_sound : ltb (first_unsound_lem p g f 0 p.pages) p.pages ≡ false
  all_sound = rw sound (le-ltb p.pages p.pages (le_refl p.pages))

  fits : left (hash_of p (grown p g)) 0 p.pages (all_stars p f) ≡ []
  fits = rw moved.stars at (nothing-past p (grown p g) f₁ moved.all_sound_lem moved.sized)

  same-file : f₂ ≡ replaced p.places f 0 (pages (hash_of p (grown p g)) 0 p.pages (all_stars p f))
  unfolding hash_of
  same-file =
      let H = hash_of p (grown p g) in
      let roomy : (w : List Star) → Roomy p.places (pages H 0 p.pages w) = λ w. roomy-pages H 0 p.pages w in
      renewed
      ∙ replaced-whole p.places p.pages f₁ (pages H 0 p.pages (all_stars p f₁)) moved.sized (roomy (all_stars p f₁)) (length-pages H 0 p.pages (all_stars p f₁))
      ∙ ap (λ (w : List Star). file_of p.places (pages H 0 p.pages w)) moved.stars
      ∙ sym (replaced-whole p.places p.pages f (pages H 0 p.pages (all_stars p f)) sized (roomy (all_stars p f)) (length-pages H 0 p.pages (all_stars p f)))

  pub grown-answer : (page : ℕ) → On page ≡ growth_answer p g f (grown p g) page
  unfolding growth_answer
  grown-answer page = rw (all_sound, fits)

  pub grown-file : f₂ ≡ growth_file p g f (grown p g)
  unfolding growth_file
  grown-file = rw (all_sound, fits) same-file
