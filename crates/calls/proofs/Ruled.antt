-- Check accepts exactly the clean files.
use mathlib.Core.Path.{◌≡◌, sym, ap, ◌∙◌}
use mathlib.Core.Bool.{true, not}
use mathlib.Core.List.{List}
use mathlib.Core.Logic.{◌↔◌}
use Prim.Native.Nat.{ℕ, suc, ◌*◌, ◌<◌}
use native.Mathlib.Nat.{zero-add, zero-mul}
use native.Mathlib.Omega.{arith}
use lib.ListN.{length}
use borrow.Author.Tests.{not-false}
use Rattle.buffers.specs.Lists.{written}
use Rattle.buffers.proofs.Written.{written-whole}
use Rattle.hashing.specs.declared.Parameters.{Parameters}
use Rattle.hashing.specs.declared.Growth.{Growth}
use Rattle.pages.specs.Position.{valid_word}
use Rattle.placement.specs.Rule.{Star, Contents, pages, separators}
use Rattle.placement.specs.File.{File, Clean, gathered, column, replaced, file_of, laid}
use Rattle.placement.specs.Shape.{Sized}
use Rattle.placement.specs.Hash.{hash_of, sound_at}
use Rattle.placement.proofs.Composition.{length-pages}
use Rattle.placement.proofs.Standing.{length-separators}
use Rattle.placement.proofs.Writing.{Roomy, length-column}
use Rattle.placement.proofs.Files.{roomy-pages, sized-replaced}
use Rattle.reach.specs.Reach.{first_unsound_lem}
use Rattle.reach.proofs.Search.{such}
use Rattle.calls.specs.Spots.{spot_in, first_spot, ruled}
use Rattle.calls.proofs.Alike.{none-such, no_spot, alike-by-spot, alike_same}

-- no page is unsound
pub all_sound : (p : Parameters) (g : Growth) (f : File) → first_unsound_lem p g f 0 p.pages ≡ p.pages → (q : ℕ) → q < p.pages → sound_at p g f q ≡ true
unfolding first_unsound_lem
all_sound p g f e q h =
    not-false (sound_at p g f q)
    ((such (λ (r : ℕ). not (sound_at p g f r)) 0 p.pages).before q (omega arith) (rw e h))

module _ (b M : ℕ) (f : File) (cs : List Contents) (sized : Sized b M f) (roomy : Roomy b cs) (count : length cs ≡ M) where
  column-written : (g : Star → ℕ) (l : List ℕ) → length l ≡ M * b → written (0 * b) (column b g cs) l ≡ column b g cs
  column-written g l e =
      rw (zero-mul b)
      (written-whole (column b g cs) l (length-column b g cs roomy ∙ ap (λ (n : ℕ). n * b) count ∙ sym e))

  -- all pages replaced
  replaced-all : replaced b f 0 cs ≡ file_of b cs
  unfolding replaced file_of
  replaced-all =
      λ i. record {
        separators = written-whole (separators cs) f.separators (length-separators cs ∙ count ∙ sym sized.of_separators) i;
        numbers = column-written (λ (s : Star). s.number) f.numbers sized.of_numbers i;
        words = column-written (λ (s : Star). s.payload.word) f.words sized.of_words_lem i;
        owners = column-written (λ (s : Star). s.payload.owner) f.owners sized.of_owners i;
      }

module _ (p : Parameters) (g : Growth) (f : File) (sized : Sized p.places p.pages f) where
  -- the file by the rule is the layout of its stars
  pub ruled-laid : ruled p g f ≡ laid p.places (hash_of p g) p.pages (gathered p.places f 0 p.pages)
  unfolding ruled laid hash_of
  ruled-laid =
      let w : List Star = gathered p.places f 0 p.pages in
      replaced-all p.places p.pages f (pages (hash_of p g) 0 p.pages w) sized
      (roomy-pages (hash_of p g) 0 p.pages w)
      (length-pages (hash_of p g) 0 p.pages w)

  pub sized-ruled : Sized p.places p.pages (ruled p g f)
  unfolding ruled hash_of
  sized-ruled =
      let w : List Star = gathered p.places f 0 p.pages in
      sized-replaced p.places p.pages f 0 (pages (hash_of p g) 0 p.pages w) sized
      (roomy-pages (hash_of p g) 0 p.pages w)
      (omega (arith, length-pages (hash_of p g) 0 p.pages w))

  clean-accepted : Clean valid_word (hash_of p g) p.pages f
      → (first_unsound_lem p g f 0 p.pages ≡ p.pages) × (first_spot p f (ruled p g f) ≡ p.pages * suc p.places)
  unfolding first_unsound_lem sound_at first_spot hash_of
  clean-accepted c = (
    none-such (λ (q : ℕ). not (sound_at p g f q)) 0 p.pages (λ q h. ap not (c.all_sound_lem q (omega arith))) ∙ zero-add p.pages,
    ap (spot_in p.pages p.places f) (ruled-laid ∙ sym c.by_rule) ∙ no_spot p.pages p.places f,
  )

  accepted-clean : first_unsound_lem p g f 0 p.pages ≡ p.pages → first_spot p f (ruled p g f) ≡ p.pages * suc p.places
      → Clean valid_word (hash_of p g) p.pages f
  unfolding sound_at first_spot hash_of
  accepted-clean u e =
      record {
        all_sound_lem = λ q h. all_sound p g f u q h;
        by_rule = alike_same p.pages p.places f (ruled p g f) sized sized-ruled (alike-by-spot p.pages p.places f (ruled p g f) e) ∙ ruled-laid;
      }

  -- no page is unsound and no spot differs from the rule, exactly of the clean files
  pub accepts-clean : ((first_unsound_lem p g f 0 p.pages ≡ p.pages) × (first_spot p f (ruled p g f) ≡ p.pages * suc p.places))
      ↔ Clean valid_word (hash_of p g) p.pages f
  accepts-clean = (λ e. accepted-clean e.0 e.1, clean-accepted)
