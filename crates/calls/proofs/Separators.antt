-- Check refuses every file that differs from a clean one in its separators alone.
use mathlib.Core.Path.{◌≡◌, refl, sym, ap, ◌∙◌, subst}
use mathlib.Core.Bool.{Bool, true, false, cond, ◌&&◌}
use mathlib.Core.List.{List}
use Prim.Native.Nat.{ℕ, zero, suc, ◌*◌, ◌/◌, ◌%◌}
use native.Mathlib.Omega.{arith}
use lib.Dec.{ltb}
use lib.ListN.{length}
use borrow.Author.Tests.{eq-eqb}
use Rattle.hashing.specs.declared.Parameters.{Parameters}
use Rattle.hashing.specs.declared.Growth.{Growth}
use Rattle.hashing.specs.Limits.{valid_parameters, valid_growth}
use Rattle.pages.specs.Position.{valid_word}
use Rattle.placement.specs.Rule.{pour}
use Rattle.placement.specs.File.{File, Clean, stars_at, gathered, laid}
use Rattle.placement.specs.Shape.{Sized}
use Rattle.placement.specs.Hash.{hash_of, lent}
use Rattle.placement.proofs.Files.{sized-laid}
use Rattle.placement.proofs.Sound.{sound-facts, gathered-proper}
use Rattle.reach.specs.Reach.{first_unsound_lem}
use Rattle.calls.specs.Spots.{first_spot, ruled}
use Rattle.calls.specs.Answers.{Pool, spotted, accepted}
use Rattle.calls.specs.Calls.{check_of, checked_at, file_fits_lem, pool_fits_lem}
use Rattle.calls.proofs.Refusals.{well-lent}
use Rattle.calls.proofs.Accepting.{check_clean}

-- a file's stars are those of its numbers, words and owners
gathered-same : (b : ℕ) (separators : List ℕ) (f : File) (from n : ℕ) → gathered b (lent separators f.numbers f.words f.owners) from n ≡ gathered b f from n
unfolding gathered stars_at
gathered-same b separators f from zero = refl
gathered-same b separators f from (suc n) = ap (pour (stars_at b f from)) (gathered-same b separators f (suc from) n)

checked-five : (p : Parameters) (bad spot : ℕ) → ((checked_at p bad spot).refusal ≡ 0 → ⊥) → (checked_at p bad spot).refusal ≡ 5
unfolding checked_at spotted
checked-five p bad spot = go (ltb bad p.pages) (ltb spot (p.pages * suc p.places))
  where
    told : Bool → Bool → ℕ
    told t u = (cond t (spotted 5 bad p.places) (cond u (spotted 5 (spot / suc p.places) (spot % suc p.places)) (accepted 0))).refusal

    go : (t u : Bool) → (told t u ≡ 0 → ⊥) → told t u ≡ 5
    go true u h = refl
    go false true h = refl
    go false false h = absurd (h refl)

-- well lent, a check that does not accept refuses with 5
check_five : (p : Parameters) (g : Growth) (f : File) (pool : Pool) → valid_parameters p && valid_growth p g ≡ true → file_fits_lem p f && pool_fits_lem p pool ≡ true
    → ((check_of p g f pool).answer.refusal ≡ 0 → ⊥)
    → (check_of p g f pool).answer.refusal ≡ 5
unfolding check_of
check_five p g f pool valid fits =
    rw (well-lent p g (file_fits_lem p f && pool_fits_lem p pool) valid fits)
    (checked-five p (first_unsound_lem p g f 0 p.pages) (first_spot p f (ruled p g f)))

module _ (p : Parameters) (g : Growth) (f : File) (clean : Clean valid_word (hash_of p g) p.pages f) where
  clean-sized : Sized p.places p.pages f
  unfolding hash_of
  clean-sized =
      let proper =
      gathered-proper valid_word (hash_of p g) f 0 p.pages (λ q a b. sound-facts valid_word (hash_of p g) f q (clean.all_sound_lem q (omega arith))) in
      subst (Sized p.places p.pages) (sym clean.by_rule) (sized-laid valid_word (hash_of p g) p.pages (gathered p.places f 0 p.pages) proper)

  module _ (separators : List ℕ) (count : length separators ≡ length f.separators) where
    -- f with other separators
    abbrev other : File
    other = lent separators f.numbers f.words f.owners

    other_fits : file_fits_lem p other ≡ true
    unfolding file_fits_lem
    other_fits = rw (eq-eqb _ _ (count ∙ clean-sized.of_separators), eq-eqb _ _ clean-sized.of_numbers, eq-eqb _ _ clean-sized.of_words_lem, eq-eqb _ _ clean-sized.of_owners)

    only_one : Clean valid_word (hash_of p g) p.pages other → separators ≡ f.separators
    only_one c =
        let same = gathered-same (hash_of p g).room separators f 0 p.pages in
        ap (λ (x : File). x.separators) (c.by_rule ∙ ap (laid (hash_of p g).room (hash_of p g) p.pages) same ∙ sym clean.by_rule)

    pub separators-checked : (pool : Pool) → valid_parameters p && valid_growth p g ≡ true → pool_fits_lem p pool ≡ true → (separators ≡ f.separators → ⊥)
        → (check_of p g (lent separators f.numbers f.words f.owners) pool).answer.refusal ≡ 5
    separators-checked pool valid fits differs =
        let all_fit : file_fits_lem p other && pool_fits_lem p pool ≡ true = rw (other_fits, fits) in
        check_five p g other pool valid all_fit
        (λ e. differs (only_one ((check_clean p g other pool valid all_fit other_fits).0 e)))
