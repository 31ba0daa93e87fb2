-- Check accepts exactly the clean files, said of its answer.
use mathlib.Core.Path.{◌≡◌, refl, sym, ap, ◌∙◌}
use mathlib.Core.Bool.{Bool, true, false, not, cond, ◌&&◌}
use mathlib.Core.Logic.{◌↔◌}
use Prim.Native.Nat.{ℕ, suc, ◌*◌, ◌/◌, ◌%◌, ◌≤◌}
use native.Mathlib.Omega.{arith}
use native.Mathlib.Nat.{zero-add}
use lib.Dec.{ltb}
use borrow.Author.Tests.{ltb-false, le-ltb}
use Rattle.hashing.specs.declared.Parameters.{Parameters}
use Rattle.hashing.specs.declared.Growth.{Growth}
use Rattle.hashing.specs.Limits.{valid_parameters, valid_growth}
use Rattle.pages.specs.Position.{valid_word}
use Rattle.placement.specs.File.{File, Clean}
use Rattle.placement.specs.Hash.{hash_of, sound_at}
use Rattle.reach.specs.Reach.{first_unsound_lem}
use Rattle.reach.proofs.Search.{such}
use Rattle.calls.specs.Spots.{first_spot, ruled, differ_at}
use Rattle.calls.proofs.Ruled.{accepts-clean}
use Rattle.calls.specs.Answers.{Answer, Pool, spotted, accepted}
use Rattle.calls.specs.Calls.{check_of, checked_at, file_fits_lem, pool_fits_lem}
use Rattle.calls.proofs.Refusals.{well-lent, sized}

-- accepted: no page is unsound, and no spot differs
none_told : (p : Parameters) (bad spot : ℕ) → (checked_at p bad spot).refusal ≡ 0 → (p.pages ≤ bad) × (p.pages * suc p.places ≤ spot)
unfolding checked_at spotted
none_told p bad spot = go (ltb bad p.pages) refl (ltb spot (p.pages * suc p.places)) refl
  where
    go : (t : Bool)
        → ltb bad p.pages ≡ t
        → (u : Bool)
        → ltb spot (p.pages * suc p.places) ≡ u
        → (cond t (spotted 5 bad p.places) (cond u (spotted 5 (spot / suc p.places) (spot % suc p.places)) (accepted 0))).refusal ≡ 0
        → (p.pages ≤ bad) × (p.pages * suc p.places ≤ spot)
    go true e u d z = absurd (omega arith)
    go false e true d z = absurd (omega arith)
    go false e false d z = (ltb-false bad p.pages e, ltb-false spot (p.pages * suc p.places) d)

module _ (p : Parameters) (g : Growth) (f : File) (pool : Pool)
    (valid : valid_parameters p && valid_growth p g ≡ true) (fits : file_fits_lem p f && pool_fits_lem p pool ≡ true) (file : file_fits_lem p f ≡ true) where
  bad : ℕ
  bad = first_unsound_lem p g f 0 p.pages

  spot : ℕ
  spot = first_spot p f (ruled p g f)

  told : (check_of p g f pool).answer ≡ checked_at p bad spot
  unfolding check_of bad spot
  told = rw (well-lent p g (file_fits_lem p f && pool_fits_lem p pool) valid fits)

  bad-most : bad ≤ p.pages
  unfolding bad first_unsound_lem
  bad-most = omega (arith, (such (λ (q : ℕ). not (sound_at p g f q)) 0 p.pages).high, zero-add p.pages)

  spot-most : spot ≤ p.pages * suc p.places
  unfolding spot first_spot
  spot-most = omega (arith, (such (differ_at p.places f (ruled p g f)) 0 (p.pages * suc p.places)).high, zero-add (p.pages * suc p.places))

  cleans : ((check_of p g f pool).answer.refusal ≡ 0) → Clean valid_word (hash_of p g) p.pages f
  unfolding bad spot
  cleans e =
      let t = none_told p bad spot (ap (λ (a : Answer). a.refusal) (sym told) ∙ e) in
      let all : bad ≡ p.pages = omega (arith, bad-most, t.0) in
      let none : spot ≡ p.pages * suc p.places = omega (arith, spot-most, t.1) in
      (accepts-clean p g f (sized p f file)).0 (all, none)

  accepts : Clean valid_word (hash_of p g) p.pages f → (check_of p g f pool).answer.refusal ≡ 0
  unfolding bad spot checked_at spotted
  accepts c =
      let t = (accepts-clean p g f (sized p f file)).1 c in
      rw (told, le-ltb bad p.pages (omega (arith, t.0)), le-ltb spot (p.pages * suc p.places) (omega (arith, t.1)))

  pub check_clean : ((check_of p g f pool).answer.refusal ≡ 0) ↔ Clean valid_word (hash_of p g) p.pages f
  check_clean = (cleans, accepts)
