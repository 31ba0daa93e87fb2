-- A file of sound pages, on which no separator could be one greater, differs from the rule at no spot.
use mathlib.Core.Path.{◌≡◌, ap, ◌∙◌}
use Prim.Native.Nat.{ℕ, suc, ◌-◌, ◌*◌, ◌≤◌}
use native.Mathlib.Omega.{arith}
use Rattle.hashing.specs.declared.Parameters.{Parameters}
use Rattle.hashing.specs.declared.Growth.{Growth}
use Rattle.pages.specs.Position.{valid_word}
use Rattle.placement.specs.File.{File}
use Rattle.placement.specs.Shape.{Sized}
use Rattle.placement.specs.Hash.{hash_of, sound_at}
use Rattle.placement.proofs.Sound.{sound-facts}
use Rattle.reach.specs.Reach.{first_such, first_unsound_lem}
use Rattle.reach.proofs.Search.{such}
use Rattle.calls.specs.Spots.{first_spot, ruled}
use Rattle.calls.proofs.Ruled.{all_sound, accepts-clean}
use Rattle.clean_test.specs.Raising.{raisable_from, raisable}
use Rattle.clean_test.proofs.Raising.{clean_exactly}

pub none-raisable : (p : Parameters) (g : Growth) (f : File) → Sized p.places p.pages f → first_unsound_lem p g f 0 p.pages ≡ p.pages
    → (r : ℕ) → r ≡ first_such (raisable_from (hash_of p g) 0 (p.pages - 0) f.separators f.numbers) 0 (p.pages - 0) → p.pages ≤ r
    → first_spot p f (ruled p g f) ≡ p.pages * suc p.places
unfolding hash_of sound_at
none-raisable p g f sized u r d h =
    let all_of : p.pages - 0 ≡ p.pages = omega arith in
    let e : r ≡ first_such (raisable (hash_of p g) p.pages f.separators f.numbers) 0 p.pages = d ∙ ap (λ (n : ℕ). first_such (raisable_from (hash_of p g) 0 n f.separators f.numbers) 0 n) all_of in
    ((accepts-clean p g f sized).1
    ((clean_exactly valid_word (hash_of p g) p.pages f sized (λ q k i. sound-facts valid_word (hash_of p g) f q (all_sound p g f u q (omega arith)))).0
    (λ q k. (such (raisable (hash_of p g) p.pages f.separators f.numbers) 0 p.pages).before q (omega arith) (omega (arith, e))))
    ).1
