-- A search that finds nothing, over pages that are all sound and over a file and itself.
use mathlib.Core.Path.{◌≡◌, ap}
use mathlib.Core.Bool.{false, not}
use Prim.Native.Nat.{ℕ, suc, ◌+◌, ◌*◌, ◌≤◌}
use native.Mathlib.Omega.{arith}
use lib.Dec.{ltb}
use borrow.Author.Tests.{ltb-false, not-false}
use Rattle.hashing.specs.declared.Parameters.{Parameters}
use Rattle.hashing.specs.declared.Growth.{Growth}
use Rattle.pages.specs.Position.{valid_word}
use Rattle.placement.specs.File.{File}
use Rattle.placement.specs.Hash.{hash_of, sound_at}
use Rattle.placement.proofs.Sound.{AllSound, sound-facts}
use Rattle.reach.specs.Reach.{first_unsound_lem}
use Rattle.reach.proofs.Search.{such}
use Rattle.calls.specs.Spots.{first_spot}
use Rattle.calls.proofs.Alike.{none-such, no_spot as spotless}
use Rattle.histories.specs.Model.{Model, model_file}
use Rattle.histories.proofs.Fitting.{Fitting, all_sound}

pub none-unsound : (p : Parameters) (m : Model) → Fitting p m → (from n : ℕ) → from + n ≤ p.pages → first_unsound_lem p m.growth (model_file p m) from n ≡ from + n
unfolding first_unsound_lem
none-unsound p m t from n h =
    none-such (λ (q : ℕ). not (sound_at p m.growth (model_file p m) q)) from n
    (λ q g. ap not (all_sound p m t q (omega arith)))

-- Pages of which none is found unsound, in any file.
pub all-sound-before : (p : Parameters) (g : Growth) (f : File) (from n : ℕ) → ltb (first_unsound_lem p g f from n) (from + n) ≡ false → AllSound valid_word (hash_of p g) f from n
unfolding first_unsound_lem sound_at
all-sound-before p g f from n e q low high =
    sound-facts valid_word (hash_of p g) f q
    (not-false (sound_at p g f q) ((such (λ (i : ℕ). not (sound_at p g f i)) from n).before q low (omega (arith, ltb-false (first_unsound_lem p g f from n) (from + n) e))))

pub no_spot : (p : Parameters) (f : File) → first_spot p f f ≡ p.pages * suc p.places
unfolding first_spot
no_spot p f = spotless p.pages p.places f
