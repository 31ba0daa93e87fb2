-- The rule's hash is document 01's: what the laws ask of it, and probing from a known home.
use mathlib.Core.Path.{◌≡◌, refl}
use mathlib.Core.Bool.{true}
use mathlib.Core.List.{List, [], ◌∷◌}
use Prim.Native.Nat.{ℕ, suc, ◌+◌, ◌-◌, ◌≤◌, ◌<◌}
use native.Mathlib.Omega.{arith}
use lib.ListN.{length}
use Rattle.hashing.specs.declared.Parameters.{Parameters}
use Rattle.hashing.specs.declared.Growth.{Growth}
use Rattle.hashing.specs.Geometry.{multiplier_of}
use Rattle.hashing.specs.Home.{home}
use Rattle.hashing.specs.Limits.{valid_parameters, valid_growth}
use Rattle.hashing.proofs.Bounds.{limits}
use Rattle.generator.proofs.Scrambling.{signature-below}
use Rattle.hashing.proofs.Homes.{home-pages}
use Rattle.placement.specs.Rule.{below, first}
use Rattle.placement.specs.Hash.{hash_of, named_page_lem}
use Rattle.placement.specs.Shape.{hash_from}
use Rattle.placement.proofs.Separator.{Bounded}
use Rattle.placement.proofs.Standing.{first-le}

-- What the rule's laws ask of the hash, and a home is one of the pages.
pub bounded-real : (p : Parameters) (g : Growth) → valid_parameters p ≡ true → Bounded (hash_of p g)
unfolding hash_of
bounded-real p g v k page = signature-below (multiplier_of p) p.bits k (page - home (multiplier_of p) p g k + 1) (limits p v).bits_least

pub homed-real : (p : Parameters) (g : Growth) → valid_parameters p ≡ true → valid_growth p g ≡ true → (k : ℕ) → (hash_of p g).home k < p.pages
unfolding hash_of
homed-real p g v w k = home-pages (multiplier_of p) p g k v w

-- A number probes by its own home alone.
pub first-from : (p : Parameters) (g : Growth) (page : ℕ) (vs : List ℕ) (k : ℕ) → first (hash_from p (home (multiplier_of p) p g k)) page vs k ≡ first (hash_of p g) page vs k
unfolding first below hash_from hash_of
first-from p g page [] k = refl
first-from p g page (v ∷ vs) k = rw (first-from p g (suc page) vs k)

-- M where no page is named
pub named-most : (p : Parameters) (g : Growth) (seps : List ℕ) (k : ℕ) → named_page_lem p g seps k ≤ length seps
unfolding named_page_lem
named-most p g seps k = omega (arith, first-le (hash_of p g) 0 seps k)
