-- The rule's hash by document 01's home and signature, with the soundness of a page and the page that the separators name.
use Rattle.std.specs.Prelude.{Bool, List, ℕ, ◌+◌, ◌-◌}
use Rattle.hashing.specs.declared.Parameters.{Parameters}
use Rattle.hashing.specs.declared.Growth.{Growth}
use Rattle.generator.specs.Generator.{signature, top_of_lem}
use Rattle.hashing.specs.Geometry.{multiplier_of}
use Rattle.hashing.specs.Home.{home}
use Rattle.pages.specs.Position.{valid_word}
use Rattle.placement.specs.Rule.{Hash, first}
use Rattle.placement.specs.File.{File, sound}

-- "used on the t-th page probed, t = 1 at home": page − home + 1, wherever a stretch begins.
unfoldable pub hash_of : Parameters → Growth → Hash
hash_of p g =
    record {
      home = home (multiplier_of p) p g;
      signature = λ k page. signature (multiplier_of p) p.bits k (page - home (multiplier_of p) p g k + 1);
      top = top_of_lem p.bits;
      room = p.places;
    }

-- "A page is sound if".
unfoldable pub sound_at : Parameters → Growth → File → ℕ → Bool
sound_at p g f page = sound valid_word (hash_of p g) f page

-- "The page the separators name", M if none is named.
unfoldable pub named_page_lem : Parameters → Growth → List ℕ → ℕ → ℕ
named_page_lem p g seps k = first (hash_of p g) 0 seps k

-- The lent file buffers by their contents.
abbrev pub lent : List ℕ → List ℕ → List ℕ → List ℕ → File
lent separators numbers words owners = record { separators = separators; numbers = numbers; words = words; owners = owners }
