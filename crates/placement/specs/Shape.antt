-- What the code is said by and no promise to a caller cites.
use Rattle.std.specs.Prelude.{cond, List, [], ◌∷◌, map, ℕ, ◌*◌, ◌+◌, ◌-◌, eqb, length, ◌≡◌}
use Rattle.placement.specs.Rule.{Star, Hash, Contents, pour, star_with}
use Rattle.hashing.specs.declared.Parameters.{Parameters}
use Rattle.hashing.specs.declared.Growth.{Growth}
use Rattle.hashing.specs.declared.Geometry.{Geometry}
use Rattle.generator.specs.Generator.{signature, top_of_lem}
use Rattle.hashing.specs.Geometry.{multiplier_of}
use Rattle.hashing.specs.Home.{home}
use Rattle.placement.specs.File.{File}

-- "A change writes one word", "a change leaves the owner": the star of number k gets the word v.
unfoldable pub reworded : ℕ → ℕ → Star → Star
reworded k v s = cond (eqb s.number k) (star_with s.number v s.payload.owner) s

unfoldable pub changed : ℕ → ℕ → List Star → List Star
changed k v w = map (reworded k v) w

-- The stars that stand on these pages, by number.
unfoldable pub collected : List Contents → List Star
collected [] = []
collected (c ∷ cs) = pour c.stars (collected cs)

abbrev pub blank : Contents
blank = record { separator = 0; stars = [] }

-- "M separators; M·b star numbers; M·b position words", and M·b owners.
pub record Sized (places M : ℕ) (f : File) : Type 0 where
  pub of_separators : length f.separators ≡ M
  pub of_numbers : length f.numbers ≡ M * places
  pub of_words_lem : length f.words ≡ M * places
  pub of_owners : length f.owners ≡ M * places

-- The same for a number whose home is known.
unfoldable pub hash_from : Parameters → ℕ → Hash
hash_from p from =
    record {
      home = λ k. from;
      signature = λ k page. signature (multiplier_of p) p.bits k (page - from + 1);
      top = top_of_lem p.bits;
      room = p.places;
    }

-- A number's home under a geometry.
abbrev pub home_under : Geometry → ℕ → ℕ
home_under g k = home (multiplier_of g.parameters) g.parameters g.growth k

-- The homes of a page's numbers, 0 for an empty place.
abbrev pub home_in : Parameters → Growth → ℕ → ℕ
home_in p g n = cond (eqb n 0) 0 (home (multiplier_of p) p g n)

unfoldable pub homes_of : Parameters → Growth → List ℕ → List ℕ
homes_of p g ns = map (home_in p g) ns
