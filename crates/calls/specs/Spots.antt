-- Where a file differs from the rule over the whole file: document 01, "The cut".
use Rattle.std.specs.Prelude.{Bool, not, cond, ◌||◌, ℕ, suc, ◌+◌, ◌*◌, ◌/◌, ◌%◌, eqb, ltb, get_or}
use Rattle.hashing.specs.declared.Parameters.{Parameters}
use Rattle.hashing.specs.declared.Growth.{Growth}
use Rattle.placement.specs.Rule.{pages}
use Rattle.placement.specs.File.{File, gathered, replaced}
use Rattle.placement.specs.Hash.{hash_of}
use Rattle.reach.specs.Reach.{first_such}

-- two files differ at a place of a page, in number, word or owner; place b is its separator
unfoldable pub differ : ℕ → File → File → ℕ → ℕ → Bool
differ places f l page place =
    cond (ltb place places)
    (not (eqb (get_or f.numbers (page * places + place) 0) (get_or l.numbers (page * places + place) 0))
    || (not (eqb (get_or f.words (page * places + place) 0) (get_or l.words (page * places + place) 0))
    || not (eqb (get_or f.owners (page * places + place) 0) (get_or l.owners (page * places + place) 0))))
    (not (eqb (get_or f.separators page 0) (get_or l.separators page 0)))

-- spots are counted page by page, b + 1 to a page
abbrev pub differ_at : ℕ → File → File → ℕ → Bool
differ_at places f l j = differ places f l (j / suc places) (j % suc places)

-- "the first page and place that differ", of so many pages; the spot past them if there is none
abbrev pub spot_in : ℕ → ℕ → File → File → ℕ
spot_in count places f l = first_such (differ_at places f l) 0 (count * suc places)

unfoldable pub first_spot : Parameters → File → File → ℕ
first_spot p f l = spot_in p.pages p.places f l

-- the file that the rule over all pages gives its stars
unfoldable pub ruled : Parameters → Growth → File → File
ruled p g f =
    replaced p.places f 0 (pages (hash_of p g) 0 p.pages (gathered p.places f 0 p.pages))
