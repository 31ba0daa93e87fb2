-- The model of a star file: document 01, "The plain book". It never sees the file.
use Rattle.std.specs.Prelude.{Bool, true, false, not, cond, List, [], ◌∷◌, map, ℕ, eqb, ltb}
use Rattle.std.proofs.Math.Option.{Option, none, some}
use Rattle.placement.specs.Hash.{hash_of}
use Rattle.hashing.specs.declared.Parameters.{Parameters}
use Rattle.hashing.specs.declared.Growth.{Growth}
use Rattle.hashing.specs.Geometry.{grown, shrunk}
use Rattle.pages.specs.declared.position.Position.{Position}
use Rattle.pages.specs.Position.{packed, unpacked}
use Rattle.placement.specs.Rule.{Star, first, filter, star_with}
use Rattle.placement.specs.File.{File, laid, pages_at, replaced}
use Rattle.calls.specs.declared.answers.Answer.{Answer}
use Rattle.calls.specs.Answers.{accepted_at, found_at}
use Rattle.calls.specs.Calls.{place_for, empty_file_lem}

pub record Entry : Type 0 where
  pub number : ℕ
  pub position : Position
  pub owner : ℕ

-- "It holds star numbers, each once with a position, and an (e, x) of its own", and "keeps owners": document 02 (x). Entries stand in rising order of
-- number.
pub record Model : Type 0 where
  pub entries : List Entry
  pub growth : Growth

-- the model of no star under (e, x): "at first no star and (0, 0)"
abbrev pub empty_model : Growth → Model
empty_model g = record { entries = []; growth = g }

-- "sets the number's position": in place of the number's entry, which "leaves the owner", or before the first higher one, and it "is its caller's"
unfoldable pub set_position : ℕ → ℕ → Position → List Entry → List Entry
set_position caller k q [] = record { number = k; position = q; owner = caller } ∷ []
set_position caller k q (e ∷ es) =
    cond (ltb e.number k)
    (e ∷ set_position caller k q es)
    (cond (eqb e.number k)
    (record { number = k; position = q; owner = e.owner } ∷ es)
    (record { number = k; position = q; owner = caller } ∷ e ∷ es))

-- "strikes the number out"
unfoldable pub strike : ℕ → List Entry → List Entry
strike k es = filter (λ (e : Entry). not (eqb e.number k)) es

-- the position that the model holds for a number, if any
unfoldable pub held_position : ℕ → List Entry → Option Position
held_position k [] = none
held_position k (e ∷ es) = cond (eqb e.number k) (some e.position) (held_position k es)

-- the star's owner, 0 for a number not held
unfoldable pub held_owner : ℕ → List Entry → ℕ
held_owner k [] = 0
held_owner k (e ∷ es) = cond (eqb e.number k) e.owner (held_owner k es)

-- its whole entry, if any
unfoldable pub held_entry : ℕ → List Entry → Option Entry
held_entry k [] = none
held_entry k (e ∷ es) = cond (eqb e.number k) (some e) (held_entry k es)

-- A call's kind, number and position, and the caller of an entry, a change or a removal before them. A cascade "runs beside the present entry":
-- document 02 (ix). A growth may be opened and done in steps: document 02 (xiii).
pub data Request : Type 0 where
  look_up_lem : ℕ → Request
  enter cascade : ℕ → ℕ → Position → Request
  change : ℕ → ℕ → Position → Request
  remove : ℕ → ℕ → Request
  grow shrink due check open_growth_lem step_growth_lem : Request

-- who calls, of those that alter stars
unfoldable pub caller_of : Request → Option ℕ
caller_of (look_up_lem k) = none
caller_of (enter caller k q) = some caller
caller_of (cascade caller k q) = some caller
caller_of (change caller k q) = some caller
caller_of (remove caller k) = some caller
caller_of grow = none
caller_of shrink = none
caller_of due = none
caller_of check = none
caller_of open_growth_lem = none
caller_of step_growth_lem = none

-- what an accepted call makes of the model; "Any other call leaves it as it is"; a shrink is "taking the book's (e, x) back": document 02 (i);
-- of a cascade "histories count it as one", an entry: document 02 (ix); "Histories read an unfinished growth as not begun", and step M counts as a growth
-- (`feeding` in Call): document 02 (xiii)
unfoldable pub updated : Parameters → Request → Model → Model
updated p (look_up_lem k) m = m
updated p (enter caller k q) m = record { entries = set_position caller k q m.entries; growth = m.growth }
updated p (cascade caller k q) m = record { entries = set_position caller k q m.entries; growth = m.growth }
updated p (change caller k q) m = record { entries = set_position caller k q m.entries; growth = m.growth }
updated p (remove caller k) m = record { entries = strike k m.entries; growth = m.growth }
updated p grow m = record { entries = m.entries; growth = grown p m.growth }
updated p shrink m = record { entries = m.entries; growth = shrunk p m.growth }
updated p due m = m
updated p check m = m
updated p open_growth_lem m = m
updated p step_growth_lem m = m

-- "fed each call's kind, number and position and whether it was accepted", and "the caller"; "and so does each refused one"
unfoldable pub fed : Parameters → Request → Bool → Model → Model
fed p r true m = updated p r m
fed p r false m = m

-- a call that was made, and its refusal, 0 if it was accepted
pub record Made : Type 0 where
  pub request : Request
  pub refusal : ℕ

abbrev pub made : Request → ℕ → Made
made r n = record { request = r; refusal = n }

unfoldable pub fed_all : Parameters → List Made → Model → Model
fed_all p [] m = m
fed_all p (c ∷ cs) m = fed_all p cs (fed p c.request (eqb c.refusal 0) m)

-- these stars entered, each for its owner, none refused
unfoldable pub stars_entered : List Star → List Made
stars_entered [] = []
stars_entered (s ∷ w) = made (enter s.payload.owner s.number (unpacked s.payload.word)) 0 ∷ stars_entered w

-- What an element of a history feeds the model: the calls made, and first of all, where it "begins anew" (02 (vi)), that there is no star under an (e, x).
pub data Feeding : Type 0 where
  goes_on_lem : List Made → Feeding
  anew : Growth → List Made → Feeding

unfoldable pub calls_made : Feeding → List Made
calls_made (goes_on_lem calls) = calls
calls_made (anew g calls) = calls

unfoldable pub fed_by : Parameters → Feeding → Model → Model
fed_by p (goes_on_lem calls) m = fed_all p calls m
fed_by p (anew g calls) m = fed_all p calls (empty_model g)

-- "its stars, .. positions packed into words"
unfoldable pub entry_stars : List Entry → List Star
entry_stars es = map (λ (e : Entry). star_with e.number (packed e.position) e.owner) es

-- "Its separators and pages are what the rule over pages 0 to M−1 gives its stars, homes being taken under its (e, x)"
unfoldable pub model_file : Parameters → Model → File
model_file p m = laid p.places (hash_of p m.growth) p.pages (entry_stars m.entries)

-- the second set of an open growth: "after step j (opening is step 0) its pages 0 to j − 1 and their separators are the finished ones, the others empty
-- with separator 2^k − 1", the finished file being that of the model after the growth
unfoldable pub unfinished_file : Parameters → Model → ℕ → File
unfinished_file p m steps =
    replaced p.places (empty_file_lem p) 0 (pages_at p.places (model_file p (updated p grow m)) 0 steps)

-- "as page the first from home whose separator, of these, is above the number's signature there"
unfoldable pub page_for : Parameters → Model → ℕ → ℕ
page_for p m k = first (hash_of p m.growth) 0 (model_file p m).separators k

-- where the number stands on that page of the model's, or would stand: document 02 (ii)
abbrev pub place_on_lem : Parameters → Model → ℕ → ℕ
place_on_lem p m k = place_for p (model_file p m) (page_for p m k) k

-- "the position it holds, or "none", and as page ..", with the place
unfoldable pub answer_with : Option Position → ℕ → ℕ → Answer
answer_with none page place = accepted_at page place
answer_with (some q) page place = found_at page place q

-- "It answers a look-up"
unfoldable pub answered : Parameters → Model → ℕ → Answer
answered p m k = answer_with (held_position k m.entries) (page_for p m k) (place_on_lem p m k)
