-- One page of a growth, planned with the pages of its block alone.
use Rattle.std.specs.Prelude.{◌≡◌, Bool, cond, List, [], ◌∷◌, map, ℕ, suc, ◌+◌, ◌-◌, ◌*◌, ◌≤◌, ◌<◌, eqb, ltb, length, get_or, take, drop}
use Rattle.std.proofs.Math.Seq.{paste}
use Rattle.generator.specs.Generator.{signature, top_of_lem}
use Rattle.hashing.specs.declared.Parameters.{Parameters}
use Rattle.hashing.specs.declared.Growth.{Growth}
use Rattle.hashing.specs.Geometry.{multiplier_of, page_count, grown}
use Rattle.hashing.specs.Home.{home}
use Rattle.pages.specs.Page.{part}
use Rattle.placement.specs.Rule.{Star, Hash, Contents, separators}
use Rattle.placement.specs.File.{File, column}
use Rattle.page_plan.specs.Gather.{stretch_words}
use Rattle.page_plan.specs.Plans.{Planned}
use Rattle.page_plan.specs.Sources.{named_item}
use Rattle.growth_in_place.specs.Expansion.{Spacious}

-- a home, or page `stop` if it is above that page
unfoldable pub home_up_to : Parameters → Growth → ℕ → ℕ → ℕ
home_up_to p g stop k = cond (ltb stop (home (multiplier_of p) p g k)) stop (home (multiplier_of p) p g k)

-- document 01's hash with these homes: stars homed at page `stop` or above do not matter to the pages below it
unfoldable pub hash_up_to : Parameters → Growth → ℕ → Hash
hash_up_to p g stop =
    record {
      home = home_up_to p g stop;
      signature = λ k page. signature (multiplier_of p) p.bits k (page - home_up_to p g stop k + 1);
      top = top_of_lem p.bits;
      room = p.places;
    }

-- of a place's number, 0 for an empty place
unfoldable pub homes_taken : Parameters → Growth → ℕ → List ℕ → List ℕ
homes_taken p g stop ns = map (λ n. cond (eqb n 0) 0 (home_up_to p g stop n)) ns

-- page lo is the first of the block that `page` stands in: the page before it has the separator `top`, those from it up to `page` have not
pub record StartsBlock (stored : List ℕ) (top page lo : ℕ) : Type 0 where
  pub low : lo ≤ page
  pub starts : (e : ℕ) → suc e ≡ lo → get_or stored e 0 ≡ top
  pub within : (q : ℕ) → lo ≤ q → q < page → get_or stored q 0 ≡ top → ⊥

-- the pages from lo to `stop` that page `step` is planned with: those of its block, up to `last`, and the one behind it if there is one
pub record BlockAt (p : Parameters) (stored : List ℕ) (step lo last stop : ℕ) : Type 0 where
  pub starts : StartsBlock stored (top_of_lem p.bits) step lo
  pub high : step ≤ last
  pub past : step < stop
  pub reached : last ≤ stop
  pub inside : stop < p.pages
  pub ends : suc last < p.pages → get_or stored last 0 ≡ top_of_lem p.bits

-- the plan of these pages: of their items, whose homes under the next growth state are taken up to `stop`
pub record PlansLocally (p : Parameters) (g : Growth) (step : ℕ) (stored ns pool pool' planned planned' : List ℕ) : Type 0 where
  pub lo : ℕ
  pub last : ℕ
  pub stop : ℕ
  pub block : BlockAt p stored step lo last stop
  pub homes : List ℕ
  pub homes-are :
      homes
      ≡ paste pool (lo * p.places) (drop (lo * p.places) (homes_taken p (grown p g) stop ns)) (suc (stop - lo) * p.places)
  pub homes-long : length homes ≡ length pool
  pub waiting : List ℕ
  pub past_it : ℕ
  pub plan :
      Planned p lo (suc (stop - lo)) [] (stretch_words p.places lo (suc (stop - lo)) 0 ns homes) homes pool' planned planned' waiting past_it

-- the sources in the pool and the planned separator of page `step` are those of the page c, for the file's items
pub record NamesPage (p : Parameters) (f : File) (pool planned : List ℕ) (step : ℕ) (c : Contents) : Type 0 where
  pub of_separators : take 1 (drop step planned) ≡ separators (c ∷ [])
  pub of_numbers : map (named_item f.numbers 0) (part p.places step pool) ≡ column p.places (λ (s : Star). s.number) (c ∷ [])
  pub of_words_lem : map (named_item f.words 0) (part p.places step pool) ≡ column p.places (λ (s : Star). s.payload.word) (c ∷ [])
  pub of_owners : map (named_item f.owners 0) (part p.places step pool) ≡ column p.places (λ (s : Star). s.payload.owner) (c ∷ [])

-- page `step` is neither the new page nor the last one, and the new page has room
pub record IsLocal (p : Parameters) (g : Growth) (stored ns : List ℕ) (step : ℕ) : Type 0 where
  pub spacious : Spacious p g stored ns
  pub other : step ≡ page_count p g → ⊥
  pub inner : step + 1 < p.pages
