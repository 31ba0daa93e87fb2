-- What a carrying plans and leaves below refusals 1, 2 and 16: document 02 (viii).
use Rattle.std.specs.Prelude.{◌≡◌, Bool, true, false, cond, List, [], map, ℕ, eqb, ltb, length, take}
use Rattle.hashing.specs.declared.Parameters.{Parameters}
use Rattle.hashing.specs.declared.Geometry.{Geometry}
use Rattle.placement.specs.Rule.{Star, left, separators}
use Rattle.placement.specs.File.{File, column, laid}
use Rattle.placement.specs.Hash.{hash_of, lent}
use Rattle.placement.specs.Shape.{homes_of}
use Rattle.plan_transfer.specs.Sources.{named_item}
use Rattle.page_plan.specs.Gather.{words_from}
use Rattle.reach.specs.Reach.{is_empty, all_stars, first_unsound_lem}
use Rattle.page_plan.specs.Plans.{plans, remains}
use Rattle.page_plan.specs.declared.outcome.Outcome.{Outcome}
use Rattle.page_plan.specs.declared.outcome.Outcome.TheVariants.{On, Unsound, Overflows}
use Rattle.calls.specs.declared.answers.Answer.{Answer}
use Rattle.calls.specs.declared.records.GrowthRecord.{GrowthRecord}
use Rattle.calls.specs.Answers.{Pool, refused}
use Rattle.calls.specs.Carry.{carry_on}
use Rattle.calls.specs.Records.{AfterStep, not_stepped}

-- the words of the stars with these numbers, under the new geometry
abbrev pub carried_words : Geometry → List ℕ → List ℕ
carried_words g ns = words_from 0 0 ns (homes_of g.parameters g.growth ns)

-- a file with these separators, its places filled with what the sources name of items
abbrev pub fetched_file : List ℕ → List ℕ → List ℕ → List ℕ → List ℕ → File
fetched_file ns ws os separators sources = lent separators (map (named_item ns 0) sources) (map (named_item ws 0) sources) (map (named_item os 0) sources)

-- whether each of the words l finds a place, and then the sources of all pages and their separators
pub record AllPlanned (q : Parameters) (l pool planned : List ℕ) (r : Bool) : Type 0 where
  pub fits : r ≡ eqb (length (remains q 0 0 q.pages [] l)) 0
  pub sources : r ≡ true → pool ≡ column q.places (λ (s : Star). s.payload.word) (plans q 0 0 q.pages [] l)
  pub separators_are : r ≡ true → take q.pages planned ≡ separators (plans q 0 0 q.pages [] l)

-- what placing the stars with these numbers, words and owners answers and leaves of the second set
pub record PlacesSecond (new : Geometry) (ns ws os : List ℕ) (second second' : File) (r : Outcome) : Type 0 where
  pub overflows : eqb (length (remains new.parameters 0 0 new.parameters.pages [] (carried_words new ns))) 0 ≡ false → (r ≡ Overflows) × (second' ≡ second)
  pub places : eqb (length (remains new.parameters 0 0 new.parameters.pages [] (carried_words new ns))) 0 ≡ true
      → (r ≡ On 0) × (second' ≡ fetched_file ns ws os (separators (plans new.parameters 0 0 new.parameters.pages [] (carried_words new ns)))
      (column new.parameters.places (λ (s : Star). s.payload.word) (plans new.parameters 0 0 new.parameters.pages [] (carried_words new ns))))

-- one thing if an old page is unsound, another if the rule carries a star past the last new page, a third if it does not
abbrev pub by_carry : {A : Type 0} → Geometry → File → Geometry → A → A → A → A
by_carry old f new unsound overflows carries =
    let p = old.parameters in
    let q = new.parameters in
    cond (ltb (first_unsound_lem p old.growth f 0 p.pages) p.pages)
    unsound
    (cond (is_empty (left (hash_of q new.growth) 0 q.pages (all_stars p f))) carries overflows)

unfoldable pub carry_answer : Geometry → File → Geometry → Outcome
carry_answer old f new =
    by_carry old f new (Unsound (first_unsound_lem old.parameters old.growth f 0 old.parameters.pages)) Overflows (On 0)

unfoldable pub carry_file : Geometry → File → Geometry → File → File
carry_file old f new second =
    let q = new.parameters in
    by_carry old f new second second (laid q.places (hash_of q new.growth) q.pages (all_stars old.parameters f))

-- past refusals 1 and 2
abbrev pub carry_admitted : Parameters → GrowthRecord → File → Parameters → GrowthRecord → File → Pool → AfterStep
carry_admitted p r f q s second pool = cond s.growing (not_stepped s second pool (refused 16 0)) (carry_on p r f q s second pool)

-- the answer and the second set at exit are those of the definition
pub record StoresCarry (after : AfterStep) (answer : Answer) (second : File) : Type 0 where
  pub answers : answer ≡ after.answer
  pub seconds : second ≡ after.second
