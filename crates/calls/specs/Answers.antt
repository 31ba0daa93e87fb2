-- What a call answers and leaves: document 01, "Where each refusal is met".
use Rattle.std.specs.Prelude.{◌≡◌, Bool, true, false, List, [], ℕ, pos, length, replicate}
use Rattle.hashing.specs.declared.Growth.{Growth}
use Rattle.pages.specs.declared.position.Position.{Position}
use Rattle.placement.specs.File.{File}
pub use Rattle.placement.specs.Hash.{lent}
pub use Rattle.calls.specs.declared.answers.Answer.{Answer}
use Rattle.calls.specs.declared.answers.Refusal.{Refusal}
use Rattle.calls.specs.declared.answers.Refusal.TheVariants.{BadParameters, BadLength, BadNumber, BadPosition, Damaged, Held, NotHeld, Full, Ungrown, BadHeader, BadRows, ShortOutput, NotOwner, TrayFull, BadContents, OutOfTurn}
use Rattle.calls.specs.declared.answers.Placed.{Placed}
use Rattle.calls.specs.declared.answers.Placed.TheVariants.{On, Refused as NotPlaced}
use Rattle.calls.specs.declared.answers.Found.{Found}
use Rattle.calls.specs.declared.answers.Found.TheVariants.{At, Absent, Refused as NotSought}
use Rattle.calls.specs.declared.answers.Due.{Due}
use Rattle.calls.specs.declared.answers.Due.TheVariants.{Yes, No, Refused as NotCounted}
use Rattle.calls.specs.declared.answers.Checked.{Checked}
use Rattle.calls.specs.declared.answers.Checked.TheVariants.{Clean, Refused as NotChecked}

abbrev pub origin : Position
origin = record { ra = 0; dec = pos 0 }

-- a refusal number, 0 for none, with a page and a place
unfoldable pub spotted : ℕ → ℕ → ℕ → Answer
spotted refusal page place =
    record {
      refusal = refusal;
      page = page;
      place = place;
      found = false;
      position = origin;
      due = false;
      stars = 0;
    }

-- accepted, with a page
abbrev pub accepted : ℕ → Answer
accepted page = spotted 0 page 0

-- "A refusal gives its number and, for 5, the page; otherwise page 0."
abbrev pub refused : ℕ → ℕ → Answer
refused n page = spotted n page 0

-- the same with "the place found on the page first named": document 02 (ii)
abbrev pub accepted_at : ℕ → ℕ → Answer
accepted_at page place = spotted 0 page place

abbrev pub refused_at : ℕ → ℕ → ℕ → Answer
refused_at n page place = spotted n page place

unfoldable pub found_at : ℕ → ℕ → Position → Answer
found_at page place position =
    record { refusal = 0; page = page; place = place; found = true; position = position; due = false; stars = 0 }

unfoldable pub counted : Bool → ℕ → Answer
counted due stars =
    record { refusal = 0; page = 0; place = 0; found = false; position = origin; due = due; stars = stars }

-- the papers' number of each refusal
abbrev pub refusal_number : Refusal → ℕ
refusal_number BadParameters = 1
refusal_number BadLength = 2
refusal_number BadNumber = 3
refusal_number BadPosition = 4
refusal_number (Damaged page) = 5
refusal_number Held = 6
refusal_number NotHeld = 7
refusal_number Full = 8
refusal_number Ungrown = 9
refusal_number BadHeader = 10
refusal_number BadRows = 11
refusal_number ShortOutput = 12
refusal_number NotOwner = 13
refusal_number TrayFull = 14
refusal_number BadContents = 15
refusal_number OutOfTurn = 16

-- the page that goes with it
abbrev pub refusal_page : Refusal → ℕ
refusal_page BadParameters = 0
refusal_page BadLength = 0
refusal_page BadNumber = 0
refusal_page BadPosition = 0
refusal_page (Damaged page) = page
refusal_page Held = 0
refusal_page NotHeld = 0
refusal_page Full = 0
refusal_page Ungrown = 0
refusal_page BadHeader = 0
refusal_page BadRows = 0
refusal_page ShortOutput = 0
refusal_page NotOwner = 0
refusal_page TrayFull = 0
refusal_page BadContents = 0
refusal_page OutOfTurn = 0

-- refused, with a place
unfoldable pub refused_by : Refusal → ℕ → Answer
refused_by r place = spotted (refusal_number r) (refusal_page r) place

-- the papers' number and values for each case of an answer
unfoldable pub placed : Placed → Answer
placed (On page place) = accepted_at page place
placed (NotPlaced r place) = refused_by r place

unfoldable pub sought : Found → Answer
sought (At page place position) = found_at page place position
sought (Absent page place) = accepted_at page place
sought (NotSought r place) = refused_by r place

unfoldable pub due_said : Due → Answer
due_said (Yes stars) = counted true stars
due_said (No stars) = counted false stars
due_said (NotCounted r) = refused_by r 0

unfoldable pub checked : Checked → Answer
checked Clean = accepted 0
checked (NotChecked r place) = refused_by r place

-- the lent pool
pub record Pool : Type 0 where
  pub numbers : List ℕ
  pub words : List ℕ
  pub owners : List ℕ

unfoldable pub zeros : List ℕ → List ℕ
zeros l = replicate (length l) 0

-- the pool after every call that uses it, but for refusals 1 to 4
unfoldable pub cleared : Pool → Pool
cleared pool = record { numbers = zeros pool.numbers; words = zeros pool.words; owners = zeros pool.owners }

-- the answer, and the growth state and the lent buffers after a call
pub record After : Type 0 where
  pub answer : Answer
  pub growth : Growth
  pub file : File
  pub pool : Pool

-- the lent pool by its contents
abbrev pub pooled : List ℕ → List ℕ → List ℕ → Pool
pooled numbers words owners = record { numbers = numbers; words = words; owners = owners }

-- for the calls that take none
abbrev pub unpooled : Pool
unpooled = pooled [] [] []

-- the answer and the buffers at exit are those of the definition
pub record Leaves (after : After) (answer : Answer) (file : File) (pool : Pool) : Type 0 where
  pub answers : answer ≡ after.answer
  pub files : file ≡ after.file
  pub pools : pool ≡ after.pool
