-- Stars taken from a file that the rule lays, and entered into it: what each leaves is the rule's layout again.
use Rattle.std.specs.Prelude.{◌≡◌, Bool, true, false, not, cond, ℕ, suc, ◌+◌, ◌*◌, ◌≤◌, ◌<◌, eqb, length, take, drop, get_or}
use mathlib.Core.List.{List, [], Memᴰ}
use Rattle.buffers.specs.Lists.{among}
use Rattle.hashing.specs.declared.Parameters.{Parameters}
use Rattle.hashing.specs.declared.Growth.{Growth}
use Rattle.generator.specs.Generator.{top_of_lem}
use Rattle.pages.specs.declared.page.Page.{Page}
use Rattle.pages.specs.Page.{part}
use Rattle.pages.specs.Shape.{filled}
use Rattle.pages.specs.Position.{valid_number, valid_word}
use Rattle.placement.specs.Rule.{Star, filter, left, insert, without, star_with}
use Rattle.placement.specs.File.{File, laid}
use Rattle.placement.specs.Hash.{hash_of}
use Rattle.placement.proofs.Order.{Rising, Absent}
use Rattle.placement.proofs.Pages.{Proper}

-- the stars but those of these numbers
unfoldable pub apart_from : List ℕ → List Star → List Star
apart_from ns w = filter (λ (s : Star). not (among s.number ns)) w

-- the rule carries none of the stars past page M−1
abbrev pub Fits : Parameters → Growth → List Star → Type 0
Fits p g t = left (hash_of p g) 0 p.pages t ≡ []

-- f is what the rule lays of the stars t, which fit
pub record LaidOut (p : Parameters) (g : Growth) (f : File) (t : List Star) : Type 0 where
  pub file : f ≡ laid p.places (hash_of p g) p.pages t
  pub rising : Rising 0 t
  pub proper : Proper valid_word t
  pub fits : Fits p g t

-- a star that can be entered
pub record Enterable (p : Parameters) (g : Growth) (f : File) (k word : ℕ) : Type 0 where
  pub number : valid_number k ≡ true
  pub valid : valid_word word ≡ true
  pub stars : List Star
  pub laid_out : LaidOut p g f stars
  pub absent : Absent k stars

-- it is entered if all fit; else the file stays
pub record OneEntered (p : Parameters) (g : Growth) (f f' : File) (s : Star) (t : List Star) (r : Bool) : Type 0 where
  pub accepted : r ≡ true → LaidOut p g f' (insert s t)
  pub kept : r ≡ false → f' ≡ f
  pub refused : r ≡ false → Fits p g (insert s t) → ⊥

abbrev pub EntersOne : Parameters → Growth → File → File → Star → Bool → Type 0
EntersOne p g f f' s r = (t : List Star) → LaidOut p g f t → Absent s.number t → OneEntered p g f f' s t r

-- a star that can be taken: it is homed on this page, which has not overflowed
pub record Takeable (p : Parameters) (g : Growth) (f : File) (page k : ℕ) : Type 0 where
  pub inside : page < p.pages
  pub homed : (hash_of p g).home k ≡ page
  pub top : get_or f.separators page 0 ≡ top_of_lem p.bits
  pub stars : List Star
  pub laid_out : LaidOut p g f stars
  pub star : Star
  pub named : star.number ≡ k
  pub member : Memᴰ star stars

abbrev pub TakesOne : Parameters → Growth → File → File → ℕ → ℕ → Type 0
TakesOne p g f f' page k =
    (t : List Star) → LaidOut p g f t → (s : Star) → s.number ≡ k → Memᴰ s t → LaidOut p g f' (without k t) × (f'.separators ≡ f.separators)

-- the numbers of a page as a value
abbrev pub numbers_of_lem : ℕ → Page → List ℕ
numbers_of_lem places own = take places own.numbers

-- the stars w without those of the value's places from i on
abbrev pub rest_from_lem : ℕ → Page → List Star → ℕ → List Star
rest_from_lem places own w i = apart_from (drop i (numbers_of_lem places own)) w

-- the value's stars, each at one place, are of the stars w
pub record Listed (places : ℕ) (own : Page) (w : List Star) : Type 0 where
  pub rising : Rising 0 w
  pub proper : Proper valid_word w
  pub few : places ≤ 32
  pub of_numbers : length own.numbers ≡ 32
  pub of_words_lem : length own.words ≡ 32
  pub of_owners : length own.owners ≡ 32
  pub star : (i : ℕ) → i < places → (get_or own.numbers i 0 ≡ 0 → ⊥)
      → Memᴰ (star_with (get_or own.numbers i 0) (get_or own.words i 0) (get_or own.owners i 0)) w
  pub once : (i : ℕ) → i < places → (get_or own.numbers i 0 ≡ 0 → ⊥) → among (get_or own.numbers i 0) (drop (suc i) (numbers_of_lem places own)) ≡ false

-- the stars of the value's places below `from` are in the file, with all others of w
pub record EnteredBelow (p : Parameters) (g : Growth) (f : File) (own : Page) (from : ℕ) : Type 0 where
  pub stars : List Star
  pub listed : Listed p.places own stars
  pub begun : from ≤ p.places
  pub laid_out : LaidOut p g f (rest_from_lem p.places own stars from)

-- .. the next place's star too; or with it not all fit, and the file stays
pub record PlaceEntered (p : Parameters) (g : Growth) (f f' : File) (own : Page) (w : List Star) (i : ℕ) (r : Bool) : Type 0 where
  pub accepted : r ≡ true → LaidOut p g f' (rest_from_lem p.places own w (suc i))
  pub kept : r ≡ false → f' ≡ f
  pub refused : r ≡ false → Fits p g (rest_from_lem p.places own w (suc i)) → ⊥

abbrev pub EntersPlace : Parameters → Growth → File → File → Page → ℕ → Bool → Type 0
EntersPlace p g f f' own i r =
    (w : List Star) → Listed p.places own w → LaidOut p g f (rest_from_lem p.places own w i) → PlaceEntered p g f f' own w i r

-- .. and now those below r; with the next one not all fit
pub record OwnEntered (p : Parameters) (g : Growth) (f : File) (own : Page) (w : List Star) (r : ℕ) : Type 0 where
  pub most : r ≤ p.places
  pub laid_out : LaidOut p g f (rest_from_lem p.places own w r)
  pub stopped : r < p.places → Fits p g (rest_from_lem p.places own w (suc r)) → ⊥

abbrev pub EntersOwn : Parameters → Growth → File → File → Page → ℕ → ℕ → Type 0
EntersOwn p g f f' own from r =
    (w : List Star) → Listed p.places own w → LaidOut p g f (rest_from_lem p.places own w from) → OwnEntered p g f' own w r

-- all of the value's stars are homed on this page, which has not overflowed, and are in the file
pub record TakeableOwn (p : Parameters) (g : Growth) (f : File) (own : Page) (page : ℕ) : Type 0 where
  pub inside : page < p.pages
  pub top : get_or f.separators page 0 ≡ top_of_lem p.bits
  pub homed : (i : ℕ) → i < p.places → (get_or own.numbers i 0 ≡ 0 → ⊥) → (hash_of p g).home (get_or own.numbers i 0) ≡ page
  pub stars : List Star
  pub listed : Listed p.places own stars
  pub laid_out : LaidOut p g f stars

abbrev pub TakesOwn : Parameters → Growth → File → File → Page → Type 0
TakesOwn p g f f' own = (w : List Star) → Listed p.places own w → LaidOut p g f w → LaidOut p g f' (rest_from_lem p.places own w 0)

-- a page's own number: 0 for a star homed elsewhere
abbrev pub own_number : ℕ → ℕ → ℕ → ℕ
own_number page n home = cond (eqb home page) n 0

-- a page as a value, with the numbers of its own stars alone
pub record OwnOf (places page : ℕ) (ns ws os homes : List ℕ) (own : Page) : Type 0 where
  pub of_numbers : length own.numbers ≡ 32
  pub each : (i : ℕ) → i < places → get_or own.numbers i 0 ≡ own_number page (get_or ns (page * places + i) 0) (get_or homes (page * places + i) 0)
  pub words : own.words ≡ filled (part places page ws)
  pub owners : own.owners ≡ filled (part places page os)
