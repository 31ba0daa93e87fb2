-- What the internal search for a number's page and place finds.
use Rattle.std.specs.Prelude.{◌≡◌, true, List, ℕ, ◌*◌, ◌≤◌, ◌<◌, length, get_or, take}
use Rattle.hashing.specs.declared.Parameters.{Parameters}
use Rattle.hashing.specs.declared.Growth.{Growth}
use Rattle.hashing.specs.Geometry.{multiplier_of}
use Rattle.hashing.specs.Home.{home}
use Rattle.pages.specs.Page.{part}
use Rattle.pages.specs.Position.{valid_word}
use Rattle.placement.specs.File.{File}
use Rattle.placement.specs.Shape.{homes_of}
use Rattle.calls.specs.Calls.{named, readable, holds, place_for, item_of, owner_for}
use Rattle.named_page.specs.declared.finding.Named.{Named}

pub record NamedAs (p : Parameters) (g : Growth) (f : File) (k : ℕ) (r : Named) : Type 0 where
  pub home_is : r.home ≡ home (multiplier_of p) p g k
  pub page_most : r.page ≤ p.pages
  pub page_is : r.page ≡ named p g f k
  pub readable_is : r.readable ≡ readable p g f (named p g f k)
  pub held_is : r.readable ≡ true → r.held ≡ holds p f (named p g f k) k
  pub place_is_lem : r.readable ≡ true → r.place ≡ place_for p f (named p g f k) k
  pub item_is : r.held ≡ true → r.item ≡ item_of p f (named p g f k) k
  pub word_is : r.held ≡ true → r.word ≡ get_or f.words (item_of p f (named p g f k) k) 0
  pub owner_is : r.held ≡ true → r.owner ≡ owner_for p f (named p g f k) k
  pub item_below : r.held ≡ true → r.item < p.pages * p.places
  pub word_valid_lem : r.held ≡ true → valid_word r.word ≡ true

-- The homes of the page's stars, where it is read.
pub record HomedAs (p : Parameters) (g : Growth) (f : File) (r : Named) (homes : List ℕ) : Type 0 where
  pub long : length homes ≡ 32
  pub homed : r.readable ≡ true → take p.places homes ≡ homes_of p g (part p.places r.page f.numbers)
