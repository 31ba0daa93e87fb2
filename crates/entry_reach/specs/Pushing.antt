-- Newcomers pushed from page to page: what each page keeps of the words that come to it, under its stored separator.
use Rattle.std.specs.Prelude.{◌≡◌, Bool, true, List, [], ◌∷◌, ◌++◌, map, ℕ, ◌+◌, ◌-◌, ◌*◌, ◌≤◌, ◌<◌, eqb, length, get_or, take, drop}
use Rattle.std.proofs.Math.Seq.{slice}
use Rattle.hashing.specs.declared.Parameters.{Parameters}
use Rattle.hashing.specs.declared.Growth.{Growth}
use Rattle.hashing.specs.declared.Geometry.{Geometry}
use Rattle.pages.specs.Shape.{stretch}
use Rattle.placement.specs.Rule.{Star, Contents, separators, pages}
use Rattle.placement.specs.File.{File, pages_at, gathered, column, written, replaced}
use Rattle.placement.specs.Hash.{hash_of, sound_at}
use Rattle.placement.proofs.Mapping.{mapped}
use Rattle.placement.specs.Lent.{Lent}
use Rattle.reach.specs.Reach.{pages_to}
use Rattle.reach.specs.Cascade.{cascaded, carried_past}
use Rattle.page_separator.specs.Probes.{staying_words, passing_words, words_separator_from}
use Rattle.page_plan.specs.Plans.{waits}
use Rattle.page_plan.specs.Sources.{renamed}
use Rattle.page_plan.proofs.Applying.{Sourced, applied}
use Rattle.page_edit.specs.Shift.{number_at}
use Rattle.entry_reach.specs.Entry.{KnownTo, new_star_lem, entry_start, block_end, block_words}
use Rattle.entry_reach.specs.Blocks.{Carriable}
use Rattle.entry_reach.specs.declared.newcomers.Onward.{Onward}
use Rattle.entry_reach.specs.declared.newcomers.Pushing.{Pushing}
use Rattle.entry_reach.specs.declared.newcomers.Pushing.TheVariants.{Ends, Leaves}

-- the words of page q's stars
abbrev pub page_words : Parameters → Growth → File → ℕ → List ℕ
page_words p g f q = block_words p g f q 1

-- what a page gets of the words l that probe it, under the greatest separator up to `most`, and what it carries on
unfoldable pub lowered_to : Parameters → ℕ → ℕ → List ℕ → Contents
lowered_to p q most l = record { separator = words_separator_from p q l most; stars = waits (staying_words p q (words_separator_from p q l most) l) }

unfoldable pub lowered_on : Parameters → ℕ → ℕ → List ℕ → List ℕ
lowered_on p q most l = passing_words p q (words_separator_from p q l most) l

-- what settling page q leaves: its sources, its separator, and from r up to `reach` the words carried on
pub record Lowered (p : Parameters) (q most : ℕ) (l : List ℕ) (reach : ℕ) (pool pool' planned planned' W' : List ℕ) (r : ℕ) : Type 0 where
  pub sources : pool' ≡ written (q * p.places) (column p.places (λ (s : Star). s.payload.word) (lowered_to p q most l ∷ [])) pool
  pub separator : planned' ≡ written q (separators (lowered_to p q most l ∷ [])) planned
  pub start : r ≡ reach - length (lowered_on p q most l)
  pub passed : slice r reach W' ≡ lowered_on p q most l

-- what pushing does on page q: the words w, come to it, and its own are settled under its stored separator
pub record PushedPage (p : Parameters) (g : Growth) (f : File) (q end : ℕ) (w pool pool' planned planned' W' : List ℕ) (r : Onward) : Type 0 where
  pub ends : r.reach ≡ end + length (page_words p g f q)
  pub lowered : Lowered p q (get_or f.separators q 0) (w ++ page_words p g f q) r.reach pool pool' planned planned' W' r.from

abbrev pub PushesPage : Geometry → File → ℕ → ℕ → ℕ → Lent → Lent → Lent → Onward → Type 0
PushesPage g f q from end pool waiting planned r =
    PushedPage g.parameters g.growth f q end (slice from end waiting.entry.now) pool.entry.now pool.exit.now
    planned.entry.now planned.exit.now waiting.exit.now r

-- no newcomer is carried past page `end`, and the planned sources and separators of the pages up to it are theirs
pub record PushedTo (p : Parameters) (g : Growth) (f : File) (k word owner page : ℕ) (pool planned : List ℕ) (end : ℕ) : Type 0 where
  pub within : carried_past (hash_of p g) f page (pages_to page end) (new_star_lem k word owner ∷ []) ≡ []
  pub applies : applied p.places page (pages_to page end) k word owner pool planned f
      ≡ replaced p.places f page (cascaded (hash_of p g) f page (pages_to page end) (new_star_lem k word owner ∷ []))

-- d pages from `page` on are sound and planned, with the contents `contents`, and the words w are carried past them
pub record Pushed (p : Parameters) (g : Growth) (f : File) (k page : ℕ) (pool planned w : List ℕ) (d : ℕ) : Type 0 where
  pub most : page + d ≤ p.pages
  pub sound : (q : ℕ) → page ≤ q → q < page + d → sound_at p g f q ≡ true
  pub contents : List Contents
  pub size : length contents ≡ d
  pub sources : stretch p.places page d pool ≡ column p.places (λ (s : Star). s.payload.word) contents
  pub separators_are : take d (drop page planned) ≡ separators contents
  pub all_sourced : Sourced f.numbers k contents
  pub are : (word owner : ℕ) → map (mapped (renamed f.words f.owners word owner)) contents ≡ cascaded (hash_of p g) f page d (new_star_lem k word owner ∷ [])
  pub carried : (word owner : ℕ) → map (renamed f.words f.owners word owner) (waits w) ≡ carried_past (hash_of p g) f page d (new_star_lem k word owner ∷ [])
  pub words : Carriable p g f k (page + d) w

-- what pushing the star k from `page` to `last` answers and leaves, with any word and owner
abbrev pub PushesTo : Parameters → Growth → File → ℕ → ℕ → ℕ → List ℕ → List ℕ → List ℕ → Pushing → Type 0
PushesTo p g f k page last pool planned W (Ends end) = (page ≤ end) × ((end ≤ last) × ((word owner : ℕ) → PushedTo p g f k word owner page pool planned end))
PushesTo p g f k page last pool planned W (Leaves n) = (0 < n) × ((n ≤ length W) × Pushed p g f k page pool planned (take n W) (pages_to page last))

-- the run from the home of the star k to page `last` is known, and its pages are what the rule gives their stars
pub record Ruled (p : Parameters) (g : Growth) (f : File) (pool : List ℕ) (k last : ℕ) : Type 0 where
  pub ends : last ≡ block_end p g f (entry_start p g k)
  pub known : KnownTo p g f pool (entry_start p g k) (last + 1)
  pub ruled : pages_at p.places f (entry_start p g k) (pages_to (entry_start p g k) last)
      ≡ pages (hash_of p g) (entry_start p g k) (pages_to (entry_start p g k) last) (gathered p.places f (entry_start p g k) (pages_to (entry_start p g k) last))

-- the page's last place is empty
abbrev pub is_vacant : Parameters → List ℕ → ℕ → Bool
is_vacant p ns page = eqb (number_at p.places page (p.places - 1) ns) 0
