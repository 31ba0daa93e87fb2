-- An entry that pushes stars from page to page: document 02 (ix).
use Rattle.std.specs.Prelude.{List, [], ◌∷◌, ℕ, zero, suc, get_or}
use Rattle.placement.specs.Rule.{Star, Hash, Contents, staying, passing, separator_from, pour}
use Rattle.placement.specs.File.{File, stars_at}

-- "the page's stars and the arriving ones", by number
unfoldable pub meeting : Hash → File → ℕ → List Star → List Star
meeting H f p arriving = pour (stars_at H.room f p) arriving

-- "the greatest one, not above the stored one, with at most b of the page's stars and the arriving ones below it"
unfoldable pub lowered : Hash → File → ℕ → List Star → ℕ
lowered H f p arriving = separator_from H p (meeting H f p arriving) (get_or f.separators p 0)

-- what the page then has
unfoldable pub pushed_to : Hash → File → ℕ → List Star → Contents
pushed_to H f p arriving =
    record {
      separator = lowered H f p arriving;
      stars = staying H p (lowered H f p arriving) (meeting H f p arriving);
    }

-- what is carried on to the next
unfoldable pub pushed_on : Hash → File → ℕ → List Star → List Star
pushed_on H f p arriving = passing H p (lowered H f p arriving) (meeting H f p arriving)

-- "from the page .. upward until nothing is carried on": what the pages visited get, of the n from p on
unfoldable pub cascaded : Hash → File → ℕ → ℕ → List Star → List Contents
cascaded H f p zero arriving = []
cascaded H f p (suc n) [] = []
cascaded H f p (suc n) (s ∷ arriving) =
    pushed_to H f p (s ∷ arriving) ∷ cascaded H f (suc p) n (pushed_on H f p (s ∷ arriving))

-- what is carried past these n pages
unfoldable pub carried_past : Hash → File → ℕ → ℕ → List Star → List Star
carried_past H f p zero arriving = arriving
carried_past H f p (suc n) [] = []
carried_past H f p (suc n) (s ∷ arriving) = carried_past H f (suc p) n (pushed_on H f p (s ∷ arriving))
