-- The four lent file buffers, and the rule's pages written into them.
use Rattle.std.specs.Prelude.{◌≡◌, Bool, true, false, not, cond, ◌&&◌, List, [], ◌∷◌, ◌++◌, map, ℕ, zero, suc, ◌*◌, ◌<◌, leb, ltb, eqb, get_or}
unfoldable pub use Rattle.buffers.specs.Lists.{padded, written}
use Rattle.pages.specs.Page.{part}
use Rattle.placement.specs.Rule.{Star, Hash, Contents, keep, pages, first, pour, separators, star_with}

pub record File : Type 0 where
  pub separators : List ℕ
  pub numbers : List ℕ
  pub words : List ℕ
  pub owners : List ℕ

-- "0 marks an empty place": the stars of parallel numbers, words and owners, in order.
unfoldable pub stars_of : List ℕ → List ℕ → List ℕ → List Star
stars_of [] ws os = []
stars_of (n ∷ ns) [] os = []
stars_of (n ∷ ns) (w ∷ ws) [] = []
stars_of (n ∷ ns) (w ∷ ws) (o ∷ os) = keep (not (eqb n 0)) (star_with n w o) (stars_of ns ws os)

unfoldable pub stars_at : ℕ → File → ℕ → List Star
stars_at places f p = stars_of (part places p f.numbers) (part places p f.words) (part places p f.owners)

-- What the file says of page p, and of the n pages from p.
unfoldable pub contents_at : ℕ → File → ℕ → Contents
contents_at places f p = record { separator = get_or f.separators p 0; stars = stars_at places f p }

unfoldable pub pages_at : ℕ → File → ℕ → ℕ → List Contents
pages_at places f p zero = []
pages_at places f p (suc n) = contents_at places f p ∷ pages_at places f (suc p) n

-- The stars of the n pages from p, by number.
unfoldable pub gathered : ℕ → File → ℕ → ℕ → List Star
gathered places f p zero = []
gathered places f p (suc n) = pour (stars_at places f p) (gathered places f (suc p) n)

-- "Star number: 1 to 2,147,483,646".
abbrev pub greatest : ℕ
greatest = 2147483646

-- "Its numbers rise strictly, lie in range and precede the empty places, its words are valid, those of empty places 0", "An empty place has
-- [owner] 0, or its page is unsound": numbers above last, and none after an empty place, as none is above the greatest.
unfoldable pub orderly : (ℕ → Bool) → ℕ → List ℕ → List ℕ → List ℕ → Bool
orderly ok last [] ws os = true
orderly ok last (n ∷ ns) [] os = false
orderly ok last (n ∷ ns) (w ∷ ws) [] = false
orderly ok last (n ∷ ns) (w ∷ ws) (o ∷ os) =
    cond (eqb n 0)
    (eqb w 0 && (eqb o 0 && orderly ok greatest ns ws os))
    (ltb last n && (leb n greatest && (ok w && orderly ok n ns ws os)))

unfoldable pub every : {A : Type 0} → (A → Bool) → List A → Bool
every q [] = true
every q (x ∷ xs) = q x && every q xs

-- "A page is sound if": the above, "its separator is at most 2^k − 1, and each star's first page from home with a separator above its signature is this one."
unfoldable pub sound : (ℕ → Bool) → Hash → File → ℕ → Bool
sound ok H f p =
    orderly ok 0 (part H.room p f.numbers) (part H.room p f.words) (part H.room p f.owners)
    && (leb (get_or f.separators p 0) H.top
    && every (λ (s : Star). eqb (first H 0 f.separators s.number) p) (stars_at H.room f p))

-- One item for each place of these pages: numbers, words or owners, by g. "Empty places last."
unfoldable pub column : ℕ → (Star → ℕ) → List Contents → List ℕ
column places g [] = []
column places g (c ∷ cs) = padded places (map g c.stars) ++ column places g cs

-- The pages cs as a whole file.
unfoldable pub file_of : ℕ → List Contents → File
file_of places cs =
    record {
      separators = separators cs;
      numbers = column places (λ (s : Star). s.number) cs;
      words = column places (λ (s : Star). s.payload.word) cs;
      owners = column places (λ (s : Star). s.payload.owner) cs;
    }

-- "Other pages stay": the file with the pages from p on replaced by cs.
unfoldable pub replaced : ℕ → File → ℕ → List Contents → File
replaced places f p cs =
    record {
      separators = written p (separators cs) f.separators;
      numbers = written (p * places) (column places (λ (s : Star). s.number) cs) f.numbers;
      words = written (p * places) (column places (λ (s : Star). s.payload.word) cs) f.words;
      owners = written (p * places) (column places (λ (s : Star). s.payload.owner) cs) f.owners;
    }

-- The whole file under the rule.
unfoldable pub laid : ℕ → Hash → ℕ → List Star → File
laid places H M w = file_of places (pages H 0 M w)

-- All pages are sound, and the file is what the rule gives its stars.
pub record Clean (ok : ℕ → Bool) (H : Hash) (M : ℕ) (f : File) : Type 0 where
  pub all_sound_lem : (p : ℕ) → p < M → sound ok H f p ≡ true
  pub by_rule : f ≡ laid H.room H M (gathered H.room f 0 M)
