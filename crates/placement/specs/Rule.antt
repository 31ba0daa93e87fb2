-- The rule by which stars are placed on pages, over any hash. The waiting list is kept by number.
use Rattle.std.specs.Prelude.{Bool, true, false, not, cond, ◌&&◌, List, [], ◌∷◌, map, ℕ, zero, suc, leb, ltb, eqb, length}

-- What goes with a star's number from place to place.
pub record Payload : Type 0 where
  pub word : ℕ
  pub owner : ℕ

-- The rule reads the number alone.
pub record Star : Type 0 where
  pub number : ℕ
  pub payload : Payload

abbrev pub star_with : ℕ → ℕ → ℕ → Star
star_with number word owner = record { number = number; payload = record { word = word; owner = owner } }

-- What the rule asks of the hash: a number's home and its signature on a page; top is 2^k − 1 and room is b.
pub record Hash : Type 0 where
  pub home : ℕ → ℕ
  pub signature : ℕ → ℕ → ℕ
  pub top : ℕ
  pub room : ℕ

-- What a page gets.
pub record Contents : Type 0 where
  pub separator : ℕ
  pub stars : List Star

abbrev pub keep : {A : Type 0} → Bool → A → List A → List A
keep true x l = x ∷ l
keep false x l = l

unfoldable pub filter : {A : Type 0} → (A → Bool) → List A → List A
filter q [] = []
filter q (x ∷ xs) = keep (q x) x (filter q xs)

-- "Of the stars probing a page, those with a signature below its separator stay": those of home p or lower probe page p.
unfoldable pub below : Hash → ℕ → ℕ → ℕ → Bool
below H p v k = leb (H.home k) p && ltb (H.signature k p) v

unfoldable pub staying : Hash → ℕ → ℕ → List Star → List Star
staying H p v w = filter (λ (s : Star). below H p v s.number) w

-- ".. and the others probe the next page", with those whose home is higher.
unfoldable pub passing : Hash → ℕ → ℕ → List Star → List Star
passing H p v w = filter (λ (s : Star). not (below H p v s.number)) w

-- "The separator is the greatest v, at most 2^k − 1, for which at most b of them have a signature below v."
unfoldable pub separator_from : Hash → ℕ → List Star → ℕ → ℕ
separator_from H p w zero = zero
separator_from H p w (suc v) = cond (leb (length (staying H p (suc v) w)) H.room) (suc v) (separator_from H p w v)

unfoldable pub separator_of : Hash → ℕ → List Star → ℕ
separator_of H p w = separator_from H p w H.top

-- "Stars stay in rising order of number."
unfoldable pub contents_of : Hash → ℕ → List Star → Contents
contents_of H p w = record { separator = separator_of H p w; stars = staying H p (separator_of H p w) w }

unfoldable pub onward : Hash → ℕ → List Star → List Star
onward H p w = passing H p (separator_of H p w) w

-- "The rule over a stretch works its pages upward": what the n pages from p get of the stars w.
unfoldable pub pages : Hash → ℕ → ℕ → List Star → List Contents
pages H p zero w = []
pages H p (suc n) w = contents_of H p w ∷ pages H (suc p) n (onward H p w)

-- The stars that "haven't stayed yet" after these pages.
unfoldable pub left : Hash → ℕ → ℕ → List Star → List Star
left H p zero w = w
left H p (suc n) w = left H (suc p) n (onward H p w)

-- A "star's first page from home with a separator above its signature", of the pages from p; the page past them if there is none.
unfoldable pub first : Hash → ℕ → List ℕ → ℕ → ℕ
first H p [] k = p
first H p (v ∷ vs) k = cond (below H p v k) p (first H (suc p) vs k)

-- A star put before the first whose number is not smaller.
unfoldable pub insert : Star → List Star → List Star
insert s [] = s ∷ []
insert s (t ∷ ts) = cond (leb s.number t.number) (s ∷ t ∷ ts) (t ∷ insert s ts)

-- The stars xs inserted one by one.
unfoldable pub pour : List Star → List Star → List Star
pour [] l = l
pour (x ∷ xs) l = insert x (pour xs l)

-- The stars but the one of number k.
unfoldable pub without : ℕ → List Star → List Star
without k w = filter (λ (s : Star). not (eqb s.number k)) w

unfoldable pub separators : List Contents → List ℕ
separators cs = map (λ (c : Contents). c.separator) cs
