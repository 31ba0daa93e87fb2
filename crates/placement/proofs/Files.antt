-- Files under the rule: what they say, their soundness, and entry and removal in them.
use mathlib.Core.Path.{◌≡◌, refl, sym, ap, ◌∙◌, subst}
use mathlib.Core.Bool.{Bool}
use mathlib.Core.List.{List, [], ◌∷◌, ◌++◌, map, Memᴰ, append-nil}
use Prim.Native.Nat.{ℕ, zero, suc, ◌+◌, ◌*◌, ◌≤◌, ◌<◌}
use native.Mathlib.Nat.{add-mul, mul-le-mul_right}
use native.Mathlib.Omega.{arith}
use lib.ListN.{length, take, drop, get_or, drop_of_length-le}
use lib.Seq.{drop-cons, take_all, length-take-le}
use Rattle.pages.proofs.Parts.{part-front, part-back}
use Rattle.buffers.proofs.Written.{written-add, length-written}
use Rattle.buffers.specs.Lists.{written, padded}
use Rattle.pages.specs.Page.{part}
use Rattle.placement.specs.Rule.{Star, Hash, Contents, contents_of, onward, pages, left, pour, separators}
use Rattle.placement.specs.Shape.{collected, blank}
use Rattle.placement.specs.File.{File, stars_at, contents_at, pages_at, gathered, column, file_of, replaced, laid}
use Rattle.placement.specs.Shape.{Sized}
use Rattle.placement.proofs.Separator.{sep_fits}
use Rattle.placement.proofs.Composition.{length-pages, middle_pages}
use Rattle.placement.proofs.Standing.{length-separators, page-first, stands-first, stands_at}
use Rattle.placement.proofs.Order.{Rising, rising-same, rising-filter}
use Rattle.placement.proofs.Collecting.{on-all}
use Rattle.placement.proofs.Locality.{standing}
use Rattle.placement.proofs.Writing.{Roomy, part-column, parts_same, length-column, column-append, written-column, written-separators, separators-append, get_d_separators}
use Rattle.placement.proofs.Pages.{Proper, Numbered, stars_of-padded}

abbrev pub number_of : Star → ℕ
number_of s = s.number

abbrev pub word_of : Star → ℕ
word_of s = s.payload.word

abbrev pub owner_of : Star → ℕ
owner_of s = s.payload.owner

pub gathered-collected : (b : ℕ) (f : File) (p n : ℕ) → gathered b f p n ≡ collected (pages_at b f p n)
unfolding gathered pages_at collected contents_at
gathered-collected b f p zero = refl
gathered-collected b f p (suc n) = ap (pour (stars_at b f p)) (gathered-collected b f (suc p) n)

pub length-pages_at : (b : ℕ) (f : File) (p n : ℕ) → length (pages_at b f p n) ≡ n
unfolding pages_at
length-pages_at b f p zero = refl
length-pages_at b f p (suc n) = ap suc (length-pages_at b f (suc p) n)

-- Every page has stars of numbers other than 0.
abbrev pub AllNumbered : List Contents → Type 0
AllNumbered cs = (p : ℕ) → p < length cs → Numbered (get_or cs p blank).stars

pub stars_at-of : (b : ℕ) (cs : List Contents) (p : ℕ) → Roomy b cs → p < length cs → Numbered (get_or cs p blank).stars → stars_at b (file_of b cs) p ≡ (get_or cs p blank).stars
unfolding stars_at file_of
stars_at-of b cs p r h g = rw (part-column b number_of cs p r h, part-column b word_of cs p r h, part-column b owner_of cs p r h) (stars_of-padded b (get_or cs p blank).stars g)

pub contents_at-of : (b : ℕ) (cs : List Contents) (p : ℕ) → Roomy b cs → p < length cs → Numbered (get_or cs p blank).stars → contents_at b (file_of b cs) p ≡ get_or cs p blank
unfolding contents_at file_of
contents_at-of b cs p r h g = λ i. record { separator = get_d_separators cs p i; stars = stars_at-of b cs p r h g i }

pub pages_at-of : (b : ℕ) (cs : List Contents) (p n : ℕ) → Roomy b cs → AllNumbered cs → p + n ≤ length cs → pages_at b (file_of b cs) p n ≡ take n (drop p cs)
unfolding pages_at
pages_at-of b cs p zero r g h = refl
pages_at-of b cs p (suc n) r g h =
    ap (λ (c : Contents). c ∷ pages_at b (file_of b cs) (suc p) n) (contents_at-of b cs p r (omega arith) (g p (omega arith)))
    ∙ ap (λ (l : List Contents). get_or cs p blank ∷ l) (pages_at-of b cs (suc p) n r g (omega arith))
    ∙ ap (take (suc n)) (sym (drop-cons cs p blank (omega arith)))

pub sized_of : (b : ℕ) (cs : List Contents) → Roomy b cs → Sized b (length cs) (file_of b cs)
unfolding file_of
sized_of b cs r = record { of_separators = length-separators cs; of_numbers = length-column b number_of cs r; of_words_lem = length-column b word_of cs r; of_owners = length-column b owner_of cs r }

pub replaced-of : (b : ℕ) (cs ds : List Contents) (p : ℕ) → Roomy b cs → Roomy b ds → p + length ds ≤ length cs
    → replaced b (file_of b cs) p ds ≡ file_of b (written p ds cs)
unfolding replaced file_of
replaced-of b cs ds p rc rd h =
    λ i. record {
      separators = written-separators p ds cs h i;
      numbers = written-column b number_of p ds cs rc rd h i;
      words = written-column b word_of p ds cs rc rd h i;
      owners = written-column b owner_of p ds cs rc rd h i;
    }

-- Two adjacent stretches, one after the other.
-- All pages replaced.
pub all-replaced : (b : ℕ) (cs ds : List Contents) → Roomy b cs → Roomy b ds → length ds ≡ length cs → replaced b (file_of b cs) 0 ds ≡ file_of b ds
unfolding written
all-replaced b cs ds rc rd e = replaced-of b cs ds 0 rc rd (omega arith) ∙ ap (file_of b) whole
  where
    whole : written 0 ds cs ≡ ds
    whole = ap (λ (l : List Contents). ds ++ l) (drop_of_length-le cs {i = 0 + length ds} (omega arith)) ∙ append-nil ds

pub replaced-add : (b M : ℕ) (f : File) (p : ℕ) (cs ds : List Contents) → Sized b M f → Roomy b cs → p ≤ M
    → replaced b (replaced b f p cs) (p + length cs) ds ≡ replaced b f p (cs ++ ds)
unfolding replaced
replaced-add b M f p cs ds z r h =
    λ i. record { separators = first-list i; numbers = other number_of f.numbers z.of_numbers i; words = other word_of f.words z.of_words_lem i; owners = other owner_of f.owners z.of_owners i }
  where
    first-list : written (p + length cs) (separators ds) (written p (separators cs) f.separators) ≡ written p (separators (cs ++ ds)) f.separators
    first-list =
        ap (λ (k : ℕ). written (p + k) (separators ds) (written p (separators cs) f.separators)) (sym (length-separators cs))
        ∙ written-add p (separators cs) (separators ds) f.separators (omega (arith, z.of_separators))
        ∙ ap (λ (l : List ℕ). written p l f.separators) (sym (separators-append cs ds))

    other : (g : Star → ℕ) (l : List ℕ) → length l ≡ M * b
        → written ((p + length cs) * b) (column b g ds) (written (p * b) (column b g cs) l) ≡ written (p * b) (column b g (cs ++ ds)) l
    other g l e =
        ap (λ (k : ℕ). written k (column b g ds) (written (p * b) (column b g cs) l)) (add-mul p (length cs) b ∙ ap (λ (k : ℕ). p * b + k) (sym (length-column b g cs r)))
        ∙ written-add (p * b) (column b g cs) (column b g ds) l (omega (arith, e, mul-le-mul_right b h))
        ∙ ap (λ (m : List ℕ). written (p * b) m l) (sym (column-append b g cs ds))

pub sized-replaced : (b M : ℕ) (f : File) (p : ℕ) (cs : List Contents) → Sized b M f → Roomy b cs → p + length cs ≤ M → Sized b M (replaced b f p cs)
unfolding replaced
sized-replaced b M f p cs z r h =
    record {
      of_separators = length-written p (separators cs) f.separators (omega (arith, z.of_separators, length-separators cs)) ∙ z.of_separators;
      of_numbers = other number_of f.numbers z.of_numbers;
      of_words_lem = other word_of f.words z.of_words_lem;
      of_owners = other owner_of f.owners z.of_owners;
    }
  where
    other : (g : Star → ℕ) (l : List ℕ) → length l ≡ M * b → length (written (p * b) (column b g cs) l) ≡ M * b
    other g l e =
        length-written (p * b) (column b g cs) l (omega (arith, e, length-column b g cs r, add-mul p (length cs) b, mul-le-mul_right b h)) ∙ e

-- The replaced pages are the new ones, the others stay.
part-replaced : (b M p i : ℕ) (g : Star → ℕ) (cs : List Contents) (l : List ℕ) → length l ≡ M * b → Roomy b cs → p ≤ M → i < length cs
    → part b (p + i) (written (p * b) (column b g cs) l) ≡ padded b (map g (get_or cs i blank).stars)
unfolding written
part-replaced b M p i g cs l e r h k =
    part-back b p i (take (p * b) l) (column b g cs ++ drop (p * b + length (column b g cs)) l) (length-take-le (p * b) l (omega (arith, e, mul-le-mul_right b h)))
    ∙ part-front b i (column b g cs) (drop (p * b + length (column b g cs)) l) (omega (arith, length-column b g cs r, mul-le-mul_right b k))
    ∙ part-column b g cs i r k

pub stars_at-replaced : (b M : ℕ) (f : File) (p i : ℕ) (cs : List Contents) → Sized b M f → Roomy b cs → p ≤ M → i < length cs → Numbered (get_or cs i blank).stars
    → stars_at b (replaced b f p cs) (p + i) ≡ (get_or cs i blank).stars
unfolding stars_at replaced
stars_at-replaced b M f p i cs z r h k g =
    rw (part-replaced b M p i number_of cs f.numbers z.of_numbers r h k, part-replaced b M p i word_of cs f.words z.of_words_lem r h k, part-replaced b M p i owner_of cs f.owners z.of_owners r h k)
    (stars_of-padded b (get_or cs i blank).stars g)

pub determined : (b M : ℕ) (f g : File) → Sized b M f → Sized b M g → f.separators ≡ g.separators
    → ((p : ℕ) → p < M → part b p f.numbers ≡ part b p g.numbers) → ((p : ℕ) → p < M → part b p f.words ≡ part b p g.words)
    → ((p : ℕ) → p < M → part b p f.owners ≡ part b p g.owners) → f ≡ g
determined b M f g zf zg e hn hw ho =
    λ i. record {
      separators = e i;
      numbers = parts_same b M f.numbers g.numbers zf.of_numbers zg.of_numbers hn i;
      words = parts_same b M f.words g.words zf.of_words_lem zg.of_words_lem hw i;
      owners = parts_same b M f.owners g.owners zf.of_owners zg.of_owners ho i;
    }

pub roomy-pages : (H : Hash) (p n : ℕ) (w : List Star) → Roomy H.room (pages H p n w)
unfolding pages contents_of
roomy-pages H p zero w = tt
roomy-pages H p (suc n) w = (sep_fits H p w, roomy-pages H (suc p) n (onward H p w))

-- The stars of a page are stars of the list.
pub page-member : (H : Hash) (p n i : ℕ) (w : List Star) → i < n → (s : Star) → Memᴰ s (get_or (pages H p n w) i blank).stars → Memᴰ s w
page-member H p n i w h s m = (stands-first H p n i w s h m).0

pub rising-page : (H : Hash) (p n i k : ℕ) (w : List Star) → i < n → Rising k w → Rising k (get_or (pages H p n w) i blank).stars
rising-page H p n i k w h r =
    rw (page-first H p n i w h) (rising-filter k (stands_at H p (separators (pages H p n w)) (p + i)) w r)

module _ (ok : ℕ → Bool) (H : Hash) (M : ℕ) (w : List Star) (proper : Proper ok w) where
  all-numbered : AllNumbered (pages H 0 M w)
  all-numbered p h s m = (proper s (page-member H 0 M p w (omega (arith, length-pages H 0 M w)) s m)).0

  pub stars_at-laid : (p : ℕ) → p < M → stars_at H.room (laid H.room H M w) p ≡ (get_or (pages H 0 M w) p blank).stars
  unfolding laid
  stars_at-laid p h =
      let inside : p < length (pages H 0 M w) = omega (arith, length-pages H 0 M w) in
      stars_at-of H.room (pages H 0 M w) p (roomy-pages H 0 M w) inside (all-numbered p inside)

  pub pages_at-laid : (p n : ℕ) → p + n ≤ M → pages_at H.room (laid H.room H M w) p n ≡ take n (drop p (pages H 0 M w))
  unfolding laid
  pages_at-laid p n h = pages_at-of H.room (pages H 0 M w) p n (roomy-pages H 0 M w) all-numbered (omega (arith, length-pages H 0 M w))

  -- The stretch of n pages from a.
  pub gathered-stretch : (a n : ℕ) → a + n ≤ M → gathered H.room (laid H.room H M w) a n ≡ standing H a n w
  gathered-stretch a n h =
      gathered-collected H.room (laid H.room H M w) a n ∙ ap collected (pages_at-laid a n h ∙ middle_pages H a n M w h)

  -- Over all pages: the list itself.
  pub gathered-laid : (k : ℕ) → Rising k w → left H 0 M w ≡ [] → gathered H.room (laid H.room H M w) 0 M ≡ w
  gathered-laid k r e =
      gathered-collected H.room (laid H.room H M w) 0 M
      ∙ ap collected (pages_at-laid 0 M (omega arith) ∙ take_all M (pages H 0 M w) (omega (arith, length-pages H 0 M w)))
      ∙ on-all H 0 M k w r e

  pub sized-laid : Sized H.room M (laid H.room H M w)
  unfolding laid
  sized-laid = subst (λ (k : ℕ). Sized H.room k (file_of H.room (pages H 0 M w))) (length-pages H 0 M w) (sized_of H.room (pages H 0 M w) (roomy-pages H 0 M w))

-- Lists with the same stars have the same layout.
pub same_layout : (H : Hash) (M j k : ℕ) (t u : List Star) → Rising j t → Rising k u → ((s : Star) → Memᴰ s t → Memᴰ s u) → ((s : Star) → Memᴰ s u → Memᴰ s t)
    → laid H.room H M t ≡ laid H.room H M u
same_layout H M j k t u rt ru f g = ap (laid H.room H M) (rising-same j k t u rt ru f g)
