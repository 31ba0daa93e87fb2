-- The rows of a file's buffers are its stars by number, as `gathered` (and so `all_stars`) has them.
-- Assumes nothing.
use mathlib.Core.Path.{◌≡◌, refl, sym, ap, ◌∙◌}
use mathlib.Core.Bool.{Bool, true, false, not, cond}
use mathlib.Core.List.{List, [], ◌∷◌, ◌++◌, map}
use Prim.Native.Nat.{ℕ, zero, suc, ◌+◌, ◌-◌, ◌*◌}
use native.Mathlib.Nat.{suc-mul, zero-add, zero-mul, add-zero}
use native.Mathlib.Omega.{arith}
use lib.Dec.{leb, eqb}
use lib.ListN.{length, get_or, take, drop}
use lib.Seq.{take-take, take_all, drop-drop}
use Rattle.buffers.proofs.Lists.{drop-take}
use Rattle.pages.specs.Page.{part}
use Rattle.placement.specs.Rule.{Star, keep, insert, pour, star_with}
use Rattle.placement.specs.File.{File, stars_of, stars_at, gathered}
use Rattle.placement.specs.Shape.{Sized}
use Rattle.placement.proofs.Order.{pour-append}
use Rattle.fits_table.specs.Items.{kept_item, held_items}
use Rattle.fits_table.specs.Order.{insert_by, sort_by}
use Rattle.fits_table.specs.Rows.{row_of_star}
use Rattle.fits_table.specs.Shape.{row_of, rows_in}

-- sorting and a map that keeps the key
map-insert : {A B : Type 0} (f : A → ℕ) (g : B → ℕ) (h : A → B) → ((x : A) → g (h x) ≡ f x) → (x : A) (l : List A) → map h (insert_by f x l) ≡ insert_by g (h x) (map h l)
unfolding insert_by
map-insert f g h e x [] = refl
map-insert {A} {B} f g h e x (y ∷ ys) = go (leb (f x) (f y)) refl (map-insert f g h e x ys)
  where
    same : leb (g (h x)) (g (h y)) ≡ leb (f x) (f y)
    same = ap (λ (k : ℕ). leb k (g (h y))) (e x) ∙ ap (leb (f x)) (e y)

    go : (t : Bool) → leb (f x) (f y) ≡ t → map h (insert_by f x ys) ≡ insert_by g (h x) (map h ys)
        → map h (cond t (x ∷ y ∷ ys) (y ∷ insert_by f x ys)) ≡ cond (leb (g (h x)) (g (h y))) (h x ∷ h y ∷ map h ys) (h y ∷ insert_by g (h x) (map h ys))
    go true t ih = rw (same, t)
    go false t ih = rw (same, t) (ap (λ (l : List B). h y ∷ l) ih)

pub map-sort : {A B : Type 0} (f : A → ℕ) (g : B → ℕ) (h : A → B) → ((x : A) → g (h x) ≡ f x) → (l : List A) → map h (sort_by f l) ≡ sort_by g (map h l)
unfolding sort_by
map-sort f g h e [] = refl
map-sort f g h e (x ∷ l) = map-insert f g h e x (sort_by f l) ∙ ap (insert_by g (h x)) (map-sort f g h e l)

insert-is : (s : Star) (l : List Star) → insert s l ≡ insert_by (λ (t : Star). t.number) s l
unfolding insert insert_by
insert-is s [] = refl
insert-is s (t ∷ l) = ap (λ (q : List Star). cond (leb s.number t.number) (s ∷ t ∷ l) (t ∷ q)) (insert-is s l)

pour-is : (l : List Star) → pour l [] ≡ sort_by (λ (t : Star). t.number) l
unfolding pour sort_by
pour-is [] = refl
pour-is (s ∷ l) = insert-is s (pour l []) ∙ ap (insert_by (λ (t : Star). t.number) s) (pour-is l)

-- the stars of the n pages from p, page by page
in_pages : ℕ → File → ℕ → ℕ → List Star
in_pages places f p zero = []
in_pages places f p (suc n) = stars_at places f p ++ in_pages places f (suc p) n

gathered-is : (places : ℕ) (f : File) (p n : ℕ) → gathered places f p n ≡ pour (in_pages places f p n) []
unfolding gathered in_pages pour
gathered-is places f p zero = refl
gathered-is places f p (suc n) = ap (pour (stars_at places f p)) (gathered-is places f (suc p) n) ∙ sym (pour-append (stars_at places f p) (in_pages places f (suc p) n) [])

-- the stars of lists that are cut alike
stars_cut : (n : ℕ) (ns ws os : List ℕ) → stars_of ns ws os ≡ stars_of (take n ns) (take n ws) (take n os) ++ stars_of (drop n ns) (drop n ws) (drop n os)
unfolding stars_of
stars_cut zero ns ws os = refl
stars_cut (suc n) [] ws os = refl
stars_cut (suc n) (x ∷ ns) [] os = sym (nothing (drop n ns) (drop (suc n) os))
  where
    nothing : (ns os : List ℕ) → stars_of ns [] os ≡ []
    nothing [] os = refl
    nothing (x ∷ ns) os = refl
stars_cut (suc n) (x ∷ ns) (w ∷ ws) [] = sym (nothing (drop n ns) (drop n ws))
  where
    nothing : (ns ws : List ℕ) → stars_of ns ws [] ≡ []
    nothing [] ws = refl
    nothing (x ∷ ns) [] = refl
    nothing (x ∷ ns) (w ∷ ws) = refl
stars_cut (suc n) (x ∷ ns) (w ∷ ws) (o ∷ os) = go (not (eqb x 0)) (stars_cut n ns ws os)
  where
    go : (t : Bool) → stars_of ns ws os ≡ stars_of (take n ns) (take n ws) (take n os) ++ stars_of (drop n ns) (drop n ws) (drop n os)
        → keep t (star_with x w o) (stars_of ns ws os) ≡ keep t (star_with x w o) (stars_of (take n ns) (take n ws) (take n os)) ++ stars_of (drop n ns) (drop n ws) (drop n os)
    go true ih = ap (λ (l : List Star). star_with x w o ∷ l) ih
    go false ih = ih

-- the pages' stars, one after the other, are those of the whole stretch
pages-cut : (places : ℕ) (f : File) (p n : ℕ)
    → in_pages places f p n ≡ stars_of (take (n * places) (drop (p * places) f.numbers)) (take (n * places) (drop (p * places) f.words)) (take (n * places) (drop (p * places) f.owners))
unfolding in_pages stars_at part stars_of
pages-cut places f p zero = rw (zero-mul places)
pages-cut places f p (suc n) =
    ap (λ (l : List Star). stars_at places f p ++ l) (pages-cut places f (suc p) n)
    ∙ sym (whole f.numbers f.words f.owners)
  where
    sum : suc n * places ≡ places + n * places
    sum = suc-mul n places ∙ omega arith

    up : p * places + places ≡ suc p * places
    up = sym (suc-mul p places)

    front : (l : List ℕ) → take places (take (suc n * places) (drop (p * places) l)) ≡ take places (drop (p * places) l)
    front l = take-take places (suc n * places) (drop (p * places) l) (omega (arith, sum))

    rest : (l : List ℕ) → drop places (take (suc n * places) (drop (p * places) l)) ≡ take (n * places) (drop (suc p * places) l)
    rest l =
        let less : places + n * places - places ≡ n * places = omega arith in
        ap (λ (k : ℕ). drop places (take k (drop (p * places) l))) sum
        ∙ drop-take places (places + n * places) (drop (p * places) l)
        ∙ ap (λ (k : ℕ). take k (drop places (drop (p * places) l))) less
        ∙ ap (take (n * places)) (drop-drop places (p * places) l ∙ ap (λ (k : ℕ). drop k l) up)

    whole : (a b c : List ℕ)
        → stars_of (take (suc n * places) (drop (p * places) a)) (take (suc n * places) (drop (p * places) b)) (take (suc n * places) (drop (p * places) c))
        ≡ stars_of (take places (drop (p * places) a)) (take places (drop (p * places) b)) (take places (drop (p * places) c))
        ++ stars_of (take (n * places) (drop (suc p * places) a)) (take (n * places) (drop (suc p * places) b)) (take (n * places) (drop (suc p * places) c))
    whole a b c =
        stars_cut places (take (suc n * places) (drop (p * places) a)) (take (suc n * places) (drop (p * places) b)) (take (suc n * places) (drop (p * places) c))
        ∙ rw (front a, front b, front c, rest a, rest b, rest c)

-- the places that hold a number are the stars
held_rows : (N W : List ℕ) (i : ℕ) (ns ws os : List ℕ) → length ws ≡ length ns → length os ≡ length ns
    → ((k : ℕ) → get_or N (i + k) 0 ≡ get_or ns k 0) → ((k : ℕ) → get_or W (i + k) 0 ≡ get_or ws k 0)
    → map row_of_star (stars_of ns ws os) ≡ map (row_of N W) (held_items i ns)
unfolding stars_of held_items kept_item
held_rows N W i [] ws os a b n w = refl
held_rows N W i (x ∷ ns) [] os a b n w = absurd (omega arith)
held_rows N W i (x ∷ ns) (y ∷ ws) [] a b n w = absurd (omega arith)
held_rows N W i (x ∷ ns) (y ∷ ws) (o ∷ os) a b n w =
    go (not (eqb x 0)) (held_rows N W (suc i) ns ws os (omega arith) (omega arith) (later x ns N n) (later y ws W w))
  where
    later : (y : ℕ) (m L : List ℕ) → ((k : ℕ) → get_or L (i + k) 0 ≡ get_or (y ∷ m) k 0) → (k : ℕ) → get_or L (suc i + k) 0 ≡ get_or m k 0
    later y m L h k = let e : suc i + k ≡ i + suc k = omega arith in ap (λ (j : ℕ). get_or L j 0) e ∙ h (suc k)

    here : (y : ℕ) (m L : List ℕ) → ((k : ℕ) → get_or L (i + k) 0 ≡ get_or (y ∷ m) k 0) → y ≡ get_or L i 0
    here y m L h = sym (ap (λ (j : ℕ). get_or L j 0) (sym (add-zero i)) ∙ h 0)

    go : (t : Bool) → map row_of_star (stars_of ns ws os) ≡ map (row_of N W) (held_items (suc i) ns)
        → map row_of_star (keep t (star_with x y o) (stars_of ns ws os)) ≡ map (row_of N W) (kept_item t i (held_items (suc i) ns))
    go true ih =
        ap (λ (l : List (ℕ × ℕ)). (x, y) ∷ l) ih
        ∙ ap (λ (k : ℕ). (k, y) ∷ map (row_of N W) (held_items (suc i) ns)) (here x ns N n)
        ∙ ap (λ (k : ℕ). (get_or N i 0, k) ∷ map (row_of N W) (held_items (suc i) ns)) (here y ws W w)
    go false ih = ih

-- "rows in rising number" are the stars of all pages by number
pub file-rows : (places M : ℕ) (f : File) → Sized places M f → map row_of_star (gathered places f 0 M) ≡ rows_in f.numbers f.words
unfolding rows_in
file-rows places M f s =
    ap (map row_of_star) (gathered-is places f 0 M ∙ pour-is (in_pages places f 0 M))
    ∙ map-sort (λ (t : Star). t.number) (λ (r : ℕ × ℕ). r.0) row_of_star (λ t. refl) (in_pages places f 0 M)
    ∙ ap (λ (l : List Star). sort_by (λ (r : ℕ × ℕ). r.0) (map row_of_star l)) (pages-cut places f 0 M)
    ∙ ap (λ (l : List Star). sort_by (λ (r : ℕ × ℕ). r.0) (map row_of_star l)) all-stars
    ∙ ap (sort_by (λ (r : ℕ × ℕ). r.0))
    (held_rows f.numbers f.words 0 f.numbers f.words f.owners (s.of_words_lem ∙ sym s.of_numbers) (s.of_owners ∙ sym s.of_numbers)
    (λ k. ap (λ (j : ℕ). get_or f.numbers j 0) (zero-add k)) (λ k. ap (λ (j : ℕ). get_or f.words j 0) (zero-add k)))
    ∙ sym (map-sort (λ (x : ℕ). get_or f.numbers x 0) (λ (r : ℕ × ℕ). r.0) (row_of f.numbers f.words) (λ x. refl) (held_items 0 f.numbers))
  where
    whole : (l : List ℕ) → length l ≡ M * places → take (M * places) (drop (0 * places) l) ≡ l
    whole l e = ap (λ (k : ℕ). take (M * places) (drop k l)) (zero-mul places) ∙ take_all (M * places) l (omega arith)

    all-stars : stars_of (take (M * places) (drop (0 * places) f.numbers)) (take (M * places) (drop (0 * places) f.words)) (take (M * places) (drop (0 * places) f.owners))
        ≡ stars_of f.numbers f.words f.owners
    all-stars = rw (whole f.numbers s.of_numbers, whole f.words s.of_words_lem, whole f.owners s.of_owners)
