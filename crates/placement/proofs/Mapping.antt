-- A map of stars that keeps numbers commutes with the rule.
use mathlib.Core.Path.{◌≡◌, refl, ap, ◌∙◌}
use mathlib.Core.Bool.{Bool, true, false, not, cond}
use mathlib.Core.List.{List, [], ◌∷◌, map}
use Prim.Native.Nat.{ℕ, zero, suc}
use lib.Dec.{leb, eqb}
use lib.ListN.{length-map}
use Rattle.placement.specs.Rule.{Star, Hash, Contents, keep, filter, below, staying, passing, separator_from, separator_of, contents_of, onward, pages, left, insert, pour, without}
use Rattle.placement.specs.Shape.{collected}

abbrev pub Keeps : (Star → Star) → Type 0
Keeps g = (s : Star) → (g s).number ≡ s.number

abbrev pub mapped : (Star → Star) → Contents → Contents
mapped g c = record { separator = c.separator; stars = map g c.stars }

module _ (g : Star → Star) (keeps : Keeps g) where
  -- A test of the number.
  pub filter_map : (q : ℕ → Bool) (w : List Star) → filter (λ (s : Star). q s.number) (map g w) ≡ map g (filter (λ (s : Star). q s.number) w)
  unfolding filter
  filter_map q [] = refl
  filter_map q (s ∷ l) =
      ap (λ (k : ℕ). keep (q k) (g s) (filter (λ (t : Star). q t.number) (map g l))) (keeps s) ∙ go (q s.number) (filter_map q l)
    where
      go : (b : Bool) → filter (λ (t : Star). q t.number) (map g l) ≡ map g (filter (λ (t : Star). q t.number) l)
          → keep b (g s) (filter (λ (t : Star). q t.number) (map g l)) ≡ map g (keep b s (filter (λ (t : Star). q t.number) l))
      go true ih = ap (λ (m : List Star). g s ∷ m) ih
      go false ih = ih

  pub insert-map : (s : Star) (l : List Star) → insert (g s) (map g l) ≡ map g (insert s l)
  unfolding insert
  insert-map s [] = refl
  insert-map s (t ∷ ts) =
      ap (λ (k : ℕ). cond (leb k (g t).number) (g s ∷ g t ∷ map g ts) (g t ∷ insert (g s) (map g ts))) (keeps s)
      ∙ ap (λ (k : ℕ). cond (leb s.number k) (g s ∷ g t ∷ map g ts) (g t ∷ insert (g s) (map g ts))) (keeps t)
      ∙ go (leb s.number t.number) (insert-map s ts)
    where
      go : (b : Bool) → insert (g s) (map g ts) ≡ map g (insert s ts)
          → cond b (g s ∷ g t ∷ map g ts) (g t ∷ insert (g s) (map g ts)) ≡ map g (cond b (s ∷ t ∷ ts) (t ∷ insert s ts))
      go true ih = refl
      go false ih = ap (λ (m : List Star). g t ∷ m) ih

  pub pour-map : (xs l : List Star) → pour (map g xs) (map g l) ≡ map g (pour xs l)
  unfolding pour
  pour-map [] l = refl
  pour-map (x ∷ xs) l = ap (insert (g x)) (pour-map xs l) ∙ insert-map x (pour xs l)

  pub collected-map : (cs : List Contents) → collected (map (mapped g) cs) ≡ map g (collected cs)
  unfolding collected
  collected-map [] = refl
  collected-map (c ∷ cs) = ap (pour (map g c.stars)) (collected-map cs) ∙ pour-map c.stars (collected cs)

  pub without-map : (k : ℕ) (w : List Star) → without k (map g w) ≡ map g (without k w)
  unfolding without
  without-map k w = filter_map (λ (n : ℕ). not (eqb n k)) w

  module _ (H : Hash) where
    pub staying-map : (p v : ℕ) (w : List Star) → staying H p v (map g w) ≡ map g (staying H p v w)
    unfolding staying
    staying-map p v w = filter_map (below H p v) w

    from-map : (p : ℕ) (w : List Star) (v : ℕ) → separator_from H p (map g w) v ≡ separator_from H p w v
    unfolding separator_from
    from-map p w zero = refl
    from-map p w (suc v) = rw (staying-map p (suc v) w, length-map (staying H p (suc v) w) g, from-map p w v)

    pub sep_map : (p : ℕ) (w : List Star) → separator_of H p (map g w) ≡ separator_of H p w
    unfolding separator_of
    sep_map p w = from-map p w H.top

    pub contents_map : (p : ℕ) (w : List Star) → contents_of H p (map g w) ≡ mapped g (contents_of H p w)
    unfolding contents_of
    contents_map p w = rw (sep_map p w, staying-map p (separator_of H p w) w)

    pub onward-map : (p : ℕ) (w : List Star) → onward H p (map g w) ≡ map g (onward H p w)
    unfolding onward passing
    onward-map p w = rw (sep_map p w) (filter_map (λ (k : ℕ). not (below H p (separator_of H p w) k)) w)

    pub pages-map : (p n : ℕ) (w : List Star) → pages H p n (map g w) ≡ map (mapped g) (pages H p n w)
    unfolding pages
    pages-map p zero w = refl
    pages-map p (suc n) w = rw (contents_map p w, onward-map p w) (ap (λ (cs : List Contents). mapped g (contents_of H p w) ∷ cs) (pages-map (suc p) n (onward H p w)))

    pub left-map : (p n : ℕ) (w : List Star) → left H p n (map g w) ≡ map g (left H p n w)
    unfolding left
    left-map p zero w = refl
    left-map p (suc n) w = rw (onward-map p w) (left-map (suc p) n (onward H p w))
