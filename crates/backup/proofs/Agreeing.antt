-- Two hashes that agree on the stars of a list give it the same pages.
use mathlib.Core.Path.{◌≡◌, refl, ap, ◌∙◌}
use mathlib.Core.Bool.{Bool, not}
use mathlib.Core.List.{List, Memᴰ}
use Prim.Native.Nat.{ℕ, zero, suc}
use Rattle.placement.specs.Rule.{Star, Hash, filter, below, staying, passing, separator_from, separator_of, contents_of, onward, pages, left}
use Rattle.placement.proofs.Filters.{filter-ext_on, member_filter}

-- The same top and room, and wherever the homes are the same, so are the signatures.
pub record Alike (H K : Hash) : Type 0 where
  pub top : H.top ≡ K.top
  pub room : H.room ≡ K.room
  pub signature : (k : ℕ) → H.home k ≡ K.home k → (page : ℕ) → H.signature k page ≡ K.signature k page

-- Each star of w has one home under both.
abbrev pub Agree : Hash → Hash → List Star → Type 0
Agree H K w = (s : Star) → Memᴰ s w → H.home s.number ≡ K.home s.number

pub agree_filter : (H K : Hash) (q : Star → Bool) (w : List Star) → Agree H K w → Agree H K (filter q w)
agree_filter H K q w a s m = a s (member_filter q w s m).0

module _ (H K : Hash) (alike : Alike H K) where
  below-same : (k : ℕ) → H.home k ≡ K.home k → (p v : ℕ) → below H p v k ≡ below K p v k
  unfolding below
  below-same k e p v = rw (e, alike.signature k e p)

  module _ (p : ℕ) (w : List Star) (agree : Agree H K w) where
    staying-same : (v : ℕ) → staying H p v w ≡ staying K p v w
    unfolding staying
    staying-same v = filter-ext_on (λ (s : Star). below H p v s.number) (λ (s : Star). below K p v s.number) w (λ s m. below-same s.number (agree s m) p v)

    passing-same : (v : ℕ) → passing H p v w ≡ passing K p v w
    unfolding passing
    passing-same v =
        filter-ext_on (λ (s : Star). not (below H p v s.number)) (λ (s : Star). not (below K p v s.number)) w
        (λ s m. ap not (below-same s.number (agree s m) p v))

    from-same : (v : ℕ) → separator_from H p w v ≡ separator_from K p w v
    unfolding separator_from
    from-same zero = refl
    from-same (suc v) = rw (staying-same (suc v), from-same v, alike.room)

    sep-same : separator_of H p w ≡ separator_of K p w
    unfolding separator_of
    sep-same = from-same H.top ∙ ap (separator_from K p w) alike.top

    contents-same : contents_of H p w ≡ contents_of K p w
    unfolding contents_of
    contents-same = rw (sep-same, staying-same (separator_of K p w))

    onward-same : onward H p w ≡ onward K p w
    unfolding onward
    onward-same = rw (sep-same, passing-same (separator_of K p w))

    agree-onward : Agree H K (onward K p w)
    unfolding onward passing
    agree-onward = agree_filter H K (λ (s : Star). not (below K p (separator_of K p w) s.number)) w agree

  pub pages-same : (p n : ℕ) (w : List Star) → Agree H K w → pages H p n w ≡ pages K p n w
  unfolding pages
  pages-same p zero w a = refl
  pages-same p (suc n) w a = rw (contents-same p w a, onward-same p w a, pages-same (suc p) n (onward K p w) (agree-onward p w a))

  pub left-same : (p n : ℕ) (w : List Star) → Agree H K w → left H p n w ≡ left K p n w
  unfolding left
  left-same p zero w a = refl
  left-same p (suc n) w a = rw (onward-same p w a) (left-same (suc p) n (onward K p w) (agree-onward p w a))
