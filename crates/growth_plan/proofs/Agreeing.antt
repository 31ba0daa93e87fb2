-- Two hashes that agree on the stars of a list give it the same pages.
use mathlib.Core.Path.{◌≡◌, refl, ap, ◌∙◌}
use mathlib.Core.Bool.{Bool, not}
use mathlib.Core.List.{List, Memᴰ}
use Prim.Native.Nat.{ℕ, zero, suc}
use Rattle.hashing.specs.declared.Parameters.{Parameters}
use Rattle.hashing.specs.declared.Growth.{Growth}
use Rattle.placement.specs.Rule.{Star, Hash, filter, below, staying, passing, separator_from, separator_of, contents_of, onward, pages, left}
use Rattle.placement.specs.Hash.{hash_of}
use Rattle.placement.proofs.Filters.{filter-ext_on, member_filter}

-- each star of w has one home under both growth states
abbrev pub Agree : Parameters → Growth → Growth → List Star → Type 0
Agree p g h w = (s : Star) → Memᴰ s w → (hash_of p g).home s.number ≡ (hash_of p h).home s.number

module _ (p : Parameters) (g h : Growth) where
  abbrev H : Hash
  H = hash_of p g

  abbrev K : Hash
  K = hash_of p h

  below-same : (k : ℕ) → H.home k ≡ K.home k → (q v : ℕ) → below H q v k ≡ below K q v k
  unfolding below hash_of
  below-same k e q v = rw e

  module _ (q : ℕ) (w : List Star) (agree : Agree p g h w) where
    staying-same : (v : ℕ) → staying H q v w ≡ staying K q v w
    unfolding staying
    staying-same v = filter-ext_on (λ (s : Star). below H q v s.number) (λ (s : Star). below K q v s.number) w (λ s m. below-same s.number (agree s m) q v)

    passing-same : (v : ℕ) → passing H q v w ≡ passing K q v w
    unfolding passing
    passing-same v =
        filter-ext_on (λ (s : Star). not (below H q v s.number)) (λ (s : Star). not (below K q v s.number)) w
        (λ s m. ap not (below-same s.number (agree s m) q v))

    from-same : (v : ℕ) → separator_from H q w v ≡ separator_from K q w v
    unfolding separator_from
    from-same zero = refl
    from-same (suc v) = rw (staying-same (suc v), from-same v) (unfold hash_of in refl)

    sep-same : separator_of H q w ≡ separator_of K q w
    unfolding separator_of
    sep-same = from-same H.top ∙ (unfold hash_of in refl)

    contents-same : contents_of H q w ≡ contents_of K q w
    unfolding contents_of
    contents-same = rw (sep-same, staying-same (separator_of K q w))

    onward-same : onward H q w ≡ onward K q w
    unfolding onward
    onward-same = rw (sep-same, passing-same (separator_of K q w))

    agree-onward : Agree p g h (onward K q w)
    unfolding onward passing
    agree-onward s m = agree s (member_filter (λ (s : Star). not (below K q (separator_of K q w) s.number)) w s m).0

  pub pages-same : (q n : ℕ) (w : List Star) → Agree p g h w → pages H q n w ≡ pages K q n w
  unfolding pages
  pages-same q zero w a = refl
  pages-same q (suc n) w a = rw (contents-same q w a, onward-same q w a, pages-same (suc q) n (onward K q w) (agree-onward q w a))

  pub left-same : (q n : ℕ) (w : List Star) → Agree p g h w → left H q n w ≡ left K q n w
  unfolding left
  left-same q zero w a = refl
  left-same q (suc n) w a = rw (onward-same q w a) (left-same (suc q) n (onward K q w) (agree-onward q w a))
