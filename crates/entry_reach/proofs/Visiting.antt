-- The cascade over d + n pages is that over d, then over n from what is carried on.
use mathlib.Core.Path.{◌≡◌, refl, sym, ap, ◌∙◌}
use mathlib.Core.List.{List, [], ◌∷◌, ◌++◌}
use Prim.Native.Nat.{ℕ, zero, suc, ◌+◌, ◌<◌}
use native.Mathlib.Nat.{zero-add, add-zero, suc-add, add-suc}
use native.Mathlib.Omega.{arith}
use lib.ListN.{length}
use Rattle.placement.specs.Rule.{Star, Hash, Contents}
use Rattle.placement.specs.File.{File}
use Rattle.reach.specs.Cascade.{pushed_to, pushed_on, cascaded, carried_past}

module _ (H : Hash) (f : File) where
  -- where nothing arrives
  pub cascaded-none : (p n : ℕ) → cascaded H f p n [] ≡ []
  unfolding cascaded
  cascaded-none p zero = refl
  cascaded-none p (suc n) = refl

  pub carried_none : (p n : ℕ) → carried_past H f p n [] ≡ []
  unfolding carried_past
  carried_none p zero = refl
  carried_none p (suc n) = refl

  pub cascaded-add : (p d n : ℕ) (w : List Star) → cascaded H f p (d + n) w ≡ cascaded H f p d w ++ cascaded H f (p + d) n (carried_past H f p d w)
  unfolding cascaded carried_past
  cascaded-add p zero n w = rw (zero-add n, add-zero p)
  cascaded-add p (suc d) n [] = cascaded-none p (suc d + n) ∙ sym (cascaded-none (p + suc d) n)
  cascaded-add p (suc d) n (s ∷ w) =
      rw (suc-add d n, add-suc p d)
      (ap (λ (cs : List Contents). pushed_to H f p (s ∷ w) ∷ cs) (rw (suc-add p d) at (cascaded-add (suc p) d n (pushed_on H f p (s ∷ w)))))

  pub carried-add : (p d n : ℕ) (w : List Star) → carried_past H f p (d + n) w ≡ carried_past H f (p + d) n (carried_past H f p d w)
  unfolding carried_past
  carried-add p zero n w = rw (zero-add n, add-zero p)
  carried-add p (suc d) n [] = carried_none p (suc d + n) ∙ sym (carried_none (p + suc d) n)
  carried-add p (suc d) n (s ∷ w) = rw (suc-add d n, add-suc p d) (rw (suc-add p d) at (carried-add (suc p) d n (pushed_on H f p (s ∷ w))))

  -- one page
  pub cascaded-one : (p : ℕ) (w : List Star) → 0 < length w → cascaded H f p 1 w ≡ pushed_to H f p w ∷ []
  unfolding cascaded
  cascaded-one p [] h = absurd (omega arith)
  cascaded-one p (s ∷ w) h = refl

  pub carried-one : (p : ℕ) (w : List Star) → 0 < length w → carried_past H f p 1 w ≡ pushed_on H f p w
  unfolding carried_past
  carried-one p [] h = absurd (omega arith)
  carried-one p (s ∷ w) h = refl

  -- a page at which something arrives is visited
  pub visits_some : (p n : ℕ) (w : List Star) → 0 < length w → 0 < n → 0 < length (cascaded H f p n w)
  unfolding cascaded
  visits_some p zero w h k = absurd (omega arith)
  visits_some p (suc n) [] h k = absurd (omega arith)
  visits_some p (suc n) (s ∷ w) h k = omega arith
