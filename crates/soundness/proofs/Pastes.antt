-- Items pasted one part after the other are pasted in one.
use mathlib.Core.Path.{◌≡◌, sym, ap, ◌∙◌}
use mathlib.Core.List.{List, ◌++◌, map, append_assoc}
use Prim.Native.Nat.{ℕ, ◌+◌, ◌≤◌}
use native.Mathlib.Nat.{add_assoc, le_refl}
use native.Mathlib.Omega.{arith}
use lib.ListN.{length, take, drop, length-drop, length-map}
use lib.Seq.{paste, take-paste, drop-paste, drop-drop, take-add, take-take}
use Rattle.buffers.proofs.Written.{around}
use Rattle.buffers.proofs.Lists.{map-drop}
use Rattle.hashing.specs.declared.Geometry.{Geometry}
use Rattle.placement.specs.Shape.{home_in, homes_of}

pub paste_more : (d : List ℕ) (at : ℕ) (s : List ℕ) (n : ℕ) (t : List ℕ) (m : ℕ) → at ≤ length d → n ≤ length s → take m t ≡ take m (drop n s)
    → paste (paste d at s n) (at + n) t m ≡ paste d at s (n + m)
paste_more d at s n t m h k e =
    rw (take-paste d at s n h k, e, take-add n m s, ← drop-drop m (at + n) (paste d at s n), drop-paste d at s n h k, drop-drop m (at + n) d, add_assoc at n m)
    (simp append_assoc)

-- what stands there already
pub paste_same : (d : List ℕ) (at : ℕ) (s : List ℕ) (n : ℕ) → take n (drop at d) ≡ s → d ≡ paste d at s n
paste_same d at s n e =
    around at n d
    ∙ ap (λ (l : List ℕ). take at d ++ (l ++ drop (at + n) d)) (sym (ap (take n) (sym e) ∙ take-take n n (drop at d) (le_refl n)))
    ∙ sym (append_assoc (take at d) (take n s) (drop (at + n) d))

-- the homes of i items, then those of r more
homes_more : (g : Geometry) (ns d : List ℕ) (to first i r : ℕ) → to ≤ length d → first + i ≤ length ns
    → paste (paste d to (homes_of g.parameters g.growth (drop first ns)) i) (to + i) (homes_of g.parameters g.growth (drop (first + i) ns)) r
    ≡ paste d to (homes_of g.parameters g.growth (drop first ns)) (i + r)
unfolding homes_of
homes_more g ns d to first i r h k =
    let f = home_in g.parameters g.growth in
    let long : i ≤ length (homes_of g.parameters g.growth (drop first ns)) = omega (arith, length-map (drop first ns) f, length-drop first ns) in
    paste_more d to (homes_of g.parameters g.growth (drop first ns)) i (homes_of g.parameters g.growth (drop (first + i) ns)) r h long
    (ap (take r) (sym (map-drop f i (drop first ns) ∙ ap (map f) (drop-drop i first ns))))

pub homes-next : (g : Geometry) (ns d homes after : List ℕ) (to first i r : ℕ) → to ≤ length d → first + i ≤ length ns
    → homes ≡ paste d to (homes_of g.parameters g.growth (drop first ns)) i
    → after ≡ paste homes (to + i) (homes_of g.parameters g.growth (drop (first + i) ns)) r
    → after ≡ paste d to (homes_of g.parameters g.growth (drop first ns)) (i + r)
homes-next g ns d homes after to first i r h k e f = f ∙ rw e (homes_more g ns d to first i r h k)
