-- The multiplier of a signature, kept from word to word, and the signatures of the last words. Assumes nothing.
use mathlib.Core.Path.{◌≡◌, refl, ap, sym, ◌∙◌}
use mathlib.Core.Bool.{Bool, true, false}
use mathlib.Core.List.{List}
use Prim.Native.Nat.{ℕ, ◌+◌, ◌-◌, ◌*◌, ◌%◌, ◌≤◌, ◌<◌}
use native.Mathlib.Omega.{arith}
use lib.Dec.{eqb}
use lib.ListN.{length, get_or, set, length-set}
use borrow.Author.Tests.{eqb-true, eqb-false}
use Rattle.hashing.specs.declared.Parameters.{Parameters}
use Rattle.generator.specs.Generator.{modulus, top_of_lem}
use Rattle.hashing.specs.Geometry.{multiplier_of}
use Rattle.generator.proofs.Powers.{power_below}
use Rattle.generator.proofs.Scrambling.{signature-by}
use Rattle.page_separator.specs.declared.signatures.Factor.{Factor}
use Rattle.page_separator.specs.Words.{home_of, number_in}
use Rattle.page_separator.specs.Probes.{Signed, factor_of, signature_of}
use Rattle.page_separator.proofs.Counting.{set_here, set-elsewhere}

module _ (q : Parameters) (f : Factor) (t : ℕ) (e : f ≡ factor_of q t) where
  pub factor_kept : f ≡ factor_of q f.probe
  unfolding factor_of
  factor_kept = e ∙ ap (factor_of q) (sym (ap (λ (g : Factor). g.probe) e))

  pub factor_below : f.value < modulus
  unfolding factor_of
  factor_below = rw (ap (λ (g : Factor). g.value) e) (power_below (multiplier_of q) (2 * t + 1))

pub factor_signs : (q : Parameters) (p w : ℕ) (f : Factor) → f ≡ factor_of q (p - home_of w + 1) → f.value * number_in w % modulus % top_of_lem q.bits ≡ signature_of q p w
unfolding factor_of signature_of
factor_signs q p w f e =
    ap (λ (g : Factor). g.value * number_in w % modulus % top_of_lem q.bits) e ∙ signature-by (multiplier_of q) q.bits (number_in w) (p - home_of w + 1)

pub signed-none : (q : Parameters) (p from : ℕ) (W signatures : List ℕ) → length signatures ≡ 256 → Signed q p from from W signatures
signed-none q p from W signatures size = record { size = size; signs = λ k lo hi near. omega arith }

pub signed-next : (q : Parameters) (p from i : ℕ) (W signatures : List ℕ) → Signed q p from i W signatures → (s : ℕ) → s ≡ signature_of q p (get_or W i 0)
    → Signed q p from (i + 1) W (set signatures (i % 256) s)
signed-next q p from i W signatures S s e =
    record {
      size = length-set signatures (i % 256) s ∙ S.size;
      signs = λ k lo hi near. go k lo hi near (eqb i k) refl;
    }
  where
    go : (k : ℕ) → from ≤ k → k < i + 1 → i + 1 ≤ k + 256 → (t : Bool) → eqb i k ≡ t → get_or (set signatures (i % 256) s) (k % 256) 0 ≡ signature_of q p (get_or W k 0)
    go k lo hi near true f =
        let same : i ≡ k = eqb-true i k f in
        set_here signatures (i % 256) (k % 256) s (ap (λ (n : ℕ). n % 256) same) (omega (arith, S.size)) ∙ e ∙ ap (λ (n : ℕ). signature_of q p (get_or W n 0)) same
    go k lo hi near false f =
        let other : i ≡ k → ⊥ = eqb-false i k f in
        let less : k < i = omega arith in
        set-elsewhere signatures (i % 256) (k % 256) s (λ h. omega arith) ∙ S.signs k lo less (omega arith)
