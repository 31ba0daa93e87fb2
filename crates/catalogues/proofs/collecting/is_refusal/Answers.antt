use Rattle.std.proofs.Common.{◌≡◌, ℕ, false, refl, ⊎_elim}
use Rattle.catalogues.specs.declared.entries.Effect.{Effect}
use Rattle.catalogues.specs.declared.entries.Effect.TheVariants.{Added, Repeated, Refused, Malformed}
use Rattle.catalogues.specs.Entries.{is_refusal_lem}
use Rattle.catalogues.proofs.collecting.is_refusal.Goals as goal

neither : (e : Effect) → ((n : ℕ) → e ≡ Refused n → ⊥) → (e ≡ Malformed → ⊥) → false ≡ is_refusal_lem e
unfolding is_refusal_lem
neither (Added number word) r m = refl
neither Repeated r m = refl
neither (Refused n) r m = absurd (r n refl)
neither Malformed r m = absurd (m refl)

pub returns-in-Refused : goal.returns-in-Refused
unfolding is_refusal_lem
returns-in-Refused c = ⊎_elim (λ h. rw (h.1)) (λ e. rw e) c.in-Refused.is

pub returns-in_default : goal.returns-in_default
returns-in_default c = neither _ c.in_default.not-Refused c.in_default.not-Malformed
