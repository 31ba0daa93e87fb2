-- A refusal's number is never that of an accepted call, and with its page it tells the refusal.
use mathlib.Core.Path.{◌≡◌, refl, sym, ap, ◌∙◌}
use mathlib.Core.Bool.{cond}
use mathlib.Core.List.{[], ◌∷◌}
use Prim.Native.Nat.{ℕ, ◌-◌, ◌≤◌}
use native.Mathlib.Omega.{arith}
use lib.Dec.{eqb}
use lib.ListN.{get_or}
use borrow.Author.Tests.{ne_eqb}
use Rattle.calls.specs.declared.answers.Refusal.{Refusal}
use Rattle.calls.specs.declared.answers.Refusal.TheVariants.{
  BadParameters,
  BadLength,
  BadNumber,
  BadPosition,
  Damaged,
  Held,
  NotHeld,
  Full,
  Ungrown,
  BadHeader,
  BadRows,
  ShortOutput,
  NotOwner,
  TrayFull,
  BadContents,
  OutOfTurn,
}
use Rattle.calls.specs.declared.answers.Checked.{Checked}
use Rattle.calls.specs.declared.answers.Checked.TheVariants.{Clean, Refused}
use Rattle.calls.specs.declared.answers.Answer.{Answer}
use Rattle.calls.specs.Answers.{refusal_number, refusal_page, refused_by, spotted, checked}

refusal_at : ℕ → ℕ → Refusal
refusal_at n page =
    get_or
    (BadParameters ∷ BadLength ∷ BadNumber ∷ BadPosition ∷ Damaged page ∷ Held ∷ NotHeld ∷ Full ∷ Ungrown ∷ BadHeader ∷ BadRows ∷ ShortOutput ∷ NotOwner ∷ TrayFull ∷ BadContents ∷ [])
    (n - 1)
    OutOfTurn

told_back : (r : Refusal) → refusal_at (refusal_number r) (refusal_page r) ≡ r
unfolding refusal_at
told_back BadParameters = refl
told_back BadLength = refl
told_back BadNumber = refl
told_back BadPosition = refl
told_back (Damaged page) = refl
told_back Held = refl
told_back NotHeld = refl
told_back Full = refl
told_back Ungrown = refl
told_back BadHeader = refl
told_back BadRows = refl
told_back ShortOutput = refl
told_back NotOwner = refl
told_back TrayFull = refl
told_back BadContents = refl
told_back OutOfTurn = refl

pub numbered : (r : Refusal) → 1 ≤ refusal_number r
numbered BadParameters = omega arith
numbered BadLength = omega arith
numbered BadNumber = omega arith
numbered BadPosition = omega arith
numbered (Damaged page) = omega arith
numbered Held = omega arith
numbered NotHeld = omega arith
numbered Full = omega arith
numbered Ungrown = omega arith
numbered BadHeader = omega arith
numbered BadRows = omega arith
numbered ShortOutput = omega arith
numbered NotOwner = omega arith
numbered TrayFull = omega arith
numbered BadContents = omega arith
numbered OutOfTurn = omega arith

checked_as : Answer → Checked
checked_as a = cond (eqb a.refusal 0) Clean (Refused (refusal_at a.refusal a.page) a.place)

checked-back : (c : Checked) → checked_as (checked c) ≡ c
unfolding checked_as checked refused_by spotted
checked-back Clean = refl
checked-back (Refused r place) = rw (ne_eqb (refusal_number r) 0 (λ e. omega (arith, numbered r)), told_back r)

-- no two cases of a check's answer read alike
pub checked-determined : (a b : Checked) → checked a ≡ checked b → a ≡ b
checked-determined a b e = sym (checked-back a) ∙ (ap checked_as e ∙ checked-back b)
