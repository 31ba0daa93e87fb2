-- `catalogues::collecting::put_effect` meets its contract.
use native.Mathlib.Omega.{arith}
use mathlib.Core.Logic.{⊎_elim}
use Rattle.lines.proofs.Digits.{length-field}
use Rattle.lines.proofs.Writing.{then}
use Rattle.catalogues.specs.Entries.{effect_text}
use Rattle.catalogues.specs.declared.entries.Effect.TheVariants.{Refused, Malformed}
use Rattle.lines.proofs.Writing.{nothing_put}
use Rattle.catalogues.proofs.Entering.{put-short, text_short}
use Rattle.catalogues.proofs.collecting.put_effect.Goals as goal

pub put_field-requires : goal.put_field-requires
put_field-requires c =
    omega (
      arith,
      length-field c.in-Refused.refusal 32,
      c.put_field-second,
      c.put-first,
      c.requires,
    )

pub returns-in-Refused : goal.returns-in-Refused
unfolding effect_text
returns-in-Refused c =
    rw c.in-Refused.is
    (put-short 37 _ _ _ _ _ (then _ _ _ _ _ _ _ _ c.put-first.ensures (then _ _ _ _ _ _ _ _ c.put_field-second.ensures c.put_field.ensures))
    (text_short c.args.line (Refused c.in-Refused.refusal)))

pub returns-in-Malformed : goal.returns-in-Malformed
unfolding effect_text
returns-in-Malformed c =
    rw c.in-Malformed.is
    (put-short 37 _ _ _ _ _ (then _ _ _ _ _ _ _ _ c.put-first-in-Malformed.ensures c.put_field-in-Malformed.ensures) (text_short c.args.line Malformed))

pub returns-in-Added : goal.returns-in-Added
unfolding effect_text
returns-in-Added c =
    ⊎_elim (λ h. rw (h.2) (nothing_put _ _, omega arith)) (λ e. rw e (nothing_put _ _, omega arith)) c.in-Added.is
