-- `catalogues::entries::line_effect` meets its contract.
use mir.Syntax.{w32}
use mir.Val.{to_z, of_z}
use mathlib.Core.Path.{◌≡◌}
use mathlib.Core.Logic.{⊎_elim}
use Rattle.catalogues.specs.Entries.{effect_of}
use borrow.Author.Rules.{rules}
use Rattle.catalogues.proofs.entries.line_effect.Goals as goal

pub returns-in-Enter : goal.returns-in-Enter
unfolding effect_of
returns-in-Enter c =
    let dec = c.in-Enter.dec in
    let back : to_z w32 (of_z w32 dec) ≡ dec = search rules in
    rw (← c.parse_line.ensures, c.in-Enter.is) (rw back at c.entry.ensures)

pub returns-in-LookUp : goal.returns-in-LookUp
unfolding effect_of
returns-in-LookUp c =
    rw (← c.parse_line.ensures)
    (⊎_elim (λ h. rw (h.1)) (⊎_elim (λ h. rw (h.1)) (⊎_elim (λ e. rw e) (λ e. rw e))) c.in-LookUp.is)
