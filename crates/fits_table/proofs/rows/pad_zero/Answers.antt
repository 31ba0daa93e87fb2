use Rattle.std.proofs.Common.{◌≡◌, ℕ, ◌-◌, Bool, length, take, drop, eqb, List, [], ◌∷◌, ◌&&◌, refl, ap, ◌∙◌, rules, tests, arith}
use Rattle.std.proofs.Math.Seq.{take_all}
use Rattle.std.proofs.Math.ListN.{length-drop}
use Rattle.std.proofs.lemmas.Iterator.{YieldsList-from_slice}
use Rattle.std.proofs.lemmas.Iterator.Search.{all_from_yields_List}
use Rattle.std.specs.List.{list_all}
use Rattle.pages.specs.Page.{empties}
use Rattle.fits_table.proofs.rows.pad_zero.Goals as goal

all_zero : (l : List ℕ) → list_all (λ b. eqb b 0) l ≡ empties l
unfolding empties
all_zero [] = refl
all_zero (x ∷ l) = ap (λ (t : Bool). eqb x 0 && t) (all_zero l)

pub returns : goal.returns
returns c =
    let part : take (length c.args.given.now - c.args.from) (drop c.args.from c.args.given.now) ≡ drop c.args.from c.args.given.now
    = take_all _ _ (omega (arith, length-drop c.args.from c.args.given.now)) in
    all_from_yields_List (λ b. eqb b 0) _ _ _ c.all.ensures.ran (YieldsList-from_slice (drop c.args.from c.args.given.now) cc) (λ x b q k. search (rules, tests))
    ∙ all_zero _
