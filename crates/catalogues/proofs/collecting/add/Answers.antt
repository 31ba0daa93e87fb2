-- `catalogues::collecting::add` meets its contract.
use native.Mathlib.Omega.{arith}
use Prim.Native.Nat.{ℕ, ◌<◌}
use mathlib.Core.Bool.{true}
use mathlib.Core.Path.{◌≡◌}
use mathlib.Core.Logic.{⊎_elim}
use Rattle.catalogues.specs.declared.entries.Effect.{Effect}
use Rattle.catalogues.specs.declared.entries.Effect.TheVariants.{Added}
use Rattle.catalogues.specs.Entries.{added_to}
use Rattle.catalogues.specs.Shape.{is_added}
use Rattle.catalogues.proofs.Held.{held-add}
use Rattle.catalogues.proofs.collecting.add.Goals as goal

-- a row that is added has its place
room : (count : ℕ) (e : Effect) → (is_added e ≡ true → count < 32768) → (n w : ℕ) → e ≡ Added n w → count < 32768
unfolding is_added
room count e h n w is = h (rw is)

pub bounds-numbers-count : goal.bounds-numbers-count
bounds-numbers-count c = omega (arith, room _ _ c.requires.count_bound_2 _ _ c.in-Added.is, c.requires.count_bound.1.0)

pub bounds-words-count : goal.bounds-words-count
bounds-words-count c = omega (arith, room _ _ c.requires.count_bound_2 _ _ c.in-Added.is, c.requires.count_bound.1.1)

pub returns-in-Added : goal.returns-in-Added
unfolding added_to
returns-in-Added c =
    record {
      words_after = rw c.in-Added.is
          (held-add c.args.count c.args.numbers.now c.args.words.now _ _ (omega (arith, room _ _ c.requires.count_bound_2 _ _ c.in-Added.is, c.requires.count_bound.1.0)) (omega (arith, room _ _ c.requires.count_bound_2 _ _ c.in-Added.is, c.requires.count_bound.1.1)));
      upper_bound = omega (arith, room _ _ c.requires.count_bound_2 _ _ c.in-Added.is);
    }

pub returns-in-Repeated : goal.returns-in-Repeated
unfolding added_to
returns-in-Repeated c = record {
  words_after = ⊎_elim (λ e. rw e) (⊎_elim (λ h. rw (h.1)) (λ e. rw e)) c.in-Repeated.is;
  upper_bound = c.requires.count_bound.0;
}
