-- Each decision carried out: the stopped file of what it leaves.
use mathlib.Core.Path.{◌≡◌, sym, ap, subst, ◌∙◌}
use mathlib.Core.Bool.{Bool, cond}
use mathlib.Core.List.{List}
use Prim.Native.Nat.{ℕ}
use lib.Dec.{eqb}
use Rattle.hashing.specs.declared.Parameters.{Parameters}
use Rattle.placement.specs.Rule.{Star, insert, without, star_with}
use Rattle.placement.specs.File.{File}
use Rattle.placement.specs.Shape.{Sized}
use Rattle.placement.specs.Hash.{lent}
use Rattle.page_edit.specs.Shift.{number_at}
use Rattle.page_plan.proofs.Applying.{applied}
use Rattle.calls.specs.Shape.{stopped_file}
use Rattle.calls.proofs.Stored.{none-stored}
use Rattle.decision.specs.declared.chosen.Decision.{Decision}
use Rattle.decision.specs.declared.chosen.Decision.TheVariants.{Unsound, Overflows, Put, Take, Planned}
use Rattle.decision.specs.Edits.{standing}
use Rattle.decision.specs.Carried.{carried_out, Feasible, stars_there}
use Rattle.decision.proofs.Edited.{edited_lists, few-put, few-take}

module _ (up : Bool) (p : Parameters) (n : ℕ) (f : File) (k word owner : ℕ) (pool planned : List ℕ) where
  abbrev star : Star
  star = star_with k word owner

  -- told of one decision, it holds of the equal one
  abbrev Carried : File → Decision → Type 0
  Carried x d = x ≡ stopped_file up p f (carried_out p.places star pool planned f d) n

  pub unsound-carried : (d : Decision) (page : ℕ) → d ≡ Unsound page → Carried f d
  unsound-carried d page e = subst (Carried f) (sym e) (sym (none-stored up p.places p.pages n f))

  pub overflows_carried : (d : Decision) → d ≡ Overflows → Carried f d
  overflows_carried d e = subst (Carried f) (sym e) (sym (none-stored up p.places p.pages n f))

  pub feasible_there : (d x : Decision) → d ≡ x → Feasible p f k planned d → Feasible p f k planned x
  feasible_there d x e h = subst (Feasible p f k planned) e h

  -- the lists that an edit of a page leaves
  abbrev Lists : ℕ → List Star → List ℕ → List ℕ → List ℕ → Type 0
  Lists page stars ns ws os =
      (ns ≡ cond (eqb n 0) f.numbers (standing p.places page (λ (s : Star). s.number) stars f.numbers))
      × ((ws ≡ cond (eqb n 0) f.words (standing p.places page (λ (s : Star). s.payload.word) stars f.words))
      × (os ≡ cond (eqb n 0) f.owners (standing p.places page (λ (s : Star). s.payload.owner) stars f.owners)))

  pub put-carried : Sized p.places p.pages f → (d : Decision) (page place : ℕ) → d ≡ Put page place → Feasible p f k planned d → (ns ws os : List ℕ)
      → Lists page (insert star (stars_there p.places f page)) ns ws os → Carried (lent f.separators ns ws os) d
  put-carried sized d page place e h ns ws os l =
      let room : Feasible p f k planned (Put page place) = feasible_there d (Put page place) e h in
      subst (Carried (lent f.separators ns ws os)) (sym e)
      (edited_lists p.places p.pages page f sized room.0 (insert star (stars_there p.places f page)) (few-put p.places page place k word owner f room.1) up n ns ws os l.0 l.1.0 l.1.1)

  pub take-carried : Sized p.places p.pages f → (d : Decision) (page place : ℕ) → d ≡ Take page place → Feasible p f k planned d → (ns ws os : List ℕ)
      → Lists page (without (number_at p.places page place f.numbers) (stars_there p.places f page)) ns ws os → Carried (lent f.separators ns ws os) d
  take-carried sized d page place e h ns ws os l =
      let held : Feasible p f k planned (Take page place) = feasible_there d (Take page place) e h in
      let taken : ℕ = number_at p.places page place f.numbers in
      subst (Carried (lent f.separators ns ws os)) (sym e)
      (edited_lists p.places p.pages page f sized held.0 (without taken (stars_there p.places f page)) (few-take p.places page place taken f held.1) up n ns ws os l.0 l.1.0 l.1.1)

  pub planned-carried : (d : Decision) (lo count page : ℕ) (x : File) → d ≡ Planned lo count page
      → x ≡ stopped_file up p f (applied p.places lo count k word owner pool planned f) n → Carried x d
  planned-carried d lo count page x e h = subst (Carried x) (sym e) h
