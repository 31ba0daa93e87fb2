-- Changes: one word is written, and the layout of the model with the new position is else the same.
use mathlib.Core.Path.{◌≡◌, refl, sym, ap, ◌∙◌}
use mathlib.Core.Bool.{Bool, true, false, cond}
use mathlib.Core.Logic.{◌⊎◌}
use mathlib.Core.Option.{Option, none, some}
use Prim.Native.Nat.{ℕ}
use native.Mathlib.Omega.{arith}
use lib.ListN.{set}
use Rattle.hashing.specs.declared.Parameters.{Parameters}
use Rattle.pages.specs.declared.position.Position.{Position}
use Rattle.pages.specs.Position.{valid_number, valid_position, valid_word, packed}
use Rattle.pages.specs.Page.{part}
use Rattle.pages.proofs.Places.{held-there}
use Rattle.placement.specs.Shape.{reworded, changed}
use Rattle.placement.specs.File.{File, laid}
use Rattle.placement.specs.Hash.{hash_of, named_page_lem}
use Rattle.placement.proofs.Mapping.{left-map}
use Rattle.placement.proofs.Change.{reworded-keeps, changed-laid}
use Rattle.calls.specs.Answers.{Pool, After, spotted, accepted_at, refused, refused_at}
use Rattle.calls.specs.Calls.{unless, or_else, guarded, unchanged, holds, item_of, allowed, change_on, change_of}
use Rattle.histories.specs.Model.{Model, change, updated, set_position, held_position, held_owner, model_file, page_for, place_on_lem}
use Rattle.histories.proofs.Entries.{ValidEntry, ordered-set, position-valid}
use Rattle.histories.proofs.Stars.{stars-change}
use Rattle.histories.proofs.Fitting.{Fitting, hash_for, stars_for, rising-from, proper, in_range, laid-stars, named-inside, named-readable}
use Rattle.histories.proofs.Held.{held, place_inside, not_allowed, is-allowed, not_held}
use Rattle.histories.proofs.Guards.{lent}
use Rattle.histories.proofs.Conforms.{Conforms, refused-conforms, allowed-conforms, accepted-conforms}

-- the file with the word of k set
abbrev reworded-file : Parameters → Model → ℕ → Position → File
reworded-file p m k q =
    record {
      separators = (model_file p m).separators;
      numbers = (model_file p m).numbers;
      words = set (model_file p m).words (item_of p (model_file p m) (page_for p m k) k) (packed q);
      owners = (model_file p m).owners;
    }

module _ (p : Parameters) (m : Model) (t : Fitting p m) (caller k : ℕ) (q r : Position) (e : held_position k m.entries ≡ some r) (valid : ValidEntry k q) where
  abbrev anew : Model
  anew = record { entries = set_position caller k q m.entries; growth = m.growth }

  stars-anew : stars_for anew ≡ changed k (packed q) (stars_for m)
  stars-anew = stars-change 1 caller k q r m.entries t.ordered e

  fitting-anew : Fitting p anew
  unfolding changed
  fitting-anew =
      record {
        parameters = t.parameters;
        growth = t.growth;
        ordered = ordered-set 1 caller k q m.entries (in_range k valid.number).0 valid t.ordered;
        fits = rw (stars-anew, left-map (reworded k (packed q)) (reworded-keeps k (packed q)) (hash_for p m) 0 p.pages (stars_for m), t.fits);
      }

  laid-anew : laid p.places (hash_for p m) p.pages (changed k (packed q) (stars_for m)) ≡ reworded-file p m k q
  unfolding model_file hash_of item_of holds
  laid-anew =
      changed-laid valid_word (hash_for p m) p.pages (page_for p m k) (place_on_lem p m k) k (packed q) (stars_for m) (rising-from p m t) (proper p m t)
      (in_range k valid.number).0 (named-inside p m t k) (place_inside p m t k r e) (held-there k (part p.places (page_for p m k) (model_file p m).numbers) (held p m t k r e)).1

  changes : (pool : Pool) → Conforms p m (change caller k q) (record { answer = accepted_at (page_for p m k) (place_on_lem p m k); growth = m.growth; file = reworded-file p m k q; pool = pool })
  unfolding updated spotted
  changes pool =
      accepted-conforms p m t (change caller k q) _ refl refl
      (sym laid-anew ∙ laid-stars p anew (changed k (packed q) (stars_for m)) stars-anew)
      fitting-anew
      (λ j d. cc)

module _ (p : Parameters) (m : Model) (t : Fitting p m) (caller k : ℕ) (q : Position) where
  changes-on : ValidEntry k q → (pool : Pool) → Conforms p m (change caller k q) (change_on p m.growth (model_file p m) pool (page_for p m k) caller k (packed q))
  unfolding change_on spotted
  changes-on valid pool = rw (named-readable p m t k) (go (held_position k m.entries) refl)
    where
      go : (o : Option Position) → held_position k m.entries ≡ o
          → Conforms p m (change caller k q)
          (cond (holds p (model_file p m) (page_for p m k) k)
          (allowed p m.growth (model_file p m) pool (page_for p m k) caller k
          (record {
            answer = accepted_at (page_for p m k) (place_on_lem p m k);
            growth = m.growth;
            file = reworded-file p m k q;
            pool = pool;
          }))
          (unchanged m.growth (model_file p m) pool (refused_at 7 0 (place_on_lem p m k))))
      go none e = rw (not_held p m t k (in_range k valid.number).0 e) (refused-conforms p m t (change caller k q) pool (refused_at 7 0 (place_on_lem p m k)) (λ d. omega arith) (λ d. omega arith))
      go (some r) e = rw (held p m t k r e) (allowed-conforms p m t (change caller k q) pool (page_for p m k) caller k _ (changes p m t caller k q r e valid pool))

  pub change_conforms : (pool : Pool) → Conforms p m (change caller k q) (change_of p m.growth (model_file p m) pool caller k q)
  unfolding change_of page_for named_page_lem spotted
  change_conforms pool = rw (lent p m t) (go (valid_number k) (valid_position q) refl refl)
    where
      go : (v w : Bool) → valid_number k ≡ v → valid_position q ≡ w
          → Conforms p m (change caller k q)
          (guarded m.growth (model_file p m) pool (or_else (unless v 3) (unless w 4)) (change_on p m.growth (model_file p m) pool (page_for p m k) caller k (packed q)))
      go false w e f = refused-conforms p m t (change caller k q) pool (refused 3 0) (λ d. omega arith) (λ d. omega arith)
      go true false e f = refused-conforms p m t (change caller k q) pool (refused 4 0) (λ d. omega arith) (λ d. omega arith)
      go true true e f = changes-on (record { number = e; position = f }) pool

  -- The change of a star that the model holds.
  module _ (pool : Pool) (r : Position) (e : held_position k m.entries ≡ some r) (valid : valid_position q ≡ true) where
    changes-held : change_of p m.growth (model_file p m) pool caller k q
        ≡ allowed p m.growth (model_file p m) pool (page_for p m k) caller k (record { answer = accepted_at (page_for p m k) (place_on_lem p m k); growth = m.growth; file = reworded-file p m k q; pool = pool })
    unfolding change_of change_on page_for named_page_lem
    changes-held = guards ∙ rw (named-readable p m t k, held p m t k r e)
      where
        guards : change_of p m.growth (model_file p m) pool caller k q ≡ change_on p m.growth (model_file p m) pool (page_for p m k) caller k (packed q)
        guards = rw (lent p m t, (position-valid 1 k r m.entries t.ordered e).number, valid)

    pub change_refused : (caller ≡ 0 → ⊥) → (caller ≡ held_owner k m.entries → ⊥)
        → change_of p m.growth (model_file p m) pool caller k q ≡ unchanged m.growth (model_file p m) pool (refused_at 13 0 (place_on_lem p m k))
    change_refused h d = changes-held ∙ not_allowed p m t k r e pool caller _ h d

    pub change_accepted : (caller ≡ 0) ⊎ (caller ≡ held_owner k m.entries) → (change_of p m.growth (model_file p m) pool caller k q).answer ≡ accepted_at (page_for p m k) (place_on_lem p m k)
    change_accepted h = ap (λ (a : After). a.answer) (changes-held ∙ is-allowed p m t k r e pool caller _ h)
