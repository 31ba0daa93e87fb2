-- In a fitting model's own file: the page named for a number holds it exactly if the model does, with its position's word and its owner.
use mathlib.Core.Path.{◌≡◌, refl, sym, ◌∙◌}
use mathlib.Core.Bool.{Bool, true, false, cond, ◌||◌}
use mathlib.Core.Logic.{◌⊎◌, inl, inr}
use mathlib.Core.Option.{none, some}
use Prim.Native.Nat.{ℕ, ◌≤◌, ◌<◌}
use lib.Dec.{eqb}
use lib.ListN.{get_or}
use borrow.Author.Tests.{eq-eqb, ne_eqb}
use Rattle.hashing.specs.declared.Parameters.{Parameters}
use Rattle.pages.specs.declared.position.Position.{Position}
use Rattle.pages.specs.Position.{valid_word, packed}
use Rattle.pages.specs.Page.{part, place_of, held_at}
use Rattle.pages.proofs.Parts.{part-item}
use Rattle.placement.specs.Hash.{hash_of}
use Rattle.placement.proofs.Search.{found, missing}
use Rattle.calls.specs.Answers.{Pool, After, refused_at}
use Rattle.calls.specs.Calls.{unchanged, holds, item_of, owner_for, may_alter_lem, allowed}
use Rattle.histories.specs.Model.{Model, held_position, held_owner, model_file, page_for, place_on_lem}
use Rattle.histories.proofs.Stars.{star_of, held-star, no_star}
use Rattle.histories.proofs.Alike.{place-below}
use Rattle.histories.proofs.Fitting.{Fitting, hash_for, stars_for, rising-from, proper, named-inside}

module _ (p : Parameters) (m : Model) (t : Fitting p m) (k : ℕ) where
  module _ (q : Position) (e : held_position k m.entries ≡ some q) where
    there : (held_at k (part p.places (page_for p m k) (model_file p m).numbers) ≡ true)
        × (get_or (part p.places (page_for p m k) (model_file p m).words) (place_of k (part p.places (page_for p m k) (model_file p m).numbers)) 0 ≡ packed q)
        × (get_or (part p.places (page_for p m k) (model_file p m).owners) (place_of k (part p.places (page_for p m k) (model_file p m).numbers)) 0 ≡ held_owner k m.entries)
    unfolding page_for model_file hash_of
    there =
        let all = found valid_word (hash_for p m) p.pages (stars_for m) (rising-from p m t) (proper p m t) t.fits (star_of k q (held_owner k m.entries)) (page_for p m k) (held-star k q m.entries e) refl in
        (all.1, all.2, all.3)

    pub held : holds p (model_file p m) (page_for p m k) k ≡ true
    unfolding holds
    held = there.0

    pub place_inside : place_of k (part p.places (page_for p m k) (model_file p m).numbers) < p.places
    place_inside = place-below p.places (page_for p m k) k (model_file p m).numbers there.0

    pub held_word : get_or (model_file p m).words (item_of p (model_file p m) (page_for p m k) k) 0 ≡ packed q
    unfolding item_of
    held_word = sym (part-item p.places (page_for p m k) (model_file p m).words _ place_inside) ∙ there.1

    pub held-owner : owner_for p (model_file p m) (page_for p m k) k ≡ held_owner k m.entries
    unfolding item_of
    held-owner = sym (part-item p.places (page_for p m k) (model_file p m).owners _ place_inside) ∙ there.2

    -- what is allowed only to its owner and to 0
    module _ (pool : Pool) (caller : ℕ) (a : After) where
      allowed-is : (b : Bool) → may_alter_lem caller (held_owner k m.entries) ≡ b
          → allowed p m.growth (model_file p m) pool (page_for p m k) caller k a ≡ cond b a (unchanged m.growth (model_file p m) pool (refused_at 13 0 (place_on_lem p m k)))
      unfolding allowed
      allowed-is b d = rw (held-owner, d)

      pub not_allowed : (caller ≡ 0 → ⊥) → (caller ≡ held_owner k m.entries → ⊥)
          → allowed p m.growth (model_file p m) pool (page_for p m k) caller k a ≡ unchanged m.growth (model_file p m) pool (refused_at 13 0 (place_on_lem p m k))
      unfolding may_alter_lem
      not_allowed h d = allowed-is false (rw (ne_eqb caller 0 h, ne_eqb caller (held_owner k m.entries) d))

      pub is-allowed : (caller ≡ 0) ⊎ (caller ≡ held_owner k m.entries) → allowed p m.growth (model_file p m) pool (page_for p m k) caller k a ≡ a
      unfolding may_alter_lem
      is-allowed (inl h) = allowed-is true (rw (eq-eqb caller 0 h))
      is-allowed (inr h) = allowed-is true (last (eqb caller 0) (eqb caller (held_owner k m.entries)) (eq-eqb caller (held_owner k m.entries) h))
        where
          last : (x y : Bool) → y ≡ true → x || y ≡ true
          last true y g = refl
          last false y g = g

  pub not_held : 1 ≤ k → held_position k m.entries ≡ none → holds p (model_file p m) (page_for p m k) k ≡ false
  unfolding holds model_file hash_of
  not_held h e =
      missing valid_word (hash_for p m) p.pages (stars_for m) (rising-from p m t) (proper p m t) t.fits k (page_for p m k) h (no_star k m.entries e) (named-inside p m t k)
