-- Entering a held star again: document 02 (v). Of the file the separators and the named page alone decide.
use mathlib.Core.Path.{◌≡◌, sym, ap, ◌∙◌}
use mathlib.Core.Bool.{true, ◌&&◌}
use mathlib.Core.Logic.{◌↔◌}
use Prim.Native.Nat.{ℕ}
use lib.ListN.{get_or}
use borrow.Author.Tests.{eq-eqb, ne_eqb}
use Rattle.hashing.specs.declared.Parameters.{Parameters}
use Rattle.hashing.specs.declared.Growth.{Growth}
use Rattle.hashing.specs.Limits.{valid_parameters, valid_growth}
use Rattle.pages.specs.declared.position.Position.{Position}
use Rattle.pages.specs.Position.{valid_number, valid_position, valid_word, packed, unpacked}
use Rattle.pages.proofs.Words.{unpack_pack, pack-unpack}
use Rattle.placement.specs.Rule.{star_with}
use Rattle.placement.specs.File.{File}
use Rattle.calls.specs.Answers.{Pool, cleared, accepted_at, refused_at}
use Rattle.calls.specs.Calls.{file_fits_lem, pool_fits_lem, unchanged, readable, named, holds, place_for, item_of, entered_again_lem, enter_on, enter_of}
use Rattle.calls.proofs.Refusals.{well-lent}

-- two words are the same exactly if their positions are
pub same-position : (w : ℕ) (q : Position) → valid_word w ≡ true → valid_position q ≡ true → (w ≡ packed q) ↔ (unpacked w ≡ q)
same-position w q v u = ((λ e. ap unpacked e ∙ unpack_pack q u), λ e. sym (pack-unpack w v) ∙ ap packed e)

-- the entry of a star that the named page holds, past refusals 1 to 5
pub record HeldEntry (p : Parameters) (g : Growth) (f : File) (pool : Pool) (k : ℕ) (q : Position) : Type 0 where
  pub state : valid_parameters p && valid_growth p g ≡ true
  pub lengths : file_fits_lem p f && pool_fits_lem p pool ≡ true
  pub number : valid_number k ≡ true
  pub position : valid_position q ≡ true
  pub read : readable p g f (named p g f k) ≡ true
  pub held : holds p f (named p g f k) k ≡ true

module _ (p : Parameters) (g : Growth) (f : File) (pool : Pool) (caller k : ℕ) (q : Position) (t : HeldEntry p g f pool k q) where
  abbrev stored : ℕ
  stored = get_or f.words (item_of p f (named p g f k) k) 0

  again : enter_of p g f pool caller k q ≡ unchanged g f (cleared pool) (entered_again_lem p f (named p g f k) (star_with k (packed q) caller))
  unfolding enter_of enter_on
  again = rw (well-lent p g (file_fits_lem p f && pool_fits_lem p pool) t.state t.lengths, t.number, t.position, t.read, t.held)

  -- with its stored position: accepted, and every lent item and the growth state stay
  pub resend_leaves : stored ≡ packed q → enter_of p g f pool caller k q ≡ unchanged g f (cleared pool) (accepted_at (named p g f k) (place_for p f (named p g f k) k))
  unfolding entered_again_lem
  resend_leaves e = again ∙ rw (eq-eqb stored (packed q) e)

  -- "Any other position is 6."
  pub other-refused : (stored ≡ packed q → ⊥) → enter_of p g f pool caller k q ≡ unchanged g f (cleared pool) (refused_at 6 0 (place_for p f (named p g f k) k))
  unfolding entered_again_lem
  other-refused e = again ∙ rw (ne_eqb stored (packed q) e)
