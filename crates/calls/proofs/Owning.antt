-- "13, after 7 and before pages of the reach are read": document 02 (x). Of the file the separators and the named page alone decide.
use mathlib.Core.Path.{◌≡◌}
use mathlib.Core.Bool.{true, false, ◌&&◌}
use Prim.Native.Nat.{ℕ}
use Rattle.hashing.specs.declared.Parameters.{Parameters}
use Rattle.hashing.specs.declared.Growth.{Growth}
use Rattle.hashing.specs.Limits.{valid_parameters, valid_growth}
use Rattle.pages.specs.declared.position.Position.{Position}
use Rattle.pages.specs.Position.{valid_number, valid_position}
use Rattle.placement.specs.File.{File}
use Rattle.calls.specs.Answers.{Pool, cleared, refused_at}
use Rattle.calls.specs.Calls.{file_fits_lem, pool_fits_lem, unchanged, readable, named, holds, place_for, owner_for, may_alter_lem, allowed, change_on, change_of, remove_on, remove_of}
use Rattle.calls.proofs.Refusals.{well-lent}

-- a star that the named page holds, and a caller who is neither its owner nor 0
pub record Stranger (p : Parameters) (g : Growth) (f : File) (caller k : ℕ) : Type 0 where
  pub state : valid_parameters p && valid_growth p g ≡ true
  pub number : valid_number k ≡ true
  pub read : readable p g f (named p g f k) ≡ true
  pub held : holds p f (named p g f k) k ≡ true
  pub stranger : may_alter_lem caller (owner_for p f (named p g f k) k) ≡ false

module _ (p : Parameters) (g : Growth) (f : File) (pool : Pool) (caller k : ℕ) (t : Stranger p g f caller k) where
  pub stranger-removes : file_fits_lem p f && pool_fits_lem p pool ≡ true
      → remove_of p g f pool caller k ≡ unchanged g f (cleared pool) (refused_at 13 0 (place_for p f (named p g f k) k))
  unfolding remove_of remove_on allowed
  stranger-removes fits = rw (well-lent p g (file_fits_lem p f && pool_fits_lem p pool) t.state fits, t.number, t.read, t.held, t.stranger)

  pub stranger-changes : (q : Position) → file_fits_lem p f ≡ true → valid_position q ≡ true
      → change_of p g f pool caller k q ≡ unchanged g f pool (refused_at 13 0 (place_for p f (named p g f k) k))
  unfolding change_of change_on allowed
  stranger-changes q fits valid = rw (well-lent p g (file_fits_lem p f) t.state fits, t.number, valid, t.read, t.held, t.stranger)
