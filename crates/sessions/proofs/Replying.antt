-- Laws of the replies to commands. Only growth steps the growth state.
use Prim.Native.Nat.{ℕ, zero, suc}
use mathlib.Core.Bool.{Bool, true, false, cond, ◌&&◌}
use mathlib.Core.Path.{◌≡◌, refl, sym, ap, ◌∙◌}
use Rattle.hashing.specs.declared.Growth.{Growth}
use Rattle.hashing.specs.declared.Parameters.{Parameters}
use Rattle.lines.specs.declared.Command.{Command}
use Rattle.lines.specs.declared.Command.TheVariants.{LookUp}
use Rattle.lines.specs.declared.Reply.{Reply}
use Rattle.lines.specs.declared.Reply.TheVariants.{Found, Missing}
use Rattle.pages.specs.Position.{valid_number, valid_position, packed}
use Rattle.pages.specs.declared.position.Position.{Position}
use Rattle.placement.specs.File.{File}
use Rattle.placement.specs.Rule.{Star, star_with}
use Rattle.calls.specs.declared.answers.Answer.{Answer}
use Rattle.calls.specs.Answers.{After, Pool, cleared, Leaves, lent, unpooled}
use Rattle.calls.specs.Calls.{
  file_fits_lem,
  pool_fits_lem,
  unless,
  or_else,
  unlent,
  guarded,
  unchanged,
  named,
  looked_up,
  look_up_of,
  enter_of,
  enter_on,
  enter_to,
  allowed,
  remove_of,
  remove_on,
  remove_to,
}
use Rattle.sessions.specs.Commands.{starline, State, state_in, commanded, unless_refused_lem, found_reply_lem, reply_with, reply_to, next_session}
use Rattle.sessions.specs.Shape.{Follows}
use Rattle.sessions.specs.declared.commands.Replied.{Replied}

-- what a look-up shows, by whether the star was found
pub shown :
    (a : Answer) (found : Bool) (r : Reply) → a.found ≡ found →
    r ≡ unless_refused_lem a (cond found (Found a.page a.position.ra a.position.dec) (Missing a.page)) →
    r ≡ found_reply_lem a
unfolding found_reply_lem
shown a found r e h =
    h ∙ ap (λ (t : Bool). unless_refused_lem a (cond t (Found a.page a.position.ra a.position.dec) (Missing a.page))) (sym e)

cond-growth : (t : Bool) (a b : After) → (cond t a b).growth ≡ cond t a.growth b.growth
cond-growth true a b = refl
cond-growth false a b = refl

cond_same : (t : Bool) (g : Growth) → cond t g g ≡ g
cond_same true g = refl
cond_same false g = refl

guarded-keeps :
    (g : Growth) (f : File) (pool : Pool) (n : ℕ) (after : After) → after.growth ≡ g →
    (guarded g f pool n after).growth ≡ g
guarded-keeps g f pool zero after e = e
guarded-keeps g f pool (suc n) after e = refl

enter_on-keeps :
    (p : Parameters) (g : Growth) (f : File) (pool : Pool) (page : ℕ) (s : Star) →
    (enter_on p g f pool page s).growth ≡ g
unfolding enter_on enter_to
enter_on-keeps p g f pool page s = simp (cond-growth, cond_same)

pub enter_keeps :
    (p : Parameters) (g : Growth) (f : File) (pool : Pool) (caller k : ℕ) (position : Position) →
    (enter_of p g f pool caller k position).growth ≡ g
unfolding enter_of
enter_keeps p g f pool caller k position =
    guarded-keeps g f pool
    (or_else (unlent p g (file_fits_lem p f && pool_fits_lem p pool))
    (or_else (unless (valid_number k) 3) (unless (valid_position position) 4)))
    _
    (enter_on-keeps p g f (cleared pool) (named p g f k) (star_with k (packed position) caller))

remove_on-keeps :
    (p : Parameters) (g : Growth) (f : File) (pool : Pool) (page caller k : ℕ) → (remove_on p g f pool page caller k).growth ≡ g
unfolding remove_on remove_to allowed
remove_on-keeps p g f pool page caller k = simp (cond-growth, cond_same)

pub remove_keeps :
    (p : Parameters) (g : Growth) (f : File) (pool : Pool) (caller k : ℕ) → (remove_of p g f pool caller k).growth ≡ g
unfolding remove_of
remove_keeps p g f pool caller k =
    guarded-keeps g f pool
    (or_else (unlent p g (file_fits_lem p f && pool_fits_lem p pool)) (unless (valid_number k) 3))
    _
    (remove_on-keeps p g f (cleared pool) (named p g f k) caller k)

-- the reply and the file of a command, from what the command's call left
pub follows :
    (s : State) (c : Command) (r : Replied) (a : Answer) (pool : Pool) →
    Leaves (commanded s c) a (lent r.file.separators r.file.numbers r.file.words r.file.owners) pool →
    r.file.growth ≡ (commanded s c).growth → r.reply ≡ reply_with c a → Follows s c r
unfolding state_in reply_to next_session
follows s c r a pool l g e =
    record {
      replies = e ∙ ap (reply_with c) l.answers;
      leaves = λ i. record { growth = g i; file = l.files i };
    }

-- a look-up leaves all as it was
pub looked_keeps : (s : State) (k : ℕ) → next_session s (LookUp k) ≡ s
unfolding next_session commanded look_up_of
looked_keeps s k =
    go (or_else (unlent starline s.growth (file_fits_lem starline s.file)) (unless (valid_number k) 3))
    (looked_up starline s.growth s.file (named starline s.growth s.file k) k)
  where
    left : ℕ → Answer → After
    left n answer = guarded s.growth s.file unpooled n (unchanged s.growth s.file unpooled answer)

    go : (n : ℕ) (answer : Answer) → ◌≡◌ {A = State} (record { growth = (left n answer).growth; file = (left n answer).file }) s
    go zero answer = refl
    go (suc n) answer = refl
