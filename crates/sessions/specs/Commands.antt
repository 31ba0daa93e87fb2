-- What the program replies to a command, and what becomes of its star file: document 01, "Host and program".
use Rattle.std.specs.Prelude.{cond, eqb, replicate, []}
use Rattle.hashing.specs.Geometry.{ungrown}
use Rattle.hashing.specs.declared.Growth.{Growth}
use Rattle.hashing.specs.declared.Parameters.{Parameters}
use Rattle.lines.specs.declared.Command.{Command}
use Rattle.lines.specs.declared.Command.TheVariants.{Enter, LookUp, Remove, Grow, Bad}
use Rattle.lines.specs.declared.Reply.{Reply}
use Rattle.lines.specs.declared.Reply.TheVariants.{Accepted, Found, Missing, Refused, Malformed}
use Rattle.lines.specs.Grammar.{line_bytes}
use Rattle.lines.specs.Replies.{reply_bytes}
use Rattle.lines.specs.Programs.{Program, Run}
use Rattle.placement.specs.File.{File}
use Rattle.calls.specs.declared.answers.Answer.{Answer}
use Rattle.calls.specs.Answers.{After, Pool, lent, pooled, unpooled, accepted}
use Rattle.calls.specs.Calls.{unchanged, empty_file_lem, enter_of, look_up_of, remove_of, grow_of}
use Rattle.sessions.specs.declared.blocks.Session.{Session}
use Rattle.sessions.specs.declared.commands.StarFile.{StarFile}

-- "N=2, n0=2, s=1, b=2, k=8, A=80, M=8", and 16,807
unfoldable pub starline : Parameters
starline = record { places = 2; groups = 2; width = 2; step = 1; bits = 8; load = 80; pages = 8; multiplier = 16807 }

-- the growth state and the file buffers
pub record State : Type 0 where
  pub growth : Growth
  pub file : File

unfoldable pub state_in : StarFile → State
state_in f = record { growth = f.growth; file = lent f.separators f.numbers f.words f.owners }

unfoldable pub new_file : State
new_file = record { growth = ungrown; file = empty_file_lem starline }

-- a pool of M·b numbers, M·b words and M·b owners, all 0
unfoldable pub pool : Pool
pool = pooled (replicate 16 0) (replicate 16 0) (replicate 16 0)

-- the call that a command makes; a line that is none makes no call. "starline calls as 0": document 02 (x)
unfoldable pub commanded : State → Command → After
commanded s (Enter number ra dec) = enter_of starline s.growth s.file pool 0 number (record { ra = ra; dec = dec })
commanded s (LookUp number) = look_up_of starline s.growth s.file unpooled number
commanded s (Remove number) = remove_of starline s.growth s.file pool 0 number
commanded s Grow = grow_of starline s.growth s.file pool
commanded s Bad = unchanged s.growth s.file pool (accepted 0)

-- "`no` the refusal and its page", or what an accepted call shows
unfoldable pub unless_refused_lem : Answer → Reply → Reply
unless_refused_lem a reply = cond (eqb a.refusal 0) reply (Refused a.refusal a.page)

-- "`ok` shows the page where the star now stands, stood, or the new page"
unfoldable pub placed_reply_lem : Answer → Reply
placed_reply_lem a = unless_refused_lem a (Accepted a.page)

-- "`at` the page, ra, dec; `none` the page"
unfoldable pub found_reply_lem : Answer → Reply
found_reply_lem a =
    unless_refused_lem a (cond a.found (Found a.page a.position.ra a.position.dec) (Missing a.page))

-- "Any other line .. prints `bad`"
unfoldable pub reply_with : Command → Answer → Reply
reply_with (Enter number ra dec) a = placed_reply_lem a
reply_with (LookUp number) a = found_reply_lem a
reply_with (Remove number) a = placed_reply_lem a
reply_with Grow a = placed_reply_lem a
reply_with Bad a = Malformed

unfoldable pub reply_to : State → Command → Reply
reply_to s c = reply_with c (commanded s c).answer

unfoldable pub next_session : State → Command → State
next_session s c = record { growth = (commanded s c).growth; file = (commanded s c).file }

-- the program: nothing more is answered when the input has ended
unfoldable pub answering : Program State
answering = record { first = new_file; next = next_session; text = λ s c. reply_bytes (reply_to s c); last = λ s. [] }

-- the run that has a session's file and line
unfoldable pub run_in : Session → Run State
run_in s = record { state = state_in s.file; begun = line_bytes s.line }
