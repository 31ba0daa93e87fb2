use native.Mathlib.Omega.{arith}
use Rattle.lines.proofs.Texts.{reply_length}
use Rattle.lines.proofs.Programs.{line_stands}
use Rattle.sessions.specs.Commands.{answering, run_in}
use borrow.Author.Rules.{rules}
use Rattle.sessions.proofs.blocks.end_line.Goals as goal

pub returns : goal.returns
unfolding answering run_in
returns c =
    let followed = c.follow-replied.ensures in
    let parsed = c.parse_line.ensures in
    let put = c.format-next.ensures in (
      line_stands answering _ _ _ _ _ _ (rw parsed at followed.leaves) c.blank_line.ensures (rw (followed.replies, parsed) at put),
      omega (arith, reply_length c.follow-replied.result.reply, put.end),
    )
