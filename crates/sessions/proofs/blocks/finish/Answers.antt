use mathlib.Core.Path.{sym, ◌∙◌}
use native.Mathlib.Omega.{arith}
use Rattle.lines.specs.Grammar.{lines_from}
use Rattle.lines.specs.Programs.{put_out, runs, text_for, stepped_by, text_by, last_of}
use Rattle.lines.proofs.Writing.{nothing_put}
use Rattle.sessions.specs.Commands.{answering, run_in}
use borrow.Author.Rules.{rules}
use Rattle.sessions.proofs.blocks.finish.Goals as goal

pub returns-then-is_blank : goal.returns-then-is_blank
unfolding last_of put_out lines_from answering run_in
returns-then-is_blank c = rw (sym c.is_blank.ensures ∙ c.if-is_blank.true) (nothing_put 0 _, omega arith)

pub returns : goal.returns
unfolding last_of put_out lines_from runs text_for stepped_by text_by answering run_in
returns c =
    rw (sym c.is_blank.ensures ∙ c.if-is_blank.false) (c.end_line-ended.ensures.0.text, omega arith)
