-- What a call leaves, told by its reply.
use mathlib.Core.Path.{◌≡◌, ap, ◌∙◌}
use Rattle.placement.specs.File.{File}
use Rattle.calls.specs.declared.answers.Answer.{Answer}
use Rattle.calls.specs.declared.records.GrowthRecord.{GrowthRecord}
use Rattle.calls.specs.declared.records.Recorded.{Recorded}
use Rattle.calls.specs.Answers.{Pool, After, Leaves, placed}
use Rattle.calls.specs.Records.{AfterStep, LeavesStep}
use Rattle.starfile_tests.specs.declared.replies.Reply.{Reply}
use Rattle.starfile_tests.specs.Reply.{TestReplies, TestRepliesStep, test_reply}

told_same : {answer : Answer} {growth : GrowthRecord} {reply : Reply} (left : Recorded) →
    reply ≡ test_reply (placed left.answer) left.growth → left.growth ≡ growth → placed left.answer ≡ answer → reply ≡ test_reply answer growth
told_same {growth = g} left r k e = r ∙ (ap (λ (n : GrowthRecord). test_reply (placed left.answer) n) k ∙ ap (λ (a : Answer). test_reply a g) e)

pub told-recorded : {after : After} {growth : GrowthRecord} {reply : Reply} {file : File} {pool : Pool} (left : Recorded) →
    reply ≡ test_reply (placed left.answer) left.growth → Leaves after (placed left.answer) file pool → left.growth ≡ growth →
    TestReplies after growth reply file pool
told-recorded left r l e = record { replies = told_same left r e l.answers; files = l.files; pools = l.pools }

pub told-step : {after : AfterStep} {reply : Reply} {second : File} {pool : Pool} (left : Recorded) →
    reply ≡ test_reply (placed left.answer) left.growth → LeavesStep after left second pool → TestRepliesStep after reply second pool
told-step left r l = record { replies = told_same left r l.growths l.answers; seconds = l.seconds; pools = l.pools }
