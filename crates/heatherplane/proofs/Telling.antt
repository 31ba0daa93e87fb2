-- What a call leaves, told by its reply.
use mathlib.Core.Path.{◌≡◌, ap, ◌∙◌}
use mathlib.Core.List.{List}
use Prim.Native.Nat.{ℕ}
use Rattle.hashing.specs.declared.Growth.{Growth}
use Rattle.placement.specs.File.{File}
use Rattle.calls.specs.declared.answers.Answer.{Answer}
use Rattle.calls.specs.declared.records.GrowthRecord.{GrowthRecord}
use Rattle.calls.specs.declared.records.Recorded.{Recorded}
use Rattle.calls.specs.Answers.{Pool, After, Leaves, placed}
use Rattle.calls.specs.Records.{AfterStep, LeavesStep, closed_record}
use Rattle.exchange.specs.Tables.{AfterWrite, Writes}
use Rattle.capacity.specs.State.{Choice}
use Rattle.heatherplane.specs.declared.replies.Reply.{Reply}
use Rattle.history_replay.specs.declared.replaying.Resumed.{Resumed}
use Rattle.history_replay.specs.Replay.{Replay, Resumes}
use Rattle.heatherplane.specs.Reply.{Replies, RepliesStep, RepliesTable, RepliesReplay, reply_of_lem, replay_reply_lem}

pub told_same : {said answer : Answer} {growth : GrowthRecord} {reply : Reply} (kept : GrowthRecord) →
    reply ≡ reply_of_lem said kept → kept ≡ growth → said ≡ answer → reply ≡ reply_of_lem answer growth
told_same {said = said} {growth = g} kept r k e = r ∙ (ap (λ (n : GrowthRecord). reply_of_lem said n) k ∙ ap (λ (a : Answer). reply_of_lem a g) e)

pub told : {after : After} {said answer : Answer} {growth : GrowthRecord} {reply : Reply} {file : File} {pool : Pool} (kept : GrowthRecord) →
    reply ≡ reply_of_lem said kept → kept ≡ growth → said ≡ answer → Leaves after answer file pool → Replies after growth reply file pool
told kept r k e l = record { replies = told_same kept r k (e ∙ l.answers); files = l.files; pools = l.pools }

pub told-recorded : {after : After} {growth : GrowthRecord} {reply : Reply} {file : File} {pool : Pool} (left : Recorded) →
    reply ≡ reply_of_lem (placed left.answer) left.growth → Leaves after (placed left.answer) file pool → left.growth ≡ growth →
    Replies after growth reply file pool
told-recorded left r l e = record { replies = told_same left.growth r e l.answers; files = l.files; pools = l.pools }

pub told-step : {after : AfterStep} {reply : Reply} {second : File} {pool : Pool} (left : Recorded) →
    reply ≡ reply_of_lem (placed left.answer) left.growth → LeavesStep after left second pool → RepliesStep after reply second pool
told-step left r l = record { replies = told_same left.growth r l.growths l.answers; seconds = l.seconds; pools = l.pools }

pub told-table : {after : AfterWrite} {said answer : Answer} {growth : GrowthRecord} {reply : Reply} {out : List ℕ} (kept : GrowthRecord) →
    reply ≡ reply_of_lem said kept → kept ≡ growth → said ≡ answer → Writes after answer out → RepliesTable after growth reply out
told-table kept r k e w = record { replies = told_same kept r k (e ∙ w.answers); outputs = w.outputs }

pub told-choice : {choice : Choice} {said answer : Answer} {reply : Reply} (state : Growth) →
    reply ≡ reply_of_lem said (closed_record state) → said ≡ answer → record { answer = answer; growth = state } ≡ choice →
    reply ≡ reply_of_lem choice.answer (closed_record choice.growth)
told-choice state r e c =
    r ∙ (ap (λ (a : Answer). reply_of_lem a (closed_record state)) e ∙ ap (λ (x : Choice). reply_of_lem x.answer (closed_record x.growth)) c)

pub told-replay : {replay : Replay} {reply : Reply} {answers : List ℕ} {file : File} {pool : Pool} (said : Resumed) →
    reply ≡ replay_reply_lem said.refusal said.growth → Resumes replay said answers file pool → RepliesReplay replay reply answers file pool
told-replay {replay = replay} said r l =
    record {
      replies = r ∙ (ap (λ (n : ℕ). replay_reply_lem n said.growth) l.refusals ∙ ap (λ (g : Growth). replay_reply_lem replay.refusal g) l.growths);
      answers_are = l.answers_are;
      files = l.files;
      pools = l.pools;
    }
