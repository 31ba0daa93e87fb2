use Rattle.starfile_tests.proofs.Telling.{told-step}
use Rattle.starfile_tests.proofs.record_calls.sft_record_open_growth.Goals as goal

pub returns : goal.returns
returns c =
    told-step _ c.reply_of.ensures (rw (c.record_of-kept.ensures, c.parameters_of-values.ensures) at c.open_growth-recorded.ensures.leaves)
