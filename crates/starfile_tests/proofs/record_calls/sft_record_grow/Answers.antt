use Rattle.starfile_tests.proofs.Telling.{told-recorded}
use Rattle.starfile_tests.proofs.record_calls.sft_record_grow.Goals as goal

pub returns : goal.returns
returns c =
    told-recorded _ c.reply_of.ensures (rw (c.record_of-kept.ensures, c.parameters_of-values.ensures) at c.grow-recorded.ensures.leaves)
    (rw (c.record_of-kept.ensures, c.parameters_of-values.ensures) at c.grow-recorded.ensures.growth_after)
