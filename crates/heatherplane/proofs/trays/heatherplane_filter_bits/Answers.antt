use Rattle.heatherplane.proofs.trays.heatherplane_filter_bits.Goals as goal

pub returns : goal.returns
returns c = rw c.bits.ensures.answer at c.bits_reply.ensures
