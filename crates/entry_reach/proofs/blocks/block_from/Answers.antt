use Rattle.entry_reach.proofs.blocks.block_from.Goals as goal

pub returns : goal.returns
returns c = rw (c.stretch_end-last.ensures, c.top_of.ensures)
