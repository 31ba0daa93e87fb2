-- `lines::put` meets its contract.
use Rattle.std.proofs.Common.{arith, refl, ◌∙◌}
use Rattle.std.proofs.lemmas.Slice.{put_mid-paste}
use Rattle.lines.proofs.Writing.{copied}
use Rattle.lines.proofs.put.Goals as goal

pub returns : goal.returns
returns c = record {
  buffer = put_mid-paste _ _ _ _ _ _ c.copy_from_slice.ensures.after (omega arith) refl ∙ copied _ _ _ c.requires;
  end = refl;
}
