-- `tray::filing::file_admitted` meets its contract. The reports are filed, the pool is cleared, the filter made anew from the rest.
use mathlib.Core.Path.{◌≡◌, refl}
use lib.ListN.{length}
use Rattle.outcome_answer.proofs.Pools.{cleared-is}
use Rattle.tray.proofs.Filed.{filed-few}
use borrow.Author.Rules.{rules}
use Rattle.tray.proofs.filing.file_admitted.Goals as goal

pub file_reports-filed-requires : goal.file_reports-filed-requires
file_reports-filed-requires c =
    record {
      admitted = c.requires.admitted;
      pooled = c.requires.pooled;
      count_bound = c.requires.multiplier_value.1.1;
    }

pub remake-requires : goal.remake-requires
remake-requires c =
    let long : length c.args.loaded ≡ 256 = search rules in
    record {
      multiplier_value = (c.requires.multiplier_value.0, c.requires.multiplier_value.1.0);
      from_le_count = (filed-few _ _ _ _ c.args.loaded _ _ long c.requires.multiplier_value.1.1 c.file_reports-filed.ensures.filed, c.requires.multiplier_value.1.1);
    }

pub overflow_sub-result : goal.overflow_sub-result
overflow_sub-result c =
    let long : length c.args.loaded ≡ 256 = search rules in
    filed-few _ _ _ _ c.args.loaded _ _ long c.requires.multiplier_value.1.1 c.file_reports-filed.ensures.filed

pub returns : goal.returns
returns c =
    let long : length c.args.loaded ≡ 256 = search rules in
    let d = c.file_reports-filed in
    record {
      filed = d.ensures.filed;
      answers = d.ensures.answers;
      files = d.ensures.files;
      pools = cleared-is _ _ _ _ _ _ _ _ _ c.clear.ensures.pool_after c.clear.ensures.waiting_after c.clear.ensures.poolowners_after d.auto.poolnumbers d.auto.poolwords d.auto.poolowners;
      counts = refl;
      most = filed-few _ _ _ _ c.args.loaded _ _ long c.requires.multiplier_value.1.1 d.ensures.filed;
      filters = c.remake.ensures;
    }
