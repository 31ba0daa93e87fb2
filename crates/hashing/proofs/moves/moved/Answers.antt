-- `hashing::moved` meets its contract.
use native.Mathlib.Nat.{mod-lt}
use borrow.Author.Rules.{rules}
use Rattle.hashing.specs.Moves.{code_page, code_count}
use Rattle.hashing.proofs.Bounds.{limits}
use Rattle.hashing.proofs.Codes.{count-of_least}
use Rattle.hashing.proofs.moves.moved.Goals as goal

pub ranked-requires : goal.ranked-requires
ranked-requires c =
    let start = c.before in
    let p = start.args.parameters in record {
      parameters_value = start.requires.parameters_value;
      inverse_value = start.requires.inverse_value;
      group_bound = (
        rw c.regrouped-group.ensures (mod-lt (code_page p start.args.code start.args.order) {m = code_count p start.args.next} (count-of_least p start.args.next (limits _ start.requires.parameters_value))),
        start.requires.code_bound.1,
      );
    }

pub returns : goal.returns
returns c = rw (c.ranked.ensures, c.regrouped-group.ensures)
