-- What the code is said by and no promise to a caller cites.
use Rattle.calls.specs.Answers.{placed}
use Rattle.tray.specs.declared.adding.Added.{Added as Adding}
use Rattle.tray.specs.declared.filing.Filing.{Filing}
use Rattle.heatherplane.specs.declared.trays.Added.{Added}
use Rattle.heatherplane.specs.declared.trays.Asked.{Asked}
use Rattle.heatherplane.specs.declared.trays.Filed.{Filed}
use Rattle.heatherplane.specs.declared.trays.Parameters.{Parameters as Numbers}
use Rattle.heatherplane.specs.declared.replies.Growth.{Growth}
use Rattle.heatherplane.specs.Trays.{parameters_in, record_in}

abbrev pub asked_of_lem : Numbers → Growth → Asked
asked_of_lem p g = record { parameters = parameters_in p; growth = record_in g }

-- what a call of crate tray answers
abbrev pub added_reply_lem : Adding → Added
added_reply_lem a = record { refusal = (placed a.answer).refusal; count = a.count }

abbrev pub filed_reply_lem : Filing → Filed
filed_reply_lem d =
    record {
      refusal = (placed d.answer).refusal;
      page = (placed d.answer).page;
      place = (placed d.answer).place;
      filed = d.filed;
      count = d.count;
    }
