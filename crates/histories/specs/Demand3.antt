-- Demand 3, all of it, and what follows of every history with it.
use Rattle.histories.specs.Theorem.{EveryHistory}
use Rattle.histories.specs.Corollaries.{EachState, HistoryIndependence}
use Rattle.histories.specs.FilingCalls.{FilingIsCalls}
use Rattle.histories.specs.Alike.{LookUpsAlike}

pub record Demand3 : Type 0 where
  -- "a single statement about the whole list and not one for each call" (01): look-ups answer as the book, no call is refused for
  -- damage, and at the end separators, pages and (e, x) are the book's, "what the rule over pages 0 to M−1 gives its stars" (01); of a growth
  -- left open the second set has "pages 0 to j − 1 and their separators" as finished, "the others empty" (02 (xiii))
  pub every_history : EveryHistory
  -- so they depend only on what the book holds, "star numbers, each once with a position, and an (e, x) of its own" (01)
  pub history_independence : HistoryIndependence
  -- before each call and at the end the file is "a file that the check accepts (a clean file)" (02 (i)), "8 needs a star carried past
  -- M−1" (01), an entry of a held star with its stored position "counts as no step", any other being 6 (02 (v)), a cascade is as
  -- the entry, and "histories count it as one" (02 (ix)), a change or a removal of a held star is 13 "when the caller .. is neither the star's
  -- owner nor 0" and else accepted (02 (x)), and a shrink is refused with 9 exactly "when (e, x) is (0, 0)", and else with 8 exactly "if a star
  -- is carried past M−1" (02 (i)); "between opening and step M" every call that writes the file or opens a growth is 16 and no step, a step is accepted,
  -- and else a step is 16 and an opening is refused as a growth (02 (xiii)); with a tray and filter "left by these calls alone" a combined look-up
  -- answers by the latest report, else as the book, and it and an addition are no step (02 (xi))
  pub each_state : EachState
  -- a filing, "each report tried as the call it made" (02 (xi)), leaves the file and the book that these calls leave
  pub filing_is_calls : FilingIsCalls
  -- look-ups "that are alike" (02 (xiii)) get one answer: alike in number, parameters, "the whole growth record", lengths, separators
  -- and the page named
  pub look_ups_alike : LookUpsAlike
