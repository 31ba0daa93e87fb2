-- 1, 2, then the second set and the cleared pool.
use mathlib.Core.Path.{◌≡◌, refl, ap}
use mathlib.Core.Bool.{true, not}
use Rattle.hashing.proofs.Bounds.{passed, failed}
use Rattle.placement.specs.Hash.{lent}
use Rattle.calls.specs.Answers.{pooled, cleared}
use Rattle.calls.specs.Calls.{file_fits_lem, pool_fits_lem}
use Rattle.calls.specs.Carry.{carry_states, carry_lengths}
use Rattle.outcome_answer.proofs.Pools.{cleared-is}
use Rattle.carrying.proofs.Carried.{carry_first, carry_length, carry_lent, carry_done}
use Rattle.carrying.proofs.calling.carry.Goals as goal

pub returns-then-not-states_valid : goal.returns-then-not-states_valid
returns-then-not-states_valid c =
    record { leaves = carry_first c.args.parameters c.args.growth (lent c.args.separators.now c.args.numbers.now c.args.words.now c.args.owners.now) c.args.newparameters c.args.newgrowth (lent c.args.secondseparators.now c.args.secondnumbers.now c.args.secondwords.now c.args.secondowners.now) (pooled c.args.poolnumbers.now c.args.poolwords.now c.args.poolowners.now) (failed _ _ c.states_valid.ensures (ap not c.if-not-states_valid.true)) }

pub returns-then-not-file_fits : goal.returns-then-not-file_fits
unfolding carry_lengths file_fits_lem pool_fits_lem
returns-then-not-file_fits c =
    let states : carry_states c.args.parameters c.args.growth c.args.newparameters c.args.newgrowth ≡ true = passed _ _ c.states_valid.ensures (ap not c.if-not-states_valid.false) in
    record {
      leaves = carry_length c.args.parameters c.args.growth (lent c.args.separators.now c.args.numbers.now c.args.words.now c.args.owners.now) c.args.newparameters c.args.newgrowth (lent c.args.secondseparators.now c.args.secondnumbers.now c.args.secondwords.now c.args.secondowners.now) (pooled c.args.poolnumbers.now c.args.poolwords.now c.args.poolowners.now) states
          (rw (failed _ _ c.file_fits.ensures (ap not c.if-not-file_fits.true)));
    }

pub returns-then-not-all_fit : goal.returns-then-not-all_fit
unfolding carry_lengths file_fits_lem pool_fits_lem
returns-then-not-all_fit c =
    let states : carry_states c.args.parameters c.args.growth c.args.newparameters c.args.newgrowth ≡ true = passed _ _ c.states_valid.ensures (ap not c.if-not-states_valid.false) in
    record {
      leaves = carry_length c.args.parameters c.args.growth (lent c.args.separators.now c.args.numbers.now c.args.words.now c.args.owners.now) c.args.newparameters c.args.newgrowth (lent c.args.secondseparators.now c.args.secondnumbers.now c.args.secondwords.now c.args.secondowners.now) (pooled c.args.poolnumbers.now c.args.poolwords.now c.args.poolowners.now) states
          (rw (passed _ _ c.file_fits.ensures (ap not c.if-not-file_fits.false), failed _ _ c.all_fit.ensures (ap not c.if-not-all_fit.true)));
    }

pub carry_second-answer-requires : goal.carry_second-answer-requires
unfolding carry_lengths file_fits_lem pool_fits_lem
carry_second-answer-requires c =
    let states : carry_states c.args.parameters c.args.growth c.args.newparameters c.args.newgrowth ≡ true = passed _ _ c.states_valid.ensures (ap not c.if-not-states_valid.false) in
    let lengths : carry_lengths c.args.parameters (lent c.args.separators.now c.args.numbers.now c.args.words.now c.args.owners.now) c.args.newparameters (lent c.args.secondseparators.now c.args.secondnumbers.now c.args.secondwords.now c.args.secondowners.now) (pooled c.args.poolnumbers.now c.args.poolwords.now c.args.poolowners.now) ≡ true = rw (passed _ _ c.file_fits.ensures (ap not c.if-not-file_fits.false), passed _ _ c.all_fit.ensures (ap not c.if-not-all_fit.false)) in
    record {
      admitted = (carry_lent c.args.parameters c.args.growth (lent c.args.separators.now c.args.numbers.now c.args.words.now c.args.owners.now) c.args.newparameters c.args.newgrowth (lent c.args.secondseparators.now c.args.secondnumbers.now c.args.secondwords.now c.args.secondowners.now) (pooled c.args.poolnumbers.now c.args.poolwords.now c.args.poolowners.now) states lengths).0;
      admitted_2 = (carry_lent c.args.parameters c.args.growth (lent c.args.separators.now c.args.numbers.now c.args.words.now c.args.owners.now) c.args.newparameters c.args.newgrowth (lent c.args.secondseparators.now c.args.secondnumbers.now c.args.secondwords.now c.args.secondowners.now) (pooled c.args.poolnumbers.now c.args.poolwords.now c.args.poolowners.now) states lengths).1.0;
      poolnumbers_len = (carry_lent c.args.parameters c.args.growth (lent c.args.separators.now c.args.numbers.now c.args.words.now c.args.owners.now) c.args.newparameters c.args.newgrowth (lent c.args.secondseparators.now c.args.secondnumbers.now c.args.secondwords.now c.args.secondowners.now) (pooled c.args.poolnumbers.now c.args.poolwords.now c.args.poolowners.now) states lengths).1.1.0;
      poolwords_len = (carry_lent c.args.parameters c.args.growth (lent c.args.separators.now c.args.numbers.now c.args.words.now c.args.owners.now) c.args.newparameters c.args.newgrowth (lent c.args.secondseparators.now c.args.secondnumbers.now c.args.secondwords.now c.args.secondowners.now) (pooled c.args.poolnumbers.now c.args.poolwords.now c.args.poolowners.now) states lengths).1.1.1;
    }

pub returns : goal.returns
unfolding carry_lengths file_fits_lem pool_fits_lem
returns c =
    let states : carry_states c.args.parameters c.args.growth c.args.newparameters c.args.newgrowth ≡ true = passed _ _ c.states_valid.ensures (ap not c.if-not-states_valid.false) in
    let lengths : carry_lengths c.args.parameters (lent c.args.separators.now c.args.numbers.now c.args.words.now c.args.owners.now) c.args.newparameters (lent c.args.secondseparators.now c.args.secondnumbers.now c.args.secondwords.now c.args.secondowners.now) (pooled c.args.poolnumbers.now c.args.poolwords.now c.args.poolowners.now) ≡ true = rw (passed _ _ c.file_fits.ensures (ap not c.if-not-file_fits.false), passed _ _ c.all_fit.ensures (ap not c.if-not-all_fit.false)) in
    let kept = c.carry_second-answer.auto in
    record {
      leaves = carry_done c.args.parameters c.args.growth (lent c.args.separators.now c.args.numbers.now c.args.words.now c.args.owners.now) c.args.newparameters c.args.newgrowth (lent c.args.secondseparators.now c.args.secondnumbers.now c.args.secondwords.now c.args.secondowners.now) (pooled c.args.poolnumbers.now c.args.poolwords.now c.args.poolowners.now) states lengths _ _ _ refl
          (c.carry_second-answer.ensures (cleared (pooled c.args.poolnumbers.now c.args.poolwords.now c.args.poolowners.now)))
          (cleared-is _ _ _ _ _ _ _ _ _ c.clear.ensures.pool_after c.clear.ensures.waiting_after c.clear.ensures.poolowners_after kept.poolnumbers kept.poolwords refl);
    }
