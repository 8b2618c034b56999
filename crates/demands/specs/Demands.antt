-- The letter's demands, sentence by sentence, over the definitions that the promises of reading, check, load and run equal. The letter:
-- "Rattle's checker should, and this is what it should say".
use Rattle.verifier.specs.Exact.{AcceptsExactly, RefusesExactly, ShowsReached, ShowsNoMore}
use Rattle.joined.specs.Joined.{RefusedJoined}
use Rattle.invariant.specs.Labels.{IterPushes, SwitchPushes}
use Rattle.guarantees.specs.Guarantees.{RefusedLoad, RefusedRun, TrappedStep}
use Rattle.guarantees.specs.Guarantees.{CountWithinBudget, SpendsBudget, WritesBelowHeight, StaysFit}
use Rattle.guarantees.specs.Guarantees.{NamesModule, KeepsProtected}
use Rattle.guarantees.specs.Answers.{ReadingNumbers, CheckNumbers, LoadNumbers, RunNumbers, StepTraps}
use Rattle.guarantees.specs.Runs.{RunsBySteps}
use Rattle.demands.specs.Third.{EndsProperly, ComesOn, HasPlace, HasModule, HasPicture, HasShare}
use Rattle.demands.specs.Third.{KeepsFixed, KeepsSizes, KeepsLinks, LeavesBelow}
use Rattle.registers.specs.State.{ReadsBack}
use Rattle.demands.specs.Calls.{SetInTurn, RecordInTurn}

-- 1. "Reading, checking, loading and running answer for any bytes, sizes and lent memory." That they answer at all is what the checker
-- says of every function, and none of these has a `requires`; what they answer are 01's numbers.
pub record Demand1 : Type 0 where
  pub reading : ReadingNumbers
  pub checking : CheckNumbers
  pub loading : LoadNumbers
  pub running : RunNumbers
  pub trapping : StepTraps
  -- "A refused record leaves memory and stack as they were"
  pub refused_load : RefusedLoad
  pub refused_run : RefusedRun
  pub refused_call : RefusedJoined
  -- "a trapped step leaves the machine as it stood before that step."
  pub trapped_step : TrappedStep

-- 2. "The check accepts exactly the records that meet the written rules, and every run, accepted code or not, gives the memory, stack,
-- trap, place and step count that the manual's steps give as our document reads them." 02, K1: "Demands 2 and 3 now speak of a set of
-- modules", of which a record by itself is one.
pub record Demand2 : Type 0 where
  pub accepts : AcceptsExactly
  pub runs : RunsBySteps

-- 3. "Take any record that the check accepts and load it fresh, with any parameters, memory and stack that the loader takes; run it from
-- there": the sentences stand in Third, in this order.
pub record Demand3 : Type 0 where
  pub ends : EndsProperly
  pub steps : ComesOn
  pub place : HasPlace
  pub place_module : HasModule
  pub picture : HasPicture
  pub share : HasShare
  pub fixed : KeepsFixed
  pub links : KeepsLinks
  pub below : LeavesBelow
  -- For callers that make the calls in turn, over a set and over a record.
  pub reads_back : ReadsBack
  pub set_in_turn : SetInTurn
  pub record_in_turn : RecordInTurn

-- What 01 says besides, of the check and its workspace, and of steps and runs.
pub record Besides : Type 0 where
  pub refuses : RefusesExactly
  pub shows : ShowsReached
  pub shows_no_more : ShowsNoMore
  pub iter_label : IterPushes
  pub switch_label : SwitchPushes
  pub sizes : KeepsSizes
  pub counts : CountWithinBudget
  pub spends : SpendsBudget
  pub names_module : NamesModule
  pub stays_fit : StaysFit
  pub writes_below : WritesBelowHeight
  pub protects : KeepsProtected

pub record Demands : Type 0 where
  pub first : Demand1
  pub second : Demand2
  pub third : Demand3
  pub besides : Besides
