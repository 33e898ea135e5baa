use Rattle.roc_whole.proofs.SerialRuns.{serial_answers-append, serial_store-append}
use Rattle.roc_whole.proofs.laws.serial_runs_compose.Goals as goal

pub returns : goal.returns
returns c = record { answers = serial_answers-append; store = serial_store-append }
