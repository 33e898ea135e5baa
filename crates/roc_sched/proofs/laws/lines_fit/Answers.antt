use Rattle.roc_sched.proofs.Fits.{schedule_fits, requests_fit}
use Rattle.roc_sched.proofs.laws.lines_fit.Goals as goal

pub returns : goal.returns
returns c = record { schedules = schedule_fits; requests = requests_fit }
