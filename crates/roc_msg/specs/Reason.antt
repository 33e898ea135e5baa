-- How reasons are printed
use Rattle.std.specs.Prelude.{ℕ, List, codes}
use Rattle.roc_msg.specs.declared.reason.Reason.{Reason}
use Rattle.roc_msg.specs.declared.reason.Reason.TheVariants.{Foreign, BadProc, BadGroup, BadInputs, NotHere, Late, Differs, Stale, Unfit}

abbrev pub reason_text : Reason → List ℕ
reason_text Foreign = codes "foreign"
reason_text BadProc = codes "badproc"
reason_text BadGroup = codes "badgroup"
reason_text BadInputs = codes "badinputs"
reason_text NotHere = codes "nothere"
reason_text Late = codes "late"
reason_text Differs = codes "differs"
reason_text Stale = codes "stale"
reason_text Unfit = codes "unfit"
