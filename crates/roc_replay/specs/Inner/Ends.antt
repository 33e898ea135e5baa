-- Each end of a replay with what it says
use Rattle.std.specs.Prelude.{◌≡◌, ℕ, List, Option}
use Rattle.roc_plan.specs.Groups.{Plan}
use Rattle.roc_epoch.specs.declared.next.Next.{Next}
use Rattle.roc_sched.specs.declared.fault.What.TheVariants as what
use Rattle.roc_replay.specs.declared.ended.Ended.{Ended}
use Rattle.roc_replay.specs.declared.ended.Ended.TheVariants.{Done, Text, SinkFault, NoMemory}
use Rattle.roc_replay.specs.Ended.{IsReplayed, IsUnsent, IsCut, IsUnfinished}

-- of a text that is a schedule and fits the plan, only a message that was not sent is blamed
abbrev pub IsEnd : Plan → Option Next → List ℕ → Ended → (old new : Option (List ℕ)) → Type 0
IsEnd plan next schedule (Done summary) old new = IsReplayed plan next schedule summary old new
IsEnd plan next schedule (Text line fault) old new = (fault ≡ what.Message) × IsUnsent plan next schedule line old new
IsEnd plan next schedule SinkFault old new = IsCut plan next schedule old new
IsEnd plan next schedule NoMemory old new = IsUnfinished plan next schedule old new
