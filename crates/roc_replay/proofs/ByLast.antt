-- What is asked by the plan that was taken as the last one
use Rattle.std.proofs.Common.{◌≡◌, inr, ℕ, List, Option, Some, subst}
use Rattle.std.specs.List.{AllByRecursion}
use Rattle.roc_plan.specs.Groups.{Plan}
use Rattle.roc_epoch.specs.declared.next.Next.{Next}
use Rattle.roc_epoch.specs.Files.{last_plan}
use Rattle.roc_sched.specs.declared.fault.TextFault.{TextFault}
use Rattle.roc_sched.specs.declared.fault.TextFault.TheVariants.{At, NoMemory}
use Rattle.roc_sched.specs.declared.line.Line.{Line}
use Rattle.roc_sched.specs.Each.{each}
use Rattle.roc_sched.specs.Fits.{IsActFor}
use Rattle.roc_sched.specs.Schedule.{IsSchedule, item_of}
use Rattle.roc_replay.specs.declared.asked.BoundLine.{BoundLine}
use Rattle.roc_replay.specs.BoundLine.{played_forms, last_program, asked_by, IsScheduleOf, WantedFits}
use Rattle.roc_replay.specs.Inner.Reading.{IsUnfitBy, IsBlamed}
use Rattle.roc_replay.proofs.Schedules.{asked_fit}

module _ (plan : Plan) (next : Option Next) (last : Plan) (is : last ≡ last_plan plan next) (text : List ℕ) (lines : List Line)
    (schedule : IsSchedule (played_forms next) last.program.shards text lines) where
  pub of_last : IsSchedule (played_forms next) (last_program plan next).shards text lines
  of_last = subst (λ (p : Plan). IsSchedule (played_forms next) p.program.shards text lines) is schedule

  module _ (asked : List BoundLine) (asks : each (λ line. item_of (asked_by last.program line)) lines ≡ Some asked) where
    asks_last : each (λ line. item_of (asked_by (last_program plan next) line)) lines ≡ Some asked
    asks_last = subst (λ (p : Plan). each (λ line. item_of (asked_by p.program line)) lines ≡ Some asked) is asks

    pub asked_found : IsScheduleOf plan next text asked
    asked_found = record { lines = lines; schedule = of_last; asks = asks_last }

    pub asked_fits : AllByRecursion (λ line. IsActFor (played_forms next) (last_program plan next).shards line.act) lines → AllByRecursion (λ one. WantedFits plan next one.wanted) asked
    asked_fits fit = asked_fit plan next lines asked fit asks_last

  pub asked_blamed : (fault : TextFault) → IsUnfitBy last.program lines fault → IsBlamed plan next text fault
  asked_blamed NoMemory u = tt
  asked_blamed (At line what) u = go (subst (λ (p : Plan). IsUnfitBy p.program lines (At line what)) is u)
    where
      go : IsUnfitBy (last_program plan next) lines (At line what) → IsBlamed plan next text (At line what)
      go u =
          inr (record {
            before = u.before;
            line = u.line;
            behind = u.behind;
            schedule = subst (IsSchedule (played_forms next) (last_program plan next).shards text) u.parts of_last;
            fit = u.fit;
            numbered = u.number_is;
            is = u.is;
          })
