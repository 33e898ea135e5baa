-- A schedule that asks only for what was sent is played whole
use Rattle.std.proofs.Common.{◌≡◌, ℕ, ◌<◌, List, ◌∷◌, ◌++◌, Option, sym, subst, arith, ◌⊎◌, inl, inr}
use Rattle.roc_io.specs.Cause.{HasCause, last_count}
use Rattle.roc_plan.specs.Groups.{Plan}
use Rattle.roc_epoch.specs.declared.next.Next.{Next}
use Rattle.roc_replay.specs.declared.asked.BoundLine.{BoundLine}
use Rattle.roc_replay.specs.declared.ended.Ended.{Ended}
use Rattle.roc_replay.specs.declared.ended.Ended.TheVariants.{Done, Text, SinkFault, NoMemory}
use Rattle.roc_sched.specs.declared.fault.What.{What}
use Rattle.roc_sched.specs.Schedule.{IsScheduleFault}
use Rattle.roc_replay.specs.BoundLine.{played_forms, last_program, IsScheduleOf, IsUnfit}
use Rattle.roc_replay.specs.Ended.{IsUnsent, IsTextFault, no_schedule, unfit, unsent, IsWhole, is_sink_fault}
use Rattle.roc_replay.specs.Inner.Ends.{IsEnd}
use Rattle.roc_replay.specs.Played.{AsksOnlySent}

module _ (plan : Plan) (next : Option Next) (schedule : List ℕ) (lines : List BoundLine) (of : IsScheduleOf plan next schedule lines) (sends : AsksOnlySent plan next lines)
    (one_schedule : (text : List ℕ) (some others : List BoundLine) → IsScheduleOf plan next text some → IsScheduleOf plan next text others → some ≡ others) where
  -- no line of it asks for a message that is not there
  all_sent : (number : ℕ) (old new : Option (List ℕ)) → IsUnsent plan next schedule number old new → ⊥
  all_sent number old new u = u.unsent (sends.each u.before u.line u.behind u.steps u.world (one_schedule schedule lines (u.before ++ u.line ∷ u.behind) of u.of_schedule) u.played)

  pub whole_end : (e : Ended) (old new : Option (List ℕ)) (before after : ℕ) → IsEnd plan next schedule e old new → HasCause (is_sink_fault e) before after → after ≡ before → before < last_count → IsWhole e
  whole_end (Done summary) old new before after end cause same room = tt
  whole_end NoMemory old new before after end cause same room = tt
  whole_end (Text line fault) old new before after end cause same room = all_sent line old new end.1
  whole_end SinkFault old new before after end cause same room = (let rose = cause.rose in absurd (let r : before < after = rose (subst (λ n. n < last_count) (sym same) room) in omega arith))

  -- nor is the text to blame for anything else
  pub faultless :
      ((text : List ℕ) (line : ℕ) (fault : What) → IsScheduleFault (played_forms next) (last_program plan next).shards text line fault ⊎ IsUnfit plan next text line fault → IsScheduleOf plan next text lines → ⊥)
      → (number : ℕ) (fault : What) (old new : Option (List ℕ)) → IsTextFault plan next schedule number fault old new → ⊥
  faultless right number fault old new (no_schedule wrong same) = right schedule number fault (inl wrong) of
  faultless right number fault old new (unfit wrong same) = right schedule number fault (inr wrong) of
  faultless right number fault old new (unsent is wrong) = all_sent number old new wrong
