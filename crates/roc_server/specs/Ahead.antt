-- What was made ahead for a message, so that the message cannot fail for want of memory: docs/PROTOCOL.md, "Want of memory"
use Rattle.std.specs.Prelude.{◌≡◌, ◌++◌, Bool, true, false, Some, None, IfSome, ◌⊎◌}
use Rattle.roc_msg.specs.declared.msg.Msg.{Msg}
use Rattle.roc_msg.specs.declared.msg.Msg.TheVariants.{Start, Commit, Fetch, Known, Ended, Settled, Read}
use Rattle.roc_msg.specs.Outbox.{Collected, HasRoomFor}
use Rattle.roc_plan.specs.Groups.{Plan}
use Rattle.roc_step.specs.Fits.{AreGroupsOf, AreReadsOf, ServerFits}
use Rattle.roc_step.specs.Runs.{accesses_of}
use Rattle.roc_step.specs.Reads.{AnswersReads, ReadStep}
use Rattle.roc_server.specs.State.{MadeAhead, Serving}
use Rattle.roc_step.specs.State.{ServerState, ServerStep, Viewing}
use Rattle.roc_step.specs.Step.{Handles}

-- it is what comes of its message under the plan
pub record IsMadeFor (plan : Plan) (s : ServerState) (v : Viewing) (made : MadeAhead) : Type 0 where
  pub step : ServerStep
  pub handles : Handles plan s made.msg step
  pub reads : ReadStep
  pub answers_reads : AnswersReads plan v made.msg step reads
  pub answers : step.answer ≡ made.answer
  pub keeps : step.state ≡ made.state
  pub views : reads.viewing ≡ made.viewing
  pub sends : made.sends.messages ≡ step.sends ++ reads.sends
  pub decides : made.sends.decided ≡ step.decided
  pub ran : made.sends.ran ≡ accesses_of step.ran
  pub groups : AreGroupsOf plan made.state.started
  pub views_fit : AreReadsOf plan made.viewing.reads

-- what a server holds is of a plan, and so is what it made ahead
abbrev pub ServingFits : Plan → Serving → Type 0
ServingFits plan v = ServerFits plan v.state × AreReadsOf plan v.viewing.reads × IfSome v.ahead (IsMadeFor plan v.state v.viewing)

-- the kinds that take memory: no server answers want of memory to any other
abbrev pub needs_room : Msg → Bool
needs_room (Start id proc group args inputs) = true
needs_room (Commit id edges facts) = true
needs_room (Fetch id asker) = true
needs_room (Known id edges) = true
needs_room (Ended coord mark) = true
needs_room (Settled id mark) = true
needs_room (Read id round proc group args) = true
needs_room msg = false

-- all of it was made ahead, and the outbox has room for what is sent
pub record HasAllMade (v : Serving) (outbox : Collected) (msg : Msg) : Type 0 where
  pub made : MadeAhead
  pub is : v.ahead ≡ Some made
  pub of : made.msg ≡ msg
  pub room : HasRoomFor outbox made.sends

-- the room for a message is there
abbrev pub HasRoom : Serving → Collected → Msg → Type 0
HasRoom v outbox msg = (needs_room msg ≡ false) ⊎ HasAllMade v outbox msg

-- what comes of the message can be taken: it is of a kind that takes no memory, and nothing was made ahead; or all of it was
abbrev pub IsReady : Serving → Collected → Msg → Type 0
IsReady v outbox msg = ((needs_room msg ≡ false) × (v.ahead ≡ None)) ⊎ HasAllMade v outbox msg

-- the outbox has room for what was made ahead
abbrev pub HasRoomToTake : Serving → Collected → Type 0
HasRoomToTake v outbox = IfSome v.ahead (λ made. HasRoomFor outbox made.sends)
