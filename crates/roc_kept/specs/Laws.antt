-- What holds of all files, for a server of a shard
use Rattle.std.specs.Prelude.{ℕ, List}
use Rattle.roc_base.specs.declared.node.Shard.{Shard}
use Rattle.roc_msg.specs.declared.msg.Msg.{Msg}
use Rattle.roc_plan.specs.Groups.{Plan}
use Rattle.roc_step.specs.State.{ServerState, Viewing}
use Rattle.roc_kept.specs.Kept.{ComesOf, Recovers}
use Rattle.roc_kept.specs.Opening.{IsRefusedAt}

-- something comes of each message
abbrev pub HaveOutcomes : Plan → Type 0
HaveOutcomes plan = (s : ServerState) (v : Viewing) (msg : Msg) → ComesOf plan msg s v

-- the bytes are a journal of records that a server takes
pub record IsRecovered (plan : Plan) (tag : List ℕ) (shard : Shard) (bytes : List ℕ) : Type 0 where
  pub state : ServerState
  pub viewing : Viewing
  pub is : Recovers plan tag shard bytes state viewing

-- the bytes have a first place at which they are none
pub record HasRefusal (plan : Plan) (tag : List ℕ) (shard : Shard) (bytes : List ℕ) : Type 0 where
  pub at : ℕ
  pub is : IsRefusedAt plan tag shard bytes at
