-- What nodes tell one another between two files, and what each of them knows by it: docs/PROOF.md, "Two files"
use Rattle.std.specs.Prelude.{◌≡◌, ℕ, ◌<◌, true, false, List, [], Some, length, slice_get}
use Rattle.roc_sequence.specs.Lists.{Has}
use Rattle.roc_base.specs.declared.id.TxnId.{TxnId}
use Rattle.roc_base.specs.declared.node.Node.{Node}
use Rattle.roc_base.specs.declared.node.Node.TheVariants.{Server, Coord}
use Rattle.roc_base.specs.declared.node.Shard.{Shard}
use Rattle.roc_msg.specs.declared.msg.Msg.{Msg}
use Rattle.roc_msg.specs.declared.msg.Msg.TheVariants.{Drained, Switched}
use Rattle.roc_coord.specs.Submit.{next_id}
use Rattle.roc_two_files.specs.Sealed.{Sealed}
use Rattle.roc_grown.specs.Server.{GrownServerState}
use Rattle.roc_grown.specs.Coord.{GrownCoordState}
use Rattle.roc_growth.specs.World.{GrownWorld}

-- the id's coordinator has told it as drained
abbrev pub HasTold : List GrownCoordState → TxnId → Type 0
HasTold coords upto = (c : GrownCoordState) × (slice_get coords upto.coord ≡ Some c) × (c.upto ≡ Some upto)

-- the server of a shard has switched
abbrev pub HasSwitched : List GrownServerState → (shard : ℕ) → Type 0
HasSwitched servers shard = (s : GrownServerState) × (slice_get servers shard ≡ Some s) × (s.switched ≡ true)

-- a drained goes to a server that is there, and tells what its coordinator has told; a switched goes back to that one, of a server that has switched
abbrev pub IsToldRight : List GrownServerState → List GrownCoordState → Msg → Node → Type 0
IsToldRight servers coords (Drained upto) to = (shard : Shard) × (to ≡ Server shard) × (shard.0 < length servers) × HasTold coords upto
IsToldRight servers coords (Switched upto shard) to = (to ≡ Coord upto.coord) × HasSwitched servers shard.0 × HasTold coords upto
IsToldRight servers coords msg to = Unit {0}

-- one that told an id as drained has it as its next one until it switches, and nothing is unanswered till then
pub record IsTelling (n : ℕ) (c : GrownCoordState) : Type 0 where
  pub plain : c.switched ≡ true → c.draining ≡ false
  pub own : (upto : TxnId) → c.upto ≡ Some upto → upto.coord ≡ n
  pub rests : (upto : TxnId) → c.upto ≡ Some upto → c.switched ≡ false → (c.draining ≡ true) × (c.core.unanswered ≡ []) × (next_id c.core ≡ upto)

pub record AreTold (g : GrownWorld) : Type 0 where
  pub telling : (n : ℕ) (c : GrownCoordState) → slice_get g.coords n ≡ Some c → IsTelling n c
  pub messages : (m : Sealed) → Has m g.sent → IsToldRight g.servers g.coords m.message.msg m.message.to
  -- what a server keeps of a coordinator is what this one told
  pub kept : (n i : ℕ) (s : GrownServerState) (upto : TxnId) → slice_get g.servers n ≡ Some s → slice_get s.drained i ≡ Some (Some upto) → (upto.coord ≡ i) × HasTold g.coords upto
  -- what told a coordinator that it had switched has
  pub at : (n : ℕ) (c : GrownCoordState) (shard : Shard) → slice_get g.coords n ≡ Some c → Has shard c.at → HasSwitched g.servers shard.0
  -- where a server has switched, each coordinator has told; and where a coordinator has, each server has switched
  pub by_server : (n : ℕ) → HasSwitched g.servers n → (i : ℕ) (c : GrownCoordState) → slice_get g.coords i ≡ Some c → (upto : TxnId) × (c.upto ≡ Some upto)
  pub by_coord : (n : ℕ) (c : GrownCoordState) → slice_get g.coords n ≡ Some c → c.switched ≡ true → (i : ℕ) (s : GrownServerState) → slice_get g.servers i ≡ Some s → s.switched ≡ true
