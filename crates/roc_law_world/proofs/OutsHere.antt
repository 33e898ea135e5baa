-- What is sent goes to nodes that are there, and names only such
use Rattle.std.proofs.Common.{ℕ, List, [], ◌∷◌, ◌++◌, map}
use Rattle.std.specs.List.{AllByRecursion}
use Rattle.roc_sequence.proofs.Holds.{all_append, all_weaker}
use Rattle.roc_base.specs.declared.node.Node.{Node}
use Rattle.roc_msg.specs.declared.msg.Msg.{Msg}
use Rattle.roc_msg.specs.declared.msg.Msg.TheVariants.{Read, ReadOk}
use Rattle.roc_msg.specs.declared.msg.Envelope.{Envelope}
use Rattle.roc_msg.specs.declared.outbox.Outgoing.{Outgoing}
use Rattle.roc_law_protocol.specs.Fits as transactions
use Rattle.roc_law_protocol.specs.Fits.{IsNode}
use Rattle.roc_law_protocol.specs.World.{sent_by}
use Rattle.roc_law_protocol.proofs.Named.{IsOutHere as IsTheirsHere}
use Rattle.roc_law_world.specs.Fits.{NamesNodes, IsSentHere}

module _ (servers coords : ℕ) where
  abbrev pub IsOutHere : Outgoing → Type 0
  IsOutHere out = IsNode servers coords out.to × NamesNodes servers coords out.msg

  abbrev pub AreOutsHere : List Outgoing → Type 0
  AreOutsHere outs = AllByRecursion IsOutHere outs

  names_more : (msg : Msg) → transactions.NamesNodes servers coords msg → NamesNodes servers coords msg
  names_more (Read id round proc group args) k = absurd k
  names_more (ReadOk id round group shard versions outs) k = absurd k
  names_more msg k = k

  -- what is so where there are no messages of views is so
  pub outs_more : (outs : List Outgoing) → AllByRecursion (IsTheirsHere servers coords) outs → AreOutsHere outs
  outs_more outs h = all_weaker (IsTheirsHere servers coords) IsOutHere (λ out k. (k.0, names_more out.msg k.1)) outs h

  -- and so it is in the network
  pub sent_more : (sent : List Envelope) (from : Node) (outs : List Outgoing) → AllByRecursion (IsSentHere servers coords) sent → AreOutsHere outs
      → AllByRecursion (IsSentHere servers coords) (sent ++ map (sent_by from) outs)
  sent_more sent from outs h k = all_append (IsSentHere servers coords) sent (map (sent_by from) outs) h (go outs k)
    where
      go : (outs : List Outgoing) → AreOutsHere outs → AllByRecursion (IsSentHere servers coords) (map (sent_by from) outs)
      go [] k = tt
      go (out ∷ outs) k = (record { to = k.0.0; names = k.0.1 }, go outs k.1)
