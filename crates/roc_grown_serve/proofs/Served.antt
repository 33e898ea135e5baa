-- What the turns of a server's node leave is what the call does.
use Rattle.std.proofs.Common.{◌≡◌, ℕ, Bool, List, [], ◌∷◌, sym, ◌∙◌, ap, subst, arith, Option, Some, None}
use Rattle.roc_base.specs.declared.node.Shard.{Shard}
use Rattle.roc_io.specs.Call.{LinkView, NodeCall}
use Rattle.roc_io.specs.declared.link.Addr.{Addr}
use Rattle.roc_io.specs.Link.{Reception}
use Rattle.roc_io.specs.Observed.{Adds, AddsFront}
use Rattle.roc_io.proofs.Told.{Adds-trans, AddsThenFront-behind}
use Rattle.roc_node.specs.Moves.{Moves}
use Rattle.roc_node.proofs.Moving.{Moves-behind}
use Rattle.roc_node.specs.NodeEvent.{NodeEvent}
use Rattle.roc_node.specs.NodeLine.{node_lines_text, end_lines}
use Rattle.roc_node_serve.specs.declared.ends.ServeEnd.{ServeEnd}
use Rattle.roc_node_serve.specs.declared.ends.ServeEnd.TheVariants as end
use Rattle.roc_node_serve.specs.ServeEnd.{HasBound, HasGreeted, first_text}
use Rattle.roc_grown.specs.Fits.{GrownServerFits}
use Rattle.roc_plan.specs.Groups.{Plan}
use Rattle.roc_epoch.specs.declared.next.Next.{Next}
use Rattle.roc_wire.specs.declared.header.Header.{Header}
use Rattle.roc_grown_node.specs.Setting.{GrownNodeSetting}
use Rattle.roc_grown_serve.specs.declared.server_node.GrownServerNode.{GrownServerNode}
use Rattle.roc_grown_serve.specs.declared.server_turns.RunEnd.TheVariants as run
use Rattle.roc_grown_serve.specs.GrownRun.{GrownNodeState, first_grown_node}
use Rattle.roc_grown_serve.specs.ServesGrowing.{RunsGrownServer, ServesGrowing, unserved, cut_off, wanted, untold, done}
use Rattle.roc_grown_serve.specs.Inner.GrownTurn.{IsReady, bare, node_of, RunsTurns, ClosesServe, are_over, are_wanted, are_cut_off}

abbrev unwrap : Option Addr → Addr → Addr
unwrap None d = d
unwrap (Some a) d = a

-- the address that was bound is the shard's
own_bound : (at : Option Addr) (own found : Addr) (old new : Option (List Addr)) → at ≡ Some own → at ≡ Some found → Adds old new (found ∷ []) → Adds old new (own ∷ [])
own_bound at own found old new p q h = subst (λ a. Adds old new (a ∷ [])) (ap (λ o. unwrap o own) (sym q ∙ p)) h

-- the sink failed at the first line
pub serves_unserved : (S : GrownNodeSetting) (first : GrownNodeState) (shard : Shard) (own : Addr) (turns : ℕ) (counts : Bool) (call : NodeCall) (at : Option Addr) (found : Addr)
    (piece : List ℕ) → at ≡ Some own → at ≡ Some found → Adds call.link.bound_old call.link.bound_new (found ∷ []) → Moves call.link.old call.link.new [] → piece ≡ first_text shard
    → AddsFront call.out.old call.out.new piece → ServesGrowing S first shard own turns counts call end.SinkFault
serves_unserved S first shard own turns counts call at found piece of has bound moves text told =
    unserved (own_bound at own found _ _ of has bound) moves (subst (AddsFront call.out.old call.out.new) text told)

-- ---- behind the first line

module _ (S : GrownNodeSetting) (first : GrownNodeState) (shard : Shard) (own found : Addr) (turns : ℕ) (counts : Bool) (call : NodeCall) (at : Option Addr) (is : at ≡ Some own)
    (has : at ≡ Some found) (mid : LinkView) (greeted : Option (List ℕ)) (piece : List ℕ) (bound : Adds call.link.bound_old call.link.bound_new (found ∷ []))
    (binds : Moves call.link.old mid []) (text : piece ≡ first_text shard) (told : Adds call.out.old greeted piece) (counted : GrownServerNode) where
  has_bound : HasBound own call
  has_bound = own_bound at own found _ _ is has bound

  first_told : Adds call.out.old greeted (first_text shard)
  first_told = subst (Adds call.out.old greeted) text told

  has_greeted : call.out.new ≡ greeted → HasGreeted shard call
  has_greeted same = subst (λ o. Adds call.out.old o (first_text shard)) (sym same) first_told

  runs_behind : (last : List Reception) (events : List NodeEvent) (node : GrownNodeState) → RunsGrownServer S first turns last events node mid call.link.new
      → RunsGrownServer S first turns last events node call.link.old call.link.new
  runs_behind last events node r = record { run = r.run; few = r.few; moves = Moves-behind call.link.old mid call.link.new _ binds r.moves }

  abbrev Ends : ServeEnd → Type 0
  Ends e = ServesGrowing S first shard own turns counts call e

  pub serves_wanted : call.out.new ≡ greeted → RunsTurns S first turns counted mid call.link.new run.NoMemory → Ends end.NoMemory
  serves_wanted same (are_wanted events node last one runs) = wanted events node last has_bound (runs_behind last events node runs) one (has_greeted same)

  pub serves_cut : call.out.new ≡ greeted → RunsTurns S first turns counted mid call.link.new run.LinkFault → Ends end.LinkFault
  serves_cut same (are_cut_off events node goes few runs) = cut_off events node has_bound (runs_behind _ events node runs) goes few (has_greeted same)

  pub serves_over : (stopped : Bool) (e : ServeEnd) → RunsTurns S first turns counted mid call.link.new (run.Over stopped)
      → ClosesServe e (node_lines_text (end_lines shard stopped counts counted.counts)) greeted call.out.new → Ends e
  serves_over _ end.Done (are_over stopped messages traffic events over runs) c =
      done events (node_of counted messages traffic stopped) has_bound (runs_behind [] events _ runs) over (Adds-trans call.out.old greeted call.out.new _ _ first_told c)
  serves_over _ end.SinkFault (are_over stopped messages traffic events over runs) c =
      untold events (node_of counted messages traffic stopped) has_bound (runs_behind [] events _ runs) over (AddsThenFront-behind call.out.old greeted call.out.new _ _ first_told c)
  serves_over _ end.NoMemory (are_over stopped messages traffic events over runs) c =
      wanted events (node_of counted messages traffic stopped) [] has_bound (runs_behind [] events _ runs) (omega arith) (has_greeted c)
  serves_over stopped end.LinkFault r c = absurd c
  serves_over stopped (end.Journal at) r c = absurd c
  serves_over stopped end.Full r c = absurd c
  serves_over stopped end.Disk r c = absurd c
  serves_over stopped end.BookFault r c = absurd c

-- ---- the first node

-- what it keeps is of its plan
pub first_ready : (S : GrownNodeSetting) (server_node : GrownServerNode) (shard : Shard) → bare server_node ≡ first_grown_node S.plan shard → IsReady S server_node
first_ready S server_node shard is = subst (λ (n : GrownNodeState). GrownServerFits S.plan (Some S.next) n.state) (sym is) (tt, tt)

-- under the header that it is given
pub served_headed : (plan : Plan) (next : Next) (cluster : List Addr) (first named : GrownNodeState) (shard : Shard) (own : Addr) (turns : ℕ) (counts : Bool) (call : NodeCall) (e : ServeEnd)
    (h k : Header) → h ≡ k → first ≡ named → ServesGrowing (record { plan = plan; next = next; header = h; cluster = cluster }) first shard own turns counts call e
    → ServesGrowing (record { plan = plan; next = next; header = k; cluster = cluster }) named shard own turns counts call e
served_headed plan next cluster first named shard own turns counts call e h k same is s =
    subst (λ n. ServesGrowing (record { plan = plan; next = next; header = k; cluster = cluster }) n shard own turns counts call e) is
    (subst (λ v. ServesGrowing (record { plan = plan; next = next; header = v; cluster = cluster }) first shard own turns counts call e) same s)
