-- What an event leaves in the fields of a world is what the definitions say
use Rattle.std.proofs.Common.{◌≡◌, ℕ, ◌-◌, ◌<◌, ◌==◌, not, Bool, List, [], ◌++◌, Option, Some, None, length, map, take, filter, slice_get, slice_set, sym, ap, subst, ◌∙◌, append-nil}
use Rattle.std.proofs.lemmas.List.{set-set}
use Rattle.roc_sequence.proofs.Members.{same_there}
use Rattle.roc_base.specs.declared.node.Node.{Node}
use Rattle.roc_base.specs.declared.node.Node.TheVariants.{Server, Coord}
use Rattle.roc_base.specs.declared.node.Shard.{Shard}
use Rattle.roc_msg.specs.Outbox.{Collected}
use Rattle.roc_plan.specs.Groups.{Plan}
use Rattle.roc_audit.specs.Order.{noted}
use Rattle.roc_law_protocol.specs.declared.event.Kept.TheVariants.{Lost, Sent}
use Rattle.roc_law_protocol.specs.Happens.{ran_at}
use Rattle.roc_law_protocol.proofs.Changed.{get-set_here}
use Rattle.roc_law_world.specs.World.{looks_in}
use Rattle.roc_epoch.specs.declared.next.Next.{Next}
use Rattle.roc_two_files.specs.Sealed.{Sealed}
use Rattle.roc_grown.specs.declared.handled.GrownHandled.{GrownHandled}
use Rattle.roc_grown.specs.declared.handled.GrownAnswer.{GrownAnswer}
use Rattle.roc_grown.specs.Server.{GrownServerState, taken_at, restarted, grown_server_tick}
use Rattle.roc_grown.specs.Coord.{GrownCoordState, after_drain, after_grown_message, grown_tick_sends}
use Rattle.roc_growth.specs.declared.event.Event.TheVariants.{Deliver, Tick, Stop, Drain}
use Rattle.roc_growth.specs.declared.event.Seen.{Seen}
use Rattle.roc_growth.specs.declared.event.Seen.TheVariants as seen
use Rattle.roc_growth.specs.World.{GrownWorld, sends, mark_delivered, at_server, at_coord, at_coord_tick}
use Rattle.roc_growth.specs.Happens.{Outcome, undecided, server_seen, coord_seen, answer_entries, served, coordinated, IsReceived, IsSentTo, cut_short, at_rest, unrecorded, recorded}
use Rattle.roc_growth.specs.Happens.{started_again, IsNext}
use Rattle.roc_world.specs.Inner.Messages.{Messages}
use Rattle.roc_world.specs.Inner.Nodes.{ServerTakes, CoordTakes, CoordDrains, CoordTicks, ServerTicks, ServerRestarts}
use Rattle.roc_world.specs.Inner.Parts.{Leads, TakesCut, StartsAgain}
use Rattle.roc_law_protocol.proofs.Stops.{set_there}

-- a server that starts again and sends nothing
rest_is : (w : GrownWorld) (shard : ℕ) (s : GrownServerState) → at_server w shard (taken_at (restarted s) []) ≡ record w { servers = slice_set w.servers shard (restarted s) }
rest_is w shard s = λ i. record w { servers = slice_set w.servers shard (restarted s); sent = append-nil w.sent i; undelivered = append-nil w.undelivered i }

module _ (plan : Plan) (next : Option Next) (w : GrownWorld) where
  -- ---- a delivery

  module _ (k : ℕ) (m : Sealed) (some : 0 < k) (there : slice_get w.sent (k - 1) ≡ Some m) where
    abbrev delivered : Messages
    delivered = record { sent = w.sent; undelivered = filter (λ n. not (n == k)) w.undelivered }

    pub server_comes :
        (news : List GrownServerState) (shard : Shard) → m.message.to ≡ Server shard → (answer : GrownHandled) (switched : Bool) (what : Seen) (noted_in : Messages) (before out : Collected) (after : GrownWorld)
        → before.messages ≡ [] → before.decided ≡ [] → ServerTakes plan next shard.0 m.file m.message.msg answer switched w.servers news before out → what ≡ server_seen answer → noted_in ≡ delivered
        → after ≡ record (sends (record w { servers = news; sent = noted_in.sent; undelivered = noted_in.undelivered }) switched (Server shard) out.messages) { order = noted w.order out.decided }
        → Leads plan next w (Deliver k) what after
    server_comes news shard to answer switched what noted_in before out after none undecided_yet takes what_is network_is after_is =
        let r = takes.step in
        let outs : out.messages ≡ r.sends = takes.shows.sends ∙ ap (λ xs. xs ++ r.sends) none in
        let ids : out.decided ≡ r.decided = takes.shows.decides ∙ ap (λ xs. xs ++ r.decided) undecided_yet in
        let sees : what ≡ server_seen r.answer = what_is ∙ ap server_seen (sym takes.shows.answers) in
        let stands = takes.stands in
        let others = takes.others in
        let world_is : after ≡ at_server (mark_delivered w k) shard.0 r =
        after_is
        ∙ (λ i. record (sends (record w { servers = others i; sent = (network_is i).sent; undelivered = (network_is i).undelivered }) (stands i) (Server shard) (outs i)) { order = noted w.order (ids i) }) in
        let ran = map (ran_at shard.0) r.ran in
        let o : Outcome = record { seen = what; components = r.components; decided = r.decided; ran = ran; world = after } in
        let is : o ≡ served (mark_delivered w k) shard.0 r = λ i. record { seen = sees i; components = r.components; decided = r.decided; ran = ran; world = world_is i } in (
          r.components,
          r.decided,
          ran,
          (
            m,
            some,
            there,
            subst (λ (node : Node). IsReceived plan next (mark_delivered w k) m.file m.message.msg node o) (sym to)
                (record { state = takes.server; there = takes.there; step = r; handles = takes.handles; is = is }),
          ),
        )

    pub coord_comes :
        (number : ℕ) → m.message.to ≡ Coord number → (answer : GrownAnswer) (switched : Bool) (what : Seen) (coords : List GrownCoordState) (noted_in : Messages) (before out : Collected) (after : GrownWorld)
        → before.messages ≡ [] → CoordTakes plan next number m.file m.message.msg answer switched w.coords coords before out → what ≡ coord_seen answer → noted_in ≡ delivered
        → after
        ≡ record (sends (record w { coords = coords; sent = noted_in.sent; undelivered = noted_in.undelivered }) switched (Coord number) out.messages) {
          history = w.history ++ answer_entries answer;
          looks = w.looks ++ looks_in (length w.order) out.messages;
        }
        → Leads plan next w (Deliver k) what after
    coord_comes number to answer switched what coords noted_in before out after none takes what_is network_is after_is =
        let r = after_grown_message plan next takes.coord m.file m.message.msg in
        let outs : out.messages ≡ r.sends = takes.outcome.sent.0 ∙ ap (λ xs. xs ++ r.sends) none in
        let told = takes.outcome.answer in
        let sees : what ≡ coord_seen r.answer = what_is ∙ ap coord_seen told in
        let stands = takes.stands in
        let others = takes.others in
        let world_is : after ≡ at_coord (mark_delivered w k) number r.state r.sends (answer_entries r.answer) =
        after_is
        ∙ (λ i. record (sends (record w { coords = others i; sent = (network_is i).sent; undelivered = (network_is i).undelivered }) (stands i) (Coord number) (outs i)) {
          history = w.history ++ answer_entries (told i);
          looks = w.looks ++ looks_in (length w.order) (outs i);
        }) in
        let o : Outcome = record { seen = what; components = []; decided = []; ran = []; world = after } in
        let is : o ≡ coordinated (mark_delivered w k) number r = λ i. record { seen = sees i; components = []; decided = []; ran = []; world = world_is i } in
        ([], [], [], (m, some, there, subst (λ (node : Node). IsReceived plan next (mark_delivered w k) m.file m.message.msg node o) (sym to) (takes.coord, takes.there, is)))

  -- ---- a tick

  pub server_ticks :
      (news : List GrownServerState) (shard : Shard) (switched : Bool) (what : Seen) (before out : Collected) (after : GrownWorld)
      → before.messages ≡ [] → ServerTicks shard.0 switched w.servers news before out → what ≡ seen.Done
      → after ≡ sends (record w { servers = news }) switched (Server shard) out.messages
      → Leads plan next w (Tick (Server shard)) what after
  server_ticks news shard switched what before out after none ticks sees after_is =
      let s = ticks.server in
      let tells = grown_server_tick s in
      let outs : out.messages ≡ tells = ticks.sent.0 ∙ ap (λ xs. xs ++ tells) none in
      let stands = ticks.stands in
      let others = ticks.others in
      let world_is : after ≡ at_server w shard.0 (taken_at s tells) = after_is ∙ (λ i. sends (record w { servers = others i }) (stands i) (Server shard) (outs i)) in
      let o : Outcome = record { seen = what; components = []; decided = []; ran = []; world = after } in
      let is : o ≡ served w shard.0 (taken_at s tells) = λ i. record { seen = sees i; components = []; decided = []; ran = []; world = world_is i } in
      ([], [], [], (s, ticks.there, is))

  pub coord_ticks :
      (number : ℕ) (switched : Bool) (what : Seen) (coords : List GrownCoordState) (before out : Collected) (after : GrownWorld)
      → before.messages ≡ [] → CoordTicks plan next number switched w.coords coords before out → what ≡ seen.Done → after ≡ sends (record w { coords = coords }) switched (Coord number) out.messages
      → Leads plan next w (Tick (Coord number)) what after
  coord_ticks number switched what coords before out after none ticks sees after_is =
      let s = ticks.coord in
      let tells = grown_tick_sends plan next s in
      let outs : out.messages ≡ tells = ticks.sent.0 ∙ ap (λ xs. xs ++ tells) none in
      let stands = ticks.stands in
      let others : coords ≡ w.coords = ticks.others ∙ set_there w.coords number s ticks.there in
      let world_is : after ≡ at_coord_tick w number s tells = after_is ∙ (λ i. sends (record w { coords = others i }) (stands i) (Coord number) (outs i)) in
      let o : Outcome = record { seen = what; components = []; decided = []; ran = []; world = after } in
      let is : o ≡ undecided seen.Done (at_coord_tick w number s tells) = λ i. record { seen = sees i; components = []; decided = []; ran = []; world = world_is i } in
      ([], [], [], (s, ticks.there, is))

  -- ---- a drain

  pub coord_drains :
      (number : ℕ) → IsNext next → (switched : Bool) (what : Seen) (coords : List GrownCoordState) (before out : Collected) (after : GrownWorld)
      → before.messages ≡ [] → CoordDrains plan number switched w.coords coords before out → what ≡ seen.Done
      → after ≡ record (sends (record w { coords = coords }) switched (Coord number) out.messages) { looks = w.looks ++ looks_in (length w.order) out.messages }
      → Leads plan next w (Drain number) what after
  coord_drains number some switched what coords before out after none drains sees after_is =
      let r = after_drain plan drains.coord in
      let outs : out.messages ≡ r.sends = drains.drained.sent.0 ∙ ap (λ xs. xs ++ r.sends) none in
      let told : w.history ≡ w.history ++ [] = sym (append-nil w.history) in
      let stands = drains.stands in
      let others = drains.others in
      let world_is : after ≡ at_coord w number r.state r.sends [] =
      after_is
      ∙ (λ i. record (sends (record w { coords = others i }) (stands i) (Coord number) (outs i)) { history = told i; looks = w.looks ++ looks_in (length w.order) (outs i) }) in
      let o : Outcome = record { seen = what; components = []; decided = []; ran = []; world = after } in
      let is : o ≡ undecided seen.Done (at_coord w number r.state r.sends []) = λ i. record { seen = sees i; components = []; decided = []; ran = []; world = world_is i } in
      ([], [], [], (some, drains.coord, drains.there, is))

  -- ---- a stop

  -- a message came, and so many of the messages that come of it were sent
  pub server_cut :
      (k many : ℕ) (m : Sealed) (shard : Shard) → IsSentTo w.sent k shard.0 m → (news : List GrownServerState) (answer : GrownHandled) (switched : Bool) (noted_in : Messages)
      (before out : Collected) (after : GrownWorld)
      → before.messages ≡ [] → before.decided ≡ [] → ServerTakes plan next shard.0 m.file m.message.msg answer switched w.servers news before out
      → noted_in ≡ record { sent = w.sent; undelivered = filter (λ n. not (n == k)) w.undelivered }
      → after ≡ record (sends (record w { servers = news; sent = noted_in.sent; undelivered = noted_in.undelivered }) switched (Server shard) (take many out.messages)) { order = noted w.order out.decided }
      → TakesCut plan next w shard k many after
  server_cut k many m shard sent news answer switched noted_in before out after none undecided_yet takes network_is after_is =
      let r = takes.step in
      let outs : take many out.messages ≡ take many r.sends = ap (take many) (takes.shows.sends ∙ ap (λ xs. xs ++ r.sends) none) in
      let ids : out.decided ≡ r.decided = takes.shows.decides ∙ ap (λ xs. xs ++ r.decided) undecided_yet in
      let stands = takes.stands in
      let others = takes.others in
      record {
        message = m;
        sent = sent;
        state = takes.server;
        there = takes.there;
        step = r;
        handles = takes.handles;
        is =
            after_is
            ∙ (λ i. record (sends (record w { servers = others i; sent = (network_is i).sent; undelivered = (network_is i).undelivered }) (stands i) (Server shard) (outs i)) { order = noted w.order (ids i) });
      }

  -- where no message comes
  pub stops_at_rest : (shard : Shard) (what : Seen) (after : GrownWorld) → what ≡ seen.Done → StartsAgain w shard after → Leads plan next w (Stop shard None) what after
  stops_at_rest shard what after sees a =
      let r = taken_at (restarted a.state) [] in
      let world_is : after ≡ (started_again w shard.0 r).world =
      a.is ∙ ap (λ (v : GrownWorld). sends v a.state.switched (Server shard) (grown_server_tick a.state)) (sym (rest_is w shard.0 a.state)) in
      let o : Outcome = record { seen = what; components = []; decided = []; ran = []; world = after } in
      let is : o ≡ started_again w shard.0 r = λ i. record { seen = sees i; components = []; decided = []; ran = []; world = world_is i } in
      ([], [], [], record { state = a.state; there = a.there; before = w; step = r; stops = at_rest; is = is })

  -- where one comes of which no record is kept
  pub stops_unrecorded : (shard : Shard) (k : ℕ) (m : Sealed) → IsSentTo w.sent k shard.0 m → (what : Seen) (noted_in : Messages) (after : GrownWorld) → what ≡ seen.Done
      → noted_in ≡ record { sent = w.sent; undelivered = filter (λ n. not (n == k)) w.undelivered } → StartsAgain (record w { sent = noted_in.sent; undelivered = noted_in.undelivered }) shard after
      → Leads plan next w (Stop shard (Some (k, Lost))) what after
  stops_unrecorded shard k m sent what noted_in after sees network_is starts =
      let a : StartsAgain (mark_delivered w k) shard after = subst (λ (n : Messages). StartsAgain (record w { sent = n.sent; undelivered = n.undelivered }) shard after) network_is starts in
      let r = taken_at (restarted a.state) [] in
      let world_is : after ≡ (started_again (mark_delivered w k) shard.0 r).world =
      a.is ∙ ap (λ (v : GrownWorld). sends v a.state.switched (Server shard) (grown_server_tick a.state)) (sym (rest_is (mark_delivered w k) shard.0 a.state)) in
      let o : Outcome = record { seen = what; components = []; decided = []; ran = []; world = after } in
      let is : o ≡ started_again (mark_delivered w k) shard.0 r = λ i. record { seen = sees i; components = []; decided = []; ran = []; world = world_is i } in
      ([], [], [], record { state = a.state; there = a.there; before = mark_delivered w k; step = r; stops = unrecorded k m sent; is = is })

  -- and where one comes that is recorded
  pub stops_recorded : (shard : Shard) (k many : ℕ) (what : Seen) (middle after : GrownWorld) → what ≡ seen.Done → TakesCut plan next w shard k many middle → StartsAgain middle shard after
      → Leads plan next w (Stop shard (Some (k, Sent many))) what after
  stops_recorded shard k many what middle after sees t starts =
      let r = t.step in
      let v = at_server (mark_delivered w k) shard.0 (record r { sends = take many r.sends }) in
      let a : StartsAgain v shard after = subst (λ (v : GrownWorld). StartsAgain v shard after) t.is starts in
      let states : a.state ≡ r.state = same_there v.servers shard.0 a.state r.state a.there (get-set_here w.servers shard.0 t.state r.state t.there) in
      let servers : slice_set v.servers shard.0 (restarted a.state) ≡ slice_set w.servers shard.0 (restarted r.state) =
      ap (λ (s : GrownServerState). slice_set v.servers shard.0 (restarted s)) states ∙ set-set w.servers shard.0 r.state (restarted r.state) in
      let world_is : after ≡ (started_again (mark_delivered w k) shard.0 (cut_short many r)).world =
      a.is ∙ (λ i. sends (record v { servers = servers i }) (states i).switched (Server shard) (grown_server_tick (states i))) in
      let ran = map (ran_at shard.0) r.ran in
      let o : Outcome = record { seen = what; components = r.components; decided = r.decided; ran = ran; world = after } in
      let is : o ≡ started_again (mark_delivered w k) shard.0 (cut_short many r) = λ i. record { seen = sees i; components = r.components; decided = r.decided; ran = ran; world = world_is i } in (
        r.components,
        r.decided,
        ran,
        record { state = t.state; there = t.there; before = mark_delivered w k; step = cut_short many r; stops = recorded k many t.message r t.sent t.handles; is = is },
      )

-- a server starts again: its reads are dropped, and what a tick of it sends is sent
pub starts_again :
    (w : GrownWorld) (between news : List GrownServerState) (shard : Shard) (switched : Bool) (before out : Collected) (after : GrownWorld)
    → before.messages ≡ [] → ServerRestarts shard.0 w.servers between → ServerTicks shard.0 switched between news before out
    → after ≡ sends (record w { servers = news }) switched (Server shard) out.messages → StartsAgain w shard after
starts_again w between news shard switched before out after none restarts ticks after_is =
    let s = restarts.server in
    let there : slice_get between shard.0 ≡ Some (restarted s) = ap (λ l. slice_get l shard.0) restarts.others ∙ get-set_here w.servers shard.0 s (restarted s) restarts.there in
    let same : ticks.server ≡ restarted s = same_there between shard.0 ticks.server (restarted s) ticks.there there in
    let others : news ≡ slice_set w.servers shard.0 (restarted s) = ticks.others ∙ (set_there between shard.0 ticks.server ticks.there ∙ restarts.others) in
    let stands : switched ≡ s.switched = ticks.stands ∙ ap (λ (t : GrownServerState). t.switched) same in
    let outs : out.messages ≡ grown_server_tick s = ticks.sent.0 ∙ (ap (λ xs. xs ++ grown_server_tick ticks.server) none ∙ ap grown_server_tick same) in
    record { state = s; there = restarts.there; is = after_is ∙ (λ i. sends (record w { servers = others i }) (stands i) (Server shard) (outs i)) }
