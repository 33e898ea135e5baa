-- What a journal recovers behind a turn of a server's node, and several.
use Rattle.std.proofs.Common.{◌≡◌, ◌⊎◌, inl, inr, ⊎_elim, ℕ, ◌≤◌, Bool, true, false, ◌||◌, cond, List, [], ◌∷◌, ◌++◌, map, length, Option, Some, None, Result, Ok, Err, refl, sym, ◌∙◌, ap, subst}
use Rattle.std.proofs.Common.{append-nil, append_assoc, length-append, arith}
use Rattle.std.proofs.lemmas.Bool.{false≢true, leb-false, not-true}
use Rattle.std.proofs.lemmas.Slice.Eq.{bytes_eq-Decides}
use Rattle.std.specs.Str.{bytes_eq}
use Rattle.roc_base.specs.declared.node.Shard.{Shard}
use Rattle.roc_disk.specs.declared.disk.Disk.{Ghosts as DiskOf}
use Rattle.roc_disk.specs.Over.{LeavesOnly}
use Rattle.roc_disk.proofs.Moments.{started, weaker}
use Rattle.roc_io.specs.Cause.{HasCause}
use Rattle.roc_io.specs.Link.{LinkEvent, Reception, came, receiving}
use Rattle.roc_io.specs.Packet.{Packet}
use Rattle.roc_journal.specs.Format.{head, opened, record_bytes, IsJournal}
use Rattle.roc_kept.specs.declared.fault.KeptFault.{KeptFault}
use Rattle.roc_kept.specs.declared.fault.KeptFault.TheVariants as fault
use Rattle.roc_kept.specs.declared.keeper.Keeper.{Keeper}
use Rattle.roc_kept.specs.declared.kept.KeptServer.{KeptServer}
use Rattle.roc_kept.specs.Kept.{kept_failed, is_broken, answers_full, is_lost, is_too_long, is_untried, KeepsTag, IsKeptOn, Recovers, RecoversEither}
use Rattle.roc_log.specs.declared.line.LogLine.{LogLine}
use Rattle.roc_msg.specs.declared.msg.Msg.{Msg}
use Rattle.roc_msg.specs.declared.outbox.Outgoing.{Outgoing}
use Rattle.roc_plan.specs.Groups.{Plan}
use Rattle.roc_server.specs.Ahead.{ServingFits}
use Rattle.roc_step.specs.State.{ServerState, Viewing}
use Rattle.roc_wire.specs.declared.fault.WireFault.{WireFault}
use Rattle.roc_wire.specs.declared.header.Header.{Header}
use Rattle.roc_wire.specs.Reading.{datagram}
use Rattle.roc_node.specs.Judgement.{judged, with_tag}
use Rattle.roc_node.specs.declared.judging.Judged.{Judged}
use Rattle.roc_node.specs.declared.judging.Judged.TheVariants.{Delivery, Skipped}
use Rattle.roc_node.specs.declared.judging.Skip.TheVariants.{Tag}
use Rattle.roc_node.specs.NodeEvent.{NodeEvent, NodeSetting, receive_of, took, silent}
use Rattle.roc_node_serve.specs.declared.server_node.ServerNode.{ServerNode}
use Rattle.roc_node_serve.specs.Keeping.{RecoversNode, RecoversNext, RecoversOnWay, IsTooLong}
use Rattle.roc_node_serve.specs.ServeEnd.{LeavesRecord}
use Rattle.roc_node_serve.specs.ServerRun.{ServerNodeState, AfterTurn, IsServerRunFrom, TakesJudged, TakesMessage, goes_on, is_stop, server_heard, server_took}
use Rattle.roc_node_serve.specs.Inner.JournalTurn.{IsOpen, LeftAround, LeftBy, KeepsBy, Hinders, HindersMessage}
use Rattle.roc_node_serve.specs.Inner.ServerTurn.{bare, node_of}
use Rattle.roc_node_serve.proofs.Servers.{continued, event_behind}

-- ---- a journal at rest

module _ {D : Type 0} (disk : DiskOf D) where
  -- each image that a stop may leave of a kept journal recovers what was kept
  pub kept_recovers : (now : D) (plan : Plan) (name tag : List ℕ) (s : ServerState) (v : Viewing) (keeper : Option Keeper) → IsKeptOn disk now plan name tag s v keeper
      → (image : List ℕ) → disk.may_leave now name image → Recovers plan tag s.shard image s v
  kept_recovers now plan name tag s v None kept image left = absurd kept.synced
  kept_recovers now plan name tag s v (Some keeper) kept image left =
      let synced = kept.synced.1 in let rests = synced.rests in record {
        records = kept.records;
        journal = subst (λ b. IsJournal tag b kept.records) (sym (synced.durable image left))
            (record { each = rests.each; gate = rests.gate; closed = rests.closed; behind = []; is = rests.is });
        stands = kept.stands;
      }

  -- the law of a disk that what may be left since now may be left
  abbrev pub OnlyNow : Type 0
  OnlyNow = (now : D) (name image : List ℕ) → disk.tells now ≡ true → disk.left_since now name (disk.moment now) image → disk.may_leave now name image

  -- and that what may be left now may be left since before
  abbrev pub CountsNow : Type 0
  CountsNow = (now : D) (name : List ℕ) (t : ℕ) (image : List ℕ) → disk.tells now ≡ true → t ≤ disk.moment now → disk.may_leave now name image → disk.left_since now name t image

  -- a call that calls no disk leaves what was kept
  pub still_leaves : OnlyNow → (now : D) (plan : Plan) (name tag : List ℕ) (s : ServerState) (v : Viewing) (keeper : Option Keeper) (P : List ℕ → Type 0) → disk.tells now ≡ true
      → IsKeptOn disk now plan name tag s v keeper → ((image : List ℕ) → Recovers plan tag s.shard image s v → P image) → LeavesOnly disk now now name P
  still_leaves only now plan name tag s v keeper P tells kept has =
      started disk name now P (λ image left. has image (kept_recovers now plan name tag s v keeper kept image (only now name image tells left)))

  -- what a stop may leave behind a call
  pub left_behind : CountsNow → (old new : D) (name : List ℕ) (P : List ℕ → Type 0) → disk.tells new ≡ true → LeavesOnly disk old new name P → (image : List ℕ) → disk.may_leave new name image
      → P image
  left_behind counts old new name P tells leaves image left = leaves.each image (counts new name (disk.moment old) image tells leaves.later left)

  -- a kept journal that is too long with one record more
  pub too_long_for : (now : D) (plan : Plan) (name tag : List ℕ) (s : ServerState) (v : Viewing) (keeper : Option Keeper) (header : Header) (msg : Msg) → IsKeptOn disk now plan name tag s v keeper
      → is_too_long keeper (record { header = header; msg = msg }) ≡ true → (image : List ℕ) → disk.may_leave now name image → IsTooLong header msg image
  too_long_for now plan name tag s v None header msg kept long image left = absurd kept.synced
  too_long_for now plan name tag s v (Some keeper) header msg kept long image left =
      let synced = kept.synced.1 in
      let is = ap length (synced.durable image left ∙ synced.rests.is) in
      let whole = length-append (head tag ++ opened kept.records) (synced.rests.gate ∷ []) in
      let gate = synced.gate in
      let added = length-append (record_bytes (record { header = header; msg = msg })) (0 ∷ []) in
      let beyond = leb-false _ _ (not-true _ long) in
      omega arith

-- ---- one event

module _ {D : Type 0} (disk : DiskOf D) (S : NodeSetting) where
  -- what a call left that called no disk and changed no server
  pub keeps_still : OnlyNow disk → (old new : D) (around : List ℕ → Type 0) (before after : KeptServer) (goes : Bool) → new ≡ old → after ≡ before → IsOpen S before
      → ((image : List ℕ) → Recovers S.plan S.header.tag before.server.state.shard image before.server.state before.server.viewing → around image)
      → KeepsBy disk old new S around before after false goes
  keeps_still only old new around before after goes stays same ready has =
      subst (λ d. KeepsBy disk old d S around before after false goes) (sym stays) (subst (λ a. KeepsBy disk old old S around before a false goes) (sym same) (record {
        cause = refl;
        told = λ tells. tells;
        unkept = λ none. (none, refl, refl);
        ready = λ fine. ready;
        shard = refl;
        kept = λ went tells name kept. kept;
        any_moment = λ tells name kept. still_leaves disk only old S.plan name S.header.tag before.server.state before.server.viewing before.keeper around tells kept has;
      }))

  -- what is around is around more
  pub keeps_wider : (old new : D) (near far : List ℕ → Type 0) (before after : KeptServer) (failed goes : Bool) → ((image : List ℕ) → near image → far image)
      → KeepsBy disk old new S near before after failed goes → KeepsBy disk old new S far before after failed goes
  keeps_wider old new near far before after failed goes wider k = record {
    cause = k.cause;
    told = k.told;
    unkept = k.unkept;
    ready = k.ready;
    shard = k.shard;
    kept = k.kept;
    any_moment = λ tells name kept. weaker disk name old new near far wider (k.any_moment tells name kept);
  }

  -- the same of a call that told the same in other words
  pub keeps_as : (old new : D) (around : List ℕ → Type 0) (before after : KeptServer) (failed fails goes went : Bool) → failed ≡ fails → goes ≡ went
      → KeepsBy disk old new S around before after failed goes → KeepsBy disk old new S around before after fails went
  keeps_as old new around before after failed fails goes went f g k =
      subst (λ b. KeepsBy disk old new S around before after b went) f (subst (λ b. KeepsBy disk old new S around before after failed b) g k)

  -- a step of the core
  pub step_keeps : (old new : D) (msg : Msg) (before after : KeptServer) (failed goes : Bool) → IsOpen S before → HasCause failed (disk.faults old) (disk.faults new)
      → (disk.tells new ≡ true → disk.tells old ≡ true)
      → (before.keeper ≡ None → (after.keeper ≡ None) × (new ≡ old) × (failed ≡ false)) → ServingFits S.plan after.server → after.server.state.shard ≡ before.server.state.shard
      → ((tag : List ℕ) → KeepsTag tag before.keeper → KeepsTag tag after.keeper) → is_lost after.keeper ≡ failed || is_lost before.keeper
      → (goes ≡ true → disk.tells new ≡ true → (name tag : List ℕ) → IsKeptOn disk old S.plan name tag before.server.state before.server.viewing before.keeper
      → IsKeptOn disk new S.plan name tag after.server.state after.server.viewing after.keeper)
      → (disk.tells new ≡ true → (name tag : List ℕ) → IsKeptOn disk old S.plan name tag before.server.state before.server.viewing before.keeper
      → LeavesOnly disk old new name (RecoversEither S.plan tag msg before.server.state before.server.viewing))
      → KeepsBy disk old new S (LeftBy S false msg before) before after failed goes
  step_keeps old new msg before after failed goes ready cause told unkept fits shard tag lost kept any_moment = record {
    cause = cause;
    told = told;
    unkept = unkept;
    ready = λ fine. record { fits = fits; unbroken = lost ∙ ap (λ b. b || is_lost before.keeper) fine ∙ ready.unbroken; tag = tag S.header.tag ready.tag };
    shard = shard;
    kept = λ went tells name. kept went tells name S.header.tag;
    any_moment = λ tells name. any_moment tells name S.header.tag;
  }

-- the journal of a server that was told its tag by a datagram
pub tagged_alike : (keeper : Option Keeper) (told own : List ℕ) → told ≡ own → KeepsTag own keeper → KeepsTag told keeper
tagged_alike keeper told own same has = subst (λ tag. KeepsTag tag keeper) (sym same) has

-- what a fault is does not depend on what was not given
pub failed_alike : (T U : Type 0) (f : KeptFault) → kept_failed {T = T} (Err f) ≡ kept_failed {T = U} (Err f)
failed_alike T U fault.NoMemory = refl
failed_alike T U fault.Full = refl
failed_alike T U fault.Disk = refl
failed_alike T U fault.Broken = refl

-- why a message was not taken
pub hindered_at : (T U : Type 0) {D : Type 0} (old new : D) (S : NodeSetting) (node : ServerNodeState) (before : KeptServer) (header : Header) (msg : Msg) (f : KeptFault) → is_stop msg ≡ false
    → is_lost before.keeper ≡ false
    → is_broken {T = T} (Err f) ≡ is_lost before.keeper → (is_untried {T = T} (Err f) ≡ true → new ≡ old)
    → (answers_full {T = T} (Err f) ≡ true → (is_too_long before.keeper (record { header = header; msg = msg }) ≡ true) × LeavesRecord S.plan node msg)
    → HindersMessage {T = U} old new S node before header msg (Err f)
hindered_at T U old new S node before header msg fault.NoMemory for_core whole broken untried full = tt
hindered_at T U old new S node before header msg fault.Full for_core whole broken untried full = (for_core, record { records = (full refl).1; untouched = untried refl; too_long = (full refl).0 })
hindered_at T U old new S node before header msg fault.Disk for_core whole broken untried full = for_core
hindered_at T U old new S node before header msg fault.Broken for_core whole broken untried full = absurd (false≢true (sym (broken ∙ whole)))

-- ---- a datagram

-- what a delivery leaves that came in a datagram
pub left_by_delivery : (S : NodeSetting) (server_node : ServerNode) (packet : Packet) (header : Header) (msg : Msg) (stops : Bool) → is_stop msg ≡ stops → judged S.header.tag packet.bytes
    ≡ Delivery header msg
    → (image : List ℕ) → LeftBy S stops msg server_node.server image → LeftAround S (bare server_node) (came packet ∷ []) image
left_by_delivery S server_node packet header msg true is judges image left = inl left
left_by_delivery S server_node packet header msg false is judges image (inl before) = inl before
left_by_delivery S server_node packet header msg false is judges image (inr comes) =
    let c = comes.0 in
    let next = server_took S (server_heard (bare server_node) header packet.address) packet.bytes c.step c.reads in
    inr (record {
      event = took packet;
      is = refl;
      next = next;
      after = subst (λ j. TakesJudged S (bare server_node) packet j next) (sym judges)
          (subst (λ b. TakesMessage S (server_heard (bare server_node) header packet.address) b packet.bytes msg next) (sym is) (c.step, c.reads, c.handles, c.answers, refl));
      recovers = comes.1;
    })

-- the tag that a delivery has, where it is one
abbrev tag_in : List ℕ → Judged → List ℕ
tag_in tag (Delivery header msg) = header.tag
tag_in tag (Skipped skip) = tag

-- the sender of a delivery has the node's tag
pub tag_of_delivery : (tag bytes : List ℕ) (header : Header) (msg : Msg) → judged tag bytes ≡ Delivery header msg → header.tag ≡ tag
tag_of_delivery tag bytes header msg is = from_read tag (datagram bytes) header msg is where
  from_test : (b : Bool) (tag : List ℕ) (read : Header × Msg) (header : Header) (msg : Msg) → bytes_eq read.0.tag tag ≡ b → cond b (Delivery read.0 read.1) (Skipped Tag) ≡ Delivery header msg
      → header.tag ≡ tag
  from_test true tag read header msg test is = ap (tag_in tag) (sym is) ∙ (bytes_eq-Decides read.0.tag tag).0 test
  from_test false tag read header msg test is = absurd cc

  from_read : (tag : List ℕ) (r : Result (Header × Msg) WireFault) (header : Header) (msg : Msg) → with_tag tag r ≡ Delivery header msg → header.tag ≡ tag
  from_read tag (Ok read) header msg is = from_test (bytes_eq read.0.tag tag) tag read header msg refl is
  from_read tag (Err fault) header msg is = absurd cc

-- what a message leaves that is no stop of the node
pub keeps_delivered : {D : Type 0} (disk : DiskOf D) (old new : D) (S : NodeSetting) (msg : Msg) (server before after : KeptServer) (failed goes stops : Bool) → stops ≡ false
    → KeepsBy disk old new S (LeftBy S false msg server) before after failed goes → KeepsBy disk old new S (LeftBy S stops msg server) before after failed goes
keeps_delivered disk old new S msg server before after failed goes stops is k = subst (λ b. KeepsBy disk old new S (LeftBy S b msg server) before after failed goes) (sym is) k

-- why a message that came in a datagram was not taken
pub hindered_by : {T D : Type 0} (old new : D) (S : NodeSetting) (node : ServerNodeState) (before : KeptServer) (packet : Packet) (header : Header) (msg : Msg) (result : Result T KeptFault)
    → judged S.header.tag packet.bytes ≡ Delivery header msg
    → HindersMessage old new S node before header msg result → Hinders old new S node before (came packet ∷ []) result
hindered_by old new S node before packet header msg (Ok given) judges h = tt
hindered_by old new S node before packet header msg (Err fault.NoMemory) judges h = tt
hindered_by old new S node before packet header msg (Err fault.Full) judges h =
    record { packet = packet; is = refl; header = header; msg = msg; brings = record { judges = judges; for_core = h.0 }; full = h.1 }
hindered_by old new S node before packet header msg (Err fault.Disk) judges h = record { packet = packet; is = refl; header = header; msg = msg; brings = record { judges = judges; for_core = h } }
hindered_by old new S node before packet header msg (Err fault.Broken) judges h = absurd h

-- ---- several turns

-- a receive gave one event
pub event_is_one : (a b : NodeEvent) (last : List LinkEvent) → last ≡ receive_of a ∷ [] → last ≡ receive_of b ∷ [] → a ≡ b
event_is_one (took p) (took q) last is also = cc
event_is_one (took p) silent last is also = absurd cc
event_is_one silent (took q) last is also = absurd cc
event_is_one silent silent last is also = refl

-- what the file recovered on the way it recovers behind more events
pub on_further : (S : NodeSetting) (first : ServerNodeState) (shard : Shard) (events more : List NodeEvent) (image : List ℕ) → RecoversOnWay S first shard events image
    → RecoversOnWay S first shard (events ++ more) image
on_further S first shard events more image r = record {
  front = r.front;
  rest = r.rest ++ more;
  is = ap (λ l. l ++ more) r.is ∙ append_assoc r.front r.rest more;
  node = r.node;
  run = r.run;
  recovers = r.recovers;
}

module _ (S : NodeSetting) (first : ServerNodeState) (shard : Shard) (events : List NodeEvent) (server_node : ServerNode) (messages : List Outgoing) (traffic : List LinkEvent)
    (logged : List LogLine) (run : IsServerRunFrom S first events (node_of server_node messages traffic logged false)) (here : server_node.server.server.state.shard ≡ shard) where
  -- what is around a node that is reached
  pub around_reached : (last : List Reception) (image : List ℕ) → LeftAround S (bare server_node) last image
      → RecoversNode S.plan S.header.tag shard (node_of server_node messages traffic logged false) image ⊎ RecoversNext S shard (node_of server_node messages traffic logged false) last image
  around_reached last image (inl left) = inl (subst (λ h. Recovers S.plan S.header.tag h image server_node.server.server.state server_node.server.server.viewing) here left)
  around_reached last image (inr c) = inr (record {
    event = c.event;
    is = c.is;
    next = continued messages (traffic ++ receive_of c.event ∷ []) logged c.next;
    after = event_behind messages (traffic ++ receive_of c.event ∷ []) logged S server_node c.event c.next c.after;
    recovers = subst (λ h. Recovers S.plan S.header.tag h image c.next.state c.next.viewing) here c.recovers;
  })

  -- the same behind one event more
  pub around_on_way : (last : List Reception) (event : NodeEvent) → map receiving last ≡ receive_of event ∷ [] → (image : List ℕ) → LeftAround S (bare server_node) last image
      → RecoversOnWay S first shard (events ++ event ∷ []) image
  around_on_way last event is image left = ⊎_elim
      (λ before. record { front = events; rest = event ∷ []; is = refl; node = node_of server_node messages traffic logged false; run = run; recovers = before })
      (λ next. record {
        front = events ++ event ∷ [];
        rest = [];
        is = sym (append-nil (events ++ event ∷ []));
        node = next.next;
        run = goes_on event next.next run refl (subst (λ e. AfterTurn S (node_of server_node messages traffic logged false) e next.next)
            (event_is_one next.event event (map receiving last) next.is is) next.after);
        recovers = next.recovers;
      })
      (around_reached last image left)

  -- behind all events
  pub reached_on_way : (image : List ℕ) → Recovers S.plan S.header.tag server_node.server.server.state.shard image server_node.server.server.state server_node.server.server.viewing
      → RecoversOnWay S first shard events image
  reached_on_way image left = record {
    front = events;
    rest = [];
    is = sym (append-nil events);
    node = node_of server_node messages traffic logged false;
    run = run;
    recovers = subst (λ h. Recovers S.plan S.header.tag h image server_node.server.server.state server_node.server.server.viewing) here left;
  }
