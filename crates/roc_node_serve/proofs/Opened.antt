-- Serving from what was opened, and without a journal.
use Rattle.std.proofs.Common.{◌≡◌, inl, inr, ℕ, Bool, true, false, List, [], ◌∷◌, map, refl, sym, ◌∙◌, ap, subst, Option, Some, None, Err}
use Rattle.std.proofs.lemmas.Bool.{false≢true}
use Rattle.roc_base.specs.declared.node.Shard.{Shard}
use Rattle.roc_book.specs.Call.{BookCall}
use Rattle.roc_disk.specs.declared.disk.Disk.{Ghosts as DiskOf}
use Rattle.roc_disk.specs.Over.{LeavesOnly}
use Rattle.roc_disk.proofs.Moments.{joined, weaker}
use Rattle.roc_io.specs.declared.link.Addr.{Addr}
use Rattle.roc_io.specs.Call.{NodeCall}
use Rattle.roc_io.specs.Cause.{HasCause}
use Rattle.roc_io.specs.Link.{sending}
use Rattle.roc_io.specs.Packet.{Packet}
use Rattle.roc_kept.specs.declared.kept.KeptServer.{KeptServer}
use Rattle.roc_kept.specs.declared.keeper.Keeper.{Keeper}
use Rattle.roc_kept.specs.Kept.{is_lost, KeepsTag, IsFrom, IsKeptOn, IsNewKeeper, StandsForSome}
use Rattle.roc_kept.specs.declared.fault.OpenFault.{OpenFault}
use Rattle.roc_kept.specs.declared.fault.OpenFault.TheVariants as open_fault
use Rattle.roc_kept.specs.Opening.{opening_failed, LeftByOpening, RefusesRightly}
use Rattle.roc_log.specs.declared.line.LogLine.{LogLine}
use Rattle.roc_log.specs.declared.line.LogLine.TheVariants.{Tick}
use Rattle.roc_log.specs.Sent.{outs_logged}
use Rattle.roc_msg.specs.declared.outbox.Outgoing.{Outgoing}
use Rattle.roc_plan.specs.Groups.{Plan}
use Rattle.roc_server.specs.Ahead.{ServingFits}
use Rattle.roc_step.specs.First.{first_server}
use Rattle.roc_step.specs.Reads.{first_viewing}
use Rattle.roc_step.specs.State.{ServerState, Viewing}
use Rattle.roc_step.specs.Step.{tick_sends}
use Rattle.roc_wire.specs.declared.header.Header.{Header}
use Rattle.roc_node.specs.declared.counts.Counts.{Counts}
use Rattle.roc_node.specs.NodeEvent.{NodeSetting, silent}
use Rattle.roc_node.specs.Posting.{Hearsay, none_heard, packets_for}
use Rattle.roc_node_serve.specs.declared.ends.ServeEnd.{ServeEnd}
use Rattle.roc_node_serve.specs.declared.ends.ServeEnd.TheVariants as end
use Rattle.roc_node_serve.specs.declared.server_node.ServerNode.{ServerNode}
use Rattle.roc_node_serve.specs.declared.server_node.TurnOutput.{TurnOutput}
use Rattle.roc_node_serve.specs.Keeping.{IsRefusedRightly, ServesKept, ServesUnkept, ServesWith, WhereBegun}
use Rattle.roc_node_serve.specs.Logging.{KeepsLog}
use Rattle.roc_node_serve.specs.ServeEnd.{Reached, unbegun, behind, filled_at, amid, DoesNothing, Serves, refused, unopened, unbegan, is_end_of_journal, serve_disk_failed, serve_link_failed}
use Rattle.roc_node_serve.specs.ServeEnd.{serve_book_failed, serve_refused, serve_sink_failed}
use Rattle.roc_node_serve.specs.ServerRun.{ServerNodeState, AfterEvent, first_server_node_state, opened_node}
use Rattle.roc_node_serve.specs.Inner.JournalTurn.{CallsDisk, IsOpen, LeavesJournal}
use Rattle.roc_node_serve.specs.Inner.ServerTurn.{bare, node_of, Leads, ComesOfServing, IsFirstNode, end_of}
use Rattle.roc_node_serve.proofs.Logs.{never_begun}

-- ---- the first node

-- nobody was heard, nothing counted, and this is sent and logged
abbrev begins : List Outgoing → List LogLine → NodeSetting → ServerState → Viewing → Hearsay → Counts → Bool → ServerNodeState
begins messages lines S s v h c b =
    record { state = s; viewing = v; messages = messages; traffic = map sending (packets_for S.header S.cluster h messages); logged = lines; heard = h; counts = c; stopped = b }

-- what a first node is to send and to log is its tick
pub opens_with : (logs : Bool) (S : NodeSetting) (old new : ServerNode) (output : TurnOutput) (given : List Packet) (leads : Leads logs S (AfterEvent S (bare old) silent) new output) → new ≡ old
    → IsFirstNode old
    → given ≡ output.sends.items
    → node_of new leads.messages (map sending given) leads.lines false ≡ opened_node S old.server.server.state old.server.server.viewing
opens_with logs S old new output given leads same first gives =
    let lines = Tick ∷ outs_logged S.header (tick_sends old.server.server.state) in
    ap (λ l. node_of new leads.messages (map sending l) leads.lines false) gives
    ∙ ap (λ b. node_of new leads.messages (map sending output.sends.items) leads.lines b) (sym (ap (λ (n : ServerNodeState). n.stopped) leads.is))
    ∙ leads.is
    ∙ ap (λ h. begins (tick_sends old.server.server.state) lines S old.server.server.state old.server.server.viewing h old.counts false) first.0
    ∙ ap (λ c. begins (tick_sends old.server.server.state) lines S old.server.server.state old.server.server.viewing none_heard c false) first.1

-- the first node of a server without a journal
pub first_is : (S : NodeSetting) (shard : Shard) (server_node : ServerNode) → server_node.server.server.state ≡ first_server S.plan shard → server_node.server.server.viewing ≡ first_viewing
    → IsFirstNode server_node
    → node_of server_node [] [] [] false ≡ first_server_node_state S.plan shard
first_is S shard server_node state views first =
    λ j. record { state = state j; viewing = views j; messages = []; traffic = []; logged = []; heard = first.0 j; counts = first.1 j; stopped = false }

-- ---- the tick before the first turn, which calls no disk and changes no server

module _ {D : Type 0} (disk : DiskOf D) (old mid new : D) (before after : ServerNode) (stays : mid ≡ old) (same : after ≡ before) where
  pub calls_behind : (failed of_journal : Bool) → CallsDisk disk mid new after.server failed of_journal → CallsDisk disk old new before.server failed of_journal
  calls_behind failed of_journal calls =
      subst (λ d. CallsDisk disk d new before.server failed of_journal) stays (subst (λ (n : ServerNode). CallsDisk disk mid new n.server failed of_journal) same calls)

  pub serves_behind : (S : NodeSetting) (first : ServerNodeState) (shard : Shard) (own : Addr) (turns : ℕ) (counts : Bool) (call : NodeCall) (Logs : Reached → ServeEnd → Type 0)
      (e : ServeEnd) → first
      ≡ opened_node S before.server.server.state before.server.server.viewing
      → ComesOfServing disk mid new S first shard own turns counts after.server call Logs e
      → ComesOfServing disk old new S (opened_node S before.server.server.state before.server.server.viewing) shard own turns counts before.server call Logs e
  serves_behind S first shard own turns counts call Logs e is c =
      subst (λ f. ComesOfServing disk old new S f shard own turns counts before.server call Logs e) is
      (subst (λ d. ComesOfServing disk d new S first shard own turns counts before.server call Logs e) stays
      (subst (λ (n : ServerNode). ComesOfServing disk mid new S first shard own turns counts n.server call Logs e) same c))

module _ {D : Type 0} (disk : DiskOf D) (old mid : D) (stays : mid ≡ old) where
  pub calls_still : (start : KeptServer) → CallsDisk disk old mid start false false
  calls_still start = subst (λ d. CallsDisk disk old d start false false) (sym stays) (record { cause = refl; told = λ tells. tells; unkept = λ none. (refl, refl) })

  pub serves_still : (S : NodeSetting) (first : ServerNodeState) (shard : Shard) (own : Addr) (turns : ℕ) (counts : Bool) (start : KeptServer) (call : NodeCall)
      (Logs : Reached → ServeEnd → Type 0) (e : ServeEnd)
      → ComesOfServing disk old old S first shard own turns counts start call Logs e → ComesOfServing disk old mid S first shard own turns counts start call Logs e
  serves_still S first shard own turns counts start call Logs e c = subst (λ d. ComesOfServing disk old d S first shard own turns counts start call Logs e) (sym stays) c

-- ---- with a journal

where_begun : (reached : Reached) (P : Type 0) → P → WhereBegun reached P
where_begun unbegun P p = tt
where_begun (behind events node) P p = p
where_begun (filled_at events node header msg) P p = p
where_begun (amid events node last) P p = p

-- only a file that is refused has to be refused rightly
refused_rightly : (plan : Plan) (tag : List ℕ) (shard : Shard) (bytes : List ℕ) (e : ServeEnd) → serve_refused e ≡ false → IsRefusedRightly plan tag shard bytes e
refused_rightly plan tag shard bytes (end.Journal at) none = absurd (false≢true (sym none))
refused_rightly plan tag shard bytes end.Done none = tt
refused_rightly plan tag shard bytes end.LinkFault none = tt
refused_rightly plan tag shard bytes end.SinkFault none = tt
refused_rightly plan tag shard bytes end.NoMemory none = tt
refused_rightly plan tag shard bytes end.Full none = tt
refused_rightly plan tag shard bytes end.Disk none = tt
refused_rightly plan tag shard bytes end.BookFault none = tt

-- the causes of an end where no journal was opened
pub link_of_fault : (e : ServeEnd) (f : OpenFault) (n : ℕ) → e ≡ end_of f → HasCause (serve_link_failed e) n n
link_of_fault e f n is = subst (λ e. HasCause (serve_link_failed e) n n) (sym is) (of_fault f) where
  of_fault : (f : OpenFault) → HasCause (serve_link_failed (end_of f)) n n
  of_fault (open_fault.Journal at) = refl
  of_fault open_fault.Disk = refl
  of_fault open_fault.NoMemory = refl

pub sink_of_fault : (e : ServeEnd) (f : OpenFault) (n : ℕ) → e ≡ end_of f → HasCause (serve_sink_failed e) n n
sink_of_fault e f n is = subst (λ e. HasCause (serve_sink_failed e) n n) (sym is) (of_fault f) where
  of_fault : (f : OpenFault) → HasCause (serve_sink_failed (end_of f)) n n
  of_fault (open_fault.Journal at) = refl
  of_fault open_fault.Disk = refl
  of_fault open_fault.NoMemory = refl

pub book_of_fault : (e : ServeEnd) (f : OpenFault) (n : ℕ) → e ≡ end_of f → HasCause (serve_book_failed e) n n
book_of_fault e f n is = subst (λ e. HasCause (serve_book_failed e) n n) (sym is) (of_fault f) where
  of_fault : (f : OpenFault) → HasCause (serve_book_failed (end_of f)) n n
  of_fault (open_fault.Journal at) = refl
  of_fault open_fault.Disk = refl
  of_fault open_fault.NoMemory = refl

pub disk_of_fault : (e : ServeEnd) (f : OpenFault) (n m : ℕ) → e ≡ end_of f → HasCause (opening_failed {T = KeptServer} (Err f)) n m → HasCause (serve_disk_failed e) n m
disk_of_fault e f n m is cause = subst (λ e. HasCause (serve_disk_failed e) n m) (sym is) (of_fault f cause) where
  of_fault : (f : OpenFault) → HasCause (opening_failed {T = KeptServer} (Err f)) n m → HasCause (serve_disk_failed (end_of f)) n m
  of_fault (open_fault.Journal at) cause = cause
  of_fault open_fault.Disk cause = cause
  of_fault open_fault.NoMemory cause = cause

module _ {D : Type 0} (disk : DiskOf D) (old mid : D) (name : List ℕ) (S : NodeSetting) (shard : Shard) (own : Addr) (turns : ℕ) (counts : Bool) (call : NodeCall)
    (log : Option (List ℕ)) (book : BookCall) where
  -- no server was opened
  unopened_of : (e : ServeEnd) → Serves S (opened_node S (first_server S.plan shard) first_viewing) shard own turns counts call unbegun e
      → (disk.tells mid ≡ true → IsRefusedRightly S.plan S.header.tag shard (disk.content old name) e)
      → (disk.tells mid ≡ true → LeavesOnly disk old mid name (LeftByOpening S.header.tag (disk.content old name) (disk.may_leave old name)))
      → KeepsLog log book S shard unbegun e → ServesKept disk old mid name log S shard own turns counts call book e
  unopened_of e serves refuses any_moment logs = record {
    state = first_server S.plan shard;
    viewing = first_viewing;
    reached = unbegun;
    serves = serves;
    opened = tt;
    refuses = refuses;
    leaves = λ tells image left. tt;
    any_moment = λ tells. weaker disk name old mid _ _ (λ image left. inl left) (any_moment tells);
    logs = logs;
  }

  module _ (nothing : DoesNothing call) (untouched : book.new ≡ book.old)
      (any_moment : disk.tells mid ≡ true → LeavesOnly disk old mid name (LeftByOpening S.header.tag (disk.content old name) (disk.may_leave old name))) where
    of_fault : (f : OpenFault) → (disk.tells mid ≡ true → RefusesRightly {T = KeptServer} S.plan S.header.tag shard (disk.content old name) (Err f))
        → ServesKept disk old mid name log S shard own turns counts call book (end_of f)
    of_fault (open_fault.Journal at) refuses = unopened_of (end.Journal at) (refused at nothing) refuses any_moment (never_begun log book S shard (end.Journal at) untouched refl)
    of_fault open_fault.Disk refuses = unopened_of end.Disk (unopened nothing) (λ tells. tt) any_moment (never_begun log book S shard end.Disk untouched refl)
    of_fault open_fault.NoMemory refuses = unopened_of end.NoMemory (unbegan nothing) (λ tells. tt) any_moment (never_begun log book S shard end.NoMemory untouched refl)

    pub not_opened : (e : ServeEnd) (f : OpenFault) → e ≡ end_of f → (disk.tells mid ≡ true → RefusesRightly {T = KeptServer} S.plan S.header.tag shard (disk.content old name) (Err f))
        → ServesKept disk old mid name log S shard own turns counts call book e
    not_opened e f is refuses = subst (ServesKept disk old mid name log S shard own turns counts call book) (sym is) (of_fault f refuses)

  -- one was, and served
  kept_server : (new : D) (server : KeptServer) (e : ServeEnd) → (disk.tells new ≡ true → disk.tells mid ≡ true) → StandsForSome S.plan shard server.server.state server.server.viewing
      → server.server.viewing.reads ≡ []
      → server.server.state.shard ≡ shard
      → (disk.tells mid ≡ true → IsKeptOn disk mid S.plan name S.header.tag server.server.state server.server.viewing server.keeper
      × IsFrom S.plan S.header.tag shard (disk.content old name) server.server.state server.server.viewing)
      → (disk.tells mid ≡ true → LeavesOnly disk old mid name (LeftByOpening S.header.tag (disk.content old name) (disk.may_leave old name)))
      → ComesOfServing disk mid new S (opened_node S server.server.state server.server.viewing) shard own turns counts server call (KeepsLog log book S shard) e
      → ServesKept disk old new name log S shard own turns counts call book e
  kept_server new server e told stands none here opened any_moment c =
      let first = opened_node S server.server.state server.server.viewing in
      let l : LeavesJournal disk mid new S first shard server c.reached = subst (λ h. LeavesJournal disk mid new S first h server c.reached) here c.leaves in record {
        state = server.server.state;
        viewing = server.server.viewing;
        reached = c.reached;
        serves = c.serves;
        opened = where_begun c.reached _ (record { stands = stands; none_waits = none; from = λ tells. (opened (told tells)).1 });
        refuses = λ tells. refused_rightly S.plan S.header.tag shard _ e c.accepts;
        leaves = λ tells image left. l.leaves tells name (opened (told tells)).0 image left;
        any_moment = λ tells.
            joined disk name old mid new _ (weaker disk name old mid _ _ (λ image left. inl left) (any_moment (told tells)))
            (weaker disk name mid new _ _ (λ image left. inr left) (l.any_moment tells name (opened (told tells)).0));
        logs = c.logs;
      }

  -- the same of a node that has it
  pub kept_served : (new : D) (server found : KeptServer) (e : ServeEnd) → server ≡ found → (disk.tells new ≡ true → disk.tells mid ≡ true)
      → StandsForSome S.plan shard found.server.state found.server.viewing → found.server.viewing.reads ≡ []
      → found.server.state.shard ≡ shard
      → (disk.tells mid ≡ true → IsKeptOn disk mid S.plan name S.header.tag found.server.state found.server.viewing found.keeper
      × IsFrom S.plan S.header.tag shard (disk.content old name) found.server.state found.server.viewing)
      → (disk.tells mid ≡ true → LeavesOnly disk old mid name (LeftByOpening S.header.tag (disk.content old name) (disk.may_leave old name)))
      → ComesOfServing disk mid new S (opened_node S server.server.state server.server.viewing) shard own turns counts server call (KeepsLog log book S shard) e
      → ServesKept disk old new name log S shard own turns counts call book e
  kept_served new server found e is told stands none here opened any_moment c =
      kept_server new found e told stands none here opened any_moment
      (subst (λ (s : KeptServer). ComesOfServing disk mid new S (opened_node S s.server.state s.server.viewing) shard own turns counts s call (KeepsLog log book S shard) e) is c)

-- a server that was opened may be served on
pub opened_ready : (S : NodeSetting) (server found : KeptServer) → server ≡ found → ServingFits S.plan found.server → IsNewKeeper S.header.tag found.keeper → IsOpen S server
opened_ready S server found is fits new = subst (IsOpen S) (sym is) (record { fits = fits; unbroken = unbroken_new found.keeper new; tag = tagged_new found.keeper new }) where
  unbroken_new : (keeper : Option Keeper) → IsNewKeeper S.header.tag keeper → is_lost keeper ≡ false
  unbroken_new None new = absurd new
  unbroken_new (Some keeper) new = new.1

  tagged_new : (keeper : Option Keeper) → IsNewKeeper S.header.tag keeper → KeepsTag S.header.tag keeper
  tagged_new None new = absurd new
  tagged_new (Some keeper) new = new.0

-- and so may one without a journal
pub unkept_ready : (S : NodeSetting) (server : KeptServer) → ServingFits S.plan server.server → server.keeper ≡ None → IsOpen S server
unkept_ready S server fits none = record { fits = fits; unbroken = ap is_lost none; tag = subst (KeepsTag S.header.tag) (sym none) tt }

-- ---- without one

pub unkept_served : {D : Type 0} (disk : DiskOf D) (old new : D) (S : NodeSetting) (first : ServerNodeState) (shard : Shard) (own : Addr) (turns : ℕ) (counts : Bool) (server : KeptServer)
    (call : NodeCall) (log : Option (List ℕ)) (book : BookCall) (e : ServeEnd)
    → first ≡ first_server_node_state S.plan shard → server.keeper ≡ None → CallsDisk disk old new server (serve_disk_failed e) (is_end_of_journal e)
    → ComesOfServing disk old new S first shard own turns counts server call (KeepsLog log book S shard) e
    → ServesUnkept log S shard own turns counts call book e
unkept_served disk old new S first shard own turns counts server call log book e is none calls c =
    record { reached = c.reached; serves = subst (λ f. Serves S f shard own turns counts call c.reached e) is c.serves; of_none = (calls.unkept none).1; logs = c.logs }

-- memory was wanting for the server
pub unkept_wanting : (S : NodeSetting) (shard : Shard) (own : Addr) (turns : ℕ) (counts : Bool) (call : NodeCall) (log : Option (List ℕ)) (book : BookCall) → DoesNothing call
    → book.new ≡ book.old → ServesUnkept log S shard own turns counts call book end.NoMemory
unkept_wanting S shard own turns counts call log book nothing untouched =
    record { reached = unbegun; serves = unbegan nothing; of_none = refl; logs = never_begun log book S shard end.NoMemory untouched refl }

-- ---- under the header and the names that it is given

module _ {D : Type 0} (disk : DiskOf D) (old new : D) (shard : Shard) (own : Addr) (turns : ℕ) (counts : Bool) (call : NodeCall) (book : BookCall) (e : ServeEnd) where
  -- with the journal that is named, or without one
  pub served_named : (journal named log : Option (List ℕ)) (S : NodeSetting) → journal ≡ named
      → ServesWith disk old new named log S shard own turns counts call book e → ServesWith disk old new journal log S shard own turns counts call book e
  served_named journal named log S is s = subst (λ j. ServesWith disk old new j log S shard own turns counts call book e) (sym is) s

  pub served_headed : (journal log : Option (List ℕ)) (plan : Plan) (cluster : List Addr) (h k : Header) → h ≡ k
      → ServesWith disk old new journal log (record { plan = plan; header = h; cluster = cluster }) shard own turns counts call book e
      → ServesWith disk old new journal log (record { plan = plan; header = k; cluster = cluster }) shard own turns counts call book e
  served_headed journal log plan cluster h k same =
      subst (λ v. ServesWith disk old new journal log (record { plan = plan; header = v; cluster = cluster }) shard own turns counts call book e) same
