-- What holds of open views in every world: what was sent for them, what came of it, and what is kept
use Rattle.std.proofs.Common.{◌≡◌, ◌∙◌, ◌⊎◌, inl, inr, ℕ, ℤ, ◌<◌, ◌≤◌, true, false, List, Some, is_some, length, sym, ap, arith}
use Rattle.std.proofs.lemmas.Bool.{false≢true}
use Rattle.std.specs.Prelude.{slice_get}
use Rattle.roc_sequence.specs.Lists.{Has}
use Rattle.roc_base.specs.declared.id.TxnId.{TxnId}
use Rattle.roc_base.specs.declared.node.Node.{Node}
use Rattle.roc_base.specs.declared.node.Node.TheVariants.{Server, Coord}
use Rattle.roc_base.specs.declared.node.Shard.{Shard}
use Rattle.roc_msg.specs.declared.msg.Msg.{Msg}
use Rattle.roc_msg.specs.declared.msg.Msg.TheVariants.{Read, ReadOk}
use Rattle.roc_msg.specs.declared.msg.Envelope.{Envelope}
use Rattle.roc_plan.specs.Groups.{Plan, procedure_of, groups_of, is_view_of}
use Rattle.roc_step.specs.Below.{is_ended}
use Rattle.roc_step.specs.State.{ServerState, Viewing}
use Rattle.roc_step.specs.declared.kept_read.KeptRead.{KeptRead}
use Rattle.roc_coord.specs.Marks.{watermark}
use Rattle.roc_coord.specs.State.{CoordState}
use Rattle.roc_readonly.specs.declared.view.TakenRead.{TakenRead}
use Rattle.roc_readonly.specs.declared.view.View.{View}
use Rattle.roc_readonly.specs.Round.{find_read, read_shard, is_full, is_fit_readok, last_round}
use Rattle.roc_audit.specs.declared.entry.Entry.{Entry}
use Rattle.roc_audit.specs.declared.entry.Entry.TheVariants.{Submitted, Answered}
use Rattle.roc_audit.specs.History.{WasSubmitted}
use Rattle.roc_law_world.specs.World.{World}
use Rattle.roc_law_world.specs.Beside.{is_of_view}
use Rattle.roc_law_world.proofs.Comings.{Came}
use Rattle.roc_law_world.proofs.ServerMarks.{IsAbove}
use Rattle.roc_law_world.proofs.KeptReads.{IsHeld}
use Rattle.roc_law_protocol.proofs.Marks.{mark_least}

-- the coordinator of t, where it is there, tells a watermark above it
abbrev pub IsPassed : List CoordState → TxnId → Type 0
IsPassed coords t = (c : CoordState) → slice_get coords t.coord ≡ Some c → t.seq < watermark c

-- a message for views is of one that was submitted
abbrev pub IsOfSubmitted : List Entry → Msg → Type 0
IsOfSubmitted history (Read id round proc group args) = WasSubmitted history id
IsOfSubmitted history (ReadOk id round group shard vs outs) = WasSubmitted history id
IsOfSubmitted history msg = Unit {0}

pub transactions_submitted : (history : List Entry) (msg : Msg) → is_of_view msg ≡ false → IsOfSubmitted history msg
transactions_submitted history (Read id round proc group args) e = absurd (false≢true (sym e))
transactions_submitted history (ReadOk id round group shard vs outs) e = absurd (false≢true (sym e))
transactions_submitted history msg e = tt

abbrev pub read_of : View → ℕ → KeptRead
read_of v g = record { id = v.id; round = v.round; proc = v.proc; group = g; args = v.args }

-- the view is open at its coordinator
abbrev pub IsOpen : List CoordState → TxnId → Type 0
IsOpen coords t = (c : CoordState) × (slice_get coords t.coord ≡ Some c) × (v : View) × Has v c.views × (v.id ≡ t)

module _ (plan : Plan) where
  -- this reads for the view, in a round that began, on shard n
  pub record IsFor (v : View) (round proc group : ℕ) (args : List ℤ) (n : ℕ) : Type 0 where
    pub until : round ≤ v.round
    pub procedure : proc ≡ v.proc
    pub there : group < length (groups_of plan v.proc)
    pub arguments : args ≡ v.args
    pub here : (read_shard plan v group).0 ≡ n

  -- and this answers it
  pub record IsOkOf (v : View) (round : ℕ) (ok : TakenRead) (shard : Shard) : Type 0 where
    pub until : round ≤ v.round
    pub fits : is_fit_readok plan v ok shard ≡ true

  -- if the message is of the view, it is as the plan says
  abbrev pub Fits : View → Msg → Node → Type 0
  Fits v (Read id round proc group args) to = id ≡ v.id → (n : ℕ) × (to ≡ Server (record { 0 = n })) × IsFor v round proc group args n
  Fits v (ReadOk id round group shard vs outs) to = id ≡ v.id → (to ≡ Coord v.id.coord) × IsOkOf v round (record { group = group; versions = vs; outs = outs }) shard
  Fits v msg to = Unit {0}

  pub transactions_fit : (v : View) (msg : Msg) (to : Node) → is_of_view msg ≡ false → Fits v msg to
  transactions_fit v (Read id round proc group args) to e = absurd (false≢true (sym e))
  transactions_fit v (ReadOk id round group shard vs outs) to e = absurd (false≢true (sym e))
  transactions_fit v msg to e = tt

  -- the read of a group in the round under way is kept
  abbrev pub IsKept : List Viewing → View → ℕ → Type 0
  IsKept viewing v g = (z : Viewing) × (slice_get viewing (read_shard plan v g).0 ≡ Some z) × Has (read_of v g) z.reads

  -- it is answered
  abbrev pub IsTold : List Envelope → View → ℕ → Type 0
  IsTold sent v g = (m : Envelope) × Has m sent × (shard : Shard) × (vs : List ℕ) × (outs : List ℤ) × (m.msg ≡ ReadOk v.id v.round g shard vs outs)

  -- what came of a message of the view's round under way that was delivered
  abbrev pub Done : World → View → Msg → Type 0
  Done w v (Read id round proc group args) = id ≡ v.id → round ≡ v.round → IsKept w.viewing v group ⊎ IsTold w.sent v group
  Done w v (ReadOk id round group shard vs outs) = id ≡ v.id → round ≡ v.round → is_some (find_read group v.got) ≡ true
  Done w v msg = Unit {0}

  pub transactions_done : (w : World) (v : View) (msg : Msg) → is_of_view msg ≡ false → Done w v msg
  transactions_done w v (Read id round proc group args) e = absurd (false≢true (sym e))
  transactions_done w v (ReadOk id round group shard vs outs) e = absurd (false≢true (sym e))
  transactions_done w v msg e = tt

  -- a view that is open
  pub record IsCalm (w : World) (v : View) : Type 0 where
    pub view : is_view_of plan v.proc ≡ true
    pub counted : length v.args ≡ (procedure_of plan v.proc).arguments
    pub submitted : Has (Submitted v.id v.proc v.args) w.history
    -- each group was asked in the round under way
    pub sent : (g : ℕ) → g < length (groups_of plan v.proc) → (m : Envelope) × Has m w.sent × (m.msg ≡ Read v.id v.round v.proc g v.args)
    pub messages : (m : Envelope) → Has m w.sent → Fits v m.msg m.to
    pub kept : (n : ℕ) (z : Viewing) → slice_get w.viewing n ≡ Some z → (x : KeptRead) → Has x z.reads → x.id ≡ v.id → IsFor v x.round x.proc x.group x.args n
    pub came : (m : Envelope) → Came w m → Done w v m.msg
    -- the round is not full, unless it is the last
    pub lacks : is_full plan v ≡ true → v.round ≡ last_round

  -- a coordinator keeps its own views, each once, and none is answered
  pub record KeepsViews (n : ℕ) (c : CoordState) : Type 0 where
    pub own : (v : View) → Has v c.views → v.id.coord ≡ n
    pub one : (v x : View) → Has v c.views → Has x c.views → v.id ≡ x.id → v ≡ x
    pub listed : (v : View) → Has v c.views → Has v.id c.unanswered

  -- what a server keeps is of a submitted view and is held
  pub record KeepsHeld (w : World) (n : ℕ) (z : Viewing) (x : KeptRead) : Type 0 where
    pub submitted : WasSubmitted w.history x.id
    pub server : ServerState
    pub there : slice_get w.servers n ≡ Some server
    pub held : IsHeld plan server x

  pub record AreCalm (w : World) : Type 0 where
    pub shards : (n : ℕ) (s : ServerState) → slice_get w.servers n ≡ Some s → s.shard.0 ≡ n
    pub coords : (n : ℕ) (c : CoordState) → slice_get w.coords n ≡ Some c → KeepsViews n c
    pub views : (n : ℕ) (c : CoordState) → slice_get w.coords n ≡ Some c → (v : View) → Has v c.views → IsCalm w v
    pub messages : (m : Envelope) → Has m w.sent → IsOfSubmitted w.history m.msg
    pub kept : (n : ℕ) (z : Viewing) → slice_get w.viewing n ≡ Some z → (x : KeptRead) → Has x z.reads → KeepsHeld w n z x
    -- watermarks that were told and heard are no higher than those of coordinators
    pub told : (m : Envelope) → Has m w.sent → (t : TxnId) → IsAbove m.msg t → IsPassed w.coords t
    pub heard : (n : ℕ) (s : ServerState) → slice_get w.servers n ≡ Some s → (t : TxnId) → is_ended s.below t ≡ true → IsPassed w.coords t
    -- a view that was submitted is open or answered
    pub asked : (t : TxnId) (proc : ℕ) (args : List ℤ) → Has (Submitted t proc args) w.history → is_view_of plan proc ≡ true
        → IsOpen w.coords t ⊎ ((reply : List ℤ) × Has (Answered t reply) w.history)

  -- ---- a view stays as it is

  module _ (w u : World) (v : View) (sent : (m : Envelope) → Has m w.sent → Has m u.sent) (keeps : (g : ℕ) → IsKept w.viewing v g → IsKept u.viewing v g ⊎ IsTold u.sent v g) where
    told_on : (g : ℕ) → IsTold w.sent v g → IsTold u.sent v g
    told_on g k = (k.0, sent k.0 k.1, k.2, k.3, k.4, k.5)

    done_on : (msg : Msg) → Done w v msg → Done u v msg
    done_on (Read id round proc group args) d = λ e f. elim (d e f) [ inl k ↦ keeps group k | inr k ↦ inr (told_on group k) ]
    done_on (ReadOk id round group shard vs outs) d = d
    done_on msg d = tt

    -- from one world to another in which more was sent
    pub calm_on : ((m : Envelope) → Has m u.sent → Has m w.sent ⊎ Fits v m.msg m.to)
        → ((n : ℕ) (z : Viewing) → slice_get u.viewing n ≡ Some z → (x : KeptRead) → Has x z.reads → x.id ≡ v.id → IsFor v x.round x.proc x.group x.args n)
        → ((m : Envelope) → Came u m → Came w m ⊎ Done u v m.msg) → (Has (Submitted v.id v.proc v.args) w.history → Has (Submitted v.id v.proc v.args) u.history) → IsCalm w v → IsCalm u v
    calm_on new kept came history c =
        record {
          view = c.view;
          counted = c.counted;
          submitted = history c.submitted;
          sent = λ g l. let k = c.sent g l in (k.0, sent k.0 k.1, k.2);
          messages = λ m h. elim (new m h) [ inl k ↦ c.messages m k | inr k ↦ k ];
          kept = kept;
          came = λ m h. elim (came m h) [ inl k ↦ done_on m.msg (c.came m k) | inr k ↦ k ];
          lacks = c.lacks;
        }

-- ---- watermarks

-- of an open view no watermark is told
pub open_not_passed : (plan : Plan) (w : World) → AreCalm plan w → (n : ℕ) (c : CoordState) → slice_get w.coords n ≡ Some c → (v : View) → Has v c.views → ¬ IsPassed w.coords v.id
open_not_passed plan w a n c at v h p =
    let k = a.coords n c at in
    let low = mark_least c v.id (k.listed v h) in
    let high = p c (ap (λ m. slice_get w.coords m) (k.own v h) ∙ at) in
    omega arith
