-- Two runs side by side, and how far they have come: the second world begins at the first, as long as no coordinator has switched
use Rattle.std.proofs.Common.{◌≡◌, ◌≢◌, ◌∙◌, ◌<◌, ℕ, Bool, true, false, List, [], ◌++◌, Option, Some, None, length, map, refl, sym, ap, subst, append-nil, inl, inr}
use Rattle.std.specs.Prelude.{slice_get, if◌then◌else◌}
use Rattle.roc_sequence.specs.Lists.{Has}
use Rattle.roc_sequence.proofs.Members.{from_has_map, has_append}
use Rattle.roc_base.specs.declared.id.TxnId.{TxnId}
use Rattle.roc_base.specs.declared.node.Node.{Node}
use Rattle.roc_msg.specs.declared.outbox.Outgoing.{Outgoing}
use Rattle.roc_plan.specs.Groups.{Plan}
use Rattle.roc_plan.specs.Accepted.{IsAccepted}
use Rattle.roc_step.specs.State.{ServerState, Viewing}
use Rattle.roc_step.specs.Renewed.{renewed, renewed_viewing}
use Rattle.roc_coord.specs.State.{CoordState}
use Rattle.roc_coord.specs.Submit.{next_id}
use Rattle.roc_coord.specs.Renewed.{renewed_coord}
use Rattle.roc_audit.specs.Order.{noted}
use Rattle.roc_law_protocol.specs.World.{sent_by}
use Rattle.roc_law_protocol.specs.declared.event.Event.{Event as TheirEvent}
use Rattle.roc_law_world.specs.World.{World, Beginning, first_beginning, begun_world}
use Rattle.roc_law_world.specs.Beginnings.{IsViewBeginning}
use Rattle.roc_law_world.specs.Fits.{FitsWorld}
use Rattle.roc_law_world.specs.Happens as happen
use Rattle.roc_law_world.specs.Run as views
use Rattle.roc_epoch.specs.declared.file.File.{File}
use Rattle.roc_epoch.specs.declared.file.File.TheVariants.{First, Second, Neither}
use Rattle.roc_epoch.specs.declared.next.Next.{Next}
use Rattle.roc_epoch.specs.Files.{is_between, own_file, own_plan, last_plan, IsNextOf}
use Rattle.roc_two_files.specs.Left.{AreDrained, left_behind}
use Rattle.roc_two_files.specs.Orders.{later_by}
use Rattle.roc_two_files.specs.Sealed.{Sealed, of_file, sealed_by}
use Rattle.roc_two_files.proofs.Networks.{AreNoneBetween, of_append}
use Rattle.roc_grown.specs.Server.{GrownServerState}
use Rattle.roc_grown.specs.Coord.{GrownCoordState, have_all_switched}
use Rattle.roc_growth.specs.World.{GrownWorld}
use Rattle.roc_growth.specs.Run.{Stepped}
use Rattle.roc_growth.specs.Told.{AreTold, IsToldRight}
use Rattle.roc_growth.specs.Epochs.{AreAlong}
use Rattle.roc_growth.proofs.OwnServers.{AreSent}

-- ---- plans

pub first_plan : (plan : Plan) (next : Option Next) (switched : Bool) → switched ≡ false → own_plan plan next switched ≡ plan
first_plan plan next switched e = go next switched e
  where
    go : (next : Option Next) (b : Bool) → b ≡ false → own_plan plan next b ≡ plan
    go None b e = refl
    go (Some next) b e = ap (λ b. if b then next.plan else plan) e

pub second_plan : (plan : Plan) (next : Option Next) (switched : Bool) → switched ≡ true → own_plan plan next switched ≡ last_plan plan next
second_plan plan next switched e = go next switched e
  where
    go : (next : Option Next) (b : Bool) → b ≡ true → own_plan plan next b ≡ last_plan plan next
    go None b e = refl
    go (Some next) b e = ap (λ b. if b then next.plan else plan) e

pub last_accepted : (plan : Plan) (next : Option Next) → IsAccepted plan → IsNextOf plan next → IsAccepted (last_plan plan next)
last_accepted plan None accepted of = accepted
last_accepted plan (Some next) accepted of = of.0

pub last_shards : (plan : Plan) (next : Option Next) → IsNextOf plan next → (last_plan plan next).program.shards ≡ plan.program.shards
last_shards plan None of = refl
last_shards plan (Some next) of = of.1.shards

-- ---- what holds of runs of one file

pub record Laws : Type 0 where
  pub begins : (plan : Plan) → IsViewBeginning plan (first_beginning plan)
  pub begins_behind :
      (plan grown : Plan) (b : Beginning) (coords : ℕ) (steps : List views.Stepped) (w : World) → IsAccepted plan → IsViewBeginning plan b → views.IsRunFrom plan b coords steps w
      → AreDrained w.coords → grown.program.shards ≡ plan.program.shards → IsViewBeginning grown (left_behind plan b w)
  pub nothing_between :
      (plan : Plan) (b : Beginning) (coords : ℕ) (steps : List views.Stepped) (w : World) → IsAccepted plan → IsViewBeginning plan b → views.IsRunFrom plan b coords steps w
      → (e : Option TheirEvent) (o : happen.Outcome) → views.Transition plan w e o → (from : Node) (outs : List Outgoing) → o.world.sent ≡ w.sent ++ map (sent_by from) outs → AreNoneBetween outs
  pub keep_nothing :
      (plan : Plan) (b : Beginning) (coords : ℕ) (steps : List views.Stepped) (w : World) → views.IsRunFrom plan b coords steps w
      → (n : ℕ) (c : CoordState) → slice_get w.coords n ≡ Some c → c.unanswered ≡ [] → (c.pending ≡ []) × (c.views ≡ [])
  pub begun_servers :
      (plan grown : Plan) (b : Beginning) (coords : ℕ) (steps : List views.Stepped) (w : World) → 0 < plan.program.shards → views.IsRunFrom plan b coords steps w
      → grown.program.shards ≡ plan.program.shards → (begun_world grown (left_behind plan b w) coords).servers ≡ map renewed w.servers
  pub begun_viewing :
      (plan grown : Plan) (b : Beginning) (coords : ℕ) (steps : List views.Stepped) (w : World) → 0 < plan.program.shards → views.IsRunFrom plan b coords steps w
      → grown.program.shards ≡ plan.program.shards → (begun_world grown (left_behind plan b w) coords).viewing ≡ map renewed_viewing w.viewing
  pub begun_coords :
      (plan grown : Plan) (b : Beginning) (coords : ℕ) (steps : List views.Stepped) (w : World) → 0 < plan.program.shards → views.IsRunFrom plan b coords steps w
      → grown.program.shards ≡ plan.program.shards → (begun_world grown (left_behind plan b w) coords).coords ≡ map renewed_coord w.coords
  pub fits : (plan : Plan) (b : Beginning) (coords : ℕ) (steps : List views.Stepped) (w : World) → 0 < plan.program.shards → views.IsRunFrom plan b coords steps w → FitsWorld plan w
  -- what the second of two runs newly decides stands behind all that the first one ordered
  pub behind :
      (plan grown : Plan) (b : Beginning) (coords : ℕ) (steps more : List views.Stepped) (w v : World) → IsAccepted plan → IsAccepted grown → IsViewBeginning plan b
      → views.IsRunFrom plan b coords steps w → AreDrained w.coords → grown.program.shards ≡ plan.program.shards → views.IsRunFrom grown (left_behind plan b w) coords more v
      → (e : Option TheirEvent) (o : happen.Outcome) → views.Transition grown v e o → (decided : List TxnId) → o.world.order ≡ noted v.order decided
      → noted (w.order ++ v.order) decided ≡ w.order ++ noted v.order decided

-- ---- phases

-- a server stands in the first world: as it is there, or begun anew
pub record StandsIn (w : World) (n : ℕ) (s : GrownServerState) : Type 0 where
  pub state : ServerState
  pub there : slice_get w.servers n ≡ Some state
  pub viewing : Viewing
  pub keeps : slice_get w.viewing n ≡ Some viewing
  pub core : s.core ≡ (if s.switched then renewed state else state)
  pub reads : s.viewing ≡ (if s.switched then renewed_viewing viewing else viewing)

-- no coordinator has switched, and nothing was sent of the second file
pub record IsFresh (g : GrownWorld) (w : World) : Type 0 where
  pub servers : (n : ℕ) (s : GrownServerState) → slice_get g.servers n ≡ Some s → StandsIn w n s
  pub coords : w.coords ≡ map (λ c. c.core) g.coords
  pub plain : (n : ℕ) (c : GrownCoordState) → slice_get g.coords n ≡ Some c → c.switched ≡ false
  pub second : of_file Second g.sent ≡ []
  pub history : g.history ≡ w.history
  pub order : g.order ≡ w.order
  pub looks : g.looks ≡ w.looks

-- a coordinator stands in both worlds: as it is in the first, where it has not switched, and as it would begin in the second
pub record StandsInBoth (w v : World) (n : ℕ) (c : GrownCoordState) : Type 0 where
  pub state : CoordState
  pub there : slice_get w.coords n ≡ Some state
  pub first : c.switched ≡ false → (c.core ≡ state) × (slice_get v.coords n ≡ Some (renewed_coord state))
  pub second : c.switched ≡ true → (slice_get v.coords n ≡ Some c.core) × (c.upto ≡ Some (next_id state))

-- all servers have switched, and the first world rests
pub record IsLater (g : GrownWorld) (w v : World) : Type 0 where
  pub servers : (n : ℕ) (s : GrownServerState) → slice_get g.servers n ≡ Some s → (s.switched ≡ true) × (slice_get v.servers n ≡ Some s.core) × (slice_get v.viewing n ≡ Some s.viewing)
  pub coords : (n : ℕ) (c : GrownCoordState) → slice_get g.coords n ≡ Some c → StandsInBoth w v n c
  pub drained : AreDrained w.coords
  pub sent : v.sent ≡ of_file Second g.sent
  pub history : g.history ≡ w.history ++ v.history
  pub order : g.order ≡ w.order ++ v.order
  pub looks : g.looks ≡ w.looks ++ map (later_by (length w.order)) v.looks

module _ (plan : Plan) (next : Option Next) (count : ℕ) where
  pub data Phase (steps : List Stepped) (g : GrownWorld) (w : World) : Type 0 where
    fresh : IsFresh g w → Phase steps g w
    later : (second_steps : List views.Stepped) (v : World) → views.IsRunFrom (last_plan plan next) (left_behind plan (first_beginning plan) w) count second_steps v → IsLater g w v
        → AreAlong Second g.sent steps second_steps → Phase steps g w

  pub record IsGlued (steps : List Stepped) (g : GrownWorld) : Type 0 where
    pub told : AreTold g
    pub first_steps : List views.Stepped
    pub w : World
    pub first : views.IsRun plan count first_steps w
    pub sent : w.sent ≡ of_file First g.sent
    pub along : AreAlong First g.sent steps first_steps
    -- what is told between files is of neither
    pub filed : (m : Sealed) → Has m g.sent → is_between m.message.msg ≡ true → m.file ≡ Neither
    pub sixteen : (n : ℕ) (s : GrownServerState) → slice_get g.servers n ≡ Some s → length s.drained ≡ 16
    pub all_at : (n : ℕ) (c : GrownCoordState) → slice_get g.coords n ≡ Some c → c.switched ≡ true → have_all_switched plan.program.shards c.at ≡ true
    pub servers : length w.servers ≡ length g.servers
    pub coords : length w.coords ≡ length g.coords
    pub phase : Phase steps g w

-- ---- the network

-- what is sent of a file goes on from there
pub sent_own : (servers : List GrownServerState) (coords : List GrownCoordState) (switched : Bool) (from : Node) (all outs : List Outgoing) → AreSent servers coords switched from all outs
    → (f : File) → own_file switched ≡ f → (sent : List Sealed) → of_file f (sent ++ map (sealed_by switched from) all) ≡ of_file f sent ++ map (sent_by from) outs
sent_own servers coords switched from all outs o f e sent =
    of_append f sent (map (sealed_by switched from) all)
    ∙ ap (λ l. of_file f sent ++ l) (subst (λ f. of_file f (map (sealed_by switched from) all) ≡ map (sent_by from) outs) e o.own)

pub sent_other : (servers : List GrownServerState) (coords : List GrownCoordState) (switched : Bool) (from : Node) (all outs : List Outgoing) → AreSent servers coords switched from all outs
    → (f : File) → f ≢ own_file switched → f ≢ Neither → (sent : List Sealed) → of_file f (sent ++ map (sealed_by switched from) all) ≡ of_file f sent
sent_other servers coords switched from all outs o f n k sent =
    of_append f sent (map (sealed_by switched from) all) ∙ (ap (λ l. of_file f sent ++ l) (o.other f n k) ∙ append-nil (of_file f sent))

-- and is right
pub sealed_right : (servers : List GrownServerState) (coords : List GrownCoordState) (switched : Bool) (from : Node) (all outs : List Outgoing) → AreSent servers coords switched from all outs
    → (m : Sealed) → Has m (map (sealed_by switched from) all) → IsToldRight servers coords m.message.msg m.message.to
sealed_right servers coords switched from all outs o m h =
    let q = from_has_map (sealed_by switched from) m all h in
    subst (λ (m : Sealed). IsToldRight servers coords m.message.msg m.message.to) (sym q.2) (o.right q.0 q.1)

pub filed_more : (sent : List Sealed) → ((m : Sealed) → Has m sent → is_between m.message.msg ≡ true → m.file ≡ Neither) → (switched : Bool) (from : Node) (all : List Outgoing)
    → (m : Sealed) → Has m (sent ++ map (sealed_by switched from) all) → is_between m.message.msg ≡ true → m.file ≡ Neither
filed_more sent filed switched from all m h e = elim (has_append m sent (map (sealed_by switched from) all) h) [
  | inl k ↦ filed m k e
  | inr k ↦
      (let q = from_has_map (sealed_by switched from) m all k in
      ap (λ (m : Sealed). m.file) q.2 ∙ ap (λ b. if b then Neither else own_file switched) (ap (λ (m : Sealed). is_between m.message.msg) (sym q.2) ∙ e))
]

pub first_not_second : (switched : Bool) → switched ≡ false → Second ≢ own_file switched
first_not_second switched e h = let other : Second ≡ First = h ∙ ap own_file e in absurd (cc)

pub second_not_first : (switched : Bool) → switched ≡ true → First ≢ own_file switched
second_not_first switched e h = let other : First ≡ Second = h ∙ ap own_file e in absurd (cc)

pub first_some : First ≢ Neither
first_some e = absurd (cc)

pub second_some : Second ≢ Neither
second_some e = absurd (cc)
