-- A Stop leaves a core as it was, and a fold goes on over its line
use Rattle.std.proofs.Common.{◌≡◌, ℕ, Bool, true, List, [], ◌∷◌, ◌++◌, Some, None, Ok, refl, sym, ap, subst, ◌∙◌, append-nil, append_assoc}
use Rattle.std.proofs.lemmas.Slice.Eq.{bytes_eq-Decides}
use Rattle.std.specs.Prelude.{bytes_eq, if◌then◌else◌}
use Rattle.roc_base.specs.declared.id.TxnId.{TxnId}
use Rattle.roc_msg.specs.declared.msg.Msg.{Msg}
use Rattle.roc_msg.specs.declared.msg.Msg.TheVariants.{Stop}
use Rattle.roc_msg.specs.declared.outbox.Ran.{Ran}
use Rattle.roc_msg.specs.declared.reason.Reason.TheVariants.{Foreign}
use Rattle.roc_plan.specs.Groups.{Plan}
use Rattle.roc_wire.specs.declared.header.Header.{Header}
use Rattle.roc_wire.specs.Laws.{Spells}
use Rattle.roc_wire.specs.Reading.{datagram, pair}
use Rattle.roc_step.specs.State.{ignored, ServerState, Viewing}
use Rattle.roc_step.proofs.TakenNew.{nothing_new}
use Rattle.roc_law_protocol.proofs.Findings.{decided_there, led_there}
use Rattle.roc_log.specs.declared.line.LogLine.{LogLine}
use Rattle.roc_fold.specs.Told.{told_from}
use Rattle.roc_fold.specs.Fold.{Core, serving, coordinating, brought, if_tagged, GivenByEvent, GivesAtServer, GivesMessage, Gives, Folding, behind_event, takes_event, FoldsTo, goes_on}
use Rattle.roc_law_audit.specs.LogsOfRuns.{IsStopLine, AreStops}

-- what spells a message behind a tag brings it
pub tagged_brings : ((bytes : List ℕ) (header : Header) (msg : Msg) → Spells bytes header msg → datagram bytes ≡ Ok (pair header msg)) → (tag bytes : List ℕ) (by : Header) (msg : Msg) → by.tag ≡ tag
    → Spells bytes by msg → brought tag bytes ≡ Some msg
tagged_brings reads tag bytes by msg tagged spells =
    let same : bytes_eq by.tag tag ≡ true = (bytes_eq-Decides by.tag tag).1 tagged in
    ap (if_tagged tag) (reads bytes by msg spells) ∙ ap (λ (b : Bool). if b then Some msg else None) same

-- a fold where nothing is due
abbrev pub stood : Core → List TxnId → List Ran → Folding
stood core decided ran = record { core = core; due = []; decided = decided; ran = ran }

-- an event of which nothing comes
abbrev pub idle : Core → GivenByEvent
idle core = record { core = core; due = []; decided = []; ran = [] }

pub stop_gives : (plan : Plan) (header : Header) (s : ServerState) (v : Viewing) → GivesAtServer plan header s v Stop (idle (serving s v))
stop_gives plan header s v =
    let before = decided_there s.lists.links in
    let reached = led_there s.lists.links [] in
    record {
      step = ignored s Foreign;
      reads = record { viewing = v; sends = [] };
      handles = record {
        findings = record { before = before.0; reached = reached.0; components = [] };
        found = record { before = before.1; reached = reached.1; components = nothing_new s.lists.links };
        is = refl;
      };
      answers = record { decided = before.0; found = before.1; is = refl };
      is = refl;
    }

module _ (reads : (bytes : List ℕ) (header : Header) (msg : Msg) → Spells bytes header msg → datagram bytes ≡ Ok (pair header msg)) (plan : Plan) (header : Header) where
  -- the line of a Stop gives nothing
  pub stop_line_gives : (core : Core) (line : LogLine) → IsStopLine header line → Gives plan header core line (idle core)
  stop_line_gives core line stop =
      subst (λ (l : LogLine). Gives plan header core l (idle core)) (sym stop.is) (Stop, tagged_brings reads header.tag stop.bytes stop.by Stop stop.tagged stop.spells, go core)
    where
      go : (core : Core) → GivesMessage plan header core Stop (idle core)
      go (serving s v) = stop_gives plan header s v
      go (coordinating c) = refl

  -- so a fold goes on over Stops
  pub stops_fold : (first core : Core) (decided : List TxnId) (ran : List Ran) (lines stops : List LogLine) → FoldsTo plan header first lines (stood core decided ran) → AreStops header stops
      → FoldsTo plan header first (lines ++ stops) (stood core decided ran)
  stops_fold first core decided ran lines [] f none = subst (λ (l : List LogLine). FoldsTo plan header first l (stood core decided ran)) (sym (append-nil lines)) f
  stops_fold first core decided ran lines (line ∷ stops) f (stop, more) =
      let here = goes_on line (behind_event (stood core decided ran) (idle core)) f (takes_event (idle core) refl (stop_line_gives core line stop)) in
      let same : FoldsTo plan header first (lines ++ line ∷ []) (stood core decided ran) =
      subst (λ (ids : List TxnId). FoldsTo plan header first (lines ++ line ∷ []) (stood core ids ran)) (append-nil decided)
      (subst (λ (l : List Ran). FoldsTo plan header first (lines ++ line ∷ []) (stood core (decided ++ []) l)) (append-nil ran) here) in
      subst (λ (l : List LogLine). FoldsTo plan header first l (stood core decided ran)) (append_assoc lines (line ∷ []) stops) (stops_fold first core decided ran (lines ++ line ∷ []) stops same more)

-- and they tell nothing
pub stops_tell : (header : Header) (c n : ℕ) (stops : List LogLine) → AreStops header stops → told_from c n stops ≡ []
stops_tell header c n [] none = refl
stops_tell header c n (line ∷ stops) (stop, more) = ap (λ (l : LogLine). told_from c n (l ∷ stops)) stop.is ∙ stops_tell header c n stops more
