-- The logs of a run, one step later
use Rattle.std.proofs.Common.{◌≡◌, ℕ, ◌+◌, Bool, true, false, List, [], ◌∷◌, ◌++◌, Option, Some, refl, sym, ap, subst, ◌∙◌, append-nil, append_assoc}
use Rattle.std.specs.Prelude.{if◌then◌else◌}
use Rattle.roc_base.specs.declared.id.TxnId.{TxnId}
use Rattle.roc_base.specs.declared.node.Node.{Node}
use Rattle.roc_base.specs.Node.{is_node}
use Rattle.roc_plan.specs.Groups.{Plan}
use Rattle.roc_wire.specs.declared.header.Header.{Header}
use Rattle.roc_audit.specs.declared.entry.Entry.{Entry}
use Rattle.roc_fold.proofs.ToldLines.{told_append}
use Rattle.roc_fold.specs.Told.{told_from, submissions}
use Rattle.roc_law_protocol.specs.Happens.{RanAt}
use Rattle.roc_law_world.specs.World.{World, Beginning, begun_world}
use Rattle.roc_law_world.specs.Run.{Stepped, IsRunFrom, at_beginning, steps_on}
use Rattle.roc_log.specs.declared.line.LogLine.{LogLine}
use Rattle.roc_law_audit.specs.InTheWorld.{all_ran}
use Rattle.roc_law_audit.specs.LogsOfRuns.{node_of_event, is_step_of, LogsWhere, LogsStep, AreLoggedFrom, AreStops, AreAllLogged}
use Rattle.roc_law_audit.proofs.Stopped.{stops_tell}

-- ---- the world behind steps

abbrev pub behind : World → List Stepped → World
behind w [] = w
behind w (x ∷ steps) = behind x.outcome.world steps

pub behind_more : (w : World) (steps : List Stepped) (x : Stepped) → behind w (steps ++ x ∷ []) ≡ x.outcome.world
behind_more w [] x = refl
behind_more w (y ∷ steps) x = behind_more y.outcome.world steps x

pub run_behind : {plan : Plan} {b : Beginning} {coords : _} {steps : List Stepped} {w : World} → IsRunFrom plan b coords steps w → behind (begun_world plan b coords) steps ≡ w
run_behind at_beginning = refl
run_behind {plan} {b} {coords} (steps_on {steps = steps} e o r h) = behind_more (begun_world plan b coords) steps (record { event = e; outcome = o })

-- ---- lines

-- what a node logs over some steps, and in one behind them
pub record AreLoggedParts (header : Header) (w : World) (steps : List Stepped) (x : Stepped) (lines : List LogLine) : Type 0 where
  pub front : List LogLine
  pub more : List LogLine
  pub stops : List LogLine
  pub logged : AreAllLogged header w steps front
  pub last : LogsStep header (behind w steps) x more
  pub idle : AreStops header stops
  pub parts : lines ≡ (front ++ more) ++ stops

pub logged_parts : (header : Header) (w : World) (steps : List Stepped) (x : Stepped) (lines : List LogLine) → AreAllLogged header w (steps ++ x ∷ []) lines → AreLoggedParts header w steps x lines
logged_parts header w [] x lines (stops, more, rest, idle, last, behind, parts) =
    record { front = stops; more = more; stops = rest; logged = idle; last = last; idle = behind; parts = parts ∙ sym (append_assoc stops more rest) }
logged_parts header w (y ∷ steps) x lines (stops, more, rest, idle, first, logged, parts) =
    let r = logged_parts header y.outcome.world steps x rest logged in
    record {
      front = stops ++ (more ++ r.front);
      more = r.more;
      stops = r.stops;
      logged = (stops, more, r.front, idle, first, r.logged, refl);
      last = r.last;
      idle = r.idle;
      parts = parts
          ∙ (ap (λ (l : List LogLine). stops ++ (more ++ l)) r.parts
          ∙ (ap (λ (l : List LogLine). stops ++ l) (sym (append_assoc more (r.front ++ r.more) r.stops) ∙ ap (λ (l : List LogLine). l ++ r.stops) (sym (append_assoc more r.front r.more)))
          ∙ (sym (append_assoc stops ((more ++ r.front) ++ r.more) r.stops) ∙ ap (λ (l : List LogLine). l ++ r.stops) (sym (append_assoc stops (more ++ r.front) r.more)))));
    }

-- what they tell
pub parts_tell : (number : ℕ) {header : Header} {w : World} {steps : List Stepped} {x : Stepped} {lines : List LogLine} (p : AreLoggedParts header w steps x lines)
    → told_from number 0 lines ≡ told_from number 0 p.front ++ told_from number (0 + submissions p.front) p.more
parts_tell number {header} p =
    let both = p.front ++ p.more in
    ap (told_from number 0) p.parts
    ∙ (told_append number 0 both p.stops
    ∙ (ap (λ (l : List Entry). told_from number 0 both ++ l) (stops_tell header number (0 + submissions both) p.stops p.idle)
    ∙ (append-nil (told_from number 0 both) ∙ told_append number 0 p.front p.more)))

pub logged_more : (header : Header) (w : World) (steps : List Stepped) (x : Stepped) (front more : List LogLine) → AreLoggedFrom header w steps front → LogsStep header (behind w steps) x more
    → AreLoggedFrom header w (steps ++ x ∷ []) (front ++ more)
logged_more header w [] x front more none last = (more, [], last, refl, ap (λ (l : List LogLine). l ++ more) none ∙ sym (append-nil more))
logged_more header w (y ∷ steps) x front more (lines, rest, first, logged, parts) last =
    (lines, rest ++ more, first, logged_more header y.outcome.world steps x rest more logged last, ap (λ (l : List LogLine). l ++ more) parts ∙ append_assoc lines rest more)

-- the same where Stops may stand between
pub all_more : (header : Header) (w : World) (steps : List Stepped) (x : Stepped) (front more stops : List LogLine) → AreAllLogged header w steps front → LogsStep header (behind w steps) x more
    → AreStops header stops → AreAllLogged header w (steps ++ x ∷ []) ((front ++ more) ++ stops)
all_more header w [] x front more stops idle last behind = (front, more, stops, idle, last, behind, append_assoc front more stops)
all_more header w (y ∷ steps) x front more stops (before, lines, rest, idle, first, logged, parts) last behind = (
  before,
  lines,
  (rest ++ more) ++ stops,
  idle,
  first,
  all_more header y.outcome.world steps x rest more stops logged last behind,
  ap (λ (l : List LogLine). (l ++ more) ++ stops) parts
      ∙ (ap (λ (l : List LogLine). l ++ stops) (append_assoc before (lines ++ rest) more ∙ ap (λ (l : List LogLine). before ++ l) (append_assoc lines rest more))
      ∙ (append_assoc before (lines ++ (rest ++ more)) stops ∙ ap (λ (l : List LogLine). before ++ l) (append_assoc lines (rest ++ more) stops))),
)

-- where none do
pub all_logged : (header : Header) (w : World) (steps : List Stepped) (lines : List LogLine) → AreLoggedFrom header w steps lines → AreAllLogged header w steps lines
all_logged header w [] lines none = subst (AreStops header) (sym none) tt
all_logged header w (x ∷ steps) lines (more, rest, first, logged, parts) = ([], more, rest, tt, first, all_logged header x.outcome.world steps rest logged, parts)

-- in the step of this node it logs its own lines, and in another's none
pub own_lines : (header : Header) (w : World) (x : Stepped) (more : List LogLine) (node : Node) → node_of_event w.sent x.event ≡ Some node → LogsStep header w x more
    → LogsWhere (is_node node header.from) header w x.event x.outcome more
own_lines header w x more node e l = subst (λ (n : Option Node). LogsWhere (is_step_of header.from n) header w x.event x.outcome more) e l

-- ---- what is decided

-- what comes of a node's step, and nothing of another's
abbrev pub taken_where : (own : Bool) → List TxnId → List TxnId
taken_where own ids = if own then ids else []

abbrev pub taken_in : Node → World → Stepped → List TxnId
taken_in node w x = taken_where (is_step_of node (node_of_event w.sent x.event)) x.outcome.decided

-- what a node decided over these steps, which begin in this world
abbrev pub taken_from : Node → World → List Stepped → List TxnId
taken_from node w [] = []
taken_from node w (x ∷ steps) = taken_in node w x ++ taken_from node x.outcome.world steps

pub taken_more : (node : Node) (w : World) (steps : List Stepped) (x : Stepped) → taken_from node w (steps ++ x ∷ []) ≡ taken_from node w steps ++ taken_in node (behind w steps) x
taken_more node w [] x = append-nil (taken_in node w x)
taken_more node w (y ∷ steps) x =
    ap (λ (l : List TxnId). taken_in node w y ++ l) (taken_more node y.outcome.world steps x)
    ∙ sym (append_assoc (taken_in node w y) (taken_from node y.outcome.world steps) (taken_in node (behind y.outcome.world steps) x))

pub own_taken : (node other : Node) (w : World) (x : Stepped) → node_of_event w.sent x.event ≡ Some other → taken_in node w x ≡ taken_where (is_node other node) x.outcome.decided
own_taken node other w x e = ap (λ (n : Option Node). taken_where (is_step_of node n) x.outcome.decided) e

pub none_taken : (node : Node) (w : World) (x : Stepped) → x.outcome.decided ≡ [] → taken_in node w x ≡ []
none_taken node w x e = go (is_step_of node (node_of_event w.sent x.event))
  where
    go : (b : Bool) → taken_where b x.outcome.decided ≡ []
    go true = e
    go false = refl

-- ---- what ran

pub ran_more : (steps : List Stepped) (x : Stepped) → all_ran (steps ++ x ∷ []) ≡ all_ran steps ++ x.outcome.ran
ran_more [] x = append-nil x.outcome.ran
ran_more (y ∷ steps) x = ap (λ (l : List RanAt). y.outcome.ran ++ l) (ran_more steps x) ∙ sym (append_assoc y.outcome.ran (all_ran steps) x.outcome.ran)
