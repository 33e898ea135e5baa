-- What reading the logs of nodes gives
use Rattle.std.proofs.Common.{◌≡◌, ℕ, ◌+◌, suc, ◌<◌, ◌≤◌, Bool, true, false, cond, List, [], ◌∷◌, ◌++◌, length, get_or}
use Rattle.std.proofs.Common.{take, drop, Option, Some, None, Result, Ok, Err, Bor, refl, sym, ap, subst, ◌∙◌, append_assoc, arith}
use Rattle.std.specs.List.{list_any}
use Rattle.std.proofs.Math.Path.{fun_ext}
use Rattle.std.proofs.lemmas.List.{map-append, append-nil, get_or_default}
use Rattle.std.proofs.lemmas.Bool.{ltb-true}
use Rattle.roc_sequence.proofs.Fronts.{front_more, parts_at}
use Rattle.roc_base.specs.declared.node.Node.{Node}
use Rattle.roc_base.specs.declared.node.Node.TheVariants.{Server, Coord}
use Rattle.roc_base.specs.Node.{is_node}
use Rattle.roc_program.specs.Program.{Workload}
use Rattle.roc_plan.specs.Groups.{Plan}
use Rattle.roc_wire.specs.Fits.{FitsNode, FitsHeader}
use Rattle.roc_lang_parse.proofs.Exact.{ok_same}
use Rattle.roc_sched.specs.Acts.{is_there}
use Rattle.roc_log.specs.declared.fault.What.{What}
use Rattle.roc_log.specs.declared.fault.What.TheVariants as what
use Rattle.roc_log.specs.declared.line.Log.{Log}
use Rattle.roc_log.specs.Words.{exact_words}
use Rattle.roc_log.specs.Reading.{named_node, or_there, or_unseen, first_line}
use Rattle.roc_log.specs.Logs.{IsLog, IsLogFault}
use Rattle.roc_fold.specs.Folded.{header_of}
use Rattle.roc_auditor.specs.declared.auditor.Auditor.{Auditor}
use Rattle.roc_auditor.specs.Verdict.{nodes_of}
use Rattle.roc_auditor.specs.Taken.{HasTaken}
use Rattle.roc_cli_files.specs.declared.fault.Fault.{Fault}
use Rattle.roc_cli_files.specs.declared.fault.Fault.TheVariants as fault
use Rattle.roc_cli_files.specs.Held.{Holds, HoldsLog, HoldLogsBehind, HoldLogs, most_log_bytes}
use Rattle.roc_cli_files.specs.Input.{HoldsWithin}
use Rattle.roc_cli_files.specs.Listed.{names_listed, LogFails, LogsFail, HasTakenNamed}
use Rattle.roc_cli_files.specs.Inner.Logs.{TakesOne, TakesText}

-- ---- a log's node

unseen_there : (seen : List Node) (read : Result Node What) (node : Node) → or_unseen seen read ≡ Ok node → read ≡ Ok node
unseen_there seen (Err w) node e = e
unseen_there seen (Ok other) node e = ap (λ (n : Node). Ok n) (go (list_any (is_node other) seen) e)
  where
    go : (b : Bool) → cond b (Err (what.Twice other)) (Ok other) ≡ Ok node → other ≡ node
    go true e = absurd cc
    go false e = ok_same other node e

there : (shards : ℕ) (named : Option Node) (node : Node) → or_there shards named ≡ Ok node → is_there shards node ≡ true
there shards None node e = absurd cc
there shards (Some other) node e = go (is_there shards other) refl e
  where
    go : (b : Bool) → is_there shards other ≡ b → cond b (Ok other) (Err what.Node) ≡ Ok node → is_there shards node ≡ true
    go true t e = subst (λ n. is_there shards n ≡ true) (ok_same other node e) t
    go false t e = absurd cc

node_fits : (shards : ℕ) (node : Node) → is_there shards node ≡ true → shards ≤ 64 → FitsNode node
node_fits shards (Server shard) e few = let l : shard.0 < shards = ltb-true shard.0 shards e in omega (arith, l, few)
node_fits shards (Coord number) e few = let l : number < 16 = ltb-true number 16 e in omega (arith, l)

-- the node that a first line names has a place in a header
pub first_fits : (shards : ℕ) (seen : List Node) (line : List ℕ) (node : Node) → first_line shards seen line ≡ Ok node → shards ≤ 64 → FitsNode node
unfolding first_line
first_fits shards seen line node e few =
    node_fits shards node (there shards (named_node (exact_words line)) node (unseen_there seen (or_there shards (named_node (exact_words line))) node e)) few

-- a log that was read has a header
pub log_fits : (program : Workload) (tag : List ℕ) (seen : List Node) (text : List ℕ) (log : Log) → length tag ≡ 8 → program.shards ≤ 64 → IsLog program tag seen text log → FitsHeader (header_of log)
log_fits program tag seen text log eight few is = (ap length is.tagged ∙ eight, first_fits program.shards seen is.first log.node is.node few)

-- the same log of the same program and nodes, and the same fault
pub log_so : (program other : Workload) (tag : List ℕ) (seen nodes : List Node) (text : List ℕ) (log : Log) → program ≡ other → seen ≡ nodes
    → IsLog program tag seen text log → IsLog other tag nodes text log
log_so program other tag seen nodes text log e f is = subst (λ (w : Workload). IsLog w tag nodes text log) e (subst (λ (ns : List Node). IsLog program tag ns text log) f is)

pub fault_so : (program other : Workload) (tag : List ℕ) (seen nodes : List Node) (text : List ℕ) (line : ℕ) (w : What) → program ≡ other → seen ≡ nodes
    → IsLogFault program tag seen text line w → IsLogFault other tag nodes text line w
fault_so program other tag seen nodes text line w e f is =
    subst (λ (p : Workload). IsLogFault p tag nodes text line w) e (subst (λ (ns : List Node). IsLogFault program tag ns text line w) f is)

-- ---- names, one after another

pub listed_more : (names : List (Bor (List ℕ))) (i : ℕ) (name : Bor (List ℕ)) → i < length names → name ≡ get_or names i name
    → names_listed (take (i + 1) names) ≡ names_listed (take i names) ++ name.now ∷ []
listed_more names i name within is = ap names_listed (sym (front_more names i name within is)) ∙ map-append (λ (n : Bor (List ℕ)). n.now) (take i names) (name ∷ [])

pub listed_parts : (names : List (Bor (List ℕ))) (i : ℕ) (name : Bor (List ℕ)) → i < length names → name ≡ get_or names i name
    → names_listed names ≡ names_listed (take i names) ++ name.now ∷ names_listed (drop (suc i) names)
listed_parts names i name within is = ap names_listed (sym (parts_at names i name within is)) ∙ map-append (λ (n : Bor (List ℕ)). n.now) (take i names) (name ∷ drop (suc i) names)

-- ---- logs, one after another

pub held_more : (content : List ℕ → Option (List ℕ)) (program : Workload) (tag : List ℕ) (seen : List Node) (names : List (List ℕ)) (logs : List Log) (name : List ℕ) (log : Log)
    → HoldLogsBehind content program tag seen names logs → HoldsLog content name program tag (seen ++ nodes_of logs) log
    → HoldLogsBehind content program tag seen (names ++ name ∷ []) (logs ++ log ∷ [])
held_more content program tag seen [] [] name log held is = (subst (λ (ns : List Node). HoldsLog content name program tag ns log) (append-nil seen) is, tt)
held_more content program tag seen [] (l ∷ ls) name log held is = absurd held
held_more content program tag seen (n ∷ ns) [] name log held is = absurd held
held_more content program tag seen (n ∷ ns) (l ∷ ls) name log held is = (
  held.0,
  held_more content program tag (seen ++ l.node ∷ []) ns ls name log held.1
      (subst (λ (s : List Node). HoldsLog content name program tag s log) (sym (append_assoc seen (l.node ∷ []) (nodes_of ls))) is),
)

-- one file behind those before it, by a step that left what files hold
module _ (later content : List ℕ → Option (List ℕ)) (names : List (Bor (List ℕ))) (i : ℕ) (d : Bor (List ℕ)) (plan : Plan) (tag : List ℕ) (old new : Auditor)
    (same : (n : List ℕ) → later n ≡ content n) (within : i < length names)
    (so_far : HasTakenNamed content (names_listed (take i names)) plan tag old) where
  abbrev name : Bor (List ℕ)
  name = get_or names i d

  is : name ≡ get_or names i name
  is = get_or_default names i d name within

  pub taken_further : ((logs : List Log) → HasTaken plan logs old → TakesOne later (get_or names i d).now plan tag logs new (Ok tt))
      → HasTakenNamed content (names_listed (take (i + 1) names)) plan tag new
  taken_further takes =
      let one = takes so_far.logs so_far.taken in
      record {
        logs = so_far.logs ++ one.0 ∷ [];
        held = subst (λ (ns : List (List ℕ)). HoldLogs content ns plan tag (so_far.logs ++ one.0 ∷ [])) (sym (listed_more names i name within is))
            (held_more content plan.program tag [] (names_listed (take i names)) so_far.logs name.now one.0 so_far.held
            (subst (λ (c : List ℕ → Option (List ℕ)). HoldsLog c name.now plan.program tag (nodes_of so_far.logs) one.0) (fun_ext same) one.1));
        taken = one.2;
      }

  pub fails_further : (fault : Fault) → ((logs : List Log) → HasTaken plan logs old → TakesOne later (get_or names i d).now plan tag logs new (Err fault))
      → LogsFail content (names_listed names) plan tag fault
  fails_further fault takes = record {
    before = names_listed (take i names);
    name = name.now;
    behind = names_listed (drop (suc i) names);
    logs = so_far.logs;
    parts = listed_parts names i name within is;
    held = so_far.held;
    fails = subst (λ (c : List ℕ → Option (List ℕ)). LogFails c name.now plan.program tag (nodes_of so_far.logs) fault) (fun_ext same) (takes so_far.logs so_far.taken);
  }

-- ---- the log of a file

module _ (content : List ℕ → Option (List ℕ)) (name : List ℕ) (plan : Plan) (tag : List ℕ) (logs : List Log) (auditor : Auditor) where
  -- its bytes were judged
  pub takes_one : (bytes taken : List ℕ) → HoldsWithin content name most_log_bytes bytes → taken ≡ bytes
      → (result : Result Unit Fault) → TakesText taken name plan tag logs auditor result → TakesOne content name plan tag logs auditor result
  takes_one bytes taken held e (Ok done) (log, is, has) =
      (log, record { bytes = taken; held = subst (Holds content name) (sym e) held.held; size = subst (λ n. n ≤ most_log_bytes) (sym (ap length e)) held.few; is = is }, has)
  takes_one bytes taken held e (Err (fault.Log file line w)) (f, is) =
      (f, record { bytes = taken; held = subst (Holds content name) (sym e) held.held; size = subst (λ n. n ≤ most_log_bytes) (sym (ap length e)) held.few; fault = is })
  takes_one bytes taken held e (Err fault.Memory) h = tt
  takes_one bytes taken held e (Err _) h = absurd h
