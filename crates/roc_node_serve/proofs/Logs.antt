-- What a server's node leaves of its log.
use Rattle.std.proofs.Common.{◌≡◌, inl, inr, ⊎_elim, ℕ, Bool, true, false, List, [], ◌∷◌, ◌++◌, take, refl, sym, ◌∙◌, ap, subst, append_assoc, append-nil, Option, Some, None, Result, OnOk, Bor}
use Rattle.std.proofs.lemmas.Bool.{false≢true}
use Rattle.std.proofs.lemmas.Grind.{flat_map-append}
use Rattle.std.proofs.lemmas.List.Concat.{flat_map-cons}
use Rattle.std.specs.Prelude.{is_some, option_map}
use Rattle.roc_base.specs.declared.memory.NoMemory.{NoMemory}
use Rattle.roc_base.specs.declared.node.Node.TheVariants.{Server}
use Rattle.roc_base.specs.declared.node.Shard.{Shard}
use Rattle.roc_book.specs.Call.{BookView, BookCall, Keeps, KeepsFront}
use Rattle.roc_io.specs.Link.{Reception}
use Rattle.roc_io.specs.Observed.{Adds}
use Rattle.roc_io.proofs.Told.{Adds-nil, Adds-trans}
use Rattle.roc_log.specs.declared.line.LogLine.{LogLine}
use Rattle.roc_log.specs.LogLine.{log_line_text, lines_text, node_line_text}
use Rattle.roc_program.specs.Program.{Workload}
use Rattle.roc_node.specs.NodeEvent.{NodeSetting}
use Rattle.roc_node_serve.specs.declared.ends.ServeEnd.{ServeEnd}
use Rattle.roc_node_serve.specs.declared.ends.ServeEnd.TheVariants as end
use Rattle.roc_node_serve.specs.declared.logging.BookStart.TheVariants as start
use Rattle.roc_node_serve.specs.Logging.{server_log_text, LogReached, log_unopened, log_begins, log_holds, log_cut, log_reached, LogsUnder, KeepsLog}
use Rattle.roc_node_serve.specs.ServeEnd.{Reached, unbegun, behind, filled_at, amid, serve_book_failed}
use Rattle.roc_node_serve.specs.ServerRun.{ServerNodeState}
use Rattle.roc_node_serve.specs.Inner.LogTurn.{event_line, text_for, Took, TookFront, TookAll, TookCut, TookTo, TookSo, Begins}

-- ---- texts

-- nothing was taken
pub Took-none : (logs : Bool) (a b : BookView) → b ≡ a → Took logs a b []
Took-none true a b same = subst (λ v. Took true a v []) (sym same) (refl, Adds-nil a.taken)
Took-none false a b same = same

-- a text behind a text
pub Took-trans : (logs : Bool) (a b c : BookView) (xs ys : List ℕ) → Took logs a b xs → Took logs b c ys → Took logs a c (xs ++ ys)
Took-trans true a b c xs ys p q = (q.0 ∙ p.0, Adds-trans a.taken b.taken c.taken xs ys p.1 q.1)
Took-trans false a b c xs ys p q = q ∙ p

-- lines behind lines
pub Took-lines : (logs : Bool) (program : Workload) (a b c : BookView) (ls ms : List LogLine) → Took logs a b (lines_text program ls) → Took logs b c (lines_text program ms)
    → Took logs a c (lines_text program (ls ++ ms))
Took-lines logs program a b c ls ms p q =
    subst (Took logs a c) (sym (flat_map-append (log_line_text program) ls ms)) (Took-trans logs a b c (lines_text program ls) (lines_text program ms) p q)

-- a front of a text
pub front_taken : (logs : Bool) (a b : BookView) (text : List ℕ) → (f : TookFront logs a b text) → Took logs a b (take f.2.0 text)
front_taken logs a b text f = subst (λ l. Took l a b (take f.2.0 text)) (sym f.0) (f.1, f.2.1)

-- ---- lines

-- no lines have no text
pub no_text : (logs : Bool) (program : Workload) → [] ≡ text_for logs program []
no_text true program = refl
no_text false program = refl

-- the text of an event
pub event_text : (logs : Bool) (program : Workload) (event : LogLine) (outs : List LogLine) (first all : List ℕ) → logs ≡ true → first ≡ log_line_text program event
    → all ≡ first ++ lines_text program outs → all ≡ text_for logs program (event ∷ outs)
event_text true program event outs first all kept one is = is ∙ ap (λ t. t ++ lines_text program outs) one ∙ sym (flat_map-cons (log_line_text program) event outs)
event_text false program event outs first all kept one is = absurd (false≢true kept)

-- the line of an event is that of what it is
pub event_as : (program : Workload) (before after : List ℕ) (result : Result (Unit {0}) NoMemory) (e f : Option (Bor (List ℕ))) → e ≡ f
    → OnOk result (after ≡ before ++ log_line_text program (event_line f)) → OnOk result (after ≡ before ++ log_line_text program (event_line e))
event_as program before after result e f is h = subst (λ e. OnOk result (after ≡ before ++ log_line_text program (event_line e))) (sym is) h

-- ---- the log of a call

-- where it is kept, and a text behind what it has
kept_more : (log : Option (List ℕ)) (logs : Bool) (s a b : BookView) (xs ys : List ℕ) → logs ≡ is_some log → Keeps log (record { old = s; new = a }) xs → Took logs a b ys
    → Keeps log (record { old = s; new = b }) (xs ++ ys)
kept_more None logs s a b xs ys named k t = let took : Took false a b ys = subst (λ l. Took l a b ys) named t in took ∙ k
kept_more (Some name) logs s a b xs ys named k t =
    let took : Took true a b ys = subst (λ l. Took l a b ys) named t in
    (subst (λ o. Adds s.opened o (name ∷ [])) (sym took.0) k.0, Adds-trans s.taken a.taken b.taken xs ys k.1 took.1)

module _ (log : Option (List ℕ)) (logs : Bool) (S : NodeSetting) (shard : Shard) (first : ServerNodeState) (s a b : BookView) (named : logs ≡ is_some log)
    (begun : Keeps log (record { old = s; new = a }) (server_log_text S shard first)) where
  abbrev head : List ℕ
  head = node_line_text (Server shard)

  abbrev text : List LogLine → List ℕ
  text lines = lines_text S.plan.program lines

  abbrev gains : BookCall
  gains = record { old = s; new = b }

  -- a text that begins with the lines of the first node
  grown : (all lines : List LogLine) → all ≡ first.logged ++ lines → head ++ text all ≡ (head ++ text first.logged) ++ text lines
  grown all lines is =
      ap (λ l. head ++ text l) is ∙ ap (λ t. head ++ t) (flat_map-append (log_line_text S.plan.program) first.logged lines) ∙ sym (append_assoc head (text first.logged) (text lines))

  all_kept : (node : ServerNodeState) → TookAll logs a b S.plan.program first node → Keeps log gains (server_log_text S shard node)
  all_kept node t = subst (Keeps log gains) (sym (grown node.logged t.lines t.is)) (kept_more log logs s a b _ _ named begun t.took)

  -- with a front of more lines behind
  cut_kept : (node : ServerNodeState) (last : List Reception) → (t : TookCut logs a b S first node last) → KeepsFront log gains (server_log_text S shard node) (text t.more)
  cut_kept node last t = (
    t.cut,
    subst (Keeps log gains) (sym (append_assoc (head ++ text first.logged) (text t.lines) (take t.cut (text t.more)))
        ∙ ap (λ h. h ++ take t.cut (text t.more)) (sym (grown node.logged t.lines t.before)))
        (kept_more log logs s a b _ _ named begun t.took),
  )

module _ (logs : Bool) (S : NodeSetting) (shard : Shard) (first : ServerNodeState) (s a b : BookView) where
  -- under a name
  kept_to : (name : List ℕ) → logs ≡ true → Keeps (Some name) (record { old = s; new = a }) (server_log_text S shard first)
      → (l : LogReached) → TookTo logs a b S first l → LogsUnder name (record { old = s; new = b }) S shard l
  kept_to name named begun log_unopened t = absurd t
  kept_to name named begun (log_begins node) t = absurd t
  kept_to name named begun (log_holds node) t = all_kept (Some name) logs S shard first s a b named begun node t
  kept_to name named begun (log_cut node last) t =
      record { event = t.event; is = t.is; next = t.next; after = t.after; lines = t.more; adds = t.adds; keeps = cut_kept (Some name) logs S shard first s a b named begun node last t }

  -- without one the book took nothing
  stays_to : logs ≡ false → a ≡ s → (l : LogReached) → TookTo logs a b S first l → b ≡ s
  stays_to named begun log_unopened t = absurd t
  stays_to named begun (log_begins node) t = absurd t
  stays_to named begun (log_holds node) t = all_kept None logs S shard first s a b named begun node t
  stays_to named begun (log_cut node last) t = absurd (false≢true (sym named ∙ t.kept))

  -- and did not fail
  unfailed : logs ≡ false → (reached : Reached) (e : ServeEnd) → TookSo logs a b S first reached e → serve_book_failed e ≡ false
  unfailed named reached end.Done t = refl
  unfailed named reached end.LinkFault t = refl
  unfailed named reached end.SinkFault t = refl
  unfailed named reached end.NoMemory t = refl
  unfailed named reached (end.Journal at) t = refl
  unfailed named reached end.Full t = refl
  unfailed named reached end.Disk t = refl
  unfailed named unbegun end.BookFault t = absurd t
  unfailed named (behind events node) end.BookFault t = absurd t
  unfailed named (filled_at events node header msg) end.BookFault t = absurd t
  unfailed named (amid events node last) end.BookFault t = absurd (false≢true (sym named ∙ t.kept))

  -- behind the first lines of a log
  pub kept_so : (log : Option (List ℕ)) → logs ≡ is_some log → Keeps log (record { old = s; new = a }) (server_log_text S shard first)
      → (reached : Reached) (e : ServeEnd) → TookSo logs a b S first reached e → KeepsLog log (record { old = s; new = b }) S shard reached e
  kept_so None named begun reached e t = (stays_to named begun (log_reached reached e) t, unfailed named reached e t)
  kept_so (Some name) named begun reached e t = kept_to name named begun (log_reached reached e) t

-- nothing was taken since the first lines
pub took_none : (logs : Bool) (a : BookView) (program : Workload) (first : ServerNodeState) → TookAll logs a a program first first
took_none logs a program first = record { lines = []; is = sym (append-nil first.logged); took = Took-none logs a a refl }

-- ---- the first lines

-- whether a log is named
pub named_as : (log : Option (Bor (List ℕ))) → is_some log ≡ is_some (option_map (λ (n : Bor (List ℕ)). n.now) log)
named_as None = refl
named_as (Some name) = refl

-- the text of the first node
pub first_lines : (logs : Bool) (S : NodeSetting) (shard : Shard) (first : ServerNodeState) (lines : List ℕ) → logs ≡ true → lines ≡ text_for logs S.plan.program first.logged
    → node_line_text (Server shard) ++ lines ≡ server_log_text S shard first
first_lines logs S shard first lines named is = ap (λ l. node_line_text (Server shard) ++ l) (is ∙ ap (λ b. text_for b S.plan.program first.logged) named)

-- the book was begun
pub begun_with : (log : Option (List ℕ)) (logs : Bool) (book : BookCall) (S : NodeSetting) (shard : Shard) (first : ServerNodeState) (lines : List ℕ) → logs ≡ is_some log
    → lines ≡ text_for logs S.plan.program first.logged
    → Begins log book (node_line_text (Server shard) ++ lines) start.Ready → Keeps log book (server_log_text S shard first)
begun_with None logs book S shard first lines named is b = b
begun_with (Some name) logs book S shard first lines named is b = subst (Keeps (Some name) book) (first_lines logs S shard first lines named is) b

-- it was not opened
pub not_begun : (log : Option (List ℕ)) (book : BookCall) (S : NodeSetting) (shard : Shard) (first : ServerNodeState) → book.new ≡ book.old
    → KeepsLog log book S shard (behind [] first) end.NoMemory
not_begun None book S shard first same = (same, refl)
not_begun (Some name) book S shard first same = same

-- it failed
pub begun_ill : (log : Option (List ℕ)) (logs : Bool) (book : BookCall) (S : NodeSetting) (shard : Shard) (first : ServerNodeState) (lines : List ℕ) → logs ≡ is_some log
    → lines ≡ text_for logs S.plan.program first.logged
    → Begins log book (node_line_text (Server shard) ++ lines) start.Failed → KeepsLog log book S shard (behind [] first) end.BookFault
begun_ill None logs book S shard first lines named is b = absurd b
begun_ill (Some name) logs book S shard first lines named is b =
    ⊎_elim (λ same. inl same) (λ front. inr (subst (KeepsFront (Some name) book []) (first_lines logs S shard first lines named is) front)) b

-- no server was there
pub never_begun : (log : Option (List ℕ)) (book : BookCall) (S : NodeSetting) (shard : Shard) (e : ServeEnd) → book.new ≡ book.old → serve_book_failed e ≡ false
    → KeepsLog log book S shard unbegun e
never_begun None book S shard e same well = (same, well)
never_begun (Some name) book S shard e same well = same
