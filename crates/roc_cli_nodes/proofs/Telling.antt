-- How a node ended, told of its loop
use Rattle.std.specs.Prelude.{option_map, unwrap_or}
use Rattle.std.proofs.lemmas.Bool.{false≢true}
use Rattle.std.proofs.lemmas.Option.{none-some}
use Rattle.std.proofs.Common.{◌≡◌, ℕ, Bool, false, List, [], Option, Some, None, Result, Ok, Err, refl, sym, ap, subst, ◌∙◌}
use Rattle.roc_base.specs.declared.node.Shard.{Shard}
use Rattle.roc_base.specs.declared.node.Node.TheVariants.{Server, Coord}
use Rattle.roc_io.specs.declared.link.Addr.{Addr}
use Rattle.roc_plan.specs.Groups.{Plan}
use Rattle.roc_epoch.specs.declared.next.Next.{Next}
use Rattle.roc_sched.specs.declared.line.Request.{Request}
use Rattle.roc_node.specs.NodeEvent.{NodeSetting, node_setting}
use Rattle.roc_node_serve.specs.declared.ends.ServeEnd.{ServeEnd}
use Rattle.roc_node_serve.specs.declared.ends.ServeEnd.TheVariants as serve_end
use Rattle.roc_node_serve.specs.ServeEnd.{is_end_of_journal, serve_refused, serve_disk_failed}
use Rattle.roc_node_serve.specs.Keeping.{ServesWith}
use Rattle.roc_node_submit.specs.SubmitEnd.{BindsAndSubmits}
use Rattle.roc_grown_node.specs.Setting.{GrownNodeSetting, grown_node_setting}
use Rattle.roc_grown_serve.specs.GrownRun.{first_grown_node}
use Rattle.roc_grown_serve.specs.ServesGrowing.{ServesGrowing}
use Rattle.roc_grown_submit.specs.GrownEnd.{BindsAndSubmitsGrowing}
use Rattle.roc_node_submit.specs.declared.ends.SubmitEnd.{SubmitEnd}
use Rattle.roc_book.specs.Call.{BookCall}
use Rattle.roc_cli_files.specs.declared.fault.Fault.{Fault}
use Rattle.roc_cli_files.specs.declared.fault.Fault.TheVariants.{Journal, Memory, Unanswered, Sink, Link, Child, Disk, Full, Book}
use Rattle.roc_io.specs.Call.{NodeCall}
use Rattle.roc_cli_nodes.specs.Call.{DiskCall}
use Rattle.roc_cli_nodes.specs.NodeEnds as nodes_end
use Rattle.roc_cli_nodes.specs.NodeEnds.{NodesEnd, end_of_serve, end_of_submit}
use Rattle.roc_cli_nodes.specs.Ends.{LoopEnded}
use Rattle.roc_cli_nodes.specs.Inner.Running.{ServesAs, ServesGrowingAs, SubmitsAs, SubmitsGrowingAs, ByNext, no_child}

-- a journal without a name is none
pub unnamed : {A B : Type 0} (f : A → B) (o : Option A) → option_map f o ≡ None → o ≡ None
unnamed f None e = refl
unnamed f (Some a) e = absurd (none-some (f a) (sym e))

-- what is told of a loop, told of the command
pub loop_told : (P Q : NodesEnd → Type 0) (C D : Shard → Option ℕ → Type 0) (result : Result Unit Fault) → ((end : NodesEnd) → P end → Q end)
    → ((shard : Shard) (status : Option ℕ) → C shard status → D shard status) → LoopEnded P C result → LoopEnded Q D result
loop_told P Q C D (Ok done) more child h = more nodes_end.Done h
loop_told P Q C D (Err Memory) more child h = more nodes_end.NoMemory h
loop_told P Q C D (Err Unanswered) more child h = more nodes_end.Unanswered h
loop_told P Q C D (Err Sink) more child h = more nodes_end.SinkFault h
loop_told P Q C D (Err Link) more child h = more nodes_end.LinkFault h
loop_told P Q C D (Err (Child shard status)) more child h = child shard status h
loop_told P Q C D (Err (Journal file)) more child h = more (nodes_end.Journal file.now) h
loop_told P Q C D (Err (Disk file)) more child h = more (nodes_end.DiskFault file.now) h
loop_told P Q C D (Err (Full file)) more child h = more (nodes_end.Full file.now) h
loop_told P Q C D (Err (Book file)) more child h = more (nodes_end.BookFault file.now) h
loop_told P Q C D (Err _) more child h = absurd h

-- how a server ended, told of its loop
pub serve_told : (disk : DiskCall) (journal log : Option (List ℕ)) (S : NodeSetting) (shard : Shard) (own : Addr) (turns : ℕ) (counts : Bool) (call : NodeCall) (book : BookCall) (file under : List ℕ) (end : ServeEnd)
    (result : Result Unit Fault) → file ≡ unwrap_or journal [] → under ≡ unwrap_or log [] → ServesWith disk.of disk.old disk.new journal log S shard own turns counts call book end
    → LoopEnded (λ e. end_of_serve file under end ≡ e) no_child result → LoopEnded (ServesAs disk journal log S shard own turns counts call book) no_child result
serve_told disk journal log S shard own turns counts call book file under end result kept logged serves told =
    loop_told (λ e. end_of_serve file under end ≡ e) (ServesAs disk journal log S shard own turns counts call book) no_child no_child result
    (λ e is. (end, ap (λ name. end_of_serve name (unwrap_or log []) end) (sym kept) ∙ ap (λ name. end_of_serve file name end) (sym logged) ∙ is, serves)) (λ shard status h. h) told

-- how a coordinator ended, told of its loop
module _ (S : NodeSetting) (coord : ℕ) (requests given : List Request) (turns : ℕ) (log : Option (List ℕ)) (call : NodeCall) (book : BookCall) (under : List ℕ) (end : SubmitEnd) (result : Result Unit Fault) where
  pub submit_told : given ≡ requests → under ≡ unwrap_or log [] → BindsAndSubmits S coord given turns log call book end
      → LoopEnded (λ e. end_of_submit under end ≡ e) no_child result → LoopEnded (SubmitsAs S coord requests turns log call book) no_child result
  submit_told same logged submits told =
      let own = subst (λ (r : List Request). BindsAndSubmits S coord r turns log call book end) same submits in
      loop_told (λ e. end_of_submit under end ≡ e) (SubmitsAs S coord requests turns log call book) no_child no_child result
      (λ e is. (end, ap (λ name. end_of_submit name end) (sym logged) ∙ is, own)) (λ shard status h. h) told

-- how those ended that go over, told of their loops: they have neither a journal nor a log
module _ (S : GrownNodeSetting) (shard : Shard) (own : Addr) (turns : ℕ) (counts : Bool) (call : NodeCall) (end : ServeEnd) (result : Result Unit Fault) where
  pub grown_serve_told : ServesGrowing S (first_grown_node S.plan shard) shard own turns counts call end → LoopEnded (λ e. end_of_serve [] [] end ≡ e) no_child result
      → LoopEnded (ServesGrowingAs S shard own turns counts call) no_child result
  grown_serve_told serves told =
      loop_told (λ e. end_of_serve [] [] end ≡ e) (ServesGrowingAs S shard own turns counts call) no_child no_child result (λ e is. (end, is, serves)) (λ shard status h. h) told

module _ (S : GrownNodeSetting) (coord : ℕ) (requests later given behind : List Request) (turns : ℕ) (call : NodeCall) (end : SubmitEnd) (result : Result Unit Fault) where
  pub grown_submit_told : given ≡ requests → behind ≡ later → BindsAndSubmitsGrowing S coord given behind turns call end → LoopEnded (λ e. end_of_submit [] end ≡ e) no_child result
      → LoopEnded (SubmitsGrowingAs S coord requests later turns call) no_child result
  grown_submit_told same too submits told =
      let own = subst (λ (r : List Request). BindsAndSubmitsGrowing S coord r later turns call end) same (subst (λ (r : List Request). BindsAndSubmitsGrowing S coord given r turns call end) too submits) in
      loop_told (λ e. end_of_submit [] end ≡ e) (SubmitsGrowingAs S coord requests later turns call) no_child no_child result (λ e is. (end, is, own)) (λ shard status h. h) told

-- such an end is not that of a journal, and no book failed
pub no_journal_no_disk : (end : ServeEnd) → is_end_of_journal end ≡ false → (serve_refused end ≡ false) × (serve_disk_failed end ≡ false)
no_journal_no_disk serve_end.Done e = (refl, refl)
no_journal_no_disk serve_end.LinkFault e = (refl, refl)
no_journal_no_disk serve_end.SinkFault e = (refl, refl)
no_journal_no_disk serve_end.NoMemory e = (refl, refl)
no_journal_no_disk serve_end.BookFault e = (refl, refl)
no_journal_no_disk (serve_end.Journal at) e = absurd (false≢true (sym e))
no_journal_no_disk serve_end.Full e = absurd (false≢true (sym e))
no_journal_no_disk serve_end.Disk e = absurd (false≢true (sym e))

-- whichever was read, told of the loop
module _ (P : NodesEnd → Type 0) (G : Next → NodesEnd → Type 0) (C : Shard → Option ℕ → Type 0) (result : Result Unit Fault) where
  plain_loop : (next : Option Next) → next ≡ None → LoopEnded P C result → LoopEnded (ByNext next P G) C result
  plain_loop next e h = subst (λ (n : Option Next). LoopEnded (ByNext n P G) C result) (sym e) h

  grown_loop : (next : Option Next) (n : Next) → next ≡ Some n → LoopEnded (G n) C result → LoopEnded (ByNext next P G) C result
  grown_loop next n e h = subst (λ (m : Option Next). LoopEnded (ByNext m P G) C result) (sym e) h

-- ..of a server
module _ (disk : DiskCall) (journal log : Option (List ℕ)) (plan : Plan) (tag : List ℕ) (cluster : List Addr) (shard : Shard) (own : Addr) (turns : ℕ) (counts : Bool) (call : NodeCall) (book : BookCall)
    (next : Option Next) (result : Result Unit Fault) where
  pub plain_serve_loop : next ≡ None
      → LoopEnded (ServesAs disk journal log (node_setting plan tag (Server shard) cluster) shard own turns counts call book) no_child result
      → LoopEnded (ByNext next (ServesAs disk journal log (node_setting plan tag (Server shard) cluster) shard own turns counts call book)
      (λ n. ServesGrowingAs (grown_node_setting plan tag n (Server shard) cluster) shard own turns counts call)) no_child result
  plain_serve_loop e h =
      plain_loop (ServesAs disk journal log (node_setting plan tag (Server shard) cluster) shard own turns counts call book)
      (λ n. ServesGrowingAs (grown_node_setting plan tag n (Server shard) cluster) shard own turns counts call) no_child result next e h

  pub grown_serve_loop : (n : Next) → next ≡ Some n
      → LoopEnded (ServesGrowingAs (grown_node_setting plan tag n (Server shard) cluster) shard own turns counts call) no_child result
      → LoopEnded (ByNext next (ServesAs disk journal log (node_setting plan tag (Server shard) cluster) shard own turns counts call book)
      (λ n. ServesGrowingAs (grown_node_setting plan tag n (Server shard) cluster) shard own turns counts call)) no_child result
  grown_serve_loop n e h =
      grown_loop (ServesAs disk journal log (node_setting plan tag (Server shard) cluster) shard own turns counts call book)
      (λ n. ServesGrowingAs (grown_node_setting plan tag n (Server shard) cluster) shard own turns counts call) no_child result next n e h

-- ..and of a coordinator
module _ (plan : Plan) (tag : List ℕ) (cluster : List Addr) (coord : ℕ) (requests later : List Request) (turns : ℕ) (log : Option (List ℕ)) (call : NodeCall) (book : BookCall) (next : Option Next)
    (result : Result Unit Fault) where
  pub plain_submit_loop : next ≡ None
      → LoopEnded (SubmitsAs (node_setting plan tag (Coord coord) cluster) coord requests turns log call book) no_child result
      → LoopEnded (ByNext next (SubmitsAs (node_setting plan tag (Coord coord) cluster) coord requests turns log call book)
      (λ n. SubmitsGrowingAs (grown_node_setting plan tag n (Coord coord) cluster) coord requests later turns call)) no_child result
  plain_submit_loop e h =
      plain_loop (SubmitsAs (node_setting plan tag (Coord coord) cluster) coord requests turns log call book)
      (λ n. SubmitsGrowingAs (grown_node_setting plan tag n (Coord coord) cluster) coord requests later turns call) no_child result next e h

  pub grown_submit_loop : (n : Next) → next ≡ Some n
      → LoopEnded (SubmitsGrowingAs (grown_node_setting plan tag n (Coord coord) cluster) coord requests later turns call) no_child result
      → LoopEnded (ByNext next (SubmitsAs (node_setting plan tag (Coord coord) cluster) coord requests turns log call book)
      (λ n. SubmitsGrowingAs (grown_node_setting plan tag n (Coord coord) cluster) coord requests later turns call)) no_child result
  grown_submit_loop n e h =
      grown_loop (SubmitsAs (node_setting plan tag (Coord coord) cluster) coord requests turns log call book)
      (λ n. SubmitsGrowingAs (grown_node_setting plan tag n (Coord coord) cluster) coord requests later turns call) no_child result next n e h
