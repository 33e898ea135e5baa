-- What a node leaves of its book, and that one which goes over has none
use Rattle.std.proofs.Common.{◌≡◌, inl, inr, ℕ, Bool, true, false, List, [], Option, Some, None, refl, sym, ap, subst, ◌∙◌}
use Rattle.std.specs.Prelude.{unwrap_or, is_some}
use Rattle.std.proofs.lemmas.Bool.{false≢true}
use Rattle.std.proofs.lemmas.Option.{none-some}
use Rattle.roc_base.specs.declared.node.Shard.{Shard}
use Rattle.roc_book.specs.Call.{BookCall}
use Rattle.roc_disk.specs.declared.disk.Disk.{Ghosts as DiskOf}
use Rattle.roc_io.specs.Call.{NodeCall}
use Rattle.roc_io.specs.declared.link.Addr.{Addr}
use Rattle.roc_node.specs.NodeEvent.{NodeSetting}
use Rattle.roc_node_serve.specs.declared.ends.ServeEnd.{ServeEnd}
use Rattle.roc_node_serve.specs.declared.ends.ServeEnd.TheVariants as serve_end
use Rattle.roc_node_serve.specs.Keeping.{ServesWith}
use Rattle.roc_node_serve.specs.Logging.{KeepsLog}
use Rattle.roc_node_serve.specs.ServeEnd.{is_end_of_journal, serve_book_failed, Reached, Serves, unbegun, refused, unopened, unbegan, unbound, serve_refused}
use Rattle.roc_node_serve.specs.ServerRun.{ServerNodeState}
use Rattle.roc_node_submit.specs.CoordRun.{CoordNodeState, is_answered}
use Rattle.roc_node_submit.specs.SubmitEnd as submits
use Rattle.roc_node_submit.specs.SubmitEnd.{TurnsCall, turns_of, end_of, Submits, BindsAndSubmits, unlogged_submissions, unlogged_event, over, submit_book_failed}
use Rattle.roc_node_submit.specs.declared.ends.SubmitEnd.{SubmitEnd}
use Rattle.roc_node_submit.specs.declared.ends.SubmitEnd.TheVariants as submit_end
use Rattle.roc_sched.specs.declared.line.Request.{Request}
use Rattle.roc_grown_node.specs.Setting.{GrownNodeSetting}
use Rattle.roc_grown_serve.specs.GrownRun.{GrownNodeState}
use Rattle.roc_grown_serve.specs.ServesGrowing as serving
use Rattle.roc_grown_serve.specs.ServesGrowing.{ServesGrowing}
use Rattle.roc_grown_submit.specs.GrownCoordRun.{as_plain}
use Rattle.roc_grown_submit.specs.GrownEnd as submitting
use Rattle.roc_grown_submit.specs.GrownEnd.{SubmitsGrowing, BindsAndSubmitsGrowing}
use Rattle.roc_cli_nodes.specs.Call.{LeavesBook}

-- a book that failed was named
of_log : (log : Option (List ℕ)) (book : BookCall) (S : NodeSetting) (shard : Shard) (reached : Reached) → KeepsLog log book S shard reached serve_end.BookFault → log ≡ Some (unwrap_or log [])
of_log None book S shard reached h = absurd (false≢true (sym h.1))
of_log (Some name) book S shard reached h = refl

-- without a log nothing was kept
unkept : (log : Option (List ℕ)) (book : BookCall) (S : NodeSetting) (shard : Shard) (reached : Reached) (end : ServeEnd) → log ≡ None → KeepsLog log book S shard reached end → LeavesBook book
unkept None book S shard reached end e h = h.0
unkept (Some name) book S shard reached end e h = absurd (none-some name (sym e))

-- ..nor before there was a node
unbegun_kept : (log : Option (List ℕ)) (book : BookCall) (S : NodeSetting) (shard : Shard) (end : ServeEnd) → KeepsLog log book S shard unbegun end → LeavesBook book
unbegun_kept None book S shard end h = h.0
unbegun_kept (Some name) book S shard end h = h

-- a journal was refused before that
refused_unbegun : (S : NodeSetting) (first : ServerNodeState) (shard : Shard) (own : Addr) (turns : ℕ) (counts : Bool) (call : NodeCall) (reached : Reached) (end : ServeEnd)
    → Serves S first shard own turns counts call reached end → serve_refused end ≡ true → reached ≡ unbegun
refused_unbegun S first shard own turns counts call _ _ (refused at h) e = refl
refused_unbegun S first shard own turns counts call _ _ (unopened h) e = absurd (false≢true e)
refused_unbegun S first shard own turns counts call _ _ (unbegan h) e = absurd (false≢true e)
refused_unbegun S first shard own turns counts call _ _ (unbound end (inl is) h) e = absurd (false≢true (sym (ap serve_refused is) ∙ e))
refused_unbegun S first shard own turns counts call _ _ (unbound end (inr is) h) e = absurd (false≢true (sym (ap serve_refused is) ∙ e))
refused_unbegun S first shard own turns counts call _ _ _ e = absurd (false≢true e)

module _ {D : Type 0} (disk : DiskOf D) (old new : D) (journal log : Option (List ℕ)) (S : NodeSetting) (shard : Shard) (own : Addr) (turns : ℕ) (counts : Bool) (call : NodeCall) (book : BookCall) where
  pub log_there : ServesWith disk old new journal log S shard own turns counts call book serve_end.BookFault → log ≡ Some (unwrap_or log [])
  log_there h = go journal h
    where
      go : (o : Option (List ℕ)) → ServesWith disk old new o log S shard own turns counts call book serve_end.BookFault → log ≡ Some (unwrap_or log [])
      go None h = of_log log book S shard h.reached h.logs
      go (Some name) h = of_log log book S shard h.reached h.logs

  module _ (end : ServeEnd) where
    pub unlogged_leaves : log ≡ None → ServesWith disk old new journal log S shard own turns counts call book end → LeavesBook book
    unlogged_leaves e h = go journal h
      where
        go : (o : Option (List ℕ)) → ServesWith disk old new o log S shard own turns counts call book end → LeavesBook book
        go None h = unkept log book S shard h.reached end e h.logs
        go (Some name) h = unkept log book S shard h.reached end e h.logs

    pub refused_leaves : serve_refused end ≡ true → ServesWith disk old new journal log S shard own turns counts call book end → LeavesBook book
    refused_leaves e h = go journal h
      where
        left : (reached : Reached) → reached ≡ unbegun → KeepsLog log book S shard reached end → LeavesBook book
        left reached is kept = unbegun_kept log book S shard end (subst (λ r. KeepsLog log book S shard r end) is kept)

        go : (o : Option (List ℕ)) → ServesWith disk old new o log S shard own turns counts call book end → LeavesBook book
        go None h = left h.reached (refused_unbegun S _ shard own turns counts call h.reached end h.serves e) h.logs
        go (Some name) h = left h.reached (refused_unbegun S _ shard own turns counts call h.reached end h.serves e) h.logs

-- a coordinator's book fails only where a log was named
named_log : (log : Option (List ℕ)) → is_some log ≡ true → log ≡ Some (unwrap_or log [])
named_log None e = absurd (false≢true e)
named_log (Some name) e = refl

ends_without_book : (node : CoordNodeState) → submit_book_failed (end_of node) ≡ false
ends_without_book node = go (is_answered node) refl
  where
    go : (b : Bool) → is_answered node ≡ b → submit_book_failed (end_of node) ≡ false
    go true e = rw e
    go false e = rw e

turns_log : (S : NodeSetting) (number : ℕ) (requests : List Request) (turns : ℕ) (log : Option (List ℕ)) (call : TurnsCall) (book : BookCall) (end : SubmitEnd)
    → Submits S number requests turns log call book end → submit_book_failed end ≡ true → is_some log ≡ true
turns_log S number requests turns log call book _ (unlogged_submissions events node named run goes few moves adds keeps) e = named
turns_log S number requests turns log call book _ (unlogged_event events node event named run goes few moves adds keeps) e = named
turns_log S number requests turns log call book _ (over events node end is run few past each moves adds keeps) e =
    absurd (false≢true (sym (ap submit_book_failed is ∙ ends_without_book node) ∙ e))
turns_log S number requests turns log call book _ _ e = absurd (false≢true e)

bound_log : (S : NodeSetting) (number : ℕ) (requests : List Request) (turns : ℕ) (log : Option (List ℕ)) (call : NodeCall) (book : BookCall) (end : SubmitEnd)
    → BindsAndSubmits S number requests turns log call book end → submit_book_failed end ≡ true → is_some log ≡ true
bound_log S number requests turns log call book _ (submits.unopened named idle same) e = named
bound_log S number requests turns log call book _ (submits.unlogged_node named idle keeps) e = named
bound_log S number requests turns log call book _ (submits.bound end adds h) e = turns_log S number requests turns log (turns_of call) book end h e
bound_log S number requests turns log call book _ _ e = absurd (false≢true e)

pub submitted_log : (S : NodeSetting) (number : ℕ) (requests : List Request) (turns : ℕ) (log : Option (List ℕ)) (call : NodeCall) (book : BookCall)
    → BindsAndSubmits S number requests turns log call book submit_end.BookFault → log ≡ Some (unwrap_or log [])
submitted_log S number requests turns log call book h = named_log log (bound_log S number requests turns log call book submit_end.BookFault h refl)

-- ---- nodes that go over

-- they end by no journal and by no log
grown_unkept : (S : GrownNodeSetting) (first : GrownNodeState) (shard : Shard) (own : Addr) (turns : ℕ) (counts : Bool) (call : NodeCall) (end : ServeEnd)
    → ServesGrowing S first shard own turns counts call end → (is_end_of_journal end ≡ false) × (serve_book_failed end ≡ false)
grown_unkept S first shard own turns counts call _ (serving.unbound end (inl is) h) = (ap is_end_of_journal is, ap serve_book_failed is)
grown_unkept S first shard own turns counts call _ (serving.unbound end (inr is) h) = (ap is_end_of_journal is, ap serve_book_failed is)
grown_unkept S first shard own turns counts call _ (serving.unserved bound moves adds) = (refl, refl)
grown_unkept S first shard own turns counts call _ (serving.cut_off events node bound runs goes few greeted) = (refl, refl)
grown_unkept S first shard own turns counts call _ (serving.wanted events node last bound runs few greeted) = (refl, refl)
grown_unkept S first shard own turns counts call _ (serving.untold events node bound runs past adds) = (refl, refl)
grown_unkept S first shard own turns counts call _ (serving.done events node bound runs past adds) = (refl, refl)

pub no_journal_grown : (S : GrownNodeSetting) (first : GrownNodeState) (shard : Shard) (own : Addr) (turns : ℕ) (counts : Bool) (call : NodeCall) (end : ServeEnd)
    → ServesGrowing S first shard own turns counts call end → is_end_of_journal end ≡ true → ⊥
no_journal_grown S first shard own turns counts call end h e = let plain = grown_unkept S first shard own turns counts call end h in false≢true (sym plain.0 ∙ e)

pub no_log_grown : (S : GrownNodeSetting) (first : GrownNodeState) (shard : Shard) (own : Addr) (turns : ℕ) (counts : Bool) (call : NodeCall)
    → ServesGrowing S first shard own turns counts call serve_end.BookFault → ⊥
no_log_grown S first shard own turns counts call h = let plain = grown_unkept S first shard own turns counts call serve_end.BookFault h in false≢true (sym plain.1)

grown_turns_unlogged : (S : GrownNodeSetting) (number : ℕ) (requests later : List Request) (turns : ℕ) (call : TurnsCall) (end : SubmitEnd) → SubmitsGrowing S number requests later turns call end
    → submit_book_failed end ≡ false
grown_turns_unlogged S number requests later turns call _ (submitting.over events node half end is run past each moves adds) = ap submit_book_failed is ∙ ends_without_book (as_plain (submitting.grown_half S node half))
grown_turns_unlogged S number requests later turns call _ (submitting.cut_off events node run goes few moves adds) = refl
grown_turns_unlogged S number requests later turns call _ _ = refl

pub no_log_grown_submit : (S : GrownNodeSetting) (number : ℕ) (requests later : List Request) (turns : ℕ) (call : NodeCall)
    → BindsAndSubmitsGrowing S number requests later turns call submit_end.BookFault → ⊥
no_log_grown_submit S number requests later turns call (submitting.bound end adds h) = false≢true (sym (grown_turns_unlogged S number requests later turns (turns_of call) submit_end.BookFault h))
