-- A count rises exactly where the status is its own
use Rattle.std.proofs.Common.{◌≡◌, ◌⊎◌, inl, inr, ℕ, ◌≤◌, ◌==◌, Bool, IsTrue, true, false, List, [], ◌∷◌, Option, Result, Ok, Err, refl, sym, ap, subst, ◌∙◌, arith}
use Rattle.roc_io.specs.Cause.{HasCause}
use Rattle.roc_cli_files.specs.declared.fault.Fault.{Fault}
use Rattle.roc_cli_files.specs.declared.fault.Fault.TheVariants.{Rejected, Refused, Value, NoShard, Growth, Same, Journal, Memory, Unanswered, File, Sink, Link, Child, Disk, Full, Refuted, Book}
use Rattle.roc_cli_files.specs.Says.{Errors}
use Rattle.roc_cli_words.specs.declared.value.Part.{Part}
use Rattle.roc_cli_nodes.specs.Call.{RunCall}
use Rattle.roc_cli_nodes.specs.Words.{NamesJournal, NamesLog, NamesNodes}
use Rattle.roc_cli.specs.Status.{IsOneOf, IsQuiet, IsUnkept, IsUnlogged}
use Rattle.roc_cli_files.specs.Fault.{IsTold, EndsWith, line_of, blames_file, blames_sink, blames_link, blames_disk, blames_book, fails_by, ReadsBut}
use Rattle.roc_cli_nodes.specs.Ends.{precedes_loop, precedes_journal, CountsChildren}
use Rattle.roc_cli.specs.Inner.Ends.{Ends, GenEnds}

counted_at : (status n wanted : ℕ) (test : Bool) (old new : ℕ) → status ≡ n → (n == wanted) ≡ test → HasCause test old new → HasCause (status == wanted) old new
counted_at status n wanted test old new e f h = subst (λ b. HasCause b old new) (sym (ap (λ m. m == wanted) e ∙ f)) h

-- where a child was told, none
child_counted : (line : List ℕ) (status wanted : ℕ) (err : Errors) (old new : ℕ) → (9 == wanted) ≡ false → (4 == wanted) ≡ false
    → EndsWith 9 line status err ⊎ EndsWith 4 (line_of Memory) status err → HasCause false old new → HasCause (status == wanted) old new
child_counted line status wanted err old new f g (inl (e, says)) h = counted_at status 9 wanted false old new e f h
child_counted line status wanted err old new f g (inr (e, says)) h = counted_at status 4 wanted false old new e g h

-- where a refused file was told, neither
refusal_counted : (line : List ℕ) (status wanted : ℕ) (err : Errors) (old new : ℕ) → (3 == wanted) ≡ false → (4 == wanted) ≡ false
    → EndsWith 3 line status err ⊎ EndsWith 4 (line_of Memory) status err → HasCause false old new → HasCause (status == wanted) old new
refusal_counted line status wanted err old new f g (inl (e, says)) h = counted_at status 3 wanted false old new e f h
refusal_counted line status wanted err old new f g (inr (e, says)) h = counted_at status 4 wanted false old new e g h

pub file_counted : (fault : Fault) (status : ℕ) (err : Errors) (old new : ℕ) → IsTold fault status err → HasCause (blames_file fault) old new → HasCause (status == 6) old new
file_counted Rejected status err old new e h = counted_at status 1 6 false old new e refl h
file_counted Unanswered status err old new e h = counted_at status 5 6 false old new e refl h
file_counted (Refused text) status err old new (e, says) h = counted_at status 2 6 false old new e refl h
file_counted (Value name) status err old new (e, says) h = counted_at status 2 6 false old new e refl h
file_counted NoShard status err old new (e, says) h = counted_at status 2 6 false old new e refl h
file_counted Memory status err old new (e, says) h = counted_at status 4 6 false old new e refl h
file_counted (File file) status err old new (e, says) h = counted_at status 6 6 true old new e refl h
file_counted Sink status err old new (e, says) h = counted_at status 7 6 false old new e refl h
file_counted Link status err old new (e, says) h = counted_at status 8 6 false old new e refl h
file_counted (Growth file fault) status err old new (e, says) h = counted_at status 3 6 false old new e refl h
file_counted (Same file) status err old new (e, says) h = counted_at status 3 6 false old new e refl h
file_counted (Journal file) status err old new (e, says) h = counted_at status 3 6 false old new e refl h
file_counted (Disk file) status err old new (e, says) h = counted_at status 10 6 false old new e refl h
file_counted (Full file) status err old new (e, says) h = counted_at status 11 6 false old new e refl h
file_counted Refuted status err old new e h = counted_at status 12 6 false old new e refl h
file_counted (Book file) status err old new (e, says) h = counted_at status 13 6 false old new e refl h
file_counted (Child shard own) status err old new told h = child_counted (line_of (Child shard own)) status 6 err old new refl refl told h
file_counted fault status err old new told h = refusal_counted (line_of fault) status 6 err old new refl refl told h

pub sink_counted : (fault : Fault) (status : ℕ) (err : Errors) (old new : ℕ) → IsTold fault status err → HasCause (blames_sink fault) old new → HasCause (status == 7) old new
sink_counted Rejected status err old new e h = counted_at status 1 7 false old new e refl h
sink_counted Unanswered status err old new e h = counted_at status 5 7 false old new e refl h
sink_counted (Refused text) status err old new (e, says) h = counted_at status 2 7 false old new e refl h
sink_counted (Value name) status err old new (e, says) h = counted_at status 2 7 false old new e refl h
sink_counted NoShard status err old new (e, says) h = counted_at status 2 7 false old new e refl h
sink_counted Memory status err old new (e, says) h = counted_at status 4 7 false old new e refl h
sink_counted (File file) status err old new (e, says) h = counted_at status 6 7 false old new e refl h
sink_counted Sink status err old new (e, says) h = counted_at status 7 7 true old new e refl h
sink_counted Link status err old new (e, says) h = counted_at status 8 7 false old new e refl h
sink_counted (Growth file fault) status err old new (e, says) h = counted_at status 3 7 false old new e refl h
sink_counted (Same file) status err old new (e, says) h = counted_at status 3 7 false old new e refl h
sink_counted (Journal file) status err old new (e, says) h = counted_at status 3 7 false old new e refl h
sink_counted (Disk file) status err old new (e, says) h = counted_at status 10 7 false old new e refl h
sink_counted (Full file) status err old new (e, says) h = counted_at status 11 7 false old new e refl h
sink_counted Refuted status err old new e h = counted_at status 12 7 false old new e refl h
sink_counted (Book file) status err old new (e, says) h = counted_at status 13 7 false old new e refl h
sink_counted (Child shard own) status err old new told h = child_counted (line_of (Child shard own)) status 7 err old new refl refl told h
sink_counted fault status err old new told h = refusal_counted (line_of fault) status 7 err old new refl refl told h

pub link_counted : (fault : Fault) (status : ℕ) (err : Errors) (old new : ℕ) → IsTold fault status err → HasCause (blames_link fault) old new → HasCause (status == 8) old new
link_counted Rejected status err old new e h = counted_at status 1 8 false old new e refl h
link_counted Unanswered status err old new e h = counted_at status 5 8 false old new e refl h
link_counted (Refused text) status err old new (e, says) h = counted_at status 2 8 false old new e refl h
link_counted (Value name) status err old new (e, says) h = counted_at status 2 8 false old new e refl h
link_counted NoShard status err old new (e, says) h = counted_at status 2 8 false old new e refl h
link_counted Memory status err old new (e, says) h = counted_at status 4 8 false old new e refl h
link_counted (File file) status err old new (e, says) h = counted_at status 6 8 false old new e refl h
link_counted Sink status err old new (e, says) h = counted_at status 7 8 false old new e refl h
link_counted Link status err old new (e, says) h = counted_at status 8 8 true old new e refl h
link_counted (Growth file fault) status err old new (e, says) h = counted_at status 3 8 false old new e refl h
link_counted (Same file) status err old new (e, says) h = counted_at status 3 8 false old new e refl h
link_counted (Journal file) status err old new (e, says) h = counted_at status 3 8 false old new e refl h
link_counted (Disk file) status err old new (e, says) h = counted_at status 10 8 false old new e refl h
link_counted (Full file) status err old new (e, says) h = counted_at status 11 8 false old new e refl h
link_counted Refuted status err old new e h = counted_at status 12 8 false old new e refl h
link_counted (Book file) status err old new (e, says) h = counted_at status 13 8 false old new e refl h
link_counted (Child shard own) status err old new told h = child_counted (line_of (Child shard own)) status 8 err old new refl refl told h
link_counted fault status err old new told h = refusal_counted (line_of fault) status 8 err old new refl refl told h

pub disk_counted : (fault : Fault) (status : ℕ) (err : Errors) (old new : ℕ) → IsTold fault status err → HasCause (blames_disk fault) old new → HasCause (status == 10) old new
disk_counted Rejected status err old new e h = counted_at status 1 10 false old new e refl h
disk_counted Unanswered status err old new e h = counted_at status 5 10 false old new e refl h
disk_counted (Refused text) status err old new (e, says) h = counted_at status 2 10 false old new e refl h
disk_counted (Value name) status err old new (e, says) h = counted_at status 2 10 false old new e refl h
disk_counted NoShard status err old new (e, says) h = counted_at status 2 10 false old new e refl h
disk_counted Memory status err old new (e, says) h = counted_at status 4 10 false old new e refl h
disk_counted (File file) status err old new (e, says) h = counted_at status 6 10 false old new e refl h
disk_counted Sink status err old new (e, says) h = counted_at status 7 10 false old new e refl h
disk_counted Link status err old new (e, says) h = counted_at status 8 10 false old new e refl h
disk_counted (Growth file fault) status err old new (e, says) h = counted_at status 3 10 false old new e refl h
disk_counted (Same file) status err old new (e, says) h = counted_at status 3 10 false old new e refl h
disk_counted (Journal file) status err old new (e, says) h = counted_at status 3 10 false old new e refl h
disk_counted (Disk file) status err old new (e, says) h = counted_at status 10 10 true old new e refl h
disk_counted (Full file) status err old new (e, says) h = counted_at status 11 10 false old new e refl h
disk_counted Refuted status err old new e h = counted_at status 12 10 false old new e refl h
disk_counted (Book file) status err old new (e, says) h = counted_at status 13 10 false old new e refl h
disk_counted (Child shard own) status err old new told h = child_counted (line_of (Child shard own)) status 10 err old new refl refl told h
disk_counted fault status err old new told h = refusal_counted (line_of fault) status 10 err old new refl refl told h

pub book_counted : (fault : Fault) (status : ℕ) (err : Errors) (old new : ℕ) → IsTold fault status err → HasCause (blames_book fault) old new → HasCause (status == 13) old new
book_counted Rejected status err old new e h = counted_at status 1 13 false old new e refl h
book_counted Unanswered status err old new e h = counted_at status 5 13 false old new e refl h
book_counted (Refused text) status err old new (e, says) h = counted_at status 2 13 false old new e refl h
book_counted (Value name) status err old new (e, says) h = counted_at status 2 13 false old new e refl h
book_counted NoShard status err old new (e, says) h = counted_at status 2 13 false old new e refl h
book_counted Memory status err old new (e, says) h = counted_at status 4 13 false old new e refl h
book_counted (File file) status err old new (e, says) h = counted_at status 6 13 false old new e refl h
book_counted Sink status err old new (e, says) h = counted_at status 7 13 false old new e refl h
book_counted Link status err old new (e, says) h = counted_at status 8 13 false old new e refl h
book_counted (Growth file fault) status err old new (e, says) h = counted_at status 3 13 false old new e refl h
book_counted (Same file) status err old new (e, says) h = counted_at status 3 13 false old new e refl h
book_counted (Journal file) status err old new (e, says) h = counted_at status 3 13 false old new e refl h
book_counted (Disk file) status err old new (e, says) h = counted_at status 10 13 false old new e refl h
book_counted (Full file) status err old new (e, says) h = counted_at status 11 13 false old new e refl h
book_counted Refuted status err old new e h = counted_at status 12 13 false old new e refl h
book_counted (Book file) status err old new (e, says) h = counted_at status 13 13 true old new e refl h
book_counted (Child shard own) status err old new told h = child_counted (line_of (Child shard own)) status 13 err old new refl refl told h
book_counted fault status err old new told h = refusal_counted (line_of fault) status 13 err old new refl refl told h

-- ---- statuses that come before any node runs

early_is_not : (n status : ℕ) → (4 ≤ n) × (n ≡ 6 → ⊥) × (n ≡ 12 → ⊥) → status ≡ n → IsOneOf (1 ∷ 2 ∷ 3 ∷ 6 ∷ 12 ∷ []) status → ⊥
early_is_not n status late e (inl f) = let most = late.0 in absurd (omega arith)
early_is_not n status late e (inr (inl f)) = let most = late.0 in absurd (omega arith)
early_is_not n status late e (inr (inr (inl f))) = let most = late.0 in absurd (omega arith)
early_is_not n status late e (inr (inr (inr (inl f)))) = late.1 (sym e ∙ f)
early_is_not n status late e (inr (inr (inr (inr (inl f))))) = late.2 (sym e ∙ f)
early_is_not n status late e (inr (inr (inr (inr (inr none))))) = none

pub told_early : (fault : Fault) (status : ℕ) (err : Errors) → IsTold fault status err → IsOneOf (1 ∷ 2 ∷ 3 ∷ 6 ∷ 12 ∷ []) status → IsTrue (precedes_loop fault)
told_early Memory status err (e, says) h = absurd (early_is_not 4 status (omega arith, λ f. absurd (omega arith), λ f. absurd (omega arith)) e h)
told_early Unanswered status err e h = absurd (early_is_not 5 status (omega arith, λ f. absurd (omega arith), λ f. absurd (omega arith)) e h)
told_early Sink status err (e, says) h = absurd (early_is_not 7 status (omega arith, λ f. absurd (omega arith), λ f. absurd (omega arith)) e h)
told_early (Child shard own) status err (inl (e, says)) h = absurd (early_is_not 9 status (omega arith, λ f. absurd (omega arith), λ f. absurd (omega arith)) e h)
told_early (Child shard own) status err (inr (e, says)) h = absurd (early_is_not 4 status (omega arith, λ f. absurd (omega arith), λ f. absurd (omega arith)) e h)
told_early Link status err (e, says) h = absurd (early_is_not 8 status (omega arith, λ f. absurd (omega arith), λ f. absurd (omega arith)) e h)
told_early (Disk file) status err (e, says) h = absurd (early_is_not 10 status (omega arith, λ f. absurd (omega arith), λ f. absurd (omega arith)) e h)
told_early (Full file) status err (e, says) h = absurd (early_is_not 11 status (omega arith, λ f. absurd (omega arith), λ f. absurd (omega arith)) e h)
told_early (Book file) status err (e, says) h = absurd (early_is_not 13 status (omega arith, λ f. absurd (omega arith), λ f. absurd (omega arith)) e h)
told_early _ status err told h = refl

-- ..and before any journal is opened
opened_is_not : (status : ℕ) → status ≡ 3 → IsOneOf (1 ∷ 2 ∷ 6 ∷ []) status → ⊥
opened_is_not status e (inl f) = absurd (omega (arith, e, f))
opened_is_not status e (inr (inl f)) = absurd (omega (arith, e, f))
opened_is_not status e (inr (inr (inl f))) = absurd (omega (arith, e, f))
opened_is_not status e (inr (inr (inr none))) = none

early_among : (status : ℕ) → IsOneOf (1 ∷ 2 ∷ 6 ∷ []) status → IsOneOf (1 ∷ 2 ∷ 3 ∷ 6 ∷ 12 ∷ []) status
early_among status (inl f) = inl f
early_among status (inr (inl f)) = inr (inl f)
early_among status (inr (inr (inl f))) = inr (inr (inr (inl f)))
early_among status (inr (inr (inr none))) = absurd none

told_unopened : (fault : Fault) (status : ℕ) (err : Errors) → IsTold fault status err → IsOneOf (1 ∷ 2 ∷ 6 ∷ []) status → IsTrue (precedes_journal fault)
told_unopened (Journal file) status err (e, says) h = absurd (opened_is_not status e h)
told_unopened fault status err told h = told_early fault status err told (early_among status h)

-- what is done is quiet where the words are without nodes
pub quiet_done : (words : List (List ℕ)) (P : Type 0) → ((NamesNodes words → ⊥) → P) → IsQuiet words 0 → P
quiet_done words P without (inl none) = without none
quiet_done words P without (inr (inl e)) = absurd (omega arith)
quiet_done words P without (inr (inr (inl e))) = absurd (omega arith)
quiet_done words P without (inr (inr (inr (inl e)))) = absurd (omega arith)
quiet_done words P without (inr (inr (inr (inr (inl e))))) = absurd (omega arith)
quiet_done words P without (inr (inr (inr (inr (inr (inl e)))))) = absurd (omega arith)
quiet_done words P without (inr (inr (inr (inr (inr (inr none)))))) = absurd none

-- what holds of words without nodes, and of all that comes before nodes run, holds where all is quiet
pub quiet_told : (words : List (List ℕ)) (fault : Fault) (status : ℕ) (err : Errors) (P : Type 0) → IsTold fault status err → ((NamesNodes words → ⊥) → P) → (IsTrue (precedes_loop fault) → P)
    → IsQuiet words status → P
quiet_told words fault status err P told without before (inl none) = without none
quiet_told words fault status err P told without before (inr early) = before (told_early fault status err told early)

-- what is done, or told, leaves the disk where words name no journal, or it came before any was opened
pub unkept_done : (words : List (List ℕ)) (P : Type 0) → (((name : List ℕ) → NamesJournal words name → ⊥) → P) → IsUnkept words 0 → P
unkept_done words P without (inl none) = without none
unkept_done words P without (inr (inl e)) = absurd (omega arith)
unkept_done words P without (inr (inr (inl e))) = absurd (omega arith)
unkept_done words P without (inr (inr (inr (inl e)))) = absurd (omega arith)
unkept_done words P without (inr (inr (inr (inr none)))) = absurd none

pub unkept_told : (words : List (List ℕ)) (fault : Fault) (status : ℕ) (err : Errors) (P : Type 0) → IsTold fault status err → (((name : List ℕ) → NamesJournal words name → ⊥) → P)
    → (IsTrue (precedes_journal fault) → P) → IsUnkept words status → P
unkept_told words fault status err P told without before (inl none) = without none
unkept_told words fault status err P told without before (inr early) = before (told_unopened fault status err told early)

-- ..and the same of the book where words name no log
pub unlogged_done : (words : List (List ℕ)) (P : Type 0) → (((name : List ℕ) → NamesLog words name → ⊥) → P) → IsUnlogged words 0 → P
unlogged_done words P without (inl none) = without none
unlogged_done words P without (inr (inl e)) = absurd (omega arith)
unlogged_done words P without (inr (inr (inl e))) = absurd (omega arith)
unlogged_done words P without (inr (inr (inr (inl e)))) = absurd (omega arith)
unlogged_done words P without (inr (inr (inr (inr (inl e))))) = absurd (omega arith)
unlogged_done words P without (inr (inr (inr (inr (inr (inl e)))))) = absurd (omega arith)
unlogged_done words P without (inr (inr (inr (inr (inr (inr none)))))) = absurd none

pub unlogged_told : (words : List (List ℕ)) (fault : Fault) (status : ℕ) (err : Errors) (P : Type 0) → IsTold fault status err → (((name : List ℕ) → NamesLog words name → ⊥) → P)
    → (IsTrue (precedes_loop fault) → P) → IsUnlogged words status → P
unlogged_told words fault status err P told without before (inl none) = without none
unlogged_told words fault status err P told without before (inr early) = before (told_early fault status err told early)

-- without children none is counted
pub none_counted : (result : Result Unit Fault) (n : ℕ) → CountsChildren result n n
none_counted (Ok done) n = refl
none_counted (Err fault) n = tt

-- ..and no link is to blame
pub unlinked : (call : RunCall) (result : Result Unit Fault) (n : ℕ) → Ends call result → HasCause (fails_by blames_link result) n n
unlinked call (Ok done) n h = refl
unlinked call (Err Link) n h = absurd h
unlinked call (Err _) n h = refl

-- ..and no disk
pub undisked : (call : RunCall) (result : Result Unit Fault) (n : ℕ) → Ends call result → HasCause (fails_by blames_disk result) n n
undisked call (Ok done) n h = refl
undisked call (Err (Disk file)) n h = absurd h
undisked call (Err _) n h = refl

-- ..and no book
pub unbooked : (call : RunCall) (result : Result Unit Fault) (n : ℕ) → Ends call result → HasCause (fails_by blames_book result) n n
unbooked call (Ok done) n h = refl
unbooked call (Err (Book file)) n h = absurd h
unbooked call (Err _) n h = refl

-- what is to blame for nothing counts nothing
pub uncounted : (test : Bool) (n : ℕ) → test ≡ false → HasCause test n n
uncounted test n e = subst (λ b. HasCause b n n) (sym e) refl

-- generated load reads nothing
module _ (seed shards txns : ℕ) (part : Part) (old new : Option (List ℕ)) where
  pub gen_reads : (result : Result Unit Fault) (names : Option (List (List ℕ))) → GenEnds seed shards txns part old new result → ReadsBut names names result
  gen_reads (Ok done) names h = refl
  gen_reads (Err (File file)) names h = absurd h
  gen_reads (Err _) names h = refl

  pub gen_blames_no_file : (result : Result Unit Fault) (n : ℕ) → GenEnds seed shards txns part old new result → HasCause (fails_by blames_file result) n n
  gen_blames_no_file (Ok done) n h = refl
  gen_blames_no_file (Err (File file)) n h = absurd h
  gen_blames_no_file (Err _) n h = refl
