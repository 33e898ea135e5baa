-- Reads of the plan stay so
use Rattle.std.proofs.Common.{◌≡◌, ◌++◌, ◌∷◌, [], Bool, true, false, cond, if◌then◌else◌, IfSome, List, Option, Some, None, filter, refl, sym, subst, append-nil}
use Rattle.std.specs.List.{AllByRecursion, list_any}
use Rattle.roc_sequence.proofs.Holds.{all_append}
use Rattle.roc_msg.specs.declared.msg.Msg.{Msg}
use Rattle.roc_msg.specs.declared.msg.Msg.TheVariants.{Read}
use Rattle.roc_plan.specs.Groups.{Plan}
use Rattle.roc_step.specs.declared.handled.Handled.{Handled}
use Rattle.roc_step.specs.declared.handled.Handled.TheVariants.{Done, Gone, Ignored}
use Rattle.roc_step.specs.declared.kept_read.KeptRead.{KeptRead}
use Rattle.roc_step.specs.Fits.{AreReadsOf, IsReadOf}
use Rattle.roc_step.specs.Reads.{in_turn, is_read_before, is_same_read, put_read, reads_with}
use Rattle.roc_server_reads.specs.Answering.{read_in, TakenFits}
use Rattle.roc_server_reads.specs.Inner.Parts.{one_more, unless_kept}

module _ (P : KeptRead → Type 0) where
  pub some_hold : (test : KeptRead → Bool) (qs : List KeptRead) → AllByRecursion P qs → AllByRecursion P (filter test qs)
  some_hold test [] all = tt
  some_hold test (q ∷ qs) all = go (test q) (some_hold test qs all.1)
    where
      go : (b : Bool) → AllByRecursion P (filter test qs) → AllByRecursion P (cond b (q ∷ filter test qs) (filter test qs))
      go true rest = (all.0, rest)
      go false rest = rest

  put_holds : (q : KeptRead) (rs : List KeptRead) → P q → AllByRecursion P rs → AllByRecursion P (put_read q rs)
  put_holds q [] one all = (one, tt)
  put_holds q (r ∷ rs) one all = go (is_read_before r q) (put_holds q rs one all.1)
    where
      go : (b : Bool) → AllByRecursion P (put_read q rs) → AllByRecursion P (if b then r ∷ put_read q rs else q ∷ r ∷ rs)
      go true rest = (all.0, rest)
      go false rest = (one, all)

  pub turn_holds : (qs : List KeptRead) → AllByRecursion P qs → AllByRecursion P (in_turn qs)
  turn_holds [] all = tt
  turn_holds (q ∷ qs) all = put_holds q (in_turn qs) all.0 (turn_holds qs all.1)

-- it is put behind those that are kept, unless it is one of these
pub reads_are : (msg : Msg) (answer : Handled) (reads : List KeptRead) → reads_with msg answer reads ≡ reads ++ one_more (unless_kept reads (read_in msg answer))
reads_are (Read id round proc group args) Done reads = go (list_any (is_same_read q) reads)
  where
    q : KeptRead
    q = record { id = id; round = round; proc = proc; group = group; args = args }

    go : (b : Bool) → (if b then reads else reads ++ q ∷ []) ≡ reads ++ one_more (if b then None else Some q)
    go true = sym (append-nil reads)
    go false = refl
reads_are (Read id round proc group args) Gone reads = sym (append-nil reads)
reads_are (Read id round proc group args) (Ignored reason) reads = sym (append-nil reads)
reads_are msg answer reads = sym (append-nil reads)

one_fits : (plan : Plan) (reads : List KeptRead) (read : Option KeptRead) → IfSome read (IsReadOf plan) → AreReadsOf plan (one_more (unless_kept reads read))
one_fits plan reads None one = tt
one_fits plan reads (Some q) one = go (list_any (is_same_read q) reads)
  where
    go : (b : Bool) → AreReadsOf plan (one_more (if b then None else Some q))
    go true = tt
    go false = (one, tt)

-- with the one that was taken they are of the plan, too
pub with_fits : (plan : Plan) (msg : Msg) (answer : Handled) (reads : List KeptRead) → TakenFits plan msg answer → AreReadsOf plan reads → AreReadsOf plan (reads_with msg answer reads)
with_fits plan msg answer reads one all =
    let new = unless_kept reads (read_in msg answer) in
    subst (AreReadsOf plan) (sym (reads_are msg answer reads)) (all_append (IsReadOf plan) reads (one_more new) all (one_fits plan reads (read_in msg answer) one))
