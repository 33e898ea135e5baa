use Rattle.std.proofs.Common.{◌≡◌, ◌∙◌, ℕ, List, length, map, Option, Result, Ok, Err, sym, subst}
use Rattle.std.specs.Prelude.{IfOk, Vec}
use Rattle.std.specs.declared.alloc.Global.{Global}
use Rattle.roc_sequence.specs.Places.{IsListed, NoneTwice}
use Rattle.roc_base.specs.declared.id.TxnId.{TxnId}
use Rattle.roc_base.specs.declared.memory.NoMemory.{NoMemory}
use Rattle.roc_base.specs.TxnId.{is_txn}
use Rattle.roc_step.specs.New.{AreAllNew}
use Rattle.roc_server_rows.specs.declared.rows.Row.{Row}
use Rattle.roc_server_rows.specs.declared.rows.Parts.{Parts}
use Rattle.roc_server_rows.specs.declared.marks.Mark.{Mark}
use Rattle.roc_server_rows.specs.LinksBut.{links_but}
use Rattle.roc_server_rows.specs.Rows.{row_in, IsRowTable, AreWhole}
use Rattle.roc_server_rows.specs.Except.{IsExceptLive}
use Rattle.roc_server_rows.specs.Marks.{AreMarked, AreNewRowsBut, AreOpen}
use Rattle.roc_server_table.specs.Inner.Kept.{decided_of, IsKept}
use Rattle.roc_server_table.proofs.NewIds.{alike_decided, all_new_ids, new_once}
use Rattle.roc_server_table.proofs.finding.new_ids.Goals as goal

-- what is found of rows that are those of the table
found : (p : Parts) (rs : List Row) → rs ≡ p.rows.items → (except : Option ℕ) (marks : List Mark) (ns : List ℕ)
    → ((numbers : List (TxnId × ℕ)) (stamp : ℕ) → IsRowTable numbers rs stamp → AreNewRowsBut except rs marks ns) → AreWhole p → AreNewRowsBut except p.rows.items marks ns
found p rs e except marks ns f whole =
    subst (λ (x : List Row). AreNewRowsBut except x marks ns) e (f p.numbers.entries p.stamp (subst (λ (x : List Row). IsRowTable p.numbers.entries x p.stamp) (sym e) whole))

-- and of their transactions
ids_found : (P : List TxnId → Type 0) (rows rs : List Row) (numbers ns : List ℕ) (r : Result (Vec TxnId Global) NoMemory) → rs ≡ rows → ns ≡ numbers → P (map (λ n. (row_in rows n).id) numbers)
    → IfOk r (λ v. v.items ≡ map (λ n. (row_in rs n).id) ns) → IfOk r (λ v. P v.items)
ids_found P rows rs numbers ns (Ok v) e f p h =
    subst P (sym h) (subst (λ (x : List Row). P (map (λ n. (row_in x n).id) ns)) (sym e) (subst (λ (xs : List ℕ). P (map (λ n. (row_in rows n).id) xs)) (sym f) p))
ids_found P rows rs numbers ns (Err x) e f p h = tt

-- rows were looked at
kept : (p : Parts) (rs : List Row) (ns : List ℕ) (marks new : List Mark) → rs ≡ p.rows.items → ns ≡ p.undecided.items → IsKept p marks → AreMarked rs new → length new ≡ length marks
    → AreOpen rs new ns → IsKept p new
kept p rs ns marks new e f k marked each open_rows =
    record {
      whole = k.whole;
      marked = subst (λ (x : List Row). AreMarked x new) e marked;
      each = each ∙ k.each;
      undecided = subst (λ (x : List ℕ). AreOpen p.rows.items new x) f (subst (λ (x : List Row). AreOpen x new ns) e open_rows);
    }

pub newly-requires : goal.newly-requires
newly-requires c =
    let p = c.args.parts.now in
    let k = c.requires.kept in
    let same = c.deref.ensures.value in
    record {
      marked = subst (λ (rs : List Row). AreMarked rs c.args.marks.now) (sym same) k.marked;
      undecided = subst (λ (rs : List Row). AreOpen rs c.args.marks.now c.deref-2.result.now) (sym same)
          (subst (λ (ns : List ℕ). AreOpen p.rows.items c.args.marks.now ns) (sym c.deref-2.ensures.value) k.undecided);
      live = subst (λ (rs : List Row). IsExceptLive c.args.except rs) (sym same) c.requires.live;
    }

pub returns-in-Ok-clause-kept : goal.returns-in-Ok-clause-kept
returns-in-Ok-clause-kept c =
    let e = c.newly.ensures in
    kept c.args.parts.now c.deref.result.now c.deref-2.result.now c.args.marks.now c.newly.new.marks c.deref.ensures.value c.deref-2.ensures.value c.requires.kept e.marked e.each e.undecided

pub returns-in-Err-clause-kept : goal.returns-in-Err-clause-kept
returns-in-Err-clause-kept c =
    let e = c.newly.ensures in
    kept c.args.parts.now c.deref.result.now c.deref-2.result.now c.args.marks.now c.newly.new.marks c.deref.ensures.value c.deref-2.ensures.value c.requires.kept e.marked e.each e.undecided

pub returns-in-Ok-clause-new : goal.returns-in-Ok-clause-new
returns-in-Ok-clause-new c =
    let p = c.args.parts.now in
    let new = found p c.deref.result.now c.deref.ensures.value c.args.except c.args.marks.now c.in-Ok.numbers.items c.in-Ok.ensures.new c.requires.kept.whole in
    ids_found (λ ids. AreAllNew (IsListed is_txn (decided_of p.rows.items c.args.marks.now)) (links_but c.args.except p.rows.items) ids) p.rows.items c.deref-in-Ok.result.now c.in-Ok.numbers.items
    c.deref-in-Ok-2.result.now c.ids_at.result c.deref-in-Ok.ensures.value c.deref-in-Ok-2.ensures.value
    (all_new_ids p c.args.marks.now c.requires.kept c.args.except c.in-Ok.numbers.items new) c.ids_at.ensures

pub returns-in-Ok-clause-once : goal.returns-in-Ok-clause-once
returns-in-Ok-clause-once c =
    let p = c.args.parts.now in
    let new = found p c.deref.result.now c.deref.ensures.value c.args.except c.args.marks.now c.in-Ok.numbers.items c.in-Ok.ensures.new c.requires.kept.whole in
    ids_found (NoneTwice is_txn) p.rows.items c.deref-in-Ok.result.now c.in-Ok.numbers.items c.deref-in-Ok-2.result.now c.ids_at.result c.deref-in-Ok.ensures.value c.deref-in-Ok-2.ensures.value
    (new_once p c.args.marks.now c.requires.kept c.args.except c.in-Ok.numbers.items new) c.ids_at.ensures

pub returns-in-Ok-clause-same : goal.returns-in-Ok-clause-same
returns-in-Ok-clause-same c = alike_decided c.args.parts.now c.args.marks.now c.newly.new.marks c.requires.kept c.newly.ensures.same

pub returns-in-Err-clause-same : goal.returns-in-Err-clause-same
returns-in-Err-clause-same c = alike_decided c.args.parts.now c.args.marks.now c.newly.new.marks c.requires.kept c.newly.ensures.same
