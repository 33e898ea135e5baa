-- A group runs on a copy of the cells that it reads
use Rattle.std.proofs.Common.{◌≡◌, ◌++◌, ◌∷◌, [], Bool, true, false, List, refl, sym, ap, subst, ◌∙◌}
use Rattle.std.specs.List.{AllByRecursion}
use Rattle.roc_sequence.proofs.Holds.{all_append, all_weaker}
use Rattle.roc_rows.specs.declared.cell.Cell.{Cell}
use Rattle.roc_rows.specs.Cells.{is_cell}
use Rattle.roc_rows.specs.Store.{Store, read, write}
use Rattle.roc_rows.proofs.CellLaws.{is_cell-false, is_cell-true}
use Rattle.roc_rows.proofs.Stored.{read-write_other, read-write_same}
use Rattle.roc_group.specs.declared.access.Access.{Access}
use Rattle.roc_group.specs.GroupRun.{begin, group_pieces, group_run, group_uses, GroupCall}
use Rattle.roc_group.proofs.Effects.{run_alike}
use Rattle.roc_plan.specs.Groups.{Plan}

-- a cell that is copied holds the same, and so does each that did
still_same : (s t : Store) (x c : Cell) → read t c ≡ read s c → read (write t x (read s x)) c ≡ read s c
still_same s t x c h = go (is_cell x c) refl
  where
    go : (b : Bool) → is_cell x c ≡ b → read (write t x (read s x)) c ≡ read s c
    go true e = subst (λ d. read (write t x (read s x)) d ≡ read s d) (is_cell-true x c e) (read-write_same t x (read s x))
    go false e = read-write_other t x (read s x) c (is_cell-false x c e) ∙ h

pub one_copied : (s t : Store) (a : Access) (before : List Access) → AllByRecursion (λ b. read t b.cell ≡ read s b.cell) before
    → AllByRecursion (λ b. read (write t a.cell (read s a.cell)) b.cell ≡ read s b.cell) (before ++ a ∷ [])
one_copied s t a before h =
    let same : Access → Type 0 = λ b. read (write t a.cell (read s a.cell)) b.cell ≡ read s b.cell in
    all_append same before (a ∷ []) (all_weaker (λ b. read t b.cell ≡ read s b.cell) same (λ b. still_same s t a.cell b.cell) before h) (read-write_same t a.cell (read s a.cell), tt)

-- so what it adds to the reply is the same
pub outs_over : (plan : Plan) (c d : GroupCall) (s t : Store) (cells : List Access) → c ≡ d → cells ≡ group_uses plan d s
    → AllByRecursion (λ a. read t a.cell ≡ read s a.cell) cells → (group_run plan c t).reply ≡ (group_run plan d s).reply
outs_over plan c d s t cells same are copied =
    ap (λ c. (group_run plan c t).reply) same
    ∙ (run_alike (begin plan d s) (begin plan d t) (group_pieces plan d) refl refl
    (all_weaker (λ a. read t a.cell ≡ read s a.cell) (λ a. a.writes ≡ false → read s a.cell ≡ read t a.cell) (λ a h e. sym h) (group_uses plan d s)
    (subst (AllByRecursion (λ a. read t a.cell ≡ read s a.cell)) are copied))).reply
