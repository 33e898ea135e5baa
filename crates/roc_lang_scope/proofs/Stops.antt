-- The first fault of pieces is that of the first piece that has one.
use Rattle.std.proofs.Common.{◌≡◌, Bool, ◌&&◌, List, [], ◌∷◌, ◌++◌, Some, sym, ap, ◌∙◌}
use Rattle.roc_lang.specs.Syntax.{Name, Piece, Table}
use Rattle.roc_lang.specs.Scope.{Fault, Bound, viewed, repeated, bound_after, piece_faults, pieces_faults}
use Rattle.roc_lang_scope.specs.Fault.{first}
use Rattle.roc_lang_scope.proofs.Firsts.{first_append}

pub pieces_stop : (fault : Fault) (tables : List Table) (is_view : Bool) (earlier : List Name) (bound : Bound) (p : Piece) (ps : List Piece) (total : List Fault)
    → pieces_faults tables is_view earlier bound (p ∷ ps) ≡ total
    → first (viewed (is_view && p.is_now) p.name p.class_line ++ repeated earlier p.name ++ piece_faults tables is_view bound p) ≡ Some fault → first total ≡ Some fault
pieces_stop fault tables is_view earlier bound p ps total e h =
    let here = viewed (is_view && p.is_now) p.name p.class_line ++ repeated earlier p.name ++ piece_faults tables is_view bound p in
    ap first (sym e) ∙ first_append fault here (pieces_faults tables is_view (earlier ++ p.name ∷ []) (bound_after bound p) ps) h
