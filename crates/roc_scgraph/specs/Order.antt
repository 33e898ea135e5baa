-- The order of vertices
use Rattle.std.specs.Prelude.{Bool, true, false, ◌&&◌, ◌||◌, ◌==◌, nat_lt}
use Rattle.roc_scgraph.specs.declared.vertex.Vertex.{Vertex}
use Rattle.roc_scgraph.specs.declared.vertex.Instance.{Instance}
use Rattle.roc_scgraph.specs.declared.vertex.Instance.TheVariants.{First, Second}

abbrev pub is_earlier_instance : Instance → Instance → Bool
is_earlier_instance First First = false
is_earlier_instance First Second = true
is_earlier_instance Second First = false
is_earlier_instance Second Second = false

-- by procedure, then by piece, then by instance
abbrev pub is_before : Vertex → Vertex → Bool
is_before a b = nat_lt a.proc b.proc || ((a.proc == b.proc) && (nat_lt a.piece b.piece || ((a.piece == b.piece) && is_earlier_instance a.instance b.instance)))
