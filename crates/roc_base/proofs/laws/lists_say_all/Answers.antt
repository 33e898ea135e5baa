use Rattle.std.proofs.Common.{◌≡◌, Option, Some, None, refl, IfSome}
use Rattle.roc_base.specs.declared.id.TxnId.{TxnId}
use Rattle.roc_base.specs.Edge.{Dependency}
use Rattle.std.proofs.Common.{List}
use Rattle.roc_base.specs.Edges.{IsAllOf, all_of}
use Rattle.roc_base.proofs.Members.{IsAllOf-all_of, all_of-none}
use Rattle.roc_base.proofs.laws.lists_say_all.Goals as goal

said : (id : TxnId) (es : List Dependency) (o : Option Dependency) → all_of id es ≡ o → IfSome o (IsAllOf id es)
said id es None h = tt
said id es (Some all) h = IsAllOf-all_of id es all h

pub returns : goal.returns
returns c = record {
  said = λ id es. said id es (all_of id es) refl;
  silent = all_of-none;
}
