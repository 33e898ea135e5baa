-- A datagram as contracts see it: whom it comes from or goes to, and its bytes.
use Rattle.std.specs.Prelude.{ℕ, List}
use Rattle.roc_io.specs.declared.link.Addr.{Addr}

pub record Packet : Type 0 where
  pub address : Addr
  pub bytes : List ℕ
