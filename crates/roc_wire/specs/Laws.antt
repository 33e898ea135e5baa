-- What holds of all datagrams
use Rattle.std.specs.Prelude.{◌≡◌, ℕ, List, Ok, Err}
use Rattle.roc_msg.specs.declared.msg.Msg.{Msg}
use Rattle.roc_wire.specs.declared.header.Header.{Header}
use Rattle.roc_wire.specs.declared.fault.WireFault.{WireFault}
use Rattle.roc_wire.specs.Spelling.{spelling}
use Rattle.roc_wire.specs.Fits.{IsSpellable}
use Rattle.roc_wire.specs.Reading.{datagram, pair}

-- the bytes are the spelling of this pair
pub record Spells (bytes : List ℕ) (header : Header) (msg : Msg) : Type 0 where
  pub fits : IsSpellable header msg
  pub text : bytes ≡ spelling header msg

-- a datagram: it spells a pair, and reads as this pair
pub record IsRight (bytes : List ℕ) : Type 0 where
  pub header : Header
  pub msg : Msg
  pub spells : Spells bytes header msg
  pub reads : datagram bytes ≡ Ok (pair header msg)

-- no datagram: it has a first fault, and spells no pair
pub record IsWrong (bytes : List ℕ) : Type 0 where
  pub fault : WireFault
  pub reads : datagram bytes ≡ Err fault
  pub spells_none : (header : Header) (msg : Msg) → ¬ Spells bytes header msg
