-- Bytes spell at most one pair, or have a first fault
use Rattle.std.proofs.Common.{◌≡◌, ℕ, List, Result, Ok, Err, refl, sym, ap, ◌∙◌, inl, inr, ◌⊎◌}
use Rattle.roc_msg.specs.declared.msg.Msg.{Msg}
use Rattle.roc_wire.specs.declared.header.Header.{Header}
use Rattle.roc_wire.specs.declared.fault.WireFault.{WireFault}
use Rattle.roc_wire.specs.Laws.{Spells, IsRight, IsWrong}
use Rattle.roc_wire.specs.Reading.{IsBytes, datagram, pair}
use Rattle.roc_wire.proofs.Exact.{done, ok_is}
use Rattle.roc_wire.proofs.Whole.{found, again}

-- what spells a pair is read as it
pub reads_as : (bytes : List ℕ) (h : Header) (m : Msg) → Spells bytes h m → datagram bytes ≡ done (pair h m)
reads_as bytes h m s = ap datagram s.text ∙ again h m s.fits

pub one_pair : (bytes : List ℕ) (g h : Header) (m n : Msg) → Spells bytes g m → Spells bytes h n → pair g m ≡ pair h n
one_pair bytes g h m n s t = ok_is (pair g m) (pair h n) (sym (reads_as bytes g m s) ∙ reads_as bytes h n t)

fault_is_none : (fault : WireFault) (x : Header × Msg) → done x ≡ Err fault → ⊥
fault_is_none fault x e = absurd cc

pub one_of : (bytes : List ℕ) → IsBytes bytes → IsRight bytes ⊎ IsWrong bytes
one_of bytes fits = go (datagram bytes) refl
  where
    go : (read : Result (Header × Msg) WireFault) → datagram bytes ≡ read → IsRight bytes ⊎ IsWrong bytes
    go (Ok x) e = let f = found bytes x fits e in inl (record { header = x.0; msg = x.1; spells = record { fits = f.0; text = f.1 }; reads = e })
    go (Err fault) e = inr (record { fault = fault; reads = e; spells_none = λ h m s. fault_is_none fault (pair h m) (sym (reads_as bytes h m s) ∙ e) })
