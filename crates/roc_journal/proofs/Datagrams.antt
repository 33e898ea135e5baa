-- What a datagram that was read says of records.
use Rattle.std.proofs.Common.{◌≡◌, true, false, List, [], ℕ, Option, Some, None, Result, Ok, Err, refl, sym, ◌∙◌, ap}
use Rattle.std.specs.Prelude.{IfOk, bytes_eq}
use Rattle.std.proofs.lemmas.Slice.Eq.{bytes_eq-Decides}
use Rattle.roc_msg.specs.declared.msg.Msg.{Msg}
use Rattle.roc_wire.specs.declared.header.Header.{Header}
use Rattle.roc_wire.specs.declared.fault.WireFault.{WireFault}
use Rattle.roc_wire.specs.declared.fault.WireFault.TheVariants.{Short, Magic, Version, Kind, Count, Order, Rest, NoMemory}
use Rattle.roc_wire.specs.Fits.{IsSpellable}
use Rattle.roc_wire.specs.Reading.{IsReadFault, pair}
use Rattle.roc_wire.specs.Spelling.{spelling}
use Rattle.roc_journal.specs.declared.record.Record.{Record}
use Rattle.roc_journal.specs.Inner.Pieces.{IsFound, IsNone}
use Rattle.roc_journal.proofs.Beginnings.{datagram_is}

-- a fault of the bytes says that they spell nothing
fault_tells : (fault : WireFault) (x : Header × Msg) → ¬ (fault ≡ NoMemory) → IsReadFault fault (Ok x) → ⊥
fault_tells Short x other e = absurd cc
fault_tells Magic x other e = absurd cc
fault_tells Version x other e = absurd cc
fault_tells Kind x other e = absurd cc
fault_tells Count x other e = absurd cc
fault_tells Order x other e = absurd cc
fault_tells Rest x other e = absurd cc
fault_tells NoMemory x other e = other refl

pub none_found : {E : Type 0} (tag bytes : List ℕ) (fault : WireFault) (result : Result (Option Record) E)
    → ((header : Header) (msg : Msg) → IsSpellable header msg → bytes ≡ spelling header msg → IsReadFault fault (Ok (pair header msg)))
    → IsNone fault result → IfOk result (λ found. IsFound tag bytes found)
none_found tag bytes fault (Ok (Some r)) only none = absurd none
none_found tag bytes fault (Ok None) only none = λ r is_of e. fault_tells fault (pair r.header r.msg) none (only r.header r.msg is_of.1 (e ∙ datagram_is r))
none_found tag bytes fault (Err e) only none = tt

pub one_found : (tag bytes : List ℕ) (header : Header) (msg : Msg) → bytes_eq header.tag tag ≡ true → IsSpellable header msg → bytes ≡ spelling header msg
    → IsFound tag bytes (Some (record { header = header; msg = msg }))
one_found tag bytes header msg same fits text =
    (((bytes_eq-Decides header.tag tag).0 same, fits), text ∙ sym (datagram_is (record { header = header; msg = msg })))

abbrev tag_in : Result (Header × Msg) WireFault → List ℕ
tag_in (Ok x) = x.0.tag
tag_in (Err fault) = []

pub other_found : (tag bytes : List ℕ) (header : Header) (msg : Msg) → bytes_eq header.tag tag ≡ false
    → ((h : Header) (m : Msg) → IsSpellable h m → bytes ≡ spelling h m → ◌≡◌ {A = Result (Header × Msg) WireFault} (Ok (pair h m)) (Ok (pair header msg))) → IsFound tag bytes None
other_found tag bytes header msg other only = λ r is_of e.
    let same : header.tag ≡ tag = sym (ap tag_in (only r.header r.msg is_of.1 (e ∙ datagram_is r))) ∙ is_of.0 in
    absurd (cc ((bytes_eq-Decides header.tag tag).1 same, other))
