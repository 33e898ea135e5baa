-- What is read rises: entries are a list as they stand, and facts come behind one another
use Rattle.std.proofs.Common.{◌≡◌, ℕ, ◌<◌, ◌^◌, true, IsTrue, List, [], ◌∷◌, ◌++◌, Option, Some, None, Result, Ok, Err, ap, ◌∙◌}
use Rattle.std.specs.Prelude.{IfOk, ◌&&◌}
use Rattle.std.proofs.lemmas.Bool.{and_parts}
use Rattle.roc_sequence.specs.Rising.{IsRising}
use Rattle.roc_base.specs.declared.id.TxnId.{TxnId}
use Rattle.roc_base.specs.TxnId.{txn_lt}
use Rattle.roc_base.specs.Edge.{Dependency}
use Rattle.roc_base.specs.Edges.{comes_before}
use Rattle.roc_base.proofs.Ids.{txn_lt-trans}
use Rattle.roc_base.proofs.Rising.{IsBelowAll, below-chain}
use Rattle.roc_depgraph.specs.declared.known.KnownList.{KnownList}
use Rattle.roc_msg.specs.Facts.{is_behind_facts}
use Rattle.roc_wire.specs.declared.fault.WireFault.{WireFault}
use Rattle.roc_wire.specs.Spelling.{edge_bytes}
use Rattle.roc_wire.specs.Fits.{AllAlong, FitsEdge, last_from, FitsFact, Room, rises}
use Rattle.roc_wire.specs.Reading.{IsBytes, IsRead, several_read, edge_read, fact_read}
use Rattle.roc_wire.proofs.Exact.{several_field}
use Rattle.roc_wire.proofs.Members.{edge_field, fact_field}

below_all : (id : TxnId) (es : List Dependency) → AllAlong FitsEdge last_from (Some id) es → IsBelowAll id es
below_all id [] h = tt
below_all id (e ∷ es) h = (h.0.1, below-chain id e.from es h.0.1 (below_all e.from es h.1))

rises_all : (last : Option TxnId) (es : List Dependency) → AllAlong FitsEdge last_from last es → IsRising comes_before es
rises_all last [] h = tt
rises_all last (e ∷ es) h = (below_all e.from es h.1, rises_all (Some e.from) es h.1)

pub rising_given : {X : Type 0} (view : X → List Dependency × List ℕ) (r : Result X WireFault) (count : ℕ) (bytes : List ℕ) → IsBytes bytes → IsRead view r (several_read edge_read last_from count None bytes) → IfOk r (λ x. IsRising comes_before (view x).0)
rising_given view (Ok x) count bytes fits h =
    let field = several_field edge_read last_from edge_bytes FitsEdge (λ s. Unit {0}) (λ s a p q. tt) (λ s p. edge_field s) count None tt in
    rises_all None (view x).0 (field.takes bytes (view x).0 (view x).1 fits h).1.1
rising_given view (Err e) count bytes fits h = tt

pub fits_given : {X : Type 0} (view : X → KnownList × List ℕ) (r : Result X WireFault) (room : Room) (bytes : List ℕ) → room.1 < 2 ^ 16 → IsBytes bytes → IsRead view r (fact_read room bytes) → IfOk r (λ x. FitsFact room (view x).0)
fits_given view (Ok x) room bytes few fits h = ((fact_field room few).takes bytes (view x).0 (view x).1 fits h).1
fits_given view (Err e) room bytes few fits h = tt

-- behind the last one, and so behind all
behind_one : (facts : List KnownList) (fact : KnownList) (id : TxnId) → is_behind_facts facts fact.of ≡ true → txn_lt fact.of id ≡ true → is_behind_facts (facts ++ fact ∷ []) id ≡ true
behind_one [] fact id h k = ap (λ b. b && true) k
behind_one (f ∷ facts) fact id h k =
    let parts = and_parts (txn_lt f.of fact.of) (is_behind_facts facts fact.of) h in
    ap (λ b. b && is_behind_facts (facts ++ fact ∷ []) id) (txn_lt-trans f.of fact.of id parts.0 k) ∙ behind_one facts fact id parts.1 k

pub behind_more : (last : Option TxnId) (facts : List KnownList) (fact : KnownList) → ((id : TxnId) → IsTrue (rises last id) → IsTrue (is_behind_facts facts id)) → IsTrue (rises last fact.of)
    → (id : TxnId) → IsTrue (rises (Some fact.of) id) → IsTrue (is_behind_facts (facts ++ fact ∷ []) id)
behind_more last facts fact behind h id k = behind_one facts fact id (behind fact.of h) k
