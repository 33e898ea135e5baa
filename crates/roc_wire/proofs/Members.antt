-- Numbers, ids, edges and facts are read exactly as they are spelled
use Rattle.std.proofs.Common.{rules, ◌≡◌, ℕ, zero, suc, ◌^◌, ◌<◌, ◌≤◌, ℤ, Bool, true, false, IsTrue, ◌++◌, Option, None, refl, sym, ap, ◌∙◌, append_assoc, arith, not}
use Rattle.std.specs.Prelude.{FitsSigned, ◌||◌, ◌==◌, nat_lt}
use Rattle.std.specs.Int.{w8, w16, w32, w64, to_be_bytes, cast_signed, cast_unsigned}
use Rattle.std.proofs.lemmas.Bool.{lt-ltb, ltb-true}
use Rattle.std.proofs.lemmas.Int.{to_z-of_z, of_z-to_z}
use Rattle.roc_base.specs.declared.id.TxnId.{TxnId}
use Rattle.roc_base.specs.declared.node.Shard.{Shard}
use Rattle.roc_msg.specs.Facts.{most_facts, most_fact_edges}
use Rattle.roc_wire.specs.declared.fault.WireFault.TheVariants.{Count, Order}
use Rattle.roc_wire.specs.Spelling.{id_bytes, shard_bytes, num_bytes, nums_bytes, versions_bytes, tags_of, edge_bytes, edges_bytes, fact_bytes, facts_bytes}
use Rattle.roc_wire.specs.Fits.{FitsId, FitsShard, FitsNums, FitsVersions, rises, FitsEdge, last_from, FitsEdges, Room, FitsFact, room_behind, FitsFacts, last_coordinator, last_shard, most_versions}
use Rattle.roc_wire.specs.Reading.{then_read, number_read, within_read, above_read, num_read, nums_read, versions_read, id_of_parts, id_read, shard_of_parts, shard_read, rising_read, edge_of_parts, edge_read, edges_read, fact_of_parts, fact_read, facts_read}
use Rattle.roc_wire.proofs.Exact.{IsField, then_field, made_field, judged_field, as_field, counted_field, number_field, within_field, wide8, wide16, wide32, wide64}

-- ---- numbers

pub num_field : (s : Unit {0}) → IsField (num_read s) num_bytes (λ n. FitsSigned w64 n)
unfolding num_read
num_field s = made_field (number_read w64) (to_be_bytes w64) (λ n. n < 2 ^ 64) (cast_signed w64) num_bytes (λ n. FitsSigned w64 n)
    (number_field w64 (2 ^ 64) wide64)
    (λ n h. (signed_fits n h, ap (to_be_bytes w64) (sym (of_z-to_z w64 n h))))
    (λ z h. (cast_unsigned w64 z, unsigned_fits z h, to_z-of_z w64 z h))
  where
    signed_fits : (n : ℕ) → n < 2 ^ 64 → FitsSigned w64 (cast_signed w64 n)
    signed_fits n h = search rules

    unsigned_fits : (z : ℤ) → FitsSigned w64 z → cast_unsigned w64 z < 2 ^ 64
    unsigned_fits z h = search rules

pub nums_field : (most : ℕ) → most < 2 ^ 16 → IsField (nums_read most) nums_bytes (FitsNums most)
unfolding nums_read
nums_field most few = counted_field most num_read (λ s n. s) num_bytes (λ (s : Unit {0}) n. FitsSigned w64 n) (λ s. Unit {0}) (λ s a p h. tt) few (λ s p. num_field s) tt tt

pub versions_field : IsField versions_read versions_bytes FitsVersions
unfolding versions_read
versions_field = counted_field most_versions (λ (s : Unit {0}). number_read w64) (λ s n. s) (to_be_bytes w64) (λ (s : Unit {0}) n. n < 2 ^ 64) (λ s. Unit {0}) (λ s a p h. tt) (omega arith) (λ s p. number_field w64 (2 ^ 64) wide64) tt tt

pub above_field : (low : ℕ) → IsField (above_read w32 low) (to_be_bytes w32) (λ n. (low < n) × (n < 2 ^ 32))
unfolding above_read
above_field low = as_field _ _ _ _ (judged_field (number_read w32) (to_be_bytes w32) (λ n. n < 2 ^ 32) (λ n. nat_lt low n) Count (number_field w32 (2 ^ 32) wide32))
    (λ n h. (ltb-true low n h.1, h.0))
    (λ n h. (h.1, lt-ltb low n h.0))

-- ---- ids and shards

pub id_field : IsField id_read id_bytes FitsId
unfolding id_read
id_field = made_field (then_read (within_read w16 0 last_coordinator) (λ coord. number_read w32)) (λ p. to_be_bytes w16 p.0 ++ to_be_bytes w32 p.1)
    (λ p. ((0 ≤ p.0) × (p.0 ≤ last_coordinator)) × (p.1 < 2 ^ 32)) id_of_parts id_bytes FitsId
    (then_field (within_read w16 0 last_coordinator) (to_be_bytes w16) (λ n. (0 ≤ n) × (n ≤ last_coordinator)) (λ coord. number_read w32) (λ coord. to_be_bytes w32) (λ coord n. n < 2 ^ 32)
    (within_field w16 (2 ^ 16) 0 last_coordinator wide16 (omega arith))
    (λ coord h. number_field w32 (2 ^ 32) wide32))
    (λ p h. ((h.0.1, h.1), refl))
    (λ id h. ((id.coord, id.seq), ((omega arith, h.0), h.1), refl))

pub shard_field : IsField shard_read shard_bytes FitsShard
unfolding shard_read
shard_field = made_field (within_read w8 0 last_shard) (to_be_bytes w8) (λ n. (0 ≤ n) × (n ≤ last_shard)) shard_of_parts shard_bytes FitsShard
    (within_field w8 (2 ^ 8) 0 last_shard wide8 (omega arith))
    (λ n h. (h.1, refl))
    (λ shard h. (shard.0, (omega arith, h), refl))

pub rising_field : (last : Option TxnId) → IsField (rising_read last) id_bytes (λ id. FitsId id × (rises last id ≡ true))
unfolding rising_read
rising_field last = judged_field id_read id_bytes FitsId (rises last) Order id_field

-- ---- edges

-- the tags of an edge are those that its number tells
tags_back : (tags : ℕ) → 1 ≤ tags → tags ≤ 3 → (from : TxnId) (at : Shard) → IsTrue (not (tags == 2) || not (tags == 1)) × (tags ≡ tags_of (edge_of_parts (from, (tags, at))))
tags_back zero low high from at = absurd (omega arith)
tags_back (suc zero) low high from at = (refl, refl)
tags_back (suc (suc zero)) low high from at = (refl, refl)
tags_back (suc (suc (suc zero))) low high from at = (refl, refl)
tags_back (suc (suc (suc (suc n)))) low high from at = absurd (omega arith)

tags_again : (from : TxnId) (imm def : Bool) (at : Shard) → IsTrue (imm || def)
    → let tags = tags_of (record { from = from; imm = imm; def = def; at = at }) in (1 ≤ tags) × (tags ≤ 3) × (edge_of_parts (from, (tags, at)) ≡ record { from = from; imm = imm; def = def; at = at })
tags_again from true true at h = (omega arith, omega arith, refl)
tags_again from true false at h = (omega arith, omega arith, refl)
tags_again from false true at h = (omega arith, omega arith, refl)
tags_again from false false at h = absurd cc

pub edge_field : (last : Option TxnId) → IsField (edge_read last) edge_bytes (FitsEdge last)
unfolding edge_read
edge_field last = made_field (then_read (rising_read last) (λ id. then_read (within_read w8 1 3) (λ tags. shard_read))) (λ p. id_bytes p.0 ++ (to_be_bytes w8 p.1.0 ++ shard_bytes p.1.1))
    (λ p. (FitsId p.0 × (rises last p.0 ≡ true)) × (((1 ≤ p.1.0) × (p.1.0 ≤ 3)) × FitsShard p.1.1)) edge_of_parts edge_bytes (FitsEdge last)
    (then_field (rising_read last) id_bytes (λ id. FitsId id × (rises last id ≡ true)) (λ id. then_read (within_read w8 1 3) (λ tags. shard_read))
    (λ id p. to_be_bytes w8 p.0 ++ shard_bytes p.1) (λ id p. ((1 ≤ p.0) × (p.0 ≤ 3)) × FitsShard p.1)
    (rising_field last)
    (λ id h. then_field (within_read w8 1 3) (to_be_bytes w8) (λ n. (1 ≤ n) × (n ≤ 3)) (λ tags. shard_read) (λ tags. shard_bytes) (λ tags. FitsShard)
    (within_field w8 (2 ^ 8) 1 3 wide8 (omega arith))
    (λ tags g. shard_field)))
    (λ p h.
    let tags = tags_back p.1.0 h.1.0.0 h.1.0.1 p.0 p.1.1 in
    ((h.0.0, h.0.1, tags.0, h.1.1), ap (λ n. id_bytes p.0 ++ (to_be_bytes w8 n ++ shard_bytes p.1.1)) tags.1 ∙ sym (append_assoc (id_bytes p.0) (to_be_bytes w8 (tags_of (edge_of_parts p))) (shard_bytes p.1.1))))
    (λ e h.
    let tags = tags_again e.from e.imm e.def e.at h.2 in
    ((e.from, (tags_of e, e.at)), ((h.0, h.1), ((tags.0, tags.1), h.3)), tags.2))

pub edges_field : (most : ℕ) → most < 2 ^ 16 → IsField (edges_read most) edges_bytes (FitsEdges most)
unfolding edges_read
edges_field most few = counted_field most edge_read last_from edge_bytes FitsEdge (λ s. Unit {0}) (λ s a p h. tt) few (λ s p. edge_field s) None tt

-- ---- facts

pub fact_field : (room : Room) → room.1 < 2 ^ 16 → IsField (fact_read room) fact_bytes (FitsFact room)
unfolding fact_read
fact_field room few = made_field (then_read (rising_read room.0) (λ id. edges_read room.1)) (λ p. id_bytes p.0 ++ edges_bytes p.1)
    (λ p. (FitsId p.0 × (rises room.0 p.0 ≡ true)) × FitsEdges room.1 p.1) fact_of_parts fact_bytes (FitsFact room)
    (then_field (rising_read room.0) id_bytes (λ id. FitsId id × (rises room.0 id ≡ true)) (λ id. edges_read room.1) (λ id. edges_bytes) (λ id. FitsEdges room.1)
    (rising_field room.0)
    (λ id h. edges_field room.1 few))
    (λ p h. ((h.0.0, h.0.1, h.1), refl))
    (λ fact h. ((fact.of, fact.edges), ((h.0, h.1), h.2), refl))

pub facts_field : IsField facts_read facts_bytes FitsFacts
unfolding facts_read
facts_field = counted_field most_facts fact_read room_behind fact_bytes FitsFact (λ (room : Room). room.1 < 2 ^ 16) (λ room fact p h. omega arith) (omega arith) fact_field (None, most_fact_edges) (omega arith)
