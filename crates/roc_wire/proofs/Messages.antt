-- Each message and the whole datagram are read exactly as they are spelled
use Rattle.std.proofs.Common.{◌≡◌, ℕ, zero, suc, ◌^◌, ◌<◌, ◌≤◌, ℤ, List, ◌++◌, Ok, refl, subst, append_assoc, arith}
use Rattle.std.specs.Int.{w16, w32, to_be_bytes}
use Rattle.roc_base.specs.declared.id.TxnId.{TxnId}
use Rattle.roc_base.specs.declared.node.Shard.{Shard}
use Rattle.roc_base.specs.Edge.{Dependency}
use Rattle.roc_depgraph.specs.declared.known.KnownList.{KnownList}
use Rattle.roc_msg.specs.declared.msg.Msg.{Msg}
use Rattle.roc_msg.specs.declared.msg.Msg.TheVariants.{Start, StartOk, Commit, CommitOk, Fetch, Known, Stop, Ended, Settled, Read, ReadOk, Drained, Switched}
use Rattle.roc_msg.specs.Msg.{kind_of}
use Rattle.roc_wire.specs.Spelling.{id_bytes, shard_bytes, nums_bytes, versions_bytes, edges_bytes, facts_bytes, body}
use Rattle.roc_wire.specs.Fits.{FitsId, FitsShard, FitsNums, FitsVersions, FitsEdges, FitsFacts, FitsMsg, last_coordinator, most_args, most_nums, most_edges}
use Rattle.roc_wire.specs.Reading.{then_read, number_read, within_read, above_read, nums_read, versions_read, id_read, shard_read, edges_read, facts_read, start_of_parts, start_read, start_ok_of_parts, start_ok_read, commit_of_parts, commit_read, commit_ok_of_parts, commit_ok_read, fetch_of_parts, fetch_read, known_of_parts, known_read, stop_read, ended_of_parts, ended_read, settled_of_parts, settled_read, read_of_parts, read_read, read_ok_of_parts, read_ok_read, drained_of_parts, drained_read, switched_of_parts, switched_read, body_read}
use Rattle.roc_wire.proofs.Exact.{Takes, ok_is, IsField, then_field, made_field, number_field, within_field, wide16, wide32}
use Rattle.roc_wire.proofs.Members.{nums_field, versions_field, above_field, id_field, shard_field, edges_field, facts_field}

-- a message of this kind that fits
abbrev pub IsOf : ℕ → Msg → Type 0
IsOf kind msg = (kind_of msg ≡ kind) × FitsMsg msg

word_field : IsField (number_read w16) (to_be_bytes w16) (λ n. n < 2 ^ 16)
word_field = number_field w16 (2 ^ 16) wide16

round_field : IsField (number_read w32) (to_be_bytes w32) (λ n. n < 2 ^ 32)
round_field = number_field w32 (2 ^ 32) wide32

start_field : IsField start_read body (IsOf 1)
unfolding start_read
start_field = made_field (then_read id_read (λ id. then_read (number_read w16) (λ proc. then_read (number_read w16) (λ group. then_read (nums_read most_args) (λ args. nums_read most_nums)))))
    (λ p. id_bytes p.0 ++ (to_be_bytes w16 p.1.0 ++ (to_be_bytes w16 p.1.1.0 ++ (nums_bytes p.1.1.1.0 ++ nums_bytes p.1.1.1.1))))
    (λ p. FitsId p.0 × ((p.1.0 < 2 ^ 16) × ((p.1.1.0 < 2 ^ 16) × (FitsNums most_args p.1.1.1.0 × FitsNums most_nums p.1.1.1.1)))) start_of_parts body (IsOf 1)
    (then_field id_read id_bytes FitsId _ (λ id p. to_be_bytes w16 p.0 ++ (to_be_bytes w16 p.1.0 ++ (nums_bytes p.1.1.0 ++ nums_bytes p.1.1.1))) (λ id p. (p.0 < 2 ^ 16) × ((p.1.0 < 2 ^ 16) × (FitsNums most_args p.1.1.0 × FitsNums most_nums p.1.1.1))) id_field (λ id h.
    then_field (number_read w16) (to_be_bytes w16) (λ n. n < 2 ^ 16) _ (λ n p. to_be_bytes w16 p.0 ++ (nums_bytes p.1.0 ++ nums_bytes p.1.1)) (λ n p. (p.0 < 2 ^ 16) × (FitsNums most_args p.1.0 × FitsNums most_nums p.1.1)) word_field (λ n h.
    then_field (number_read w16) (to_be_bytes w16) (λ n. n < 2 ^ 16) _ (λ n p. nums_bytes p.0 ++ nums_bytes p.1) (λ n p. FitsNums most_args p.0 × FitsNums most_nums p.1) word_field (λ n h.
    then_field (nums_read most_args) nums_bytes (FitsNums most_args) _ (λ args. nums_bytes) (λ args. FitsNums most_nums) (nums_field most_args (omega arith)) (λ args h. nums_field most_nums (omega arith))))))
    (λ p h. ((refl, (h.0, h.1.0, h.1.1.0, h.1.1.1.0, h.1.1.1.1)), five (id_bytes p.0) (to_be_bytes w16 p.1.0) (to_be_bytes w16 p.1.1.0) (nums_bytes p.1.1.1.0) (nums_bytes p.1.1.1.1)))
    back
  where
    five : (a b c d e : List ℕ) → a ++ (b ++ (c ++ (d ++ e))) ≡ a ++ b ++ c ++ d ++ e
    five a b c d e = simp append_assoc

    back : (msg : Msg) → IsOf 1 msg → (p : TxnId × (ℕ × (ℕ × (List ℤ × List ℤ)))) × (FitsId p.0 × ((p.1.0 < 2 ^ 16) × ((p.1.1.0 < 2 ^ 16) × (FitsNums most_args p.1.1.1.0 × FitsNums most_nums p.1.1.1.1)))) × (start_of_parts p ≡ msg)
    back (Start id proc group args inputs) h = ((id, (proc, (group, (args, inputs)))), (h.1.0, (h.1.1, (h.1.2, (h.1.3, h.1.4)))), refl)
    back msg h = absurd (omega (arith, h.0))

start_ok_field : IsField start_ok_read body (IsOf 2)
unfolding start_ok_read
start_ok_field = made_field (then_read id_read (λ x. then_read (number_read w16) (λ x. then_read shard_read (λ x. then_read (nums_read most_nums) (λ x. then_read (nums_read most_nums) (λ x. then_read (edges_read most_edges) (λ x. facts_read)))))))
    (λ p. id_bytes p.0 ++ (to_be_bytes w16 p.1.0 ++ (shard_bytes p.1.1.0 ++ (nums_bytes p.1.1.1.0 ++ (nums_bytes p.1.1.1.1.0 ++ (edges_bytes p.1.1.1.1.1.0 ++ facts_bytes p.1.1.1.1.1.1))))))
    (λ p. FitsId p.0 × ((p.1.0 < 2 ^ 16) × (FitsShard p.1.1.0 × (FitsNums most_nums p.1.1.1.0 × (FitsNums most_nums p.1.1.1.1.0 × (FitsEdges most_edges p.1.1.1.1.1.0 × (FitsFacts p.1.1.1.1.1.1))))))) start_ok_of_parts body (IsOf 2)
    (then_field (id_read) (id_bytes) (FitsId) _ (λ x p. to_be_bytes w16 p.0 ++ (shard_bytes p.1.0 ++ (nums_bytes p.1.1.0 ++ (nums_bytes p.1.1.1.0 ++ (edges_bytes p.1.1.1.1.0 ++ facts_bytes p.1.1.1.1.1))))) (λ x p. (p.0 < 2 ^ 16) × (FitsShard p.1.0 × (FitsNums most_nums p.1.1.0 × (FitsNums most_nums p.1.1.1.0 × (FitsEdges most_edges p.1.1.1.1.0 × (FitsFacts p.1.1.1.1.1)))))) (id_field) (λ x h.
    then_field (number_read w16) (to_be_bytes w16) (λ n. n < 2 ^ 16) _ (λ x p. shard_bytes p.0 ++ (nums_bytes p.1.0 ++ (nums_bytes p.1.1.0 ++ (edges_bytes p.1.1.1.0 ++ facts_bytes p.1.1.1.1)))) (λ x p. FitsShard p.0 × (FitsNums most_nums p.1.0 × (FitsNums most_nums p.1.1.0 × (FitsEdges most_edges p.1.1.1.0 × (FitsFacts p.1.1.1.1))))) (word_field) (λ x h.
    then_field (shard_read) (shard_bytes) (FitsShard) _ (λ x p. nums_bytes p.0 ++ (nums_bytes p.1.0 ++ (edges_bytes p.1.1.0 ++ facts_bytes p.1.1.1))) (λ x p. FitsNums most_nums p.0 × (FitsNums most_nums p.1.0 × (FitsEdges most_edges p.1.1.0 × (FitsFacts p.1.1.1)))) (shard_field) (λ x h.
    then_field (nums_read most_nums) (nums_bytes) (FitsNums most_nums) _ (λ x p. nums_bytes p.0 ++ (edges_bytes p.1.0 ++ facts_bytes p.1.1)) (λ x p. FitsNums most_nums p.0 × (FitsEdges most_edges p.1.0 × (FitsFacts p.1.1))) (nums_field most_nums (omega arith)) (λ x h.
    then_field (nums_read most_nums) (nums_bytes) (FitsNums most_nums) _ (λ x p. edges_bytes p.0 ++ facts_bytes p.1) (λ x p. FitsEdges most_edges p.0 × (FitsFacts p.1)) (nums_field most_nums (omega arith)) (λ x h.
    then_field (edges_read most_edges) (edges_bytes) (FitsEdges most_edges) _ (λ x. facts_bytes) (λ x. FitsFacts) (edges_field most_edges (omega arith)) (λ x h.
    facts_field)))))))
    (λ p h. ((refl, (h.0, h.1.0, h.1.1.0, h.1.1.1.0, h.1.1.1.1.0, h.1.1.1.1.1.0, h.1.1.1.1.1.1)), parts (id_bytes p.0) (to_be_bytes w16 p.1.0) (shard_bytes p.1.1.0) (nums_bytes p.1.1.1.0) (nums_bytes p.1.1.1.1.0) (edges_bytes p.1.1.1.1.1.0) (facts_bytes p.1.1.1.1.1.1)))
    back
  where
    parts : (a b c d e f g : List ℕ) → a ++ (b ++ (c ++ (d ++ (e ++ (f ++ g))))) ≡ a ++ b ++ c ++ d ++ e ++ f ++ g
    parts a b c d e f g = simp append_assoc

    back : (msg : Msg) → IsOf 2 msg → (p : TxnId × (ℕ × (Shard × (List ℤ × (List ℤ × (List Dependency × List KnownList)))))) × (FitsId p.0 × ((p.1.0 < 2 ^ 16) × (FitsShard p.1.1.0 × (FitsNums most_nums p.1.1.1.0 × (FitsNums most_nums p.1.1.1.1.0 × (FitsEdges most_edges p.1.1.1.1.1.0 × (FitsFacts p.1.1.1.1.1.1))))))) × (start_ok_of_parts p ≡ msg)
    back (StartOk id group shard bound outs edges facts) h = ((id, (group, (shard, (bound, (outs, (edges, facts)))))), (h.1.0, (h.1.1, (h.1.2, (h.1.3, (h.1.4, (h.1.5, h.1.6)))))), refl)
    back msg h = absurd (omega (arith, h.0))

commit_field : IsField commit_read body (IsOf 3)
unfolding commit_read
commit_field = made_field (then_read id_read (λ x. then_read (edges_read most_edges) (λ x. facts_read)))
    (λ p. id_bytes p.0 ++ (edges_bytes p.1.0 ++ facts_bytes p.1.1))
    (λ p. FitsId p.0 × (FitsEdges most_edges p.1.0 × (FitsFacts p.1.1))) commit_of_parts body (IsOf 3)
    (then_field (id_read) (id_bytes) (FitsId) _ (λ x p. edges_bytes p.0 ++ facts_bytes p.1) (λ x p. FitsEdges most_edges p.0 × (FitsFacts p.1)) (id_field) (λ x h.
    then_field (edges_read most_edges) (edges_bytes) (FitsEdges most_edges) _ (λ x. facts_bytes) (λ x. FitsFacts) (edges_field most_edges (omega arith)) (λ x h.
    facts_field)))
    (λ p h. ((refl, (h.0, h.1.0, h.1.1)), parts (id_bytes p.0) (edges_bytes p.1.0) (facts_bytes p.1.1)))
    back
  where
    parts : (a b c : List ℕ) → a ++ (b ++ c) ≡ a ++ b ++ c
    parts a b c = simp append_assoc

    back : (msg : Msg) → IsOf 3 msg → (p : TxnId × (List Dependency × List KnownList)) × (FitsId p.0 × (FitsEdges most_edges p.1.0 × (FitsFacts p.1.1))) × (commit_of_parts p ≡ msg)
    back (Commit id edges facts) h = ((id, (edges, facts)), (h.1.0, (h.1.1, h.1.2)), refl)
    back msg h = absurd (omega (arith, h.0))

commit_ok_field : IsField commit_ok_read body (IsOf 4)
unfolding commit_ok_read
commit_ok_field = made_field (then_read id_read (λ x. then_read shard_read (λ x. nums_read most_nums)))
    (λ p. id_bytes p.0 ++ (shard_bytes p.1.0 ++ nums_bytes p.1.1))
    (λ p. FitsId p.0 × (FitsShard p.1.0 × (FitsNums most_nums p.1.1))) commit_ok_of_parts body (IsOf 4)
    (then_field (id_read) (id_bytes) (FitsId) _ (λ x p. shard_bytes p.0 ++ nums_bytes p.1) (λ x p. FitsShard p.0 × (FitsNums most_nums p.1)) (id_field) (λ x h.
    then_field (shard_read) (shard_bytes) (FitsShard) _ (λ x. nums_bytes) (λ x. FitsNums most_nums) (shard_field) (λ x h.
    nums_field most_nums (omega arith))))
    (λ p h. ((refl, (h.0, h.1.0, h.1.1)), parts (id_bytes p.0) (shard_bytes p.1.0) (nums_bytes p.1.1)))
    back
  where
    parts : (a b c : List ℕ) → a ++ (b ++ c) ≡ a ++ b ++ c
    parts a b c = simp append_assoc

    back : (msg : Msg) → IsOf 4 msg → (p : TxnId × (Shard × List ℤ)) × (FitsId p.0 × (FitsShard p.1.0 × (FitsNums most_nums p.1.1))) × (commit_ok_of_parts p ≡ msg)
    back (CommitOk id shard outs) h = ((id, (shard, outs)), (h.1.0, (h.1.1, h.1.2)), refl)
    back msg h = absurd (omega (arith, h.0))

fetch_field : IsField fetch_read body (IsOf 5)
unfolding fetch_read
fetch_field = made_field (then_read id_read (λ x. shard_read))
    (λ p. id_bytes p.0 ++ shard_bytes p.1)
    (λ p. FitsId p.0 × (FitsShard p.1)) fetch_of_parts body (IsOf 5)
    (then_field (id_read) (id_bytes) (FitsId) _ (λ x. shard_bytes) (λ x. FitsShard) (id_field) (λ x h.
    shard_field))
    (λ p h. ((refl, (h.0, h.1)), refl))
    back
  where
    back : (msg : Msg) → IsOf 5 msg → (p : TxnId × Shard) × (FitsId p.0 × (FitsShard p.1)) × (fetch_of_parts p ≡ msg)
    back (Fetch id asker) h = ((id, asker), (h.1.0, h.1.1), refl)
    back msg h = absurd (omega (arith, h.0))

known_field : IsField known_read body (IsOf 6)
unfolding known_read
known_field = made_field (then_read id_read (λ x. edges_read most_edges))
    (λ p. id_bytes p.0 ++ edges_bytes p.1)
    (λ p. FitsId p.0 × (FitsEdges most_edges p.1)) known_of_parts body (IsOf 6)
    (then_field (id_read) (id_bytes) (FitsId) _ (λ x. edges_bytes) (λ x. FitsEdges most_edges) (id_field) (λ x h.
    edges_field most_edges (omega arith)))
    (λ p h. ((refl, (h.0, h.1)), refl))
    back
  where
    back : (msg : Msg) → IsOf 6 msg → (p : TxnId × List Dependency) × (FitsId p.0 × (FitsEdges most_edges p.1)) × (known_of_parts p ≡ msg)
    back (Known id edges) h = ((id, edges), (h.1.0, h.1.1), refl)
    back msg h = absurd (omega (arith, h.0))

-- nothing is read
stop_field : IsField stop_read body (IsOf 7)
stop_field = record {
  takes = λ bytes msg rest fits e.
      let same = ok_is (Stop, bytes) (msg, rest) e in
      subst (λ (x : Msg × List ℕ). Takes bytes (body x.0) x.1 × IsOf 7 x.0) same (record { parts = refl; rest_fits = fits }, (refl, tt));
  again = again;
}
  where
    again : (msg : Msg) (rest : List ℕ) → IsOf 7 msg → stop_read (body msg ++ rest) ≡ Ok (msg, rest)
    again Stop rest h = refl
    again msg rest h = absurd (omega (arith, h.0))

ended_field : IsField ended_read body (IsOf 8)
unfolding ended_read
ended_field = made_field (then_read (within_read w16 0 last_coordinator) (λ coord. number_read w32)) (λ p. to_be_bytes w16 p.0 ++ to_be_bytes w32 p.1)
    (λ p. ((0 ≤ p.0) × (p.0 ≤ last_coordinator)) × (p.1 < 2 ^ 32)) ended_of_parts body (IsOf 8)
    (then_field (within_read w16 0 last_coordinator) (to_be_bytes w16) (λ n. (0 ≤ n) × (n ≤ last_coordinator)) (λ coord. number_read w32) (λ coord. to_be_bytes w32) (λ coord n. n < 2 ^ 32)
    (within_field w16 (2 ^ 16) 0 last_coordinator wide16 (omega arith))
    (λ coord h. round_field))
    (λ p h. ((refl, (h.0.1, h.1)), refl))
    back
  where
    back : (msg : Msg) → IsOf 8 msg → (p : ℕ × ℕ) × (((0 ≤ p.0) × (p.0 ≤ last_coordinator)) × (p.1 < 2 ^ 32)) × (ended_of_parts p ≡ msg)
    back (Ended coord below) h = ((coord, below), ((omega arith, h.1.0), h.1.1), refl)
    back msg h = absurd (omega (arith, h.0))

settled_field : IsField settled_read body (IsOf 9)
unfolding settled_read
settled_field = made_field (then_read id_read (λ id. above_read w32 id.seq)) (λ p. id_bytes p.0 ++ to_be_bytes w32 p.1)
    (λ p. FitsId p.0 × ((p.0.seq < p.1) × (p.1 < 2 ^ 32))) settled_of_parts body (IsOf 9)
    (then_field id_read id_bytes FitsId (λ id. above_read w32 id.seq) (λ id. to_be_bytes w32) (λ id n. (id.seq < n) × (n < 2 ^ 32)) id_field (λ id h. above_field id.seq))
    (λ p h. ((refl, (h.0, h.1.0, h.1.1)), refl))
    back
  where
    back : (msg : Msg) → IsOf 9 msg → (p : TxnId × ℕ) × (FitsId p.0 × ((p.0.seq < p.1) × (p.1 < 2 ^ 32))) × (settled_of_parts p ≡ msg)
    back (Settled id below) h = ((id, below), (h.1.0, (h.1.1, h.1.2)), refl)
    back msg h = absurd (omega (arith, h.0))

read_field : IsField read_read body (IsOf 10)
unfolding read_read
read_field = made_field (then_read id_read (λ id. then_read (number_read w32) (λ round. then_read (number_read w16) (λ proc. then_read (number_read w16) (λ group. nums_read most_args)))))
    (λ p. id_bytes p.0 ++ (to_be_bytes w32 p.1.0 ++ (to_be_bytes w16 p.1.1.0 ++ (to_be_bytes w16 p.1.1.1.0 ++ nums_bytes p.1.1.1.1))))
    (λ p. FitsId p.0 × ((p.1.0 < 2 ^ 32) × ((p.1.1.0 < 2 ^ 16) × ((p.1.1.1.0 < 2 ^ 16) × FitsNums most_args p.1.1.1.1)))) read_of_parts body (IsOf 10)
    (then_field id_read id_bytes FitsId _ (λ id p. to_be_bytes w32 p.0 ++ (to_be_bytes w16 p.1.0 ++ (to_be_bytes w16 p.1.1.0 ++ nums_bytes p.1.1.1))) (λ id p. (p.0 < 2 ^ 32) × ((p.1.0 < 2 ^ 16) × ((p.1.1.0 < 2 ^ 16) × FitsNums most_args p.1.1.1))) id_field (λ id h.
    then_field (number_read w32) (to_be_bytes w32) (λ n. n < 2 ^ 32) _ (λ n p. to_be_bytes w16 p.0 ++ (to_be_bytes w16 p.1.0 ++ nums_bytes p.1.1)) (λ n p. (p.0 < 2 ^ 16) × ((p.1.0 < 2 ^ 16) × FitsNums most_args p.1.1)) round_field (λ n h.
    then_field (number_read w16) (to_be_bytes w16) (λ n. n < 2 ^ 16) _ (λ n p. to_be_bytes w16 p.0 ++ nums_bytes p.1) (λ n p. (p.0 < 2 ^ 16) × FitsNums most_args p.1) word_field (λ n h.
    then_field (number_read w16) (to_be_bytes w16) (λ n. n < 2 ^ 16) _ (λ n. nums_bytes) (λ n. FitsNums most_args) word_field (λ n h. nums_field most_args (omega arith))))))
    (λ p h. ((refl, (h.0, h.1.0, h.1.1.0, h.1.1.1.0, h.1.1.1.1)), parts (id_bytes p.0) (to_be_bytes w32 p.1.0) (to_be_bytes w16 p.1.1.0) (to_be_bytes w16 p.1.1.1.0) (nums_bytes p.1.1.1.1)))
    back
  where
    parts : (a b c d e : List ℕ) → a ++ (b ++ (c ++ (d ++ e))) ≡ a ++ b ++ c ++ d ++ e
    parts a b c d e = simp append_assoc

    back : (msg : Msg) → IsOf 10 msg → (p : TxnId × (ℕ × (ℕ × (ℕ × List ℤ)))) × (FitsId p.0 × ((p.1.0 < 2 ^ 32) × ((p.1.1.0 < 2 ^ 16) × ((p.1.1.1.0 < 2 ^ 16) × FitsNums most_args p.1.1.1.1)))) × (read_of_parts p ≡ msg)
    back (Read id round proc group args) h = ((id, (round, (proc, (group, args)))), (h.1.0, (h.1.1, (h.1.2, (h.1.3, h.1.4)))), refl)
    back msg h = absurd (omega (arith, h.0))

read_ok_field : IsField read_ok_read body (IsOf 11)
unfolding read_ok_read
read_ok_field = made_field (then_read id_read (λ id. then_read (number_read w32) (λ round. then_read (number_read w16) (λ group. then_read shard_read (λ shard. then_read versions_read (λ versions. nums_read most_nums))))))
    (λ p. id_bytes p.0 ++ (to_be_bytes w32 p.1.0 ++ (to_be_bytes w16 p.1.1.0 ++ (shard_bytes p.1.1.1.0 ++ (versions_bytes p.1.1.1.1.0 ++ nums_bytes p.1.1.1.1.1)))))
    (λ p. FitsId p.0 × ((p.1.0 < 2 ^ 32) × ((p.1.1.0 < 2 ^ 16) × (FitsShard p.1.1.1.0 × (FitsVersions p.1.1.1.1.0 × FitsNums most_nums p.1.1.1.1.1))))) read_ok_of_parts body (IsOf 11)
    (then_field id_read id_bytes FitsId _ (λ id p. to_be_bytes w32 p.0 ++ (to_be_bytes w16 p.1.0 ++ (shard_bytes p.1.1.0 ++ (versions_bytes p.1.1.1.0 ++ nums_bytes p.1.1.1.1)))) (λ id p. (p.0 < 2 ^ 32) × ((p.1.0 < 2 ^ 16) × (FitsShard p.1.1.0 × (FitsVersions p.1.1.1.0 × FitsNums most_nums p.1.1.1.1)))) id_field (λ id h.
    then_field (number_read w32) (to_be_bytes w32) (λ n. n < 2 ^ 32) _ (λ n p. to_be_bytes w16 p.0 ++ (shard_bytes p.1.0 ++ (versions_bytes p.1.1.0 ++ nums_bytes p.1.1.1))) (λ n p. (p.0 < 2 ^ 16) × (FitsShard p.1.0 × (FitsVersions p.1.1.0 × FitsNums most_nums p.1.1.1))) round_field (λ n h.
    then_field (number_read w16) (to_be_bytes w16) (λ n. n < 2 ^ 16) _ (λ n p. shard_bytes p.0 ++ (versions_bytes p.1.0 ++ nums_bytes p.1.1)) (λ n p. FitsShard p.0 × (FitsVersions p.1.0 × FitsNums most_nums p.1.1)) word_field (λ n h.
    then_field shard_read shard_bytes FitsShard _ (λ shard p. versions_bytes p.0 ++ nums_bytes p.1) (λ shard p. FitsVersions p.0 × FitsNums most_nums p.1) shard_field (λ shard h.
    then_field versions_read versions_bytes FitsVersions _ (λ versions. nums_bytes) (λ versions. FitsNums most_nums) versions_field (λ versions h. nums_field most_nums (omega arith)))))))
    (λ p h. ((refl, (h.0, h.1.0, h.1.1.0, h.1.1.1.0, h.1.1.1.1.0, h.1.1.1.1.1)), parts (id_bytes p.0) (to_be_bytes w32 p.1.0) (to_be_bytes w16 p.1.1.0) (shard_bytes p.1.1.1.0) (versions_bytes p.1.1.1.1.0) (nums_bytes p.1.1.1.1.1)))
    back
  where
    parts : (a b c d e f : List ℕ) → a ++ (b ++ (c ++ (d ++ (e ++ f)))) ≡ a ++ b ++ c ++ d ++ e ++ f
    parts a b c d e f = simp append_assoc

    back : (msg : Msg) → IsOf 11 msg → (p : TxnId × (ℕ × (ℕ × (Shard × (List ℕ × List ℤ))))) × (FitsId p.0 × ((p.1.0 < 2 ^ 32) × ((p.1.1.0 < 2 ^ 16) × (FitsShard p.1.1.1.0 × (FitsVersions p.1.1.1.1.0 × FitsNums most_nums p.1.1.1.1.1))))) × (read_ok_of_parts p ≡ msg)
    back (ReadOk id round group shard versions outs) h = ((id, (round, (group, (shard, (versions, outs))))), (h.1.0, (h.1.1, (h.1.2, (h.1.3, (h.1.4, h.1.5))))), refl)
    back msg h = absurd (omega (arith, h.0))

drained_field : IsField drained_read body (IsOf 12)
unfolding drained_read
drained_field = made_field id_read id_bytes FitsId drained_of_parts body (IsOf 12) id_field (λ upto h. ((refl, h), refl)) back
  where
    back : (msg : Msg) → IsOf 12 msg → (upto : TxnId) × FitsId upto × (drained_of_parts upto ≡ msg)
    back (Drained upto) h = (upto, h.1, refl)
    back msg h = absurd (omega (arith, h.0))

switched_field : IsField switched_read body (IsOf 13)
unfolding switched_read
switched_field = made_field (then_read id_read (λ x. shard_read))
    (λ p. id_bytes p.0 ++ shard_bytes p.1)
    (λ p. FitsId p.0 × (FitsShard p.1)) switched_of_parts body (IsOf 13)
    (then_field (id_read) (id_bytes) (FitsId) _ (λ x. shard_bytes) (λ x. FitsShard) (id_field) (λ x h.
    shard_field))
    (λ p h. ((refl, (h.0, h.1)), refl))
    back
  where
    back : (msg : Msg) → IsOf 13 msg → (p : TxnId × Shard) × (FitsId p.0 × (FitsShard p.1)) × (switched_of_parts p ≡ msg)
    back (Switched upto shard) h = ((upto, shard), (h.1.0, h.1.1), refl)
    back msg h = absurd (omega (arith, h.0))

-- which body a kind has
pub body_field : (k : ℕ) → (1 ≤ k) × (k ≤ 13) → IsField (body_read k) body (IsOf k)
unfolding body_read
body_field zero h = absurd (omega (arith, h.0))
body_field (suc zero) h = start_field
body_field (suc (suc zero)) h = start_ok_field
body_field (suc (suc (suc zero))) h = commit_field
body_field (suc (suc (suc (suc zero)))) h = commit_ok_field
body_field (suc (suc (suc (suc (suc zero))))) h = fetch_field
body_field (suc (suc (suc (suc (suc (suc zero)))))) h = known_field
body_field (suc (suc (suc (suc (suc (suc (suc zero))))))) h = stop_field
body_field (suc (suc (suc (suc (suc (suc (suc (suc zero)))))))) h = ended_field
body_field (suc (suc (suc (suc (suc (suc (suc (suc (suc zero))))))))) h = settled_field
body_field (suc (suc (suc (suc (suc (suc (suc (suc (suc (suc zero)))))))))) h = read_field
body_field (suc (suc (suc (suc (suc (suc (suc (suc (suc (suc (suc zero))))))))))) h = read_ok_field
body_field (suc (suc (suc (suc (suc (suc (suc (suc (suc (suc (suc (suc zero)))))))))))) h = drained_field
body_field (suc (suc (suc (suc (suc (suc (suc (suc (suc (suc (suc (suc (suc zero))))))))))))) h = switched_field
body_field (suc (suc (suc (suc (suc (suc (suc (suc (suc (suc (suc (suc (suc (suc n)))))))))))))) h = absurd (omega (arith, h.1))
