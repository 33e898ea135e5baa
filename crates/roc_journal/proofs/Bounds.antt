-- A spelling has at most 60,000 bytes.
use Rattle.std.proofs.Common.{◌≡◌, ◌≤◌, ◌+◌, ◌*◌, ℕ, List, [], ◌∷◌, ◌++◌, length, refl, arith, length-append}
use Rattle.std.specs.Int.{to_be_bytes, w8, w16, w32, w64}
use Rattle.std.specs.List.{flat_map}
use Rattle.roc_base.specs.Edge.{Dependency}
use Rattle.roc_depgraph.specs.declared.known.KnownList.{KnownList}
use Rattle.roc_msg.specs.declared.msg.Msg.{Msg}
use Rattle.roc_msg.specs.declared.msg.Msg.TheVariants.{Start, StartOk, Commit, CommitOk, Fetch, Known, Stop, Ended, Settled, Read, ReadOk, Drained, Switched}
use Rattle.roc_wire.specs.declared.header.Header.{Header}
use Rattle.roc_wire.specs.Fits.{AllAlong, Room, FitsFact, FitsFacts, room_behind, FitsMsg, IsSpellable}
use Rattle.roc_wire.specs.Spelling.{num_bytes, nums_bytes, versions_bytes, edge_bytes, edges_bytes, fact_bytes, facts_bytes, body, spelling, shard_bytes, id_bytes, sender_role, sender_number}

-- eight bytes each
eights : {A : Type 0} (spell : A → List ℕ) → ((x : A) → length (spell x) ≡ 8) → (xs : List A) → length (flat_map spell xs) ≡ length xs * 8
eights spell each [] = refl
eights spell each (x ∷ xs) = omega (arith, length-append (spell x) (flat_map spell xs), each x, eights spell each xs)

nums_size : (nums : _) → length (nums_bytes nums) ≡ 2 + length nums * 8
nums_size nums = omega (arith, eights num_bytes (λ n. refl) nums)

versions_size : (versions : List ℕ) → length (versions_bytes versions) ≡ 2 + length versions * 8
versions_size versions = omega (arith, eights (to_be_bytes w64) (λ n. refl) versions)

edges_size : (edges : List Dependency) → length (edges_bytes edges) ≡ 2 + length edges * 8
edges_size edges = omega (arith, eights edge_bytes (λ edge. refl) edges)

fact_size : (fact : KnownList) → length (fact_bytes fact) ≡ 8 + length fact.edges * 8
fact_size fact = omega (arith, edges_size fact.edges)

-- all edges of facts share one room
all_facts : (room : Room) (facts : List KnownList) → AllAlong FitsFact room_behind room facts → length (flat_map fact_bytes facts) ≤ length facts * 8 + room.1 * 8
all_facts room [] fits = omega arith
all_facts room (fact ∷ facts) fits =
    omega (arith, length-append (fact_bytes fact) (flat_map fact_bytes facts), fact_size fact, fits.0.2.0, all_facts (room_behind room fact) facts fits.1)

facts_size : (facts : List KnownList) → FitsFacts facts → length (facts_bytes facts) ≤ 8130
facts_size facts fits = omega (arith, fits.0, all_facts _ facts fits.1)

body_size : (msg : Msg) → FitsMsg msg → length (body msg) ≤ 57297
body_size (Start id proc group args inputs) fits =
    omega (
      arith,
      length-append (id_bytes id ++ to_be_bytes w16 proc ++ to_be_bytes w16 group ++ nums_bytes args) (nums_bytes inputs),
      length-append (id_bytes id ++ to_be_bytes w16 proc ++ to_be_bytes w16 group) (nums_bytes args),
      nums_size args,
      nums_size inputs,
      fits.3.0,
      fits.4.0,
    )
body_size (StartOk id group shard bound outs edges facts) fits =
    let head = id_bytes id ++ to_be_bytes w16 group ++ shard_bytes shard in
    omega (
      arith,
      length-append (head ++ nums_bytes bound ++ nums_bytes outs ++ edges_bytes edges) (facts_bytes facts),
      length-append (head ++ nums_bytes bound ++ nums_bytes outs) (edges_bytes edges),
      length-append (head ++ nums_bytes bound) (nums_bytes outs),
      length-append head (nums_bytes bound),
      nums_size bound,
      nums_size outs,
      edges_size edges,
      facts_size facts fits.6,
      fits.3.0,
      fits.4.0,
      fits.5.0,
    )
body_size (Commit id edges facts) fits =
    omega (arith, length-append (id_bytes id ++ edges_bytes edges) (facts_bytes facts), length-append (id_bytes id) (edges_bytes edges), edges_size edges, facts_size facts fits.2, fits.1.0)
body_size (CommitOk id shard outs) fits = omega (arith, length-append (id_bytes id ++ shard_bytes shard) (nums_bytes outs), nums_size outs, fits.2.0)
body_size (Fetch id asker) fits = omega arith
body_size (Known id edges) fits = omega (arith, length-append (id_bytes id) (edges_bytes edges), edges_size edges, fits.1.0)
body_size Stop fits = omega arith
body_size (Ended coord below) fits = omega arith
body_size (Settled id below) fits = omega arith
body_size (Read id round proc group args) fits =
    omega (arith, length-append (id_bytes id ++ to_be_bytes w32 round ++ to_be_bytes w16 proc ++ to_be_bytes w16 group) (nums_bytes args), nums_size args, fits.4.0)
body_size (ReadOk id round group shard versions outs) fits =
    let head = id_bytes id ++ to_be_bytes w32 round ++ to_be_bytes w16 group ++ shard_bytes shard in
    omega (arith, length-append (head ++ versions_bytes versions) (nums_bytes outs), length-append head (versions_bytes versions), nums_size outs, versions_size versions, fits.4.0, fits.5.0)
body_size (Drained upto) fits = omega arith
body_size (Switched upto shard) fits = omega arith

pub spelling_size : (header : Header) (msg : Msg) → IsSpellable header msg → length (spelling header msg) ≤ 60000
spelling_size header msg fits =
    let role = to_be_bytes w8 (sender_role header.from) in
    let number = to_be_bytes w16 (sender_number header.from) in
    omega (arith, fits.0.0, body_size msg fits.1, length-append (header.tag ++ role ++ number) (body msg), length-append (header.tag ++ role) number, length-append header.tag role)
