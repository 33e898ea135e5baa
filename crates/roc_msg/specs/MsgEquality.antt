-- What `==` computes of messages decides equality
use Rattle.std.proofs.Common.{◌≡◌, ◌∙◌, ℕ, ℤ, Bool, true, ◌==◌, List, refl, ap, subst}
use Rattle.std.proofs.lemmas.Bool.{false≢true, eqb-true, and_parts}
use Rattle.std.specs.Bool.{Decides}
use Rattle.roc_base.specs.declared.node.Shard.{Shard}
use Rattle.roc_base.specs.Edge.{Dependency}
use Rattle.roc_base.specs.Equality.{is_edges, is_nums}
use Rattle.roc_base.specs.Equalities.{is_txn-true, Decides-is_edges, Decides-is_nums}
use Rattle.roc_base.specs.Node.{is_shard}
use Rattle.roc_base.specs.TxnId.{is_txn}
use Rattle.roc_depgraph.specs.declared.known.KnownList.{KnownList}
use Rattle.roc_msg.specs.Equality.{is_versions, are_lists}
use Rattle.roc_msg.specs.Equalities.{Decides-is_versions, Decides-are_lists}
use Rattle.roc_msg.specs.contracts.msg.MsgPartialEq.TheImpl as msg_eq
use Rattle.roc_msg.specs.contracts.msg.MsgEq.TheImpl.Laws.{laws-law}
use Rattle.roc_msg.specs.declared.msg.Msg.{Msg}
use Rattle.roc_msg.specs.declared.msg.Msg.TheVariants.{Start, StartOk, Commit, CommitOk, Fetch, Known, Stop, Ended, Settled, Read, ReadOk, Drained, Switched}

-- what `==` computes of two messages
abbrev pub is_msg : Msg → Msg → Bool
is_msg = (msg_eq.ghosts).eq

same_shard : (a b : Shard) → is_shard a b ≡ true → a ≡ b
same_shard a b h = let with_number : ℕ → Shard = λ n. record { 0 = n } in ap with_number (eqb-true a.0 b.0 h)

same_nums : (xs ys : List ℤ) → is_nums xs ys ≡ true → xs ≡ ys
same_nums xs ys = (Decides-is_nums xs ys).0

same_edges : (xs ys : List Dependency) → is_edges xs ys ≡ true → xs ≡ ys
same_edges xs ys = (Decides-is_edges xs ys).0

same_facts : (xs ys : List KnownList) → are_lists xs ys ≡ true → xs ≡ ys
same_facts xs ys = (Decides-are_lists xs ys).0

same_versions : (xs ys : List ℕ) → is_versions xs ys ≡ true → xs ≡ ys
same_versions xs ys = (Decides-is_versions xs ys).0

pub same_msg : (a b : Msg) → is_msg a b ≡ true → a ≡ b
same_msg (Start a0 a1 a2 a3 a4) (Start b0 b1 b2 b3 b4) h =
    let h0 = and_parts (is_txn a0 b0) _ h in
    let h1 = and_parts (a1 == b1) _ h0.1 in
    let h2 = and_parts (a2 == b2) _ h1.1 in
    let h3 = and_parts (is_nums a3 b3) (is_nums a4 b4) h2.1 in
    ap (λ v. Start v a1 a2 a3 a4) (is_txn-true a0 b0 h0.0) ∙ (ap (λ v. Start b0 v a2 a3 a4) (eqb-true a1 b1 h1.0) ∙ (ap (λ v. Start b0 b1 v a3 a4) (eqb-true a2 b2 h2.0) ∙ (ap (λ v. Start b0 b1 b2 v a4) (same_nums a3 b3 h3.0) ∙ (ap (λ v. Start b0 b1 b2 b3 v) (same_nums a4 b4 h3.1)))))
same_msg (StartOk a0 a1 a2 a3 a4 a5 a6) (StartOk b0 b1 b2 b3 b4 b5 b6) h =
    let h0 = and_parts (is_txn a0 b0) _ h in
    let h1 = and_parts (a1 == b1) _ h0.1 in
    let h2 = and_parts (is_shard a2 b2) _ h1.1 in
    let h3 = and_parts (is_nums a3 b3) _ h2.1 in
    let h4 = and_parts (is_nums a4 b4) _ h3.1 in
    let h5 = and_parts (is_edges a5 b5) (are_lists a6 b6) h4.1 in
    ap (λ v. StartOk v a1 a2 a3 a4 a5 a6) (is_txn-true a0 b0 h0.0) ∙ (ap (λ v. StartOk b0 v a2 a3 a4 a5 a6) (eqb-true a1 b1 h1.0) ∙ (ap (λ v. StartOk b0 b1 v a3 a4 a5 a6) (same_shard a2 b2 h2.0) ∙ (ap (λ v. StartOk b0 b1 b2 v a4 a5 a6) (same_nums a3 b3 h3.0) ∙ (ap (λ v. StartOk b0 b1 b2 b3 v a5 a6) (same_nums a4 b4 h4.0) ∙ (ap (λ v. StartOk b0 b1 b2 b3 b4 v a6) (same_edges a5 b5 h5.0) ∙ (ap (λ v. StartOk b0 b1 b2 b3 b4 b5 v) (same_facts a6 b6 h5.1)))))))
same_msg (Commit a0 a1 a2) (Commit b0 b1 b2) h =
    let h0 = and_parts (is_txn a0 b0) _ h in
    let h1 = and_parts (is_edges a1 b1) (are_lists a2 b2) h0.1 in
    ap (λ v. Commit v a1 a2) (is_txn-true a0 b0 h0.0) ∙ (ap (λ v. Commit b0 v a2) (same_edges a1 b1 h1.0) ∙ (ap (λ v. Commit b0 b1 v) (same_facts a2 b2 h1.1)))
same_msg (CommitOk a0 a1 a2) (CommitOk b0 b1 b2) h =
    let h0 = and_parts (is_txn a0 b0) _ h in
    let h1 = and_parts (is_shard a1 b1) (is_nums a2 b2) h0.1 in
    ap (λ v. CommitOk v a1 a2) (is_txn-true a0 b0 h0.0) ∙ (ap (λ v. CommitOk b0 v a2) (same_shard a1 b1 h1.0) ∙ (ap (λ v. CommitOk b0 b1 v) (same_nums a2 b2 h1.1)))
same_msg (Fetch a0 a1) (Fetch b0 b1) h =
    let h0 = and_parts (is_txn a0 b0) (is_shard a1 b1) h in
    ap (λ v. Fetch v a1) (is_txn-true a0 b0 h0.0) ∙ (ap (λ v. Fetch b0 v) (same_shard a1 b1 h0.1))
same_msg (Known a0 a1) (Known b0 b1) h =
    let h0 = and_parts (is_txn a0 b0) (is_edges a1 b1) h in
    ap (λ v. Known v a1) (is_txn-true a0 b0 h0.0) ∙ (ap (λ v. Known b0 v) (same_edges a1 b1 h0.1))
same_msg Stop Stop h = refl
same_msg (Ended a0 a1) (Ended b0 b1) h =
    let h0 = and_parts (a0 == b0) (a1 == b1) h in
    ap (λ v. Ended v a1) (eqb-true a0 b0 h0.0) ∙ (ap (λ v. Ended b0 v) (eqb-true a1 b1 h0.1))
same_msg (Settled a0 a1) (Settled b0 b1) h =
    let h0 = and_parts (is_txn a0 b0) (a1 == b1) h in
    ap (λ v. Settled v a1) (is_txn-true a0 b0 h0.0) ∙ (ap (λ v. Settled b0 v) (eqb-true a1 b1 h0.1))
same_msg (Read a0 a1 a2 a3 a4) (Read b0 b1 b2 b3 b4) h =
    let h0 = and_parts (is_txn a0 b0) _ h in
    let h1 = and_parts (a1 == b1) _ h0.1 in
    let h2 = and_parts (a2 == b2) _ h1.1 in
    let h3 = and_parts (a3 == b3) (is_nums a4 b4) h2.1 in
    ap (λ v. Read v a1 a2 a3 a4) (is_txn-true a0 b0 h0.0) ∙ (ap (λ v. Read b0 v a2 a3 a4) (eqb-true a1 b1 h1.0) ∙ (ap (λ v. Read b0 b1 v a3 a4) (eqb-true a2 b2 h2.0) ∙ (ap (λ v. Read b0 b1 b2 v a4) (eqb-true a3 b3 h3.0) ∙ (ap (λ v. Read b0 b1 b2 b3 v) (same_nums a4 b4 h3.1)))))
same_msg (ReadOk a0 a1 a2 a3 a4 a5) (ReadOk b0 b1 b2 b3 b4 b5) h =
    let h0 = and_parts (is_txn a0 b0) _ h in
    let h1 = and_parts (a1 == b1) _ h0.1 in
    let h2 = and_parts (a2 == b2) _ h1.1 in
    let h3 = and_parts (is_shard a3 b3) _ h2.1 in
    let h4 = and_parts (is_versions a4 b4) (is_nums a5 b5) h3.1 in
    ap (λ v. ReadOk v a1 a2 a3 a4 a5) (is_txn-true a0 b0 h0.0) ∙ (ap (λ v. ReadOk b0 v a2 a3 a4 a5) (eqb-true a1 b1 h1.0) ∙ (ap (λ v. ReadOk b0 b1 v a3 a4 a5) (eqb-true a2 b2 h2.0) ∙ (ap (λ v. ReadOk b0 b1 b2 v a4 a5) (same_shard a3 b3 h3.0) ∙ (ap (λ v. ReadOk b0 b1 b2 b3 v a5) (same_versions a4 b4 h4.0) ∙ (ap (λ v. ReadOk b0 b1 b2 b3 b4 v) (same_nums a5 b5 h4.1))))))
same_msg (Drained a0) (Drained b0) h =
    ap (λ v. Drained v) (is_txn-true a0 b0 h)
same_msg (Switched a0 a1) (Switched b0 b1) h =
    let h0 = and_parts (is_txn a0 b0) (is_shard a1 b1) h in
    ap (λ v. Switched v a1) (is_txn-true a0 b0 h0.0) ∙ (ap (λ v. Switched b0 v) (same_shard a1 b1 h0.1))
same_msg a b h = absurd (false≢true h)

pub Decides-is_msg : (a b : Msg) → Decides (is_msg a b) (a ≡ b)
Decides-is_msg a b = (same_msg a b, λ e. subst (λ x. is_msg a x ≡ true) e (laws-law.refl a))
