-- What nodes have told between two files stays so, as a coordinator or a server takes a step and as a node sends
use Rattle.std.proofs.Common.{◌≡◌, ◌≢◌, ◌∙◌, ◌⊎◌, inl, inr, ℕ, ◌<◌, true, false, List, ◌++◌, Some, length, refl, sym, ap, subst}
use Rattle.std.proofs.lemmas.Bool.{false≢true, cases_eq}
use Rattle.std.proofs.lemmas.List.{length-set}
use Rattle.std.specs.Prelude.{slice_get, slice_set}
use Rattle.roc_sequence.specs.Lists.{Has}
use Rattle.roc_sequence.proofs.Members.{has_append, same_there}
use Rattle.roc_base.specs.declared.id.TxnId.{TxnId}
use Rattle.roc_base.specs.declared.node.Node.{Node}
use Rattle.roc_base.specs.declared.node.Shard.{Shard}
use Rattle.roc_msg.specs.declared.msg.Msg.{Msg}
use Rattle.roc_msg.specs.declared.msg.Msg.TheVariants.{Drained, Switched}
use Rattle.roc_audit.specs.declared.entry.Entry.{Entry}
use Rattle.roc_audit.specs.Woven.{Look}
use Rattle.roc_law_protocol.proofs.Changed.{get-set_here, get-set_other, get-set_cases}
use Rattle.roc_epoch.specs.Files.{is_between}
use Rattle.roc_two_files.specs.Sealed.{Sealed}
use Rattle.roc_grown.specs.Server.{GrownServerState}
use Rattle.roc_grown.specs.Coord.{GrownCoordState}
use Rattle.roc_growth.specs.World.{GrownWorld}
use Rattle.roc_growth.specs.Told.{HasTold, HasSwitched, IsToldRight, IsTelling, AreTold}

-- ---- a world in which one node has changed

abbrev pub changed_server : GrownWorld → (n : ℕ) → GrownServerState → List Sealed → List TxnId → GrownWorld
changed_server g n x more order = record g { servers = slice_set g.servers n x; sent = g.sent ++ more; order = order }

abbrev pub changed_coord : GrownWorld → (n : ℕ) → GrownCoordState → List Sealed → List Entry → List Look → GrownWorld
changed_coord g n x more told looks = record g { coords = slice_set g.coords n x; sent = g.sent ++ more; history = g.history ++ told; looks = g.looks ++ looks }

-- ---- what is told stays right

-- what is of a file tells nothing
pub plain_right : (servers : List GrownServerState) (coords : List GrownCoordState) (msg : Msg) (to : Node) → is_between msg ≡ false → IsToldRight servers coords msg to
plain_right servers coords (Drained upto) to e = absurd (false≢true (sym e))
plain_right servers coords (Switched upto shard) to e = absurd (false≢true (sym e))
plain_right servers coords msg to e = tt

right_still : (servers servers2 : List GrownServerState) (coords coords2 : List GrownCoordState) → length servers2 ≡ length servers → ((n : ℕ) → HasSwitched servers n → HasSwitched servers2 n)
    → ((u : TxnId) → HasTold coords u → HasTold coords2 u) → (msg : Msg) (to : Node) → IsToldRight servers coords msg to → IsToldRight servers2 coords2 msg to
right_still servers servers2 coords coords2 many switched told (Drained upto) to (shard, is, l, h) = (shard, is, subst (λ n. shard.0 < n) (sym many) l, told upto h)
right_still servers servers2 coords coords2 many switched told (Switched upto shard) to (is, h, k) = (is, switched shard.0 h, told upto k)
right_still servers servers2 coords coords2 many switched told msg to h = tt

module _ (coords : List GrownCoordState) (n : ℕ) (c x : GrownCoordState) (there : slice_get coords n ≡ Some c) (keeps : (u : TxnId) → c.upto ≡ Some u → x.upto ≡ Some u) where
  pub told_still : (u : TxnId) → HasTold coords u → HasTold (slice_set coords n x) u
  told_still u (d, at, told) = go (cases_eq n u.coord)
    where
      go : (n ≡ u.coord) ⊎ (n ≢ u.coord) → HasTold (slice_set coords n x) u
      go (inl e) =
          let same : d ≡ c = same_there coords n d c (subst (λ k. slice_get coords k ≡ Some d) (sym e) at) there in
          (x, subst (λ k. slice_get (slice_set coords n x) k ≡ Some x) e (get-set_here coords n c x there), keeps u (ap (λ (c : GrownCoordState). c.upto) (sym same) ∙ told))
      go (inr other) = (d, get-set_other coords n u.coord x other ∙ at, told)

module _ (servers : List GrownServerState) (n : ℕ) (s x : GrownServerState) (there : slice_get servers n ≡ Some s) (up : s.switched ≡ true → x.switched ≡ true) where
  pub switched_still : (k : ℕ) → HasSwitched servers k → HasSwitched (slice_set servers n x) k
  switched_still k (d, at, now) = go (cases_eq n k)
    where
      go : (n ≡ k) ⊎ (n ≢ k) → HasSwitched (slice_set servers n x) k
      go (inl e) =
          let same : d ≡ s = same_there servers n d s (subst (λ k. slice_get servers k ≡ Some d) (sym e) at) there in
          (x, subst (λ k. slice_get (slice_set servers n x) k ≡ Some x) e (get-set_here servers n s x there), up (ap (λ (s : GrownServerState). s.switched) (sym same) ∙ now))
      go (inr other) = (d, get-set_other servers n k x other ∙ at, now)

module _ (g : GrownWorld) (o : AreTold g) where
  -- each message is right, of those that were there and of more
  messages_more : (servers : List GrownServerState) (coords : List GrownCoordState) → length servers ≡ length g.servers → ((n : ℕ) → HasSwitched g.servers n → HasSwitched servers n)
      → ((u : TxnId) → HasTold g.coords u → HasTold coords u) → (more : List Sealed) → ((m : Sealed) → Has m more → IsToldRight servers coords m.message.msg m.message.to)
      → (m : Sealed) → Has m (g.sent ++ more) → IsToldRight servers coords m.message.msg m.message.to
  messages_more servers coords many switched told more right m h = elim (has_append m g.sent more h) [
    | inl k ↦ right_still g.servers servers g.coords coords many switched told m.message.msg m.message.to (o.messages m k)
    | inr k ↦ right m k
  ]

  -- a coordinator changes
  pub told_coord : (n : ℕ) (c x : GrownCoordState) → slice_get g.coords n ≡ Some c → (more : List Sealed) (told : List Entry) (looks : List Look) → IsTelling n x
      → ((u : TxnId) → c.upto ≡ Some u → x.upto ≡ Some u)
      → ((m : Sealed) → Has m more → IsToldRight g.servers (slice_set g.coords n x) m.message.msg m.message.to)
      → ((shard : Shard) → Has shard x.at → HasSwitched g.servers shard.0)
      → (x.switched ≡ true → (i : ℕ) (s : GrownServerState) → slice_get g.servers i ≡ Some s → s.switched ≡ true) → AreTold (changed_coord g n x more told looks)
  told_coord n c x there more told looks telling keeps right at now =
      record {
        telling = λ k d h. elim (get-set_cases g.coords n k c x d there h) [
          | inl e ↦ subst (λ k. IsTelling k d) e.0 (subst (IsTelling n) (sym e.1) telling)
          | inr e ↦ o.telling k d e.1
        ];
        messages = messages_more g.servers (slice_set g.coords n x) refl (λ k h. h) still more right;
        kept = λ k i s u h kept. (let q = o.kept k i s u h kept in (q.0, still u q.1));
        at = λ k d shard h has. elim (get-set_cases g.coords n k c x d there h) [
          | inl e ↦ at shard (subst (λ (d : GrownCoordState). Has shard d.at) e.1 has)
          | inr e ↦ o.at k d shard e.1 has
        ];
        by_server = λ k h i d there2. elim (get-set_cases g.coords n i c x d there there2) [
          | inl e ↦ (let q = o.by_server k h n c there in (q.0, ap (λ (d : GrownCoordState). d.upto) e.1 ∙ keeps q.0 q.1))
          | inr e ↦ o.by_server k h i d e.1
        ];
        by_coord = λ k d h switched. elim (get-set_cases g.coords n k c x d there h) [
          | inl e ↦ now (ap (λ (d : GrownCoordState). d.switched) (sym e.1) ∙ switched)
          | inr e ↦ o.by_coord k d e.1 switched
        ];
      }
    where
      still : (u : TxnId) → HasTold g.coords u → HasTold (slice_set g.coords n x) u
      still = told_still g.coords n c x there keeps

  -- a server changes
  pub told_server : (n : ℕ) (s x : GrownServerState) → slice_get g.servers n ≡ Some s → (more : List Sealed) (order : List TxnId) → (s.switched ≡ true → x.switched ≡ true)
      → ((i : ℕ) (u : TxnId) → slice_get x.drained i ≡ Some (Some u) → (u.coord ≡ i) × HasTold g.coords u)
      → ((m : Sealed) → Has m more → IsToldRight (slice_set g.servers n x) g.coords m.message.msg m.message.to)
      → (x.switched ≡ true → (i : ℕ) (c : GrownCoordState) → slice_get g.coords i ≡ Some c → (u : TxnId) × (c.upto ≡ Some u)) → AreTold (changed_server g n x more order)
  told_server n s x there more order up kept right now =
      record {
        telling = o.telling;
        messages = messages_more (slice_set g.servers n x) g.coords (length-set g.servers n x) still (λ u h. h) more right;
        kept = λ k i z u h has. elim (get-set_cases g.servers n k s x z there h) [
          | inl e ↦ kept i u (subst (λ (z : GrownServerState). slice_get z.drained i ≡ Some (Some u)) e.1 has)
          | inr e ↦ o.kept k i z u e.1 has
        ];
        at = λ k d shard h has. still shard.0 (o.at k d shard h has);
        by_server = λ k h i d there2. by k h i d there2;
        by_coord = λ k d h switched i z there2. elim (get-set_cases g.servers n i s x z there there2) [
          | inl e ↦ ap (λ (z : GrownServerState). z.switched) e.1 ∙ up (o.by_coord k d h switched n s there)
          | inr e ↦ o.by_coord k d h switched i z e.1
        ];
      }
    where
      still : (k : ℕ) → HasSwitched g.servers k → HasSwitched (slice_set g.servers n x) k
      still = switched_still g.servers n s x there up

      by : (k : ℕ) → HasSwitched (slice_set g.servers n x) k → (i : ℕ) (c : GrownCoordState) → slice_get g.coords i ≡ Some c → (u : TxnId) × (c.upto ≡ Some u)
      by k (z, at, switched) i c there2 = elim (get-set_cases g.servers n k s x z there at) [
        | inl e ↦ now (ap (λ (z : GrownServerState). z.switched) (sym e.1) ∙ switched) i c there2
        | inr e ↦ o.by_server k (z, e.1, switched) i c there2
      ]
