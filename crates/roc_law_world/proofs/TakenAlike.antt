-- Steps in which servers took the same components, place by place
use Rattle.std.proofs.Common.{◌≡◌, ◌∙◌, inl, inr, ℕ, ◌-◌, List, [], ◌∷◌, ◌++◌, Some, refl, sym, ap, subst}
use Rattle.std.specs.Prelude.{slice_get}
use Rattle.roc_sequence.specs.Lists.{Has}
use Rattle.roc_sequence.proofs.Members.{same_there}
use Rattle.roc_base.specs.declared.id.TxnId.{TxnId}
use Rattle.roc_base.specs.declared.node.Shard.{Shard}
use Rattle.roc_msg.specs.declared.msg.Envelope.{Envelope}
use Rattle.roc_law_protocol.specs.Forgotten.{Brings, IsTakenAt, IsFirstTaken, IsLastTaken}
use Rattle.roc_law_protocol.specs.Run.{Stepped}
use Rattle.roc_law_protocol.proofs.FirstTaken.{brings_one}

-- what a server took in the one it took in the other
pub record TakesAlike (x y : Stepped) : Type 0 where
  pub there : (shard : Shard) (c : List TxnId) → IsTakenAt x shard c → IsTakenAt y shard c
  pub back : (shard : Shard) (c : List TxnId) → IsTakenAt y shard c → IsTakenAt x shard c

-- in neither anything was taken
pub none_taken : (x y : Stepped) → x.outcome.components ≡ [] → y.outcome.components ≡ [] → TakesAlike x y
none_taken x y e f =
    record {
      there = λ shard c t. absurd (subst (Has c) e t.has);
      back = λ shard c t. absurd (subst (Has c) f t.has);
    }

-- one message came, and as much was taken by it
came_there : (x y : Stepped) (k j : ℕ) (m : Envelope) → Brings x.event k → Brings y.event j
    → slice_get x.outcome.world.sent (k - 1) ≡ Some m → slice_get y.outcome.world.sent (j - 1) ≡ Some m → x.outcome.components ≡ y.outcome.components
    → (shard : Shard) (c : List TxnId) → IsTakenAt x shard c → IsTakenAt y shard c
came_there x y k j m e f at there same shard c t =
    let one : m ≡ t.message = same_there x.outcome.world.sent (k - 1) m t.message at (subst (λ i. slice_get x.outcome.world.sent (i - 1) ≡ Some t.message) (sym (brings_one x.event k t.k e t.brings)) t.is) in
    record { k = j; brings = f; message = m; is = there; to = ap (λ (m : Envelope). m.to) one ∙ t.to; has = subst (Has c) same t.has }

pub came_alike : (x y : Stepped) (k j : ℕ) (m : Envelope) → Brings x.event k → Brings y.event j
    → slice_get x.outcome.world.sent (k - 1) ≡ Some m → slice_get y.outcome.world.sent (j - 1) ≡ Some m → x.outcome.components ≡ y.outcome.components → TakesAlike x y
came_alike x y k j m e f at there same = record { there = came_there x y k j m e f at there same; back = came_there y x j k m f e there at (sym same) }

abbrev pub TakeAlike : List Stepped → List Stepped → Type 0
TakeAlike [] [] = Unit {0}
TakeAlike [] (y ∷ ys) = ⊥
TakeAlike (x ∷ xs) [] = ⊥
TakeAlike (x ∷ xs) (y ∷ ys) = TakesAlike x y × TakeAlike xs ys

pub alike_more : (xs ys : List Stepped) (x y : Stepped) → TakeAlike xs ys → TakesAlike x y → TakeAlike (xs ++ x ∷ []) (ys ++ y ∷ [])
alike_more [] [] x y a t = (t, tt)
alike_more [] (z ∷ ys) x y a t = absurd a
alike_more (z ∷ xs) [] x y a t = absurd a
alike_more (z ∷ xs) (v ∷ ys) x y a t = (a.0, alike_more xs ys x y a.1 t)

pub alike_back : (xs ys : List Stepped) → TakeAlike xs ys → TakeAlike ys xs
alike_back [] [] a = tt
alike_back [] (y ∷ ys) a = absurd a
alike_back (x ∷ xs) [] a = absurd a
alike_back (x ∷ xs) (y ∷ ys) a = (record { there = a.0.back; back = a.0.there }, alike_back xs ys a.1)

-- each of the one has its like in the other
pub like_of : (xs ys : List Stepped) → TakeAlike xs ys → (x : Stepped) → Has x xs → (y : Stepped) × Has y ys × TakesAlike x y
like_of [] ys a x h = absurd h
like_of (z ∷ xs) [] a x h = absurd a
like_of (z ∷ xs) (y ∷ ys) a x (inl e) = (y, inl refl, subst (λ z. TakesAlike z y) (sym e) a.0)
like_of (z ∷ xs) (y ∷ ys) a x (inr h) = let r = like_of xs ys a.1 x h in (r.0, inr r.1, r.2)

-- where the one is cut the other may be
record IsCutAlike (front behind : List Stepped) (x : Stepped) (ys : List Stepped) : Type 0 where
  others : List Stepped
  like : Stepped
  rest : List Stepped
  is : ys ≡ others ++ like ∷ rest
  before : TakeAlike others front
  here : TakesAlike x like
  after : TakeAlike rest behind

cut_alike : (front behind : List Stepped) (x : Stepped) (ys : List Stepped) → TakeAlike (front ++ x ∷ behind) ys → IsCutAlike front behind x ys
cut_alike [] behind x [] a = absurd a
cut_alike [] behind x (y ∷ ys) a = record { others = []; like = y; rest = ys; is = refl; before = tt; here = a.0; after = alike_back behind ys a.1 }
cut_alike (z ∷ front) behind x [] a = absurd a
cut_alike (z ∷ front) behind x (y ∷ ys) a =
    let r = cut_alike front behind x ys a.1 in
    record {
      others = y ∷ r.others;
      like = r.like;
      rest = r.rest;
      is = ap (λ l. y ∷ l) r.is;
      before = (record { there = a.0.back; back = a.0.there }, r.before);
      here = r.here;
      after = r.after;
    }

module _ (xs ys : List Stepped) (a : TakeAlike xs ys) (shard : Shard) (t : TxnId) (c : List TxnId) where
  pub first_alike : IsFirstTaken xs shard t c → IsFirstTaken ys shard t c
  first_alike f =
      let r = cut_alike f.front f.behind f.step ys (subst (λ l. TakeAlike l ys) f.at a) in
      record {
        front = r.others;
        step = r.like;
        behind = r.rest;
        at = r.is;
        taken = r.here.there shard c f.taken;
        member = f.member;
        none = λ y d h k. (let q = like_of r.others f.front r.before y h in f.none q.0 d q.1 (q.2.there shard d k));
      }

  pub last_alike : IsLastTaken xs shard t c → IsLastTaken ys shard t c
  last_alike f =
      let r = cut_alike f.front f.behind f.step ys (subst (λ l. TakeAlike l ys) f.at a) in
      record {
        front = r.others;
        step = r.like;
        behind = r.rest;
        at = r.is;
        taken = r.here.there shard c f.taken;
        member = f.member;
        none = λ y d h k. (let q = like_of r.rest f.behind r.after y h in f.none q.0 d q.1 (q.2.there shard d k));
      }
