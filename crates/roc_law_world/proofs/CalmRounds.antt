-- Rounds that go on, and a view in another's place
use Rattle.std.proofs.Common.{◌≡◌, ◌≢◌, ◌∙◌, ◌⊎◌, inl, inr, ℕ, ℤ, ◌≤◌, ◌==◌, Bool, true, false, not, cond, List, [], ◌∷◌, ◌++◌, Some, None, is_some, refl, sym, ap, subst, arith}
use Rattle.std.proofs.lemmas.Bool.{false≢true, eq-eqb, eqb-true}
use Rattle.std.specs.Prelude.{if◌then◌else◌}
use Rattle.roc_sequence.specs.Lists.{Has}
use Rattle.roc_sequence.proofs.Members.{has_map, from_has_map}
use Rattle.roc_base.specs.declared.id.TxnId.{TxnId}
use Rattle.roc_base.specs.TxnId.{is_txn}
use Rattle.roc_base.specs.Equalities.{is_txn-true}
use Rattle.roc_base.proofs.Ids.{is_txn-false}
use Rattle.roc_base.specs.declared.node.Node.{Node}
use Rattle.roc_msg.specs.declared.msg.Msg.{Msg}
use Rattle.roc_msg.specs.declared.msg.Msg.TheVariants.{Read, ReadOk}
use Rattle.roc_plan.specs.Groups.{Plan}
use Rattle.roc_readonly.specs.declared.view.Round.TheVariants.{Waits, Ends, GoesOn}
use Rattle.roc_readonly.specs.declared.view.TakenRead.{TakenRead}
use Rattle.roc_readonly.specs.declared.view.View.{View}
use Rattle.roc_readonly.specs.Round.{find_read, is_full, is_steady, view_reply, round_of, last_round}
use Rattle.roc_coord.specs.State.{with_view, CoordState}
use Rattle.roc_law_world.proofs.Calm.{IsFor, Fits, KeepsViews}

-- ---- a view in a later round

module _ (plan : Plan) (v : View) (r : ℕ) (last got : List TakenRead) (up : v.round ≤ r) where
  pub for_later : (round proc group : ℕ) (args : List ℤ) (n : ℕ) → IsFor plan v round proc group args n → IsFor plan (record v { round = r; last = last; got = got }) round proc group args n
  for_later round proc group args n f = record { until = (let u = f.until in omega arith); procedure = f.procedure; there = f.there; arguments = f.arguments; here = f.here }

  pub fits_later : (msg : Msg) (to : Node) → Fits plan v msg to → Fits plan (record v { round = r; last = last; got = got }) msg to
  fits_later (Read id round proc group args) to f = λ own. let q = f own in (q.0, q.1, for_later round proc group args q.0 q.2)
  fits_later (ReadOk id round group shard vs outs) to f = λ own. let q = f own in (q.0, record { until = (let u = q.1.until in omega arith); fits = q.1.fits })
  fits_later msg to f = tt

-- ---- what was taken in a round

-- what was found is found with more
pub found_more : (g : ℕ) (got : List TakenRead) (ok : TakenRead) → is_some (find_read g got) ≡ true → is_some (find_read g (got ++ ok ∷ [])) ≡ true
found_more g [] ok h = absurd (false≢true h)
found_more g (x ∷ got) ok h = go (x.group == g) h (found_more g got ok)
  where
    go : (b : Bool) → is_some (cond b (Some x) (find_read g got)) ≡ true → (is_some (find_read g got) ≡ true → is_some (find_read g (got ++ ok ∷ [])) ≡ true)
        → is_some (cond b (Some x) (find_read g (got ++ ok ∷ []))) ≡ true
    go true h ih = refl
    go false h ih = ih h

-- and so is what was taken last
pub found_last : (g : ℕ) (got : List TakenRead) (ok : TakenRead) → g ≡ ok.group → is_some (find_read g (got ++ ok ∷ [])) ≡ true
found_last g [] ok e = ap (λ b. is_some (cond b (Some ok) None)) (eq-eqb ok.group g (sym e))
found_last g (x ∷ got) ok e = go (x.group == g) (found_last g got ok e)
  where
    go : (b : Bool) → is_some (find_read g (got ++ ok ∷ [])) ≡ true → is_some (cond b (Some x) (find_read g (got ++ ok ∷ []))) ≡ true
    go true ih = refl
    go false ih = ih

-- a round that is full and waits is the last
pub waits_last : (plan : Plan) (v : View) → round_of plan v ≡ Waits → is_full plan v ≡ true → v.round ≡ last_round
waits_last plan v waits full = go (is_full plan v) full waits
  where
    last : (c : Bool) → (v.round == last_round) ≡ c → (if c then Waits else GoesOn) ≡ Waits → v.round ≡ last_round
    last true e h = eqb-true v.round last_round e
    last false e h = absurd (apart h)
      where
        apart : GoesOn ≢ Waits
        apart h = cc

    steady : (c : Bool) → (if c then Ends (view_reply plan v) else if v.round == last_round then Waits else GoesOn) ≡ Waits → v.round ≡ last_round
    steady true h = absurd (apart (view_reply plan v) h)
      where
        apart : (reply : List ℤ) → Ends reply ≢ Waits
        apart reply h = cc
    steady false h = last (v.round == last_round) refl h

    go : (c : Bool) → c ≡ true → (if not c then Waits else if is_steady plan v then Ends (view_reply plan v) else if v.round == last_round then Waits else GoesOn) ≡ Waits → v.round ≡ last_round
    go true e h = steady (is_steady plan v) h
    go false e h = absurd (false≢true e)

-- ---- a view in another's place

module _ (s : CoordState) (v : View) where
  pub with_cases : (x : View) → Has x (with_view s v).views → (x ≡ v) ⊎ (Has x s.views × (x.id ≢ v.id))
  with_cases x h =
      let q = from_has_map (λ (y : View). if is_txn y.id v.id then v else y) x s.views h in
      go q.0 q.1 (is_txn q.0.id v.id) refl q.2
    where
      go : (y : View) → Has y s.views → (b : Bool) → is_txn y.id v.id ≡ b → x ≡ (if b then v else y) → (x ≡ v) ⊎ (Has x s.views × (x.id ≢ v.id))
      go y j true f e = inl e
      go y j false f e = inr (subst (λ z. Has z s.views) (sym e) j, λ same. is_txn-false y.id v.id f (ap (λ (z : View). z.id) (sym e) ∙ same))

  pub with_has : (x : View) → Has x s.views → (y : View) × Has y (with_view s v).views × (y.id ≡ x.id)
  with_has x h = (_, has_map (λ (y : View). if is_txn y.id v.id then v else y) x s.views h, go (is_txn x.id v.id) refl)
    where
      go : (b : Bool) → is_txn x.id v.id ≡ b → (if b then v else x).id ≡ x.id
      go true e = sym (is_txn-true x.id v.id e)
      go false e = refl

  pub with_keeps : (plan : Plan) (n : ℕ) → KeepsViews plan n s → (old : View) → Has old s.views → v.id ≡ old.id → KeepsViews plan n (with_view s v)
  with_keeps plan n k old has same =
      record {
        own = λ x h. elim (with_cases x h) [ inl e ↦ ap (λ (x : View). x.id.coord) e ∙ (ap (λ (t : TxnId). t.coord) same ∙ k.own old has) | inr j ↦ k.own x j.0 ];
        one = λ x y h i e. elim (with_cases x h) [
          | inl f ↦ elim (with_cases y i) [ inl g ↦ f ∙ sym g | inr j ↦ absurd (j.1 (sym e ∙ ap (λ (x : View). x.id) f)) ]
          | inr f ↦ elim (with_cases y i) [ inl g ↦ absurd (f.1 (e ∙ ap (λ (y : View). y.id) g)) | inr j ↦ k.one x y f.0 j.0 e ]
        ];
        listed = λ x h. elim (with_cases x h) [ inl e ↦ subst (λ t. Has t s.unanswered) (sym (ap (λ (x : View). x.id) e ∙ same)) (k.listed old has) | inr j ↦ k.listed x j.0 ];
      }
