-- A coordinator takes a step: open views stay as they have to be, where those do that the step changes
use Rattle.std.proofs.Common.{◌≡◌, ◌≢◌, ◌∙◌, ◌⊎◌, inl, inr, ℕ, ℤ, ◌<◌, ◌≤◌, true, List, ◌++◌, Some, map, sym, ap, subst, arith}
use Rattle.std.proofs.lemmas.Bool.{cases_eq}
use Rattle.std.specs.Prelude.{slice_get, slice_set}
use Rattle.roc_sequence.specs.Lists.{Has}
use Rattle.roc_sequence.proofs.Members.{has_append, has_left, has_right, from_has_map, same_there}
use Rattle.roc_base.specs.declared.id.TxnId.{TxnId}
use Rattle.roc_base.specs.declared.node.Node.TheVariants.{Coord}
use Rattle.roc_msg.specs.declared.msg.Msg.{Msg}
use Rattle.roc_msg.specs.declared.msg.Msg.TheVariants.{Read, ReadOk}
use Rattle.roc_msg.specs.declared.msg.Envelope.{Envelope}
use Rattle.roc_msg.specs.declared.outbox.Outgoing.{Outgoing}
use Rattle.roc_plan.specs.Groups.{Plan, is_view_of}
use Rattle.roc_step.specs.State.{Viewing}
use Rattle.roc_coord.specs.Marks.{watermark}
use Rattle.roc_coord.specs.State.{CoordState}
use Rattle.roc_readonly.specs.declared.view.View.{View}
use Rattle.roc_readonly.specs.Round.{read_shard}
use Rattle.roc_audit.specs.declared.entry.Entry.{Entry}
use Rattle.roc_audit.specs.declared.entry.Entry.TheVariants.{Submitted, Answered}
use Rattle.roc_audit.specs.History.{WasSubmitted}
use Rattle.roc_audit.proofs.Histories.{submitted_front}
use Rattle.roc_law_protocol.specs.World.{sent_by}
use Rattle.roc_law_world.specs.World.{World}
use Rattle.roc_law_world.proofs.ServerMarks.{IsAbove}
use Rattle.roc_law_world.proofs.Comings.{Came}
use Rattle.roc_law_world.proofs.Calm.{IsPassed, IsOfSubmitted, IsOpen, Fits, Done, IsCalm, KeepsViews, AreCalm, calm_on}
use Rattle.roc_law_protocol.proofs.Changed.{get-set_here, get-set_other, get-set_cases}

pub of_submitted_more : (history told : List Entry) (msg : Msg) → IsOfSubmitted history msg → IsOfSubmitted (history ++ told) msg
of_submitted_more history told (Read id round proc group args) k = submitted_front history told id k
of_submitted_more history told (ReadOk id round group shard vs outs) k = submitted_front history told id k
of_submitted_more history told msg k = tt

module _ (plan : Plan) (w : World) (n : ℕ) (s after : CoordState) (outs : List Outgoing) (told : List Entry) (u : World) where
  -- u is w behind a step of coordinator n that changes nothing else
  pub record IsStepOf : Type 0 where
    pub there : slice_get w.coords n ≡ Some s
    pub servers : u.servers ≡ w.servers
    pub viewing : u.viewing ≡ w.viewing
    pub coords : u.coords ≡ slice_set w.coords n after
    pub sent : u.sent ≡ w.sent ++ map (sent_by (Coord n)) outs
    pub history : u.history ≡ w.history ++ told
    pub number : after.number ≡ n

  -- the view is another's, or stays here
  abbrev pub IsApart : (View → Type 0) → View → Type 0
  IsApart Other x = (x.id.coord ≢ n) ⊎ (Has x s.views × Other x)

  -- what the step has to keep. Arrives tells the message that comes, and Other which views stay as they are
  pub record IsKeeping (Arrives : Envelope → Type 0) (Other : View → Type 0) : Type 0 where
    pub came : (m : Envelope) → Came u m → Came w m ⊎ Arrives m
    pub rises : watermark s ≤ watermark after
    pub above : (out : Outgoing) → Has out outs → (t : TxnId) → IsAbove out.msg t → (t.coord ≡ after.number) × (t.seq < watermark after)
    pub of : (out : Outgoing) → Has out outs → IsOfSubmitted (w.history ++ told) out.msg
    pub keeps : KeepsViews plan n after
    pub views : (x : View) → Has x after.views → (Has x s.views × Other x) ⊎ IsCalm plan u x
    pub fits : (x : View) → IsCalm plan w x → IsApart Other x → (out : Outgoing) → Has out outs → Fits plan x out.msg out.to
    pub done : (x : View) → IsCalm plan w x → IsApart Other x → (m : Envelope) → Arrives m → Done plan u x m.msg
    -- what was open is, or is answered, and what is submitted is open
    pub goes_on : (x : View) → Has x s.views → ((y : View) × Has y after.views × (y.id ≡ x.id)) ⊎ ((reply : List ℤ) × Has (Answered x.id reply) told)
    pub begins : (t : TxnId) (proc : ℕ) (args : List ℤ) → Has (Submitted t proc args) told → is_view_of plan proc ≡ true → (t.coord ≡ n) × (y : View) × Has y after.views × (y.id ≡ t)

  module _ (Arrives : Envelope → Type 0) (Other : View → Type 0) (a : AreCalm plan w) (i : IsStepOf) (k : IsKeeping Arrives Other) where
    abbrev new : List Envelope
    new = map (sent_by (Coord n)) outs

    here : slice_get u.coords n ≡ Some after
    here = subst (λ l. slice_get l n ≡ Some after) (sym i.coords) (get-set_here w.coords n s after i.there)

    elsewhere : (m : ℕ) → n ≢ m → slice_get u.coords m ≡ slice_get w.coords m
    elsewhere m other = ap (λ l. slice_get l m) i.coords ∙ get-set_other w.coords n m after other

    passed_on : (t : TxnId) → IsPassed w.coords t → IsPassed u.coords t
    passed_on t p c at = elim (get-set_cases w.coords n t.coord s after c i.there (subst (λ l. slice_get l t.coord ≡ Some c) i.coords at)) [
      | inl f ↦
          (let l = p s (subst (λ m. slice_get w.coords m ≡ Some s) f.0 i.there) in
          let rises = k.rises in
          let high : t.seq < watermark after = omega arith in
          subst (λ c. t.seq < watermark c) (sym f.1) high)
      | inr f ↦ p c f.1
    ]

    new_messages : (P : Envelope → Type 0) → ((out : Outgoing) → Has out outs → P (sent_by (Coord n) out)) → (m : Envelope) → Has m (map (sent_by (Coord n)) outs) → P m
    new_messages P all m h = let p = from_has_map (sent_by (Coord n)) m outs h in subst P (sym p.2) (all p.0 p.1)

    was_sent : (m : Envelope) → Has m u.sent → Has m w.sent ⊎ Has m (map (sent_by (Coord n)) outs)
    was_sent m h = has_append m w.sent new (subst (λ l. Has m l) i.sent h)

    pub sent_on : (m : Envelope) → Has m w.sent → Has m u.sent
    sent_on m h = subst (λ l. Has m l) (sym i.sent) (has_left m w.sent new h)

    viewing_was : (j : ℕ) (z : Viewing) → slice_get u.viewing j ≡ Some z → slice_get w.viewing j ≡ Some z
    viewing_was j z at = subst (λ l. slice_get l j ≡ Some z) i.viewing at

    stays : (x : View) → IsCalm plan w x → IsApart Other x → IsCalm plan u x
    stays x c apart =
        calm_on plan w u x sent_on (λ g l. inl (l.0, subst (λ zs. slice_get zs (read_shard plan x g).0 ≡ Some l.0) (sym i.viewing) l.1, l.2))
        (λ m h. elim (was_sent m h) [ inl old ↦ inl old | inr now ↦ inr (new_messages (λ m. Fits plan x m.msg m.to) (k.fits x c apart) m now) ])
        (λ j z at d h same. c.kept j z (viewing_was j z at) d h same)
        (λ m h. elim (k.came m h) [ inl old ↦ inl old | inr now ↦ inr (k.done x c apart m now) ])
        (λ h. subst (λ l. Has (Submitted x.id x.proc x.args) l) (sym i.history) (has_left (Submitted x.id x.proc x.args) w.history told h)) c

    views_calm : (m : ℕ) (c : CoordState) → slice_get u.coords m ≡ Some c → (v : View) → Has v c.views → IsCalm plan u v
    views_calm m c at v h = elim (get-set_cases w.coords n m s after c i.there (subst (λ l. slice_get l m ≡ Some c) i.coords at)) [
      | inl f ↦ elim (k.views v (subst (λ (c : CoordState). Has v c.views) f.1 h)) [ inl p ↦ stays v (a.views n s i.there v p.0) (inr p) | inr calm ↦ calm ]
      | inr f ↦ stays v (a.views m c f.1 v h) (inl (λ e. f.0 (sym e ∙ (a.coords m c f.1).own v h)))
    ]

    asked_on : (t : TxnId) → IsOpen w.coords t ⊎ ((reply : List ℤ) × Has (Answered t reply) w.history) → IsOpen u.coords t ⊎ ((reply : List ℤ) × Has (Answered t reply) u.history)
    asked_on t (inr (reply, h)) = inr (reply, subst (λ l. Has (Answered t reply) l) (sym i.history) (has_left (Answered t reply) w.history told h))
    asked_on t (inl (c, at, v, h, id)) = elim (cases_eq n t.coord) [
      | inl e ↦
          (let same : c ≡ s = same_there w.coords t.coord c s at (subst (λ m. slice_get w.coords m ≡ Some s) e i.there) in
          elim (k.goes_on v (subst (λ (c : CoordState). Has v c.views) same h)) [
            | inl y ↦ inl (after, subst (λ m. slice_get u.coords m ≡ Some after) e here, y.0, y.1, y.2 ∙ id)
            | inr r ↦ inr (r.0, subst (λ l. Has (Answered t r.0) l) (sym i.history) (has_right (Answered t r.0) w.history told (subst (λ t. Has (Answered t r.0) told) id r.1)))
          ])
      | inr other ↦ inl (c, elsewhere t.coord other ∙ at, v, h, id)
    ]

    pub stepped_calm : AreCalm plan u
    stepped_calm =
        record {
          shards = λ j y at. a.shards j y (subst (λ l. slice_get l j ≡ Some y) i.servers at);
          coords = λ m c at. elim (get-set_cases w.coords n m s after c i.there (subst (λ l. slice_get l m ≡ Some c) i.coords at)) [
            | inl f ↦ subst (λ m. KeepsViews plan m c) f.0 (subst (KeepsViews plan n) (sym f.1) k.keeps)
            | inr f ↦ a.coords m c f.1
          ];
          views = views_calm;
          messages = λ m h. subst (λ l. IsOfSubmitted l m.msg) (sym i.history) (elim (was_sent m h) [
            | inl old ↦ of_submitted_more w.history told m.msg (a.messages m old)
            | inr now ↦ new_messages (λ m. IsOfSubmitted (w.history ++ told) m.msg) k.of m now
          ]);
          kept = λ j z at d h.
              (let b = a.kept j z (viewing_was j z at) d h in
              record {
                submitted = subst (λ l. WasSubmitted l d.id) (sym i.history) (submitted_front w.history told d.id b.submitted);
                server = b.server;
                there = subst (λ l. slice_get l j ≡ Some b.server) (sym i.servers) b.there;
                held = b.held;
              });
          told = λ m h t above. elim (was_sent m h) [
            | inl old ↦ passed_on t (a.told m old t above)
            | inr now ↦
                (let p = new_messages (λ m. IsAbove m.msg t → (t.coord ≡ after.number) × (t.seq < watermark after)) (λ out j. k.above out j t) m now above in
                λ c at.
                (let same : c ≡ after = same_there u.coords t.coord c after at (subst (λ m. slice_get u.coords m ≡ Some after) (sym (p.0 ∙ i.number)) here) in
                subst (λ c. t.seq < watermark c) (sym same) p.1))
          ];
          heard = λ j y at t h. passed_on t (a.heard j y (subst (λ l. slice_get l j ≡ Some y) i.servers at) t h);
          asked = λ t proc args h view. elim (has_append (Submitted t proc args) w.history told (subst (λ l. Has (Submitted t proc args) l) i.history h)) [
            | inl old ↦ asked_on t (a.asked t proc args old view)
            | inr now ↦ (let p = k.begins t proc args now view in inl (after, subst (λ m. slice_get u.coords m ≡ Some after) (sym p.0) here, p.1, p.2, p.3))
          ];
        }
