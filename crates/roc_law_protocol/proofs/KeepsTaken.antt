-- What a step of a server does to the components that it keeps
use Rattle.std.proofs.Common.{◌≡◌, ℕ, Bool, true, false, not, List, [], ◌++◌, refl, sym, ap, subst, ◌∙◌, ◌⊎◌, inl, inr, append-nil}
use Rattle.std.proofs.lemmas.Bool.{not-true, not_from_false}
use Rattle.roc_sequence.specs.Lists.{Has}
use Rattle.roc_sequence.proofs.Holds.{every_has, has_every}
use Rattle.roc_sequence.proofs.Members.{has_filter, from_has_filter}
use Rattle.roc_base.specs.declared.id.TxnId.{TxnId}
use Rattle.roc_step.specs.Below.{is_ended}
use Rattle.roc_step.specs.Forgets.{is_over, forget}
use Rattle.roc_plan.specs.Groups.{Plan}
use Rattle.roc_step.specs.Runs.{take_all}
use Rattle.roc_step.specs.State.{is_here, hearing, Lists, ServerState}
use Rattle.roc_law_protocol.proofs.Gone.{IsGone, gone_hears, gone_taught}
use Rattle.roc_step.proofs.Raised.{ended_still}
use Rattle.roc_law_protocol.proofs.KeptGroups.{take_keeps, take_same}
use Rattle.roc_law_protocol.proofs.ForgottenHere.{forgotten, forgets, over_of, gone_still, gone_now, here_kept}

-- no transaction is in two of the components
abbrev pub AreApart : List (List TxnId) → Type 0
AreApart cs = (c e : List TxnId) (t : TxnId) → Has c cs → Has e cs → Has t c → Has t e → c ≡ e

-- A step takes these components: it keeps all components that were kept and these, but for what is over
pub record KeepsTaken (s v : ServerState) (components : List (List TxnId)) : Type 0 where
  -- watermarks only rise, and what is gone stays so
  pub marks : (t : TxnId) → is_ended s.below t ≡ true → is_ended v.below t ≡ true
  pub gone : (t : TxnId) → IsGone s t → IsGone v t
  pub apart : AreApart (s.lists.taken ++ components)
  pub from : (c : List TxnId) → Has c v.lists.taken → Has c (s.lists.taken ++ components)
  -- of what is left out no transaction has a group any more
  pub left : (c : List TxnId) → Has c (s.lists.taken ++ components) → Has c v.lists.taken ⊎ ((is_over v.below c ≡ true) × ((t : TxnId) → Has t c → is_here t v.started ≡ false))
  pub none_over : ((c : List TxnId) → Has c s.lists.taken → is_over s.below c ≡ false) → (c : List TxnId) → Has c v.lists.taken → is_over v.below c ≡ false
  -- groups stay but for those of what is over
  pub stays : (t : TxnId) → is_here t s.started ≡ true → (is_here t v.started ≡ true) ⊎ ((c : List TxnId) × Has c (s.lists.taken ++ components) × Has t c × (is_over v.below c ≡ true))

module _ (s v : ServerState) (components : List (List TxnId)) (k : KeepsTaken s v components) where
  -- what is over stays so
  pub over_still : (c : List TxnId) → is_over s.below c ≡ true → is_over v.below c ≡ true
  over_still c h = has_every (is_ended v.below) c (λ t x. k.marks t (every_has (is_ended s.below) c h t x))

-- a state has what another has, and its watermarks are not lower
pub record KeepsState (s v : ServerState) : Type 0 where
  pub taken : v.lists.taken ≡ s.lists.taken
  pub marks : (t : TxnId) → is_ended s.below t ≡ true → is_ended v.below t ≡ true
  pub here : (t : TxnId) → is_here t s.started ≡ true → is_here t v.started ≡ true
  pub gone : (t : TxnId) → IsGone s t → IsGone v t

pub state_itself : (s : ServerState) → KeepsState s s
state_itself s = record { taken = refl; marks = λ t h. h; here = λ t h. h; gone = λ t h. h }

pub state_hearing : (s : ServerState) (coord mark : ℕ) → KeepsState s (hearing s coord mark)
state_hearing s coord mark = record { taken = refl; marks = λ t. ended_still s.below coord mark t; here = λ t h. h; gone = λ t. gone_hears s coord mark t }

-- a step comes to such a state, with the same watermarks
pub keeps_still : (s v : ServerState) → KeepsState s v → v.below ≡ s.below → AreApart s.lists.taken → KeepsTaken s v []
keeps_still s v k below apart =
    record {
      marks = k.marks;
      gone = k.gone;
      apart = subst AreApart (sym (append-nil s.lists.taken)) apart;
      from = λ c h. subst (Has c) (k.taken ∙ sym (append-nil s.lists.taken)) h;
      left = λ c h. inl (subst (Has c) (append-nil s.lists.taken ∙ sym k.taken) h);
      none_over = λ none c h. ap (λ below. is_over below c) below ∙ none c (subst (Has c) k.taken h);
      stays = λ t h. inl (k.here t h);
    }

-- a step comes to a state with these components, and then forgets what is over
module _ (s z : ServerState) (components : List (List TxnId)) (taken : z.lists.taken ≡ s.lists.taken ++ components) where
  pub keeps_forgetting : ((t : TxnId) → is_ended s.below t ≡ true → is_ended z.below t ≡ true) → ((t : TxnId) → is_here t s.started ≡ true → is_here t z.started ≡ true)
      → ((t : TxnId) → IsGone s t → IsGone z t)
      → AreApart z.lists.taken → KeepsTaken s (forget z) components
  keeps_forgetting marks here gone apart =
      record {
        marks = marks;
        gone = λ t g. gone_still z t (gone t g);
        apart = subst AreApart taken apart;
        from = λ c h. subst (Has c) taken (from_has_filter (λ c. not (is_over z.below c)) c z.lists.taken h).0;
        left = λ c h. left c (subst (Has c) (sym taken) h) (is_over z.below c) refl;
        none_over = λ none c h. not-true (is_over z.below c) (from_has_filter (λ c. not (is_over z.below c)) c z.lists.taken h).1;
        stays = λ t h. stays t (here t h) (forgotten z t) refl;
      }
    where
      left : (c : List TxnId) → Has c z.lists.taken → (b : Bool) → is_over z.below c ≡ b
          → Has c (forget z).lists.taken ⊎ ((is_over z.below c ≡ true) × ((t : TxnId) → Has t c → is_here t (forget z).started ≡ false))
      left c h true e = inr (e, λ t x. (gone_now z t (forgets z c t h e x)).nowhere)
      left c h false e = inl (has_filter (λ c. not (is_over z.below c)) c z.lists.taken h (not_from_false (is_over z.below c) e))

      stays : (t : TxnId) → is_here t z.started ≡ true → (b : Bool) → forgotten z t ≡ b
          → (is_here t (forget z).started ≡ true) ⊎ ((c : List TxnId) × Has c (s.lists.taken ++ components) × Has t c × (is_over z.below c ≡ true))
      stays t h true e = let o = over_of z t e in inr (o.component, subst (Has o.component) taken o.has, o.member, o.over)
      stays t h false e = inl (here_kept z t e h)

-- it takes none
pub keeps_forgetting_none : (s z : ServerState) → KeepsState s z → AreApart z.lists.taken → KeepsTaken s (forget z) []
keeps_forgetting_none s z k apart = keeps_forgetting s z [] (k.taken ∙ sym (append-nil s.lists.taken)) k.marks k.here k.gone apart

-- its lists change, and buffered groups run
pub keeps_changing : (plan : Plan) (s v : ServerState) (lists : Lists) (components : List (List TxnId)) (ts : List TxnId) → KeepsState s v → lists.taken ≡ v.lists.taken ++ components
    → AreApart (take_all plan (record v { lists = lists }) ts).lists.taken → KeepsTaken s (forget (take_all plan (record v { lists = lists }) ts)) components
keeps_changing plan s v lists components ts k taken apart =
    let before : ServerState = record v { lists = lists } in
    let kept = take_keeps plan ts before in
    keeps_forgetting s (take_all plan before ts) components (ap (λ (l : Lists). l.taken) kept.0 ∙ (taken ∙ ap (λ l. l ++ components) k.taken))
    (λ t h. subst (λ below. is_ended below t ≡ true) (sym kept.2) (k.marks t h))
    (λ t h. (take_same plan ts before).here t (k.here t h))
    (λ t g. gone_taught plan v lists ts t (k.gone t g))
    apart
