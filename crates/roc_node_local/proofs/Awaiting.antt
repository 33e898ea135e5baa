-- Children that are awaited one after another.
use Rattle.std.proofs.Common.{◌≡◌, ℕ, ◌+◌, ◌<◌, ◌≤◌, Bool, true, false, not, nat_eq, List, [], ◌∷◌, ◌++◌, length, get_or, replicate, take, refl, sym, ◌∙◌, ap, subst, arith}
use Rattle.std.specs.Prelude.{Option, Some, None, IfSome, IsNone, is_none, if◌then◌else◌}
use Rattle.std.specs.Option.{option_or}
use Rattle.std.proofs.lemmas.List.{map-append, length-map, take_more, length-take-le, replicate_more}
use Rattle.roc_io.specs.Cause.{HasCause, Rose, last_count}
use Rattle.roc_io.specs.declared.spawner.ChildWait.{ChildWait}
use Rattle.roc_io.specs.Observed.{Adds}
use Rattle.roc_io.specs.Spawner.{ended_badly}
use Rattle.roc_io.proofs.Causes.{never_falls}
use Rattle.roc_io.proofs.Told.{Adds-trans}
use Rattle.roc_node_local.specs.declared.children.ChildEnd.{ChildEnd}
use Rattle.roc_node_local.specs.Children.{AwaitsAll, first_bad}

-- how the child of this shard ended, unless it ended well
abbrev pub bad_at : (shard : ℕ) → ChildWait → Option ChildEnd
bad_at shard wait = if ended_badly wait then Some (record { shard = record { 0 = shard }; status = wait.status }) else None

first_bad-more : (shard : ℕ) (waits : List ChildWait) (wait : ChildWait) → first_bad shard (waits ++ wait ∷ []) ≡ option_or (first_bad shard waits) (bad_at (shard + length waits) wait)
first_bad-more shard [] wait = let here : shard ≡ shard + 0 = omega arith in ap (λ n. bad_at n wait) here
first_bad-more shard (w ∷ ws) wait =
    let more = first_bad-more (shard + 1) ws wait in
    let place : shard + 1 + length ws ≡ shard + length (w ∷ ws) = omega arith in
    go (ended_badly w) (more ∙ ap (λ n. option_or (first_bad (shard + 1) ws) (bad_at n wait)) place)
  where
    go : (bad : Bool) → first_bad (shard + 1) (ws ++ wait ∷ []) ≡ option_or (first_bad (shard + 1) ws) (bad_at (shard + length (w ∷ ws)) wait)
        → (if bad then Some (record { shard = record { 0 = shard }; status = w.status }) else first_bad (shard + 1) (ws ++ wait ∷ []))
        ≡ option_or (if bad then Some (record { shard = record { 0 = shard }; status = w.status }) else first_bad (shard + 1) ws) (bad_at (shard + length (w ∷ ws)) wait)
    go true more = refl
    go false more = more

-- one more was awaited
pub AwaitsAll-next : (children : List ℕ) (i child : ℕ) (status : Option ℕ) (old mid new : Option (List ChildWait)) (before after : Option ChildEnd)
    → i < length children → child ≡ get_or children i child → AwaitsAll old mid (take i children) before
    → Adds mid new (record { child = child; status = status } ∷ []) → after ≡ option_or before (bad_at i (record { child = child; status = status })) → AwaitsAll old new (take (i + 1) children) after
AwaitsAll-next children i child status old mid new before after inside is so_far adds e =
    let wait : ChildWait = record { child = child; status = status } in
    let count : length so_far.waits ≡ i =
    sym (length-map so_far.waits (λ (w : ChildWait). w.child)) ∙ ap length so_far.each ∙ length-take-le i children (omega arith) in
    let place : 0 + length so_far.waits ≡ i = omega (arith, count) in
    record {
      waits = so_far.waits ++ wait ∷ [];
      told = Adds-trans old mid new so_far.waits (wait ∷ []) so_far.told adds;
      each = map-append (λ (w : ChildWait). w.child) so_far.waits (wait ∷ []) ∙ ap (λ l. l ++ child ∷ []) so_far.each
          ∙ sym (take_more children i child inside ∙ ap (λ y. take i children ++ y ∷ []) (sym is));
      bad = e ∙ ap (λ o. option_or o (bad_at i wait)) so_far.bad ∙ sym (first_bad-more 0 so_far.waits wait ∙ ap (λ n. option_or (first_bad 0 so_far.waits) (bad_at n wait)) place);
    }

-- a wait that answered no status was counted
pub bad_cause_next : (first : Option ChildEnd) (shard child : ℕ) (status : Option ℕ) (start before after : ℕ)
    → IfSome first (λ bad. IsNone bad.status → Rose start before) → start ≤ before → HasCause (is_none status) before after
    → IfSome (option_or first (bad_at shard (record { child = child; status = status }))) (λ bad. IsNone bad.status → Rose start after)
bad_cause_next (Some bad) shard child status start before after so_far le cause =
    λ missing below.
    let later : before ≤ after = never_falls (is_none status) before after cause in
    let rose : before < last_count → start < before = so_far missing in
    omega arith
bad_cause_next None shard child None start before after so_far le cause = λ missing below. let rose : before < after = cause.rose below in omega arith
bad_cause_next None shard child (Some status) start before after so_far le cause = go (nat_eq status 0)
  where
    go : (good : Bool) → IfSome (if not good then Some (record { shard = record { 0 = shard }; status = Some status }) else None) (λ (bad : ChildEnd). IsNone bad.status → Rose start after)
    go true = tt
    go false = λ missing below. cc

-- where none ended badly, nothing was counted
pub none_bad_next : (first : Option ChildEnd) (shard child : ℕ) (status : Option ℕ) (start before after : ℕ)
    → (first ≡ None → before ≡ start) → HasCause (is_none status) before after
    → option_or first (bad_at shard (record { child = child; status = status })) ≡ None → after ≡ start
none_bad_next (Some bad) shard child status start before after so_far cause none = cc
none_bad_next None shard child None start before after so_far cause none = cc
none_bad_next None shard child (Some status) start before after so_far cause none = cause ∙ so_far refl

-- the link had sent the same at one wait more
pub sent_again : {X : Type 0} (o p q : Option (List X)) (n : ℕ) (sent : X) → Adds o p (replicate n sent) → Adds p q (sent ∷ []) → Adds o q (replicate (n + 1) sent)
sent_again o p q n sent so_far more = subst (Adds o q) (replicate_more n sent) (Adds-trans o p q (replicate n sent) (sent ∷ []) so_far more)
