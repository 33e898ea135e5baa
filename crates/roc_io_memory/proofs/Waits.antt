-- What a spawner awaited over several calls.
use Rattle.std.proofs.Common.{◌≡◌, ℕ, ◌+◌, ◌<◌, Bool, true, false, not, nat_eq, List, [], ◌∷◌, ◌++◌, length, get_or, take, refl, sym, ◌∙◌, ap, arith}
use Rattle.std.specs.Prelude.{Option, Some, None, IfSome, IsNone, is_none, find, if◌then◌else◌, ◌≤◌}
use Rattle.std.specs.Option.{option_or}
use Rattle.std.proofs.lemmas.List.Folds.{find-append}
use Rattle.roc_io.specs.Cause.{HasCause, Rose, last_count}
use Rattle.std.proofs.lemmas.List.{map-append, take_more}
use Rattle.roc_io.specs.declared.spawner.ChildWait.{ChildWait}
use Rattle.roc_io.specs.Spawner.{ended_badly}
use Rattle.roc_io.specs.Observed.{Adds}
use Rattle.roc_io_memory.specs.Callers.{WaitsAll}
use Rattle.roc_io.proofs.Causes.{never_falls}
use Rattle.roc_io.proofs.Told.{Adds-trans}

-- one more was awaited
pub WaitsAll-next : (children : List ℕ) (i child : ℕ) (status : Option ℕ) (old mid new : Option (List ChildWait)) (before after : Option ChildWait)
    → i < length children → child ≡ get_or children i child → WaitsAll old mid (take i children) before
    → let wait : ChildWait = record { child = child; status = status } in
    Adds mid new (wait ∷ []) → after ≡ option_or before (if ended_badly wait then Some wait else None) → WaitsAll old new (take (i + 1) children) after
WaitsAll-next children i child status old mid new before after inside is so_far adds e =
    let one : List ChildWait = record { child = child; status = status } ∷ [] in
    record {
      waits = so_far.waits ++ one;
      told = Adds-trans old mid new so_far.waits one so_far.told adds;
      each = map-append (λ (wait : ChildWait). wait.child) so_far.waits one ∙ ap (λ l. l ++ child ∷ []) so_far.each
          ∙ sym (take_more children i child inside ∙ ap (λ y. take i children ++ y ∷ []) (sym is));
      bad = e ∙ ap (λ o. option_or o (find ended_badly one)) so_far.bad ∙ sym (find-append ended_badly so_far.waits one);
    }

-- a wait that answered no status was counted
pub cause_next : (first : Option ChildWait) (child : ℕ) (status : Option ℕ) (start before after : ℕ)
    → IfSome first (λ bad. IsNone bad.status → Rose start before) → start ≤ before → HasCause (is_none status) before after
    → let wait : ChildWait = record { child = child; status = status } in
    IfSome (option_or first (if ended_badly wait then Some wait else None)) (λ bad. IsNone bad.status → Rose start after)
cause_next (Some bad) child status start before after so_far le cause =
    λ missing below.
    let later : before ≤ after = never_falls (is_none status) before after cause in
    let rose : before < last_count → start < before = so_far missing in
    omega arith
cause_next None child None start before after so_far le cause = λ missing below. let rose : before < after = cause.rose below in omega arith
cause_next None child (Some status) start before after so_far le cause = go (nat_eq status 0)
  where
    go : (good : Bool) → let wait : ChildWait = record { child = child; status = Some status } in
        IfSome (if not good then Some wait else None) (λ bad. IsNone bad.status → Rose start after)
    go true = tt
    go false = λ missing below. cc

-- where none ended badly, nothing was counted
pub same_next : (first : Option ChildWait) (child : ℕ) (status : Option ℕ) (start before after : ℕ)
    → (first ≡ None → before ≡ start) → HasCause (is_none status) before after
    → let wait : ChildWait = record { child = child; status = status } in
    option_or first (if ended_badly wait then Some wait else None) ≡ None → after ≡ start
same_next (Some bad) child status start before after so_far cause none = cc
same_next None child None start before after so_far cause none = cc
same_next None child (Some status) start before after so_far cause none = cause ∙ so_far refl
