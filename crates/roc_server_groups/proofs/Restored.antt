-- What runs leave to put back
use Rattle.std.proofs.Common.{◌≡◌, ℕ, ℤ, zero, suc, ◌≤◌, List, [], ◌∷◌, ◌++◌, Option, Some, length, slice_get, slice_set, refl, sym, ap, ◌∙◌, arith}
use Rattle.roc_server_groups.specs.declared.runs.Earlier.{Earlier}
use Rattle.roc_step.specs.declared.started.StartedGroup.{StartedGroup}
use Rattle.roc_server_groups.specs.Inner.Restored.{restored, with_later_at}

pub restored-none : (ws : List Earlier) (es : List StartedGroup) → ws ≡ [] → restored ws es ≡ es
unfolding restored
restored-none ws es e = ap (λ l. restored l es) e

-- the last is undone first
pub restored-last : (ws : List Earlier) (w : Earlier) (es : List StartedGroup) → restored (ws ++ w ∷ []) es ≡ restored ws (with_later_at w.at w.later es)
unfolding restored
restored-last [] w es = refl
restored-last (v ∷ ws) w es = ap (with_later_at v.at v.later) (restored-last ws w es)

-- what is set at a place
pub set_later_at : (es : List StartedGroup) (at : ℕ) (e : StartedGroup) (later : Option (List ℤ)) → slice_get es at ≡ Some e → slice_set es at (record e { later = later }) ≡ with_later_at at later es
set_later_at [] at e later got = cc
set_later_at (x ∷ es) zero e later got =
    let is : x ≡ e = cc in ap (λ (y : StartedGroup). record y { later = later } ∷ es) (sym is)
set_later_at (x ∷ es) (suc at) e later got = ap (λ ys. x ∷ ys) (set_later_at es at e later got)

-- nothing stands past the end
pub past_end : (es : List StartedGroup) (at : ℕ) (later : Option (List ℤ)) → length es ≤ at → with_later_at at later es ≡ es
past_end [] at later h = refl
past_end (x ∷ es) zero later h = absurd (omega arith)
past_end (x ∷ es) (suc at) later h = ap (λ ys. x ∷ ys) (past_end es at later (omega arith))

-- what stood there is put back
put_again : (es : List StartedGroup) (at : ℕ) (e : StartedGroup) (later : Option (List ℤ)) → slice_get es at ≡ Some e → with_later_at at e.later (slice_set es at (record e { later = later })) ≡ es
put_again [] at e later got = refl
put_again (x ∷ es) zero e later got =
    let is : x ≡ e = cc in ap (λ y. y ∷ es) (sym is)
put_again (x ∷ es) (suc at) e later got = ap (λ ys. x ∷ ys) (put_again es at e later got)

-- so a change that is noted leaves what was there to go back to
pub restored-noted : (ws : List Earlier) (es : List StartedGroup) (at : ℕ) (e : StartedGroup) (later : Option (List ℤ)) → slice_get es at ≡ Some e
    → restored (ws ++ (record { at = at; later = e.later }) ∷ []) (slice_set es at (record e { later = later })) ≡ restored ws es
restored-noted ws es at e later got =
    restored-last ws (record { at = at; later = e.later }) (slice_set es at (record e { later = later })) ∙ ap (restored ws) (put_again es at e later got)
