-- The stores of the shards are one store whose cells are shared out
use Rattle.std.proofs.Common.{◌≡◌, ◌≢◌, ℤ, Bool, true, false, List, refl, sym, ap, ◌∙◌}
use Rattle.std.proofs.lemmas.Bool.{false≢true}
use Rattle.roc_rows.specs.declared.cell.Cell.{Cell}
use Rattle.roc_rows.specs.Store.{Store, read}
use Rattle.roc_law_orders.specs.Behaviour.{TxnGroup, is_written, DoesSame}
use Rattle.roc_law_orders.specs.Runs.{Stage, inputs_at, uses_at, after_group}
use Rattle.roc_law_orders.proofs.SameGroups.{written_used}
use Rattle.roc_law_log.specs.Scheme.{Scheme, IsSoundScheme}

module _ (S : Scheme) (sound : IsSoundScheme S) where
  pub elsewhere : (s : Stage) (r : TxnGroup) (x : Cell) → S.cell_shard x ≢ S.group_shard r (inputs_at S.behaviour s r) → read (after_group S.behaviour s r).store x ≡ read s.store x
  unfolding after_group
  elsewhere s r x n = go (is_written x (uses_at S.behaviour s r)) refl
    where
      go : (b : Bool) → is_written x (uses_at S.behaviour s r) ≡ b → read (after_group S.behaviour s r).store x ≡ read s.store x
      go true e = absurd (n (sound.placed r (inputs_at S.behaviour s r) s.store x (written_used x (uses_at S.behaviour s r) e)))
      go false e = sound.lawful.declared r (inputs_at S.behaviour s r) s.store x e

  module _ (r : TxnGroup) (given : List (List ℤ)) (s t : Store) (alike : (x : Cell) → S.cell_shard x ≡ S.group_shard r given → read s x ≡ read t x) where
    pub does_same : DoesSame S.behaviour r given s t
    does_same = sound.lawful.local r given s t (λ x u. alike x (sound.placed r given s x u))

    pub same_cells : (x : Cell) → S.cell_shard x ≡ S.group_shard r given → read (S.behaviour.after r given s) x ≡ read (S.behaviour.after r given t) x
    same_cells x h = go (is_written x (S.behaviour.uses r given s)) refl (is_written x (S.behaviour.uses r given t)) refl
      where
        go : (b : Bool) → is_written x (S.behaviour.uses r given s) ≡ b → (c : Bool) → is_written x (S.behaviour.uses r given t) ≡ c → read (S.behaviour.after r given s) x ≡ read (S.behaviour.after r given t) x
        go true e c f = does_same.written x e
        go false e true f = absurd (false≢true (sym e ∙ (ap (is_written x) does_same.uses ∙ f)))
        go false e false f = sound.lawful.declared r given s x e ∙ (alike x h ∙ sym (sound.lawful.declared r given t x f))
