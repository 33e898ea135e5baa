-- Cycles as lists, and as chains
use Rattle.std.proofs.Common.{List, [], ◌∷◌, ◌++◌}
use Rattle.roc_base.specs.declared.id.TxnId.{TxnId}
use Rattle.roc_depgraph.specs.Reach.{Reaches, direct, through}
use Rattle.roc_depgraph.proofs.Chains.{joined_chain}
use Rattle.roc_component.specs.Components.{among}
use Rattle.roc_precedence.specs.Cycles.{LeadsAlong, IsCycle, HasCycle}

module _ (G : TxnId → TxnId → Type 0) where
  leads_more : (xs : List TxnId) (u s t : TxnId) → LeadsAlong G u xs s → G s t → LeadsAlong G u (xs ++ s ∷ []) t
  leads_more [] u s t l e = (l, e)
  leads_more (x ∷ xs) u s t l e = (l.0, leads_more xs x s t l.1 e)

  pub chain_leads : (u t : TxnId) → Reaches G u t → (xs : List TxnId) × LeadsAlong G u xs t
  chain_leads u _ (direct e) = ([], e)
  chain_leads u t (through {s} p e) = let w = chain_leads u s p in (w.0 ++ s ∷ [], leads_more w.0 u s t w.1 e)

  pub leads_chain : (xs : List TxnId) (u t : TxnId) → LeadsAlong G u xs t → Reaches G u t
  leads_chain [] u t l = direct l
  leads_chain (x ∷ xs) u t l = joined_chain G u x t (direct l.0) (leads_chain xs x t l.1)

module _ (G : TxnId → TxnId → Type 0) (M : List TxnId) where
  pub chain_cycle : (u : TxnId) → Reaches (among M G) u u → HasCycle G M
  chain_cycle u p = let w = chain_leads (among M G) u u p in (u ∷ w.0, w.1)

  pub cycle_chain : HasCycle G M → (u : TxnId) × Reaches (among M G) u u
  cycle_chain (c, h) = go c h
    where
      go : (c : List TxnId) → IsCycle (among M G) c → (u : TxnId) × Reaches (among M G) u u
      go [] h = elim h [ ]
      go (x ∷ xs) h = (x, leads_chain (among M G) xs x x h)
