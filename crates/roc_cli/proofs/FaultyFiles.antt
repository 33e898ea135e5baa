-- The first fault of a cluster file is one, and so is that of a request file of a program
use Rattle.std.proofs.Common.{◌≡◌, ◌⊎◌, inl, inr, ℕ, List, [], ◌∷◌, ◌++◌, Some, refl, sym, ap, subst, ◌∙◌}
use Rattle.std.proofs.lemmas.Option.{none-some, same_Some}
use Rattle.roc_program.specs.Program.{Workload}
use Rattle.roc_cluster.specs.declared.fault.ClusterFault.{ClusterFault}
use Rattle.roc_cluster.specs.declared.fault.ClusterFault.TheVariants.{Toml, Field, Twice, Gap, NoMemory}
use Rattle.roc_cluster.specs.Answer.{IsFirstIn, IsClusterFault}
use Rattle.roc_sched.specs.declared.fault.What.{What}
use Rattle.roc_sched.specs.declared.line.Request.{Request}
use Rattle.roc_cli_files.specs.Requests.{request_fault, FitEach, IsFirstUnfitRequest, IsRequestsFault, no_requests, unfit_request}
use Rattle.roc_cli.specs.Inner.Texts.{TextLaws}

-- ---- cluster files

in_document : (shards : ℕ) (bytes : List ℕ) (fault : ClusterFault) → IsClusterFault shards bytes fault → (fault ≡ NoMemory → ⊥) → (fault ≡ Toml) ⊎ IsFirstIn shards bytes fault
in_document shards bytes Toml is not = inl refl
in_document shards bytes (Field name) is not = inr is
in_document shards bytes (Twice shard) is not = inr is
in_document shards bytes (Gap shard) is not = inr is
in_document shards bytes NoMemory is not = absurd (not refl)

no_document : (shards : ℕ) (bytes : List ℕ) (fault other : ClusterFault) → IsClusterFault shards bytes fault → fault ≡ Toml → IsFirstIn shards bytes other → ⊥
no_document shards bytes fault other is e first = (subst (IsClusterFault shards bytes) e is) first.0 first.1

module _ (unique : (shards : ℕ) (bytes : List ℕ) (some other : ClusterFault) → IsFirstIn shards bytes some → IsFirstIn shards bytes other → some ≡ other) where
  pub one_cluster_fault : (shards : ℕ) (bytes : List ℕ) (some other : ClusterFault) → IsClusterFault shards bytes some → IsClusterFault shards bytes other → (some ≡ NoMemory → ⊥)
      → (other ≡ NoMemory → ⊥) → some ≡ other
  one_cluster_fault shards bytes some other is others not neither = go (in_document shards bytes some is not) (in_document shards bytes other others neither)
    where
      go : (some ≡ Toml) ⊎ IsFirstIn shards bytes some → (other ≡ Toml) ⊎ IsFirstIn shards bytes other → some ≡ other
      go (inl e) (inl f) = e ∙ sym f
      go (inl e) (inr first) = absurd (no_document shards bytes some other is e first)
      go (inr first) (inl f) = absurd (no_document shards bytes other some others f first)
      go (inr first) (inr second) = unique shards bytes some other first second

-- ---- request files

-- the first request that does not fit is one
one_unfit : (program : Workload) (before : List Request) (r : Request) (behind others : List Request) (q : Request) (rest : List Request) (what cause : What)
    → before ++ r ∷ behind ≡ others ++ q ∷ rest → FitEach program before → FitEach program others → request_fault program r ≡ Some what → request_fault program q ≡ Some cause → r ≡ q
one_unfit program [] r behind [] q rest what cause e fit fits is other = cc
one_unfit program [] r behind (o ∷ os) q rest what cause e fit fits is other =
    let same : r ≡ o = cc in absurd (none-some what (sym fits.0 ∙ (sym (ap (request_fault program) same) ∙ is)))
one_unfit program (b ∷ bs) r behind [] q rest what cause e fit fits is other =
    let same : b ≡ q = cc in absurd (none-some cause (sym fit.0 ∙ (ap (request_fault program) same ∙ other)))
one_unfit program (b ∷ bs) r behind (o ∷ os) q rest what cause e fit fits is other =
    let tails : bs ++ r ∷ behind ≡ os ++ q ∷ rest = cc in one_unfit program bs r behind os q rest what cause tails fit.1 fits.1 is other

module _ (laws : TextLaws) (program : Workload) (text : List ℕ) (line other : ℕ) (what cause : What) where
  unfit_once : (requests : List Request) → IsFirstUnfitRequest program requests line what → IsFirstUnfitRequest program requests other cause → (line ≡ other) × (what ≡ cause)
  unfit_once requests a b =
      let same : a.request ≡ b.request = one_unfit program a.before a.request a.behind b.before b.request b.behind what cause (sym a.parts ∙ b.parts) a.fit b.fit a.is b.is in
      (sym a.in_line ∙ (ap (λ (r : Request). r.line) same ∙ b.in_line), same_Some what cause (sym a.is ∙ (ap (request_fault program) same ∙ b.is)))

  pub one_requests_fault : IsRequestsFault program text line what → IsRequestsFault program text other cause → (line ≡ other) × (what ≡ cause)
  one_requests_fault (no_requests fault) (no_requests second) = laws.one_list_fault text line other what cause fault second
  one_requests_fault (no_requests fault) (unfit_request requests are unfit) = absurd (laws.no_list_fault text requests line what are fault)
  one_requests_fault (unfit_request requests are unfit) (no_requests fault) = absurd (laws.no_list_fault text requests other cause are fault)
  one_requests_fault (unfit_request requests are unfit) (unfit_request others too second) =
      unfit_once requests unfit (subst (λ (rs : List Request). IsFirstUnfitRequest program rs other cause) (sym (laws.one_list text requests others are too)) second)
