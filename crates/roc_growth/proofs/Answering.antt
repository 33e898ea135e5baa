-- Who is quiet in a world of two files is answered
use Rattle.std.proofs.Common.{◌≡◌, ◌∙◌, ◌⊎◌, inl, inr, ℕ, ℤ, suc, ◌<◌, Bool, true, false, List, Option, Some, length, refl, sym, subst}
use Rattle.std.proofs.lemmas.Bool.{false≢true}
use Rattle.std.specs.Prelude.{slice_get}
use Rattle.roc_sequence.specs.Lists.{Has}
use Rattle.roc_sequence.proofs.Members.{has_append, has_left, has_right}
use Rattle.roc_base.specs.declared.id.TxnId.{TxnId}
use Rattle.roc_base.specs.declared.node.Shard.{Shard}
use Rattle.roc_depgraph.specs.Deps.{IsDecided}
use Rattle.roc_plan.specs.Groups.{Plan, is_view_of}
use Rattle.roc_step.specs.declared.started.StartedGroup.{StartedGroup}
use Rattle.roc_step.specs.State.{ServerState}
use Rattle.roc_audit.specs.declared.entry.Entry.TheVariants.{Submitted, Answered}
use Rattle.roc_audit.specs.History.{WasSubmitted, WasAnswered}
use Rattle.roc_law_protocol.specs.Quiet as transactions
use Rattle.roc_law_world.specs.World.{World, first_beginning}
use Rattle.roc_law_world.specs.Run as views
use Rattle.roc_law_world.specs.Quiet as theirs
use Rattle.roc_epoch.specs.declared.file.File.{File}
use Rattle.roc_epoch.specs.declared.file.File.TheVariants.{First, Second}
use Rattle.roc_epoch.specs.declared.next.Next.{Next}
use Rattle.roc_epoch.specs.Files.{IsNextOf, last_plan}
use Rattle.roc_two_files.specs.Left.{AreDrained}
use Rattle.roc_two_files.specs.Sealed.{Sealed, is_of}
use Rattle.roc_two_files.proofs.Drains.{all_answered}
use Rattle.roc_two_files.proofs.Late.{run_late}
use Rattle.roc_grown.specs.Server.{GrownServerState}
use Rattle.roc_growth.specs.World.{GrownWorld}
use Rattle.roc_growth.specs.Run.{Stepped}
use Rattle.roc_growth.specs.Told.{HasSwitched}
use Rattle.roc_growth.specs.Epochs.{AreEpochs}
use Rattle.roc_growth.specs.Quiet.{IsPassed, messages_of, AreDelivered, IsQuiet, IsInLastRound}
use Rattle.roc_growth.proofs.Cells.{viewed_alike}
use Rattle.roc_growth.proofs.Halves.{all_drained}
use Rattle.roc_growth.proofs.QuietFiles.{some_or_none, first_delivered, first_quiet, not_first_last, second_delivered, second_quiet, second_last_round}

-- no message of a file was skipped
abbrev pub AreUnpassed : File → List Stepped → GrownWorld → Type 0
AreUnpassed f steps g = (k : ℕ) (m : Sealed) → slice_get g.sent k ≡ Some m → is_of f m ≡ true → ¬ IsPassed steps g (suc k)

-- a law of quiet transactions, in a world of one file
abbrev pub AnswersQuiet : Plan → List views.Stepped → World → Type 0
AnswersQuiet plan steps w =
    (t : TxnId) (proc : ℕ) (args : List ℤ) → Has (Submitted t proc args) w.history → is_view_of plan proc ≡ false → theirs.AreDelivered (transactions.PrecedesIn w.sent) steps w t
    → (reply : List ℤ) × Has (Answered t reply) w.history

abbrev pub DecidesQuiet : List views.Stepped → World → Type 0
DecidesQuiet steps w =
    (t : TxnId) → theirs.AreDelivered (transactions.PrecedesIn w.sent) steps w t
    → (shard : Shard) (s : ServerState) → slice_get w.servers shard.0 ≡ Some s → (e : StartedGroup) → Has e s.started → e.id ≡ t → IsDecided s.lists.links t

abbrev pub DecidesAnswered : Plan → World → Type 0
DecidesAnswered plan w =
    (t : TxnId) (proc : ℕ) (args : List ℤ) → Has (Submitted t proc args) w.history → is_view_of plan proc ≡ false → (reply : List ℤ) → WasAnswered w.history t reply
    → (shard : Shard) (s : ServerState) → slice_get w.servers shard.0 ≡ Some s → (e : StartedGroup) → Has e s.started → e.id ≡ t → IsDecided s.lists.links t

-- and of views
abbrev pub AnswersViews : Plan → List views.Stepped → World → Type 0
AnswersViews plan steps w =
    (t : TxnId) (proc : ℕ) (args : List ℤ) → Has (Submitted t proc args) w.history → is_view_of plan proc ≡ true → theirs.IsQuiet plan steps w t → ¬ theirs.IsInLastRound w t
    → (reply : List ℤ) × Has (Answered t reply) w.history

module _ (plan : Plan) (next : Option Next) (coords : ℕ) (steps : List Stepped) (g : GrownWorld) (e : AreEpochs plan next coords steps g) (of : IsNextOf plan next) (some : 0 < length e.w.servers)
    (skipped : (k : ℕ) (m : Sealed) → slice_get g.sent k ≡ Some m → is_of First m ≡ true → IsPassed steps g (suc k) → (n : ℕ) × HasSwitched g.servers n)
    (never : AreUnpassed Second steps g) where
  abbrev last : Plan
  last = last_plan plan next

  -- where no server has switched none of the first was skipped
  unpassed : ((n : ℕ) (s : GrownServerState) → slice_get g.servers n ≡ Some s → s.switched ≡ false) → AreUnpassed First steps g
  unpassed none k m at is q = let r = skipped k m at is q in false≢true (sym (none r.0 r.1.0 r.1.1) ∙ r.1.2)

  -- where one has, each of the first is answered
  first_answered : (t : TxnId) → WasSubmitted e.w.history t → (n : ℕ) × HasSwitched g.servers n → (reply : List ℤ) × WasAnswered e.w.history t reply
  first_answered t s (n, x) = all_answered plan (first_beginning plan) coords e.first_steps e.w e.first (e.drained n x.0 x.1 x.2) t s

  known : (t : TxnId) (proc : ℕ) (args : List ℤ) → Has (Submitted t proc args) e.w.history → proc < length plan.program.procedures
  known t proc args h = ((run_late plan (first_beginning plan) coords e.first_steps e.w e.first).known t proc args h).0

  viewed : (t : TxnId) (proc : ℕ) (args : List ℤ) (b : Bool) → Has (Submitted t proc args) e.w.history → is_view_of last proc ≡ b → is_view_of plan proc ≡ b
  viewed t proc args b h view = sym (viewed_alike plan next coords steps g e of proc (known t proc args h)) ∙ view

  -- who is of the second is there only once all servers have switched
  begun : (t : TxnId) → WasSubmitted e.v.history t → (n : ℕ) (s : GrownServerState) → slice_get g.servers n ≡ Some s → s.switched ≡ true
  begun t s = elim e.begun [
    | inl none ↦ absurd (let k = subst (λ (v : World). WasSubmitted v.history t) none s in k.2)
    | inr all ↦ all
  ]

  in_first : (t : TxnId) (reply : List ℤ) → Has (Answered t reply) e.w.history → Has (Answered t reply) g.history
  in_first t reply h = subst (Has (Answered t reply)) (sym e.two.history) (has_left (Answered t reply) e.w.history e.v.history h)

  in_second : (t : TxnId) (reply : List ℤ) → Has (Answered t reply) e.v.history → Has (Answered t reply) g.history
  in_second t reply h = subst (Has (Answered t reply)) (sym e.two.history) (has_right (Answered t reply) e.w.history e.v.history h)

  in_either : (t : TxnId) (proc : ℕ) (args : List ℤ) → Has (Submitted t proc args) g.history → Has (Submitted t proc args) e.w.history ⊎ Has (Submitted t proc args) e.v.history
  in_either t proc args h = has_append (Submitted t proc args) e.w.history e.v.history (subst (Has (Submitted t proc args)) e.two.history h)

  pub transaction_answered : AnswersQuiet plan e.first_steps e.w → (AreDrained e.w.coords → AnswersQuiet last e.second_steps e.v)
      → (t : TxnId) (proc : ℕ) (args : List ℤ) → Has (Submitted t proc args) g.history → is_view_of last proc ≡ false → AreDelivered (transactions.PrecedesIn (messages_of g.sent)) steps g t
      → (reply : List ℤ) × Has (Answered t reply) g.history
  transaction_answered first second t proc args submitted plain quiet = elim (in_either t proc args submitted) [
    | inl h ↦ elim (some_or_none g.servers) [
      | inl switched ↦ (let r = first_answered t (proc, args, h) switched in (r.0, in_first t r.0 r.1))
      | inr none ↦
          (let r = first t proc args h (viewed t proc args false h plain) (first_delivered plan next coords steps g e none some (unpassed none) t quiet) in
          (r.0, in_first t r.0 r.1))
    ]
    | inr h ↦
        (let r = second (all_drained plan next coords steps g e some (begun t (proc, args, h))) t proc args h plain (second_delivered plan next coords steps g e never t quiet) in
        (r.0, in_second t r.0 r.1))
  ]

  pub transaction_decided : DecidesQuiet e.first_steps e.w → (AreDrained e.w.coords → DecidesQuiet e.second_steps e.v) → DecidesAnswered plan e.w
      → (t : TxnId) (proc : ℕ) (args : List ℤ) → Has (Submitted t proc args) g.history → is_view_of last proc ≡ false → AreDelivered (transactions.PrecedesIn (messages_of g.sent)) steps g t
      → (shard : Shard) (s : GrownServerState) → slice_get g.servers shard.0 ≡ Some s → (x : StartedGroup) → Has x s.core.started → x.id ≡ t → IsDecided s.core.lists.links t
  transaction_decided first second answered t proc args submitted plain quiet shard s at x has id = go s.switched refl
    where
      go : (b : Bool) → s.switched ≡ b → IsDecided s.core.lists.links t
      go true is =
          second (e.drained shard.0 s at is) t (second_delivered plan next coords steps g e never t quiet) shard s.core (e.two.second_servers shard.0 s at is).0 x has id
      go false is = elim (in_either t proc args submitted) [
        | inl h ↦ elim (some_or_none g.servers) [
          | inl switched ↦
              (let r = first_answered t (proc, args, h) switched in
              answered t proc args h (viewed t proc args false h plain) r.0 r.1 shard s.core (e.two.first_servers shard.0 s at is).0 x has id)
          | inr none ↦
              first t (first_delivered plan next coords steps g e none some (unpassed none) t quiet) shard s.core (e.two.first_servers shard.0 s at is).0 x has id
        ]
        | inr h ↦ absurd (false≢true (sym is ∙ begun t (proc, args, h) shard.0 s at))
      ]

  pub view_answered : length e.v.servers ≡ length g.servers → length e.v.coords ≡ length g.coords → AnswersViews plan e.first_steps e.w → (AreDrained e.w.coords → AnswersViews last e.second_steps e.v)
      → (t : TxnId) (proc : ℕ) (args : List ℤ) → Has (Submitted t proc args) g.history → is_view_of last proc ≡ true → IsQuiet plan next steps g t → ¬ IsInLastRound g t
      → (reply : List ℤ) × Has (Answered t reply) g.history
  view_answered servers coordinators first second t proc args submitted view quiet not_last = elim (in_either t proc args submitted) [
    | inl h ↦ elim (some_or_none g.servers) [
      | inl switched ↦ (let r = first_answered t (proc, args, h) switched in (r.0, in_first t r.0 r.1))
      | inr none ↦
          (let r = first t proc args h (viewed t proc args true h view) (first_quiet plan next coords steps g e none some (unpassed none) t quiet)
          (not_first_last plan next coords steps g e none some t not_last) in
          (r.0, in_first t r.0 r.1))
    ]
    | inr h ↦
        (let all = begun t (proc, args, h) in
        let r = second (all_drained plan next coords steps g e some all) t proc args h view (second_quiet plan next coords steps g e all servers never t quiet)
        (λ x. not_last (second_last_round plan next coords steps g e t coordinators x)) in
        (r.0, in_second t r.0 r.1))
  ]
