-- What a log tells is one, and so is the first line that does not stand next
use Rattle.std.proofs.Common.{◌≡◌, ℕ, suc, ◌+◌, ℤ, List, [], ◌∷◌, ◌++◌, length, Some, Result, Ok, Err, refl, sym, ap, subst, ◌∙◌, arith}
use Rattle.std.proofs.lemmas.Bool.{false≢true}
use Rattle.roc_base.specs.declared.id.TxnId.{TxnId}
use Rattle.roc_base.specs.declared.node.Node.{Node}
use Rattle.roc_base.specs.declared.node.Node.TheVariants.{Server, Coord}
use Rattle.roc_base.proofs.Ids.{none_rise}
use Rattle.roc_msg.specs.declared.msg.Msg.{Msg}
use Rattle.roc_msg.specs.declared.outbox.Ran.{Ran}
use Rattle.roc_plan.specs.Groups.{Plan}
use Rattle.roc_wire.specs.declared.header.Header.{Header}
use Rattle.roc_step.specs.New.{AreDecided}
use Rattle.roc_step.specs.Reads.{AnswersReads}
use Rattle.roc_step.specs.Runs.{accesses_of}
use Rattle.roc_step.specs.State.{ServerStep}
use Rattle.roc_step.proofs.OneStep.{one_step, one_read_step}
use Rattle.roc_log.specs.Sent.{outs_logged}
use Rattle.roc_log.specs.declared.line.LogLine.{LogLine}
use Rattle.roc_log.specs.declared.line.LogLine.TheVariants.{Submit, In, Tick, Out, Answer}
use Rattle.roc_judge.specs.declared.folded.Folded.{Folded}
use Rattle.roc_fold.specs.Fold.{Core, serving, coordinating, first_core, GivenByEvent, GivesMessage, GivesTick, GivesSubmission, Gives, Folding}
use Rattle.roc_fold.specs.Fold.{nothing, behind_event, behind_due, TakesLine, takes_event, takes_due, Refuses, FoldsTo, begins, goes_on}
use Rattle.roc_fold.specs.Folded.{AreWaiting, IsFoldOfLines, IsMismatchOf, at_line, at_end, IsFoundOf}

module _ (plan : Plan) (header : Header) where
  -- ---- what comes of an event is one

  one_message : (core : Core) (msg : Msg) (g h : GivenByEvent) → GivesMessage plan header core msg g → GivesMessage plan header core msg h → g ≡ h
  one_message (serving s v) msg g h a b =
      let step : a.step ≡ b.step = one_step plan s msg a.step b.step a.handles b.handles in
      let reads : a.reads ≡ b.reads = one_read_step plan v msg b.step a.reads b.reads (subst (λ (r : ServerStep). AnswersReads plan v msg r a.reads) step a.answers) b.answers in
      a.is
      ∙ (λ i. record { core = serving (step i).state (reads i).viewing; due = outs_logged header ((step i).sends ++ (reads i).sends); decided = (step i).decided; ran = accesses_of (step i).ran })
      ∙ sym b.is
  one_message (coordinating c) msg g h a b = a ∙ sym b

  one_tick : (core : Core) (g h : GivenByEvent) → GivesTick plan header core g → GivesTick plan header core h → g ≡ h
  one_tick (serving s v) g h a b = a ∙ sym b
  one_tick (coordinating c) g h a b = a ∙ sym b

  one_submission : (core : Core) (proc : ℕ) (args : List ℤ) (g h : GivenByEvent) → GivesSubmission plan header core proc args g → GivesSubmission plan header core proc args h → g ≡ h
  one_submission (serving s v) proc args g h a b = elim a [ ]
  one_submission (coordinating c) proc args g h (i, x, a) (j, y, b) = a ∙ sym b

  pub one_event : (core : Core) (line : LogLine) (g h : GivenByEvent) → Gives plan header core line g → Gives plan header core line h → g ≡ h
  one_event core (In bytes) g h (m, x, a) (n, y, b) =
      let both : Some m ≡ Some n = sym x ∙ y in
      let same : m ≡ n = cc in
      one_message core n g h (subst (λ (k : Msg). GivesMessage plan header core k g) same a) b
  one_event core Tick g h a b = one_tick core g h a b
  one_event core (Submit proc args) g h a b = one_submission core proc args g h a b
  one_event core (Out bytes) g h a b = elim a [ ]
  one_event core (Answer id reply) g h a b = elim a [ ]

  -- ---- and so is what comes of a line

  one_line : (f : Folding) (line : LogLine) (h k : Folding) → TakesLine plan header f line h → TakesLine plan header f line k → h ≡ k
  one_line f line _ _ (takes_event g d a) (takes_event e c b) = ap (behind_event f) (one_event f.core line g e a b)
  one_line f line _ _ (takes_event g d a) (takes_due rest e) = absurd (let none : [] ≡ line ∷ rest = sym d ∙ e in cc)
  one_line f line _ _ (takes_due rest d) (takes_event g e b) = absurd (let none : [] ≡ line ∷ rest = sym e ∙ d in cc)
  one_line f line _ _ (takes_due rest d) (takes_due others e) =
      let both : line ∷ rest ≡ line ∷ others = sym d ∙ e in
      let same : rest ≡ others = cc in
      ap (behind_due f) same

  -- ---- lines read from the first on

  abbrev Leads : Folding → List LogLine → Folding → Type 0
  Leads f [] h = f ≡ h
  Leads f (line ∷ lines) h = (k : Folding) × TakesLine plan header f line k × Leads k lines h

  leads_more : (lines : List LogLine) (f k : Folding) (line : LogLine) (h : Folding) → Leads f lines k → TakesLine plan header k line h → Leads f (lines ++ line ∷ []) h
  leads_more [] f k line h e t = (h, subst (λ (x : Folding). TakesLine plan header x line h) (sym e) t, refl)
  leads_more (x ∷ lines) f k line h (m, u, r) t = (m, u, leads_more lines m k line h r t)

  leads_to : (first : Core) (lines : List LogLine) (f : Folding) → FoldsTo plan header first lines f → Leads (nothing first) lines f
  leads_to first _ _ begins = refl
  leads_to first _ _ (goes_on {lines} {f} line h folds t) = leads_more lines (nothing first) f line h (leads_to first lines f folds) t

  one_end : (lines : List LogLine) (f h k : Folding) → Leads f lines h → Leads f lines k → h ≡ k
  one_end [] f h k a b = sym a ∙ b
  one_end (x ∷ lines) f h k (m, t, a) (n, u, b) = one_end lines n h k (subst (λ (y : Folding). Leads y lines h) (one_line f x m n t u) a) b

  -- no fold leads past a line that cannot stand next
  none_past : (front : List LogLine) (line : LogLine) (behind : List LogLine) (f g h : Folding) → Leads f front g → Refuses plan header g line → ¬ Leads f (front ++ line ∷ behind) h
  none_past [] line behind f g h e n (k, t, r) = n k (subst (λ (y : Folding). TakesLine plan header y line k) e t)
  none_past (x ∷ front) line behind f g h (m, t, a) n (k, u, b) = none_past front line behind k g h (subst (λ (y : Folding). Leads y front g) (one_line f x m k t u) a) n b

  one_place : (front others behind beyond : List LogLine) (line other : LogLine) (f g h : Folding) → Leads f front g → Refuses plan header g line → Leads f others h → Refuses plan header h other
      → front ++ line ∷ behind ≡ others ++ other ∷ beyond → length front ≡ length others
  one_place [] [] behind beyond line other f g h a n b m is = refl
  one_place [] (y ∷ others) behind beyond line other f g h a n (k, u, b) m is =
      let same : y ≡ line = cc in
      absurd (n k (subst (λ (x : LogLine). TakesLine plan header g x k) same (subst (λ (z : Folding). TakesLine plan header z y k) a u)))
  one_place (x ∷ front) [] behind beyond line other f g h (k, t, a) n b m is =
      let same : x ≡ other = cc in
      absurd (m k (subst (λ (y : LogLine). TakesLine plan header h y k) same (subst (λ (z : Folding). TakesLine plan header z x k) b t)))
  one_place (x ∷ front) (y ∷ others) behind beyond line other f g h (j, t, a) n (k, u, b) m is =
      let same : x ≡ y = cc in
      let rest : front ++ line ∷ behind ≡ others ++ other ∷ beyond = cc in
      let core = one_line f y j k (subst (λ (z : LogLine). TakesLine plan header f z j) same t) u in
      ap suc (one_place front others behind beyond line other k g h (subst (λ (z : Folding). Leads z front g) core a) n b m rest)

  -- ---- what is decided on a server is some list

  abbrev HasDecided : Core → Type 0
  HasDecided (serving s v) = (ids : List TxnId) × AreDecided s.lists.links ids
  HasDecided (coordinating c) = Unit {0}

  none_decided_at_first : AreDecided [] []
  none_decided_at_first = record { rising = none_rise; sound = λ u h. absurd (omega arith); complete = λ u d. absurd (false≢true d.own) }

  first_decided : (node : Node) → HasDecided (first_core plan node)
  first_decided (Server shard) = ([], none_decided_at_first)
  first_decided (Coord number) = tt

  message_decided : (core : Core) (msg : Msg) (g : GivenByEvent) → GivesMessage plan header core msg g → HasDecided g.core
  message_decided (serving s v) msg g a = subst (λ (g : GivenByEvent). HasDecided g.core) (sym a.is) (a.answers.decided, a.answers.found)
  message_decided (coordinating c) msg g a = subst (λ (g : GivenByEvent). HasDecided g.core) (sym a) tt

  event_decided : (core : Core) (line : LogLine) (g : GivenByEvent) → HasDecided core → Gives plan header core line g → HasDecided g.core
  event_decided core (In bytes) g k (m, x, a) = message_decided core m g a
  event_decided (serving s v) Tick g k a = subst (λ (g : GivenByEvent). HasDecided g.core) (sym a) k
  event_decided (coordinating c) Tick g k a = subst (λ (g : GivenByEvent). HasDecided g.core) (sym a) tt
  event_decided (serving s v) (Submit proc args) g k a = elim a [ ]
  event_decided (coordinating c) (Submit proc args) g k (i, x, a) = subst (λ (g : GivenByEvent). HasDecided g.core) (sym a) tt
  event_decided core (Out bytes) g k a = elim a [ ]
  event_decided core (Answer id reply) g k a = elim a [ ]

  line_decided : (f : Folding) (line : LogLine) (h : Folding) → HasDecided f.core → TakesLine plan header f line h → HasDecided h.core
  line_decided f line _ k (takes_event g d a) = event_decided f.core line g k a
  line_decided f line _ k (takes_due rest d) = k

  pub folds_decided : (first : Core) (lines : List LogLine) (f : Folding) → HasDecided first → FoldsTo plan header first lines f → HasDecided f.core
  folds_decided first _ _ k begins = k
  folds_decided first _ _ k (goes_on {lines} {f} line h folds t) = line_decided f line h (folds_decided first lines f k folds) t

  one_waits : (core : Core) (waits others : List Ran) → HasDecided core → AreWaiting plan core waits → AreWaiting plan core others → waits ≡ others
  one_waits (serving s v) waits others k a b = a k.0 k.1 ∙ sym (b k.0 k.1)
  one_waits (coordinating c) waits others k a b = a ∙ sym b

  -- ---- what is found

  module _ (node : Node) (lines : List LogLine) where
    abbrev first : Core
    first = first_core plan node

    one_fold : (f h : Folding) → FoldsTo plan header first lines f → FoldsTo plan header first lines h → f ≡ h
    one_fold f h a b = one_end lines (nothing first) f h (leads_to first lines f a) (leads_to first lines h b)

    one_folded : (a b : Folded) → IsFoldOfLines plan header node lines a → IsFoldOfLines plan header node lines b → a ≡ b
    one_folded a b x y =
        let same = one_fold x.fold y.fold x.folds y.folds in
        let told = x.told ∙ sym y.told in
        let decided = x.decided ∙ ap (λ (f : Folding). f.decided) same ∙ sym y.decided in
        let ran = x.ran ∙ ap (λ (f : Folding). f.ran) same ∙ sym y.ran in
        let waits = one_waits y.fold.core a.waits b.waits (folds_decided first lines y.fold (first_decided node) y.folds)
        (subst (λ (f : Folding). AreWaiting plan f.core a.waits) same x.waits) y.waits in
        λ i. record { told = told i; decided = decided i; ran = ran i; waits = waits i }

    -- no line is refused in what folds, and none is due behind it
    refused_in_fold : (front behind : List LogLine) (line : LogLine) (f h : Folding) → FoldsTo plan header first front f → lines ≡ front ++ line ∷ behind → Refuses plan header f line
        → ¬ FoldsTo plan header first lines h
    refused_in_fold front behind line f h folds is refuses all =
        none_past front line behind (nothing first) f h (leads_to first front f folds) refuses (subst (λ (ls : List LogLine). Leads (nothing first) ls h) is (leads_to first lines h all))

    not_both : (a : Folded) (n : ℕ) → IsFoldOfLines plan header node lines a → ¬ IsMismatchOf plan header node lines n
    not_both a _ x (at_line front behind line f folds is refuses) = refused_in_fold front behind line f x.fold folds is refuses x.folds
    not_both a _ x (at_end f folds due) = due (ap (λ (f : Folding). f.due) (one_fold f x.fold folds x.folds) ∙ x.ended)

    one_mismatch : (m n : ℕ) → IsMismatchOf plan header node lines m → IsMismatchOf plan header node lines n → m ≡ n
    one_mismatch _ _ (at_line front behind line f folds is refuses) (at_line others beyond other h folds2 is2 refuses2) =
        ap (λ (n : ℕ). 2 + n)
        (one_place front others behind beyond line other (nothing first) f h (leads_to first front f folds) refuses (leads_to first others h folds2) refuses2 (sym is ∙ is2))
    one_mismatch _ _ (at_line front behind line f folds is refuses) (at_end h all due) = absurd (refused_in_fold front behind line f h folds is refuses all)
    one_mismatch _ _ (at_end h all due) (at_line front behind line f folds is refuses) = absurd (refused_in_fold front behind line f h folds is refuses all)
    one_mismatch _ _ (at_end f folds due) (at_end h all due2) = refl

    pub one_found : (a b : Result Folded ℕ) → IsFoundOf plan header node lines a → IsFoundOf plan header node lines b → a ≡ b
    one_found (Ok a) (Ok b) x y = ap (λ (f : Folded). Ok f) (one_folded a b x y)
    one_found (Ok a) (Err n) x y = absurd (not_both a n x y)
    one_found (Err m) (Ok b) x y = absurd (not_both b m y x)
    one_found (Err m) (Err n) x y = ap (λ (n : ℕ). Err n) (one_mismatch m n x y)
