-- Why a command is not done whose workload is none, or that which it is to grow to
use Rattle.std.specs.Prelude.{◌≢◌}
use Rattle.std.proofs.Common.{◌≡◌, inl, inr, ℕ, List, Option, Some, None, Ok, refl, sym, ap, subst, ◌∙◌}
use Rattle.std.proofs.lemmas.Option.{none-some, same_Some}
use Rattle.roc_base.specs.declared.node.Shard.{Shard}
use Rattle.roc_program.specs.Program.{Workload}
use Rattle.roc_plan.specs.Groups.{Plan}
use Rattle.roc_epoch.specs.declared.next.Next.{Next}
use Rattle.roc_epoch.specs.Grown.{IsGrownFrom}
use Rattle.roc_report.specs.Checked.{CheckedLine}
use Rattle.roc_check.specs.Checked.{IsTextOf, IsPlanOfText}
use Rattle.roc_cli_words.specs.Commands.{check, print, stop, local, gen}
use Rattle.roc_cli_nodes.specs.Call.{WholeCall}
use Rattle.roc_cli_nodes.specs.NodeEnds.{NodesEnd}
use Rattle.roc_cli_nodes.specs.Nodes.{AreNodesEnded, IsChildBlamed}
use Rattle.roc_cli_nodes.specs.Words.{node_files, NamesNodeFiles}
use Rattle.roc_cli_nodes.proofs.Naming.{no_name}
use Rattle.roc_cli_nodes.proofs.Named.{plain_serve, grown_serve, plain_submit, grown_submit}
use Rattle.roc_cli_files.specs.Held.{NodeFiles, HoldsPlan, HoldsRejected}
use Rattle.roc_cli_files.specs.NodeNames.{tag_of_bytes, HoldsNext, HoldsGrowth}
use Rattle.roc_cli.specs.Done.{ComesToNext, ComesToLater}
use Rattle.roc_cli.specs.Stopped.{CutsOutput, in_report, in_text, in_check, in_rejection, in_generated, in_verdict}
use Rattle.roc_cli.specs.Refused.{AreRefusedWords, by_clap, no_value, no_shard}
use Rattle.roc_cli.specs.Refused.{IsRefusedNext, long_next, no_next_text, next_out_of_scope, no_growth, same_tag, long_later, bad_later}
use Rattle.roc_cli.specs.Fit.{TellsNext, NodesAsked, at_replay, at_nodes}
use Rattle.roc_cli.specs.Unfit as unfit
use Rattle.roc_cli.specs.Unfit.{TellsNoPlan, LacksPlan, LacksWorkload}
use Rattle.roc_cli.specs.Inner.Ends.{Ends}
use Rattle.roc_cli.specs.Inner.Faultless.{IsUndone, IsUnplanned, IsUnwritten}
use Rattle.roc_cli.specs.Inner.Texts.{TextLaws}
use Rattle.roc_cli.proofs.Commands.{audit_alone, audited_words, refuted_words}
use Rattle.roc_cli.proofs.Fitting.{told, not_long, not_faulty, in_scope, same_plan, not_rejected, no_such_value}
use Rattle.roc_cli.proofs.FittingReplays.{same_next}
use Rattle.roc_cli.proofs.FittingNodes.{their_files, their_plan, no_replay, first_next, comes_named, later_follows, asked_right, asked_acceptable}
use Rattle.roc_cli.proofs.Unfitting.{unplanned_held, first_unplanned, without_words, without_scope}
use Rattle.roc_cli.proofs.UnfittingReplays.{textless_next, ungrown_next, unplanned_next}

module _ (laws : TextLaws) (call : WholeCall) (asked : NodesAsked call.run) (name : List ℕ) (coords : ℕ) (is : asked.files.next ≡ Some (name, coords)) where
  abbrev content : List ℕ → Option (List ℕ)
  content = call.run.files.content

  -- what nodes may grow to: it is a grown one, with another tag
  abbrev MayGrow : Next → Type 0
  MayGrow next = HoldsNext content name asked.plan.program coords next × (next.tag ≢ tag_of_bytes asked.bytes)

  growth_held : (next : Option Next) → HoldsGrowth content asked.files.next asked.plan.program (tag_of_bytes asked.bytes) next → (n : Next) × MayGrow n
  growth_held next h = go next (subst (λ g. HoldsGrowth content g asked.plan.program (tag_of_bytes asked.bytes) next) is h)
    where
      go : (m : Option Next) → HoldsGrowth content (Some (name, coords)) asked.plan.program (tag_of_bytes asked.bytes) m → (n : Next) × MayGrow n
      go None h = absurd h
      go (Some n) h = (n, h)

  -- its file is the one that the words name
  its_name : (other : List ℕ) (many : ℕ) → asked.files.next ≡ Some (other, many) → (other ≡ name) × (many ≡ coords)
  its_name other many e =
      let same = same_Some (other, many) (name, coords) (sym e ∙ is) in (ap (λ (p : List ℕ × ℕ). p.0) same, ap (λ (p : List ℕ × ℕ). p.1) same)

  -- ---- where there is none

  module _ (none : (next : Next) → MayGrow next → ⊥) where
    -- files for a command that grows hold one
    grown_held : (files : NodeFiles) (plan : Plan) (bytes : List ℕ) (other : List ℕ) (many : ℕ) (next : Next) → NamesNodeFiles call.run.words files → (held : HoldsPlan content files.workload plan)
        → held.bytes ≡ bytes → files.next ≡ Some (other, many) → HoldsNext content other plan.program many next → next.tag ≢ tag_of_bytes bytes → ⊥
    grown_held files plan bytes other many next named held of names follows apart =
        let same = their_files laws call.run asked files named in
        let e = its_name other many (sym (ap (λ (f : NodeFiles). f.next) same) ∙ names) in
        let b : asked.bytes ≡ held.bytes = told content asked.files.workload files.workload asked.bytes held.bytes asked.held (ap (λ (f : NodeFiles). f.workload) same) held.held in
        none next (
          subst (λ (n : List ℕ). HoldsNext content n asked.plan.program coords next) e.0
              (subst (λ (c : ℕ). HoldsNext content other asked.plan.program c next) e.1
              (subst (λ (p : Plan). HoldsNext content other p.program many next) (their_plan laws call.run asked files plan named held) follows)),
          subst (λ (x : List ℕ). next.tag ≢ tag_of_bytes x) (sym (b ∙ of)) apart,
        )

    -- and others are not those that the words ask for
    no_growth_named : (files : NodeFiles) → NamesNodeFiles call.run.words files → files.next ≡ None → ⊥
    no_growth_named files named e = none-some (name, coords) (sym e ∙ (ap (λ (f : NodeFiles). f.next) (their_files laws call.run asked files named) ∙ is))

    unrun : (end : NodesEnd) → AreNodesEnded call end → ⊥
    unrun end (inl (inl (own, h, e))) = no_growth_named _ (plain_serve call own h, h.given, refl) refl
    unrun end (inl (inr (own, e, h))) =
        grown_held _ h.plan h.bytes h.grown h.coords h.next (grown_serve call own h, h.given, refl) (record { bytes = h.bytes; held = h.held.of_workload; is = h.held.planned }) refl refl h.follows h.apart
    unrun end (inr (inl (inl (own, h, e)))) = no_growth_named _ (plain_submit call own h, h.given, refl) refl
    unrun end (inr (inl (inr (own, e, h)))) =
        grown_held _ h.plan h.bytes h.grown 16 h.next (grown_submit call own h, h.given, refl) (record { bytes = h.bytes; held = h.held.of_workload; is = h.held.planned }) refl refl h.follows h.apart
    unrun end (inr (inr (inl (own, e, h)))) = no_growth_named _ (stop h.workload h.cluster, h.given, refl) refl
    unrun end (inr (inr (inr (own, e, h)))) = no_growth_named _ (local h.workload h.cluster h.listed h.turns, h.given, refl) refl

    unspawned : (shard : Shard) (status : Option ℕ) → IsChildBlamed call shard status → ⊥
    unspawned shard status h = no_growth_named _ (local h.ended.workload h.ended.cluster h.ended.listed h.ended.turns, h.ended.given, refl) refl

    taken : (line : List ℕ) → AreRefusedWords call.run line → ⊥
    taken _ (by_clap text not) = not asked.given.1.taken
    taken _ (no_value value bad) = no_such_value call.run.words asked.given.0 value asked.given.1 bad
    taken _ (no_shard files names lacks) =
        let same = their_files laws call.run asked files names in
        let grown = growth_held lacks.next
        (subst (λ (t : List ℕ). HoldsGrowth content asked.files.next asked.plan.program (tag_of_bytes t) lacks.next)
        (sym (told content asked.files.workload files.workload asked.bytes lacks.of_workload.bytes asked.held (ap (λ (f : NodeFiles). f.workload) same) lacks.of_workload.held))
        (subst (λ (p : Plan). HoldsGrowth content asked.files.next p.program (tag_of_bytes lacks.of_workload.bytes) lacks.next) (their_plan laws call.run asked files lacks.plan names lacks.of_workload)
        (subst (λ (g : Option (List ℕ × ℕ)). HoldsGrowth content g lacks.plan.program (tag_of_bytes lacks.of_workload.bytes) lacks.next) (ap (λ (f : NodeFiles). f.next) same) lacks.of_growth.of_next))) in
        none grown.0 grown.1

    undone : Ends call.run (Ok tt) → ⊥
    undone (inl done) = no_replay laws call.run asked done.asked.under.workload done.asked.under.schedule done.asked.under.growth done.asked.under.given
    undone (inr (inl done)) = no_name node_files call.run.words (print done.workload) done.given refl asked.files asked.given
    undone (inr (inr (inl done))) = no_name node_files call.run.words (check done.workload) done.given refl asked.files asked.given
    undone (inr (inr (inr (inl done)))) = no_name node_files call.run.words (gen done.seed done.shards done.txns done.part) done.given refl asked.files asked.given
    undone (inr (inr (inr (inr done)))) = audit_alone call.run.words (audited_words call.run done) (asked.files, asked.given)

    nodes_undone : IsUndone call
    nodes_undone = record {
      taken = taken;
      unrun = unrun;
      no_child = unspawned;
      undone = undone;
      unrefuted = λ h. audit_alone call.run.words (refuted_words call.run h) (asked.files, asked.given);
    }

    -- where it is not rejected either, nothing was due to be written
    module _ (unrejected : (other : List ℕ) (plan : Plan) (program : Workload) (said : CheckedLine) → ComesToNext call.run other plan → HoldsRejected content other program said → ⊥) where
      uncut : CutsOutput call.run → ⊥
      uncut (in_report plan next bytes of h) = no_replay laws call.run asked of.under.workload of.under.schedule of.under.growth of.under.given
      uncut (in_text workload tree given held front) = no_name node_files call.run.words (print workload) given refl asked.files asked.given
      uncut (in_check workload plan given held front) = no_name node_files call.run.words (check workload) given refl asked.files asked.given
      uncut (in_rejection workload program said comes held front) = asked_acceptable laws call.run asked unrejected workload program said comes held
      uncut (in_generated seed shards txns part text given generated front) = no_name node_files call.run.words (gen seed shards txns part) given refl asked.files asked.given
      uncut (in_verdict plan logs of verdict right front) = audit_alone call.run.words (of.asked.workload, _, of.asked.given) (asked.files, asked.given)

      nodes_unwritten : IsUnwritten call
      nodes_unwritten = record {
        is = nodes_undone;
        acceptable = λ h. asked_acceptable laws call.run asked unrejected h.workload h.program h.said h.named h.held;
        uncut = uncut;
      }

  same_coming : (other : List ℕ) (plan : Plan) → ComesToNext call.run other plan → other ≡ name
  same_coming other plan comes = let found = comes_named laws call.run asked other plan comes in (its_name other found.0 found.1).0

  -- ---- none in scope

  module _ (bytes : List ℕ) (held : content name ≡ Some bytes) (none : (program : Workload) → IsTextOf bytes program → ⊥) where
    no_text_held : (plan : Plan) → HoldsPlan content name plan → ⊥
    no_text_held plan h = none plan.program (subst (λ b. IsTextOf b plan.program) (sym (told content name name bytes h.bytes held refl h.held)) h.is.text)

    textless_nodes : IsUnwritten call
    textless_nodes =
        nodes_unwritten (λ next h. no_text_held next.plan h.0.held.0)
        (λ other plan program said comes h.
        none program (subst (λ b. IsTextOf b program) (sym (told content name other bytes h.bytes held (same_coming other plan comes) h.held)) h.is.text))

  -- ---- one that has a plan, but is no grown one, or has the same tag

  module _ (bytes : List ℕ) (held : content name ≡ Some bytes) (new : Plan) (planned : IsPlanOfText bytes new) where
    new_acceptable : (other : List ℕ) (plan : Plan) (program : Workload) (said : CheckedLine) → ComesToNext call.run other plan → HoldsRejected content other program said → ⊥
    new_acceptable other plan program said comes h = not_rejected laws content name bytes held new planned other program said (same_coming other plan comes) h

    ungrown_nodes : (IsGrownFrom asked.plan.program new.program → ⊥) → IsUnwritten call
    ungrown_nodes none =
        nodes_unwritten
        (λ next h. none (subst (λ (p : Plan). IsGrownFrom asked.plan.program p.program) (same_plan laws content name bytes held new planned name next.plan refl h.0.held.0) h.0.grown))
        new_acceptable

  same_tagged_nodes : (next : Next) → TellsNext content name asked.plan coords next → next.tag ≡ tag_of_bytes asked.bytes → IsUnwritten call
  same_tagged_nodes next t same =
      nodes_unwritten (λ m h. h.1 (ap (λ (n : Next). n.tag) (same_next laws content asked.plan name coords next m t h.0) ∙ same)) (new_acceptable t.bytes t.held next.plan t.planned)

  -- ---- no acceptable one

  module _ (lacks : TellsNoPlan content name) where
    no_plan_held : (other : List ℕ) (plan : Plan) → other ≡ name → HoldsPlan content other plan → ⊥
    no_plan_held other plan same h = unplanned_held laws content name other plan lacks same h

    none_may_grow : (next : Next) → MayGrow next → ⊥
    none_may_grow next h = no_plan_held name next.plan refl h.0.held.0

    nothing_later : (other : List ℕ) (plan : Plan) (next : Option Next) → ComesToLater call.run other plan next → ⊥
    nothing_later other plan next comes = let grown = growth_held next (later_follows laws call.run asked other plan next comes) in none_may_grow grown.0 grown.1

    right : (line : List ℕ) → IsRefusedNext call.run line → ⊥
    right _ (long_next other plan comes more) = not_long laws content name lacks.bytes lacks.held lacks.text.tree lacks.text.text other (same_coming other plan comes) more
    right _ (no_next_text other plan line what comes not) =
        not_faulty laws content name lacks.bytes lacks.held lacks.text.tree lacks.text.text other line what (same_coming other plan comes) not
    right _ (next_out_of_scope other plan fault comes not) = in_scope laws content name lacks.bytes lacks.held lacks.program lacks.text other fault (same_coming other plan comes) not
    right _ (no_growth other plan fault comes not) = no_plan_held other not.plan (same_coming other plan comes) not.held
    right _ (same_tag files plan tag addrs requests other many next named held names follows same) =
        no_plan_held other next.plan (its_name other many (first_next laws call.run asked files plan tag addrs requests named held other many names)).0 follows.held.0
    right _ (long_later other plan next comes more) = nothing_later other plan next comes
    right _ (bad_later other plan next number what comes not) = nothing_later other plan next comes

    unplanned_nodes : IsUnplanned call
    unplanned_nodes = record { is = nodes_undone none_may_grow; right = asked_right laws call.run asked right }

pub unplanned : (laws : TextLaws) (call : WholeCall) → LacksPlan call.run → IsUnplanned call
unplanned laws call (unfit.no_plan workload named lacks) = first_unplanned laws call workload named lacks
unplanned laws call (unfit.no_next_plan name _ (at_replay asked coords few is) lacks) = unplanned_next laws call asked name coords few is lacks
unplanned laws call (unfit.no_next_plan name _ (at_nodes asked coords is) lacks) = unplanned_nodes laws call asked name coords is lacks

pub unwritten : (laws : TextLaws) (call : WholeCall) → LacksWorkload call.run → IsUnwritten call
unwritten laws call (unfit.no_text workload bytes named held none) = without_words call workload bytes held named none
unwritten laws call (unfit.no_program workload bytes named held none) = without_scope call workload bytes held named none
unwritten laws call (unfit.no_next name bytes _ (at_replay asked coords few is) held none) = textless_next laws call asked name coords few is bytes held none
unwritten laws call (unfit.no_next name bytes _ (at_nodes asked coords is) held none) = textless_nodes laws call asked name coords is bytes held none
unwritten laws call (unfit.no_growth name bytes _ new (at_replay asked coords few is) held planned none) = ungrown_next laws call asked name coords few is bytes held new planned none
unwritten laws call (unfit.no_growth name bytes _ new (at_nodes asked coords is) held planned none) = ungrown_nodes laws call asked name coords is bytes held new planned none
unwritten laws call (unfit.no_other_tag asked name coords next is t same) = same_tagged_nodes laws call asked name coords is next t same
