use Rattle.std.proofs.Common.{ℕ, Bool, ◌∙◌, ◌+◌, ◌++◌, ◌∷◌, [], List, length, map, filter, sym, ap, arith}
use Rattle.std.proofs.lemmas.List.{take_all}
use Rattle.std.proofs.lemmas.List.Filters.{length-filter_more}
use Rattle.roc_sequence.proofs.Holds.{all_at}
use Rattle.roc_base.specs.Edge.{Dependency}
use Rattle.roc_server_index.specs.declared.group_ref.GroupRef.{GroupRef}
use Rattle.roc_server_groups.specs.Inner.Looks.{IsGroupRefWithin, is_looked_at, is_met, edge_from}
use Rattle.roc_server_groups.proofs.Pairs.{count_within, passed_more, failed_more}
use Rattle.roc_server_groups.proofs.looks.push_met.Goals as goal
use Rattle.roc_server_groups.proofs.looks.push_met.Goals.{then-is_met+in_ok-push, else-is_met}

abbrev no_group_ref : GroupRef
no_group_ref = record { id = record { coord = 0; seq = 0 }; proc = 0; group = 0 }

pub returns-in_err-push-clause-steps : goal.returns-in_err-push-clause-steps
returns-in_err-push-clause-steps g c =
    let looked = is_looked_at c.args.plan.now c.args.starting.id c.args.starting.immediate in
    let group_refs = c.args.group_refs.now in
    let k = c.loop-group_ref.group_ref-index in
    let now = c.is_met.ensures.steps in
    let all = count_within looked group_refs (k + 1) in
    let more = length-filter_more looked group_refs k no_group_ref c.loop-group_ref-test.true in
    omega (arith, now, all, more, c.loop-group_ref.invariant.steps)

pub loop-group_ref-preserved : goal.loop-group_ref-preserved
loop-group_ref-preserved g c =
    let p = c.args.starting in
    let group_refs = c.args.group_refs.now in
    let k = c.loop-group_ref.group_ref-index in
    let looked = is_looked_at c.args.plan.now p.id p.immediate in
    let met = is_met c.args.plan.now c.args.groups.now.started.now.groups p.id p.immediate c.args.access.now in
    let within = c.loop-group_ref-test.true in
    let more = length-filter_more looked group_refs k no_group_ref within in
    record {
      met =
          elim c.if-is_met.branch [
            | then-is_met+in_ok-push w ↦
                passed_more (edge_from p.shard p.immediate) met group_refs k no_group_ref within c.args.met.now.items c.loop-group_ref.met.items c.loop-group_ref.invariant.met c.if-is_met.met.items (sym c.is_met.ensures.met ∙ w.if-is_met.true)
                (ap (λ v. v.items) w.met-is ∙ w.in_ok-push.ensures.items ∙ ap (λ (e : Dependency). c.loop-group_ref.met.items ++ e ∷ []) w.new.ensures)
            | else-is_met w ↦
                failed_more (edge_from p.shard p.immediate) met group_refs k no_group_ref within c.args.met.now.items c.loop-group_ref.met.items c.loop-group_ref.invariant.met c.if-is_met.met.items (sym c.is_met.ensures.met ∙ w.if-is_met.false)
                (ap (λ v. v.items) w.met-is)
          ];
      steps = omega (arith, c.is_met.ensures.steps, more, c.loop-group_ref.invariant.steps);
    }

pub is_met-requires : goal.is_met-requires
is_met-requires g c =
    all_at (IsGroupRefWithin c.args.plan.now c.args.groups.now.started.now.groups) c.args.group_refs.now c.loop-group_ref.group_ref-index no_group_ref c.requires c.loop-group_ref-test.true

pub returns-clause-met : goal.returns-clause-met
returns-clause-met g c =
    let p = c.args.starting in
    let met : GroupRef → Bool = is_met c.args.plan.now c.args.groups.now.started.now.groups p.id p.immediate c.args.access.now in
    let all : List GroupRef → List Dependency = λ ss. c.args.met.now.items ++ map (edge_from p.shard p.immediate) (filter met ss) in
    c.loop-group_ref.invariant.met ∙ ap all (take_all c.loop-group_ref.group_ref-index c.args.group_refs.now c.loop-group_ref-test.false)

pub returns-clause-steps : goal.returns-clause-steps
returns-clause-steps g c =
    let count : List GroupRef → ℕ = λ ss. length (filter (is_looked_at c.args.plan.now c.args.starting.id c.args.starting.immediate) ss) in
    let whole = ap count (take_all c.loop-group_ref.group_ref-index c.args.group_refs.now c.loop-group_ref-test.false) in
    omega (arith, c.loop-group_ref.invariant.steps, whole)
