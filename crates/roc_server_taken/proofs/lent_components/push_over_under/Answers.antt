use Rattle.std.proofs.Common.{◌≡◌, ◌<◌, ◌+◌, ◌++◌, ◌∙◌, ℕ, cond, List, [], Some, length, map, take, sym, ap, append_assoc, arith}
use Rattle.std.proofs.lemmas.List.{length-take}
use Rattle.std.specs.List.{slice_get}
use Rattle.roc_base.specs.declared.id.TxnId.{TxnId}
use Rattle.roc_step.specs.Forgets.{is_over, over}
use Rattle.roc_server_taken.specs.Inner.Standing.{part_at}
use Rattle.roc_server_taken.specs.declared.components.Component.{Component}
use Rattle.roc_server_taken.proofs.OverAdded.{over_next}
use Rattle.roc_server_taken.proofs.lent_components.push_over_under.Goals as goal

module _ (below : List ℕ) (cs : List Component) (k : ℕ) (m first ids new : List TxnId) (within : k < length cs) (is : (c : Component) → slice_get cs k ≡ Some c → m ≡ c.members) where
  abbrev upto : ℕ → List TxnId
  upto n = over below (map (λ (d : Component). d.members) (take n cs))

  abbrev added : List TxnId
  added = cond (is_over below m) m []

  -- the members of one more were added where they are over
  one_more : ids ≡ first ++ upto k → new ≡ ids ++ added → new ≡ first ++ upto (k + 1)
  one_more was now =
      let next : upto (k + 1) ≡ upto k ++ added = over_next below cs k m within is in
      now ∙ ap (λ l. l ++ added) was ∙ append_assoc first (upto k) added ∙ ap (λ l. first ++ l) (sym next)

pub look-members-requires-clause-at : goal.look-members-requires-clause-at
look-members-requires-clause-at g c = omega (arith, c.count_ended-at-end.ensures.within)

pub loop-at-preserved : goal.loop-at-preserved
loop-at-preserved g c =
    let below = c.args.marks.now in
    let cs = part_at c.args.components.now.standing.now.parts c.args.coord in
    let within : c.loop-at.at < length cs = omega (arith, c.count_ended-at-end.ensures.within) in
    record {
      added =
          one_more below cs c.loop-at.at c.look-members.result.now c.args.ids.now.items c.loop-at.ids.items c.push_if_over.new.ids.items within c.look-members.ensures.members
          c.loop-at.invariant.added c.in_ok-push_if_over.ensures;
      steps = omega (arith, c.look-members.ensures.steps, c.loop-at.invariant.steps);
    }

pub returns-in_err-push_if_over-clause-steps : goal.returns-in_err-push_if_over-clause-steps
returns-in_err-push_if_over-clause-steps g c =
    let cs = part_at c.args.components.now.standing.now.parts c.args.coord in
    omega
    (arith, c.look-members.ensures.steps, c.loop-at.invariant.steps, length-take c.count_ended-at-end.result cs, ap length c.count_ended-at-end.ensures.first, c.count_ended-at-end.ensures.within)

pub returns-clause-added : goal.returns-clause-added
returns-clause-added g c =
    let upto : List Component → List TxnId = λ cs. c.args.ids.now.items ++ over c.args.marks.now (map (λ (d : Component). d.members) cs) in
    let all : c.loop-at.at ≡ c.count_ended-at-end.result = omega arith in
    c.loop-at.invariant.added ∙ ap (λ n. upto (take n (part_at c.args.components.now.standing.now.parts c.args.coord))) all ∙ ap upto c.count_ended-at-end.ensures.first

pub returns-clause-steps : goal.returns-clause-steps
returns-clause-steps g c =
    let cs = part_at c.args.components.now.standing.now.parts c.args.coord in
    omega (arith, c.loop-at.invariant.steps, length-take c.count_ended-at-end.result cs, ap length c.count_ended-at-end.ensures.first, c.count_ended-at-end.ensures.within)
