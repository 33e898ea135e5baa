use Rattle.std.proofs.Common.{◌≡◌, ◌∙◌, ◌+◌, ◌-◌, ◌<◌, Bool, true, cond, length, map, drop, get_or, sym, ap, arith}
use Rattle.std.specs.BTreeSet.{contains}
use Rattle.std.specs.Ordering.{is_eq}
use Rattle.roc_base.specs.declared.id.TxnId.{TxnId}
use Rattle.roc_base.specs.TxnId.{txn_cmp}
use Rattle.roc_law_world.specs.Witness.{last_looks}
use Rattle.roc_world.specs.Inner.Looks.{looked}
use Rattle.roc_world.proofs.Woven.{no_look, again_in, again_more, look_more, look_apart, look_again, turned_round}
use Rattle.roc_world.proofs.witness.last_looks.Goals.{then-contains+then-not-contains+in_ok-push, else-contains, else-contains-via-then-contains+else-not-contains, else-contains-via-else-contains}
use Rattle.roc_world.proofs.witness.last_looks.Goals as goal

pub loop-at-preserved : goal.loop-at-preserved
loop-at-preserved c =
    let looks = c.args.looks.now in
    let at = c.loop-at.at - 1 in
    let some = c.loop-at-test.true in
    let here = c.loop-at.auto.at in
    let within : at < length looks = omega (arith, some, here) in
    let next : c.loop-at.at ≡ at + 1 = omega (arith, some) in
    let among : TxnId → Bool = λ u. contains txn_cmp c.args.among.now u in
    let found = c.loop-at.invariant.last ∙ ap (λ n. last_looks among (map looked (drop n looks))) next in
    let look = get_or looks at no_look in
    -- what the set of those behind says of the view
    let behind : again_in (drop (at + 1) looks) look.id ≡ contains txn_cmp c.loop-at.later look.id = sym (c.loop-at.invariant.later look.id ∙ ap (λ n. again_in (drop n looks) look.id) next) in
    record {
      later = λ u. c.in_ok-insert.ensures.updates.0 u ∙ (ap (λ b. cond (is_eq (txn_cmp look.id u)) true b) (c.loop-at.invariant.later u ∙ ap (λ n. again_in (drop n looks) u) next) ∙ again_more looks at within u);
      last = elim c.if-contains.branch [
        | then-contains+then-not-contains+in_ok-push w ↦
            look_more looks at within among c.loop-at.last.items found c.if-contains.last.items (ap (λ v. v.items) w.last-is ∙ w.in_ok-push.ensures.items) (sym c.contains.ensures ∙ w.if-contains.true)
            (behind ∙ (sym w.contains-then-contains.ensures ∙ w.if-not-contains.true))
        | else-contains w ↦ elim w.else-contains.branch [
          | else-contains-via-then-contains+else-not-contains v ↦
              look_again looks at within among c.loop-at.last.items found c.if-contains.last.items (ap (λ v. v.items) w.last-is) (behind ∙ (sym v.contains-then-contains.ensures ∙ v.if-not-contains.false))
          | else-contains-via-else-contains v ↦ look_apart looks at within among c.loop-at.last.items found c.if-contains.last.items (ap (λ v. v.items) w.last-is) (sym c.contains.ensures ∙ v.if-contains.false)
        ]
      ];
    }

pub returns : goal.returns
returns c = turned_round (λ u. contains txn_cmp c.args.among.now u) c.args.looks.now c.loop-at.last.items c.reverse.new.self.items c.loop-at.at c.loop-at-test.false c.reverse.ensures.items c.loop-at.invariant.last
