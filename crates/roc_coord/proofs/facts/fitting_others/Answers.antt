use Rattle.std.proofs.Common.{◌≡◌, ℕ, ◌+◌, ◌-◌, ◌<◌, ◌≤◌, ◌∷◌, [], ◌++◌, Bool, true, not, List, length, drop, ap, subst, sym, ◌∙◌, append_assoc, arith}
use Rattle.std.proofs.lemmas.List.{append-nil}
use Rattle.std.specs.List.{filter}
use Rattle.roc_base.specs.TxnId.{is_txn}
use Rattle.roc_depgraph.specs.declared.known.KnownList.{KnownList}
use Rattle.roc_msg.specs.Facts.{front_of_facts}
use Rattle.roc_coord.proofs.Fitting.{AreBehind, stops, goes_on, ends, behind_more, next_before, behind_rest}
use Rattle.roc_coord.proofs.facts.fitting_others.Goals as goal

pub returns-then-len-left : goal.returns-then-len-left
returns-then-len-left c =
    let of_others : KnownList → Bool = λ fact. not (is_txn fact.of c.args.own) in
    let x = c.fact-item.result in
    let other : of_others x ≡ true = ap not (sym c.eq.ensures ∙ c.if-eq.false) in
    let add : List KnownList → List KnownList = λ ys. c.loop-fact.facts ++ ys in
    let long = subst (λ n. c.loop-fact.left < n) c.len.ensures c.if-len-left.true in
    sym (c.loop-fact.invariant.whole ∙ ap add (stops of_others c.args.gathered.now c.loop-fact.fact-index c.loop-fact.room c.loop-fact.left x c.loop-fact-test.true c.fact-item.is other long) ∙ append-nil c.loop-fact.facts)

pub loop-fact-preserved : goal.loop-fact-preserved
loop-fact-preserved c =
    let of_others : KnownList → Bool = λ fact. not (is_txn fact.of c.args.own) in
    let all = c.args.gathered.now in
    let i = c.loop-fact.fact-index in
    let facts = c.loop-fact.facts in
    let x = c.fact-item.result in
    let other : of_others x ≡ true = ap not (sym c.eq.ensures ∙ c.if-eq.false) in
    let room : 0 < c.loop-fact.room = let f = c.if-room-eq0.false in omega arith in
    let short : length x.edges ≤ c.loop-fact.left = subst (λ n. n ≤ c.loop-fact.left) c.len.ensures c.if-len-left.false in
    let rest : ℕ → List KnownList = λ n. front_of_facts (c.loop-fact.room - 1) (c.loop-fact.left - n) (filter of_others (drop (i + 1) all)) in
    let add : List KnownList → List KnownList = λ ys. facts ++ ys in
    let before_rest : List KnownList → List KnownList = λ ys. ys ++ rest c.len-in-loop-fact.result in
    let pushed : c.push.new.self ≡ facts ++ x ∷ [] = let with_last : KnownList → List KnownList = λ v. facts ++ v ∷ [] in c.in_ok-push.ensures.ok ∙ ap with_last c.in_ok-clone.ensures.cases in
    let more = goes_on of_others all i c.loop-fact.room c.loop-fact.left x c.loop-fact-test.true c.fact-item.is other room short in
    let next : List KnownList → List KnownList = λ ys. x ∷ ys in
    let same_left : rest (length x.edges) ≡ rest c.len-in-loop-fact.result = ap rest (sym c.len-in-loop-fact.ensures) in
    record {
      whole = c.loop-fact.invariant.whole ∙ ap add (more ∙ ap next same_left) ∙ sym (append_assoc facts (x ∷ []) (rest c.len-in-loop-fact.result)) ∙ ap before_rest (sym pushed);
      behind = subst (λ ys. AreBehind ys (drop (i + 1) all)) (sym pushed) (behind_more facts x (drop (i + 1) all) (behind_rest facts all i x c.loop-fact-test.true c.loop-fact.invariant.behind) (next_before all i x c.requires c.loop-fact-test.true c.fact-item.is));
    }

pub returns : goal.returns
returns c =
    let of_others : KnownList → Bool = λ fact. not (is_txn fact.of c.args.own) in
    let add : List KnownList → List KnownList = λ ys. c.loop-fact.facts ++ ys in
    let past : length c.args.gathered.now ≤ c.loop-fact.fact-index = let f = c.loop-fact-test.false in omega arith in
    sym (c.loop-fact.invariant.whole ∙ ap add (ends of_others c.args.gathered.now c.loop-fact.fact-index c.loop-fact.room c.loop-fact.left past) ∙ append-nil c.loop-fact.facts)
