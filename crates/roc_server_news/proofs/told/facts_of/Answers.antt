use Rattle.std.proofs.Common.{◌≡◌, ℕ, ◌+◌, ◌-◌, ◌<◌, ◌≤◌, ◌∷◌, [], ◌++◌, List, length, map, drop, get_or, refl, ap, subst, sym, ◌∙◌, append_assoc, append-nil, arith}
use Rattle.std.proofs.lemmas.List.{drop_all}
use Rattle.roc_base.specs.declared.id.TxnId.{TxnId}
use Rattle.roc_base.specs.Edge.{Dependency}
use Rattle.roc_depgraph.specs.declared.known.KnownList.{KnownList}
use Rattle.roc_depgraph.specs.Deps.{entries_of}
use Rattle.roc_msg.specs.Facts.{front_of_facts}
use Rattle.roc_msg.proofs.FactFronts.{front_nothing}
use Rattle.roc_step.specs.Piggyback.{facts_of}
use Rattle.roc_server_news.proofs.ToldFacts.{AreBehind, goes_on, stops, behind_none, behind_more, next_before, behind_rest}
use Rattle.roc_server_news.proofs.told.facts_of.Goals as goal

pub loop-id-preserved : goal.loop-id-preserved
loop-id-preserved c =
    let none : TxnId = record { coord = 0; seq = 0 } in
    let f : TxnId → KnownList = λ u. record { of = u; edges = entries_of c.args.table.now.known u } in
    let all = c.args.ids.now in
    let i = c.loop-id.id-index in
    let x = get_or all i none in
    let facts = c.loop-id.facts in
    let room : 0 < c.loop-id.room = let t = c.if-room-eq0.false in omega arith in
    let long : c.len.result ≡ length (f x).edges = c.len.ensures ∙ ap length c.in_ok-edges.ensures in
    let again : c.len-left.result ≡ length (f x).edges = c.len-left.ensures ∙ ap length c.in_ok-edges.ensures in
    let short : length (f x).edges ≤ c.loop-id.left = subst (λ n. n ≤ c.loop-id.left) long c.if-len-left.false in
    let rest : ℕ → List KnownList = λ n. front_of_facts (c.loop-id.room - 1) (c.loop-id.left - n) (map f (drop (i + 1) all)) in
    let add : List KnownList → List KnownList = λ ys. facts ++ ys in
    let next : List KnownList → List KnownList = λ ys. f x ∷ ys in
    let before_rest : List KnownList → List KnownList = λ ys. ys ++ rest c.len-left.result in
    let with_last : List Dependency → List KnownList = λ es. facts ++ record { of = x; edges = es } ∷ [] in
    let pushed : c.push.new.self ≡ facts ++ f x ∷ [] = c.in_ok-push.ensures.ok ∙ ap with_last c.in_ok-edges.ensures in
    let more = goes_on f all i c.loop-id.room c.loop-id.left x none c.loop-id-test.true refl room short in
    let same_left : rest (length (f x).edges) ≡ rest c.len-left.result = ap rest (sym again) in
    record {
      whole = c.loop-id.invariant.whole ∙ ap add (more ∙ ap next same_left) ∙ sym (append_assoc facts (f x ∷ []) (rest c.len-left.result)) ∙ ap before_rest (sym pushed);
      behind = subst (λ ys. AreBehind ys (drop (i + 1) all)) (sym pushed) (behind_more facts (f x) (drop (i + 1) all) (behind_rest facts all i none c.loop-id-test.true c.loop-id.invariant.behind) (next_before all i x none c.requires c.loop-id-test.true refl));
    }

pub loop-id-init : goal.loop-id-init
loop-id-init c =
    let ids : List TxnId = c.args.ids.now in
    record {
      whole = ap (λ xs. xs ++ facts_of c.args.table.now.known ids) (sym c.new-facts.ensures);
      behind = subst (λ (xs : List KnownList). AreBehind xs ids) (sym c.new-facts.ensures) (behind_none ids);
    }

pub returns-then-room-eq0 : goal.returns-then-room-eq0
returns-then-room-eq0 c =
    let f : TxnId → KnownList = λ u. record { of = u; edges = entries_of c.args.table.now.known u } in
    let front : ℕ → List KnownList = λ n. c.loop-id.facts ++ front_of_facts n c.loop-id.left (map f (drop c.loop-id.id-index c.args.ids.now)) in
    sym (c.loop-id.invariant.whole ∙ ap front c.if-room-eq0.true ∙ append-nil c.loop-id.facts)

pub returns-then-len-left : goal.returns-then-len-left
returns-then-len-left c =
    let none : TxnId = record { coord = 0; seq = 0 } in
    let f : TxnId → KnownList = λ u. record { of = u; edges = entries_of c.args.table.now.known u } in
    let all = c.args.ids.now in
    let i = c.loop-id.id-index in
    let x = get_or all i none in
    let long : c.len.result ≡ length (f x).edges = c.len.ensures ∙ ap length c.in_ok-edges.ensures in
    let too_long : c.loop-id.left < length (f x).edges = subst (λ n. c.loop-id.left < n) long c.if-len-left.true in
    let add : List KnownList → List KnownList = λ ys. c.loop-id.facts ++ ys in
    sym (c.loop-id.invariant.whole ∙ ap add (stops f all i c.loop-id.room c.loop-id.left x none c.loop-id-test.true refl too_long) ∙ append-nil c.loop-id.facts)

pub returns : goal.returns
returns c =
    let f : TxnId → KnownList = λ u. record { of = u; edges = entries_of c.args.table.now.known u } in
    let front : List TxnId → List KnownList = λ ids. c.loop-id.facts ++ front_of_facts c.loop-id.room c.loop-id.left (map f ids) in
    sym (c.loop-id.invariant.whole ∙ ap front (drop_all c.loop-id.id-index c.args.ids.now c.loop-id-test.false)
    ∙ ap (λ xs. c.loop-id.facts ++ xs) (front_nothing c.loop-id.room c.loop-id.left) ∙ append-nil c.loop-id.facts)
