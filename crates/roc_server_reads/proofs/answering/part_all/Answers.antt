use Rattle.std.proofs.Common.{◌≡◌, Bool, List, Option, Some, None, not, filter, [], ◌∷◌, ◌++◌, ap, subst, sym, ◌∙◌, append-nil}
use Rattle.std.proofs.lemmas.List.Elements.{filter-append}
use Rattle.std.proofs.lemmas.Result.{IfOk-weaker}
use Rattle.roc_step.specs.declared.kept_read.KeptRead.{KeptRead}
use Rattle.roc_server_reads.specs.Behind.{is_free_behind, AreHolders}
use Rattle.roc_server_reads.specs.Inner.Parts.{if_held, of_each, one_more}
use Rattle.roc_server_reads.proofs.Parting.{as_many, held_are, holders_left, unheld_are}
use Rattle.roc_server_reads.proofs.answering.part_all.Goals as goal

-- what passes of those that are kept, and of one more
with_one : (test : KeptRead → Bool) (kept passing : List KeptRead) (q : KeptRead) (new : Option KeptRead) → passing ≡ filter test kept → new ≡ Some q
    → passing ++ filter test (q ∷ []) ≡ filter test (kept ++ one_more new)
with_one test kept passing q new are is =
    ap (λ (qs : List KeptRead). qs ++ filter test (q ∷ [])) are ∙ sym (filter-append test kept (q ∷ [])) ∙ ap (λ (n : Option KeptRead). filter test (kept ++ one_more n)) (sym is)

with_none : (test : KeptRead → Bool) (kept passing : List KeptRead) (new : Option KeptRead) → passing ≡ filter test kept → new ≡ None → passing ≡ filter test (kept ++ one_more new)
with_none test kept passing new are is = are ∙ sym (ap (λ (n : Option KeptRead). filter test (kept ++ one_more n)) is ∙ ap (filter test) (append-nil kept))

pub part-requires : goal.part-requires
part-requires g c = as_many c.args.plan.now c.args.behind.now c.args.kept.now c.args.holders.now c.requires.holders

pub returns-in-Some-clause-free : goal.returns-in-Some-clause-free
returns-in-Some-clause-free g c =
    let free = is_free_behind c.args.plan.now c.args.behind.now in
    let kept = c.args.kept.now in
    IfOk-weaker c.with_new.result _ _
    (λ all h. h ∙ with_one free kept c.in_ok-parted.parted.free.items c.in-Some.read c.args.new
    (c.in_ok-parted.ensures.free ∙ unheld_are c.args.plan.now c.args.behind.now kept c.args.holders.now c.requires.holders) c.in-Some.is)
    c.with_new.ensures.free

pub returns-in-Some-clause-stays : goal.returns-in-Some-clause-stays
returns-in-Some-clause-stays g c =
    let stays : KeptRead → Bool = λ q. not (is_free_behind c.args.plan.now c.args.behind.now q) in
    let kept = c.args.kept.now in
    IfOk-weaker c.with_new.result _ _
    (λ all h. h ∙ with_one stays kept c.in_ok-parted.parted.stays.reads.items c.in-Some.read c.args.new
    (c.in_ok-parted.ensures.stays ∙ held_are c.args.plan.now c.args.behind.now kept c.args.holders.now c.requires.holders) c.in-Some.is)
    c.with_new.ensures.stays

pub returns-in-None-clause-free : goal.returns-in-None-clause-free
returns-in-None-clause-free g c =
    with_none (is_free_behind c.args.plan.now c.args.behind.now) c.args.kept.now c.in_ok-parted.parted.free.items c.args.new
    (c.in_ok-parted.ensures.free ∙ unheld_are c.args.plan.now c.args.behind.now c.args.kept.now c.args.holders.now c.requires.holders) c.in-None.is

pub returns-in-None-clause-stays : goal.returns-in-None-clause-stays
returns-in-None-clause-stays g c =
    with_none (λ q. not (is_free_behind c.args.plan.now c.args.behind.now q)) c.args.kept.now c.in_ok-parted.parted.stays.reads.items c.args.new
    (c.in_ok-parted.ensures.stays ∙ held_are c.args.plan.now c.args.behind.now c.args.kept.now c.args.holders.now c.requires.holders) c.in-None.is

pub returns-in-None-clause-holders : goal.returns-in-None-clause-holders
returns-in-None-clause-holders g c =
    let plan = c.args.plan.now in
    let b = c.args.behind.now in
    let stays = c.in_ok-parted.parted.stays in
    subst (λ qs. AreHolders plan b qs stays.holders.items) (sym c.in_ok-parted.ensures.stays)
    (subst (AreHolders plan b (of_each if_held c.args.holders.now c.args.kept.now)) (sym c.in_ok-parted.ensures.holders) (holders_left plan b c.args.kept.now c.args.holders.now c.requires.holders))

pub returns-in-Some-clause-holders : goal.returns-in-Some-clause-holders
returns-in-Some-clause-holders g c =
    let plan = c.args.plan.now in
    let b = c.args.behind.now in
    let stays = c.in_ok-parted.parted.stays in
    c.with_new.ensures.holders
    (subst (λ qs. AreHolders plan b qs stays.holders.items) (sym c.in_ok-parted.ensures.stays)
    (subst (AreHolders plan b (of_each if_held c.args.holders.now c.args.kept.now)) (sym c.in_ok-parted.ensures.holders) (holders_left plan b c.args.kept.now c.args.holders.now c.requires.holders)))
