-- What a link tells over several turns.
use Rattle.std.proofs.Common.{◌≡◌, ℕ, ◌+◌, ◌-◌, ◌<◌, ◌≤◌, List, [], ◌∷◌, ◌++◌, map, refl, sym, ◌∙◌, ap, subst, append-nil, arith}
use Rattle.std.specs.Prelude.{Option}
use Rattle.roc_io.specs.declared.link.Arrival.{Arrival}
use Rattle.roc_io.specs.Cause.{last_count}
use Rattle.roc_io.specs.Link.{Receives, reception, HearsTold, LinkEvent, sending, receiving, sends_of, receives_of, AddsEvents}
use Rattle.roc_io.specs.Packet.{Packet}
use Rattle.roc_io.specs.Observed.{Adds, AddsAllBut}
use Rattle.roc_io.proofs.Events.{AddsEvents-none, AddsEvents-receive, AddsEvents-trans, receives_of-append, receives_of-sends, sends_of-append, sends_of-sends}
use Rattle.roc_io.proofs.Hearing.{HearsTold-nil, HearsTold-trans, hears_one}
use Rattle.roc_io.proofs.Links.{AddsAllBut-trans}
use Rattle.roc_io.proofs.Told.{Adds-nil}
use Rattle.roc_io.specs.Call.{LinkView}
use Rattle.roc_node.specs.Moves.{Moves}
use Rattle.roc_node.specs.Losing.{LosesOne}

pub Moves-trans : (a b c : LinkView) (xs ys : List LinkEvent) → Moves a b xs → Moves b c ys → Moves a c (xs ++ ys)
Moves-trans a b c xs ys p q =
    let first = p.lost in let second = q.lost in record {
      arrivals = subst (λ l. HearsTold l a.arrivals c.arrivals) (sym (receives_of-append xs ys))
          (HearsTold-trans (receives_of xs) (receives_of ys) a.arrivals b.arrivals c.arrivals p.arrivals q.arrivals);
      lost = omega arith;
      sent = λ below.
          let both = AddsAllBut-trans (b.lost - a.lost) (c.lost - b.lost) a.sent b.sent c.sent (sends_of xs) (sends_of ys) (p.sent (omega arith)) (q.sent below) in
          let count : b.lost - a.lost + (c.lost - b.lost) ≡ c.lost - a.lost = omega arith in
          subst (λ l. AddsAllBut (c.lost - a.lost) a.sent c.sent l) (sym (sends_of-append xs ys))
          (subst (λ n. AddsAllBut n a.sent c.sent (sends_of xs ++ sends_of ys)) count both);
      events = AddsEvents-trans a.lost b.lost c.lost a.sent b.sent c.sent a.events b.events c.events xs ys first second p.events q.events;
    }

-- nothing was sent
still : (n : ℕ) (a b : Option (List Packet)) → b ≡ a → AddsAllBut n a b []
still n a b same = ([], refl, subst (λ o. Adds a o []) (sym same) (Adds-nil a))

-- one receive
pub Moves-one : (a b : LinkView) (answer : Arrival) (into : List ℕ) → Receives answer a.arrivals b.arrivals into → b.sent ≡ a.sent → b.lost ≡ a.lost
    → Adds a.events b.events (receiving (reception answer into) ∷ []) → Moves a b (receiving (reception answer into) ∷ [])
Moves-one a b answer into arrivals sent lost events = record {
  arrivals = hears_one answer a.arrivals b.arrivals into arrivals;
  lost = omega arith;
  sent = λ below. still (b.lost - a.lost) a.sent b.sent sent;
  events = AddsEvents-receive a.lost b.lost a.sent b.sent a.events b.events (reception answer into) sent events;
}

-- nothing was received and nothing sent
pub Moves-none : (a b : LinkView) → b.arrivals ≡ a.arrivals → b.sent ≡ a.sent → b.lost ≡ a.lost → b.events ≡ a.events → Moves a b []
Moves-none a b arrivals sent lost events = record {
  arrivals = subst (HearsTold [] a.arrivals) (sym arrivals) (HearsTold-nil a.arrivals);
  lost = omega arith;
  sent = λ below. still (b.lost - a.lost) a.sent b.sent sent;
  events = AddsEvents-none a.lost b.lost a.sent b.sent a.events b.events sent events;
}

-- nothing was received, and these were sent
pub Moves-given : (a b : LinkView) (given : List Packet) → b.arrivals ≡ a.arrivals → a.lost ≤ b.lost
    → (b.lost < last_count → AddsAllBut (b.lost - a.lost) a.sent b.sent given) → AddsEvents a.lost b.lost a.sent b.sent a.events b.events (map sending given)
    → Moves a b (map sending given)
Moves-given a b given arrivals lost sent events = record {
  arrivals = subst (λ l. HearsTold l a.arrivals b.arrivals) (sym (receives_of-sends given)) (subst (HearsTold [] a.arrivals) (sym arrivals) (HearsTold-nil a.arrivals));
  lost = lost;
  sent = λ below. subst (λ l. AddsAllBut (b.lost - a.lost) a.sent b.sent l) (sym (sends_of-sends given)) (sent below);
  events = events;
}

-- behind what received and sent nothing
pub Moves-behind : (a b c : LinkView) (traffic : List LinkEvent) → Moves a b [] → Moves b c traffic → Moves a c traffic
Moves-behind a b c traffic p q = Moves-trans a b c [] traffic p q

-- before what received and sent nothing
pub Moves-before : (a b c : LinkView) (traffic : List LinkEvent) → Moves a b traffic → Moves b c [] → Moves a c traffic
Moves-before a b c traffic p q = subst (Moves a c) (append-nil traffic) (Moves-trans a b c traffic [] p q)

-- what one receive gave is lost
pub loses_one : (a b : LinkView) (answer : Arrival) (into : List ℕ) → Receives answer a.arrivals b.arrivals into → b.sent ≡ a.sent → b.lost ≡ a.lost
    → Adds a.events b.events (receiving (reception answer into) ∷ []) → LosesOne a b
loses_one a b answer into arrivals sent lost events = (reception answer into ∷ [], omega arith, Moves-one a b answer into arrivals sent lost events)

-- what a link tells, from its parts
abbrev pub view : Option (List Packet) → Option (List Packet) → ℕ → Option (List LinkEvent) → LinkView
view arrivals sent lost events = record { arrivals = arrivals; sent = sent; lost = lost; events = events }

pub same_view : (a b : Option (List Packet)) (s t : Option (List Packet)) (l m : ℕ) (r q : Option (List LinkEvent)) → a ≡ b → s ≡ t → l ≡ m → r ≡ q → view a s l r ≡ view b t m q
same_view a b s t l m r q e f g h =
    ap (λ x. view x s l r) e ∙ ap (λ x. view b x l r) f ∙ ap (λ x. view b t x r) g ∙ ap (view b t m) h
