-- Datagrams that are given to a link one after another.
use Rattle.std.proofs.Common.{◌≡◌, ℕ, ◌+◌, ◌<◌, Bool, List, [], ◌∷◌, ◌++◌, length, map, get_or, take, replicate, sym, ap, subst, ◌∙◌}
use Rattle.std.proofs.lemmas.List.{map-append, take_more, flat_map_more, replicate_more}
use Rattle.roc_io.specs.Call.{LinkView}
use Rattle.roc_io.specs.Cause.{HasCause}
use Rattle.roc_io.specs.Link.{sending, send_event}
use Rattle.roc_io.specs.Observed.{Adds, AddsUnless}
use Rattle.roc_io.specs.Packet.{Packet}
use Rattle.roc_io.specs.declared.link.Addr.{Addr}
use Rattle.roc_io.proofs.Causes.{never_falls}
use Rattle.roc_io.proofs.Events.{AddsEvents-send}
use Rattle.roc_io.proofs.Links.{AddsAllBut-one}
use Rattle.roc_node.specs.Moves.{Moves}
use Rattle.roc_node.proofs.Moving.{Moves-trans, Moves-given}
use Rattle.roc_node_local.specs.Stops.{thrice_to, thrice_to_each}

-- some datagrams behind others
given_behind : (a b c : LinkView) (xs ys : List Packet) → Moves a b (map sending xs) → Moves b c (map sending ys) → Moves a c (map sending (xs ++ ys))
given_behind a b c xs ys p q = subst (Moves a c) (sym (map-append sending xs ys)) (Moves-trans a b c (map sending xs) (map sending ys) p q)

one : (failed : Bool) (a b : LinkView) (x : Packet) → b.arrivals ≡ a.arrivals → HasCause failed a.lost b.lost → AddsUnless failed a.sent b.sent x
    → Adds a.events b.events (send_event failed x ∷ []) → Moves a b (map sending (x ∷ []))
one failed a b x arrivals cause adds events =
    Moves-given a b (x ∷ []) arrivals (never_falls failed a.lost b.lost cause) (λ below. AddsAllBut-one failed a.lost b.lost a.sent b.sent x cause below adds)
    (AddsEvents-send failed a.lost b.lost a.sent b.sent a.events b.events x cause adds events)

-- one datagram more of the same
pub same_again : (failed : Bool) (n : ℕ) (a b c : LinkView) (x : Packet) → Moves a b (map sending (replicate n x)) → c.arrivals ≡ b.arrivals → HasCause failed b.lost c.lost
    → AddsUnless failed b.sent c.sent x → Adds b.events c.events (send_event failed x ∷ []) → Moves a c (map sending (replicate (n + 1) x))
same_again failed n a b c x so_far arrivals cause adds events =
    subst (λ (l : List Packet). Moves a c (map sending l)) (replicate_more n x) (given_behind a b c (replicate n x) (x ∷ []) so_far (one failed b c x arrivals cause adds events))

-- one shard more, of the list of addresses that is walked
pub next_shard : (a b c : LinkView) (bytes : List ℕ) (cluster walked : List Addr) (i : ℕ) (addr : Addr) → walked ≡ cluster → i < length walked
    → Moves a b (map sending (thrice_to_each bytes (take i cluster))) → Moves b c (map sending (thrice_to bytes (get_or walked i addr)))
    → Moves a c (map sending (thrice_to_each bytes (take (i + 1) cluster)))
next_shard a b c bytes cluster walked i addr same inside so_far more =
    let here : Addr = get_or cluster i addr in
    let within : i < length cluster = subst (λ l. i < length l) same inside in
    let this : Moves b c (map sending (thrice_to bytes here)) = subst (λ l. Moves b c (map sending (thrice_to bytes (get_or l i addr)))) same more in
    let whole : thrice_to_each bytes (take i cluster) ++ thrice_to bytes here ≡ thrice_to_each bytes (take (i + 1) cluster) =
    flat_map_more (thrice_to bytes) [] (take i cluster) here ∙ ap (thrice_to_each bytes) (sym (take_more cluster i addr within)) in
    subst (λ (l : List Packet). Moves a c (map sending l)) whole (given_behind a b c (thrice_to_each bytes (take i cluster)) (thrice_to bytes here) so_far this)
