-- What is sent one after another, and what is sent by way of a new outbox
use Rattle.std.proofs.Common.{◌≡◌, ℕ, ◌+◌, ◌<◌, ◌≤◌, List, [], ◌∷◌, ◌++◌, length, get_or, take, map, ap, subst, ◌∙◌, sym, append_assoc, append-nil}
use Rattle.std.proofs.lemmas.List.{map_more, take_all}
use Rattle.roc_msg.specs.declared.outbox.Outgoing.{Outgoing}
use Rattle.roc_msg.specs.Outbox.{Collected, HasSent, HoldsAlso}
use Rattle.roc_msg.proofs.Sent.{sent_then}

-- what was gathered of the elements so far, and of one more
pub gathered_more : {X Y : Type 0} (f : X → Y) (xs : List X) (i : ℕ) (x d : X) (before : List Y) → i < length xs → x ≡ get_or xs i d → (before ++ map f (take i xs)) ++ f x ∷ [] ≡ before ++ map f (take (i + 1) xs)
gathered_more f xs i x d before h e =
    append_assoc before (map f (take i xs)) (f x ∷ [])
    ∙ ap (λ ys. before ++ ys) (ap (λ v. map f (take i xs) ++ f v ∷ []) e ∙ sym (map_more f xs i d h))

-- an outbox has gained one more message
pub sent_one_more : {X : Type 0} (f : X → Outgoing) (xs : List X) (i : ℕ) (x d : X) (first before after : Collected) (sent : Outgoing) → i < length xs → x ≡ get_or xs i d
    → HasSent first before (map f (take i xs)) → sent ≡ f x → HasSent before after (sent ∷ [])
    → HasSent first after (map f (take (i + 1) xs))
sent_one_more f xs i x d first before after sent h is e s a =
    let both = sent_then first before after (map f (take i xs)) (sent ∷ []) e a in
    subst (HasSent first after) (ap (λ v. map f (take i xs) ++ v ∷ []) s ∙ gathered_more f xs i x d [] h is) both

-- all were sent
pub sent_all : {X : Type 0} (f : X → Outgoing) (xs : List X) (i : ℕ) (first after : Collected) → length xs ≤ i → HasSent first after (map f (take i xs)) → HasSent first after (map f xs)
sent_all f xs i first after h e = subst (λ ys. HasSent first after (map f ys)) (take_all i xs h) e

-- what was sent into a new outbox goes behind what another one holds
pub appended : (old new fresh more : Collected) (sends : List Outgoing) → fresh.messages ≡ [] → fresh.decided ≡ [] → fresh.ran ≡ [] → HasSent fresh more sends → HoldsAlso old new more → HasSent old new sends
appended old new fresh more sends m d r sent also =
    let messages : more.messages ≡ sends = sent.0 ∙ ap (λ ms. ms ++ sends) m in
    let decided : more.decided ≡ [] = sent.1 ∙ d in
    let ran : more.ran ≡ [] = sent.2 ∙ r in
    (also.0 ∙ ap (λ ms. old.messages ++ ms) messages, also.1 ∙ ap (λ ids. old.decided ++ ids) decided ∙ append-nil old.decided, also.2 ∙ ap (λ rs. old.ran ++ rs) ran ∙ append-nil old.ran)
