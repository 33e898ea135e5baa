-- What goes over a link over several calls.
use Rattle.std.proofs.Common.{◌≡◌, ℕ, ◌+◌, ◌-◌, ◌<◌, ◌≤◌, Bool, true, false, List, [], ◌∷◌, ◌++◌, length, map, get_or, take, refl, sym, ◌∙◌, ap, subst, arith, length-append}
use Rattle.std.proofs.lemmas.List.{map-append, take_more}
use Rattle.std.specs.Prelude.{Option}
use Rattle.roc_io.specs.Cause.{HasCause}
use Rattle.roc_io.specs.Link.{LinkEvent, sending, losing, receiving, send_event, sends_of, losses_of, receives_of, asked_for, Reception, AddsEvents}
use Rattle.roc_io.specs.Observed.{Adds, AddsUnless}
use Rattle.roc_io.specs.Packet.{Packet}
use Rattle.roc_io.proofs.Causes.{never_falls}
use Rattle.roc_io.proofs.Told.{Adds-nil, Adds-trans}

pub sends_of-append : (xs ys : List LinkEvent) → sends_of (xs ++ ys) ≡ sends_of xs ++ sends_of ys
sends_of-append [] ys = refl
sends_of-append (sending packet ∷ xs) ys = ap (λ l. packet ∷ l) (sends_of-append xs ys)
sends_of-append (losing packet ∷ xs) ys = sends_of-append xs ys
sends_of-append (receiving given ∷ xs) ys = sends_of-append xs ys

losses_of-append : (xs ys : List LinkEvent) → losses_of (xs ++ ys) ≡ losses_of xs ++ losses_of ys
losses_of-append [] ys = refl
losses_of-append (sending packet ∷ xs) ys = losses_of-append xs ys
losses_of-append (losing packet ∷ xs) ys = ap (λ l. packet ∷ l) (losses_of-append xs ys)
losses_of-append (receiving given ∷ xs) ys = losses_of-append xs ys

pub receives_of-append : (xs ys : List LinkEvent) → receives_of (xs ++ ys) ≡ receives_of xs ++ receives_of ys
receives_of-append [] ys = refl
receives_of-append (sending packet ∷ xs) ys = receives_of-append xs ys
receives_of-append (losing packet ∷ xs) ys = receives_of-append xs ys
receives_of-append (receiving given ∷ xs) ys = ap (λ l. given ∷ l) (receives_of-append xs ys)

-- sends alone
pub sends_of-sends : (packets : List Packet) → sends_of (map sending packets) ≡ packets
sends_of-sends [] = refl
sends_of-sends (packet ∷ packets) = ap (λ l. packet ∷ l) (sends_of-sends packets)

pub receives_of-sends : (packets : List Packet) → receives_of (map sending packets) ≡ []
receives_of-sends [] = refl
receives_of-sends (packet ∷ packets) = receives_of-sends packets

-- nothing was asked for, and nothing changed
pub AddsEvents-none : (l m : ℕ) (s t : Option (List Packet)) (old new : Option (List LinkEvent)) → t ≡ s → new ≡ old → AddsEvents l m s t old new []
AddsEvents-none l m s t old new same_sent same = record {
  told = [];
  adds = subst (λ o. Adds old o []) (sym same) (Adds-nil old);
  each = refl;
  sent = subst (λ o. Adds s o []) (sym same_sent) (Adds-nil s);
  lost = λ below. omega arith;
}

-- one receive
pub AddsEvents-receive : (l m : ℕ) (s t : Option (List Packet)) (old new : Option (List LinkEvent)) (given : Reception)
    → t ≡ s → Adds old new (receiving given ∷ []) → AddsEvents l m s t old new (receiving given ∷ [])
AddsEvents-receive l m s t old new given same_sent adds = record {
  told = receiving given ∷ [];
  adds = adds;
  each = refl;
  sent = subst (λ o. Adds s o []) (sym same_sent) (Adds-nil s);
  lost = λ below. omega arith;
}

-- some behind others
pub AddsEvents-trans : (l m n : ℕ) (s t u : Option (List Packet)) (a b c : Option (List LinkEvent)) (xs ys : List LinkEvent) → l ≤ m → m ≤ n
    → AddsEvents l m s t a b xs → AddsEvents m n t u b c ys → AddsEvents l n s u a c (xs ++ ys)
AddsEvents-trans l m n s t u a b c xs ys low high p q = record {
  told = p.told ++ q.told;
  adds = Adds-trans a b c p.told q.told p.adds q.adds;
  each = map-append asked_for p.told q.told ∙ (ap (λ r. r ++ map asked_for q.told) p.each ∙ ap (λ r. xs ++ r) q.each);
  sent = subst (Adds s u) (sym (sends_of-append p.told q.told)) (Adds-trans s t u (sends_of p.told) (sends_of q.told) p.sent q.sent);
  lost = λ below.
      let first : length (losses_of p.told) ≤ m - l = p.lost (omega arith) in
      let second : length (losses_of q.told) ≤ n - m = q.lost below in
      let both : length (losses_of (p.told ++ q.told)) ≡ length (losses_of p.told) + length (losses_of q.told) =
      ap length (losses_of-append p.told q.told) ∙ length-append (losses_of p.told) (losses_of q.told) in
      omega arith;
}

-- one send
pub AddsEvents-send : (failed : Bool) (before after : ℕ) (s t : Option (List Packet)) (a b : Option (List LinkEvent)) (x : Packet)
    → HasCause failed before after → AddsUnless failed s t x → Adds a b (send_event failed x ∷ []) → AddsEvents before after s t a b (sending x ∷ [])
AddsEvents-send true before after s t a b x cause same adds = record {
  told = losing x ∷ [];
  adds = adds;
  each = refl;
  sent = subst (λ o. Adds s o []) (sym same) (Adds-nil s);
  lost = λ below. let rose : before < after = cause.rose below in omega arith;
}
AddsEvents-send false before after s t a b x cause takes adds = record { told = sending x ∷ []; adds = adds; each = refl; sent = takes; lost = λ below. omega arith }

-- after one more send, of the datagram at i
pub AddsEvents-next : (failed : Bool) (start before after : ℕ) (s t u : Option (List Packet)) (a b c : Option (List LinkEvent)) (xs : List Packet) (i : ℕ) (x : Packet)
    → i < length xs → x ≡ get_or xs i x → AddsEvents start before s t a b (map sending (take i xs)) → HasCause failed before after → start ≤ before
    → AddsUnless failed t u x → Adds b c (send_event failed x ∷ []) → AddsEvents start after s u a c (map sending (take (i + 1) xs))
AddsEvents-next failed start before after s t u a b c xs i x inside is so_far cause low sent adds =
    let high = never_falls failed before after cause in
    let next : map sending (take i xs) ++ sending x ∷ [] ≡ map sending (take (i + 1) xs) =
    sym (map-append sending (take i xs) (x ∷ [])) ∙ ap (map sending) (ap (λ y. take i xs ++ y ∷ []) is ∙ sym (take_more xs i x inside)) in
    subst (AddsEvents start after s u a c) next
    (AddsEvents-trans start before after s t u a b c (map sending (take i xs)) (sending x ∷ []) low high so_far (AddsEvents-send failed before after t u b c x cause sent adds))
