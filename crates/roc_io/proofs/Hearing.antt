-- What receives take off the arrivals.
use Rattle.std.proofs.Common.{◌≡◌, ℕ, List, [], ◌∷◌, ◌++◌, refl, sym, subst}
use Rattle.std.specs.Prelude.{Option, Some, None, IfSome}
use Rattle.std.proofs.lemmas.Option.{same_Some}
use Rattle.roc_io.specs.declared.link.Arrival.{Arrival}
use Rattle.roc_io.specs.declared.link.Arrival.TheVariants.{Datagram, Quiet, NoMemory, Failed}
use Rattle.roc_io.specs.Link.{Receives, Reception, came, none_came, vain, reception, Hears, HearsTold}
use Rattle.roc_io.specs.Packet.{Packet}

Hears-trans : (xs ys : List Reception) (a b c : List Packet) → Hears xs a b → Hears ys b c → Hears (xs ++ ys) a c
Hears-trans [] ys a b c p q = subst (λ l. Hears ys l c) p q
Hears-trans (came packet ∷ xs) ys a b c p q = (p.0, p.1, Hears-trans xs ys p.0 b c p.2 q)
Hears-trans (none_came ∷ xs) ys a b c p q = (p.0, Hears-trans xs ys a b c p.1 q)
Hears-trans (vain ∷ xs) ys a b c p q = Hears-trans xs ys a b c p q

-- some receives after others
pub HearsTold-trans : (xs ys : List Reception) (a b c : Option (List Packet)) → HearsTold xs a b → HearsTold ys b c → HearsTold (xs ++ ys) a c
HearsTold-trans xs ys None None None p q = tt
HearsTold-trans xs ys (Some a) (Some b) (Some c) p q = Hears-trans xs ys a b c p q
HearsTold-trans xs ys None None (Some c) p q = absurd q
HearsTold-trans xs ys None (Some b) c p q = absurd p
HearsTold-trans xs ys (Some a) None c p q = absurd p
HearsTold-trans xs ys (Some a) (Some b) None p q = absurd q

-- no receive
pub HearsTold-nil : (a : Option (List Packet)) → HearsTold [] a a
HearsTold-nil None = tt
HearsTold-nil (Some left) = refl

quiet_told : (a : Option (List Packet)) → IfSome a (λ left. left ≡ []) → HearsTold (none_came ∷ []) a a
quiet_told None none = tt
quiet_told (Some left) none = (none, refl)

vain_told : (a : Option (List Packet)) → HearsTold (vain ∷ []) a a
vain_told None = tt
vain_told (Some left) = refl

-- one receive
pub hears_one : (answer : Arrival) (a b : Option (List Packet)) (into : List ℕ) → Receives answer a b into → HearsTold (reception answer into ∷ []) a b
hears_one (Datagram from) None None into h = tt
hears_one (Datagram from) (Some a) (Some b) into h = (b, same_Some _ _ h, refl)
hears_one (Datagram from) (Some a) None into h = absurd cc
hears_one (Datagram from) None (Some b) into h = absurd cc
hears_one Quiet a b into h = subst (HearsTold (none_came ∷ []) a) (sym h.0) (quiet_told a h.1)
hears_one NoMemory a b into h = subst (HearsTold (vain ∷ []) a) (sym h.0) (vain_told a)
hears_one Failed a b into h = subst (HearsTold (vain ∷ []) a) (sym h.0) (vain_told a)
