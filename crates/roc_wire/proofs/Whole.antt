-- The header and the whole datagram are read exactly as they are spelled
use Rattle.std.proofs.Common.{◌≡◌, ℕ, zero, suc, ◌^◌, ◌<◌, ◌≤◌, cond, List, [], ◌++◌, length, Result, Ok, Err, refl, sym, ap, subst, ◌∙◌, append_assoc, arith}
use Rattle.std.specs.Prelude.{◌==◌, bytes_eq, IfOk}
use Rattle.std.specs.Int.{w8, w16, to_be_bytes}
use Rattle.std.proofs.lemmas.List.{append-nil, nil_from_length}
use Rattle.std.proofs.lemmas.Bool.{eqb-true}
use Rattle.std.proofs.lemmas.Slice.Eq.{bytes_eq-Decides}
use Rattle.roc_base.specs.declared.node.Node.{Node}
use Rattle.roc_base.specs.declared.node.Node.TheVariants.{Server, Coord}
use Rattle.roc_msg.specs.declared.msg.Msg.{Msg}
use Rattle.roc_msg.specs.declared.msg.Msg.TheVariants.{Stop}
use Rattle.roc_msg.specs.Msg.{kind_of}
use Rattle.roc_wire.specs.declared.fault.WireFault.{WireFault}
use Rattle.roc_wire.specs.declared.fault.WireFault.TheVariants.{Magic, Version, Kind, Rest}
use Rattle.roc_wire.specs.declared.header.Header.{Header}
use Rattle.roc_wire.specs.Spelling.{magic, version, body, sender_role, sender_number, spelling}
use Rattle.roc_wire.specs.Fits.{FitsNode, IsSpellable}
use Rattle.roc_wire.specs.Reading.{IsBytes, ◌>>=◌, then_read, number_read, within_read, bytes_read, body_read, magic_read, version_read, kind_read, last_sender, node_of_parts, node_read, whole_of_parts, whole_read, datagram, pair, IsRead}
use Rattle.roc_wire.proofs.Exact.{bind_ok, test_ok, IsField, then_field, made_field, judged_field, as_field, number_field, within_field, ranged_field, bytes_field, wide8, wide16}
use Rattle.roc_wire.proofs.Messages.{IsOf, body_field}

magic_field : IsField magic_read (λ text. text) (λ text. text ≡ magic)
unfolding magic_read
magic_field = as_field _ _ _ _
    (judged_field (bytes_read 4) (λ text. text) (λ text. length text ≡ 4) (λ text. bytes_eq text magic) Magic (bytes_field 4))
    (λ text h. (bytes_eq-Decides text magic).0 h.1)
    (λ text h. rw h (refl, refl))

version_field : IsField version_read (to_be_bytes w8) (λ n. n ≡ version)
unfolding version_read
version_field = as_field _ _ _ _
    (judged_field (number_read w8) (to_be_bytes w8) (λ n. n < 2 ^ 8) (λ n. n == version) Version (number_field w8 (2 ^ 8) wide8))
    (λ n h. eqb-true _ _ h.1)
    (λ n h. rw h (omega arith, refl))

kind_field : IsField kind_read (to_be_bytes w8) (λ n. (1 ≤ n) × (n ≤ 13))
unfolding kind_read
kind_field = ranged_field w8 (2 ^ 8) 1 13 Kind wide8 (omega arith)

-- ---- who sends

abbrev FitsSender : ℕ × ℕ → Type 0
FitsSender p = ((0 ≤ p.0) × (p.0 ≤ 1)) × ((0 ≤ p.1) × (p.1 ≤ last_sender p.0))

node_field : IsField node_read (λ from. to_be_bytes w8 (sender_role from) ++ to_be_bytes w16 (sender_number from)) FitsNode
unfolding node_read
node_field = made_field (then_read (within_read w8 0 1) (λ role. within_read w16 0 (last_sender role))) (λ p. to_be_bytes w8 p.0 ++ to_be_bytes w16 p.1) FitsSender node_of_parts
    (λ from. to_be_bytes w8 (sender_role from) ++ to_be_bytes w16 (sender_number from)) FitsNode
    (then_field (within_read w8 0 1) (to_be_bytes w8) (λ n. (0 ≤ n) × (n ≤ 1)) (λ role. within_read w16 0 (last_sender role)) (λ role. to_be_bytes w16) (λ role n. (0 ≤ n) × (n ≤ last_sender role))
    (within_field w8 (2 ^ 8) 0 1 wide8 (omega arith))
    (λ role h. within_field w16 (2 ^ 16) 0 (last_sender role) wide16 (few role h.1)))
    (λ p h. to p.0 p.1 h)
    back
  where
    few : (role : ℕ) → role ≤ 1 → last_sender role < 2 ^ 16
    few zero h = omega arith
    few (suc zero) h = omega arith
    few (suc (suc n)) h = absurd (omega arith)

    to : (role n : ℕ) → FitsSender (role, n) → FitsNode (node_of_parts (role, n)) × (to_be_bytes w8 role ++ to_be_bytes w16 n ≡ to_be_bytes w8 (sender_role (node_of_parts (role, n))) ++ to_be_bytes w16 (sender_number (node_of_parts (role, n))))
    to zero n h = (h.1.1, refl)
    to (suc zero) n h = (h.1.1, refl)
    to (suc (suc role)) n h = let high = h.0.1 in absurd (omega arith)

    back : (from : Node) → FitsNode from → (p : ℕ × ℕ) × FitsSender p × (node_of_parts p ≡ from)
    back (Server shard) h = ((0, shard.0), ((omega arith, omega arith), (omega arith, h)), refl)
    back (Coord number) h = ((1, number), ((omega arith, omega arith), (omega arith, h)), refl)

-- ---- the whole

abbrev Parts : Type 0
Parts = List ℕ × (ℕ × (ℕ × (List ℕ × (Node × Msg))))

abbrev FitParts : Parts → Type 0
FitParts p = (p.0 ≡ magic) × ((p.1.0 ≡ version) × (((1 ≤ p.1.1.0) × (p.1.1.0 ≤ 13)) × ((length p.1.1.1.0 ≡ 8) × (FitsNode p.1.1.1.1.0 × IsOf p.1.1.0 p.1.1.1.1.1))))

abbrev sender_bytes : Node → List ℕ
sender_bytes from = to_be_bytes w8 (sender_role from) ++ to_be_bytes w16 (sender_number from)

abbrev parts_bytes : Parts → List ℕ
parts_bytes p = p.0 ++ (to_be_bytes w8 p.1.0 ++ (to_be_bytes w8 p.1.1.0 ++ (p.1.1.1.0 ++ (sender_bytes p.1.1.1.1.0 ++ body p.1.1.1.1.1))))

pub whole_field : IsField whole_read (λ x. spelling x.0 x.1) (λ x. IsSpellable x.0 x.1)
unfolding whole_read
whole_field = made_field
    (then_read magic_read (λ text. then_read version_read (λ number. then_read kind_read (λ kind. then_read (bytes_read 8) (λ tag. then_read node_read (λ from. body_read kind))))))
    parts_bytes FitParts whole_of_parts (λ x. spelling x.0 x.1) (λ x. IsSpellable x.0 x.1)
    (then_field magic_read (λ text. text) (λ text. text ≡ magic) _ (λ x p. to_be_bytes w8 p.0 ++ (to_be_bytes w8 p.1.0 ++ (p.1.1.0 ++ (sender_bytes p.1.1.1.0 ++ body p.1.1.1.1)))) (λ x p. (p.0 ≡ version) × (((1 ≤ p.1.0) × (p.1.0 ≤ 13)) × ((length p.1.1.0 ≡ 8) × (FitsNode p.1.1.1.0 × IsOf p.1.0 p.1.1.1.1)))) magic_field (λ x h.
    then_field version_read (to_be_bytes w8) (λ n. n ≡ version) _ (λ x p. to_be_bytes w8 p.0 ++ (p.1.0 ++ (sender_bytes p.1.1.0 ++ body p.1.1.1))) (λ x p. ((1 ≤ p.0) × (p.0 ≤ 13)) × ((length p.1.0 ≡ 8) × (FitsNode p.1.1.0 × IsOf p.0 p.1.1.1))) version_field (λ x h.
    then_field kind_read (to_be_bytes w8) (λ n. (1 ≤ n) × (n ≤ 13)) _ (λ kind p. p.0 ++ (sender_bytes p.1.0 ++ body p.1.1)) (λ kind p. (length p.0 ≡ 8) × (FitsNode p.1.0 × IsOf kind p.1.1)) kind_field (λ kind fits.
    then_field (bytes_read 8) (λ text. text) (λ text. length text ≡ 8) _ (λ x p. sender_bytes p.0 ++ body p.1) (λ x p. FitsNode p.0 × IsOf kind p.1) (bytes_field 8) (λ x h.
    then_field node_read sender_bytes FitsNode _ (λ x. body) (λ x. IsOf kind) node_field (λ x h. body_field kind fits))))))
    (λ p h. ((((h.1.1.1.0, h.1.1.1.1.0)), h.1.1.1.1.1.1), whole_is p.0 p.1.0 p.1.1.0 p.1.1.1.0 p.1.1.1.1.0 p.1.1.1.1.1 h.0 h.1.0 h.1.1.1.1.1.0))
    (λ x h. ((magic, (version, (kind_of x.1, (x.0.tag, (x.0.from, x.1))))), (refl, (refl, (kinds x.1, (h.0.0, (h.0.1, (refl, h.1)))))), refl))
  where
    parts : (a b c d e f g : List ℕ) → a ++ (b ++ (c ++ (d ++ ((e ++ f) ++ g)))) ≡ a ++ b ++ c ++ d ++ e ++ f ++ g
    parts a b c d e f g = simp append_assoc

    whole_is : (text : List ℕ) (number kind : ℕ) (tag : List ℕ) (from : Node) (msg : Msg) → text ≡ magic → number ≡ version → kind_of msg ≡ kind → parts_bytes (text, (number, (kind, (tag, (from, msg))))) ≡ spelling (record { tag = tag; from = from }) msg
    whole_is text number kind tag from msg t v k =
        ap (λ l. parts_bytes (l, (number, (kind, (tag, (from, msg)))))) t ∙ ap (λ n. parts_bytes (magic, (n, (kind, (tag, (from, msg)))))) v ∙ ap (λ n. parts_bytes (magic, (version, (n, (tag, (from, msg)))))) (sym k)
        ∙ parts magic (to_be_bytes w8 version) (to_be_bytes w8 (kind_of msg)) tag (to_be_bytes w8 (sender_role from)) (to_be_bytes w16 (sender_number from)) (body msg)

    kinds : (msg : Msg) → (1 ≤ kind_of msg) × (kind_of msg ≤ 13)
    kinds Stop = (omega arith, omega arith)
    kinds msg = (omega arith, omega arith)

-- what is read is spelled so, each byte of it
pub found : (bytes : List ℕ) (x : Header × Msg) → IsBytes bytes → datagram bytes ≡ Ok x → IsSpellable x.0 x.1 × (bytes ≡ spelling x.0 x.1)
unfolding datagram
found bytes x fits e =
    let b = bind_ok (whole_read bytes) (λ whole. cond (length whole.1 == 0) (Ok whole.0) (Err Rest)) x e in
    let g = test_ok (length b.0.1 == 0) Rest b.0.0 x b.2 in
    let nothing : b.0.1 ≡ [] = nil_from_length b.0.1 (eqb-true _ _ g.0) in
    let t = whole_field.takes bytes b.0.0 b.0.1 fits b.1 in
    let all : bytes ≡ spelling b.0.0.0 b.0.0.1 = t.0.parts ∙ ap (λ l. spelling b.0.0.0 b.0.0.1 ++ l) nothing ∙ append-nil (spelling b.0.0.0 b.0.0.1) in
    subst (λ (y : Header × Msg). IsSpellable y.0 y.1 × (bytes ≡ spelling y.0 y.1)) g.1 (t.1, all)

-- what is spelled so is read
pub again : (header : Header) (msg : Msg) → IsSpellable header msg → datagram (spelling header msg) ≡ Ok (pair header msg)
unfolding datagram
again header msg fits =
    let one : whole_read (spelling header msg) ≡ Ok ((header, msg), []) = ap whole_read (sym (append-nil (spelling header msg))) ∙ whole_field.again (header, msg) [] fits in
    ap (λ o. o >>= λ whole. cond (length whole.1 == 0) (Ok whole.0) (Err Rest)) one

pub is_found : {X : Type 0} (view : X → Header × Msg) (bytes : List ℕ) (r : Result X WireFault) → IsBytes bytes → IsRead view r (datagram bytes) → IfOk r (λ x. IsSpellable (view x).0 (view x).1 × (bytes ≡ spelling (view x).0 (view x).1))
is_found view bytes (Ok x) fits given = found bytes (view x) fits given
is_found view bytes (Err e) fits given = tt
