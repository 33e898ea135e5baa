-- What each line of a schedule and each request keeps to.
use Rattle.std.proofs.Common.{◌≡◌, ℕ, zero, suc, ◌^◌, ◌<◌, ◌≤◌, ℤ, pos, Bool, true, false, ◌&&◌, ◌==◌, cond, List, [], ◌∷◌, Option, Some, None, Ok, Err, FitsSigned, w64, refl, sym, ◌∙◌, subst, IfSome, arith, rules}
use Rattle.std.specs.Prelude.{nat_le, nat_lt, neg_ℤ}
use Rattle.std.specs.Option.{option_map}
use Rattle.std.specs.Str.{bytes_eq}
use Rattle.std.specs.List.{AllByRecursion}
use lib.Chars.{codes}
use Rattle.std.proofs.lemmas.Bool.{leb-true, ltb-true}
use Rattle.std.proofs.lemmas.Option.{same_Some, none-some, option_and_then_some}
use Rattle.roc_base.specs.declared.node.Node.{Node}
use Rattle.roc_base.specs.declared.node.Node.TheVariants.{Server, Coord}
use Rattle.roc_lang.specs.Tokens.{decimal}
use Rattle.roc_lang.specs.Grammar.{minus}
use Rattle.roc_lang.proofs.Limited.{integer_fits as plain_fits}
use Rattle.roc_sched.specs.declared.fault.What.TheVariants as what
use Rattle.roc_sched.specs.declared.forms.Forms.{Forms}
use Rattle.roc_sched.specs.declared.line.Act.{Act}
use Rattle.roc_sched.specs.declared.line.Act.TheVariants.{Submit, Deliver, Any, Tick, Stop, Drain}
use Rattle.roc_sched.specs.declared.line.Line.{Line}
use Rattle.roc_sched.specs.declared.line.Request.{Request}
use Rattle.roc_sched.specs.Each.{◌>>=◌, each}
use Rattle.roc_sched.specs.Lines.{lines_of}
use Rattle.roc_sched.specs.Words.{words_of}
use Rattle.roc_sched.specs.Numbers.{is_decimal, number_up_to, node_number, integer_of, is_name, positive, message_of, choice_number}
use Rattle.roc_sched.specs.Acts.{submission_of, delivery_of, choice_of, node_of, tick_of, server_number, coordinator_number, shard_of, kept_of, during_of, stop_of, drain_of, drain_where, further_act, act_of, is_among, has_node}
use Rattle.roc_sched.specs.Acts.{or_word, or_node, numbered_line, line_at, request_of, request_at}
use Rattle.roc_sched.specs.Schedule.{item_of, numbered, IsSchedule, AreRequests}
use Rattle.roc_sched.specs.Fits.{IsWrittenCall, IsNodeFor, IsDuring, IsDrained, IsActFor}
use Rattle.roc_sched.specs.Forms.{sixteen_unless, coordinators}

-- a value that was chosen
chosen : {A : Type 0} (b : Bool) (x : Option A) (y : A) → cond b x None ≡ Some y → (b ≡ true) × (x ≡ Some y)
chosen true x y e = (refl, e)
chosen false x y e = absurd (none-some y e)

mapped : {A B P : Type 0} (f : A → B) (o : Option A) (y : B) → option_map f o ≡ Some y → ((x : A) → o ≡ Some x → f x ≡ y → P) → P
mapped f (Some x) y e k = k x refl (same_Some (f x) y e)
mapped f None y e k = absurd (none-some y e)

-- ---- lists

each_keeps : {A B : Type 0} (f : A → Option B) (P : B → Type 0) → ((x : A) (y : B) → f x ≡ Some y → P y) → (xs : List A) (ys : List B) → each f xs ≡ Some ys → AllByRecursion P ys
each_keeps f P keeps [] ys e = subst (AllByRecursion P) (same_Some [] ys e) tt
each_keeps f P keeps (x ∷ xs) ys e =
    option_and_then_some (λ y. each f xs >>= λ zs. Some (y ∷ zs)) (f x) ys e
    (λ y given others.
    option_and_then_some (λ zs. Some (y ∷ zs)) (each f xs) ys others
    (λ zs rest is. subst (AllByRecursion P) (same_Some (y ∷ zs) ys is) (keeps x y given, each_keeps f P keeps xs zs rest)))

-- ---- numbers

both_true : (a b : Bool) → (a && b) ≡ true → b ≡ true
both_true true b e = e
both_true false b e = absurd (cc)

number_fits : (greatest : ℕ) (word : List ℕ) (n : ℕ) → number_up_to greatest word ≡ Some n → n ≤ greatest
unfolding number_up_to
number_fits greatest word n e =
    let c = chosen (is_decimal word && nat_le (decimal word) greatest) (Some (decimal word)) n e in
    let fits = leb-true (decimal word) greatest (both_true (is_decimal word) (nat_le (decimal word) greatest) c.0) in
    let same = same_Some (decimal word) n c.1 in
    omega (arith, fits, same)

message_fits : (word : List ℕ) (n : ℕ) → message_of word ≡ Some n → (0 < n) × (n < 2 ^ 32)
unfolding message_of
message_fits word n e =
    option_and_then_some positive (number_up_to 4294967295 word) n e
    (λ m read is.
    let c = chosen (nat_lt 0 m) (Some m) n is in
    let same = same_Some m n c.1 in
    let some = ltb-true 0 m c.0 in
    let fits = number_fits 4294967295 word m read in
    (omega (arith, same, some), omega (arith, same, fits)))

negated_fits : (n : ℕ) → n ≤ 2 ^ 63 → FitsSigned w64 (neg_ℤ (pos n))
negated_fits zero h = search rules
negated_fits (suc n) h = search rules

integer_fits : (word : List ℕ) (z : ℤ) → integer_of word ≡ Some z → FitsSigned w64 z
unfolding integer_of
integer_fits [] z e = absurd (none-some z e)
integer_fits (b ∷ bs) z e = go (b == minus) e
  where
    go : (t : Bool) → cond t (option_map (λ n. neg_ℤ (pos n)) (number_up_to 9223372036854775808 bs)) (option_map pos (number_up_to 9223372036854775807 (b ∷ bs))) ≡ Some z → FitsSigned w64 z
    go true e = mapped (λ n. neg_ℤ (pos n)) (number_up_to 9223372036854775808 bs) z e (λ n read is. let fits = number_fits 9223372036854775808 bs n read in subst (FitsSigned w64) is (negated_fits n (omega (arith, fits))))
    go false e = mapped pos (number_up_to 9223372036854775807 (b ∷ bs)) z e (λ n read is. let fits = number_fits 9223372036854775807 (b ∷ bs) n read in subst (FitsSigned w64) is (plain_fits n (omega (arith, fits))))

-- ---- acts, whichever nodes there are

-- coordinators may be drained
abbrev MayDrain : Option ℕ → Type 0
MayDrain None = ⊥
MayDrain (Some coords) = Unit {0}

-- all but the nodes
abbrev FitsAct : Forms → Act → Type 0
FitsAct forms (Submit coord name args) = IsWrittenCall name args
FitsAct forms (Deliver message) = (0 < message) × (message < 2 ^ 32)
FitsAct forms (Any place) = place < 2 ^ 32
FitsAct forms (Tick node) = Unit {0}
FitsAct forms (Stop shard during) = (forms.stops ≡ true) × IfSome during IsDuring
FitsAct forms (Drain coord) = MayDrain forms.coords

submission_fits : (forms : Forms) (words : List (List ℕ)) (a : Act) → submission_of words ≡ Some a → FitsAct forms a
submission_fits forms [] a e = absurd (none-some a e)
submission_fits forms (coord ∷ []) a e = absurd (none-some a e)
submission_fits forms (coord ∷ name ∷ args) a e =
    let named = chosen (is_name name) (node_number coord >>= λ c. each integer_of args >>= λ numbers. Some (Submit c name numbers)) a e in
    option_and_then_some (λ c. each integer_of args >>= λ numbers. Some (Submit c name numbers)) (node_number coord) a named.1
    (λ c read others.
    option_and_then_some (λ numbers. Some (Submit c name numbers)) (each integer_of args) a others
    (λ numbers all is. subst (FitsAct forms) (same_Some (Submit c name numbers) a is) (named.0, each_keeps integer_of (FitsSigned w64) integer_fits args numbers all)))

delivery_fits : (forms : Forms) (words : List (List ℕ)) (a : Act) → delivery_of words ≡ Some a → FitsAct forms a
delivery_fits forms [] a e = absurd (none-some a e)
delivery_fits forms (message ∷ []) a e = mapped Deliver (message_of message) a e (λ m read is. subst (FitsAct forms) is (message_fits message m read))
delivery_fits forms (message ∷ other ∷ others) a e = absurd (none-some a e)

choice_fits : (forms : Forms) (words : List (List ℕ)) (a : Act) → choice_of words ≡ Some a → FitsAct forms a
choice_fits forms [] a e = absurd (none-some a e)
choice_fits forms (place ∷ []) a e = mapped Any (choice_number place) a e (λ n read is. let fits = number_fits 4294967295 place n read in subst (FitsAct forms) is (omega (arith, fits)))
choice_fits forms (place ∷ other ∷ others) a e = absurd (none-some a e)

tick_fits : (forms : Forms) (words : List (List ℕ)) (a : Act) → tick_of words ≡ Some a → FitsAct forms a
tick_fits forms [] a e = absurd (none-some a e)
tick_fits forms (node ∷ []) a e = mapped Tick (node_of node) a e (λ n read is. subst (FitsAct forms) is tt)
tick_fits forms (node ∷ other ∷ others) a e = absurd (none-some a e)

many_fits : (word : List ℕ) (kept : Option ℕ) → kept_of word ≡ Some kept → IfSome kept (λ many. many < 2 ^ 32)
many_fits word kept e = go (bytes_eq word (codes "none")) e
  where
    go : (b : Bool) → cond b (Some None) (option_map (λ many. Some many) (choice_number word)) ≡ Some kept → IfSome kept (λ many. many < 2 ^ 32)
    go true is = subst (λ (k : Option ℕ). IfSome k (λ many. many < 2 ^ 32)) (same_Some None kept is) tt
    go false is = mapped (λ many. Some many) (choice_number word) kept is (λ n read same. let fits = number_fits 4294967295 word n read in subst (λ (k : Option ℕ). IfSome k (λ many. many < 2 ^ 32)) same (omega (arith, fits)))

during_fits : (words : List (List ℕ)) (during : Option (ℕ × Option ℕ)) → during_of words ≡ Some during → IfSome during IsDuring
during_fits [] during e = subst (λ (d : Option (ℕ × Option ℕ)). IfSome d IsDuring) (same_Some None during e) tt
during_fits (message ∷ []) during e = absurd (none-some during e)
during_fits (message ∷ kept ∷ []) during e =
    option_and_then_some (λ k. option_map (λ many. Some (k, many)) (kept_of kept)) (message_of message) during e
    (λ k read others.
    mapped (λ many. Some (k, many)) (kept_of kept) during others
    (λ many found is. subst (λ (d : Option (ℕ × Option ℕ)). IfSome d IsDuring) is (message_fits message k read, many_fits kept many found)))
during_fits (message ∷ kept ∷ other ∷ others) during e = absurd (none-some during e)

stop_fits : (forms : Forms) (words : List (List ℕ)) (a : Act) → forms.stops ≡ true → stop_of words ≡ Some a → FitsAct forms a
stop_fits forms [] a stops e = absurd (none-some a e)
stop_fits forms (node ∷ words) a stops e =
    option_and_then_some (λ n. option_map (Stop (shard_of n)) (during_of words)) (server_number node) a e
    (λ n read others. mapped (Stop (shard_of n)) (during_of words) a others (λ during found is. subst (FitsAct forms) is (stops, during_fits words during found)))

drain_fits : (forms : Forms) (words : List (List ℕ)) (a : Act) → MayDrain forms.coords → drain_of words ≡ Some a → FitsAct forms a
drain_fits forms [] a may e = absurd (none-some a e)
drain_fits forms (node ∷ []) a may e = mapped Drain (coordinator_number node) a e (λ n read is. subst (FitsAct forms) is may)
drain_fits forms (node ∷ other ∷ others) a may e = absurd (none-some a e)

further_fits : (forms : Forms) (word : List ℕ) (words : List (List ℕ)) (a : Act) → further_act forms word words ≡ Some a → FitsAct forms a
further_fits forms word words a e = go (bytes_eq word (codes "stop")) (bytes_eq word (codes "drain")) forms.stops forms.coords refl refl e
  where
    go : (p q s : Bool) (coords : Option ℕ) → forms.stops ≡ s → forms.coords ≡ coords → cond p (cond s (stop_of words) None) (cond q (drain_where coords words) None) ≡ Some a → FitsAct forms a
    go true q true coords stops drains is = stop_fits forms words a stops is
    go true q false coords stops drains is = absurd (none-some a is)
    go false true s None stops drains is = absurd (none-some a is)
    go false true s (Some n) stops drains is = drain_fits forms words a (subst MayDrain (sym drains) tt) is
    go false false s coords stops drains is = absurd (none-some a is)

act_fits : (forms : Forms) (words : List (List ℕ)) (a : Act) → act_of forms words ≡ Some a → FitsAct forms a
unfolding act_of
act_fits forms [] a e = absurd (none-some a e)
act_fits forms (word ∷ words) a e = go (bytes_eq word (codes "submit")) (bytes_eq word (codes "deliver")) (bytes_eq word (codes "any")) (bytes_eq word (codes "tick")) e
  where
    go : (p q r s : Bool) → cond p (submission_of words) (cond q (delivery_of words) (cond r (choice_of words) (cond s (tick_of words) (further_act forms word words)))) ≡ Some a → FitsAct forms a
    go true q r s is = submission_fits forms words a is
    go false true r s is = delivery_fits forms words a is
    go false false true s is = choice_fits forms words a is
    go false false false true is = tick_fits forms words a is
    go false false false false is = further_fits forms word words a is

-- ---- nodes

node_there : (forms : Forms) (shards : ℕ) (node : Node) → is_among (coordinators forms) shards node ≡ true → IsNodeFor forms shards node
node_there forms shards (Server shard) h = ltb-true shard.0 shards h
node_there forms shards (Coord number) h = ltb-true number (coordinators forms) h

drained_there : (forms : Forms) (coord : ℕ) → MayDrain forms.coords → coord < coordinators forms → IsDrained forms.coords coord
drained_there forms coord may h = go forms.coords may h
  where
    go : (coords : Option ℕ) → MayDrain coords → coord < sixteen_unless coords → IsDrained coords coord
    go None may h = absurd may
    go (Some n) may h = h

act_there : (forms : Forms) (shards : ℕ) (a : Act) → FitsAct forms a → has_node forms shards a ≡ true → IsActFor forms shards a
act_there forms shards (Submit coord name args) fits h = (ltb-true coord (coordinators forms) h, fits)
act_there forms shards (Deliver message) fits h = fits
act_there forms shards (Any place) fits h = fits
act_there forms shards (Tick node) fits h = node_there forms shards node h
act_there forms shards (Stop shard during) fits h = (fits.0, ltb-true shard.0 shards h, fits.1)
act_there forms shards (Drain coord) fits h = drained_there forms coord fits (ltb-true coord (coordinators forms) h)

-- ---- lines and requests

line_fits : (forms : Forms) (shards : ℕ) (line : ℕ × List ℕ) (l : Line) → item_of (line_at forms shards line.0 (words_of line.1)) ≡ Some l → IsActFor forms shards l.act
line_fits forms shards line l e = go (act_of forms (words_of line.1)) refl e
  where
    judged : (b : Bool) (a : Act) → has_node forms shards a ≡ b → FitsAct forms a → item_of (numbered_line line.0 (cond b (Ok a) (Err what.Node))) ≡ Some l → IsActFor forms shards l.act
    judged true a h fits e = let same : record { number = line.0; act = a } ≡ l = same_Some _ l e in subst (λ (m : Line). IsActFor forms shards m.act) same (act_there forms shards a fits h)
    judged false a h fits e = absurd (none-some l e)

    go : (o : Option Act) → act_of forms (words_of line.1) ≡ o → item_of (numbered_line line.0 (or_node forms shards (or_word o))) ≡ Some l → IsActFor forms shards l.act
    go None h e = absurd (none-some l e)
    go (Some a) h e = judged (has_node forms shards a) a refl (act_fits forms (words_of line.1) a h) e

request_fits : (number : ℕ) (words : List (List ℕ)) (r : Request) → request_of number words ≡ Some r → IsWrittenCall r.name r.args
request_fits number [] r e = absurd (none-some r e)
request_fits number (name ∷ args) r e =
    let named = chosen (is_name name) (option_map (λ numbers. record { line = number; name = name; args = numbers }) (each integer_of args)) r e in
    mapped (λ numbers. record { line = number; name = name; args = numbers }) (each integer_of args) r named.1
    (λ numbers all is. subst (λ (q : Request). IsWrittenCall q.name q.args) is (named.0, each_keeps integer_of (FitsSigned w64) integer_fits args numbers all))

asked_fits : (line : ℕ × List ℕ) (r : Request) → item_of (request_at line.0 (words_of line.1)) ≡ Some r → IsWrittenCall r.name r.args
asked_fits line r e = go (request_of line.0 (words_of line.1)) refl e
  where
    go : (o : Option Request) → request_of line.0 (words_of line.1) ≡ o → item_of (or_word o) ≡ Some r → IsWrittenCall r.name r.args
    go None h e = absurd (none-some r e)
    go (Some q) h e = request_fits line.0 (words_of line.1) r (h ∙ e)

pub schedule_fits : (forms : Forms) (shards : ℕ) (text : List ℕ) (lines : List Line) → IsSchedule forms shards text lines → AllByRecursion (λ line. IsActFor forms shards line.act) lines
schedule_fits forms shards text lines is =
    each_keeps (λ line. item_of (line_at forms shards line.0 (words_of line.1))) (λ line. IsActFor forms shards line.act) (line_fits forms shards) (numbered 1 (lines_of text)) lines is.written

pub requests_fit : (text : List ℕ) (requests : List Request) → AreRequests text requests → AllByRecursion (λ request. IsWrittenCall request.name request.args) requests
requests_fit text requests is =
    each_keeps (λ line. item_of (request_at line.0 (words_of line.1))) (λ request. IsWrittenCall request.name request.args) asked_fits (numbered 1 (lines_of text)) requests is.written
