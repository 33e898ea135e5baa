-- Messages with the files that stand beside them
use Rattle.std.proofs.Common.{◌≡◌, ℕ, zero, suc, ◌+◌, ◌-◌, ◌<◌, ◌≤◌, List, [], ◌∷◌, ◌++◌, Some, length, get_or, slice_get, refl, sym, ap, ◌∙◌, arith}
use Rattle.std.proofs.lemmas.List.{length_push}
use Rattle.std.proofs.lemmas.Option.{slice_get-get_or}
use Rattle.std.specs.List.{AllByRecursion}
use Rattle.roc_sequence.proofs.Holds.{all_has}
use Rattle.roc_sequence.proofs.Members.{has_at}
use Rattle.roc_msg.specs.declared.msg.Envelope.{Envelope}
use Rattle.roc_law_protocol.specs.Fits.{IsNode}
use Rattle.roc_law_world.specs.Fits.{IsSentHere}
use Rattle.roc_epoch.specs.declared.file.File.{File}
use Rattle.roc_two_files.specs.Sealed.{Sealed}
use Rattle.roc_growth.specs.Quiet.{messages_of}
use Rattle.roc_world.specs.Reads.{files_of}
use Rattle.roc_world.specs.Inner.Messages.{sealed_all, AreSealed}
use Rattle.roc_world.proofs.Numbers.{numbered_pushed}

one_fewer : (a b : ℕ) → suc a ≡ suc b → a ≡ b
one_fewer a b e = omega arith

none_fewer : (b : ℕ) → 0 ≡ suc b → ⊥
none_fewer b e = omega arith

none_more : (a : ℕ) → suc a ≡ 0 → ⊥
none_more a e = omega arith

same_inside : {A : Type 0} (x y : A) → Some x ≡ Some y → x ≡ y
same_inside x y e = cc

pub messages_stand : (files : List File) (messages : List Envelope) → length files ≡ length messages → messages_of (sealed_all files messages) ≡ messages
messages_stand [] [] e = refl
messages_stand [] (m ∷ messages) e = absurd (none_fewer (length messages) e)
messages_stand (f ∷ files) [] e = absurd (none_more (length files) e)
messages_stand (f ∷ files) (m ∷ messages) e = ap (λ ms. m ∷ ms) (messages_stand files messages (one_fewer (length files) (length messages) e))

pub files_stand : (files : List File) (messages : List Envelope) → length files ≡ length messages → files_of (sealed_all files messages) ≡ files
files_stand [] messages e = refl
files_stand (f ∷ files) [] e = absurd (none_more (length files) e)
files_stand (f ∷ files) (m ∷ messages) e = ap (λ fs. f ∷ fs) (files_stand files messages (one_fewer (length files) (length messages) e))

pub as_many : (files : List File) (messages : List Envelope) → length files ≡ length messages → length (sealed_all files messages) ≡ length messages
as_many [] [] e = refl
as_many [] (m ∷ messages) e = absurd (none_fewer (length messages) e)
as_many (f ∷ files) [] e = absurd (none_more (length files) e)
as_many (f ∷ files) (m ∷ messages) e = ap suc (as_many files messages (one_fewer (length files) (length messages) e))

-- one more of each
pub sealed_more : (files : List File) (messages : List Envelope) (f : File) (m : Envelope) → length files ≡ length messages
    → sealed_all (files ++ f ∷ []) (messages ++ m ∷ []) ≡ sealed_all files messages ++ record { file = f; message = m } ∷ []
sealed_more [] [] f m e = refl
sealed_more [] (n ∷ messages) f m e = absurd (none_fewer (length messages) e)
sealed_more (g ∷ files) [] f m e = absurd (none_more (length files) e)
sealed_more (g ∷ files) (n ∷ messages) f m e = ap (λ xs. record { file = g; message = n } ∷ xs) (sealed_more files messages f m (one_fewer (length files) (length messages) e))

-- what stands at a place of each is what is sealed there
pub message_at : (files : List File) (messages : List Envelope) (i : ℕ) (m : Sealed) → slice_get (sealed_all files messages) i ≡ Some m → slice_get messages i ≡ Some m.message
message_at [] messages i m e = absurd (cc)
message_at (f ∷ files) [] i m e = absurd (cc)
message_at (f ∷ files) (n ∷ messages) zero m e = ap (λ (s : Sealed). Some s.message) (same_inside (record { file = f; message = n }) m e)
message_at (f ∷ files) (n ∷ messages) (suc i) m e = message_at files messages i m e

pub file_at : (files : List File) (messages : List Envelope) (i : ℕ) (m : Sealed) → slice_get (sealed_all files messages) i ≡ Some m → slice_get files i ≡ Some m.file
file_at [] messages i m e = absurd (cc)
file_at (f ∷ files) [] i m e = absurd (cc)
file_at (f ∷ files) (n ∷ messages) zero m e = ap (λ (s : Sealed). Some s.file) (same_inside (record { file = f; message = n }) m e)
file_at (f ∷ files) (n ∷ messages) (suc i) m e = file_at files messages i m e

-- what was read at a place is what stands there
pub read_is : {A : Type 0} (xs lent : List A) (i : ℕ) (x y : A) → i < length xs → lent ≡ xs → x ≡ get_or lent i x → slice_get xs i ≡ Some y → x ≡ y
read_is xs lent i x y within same is there =
    let found : slice_get xs i ≡ Some x = slice_get-get_or xs i x within ∙ ap Some (sym (is ∙ ap (λ ys. get_or ys i x) same)) in
    same_inside x y (sym found ∙ there)

-- a message that was sent, of which file and text were read one by one
pub sealed_there :
    (sent : List Sealed) (number : ℕ) (file : File) (message : Envelope) → 0 < number → number ≤ length sent
    → ((m : Sealed) → slice_get sent (number - 1) ≡ Some m → file ≡ m.file) → ((m : Sealed) → slice_get sent (number - 1) ≡ Some m → message ≡ m.message)
    → slice_get sent (number - 1) ≡ Some (record { file = file; message = message })
sealed_there sent number file message some known files messages =
    let here : Sealed = get_or sent (number - 1) (record { file = file; message = message }) in
    let there : slice_get sent (number - 1) ≡ Some here = slice_get-get_or sent (number - 1) (record { file = file; message = message }) (omega (arith, some, known)) in
    let its : file ≡ here.file = files here there in
    let text : message ≡ here.message = messages here there in
    there ∙ sym (λ i. Some (record { file = its i; message = text i }))

-- what is in range of the sealed messages is so of each list
pub within_messages : (files : List File) (messages : List Envelope) (sent : List Sealed) (number : ℕ) → length files ≡ length messages → sealed_all files messages ≡ sent → 0 < number → number ≤ length sent → number - 1 < length messages
within_messages files messages sent number each is some known = let many : length sent ≡ length messages = ap length (sym is) ∙ as_many files messages each in omega arith

pub within_files : (files : List File) (messages : List Envelope) (sent : List Sealed) (number : ℕ) → length files ≡ length messages → sealed_all files messages ≡ sent → 0 < number → number ≤ length sent → number - 1 < length files
within_files files messages sent number each is some known = let many = within_messages files messages sent number each is some known in omega arith

-- ---- one message more

pub one_sealed : (files filed : List File) (sent more : List Envelope) (f g : File) (m : Envelope) → length files ≡ length sent → filed ≡ files ++ f ∷ [] → more ≡ sent ++ m ∷ [] → f ≡ g
    → sealed_all filed more ≡ sealed_all files sent ++ record { file = g; message = m } ∷ []
one_sealed files filed sent more f g m each is_filed is_more is =
    (λ i. sealed_all (is_filed i) (is_more i)) ∙ (sealed_more files sent f m each ∙ (λ i. sealed_all files sent ++ record { file = is i; message = m } ∷ []))

pub sealed_pushed : (files filed : List File) (sent more : List Envelope) (numbers numbered : List ℕ) (f : File) (m : Envelope) (n : ℕ) → AreSealed files sent numbers
    → filed ≡ files ++ f ∷ [] → more ≡ sent ++ m ∷ [] → n ≡ length more → numbered ≡ numbers ++ n ∷ [] → AreSealed filed more numbered
sealed_pushed files filed sent more numbers numbered f m n h is_filed is_more is_n is_numbered =
    let long : length more ≡ length sent + 1 = ap length is_more ∙ length_push sent m in
    record {
      each = ap length is_filed ∙ (length_push files f ∙ (ap (λ k. k + 1) h.each ∙ sym long));
      numbered = numbered_pushed (length sent) numbers numbered (length more) n h.numbered long is_n is_numbered;
    }

-- a message goes to a node that is there
pub receiver_is_here :
    (servers coords : ℕ) (sent : List Sealed) (number : ℕ) (m : Sealed) → AllByRecursion (λ m. IsSentHere servers coords m.message) sent → slice_get sent (number - 1) ≡ Some m
    → IsNode servers coords m.message.to
receiver_is_here servers coords sent number m all there =
    (all_has (λ (m : Sealed). IsSentHere servers coords m.message) m sent all (has_at sent (number - 1) m there)).to
