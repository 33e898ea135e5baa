-- Which datagram is a delivery of which file.
use Rattle.std.proofs.Common.{◌≡◌, ◌≢◌, ℕ, Bool, true, false, not, ◌&&◌, ◌||◌, List, Result, Ok, Err, refl, sym, ap, ◌∙◌, bytes_eq}
use Rattle.std.proofs.lemmas.Slice.Eq.{bytes_eq-Decides}
use Rattle.std.proofs.lemmas.Bool.{false≢true}
use Rattle.std.specs.Prelude.{if◌then◌else◌}
use Rattle.roc_epoch.specs.declared.file.File.{File}
use Rattle.roc_epoch.specs.declared.file.File.TheVariants.{Neither}
use Rattle.roc_epoch.specs.Files.{file_of, is_between, is_file, is_for, own_file}
use Rattle.roc_epoch.proofs.Files.{same_file}
use Rattle.roc_msg.specs.declared.msg.Msg.{Msg}
use Rattle.roc_node.specs.declared.judging.Skip.TheVariants.{Tag}
use Rattle.roc_wire.specs.declared.fault.WireFault.{WireFault}
use Rattle.roc_wire.specs.declared.header.Header.{Header}
use Rattle.roc_wire.specs.Reading.{datagram, pair}
use Rattle.roc_grown_node.specs.declared.judging.GrownJudged.TheVariants.{Delivery, Skipped}
use Rattle.roc_grown_node.specs.Judgement.{has_grown_tag, is_delivered, is_past, grown_judged, where_delivered}
use Rattle.roc_grown_node.specs.Posting.{header_for}
use Rattle.roc_grown_node.specs.Setting.{GrownNodeSetting, HaveSameTags, own_tag}

-- a node takes notice of what is of its own file, or of neither
pub own_noticed : (switched : Bool) (msg : Msg) → is_for switched (file_of switched msg) msg ≡ true
own_noticed switched msg = go (is_between msg) where
  go : (b : Bool) → (b || is_file (own_file switched) (if b then Neither else own_file switched)) ≡ true
  go true = refl
  go false = same_file (own_file switched)

-- ---- a delivery's file

file_in : (S : GrownNodeSetting) (switched : Bool) (read : Result (Header × Msg) WireFault) (header : Header) (file : File) (msg : Msg)
    → where_delivered S switched read ≡ Delivery header file msg → file ≡ file_of switched msg
file_in S switched (Ok read) header file msg h = go (is_delivered S switched read.0 read.1) h where
  go : (b : Bool) → (if b then Delivery read.0 (file_of switched read.1) read.1 else Skipped Tag) ≡ Delivery header file msg → file ≡ file_of switched msg
  go true is = cc
  go false is = cc
file_in S switched (Err fault) header file msg h = cc

pub delivered_file : (S : GrownNodeSetting) (switched : Bool) (bytes : List ℕ) (header : Header) (file : File) (msg : Msg)
    → grown_judged S switched bytes ≡ Delivery header file msg → file ≡ file_of switched msg
delivered_file S switched bytes header file msg h = file_in S switched (datagram bytes) header file msg h

pub delivered_noticed : (S : GrownNodeSetting) (switched : Bool) (bytes : List ℕ) (header : Header) (file : File) (msg : Msg)
    → grown_judged S switched bytes ≡ Delivery header file msg → is_for switched file msg ≡ true
delivered_noticed S switched bytes header file msg h =
    ap (λ f. is_for switched f msg) (delivered_file S switched bytes header file msg h) ∙ own_noticed switched msg

-- ---- a tag tells a file

same_bytes : (a b : List ℕ) → a ≡ b → bytes_eq a b ≡ true
same_bytes a b same = (bytes_eq-Decides a b).1 same

other_bytes : (a b : List ℕ) → a ≢ b → bytes_eq a b ≡ false
other_bytes a b other = go (bytes_eq a b) refl where
  go : (c : Bool) → bytes_eq a b ≡ c → c ≡ false
  go true is = absurd (other ((bytes_eq-Decides a b).0 is))
  go false is = refl

or_true : (b c : Bool) → c ≡ true → (b || c) ≡ true
or_true true c is = refl
or_true false c is = is

or_false : (b c : Bool) → b ≡ c → (b || false) ≡ c
or_false true c is = is
or_false false c is = is

-- of one tag in one file
pick : (b : Bool) (h : Header) (f g : File) (msg : Msg) → (b ≡ true → f ≡ g) → (if b then Delivery h f msg else Skipped Tag) ≡ (if b then Delivery h g msg else Skipped Tag)
pick true h f g msg same = ap (λ f. Delivery h f msg) (same refl)
pick false h f g msg same = refl

module _ (S T : GrownNodeSetting) (same : HaveSameTags S T) (apart : S.next.tag ≢ S.header.tag) where
  -- the tag with which a node sends what is of its file, or of neither
  abbrev tag_for : (between sender : Bool) → List ℕ
  tag_for between sender = if between then S.header.tag else own_tag S sender

  -- it is taken just where notice is taken of the file
  tags_tell : (between sender receiver : Bool)
      → (bytes_eq (tag_for between sender) (own_tag T receiver) || (between && bytes_eq (tag_for between sender) T.header.tag))
      ≡ (between || is_file (own_file receiver) (if between then Neither else own_file sender))
  tags_tell true sender receiver = or_true (bytes_eq S.header.tag (own_tag T receiver)) _ (same_bytes S.header.tag T.header.tag (sym same.first))
  tags_tell false true true = or_false _ true (same_bytes S.next.tag T.next.tag (sym same.second))
  tags_tell false false false = or_false _ true (same_bytes S.header.tag T.header.tag (sym same.first))
  tags_tell false true false = or_false _ false (other_bytes S.next.tag T.header.tag (λ is. apart (is ∙ same.first)))
  tags_tell false false true = or_false _ false (other_bytes S.header.tag T.next.tag (λ is. apart (sym (is ∙ same.second))))

  -- in its file
  file_kept : (between sender receiver : Bool) → (between || is_file (own_file receiver) (if between then Neither else own_file sender)) ≡ true
      → (if between then Neither else own_file receiver) ≡ (if between then Neither else own_file sender)
  file_kept true sender receiver is = refl
  file_kept false true true is = refl
  file_kept false false false is = refl
  file_kept false true false is = absurd (false≢true is)
  file_kept false false true is = absurd (false≢true is)

  pub sent_is_judged : (sender receiver : Bool) (msg : Msg) (bytes : List ℕ) → is_past T.next.coords S.header.from ≡ false
      → datagram bytes ≡ Ok (pair (header_for S sender msg) msg)
      → grown_judged T receiver bytes ≡ (if is_for receiver (file_of sender msg) msg then Delivery (header_for S sender msg) (file_of sender msg) msg else Skipped Tag)
  sent_is_judged sender receiver msg bytes here read =
      let h = header_for S sender msg in
      ap (where_delivered T receiver) read
      ∙ ap (λ p. if not p && has_grown_tag T receiver h.tag msg then Delivery h (file_of receiver msg) msg else Skipped Tag) here
      ∙ ap (λ b. if b then Delivery h (file_of receiver msg) msg else Skipped Tag) (tags_tell (is_between msg) sender receiver)
      ∙ pick (is_for receiver (file_of sender msg) msg) h (file_of receiver msg) (file_of sender msg) msg (file_kept (is_between msg) sender receiver)
