-- A datagram of a message that was sent brings it as one of its file, where the tags of the two files differ
use Rattle.std.proofs.Common.{◌≡◌, ◌≢◌, ℕ, ◌&&◌, ◌||◌, not, Bool, true, false, List, Ok, refl, sym, subst, ◌∙◌}
use Rattle.std.proofs.lemmas.Bool.{false≢true}
use Rattle.std.proofs.lemmas.Slice.Eq.{bytes_eq-Decides}
use Rattle.std.specs.Prelude.{bytes_eq, if◌then◌else◌}
use Rattle.roc_base.specs.declared.node.Node.{Node}
use Rattle.roc_base.specs.declared.node.Node.TheVariants.{Server, Coord}
use Rattle.roc_io.specs.Packet.{Packet}
use Rattle.roc_msg.specs.declared.msg.Msg.{Msg}
use Rattle.roc_wire.specs.declared.header.Header.{Header}
use Rattle.roc_wire.specs.Laws.{Spells}
use Rattle.roc_wire.specs.Reading.{datagram, pair}
use Rattle.roc_epoch.specs.declared.file.File.{File}
use Rattle.roc_epoch.specs.declared.file.File.TheVariants.{Neither}
use Rattle.roc_epoch.specs.Files.{is_between, own_file, file_of}
use Rattle.roc_two_files.specs.Sealed.{Sealed}
use Rattle.roc_node.specs.NodeEvent.{took}
use Rattle.roc_node.specs.declared.judging.Skip.TheVariants.{Tag}
use Rattle.roc_node_serve.specs.ServerRun.{is_stop}
use Rattle.roc_grown_node.specs.Setting.{GrownNodeSetting, own_tag}
use Rattle.roc_grown_node.specs.Judgement.{is_past, is_delivered, where_delivered}
use Rattle.roc_grown_node.specs.Posting.{header_for}
use Rattle.roc_grown_node.specs.declared.judging.GrownJudged.TheVariants.{Delivery, Skipped}
use Rattle.roc_law_grown_nodes.specs.GrownInterleaved.{AllGrownSettings, grown_setting_at, WasSentAs, IsFiledSent, IsGrownJudgedSent, IsGrownCaused}

second_holds : (a b : Bool) → (a && b) ≡ true → b ≡ true
second_holds true b e = e
second_holds false b e = absurd (false≢true e)

module _ (N : AllGrownSettings) (apart : N.tag ≢ N.next.tag) where
  abbrev tag_by : Bool → List ℕ
  tag_by switched = if switched then N.next.tag else N.tag

  own_at : (node : Node) (switched : Bool) → own_tag (grown_setting_at N node) switched ≡ tag_by switched
  own_at (Server shard) switched = refl
  own_at (Coord number) switched = refl

  one_file : (by switched : Bool) → tag_by by ≡ tag_by switched → own_file by ≡ own_file switched
  one_file true true e = refl
  one_file false false e = refl
  one_file true false e = absurd (apart (sym e))
  one_file false true e = absurd (apart e)

  -- where a message is no drained and no switched, the tag is that of the file
  by_tag : (from to : Node) (by switched : Bool) (between : Bool)
      → (bytes_eq (if between then N.tag else own_tag (grown_setting_at N from) by) (own_tag (grown_setting_at N to) switched)
      || (between && bytes_eq (if between then N.tag else own_tag (grown_setting_at N from) by) N.tag)) ≡ true
      → (if between then Neither else own_file by) ≡ (if between then Neither else own_file switched)
  by_tag from to by switched true e = refl
  by_tag from to by switched false e =
      let same : own_tag (grown_setting_at N from) by ≡ own_tag (grown_setting_at N to) switched =
      (bytes_eq-Decides (own_tag (grown_setting_at N from) by) (own_tag (grown_setting_at N to) switched)).0 (first_holds _ e) in
      one_file by switched (sym (own_at from by) ∙ (same ∙ own_at to switched))
    where
      first_holds : (a : Bool) → (a || false) ≡ true → a ≡ true
      first_holds true f = refl
      first_holds false f = f

  module _ (reads : (bytes : List ℕ) (header : Header) (msg : Msg) → Spells bytes header msg → datagram bytes ≡ Ok (pair header msg))
      (sent : List Sealed) (from to : Node) (by switched : Bool) (msg : Msg) (packet : Packet) where
    abbrev header : Header
    header = header_for (grown_setting_at N from) by msg

    abbrev own : GrownNodeSetting
    own = grown_setting_at N to

    pub spelled_is_caused : Spells packet.bytes header msg → WasSentAs sent to (file_of by msg) msg → IsGrownCaused own switched sent to (took packet)
    spelled_is_caused spells was =
        subst (λ r. IsGrownJudgedSent sent to (where_delivered own switched r)) (sym (reads packet.bytes header msg spells)) (go (is_delivered own switched header msg) refl)
      where
        sent_so : (stops : Bool) → is_delivered own switched header msg ≡ true → IsFiledSent sent to stops (file_of switched msg) msg
        sent_so true e = tt
        sent_so false e =
            subst (λ (file : File). WasSentAs sent to file msg) (by_tag from to by switched (is_between msg) (second_holds (not (is_past own.next.coords header.from)) _ e)) was

        go : (b : Bool) → is_delivered own switched header msg ≡ b → IsGrownJudgedSent sent to (if b then Delivery header (file_of switched msg) msg else Skipped Tag)
        go true e = sent_so (is_stop msg) e
        go false e = tt
