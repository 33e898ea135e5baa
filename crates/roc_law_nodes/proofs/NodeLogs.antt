-- What a node logs over its own events: each event's line, and behind it what the event gives
use Rattle.std.proofs.Common.{◌≡◌, ℕ, Bool, true, false, List, [], ◌∷◌, ◌++◌, Ok, refl, sym, ap, subst, ◌∙◌, inl, inr, append-nil, append_assoc}
use Rattle.std.proofs.lemmas.List.Elements.{filter-append}
use Rattle.std.proofs.lemmas.Slice.Eq.{bytes_eq-Decides}
use Rattle.std.specs.Prelude.{◌⊎◌, bytes_eq, if◌then◌else◌}
use Rattle.roc_sequence.specs.Lists.{Has}
use Rattle.roc_io.specs.Packet.{Packet}
use Rattle.roc_msg.specs.declared.msg.Msg.{Msg}
use Rattle.roc_msg.specs.declared.msg.Msg.TheVariants.{Stop}
use Rattle.roc_plan.specs.Groups.{Plan}
use Rattle.roc_wire.specs.declared.header.Header.{Header}
use Rattle.roc_wire.specs.Laws.{Spells, IsRight, IsWrong}
use Rattle.roc_wire.specs.Reading.{IsBytes, datagram, pair}
use Rattle.roc_log.specs.declared.line.LogLine.{LogLine}
use Rattle.roc_log.specs.declared.line.LogLine.TheVariants.{Submit, In, Tick}
use Rattle.roc_node.specs.Judgement.{judged, with_tag}
use Rattle.roc_node.specs.declared.judging.Judged.TheVariants.{Delivery, Skipped}
use Rattle.roc_node.specs.declared.judging.Skip.TheVariants.{Tag, Fault}
use Rattle.roc_node.specs.NodeEvent.{NodeEvent, took, silent}
use Rattle.roc_fold.specs.Fold.{Core, GivenByEvent, Gives}
use Rattle.roc_fold.proofs.OneFold.{one_event}
use Rattle.roc_node_serve.specs.ServerRun.{is_stop}
use Rattle.roc_law_audit.specs.LogsOfRuns.{IsStopLine, AreStops}
use Rattle.roc_law_audit.proofs.Stopped.{idle, stop_line_gives}
use Rattle.roc_law_nodes.specs.Own.{OwnEvent, delivered, ticked, requested, stopped}
use Rattle.roc_law_nodes.specs.Turns.{is_for_core, SpellsDelivery, IsTurnOf, AreTurnsOf, no_turns, turn, skipping}
use Rattle.roc_law_nodes.specs.Logs.{CameInBytes}
use Rattle.roc_law_nodes.proofs.ServerFolds.{for_core, of_message}

-- ---- the lines of own events

-- the line of an own event; a stop of the world has none
abbrev pub IsLineOf : (tag : List ℕ) → OwnEvent → LogLine → Type 0
IsLineOf tag (delivered msg) line = (bytes : List ℕ) × SpellsDelivery tag bytes msg × (line ≡ In bytes)
IsLineOf tag ticked line = line ≡ Tick
IsLineOf tag (requested proc args) line = line ≡ Submit proc args
IsLineOf tag (stopped at) line = ⊥

-- the own events, one by one, lead a node's core from the first to this one, and these lines are logged
pub data AreLogged (plan : Plan) (header : Header) (first : Core) : List OwnEvent → Core → List LogLine → Type 0 where
  none_logged : AreLogged plan header first [] first []
  logs_more : {events : List OwnEvent} {core : Core} {lines : List LogLine} (own : OwnEvent) (line : LogLine) (g : GivenByEvent)
      → AreLogged plan header first events core lines → IsLineOf header.tag own line → Gives plan header core line g
      → AreLogged plan header first (events ++ own ∷ []) g.core (lines ++ line ∷ g.due)

pub logged_as : {plan : Plan} {header : Header} {first : Core} {events others : List OwnEvent} {core next : Core} {lines more : List LogLine}
    → AreLogged plan header first events core lines → others ≡ events → next ≡ core → more ≡ lines → AreLogged plan header first others next more
logged_as {plan} {header} {first} {events} {others} {core} {next} {lines} {more} l e c m =
    subst (λ (x : List OwnEvent). AreLogged plan header first x next more) (sym e)
    (subst (λ (x : Core). AreLogged plan header first events x more) (sym c) (subst (λ (x : List LogLine). AreLogged plan header first events core x) (sym m) l))

-- ---- and between

-- the same where other lines may stand before, between and behind
pub data AreLoggedAmid (Idle : List LogLine → Type 0) (plan : Plan) (header : Header) (first : Core) : List OwnEvent → Core → List LogLine → Type 0 where
  none_amid : (stops : List LogLine) → Idle stops → AreLoggedAmid Idle plan header first [] first stops
  more_amid : {events : List OwnEvent} {core : Core} {lines : List LogLine} (own : OwnEvent) (line : LogLine) (g : GivenByEvent) (stops : List LogLine)
      → AreLoggedAmid Idle plan header first events core lines → IsLineOf header.tag own line → Gives plan header core line g → Idle stops
      → AreLoggedAmid Idle plan header first (events ++ own ∷ []) g.core ((lines ++ line ∷ g.due) ++ stops)

amid_as : {Idle : List LogLine → Type 0} {plan : Plan} {header : Header} {first : Core} {events others : List OwnEvent} {core next : Core} {lines more : List LogLine}
    → AreLoggedAmid Idle plan header first events core lines → others ≡ events → next ≡ core → more ≡ lines → AreLoggedAmid Idle plan header first others next more
amid_as {Idle} {plan} {header} {first} {events} {others} {core} {next} {lines} {more} l e c m =
    subst (λ (x : List OwnEvent). AreLoggedAmid Idle plan header first x next more) (sym e)
    (subst (λ (x : Core). AreLoggedAmid Idle plan header first events x more) (sym c) (subst (λ (x : List LogLine). AreLoggedAmid Idle plan header first events core x) (sym m) l))

abbrev pub IsNone : List LogLine → Type 0
IsNone lines = lines ≡ []

-- none do
pub none_between : {plan : Plan} {header : Header} {first : Core} {owns : List OwnEvent} {core : Core} {lines : List LogLine} → AreLogged plan header first owns core lines
    → AreLoggedAmid IsNone plan header first owns core lines
none_between none_logged = none_amid [] refl
none_between (logs_more {lines} own line g l of gives) = amid_as (more_amid own line g [] (none_between l) of gives refl) refl refl (sym (append-nil (lines ++ line ∷ g.due)))

stops_more : (header : Header) (stops : List LogLine) (line : LogLine) → AreStops header stops → IsStopLine header line → AreStops header (stops ++ line ∷ [])
stops_more header [] line none stop = (stop, tt)
stops_more header (l ∷ stops) line (first, more) stop = (first, stops_more header stops line more stop)

one_stop : {plan : Plan} {header : Header} {first : Core} {owns : List OwnEvent} {core : Core} {lines : List LogLine} → AreLoggedAmid (AreStops header) plan header first owns core lines
    → (line : LogLine) → IsStopLine header line → AreLoggedAmid (AreStops header) plan header first owns core (lines ++ line ∷ [])
one_stop {header = header} (none_amid stops idle) line stop = none_amid (stops ++ line ∷ []) (stops_more header stops line idle stop)
one_stop {header = header} (more_amid {lines = lines} own event g stops l of gives idle) line stop =
    amid_as (more_amid own event g (stops ++ line ∷ []) l of gives (stops_more header stops line idle stop)) refl refl (append_assoc (lines ++ event ∷ g.due) stops (line ∷ []))

pub only_stop : (msg : Msg) → is_stop msg ≡ true → msg ≡ Stop
only_stop Stop e = refl
only_stop msg e = absurd (cc)

module _ (reads : (bytes : List ℕ) (header : Header) (msg : Msg) → Spells bytes header msg → datagram bytes ≡ Ok (pair header msg)) (plan : Plan) (header : Header) (first : Core) where
  abbrev Amid : List OwnEvent → Core → List LogLine → Type 0
  Amid owns core lines = AreLoggedAmid (AreStops header) plan header first owns core lines

  -- where Stops are not taken for own events, they stand between
  message_between : (events : List OwnEvent) (core : Core) (lines : List LogLine) → Amid (for_core events) core lines → (msg : Msg) (line : LogLine) (g : GivenByEvent)
      → IsLineOf header.tag (delivered msg) line → Gives plan header core line g → (b : Bool) → is_stop msg ≡ b → Amid (for_core events ++ for_core (delivered msg ∷ [])) g.core (lines ++ line ∷ g.due)
  message_between events core lines l msg line g (bytes, s, is) gives true e =
      let stop : IsStopLine header line =
      record { bytes = bytes; by = s.header; tagged = s.tagged; spells = subst (λ (m : Msg). Spells bytes s.header m) (only_stop msg e) s.spells; is = is } in
      let same : g ≡ idle core = one_event plan header core line g (idle core) gives (stop_line_gives reads plan header core line stop) in
      amid_as (one_stop l line stop) (ap (λ (x : List OwnEvent). for_core events ++ x) (of_message msg true e) ∙ append-nil (for_core events)) (ap (λ (x : GivenByEvent). x.core) same)
      (ap (λ (x : GivenByEvent). lines ++ line ∷ x.due) same)
  message_between events core lines l msg line g of gives false e =
      amid_as (more_amid (delivered msg) line g [] l of gives tt) (ap (λ (x : List OwnEvent). for_core events ++ x) (of_message msg false e)) refl (sym (append-nil (lines ++ line ∷ g.due)))

  one_between : (events : List OwnEvent) (core : Core) (lines : List LogLine) → Amid (for_core events) core lines → (own : OwnEvent) (line : LogLine) (g : GivenByEvent)
      → IsLineOf header.tag own line → Gives plan header core line g → Amid (for_core events ++ for_core (own ∷ [])) g.core (lines ++ line ∷ g.due)
  one_between events core lines l (delivered msg) line g of gives = message_between events core lines l msg line g of gives (is_stop msg) refl
  one_between events core lines l ticked line g of gives = amid_as (more_amid ticked line g [] l of gives tt) refl refl (sym (append-nil (lines ++ line ∷ g.due)))
  one_between events core lines l (requested proc args) line g of gives = amid_as (more_amid (requested proc args) line g [] l of gives tt) refl refl (sym (append-nil (lines ++ line ∷ g.due)))
  one_between events core lines l (stopped at) line g of gives = elim of [ ]

  pub stops_between : {owns : List OwnEvent} {core : Core} {lines : List LogLine} → AreLogged plan header first owns core lines → Amid (for_core owns) core lines
  stops_between none_logged = none_amid [] tt
  stops_between (logs_more {events} {core} {lines} own line g l of gives) =
      amid_as (one_between events core lines (stops_between l) own line g of gives) (filter-append is_for_core events (own ∷ [])) refl refl

-- ---- datagrams

-- what a datagram brings, it spells
abbrev pub SpellsWhatItBrings : (tag bytes : List ℕ) → Type 0
SpellsWhatItBrings tag bytes = (header : Header) (msg : Msg) → judged tag bytes ≡ Delivery header msg → SpellsDelivery tag bytes msg

abbrev pub AllSpell : (tag : List ℕ) → List NodeEvent → Type 0
AllSpell tag events = (packet : Packet) → Has (took packet) events → SpellsWhatItBrings tag packet.bytes

read_spells : (tag bytes : List ℕ) (read : Header) (msg : Msg) → Spells bytes read msg → (b : Bool) → bytes_eq read.tag tag ≡ b → (header : Header) (other : Msg)
    → (if b then Delivery read msg else Skipped Tag) ≡ Delivery header other → SpellsDelivery tag bytes other
read_spells tag bytes read msg spells true e header other is =
    let same : msg ≡ other = cc in
    subst (SpellsDelivery tag bytes) same (record { header = read; tagged = (bytes_eq-Decides read.tag tag).0 e; spells = spells })
read_spells tag bytes read msg spells false e header other is = absurd (cc)

-- whatever is of bytes
pub bytes_spell : ((bytes : List ℕ) → IsBytes bytes → IsRight bytes ⊎ IsWrong bytes) → (tag : List ℕ) (events : List NodeEvent) → CameInBytes events → AllSpell tag events
bytes_spell either tag events came packet has header msg is =
    elim (either packet.bytes (came packet has)) [
      | inl r ↦ read_spells tag packet.bytes r.header r.msg r.spells (bytes_eq r.header.tag tag) refl header msg (sym (ap (with_tag tag) r.reads) ∙ is)
      | inr r ↦ absurd (let skipped : Skipped (Fault r.fault) ≡ Delivery header msg = sym (ap (with_tag tag) r.reads) ∙ is in cc)
    ]

-- and whatever spells own events
pub turns_spell : ((bytes : List ℕ) (header : Header) (msg : Msg) → Spells bytes header msg → datagram bytes ≡ Ok (pair header msg)) → (tag : List ℕ) {events : List NodeEvent} {owns : List OwnEvent}
    → AreTurnsOf tag events owns → AllSpell tag events
turns_spell reads tag no_turns packet has header msg is = elim has [ ]
turns_spell reads tag (turn {events} {owns} event own of rest) packet has header msg is =
    elim has [
      | inl e ↦ spelled event own of e
      | inr h ↦ turns_spell reads tag rest packet h header msg is
    ]
  where
    spelled : (event : NodeEvent) (own : OwnEvent) → IsTurnOf tag event own → took packet ≡ event → SpellsDelivery tag packet.bytes msg
    spelled (took other) (delivered m) s e =
        let same : other ≡ packet = cc in
        let here : SpellsDelivery tag packet.bytes m = subst (λ (p : Packet). SpellsDelivery tag p.bytes m) same s in
        read_spells tag packet.bytes here.header m here.spells (bytes_eq here.header.tag tag) refl header msg (sym (ap (with_tag tag) (reads packet.bytes here.header m here.spells)) ∙ is)
    spelled (took other) ticked s e = elim s [ ]
    spelled (took other) (requested proc args) s e = elim s [ ]
    spelled (took other) (stopped at) s e = elim s [ ]
    spelled silent own s e = absurd (cc)
turns_spell reads tag (skipping {events} {owns} other skip skips rest) packet has header msg is =
    elim has [
      | inl e ↦ absurd (let same : packet ≡ other = cc in let skipped : Skipped skip ≡ Delivery header msg = sym skips ∙ (ap (λ (p : Packet). judged tag p.bytes) (sym same) ∙ is) in cc)
      | inr h ↦ turns_spell reads tag rest packet h header msg is
    ]
