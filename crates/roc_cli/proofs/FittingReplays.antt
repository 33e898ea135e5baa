-- Why nothing is wrong with a replay whose words and files fit
use Rattle.std.proofs.Common.{◌≡◌, inl, inr, ℕ, ◌≤◌, List, length, Option, Some, None, Ok, Err, refl, sym, ap, subst, ◌∙◌, arith}
use Rattle.std.proofs.lemmas.Option.{same_Some}
use Rattle.roc_program.specs.Program.{Workload}
use Rattle.roc_plan.specs.Groups.{Plan}
use Rattle.roc_epoch.specs.declared.fault.GrowthFault.{GrowthFault}
use Rattle.roc_epoch.specs.declared.next.Next.{Next}
use Rattle.roc_epoch.specs.Growth.{IsGrowth}
use Rattle.roc_report.specs.Checked.{CheckedLine}
use Rattle.roc_check.specs.Checked.{IsTextOf}
use Rattle.roc_sched.specs.declared.fault.What.{What as ScheduleWhat}
use Rattle.roc_sched.specs.Schedule.{most_bytes}
use Rattle.roc_replay.specs.Ended.{IsTextFault}
use Rattle.roc_cli_words.specs.Commands.{Command, replay}
use Rattle.roc_cli_nodes.specs.Call.{RunCall}
use Rattle.roc_cli_nodes.specs.Words.{node_files, workload_of, NamesProgram, NamesWorkload, NamesNodeFiles}
use Rattle.roc_cli_nodes.proofs.Naming.{same_name, no_name, as_workload, replay_schedule, replay_growth}
use Rattle.roc_cli_files.specs.Held.{NodeFiles, HoldsRejected}
use Rattle.roc_cli_files.specs.NodeNames.{tag_of_bytes, HoldsNext, HoldsNoGrowth, HoldsGrowth}
use Rattle.roc_cli.specs.Done.{IsReplayUnder, IsReplayOf, HoldsFollowing, ComesToNext, in_replay, in_nodes, ComesToWorkload}
use Rattle.roc_cli.specs.Refused.{AreRefusedWords, IsRefusedNext, long_next, no_next_text, next_out_of_scope, no_growth, same_tag, long_later, bad_later}
use Rattle.roc_cli.specs.Refused.{IsRefused, long_workload, no_text, out_of_scope, long_schedule, bad_next, bad_schedule, long_cluster, bad_cluster, long_requests, bad_requests, bad_logs}
use Rattle.roc_cli.specs.Fit.{ReplayAsked, TellsNext, TellsFollowing, ReplayFits, IsFit}
use Rattle.roc_cli.specs.Inner.Faultless.{IsFaultless}
use Rattle.roc_cli.specs.Inner.Texts.{TextLaws}
use Rattle.roc_cli.proofs.Commands.{not_audit, refused_logs, Comes, refused_next}
use Rattle.roc_cli.proofs.Fitting.{told, told_more, not_long, not_faulty, in_scope, same_plan, not_rejected, words_taken, check_faultless, print_faultless, gen_faultless}

-- ---- a workload to grow to

abbrev next_with : Plan → (tag : List ℕ) → (coords : ℕ) → Next
next_with plan tag coords = record { plan = plan; tag = tag; coords = coords }

module _ (laws : TextLaws) (content : List ℕ → Option (List ℕ)) (plan : Plan) where
  -- what is told is what is held
  pub same_next : (name : List ℕ) (coords : ℕ) (n m : Next) → TellsNext content name plan coords n → HoldsNext content name plan.program coords m → m ≡ n
  same_next name coords n m t h =
      let e : m.plan ≡ n.plan = same_plan laws content name t.bytes t.held n.plan t.planned name m.plan refl h.held.0 in
      let f : t.bytes ≡ h.held.0.bytes = told content name name t.bytes h.held.0.bytes t.held refl h.held.0.held in
      let g : m.tag ≡ n.tag = h.held.1 ∙ (ap tag_of_bytes (sym f) ∙ sym t.tagged) in
      let k : m.coords ≡ n.coords = h.count ∙ sym t.count in
      ap (λ (p : Plan). next_with p m.tag m.coords) e ∙ (ap (λ (s : List ℕ). next_with n.plan s m.coords) g ∙ ap (λ (c : ℕ). next_with n.plan n.tag c) k)

  pub same_following : (growth : Option (List ℕ × ℕ)) (n m : Option Next) → TellsFollowing content plan growth n → HoldsFollowing content plan growth m → m ≡ n
  same_following None None None t h = refl
  same_following None None (Some m) t h = absurd h
  same_following None (Some n) m t h = absurd t
  same_following (Some growth) None m t h = absurd t
  same_following (Some growth) (Some n) None t h = absurd h
  same_following (Some growth) (Some n) (Some m) t h = ap Some (same_next growth.0 growth.1 n m t h)

  -- ..and so is what nodes grow to
  pub same_grown : (tag : List ℕ) (growth : Option (List ℕ × ℕ)) (n m : Option Next) → TellsFollowing content plan growth n → HoldsGrowth content growth plan.program tag m → m ≡ n
  same_grown tag None None None t h = refl
  same_grown tag None None (Some m) t h = absurd h
  same_grown tag None (Some n) m t h = absurd t
  same_grown tag (Some growth) None m t h = absurd t
  same_grown tag (Some growth) (Some n) None t h = absurd h
  same_grown tag (Some growth) (Some n) (Some m) t h = ap Some (same_next growth.0 growth.1 n m t h.0)

-- where one is named, one is told
pub told_next : (content : List ℕ → Option (List ℕ)) (plan : Plan) (name : List ℕ) (coords : ℕ) (growth : Option (List ℕ × ℕ)) (n : Option Next) → growth ≡ Some (name, coords)
    → TellsFollowing content plan growth n → (next : Next) × TellsNext content name plan coords next × (n ≡ Some next)
told_next content plan name coords growth None e t = absurd (subst (λ g. TellsFollowing content plan g None) e t)
told_next content plan name coords growth (Some n) e t = (n, subst (λ g. TellsFollowing content plan g (Some n)) e t, refl)

-- ..and one is held
pub held_next : (content : List ℕ → Option (List ℕ)) (plan : Plan) (name : List ℕ) (coords : ℕ) (growth : Option (List ℕ × ℕ)) (n : Option Next) → growth ≡ Some (name, coords)
    → HoldsFollowing content plan growth n → (next : Next) × HoldsNext content name plan.program coords next
held_next content plan name coords growth None e h = absurd (subst (λ g. HoldsFollowing content plan g None) e h)
held_next content plan name coords growth (Some n) e h = (n, subst (λ g. HoldsFollowing content plan g (Some n)) e h)

-- ---- the words, the workload and the schedule

module _ (laws : TextLaws) (call : RunCall) (asked : ReplayAsked call) where
  abbrev content : List ℕ → Option (List ℕ)
  content = call.files.content

  abbrev pub command : Command
  command = replay asked.workload asked.schedule asked.growth

  the_workload : (name : List ℕ) → NamesWorkload call.words name → name ≡ asked.workload
  the_workload name names = same_name workload_of call.words name asked.workload names (command, asked.given, refl)

  the_program : (name : List ℕ) → NamesProgram call.words name → name ≡ asked.workload
  the_program name names = the_workload name (as_workload call.words name names)

  pub no_nodes : (files : NodeFiles) → NamesNodeFiles call.words files → ⊥
  no_nodes = no_name node_files call.words command asked.given refl

  pub asked_taken : (line : List ℕ) → AreRefusedWords call line → ⊥
  asked_taken = words_taken call command asked.given no_nodes

  -- whatever is replayed is this
  module _ (plan : Plan) (bytes : List ℕ) (under : IsReplayUnder call plan bytes) where
    pub same_asked : plan ≡ asked.plan
    same_asked =
        same_plan laws content asked.workload asked.bytes asked.held asked.plan asked.planned under.workload plan
        (the_program under.workload (replay under.workload under.schedule under.growth, under.given, refl)) under.of_workload

    pub same_text : asked.text ≡ bytes
    same_text =
        told content asked.schedule under.schedule asked.text bytes asked.scheduled
        (replay_schedule call.words asked.workload asked.schedule under.workload under.schedule asked.growth under.growth asked.given under.given) under.of_schedule

    pub same_growth : under.growth ≡ asked.growth
    same_growth = replay_growth call.words asked.workload asked.schedule under.workload under.schedule asked.growth under.growth asked.given under.given

  -- and so is what grows
  comes_plan : (name : List ℕ) (plan : Plan) → ComesToNext call name plan → plan ≡ asked.plan
  comes_plan name plan (in_replay bytes coords under is) = same_asked plan bytes under
  comes_plan name plan (in_nodes files tag addrs requests coords named held is) = absurd (no_nodes files named)

  pub comes_named : (name : List ℕ) (plan : Plan) → ComesToNext call name plan → (coords : ℕ) × (asked.growth ≡ Some (name, coords))
  comes_named name plan (in_replay bytes coords under is) = (coords, sym (same_growth plan bytes under) ∙ is)
  comes_named name plan (in_nodes files tag addrs requests coords named held is) = absurd (no_nodes files named)

  -- what follows a replay's workload
  pub following : (plan : Plan) (next : Option Next) (bytes : List ℕ) (of : IsReplayOf call plan next bytes) → HoldsFollowing content asked.plan asked.growth next
  following plan next bytes of =
      subst (λ g. HoldsFollowing content asked.plan g next) (same_growth plan bytes of.under)
      (subst (λ (p : Plan). HoldsFollowing content p of.under.growth next) (same_asked plan bytes of.under) of.of_next)

  -- only a schedule that is too long, a workload to grow to and the run are refused
  pub asked_right : length asked.text ≤ most_bytes → ((line : List ℕ) → IsRefusedNext call line → ⊥)
      → ((plan : Plan) (next : Option Next) (bytes : List ℕ) → IsReplayOf call plan next bytes → (number : ℕ) (what : ScheduleWhat)
      → IsTextFault plan next bytes number what call.out.old call.out.new → ⊥)
      → (line : List ℕ) → IsRefused call line → ⊥
  asked_right few no_next no_run _ (long_workload workload names more same) =
      not_long laws content asked.workload asked.bytes asked.held asked.planned.text.tree asked.planned.text.text workload (the_workload workload names) more
  asked_right few no_next no_run _ (no_text workload line what names held same) =
      not_faulty laws content asked.workload asked.bytes asked.held asked.planned.text.tree asked.planned.text.text workload line what (the_workload workload names) held
  asked_right few no_next no_run _ (out_of_scope workload fault names held same) =
      in_scope laws content asked.workload asked.bytes asked.held asked.plan.program asked.planned.text workload fault (the_program workload names) held
  asked_right few no_next no_run _ (long_schedule workload schedule growth plan given planned more same) =
      let past = told_more content asked.schedule schedule asked.text most_bytes asked.scheduled
      (replay_schedule call.words asked.workload asked.schedule workload schedule asked.growth growth asked.given given) more in
      absurd (omega arith)
  asked_right few no_next no_run _ (bad_next line refused same) = no_next line refused
  asked_right few no_next no_run _ (bad_schedule plan next bytes of number what h) = no_run plan next bytes of number what h
  asked_right few no_next no_run _ (long_cluster files plan names planned more same) = no_nodes files names
  asked_right few no_next no_run _ (bad_cluster files plan fault names planned held same) = no_nodes files names
  asked_right few no_next no_run _ (long_requests files plan addrs name names planned held is more same) = no_nodes files names
  asked_right few no_next no_run _ (bad_requests files plan addrs name number what names planned held is not same) = no_nodes files names
  asked_right few no_next no_run _ (bad_logs line refused same) = not_audit ⊥ call.words command asked.given refl (refused_logs call line refused)

  -- only a workload to grow to is not acceptable
  pub asked_acceptable : ((name : List ℕ) (plan : Plan) (program : Workload) (said : CheckedLine) → ComesToNext call name plan → HoldsRejected content name program said → ⊥)
      → (name : List ℕ) (program : Workload) (said : CheckedLine) → ComesToWorkload call name → HoldsRejected content name program said → ⊥
  asked_acceptable none name program said (inl names) held =
      not_rejected laws content asked.workload asked.bytes asked.held asked.plan asked.planned name program said (the_program name names) held
  asked_acceptable none name program said (inr (plan, comes)) held = none name plan program said comes held

  pub its_name : (name : List ℕ) (coords : ℕ) → asked.growth ≡ Some (name, coords) → (other : List ℕ) (plan : Plan) → ComesToNext call other plan → other ≡ name
  its_name name coords is other plan comes = let found = comes_named other plan comes in ap (λ (p : List ℕ × ℕ). p.0) (same_Some _ (name, coords) (sym found.1 ∙ is))

  -- a workload to grow to is not refused where it is in scope, and a grown one, if it has a plan
  module _ (name bytes : List ℕ) (coords : ℕ) (is : asked.growth ≡ Some (name, coords)) (held : content name ≡ Some bytes) (program : Workload) (text : IsTextOf bytes program) where
    abbrev same : (other : List ℕ) (plan : Plan) → ComesToNext call other plan → other ≡ name
    same = its_name name coords is

    pub next_right : ((fault : GrowthFault) → HoldsNoGrowth content name asked.plan.program fault → ⊥) → (line : List ℕ) → IsRefusedNext call line → ⊥
    next_right grows _ (long_next other plan comes more) = not_long laws content name bytes held text.tree text.text other (same other plan comes) more
    next_right grows _ (no_next_text other plan line what comes not) = not_faulty laws content name bytes held text.tree text.text other line what (same other plan comes) not
    next_right grows _ (next_out_of_scope other plan fault comes not) = in_scope laws content name bytes held program text other fault (same other plan comes) not
    next_right grows _ (no_growth other plan fault comes not) =
        grows fault
        (subst (λ (n : List ℕ). HoldsNoGrowth content n asked.plan.program fault) (same other plan comes)
        (subst (λ (p : Plan). HoldsNoGrowth content other p.program fault) (comes_plan other plan comes) not))
    next_right grows _ (same_tag files plan tag addrs requests other many next named first others follows same) = no_nodes files named
    next_right grows _ (long_later other plan next comes more) = no_nodes comes.files comes.named
    next_right grows _ (bad_later other plan next number what comes not) = no_nodes comes.files comes.named

-- ---- a replay that fits

-- one that is told is grown
pub is_grown : (laws : TextLaws) (content : List ℕ → Option (List ℕ)) (plan : Plan) (name : List ℕ) (coords : ℕ) (next : Next) → TellsNext content name plan coords next → (fault : GrowthFault)
    → HoldsNoGrowth content name plan.program fault → ⊥
is_grown laws content plan name coords next t fault h =
    let e : h.plan ≡ next.plan = same_plan laws content name t.bytes t.held next.plan t.planned name h.plan refl h.held in
    let is : IsGrowth plan.program next.plan.program (Err fault) = subst (λ (p : Plan). IsGrowth plan.program p.program (Err fault)) e h.is in
    let both : Ok tt ≡ Err fault = laws.one_growth plan.program next.plan.program (Ok tt) (Err fault) t.grown is in
    absurd (cc)

module _ (laws : TextLaws) (call : RunCall) (fit : ReplayFits call) where
  abbrev asked : ReplayAsked call
  asked = fit.asked

  -- what is to grow is told
  grows_told : (name : List ℕ) (plan : Plan) → ComesToNext call name plan → (coords : ℕ) × (asked.growth ≡ Some (name, coords)) × (next : Next) × TellsNext call.files.content name asked.plan coords next
  grows_told name plan comes =
      let found = comes_named laws call asked name plan comes in
      let tells = told_next call.files.content asked.plan name found.0 asked.growth fit.next found.1 fit.following in
      (found.0, found.1, tells.0, tells.1)

  no_bad_next : (line : List ℕ) → IsRefusedNext call line → ⊥
  no_bad_next line refused = go (refused_next call line refused)
    where
      go : Comes call → ⊥
      go (inl (name, plan, comes)) =
          let found = grows_told name plan comes in
          let t = found.3 in
          next_right laws call asked name t.bytes found.0 found.1 t.held found.2.plan.program t.planned.text (is_grown laws call.files.content asked.plan name found.0 found.2 t) line refused
      go (inr (name, plan, next, comes)) = no_nodes laws call asked comes.files comes.named

  no_bad_run : (plan : Plan) (next : Option Next) (bytes : List ℕ) → IsReplayOf call plan next bytes → (number : ℕ) (what : ScheduleWhat)
      → IsTextFault plan next bytes number what call.out.old call.out.new → ⊥
  no_bad_run plan next bytes of number what h =
      let n : next ≡ fit.next = same_following laws call.files.content asked.plan asked.growth fit.next next fit.following (following laws call asked plan next bytes of) in
      laws.no_text_fault asked.plan fit.next asked.text fit.lines fit.of_text fit.sends number what call.out.old call.out.new
      (subst (λ b. IsTextFault asked.plan fit.next b number what call.out.old call.out.new) (sym (same_text laws call asked plan bytes of.under))
      (subst (λ (m : Option Next). IsTextFault asked.plan m bytes number what call.out.old call.out.new) n
      (subst (λ (p : Plan). IsTextFault p next bytes number what call.out.old call.out.new) (same_asked laws call asked plan bytes of.under) h)))

  no_bad_workload : (name : List ℕ) (plan : Plan) (program : Workload) (said : CheckedLine) → ComesToNext call name plan → HoldsRejected call.files.content name program said → ⊥
  no_bad_workload name plan program said comes held =
      let found = grows_told name plan comes in
      let t = found.3 in
      not_rejected laws call.files.content name t.bytes t.held found.2.plan t.planned name program said refl held

  replay_faultless : IsFaultless call
  replay_faultless = record {
    taken = asked_taken laws call asked;
    acceptable = λ h. asked_acceptable laws call asked no_bad_workload h.workload h.program h.said h.named h.held;
    right = asked_right laws call asked fit.of_text.schedule.size no_bad_next no_bad_run;
  }

pub faultless : (laws : TextLaws) (call : RunCall) → IsFit call → IsFaultless call
faultless laws call (inl fit) = replay_faultless laws call fit
faultless laws call (inr (inl fit)) = print_faultless laws call fit
faultless laws call (inr (inr (inl fit))) = check_faultless laws call fit
faultless laws call (inr (inr (inr (seed, shards, txns, part, given)))) = gen_faultless laws call seed shards txns part given
