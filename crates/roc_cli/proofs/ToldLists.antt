-- What is held and said of a request file that is told
use Rattle.std.proofs.Common.{◌≡◌, ℕ, ◌<◌, ◌≤◌, List, length, Option, Some, IfSome, refl, sym, ap, subst, ◌∙◌, arith}
use Rattle.roc_program.specs.Program.{Workload}
use Rattle.roc_sched.specs.declared.fault.What.{What}
use Rattle.roc_sched.specs.declared.line.Request.{Request}
use Rattle.roc_sched.specs.FaultText.{what_text}
use Rattle.roc_sched.specs.Schedule.{most_bytes}
use Rattle.roc_cli_files.specs.Held.{Holds, HoldsMore, HoldsRequests, HoldsNoRequests}
use Rattle.roc_cli_files.specs.Requests.{AreRequestsOf, IsRequestsFault}
use Rattle.roc_cli_files.specs.Says.{long_line, fault_line}
use Rattle.roc_cli.specs.Unfit.{AreNoRequests, IsListLine, list_too_long}
use Rattle.roc_cli.specs.Unfit.{list_faulty}
use Rattle.roc_cli.specs.Inner.Texts.{TextLaws}
use Rattle.roc_cli.proofs.Fitting.{told, told_more}
use Rattle.roc_cli.proofs.FittingNodes.{list_is_right}
use Rattle.roc_cli.proofs.FaultyFiles.{one_requests_fault}

module _ (laws : TextLaws) (content : List ℕ → Option (List ℕ)) (name list : List ℕ) (held : content name ≡ Some list) where
  held_as_told : Holds content name list
  held_as_told = subst (λ o. IfSome o (λ b. b ≡ list)) (sym held) refl

  -- a file that has too many bytes or a fault is none
  pub right_list_said : (program : Workload) (line : List ℕ) → IsListLine name list program line → AreNoRequests program list
  right_list_said program _ (list_too_long past) requests few are = absurd (omega (arith, past, few))
  right_list_said program _ (list_faulty number what size fault) requests few are =
      list_is_right laws content program name number what (record { text = list; held = held; few = few; requests = requests; are = are })
      (record { bytes = list; held = held_as_told; size = few; fault = fault })

  -- no requests are held of bytes that are none
  pub none_held : (program : Workload) (other : List ℕ) (requests : List Request) → AreNoRequests program list → other ≡ name → HoldsRequests content other program requests → ⊥
  none_held program other requests none same h =
      let e : list ≡ h.bytes = told content name other list h.bytes held same h.held in
      none requests (subst (λ b. length b ≤ most_bytes) (sym e) h.size) (subst (λ b. AreRequestsOf program b requests) (sym e) h.are)

  -- what is said of it is said so
  module _ (program : Workload) (line : List ℕ) (said : IsListLine name list program line) where
    pub as_long : (other : List ℕ) → other ≡ name → HoldsMore content other most_bytes → long_line other ≡ line
    as_long other same more = go line said
      where
        past : most_bytes < length list
        past = told_more content name other list most_bytes held same more

        go : (l : List ℕ) → IsListLine name list program l → long_line other ≡ l
        go _ (list_too_long h) = ap long_line same
        go _ (list_faulty number what few fault) = absurd (omega (arith, past, few))

    pub as_faulty : (other : List ℕ) (number : ℕ) (what : What) → other ≡ name → HoldsNoRequests content other program number what → fault_line other number (what_text what) ≡ line
    as_faulty other number what same h = go line said
      where
        e : list ≡ h.bytes
        e = told content name other list h.bytes held same h.held

        go : (l : List ℕ) → IsListLine name list program l → fault_line other number (what_text what) ≡ l
        go _ (list_too_long past) = absurd (let size = subst (λ b. length b ≤ most_bytes) (sym e) h.size in omega (arith, past, size))
        go _ (list_faulty own cause few fault) =
            let one = one_requests_fault laws program list number own what cause (subst (λ b. IsRequestsFault program b number what) (sym e) h.fault) fault in
            ap (λ (n : List ℕ). fault_line n number (what_text what)) same
            ∙ (ap (λ (m : ℕ). fault_line name m (what_text what)) one.0 ∙ ap (λ (w : What). fault_line name own (what_text w)) one.1)
