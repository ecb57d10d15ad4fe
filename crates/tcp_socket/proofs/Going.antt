-- What is offered where no rule before it applies.
use Rattle.std.proofs.Common.{◌≡◌, ℕ, ℤ, Bool, true, false, Option, Some, None, if◌then◌else◌, refl, ap, subst, ◌∙◌}
use Rattle.ip_wire.specs.SeqNumber.{SeqNumber}
use Rattle.ip_wire.specs.TcpControl.{TcpControl}
use Rattle.ip_wire.specs.TcpHeader.{TcpHeader}
use Rattle.socket_context.specs.Context.{ContextValue}
use Rattle.socket_context.specs.declared.offer.Offer.{Offer}
use Rattle.socket_context.specs.Offers.{Offered}
use Rattle.tcp_block.specs.FourTuple.{FourTuple}
use Rattle.tcp_block.specs.Moments.{is_due}
use Rattle.tcp_block.specs.OfferKind.{OfferKind}
use Rattle.tcp_block.specs.OfferKind.TheVariants as Kind
use Rattle.tcp_block.specs.Offers.{offer_segment, offer_choice, silent, offer_ack, offer_reset, offer_keep_alive, offer_window_limited, last_rules, number_at, first_rules, backed_off, offer_between, offer_with}
use Rattle.tcp_block.specs.Retries.{gives_up, given_up}
use Rattle.tcp_block.specs.Probing.{probe_deadline}
use Rattle.tcp_block.specs.Rules.{Choice, control_for, time_wait_end, ack_deadline, updates_window, keep_alive_deadline}
use Rattle.tcp_block.specs.Segments.{segment}
use Rattle.tcp_block.specs.States.{is_closed}
use Rattle.tcp_block.specs.Timeout.{timeout_end, timeout_started, timed_out}
use Rattle.tcp_block.specs.Value.{TcpValue, with_tcb, ended, queued_in, free_in, room_of, window_of}
use Rattle.tcp_block.specs.declared.tcb.Tcb.{Tcb}

-- what an offer answers, and what it leaves
pub record Gives (o : Offered TcpValue) (answer : Offer) (socket : TcpValue) : Type 0 where
  pub answer_is : answer ≡ o.answer
  pub socket_is : socket ≡ o.socket

pub otherwise : (test : Bool) (x y : Offered TcpValue) (answer : Offer) (socket : TcpValue) → test ≡ false → Gives y answer socket →
    Gives (if test then x else y) answer socket
otherwise true x y answer socket is gives = absurd cc
otherwise false x y answer socket is gives = gives

pub at_first : (test : Bool) (x y : Offered TcpValue) (answer : Offer) (socket : TcpValue) → test ≡ true → Gives x answer socket →
    Gives (if test then x else y) answer socket
at_first true x y answer socket is gives = gives
at_first false x y answer socket is gives = absurd cc

-- a test that was made of the same instants
pub due_as : (t : Bool) (now now' : ℤ) (instant instant' : Option ℤ) (test : Bool) → now' ≡ now → instant' ≡ instant → test ≡ is_due now' instant' → test ≡ t →
    is_due now instant ≡ t
due_as t now now' instant instant' test at of is so = rw (← at, ← of, ← is) so

-- THE RULES BEFORE THE FIRST TEXT

module _ (cx : ContextValue) (v : TcpValue) (pair : FourTuple) (answer : Offer) (socket : TcpValue) where
  abbrev started : TcpValue
  started = with_tcb v (backed_off cx.instant (timeout_started cx.instant (queued_in v) v.tcb))

  abbrev closed_rule : Offered TcpValue
  closed_rule = if v.tcb.sender.reset_due then offer_reset cx v pair else silent false v

  abbrev open_rule : Offered TcpValue
  open_rule = if gives_up cx.instant v.tcb (queued_in v) then silent true (given_up v) else first_rules cx started pair

  abbrev timed_rule : Offered TcpValue
  timed_rule =
      if is_due cx.instant (timeout_end v.tcb (queued_in v)) then silent true (with_tcb v (timed_out v.tcb))
      else if is_closed v.tcb.state then closed_rule else open_rule

  -- TIME-WAIT ends
  pub wait_ends : is_due cx.instant (time_wait_end v.tcb) ≡ true → Gives (silent true (ended v)) answer socket → Gives (offer_between cx v pair) answer socket
  wait_ends ends gives = at_first (is_due cx.instant (time_wait_end v.tcb)) (silent true (ended v)) timed_rule answer socket ends gives

  module _ (waiting : is_due cx.instant (time_wait_end v.tcb) ≡ false) where
    following_wait : Gives timed_rule answer socket → Gives (offer_between cx v pair) answer socket
    following_wait gives = otherwise (is_due cx.instant (time_wait_end v.tcb)) (silent true (ended v)) timed_rule answer socket waiting gives

    -- the user timeout does
    pub timeout_ends : is_due cx.instant (timeout_end v.tcb (queued_in v)) ≡ true → Gives (silent true (with_tcb v (timed_out v.tcb))) answer socket
        → Gives (offer_between cx v pair) answer socket
    timeout_ends ends gives =
        following_wait (at_first (is_due cx.instant (timeout_end v.tcb (queued_in v))) (silent true (with_tcb v (timed_out v.tcb)))
        (if is_closed v.tcb.state then closed_rule else open_rule) answer socket ends gives)

    module _ (timed : is_due cx.instant (timeout_end v.tcb (queued_in v)) ≡ false) where
      following_timeout : Gives (if is_closed v.tcb.state then closed_rule else open_rule) answer socket → Gives (offer_between cx v pair) answer socket
      following_timeout gives =
          following_wait (otherwise (is_due cx.instant (timeout_end v.tcb (queued_in v))) (silent true (with_tcb v (timed_out v.tcb)))
          (if is_closed v.tcb.state then closed_rule else open_rule) answer socket timed gives)

      -- there is no connection
      pub is_over : is_closed v.tcb.state ≡ true → Gives closed_rule answer socket → Gives (offer_between cx v pair) answer socket
      is_over closed gives = following_timeout (at_first (is_closed v.tcb.state) closed_rule open_rule answer socket closed gives)

      module _ (opened : is_closed v.tcb.state ≡ false) where
        following_state : Gives open_rule answer socket → Gives (offer_between cx v pair) answer socket
        following_state gives = following_timeout (otherwise (is_closed v.tcb.state) closed_rule open_rule answer socket opened gives)

        -- the connection gives up
        pub is_given_up : gives_up cx.instant v.tcb (queued_in v) ≡ true → Gives (silent true (given_up v)) answer socket
            → Gives (offer_between cx v pair) answer socket
        is_given_up giving gives =
            following_state (at_first (gives_up cx.instant v.tcb (queued_in v)) (silent true (given_up v)) (first_rules cx started pair) answer socket giving gives)

        -- none of the four
        pub goes_first : (w : TcpValue) → gives_up cx.instant v.tcb (queued_in v) ≡ false → w ≡ started → Gives (first_rules cx w pair) answer socket
            → Gives (offer_between cx v pair) answer socket
        goes_first w giving is gives =
            following_state (otherwise (gives_up cx.instant v.tcb (queued_in v)) (silent true (given_up v)) (first_rules cx started pair) answer socket giving
            (subst (λ (x : TcpValue). Gives (first_rules cx x pair) answer socket) is gives))

-- a socket with two ends offers what its rules between them say
pub goes_between : (cx : ContextValue) (v w : TcpValue) (o : Option FourTuple) (pair : FourTuple) (answer : Offer) (socket : TcpValue)
    → o ≡ Some pair → w ≡ v → Gives (offer_between cx w pair) answer socket → Gives (offer_with o cx v) answer socket
goes_between cx v w o pair answer socket some is gives =
    rw some (subst (λ (x : TcpValue). Gives (offer_between cx x pair) answer socket) is gives)

-- THE RULES BEHIND THE TEXT

module _ (cx : ContextValue) (v : TcpValue) (pair : FourTuple) (answer : Offer) (socket : TcpValue) where
  abbrev alive_rule : Offered TcpValue
  alive_rule = if is_due cx.instant (keep_alive_deadline v.tcb) then offer_keep_alive cx v pair else silent false v

  abbrev update_rule : Offered TcpValue
  update_rule = if updates_window v.tcb (room_of v.received) (free_in v) then offer_ack Kind.WindowUpdate cx v pair else alive_rule

  abbrev ack_rule : Offered TcpValue
  ack_rule = if is_due cx.instant (ack_deadline v.tcb) then offer_ack Kind.Ack cx v pair else update_rule

  -- a small window held it back
  pub goes_window_limited : is_due cx.instant (probe_deadline v.tcb (queued_in v)) ≡ true → Gives (offer_window_limited cx v pair) answer socket
      → Gives (last_rules cx v pair) answer socket
  goes_window_limited due gives = at_first (is_due cx.instant (probe_deadline v.tcb (queued_in v))) (offer_window_limited cx v pair) ack_rule answer socket due gives

  module _ (no_probe : is_due cx.instant (probe_deadline v.tcb (queued_in v)) ≡ false) where
    following_probe : Gives ack_rule answer socket → Gives (last_rules cx v pair) answer socket
    following_probe gives =
        otherwise (is_due cx.instant (probe_deadline v.tcb (queued_in v))) (offer_window_limited cx v pair) ack_rule answer socket no_probe gives

    -- an acknowledgement is due
    pub goes_ack : is_due cx.instant (ack_deadline v.tcb) ≡ true → Gives (offer_ack Kind.Ack cx v pair) answer socket
        → Gives (last_rules cx v pair) answer socket
    goes_ack due gives =
        following_probe (at_first (is_due cx.instant (ack_deadline v.tcb)) (offer_ack Kind.Ack cx v pair) update_rule answer socket due gives)

    module _ (no_ack : is_due cx.instant (ack_deadline v.tcb) ≡ false) where
      following_ack : Gives update_rule answer socket → Gives (last_rules cx v pair) answer socket
      following_ack gives =
          following_probe (otherwise (is_due cx.instant (ack_deadline v.tcb)) (offer_ack Kind.Ack cx v pair) update_rule answer socket no_ack gives)

      -- the window is told
      pub goes_update : updates_window v.tcb (room_of v.received) (free_in v) ≡ true → Gives (offer_ack Kind.WindowUpdate cx v pair) answer socket
          → Gives (last_rules cx v pair) answer socket
      goes_update updates gives =
          following_ack (at_first (updates_window v.tcb (room_of v.received) (free_in v)) (offer_ack Kind.WindowUpdate cx v pair) alive_rule answer socket updates gives)

      module _ (no_update : updates_window v.tcb (room_of v.received) (free_in v) ≡ false) where
        following_update : Gives alive_rule answer socket → Gives (last_rules cx v pair) answer socket
        following_update gives =
            following_ack (otherwise (updates_window v.tcb (room_of v.received) (free_in v)) (offer_ack Kind.WindowUpdate cx v pair) alive_rule answer socket no_update gives)

        -- a keep-alive is due
        pub goes_alive : is_due cx.instant (keep_alive_deadline v.tcb) ≡ true → Gives (offer_keep_alive cx v pair) answer socket
            → Gives (last_rules cx v pair) answer socket
        goes_alive due gives =
            following_update (at_first (is_due cx.instant (keep_alive_deadline v.tcb)) (offer_keep_alive cx v pair) (silent false v) answer socket due gives)

        -- nothing is
        pub goes_nothing : is_due cx.instant (keep_alive_deadline v.tcb) ≡ false → Gives (silent false v) answer socket → Gives (last_rules cx v pair) answer socket
        goes_nothing none gives =
            following_update (otherwise (is_due cx.instant (keep_alive_deadline v.tcb)) (offer_keep_alive cx v pair) (silent false v) answer socket none gives)

-- A SEGMENT IS OFFERED

-- a segment that is made of the same values
pub made_of : (make : Tcb → ℤ → ℕ → TcpHeader) (v : TcpValue) (b : Tcb) (now instant : ℤ) (window : ℕ) (header : TcpHeader) → header ≡ make b now window
    → b ≡ v.tcb → now ≡ instant → window ≡ window_of v → header ≡ make v.tcb instant (window_of v)
made_of make v b now instant window header is of at with =
    is ∙ ap (λ (x : Tcb). make x now window) of ∙ ap (λ (m : ℤ). make v.tcb m window) at ∙ ap (λ (n : ℕ). make v.tcb instant n) with

-- a part of the send queue
pub part_made : (v : TcpValue) (b : Tcb) (pair : FourTuple) (now instant : ℤ) (window queued : ℕ) (control : TcpControl) (number : SeqNumber) (c : Choice)
    (header : TcpHeader) → header ≡ segment b pair now window control number → b ≡ v.tcb → now ≡ instant → window ≡ window_of v
    → control ≡ control_for c queued → queued ≡ queued_in v → number ≡ number_at b c.offset
    → header ≡ segment v.tcb pair instant (window_of v) (control_for c (queued_in v)) (number_at v.tcb c.offset)
part_made v b pair now instant window queued control number c header is of at with says all from =
    made_of (λ (x : Tcb) (m : ℤ) (n : ℕ). segment x pair m n control number) v b now instant window header is of at with
    ∙ ap (λ (t : TcpControl). segment v.tcb pair instant (window_of v) t number) (says ∙ ap (control_for c) all)
    ∙ ap (λ (n : SeqNumber). segment v.tcb pair instant (window_of v) (control_for c (queued_in v)) n)
    (from ∙ ap (λ (x : Tcb). number_at x c.offset) of)

-- an offer of it
pub gives_segment : (kind : OfferKind) (cx : ContextValue) (v w : TcpValue) (pair : FourTuple) (header other : TcpHeader) (offset len : ℕ) (answer : Offer)
    → answer ≡ (offer_segment kind cx v pair header offset len).answer → w ≡ (offer_segment kind cx v pair header offset len).socket → header ≡ other
    → Gives (offer_segment kind cx v pair other offset len) answer w
gives_segment kind cx v w pair header other offset len answer answer_is w_is is =
    record { answer_is = answer_is; socket_is = w_is ∙ ap (λ (h : TcpHeader). (offer_segment kind cx v pair h offset len).socket) is }

-- of a part of the send queue
pub gives_choice : (kind : OfferKind) (cx : ContextValue) (v w : TcpValue) (pair : FourTuple) (part other : Choice) (answer : Offer)
    → answer ≡ (offer_choice kind cx v pair part).answer → w ≡ (offer_choice kind cx v pair part).socket → part ≡ other
    → Gives (offer_choice kind cx v pair other) answer w
gives_choice kind cx v w pair part other answer answer_is w_is is =
    record { answer_is = answer_is; socket_is = w_is ∙ ap (λ (c : Choice). (offer_choice kind cx v pair c).socket) is }
