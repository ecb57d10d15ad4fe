-- What is taken of a segment by the state of the socket.
use Rattle.std.proofs.Common.{◌≡◌, ◌⊎◌, inl, inr, ℕ, ◌==◌, not, ◌&&◌, ◌||◌, Bool, true, false, if◌then◌else◌, Option, Some, None, is_some, refl, sym, ◌∙◌, ap, subst}
use Rattle.std.proofs.lemmas.Bool.{and_parts, not-true}
use Rattle.ip_wire.specs.Seq.{distance_of}
use Rattle.ip_wire.specs.SeqNumber.{SeqNumber}
use Rattle.ip_wire.specs.TcpHeader.{TcpHeader}
use Rattle.tcp_block.specs.Context.{ContextValue}
use Rattle.tcp_block.specs.State.{State}
use Rattle.tcp_block.specs.State.TheVariants as In
use Rattle.tcp_block.specs.Arrival.{is_before_window, is_void_syn, challenges_first}
use Rattle.tcp_block.specs.Checks.{acknowledgement_check, opening_check, synchronized_check, is_in_window, lies_before}
use Rattle.tcp_block.specs.Checks.Check.{Passes, Resets}
use Rattle.tcp_block.specs.Controls.{is_syn, is_rst}
use Rattle.tcp_block.specs.Offsets.{distance_after, distance_before}
use Rattle.tcp_block.specs.Opening.{acks_syn}
use Rattle.tcp_block.specs.States.{is_answering}
use Rattle.tcp_block.specs.Timestamps.{is_stale}
use Rattle.tcp_block.specs.Value.{TcpValue, free_in, room_of}
use Rattle.proof_stack.specs.PeerHost.TakenRun.{is_taken_by, is_taken_in, is_taken}

in_its_state : (cx : ContextValue) (v : TcpValue) (header : TcpHeader) (size : ℕ) (state : State) → v.tcb.state ≡ state →
    is_taken cx v header size ≡ true → is_taken_in state cx v header size ≡ true
in_its_state cx v header size state at takes =
    subst (λ (state : State). is_taken_in state cx v header size ≡ true) at
    (and_parts (not (is_void_syn header)) (is_taken_in v.tcb.state cx v header size) takes).1

-- SYN-SENT
alone_or : (una : SeqNumber) (ack : Option SeqNumber) → (not (is_some ack) || acks_syn una ack) ≡ true → (ack ≡ None) ⊎ (acks_syn una ack ≡ true)
alone_or una None e = inl refl
alone_or una (Some n) e = inr e

pub taken_asking :
    (cx : ContextValue) (v : TcpValue) (header : TcpHeader) (size : ℕ) → v.tcb.state ≡ In.SynSent → is_taken cx v header size ≡ true
    → (is_syn header.control ≡ true) × ((header.ack_number ≡ None) ⊎ (acks_syn v.tcb.sender.una header.ack_number ≡ true))
taken_asking cx v header size at takes =
    let parts =
    and_parts (is_syn header.control) (not (is_some header.ack_number) || acks_syn v.tcb.sender.una header.ack_number)
    (in_its_state cx v header size In.SynSent at takes)
    in
    (parts.0, alone_or v.tcb.sender.una header.ack_number parts.1)

-- SYN-RECEIVED
module _ (v : TcpValue) (header : TcpHeader) (size : ℕ) (answers : is_answering v.tcb.state ≡ true) where
  inside : (here : Bool) → (if here then not (is_syn header.control) else is_before_window v header size) ≡ true → is_syn header.control ≡ false
  inside true e = not-true (is_syn header.control) e
  inside false e =
      let later = (and_parts (not (is_answering v.tcb.state)) (lies_before v.tcb (room_of v.received) header size) e).0 in
      absurd (let clash : true ≡ false = sym answers ∙ not-true (is_answering v.tcb.state) later in cc)

  abbrev OfItsSyn : Option SeqNumber → Type 0
  OfItsSyn ack = (acks_syn v.tcb.sender.una ack ≡ true) × (is_syn header.control ≡ false)

  acks_its_syn : (ack : Option SeqNumber) → is_taken_by (acknowledgement_check v.tcb ack) v header size ≡ true → OfItsSyn ack
  acks_its_syn None e = absurd (cc)
  acks_its_syn (Some n) e = by (is_answering v.tcb.state) refl e where
    opening : (one : Bool) → (distance_of v.tcb.sender.una n == 1) ≡ one → is_taken_by (if one then Passes 1 else Resets) v header size ≡ true →
        OfItsSyn (Some n)
    opening true one e = (one, inside (is_in_window v.tcb (free_in v) header size) e)
    opening false one e = absurd (cc)

    by :
        (test : Bool) → is_answering v.tcb.state ≡ test
        → is_taken_by
        (if test then opening_check (distance_of v.tcb.sender.una n)
        else synchronized_check v.tcb (distance_after v.tcb.sender.una n) (distance_before v.tcb.sender.una n)) v header size
        ≡ true
        → OfItsSyn (Some n)
    by true same e = opening (distance_of v.tcb.sender.una n == 1) refl e
    by false same e = absurd (let clash : true ≡ false = sym answers ∙ same in cc)

-- from SYN-RECEIVED on
module _ (cx : ContextValue) (v : TcpValue) (header : TcpHeader) (size : ℕ)
    (takes : (not (is_rst header.control)
    && (not (challenges_first v.tcb header cx.instant) && is_taken_by (acknowledgement_check v.tcb header.ack_number) v header size))
    ≡ true) where
  checks : (not (challenges_first v.tcb header cx.instant) && is_taken_by (acknowledgement_check v.tcb header.ack_number) v header size) ≡ true
  checks =
      (and_parts (not (is_rst header.control))
      (not (challenges_first v.tcb header cx.instant) && is_taken_by (acknowledgement_check v.tcb header.ack_number) v header size) takes).1

  calm : challenges_first v.tcb header cx.instant ≡ false
  calm =
      not-true (challenges_first v.tcb header cx.instant)
      (and_parts (not (challenges_first v.tcb header cx.instant)) (is_taken_by (acknowledgement_check v.tcb header.ack_number) v header size) checks).0

  taken_by_check : is_taken_by (acknowledgement_check v.tcb header.ack_number) v header size ≡ true
  taken_by_check =
      (and_parts (not (challenges_first v.tcb header cx.instant)) (is_taken_by (acknowledgement_check v.tcb header.ack_number) v header size) checks).1

  no_syn_later : is_syn header.control ≡ false
  no_syn_later = by (is_answering v.tcb.state) refl where
    unchallenged : (stale syn answering : Bool) → answering ≡ false → (stale || (syn && not answering)) ≡ false → syn ≡ false
    unchallenged true syn answering later e = absurd (cc)
    unchallenged false false answering later e = refl
    unchallenged false true true later e = absurd (cc)
    unchallenged false true false later e = absurd (cc)

    by : (test : Bool) → is_answering v.tcb.state ≡ test → is_syn header.control ≡ false
    by true answers = (acks_its_syn v header size answers header.ack_number taken_by_check).1
    by false later = unchallenged (is_stale v.tcb header cx.instant) (is_syn header.control) (is_answering v.tcb.state) later calm

pub taken_answering :
    (cx : ContextValue) (v : TcpValue) (header : TcpHeader) (size : ℕ) → v.tcb.state ≡ In.SynReceived → is_taken cx v header size ≡ true
    → acks_syn v.tcb.sender.una header.ack_number ≡ true
taken_answering cx v header size at takes =
    (acks_its_syn v header size (ap is_answering at) header.ack_number (taken_by_check cx v header size (in_its_state cx v header size In.SynReceived at takes))).0

pub taken_syn :
    (cx : ContextValue) (v : TcpValue) (header : TcpHeader) (size : ℕ) → is_syn header.control ≡ true → is_taken cx v header size ≡ true
    → (v.tcb.state ≡ In.Listen) ⊎ (v.tcb.state ≡ In.SynSent)
taken_syn cx v header size syn takes = by v.tcb.state refl (in_its_state cx v header size v.tcb.state refl takes) where
  by : (state : State) → v.tcb.state ≡ state → is_taken_in state cx v header size ≡ true → (v.tcb.state ≡ In.Listen) ⊎ (v.tcb.state ≡ In.SynSent)
  by In.Closed at e = absurd (cc)
  by In.Listen at e = inl at
  by In.SynSent at e = inr at
  by other at e = absurd (let none = no_syn_later cx v header size e in let clash : true ≡ false = sym syn ∙ none in cc)
