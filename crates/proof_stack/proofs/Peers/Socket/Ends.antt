-- The end that a socket is, as it is told by its numbers and its past, is that of the side after it.
use Rattle.std.proofs.Common.{◌≡◌, inl, inr, ℕ, ◌+◌, ◌-◌, ◌%◌, ◌^◌, ◌<◌, ◌≤◌, true, not, List, ◌++◌, length, Option, Some, None, is_some, refl, sym, ap, ◌∙◌}
use Rattle.std.proofs.Common.{subst, arith}
use Rattle.std.proofs.lemmas.Bool.{and_parts}
use Rattle.ip_wire.specs.SeqNumber.{SeqNumber}
use Rattle.ip_wire.specs.TcpHeader.{TcpHeader}
use Rattle.tcp_theory.specs.Invariant.{HoldsBetween}
use Rattle.tcp_theory.specs.Numbers.{wire}
use Rattle.tcp_theory.specs.Segment.{Segment, IsData}
use Rattle.tcp_theory.specs.Segment.Control.{Plain, Syn}
use Rattle.tcp_theory.specs.Side.{Side, taken_in, rcv_next, one_if}
use Rattle.tcp_theory.specs.Side.Phase.{SynSent}
use Rattle.tcp_theory.proofs.Calls as law
use Rattle.tcp_theory.proofs.Lists as lists
use Rattle.tcp_block.specs.State.{State}
use Rattle.tcp_block.specs.State.TheVariants as In
use Rattle.tcp_block.specs.Controls.{is_syn}
use Rattle.tcp_block.specs.Opening.{is_first_syn}
use Rattle.tcp_block.specs.States.{owes_fin}
use Rattle.tcp_block.specs.Value.{TcpValue}
use Rattle.tcp_refinement.specs.Promises.{read_or_waiting}
use Rattle.tcp_refinement.specs.Tie.{Past, past_of, unsent, FitsIn, IsConnectedAs, IsAsking, core_of, segment_of, ack_of}
use Rattle.tcp_refinement.proofs.Tied.{fits_connected, is_connected, is_connected_side, no_stream}
use Rattle.tcp_refinement.proofs.OpeningLaws.{syn_control}
use Rattle.tcp_peer.specs.Peer.{End, IsHonest, SaysOfItself, as_end}
use Rattle.proof_stack.specs.PeerHost.SocketRun.{first_of, heard_of, end_in}

-- from SYN-RECEIVED on it has taken a SYN
connected_end :
    (state : State) (v : TcpValue) (p : Past) → is_connected state ≡ true
    → end_in state v p ≡ record { first = first_of v p; stream = p.written; ends = p.closed; heard = heard_of v p }
connected_end In.Closed v p e = absurd (cc)
connected_end In.Listen v p e = absurd (cc)
connected_end In.SynSent v p e = absurd (cc)
connected_end other v p e = refl

-- counted back over what is acknowledged
counted_first :
    (una number unacked positions iss : ℕ) → number ≡ wire una → una + unacked ≡ iss + positions → positions < 2 ^ 31 → 2 ^ 32 ≤ iss → iss < 2 ^ 33 → iss ≤ una
    → 2 ^ 32 + (number + unacked + (2 ^ 32 - positions)) % 2 ^ 32 ≡ iss
counted_first una number unacked positions iss e sum small low high past = omega arith

-- and over what was taken in
counted_heard :
    (next number taken irs : ℕ) → number ≡ wire next → next ≡ irs + taken → taken < 2 ^ 31 → 2 ^ 32 ≤ irs → irs < 2 ^ 33
    → 2 ^ 32 + (number + (2 ^ 32 - taken)) % 2 ^ 32 ≡ irs
counted_heard next number taken irs e sum small low high = omega arith

module _ (v : TcpValue) (s t : Side) (holds : HoldsBetween s t) where
  module _ (k : IsConnectedAs (core_of v) (unsent s)) where
    first_same : first_of v (past_of s) ≡ s.iss
    first_same =
        let well = holds.0.well_formed in
        let end = k.end in
        let short = well.short in
        let fin = law.one_if-small s.closed in
        let past = well.una_low in
        counted_first s.una v.tcb.sender.una.0 (one_if v.tcb.sender.syn_unacked + length v.queued.queue + one_if (owes_fin v.tcb.state))
        (1 + length s.written + one_if s.closed) s.iss k.una (omega (arith, end)) (omega (arith, short, fin)) well.iss.0 well.iss.1 past

    heard_same : heard_of v (past_of s) ≡ s.irs
    heard_same =
        let well = holds.0.well_formed in
        let low = law.heard s.phase s.opening s.irs (is_connected_side (core_of v) s k) well.phase in
        let shorter = lists.Begins-length (taken_in s) t.written holds.1.received in
        let short = holds.1.well_formed.short in
        let size = ap length (ap (λ (bytes : List ℕ). s.read ++ bytes) k.waiting) in
        let fin = ap one_if (k.finished ∙ sym k.side_finished) in
        let small = law.one_if-small v.tcb.receiver.took_fin in
        counted_heard (rcv_next s) v.tcb.receiver.next.0 (1 + length (read_or_waiting (past_of s) v) + one_if v.tcb.receiver.took_fin) s.irs
        k.next (omega (arith, size, fin)) (omega (arith, shorter, short, size, small)) low well.irs

  pub end_connected : is_connected v.tcb.state ≡ true → FitsIn v.tcb.state (core_of v) (unsent s) → end_in v.tcb.state v (past_of s) ≡ as_end s
  end_connected e fits =
      let k = fits_connected v.tcb.state (core_of v) (unsent s) e fits in
      connected_end v.tcb.state v (past_of s) e
      ∙ (ap (λ (n : ℕ). record { first = n; stream = s.written; ends = s.closed; heard = heard_of v (past_of s) }) (first_same k)
      ∙ ap (λ (n : ℕ). record { first = s.iss; stream = s.written; ends = s.closed; heard = n }) (heard_same k))

  -- in SYN-SENT nothing is acknowledged
  pub end_asking : v.tcb.state ≡ In.SynSent → IsAsking (core_of v) (unsent s) → end_in In.SynSent v (past_of s) ≡ as_end s
  end_asking e k =
      let well = holds.0.well_formed in
      let nothing = no_stream s t SynSent holds k.phase tt in
      let none = (law.fits_at s SynSent well k.phase).1 in
      let size = ap length nothing.0 in
      let open_yet = ap one_if nothing.2 in
      let unacked = ap one_if k.syn_unacked in
      let queue = ap length k.queue in
      let owes = ap (λ (state : State). one_if (owes_fin state)) e in
      let first = k.first in
      let number : first_of v (past_of s) ≡ s.iss =
      counted_first s.una v.tcb.sender.una.0 (one_if v.tcb.sender.syn_unacked + length v.queued.queue + one_if (owes_fin v.tcb.state))
      (1 + length s.written + one_if s.closed) s.iss k.una (omega (arith, size, open_yet, unacked, queue, owes, first)) (omega (arith, size, open_yet))
      well.iss.0 well.iss.1 well.una_low
      in
      ap (λ (n : ℕ). record { first = n; stream = s.written; ends = s.closed; heard = 0 }) number
      ∙ ap (λ (n : ℕ). record { first = s.iss; stream = s.written; ends = s.closed; heard = n }) (sym none)

-- A SYN WITHOUT ACK

-- it says nothing of the other end
pub syn_to_any :
    (peer one other : End) (theirs : List Segment) (x : Segment) → x.control ≡ Syn → x.ack ≡ None → IsHonest peer one theirs x → IsHonest peer other theirs x
syn_to_any peer one other theirs x syn none (inl reset) = inl reset
syn_to_any peer one other theirs x syn none (inr said) = inr (by said.0, inl none) where
  by : SaysOfItself peer one theirs x → SaysOfItself peer other theirs x
  by (inl fragment) = absurd (subst IsData syn fragment.kind)
  by (inr (inl bare)) = absurd (let clash : Syn ≡ Plain = sym syn ∙ bare.0 in cc)
  by (inr (inr (inl old))) = absurd (let clash : Syn ≡ Plain = sym syn ∙ old.plain in cc)
  by (inr (inr (inr its))) = inr (inr (inr its))

no_ack : (ack : Option SeqNumber) → not (is_some ack) ≡ true → ack_of ack ≡ None
no_ack None e = refl
no_ack (Some n) e = absurd (cc)

pub first_syn : (header : TcpHeader) (bytes : List ℕ) → is_first_syn header ≡ true → ((segment_of header bytes).control ≡ Syn) ×
    ((segment_of header bytes).ack ≡ None)
first_syn header bytes e =
    let parts = and_parts (is_syn header.control) (not (is_some header.ack_number)) e in
    (syn_control header.control parts.0, no_ack header.ack_number parts.1)
