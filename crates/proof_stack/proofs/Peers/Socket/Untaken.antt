-- A segment of which nothing is taken keeps the invariant, whoever sent it.
use Rattle.std.proofs.Common.{◌≡◌, ℕ, not, ◌&&◌, ◌||◌, Bool, true, false, if◌then◌else◌, List, None, length, is_some, refl, sym, ◌∙◌, ap, subst}
use Rattle.std.proofs.lemmas.Bool.{cond_both}
use Rattle.ip_wire.specs.IpRepr.{IpRepr}
use Rattle.ip_wire.specs.TcpHeader.{TcpHeader}
use Rattle.tcp_block.specs.Context.{ContextValue}
use Rattle.tcp_theory.specs.Side.{Side}
use Rattle.tcp_block.specs.State.{State}
use Rattle.tcp_block.specs.State.TheVariants as In
use Rattle.tcp_block.specs.Acknowledged.{acknowledged}
use Rattle.tcp_block.specs.Answers.{acked, drawn}
use Rattle.tcp_block.specs.Arrival.{waiting_anew, outside, is_before_window, is_repeated, tsecr_heard, with_content, inside, taken, checked}
use Rattle.tcp_block.specs.Arrival.{takes_reset, challenges_reset, reset_arrives, challenges_first, received, arrives_in, arrives, is_void_syn}
use Rattle.tcp_block.specs.Checks.{Check, acknowledgement_check, is_in_window, taken_down}
use Rattle.tcp_block.specs.Checks.Check.{Passes, Old, Drops, Draws, Resets}
use Rattle.tcp_block.specs.Controls.{is_syn, is_rst}
use Rattle.tcp_block.specs.Endpoints.{pair_in}
use Rattle.tcp_block.specs.Isn.{isn, draws_number}
use Rattle.tcp_block.specs.Opening.{is_first_syn, answering, acks_syn, syn_answered, takes_answer}
use Rattle.tcp_block.specs.Retries.{heard}
use Rattle.tcp_block.specs.Segments.{no_ranges, has_length, rst_reply}
use Rattle.tcp_block.specs.States.{is_closed}
use Rattle.tcp_block.specs.Timeout.{timeout_restarted}
use Rattle.tcp_block.specs.Timestamps.{believed, tsval_taken}
use Rattle.tcp_block.specs.Value.{TcpValue, Arrived, with_tcb, dropped, answered_with, ended, unoffered, queued_in, free_in}
use Rattle.tcp_refinement.specs.History.{with_answer}
use Rattle.tcp_refinement.specs.Tie.{Past, Keeps, core_of}
use Rattle.tcp_refinement.proofs.CallLaws.{to_closed}
use Rattle.tcp_refinement.proofs.OpeningLaws.{led_reset, tied_down}
use Rattle.tcp_refinement.proofs.PayloadLaws.{Led, led_acked, led_drawn}
use Rattle.tcp_refinement.proofs.Tied.{Tied, is_connected, keeps_by}
use Rattle.proof_stack.specs.PeerHost.TakenRun.{is_taken_by, is_taken_in, is_taken}

-- what isn't taken for neither of two reasons isn't for a third
third : (a b c : Bool) → a ≡ false → b ≡ false → (not a && (not b && c)) ≡ false → c ≡ false
third true b c e f none = absurd (cc)
third false true c e f none = absurd (cc)
third false false c e f none = none

second : (a b : Bool) → a ≡ false → (not a && b) ≡ false → b ≡ false
second true b e none = absurd (cc)
second false b e none = none

-- in SYN-SENT a SYN that acknowledges nothing else is taken
no_syn : (syn some acks : Bool) → (syn && (not some || acks)) ≡ false → (some && not acks) ≡ false → syn ≡ true → ⊥
no_syn false some acks none good e = absurd (cc)
no_syn true false acks none good e = absurd (cc)
no_syn true true true none good e = absurd (cc)
no_syn true true false none good e = absurd (cc)

module _ (cx : ContextValue) (v : TcpValue) (ip : IpRepr) (header : TcpHeader) (bytes : List ℕ) (p : Past) (t : Side) (r : Tied (core_of v) p t) where
  abbrev size : ℕ
  size = length bytes

  first_syn_only : is_first_syn header ≡ false → Led p t (arrives_in In.Listen cx v ip header bytes)
  first_syn_only none =
      cond_both (is_first_syn header)
      (record {
        socket = with_tcb v (timeout_restarted (believed (answering v.tcb ip header (isn cx (pair_in ip header))) cx.instant) cx.instant 0);
        answer = None;
        draws = draws_number cx;
      })
      (dropped v) (λ (a : Arrived). Led p t a)
      (λ syn. absurd (let clash : true ≡ false = sym syn ∙ none in cc))
      (λ _. r)

  tied_ended : Tied (core_of (ended v)) p t
  tied_ended =
      subst (λ (p : Past). Tied (core_of (ended v)) p t) r.past (to_closed (core_of v) (core_of (ended v)) r.side t refl refl refl refl refl r.fits r.holds)

  asking : is_taken_in In.SynSent cx v header size ≡ false → Led p t (takes_answer cx v ip header bytes)
  asking none =
      cond_both (is_rst header.control)
      (if acks_syn v.tcb.sender.una header.ack_number then dropped (ended v) else dropped v)
      (if is_some header.ack_number && not (acks_syn v.tcb.sender.una header.ack_number)
      then answered_with v (rst_reply ip header (length bytes))
      else if is_syn header.control
      then dropped (with_tcb v (timeout_restarted (syn_answered v.tcb header cx.instant) cx.instant (queued_in v)))
      else dropped v)
      (λ (a : Arrived). Led p t a)
      (λ _. cond_both (acks_syn v.tcb.sender.una header.ack_number) (dropped (ended v)) (dropped v) (λ (a : Arrived). Led p t a) (λ _. tied_ended) (λ _. r))
      (λ _.
      cond_both (is_some header.ack_number && not (acks_syn v.tcb.sender.una header.ack_number))
      (answered_with v (rst_reply ip header (length bytes)))
      (if is_syn header.control
      then dropped (with_tcb v (timeout_restarted (syn_answered v.tcb header cx.instant) cx.instant (queued_in v)))
      else dropped v)
      (λ (a : Arrived). Led p t a)
      (λ _. led_reset v ip header (length bytes) p t r)
      (λ good.
      cond_both (is_syn header.control)
      (dropped (with_tcb v (timeout_restarted (syn_answered v.tcb header cx.instant) cx.instant (queued_in v)))) (dropped v)
      (λ (a : Arrived). Led p t a)
      (λ syn. absurd (no_syn (is_syn header.control) (is_some header.ack_number) (acks_syn v.tcb.sender.una header.ack_number) none good syn))
      (λ _. r)))

  module _ (connected : is_connected v.tcb.state ≡ true) where
    outside_window : (again : Bool) → Led p t (outside cx v ip header again)
    outside_window again =
        let x = waiting_anew v header cx.instant in
        cond_both (is_closed v.tcb.state) (dropped v) (if again then acked cx x ip header no_ranges else drawn cx x ip header) (λ (a : Arrived). Led p t a)
        (λ _. r)
        (λ _.
        cond_both again (acked cx x ip header no_ranges) (drawn cx x ip header) (λ (a : Arrived). Led p t a)
        (λ _. led_acked cx x ip header no_ranges p t connected r)
        (λ _. led_drawn cx x ip header p t connected r))

    untaken_by : (c : Check) → is_taken_by c v header size ≡ false → Led p t (checked c cx v ip header bytes)
    untaken_by (Passes by) none =
        cond_both (is_in_window v.tcb (free_in v) header size) (inside cx v ip header bytes by)
        (if is_before_window v header size
        then outside cx (acknowledged (tsecr_heard v header by cx.instant) by cx.instant) ip header (has_length header size)
        else outside cx v ip header false)
        (λ (a : Arrived). Led p t a)
        (λ here.
        let only = in_window (is_in_window v.tcb (free_in v) header size) (is_syn header.control) (is_before_window v header size) here none in
        cond_both (is_syn header.control) (drawn cx v ip header) (taken cx v ip header bytes by) (λ (a : Arrived). Led p t a)
        (λ _. led_drawn cx v ip header p t connected r)
        (λ other. absurd (let clash : true ≡ false = sym only ∙ other in cc)))
        (λ out.
        let not_before = past_window (is_in_window v.tcb (free_in v) header size) (is_syn header.control) (is_before_window v header size) out none in
        cond_both (is_before_window v header size)
        (outside cx (acknowledged (tsecr_heard v header by cx.instant) by cx.instant) ip header (has_length header size))
        (outside cx v ip header false) (λ (a : Arrived). Led p t a)
        (λ before. absurd (let clash : true ≡ false = sym before ∙ not_before in cc))
        (λ _. outside_window false))
      where
        in_window : (inside syn before : Bool) → inside ≡ true → (if inside then not syn else before) ≡ false → syn ≡ true
        in_window true true before e none = refl
        in_window true false before e none = absurd (cc)
        in_window false syn before e none = absurd (cc)

        past_window : (inside syn before : Bool) → inside ≡ false → (if inside then not syn else before) ≡ false → before ≡ false
        past_window false syn before e none = none
        past_window true syn before e none = absurd (cc)
    untaken_by Old none =
        cond_both (is_in_window v.tcb (free_in v) header size)
        (with_content cx (with_tcb v (tsval_taken (heard v.tcb) header cx.instant)) ip header bytes)
        (outside cx v ip header (is_repeated v header size))
        (λ (a : Arrived). Led p t a)
        (λ here. absurd (let clash : true ≡ false = sym here ∙ none in cc))
        (λ _. outside_window (is_repeated v header size))
    untaken_by Drops none = r
    untaken_by Draws none = led_drawn cx v ip header p t connected r
    untaken_by Resets none = led_reset v ip header size p t r

    resets : Led p t (reset_arrives cx v ip header size)
    resets =
        cond_both (takes_reset v.tcb header) (dropped (taken_down v)) (if challenges_reset v header size then drawn cx v ip header else dropped v)
        (λ (a : Arrived). Led p t a)
        (λ _. tied_down v p t r)
        (λ _.
        cond_both (challenges_reset v header size) (drawn cx v ip header) (dropped v) (λ (a : Arrived). Led p t a)
        (λ _. led_drawn cx v ip header p t connected r)
        (λ _. r))

    untaken_later :
        (not (is_rst header.control)
        && (not (challenges_first v.tcb header cx.instant) && is_taken_by (acknowledgement_check v.tcb header.ack_number) v header size))
        ≡ false
        → Led p t (received cx v ip header bytes)
    untaken_later none =
        cond_both (is_rst header.control) (reset_arrives cx v ip header size)
        (if challenges_first v.tcb header cx.instant then drawn cx v ip header else checked (acknowledgement_check v.tcb header.ack_number) cx v ip header bytes)
        (λ (a : Arrived). Led p t a)
        (λ _. resets)
        (λ no_rst.
        cond_both (challenges_first v.tcb header cx.instant) (drawn cx v ip header) (checked (acknowledgement_check v.tcb header.ack_number) cx v ip header bytes)
        (λ (a : Arrived). Led p t a)
        (λ _. led_drawn cx v ip header p t connected r)
        (λ calm.
        untaken_by (acknowledgement_check v.tcb header.ack_number)
        (third (is_rst header.control) (challenges_first v.tcb header cx.instant)
        (is_taken_by (acknowledgement_check v.tcb header.ack_number) v header size) no_rst calm none)))

  untaken_in : (state : State) → v.tcb.state ≡ state → is_taken_in state cx v header size ≡ false → Led p t (arrives_in state cx v ip header bytes)
  untaken_in In.Closed e none = r
  untaken_in In.Listen e none = first_syn_only none
  untaken_in In.SynSent e none = asking none
  untaken_in other e none = untaken_later (ap is_connected e) none

-- an offer that isn't settled is nothing that any of this reads
taken_by_unoffered : (c : Check) (v : TcpValue) (header : TcpHeader) (count : ℕ) → is_taken_by c (unoffered v) header count ≡ is_taken_by c v header count
taken_by_unoffered (Passes by) v header count = refl
taken_by_unoffered Old v header count = refl
taken_by_unoffered Drops v header count = refl
taken_by_unoffered Draws v header count = refl
taken_by_unoffered Resets v header count = refl

taken_unoffered :
    (state : State) (cx : ContextValue) (v : TcpValue) (header : TcpHeader) (count : ℕ)
    → is_taken_in state cx (unoffered v) header count ≡ is_taken_in state cx v header count
taken_unoffered In.Closed cx v header count = refl
taken_unoffered In.Listen cx v header count = refl
taken_unoffered In.SynSent cx v header count = refl
taken_unoffered other cx v header count =
    ap (λ (takes : Bool). not (is_rst header.control) && (not (challenges_first v.tcb header cx.instant) && takes))
    (taken_by_unoffered (acknowledgement_check v.tcb header.ack_number) v header count)

pub keeps_untaken :
    (cx : ContextValue) (v w : TcpValue) (p q : Past) (ip : IpRepr) (header : TcpHeader) (bytes : List ℕ) → is_taken cx v header (length bytes) ≡ false
    → Keeps v p w q
    → Keeps (arrives cx v ip header bytes).socket (with_answer p (arrives cx v ip header bytes).answer) w q
keeps_untaken cx v w p q ip header bytes none keeps =
    keeps_by v (arrives cx v ip header bytes).socket w p (with_answer p (arrives cx v ip header bytes).answer) q keeps (λ s t past peer_side_past fits holds.
    let r : Tied (core_of v) p t = record { side = s; past = past; fits = fits; holds = holds } in
    cond_both (is_void_syn header) (dropped (unoffered v)) (arrives_in v.tcb.state cx (unoffered v) ip header bytes) (λ (a : Arrived). Led p t a)
    (λ _. r)
    (λ heard.
    untaken_in cx (unoffered v) ip header bytes p t r v.tcb.state refl
    (taken_unoffered v.tcb.state cx v header (length bytes)
    ∙ second (is_void_syn header) (is_taken_in v.tcb.state cx v header (length bytes)) heard none)))
