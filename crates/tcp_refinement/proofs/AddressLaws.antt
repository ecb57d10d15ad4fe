-- Of the header of a packet that comes the addresses matter alone; and of a host's random words nothing where initial sequence numbers are made with a key.
use Rattle.std.proofs.Common.{◌≡◌, ℕ, not, ◌&&◌, Bool, true, false, if◌then◌else◌, List, length, Option, Some, None, is_some, refl, sym, ap, ◌∙◌, subst}
use Rattle.std.proofs.lemmas.Bool.{cond_both}
use Rattle.std.specs.Prelude.{ℤ}
use Rattle.ip_wire.specs.Ip.{source_of, destination_of}
use Rattle.ip_wire.specs.IpAddress.{IpAddress}
use Rattle.ip_wire.specs.IpAddress.TheVariants as Address
use Rattle.ip_wire.specs.IpProtocol.TheVariants as Protocol
use Rattle.ip_wire.specs.IpRepr.{IpRepr}
use Rattle.ip_wire.specs.IpRepr.TheVariants as Ip
use Rattle.ip_wire.specs.Ipv4Address.{Ipv4Address}
use Rattle.ip_wire.specs.Ipv6Address.{Ipv6Address}
use Rattle.ip_wire.specs.TcpHeader.{TcpHeader}
use Rattle.tcp_block.specs.declared.tcb.Tcb.{Tcb}
use Rattle.tcp_block.specs.Acknowledged.{acknowledged, duplicates_after}
use Rattle.tcp_block.specs.Answers.{ack_due, acked, answer_for, answers_at_once, drawn, may_challenge, with_draw, sack_blocks}
use Rattle.tcp_block.specs.Arrival.{arrives, arrives_in, challenges_reset, checked, is_repeated, challenges_first, tsecr_heard}
use Rattle.tcp_block.specs.Arrival.{inside, is_void_syn, outside, passed_outside, received, reset_arrives, taken, takes_reset, is_before_window, told}
use Rattle.tcp_block.specs.Arrival.{waiting_anew, with_content}
use Rattle.tcp_block.specs.Checks.{Check, acknowledgement_check, is_in_window, taken_down}
use Rattle.tcp_block.specs.Checks.Check.{Passes, Old, Drops, Draws, Resets}
use Rattle.tcp_block.specs.Context.{ContextValue}
use Rattle.tcp_block.specs.Controls.{is_syn, is_rst}
use Rattle.tcp_block.specs.FourTuple.{FourTuple}
use Rattle.tcp_block.specs.Endpoints.{is_connected_by}
use Rattle.tcp_block.specs.Names.{accepts, accepts_in}
use Rattle.tcp_block.specs.Opening.{acks_syn, is_first_syn, opens, syn_answered, takes_answer}
use Rattle.tcp_block.specs.Probing.{probe_kept}
use Rattle.tcp_block.specs.Retries.{heard}
use Rattle.tcp_block.specs.Segments.{no_ranges, rst_reply, has_length}
use Rattle.tcp_block.specs.State.{State}
use Rattle.tcp_block.specs.State.TheVariants as In
use Rattle.tcp_block.specs.States.{is_closed}
use Rattle.tcp_block.specs.Payload.{with_fin, with_payload}
use Rattle.tcp_block.specs.Timeout.{timeout_restarted}
use Rattle.tcp_block.specs.Timestamps.{tsval_taken}
use Rattle.tcp_block.specs.Value.{TcpValue, Arrived, answered_with, dropped, ended, free_in, queued_in, unoffered, with_tcb}
use Rattle.tcp_refinement.specs.Pair.Values.{HostContext, context_on}

-- ADDRESSES ALONE

abbrev header4 : Ipv4Address → Ipv4Address → IpRepr
header4 source destination = Ip.Ipv4 (record {
  src_addr = source;
  dst_addr = destination;
  next_header = Protocol.Tcp;
  payload_len = 0;
  hop_limit = 0;
  ident = 0;
  dont_frag = false;
})

abbrev header6 : Ipv6Address → Ipv6Address → IpRepr
header6 source destination =
    Ip.Ipv6 (record { src_addr = source; dst_addr = destination; next_header = Protocol.Tcp; payload_len = 0; hop_limit = 0 })

-- a header between these addresses, and with nothing else
abbrev between : IpAddress → IpAddress → IpRepr
between (Address.Ipv4 source) (Address.Ipv4 destination) = header4 source destination
between (Address.Ipv6 source) (Address.Ipv6 destination) = header6 source destination
between (Address.Ipv4 source) (Address.Ipv6 destination) = header4 source source
between (Address.Ipv6 source) (Address.Ipv4 destination) = header6 source source

abbrev bare : IpRepr → IpRepr
bare ip = between (source_of ip) (destination_of ip)

bare_same : (ip other : IpRepr) → source_of ip ≡ source_of other → destination_of ip ≡ destination_of other → bare ip ≡ bare other
bare_same ip other source destination = λ k. between (source k) (destination k)

-- WHO ACCEPTS

connected_bare : (pair : Option FourTuple) (ip : IpRepr) (header : TcpHeader) → is_connected_by pair ip header ≡ is_connected_by pair (bare ip) header
connected_bare None ip header = refl
connected_bare (Some pair) (Ip.Ipv4 v) header = refl
connected_bare (Some pair) (Ip.Ipv6 v) header = refl

listens_bare : (b : Tcb) (ip : IpRepr) (header : TcpHeader) → accepts_in In.Listen b ip header ≡ accepts_in In.Listen b (bare ip) header
listens_bare b (Ip.Ipv4 v) header = refl
listens_bare b (Ip.Ipv6 v) header = refl

accepts_bare : (state : State) (b : Tcb) (ip : IpRepr) (header : TcpHeader) → accepts_in state b ip header ≡ accepts_in state b (bare ip) header
accepts_bare In.Closed b ip header = refl
accepts_bare In.Listen b ip header = listens_bare b ip header
accepts_bare state b ip header = connected_bare b.names.pair ip header

pub accepts_same : (b : Tcb) (ip other : IpRepr) (header : TcpHeader) → source_of ip ≡ source_of other → destination_of ip ≡ destination_of other →
    accepts b ip header ≡ accepts b other header
accepts_same b ip other header source destination =
    accepts_bare b.state b ip header ∙ ap (λ (h : IpRepr). accepts_in b.state b h header) (bare_same ip other source destination)
    ∙ sym (accepts_bare b.state b other header)

-- WHAT COMES OF IT

module _ (host : HostContext) (key : List ℕ) (instant : ℤ) (random words : ℕ) where
  abbrev keyed : HostContext
  keyed = record host { isn_key = Some key }

  abbrev cx : ContextValue
  cx = context_on keyed instant random

  abbrev cy : ContextValue
  cy = context_on keyed instant words

  acked_bare : (v : TcpValue) (ip : IpRepr) (header : TcpHeader) (ranges : List (Option (ℕ × ℕ))) → acked cx v ip header ranges ≡ acked cy v (bare ip) header ranges
  acked_bare v (Ip.Ipv4 x) header ranges = refl
  acked_bare v (Ip.Ipv6 x) header ranges = refl

  at_once_bare : (v : TcpValue) (ip : IpRepr) (header : TcpHeader) (size : ℕ) →
      answers_at_once cx v.tcb ip header size ≡ answers_at_once cy v.tcb (bare ip) header size
  at_once_bare v (Ip.Ipv4 x) header size = refl
  at_once_bare v (Ip.Ipv6 x) header size = refl

  drawn_bare : (v : TcpValue) (ip : IpRepr) (header : TcpHeader) → drawn cx v ip header ≡ drawn cy v (bare ip) header
  drawn_bare v ip header = λ k. if may_challenge instant v.tcb.timers.challenges_from then acked_bare (with_draw v instant) ip header no_ranges k else dropped v

  outside_bare : (v : TcpValue) (ip : IpRepr) (header : TcpHeader) (again : Bool) → outside cx v ip header again ≡ outside cy v (bare ip) header again
  outside_bare v ip header again =
      λ k. if is_closed v.tcb.state then dropped v
      else if again then acked_bare (waiting_anew v header instant) ip header no_ranges k
      else drawn_bare (waiting_anew v header instant) ip header k

  passed_bare : (v : TcpValue) (ip : IpRepr) (header : TcpHeader) (size by : ℕ) → passed_outside cx v ip header size by ≡
      passed_outside cy v (bare ip) header size by
  passed_bare v ip header size by =
      λ k. if is_before_window v header size
      then outside_bare (acknowledged (tsecr_heard v header by instant) by instant) ip header (has_length header size) k
      else outside_bare v ip header false k

  answer_bare : (v : TcpValue) (ip : IpRepr) (header : TcpHeader) (size : ℕ) (fills : Bool) (offset : Option ℕ) →
      answer_for cx v ip header size fills offset ≡ answer_for cy v (bare ip) header size fills offset
  answer_bare v ip header size fills None =
      λ k. if at_once_bare v ip header size k
      then acked_bare v ip header no_ranges k
      else dropped (with_tcb v (ack_due v.tcb header size fills instant))
  answer_bare v ip header size fills (Some offset) = acked_bare v ip header (sack_blocks v offset)

  content_bare : (v : TcpValue) (ip : IpRepr) (header : TcpHeader) (bytes : List ℕ) → with_content cx v ip header bytes ≡ with_content cy v (bare ip) header bytes
  content_bare v ip header bytes =
      let t = with_payload v header bytes in
      let y = with_tcb t.socket (probe_kept (with_fin t.socket.tcb v.tcb header (length bytes) t.advance instant) (queued_in t.socket)) in
      answer_bare y ip header (length bytes) t.fills t.early

  taken_bare : (v : TcpValue) (ip : IpRepr) (header : TcpHeader) (bytes : List ℕ) (by : ℕ) → taken cx v ip header bytes by ≡ taken cy v (bare ip) header bytes by
  taken_bare v ip header bytes by =
      let u = acknowledged (tsecr_heard v header by instant) by instant in
      λ k. if is_closed u.tcb.state then dropped u
      else content_bare (told u header (duplicates_after v.tcb header (length bytes) by) instant) ip header bytes k

  inside_bare : (v : TcpValue) (ip : IpRepr) (header : TcpHeader) (bytes : List ℕ) (by : ℕ) → inside cx v ip header bytes by ≡ inside cy v (bare ip) header bytes by
  inside_bare v ip header bytes by = λ k. if is_syn header.control then drawn_bare v ip header k else taken_bare v ip header bytes by k

  resets_bare : (v : TcpValue) (ip : IpRepr) (header : TcpHeader) (size : ℕ) → answered_with v (rst_reply ip header size) ≡
      answered_with v (rst_reply (bare ip) header size)
  resets_bare v (Ip.Ipv4 x) header size = refl
  resets_bare v (Ip.Ipv6 x) header size = refl

  checked_bare : (c : Check) (v : TcpValue) (ip : IpRepr) (header : TcpHeader) (bytes : List ℕ) → checked c cx v ip header bytes ≡
      checked c cy v (bare ip) header bytes
  checked_bare (Passes by) v ip header bytes =
      λ k. if is_in_window v.tcb (free_in v) header (length bytes) then inside_bare v ip header bytes by k else passed_bare v ip header (length bytes) by k
  checked_bare Old v ip header bytes =
      λ k. if is_in_window v.tcb (free_in v) header (length bytes)
      then content_bare (with_tcb v (tsval_taken (heard v.tcb) header instant)) ip header bytes k
      else outside_bare v ip header (is_repeated v header (length bytes)) k
  checked_bare Drops v ip header bytes = refl
  checked_bare Draws v ip header bytes = drawn_bare v ip header
  checked_bare Resets v ip header bytes = resets_bare v ip header (length bytes)

  received_bare : (v : TcpValue) (ip : IpRepr) (header : TcpHeader) (bytes : List ℕ) → received cx v ip header bytes ≡ received cy v (bare ip) header bytes
  received_bare v ip header bytes =
      λ k. if is_rst header.control
      then (if takes_reset v.tcb header then dropped (taken_down v)
      else if challenges_reset v header (length bytes) then drawn_bare v ip header k
      else dropped v)
      else if challenges_first v.tcb header instant then drawn_bare v ip header k
      else checked_bare (acknowledgement_check v.tcb header.ack_number) v ip header bytes k

  opens_bare : (v : TcpValue) (ip : IpRepr) (header : TcpHeader) → opens cx v ip header ≡ opens cy v (bare ip) header
  opens_bare v (Ip.Ipv4 x) header = refl
  opens_bare v (Ip.Ipv6 x) header = refl

  takes_bare : (v : TcpValue) (ip : IpRepr) (header : TcpHeader) (bytes : List ℕ) → takes_answer cx v ip header bytes ≡ takes_answer cy v (bare ip) header bytes
  takes_bare v (Ip.Ipv4 x) header bytes = refl
  takes_bare v (Ip.Ipv6 x) header bytes = refl

  in_bare : (state : State) (v : TcpValue) (ip : IpRepr) (header : TcpHeader) (bytes : List ℕ) → arrives_in state cx v ip header bytes ≡
      arrives_in state cy v (bare ip) header bytes
  in_bare In.Closed v ip header bytes = refl
  in_bare In.Listen v ip header bytes = opens_bare v ip header
  in_bare In.SynSent v ip header bytes = takes_bare v ip header bytes
  in_bare state v ip header bytes = received_bare v ip header bytes

  arrives_bare : (v : TcpValue) (ip : IpRepr) (header : TcpHeader) (bytes : List ℕ) → arrives cx v ip header bytes ≡ arrives cy v (bare ip) header bytes
  arrives_bare v ip header bytes = λ k. if is_void_syn header then dropped (unoffered v) else in_bare v.tcb.state (unoffered v) ip header bytes k

module _ (host : HostContext) (key : List ℕ) (instant : ℤ) where
  keyed_same : (random words : ℕ) (v : TcpValue) (ip other : IpRepr) (header : TcpHeader) (bytes : List ℕ) → source_of ip ≡ source_of other →
      destination_of ip ≡ destination_of other → (let h : HostContext = record host { isn_key = Some key } in
      arrives (context_on h instant random) v ip header bytes ≡ arrives (context_on h instant words) v other header bytes)
  keyed_same random words v ip other header bytes source destination =
      let h : HostContext = record host { isn_key = Some key } in
      arrives_bare host key instant random words v ip header bytes
      ∙ (λ k. arrives (context_on h instant words) v (bare_same ip other source destination k) header bytes)
      ∙ sym (arrives_bare host key instant words words v other header bytes)

  pub arrives_same : (random words : ℕ) (v : TcpValue) (ip other : IpRepr) (header : TcpHeader) (bytes : List ℕ) → host.isn_key ≡ Some key →
      source_of ip ≡ source_of other → destination_of ip ≡ destination_of other
      → arrives (context_on host instant random) v ip header bytes ≡ arrives (context_on host instant words) v other header bytes
  arrives_same random words v ip other header bytes has source destination =
      let same : record host { isn_key = Some key } ≡ host = λ k. record host { isn_key = sym has k } in
      subst (λ (h : HostContext). arrives (context_on h instant random) v ip header bytes ≡ arrives (context_on h instant words) v other header bytes) same
      (keyed_same random words v ip other header bytes source destination)

-- NO WORD IS DRAWN

module _ (host : HostContext) (key : List ℕ) (instant : ℤ) (random : ℕ) where
  abbrev kx : ContextValue
  kx = context_on (record host { isn_key = Some key }) instant random

  abbrev DrawsNone : Arrived → Type 0
  DrawsNone a = a.draws ≡ false

  either : (t : Bool) (a b : Arrived) → DrawsNone a → DrawsNone b → DrawsNone (if t then a else b)
  either true a b da db = da
  either false a b da db = db

  drawn_none : (v : TcpValue) (ip : IpRepr) (header : TcpHeader) → DrawsNone (drawn kx v ip header)
  drawn_none v ip header = either (may_challenge instant v.tcb.timers.challenges_from) (acked kx (with_draw v instant) ip header no_ranges) (dropped v) refl refl

  outside_none : (v : TcpValue) (ip : IpRepr) (header : TcpHeader) (again : Bool) → DrawsNone (outside kx v ip header again)
  outside_none v ip header again =
      let w = waiting_anew v header instant in
      either (is_closed v.tcb.state) (dropped v) (if again then acked kx w ip header no_ranges else drawn kx w ip header) refl
      (either again (acked kx w ip header no_ranges) (drawn kx w ip header) refl (drawn_none w ip header))

  passed_none : (v : TcpValue) (ip : IpRepr) (header : TcpHeader) (size by : ℕ) → DrawsNone (passed_outside kx v ip header size by)
  passed_none v ip header size by =
      let w = acknowledged (tsecr_heard v header by instant) by instant in
      either (is_before_window v header size) (outside kx w ip header (has_length header size)) (outside kx v ip header false)
      (outside_none w ip header (has_length header size)) (outside_none v ip header false)

  answer_none : (v : TcpValue) (ip : IpRepr) (header : TcpHeader) (size : ℕ) (fills : Bool) (offset : Option ℕ) → DrawsNone (answer_for kx v ip header size fills offset)
  answer_none v ip header size fills None =
      either (answers_at_once kx v.tcb ip header size) (acked kx v ip header no_ranges)
      (dropped (with_tcb v (ack_due v.tcb header size fills instant))) refl refl
  answer_none v ip header size fills (Some offset) = refl

  content_none : (v : TcpValue) (ip : IpRepr) (header : TcpHeader) (bytes : List ℕ) → DrawsNone (with_content kx v ip header bytes)
  content_none v ip header bytes =
      let t = with_payload v header bytes in
      let y = with_tcb t.socket (probe_kept (with_fin t.socket.tcb v.tcb header (length bytes) t.advance instant) (queued_in t.socket)) in
      answer_none y ip header (length bytes) t.fills t.early

  taken_none : (v : TcpValue) (ip : IpRepr) (header : TcpHeader) (bytes : List ℕ) (by : ℕ) → DrawsNone (taken kx v ip header bytes by)
  taken_none v ip header bytes by =
      let u = acknowledged (tsecr_heard v header by instant) by instant in
      let w = told u header (duplicates_after v.tcb header (length bytes) by) instant in
      either (is_closed u.tcb.state) (dropped u) (with_content kx w ip header bytes) refl (content_none w ip header bytes)

  inside_none : (v : TcpValue) (ip : IpRepr) (header : TcpHeader) (bytes : List ℕ) (by : ℕ) → DrawsNone (inside kx v ip header bytes by)
  inside_none v ip header bytes by =
      either (is_syn header.control) (drawn kx v ip header) (taken kx v ip header bytes by) (drawn_none v ip header) (taken_none v ip header bytes by)

  checked_none : (c : Check) (v : TcpValue) (ip : IpRepr) (header : TcpHeader) (bytes : List ℕ) → DrawsNone (checked c kx v ip header bytes)
  checked_none (Passes by) v ip header bytes =
      either (is_in_window v.tcb (free_in v) header (length bytes)) (inside kx v ip header bytes by) (passed_outside kx v ip header (length bytes) by)
      (inside_none v ip header bytes by) (passed_none v ip header (length bytes) by)
  checked_none Old v ip header bytes =
      let w = with_tcb v (tsval_taken (heard v.tcb) header instant) in
      either (is_in_window v.tcb (free_in v) header (length bytes)) (with_content kx w ip header bytes)
      (outside kx v ip header (is_repeated v header (length bytes))) (content_none w ip header bytes)
      (outside_none v ip header (is_repeated v header (length bytes)))
  checked_none Drops v ip header bytes = refl
  checked_none Draws v ip header bytes = drawn_none v ip header
  checked_none Resets v ip header bytes = refl

  reset_none : (v : TcpValue) (ip : IpRepr) (header : TcpHeader) (size : ℕ) → DrawsNone (reset_arrives kx v ip header size)
  reset_none v ip header size =
      either (takes_reset v.tcb header) (dropped (taken_down v)) (if challenges_reset v header size then drawn kx v ip header else dropped v) refl
      (either (challenges_reset v header size) (drawn kx v ip header) (dropped v) (drawn_none v ip header) refl)

  received_none : (v : TcpValue) (ip : IpRepr) (header : TcpHeader) (bytes : List ℕ) → DrawsNone (received kx v ip header bytes)
  received_none v ip header bytes =
      let c = acknowledgement_check v.tcb header.ack_number in
      either (is_rst header.control) (reset_arrives kx v ip header (length bytes))
      (if challenges_first v.tcb header instant then drawn kx v ip header else checked c kx v ip header bytes) (reset_none v ip header (length bytes))
      (either (challenges_first v.tcb header instant) (drawn kx v ip header) (checked c kx v ip header bytes) (drawn_none v ip header)
      (checked_none c v ip header bytes))

  opens_none : (v : TcpValue) (ip : IpRepr) (header : TcpHeader) → DrawsNone (opens kx v ip header)
  opens_none v ip header = cond_both (is_first_syn header) _ (dropped v) DrawsNone (λ _. refl) (λ _. refl)

  answered_none : (v : TcpValue) (ip : IpRepr) (header : TcpHeader) (bytes : List ℕ) → DrawsNone (takes_answer kx v ip header bytes)
  answered_none v ip header bytes =
      let tests = is_some header.ack_number && not (acks_syn v.tcb.sender.una header.ack_number) in
      let taken = dropped (with_tcb v (timeout_restarted (syn_answered v.tcb header instant) instant (queued_in v))) in
      let syn = if is_syn header.control then taken else dropped v in
      let answer = answered_with v (rst_reply ip header (length bytes)) in
      let reset = if acks_syn v.tcb.sender.una header.ack_number then dropped (ended v) else dropped v in
      either (is_rst header.control) reset (if tests then answer else syn)
      (either (acks_syn v.tcb.sender.una header.ack_number) (dropped (ended v)) (dropped v) refl refl)
      (either tests answer syn refl (either (is_syn header.control) taken (dropped v) refl refl))

  in_none : (state : State) (v : TcpValue) (ip : IpRepr) (header : TcpHeader) (bytes : List ℕ) → DrawsNone (arrives_in state kx v ip header bytes)
  in_none In.Closed v ip header bytes = refl
  in_none In.Listen v ip header bytes = opens_none v ip header
  in_none In.SynSent v ip header bytes = answered_none v ip header bytes
  in_none state v ip header bytes = received_none v ip header bytes

  arrives_none : (v : TcpValue) (ip : IpRepr) (header : TcpHeader) (bytes : List ℕ) → DrawsNone (arrives kx v ip header bytes)
  arrives_none v ip header bytes =
      either (is_void_syn header) (dropped (unoffered v)) (arrives_in v.tcb.state kx (unoffered v) ip header bytes) refl
      (in_none v.tcb.state (unoffered v) ip header bytes)

pub keyed_draws : (host : HostContext) (key : List ℕ) (instant : ℤ) (random : ℕ) (v : TcpValue) (ip : IpRepr) (header : TcpHeader) (bytes : List ℕ) →
    host.isn_key ≡ Some key → (arrives (context_on host instant random) v ip header bytes).draws ≡ false
keyed_draws host key instant random v ip header bytes has =
    let same : record host { isn_key = Some key } ≡ host = λ k. record host { isn_key = sym has k } in
    subst (λ (h : HostContext). (arrives (context_on h instant random) v ip header bytes).draws ≡ false) same
    (arrives_none host key instant random v ip header bytes)
