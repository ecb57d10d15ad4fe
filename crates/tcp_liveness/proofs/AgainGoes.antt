-- What is retransmitted from SND.UNA on takes a position; and an offer that leaves a connection didn't end it.
use Rattle.std.proofs.Common.{◌≡◌, ◌⊎◌, inl, inr, ℕ, ◌+◌, ◌-◌, ◌%◌, ◌^◌, ◌<◌, ◌≤◌, ◌==◌, ◌&&◌, nat_lt, min, max, Bool, true, false}
use Rattle.std.proofs.Common.{length, Some, None, refl, sym, ap, ◌∙◌, subst, arith}
use Rattle.std.proofs.lemmas.Bool.{cond_both, eq-eqb, lt-ltb, ltb-false, ltb-true}
use Rattle.ip_wire.specs.SeqNumber.{SeqNumber}
use Rattle.ip_wire.specs.Tcp.{header_len}
use Rattle.ip_wire.specs.TcpHeader.{TcpHeader}
use Rattle.tcp_refinement.specs.Context.{ContextValue}
use Rattle.tcp_refinement.specs.Offers.{Offered}
use Rattle.tcp_block.specs.Scoreboard.{gap_end}
use Rattle.tcp_block.proofs.Holes.{again_within}
use Rattle.tcp_invariants.specs.Ends.{Proceeds}
use Rattle.tcp_invariants.specs.FourTuple.{FourTuple}
use Rattle.tcp_invariants.specs.Endpoints.{header_for}
use Rattle.tcp_invariants.specs.OfferKind.{OfferKind}
use Rattle.tcp_invariants.specs.OfferKind.TheVariants as Kind
use Rattle.tcp_invariants.specs.OpenOffer.{OpenOffer}
use Rattle.tcp_invariants.specs.States.{owes_fin}
use Rattle.tcp_invariants.proofs.OfferCases.{FirstRules, by_rules, begun, probing}
use Rattle.tcp_invariants.proofs.OrderSteps.{clash}
use Rattle.tcp_block.specs.declared.tcb.Tcb.{Tcb}
use Rattle.tcp_block.specs.TcbRules.{one_if, unacked}
use Rattle.tcp_block.specs.LossRecovery.{hole_len, loss_probed}
use Rattle.tcp_block.specs.Offers.{number_at, offer_choice, offer_of, offer_segment}
use Rattle.tcp_block.specs.Rules.{Choice, backed_off_now, control_for, probe_choice, resend_choice, sent_count, size_limit, payload_choice}
use Rattle.tcp_block.specs.Segments.{ack_segment, hop_limit_of, keep_alive_segment, reset_segment, segment, segment_len, syn_segment}
use Rattle.tcp_block.specs.Settled.{settled}
use Rattle.tcp_block.specs.Value.{TcpValue, with_tcb, unoffered, free_in, queued_in, room_of, window_of}
use Rattle.tcp_liveness.specs.Anew.{BeginsAnew}
use Rattle.tcp_liveness.specs.Arrivals.{is_synchronized}
use Rattle.tcp_liveness.specs.Exchange.{data_of}
use Rattle.tcp_liveness.proofs.Mending.{gap_past}
use Rattle.tcp_liveness.proofs.Pair.{not_closed}
use Rattle.tcp_liveness.proofs.Resumes.{some_goes}

-- THE CONNECTION GOES ON

module _ (cx : ContextValue) (v : TcpValue) (there : is_synchronized v.tcb.state ≡ true) (pair : FourTuple) (named : v.tcb.names.pair ≡ Some pair) where
  abbrev Survives : Offered TcpValue → Type 0
  Survives o = is_synchronized (settled true o.socket).tcb.state ≡ true → Proceeds cx v

  surely : (on : Proceeds cx v) (other : FourTuple) (w : TcpValue) → FirstRules cx other Survives w
  surely on other w = record {
    syn = λ _ _. on;
    again = λ _ _ _. on;
    payload = λ _ _ _. on;
    last = λ _.
        record {
          probe = λ _ _ _. on;
          window_limited = λ _ _ _. on;
          ack = λ _ _. on;
          update = λ _ _ _. on;
          keep_alive = λ _ _ _. on;
          quiet = λ _ _. on;
        };
  }

  no_names : {X : Type 0} → v.tcb.names.pair ≡ None → X
  no_names none = absurd (let clashes : None ≡ Some pair = sym none ∙ named in cc)

  pub survives : Survives (offer_of cx v)
  survives =
      by_rules cx v Survives
      (record {
        nobody = λ none. no_names none;
        time_wait = λ _ e. clash (sym e);
        timeout = λ _ e. clash (sym e);
        closed = λ closed _. clash (sym closed ∙ not_closed v.tcb.state there);
        reset = λ _ closed _ _. clash (sym closed ∙ not_closed v.tcb.state there);
        falls = λ _ _ _ e. clash (sym e);
        over = λ _ _ _ e. clash (sym e);
        backs = λ other _ on _. surely on other (with_tcb (unoffered v) (backed_off_now (begun cx v)));
        probes = λ other _ on _ _. surely on other (with_tcb (unoffered v) (loss_probed (begun cx v)));
        goes = λ other _ on _. surely on other (with_tcb (unoffered v) (begun cx v));
      })

-- IT TAKES A POSITION

one_offer : (mine k : OpenOffer) → Some mine ≡ Some k → mine ≡ k
one_offer mine k e = cc

none_offered : {A : Type 0} → (k : OpenOffer) → None ≡ Some k → A
none_offered k e = absurd (cc)

abbrev is_again : OfferKind → Bool
is_again Kind.FastRetransmission = true
is_again other = false

module _ (cx : ContextValue) (v : TcpValue) (small : v.tcb.sender.una.0 < 2 ^ 32) (syn : v.tcb.sender.syn_unacked ≡ false)
    (sent : 1 ≤ v.tcb.sender.snd_max) (few : unacked v.tcb (queued_in v) < 2 ^ 30) (within : v.tcb.sender.snd_max ≤ unacked v.tcb (queued_in v)) where
  abbrev Some_ : Offered TcpValue → Type 0
  Some_ o =
      (k : OpenOffer) → o.socket.offered ≡ Some k → is_again k.kind ≡ true → k.segment.seq_number ≡ v.tcb.sender.una
      → 1 ≤ segment_len k.segment (length (data_of v k))

  by_other :
      (kind : OfferKind) → is_again kind ≡ false → (x : TcpValue) (pair : FourTuple) (header : TcpHeader) (offset len : ℕ)
      → Some_ (offer_segment kind cx x pair header offset len)
  by_other kind bare x pair header offset len k e again _ =
      clash (sym again ∙ (sym (ap (λ (o : OpenOffer). is_again o.kind) (one_offer mine k e)) ∙ bare)) where
        mine : OpenOffer
        mine = record {
          kind = kind;
          instant = cx.instant;
          header = header_for pair.addresses (hop_limit_of x.tcb.settings.hop_limit) (header_len header + len);
          segment = header;
          offset = offset;
          len = len;
        }

  by_choice :
      (kind : OfferKind) → is_again kind ≡ false → (x : TcpValue) (pair : FourTuple) (c : Choice) → Some_ (offer_choice kind cx x pair c)
  by_choice kind bare x pair c =
      by_other kind bare x pair (segment x.tcb pair cx.instant (window_of x) (control_for c (queued_in x)) (number_at x.tcb c.offset)) c.offset c.len

  module _ (pair : FourTuple) (b : Tcb) (una : b.sender.una ≡ v.tcb.sender.una) (no_syn : b.sender.syn_unacked ≡ v.tcb.sender.syn_unacked)
      (snd_max : b.sender.snd_max ≡ v.tcb.sender.snd_max) (owed : owes_fin b.state ≡ owes_fin v.tcb.state) where
    abbrev c : Choice
    c = resend_choice b pair.addresses cx.ip_mtu v.queued

    abbrev limit : ℕ
    limit = size_limit b pair.addresses cx.ip_mtu

    abbrev mine : OpenOffer
    mine = record {
      kind = Kind.FastRetransmission;
      instant = cx.instant;
      header = header_for pair.addresses (hop_limit_of b.settings.hop_limit)
          (header_len (segment b pair cx.instant (window_of (with_tcb (unoffered v) b)) (control_for c (queued_in v)) (number_at b c.offset)) + c.len);
      segment = segment b pair cx.instant (window_of (with_tcb (unoffered v) b)) (control_for c (queued_in v)) (number_at b c.offset);
      offset = c.offset;
      len = c.len;
    }

    acked : b.sender.syn_unacked ≡ false
    acked = no_syn ∙ syn

    sent_is : sent_count b ≡ v.tcb.sender.snd_max
    sent_is = minus b.sender.snd_max (one_if b.sender.syn_unacked) v.tcb.sender.snd_max snd_max (ap one_if acked) where
      minus : (a b c : ℕ) → a ≡ c → b ≡ 0 → a - b ≡ c
      minus a b c e f = omega arith

    limit_some : 1 ≤ limit
    limit_some = some _ where
      some : (k : ℕ) → 1 ≤ max 1 k
      some k = omega arith

    -- with payload, or with the FIN alone
    payload_or_fin : c.offset ≡ 0 → (c.fin ≡ true) ⊎ ((1 ≤ c.len) × (1 ≤ queued_in v))
    payload_or_fin first = by (nat_lt 0 (queued_in v)) refl where
      offset_before : c.offset < sent_count b
      offset_before = before c.offset (sent_count b) v.tcb.sender.snd_max first sent_is sent where
        before : (offset sent snd_max : ℕ) → offset ≡ 0 → sent ≡ snd_max → 1 ≤ snd_max → offset < sent
        before offset sent snd_max e f g = omega arith

      hole : 1 ≤ hole_len b c.offset (sent_count b)
      hole =
          cond_both b.sender.syn_unacked (sent_count b - c.offset) (gap_end b.loss.board.runs c.offset (sent_count b) - c.offset) (λ (k : ℕ). 1 ≤ k)
          (λ syn. clash (sym syn ∙ acked))
          (λ _. some c.offset (gap_end b.loss.board.runs c.offset (sent_count b)) (gap_past b.loss.board.runs c.offset (sent_count b) offset_before))
        where
          some : (a b : ℕ) → a < b → 1 ≤ b - a
          some a b e = omega arith

      payload : 0 < queued_in v → (c.fin ≡ true) ⊎ ((1 ≤ c.len) × (1 ≤ queued_in v))
      payload some = inr (three (hole_len b c.offset (sent_count b)) limit (queued_in v) c.offset first hole limit_some some, some) where
        three : (hole limit queued offset : ℕ) → offset ≡ 0 → 1 ≤ hole → 1 ≤ limit → 0 < queued → 1 ≤ min hole (min limit (queued - offset))
        three hole limit queued offset e f g h = omega arith

      fin : queued_in v ≤ 0 → (c.fin ≡ true) ⊎ ((1 ≤ c.len) × (1 ≤ queued_in v))
      fin none = inl goes where
        owes_at : (t : Bool) → v.tcb.sender.snd_max ≤ one_if v.tcb.sender.syn_unacked + queued_in v + one_if t → t ≡ true
        owes_at true e = refl
        owes_at false e = absurd (never v.tcb.sender.snd_max (one_if v.tcb.sender.syn_unacked) (queued_in v) none sent (ap one_if syn) e) where
          never : (snd_max syn queued : ℕ) → queued ≤ 0 → 1 ≤ snd_max → syn ≡ 0 → snd_max ≤ syn + queued + 0 → ⊥
          never snd_max syn queued a b c d = absurd (omega arith)

        owes : owes_fin b.state ≡ true
        owes = owed ∙ owes_at (owes_fin v.tcb.state) within

        len_is : c.len ≡ 0
        len_is = nothing (hole_len b c.offset (sent_count b)) limit (queued_in v) c.offset none where
          nothing : (hole limit queued offset : ℕ) → queued ≤ 0 → min hole (min limit (queued - offset)) ≡ 0
          nothing hole limit queued offset e = omega arith

        at_end : (c.offset + c.len == queued_in v) ≡ true
        at_end = eq-eqb (c.offset + c.len) (queued_in v) (sum c.offset c.len (queued_in v) first len_is none) where
          sum : (a b c : ℕ) → a ≡ 0 → b ≡ 0 → c ≤ 0 → a + b ≡ c
          sum a b c e f g = omega arith

        before : nat_lt (c.offset + c.len) (sent_count b) ≡ true
        before = lt-ltb (c.offset + c.len) (sent_count b) (less c.offset c.len (sent_count b) first len_is offset_before) where
          less : (a b s : ℕ) → a ≡ 0 → b ≡ 0 → a < s → a + b < s
          less a b s e f g = omega arith

        goes : c.fin ≡ true
        goes =
            ap (λ (t : Bool). (t && (c.offset + c.len == queued_in v)) && nat_lt (c.offset + c.len) (sent_count b)) owes
            ∙ (ap (λ (t : Bool). t && nat_lt (c.offset + c.len) (sent_count b)) at_end ∙ before)

      by : (some : Bool) → nat_lt 0 (queued_in v) ≡ some → (c.fin ≡ true) ⊎ ((1 ≤ c.len) × (1 ≤ queued_in v))
      by true e = payload (ltb-true 0 (queued_in v) e)
      by false e = fin (ltb-false 0 (queued_in v) e)

    by_again : (k : OpenOffer) → Some mine ≡ Some k → k.segment.seq_number ≡ v.tcb.sender.una → 1 ≤ segment_len k.segment (length (data_of v k))
    by_again k e number =
        subst (λ (o : OpenOffer). 1 ≤ segment_len o.segment (length (data_of v o))) (one_offer mine k e)
        (some_goes c v.queued.queue first (payload_or_fin first))
      where
        offset_small : c.offset < 2 ^ 30
        offset_small =
            less c.offset (queued_in v) (one_if v.tcb.sender.syn_unacked) (one_if (owes_fin v.tcb.state))
            (again_within b limit (sent_count b) (queued_in v)) few
          where
            less : (offset queued syn fin : ℕ) → offset ≤ queued → syn + queued + fin < 2 ^ 30 → offset < 2 ^ 30
            less offset queued syn fin e f = omega (arith, e, f)

        number_here : (number_at b c.offset).0 ≡ b.sender.una.0
        number_here =
            ap (λ (s : SeqNumber). s.0) (ap (λ (o : OpenOffer). o.segment.seq_number) (one_offer mine k e) ∙ (number ∙ sym una))

        first : c.offset ≡ 0
        first =
            none b.sender.una.0 (one_if b.sender.syn_unacked) c.offset (ap one_if acked)
            (subst (λ (s : SeqNumber). s.0 < 2 ^ 32) (sym una) small) offset_small number_here
          where
            none : (una syn offset : ℕ) → syn ≡ 0 → una < 2 ^ 32 → offset < 2 ^ 30 → (una + (syn + offset)) % 2 ^ 32 ≡ una → offset ≡ 0
            none una syn offset e f g h = omega (arith, e, f, g, h)

    goes_first : FirstRules cx pair Some_ (with_tcb (unoffered v) b)
    goes_first = record {
      syn = λ _. by_other Kind.Syn refl w pair (syn_segment b pair cx.instant cx.ip_mtu (room_of v.received) (free_in v)) 0 0;
      again = λ _ _ k e _. by_again k e;
      payload = λ _ _. by_choice Kind.Payload refl w pair (payload_choice b pair.addresses cx.ip_mtu v.queued);
      last = λ _.
          record {
            probe = λ _ _. by_choice Kind.Probe refl x pair probe_choice;
            window_limited = λ _ _. by_choice Kind.Payload refl x pair (payload_choice x.tcb pair.addresses cx.ip_mtu v.queued);
            ack = λ _. by_other Kind.Ack refl x pair (ack_segment x.tcb pair cx.instant (window_of x)) 0 0;
            update = λ _ _. by_other Kind.WindowUpdate refl x pair (ack_segment x.tcb pair cx.instant (window_of x)) 0 0;
            keep_alive = λ _ _. by_other Kind.KeepAlive refl x pair (keep_alive_segment x.tcb pair cx.instant (window_of x)) 0 1;
            quiet = λ _ k e _. none_offered k e;
          };
    }
      where
        w : TcpValue
        w = with_tcb (unoffered v) b

        x : TcpValue
        x = probing cx w

  some_again : Some_ (offer_of cx v)
  some_again =
      by_rules cx v Some_
      (record {
        nobody = λ _ k e _. none_offered k e;
        time_wait = λ _ k e _. none_offered k e;
        timeout = λ _ k e _. none_offered k e;
        closed = λ _ k e _. none_offered k e;
        reset = λ pair _ _. by_other Kind.Reset refl (unoffered v) pair (reset_segment v.tcb pair cx.instant (window_of v)) 0 0;
        falls = λ _ _ _ k e _. none_offered k e;
        over = λ _ _ _ k e _. none_offered k e;
        backs = λ pair _ _ _. goes_first pair (backed_off_now (begun cx v)) refl refl refl refl;
        probes = λ pair _ _ _ _. goes_first pair (loss_probed (begun cx v)) refl refl refl refl;
        goes = λ pair _ _ _. goes_first pair (begun cx v) refl refl refl refl;
      })

  pub anew_some : (it : BeginsAnew (offer_of cx v).socket) → it.o.segment.seq_number ≡ v.tcb.sender.una → 1 ≤ segment_len it.o.segment (length (data_of v it.o))
  anew_some it number = some_again it.o it.offered (ap is_again it.kind) number
