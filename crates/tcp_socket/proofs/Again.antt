-- What is retransmitted goes before the payload or after it: the code has a test for each.
use Rattle.std.proofs.Common.{◌≡◌, ◌&&◌, ◌||◌, not, Bool, true, false, if◌then◌else◌, refl, ◌∙◌}
use Rattle.socket_context.specs.Context.{ContextValue}
use Rattle.socket_context.specs.Offers.{Offered}
use Rattle.tcp_block.specs.FourTuple.{FourTuple}
use Rattle.tcp_block.specs.LossRecovery.{fills_hole, is_sent_early}
use Rattle.tcp_block.specs.OfferKind.TheVariants as Kind
use Rattle.tcp_block.specs.Offers.{offer_choice, offer_syn, last_rules, first_rules}
use Rattle.tcp_block.specs.Probing.{probe_started}
use Rattle.tcp_block.specs.Rules.{owes_syn, resends, resends_beside, has_payload, payload_choice, resend_choice}
use Rattle.tcp_block.specs.States.{may_send_data}
use Rattle.tcp_block.specs.Value.{TcpValue, with_tcb, queued_in}

by_tests : (sends asked probes lost early payload : Bool) (again goes other : Offered TcpValue)
    → (if sends && (asked || (probes || (lost || (early && not payload)))) then again else if payload then goes else other) ≡
    (if sends && (asked || (probes || (lost || (early && not true)))) then again
    else if payload then goes
    else if sends && early then again
    else other)
by_tests false asked probes lost early payload again goes other = refl
by_tests true true probes lost early payload again goes other = refl
by_tests true false true lost early payload again goes other = refl
by_tests true false false true early payload again goes other = refl
by_tests true false false false false payload again goes other = refl
by_tests true false false false true true again goes other = refl
by_tests true false false false true false again goes other = refl

taken : (t : Bool) (a b : Offered TcpValue) → t ≡ true → (if t then a else b) ≡ a
taken true a b e = refl
taken false a b e = absurd (cc)

passed : (t : Bool) (a b : Offered TcpValue) → t ≡ false → (if t then a else b) ≡ b
passed true a b e = absurd (cc)
passed false a b e = refl

-- a SYN is owed
pub goes_syn : (cx : ContextValue) (v : TcpValue) (pair : FourTuple) → owes_syn v.tcb ≡ true → first_rules cx v pair ≡ offer_syn cx v pair
goes_syn cx v pair syn =
    taken (owes_syn v.tcb) (offer_syn cx v pair)
    (if resends v.tcb pair.addresses cx.ip_mtu v.queued
    then offer_choice Kind.FastRetransmission cx v pair (resend_choice v.tcb pair.addresses cx.ip_mtu v.queued)
    else if has_payload v.tcb pair.addresses cx.ip_mtu v.queued
    then offer_choice Kind.Payload cx v pair (payload_choice v.tcb pair.addresses cx.ip_mtu v.queued)
    else last_rules cx (with_tcb v (probe_started cx.instant (queued_in v) v.tcb)) pair)
    syn

module _ (cx : ContextValue) (v : TcpValue) (pair : FourTuple) (no_syn : owes_syn v.tcb ≡ false) where
  abbrev again : Offered TcpValue
  again = offer_choice Kind.FastRetransmission cx v pair (resend_choice v.tcb pair.addresses cx.ip_mtu v.queued)

  abbrev goes : Offered TcpValue
  goes = offer_choice Kind.Payload cx v pair (payload_choice v.tcb pair.addresses cx.ip_mtu v.queued)

  abbrev other : Offered TcpValue
  other = last_rules cx (with_tcb v (probe_started cx.instant (queued_in v) v.tcb)) pair

  abbrev has : Bool
  has = has_payload v.tcb pair.addresses cx.ip_mtu v.queued

  abbrev early : Bool
  early = may_send_data v.tcb.state && is_sent_early v.tcb

  -- the rules, as the code asks them
  asked : first_rules cx v pair ≡ (if resends_beside v.tcb true then again else if has then goes else if early then again else other)
  asked =
      passed (owes_syn v.tcb) (offer_syn cx v pair) (if resends_beside v.tcb has then again else if has then goes else other) no_syn
      ∙ by_tests (may_send_data v.tcb.state) v.tcb.sender.resend v.tcb.loss.probes (fills_hole v.tcb) (is_sent_early v.tcb) has again goes other

  pub is_retransmitted : resends_beside v.tcb true ≡ true → first_rules cx v pair ≡ again
  is_retransmitted first = asked ∙ taken (resends_beside v.tcb true) again (if has then goes else if early then again else other) first

  module _ (not_first : resends_beside v.tcb true ≡ false) where
    following : first_rules cx v pair ≡ (if has then goes else if early then again else other)
    following = asked ∙ passed (resends_beside v.tcb true) again (if has then goes else if early then again else other) not_first

    pub goes_payload : has ≡ true → first_rules cx v pair ≡ goes
    goes_payload payload = following ∙ taken has goes (if early then again else other) payload

    pub goes_following : has ≡ false → early ≡ true → first_rules cx v pair ≡ again
    goes_following no_payload last = following ∙ passed has goes (if early then again else other) no_payload ∙ taken early again other last

    pub goes_no_payload : has ≡ false → early ≡ false → first_rules cx v pair ≡ other
    goes_no_payload no_payload none = following ∙ passed has goes (if early then again else other) no_payload ∙ passed early again other none
