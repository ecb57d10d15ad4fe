-- Bytes are one control or neighbour message of IPv6 at most.
use Rattle.std.proofs.Common.{◌≡◌, ℕ, ◌==◌, Bool, List, [], ◌∷◌, length, drop, if◌then◌else◌, refl, sym, ap, ◌∙◌, subst, inl, inr}
use Rattle.std.specs.Prelude.{slice_index, Option, Some, None}
use Rattle.std.proofs.lemmas.Bool.Decides.{eqb_tells}
use Rattle.ip_wire.specs.Fields.{be16, be32}
use Rattle.ip_wire.specs.Ipv6Address.{Ipv6Address}
use Rattle.wire_icmpv6.specs.Icmpv6 as Icmpv6
use Rattle.wire_icmpv6.specs.Icmpv6.{MessageValue, DstUnreachable, PktTooBig, TimeExceeded, ParamProblem, EchoRequest, EchoReply, Ndisc, Says, code_in}
use Rattle.wire_icmpv6.specs.Ndisc.{NeighborMessage, Solicitation, Advertisement, IsNdisc}
use Rattle.wire_icmpv6.specs.NdiscOption.{OptionValue, Begins, HasLink, options_bytes, AreOptions}
use Rattle.wire_icmpv6.specs.Reason.{unreachable_of, exceeded_of, problem_of}
use Rattle.wire_icmpv6.specs.declared.message.Icmpv6Message.TheVariants as Message
use Rattle.wire_icmpv6.proofs.NdiscSteps.{HasLink-this, HasLink-other, HasLink-six, HasLink-empty}
use Rattle.wire_icmpv6.proofs.Types.{first-number}
use Rattle.iface_ingress.proofs.One.{read_v6, told-v6}

-- NEIGHBOUR MESSAGES

-- options of a neighbour message give one link address at most
one-link-in : (kind : ℕ) (so_far : Option (List ℕ)) (bytes : List ℕ) (os : List OptionValue) (a b : Option (List ℕ)) → bytes ≡ options_bytes os →
    AreOptions kind os → HasLink kind so_far bytes a → HasLink kind so_far bytes b → a ≡ b
one-link-in kind so_far bytes [] a b spelled are one other =
    sym (HasLink-empty kind so_far a bytes (ap length spelled) one) ∙ HasLink-empty kind so_far b bytes (ap length spelled) other
one-link-in kind so_far bytes (o ∷ os) a b spelled are one other =
    let begins : Begins bytes o (options_bytes os) = record { is_option = are.0; spelled = spelled } in
    elim (eqb_tells o.kind kind) [
      | inl hit ↦
          let six : length o.inside ≡ 6 = HasLink-six kind so_far a bytes o (options_bytes os) begins hit.1 one in
          one-link-in kind (Some o.inside) (options_bytes os) os a b refl are.2
          ((HasLink-this kind so_far a bytes o (options_bytes os) o.inside begins hit.1 refl six).1 one)
          ((HasLink-this kind so_far b bytes o (options_bytes os) o.inside begins hit.1 refl six).1 other)
      | inr miss ↦
          one-link-in kind so_far (options_bytes os) os a b refl are.2
          ((HasLink-other kind so_far a bytes o (options_bytes os) begins miss.1).1 one)
          ((HasLink-other kind so_far b bytes o (options_bytes os) begins miss.1).1 other)
    ]

one-link-address : (kind : ℕ) (bytes : List ℕ) (a b : Option (List ℕ)) → HasLink kind None bytes a → HasLink kind None bytes b → a ≡ b
one-link-address kind bytes a b one other = one-link-in kind None bytes one.0 a b one.1 one.2 one other

same-target : (a b : Ipv6Address) → a.0 ≡ b.0 → a ≡ b
same-target a b same = ap (λ xs. record { 0 = xs }) same

pub one-neighbor : (bytes : List ℕ) (m n : NeighborMessage) → IsNdisc bytes m → IsNdisc bytes n → m ≡ n
one-neighbor bytes (Solicitation target link) (Solicitation target' link') one other =
    ap (λ a. Solicitation a link) (same-target target target' (one.target_is ∙ sym other.target_is))
    ∙ ap (Solicitation target') (one-link-address 1 (drop 24 bytes) link link' one.source_link other.source_link)
one-neighbor bytes (Solicitation target link) (Advertisement flags' target' link') one other = absurd (let e = sym one.kind ∙ other.kind in cc e)
one-neighbor bytes (Advertisement flags target link) (Solicitation target' link') one other = absurd (let e = sym one.kind ∙ other.kind in cc e)
one-neighbor bytes (Advertisement flags target link) (Advertisement flags' target' link') one other =
    ap (λ f. Advertisement f target link) (one.flags_are ∙ sym other.flags_are)
    ∙ ap (λ a. Advertisement flags' a link) (same-target target target' (one.target_is ∙ sym other.target_is))
    ∙ ap (Advertisement flags' target') (one-link-address 2 (drop 24 bytes) link link' one.target_link other.target_link)

-- OTHER MESSAGES

-- what a message of this type says, if it is no neighbour message
abbrev said : List ℕ → ℕ → Option MessageValue
said message kind =
    if kind == 1 then Some (DstUnreachable (unreachable_of (code_in message)) (read_v6 (drop 8 message)))
    else if kind == 2 then Some (PktTooBig (be32 message 4) (read_v6 (drop 8 message)))
    else if kind == 3 then Some (TimeExceeded (exceeded_of (code_in message)) (read_v6 (drop 8 message)))
    else if kind == 4 then Some (ParamProblem (problem_of (code_in message)) (be32 message 4) (read_v6 (drop 8 message)))
    else if kind == 128 then Some (EchoRequest (be16 message 4) (be16 message 6))
    else if kind == 129 then Some (EchoReply (be16 message 4) (be16 message 6))
    else None

abbrev plain : MessageValue → Option MessageValue
plain (Ndisc neighbor) = None
plain v = Some v

abbrev Told : List ℕ → MessageValue → ℕ → Type 0
Told message v kind = plain v ≡ said message kind

told : (message : List ℕ) (v : MessageValue) → Says message v → Told message v (slice_index message 0)
told message (DstUnreachable reason header) says =
    let quoted : header ≡ read_v6 (drop 8 message) = told-v6 (drop 8 message) header 40 says.1.quoted in
    let e : Some (DstUnreachable reason header) ≡ Some (DstUnreachable (unreachable_of (code_in message)) (read_v6 (drop 8 message))) =
    ap (λ r. Some (DstUnreachable r header)) says.0 ∙ ap (λ h. Some (DstUnreachable (unreachable_of (code_in message)) h)) quoted
    in
    subst (Told message (DstUnreachable reason header)) (sym says.1.kind) e
told message (PktTooBig mtu header) says =
    let quoted : header ≡ read_v6 (drop 8 message) = told-v6 (drop 8 message) header 40 says.2.quoted in
    let e : Some (PktTooBig mtu header) ≡ Some (PktTooBig (be32 message 4) (read_v6 (drop 8 message))) =
    ap (λ n. Some (PktTooBig n header)) says.1 ∙ ap (λ h. Some (PktTooBig (be32 message 4) h)) quoted
    in
    subst (Told message (PktTooBig mtu header)) (sym says.2.kind) e
told message (TimeExceeded reason header) says =
    let quoted : header ≡ read_v6 (drop 8 message) = told-v6 (drop 8 message) header 40 says.1.quoted in
    let e : Some (TimeExceeded reason header) ≡ Some (TimeExceeded (exceeded_of (code_in message)) (read_v6 (drop 8 message))) =
    ap (λ r. Some (TimeExceeded r header)) says.0 ∙ ap (λ h. Some (TimeExceeded (exceeded_of (code_in message)) h)) quoted
    in
    subst (Told message (TimeExceeded reason header)) (sym says.1.kind) e
told message (ParamProblem reason pointer header) says =
    let quoted : header ≡ read_v6 (drop 8 message) = told-v6 (drop 8 message) header 40 says.2.quoted in
    let e : Some (ParamProblem reason pointer header) ≡ Some (ParamProblem (problem_of (code_in message)) (be32 message 4) (read_v6 (drop 8 message))) =
    ap (λ r. Some (ParamProblem r pointer header)) says.0 ∙ ap (λ n. Some (ParamProblem (problem_of (code_in message)) n header)) says.1
    ∙ ap (λ h. Some (ParamProblem (problem_of (code_in message)) (be32 message 4) h)) quoted
    in
    subst (Told message (ParamProblem reason pointer header)) (sym says.2.kind) e
told message (EchoRequest ident seq_no) says =
    let e : Some (EchoRequest ident seq_no) ≡ Some (EchoRequest (be16 message 4) (be16 message 6)) =
    ap (λ n. Some (EchoRequest n seq_no)) says.identifier ∙ ap (λ n. Some (EchoRequest (be16 message 4) n)) says.sequence
    in
    subst (Told message (EchoRequest ident seq_no)) (sym says.kind) e
told message (EchoReply ident seq_no) says =
    let e : Some (EchoReply ident seq_no) ≡ Some (EchoReply (be16 message 4) (be16 message 6)) =
    ap (λ n. Some (EchoReply n seq_no)) says.identifier ∙ ap (λ n. Some (EchoReply (be16 message 4) n)) says.sequence
    in
    subst (Told message (EchoReply ident seq_no)) (sym says.kind) e
told message (Ndisc (Solicitation target link)) says =
    subst (Told message (Ndisc (Solicitation target link))) (sym (first-number message Message.NeighborSolicit says.kind)) refl
told message (Ndisc (Advertisement flags target link)) says =
    subst (Told message (Ndisc (Advertisement flags target link))) (sym (first-number message Message.NeighborAdvert says.kind)) refl

from-plain : (w x : MessageValue) → plain w ≡ Some x → w ≡ x
from-plain (Ndisc neighbor) x e = absurd (cc e)
from-plain (DstUnreachable reason header) x e = cc e
from-plain (PktTooBig mtu header) x e = cc e
from-plain (TimeExceeded reason header) x e = cc e
from-plain (ParamProblem reason pointer header) x e = cc e
from-plain (EchoRequest ident seq_no) x e = cc e
from-plain (EchoReply ident seq_no) x e = cc e

-- what isn't plain is a neighbour message, and there is one
one-with : (message : List ℕ) (m : NeighborMessage) (w : MessageValue) → plain w ≡ None → IsNdisc message m → Says message w → Ndisc m ≡ w
one-with message m (Ndisc n) e is says = ap Ndisc (one-neighbor message m n is says)
one-with message m (DstUnreachable reason header) e is says = absurd (cc e)
one-with message m (PktTooBig mtu header) e is says = absurd (cc e)
one-with message m (TimeExceeded reason header) e is says = absurd (cc e)
one-with message m (ParamProblem reason pointer header) e is says = absurd (cc e)
one-with message m (EchoRequest ident seq_no) e is says = absurd (cc e)
one-with message m (EchoReply ident seq_no) e is says = absurd (cc e)

both-plain : (message : List ℕ) (v w : MessageValue) → Says message v → Says message w → plain w ≡ plain v
both-plain message v w one other = told message w other ∙ sym (told message v one)

one-said : (message : List ℕ) (v w : MessageValue) → Says message v → Says message w → v ≡ w
one-said message (Ndisc m) w one other = one-with message m w (both-plain message (Ndisc m) w one other) one other
one-said message (DstUnreachable reason header) w one other =
    sym (from-plain w (DstUnreachable reason header) (both-plain message (DstUnreachable reason header) w one other))
one-said message (PktTooBig mtu header) w one other = sym (from-plain w (PktTooBig mtu header) (both-plain message (PktTooBig mtu header) w one other))
one-said message (TimeExceeded reason header) w one other =
    sym (from-plain w (TimeExceeded reason header) (both-plain message (TimeExceeded reason header) w one other))
one-said message (ParamProblem reason pointer header) w one other =
    sym (from-plain w (ParamProblem reason pointer header) (both-plain message (ParamProblem reason pointer header) w one other))
one-said message (EchoRequest ident seq_no) w one other =
    sym (from-plain w (EchoRequest ident seq_no) (both-plain message (EchoRequest ident seq_no) w one other))
one-said message (EchoReply ident seq_no) w one other = sym (from-plain w (EchoReply ident seq_no) (both-plain message (EchoReply ident seq_no) w one other))

pub one-icmpv6 : (source destination : Ipv6Address) (tested : Bool) (message : List ℕ) (v w : MessageValue) →
    Icmpv6.IsIcmpv6 source destination tested message v → Icmpv6.IsIcmpv6 source destination tested message w → v ≡ w
one-icmpv6 source destination tested message v w one other = one-said message v w one.says other.says
