-- The promises are true of some short histories, and false of others.
use Rattle.std.proofs.Common.{◌≡◌, ◌⊎◌, inl, inr, ℕ, ◌||◌, Bool, true, false, List, [], ◌∷◌, drop, Option, Some, None, refl, sym, ap, ◌∙◌, arith}
use Rattle.ip_wire.specs.IpEndpoint.{IpEndpoint}
use Rattle.tcp_block.specs.State.{State}
use Rattle.tcp_block.specs.State.TheVariants as In
use Rattle.lan.specs.declared.at_link.history.event.Side.{Side}
use Rattle.lan.specs.declared.at_link.history.event.Side.TheVariants.{A, B}
use Rattle.lan.specs.Worlds.AtLink.Call as Call
use Rattle.lan.specs.Worlds.AtLink.Call.{SocketCall}
use Rattle.lan.specs.Worlds.AtLink.Kinds.{Kind, kind_of, calls}
use Rattle.lan.specs.Worlds.AtLink.Kinds.Act.{Calls}
use Rattle.lan.specs.Worlds.AtLink.Kinds.Kind.{OfHost}
use Rattle.lan.specs.Worlds.AtLink.History.{Entry, call_of, closes, is_closed_by}
use Rattle.lan.specs.Worlds.AtLink.Reads.{Accepted, ReadsWereAccepted, EndsWereTrue}
use Rattle.lan.specs.Worlds.AtLink.Examples.{datagram_read_at, unbound, end_without_close, end_after_close, endpoint, text}
use Rattle.lan.proofs.Worlds.AtLink.Lists.{Each}

pub right_port : ReadsWereAccepted unbound (datagram_read_at 53)
right_port = (inl (record { socket = 0; remote = endpoint 2 53; was_sent = refl; was_done = refl; to_port = refl; from_port = refl }), (tt, (tt, (tt, tt))))

-- what a kind says of a sending
abbrev port_sent_to : Kind → ℕ
port_sent_to (OfHost s (Calls i (Call.SendTo remote bytes))) = remote.port
port_sent_to kind = 0

abbrev is_of_a : Kind → Bool
is_of_a (OfHost A act) = true
is_of_a kind = false

abbrev is_sending : Kind → Bool
is_sending (OfHost s (Calls i (Call.SendTo remote bytes))) = true
is_sending kind = false

pub wrong_port : ¬ (ReadsWereAccepted unbound (datagram_read_at 54))
wrong_port r = by r.0 where
  by : Accepted unbound (drop 1 (datagram_read_at 54)) A 48_896 54 text → ⊥
  by (inl now) = let sent : 53 ≡ now.remote.port = ap port_sent_to now.was_sent in omega (arith, sent)
  by (inr (inl now)) = let clash : false ≡ true = ap is_of_a now.was_sent in cc
  by (inr (inr (inl now))) = let clash : false ≡ true = ap is_sending now.was_sent in cc
  by (inr (inr (inr nothing))) = nothing

-- THE END OF A STREAM

no_state : (call : Option SocketCall) → closes call None ≡ false
no_state None = refl
no_state (Some Call.Close) = refl
no_state (Some call) = refl

-- where no close of a TCP socket came, none is closed
unclosed : (h : List Entry) (side : Side) (j : ℕ) → Each (λ (e : Entry). e.found ≡ None) h → is_closed_by h side j ≡ false
unclosed [] side j none = refl
unclosed (e ∷ h) side j none =
    ap (λ (t : Bool). t || closes (call_of e side j) e.found) (unclosed h side j none.1)
    ∙ ap (λ (f : Option State). closes (call_of e side j) f) none.0 ∙ no_state (call_of e side j)

pub no_close : ¬ (EndsWereTrue end_without_close)
no_close ends =
    let clash : false ≡ true = sym (unclosed (drop 1 end_without_close) B ends.0.peer_side (refl, (refl, tt))) ∙ ends.0.closed in
    cc

-- closed where nothing was written
pub closed_end : EndsWereTrue (end_after_close In.Established)
closed_end = (
  record {
    peer_side = 0;
    peer_sides = record {
      one = record { local = 49_500; remote = Some 80 };
      another = record { local = 80; remote = None };
      opened = refl;
      peer_side_opened =
          refl;
      paired = refl;
    };
    closed = refl;
    complete = refl;
  },
  (tt, (tt, (tt, tt))),
)

pub ruleset ports_and_ends = (right_port, wrong_port, no_close, closed_end)
