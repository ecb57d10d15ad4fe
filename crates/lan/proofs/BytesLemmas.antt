-- Lemmas on lines that name bytes.
use Rattle.std.proofs.Common.{◌≡◌, ℕ, Bool, true, Option, Some, None, Result, Ok, Err, IfErr, inl, inr, refl, ◌∙◌, sym, ap}
use Rattle.std.specs.Prelude.{◌≢◌, option_map}
use Rattle.lan.specs.declared.at_link.history.answer.Refused.{Refused}
use Rattle.lan.specs.declared.at_link.history.event.Event.{Event}
use Rattle.sim_link.specs.declared.line.Line.{Line}
use Rattle.sim_link.specs.declared.line.Line.TheVariants.{World, Socket, Start, Listen, Connect, Send, Recv, Close, Abort, State, Bind, Ident, SendTo}
use Rattle.sim_link.specs.declared.line.Line.TheVariants.{SendIcmp, SendRaw, RecvFrom, Addrs, Hw, Route, Poll, PollAt, Deliver, Damage, Noise, Room, Cut}
use Rattle.lan.specs.Worlds.AtLink.Runs.{WorldValue, refusal_in}
use Rattle.lan.specs.declared.end.End.{End}
use Rattle.lan.specs.declared.end.End.TheVariants.{BadEvent, Refusal}
use Rattle.lan.specs.declared.session.Session.TheVariants.{Running}
use Rattle.lan.specs.Events.{event_of, has_bytes}
use Rattle.lan.specs.Scripts.{Ends, MayEnd, event_end, takes_memory_first}

no_bad_refusal : (r : Option Refused) → option_map Refusal r ≢ Some BadEvent
no_bad_refusal None e = absurd cc
no_bad_refusal (Some r) e = absurd cc

-- a line that names bytes names an event
bytes_name : (line : Line) → has_bytes line ≡ true → (takes_memory_first (Some line) ≡ true) × ((e : Event) × (event_of line ≡ Some e))
bytes_name (World p q) h = absurd cc
bytes_name (Socket p q) h = absurd cc
bytes_name Start h = absurd cc
bytes_name (Listen p q r) h = absurd cc
bytes_name (Connect p q r s) h = absurd cc
bytes_name (Send p q r) h = (refl, (_, refl))
bytes_name (Recv p q r) h = absurd cc
bytes_name (Close p q) h = absurd cc
bytes_name (Abort p q) h = absurd cc
bytes_name (State p q) h = absurd cc
bytes_name (Bind p q r) h = absurd cc
bytes_name (Ident p q r) h = absurd cc
bytes_name (SendTo p q r s) h = (refl, (_, refl))
bytes_name (SendIcmp p q r s) h = (refl, (_, refl))
bytes_name (SendRaw p q r) h = (refl, (_, refl))
bytes_name (RecvFrom p q r) h = absurd cc
bytes_name (Addrs p q) h = absurd cc
bytes_name (Hw p q) h = absurd cc
bytes_name (Route p q) h = absurd cc
bytes_name (Poll p q r) h = absurd cc
bytes_name (PollAt p q) h = absurd cc
bytes_name (Deliver p q r) h = (refl, (_, refl))
bytes_name (Damage p q r s t) h = (refl, (_, refl))
bytes_name (Noise p q) h = (refl, (_, refl))
bytes_name (Room p q) h = absurd cc
bytes_name (Cut p q r) h = absurd cc

-- how a line ends the run once the hosts run
no_bad_end : (world : WorldValue) (line : Line) (e : Event) → event_of line ≡ Some e → event_end world (event_of line) ≢ Some BadEvent
no_bad_end world line e is bad = no_bad_refusal (refusal_in world.history world.hosts e) (sym (ap (event_end world) is) ∙ bad)

ends_at : (world : WorldValue) (line : Line) (end : End) → MayEnd world line end → Ends (Running world) (Some line) end
ends_at world line end (inl h) = inl h
ends_at world line end (inr h) =
    inr (
      h.0,
      elim h.1 [
        | inl none ↦ inl none
        | inr bytes ↦ let named = bytes_name line bytes in inr (named.0, no_bad_end world line named.1.0 named.1.1)
      ],
    )

pub ends_so : {R : Type 0} (world : WorldValue) (line : Line) (r : Result R End) → IfErr r (MayEnd world line) → IfErr r (Ends (Running world) (Some line))
ends_so world line (Ok x) ends = ends
ends_so world line (Err end) ends = ends_at world line end ends
