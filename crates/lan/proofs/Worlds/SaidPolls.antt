-- What a host holds and takes says what is so, through a poll too.
use Rattle.std.proofs.Common.{◌≡◌, ℕ, ℤ, Bool, true, false, cond, List, ◌∷◌, Option, Some, None, sym, ◌∙◌, ap, subst}
use Rattle.std.specs.List.{AllByRecursion}
use Rattle.sim_link.specs.ChecksumCapabilities.{ChecksumCapabilities}
use Rattle.sim_link.specs.Medium.{Medium}
use Rattle.iface_tables.specs.declared.key.FragKey.{FragKey}
use Rattle.iface_tables.specs.Inner.{InnerValue}
use Rattle.iface_ingress.specs.Arrives.{Arrived, ArrivesAs, whole_arrived}
use Rattle.iface_ingress.specs.Delivered.{Slots}
use Rattle.iface_ingress.specs.Incoming.{IncomingValue, IsIncoming, IsContent}
use Rattle.iface_ingress.specs.Reassembled.{Assemblers, is_taken_in, taken_in, with_room}
use Rattle.iface_ingress.proofs.Settings.{brings_same}
use Rattle.lan.specs.Worlds.AtLink.Node.{NodeValue}
use Rattle.lan.specs.Worlds.AtLink.Steps.{PollsAt}
use Rattle.lan.specs.Worlds.ReassembledDatagram.{IsPolled}
use Rattle.lan.specs.Worlds.Link.Made.{sealed}
use Rattle.lan.specs.Worlds.Link.Frames.{medium_on}
use Rattle.lan.specs.Worlds.FragmentFacts.{Fact}
use Rattle.lan.proofs.Worlds.AlongPolls.{IsLasting, polled_so_far, polled_whole}
use Rattle.lan.proofs.Worlds.Link.AssemblerFacts.{Assembler, AssemblersSo, ContentSo, assemblers_so, expired_so, room_so}
use Rattle.lan.proofs.Worlds.Link.SaidFrames.{TakenSo}

-- A HOST THAT TAKES WHAT IS SO

module _ (S : FragKey → Fact → Type 0) (medium : Medium) where
  -- whatever it holds of fragments is so, and whatever waits for it says what is so
  pub record IsTaking (i : InnerValue) (assemblers : List Assembler) (waiting : List (List ℕ)) : Type 0 where
    pub hardware : medium_on i.hardware ≡ medium
    pub checksums : i.checksums ≡ sealed
    pub assemblers_are : AssemblersSo S assemblers
    pub waits : AllByRecursion (TakenSo S medium) waiting

  content_by : (i : InnerValue) (frame : List ℕ) (content : Option IncomingValue) → medium_on i.hardware ≡ medium → i.checksums ≡ sealed →
      TakenSo S medium frame → IsContent i.hardware i.checksums frame content → ContentSo S content
  content_by i frame None same sealed_is taken is = λ p none. absurd cc
  content_by i frame (Some v) same sealed_is taken is =
      taken i.hardware v same (subst (λ (c : ChecksumCapabilities). IsIncoming i.hardware c frame v) sealed_is is)

  taken_by : (i : InnerValue) (content : Option IncomingValue) → ContentSo S content → ContentSo S (taken_in i content)
  taken_by i None so = λ p none. absurd cc
  taken_by i (Some v) so = elim (is_taken_in i v) as (λ b. ContentSo S (cond b (Some v) None)) [ true ↦ so | false ↦ λ p none. absurd cc ]

  takes_so : (i : InnerValue) (timeout : ℕ) (assemblers : Assemblers) (slots : Slots) (frame : List ℕ) (rest : List (List ℕ)) (content : Option IncomingValue)
      (assemblers' : Assemblers) (a : Arrived) → IsTaking i assemblers (frame ∷ rest) → IsContent i.hardware i.checksums frame content →
      ArrivesAs i timeout assemblers slots content assemblers' a → IsTaking a.inner assemblers' rest
  takes_so i timeout assemblers slots frame rest content assemblers' a h is arrives =
      let same = brings_same i slots (whole_arrived i timeout assemblers content) a arrives.1 in
      let so : ContentSo S (taken_in i content) = taken_by i content (content_by i frame content h.hardware h.checksums h.waits.0 is) in
      record {
        hardware = ap medium_on same.hardware ∙ h.hardware;
        checksums = same.checksums ∙ h.checksums;
        assemblers_are = subst (AssemblersSo S) (sym arrives.0) (assemblers_so S i timeout (with_room i assemblers (taken_in i content)) (taken_in i content) so
            (room_so S i assemblers (taken_in i content) h.assemblers_are));
        waits = h.waits.1;
      }

  taking_lasts : IsLasting IsTaking
  taking_lasts = record {
    same = λ i i' assemblers waiting caps hardware h. record {
      hardware = ap medium_on hardware ∙ h.hardware;
      checksums = caps ∙ h.checksums;
      assemblers_are = h.assemblers_are;
      waits = h.waits;
    };
    expired = λ i assemblers waiting instant h. record {
      hardware = h.hardware;
      checksums = h.checksums;
      assemblers_are = expired_so S assemblers instant h.assemblers_are;
      waits = h.waits;
    };
    skips = λ i assemblers frame rest h. record { hardware = h.hardware; checksums = h.checksums; assemblers_are = h.assemblers_are; waits = h.waits.1 };
    takes = takes_so;
  }

  -- where a poll ends, and wherever it comes
  pub polled_takes : (s s' : NodeValue) (t : ℤ) (budget : ℕ) (changed : Bool) → PollsAt s t budget changed s' →
      IsTaking s.host.inner s.host.assemblers s.link.waiting → IsTaking s'.host.inner s'.host.assemblers s'.link.waiting
  polled_takes s s' t budget changed at h = polled_whole IsTaking taking_lasts s s' t budget changed at h

  pub takes_so_far : (s now : NodeValue) → IsPolled s now → IsTaking s.host.inner s.host.assemblers s.link.waiting →
      IsTaking now.host.inner now.host.assemblers now.link.waiting
  takes_so_far s now polled h = polled_so_far IsTaking taking_lasts s now polled h
