-- What answers a frame that was taken goes as planned, where the device gives leave.
use Rattle.std.proofs.Common.{◌≡◌, ◌⊎◌, inl, inr, ℕ, ◌^◌, ◌<◌, Bool, true, false, ◌&&◌, List, [], ◌∷◌, ◌++◌, Option, Some, None, IfSome, is_some, refl, sym, ◌∙◌, subst}
use Rattle.std.proofs.lemmas.Bool.{and_parts}
use Rattle.std.specs.Prelude.{slice_get}
use Rattle.interface.specs.Host.{Sender}
use Rattle.interface.specs.Ingress.{Replied, is_solicitation, would_solicit}
use Rattle.interface.proofs.Alone.{answers_alone}
use Rattle.interface.specs.Serve.{is_done}
use Rattle.iface_egress.specs.Departing.{HasSettingsOf}
use Rattle.iface_egress.specs.Departure.{Whole, Tells}
use Rattle.iface_egress.specs.Fragments.{LeftValue}
use Rattle.iface_egress.specs.IsTransmitted.{Departs, IsTransmitted, WasSent, frame_len_of, frame_of, numbered}
use Rattle.iface_egress.specs.Plan.{plan_of}
use Rattle.iface_egress.specs.declared.plan.Plan.{Plan}
use Rattle.iface_egress.specs.declared.plan.Plan.TheVariants as Way
use Rattle.iface_egress.specs.declared.egress_path.Sent.{Sent}
use Rattle.iface_egress.specs.declared.egress_path.Sent.TheVariants as Outcome
use Rattle.iface_ingress.specs.ArpRepr.{ArpRepr}
use Rattle.iface_ingress.specs.Arrives as Replies
use Rattle.iface_ingress.specs.Arrives.{ReplyValue}
use Rattle.iface_ingress.specs.HardwareAddress.{HardwareAddress}
use Rattle.iface_ingress.specs.IpAddress.{IpAddress}
use Rattle.iface_ingress.specs.FragmentStored.{HasSameSettings}
use Rattle.iface_tables.specs.Inner.{InnerValue, link_address}
use Rattle.iface_tables.specs.declared.link.LinkAddress.TheVariants as Link
use Rattle.sim_link.specs.Device.{Move, Denied}
use Rattle.sockets.specs.Packet.{PacketValue}
use Rattle.sockets.specs.WellFormed.{IsWellFormed}
use Rattle.lan.specs.Worlds.Moves.Answered.{AnswerLeft, WasSentAsPlanned}
use Rattle.lan.specs.Worlds.Moves.Made.{IsWide}
use Rattle.lan.specs.Worlds.Moves.WasSent.{WasSentBy}
use Rattle.lan.proofs.Worlds.Moves.Frames as Frames
use Rattle.lan.proofs.Worlds.Moves.Frames.{Frames, IsTaking, none_sent}
use Rattle.lan.proofs.Worlds.Moves.Leave.{IsGiving}
use Rattle.lan.proofs.Worlds.Moves.Leaving.{Left, out_by}
use Rattle.lan.proofs.Worlds.Moves.Wide.{CanBeWide}

-- an arrival leaves the settings
pub settings_on : (i0 i i' : InnerValue) → HasSettingsOf i0 i → HasSameSettings i i' → HasSettingsOf i0 i'
settings_on i0 i i' has same = record {
  hardware = same.hardware ∙ has.hardware;
  mtu = same.mtu ∙ has.mtu;
  checksums = same.checksums ∙ has.checksums;
  addresses = same.addresses ∙ has.addresses;
  isn_key = same.isn_key ∙ has.isn_key;
  any_ip = same.any_ip ∙ has.any_ip;
  groups = same.groups ∙ has.groups;
  host_requirements = same.host_requirements ∙ has.host_requirements;
  routes = same.routes ∙ has.routes;
}

module _ {D : Type 0} (moves : D → Move → D → Type 0) (Taken : Frames → D → Type 0) (taking : IsTaking moves Taken) (F : Frames) (i0 : InnerValue)
    (N : IpAddress → HardwareAddress → Type 0) (Begun Gives : D → Type 0) (giving : IsGiving moves Begun Gives) where
  -- the host knows where the frames go
  abbrev Known : InnerValue → Type 0
  Known i = (remote : IpAddress) (to : HardwareAddress) → N remote to → link_address i remote ≡ Link.Known to

  -- so many frames more were sent, and the answer is among them
  pub record Answers (reply : Option ReplyValue) (d : D) : Type 0 where
    pub out : Frames.Sent Taken F d
    pub left : (p : PacketValue) → reply ≡ Some (Replies.Answers p) → Gives d → AnswerLeft i0 N (F.gone ++ out.more) p

  -- a whole packet isn't refused
  was_sent_so : (d d' : D) (i i' : InnerValue) (p : PacketValue) (to : HardwareAddress) (sent : Sent) → WasSent moves d i p.header (Whole to (numbered i p)) sent d' i'
      → Begun d → Gives d' → is_done sent ≡ true
  was_sent_so d d' i i' p to Outcome.Gone goes begins gives = refl
  was_sent_so d d' i i' p to Outcome.Refused goes begins gives = absurd (giving.takes d d' (frame_len_of i (Whole to (numbered i p))) goes.0 begins gives)
  was_sent_so d d' i i' p to Outcome.Waits goes begins gives = absurd goes
  was_sent_so d d' i i' p to Outcome.Dropped goes begins gives = absurd goes
  was_sent_so d d' i i' p to Outcome.Busy goes begins gives = absurd goes

  told : (d d' : D) (i : InnerValue) (packet : ArpRepr) (gone : Bool) → Departs moves d i (Tells packet) gone d' → Taken F d → Frames.Sent Taken F d'
  told d d' i packet true goes taken = record { more = frame_of i (Tells packet) ∷ []; taken = taking.sends d d' (frame_of i (Tells packet)) F goes.0 taken }
  told d d' i packet false goes taken =
      none_sent moves Taken taking F d' (taking.rests d d' (Denied (frame_len_of i (Tells packet))) F tt goes taken)

  -- where nothing answers
  none_left : (reply : Option ReplyValue) (d : D) → ((p : PacketValue) → reply ≡ Some (Replies.Answers p) → ⊥) → Frames.Sent Taken F d → Answers reply d
  none_left reply d none out = record { out = out; left = λ p is gives. absurd (none p is) }

  packet_left : (x : Sender D) (d : D) (p : PacketValue) (more : List (List ℕ)) → HasSettingsOf i0 x.inner → (i0.ident < 2 ^ 16 → x.inner.ident < 2 ^ 16) → Known x.inner
      → (is_solicitation (plan_of x.inner (is_some x.left) p.header) ≡ true)
      ⊎ WasSentAsPlanned i0 N (F.gone ++ more) x.inner p (plan_of x.inner (is_some x.left) p.header)
      → (q : PacketValue) → Some (Replies.Answers p) ≡ Some (Replies.Answers q) → AnswerLeft i0 N (F.gone ++ more) q
  packet_left x d p more settings small hop_limit what q is =
      let one : Replies.Answers p ≡ Replies.Answers q = cc in
      let same : p ≡ q = cc in
      subst (λ (y : PacketValue). AnswerLeft i0 N (F.gone ++ more) y) same
      (record { i = x.inner; settings = settings; ident = small; hop_limit = hop_limit; busy = is_some x.left; what = what })

  planned : (d d' : D) (i i' : InnerValue) (l l' : Option LeftValue) (p : PacketValue) (plan : Plan) (sent : Sent) → IsTransmitted moves d i l p plan sent d' i' l'
      → (left : Left moves Taken taking F i p plan sent d') → Begun d → Gives d' → IsWellFormed p → IsWide p
      → WasSentAsPlanned i0 N (F.gone ++ left.out.more) i p plan
  planned d d' i i' l l' p plan sent goes left begins gives formed wide = record {
    formed = formed;
    wide = wide;
    was_sent = λ to is. was_sent_to to is (subst (λ (w : Plan). IsTransmitted moves d i l p w sent d' i' l') is goes);
  } where
    was_sent_to : (to : HardwareAddress) → plan ≡ Way.Go to → IsTransmitted moves d i l p (Way.Go to) sent d' i' l'
        → (n : ℕ) × (slice_get (F.gone ++ left.out.more) n ≡ Some (frame_of i (Whole to (numbered i p))))
    was_sent_to to is out =
        subst (λ (w : Plan). WasSentBy (F.gone ++ left.out.more) i p w) is (left.was_sent (was_sent_so d d' i i' p to sent out.0 begins gives))

  pub replied_left : (awaited : Bool) (reply : Option ReplyValue) (x x' : Sender D) → x.inner.host_requirements ≡ false →
      Replied moves awaited reply x x' → Taken F x.device → Begun x.device
      → HasSettingsOf i0 x.inner → (i0.ident < 2 ^ 16 → x.inner.ident < 2 ^ 16) → Known x.inner → IfSome reply CanBeWide → Answers reply x'.device
  replied_left awaited None x x' alone is taken begins settings small hop_limit wide =
      none_left None x'.device (λ p none. absurd (cc))
      (none_sent moves Taken taking F x'.device (subst (λ (y : Sender D). Taken F y.device) (sym is) taken))
  replied_left awaited (Some (Replies.Tells packet)) x x' alone is taken begins settings small hop_limit wide =
      none_left (Some (Replies.Tells packet)) x'.device (λ p none. absurd (let one : Replies.Tells packet ≡ Replies.Answers p = cc in cc))
      (told x.device x'.device x.inner packet is.0 is.1 taken)
  replied_left awaited (Some (Replies.Answers p)) x x' alone (inl held) taken begins settings small hop_limit wide =
      let out = none_sent moves Taken taking F x'.device (subst (λ (y : Sender D). Taken F y.device) (sym held.0) taken) in
      record { out = out; left = λ q is gives. packet_left x x'.device p out.more settings small hop_limit (inl (and_parts awaited (would_solicit x p) held.1).1) q is }
  replied_left awaited (Some (Replies.Answers p)) x x' alone (inr answers) taken begins settings small hop_limit wide =
      let went = answers_alone moves p (awaited && would_solicit x p) x x' alone answers in
      let sent : Sent = went.0 in
      let goes = went.1 in
      let formed = went.2 in
      let plan : Plan = plan_of x.inner (is_some x.left) p.header in
      let left = out_by moves Taken taking F x.device x'.device x.inner x'.inner x.left x'.left p plan sent goes taken in
      record {
        out = left.out;
        left = λ q is gives.
            packet_left x x'.device p left.out.more settings small hop_limit
            (inr (planned x.device x'.device x.inner x'.inner x.left x'.left p plan sent goes left begins gives formed (wide formed))) q is;
      }
