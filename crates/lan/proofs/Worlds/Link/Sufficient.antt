-- A poll that isn't refused takes fewer numbers than there are.
use Rattle.std.proofs.Common.{◌≡◌, ℕ, ◌+◌, ◌*◌, ◌^◌, ◌<◌, ◌≤◌, Bool, true, false, cond, List, ◌∷◌, length, drop, Option, Some, None, refl, sym, ◌∙◌, ap, subst}
use Rattle.std.proofs.Common.{arith}
use Rattle.std.specs.Prelude.{ℤ, nat_le}
use Rattle.std.specs.List.{count_by}
use Rattle.std.proofs.Math.Seq.{drop-append_seam}
use Rattle.std.proofs.lemmas.Bool.Decides.{nat_tests}
use Rattle.std.proofs.lemmas.List.Sums.{sum_by-append}
use Rattle.sim_link.specs.DeviceCapabilities.{DeviceCapabilities}
use Rattle.sim_link.specs.Medium.{Medium}
use Rattle.lan.specs.Worlds.AtLink.History.{Entry}
use Rattle.lan.specs.Worlds.AtLink.Kinds.{Kind, kind_of}
use Rattle.lan.specs.Worlds.AtLink.Kinds.Act.{Polls}
use Rattle.lan.specs.Worlds.AtLink.Kinds.Kind.{OfHost}
use Rattle.lan.specs.Worlds.AtLink.Refused.{Refused}
use Rattle.lan.specs.Worlds.AtLink.Side.{Side}
use Rattle.lan.specs.Worlds.AtLink.Side.TheVariants.{A, B}
use Rattle.lan.specs.Worlds.AtLink.Origins.{medium_of, begins_datagram}
use Rattle.lan.specs.Worlds.AtLink.Records.{datagrams_added}
use Rattle.interface.specs.Used.{sockets_in}
use Rattle.lan.specs.Worlds.AtLink.Refusals.{Table, may_run_out, refusal, table}
use Rattle.lan.specs.Worlds.AtLink.Runs.{table_in, tables_in, Leads}
use Rattle.lan.specs.Worlds.AtLink.Node.{Nodes, node}
use Rattle.lan.proofs.Worlds.AtLink.Growing.{tables_proceed, happens_stays}
use Rattle.lan.specs.Worlds.Link.Numbers.{count_numbered, AreFew, IsTied}
use Rattle.lan.proofs.Worlds.Link.Begun.{worth}
use Rattle.lan.specs.Worlds.Link.Frames.{Outgoing}

-- THE FIRST TEST

passed : (b : Bool) (r : Refused) (rest : Option Refused) → cond b (Some r) rest ≡ None → b ≡ false
passed true r rest is = absurd cc
passed false r rest is = refl

enough : (n m : ℕ) → nat_le n m ≡ false → m < n
enough n m is = grind (arith, nat_tests)

table_at : (past : List Entry) (hosts : Nodes) (side : Side) → table (tables_in past hosts) side ≡ table_in past side (node hosts side)
table_at past hosts A = refl
table_at past hosts B = refl

module _ (past : List Entry) (e : Entry) (old new : Nodes) (side : Side) (leads : Leads past old e new) where
  abbrev before : ℕ
  before = (table_in past side (node old side)).numbered

  abbrev following : ℕ
  following = (table_in (e ∷ past) side (node new side)).numbered

  following_is : following ≡ before +
      datagrams_added side (kind_of e.event) (medium_of (node new side)) (length (node old side).link.sent) (node new side).link.sent
  following_is = ap (λ (t : Table). t.numbered) (tables_proceed past e old new side leads.counted leads.happens)

  pub numbers_grow : before ≤ following
  numbers_grow = omega (arith, following_is)

  -- A POLL

  module _ (t : ℤ) (budget : ℕ) (is : kind_of e.event ≡ OfHost side (Polls t budget)) where
    room : before + budget * (1 + sockets_in (node old side).slots) < 2 ^ 16
    room =
        let allowed : refusal old (tables_in past old) (OfHost side (Polls t budget)) ≡ None = ap (refusal old (tables_in past old)) (sym is) ∙ leads.allowed in
        let runs : may_run_out (node old side) (table (tables_in past old) side) budget ≡ false = passed _ _ _ allowed in
        let not_out : may_run_out (node old side) (table_in past side (node old side)) budget ≡ false =
        subst (λ (x : Table). may_run_out (node old side) x budget ≡ false) (table_at past old side) runs in
        enough (2 ^ 16) (before + budget * (1 + sockets_in (node old side).slots)) not_out

    -- what a poll sends is its host's own
    polled_is : following ≡ before +
        count_by (begins_datagram (medium_of (node new side))) (drop (length (node old side).link.sent) (node new side).link.sent)
    polled_is =
        following_is
        ∙ ap (λ (k : Kind). before +
        datagrams_added side k (medium_of (node new side)) (length (node old side).link.sent) (node new side).link.sent) is

    -- so many frames more begin a datagram
    more_frames : count_by (begins_datagram (medium_of (node old side))) (node new side).link.sent + before
        ≡ count_by (begins_datagram (medium_of (node old side))) (node old side).link.sent + following
    more_frames =
        let follows = (happens_stays old new (kind_of e.event) e.answer e.found side leads.happens).link in
        let sent : List (List ℕ) = (node old side).link.sent in
        let begins : List ℕ → Bool = begins_datagram (medium_of (node old side)) in
        let all : count_by begins (node new side).link.sent ≡ count_by begins sent + count_by begins follows.added =
        ap (count_by begins) follows.sent ∙ sum_by-append (λ (x : List ℕ). worth (begins x)) sent follows.added in
        let rest : drop (length sent) (node new side).link.sent ≡ follows.added = ap (drop (length sent)) follows.sent ∙
        drop-append_seam sent follows.added in
        let medium : medium_of (node new side) ≡ medium_of (node old side) = ap (λ (c : DeviceCapabilities). c.medium) follows.capabilities in
        let now : following ≡ before + count_by begins follows.added =
        polled_is
        ∙ ap (λ (m : Medium). before + count_by (begins_datagram m) (drop (length sent) (node new side).link.sent)) medium
        ∙ ap (λ (fs : List (List ℕ)). before + count_by begins fs) rest in
        omega (arith, all, now)

    pub polled_few : (out out' : List Outgoing) → count_numbered out ≤ before →
        count_numbered out' ≤ count_numbered out + budget * (1 + sockets_in (node old side).slots)
        → IsTied (medium_of (node old side)) out (node old side).link.sent out' (node new side).link.sent → AreFew out' × (count_numbered out' ≤ following)
    polled_few out out' few most tied = (omega (arith, few, most, room), omega (arith, few, tied, more_frames))
