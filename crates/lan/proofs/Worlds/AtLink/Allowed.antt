-- What the tests of an event leave: what it needs to happen.
use Rattle.std.proofs.Common.{◌≡◌, ◌<◌, ◌≤◌, ◌+◌, ◌^◌, ℕ, ℤ, Bool, true, false, List, length, Option, None, Some, refl, sym, ap, subst, ◌∙◌, arith}
use Rattle.std.specs.Prelude.{◌||◌, ◌%◌, ◌==◌, not, nat_lt, int_lt, if◌then◌else◌}
use Rattle.std.proofs.lemmas.Bool.Decides.{nat_tests}
use Rattle.net_base.specs.Time.{IsMoment}
use Rattle.interface.specs.Settings.{is_moment}
use Rattle.sim_link.specs.PacketInFrame.{names_tcp_or_udp}
use Rattle.sim_link.specs.Cuts.{ipv4_part}
use Rattle.sim_link.specs.Parts.{tcp_part}
use Rattle.sim_link.specs.declared.part.Part.{Part}
use Rattle.net_base.specs.Medium.TheVariants as Medium
use Rattle.lan.specs.Worlds.AtLink.Call as Call
use Rattle.lan.specs.Worlds.AtLink.Call.{SocketCall}
use Rattle.lan.specs.Worlds.AtLink.Kinds.{same_side, Kind, Act, LinkAct, Delivered, Damaged, Noisy}
use Rattle.lan.specs.Worlds.AtLink.Kinds.Act.{Calls, Sets, Opens, Asks, Polls}
use Rattle.lan.specs.Worlds.AtLink.Kinds.Kind.{OfHost, OfLink}
use Rattle.lan.specs.Worlds.AtLink.Kinds.LinkAct.{Hands, Cuts}
use Rattle.lan.specs.Worlds.AtLink.Tables.{first_refusal, call_tests, own_tests, has_call, is_too_many, record_at}
use Rattle.lan.specs.declared.at_link.history.answer.Answer.TheVariants as To
use Rattle.lan.specs.declared.at_link.history.answer.Refused.{Refused}
use Rattle.lan.specs.declared.at_link.history.event.Side.{Side}
use Rattle.lan.specs.declared.at_link.history.event.Side.TheVariants.{A, B}
use Rattle.lan.specs.declared.at_link.history.record.SocketKind.{SocketKind}
use Rattle.lan.specs.declared.at_link.history.record.SocketRecord.{SocketRecord}
use Rattle.lan.specs.Worlds.AtLink.Acting.{ActsBy, CanAct, CanActBy, CanHappen, HappensBy, actor, act_refusal, link_refusal}
use Rattle.lan.specs.Worlds.AtLink.Calling.{is_called}
use Rattle.lan.specs.Worlds.AtLink.Linking.{CanLink, CanLinkBy, HasSegment, HasFragment, linked_by}
use Rattle.lan.specs.Worlds.AtLink.Origins.{medium_of, frame_sent}
use Rattle.lan.specs.Worlds.AtLink.Records.{HasByteRoom}
use Rattle.lan.specs.Worlds.AtLink.Refusals.{Table, Tables, table, act_tests, link_tests, segment_tests, cut_tests, is_too_early, is_no_frame, is_no_slot, is_no_cut}
use Rattle.lan.specs.Worlds.AtLink.Refusals.{refusal}
use Rattle.lan.specs.Worlds.AtLink.Node.{NodeValue, Nodes, node, kind_at}
use Rattle.lan.specs.declared.at_link.answer.Taken.{Taken}

-- TESTS

-- the first test of a list that refuses nothing doesn't hold, and neither do the others
passed_by : (b : Bool) (r : Refused) (rest : Option Refused) → (if b then Some r else rest) ≡ None → (b ≡ false) × (rest ≡ None)
passed_by true r rest is = absurd cc
passed_by false r rest is = (refl, is)

both_false : (a b : Bool) → (a || b) ≡ false → (a ≡ false) × (b ≡ false)
both_false true b is = absurd cc
both_false false b is = (refl, is)

not_false : (a : Bool) → not a ≡ false → a ≡ true
not_false true is = refl
not_false false is = absurd cc

-- A CALL

called_by : (names : List ℕ → Bool) (kind : Option SocketKind) (records : List SocketRecord) (i : ℕ) (call : SocketCall) →
    first_refusal (call_tests names kind records i call) ≡ None
    → (is_called kind call ≡ true) × (first_refusal (own_tests names records i call) ≡ None)
called_by names None records i call is = absurd cc
called_by names (Some kind) records i call is =
    let rest = passed_by (not (has_call kind call)) _ (first_refusal (own_tests names records i call)) is in
    (not_false (has_call kind call) rest.0, rest.1)

few_bytes : (r : SocketRecord) (more : ℕ) → is_too_many r more ≡ false → r.accepted + more < 2 ^ 29
few_bytes r more is = grind (arith, nat_tests)

same_is : (s side : Side) → same_side s side ≡ true → s ≡ side
same_is A A is = refl
same_is B B is = refl
same_is A B is = absurd cc
same_is B A is = absurd cc

room_of : (names : List ℕ → Bool) (tables : Tables) (side s : Side) (i : ℕ) (call : SocketCall) →
    first_refusal (own_tests names (table tables s).records i call) ≡ None → HasByteRoom side (table tables side).records (OfHost s (Calls i call))
room_of names tables side s i (Call.Send bytes) is = λ same.
    subst (λ (x : Side). (record_at (table tables x).records i).accepted + length bytes < 2 ^ 29) (same_is s side same)
    (few_bytes (record_at (table tables s).records i) (length bytes)
    (passed_by (is_too_many (record_at (table tables s).records i) (length bytes)) _ None is).0)
room_of names tables side s i (Call.Listen port) is = tt
room_of names tables side s i (Call.Connect remote port) is = tt
room_of names tables side s i (Call.Recv limit) is = tt
room_of names tables side s i Call.Close is = tt
room_of names tables side s i Call.Abort is = tt
room_of names tables side s i Call.State is = tt
room_of names tables side s i (Call.Set setting) is = tt
room_of names tables side s i (Call.Bind port) is = tt
room_of names tables side s i (Call.Ident ident) is = tt
room_of names tables side s i (Call.SendTo remote bytes) is = tt
room_of names tables side s i (Call.SendIcmp remote bytes) is = tt
room_of names tables side s i (Call.SendRaw bytes) is = tt
room_of names tables side s i (Call.RecvFrom limit) is = tt

-- A MOMENT

instant_by : (t : ℤ) → is_moment t ≡ true → IsMoment t
instant_by t is = grind arith

instant_of : (s : NodeValue) (t : ℤ) → is_too_early s t ≡ false → IsMoment t
instant_of s t is = instant_by t (not_false (is_moment t) (both_false (not (is_moment t)) (int_lt t s.host.inner.instant) is).0)

-- THE LINK

sent_by : (s : NodeValue) (k : ℕ) → is_no_frame s k ≡ false → k < length s.link.sent
sent_by s k is = grind (arith, nat_tests)

word_within : (part : Part) (slot : ℕ) → is_no_slot part slot ≡ false → slot + 2 ≤ part.len
word_within part slot is = grind (arith, nat_tests, both_false (slot % 2 == 1) (nat_lt part.len (slot + 2)) is)

segment_by : (frame : List ℕ) (part : Option Part) (slot word : ℕ) → first_refusal (segment_tests frame part slot word) ≡ None → HasSegment part slot
segment_by frame None slot word is = absurd cc
segment_by frame (Some part) slot word is = word_within part slot (passed_by (is_no_slot part slot) _ _ is).0

cut_within : (part : Part) (at : ℕ) → is_no_cut part at ≡ false → at ≤ part.len
cut_within part at is =
    let other = (both_false (at == 0) (not (at % 8 == 0) || not (nat_lt at part.len)) is).1 in
    let last = not_false (nat_lt at part.len) (both_false (not (at % 8 == 0)) (not (nat_lt at part.len)) other).1 in
    grind (arith, nat_tests)

fragment_by : (part : Option Part) (at : ℕ) → first_refusal (cut_tests part at) ≡ None → HasFragment part at
fragment_by None at is = absurd cc
fragment_by (Some part) at is = cut_within part at (passed_by (is_no_cut part at) _ None is).0

-- ALL

can_call : (s : NodeValue) (t : Table) (act : Act) → first_refusal (act_tests s t act) ≡ None → CanAct s act
can_call s t (Calls i call) is = (called_by (names_tcp_or_udp Medium.Ip) (kind_at s.slots i) t.records i call is).0
can_call s t (Polls instant budget) is = instant_of s instant (passed_by (is_too_early s instant) _ None (passed_by _ _ _ is).1).0
can_call s t (Asks instant) is = instant_of s instant (passed_by (is_too_early s instant) _ None is).0
can_call s t (Sets setting) is = tt
can_call s t (Opens room) is = tt

can_do : (hosts : Nodes) (act : LinkAct) → first_refusal (link_tests hosts act) ≡ None → CanLink hosts act
can_do hosts (Hands (Delivered from k padding)) is = sent_by (node hosts from) k (passed_by (is_no_frame (node hosts from) k) _ None is).0
can_do hosts (Hands (Damaged from k slot word padding)) is =
    let rest = passed_by (is_no_frame (node hosts from) k) _ _ is in (
      sent_by (node hosts from) k rest.0,
      segment_by (frame_sent hosts from k) (tcp_part (medium_of (node hosts from)) (frame_sent hosts from k)) slot word rest.1,
    )
can_do hosts (Hands (Noisy to bytes)) is = tt
can_do hosts (Cuts from k at) is =
    let rest = passed_by (is_no_frame (node hosts from) k) _ _ is in
    (sent_by (node hosts from) k rest.0, fragment_by (ipv4_part (medium_of (node hosts from)) (frame_sent hosts from k)) at rest.1)

pub allowed_can : (hosts : Nodes) (tables : Tables) (kind : Kind) → refusal hosts tables kind ≡ None → CanHappen hosts kind
allowed_can hosts tables (OfHost side act) is = can_call (node hosts side) (table tables side) act is
allowed_can hosts tables (OfLink act) is = can_do hosts act is

pub allowed_room : (hosts : Nodes) (tables : Tables) (kind : Kind) (side : Side) → refusal hosts tables kind ≡ None →
    HasByteRoom side (table tables side).records kind
allowed_room hosts tables (OfHost s (Calls i call)) side is =
    room_of (names_tcp_or_udp Medium.Ip) tables side s i call
    (called_by (names_tcp_or_udp Medium.Ip) (kind_at (node hosts s).slots i) (table tables s).records i call is).1
allowed_room hosts tables (OfHost s (Polls instant budget)) side is = tt
allowed_room hosts tables (OfHost s (Asks instant)) side is = tt
allowed_room hosts tables (OfHost s (Sets setting)) side is = tt
allowed_room hosts tables (OfHost s (Opens room)) side is = tt
allowed_room hosts tables (OfLink act) side is = tt

-- BY THE ACTOR

some_side : (a b : Side) → (let o : Option Side = Some a in o) ≡ Some b → a ≡ b
some_side a b is = cc

pub can_act : (hosts : Nodes) (kind : Kind) (side : Side) → actor kind ≡ Some side → CanHappen hosts kind → CanActBy (node hosts side) kind
can_act hosts (OfHost s act) side is can = subst (λ (x : Side). CanAct (node hosts x) act) (some_side s side is) can
can_act hosts (OfLink act) side is can = absurd cc

pub can_link : (hosts : Nodes) (kind : Kind) → actor kind ≡ None → CanHappen hosts kind → CanLinkBy hosts kind
can_link hosts (OfHost s act) is can = tt
can_link hosts (OfLink act) is can = can

pub refused_host : (hosts : Nodes) (tables : Tables) (kind : Kind) (side : Side) → actor kind ≡ Some side →
    refusal hosts tables kind ≡ act_refusal (node hosts side) (table tables side) kind
refused_host hosts tables (OfHost s act) side is =
    ap (λ (x : Side). first_refusal (act_tests (node hosts x) (table tables x) act)) (some_side s side is)
refused_host hosts tables (OfLink act) side is = absurd cc

pub refused_link : (hosts : Nodes) (tables : Tables) (kind : Kind) → actor kind ≡ None → refusal hosts tables kind ≡ link_refusal hosts kind
refused_link hosts tables (OfHost s act) is = absurd cc
refused_link hosts tables (OfLink act) is = refl

pub acts_happen_a : (a b a' : NodeValue) (kind : Kind) (t : Taken) → actor kind ≡ Some A → ActsBy a kind t a' →
    HappensBy (record { a = a; b = b }) kind t (record { a = a'; b = b })
acts_happen_a a b a' (OfHost A act) t is acts = (record { acts = acts.0; rests = refl }, acts.1)
acts_happen_a a b a' (OfHost B act) t is acts = absurd cc
acts_happen_a a b a' (OfLink act) t is acts = absurd acts

pub acts_happen_b : (a b b' : NodeValue) (kind : Kind) (t : Taken) → actor kind ≡ Some B → ActsBy b kind t b' →
    HappensBy (record { a = a; b = b }) kind t (record { a = a; b = b' })
acts_happen_b a b b' (OfHost B act) t is acts = (record { acts = acts.0; rests = refl }, acts.1)
acts_happen_b a b b' (OfHost A act) t is acts = absurd cc
acts_happen_b a b b' (OfLink act) t is acts = absurd acts

pub links_happen : (hosts new : Nodes) (kind : Kind) (t : Taken) → actor kind ≡ None → new ≡ linked_by hosts kind → t.answer ≡ To.Done → t.kept ≡ To.Done →
    t.found ≡ None → HappensBy hosts kind t new
links_happen hosts new (OfHost s act) t is linked answer kept found = absurd cc
links_happen hosts new (OfLink act) t is linked answer kept found = ((answer, found, linked), kept ∙ sym answer)

pub ruleset allowed = (can_act, can_link, acts_happen_a, acts_happen_b, links_happen)
