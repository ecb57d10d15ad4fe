-- A frame that the link handed over is the same ever after: sent lists only grow.
use Rattle.std.proofs.Common.{◌≡◌, ℕ, ◌<◌, ◌+◌, Bool, true, false, not, nat_lt, if◌then◌else◌, List, [], ◌∷◌, ◌++◌, length, map, None, refl, sym, ap, ◌∙◌}
use Rattle.std.proofs.Common.{arith}
use Rattle.std.specs.Prelude.{slice_index_or}
use Rattle.std.specs.List.{AllByRecursion}
use Rattle.std.proofs.lemmas.Bool.Decides.{nat_tests}
use Rattle.std.proofs.lemmas.List.{map-append, get_or_append_left, length-append}
use Rattle.sim_link.specs.DeviceCapabilities.{DeviceCapabilities}
use Rattle.sim_link.specs.Medium.{Medium}
use Rattle.sim_link.specs.Parts.{tcp_part}
use Rattle.lan.specs.Worlds.AtLink.History.{Entry}
use Rattle.lan.specs.Worlds.AtLink.Kinds.{Kind, Origin, Delivered, Damaged, Noisy, same_side, kind_of}
use Rattle.lan.specs.Worlds.AtLink.Kinds.Kind.{OfHost, OfLink}
use Rattle.lan.specs.Worlds.AtLink.Kinds.LinkAct.{Hands, Cuts}
use Rattle.lan.specs.Worlds.AtLink.Refused.TheVariants as For
use Rattle.lan.specs.Worlds.AtLink.Side.{Side}
use Rattle.lan.specs.Worlds.AtLink.Origins.{medium_of, frame_sent, damaged_in, frame_of_origin, goes_to, origins_of, origins}
use Rattle.lan.specs.Worlds.AtLink.Refusals.{Tables, is_no_frame, segment_tests, refusal}
use Rattle.lan.specs.Worlds.AtLink.Node.{Nodes, node}
use Rattle.lan.specs.Worlds.Hosts.Proceeds.{Proceeds}
use Rattle.lan.proofs.Worlds.Hosts.There.{IsThere, AreThere}
use Rattle.lan.proofs.Worlds.Hosts.Acting.{not_refused}

pub among : (k n : ℕ) → not (nat_lt k n) ≡ false → k < n
among k n is = grind (arith, nat_tests)

-- WHAT IS ALLOWED IS THERE

pub origin_there : (hosts : Nodes) (tables : Tables) (o : Origin) → refusal hosts tables (OfLink (Hands o)) ≡ None → IsThere hosts o
origin_there hosts tables (Delivered from k padding) is =
    among k (length (node hosts from).link.sent) (not_refused (is_no_frame (node hosts from) k) For.NoFrame [] is).0
origin_there hosts tables (Damaged from k slot word padding) is =
    among k (length (node hosts from).link.sent)
    (not_refused (is_no_frame (node hosts from) k) For.NoFrame
    (segment_tests (frame_sent hosts from k) (tcp_part (medium_of (node hosts from)) (frame_sent hosts from k)) slot word) is).0
origin_there hosts tables (Noisy to bytes) is = tt

if_there : (hosts : Nodes) (o : Origin) (b : Bool) → IsThere hosts o → AllByRecursion (IsThere hosts) (if b then o ∷ [] else [])
if_there hosts o true there = (there, tt)
if_there hosts o false there = tt

pub allowed_there : (hosts : Nodes) (tables : Tables) (side : Side) (k : Kind) → refusal hosts tables k ≡ None →
    AllByRecursion (IsThere hosts) (origins_of side k)
allowed_there hosts tables side (OfHost s act) is = tt
allowed_there hosts tables side (OfLink (Cuts from k at)) is = tt
allowed_there hosts tables side (OfLink (Hands o)) is = if_there hosts o (same_side (goes_to o) side) (origin_there hosts tables o is)

-- WHAT IS THERE STAYS

module _ (old new : Nodes) (on : (side : Side) → Proceeds (node old side) (node new side)) where
  pub sent_stays : (from : Side) (k : ℕ) → k < length (node old from).link.sent → frame_sent new from k ≡ frame_sent old from k
  sent_stays from k below =
      ap (λ (xs : List (List ℕ)). slice_index_or xs k []) (on from).sent ∙ get_or_append_left (node old from).link.sent (on from).more [] k below

  pub medium_stays : (from : Side) → medium_of (node new from) ≡ medium_of (node old from)
  medium_stays from = ap (λ (c : DeviceCapabilities). c.medium) (on from).capabilities

  pub origin_same : (o : Origin) → IsThere old o → frame_of_origin new o ≡ frame_of_origin old o
  origin_same (Delivered from k padding) there = ap (λ (f : List ℕ). f ++ padding) (sent_stays from k there)
  origin_same (Damaged from k slot word padding) there =
      ap (λ (m : Medium). damaged_in (tcp_part m (frame_sent new from k)) (frame_sent new from k) slot word ++ padding) (medium_stays from)
      ∙ ap (λ (f : List ℕ). damaged_in (tcp_part (medium_of (node old from)) f) f slot word ++ padding) (sent_stays from k there)
  origin_same (Noisy to bytes) there = refl

  more_sent : (from : Side) (k : ℕ) → k < length (node old from).link.sent → k < length (node new from).link.sent
  more_sent from k below =
      let longer : length (node new from).link.sent ≡ length (node old from).link.sent + length (on from).more =
      ap (λ (xs : List (List ℕ)). length xs) (on from).sent ∙ length-append (node old from).link.sent (on from).more in
      omega (arith, longer, below)

  pub there_still : (o : Origin) → IsThere old o → IsThere new o
  there_still (Delivered from k padding) there = more_sent from k there
  there_still (Damaged from k slot word padding) there = more_sent from k there
  there_still (Noisy to bytes) there = tt

  pub all_same : (os : List Origin) → AllByRecursion (IsThere old) os → map (frame_of_origin new) os ≡ map (frame_of_origin old) os
  all_same [] there = refl
  all_same (o ∷ os) there =
      ap (λ (f : List ℕ). f ∷ map (frame_of_origin new) os) (origin_same o there.0) ∙
      ap (λ (fs : List (List ℕ)). frame_of_origin old o ∷ fs) (all_same os there.1)

  all_still : (os : List Origin) → AllByRecursion (IsThere old) os → AllByRecursion (IsThere new) os
  all_still [] there = tt
  all_still (o ∷ os) there = (there_still o there.0, all_still os there.1)

  pub still_there : (side : Side) (past : List Entry) → AreThere old side past → AreThere new side past
  still_there side [] there = tt
  still_there side (e ∷ past) there = (all_still (origins_of side (kind_of e.event)) there.0, still_there side past there.1)

  -- what the link handed over is what it was
  pub origins_stay : (side : Side) (past : List Entry) → AreThere old side past →
      map (frame_of_origin new) (origins side past) ≡ map (frame_of_origin old) (origins side past)
  origins_stay side [] there = refl
  origins_stay side (e ∷ past) there =
      let os = origins_of side (kind_of e.event) in
      map-append (frame_of_origin new) (origins side past) os
      ∙ ap (λ (fs : List (List ℕ)). fs ++ map (frame_of_origin new) os) (origins_stay side past there.1)
      ∙ ap (λ (fs : List (List ℕ)). map (frame_of_origin old) (origins side past) ++ fs) (all_same os there.0)
      ∙ sym (map-append (frame_of_origin old) (origins side past) os)
