-- A router advertisement (RFC 4861, section 4.2; the preference is RFC 4191's, section 2.2).
use Rattle.std.specs.Prelude.{◌≡◌, ℕ, ◌+◌, ◌*◌, ◌/◌, ◌%◌, ◌<◌, ◌≤◌, ◌^◌, ◌==◌, if◌then◌else◌, List, ◌∷◌, ◌++◌, length, drop, slice_index}
use Rattle.std.specs.Int.{w16, w32, to_be_bytes}
use Rattle.wire_address.specs.Fields.{be16, be32}
use Rattle.wire_router.specs.Options.{AreOptions}
use Rattle.wire_router.specs.declared.advert.RouterAdvert.{RouterAdvert}
use Rattle.wire_router.specs.declared.advert.RouterPreference.{RouterPreference}
use Rattle.wire_router.specs.declared.advert.RouterPreference.TheVariants as Preference

-- the reserved value counts as medium
abbrev pub preference_of : ℕ → RouterPreference
preference_of n = if n == 1 then Preference.High else (if n == 3 then Preference.Low else Preference.Medium)

abbrev pub preference_number : RouterPreference → ℕ
preference_number Preference.Low = 3
preference_number Preference.Medium = 0
preference_number Preference.High = 1

-- the bytes of the options
abbrev pub options_in : List ℕ → List ℕ
options_in message = drop 16 message

-- the message is an advertisement that says this; its checksum is another's
pub record IsRouterAdvert (message : List ℕ) (v : RouterAdvert) : Type 0 where
  pub header : 16 ≤ length message
  pub kind : slice_index message 0 ≡ 134
  pub code : slice_index message 1 ≡ 0
  pub hop_limit : v.hop_limit ≡ slice_index message 4
  pub managed : v.managed ≡ (slice_index message 5 / 128 == 1)
  pub other : v.other ≡ (slice_index message 5 / 64 % 2 == 1)
  pub preference : v.preference ≡ preference_of (slice_index message 5 / 8 % 4)
  pub lifetime : v.router_lifetime ≡ be16 message 6
  pub reachable : v.reachable_time ≡ be32 message 8
  pub retrans : v.retrans_time ≡ be32 message 12
  pub options : AreOptions (options_in message)

abbrev pub flags_of : RouterAdvert → ℕ
flags_of v = (if v.managed then 128 else 0) + (if v.other then 64 else 0) + 8 * preference_number v.preference

-- the advertisement with these options, and with 0 for its checksum
abbrev pub spelling : RouterAdvert → List ℕ → List ℕ
spelling v options =
    134 ∷ 0 ∷ 0 ∷ 0 ∷ v.hop_limit ∷ flags_of v
    ∷ (to_be_bytes w16 v.router_lifetime ++ (to_be_bytes w32 v.reachable_time ++ (to_be_bytes w32 v.retrans_time ++ options)))

-- each field is a number of its width
abbrev pub IsValue : RouterAdvert → Type 0
IsValue v = (v.hop_limit < 256) × (v.router_lifetime < 2 ^ 16) × (v.reachable_time < 2 ^ 32) × (v.retrans_time < 2 ^ 32)
