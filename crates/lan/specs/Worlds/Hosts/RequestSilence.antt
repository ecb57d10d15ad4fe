-- A second between a host's own requests for neighbours (RFC 1122, section 2.3.2.1; RFC 4861, section 7.2.2).
use Rattle.std.specs.Prelude.{◌≤ℤ◌, ℤ, List, [], ◌∷◌, ◌++◌}
use Rattle.std.specs.List.{AllByRecursion}
use Rattle.iface_egress.specs.Departure.{Departure, Asks, Tells, Whole, Part}
use Rattle.interface.specs.Touches.{second_after}
use Rattle.lan.specs.Worlds.Hosts.Machine.{Turn, instant_of}

-- the instants of the requests among what left at an instant
abbrev pub requests_in : ℤ → List Departure → List ℤ
requests_in t [] = []
requests_in t (Asks question ∷ ds) = t ∷ requests_in t ds
requests_in t (Tells packet ∷ ds) = requests_in t ds
requests_in t (Whole to p ∷ ds) = requests_in t ds
requests_in t (Part to header fragment ∷ ds) = requests_in t ds

-- when a host asked for a neighbour, the newest first
abbrev pub requests : List Turn → List ℤ
requests [] = []
requests (turn ∷ past) = requests_in (instant_of turn.act) turn.departures ++ requests past

-- each instant is a second or more after each earlier one
abbrev pub AreApart : List ℤ → Type 0
AreApart [] = Unit {0}
AreApart (t ∷ before) = AllByRecursion (λ s. second_after s ≤ℤ t) before × AreApart before
