-- Events whose numbers and addresses are of their widths, as those of typed events are.
use Rattle.std.specs.Prelude.{◌<◌, ◌^◌, List, [], ◌∷◌}
use Rattle.iface_ingress.specs.Address.{IsEthernetAddress, IsIpAddress}
use Rattle.lan.specs.Worlds.AtLink.History.{Entry}
use Rattle.lan.specs.Worlds.AtLink.Kinds.{Kind, Setting, Origin, Delivered, Damaged, Noisy, kind_of}
use Rattle.lan.specs.Worlds.AtLink.Kinds as Settings
use Rattle.lan.specs.Worlds.AtLink.Kinds.Kind.{OfHost, OfLink}
use Rattle.lan.specs.Worlds.AtLink.Kinds.Act.{Calls, Sets, Opens, Asks, Polls}
use Rattle.lan.specs.Worlds.AtLink.Kinds.LinkAct.{Hands, Cuts}

-- an exchanged word is one of 16 bits
abbrev pub HasWord : Origin → Type 0
HasWord (Delivered from k padding) = Unit {0}
HasWord (Damaged from k slot word padding) = word < 2 ^ 16
HasWord (Noisy to bytes) = Unit {0}

-- a hardware address has six bytes, and a router those of its family
abbrev pub HasRange : Setting → Type 0
HasRange (Settings.HardwareAddr address) = IsEthernetAddress address
HasRange (Settings.Addrs blocks) = Unit {0}
HasRange (Settings.Route router) = IsIpAddress router
HasRange (Settings.AnyIp any) = Unit {0}
HasRange (Settings.ReassemblyTimeout timeout) = Unit {0}

abbrev pub IsTyped : Kind → Type 0
IsTyped (OfHost side (Calls i call)) = Unit {0}
IsTyped (OfHost side (Sets setting)) = HasRange setting
IsTyped (OfHost side (Opens n)) = Unit {0}
IsTyped (OfHost side (Asks t)) = Unit {0}
IsTyped (OfHost side (Polls t budget)) = Unit {0}
IsTyped (OfLink (Hands o)) = HasWord o
IsTyped (OfLink (Cuts from k at)) = Unit {0}

-- so are all that a history has
abbrev pub AreTyped : List Entry → Type 0
AreTyped [] = Unit {0}
AreTyped (e ∷ past) = IsTyped (kind_of e.event) × AreTyped past
