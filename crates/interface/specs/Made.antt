-- How an interface begins, and what its calls that set and ask make of it.
use Rattle.std.specs.Prelude.{◌≡◌, ℕ, ℤ, ◌-ℤ◌, int_lt, true, if◌then◌else◌, IsTrue, List, [], Option, None, Some, Result}
use Rattle.std.specs.Int.RustNames.{unsigned_abs}
use Rattle.std.specs.List.{AllByRecursion}
use Rattle.iface_tables.specs.declared.key.FragKey.{FragKey}
use Rattle.net_base.specs.DeviceCapabilities.{DeviceCapabilities}
use Rattle.iface_tables.specs.Inner.{InnerValue}
use Rattle.iface_tables.specs.Reassembly.{AssemblerValue, is_free}
use Rattle.iface_tables.specs.Settings.{MadeUnless, refusal, made, used}
use Rattle.iface_tables.specs.Assemblers.{free_assemblers}
use Rattle.iface_tables.specs.declared.config.Config.{Config}
use Rattle.iface_tables.specs.declared.config.NewError.{NewError}
use Rattle.iface_egress.specs.Fragments.{LeftValue}
use Rattle.iface_reports.specs.Reports.{ReportsValue, fresh}
use Rattle.interface.specs.Host.{HostValue}

-- where anything is told of multicast groups, nothing has to be yet
abbrev pub new_reports : Config → Option ReportsValue
new_reports config = if config.multicast_reports then Some (fresh config.random_seed) else None

-- how long fragments of a datagram are waited for at first: a minute, in microseconds
abbrev pub first_timeout : ℕ
first_timeout = 60_000_000

-- so many datagrams at a time can come in fragments at first; on a network of many from more sources
abbrev pub assembler_count : Config → ℕ
assembler_count config = if config.host_requirements then 16 else 2

abbrev pub new_host : Config → DeviceCapabilities → ℤ → HostValue
new_host config device instant =
    record { inner = made config device instant; left = None; assemblers = free_assemblers (assembler_count config) 4096; timeout = first_timeout; reports = new_reports config }

-- A refusal has its reason. Without one, an interface is made, or there is no memory for it.
abbrev pub Makes : Config → DeviceCapabilities → ℤ → Result HostValue NewError → Type 0
Makes config device instant result = MadeUnless (refusal config device instant) (new_host config device instant) result

-- nothing came in fragments, and nothing is half sent
abbrev pub IsIdle : Option LeftValue → List (AssemblerValue FragKey) → Type 0
IsIdle left assemblers = (left ≡ None) × AllByRecursion (λ s. is_free s ≡ true) assemblers

-- an interface at which nothing ran yet is idle, and knows no neighbour
abbrev pub IsIdleIfInitial : InnerValue → Option LeftValue → List (AssemblerValue FragKey) → Type 0
IsIdleIfInitial i left assemblers = IsTrue i.initial → IsIdle left assemblers × (i.neighbors.entries ≡ [])

abbrev pub with_inner : HostValue → InnerValue → HostValue
with_inner h i = record h { inner = i }

-- so many datagrams at a time can come in fragments; none has begun
abbrev pub with_assemblers : HostValue → ℕ → HostValue
with_assemblers h count = record h { assemblers = free_assemblers count 4096 }

abbrev pub with_timeout : HostValue → ℕ → HostValue
with_timeout h timeout = record h { inner = used h.inner; timeout = timeout }

-- how long it is until an instant, 0 where that has come
abbrev pub time_until : ℤ → ℤ → ℕ
time_until now instant = if int_lt now instant then unsigned_abs (instant -ℤ now) else 0

abbrev pub delay_by : ℤ → Option ℤ → Option ℕ
delay_by now None = None
delay_by now (Some instant) = Some (time_until now instant)
