-- Codes of ICMPv6 errors (RFC 4443, sections 3.1, 3.3 and 3.4).
use Rattle.std.specs.Prelude.{ℕ, List, codes, decimal, ◌==◌, if◌then◌else◌}
use Rattle.wire_icmpv6.specs.declared.reason.Icmpv6DstUnreachable.{Icmpv6DstUnreachable}
use Rattle.wire_icmpv6.specs.declared.reason.Icmpv6DstUnreachable.TheVariants as Unreachable
use Rattle.wire_icmpv6.specs.declared.reason.Icmpv6TimeExceeded.{Icmpv6TimeExceeded}
use Rattle.wire_icmpv6.specs.declared.reason.Icmpv6TimeExceeded.TheVariants as Exceeded
use Rattle.wire_icmpv6.specs.declared.reason.Icmpv6ParamProblem.{Icmpv6ParamProblem}
use Rattle.wire_icmpv6.specs.declared.reason.Icmpv6ParamProblem.TheVariants as Problem

-- the code of a reason for destination unreachable
abbrev pub unreachable_code : Icmpv6DstUnreachable → ℕ
unreachable_code Unreachable.NoRoute = 0
unreachable_code Unreachable.AdminProhibit = 1
unreachable_code Unreachable.BeyondScope = 2
unreachable_code Unreachable.AddrUnreachable = 3
unreachable_code Unreachable.PortUnreachable = 4
unreachable_code Unreachable.FailedPolicy = 5
unreachable_code Unreachable.RejectRoute = 6
unreachable_code (Unreachable.Unknown code) = code

-- the reason of a code
abbrev pub unreachable_of : ℕ → Icmpv6DstUnreachable
unreachable_of code =
    if code == 0 then Unreachable.NoRoute
    else (if code == 1 then Unreachable.AdminProhibit
    else (if code == 2 then Unreachable.BeyondScope
    else (if code == 3 then Unreachable.AddrUnreachable
    else (if code == 4 then Unreachable.PortUnreachable
    else (if code == 5 then Unreachable.FailedPolicy
    else (if code == 6 then Unreachable.RejectRoute
    else Unreachable.Unknown code))))))

-- the code of a reason for time exceeded
abbrev pub exceeded_code : Icmpv6TimeExceeded → ℕ
exceeded_code Exceeded.HopLimitExceeded = 0
exceeded_code Exceeded.FragReassemExceeded = 1
exceeded_code (Exceeded.Unknown code) = code

-- the reason of a code
abbrev pub exceeded_of : ℕ → Icmpv6TimeExceeded
exceeded_of code =
    if code == 0 then Exceeded.HopLimitExceeded
    else (if code == 1 then Exceeded.FragReassemExceeded else Exceeded.Unknown code)

-- the code of a parameter problem
abbrev pub problem_code : Icmpv6ParamProblem → ℕ
problem_code Problem.ErroneousHdrField = 0
problem_code Problem.UnrecognizedNxtHdr = 1
problem_code Problem.UnrecognizedOption = 2
problem_code (Problem.Unknown code) = code

-- the problem of a code
abbrev pub problem_of : ℕ → Icmpv6ParamProblem
problem_of code =
    if code == 0 then Problem.ErroneousHdrField
    else (if code == 1 then Problem.UnrecognizedNxtHdr
    else (if code == 2 then Problem.UnrecognizedOption else Problem.Unknown code))

-- The names that are printed; a number without one is printed itself.

-- what is printed of why a destination can't be reached
abbrev pub unreachable_text : Icmpv6DstUnreachable → List ℕ
unreachable_text Unreachable.NoRoute = codes "no route to destination"
unreachable_text Unreachable.AdminProhibit = codes "communication with destination administratively prohibited"
unreachable_text Unreachable.BeyondScope = codes "beyond scope of source address"
unreachable_text Unreachable.AddrUnreachable = codes "address unreachable"
unreachable_text Unreachable.PortUnreachable = codes "port unreachable"
unreachable_text Unreachable.FailedPolicy = codes "source address failed ingress/egress policy"
unreachable_text Unreachable.RejectRoute = codes "reject route to destination"
unreachable_text (Unreachable.Unknown n) = decimal n

-- what is printed of which limit was exceeded
abbrev pub exceeded_text : Icmpv6TimeExceeded → List ℕ
exceeded_text Exceeded.HopLimitExceeded = codes "hop limit exceeded in transit"
exceeded_text Exceeded.FragReassemExceeded = codes "fragment reassembly time exceeded"
exceeded_text (Exceeded.Unknown n) = decimal n

-- what is printed of what was wrong with a packet
abbrev pub problem_text : Icmpv6ParamProblem → List ℕ
problem_text Problem.ErroneousHdrField = codes "erroneous header field"
problem_text Problem.UnrecognizedNxtHdr = codes "unrecognized next header type"
problem_text Problem.UnrecognizedOption = codes "unrecognized IPv6 option"
problem_text (Problem.Unknown n) = decimal n
