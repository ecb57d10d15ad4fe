-- Captures of frames, as libpcap writes them (draft-ietf-opsawg-pcap).
use Rattle.std.specs.Prelude.{◌≡◌, refl, ℕ, zero, suc, ◌/◌, ◌%◌, Bool, true, false, ℤ, pos, negsuc, List, [], ◌∷◌, ◌++◌, length}
use Rattle.std.specs.Coded.{Coded, code_by, coded_ℕ}
use Rattle.base_device.specs.declared.capabilities.Medium.{Medium}
use Rattle.base_device.specs.declared.capabilities.Medium.TheVariants.{Ethernet, Ip}
use Rattle.base_wrappers.specs.declared.writer.Direction.{Direction}
use Rattle.base_wrappers.specs.declared.writer.Direction.TheVariants.{Rx, Tx}
use Rattle.base_wrappers.specs.declared.pcap.PcapMode.{PcapMode}
use Rattle.base_wrappers.specs.declared.pcap.PcapMode.TheVariants.{Both, RxOnly, TxOnly}
use Rattle.base_wrappers.specs.Trace.{Seen}

-- the 32 lowest bits of a number, the lowest byte first
abbrev pub le32 : ℕ → List ℕ
le32 n = n % 256 ∷ n / 256 % 256 ∷ n / 65536 % 256 ∷ n / 16777216 % 256 ∷ []

-- the number of a medium (LINKTYPE_ETHERNET, LINKTYPE_RAW)
abbrev pub link_type : Medium → ℕ
link_type Ethernet = 1
link_type Ip = 101

-- what stands before the records: the magic number of microseconds, version 2.4, eight bytes of 0, the longest frame, the link type
abbrev pub file_header : Medium → List ℕ
file_header medium =
    0xd4 ∷ 0xc3 ∷ 0xb2 ∷ 0xa1 ∷ 2 ∷ 0 ∷ 4 ∷ 0 ∷ 0 ∷ 0 ∷ 0 ∷ 0 ∷ 0 ∷ 0 ∷ 0 ∷ 0 ∷ 0x0d ∷ 0 ∷ 1 ∷ 0 ∷ link_type medium ∷ 0 ∷ 0 ∷ 0 ∷ []

-- an instant's microseconds, 0 before the start
abbrev pub stamp : ℤ → ℕ
stamp (pos n) = n
stamp (negsuc n) = 0

-- a frame's record: its instant in seconds and microseconds, its length twice, and its bytes
unfoldable pub record_of : ℤ → List ℕ → List ℕ
record_of t frame =
    le32 (stamp t / 1000000) ++ le32 (stamp t % 1000000) ++ le32 (length frame) ++ le32 (length frame) ++ frame

-- which frames a mode captures
abbrev pub captures : PcapMode → Direction → Bool
captures Both direction = true
captures RxOnly Rx = true
captures RxOnly Tx = false
captures TxOnly Rx = false
captures TxOnly Tx = true

abbrev pub mode_number : PcapMode → ℕ
mode_number Both = 0
mode_number RxOnly = 1
mode_number TxOnly = 2

abbrev pub mode_of : ℕ → PcapMode
mode_of zero = Both
mode_of (suc zero) = RxOnly
mode_of (suc (suc n)) = TxOnly

abbrev pub same_mode : (mode : PcapMode) → mode_of (mode_number mode) ≡ mode
same_mode Both = refl
same_mode RxOnly = refl
same_mode TxOnly = refl

abbrev pub pcap_mode_code : Coded PcapMode
pcap_mode_code = code_by ℕ coded_ℕ mode_number mode_of same_mode

-- what is written of a frame: its record, whichever its direction
abbrev pub IsRecord : PcapMode → ℤ → Direction → List ℕ → List ℕ → Type 0
IsRecord mode t direction frame bytes = bytes ≡ record_of t frame

-- the records of frames, one behind the other
abbrev pub records_of : List Seen → List ℕ
records_of [] = []
records_of (s ∷ frames) = record_of s.instant s.frame ++ records_of frames
