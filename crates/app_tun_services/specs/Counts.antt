-- What a host counted, as text.
use Rattle.std.specs.Prelude.{ℕ, ◌+◌, ◌-◌, ◌^◌, min, List, length, take, codes, decimal}
use Rattle.tcp_block.specs.Calls.{send_after}
use Rattle.tcp_block.specs.Value.{TcpValue}
use Rattle.app_tun_services.specs.declared.counts.Counts.{Counts}

abbrev pub spaces : List ℕ
spaces = codes "                    "

-- a number at the right of twenty slots, and what it counts
unfoldable pub line_said : ℕ → List ℕ → TcpValue → TcpValue
line_said number label v = send_after (send_after (send_after v (take (20 - length (decimal number)) spaces)) (decimal number)) label

-- of the frames that came those that are dropped, by reason
unfoldable pub faults_said : Counts → TcpValue → TcpValue
faults_said c v =
    line_said c.checksum (codes " of them with a wrong checksum, dropped\n")
    (line_said c.header (codes " of them with a damaged header, dropped\n")
    (line_said c.unknown (codes " of them neither IP nor ARP, dropped\n")
    (line_said c.too_long (codes " of them too long for the link, dropped\n") v)))

unfoldable pub frames_said : Counts → TcpValue → TcpValue
frames_said c v =
    line_said c.refused (codes " frames refused by the device\n")
    (line_said c.resets_sent (codes " of them resets\n")
    (line_said c.sent (codes " frames sent\n")
    (line_said c.resets_received (codes " of them resets\n")
    (faults_said c
    (line_said c.received (codes " frames received\n") v)))))

unfoldable pub served_said : Counts → TcpValue → TcpValue
served_said c v =
    line_said c.declined (codes " requests declined\n")
    (line_said c.answered (codes " requests answered\n")
    (line_said c.pages (codes " connections of the page accepted\n")
    (line_said c.streams (codes " streams accepted\n") v)))

abbrev pub counts_said : Counts → TcpValue → TcpValue
counts_said c v = served_said c (frames_said c v)

-- counted to the largest number of 64 bits
abbrev pub one_more : ℕ → ℕ
one_more n = min (n + 1) (2 ^ 64 - 1)
