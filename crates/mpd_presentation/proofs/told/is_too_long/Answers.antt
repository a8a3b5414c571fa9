use Rattle.std.proofs.Common.{lit<, arith}
use Rattle.mpd_presentation.proofs.told.is_too_long.Goals as goal

pub returns-then-least_len-gt-MAX_URL_LEN : goal.returns-then-least_len-gt-MAX_URL_LEN
returns-then-least_len-gt-MAX_URL_LEN c is =
    let segments = rw (c.id-id.ensures, c.bandwidth-bandwidth.ensures) at (c.names_segments.ensures is) in
    let lengths = rw (c.id-id.ensures, c.bandwidth-bandwidth.ensures) at c.least_len.ensures in
    let least = lengths 0 0 (lit< tt) (lit< tt) in
    (segments 0 0 (lit< tt) (lit< tt), omega (arith, least, c.if-least_len-gt-MAX_URL_LEN.true))
