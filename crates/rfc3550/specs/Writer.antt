-- Document 01, "Compounds": the compound writer. It holds the length so far, and the buffer is lent again at each call. Every call is
-- fixed for any state handed in.
use Rattle.std.specs.Prelude.{ℕ, ◌+◌, Bool, true, false, ◌||◌, not, List, length, leb, ltb}
use Rattle.rfc3550.specs.Answer.{Answer, ◌>>◌, need, after, capped}
use Rattle.rfc3550.specs.Bytes.{store}
use Rattle.rfc3550.specs.Packet.{type, layout, is_report, some, chunks_of, chunk_has_cname}
use Rattle.rfc3550.specs.Write.{Given, packet_given, content_given, padding_given, size_given, tests}

pub record Writer : Type 0 where
  pub len : ℕ
  pub padded : Bool
  pub cname : Bool
  pub closed : Bool

abbrev pub fresh : Writer
fresh = record { len = 0; padded = false; cname = false; closed = false }

pub data Request : Type 0 where
  add : Given → Request
  close : Request

-- a CNAME that counts for closing
abbrev pub gives_cname : Given → Bool
gives_cname g = some chunk_has_cname (chunks_of (content_given g))

-- 26, 29, 27, the packet's own order, then 10: with the length so far if the buffer of n bytes is shorter than that, else with the packet
unfoldable pub add_tests : Writer → Given → ℕ → Answer (Unit {0})
add_tests w g n = do
  need (not w.closed) 26 0 0
  need (not w.padded) 29 0 0
  need (ltb 0 w.len || is_report (type (content_given g))) 27 0 0
  tests g
  need (leb w.len n) 10 (capped w.len) 0
  need (leb (w.len + size_given g) n) 10 (capped (w.len + size_given g)) 0

unfoldable pub close_tests : Writer → Answer (Unit {0})
close_tests w = do
  need (not w.closed) 26 0 0
  need w.cname 28 0 0

abbrev pub after_add : Writer → Given → Writer
after_add w g = record { len = w.len + size_given g; padded = ltb 0 (padding_given g); cname = w.cname || gives_cname g; closed = w.closed }

abbrev pub after_close : Writer → Writer
after_close w = record { len = w.len; padded = w.padded; cname = w.cname; closed = true }

-- a call on a writer and the buffer lent: the answer, the writer and the buffer after it
unfoldable pub call : Request → Writer → List ℕ → Answer (Unit {0}) × Writer × List ℕ
call (add g) w l = (
  add_tests w g (length l),
  after (add_tests w g (length l)) (after_add w g) w,
  after (add_tests w g (length l)) (store w.len (layout (packet_given g)) l) l,
)
call close w l = (close_tests w, after (close_tests w) (after_close w) w, l)
