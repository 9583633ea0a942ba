-- The writer and its answers as the code has them, and what every add shares.
use Rattle.std.specs.Prelude.{ℕ, ◌+◌, Bool, ◌&&◌, ◌||◌, not, leb, ltb, eqb}
use Rattle.rfc3550.specs.Answer.{Refusal, refusal, Answer, ok, need, ◌>>◌, ◌>>=◌, capped, pick, map_ok}
use Rattle.rfc3550.specs.Packet.{is_report}
use Rattle.rfc3550.specs.Write.{Given, size_given}
use Rattle.rfc3550.specs.Writer as rfc
use Rattle.utils.specs.Writer.{written_of}
use Rattle.compound_write.specs.declared.writer.Writer.{Writer}
use Rattle.compound_write.specs.declared.writer.Call.{Call}

abbrev pub writer_of : Writer → rfc.Writer
writer_of w = record { len = w.len; padded = w.padded; cname = w.cname; closed = w.closed }

abbrev pub call_of : Call → Answer (Unit {0}) × rfc.Writer
call_of r = (written_of r.answer, writer_of r.writer)

-- the size of the packet given, where an add lays it down in a buffer of n bytes
abbrev pub size_added : rfc.Writer → Given → ℕ → Answer ℕ
size_added w g n = map_ok (λ (u : Unit {0}). size_given g) (rfc.add_tests w g n)

-- a packet of this type and size, 0 where its own order refuses it, may be laid down in a buffer of n bytes
abbrev pub admits : rfc.Writer → ℕ → ℕ → ℕ → Bool
admits w type size n = not w.closed && (not w.padded && ((ltb 0 w.len || is_report type) && (ltb 0 size && leb (w.len + size) n)))

-- why it may not: 26, 29, 27, the packet's own refusal, then 10, with the length so far if the buffer is shorter than that, else with the packet
abbrev pub why_not : rfc.Writer → ℕ → ℕ → Refusal → ℕ → Refusal
why_not w type size own n =
    pick w.closed (refusal 26 0 0)
    (pick w.padded (refusal 29 0 0)
    (pick (not (ltb 0 w.len || is_report type)) (refusal 27 0 0)
    (pick (eqb size 0) own
    (pick (ltb n w.len) (refusal 10 (capped w.len) 0) (refusal 10 (capped (w.len + size)) 0)))))

-- both: the book's order, over the type of a packet and the size, or the refusal, that its own order gives
unfoldable pub admitted : rfc.Writer → ℕ → Answer ℕ → ℕ → Answer ℕ
admitted w type size n = do
  need (not w.closed) 26 0 0
  need (not w.padded) 29 0 0
  need (ltb 0 w.len || is_report type) 27 0 0
  k ← size
  need (leb w.len n) 10 (capped w.len) 0
  need (leb (w.len + k) n) 10 (capped (w.len + k)) 0
  ok k

-- the writer with a packet of that size, that padding and, or not, a CNAME laid down
abbrev pub advanced : rfc.Writer → ℕ → ℕ → Bool → rfc.Writer
advanced w size padding cname = record { len = w.len + size; padded = ltb 0 padding; cname = w.cname || cname; closed = w.closed }
