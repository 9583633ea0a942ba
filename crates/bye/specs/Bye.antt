-- A BYE packet's fields, as functions of the packet.
use Rattle.std.specs.Prelude.{ℕ, ◌+◌, ◌*◌, Bool, true, false, List, [], length}
use Rattle.rfc3550.specs.Packet.{Leaving, no_reason, reason, Content, report, sdes, bye, app, unknown, Packet}
use Rattle.rfc3550.specs.Read.{sources_of}
use Rattle.bye.specs.declared.Bye.{Bye}

-- what follows the sources
abbrev pub leaving : Content → Leaving
leaving (report r bs extension) = no_reason
leaving (sdes cs) = no_reason
leaving (bye ss l) = l
leaving (app subtype ssrc name d) = no_reason
leaving (unknown t low b) = no_reason

abbrev pub has_reason : Leaving → Bool
has_reason no_reason = false
has_reason (reason r tail) = true

-- a reason has its length before it, in one byte
abbrev pub length_bytes : Leaving → ℕ
length_bytes no_reason = 0
length_bytes (reason r tail) = 1

abbrev pub reason_bytes : Leaving → List ℕ
reason_bytes no_reason = []
reason_bytes (reason r tail) = r

abbrev pub tail_bytes : Leaving → List ℕ
tail_bytes no_reason = []
tail_bytes (reason r tail) = tail

-- the place of the reason's first byte or, where there is none, the end of the sources
abbrev pub reason_at : Content → ℕ
reason_at c = 4 + 4 * length (sources_of c) + length_bytes (leaving c)

abbrev pub bye_view : Packet → Bye
bye_view p =
    record {
      n_sources = length (sources_of p.content);
      has_reason = has_reason (leaving p.content);
      reason = reason_at p.content;
      reason_len = length (reason_bytes (leaving p.content));
      body = reason_at p.content + length (reason_bytes (leaving p.content)) + length (tail_bytes (leaving p.content));
      padding_len = length p.padding;
    }
