-- What the C functions of walks and of the writer returned, in turn: each one's ensures, and what is seen of it.
use Rattle.std.specs.Prelude.{ℕ, ◌≡◌, List, [], length, take, drop, eqb}
use Rattle.rfc3550.specs.Answer.{Answer, ok, refused, refuse, map_ok, pick}
use Rattle.rfc3550.specs.Loss.{Loss}
use Rattle.rfc3550.specs.Packet.{receiver, sender, Item, item, priv, item_type, item_rest, Chunk, chunk_bytes, Packet as Read, layout}
use Rattle.rfc3550.specs.Walk.{step, SdesWalk, sdes_step, item_step}
use Rattle.rfc3550.specs.Write.{Given, give_report, give_sdes, give_bye, give_app}
use Rattle.rfc3550.specs.Writer.{Request, add, close, call}
use Rattle.rfc3550.specs.Calls.{compounds}
use Rattle.rfc3550.specs.Returned.{Stepper, Caller}
use Rattle.sdes_chunk.specs.Item.{value_of}
use Rattle.sdes_chunk.specs.Chunk.{cname_place}
use Rattle.sdes_chunk.specs.Walk.{item_stepped}
use Rattle.sdes.specs.Walk.{chunk_stepped}
use Rattle.report_write.specs.Report.{block_lists}
use Rattle.sdes_write.specs.Packets.{lists}
use Rattle.compound.specs.Packet.{packet_view}
use Rattle.compound.specs.Compound.{step_view}
use Rattle.rtcp.specs.Result.{number_of, first_of, second_of}
use Rattle.rtcp.specs.Sdes.{chunk_step_result, item_step_result}
use Rattle.rtcp.specs.Compound.{numbers, bare_numbers, numbers_of, step_result}
use Rattle.rtcp.specs.WriteCompound.{writer_in, call_with_buffer}
use Rattle.rtcp.specs.declared.read_compound.PacketNumbers.{PacketNumbers}
use Rattle.rtcp.specs.declared.read_compound.RtcpStep.{RtcpStep}
use Rattle.rtcp.specs.declared.read_sdes.RtcpChunkStep.{RtcpChunkStep}
use Rattle.rtcp.specs.declared.read_sdes.RtcpItemStep.{RtcpItemStep}
use Rattle.rtcp.specs.declared.write_compound.RtcpCall.{RtcpCall}

-- the number of an answer, 0 where it is done, and the details
abbrev pub Said : Type 0
Said = ℕ × ℕ × ℕ

abbrev pub said : {A : Type 0} → Answer A → Said
said a = (number_of a, first_of a, second_of a)

-- ---- rtcp_walk_step on the bytes s: the packet's numbers, and the bytes at its offset and length

abbrev pub packet_steps : List ℕ → Stepper
packet_steps s = record { H = ℕ; R = RtcpStep; Meets = λ at r. r ≡ step_result at (map_ok step_view (step s at)); next = λ at r. r.at }

abbrev pub numbers_in : RtcpStep → PacketNumbers
numbers_in r =
    numbers r.kind r.packet_type r.count r.body r.padding_len r.ssrc r.ntp_timestamp r.rtp_timestamp r.packet_count
    r.octet_count r.extension r.has_cname r.has_reason r.reason r.reason_len

abbrev pub packet_shown : List ℕ → ℕ → RtcpStep → Said × PacketNumbers × List ℕ
packet_shown s at r = ((r.number, r.first, r.second), numbers_in r, take r.len (drop r.offset s))

-- on a refusal all but its numbers is 0
abbrev pub packet_due : Answer Read → Said × PacketNumbers × List ℕ
packet_due (ok p) = ((0, 0, 0), numbers_of (packet_view p), layout p)
packet_due (refused r) = (said {A = Read} (refused r), bare_numbers 0 0 0 0, [])

-- ---- rtcp_chunk_walk_step: SSRC, length, place of the first CNAME, and the bytes at the walk's place

abbrev pub chunk_steps : List ℕ → Stepper
chunk_steps s = record { H = SdesWalk; R = RtcpChunkStep; Meets = λ w r. r ≡ chunk_step_result w.at w.end (map_ok chunk_stepped (sdes_step s w)); next = λ w r. record { at = r.at; end = r.end } }

abbrev pub chunk_shown : List ℕ → SdesWalk → RtcpChunkStep → Said × Said × List ℕ
chunk_shown s w r = ((r.number, r.first, r.second), (r.ssrc, r.length, r.cname), take r.length (drop w.at s))

abbrev pub chunk_due : Answer Chunk → Said × Said × List ℕ
chunk_due (ok c) = ((0, 0, 0), (c.ssrc, length (chunk_bytes c), cname_place 4 c.items), chunk_bytes c)
chunk_due (refused r) = (said {A = Chunk} (refused r), (0, 0, 0), [])

-- ---- rtcp_item_walk_step: type, length, and the bytes at the places of prefix and value

abbrev pub item_steps : List ℕ → Stepper
item_steps s = record { H = ℕ; R = RtcpItemStep; Meets = λ at r. r ≡ item_step_result at (map_ok item_stepped (item_step s at)); next = λ at r. r.at }

abbrev pub item_shown : List ℕ → ℕ → RtcpItemStep → Said × ℕ × ℕ × List ℕ × List ℕ
item_shown s at r = ((r.number, r.first, r.second), r.type_, r.length, take r.prefix_len (drop r.prefix s), take r.value_len (drop r.value s))

abbrev pub prefix_bytes : Item → List ℕ
prefix_bytes (item t v) = []
prefix_bytes (priv p v) = p

abbrev pub item_due : Answer Item → Said × ℕ × ℕ × List ℕ × List ℕ
item_due (ok i) = ((0, 0, 0), item_type i, length (item_rest i), prefix_bytes i, value_of i)
item_due (refused r) = (said {A = Item} (refused r), 0, 0, [], [])

-- ---- the writer's functions that add, each with its arguments

pub data Adding : Type 0 where
  rtcp_writer_add_rr : ℕ → List ℕ → List Loss → List ℕ → ℕ → Adding
  rtcp_writer_add_sr : ℕ → ℕ → ℕ → ℕ → ℕ → List ℕ → List Loss → List ℕ → ℕ → Adding
  rtcp_writer_add_sdes : List ℕ → List ℕ → List ℕ → List ℕ → List ℕ → List ℕ → ℕ → Adding
  rtcp_writer_add_bye : List ℕ → List ℕ → ℕ → Adding
  rtcp_writer_add_app : ℕ → ℕ → List ℕ → List ℕ → ℕ → Adding

abbrev pub given : Adding → Given
given (rtcp_writer_add_rr ssrc fractions losses words padding) = give_report (receiver ssrc) (block_lists fractions losses words) padding
given (rtcp_writer_add_sr ssrc ntp rtp packets octets fractions losses words padding) = give_report (sender ssrc ntp rtp packets octets) (block_lists fractions losses words) padding
given (rtcp_writer_add_sdes ssrcs counts types prefixes values bytes padding) = give_sdes (lists ssrcs counts types prefixes values bytes) padding
given (rtcp_writer_add_bye sources reason padding) = give_bye sources reason padding
given (rtcp_writer_add_app subtype ssrc name d padding) = give_app subtype ssrc name d padding

-- what a call returned: for one that adds, its function and arguments, the buffer at entry, the answer, and the state and the buffer at exit
pub data Result : Type 0 where
  added : Adding → List ℕ → RtcpCall → List ℕ → List ℕ → Result
  rtcp_writer_close : RtcpCall → List ℕ → Result

-- what was asked for, the buffer lent, what was returned, the state and the buffer left; a close is lent no buffer
abbrev pub request : Result → Request
request (added g buf r state out) = add (given g)
request (rtcp_writer_close r state) = close

abbrev pub lent : Result → List ℕ
lent (added g buf r state out) = buf
lent (rtcp_writer_close r state) = []

abbrev pub call_returned : Result → RtcpCall
call_returned (added g buf r state out) = r
call_returned (rtcp_writer_close r state) = r

abbrev pub state_left : Result → List ℕ
state_left (added g buf r state out) = state
state_left (rtcp_writer_close r state) = state

abbrev pub left : Result → List ℕ
left (added g buf r state out) = out
left (rtcp_writer_close r state) = []

-- each function's own ensures, from the state that it was lent
abbrev pub Meets : List ℕ → Result → Type 0
Meets writer (added g buf r state out) = (r, state, out) ≡ call_with_buffer writer (call (add (given g)) (writer_in writer) buf)
Meets writer (rtcp_writer_close r state) = (r, state, []) ≡ call_with_buffer writer (call close (writer_in writer) [])

-- 0 is done
abbrev pub answered : RtcpCall → Answer (Unit {0})
answered r = pick (eqb r.number 0) (ok tt) (refuse r.number r.first r.second)

abbrev pub writers : Caller compounds
writers =
    record {
      H = List ℕ;
      R = Result;
      Meets = Meets;
      next = λ w r. state_left r;
      writer = writer_in;
      request = request;
      lent = lent;
      answer = λ r. answered (call_returned r);
      left = left;
    }
