-- The writer's calls with all that is said of each: its arguments, the buffer at entry, what it returned and the buffer at exit.
use Rattle.std.specs.Prelude.{ℕ, ◌≡◌, List, []}
use Rattle.rfc3550.specs.Loss.{Loss}
use Rattle.rfc3550.specs.Packet.{receiver}
use Rattle.rfc3550.specs.Write.{Given, give_report, give_sdes, give_bye, give_app}
use Rattle.rfc3550.specs.Writer.{Request, add, close, call}
use Rattle.rfc3550.specs.Calls.{compounds}
use Rattle.rfc3550.specs.Returned.{Caller}
use Rattle.utils.specs.Writer.{written_of}
use Rattle.report_write.specs.Report.{block_lists, sender_of}
use Rattle.report_write.specs.declared.sender.SenderInfo.{SenderInfo}
use Rattle.sdes_write.specs.Packets.{lists}
use Rattle.compound_write.specs.Writer.{writer_of}
use Rattle.compound_write.specs.declared.writer.Writer.{Writer}
use Rattle.compound_write.specs.declared.writer.Call.{Call}

-- what is added: a packet of each kind, with what its struct holds
pub data Adding : Type 0 where
  add_rr : ℕ → List ℕ → List Loss → List ℕ → ℕ → Adding
  add_sr : SenderInfo → List ℕ → List Loss → List ℕ → ℕ → Adding
  add_sdes : List ℕ → List ℕ → List ℕ → List ℕ → List ℕ → List ℕ → ℕ → Adding
  add_bye : List ℕ → List ℕ → ℕ → Adding
  add_app : ℕ → ℕ → List ℕ → List ℕ → ℕ → Adding

abbrev pub given : Adding → Given
given (add_rr ssrc fractions losses words padding) = give_report (receiver ssrc) (block_lists fractions losses words) padding
given (add_sr info fractions losses words padding) = give_report (sender_of info) (block_lists fractions losses words) padding
given (add_sdes ssrcs counts types prefixes values bytes padding) = give_sdes (lists ssrcs counts types prefixes values bytes) padding
given (add_bye sources reason padding) = give_bye sources reason padding
given (add_app subtype ssrc name d padding) = give_app subtype ssrc name d padding

-- what a call returned: for one that adds, the packet, the buffer at entry, the answer and the buffer at exit
pub data Result : Type 0 where
  added : Adding → List ℕ → Call → List ℕ → Result
  closed : Call → Result

-- what was asked for, the buffer lent, what was returned and the buffer left; a close is lent none
abbrev pub request : Result → Request
request (added g buf r out) = add (given g)
request (closed r) = close

abbrev pub lent : Result → List ℕ
lent (added g buf r out) = buf
lent (closed r) = []

abbrev pub call_returned : Result → Call
call_returned (added g buf r out) = r
call_returned (closed r) = r

abbrev pub left : Result → List ℕ
left (added g buf r out) = out
left (closed r) = []

-- each function's own ensures
abbrev pub Meets : Writer → Result → Type 0
Meets self (added g buf r out) = (written_of r.answer, writer_of r.writer, out) ≡ call (add (given g)) (writer_of self) buf
Meets self (closed r) = (written_of r.answer, writer_of r.writer, []) ≡ call close (writer_of self) []

abbrev pub writers : Caller compounds
writers =
    record {
      H = Writer;
      R = Result;
      Meets = Meets;
      next = λ w r. (call_returned r).writer;
      writer = writer_of;
      request = request;
      lent = lent;
      answer = λ r. written_of (call_returned r).answer;
      left = left;
    }
