-- The number and the details that document 01 gives each refusal of the code.
use Rattle.std.specs.Prelude.{ℕ, Option, None, Some, Result, Ok, Err}
use Rattle.rfc3550.specs.Answer.{Refusal, refusal, Answer, ok, refused}
use Rattle.utils.specs.declared.error.RtcpParseError.{RtcpParseError}
use Rattle.utils.specs.declared.error.RtcpParseError.TheVariants as parse
use Rattle.utils.specs.declared.error.RtcpWriteError.{RtcpWriteError}
use Rattle.utils.specs.declared.error.RtcpWriteError.TheVariants as write
use Rattle.utils.specs.declared.error.Code.{Code}

abbrev pub parse_refusal : RtcpParseError → Refusal
parse_refusal (parse.UnsupportedVersion version) = refusal 1 version 0
parse_refusal (parse.Truncated expected actual) = refusal 2 expected actual
parse_refusal (parse.TooLarge expected actual) = refusal 3 expected actual
parse_refusal parse.InvalidPadding = refusal 4 0 0
parse_refusal (parse.SdesPrivPrefixTooLarge len available) = refusal 5 len available
parse_refusal (parse.PacketTypeMismatch actual requested) = refusal 6 actual requested
parse_refusal (parse.FirstPacketNoReport t) = refusal 7 t 0
parse_refusal parse.NoCname = refusal 8 0 0
parse_refusal parse.NonLastCompoundPacketPadding = refusal 9 0 0
parse_refusal parse.NothingLeft = refusal 25 0 0
parse_refusal (parse.NotPriv t) = refusal 30 t 0
parse_refusal parse.AnswersTooShort = refusal 31 0 0

abbrev pub write_refusal : RtcpWriteError → Refusal
write_refusal (write.OutputTooSmall size) = refusal 10 size 0
write_refusal (write.InvalidPadding padding) = refusal 11 padding 0
write_refusal (write.AppSubtypeOutOfRange subtype max) = refusal 12 subtype max
write_refusal write.InvalidName = refusal 13 0 0
write_refusal (write.DataLen32bitMultiple len) = refusal 14 len 0
write_refusal (write.TooManySources count max) = refusal 15 count max
write_refusal (write.ReasonLenTooLarge len max) = refusal 16 len max
write_refusal (write.CumulativeLostTooLarge value max) = refusal 17 value max
write_refusal (write.TooManyReportBlocks count max) = refusal 18 count max
write_refusal (write.TooManySdesChunks count max) = refusal 19 count max
write_refusal (write.SdesValueTooLarge len max) = refusal 20 len max
write_refusal (write.SdesPrivPrefixTooLarge len max) = refusal 21 len max
write_refusal write.PacketTooLarge = refusal 22 0 0
write_refusal write.ItemTypeZero = refusal 23 0 0
write_refusal write.ListsDisagree = refusal 24 0 0
write_refusal write.WriterClosed = refusal 26 0 0
write_refusal write.FirstPacketNoReport = refusal 27 0 0
write_refusal write.NoCname = refusal 28 0 0
write_refusal write.AlreadyPadded = refusal 29 0 0

-- what a function that reads says
abbrev pub parsed_of : {A : Type 0} → Result A RtcpParseError → Answer A
parsed_of (Ok a) = ok a
parsed_of (Err e) = refused (parse_refusal e)

abbrev pub code_refusal : Code → Refusal
code_refusal c = refusal c.number c.first c.second

abbrev pub number_in : Refusal → ℕ
number_in (refusal number first second) = number

-- the value that an answer has, where it is no refusal
abbrev pub value_in : {A : Type 0} → Answer A → Option A
value_in (ok a) = Some a
value_in (refused r) = None
