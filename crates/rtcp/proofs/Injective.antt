-- A result of C loses nothing of the answer: number 0 says that it is done, and no refusal has it.
use Rattle.std.specs.Prelude.{Result, Ok, Err}
use Rattle.rfc3550.proofs.Prelude.{ℕ, ◌<◌, Bool, true, false, ◌≡◌, refl, sym, ap, ◌∙◌, arith, eqb, ne_eqb}
use Rattle.rfc3550.specs.Answer.{refusal, Answer, ok, refused, pick}
use Rattle.rfc3550.specs.Writer.{Writer}
use Rattle.utils.specs.Error.{number_in, parse_refusal, write_refusal}
use Rattle.utils.specs.declared.error.RtcpParseError.{RtcpParseError}
use Rattle.utils.specs.declared.error.RtcpWriteError.{RtcpWriteError}
use Rattle.utils.specs.List.{listed_of}
use Rattle.utils.specs.Writer.{written_of}
use Rattle.utils.proofs.Injective.{injective, no_number, parse_error, parse_refusal_back, write_error, write_refusal_back, written_of_injective}
use Rattle.utils.specs.declared.list.ListError.{ListError}
use Rattle.utils.specs.declared.list.ListError.TheVariants as list
use Rattle.compound.specs.declared.packet.Packet.{Packet}
use Rattle.compound.specs.declared.packet.Packet.TheVariants as packet
use Rattle.compound.specs.declared.compound.Walk.{Walk}
use Rattle.rtcp.specs.Result.{number_of, first_of, second_of, first_in, bit}
use Rattle.rtcp.specs.Report.{block_result, rr_result, sr_result}
use Rattle.rtcp.specs.App.{app_result}
use Rattle.rtcp.specs.Bye.{bye_result, source_result}
use Rattle.rtcp.specs.Sdes.{sdes_result, item_result, prefix_result, chunk_result, chunk_walk_result, chunk_step_result, item_walk_result, item_step_result}
use Rattle.rtcp.specs.Lookup.{lookup_result}
use Rattle.rtcp.specs.Compound.{compound_result, walk_result, step_result}
use Rattle.rtcp.specs.WriteResult.{written_result}
use Rattle.rtcp.specs.WriteCompound.{writer_in, writer_out, call_result}
use Rattle.rtcp.specs.declared.read_compound.RtcpStep.{RtcpStep}
use Rattle.rtcp.proofs.WriteCalls.{writer_in_writer_out}

-- a refusal has a number above 0
abbrev pub Nonzero : {A : Type 0} → Answer A → Type 0
Nonzero (ok a) = Unit {0}
Nonzero (refused r) = 0 < number_in r

abbrev pub Injective : {A R : Type 0} → (Answer A → R) → Type 0
Injective {A} result = (a b : Answer A) → Nonzero a → Nonzero b → result a ≡ result b → a ≡ b

-- ---- one law over the result: it is enough that the value comes back from the fields

module _ {A : Type 0} where
  abbrev answer_from : ℕ × ℕ × ℕ → A → Answer A
  answer_from n a = pick (eqb n.0 0) (ok a) (refused (refusal n.0 n.1 n.2))

  answer_back : (a : Answer A) (value : A) → ((x : A) → a ≡ ok x → value ≡ x) → Nonzero a → answer_from (number_of a, first_of a, second_of a) value ≡ a
  answer_back (ok x) value h n = ap ok (h x refl)
  answer_back (refused (refusal number first second)) value h n = rw (ne_eqb number 0 (λ e. omega arith))

module _ {A R : Type 0} (result : Answer A → R) (value : R → A) (numbers : R → ℕ × ℕ × ℕ) (same : (a : Answer A) → numbers (result a) ≡ (number_of a, first_of a, second_of a))
    (back : (x : A) → value (result (ok x)) ≡ x) where
  from_back : (a : Answer A) → Nonzero a → answer_from (numbers (result a)) (value (result a)) ≡ a
  from_back a n = rw (same a) (answer_back a (value (result a)) (λ x e. ap (λ (a : Answer A). value (result a)) e ∙ back x) n)

  by_fields : Injective result
  by_fields a b n m e = sym (from_back a n) ∙ ap (λ (r : R). answer_from (numbers r) (value r)) e ∙ from_back b m

pub bit_back : (b : Bool) → eqb (bit b) 1 ≡ b
bit_back true = refl
bit_back false = refl

-- ---- each result

pub block_result_injective : Injective block_result
block_result_injective =
    by_fields block_result
    (λ r. record { ssrc = r.ssrc; fraction_lost = r.fraction_lost; cumulative_lost = r.cumulative_lost; extended_sequence_number = r.extended_sequence_number; interarrival_jitter = r.interarrival_jitter; last_sender_report_timestamp = r.last_sender_report_timestamp; delay_since_last_sender_report_timestamp = r.delay_since_last_sender_report_timestamp })
    (λ r. (r.number, r.first, r.second)) (λ a. refl) (λ x. refl)

pub rr_result_injective : Injective rr_result
rr_result_injective =
    by_fields rr_result (λ r. record { ssrc = r.ssrc; n_reports = r.n_reports; extension = r.extension; body = r.body; padding_len = r.padding_len })
    (λ r. (r.number, r.first, r.second)) (λ a. refl) (λ x. refl)

pub sr_result_injective : Injective sr_result
sr_result_injective =
    by_fields sr_result
    (λ r. record { ssrc = r.ssrc; ntp_timestamp = r.ntp_timestamp; rtp_timestamp = r.rtp_timestamp; packet_count = r.packet_count; octet_count = r.octet_count; n_reports = r.n_reports; extension = r.extension; body = r.body; padding_len = r.padding_len })
    (λ r. (r.number, r.first, r.second)) (λ a. refl) (λ x. refl)

pub app_result_injective : Injective app_result
app_result_injective =
    by_fields app_result (λ r. record { ssrc = r.ssrc; subtype = r.subtype; body = r.body; padding_len = r.padding_len })
    (λ r. (r.number, r.first, r.second)) (λ a. refl) (λ x. refl)

pub bye_result_injective : Injective bye_result
bye_result_injective =
    by_fields bye_result
    (λ r. record { n_sources = r.n_sources; has_reason = eqb r.has_reason 1; reason = r.reason; reason_len = r.reason_len; body = r.body; padding_len = r.padding_len })
    (λ r. (r.number, r.first, r.second)) (λ a. refl) (λ x. rw (bit_back x.has_reason))

pub source_result_injective : Injective source_result
source_result_injective = by_fields source_result (λ r. r.ssrc) (λ r. (r.number, r.first, r.second)) (λ a. refl) (λ x. refl)

pub sdes_result_injective : Injective sdes_result
sdes_result_injective =
    by_fields sdes_result (λ r. record { n_chunks = r.n_chunks; has_cname = eqb r.has_cname 1; body = r.body; padding_len = r.padding_len })
    (λ r. (r.number, r.first, r.second)) (λ a. refl) (λ x. rw (bit_back x.has_cname))

pub item_result_injective : Injective item_result
item_result_injective =
    by_fields item_result (λ r. record { type_ = r.type_; length = r.length; prefix_len = r.prefix_len }) (λ r. (r.number, r.first, r.second)) (λ a. refl) (λ x. refl)

pub prefix_result_injective : Injective prefix_result
prefix_result_injective = by_fields prefix_result (λ r. r.len) (λ r. (r.number, r.first, r.second)) (λ a. refl) (λ x. refl)

pub chunk_result_injective : Injective chunk_result
chunk_result_injective = by_fields chunk_result (λ r. record { ssrc = r.ssrc; length = r.length; cname = r.cname }) (λ r. (r.number, r.first, r.second)) (λ a. refl) (λ x. refl)

pub chunk_walk_result_injective : Injective chunk_walk_result
chunk_walk_result_injective = by_fields chunk_walk_result (λ r. record { at = r.at; end = r.end }) (λ r. (r.number, r.first, r.second)) (λ a. refl) (λ x. refl)

pub chunk_step_result_injective : (at end : ℕ) → Injective (chunk_step_result at end)
chunk_step_result_injective at end =
    by_fields (chunk_step_result at end) (λ r. (record { ssrc = r.ssrc; length = r.length; cname = r.cname }, record { at = r.at; end = r.end }))
    (λ r. (r.number, r.first, r.second)) (λ a. refl) (λ x. refl)

pub item_walk_result_injective : Injective item_walk_result
item_walk_result_injective = by_fields item_walk_result (λ r. record { at = r.at }) (λ r. (r.number, r.first, r.second)) (λ a. refl) (λ x. refl)

pub item_step_result_injective : (at : ℕ) → Injective (item_step_result at)
item_step_result_injective at =
    by_fields (item_step_result at) (λ r. (record { type_ = r.type_; length = r.length; prefix_len = r.prefix_len }, record { at = r.at }))
    (λ r. (r.number, r.first, r.second)) (λ a. refl) (λ x. refl)

pub lookup_result_injective : Injective lookup_result
lookup_result_injective = by_fields lookup_result (λ r. r.visits) (λ r. (r.number, r.first, r.second)) (λ a. refl) (λ x. refl)

pub compound_result_injective : Injective compound_result
compound_result_injective = by_fields compound_result (λ r. record { n_packets = r.n_packets }) (λ r. (r.number, r.first, r.second)) (λ a. refl) (λ x. refl)

pub walk_result_injective : Injective walk_result
walk_result_injective = by_fields walk_result (λ r. record { at = r.at }) (λ r. (r.number, r.first, r.second)) (λ a. refl) (λ x. refl)

-- the packet of a step, by its kind
abbrev packet_in : RtcpStep → Packet
packet_in r =
    pick (eqb r.kind 200)
    (packet.Sr (record { ssrc = r.ssrc; ntp_timestamp = r.ntp_timestamp; rtp_timestamp = r.rtp_timestamp; packet_count = r.packet_count; octet_count = r.octet_count; n_reports = r.count; extension = r.extension; body = r.body; padding_len = r.padding_len }))
    (pick (eqb r.kind 201)
    (packet.Rr (record { ssrc = r.ssrc; n_reports = r.count; extension = r.extension; body = r.body; padding_len = r.padding_len }))
    (pick (eqb r.kind 202)
    (packet.Sdes (record { n_chunks = r.count; has_cname = eqb r.has_cname 1; body = r.body; padding_len = r.padding_len }))
    (pick (eqb r.kind 203)
    (packet.Bye (record { n_sources = r.count; has_reason = eqb r.has_reason 1; reason = r.reason; reason_len = r.reason_len; body = r.body; padding_len = r.padding_len }))
    (pick (eqb r.kind 204)
    (packet.App (record { ssrc = r.ssrc; subtype = r.count; body = r.body; padding_len = r.padding_len }))
    (packet.Unknown (record { packet_type = r.packet_type; count = r.count; body = r.body; padding_len = r.padding_len }))))))

packet_back : (at : ℕ) (p : Packet) (w : Walk) → packet_in (step_result at (ok (p, w))) ≡ p
packet_back at (packet.Sr x) w = refl
packet_back at (packet.Rr x) w = refl
packet_back at (packet.Sdes x) w = rw (bit_back x.has_cname)
packet_back at (packet.Bye x) w = rw (bit_back x.has_reason)
packet_back at (packet.App x) w = refl
packet_back at (packet.Unknown x) w = refl

pub step_result_injective : (at : ℕ) → Injective (step_result at)
step_result_injective at =
    by_fields (step_result at) (λ r. (packet_in r, record { at = r.at })) (λ r. (r.number, r.first, r.second)) (λ a. refl)
    (λ x. ap (λ (p : Packet). (p, x.1)) (packet_back at x.0 x.1))

-- ---- a size, a list that is filled, a writer and a call

pub parse_nonzero : (e : RtcpParseError) → 0 < number_in (parse_refusal e)
parse_nonzero e = let h = no_number parse_refusal parse_error parse_refusal_back 0 (λ a b h. omega arith) e in omega arith

write_nonzero : (e : RtcpWriteError) → 0 < number_in (write_refusal e)
write_nonzero e = let h = no_number write_refusal write_error write_refusal_back 0 (λ a b h. omega arith) e in omega arith

written_nonzero : (w : Result ℕ RtcpWriteError) → Nonzero (written_of w)
written_nonzero = elim [ Ok n ↦ tt | Err e ↦ write_nonzero e ]

listed_nonzero : (w : Result ℕ ListError) → Nonzero (listed_of w)
listed_nonzero = elim [ Ok n ↦ tt | (Err (list.TooShort n)) ↦ omega arith | Err (list.Refused e) ↦ parse_nonzero e ]

-- no refusal of reading has the number of a list too short
abbrev listed_for : Answer ℕ → Result ℕ ListError
listed_for (ok n) = Ok n
listed_for (refused r) = pick (eqb (number_in r) 10) (Err (list.TooShort (first_in r))) (Err (list.Refused (parse_error r)))

listed_back : (w : Result ℕ ListError) → listed_for (listed_of w) ≡ w
listed_back (Ok n) = refl
listed_back (Err (list.TooShort n)) = refl
listed_back (Err (list.Refused e)) = rw (ne_eqb (number_in (parse_refusal e)) 10 (no_number parse_refusal parse_error parse_refusal_back 10 (λ a b h. omega arith) e), parse_refusal_back e)

size_injective : Injective written_result
size_injective = by_fields written_result (λ r. r.size) (λ r. (r.number, r.first, r.second)) (λ a. refl) (λ x. refl)

pub written_out_injective : (v w : Result ℕ RtcpWriteError) → written_result (written_of v) ≡ written_result (written_of w) → v ≡ w
written_out_injective v w h = written_of_injective v w (size_injective _ _ (written_nonzero v) (written_nonzero w) h)

pub listed_out_injective : (v w : Result ℕ ListError) → written_result (listed_of v) ≡ written_result (listed_of w) → v ≡ w
listed_out_injective v w h = injective listed_of listed_for listed_back v w (size_injective _ _ (listed_nonzero v) (listed_nonzero w) h)

pub writer_out_injective : (v w : Writer) → writer_out v ≡ writer_out w → v ≡ w
writer_out_injective = injective writer_out writer_in writer_in_writer_out

pub call_result_injective : Injective call_result
call_result_injective = by_fields call_result (λ r. tt) (λ r. (r.number, r.first, r.second)) (λ a. refl) (λ x. refl)
