-- What C gets of a source, and histories of what its functions returned.
use Rattle.rfc3550.proofs.Prelude.{ℕ, ◌/◌, ◌<◌, ◌≡◌, refl, sym, ap, ◌∙◌, subst, Bool, true, false, List, [], ◌∷◌, map, arith, eqb}
use Rattle.rfc3550.specs.Answer.{refusal, Answer, ok, refused}
use Rattle.rfc3550.specs.Packet.{Block, Reporter, All}
use Rattle.rfc3550.specs.Write.{lists_of, give_report, write}
use Rattle.rfc3550.specs.Writer.{add, call}
use Rattle.rfc3550.specs.Reception.{Reception, new_reception, starts, verdict, update, Reported, in_probation, made, report_block}
use Rattle.rfc3550.specs.History.{HappeningTyped, reception_after_all, packet_reply, block_reply, replies, outcomes, no_start, packets_in, moved_in, received_since, block_since}
use Rattle.rfc3550.specs.Returned.{Ran}
use Rattle.rfc3550.proofs.Answers.{true≢false, Never}
use Rattle.rfc3550.proofs.Receptions.{Gave, write_never, call_never}
use Rattle.rfc3550.proofs.Histories.{Follows, last, ran, returned}
use Rattle.report.specs.Block.{block_view}
use Rattle.rtcp.specs.Result.{number_of}
use Rattle.rtcp.specs.WriteResult.{written_with_buffer}
use Rattle.rtcp.specs.WriteCompound.{writer_in, call_with_buffer}
use Rattle.rtcp.specs.declared.write_result.RtcpWritten.{RtcpWritten}
use Rattle.rtcp.specs.declared.write_compound.RtcpCall.{RtcpCall}
use Rattle.rtcp.specs.Report.{block_result}
use Rattle.rtcp.specs.Receive.{reception_in, reception_result, update_result, report_result}
use Rattle.rtcp.specs.Received.{Call, rtcp_reception_update, rtcp_reception_report_block, happening_of, block_in, reply_of, receptions}
use Rattle.rtcp.specs.declared.receive.RtcpReception.{RtcpReception}
use Rattle.rtcp.specs.declared.receive.RtcpReceptionUpdate.{RtcpReceptionUpdate}
use Rattle.rtcp.specs.declared.receive.RtcpReceptionBlock.{RtcpReceptionBlock}
use Rattle.rtcp.proofs.Injective.{bit_back}

-- ---- histories

-- what C gets loses nothing
update_back : (x : Reception × Bool) → (reception_in (update_result x).reception, eqb (update_result x).accepted 1) ≡ x
update_back x = ap (λ (b : Bool). (x.0, b)) (bit_back x.1)

report_back : (ssrc lsr dlsr : ℕ) (x : Reported × Reception) → (reception_in (report_result x).reception ≡ x.1) × (reply_of (rtcp_reception_report_block ssrc lsr dlsr (report_result x)) ≡ block_reply x.0)
report_back ssrc lsr dlsr (in_probation, s) = (refl, refl)
report_back ssrc lsr dlsr (made b, s) = (refl, refl)

pub update_result_injective : (x y : Reception × Bool) → update_result x ≡ update_result y → x ≡ y
update_result_injective x y e = sym (update_back x) ∙ ap (λ (r : RtcpReceptionUpdate). (reception_in r.reception, eqb r.accepted 1)) e ∙ update_back y

pub report_result_injective : (x y : Reported × Reception) → report_result x ≡ report_result y → (block_reply x.0 ≡ block_reply y.0) × (x.1 ≡ y.1)
report_result_injective x y e = (
  sym (report_back 0 0 0 x).1 ∙ ap (λ (r : RtcpReceptionBlock). reply_of (rtcp_reception_report_block 0 0 0 r)) e ∙ (report_back 0 0 0 y).1,
  sym (report_back 0 0 0 x).0 ∙ ap (λ (r : RtcpReceptionBlock). reception_in r.reception) e ∙ (report_back 0 0 0 y).0,
)

follows : Follows receptions reception_in happening_of reply_of
follows s (rtcp_reception_update seq timestamp arrival u) m =
    let w = update_back (update (reception_in s) seq timestamp arrival) in
    (m.0, ap (λ (u : RtcpReceptionUpdate). reception_in u.reception) m.1 ∙ ap (λ (x : Reception × Bool). x.0) w, ap (λ (u : RtcpReceptionUpdate). packet_reply (eqb u.accepted 1)) m.1 ∙ ap (λ (x : Reception × Bool). packet_reply x.1) w)
follows s (rtcp_reception_report_block ssrc lsr dlsr r) m =
    let w = report_back ssrc lsr dlsr (report_block (reception_in s) ssrc lsr dlsr) in
    (tt, ap (λ (r : RtcpReceptionBlock). reception_in r.reception) m ∙ w.0, ap (λ (r : RtcpReceptionBlock). reply_of (rtcp_reception_report_block ssrc lsr dlsr r)) m ∙ w.1)

-- from the state that `rtcp_reception_new` returned, each answer and the last state are those of the history
pub answers_returned : (seq : ℕ) (s : RtcpReception) → s ≡ reception_result (new_reception seq) → (rs : List Call) → Ran receptions rs s
    → All HappeningTyped (map happening_of rs) × (reception_in (last receptions reception_in happening_of reply_of rs s) ≡ reception_after_all (new_reception seq) (map happening_of rs)) × (map reply_of rs ≡ replies (new_reception seq) (map happening_of rs))
answers_returned seq s e rs m = let q : new_reception seq ≡ reception_in s = sym (ap reception_in e) in rw q (ran receptions reception_in happening_of reply_of follows rs s m)

made_result : (x : Reported × Reception) (b : Block) → x.0 ≡ made b → ((report_result x).in_probation ≡ 0) × ((report_result x).block ≡ block_result (ok (block_view b)))
made_result (in_probation, s) b e = absurd (let z : true ≡ false = cc in true≢false z)
made_result (made c, s) b e = let z : c ≡ b = cc in (refl, ap (λ (b : Block). block_result (ok (block_view b))) z)

-- `rtcp_reception_update` returned u, with which the source starts; after calls rs, none of which starts, `rtcp_reception_report_block` returned r
module _ (s : RtcpReception) (seq timestamp arrival : ℕ) (u : RtcpReceptionUpdate) (rs : List Call) where
  abbrev before : RtcpReception
  before = last receptions reception_in happening_of reply_of rs u.reception

  pub figures_returned : seq < 65536 → u ≡ update_result (update (reception_in s) seq timestamp arrival) → verdict (reception_in s) seq ≡ starts → Ran receptions rs u.reception
      → no_start (outcomes (reception_in u.reception) (map happening_of rs)) ≡ true
      → packets_in (outcomes (reception_in u.reception) (map happening_of rs)) < 2147483648 → moved_in (outcomes (reception_in u.reception) (map happening_of rs)) < 2147483648
      → (ssrc lsr dlsr : ℕ) (r : RtcpReceptionBlock) → r ≡ report_result (report_block (reception_in before) ssrc lsr dlsr)
      → (before.received ≡ received_since (outcomes (reception_in u.reception) (map happening_of rs)))
      × (r.in_probation ≡ 0)
      × (r.block ≡ block_result (ok (block_view (block_since seq (outcomes (reception_in u.reception) (map happening_of rs)) (before.jitter / 16) ssrc lsr dlsr))))
  figures_returned h mu st m none few near ssrc lsr dlsr r mr =
      let g = returned receptions reception_in happening_of reply_of follows s (rtcp_reception_update seq timestamp arrival u) seq timestamp arrival (h, mu) refl st rs m none few near ssrc lsr dlsr in
      let w = made_result (report_block (reception_in before) ssrc lsr dlsr) _ g.1 in
      (g.0, ap (λ (r : RtcpReceptionBlock). r.in_probation) mr ∙ w.0, ap (λ (r : RtcpReceptionBlock). r.block) mr ∙ w.1)

-- ---- blocks that `rtcp_reception_report_block` returned are always writable

-- the call with all that it returned
pub record Returned : Type 0 where
  pub state : RtcpReception
  pub ssrc : ℕ
  pub lsr : ℕ
  pub dlsr : ℕ
  pub result : RtcpReceptionBlock
  pub meets : result ≡ report_result (report_block (reception_in state) ssrc lsr dlsr)
  pub made : result.in_probation ≡ 0

abbrev pub blocks_of : List Returned → List Block
blocks_of rs = map (λ (r : Returned). block_in r.result.block) rs

gave_result : (s : Reception) (ssrc lsr dlsr : ℕ) (x : Reported × Reception) → report_block s ssrc lsr dlsr ≡ x → (report_result x).in_probation ≡ 0 → Gave (block_in (report_result x).block)
gave_result s ssrc lsr dlsr (in_probation, u) e z = absurd (omega arith)
gave_result s ssrc lsr dlsr (made b, u) e z = (s, ssrc, lsr, dlsr, ap (λ (x : Reported × Reception). x.0) e)

gave_returned : (r : Returned) → Gave (block_in r.result.block)
gave_returned r =
    subst (λ (o : RtcpReceptionBlock). Gave (block_in o.block)) (sym r.meets)
    (gave_result (reception_in r.state) r.ssrc r.lsr r.dlsr _ refl (sym (ap (λ (o : RtcpReceptionBlock). o.in_probation) r.meets) ∙ r.made))

all_gave : (rs : List Returned) → All Gave (blocks_of rs)
all_gave [] = tt
all_gave (r ∷ rs) = (gave_returned r, all_gave rs)

number_never : {A : Type 0} (n : ℕ) (a : Answer A) → Never n a → (n ≡ 0 → ⊥) → number_of a ≡ n → ⊥
number_never n (ok a) h z e = z (sym e)
number_never n (refused (refusal k first second)) h z e = h e

-- what `rtcp_rr_write` and `rtcp_sr_write` returned where they were lent the lists of such blocks
pub written_never_17 : (who : Reporter) (rs : List Returned) (k : ℕ) (l l₁ : List ℕ) (w : RtcpWritten) → (w, l₁) ≡ written_with_buffer (write (give_report who (lists_of (blocks_of rs)) k) l) → w.number ≡ 17 → ⊥
written_never_17 who rs k l l₁ w m e =
    number_never 17 (write (give_report who (lists_of (blocks_of rs)) k) l).0 (write_never who (blocks_of rs) k (all_gave rs) l) (λ z. omega arith) (sym (ap (λ (x : RtcpWritten × List ℕ). x.0.number) m) ∙ e)

-- and `rtcp_writer_add_rr` and `rtcp_writer_add_sr`
pub added_never_17 : (who : Reporter) (rs : List Returned) (k : ℕ) (writer l state left : List ℕ) (c : RtcpCall)
    → (c, state, left) ≡ call_with_buffer writer (call (add (give_report who (lists_of (blocks_of rs)) k)) (writer_in writer) l) → c.number ≡ 17 → ⊥
added_never_17 who rs k writer l state left c m e =
    number_never 17 (call (add (give_report who (lists_of (blocks_of rs)) k)) (writer_in writer) l).0 (call_never who (blocks_of rs) k (all_gave rs) (writer_in writer) l) (λ z. omega arith) (sym (ap (λ (x : RtcpCall × List ℕ × List ℕ). x.0.number) m) ∙ e)
