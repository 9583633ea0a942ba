-- What a step of a walk hands over starts a walk over its parts: to open one on those bytes would answer the same numbers.
use Rattle.std.specs.Prelude.{Some}
use Rattle.rfc3550.proofs.Prelude.{ℕ, ◌+◌, ◌-◌, ◌*◌, ◌<◌, ◌≡◌, refl, sym, ap, ◌∙◌, List, [], append-nil, arith, length, take, drop, length-drop, length-take-le}
use Rattle.rfc3550.specs.Answer.{Answer, ok, refused, need, ◌>>◌, ◌>>=◌, map_ok}
use Rattle.rfc3550.specs.Bytes.{Bytes, sum}
use Rattle.rfc3550.specs.Packet.{Chunk, chunk_bytes, Reporter, receiver, sender, Content, report, sdes, bye, app, unknown, Packet as Read, content_bytes, layout, block_widths, Valid}
use Rattle.rfc3550.specs.Read.{Kind, SDES, least, low_in, read_as, read_block, read_block_at}
use Rattle.rfc3550.specs.Walk.{step, SdesWalk, open_sdes, sdes_step, open_items}
use Rattle.rfc3550.proofs.Bytes.{bytes_take, bytes_drop}
use Rattle.rfc3550.proofs.Packets.{length_layout}
use Rattle.rfc3550.proofs.Chunks.{chunk_complete}
use Rattle.rfc3550.proofs.Places.{packet_at_lem, chunk_at_lem}
use Rattle.rfc3550.proofs.Claims.{reading}
use Rattle.utils.specs.Error.{value_in}
use Rattle.utils.proofs.Parts.{get_take}
use Rattle.report.specs.Block.{block_view}
use Rattle.report.specs.Report.{report_body}
use Rattle.report.proofs.Reports.{index_there, index_within}
use Rattle.report.specs.Reporter.{ReporterKind}
use Rattle.sdes.specs.Walk.{chunk_stepped}
use Rattle.sdes.proofs.Returned.{short}
use Rattle.compound.specs.Packet.{packet_view}
use Rattle.compound.specs.Compound.{step_view}
use Rattle.rtcp.specs.Sdes.{chunk_step_result}
use Rattle.rtcp.specs.Compound.{numbers_of, step_result}
use Rattle.rtcp.specs.declared.read_compound.RtcpStep.{RtcpStep}
use Rattle.rtcp.specs.declared.read_sdes.RtcpChunkStep.{RtcpChunkStep}

-- ---- the blocks of a report

-- `rtcp_block_parse` on the bytes of block i answers what the report's own function answers for i
pub block_handed : {k : Kind} {ws : List ℕ} {who : List ℕ → Reporter} → ReporterKind k ws who → (s : List ℕ) (p : Read) → read_as k s ≡ ok p → (i : ℕ) → i < low_in s
    → map_ok block_view (read_block (take 24 (drop (least k + 24 * i) s))) ≡ map_ok block_view (read_block_at k s i)
unfolding read_block map_ok need ◌>>◌ sum
block_handed {k} m s p e i l =
    let h : Some (report_body p) ≡ value_in (map_ok report_body (read_as k s)) = rw e in
    let w = index_within m s (report_body p) h (low_in s) refl i l (least k + 24 * i) refl in
    let n : length (take 24 (drop (least k + 24 * i) s)) ≡ 24 = length-take-le 24 (drop (least k + 24 * i) s) (rw length-drop (omega arith)) in
    rw (n, get_take block_widths 0 24 (drop (least k + 24 * i) s) (omega arith)) (index_there m s (report_body p) h (low_in s) refl i l _ refl)

-- ---- the chunks of an SDES packet

sdes_open : (c : Content) (d s : List ℕ) → Bytes s → Valid (record { content = c; padding = d }) → s ≡ layout (record { content = c; padding = d })
    → (numbers_of (packet_view (record { content = c; padding = d }))).kind ≡ 202
    → open_sdes s ≡ ok (record { at = 4; end = (numbers_of (packet_view (record { content = c; padding = d }))).body })
unfolding open_sdes ◌>>=◌
sdes_open (sdes cs) d s h v e k =
    let p : Read = record { content = sdes cs; padding = d } in
    let n : length s - length d ≡ 4 + length (content_bytes (sdes cs)) = omega (arith, ap length e ∙ length_layout p) in
    rw ((reading SDES s p h).1 (v, refl, sym e), n)
sdes_open (report (receiver ssrc) bs x) d s h v e k = absurd (omega arith)
sdes_open (report (sender ssrc ntp rtp packets octets) bs x) d s h v e k = absurd (omega arith)
sdes_open (bye ss l) d s h v e k = absurd (omega arith)
sdes_open (app subtype ssrc name x) d s h v e k = absurd (omega arith)
sdes_open (unknown t low b) d s h v e k = absurd (omega arith)

-- what `rtcp_walk_step` returned of an SDES packet: the walk over its chunks starts at 4 and ends at its body
pub chunks_handed : (s : List ℕ) → Bytes s → (at : ℕ) (r : RtcpStep) → r ≡ step_result at (map_ok step_view (step s at)) → r.kind ≡ 202
    → open_sdes (take r.len (drop r.offset s)) ≡ ok (record { at = 4; end = r.body })
unfolding map_ok
chunks_handed s h at r q k = rw q (go (step s at) refl (rw q at k))
  where
    go : (a : Answer (Read × ℕ)) → step s at ≡ a → (step_result at (map_ok step_view a)).kind ≡ 202
        → open_sdes (take (step_result at (map_ok step_view a)).len (drop (step_result at (map_ok step_view a)).offset s)) ≡ ok (record { at = 4; end = (step_result at (map_ok step_view a)).body })
    go (refused f) e k = absurd (omega arith)
    go (ok x) e k =
        let z = packet_at_lem s at h x e in
        sdes_open x.0.content x.0.padding (take (x.1 - at) (drop at s)) (bytes_take (x.1 - at) (drop at s) (bytes_drop at s h)) z.0 z.1 k

-- ---- the items of a chunk

-- what `rtcp_chunk_walk_step` returned of a chunk of a packet: the walk over its items starts at 4
pub items_handed : (s : List ℕ) → Bytes s → (p : Read) → read_as SDES s ≡ ok p → (w : SdesWalk) (r : RtcpChunkStep) → r ≡ chunk_step_result w.at w.end (map_ok chunk_stepped (sdes_step s w)) → 0 < r.length
    → open_items (take r.length (drop w.at s)) ≡ ok 4
unfolding map_ok open_items ◌>>=◌
items_handed s h p f w r q k = rw q (go (sdes_step s w) refl (rw q at k))
  where
    go : (a : Answer (Chunk × SdesWalk)) → sdes_step s w ≡ a → 0 < (chunk_step_result w.at w.end (map_ok chunk_stepped a)).length
        → open_items (take (chunk_step_result w.at w.end (map_ok chunk_stepped a)).length (drop w.at s)) ≡ ok 4
    go (refused f) e k = absurd (omega arith)
    go (ok x) e k =
        let z = chunk_at_lem s w h x e in
        let b : take (length (chunk_bytes x.0)) (drop w.at s) ≡ chunk_bytes x.0 = ap (λ (l : List ℕ). take (length (chunk_bytes x.0)) (drop w.at l)) (sym (short s p h f)) ∙ z.1 in
        rw (b, ← append-nil (chunk_bytes x.0), chunk_complete x.0 [] z.0)
