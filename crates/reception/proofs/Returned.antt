-- Histories of what the functions of a source returned.
use Rattle.std.specs.Prelude.{Option, Some, None}
use Rattle.rfc3550.proofs.Prelude.{ℕ, ◌/◌, ◌<◌, ◌≡◌, refl, ap, ◌∙◌, Bool, true, List, map}
use Rattle.rfc3550.specs.Packet.{All}
use Rattle.rfc3550.specs.Reception as rfc
use Rattle.rfc3550.specs.Reception.{new_reception, starts, verdict, update, report_block, Reported, made}
use Rattle.rfc3550.specs.History.{HappeningTyped, reception_after_all, packet_reply, block_reply, replies, outcomes, no_start, packets_in, moved_in, received_since, block_since}
use Rattle.rfc3550.specs.Returned.{Ran}
use Rattle.rfc3550.proofs.Histories.{Follows, last, ran, returned}
use Rattle.reception.specs.Reception.{reception_of, update_of, report_of}
use Rattle.reception.specs.Returned.{Call, updated, asked, happening_of, reply_of, receptions}
use Rattle.reception.specs.declared.reception.Reception.{Reception}
use Rattle.reception.specs.declared.reception.Update.{Update}
use Rattle.report.specs.declared.report_block.ReportBlock.{ReportBlock}

follows : Follows receptions reception_of happening_of reply_of
follows s (updated seq timestamp arrival u) m = (m.0, ap (λ (x : rfc.Reception × Bool). x.0) m.1, ap (λ (x : rfc.Reception × Bool). packet_reply x.1) m.1)
follows s (asked ssrc lsr dlsr (Some (b, r))) m = (tt, ap (λ (x : Reported × rfc.Reception). x.1) m, ap (λ (x : Reported × rfc.Reception). block_reply x.0) m)
follows s (asked ssrc lsr dlsr None) m = (tt, ap (λ (x : Reported × rfc.Reception). x.1) m, ap (λ (x : Reported × rfc.Reception). block_reply x.0) m)

-- from a state that `new` returned, each answer and the last state are those of the history
pub answers_returned : (seq : ℕ) (s : Reception) → reception_of s ≡ new_reception seq → (rs : List Call) → Ran receptions rs s
    → All HappeningTyped (map happening_of rs) × (reception_of (last receptions reception_of happening_of reply_of rs s) ≡ reception_after_all (new_reception seq) (map happening_of rs)) × (map reply_of rs ≡ replies (new_reception seq) (map happening_of rs))
answers_returned seq s e rs m = rw (← e) (ran receptions reception_of happening_of reply_of follows rs s m)

-- `update` returned u, with which the source starts; after calls rs, none of which starts, `report_block` returned r
module _ (s : Reception) (seq timestamp arrival : ℕ) (u : Update) (rs : List Call) where
  abbrev before : Reception
  before = last receptions reception_of happening_of reply_of rs u.reception

  pub figures_returned : seq < 65536 → update_of u ≡ update (reception_of s) seq timestamp arrival → verdict (reception_of s) seq ≡ starts → Ran receptions rs u.reception
      → no_start (outcomes (reception_of u.reception) (map happening_of rs)) ≡ true
      → packets_in (outcomes (reception_of u.reception) (map happening_of rs)) < 2147483648 → moved_in (outcomes (reception_of u.reception) (map happening_of rs)) < 2147483648
      → (ssrc lsr dlsr : ℕ) (r : Option (ReportBlock × Reception)) → report_of (reception_of before) r ≡ report_block (reception_of before) ssrc lsr dlsr
      → (before.received ≡ received_since (outcomes (reception_of u.reception) (map happening_of rs)))
      × ((report_of (reception_of before) r).0 ≡ made (block_since seq (outcomes (reception_of u.reception) (map happening_of rs)) (before.jitter / 16) ssrc lsr dlsr))
  figures_returned h mu st m none few near ssrc lsr dlsr r mr =
      let g = returned receptions reception_of happening_of reply_of follows s (updated seq timestamp arrival u) seq timestamp arrival (h, mu) refl st rs m none few near ssrc lsr dlsr in
      (g.0, ap (λ (x : Reported × rfc.Reception). x.0) mr ∙ g.1)
