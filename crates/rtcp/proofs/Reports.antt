-- Reports: what C gets, from what the readers answer. Stated once, over the kind and its result.
use Rattle.std.specs.Prelude.{Some, Result, Ok, Err}
use Rattle.rfc3550.proofs.Prelude.{◌≡◌, sym, ap, ◌∙◌, List, ℕ, ◌*◌, ◌+◌, ◌≤◌, arith, length, drop}
use Rattle.rfc3550.specs.Answer.{Answer, ok, refused, map_ok}
use Rattle.rfc3550.specs.Loss.{Loss}
use Rattle.rfc3550.specs.Packet.{Packet}
use Rattle.rfc3550.specs.Read.{Kind, read_blocks, read_as}
use Rattle.utils.specs.Error.{parse_refusal, code_refusal, value_in}
use Rattle.utils.specs.declared.error.Code.{Code}
use Rattle.utils.specs.declared.error.RtcpParseError.{RtcpParseError}
use Rattle.utils.specs.List.{listed_of}
use Rattle.utils.specs.declared.list.ListError.{ListError}
use Rattle.rfc3550.proofs.Answers.{map_ok_inv}
use Rattle.utils.proofs.Values.{value_is}
use Rattle.report.specs.Block.{lay_blocks}
use Rattle.report.specs.Report.{report_blocks}
use Rattle.report.specs.Reporter.{ReportLaws}
use Rattle.report.specs.declared.report.Places.{Places}
use Rattle.report.proofs.Reports.{parsed_within, parsed_blocks}
use Rattle.rtcp.specs.Report.{read_out, read_both}
use Rattle.rtcp.proofs.Results.{coded}

module _ {k : Kind} {min type : ℕ} {O : Type 0} {view : Packet → O} {places : O → Places} (laws : ReportLaws k min type view places) (s : List ℕ) where
  -- the packet is refused
  pub both_refused : {R : Type 0} (result : Answer O → R) (e : RtcpParseError) → refused (parse_refusal e) ≡ read_as k s → (c : Code) → code_refusal c ≡ parse_refusal e → (r : R) → r ≡ result (refused (code_refusal c))
      → (f : List ℕ) (l : List Loss) (w : List ℕ) → (r, f, l, w) ≡ read_both result (map_ok view (read_as k s)) (lay_blocks (map_ok report_blocks (read_as k s)) f l w)
  unfolding map_ok lay_blocks
  both_refused {R} result e i c j r p f l w =
      rw (sym i) (ap (λ (r : R). (r, f, l, w)) (coded result c e r p j))

  pub refused_alone : {R : Type 0} (result : Answer O → R) (e : RtcpParseError) → refused (parse_refusal e) ≡ read_as k s → (c : Code) → code_refusal c ≡ parse_refusal e → (r : R) → r ≡ result (refused (code_refusal c))
      → r ≡ result (map_ok view (read_as k s))
  unfolding map_ok
  refused_alone result e i c j r p = rw (sym i) (coded result c e r p j)

  -- it is accepted: the extension starts before the body ends, the blocks lie in the packet, and what C gets is that of the lists
  module _ (o : O) (e : Some o ≡ value_in (map_ok view (read_as k s))) where
    was_read : ok o ≡ map_ok view (read_as k s)
    was_read = value_is (map_ok view (read_as k s)) o e

    pub in_order : (places o).extension ≤ (places o).body
    in_order = let v = map_ok_inv view (read_as k s) (sym was_read) in rw (sym v.2) (rw (laws.seen v.0) (omega arith))

    pub accepted_alone : {R : Type 0} (result : Answer O → R) (r : R) → r ≡ result (ok o) → r ≡ result (map_ok view (read_as k s))
    accepted_alone result r p = p ∙ ap result was_read

    module _ (at : Places) (g : at ≡ places o) (x : ℕ) (t : x ≡ min) where
      pub within : x + at.n_reports * 24 ≤ length s
      within = parsed_within laws s o was_read at g x t

      both_read : {R : Type 0} (result : Answer O → R) (y : Result ℕ ListError) (r : R) → r ≡ read_out result (ok o) (listed_of y) → (f₁ : List ℕ) (l₁ : List Loss) (w₁ f : List ℕ) (l : List Loss) (w : List ℕ)
          → (listed_of y, f₁, l₁, w₁) ≡ lay_blocks (ok (read_blocks at.n_reports (drop x s))) f l w
          → (r, f₁, l₁, w₁) ≡ read_both result (map_ok view (read_as k s)) (lay_blocks (map_ok report_blocks (read_as k s)) f l w)
      both_read {R} result y r p f₁ l₁ w₁ f l w d =
          ap (λ (r : R). (r, f₁, l₁, w₁)) p
          ∙ ap (λ (a : Answer O). read_both result a (listed_of y, f₁, l₁, w₁)) was_read
          ∙ ap (read_both result (map_ok view (read_as k s))) (parsed_blocks laws s o was_read at g x t f l w _ d)

      pub both_listed : {R : Type 0} (result : Answer O → R) (y : Result ℕ ListError) (n : ℕ) → y ≡ Ok n → (r : R) → r ≡ result (ok o) → (f₁ : List ℕ) (l₁ : List Loss) (w₁ f : List ℕ) (l : List Loss) (w : List ℕ)
          → (listed_of y, f₁, l₁, w₁) ≡ lay_blocks (ok (read_blocks at.n_reports (drop x s))) f l w
          → (r, f₁, l₁, w₁) ≡ read_both result (map_ok view (read_as k s)) (lay_blocks (map_ok report_blocks (read_as k s)) f l w)
      both_listed result y n i r p = both_read result y r (rw i p)

      pub both_unlisted : {R : Type 0} (result : Answer O → R) (y : Result ℕ ListError) (u : ListError) → y ≡ Err u → (c : Code) → listed_of (Err u) ≡ refused (code_refusal c) → (r : R) → r ≡ result (refused (code_refusal c))
          → (f₁ : List ℕ) (l₁ : List Loss) (w₁ f : List ℕ) (l : List Loss) (w : List ℕ) → (listed_of y, f₁, l₁, w₁) ≡ lay_blocks (ok (read_blocks at.n_reports (drop x s))) f l w
          → (r, f₁, l₁, w₁) ≡ read_both result (map_ok view (read_as k s)) (lay_blocks (map_ok report_blocks (read_as k s)) f l w)
      both_unlisted result y u i c j r p = both_read result y r (rw (i, j) p)
