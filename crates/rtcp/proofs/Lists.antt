-- The lists that the C functions fill, back to the packets: number 0 says that the list is filled, with as many numbers as the size says.
use Rattle.rfc3550.proofs.Prelude.{ℕ, ◌≡◌, ap, Bool, true, false, List, map, arith, length, take, leb}
use Rattle.rfc3550.specs.Answer.{Answer, ok, refused, map_ok}
use Rattle.rfc3550.specs.Bytes.{Bytes}
use Rattle.rfc3550.specs.Packet.{chunks_of, Packet as Read}
use Rattle.rfc3550.specs.Read.{SDES, read_as}
use Rattle.rfc3550.specs.Compound.{read_compound}
use Rattle.utils.specs.List.{lay_if, lay_list}
use Rattle.sdes.specs.ItemRows.{sdes_rows}
use Rattle.sdes.specs.ItemEntries.{entries_in, chunk_entries}
use Rattle.sdes.proofs.ItemEntries as descriptions
use Rattle.compound.specs.Compound.{packet_rows, row_parts, row_is}
use Rattle.compound.proofs.Rows as datagrams
use Rattle.rtcp.specs.WriteResult.{written_with_buffer}
use Rattle.rtcp.specs.declared.write_result.RtcpWritten.{RtcpWritten}
use Rattle.rtcp.proofs.Injective.{Nonzero}
use Rattle.rtcp.proofs.Nonzero.{map_nonzero, read_nonzero, compound_nonzero}

listed_nonzero : (b : Bool) (xs l : List ℕ) → Nonzero (lay_if b xs l).0
listed_nonzero true xs l = tt
listed_nonzero false xs l = omega arith

filled_nonzero : (a : Answer (List ℕ)) (l : List ℕ) → Nonzero a → Nonzero (lay_list a l).0
unfolding lay_list
filled_nonzero (ok xs) l n = listed_nonzero (leb (length xs) (length l)) xs l
filled_nonzero (refused r) l n = n

-- number 0 says that the list is filled, with as many numbers as the size says
filled_out : (x : Answer ℕ × List ℕ) (r : RtcpWritten) (l₁ : List ℕ) → Nonzero x.0 → (r, l₁) ≡ written_with_buffer x → r.number ≡ 0 → (ok r.size, l₁) ≡ x
filled_out (ok n, l) r l₁ k m z = ap (λ (y : RtcpWritten × List ℕ). (ok y.0.size, y.1)) m
filled_out (refused e, l) r l₁ k m z = absurd (let q = ap (λ (y : RtcpWritten × List ℕ). y.0.number) m in omega arith)

module _ (s : List ℕ) (h : Bytes s) (r : RtcpWritten) (l l₁ : List ℕ) where
  -- what `rtcp_compound_packets` returned, and the list that it left
  pub packets_listed : (r, l₁) ≡ written_with_buffer (lay_list (map_ok packet_rows (read_compound s)) l) → r.number ≡ 0
      → (ps : List Read) × (read_compound s ≡ ok ps) × (row_parts s (take r.size l₁) ≡ map row_is ps)
  packets_listed m z =
      datagrams.packets_listed s h r.size l l₁
      (filled_out (lay_list (map_ok packet_rows (read_compound s)) l) r l₁ (filled_nonzero (map_ok packet_rows (read_compound s)) l (map_nonzero packet_rows (read_compound s) (compound_nonzero s))) m z)

  -- what `rtcp_sdes_items` returned, and the list that it left
  pub items_listed : (r, l₁) ≡ written_with_buffer (lay_list (map_ok sdes_rows (read_as SDES s)) l) → r.number ≡ 0
      → (p : Read) × (read_as SDES s ≡ ok p) × (entries_in s (take r.size l₁) ≡ chunk_entries (chunks_of p.content))
  items_listed m z =
      descriptions.items_listed s h r.size l l₁
      (filled_out (lay_list (map_ok sdes_rows (read_as SDES s)) l) r l₁ (filled_nonzero (map_ok sdes_rows (read_as SDES s)) l (map_nonzero sdes_rows (read_as SDES s) (read_nonzero SDES s))) m z)
