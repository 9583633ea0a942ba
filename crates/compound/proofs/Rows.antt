-- The rows of `Compound::packets`: row i is packet i's type, and the bytes at its offset and length are its layout.
use Rattle.std.specs.Prelude.{Ok}
use Rattle.rfc3550.proofs.Prelude.{ℕ, ◌+◌, ◌≡◌, refl, sym, ap, ◌∙◌, List, [], ◌∷◌, ◌++◌, append_assoc, map, length, take, length-append}
use Rattle.rfc3550.specs.Answer.{ok, map_ok}
use Rattle.rfc3550.specs.Bytes.{Bytes}
use Rattle.rfc3550.specs.Packet.{Packet as Read, type, layout, layouts}
use Rattle.rfc3550.specs.Compound.{read_compound}
use Rattle.rfc3550.proofs.Answers.{map_ok_inv}
use Rattle.rfc3550.proofs.Compounds.{compound_sound}
use Rattle.rfc3550.proofs.Places.{at_place}
use Rattle.utils.specs.List.{listed_of, lay_list}
use Rattle.utils.proofs.Filled.{filled}
use Rattle.compound.specs.Compound.{rows_from, packet_rows, row_parts, row_is}

rows_are : (s pre : List ℕ) (at : ℕ) (ps : List Read) → length pre ≡ at → pre ++ layouts ps ≡ s → row_parts s (rows_from at ps) ≡ map row_is ps
unfolding rows_from row_parts layouts
rows_are s pre at [] n e = refl
rows_are s pre at (p ∷ ps) n e =
    ap (λ (b : List ℕ). (type p.content, b) ∷ row_parts s (rows_from (at + length (layout p)) ps)) (at_place pre (layout p) (layouts ps) at (length (layout p)) e n refl)
    ∙ ap (λ (l : List (ℕ × List ℕ)). row_is p ∷ l)
    (rows_are s (pre ++ layout p) (at + length (layout p)) ps (length-append pre (layout p) ∙ ap (λ (k : ℕ). k + length (layout p)) n) (append_assoc pre (layout p) (layouts ps) ∙ e))

-- what `Compound::packets` returned, and the list that it left
pub packets_listed : (s : List ℕ) → Bytes s → (n : ℕ) (l l₁ : List ℕ) → (listed_of (Ok n), l₁) ≡ lay_list (map_ok packet_rows (read_compound s)) l
    → (ps : List Read) × (read_compound s ≡ ok ps) × (row_parts s (take n l₁) ≡ map row_is ps)
packets_listed s h n l l₁ e =
    let f = filled (map_ok packet_rows (read_compound s)) n l l₁ e in
    let m = map_ok_inv packet_rows (read_compound s) f.1 in
    let c = compound_sound s m.0 h m.1 in
    (m.0, m.1, ap (row_parts s) (f.2 ∙ sym m.2) ∙ rows_are s [] 0 m.0 refl c.1)
