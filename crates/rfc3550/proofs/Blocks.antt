-- Report blocks: reading their bytes gives them back, and what is read has the bytes.
use Rattle.rfc3550.proofs.Prelude.{ℕ, zero, suc, ◌+◌, ◌*◌, ◌≤◌, ◌≡◌, refl, sym, ap, ◌∙◌, subst, List, [], ◌∷◌, ◌++◌, append_assoc, arith, length, drop, length-append, length-drop, drop_at, drop-drop}
use Rattle.rfc3550.specs.Bytes.{Bytes, put, get, Fits, sum}
use Rattle.rfc3550.specs.Loss.{LossFits}
use Rattle.rfc3550.specs.Packet.{Block, All, block_widths, block_fields, blocks_bytes, BlockValid}
use Rattle.rfc3550.specs.Read.{block_from, read_blocks}
use Rattle.rfc3550.proofs.Bytes.{get_put, put_get, fits_get, length_put, bytes_drop}
use Rattle.rfc3550.proofs.Losses.{loss_bits_loss_of, loss_of_loss_bits, loss_of_fits}

abbrev block_bytes : Block → List ℕ
block_bytes b = put block_widths (block_fields b)

pub length_block : (b : Block) → BlockValid b → length (put block_widths (block_fields b)) ≡ 24
unfolding sum
length_block b h = length_put block_widths (block_fields b) h.0

pub length_blocks_bytes : (bs : List Block) → All BlockValid bs → length (blocks_bytes bs) ≡ 24 * length bs
unfolding blocks_bytes
length_blocks_bytes [] h = refl
length_blocks_bytes (b ∷ bs) h = rw length-append (omega (arith, length_block b h.0, length_blocks_bytes bs h.1))

-- the fields of a block give it back
block_fields_lem : (b : Block) → LossFits b.lost → block_from (block_fields b) ≡ b
block_fields_lem b h = ap (λ (l : _). record { ssrc = b.ssrc; fraction = b.fraction; lost = l; sequence = b.sequence; jitter = b.jitter; lsr = b.lsr; dlsr = b.dlsr }) (loss_of_loss_bits b.lost h)

pub blocks_complete : (bs : List Block) (e : List ℕ) → All BlockValid bs → read_blocks (length bs) (blocks_bytes bs ++ e) ≡ bs
unfolding read_blocks blocks_bytes
blocks_complete [] e h = refl
blocks_complete (b ∷ bs) e h =
    rw (append_assoc (block_bytes b) (blocks_bytes bs) e, get_put block_widths (block_fields b) (blocks_bytes bs ++ e) h.0.0, drop_at (block_bytes b) (blocks_bytes bs ++ e) 24 (length_block b h.0), blocks_complete bs e h.1, block_fields_lem b h.0.1)

pub record Blocks (n : ℕ) (s : List ℕ) : Type 0 where
  pub bytes : blocks_bytes (read_blocks n s) ++ drop (24 * n) s ≡ s
  pub valid : All BlockValid (read_blocks n s)
  pub count : length (read_blocks n s) ≡ n

-- a block's fields are the seven numbers that were got
fields_got : (s : List ℕ) → 24 ≤ length s → Bytes s → block_fields (block_from (get block_widths s)) ≡ get block_widths s
unfolding get sum
fields_got s l h = rw (loss_bits_loss_of _ (fits_get block_widths s l h).1.1.0)

pub block_sound : (s : List ℕ) → 24 ≤ length s → Bytes s → BlockValid (block_from (get block_widths s)) × (put block_widths (block_fields (block_from (get block_widths s))) ++ drop 24 s ≡ s)
unfolding sum get
block_sound s l h =
    let e = fields_got s l h in
    let f = fits_get block_widths s l h in
    ((subst (Fits block_widths) (sym e) f, loss_of_fits _ f.1.1.0), ap (λ (f : List ℕ). put block_widths f ++ drop 24 s) e ∙ put_get block_widths s l h)

pub blocks_sound : (n : ℕ) (s : List ℕ) → 24 * n ≤ length s → Bytes s → Blocks n s
unfolding read_blocks blocks_bytes
blocks_sound zero s l h = record { bytes = refl; valid = tt; count = refl }
blocks_sound (suc n) s l h =
    let k = blocks_sound n (drop 24 s) (rw length-drop (omega arith)) (bytes_drop 24 s h) in
    let b = block_sound s (omega arith) h in
    let e : 24 * suc n ≡ 24 + 24 * n = omega arith in
    record { bytes = rw (append_assoc, e, ← drop-drop (24 * n) 24 s, k.bytes) b.1; valid = (b.0, k.valid); count = ap suc k.count }
