-- RFC 3629's examples encoded, and verdicts on the values of items, as one list by one theorem.
use Rattle.rfc3550.proofs.Prelude.{ℕ, Bool, true, false, ◌≡◌, refl, List, [], ◌∷◌, length}
use Rattle.rfc3550.specs.Answer.{Answer, ok, need, ◌>>◌, ◌>>=◌, map_ok}
use Rattle.rfc3550.specs.Packet.{Item, All}
use Rattle.rfc3550.specs.Read.{item_of, read_item}
use Rattle.rfc3550.specs.Utf8.{continuation, encode, encodes, within, lead, next, run, is_utf8, item_utf8}

pub data TextRow : Type 0 where
  encoded : List ℕ → List ℕ → TextRow
  judges : List ℕ → Answer Bool → TextRow

abbrev Holds : TextRow → Type 0
Holds (encoded cs bs) = encodes cs ≡ bs
Holds (judges s a) = map_ok (λ (x : Item × List ℕ). item_utf8 x.0) (read_item s) ≡ a

-- a CNAME with this value
abbrev named : List ℕ → List ℕ
named v = 1 ∷ length v ∷ v

abbrev pub rows : List TextRow
rows =
    encoded (0x41 ∷ 0x2262 ∷ 0x391 ∷ 0x2E ∷ []) (0x41 ∷ 0xE2 ∷ 0x89 ∷ 0xA2 ∷ 0xCE ∷ 0x91 ∷ 0x2E ∷ [])
    ∷ encoded (0xD55C ∷ 0xAD6D ∷ 0xC5B4 ∷ []) (0xED ∷ 0x95 ∷ 0x9C ∷ 0xEA ∷ 0xB5 ∷ 0xAD ∷ 0xEC ∷ 0x96 ∷ 0xB4 ∷ [])
    ∷ encoded (0x65E5 ∷ 0x672C ∷ 0x8A9E ∷ []) (0xE6 ∷ 0x97 ∷ 0xA5 ∷ 0xE6 ∷ 0x9C ∷ 0xAC ∷ 0xE8 ∷ 0xAA ∷ 0x9E ∷ [])
    ∷ encoded (0xFEFF ∷ 0x233B4 ∷ []) (0xEF ∷ 0xBB ∷ 0xBF ∷ 0xF0 ∷ 0xA3 ∷ 0x8E ∷ 0xB4 ∷ [])
    ∷ encoded (0x7F ∷ 0x80 ∷ 0x7FF ∷ 0x800 ∷ 0xFFFF ∷ 0x10000 ∷ 0x10FFFF ∷ [])
    (0x7F ∷ 0xC2 ∷ 0x80 ∷ 0xDF ∷ 0xBF ∷ 0xE0 ∷ 0xA0 ∷ 0x80 ∷ 0xEF ∷ 0xBF ∷ 0xBF ∷ 0xF0 ∷ 0x90 ∷ 0x80 ∷ 0x80 ∷ 0xF4 ∷ 0x8F ∷ 0xBF ∷ 0xBF ∷ [])
    ∷ judges (named []) (ok true)
    ∷ judges (0x00 ∷ 0x01 ∷ 0xFF ∷ []) (ok false)
    ∷ judges (0x08 ∷ 0x02 ∷ 0x01 ∷ 0xFF ∷ []) (ok true)
    ∷ judges (0x08 ∷ 0x03 ∷ 0x01 ∷ 0x61 ∷ 0xFF ∷ []) (ok false)
    ∷ judges (named (0x63 ∷ 0x61 ∷ 0x66 ∷ 0xE9 ∷ [])) (ok false)
    ∷ judges (named (0x00 ∷ 0xEF ∷ 0xBB ∷ 0xBF ∷ [])) (ok true)
    ∷ judges (named (0x7F ∷ 0xC2 ∷ 0x80 ∷ 0xDF ∷ 0xBF ∷ 0xE0 ∷ 0xA0 ∷ 0x80 ∷ 0xED ∷ 0x9F ∷ 0xBF ∷ 0xEE ∷ 0x80 ∷ 0x80 ∷ 0xEF ∷ 0xBF ∷ 0xBF ∷ 0xF0 ∷ 0x90 ∷ 0x80 ∷ 0x80 ∷ 0xF4 ∷ 0x8F ∷ 0xBF ∷ 0xBF ∷ [])) (ok true)
    ∷ judges (named (0x80 ∷ [])) (ok false)
    ∷ judges (named (0xC1 ∷ 0xBF ∷ [])) (ok false)
    ∷ judges (named (0xE0 ∷ 0x9F ∷ 0xBF ∷ [])) (ok false)
    ∷ judges (named (0xF0 ∷ 0x8F ∷ 0xBF ∷ 0xBF ∷ [])) (ok false)
    ∷ judges (named (0xED ∷ 0xA0 ∷ 0x80 ∷ [])) (ok false)
    ∷ judges (named (0xED ∷ 0xBF ∷ 0xBF ∷ [])) (ok false)
    ∷ judges (named (0xF4 ∷ 0x90 ∷ 0x80 ∷ 0x80 ∷ [])) (ok false)
    ∷ judges (named (0xF8 ∷ 0x88 ∷ 0x80 ∷ 0x80 ∷ 0x80 ∷ [])) (ok false)
    ∷ judges (named (0xC3 ∷ [])) (ok false)
    ∷ judges (named (0xE2 ∷ 0x82 ∷ [])) (ok false)
    ∷ judges (named (0xF0 ∷ 0x9F ∷ 0x8E ∷ [])) (ok false)
    ∷ []

pub text_rows_hold : All Holds rows
unfolding item_of read_item continuation encode encodes within lead next run is_utf8 map_ok need ◌>>◌ ◌>>=◌
text_rows_hold = (refl, (refl, (refl, (refl, (refl, (refl, (refl, (refl, (refl, (refl, (refl, (refl, (refl, (refl, (refl, (refl, (refl, (refl, (refl, (refl, (refl, (refl, (refl, tt)))))))))))))))))))))))
