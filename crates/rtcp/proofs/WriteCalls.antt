-- The compound writer's state, as C keeps it.
use Rattle.rfc3550.proofs.Prelude.{◌≡◌, refl, Bool, true, false, [], ◌∷◌}
use Rattle.rfc3550.specs.Writer.{Writer}
use Rattle.rtcp.specs.Result.{bit}
use Rattle.rtcp.specs.WriteCompound.{writer_in, writer_out}

-- what goes out comes back
pub writer_in_writer_out : (w : Writer) → writer_in (writer_out w) ≡ w
writer_in_writer_out w = go w.padded w.cname w.closed
  where
    go : (a b c : Bool) → writer_in (w.len ∷ bit a ∷ bit b ∷ bit c ∷ []) ≡ record { len = w.len; padded = a; cname = b; closed = c }
    go true true true = refl
    go true true false = refl
    go true false true = refl
    go true false false = refl
    go false true true = refl
    go false true false = refl
    go false false true = refl
    go false false false = refl
