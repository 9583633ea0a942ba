-- The write of a lone item or chunk.
use Rattle.std.specs.Prelude.{Result, Err}
use Rattle.std.specs.Result.{IsErrAnd}
use Rattle.std.proofs.lemmas.Result.{err_from_is_err_and}
use Rattle.rfc3550.proofs.Prelude.{ℕ, ◌≡◌, sym, ap, ◌∙◌, List}
use Rattle.rfc3550.specs.Answer.{Answer}
use Rattle.rfc3550.specs.Write.{written}
use Rattle.utils.specs.Writer.{written_of}
use Rattle.utils.specs.declared.error.RtcpWriteError.{RtcpWriteError}
use Rattle.utils.proofs.WriterPackets.{refused_written}

-- what the size refuses, handed on by `?`
pub lone_handed : (r : Result ℕ RtcpWriteError) (size : Answer ℕ) (bs l : List ℕ) → written_of r ≡ size
    → (s : Result ℕ RtcpWriteError) (e : RtcpWriteError) → r ≡ Err e → IsErrAnd s (λ (x : RtcpWriteError). x ≡ e) → (written_of s, l) ≡ written size bs l
lone_handed r size bs l h s e q f =
    let p = err_from_is_err_and s f in
    let t : s ≡ r = p.1 ∙ ap Err p.2 ∙ sym q in
    rw t (refused_written r size bs l h e q)
