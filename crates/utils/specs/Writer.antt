-- What a write answers, and the first four bytes of a packet.
use Rattle.std.specs.Prelude.{ℕ, ◌+◌, ◌-◌, ◌/◌, List, ◌∷◌, Result, Ok, Err}
use Rattle.rfc3550.specs.Answer.{Answer, ok, refused}
use Rattle.rfc3550.specs.Bytes.{be}
use Rattle.rfc3550.specs.Packet.{padding_bit}
use Rattle.rfc3550.specs.Write.{padding_bytes}
use Rattle.utils.specs.Error.{write_refusal}
use Rattle.utils.specs.declared.error.RtcpWriteError.{RtcpWriteError}

-- what a function that writes says
abbrev pub written_of : {A : Type 0} → Result A RtcpWriteError → Answer A
written_of (Ok a) = ok a
written_of (Err e) = refused (write_refusal e)

-- version 2, P, the low 5 bits
abbrev pub first_byte : ℕ → ℕ → ℕ
first_byte padding low = 128 + padding_bit (padding_bytes padding) + low

-- the type and the length in words less 1 of a packet of so many bytes
abbrev pub header : ℕ → ℕ → ℕ → ℕ → List ℕ
header padding low type size = first_byte padding low ∷ type ∷ be 2 (size / 4 - 1)
