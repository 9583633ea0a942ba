-- The padding's step of the checks of a packet's header, by itself.
use Rattle.std.specs.Prelude.{ℕ, ◌-◌, List, length}
use Rattle.rfc3550.specs.Answer.{Answer, ok, need, ◌>>◌}
use Rattle.rfc3550.specs.Read.{padding_fits, padding_count}

-- the last lines of checkHeader
unfoldable pub check_padding : ℕ → List ℕ → Answer ℕ
check_padding least s = do
  need (padding_fits least s) 4 0 0
  ok (length s - padding_count s)
