-- What a BYE is given, its sources, a word each, and what its checks leave known.
use Rattle.std.specs.Prelude.{ℕ, ◌+◌, ◌*◌, ◌≤◌, ◌≡◌, List, length, replicate}
use Rattle.rfc3550.specs.Bytes.{put}
use Rattle.rfc3550.specs.Packet.{leaving_bytes}
use Rattle.rfc3550.specs.Write.{Given, give_bye, leaving_of}
use Rattle.bye.specs.declared.write.ByeBuilder.{ByeBuilder}

abbrev pub bye_given : ByeBuilder → Given
bye_given b = give_bye b.sources.now b.reason.now b.padding

unfoldable pub sources_bytes : List ℕ → List ℕ
sources_bytes ss = put (replicate (length ss) 4) ss

pub record ByeFits (ss r : List ℕ) (k n space : ℕ) : Type 0 where
  pub sources : length ss ≤ 31
  pub reason : length r ≤ 255
  pub padding : k ≤ 252
  pub size : n ≡ 4 + length ss * 4 + length (leaving_bytes (leaving_of r)) + k
  pub most : n ≤ 262144
  pub room : n ≤ space
