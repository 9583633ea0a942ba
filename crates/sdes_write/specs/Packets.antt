-- A packet's lists and what it is given, and what its size leaves known.
use Rattle.std.specs.Prelude.{ℕ, ◌+◌, ◌-◌, ◌≤◌, ◌≡◌, Option, List, length}
use Rattle.std.specs.Option.{option_map}
use Rattle.rfc3550.specs.Write.{Lists, Given, give_sdes}
use Rattle.chunk_write.specs.Lists.{laid_chunks, ChunksFit}
use Rattle.sdes_write.specs.declared.SdesBuilder.{SdesBuilder}

abbrev pub lists : List ℕ → List ℕ → List ℕ → List ℕ → List ℕ → List ℕ → Lists
lists ss cs ts ps vs bs = record { ssrcs = ss; counts = cs; types = ts; prefixes = ps; values = vs; bytes = bs }

abbrev pub lists_in : SdesBuilder → Lists
lists_in b = lists b.ssrcs.now b.counts.now b.items.types.now b.items.prefixes.now b.items.values.now b.items.bytes.now

abbrev pub sdes_given : SdesBuilder → Given
sdes_given b = give_sdes (lists_in b) b.padding

-- so many bytes, where there are some, and the padding behind them
abbrev pub with_padding : ℕ → Option ℕ → Option ℕ
with_padding k = option_map (λ n. n + k)

-- a header and padding around the chunks
pub record EndsFit (count k n space : ℕ) : Type 0 where
  pub chunks : count ≤ 31
  pub padding : k ≤ 252
  pub least : 4 + k ≤ n
  pub most : n ≤ 262144
  pub room : n ≤ space

pub record SdesFits (ss cs ts ps vs bs : List ℕ) (k n space : ℕ) : Type 0 where
  pub chunks : length ss ≤ 31
  pub padding : k ≤ 252
  pub fits : ChunksFit 4 ss cs ts ps vs bs (n - k)
  pub size : n ≡ 4 + length (laid_chunks ss cs ts ps vs bs) + k
  pub most : n ≤ 262144
  pub room : n ≤ space
