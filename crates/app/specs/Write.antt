-- What an APP is given, its name, and what its checks leave known.
use Rattle.std.specs.Prelude.{ℕ, ◌+◌, ◌≤◌, ◌≡◌, Bool, ◌&&◌, List, length, leb}
use Rattle.rfc3550.specs.Write.{Given, give_app, ascii}
use Rattle.app.specs.declared.write.AppBuilder.{AppBuilder}

abbrev pub app_given : AppBuilder → Given
app_given b = give_app b.subtype b.ssrc b.name.now b.«data».now b.padding

-- the test of 13
abbrev pub name_ok : List ℕ → Bool
name_ok name = leb (length name) 4 && ascii name

pub record AppFits (subtype : ℕ) (name d : List ℕ) (k n space : ℕ) : Type 0 where
  pub low : subtype ≤ 31
  pub short : length name ≤ 4
  pub padding : k ≤ 252
  pub size : n ≡ 12 + length d + k
  pub most : n ≤ 262144
  pub room : n ≤ space
