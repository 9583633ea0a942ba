-- Cumulative lost, behind its names (document 02, order 1).
use Rattle.std.specs.Prelude.{ℕ, suc, ◌-◌, ◌%◌, ◌<◌, ◌≤◌, Bool, leb, ltb, ℤ, pos, negsuc, ◌-ℤ◌}
use Rattle.rfc3550.specs.Answer.{pick}

-- "read and written as a signed number": `pos n` is n, and `negsuc n` is −(n + 1)
abbrev pub Loss : Type 0
Loss = ℤ

-- what stands for a loss that was not lent
abbrev pub no_loss : Loss
no_loss = pos 0

-- a number modulo m, from 0 to m − 1
abbrev pub modulo : ℤ → ℕ → ℕ
modulo (pos n) m = n % m
modulo (negsuc n) m = m - suc (n % m)

-- "the 24 bits are its value modulo 16,777,216", and the number that they are read as
unfoldable pub loss_bits : Loss → ℕ
loss_bits l = modulo l 16777216

unfoldable pub loss_of : ℕ → Loss
loss_of n = pick (ltb n 8388608) (pos n) (pos n -ℤ pos 16777216)

-- "from −8,388,608 to 8,388,607"
abbrev pub LossFits : Loss → Type 0
LossFits (pos n) = n ≤ 8388607
LossFits (negsuc n) = suc n ≤ 8388608

-- what the type of a call's argument says of it
abbrev pub LossTyped : Loss → Type 0
LossTyped (pos n) = n < 2147483648
LossTyped (negsuc n) = suc n ≤ 2147483648

-- "Writing outside that range gives 17 with the value's low 32 bits and 8388607": the writer's test, the book's, and the details
unfoldable pub loss_in : Loss → Bool
loss_in (pos n) = leb n 8388607
loss_in (negsuc n) = leb (suc n) 8388608

unfoldable pub loss_over : Loss → Bool
loss_over (pos n) = ltb 8388607 n
loss_over (negsuc n) = ltb 8388608 (suc n)

unfoldable pub loss_shown : Loss → ℕ
loss_shown l = modulo l 4294967296

abbrev pub loss_most : ℕ
loss_most = 8388607
