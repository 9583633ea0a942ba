-- A report's size: who reports does not bear on it.
use Rattle.rfc3550.proofs.Prelude.{ℕ, ◌≡◌, refl, rules}
use Rattle.rfc3550.specs.Packet.{receiver, sender}
use Rattle.rfc3550.specs.Write.{BlockLists, give_report, calculate_size}
use Rattle.report_write.proofs.Reports.{size_same}

module _ (l : BlockLists) (k ssrc : ℕ) where
  pub receiver_same : calculate_size (give_report (receiver ssrc) l k) ≡ calculate_size (give_report (receiver 0) l k)
  receiver_same = size_same l k (receiver ssrc) (receiver 0) refl

  pub sender_same : (ntp rtp packets octets : ℕ) → calculate_size (give_report (sender ssrc ntp rtp packets octets) l k) ≡ calculate_size (give_report (sender 0 0 0 0 0) l k)
  sender_same ntp rtp packets octets = size_same l k (sender ssrc ntp rtp packets octets) (sender 0 0 0 0 0) refl

pub ruleset sizes = (rules, receiver_same, sender_same)
