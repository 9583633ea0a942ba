-- An SSRC does not bear on a size. Stated once, over what is given.
use Rattle.rfc3550.proofs.Prelude.{ℕ, ◌≡◌, refl, sym, ap, ◌∙◌, List, length, length-append, rules}
use Rattle.rfc3550.specs.Packet.{content_bytes, chunk_bytes}
use Rattle.rfc3550.specs.Write.{Given, give_app, content_given, padding_given, packet_given, own_tests, tests, size_given, calculate_size, chunk_size}
use Rattle.rfc3550.proofs.Bytes.{length_be}
use Rattle.rfc3550.proofs.Packets.{length_layout}

pub size_same : (g h : Given) → own_tests g ≡ own_tests h → length (content_bytes (content_given g)) ≡ length (content_bytes (content_given h)) → padding_given g ≡ padding_given h → calculate_size g ≡ calculate_size h
unfolding calculate_size tests
size_same g h e c p =
    let q : size_given g ≡ size_given h = length_layout (packet_given g) ∙ rw (c, p) (sym (length_layout (packet_given h))) in
    rw (e, q)

pub app_same : (subtype s : ℕ) (name d : List ℕ) (k : ℕ) → calculate_size (give_app subtype s name d k) ≡ calculate_size (give_app subtype 0 name d k)
unfolding own_tests content_bytes
app_same subtype s name d k = size_same (give_app subtype s name d k) (give_app subtype 0 name d k) refl (simp (length-append, length_be)) refl

pub chunk_same : (s : ℕ) (ts ps vs bs : List ℕ) → chunk_size s ts ps vs bs ≡ chunk_size 0 ts ps vs bs
unfolding chunk_size chunk_bytes
chunk_same s ts ps vs bs = simp (length-append, length_be)

pub ruleset sizes = (rules, app_same, chunk_same)
