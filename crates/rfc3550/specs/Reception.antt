-- Document 02, order 3: the state of RFC 3550 A.1, A.3 and A.8 that is kept of one source, in the RFC's names and text. A reception is the RFC's
-- `source`, and its functions are in the order of the appendices.
use Rattle.std.specs.Prelude.{ℕ, ◌+◌, ◌-◌, ◌*◌, ◌/◌, ◌%◌, min, Bool, true, false, leb, ltb, eqb, ℤ, pos, negsuc, nat_abs}
use Rattle.std.proofs.Math.IntN.{sub_ℕ}
use Rattle.rfc3550.specs.Answer.{pick}
use Rattle.rfc3550.specs.Loss.{Loss, loss_most}
use Rattle.rfc3550.specs.Packet.{Block}

-- ---- numbers in their widths

-- a − b modulo m, for b up to m
abbrev pub minus : ℕ → ℕ → ℕ → ℕ
minus m a b = (a + (m - b)) % m

-- "Each 16-bit sequence difference is taken modulo 65,536"
abbrev pub minus16 : ℕ → ℕ → ℕ
minus16 a b = minus 65536 a b

-- "all counts are modulo 2^32"
abbrev pub minus32 : ℕ → ℕ → ℕ
minus32 a b = minus 4294967296 a b

abbrev pub plus32 : ℕ → ℕ → ℕ
plus32 a b = (a + b) % 4294967296

-- "modulo 2^32 and read as signed"; `sub_ℕ a b` is the integer a − b
abbrev pub signed32 : ℕ → ℤ
signed32 n = pick (ltb n 2147483648) (pos n) (sub_ℕ n 4294967296)

-- ---- "Keep, per source, the state of RFC 3550 A.1, A.3 and A.8"

pub record Reception : Type 0 where
  -- the highest sequence number seen
  pub max_seq : ℕ
  -- 65,536 for each time that the sequence numbers wrapped
  pub cycles : ℕ
  -- the sequence number that started
  pub base_seq : ℕ
  -- the last bad sequence number, plus 1
  pub bad_seq : ℕ
  -- packets in sequence until the source is valid
  pub probation : ℕ
  pub received : ℕ
  -- packets expected and received at the last block
  pub expected_prior : ℕ
  pub received_prior : ℕ
  -- arrival less timestamp of the last packet accepted
  pub transit : ℕ
  -- scaled by 16
  pub jitter : ℕ

-- A.1, a source that is heard for the first time: init_seq, then max_seq is one less, and probation MIN_SEQUENTIAL. "Jitter is .. from 0"
unfoldable pub new_reception : ℕ → Reception
new_reception seq =
    record {
      max_seq = minus16 seq 1;
      cycles = 0;
      base_seq = seq;
      bad_seq = 65537;
      probation = 2;
      received = 0;
      expected_prior = 0;
      received_prior = 0;
      transit = 0;
      jitter = 0;
    }

-- ---- A.1, update_seq: first what it says of a packet, then the state after it

-- `waits` for so many packets in sequence more; `starts`, where probation ends or where A.1 assumes a restart; `ahead` by so much, in order, with
-- a permissible gap; `jumps` by too much; `behind`, a duplicate or reordered packet
pub data Verdict : Type 0 where
  waits : ℕ → Verdict
  starts : Verdict
  ahead : ℕ → Verdict
  jumps : Verdict
  behind : Verdict

-- "Constants: 3000, 100 and 2, as in A.1": MIN_SEQUENTIAL is 2, MAX_DROPOUT 3000 and MAX_MISORDER 100, which is 65,536 − 65,436; udelta is the
-- difference from max_seq, "the successor test in probation likewise"
abbrev pub verdict_by : ℕ → Reception → ℕ → Verdict
verdict_by udelta s seq =
    pick (ltb 0 s.probation)
    (pick (eqb udelta 1) (pick (eqb s.probation 1) starts (waits (s.probation - 1))) (waits 1))
    (pick (ltb udelta 3000) (ahead udelta) (pick (leb udelta 65436) (pick (eqb seq s.bad_seq) starts jumps) behind))

unfoldable pub verdict : Reception → ℕ → Verdict
verdict s seq = verdict_by (minus16 seq s.max_seq) s seq

-- "the packets that A.1 accepts"
abbrev pub accepted : Verdict → Bool
accepted (waits n) = false
accepted starts = true
accepted (ahead d) = true
accepted jumps = false
accepted behind = true

-- the state with these: max_seq, cycles, bad_seq, probation, received; all else as it was
abbrev pub sequenced : Reception → ℕ → ℕ → ℕ → ℕ → ℕ → Reception
sequenced s seq cycles bad probation received =
    record {
      max_seq = seq;
      cycles = cycles;
      base_seq = s.base_seq;
      bad_seq = bad;
      probation = probation;
      received = received;
      expected_prior = s.expected_prior;
      received_prior = s.received_prior;
      transit = s.transit;
      jitter = s.jitter;
    }

-- a start is init_seq with this packet received, and leaves transit and jitter: "A.1's restart keeps both"
unfoldable pub update_seq : Verdict → Reception → ℕ → Reception
update_seq (waits n) s seq = sequenced s seq s.cycles s.bad_seq n s.received
update_seq starts s seq =
    record {
      max_seq = seq;
      cycles = 0;
      base_seq = seq;
      bad_seq = 65537;
      probation = 0;
      received = 1;
      expected_prior = 0;
      received_prior = 0;
      transit = s.transit;
      jitter = s.jitter;
    }
update_seq (ahead d) s seq =
    sequenced s seq (pick (ltb seq s.max_seq) (plus32 s.cycles 65536) s.cycles) s.bad_seq s.probation (plus32 s.received 1)
update_seq jumps s seq = sequenced s s.max_seq s.cycles ((seq + 1) % 65536) s.probation s.received
update_seq behind s seq = sequenced s s.max_seq s.cycles s.bad_seq s.probation (plus32 s.received 1)

-- ---- A.8, "over the packets that A.1 accepts; the first only sets the transit": that is the one that ends probation

-- jitter += d − ((jitter + 8) >> 4), where d is the size of the transit difference; "its sums .. are modulo 2^32"
abbrev pub jitter_after : Bool → ℕ → ℕ → ℕ → ℕ
jitter_after first jitter old transit = pick first jitter (minus32 (plus32 jitter (nat_abs (signed32 (minus32 transit old)))) (plus32 jitter 8 / 16))

abbrev pub timed : Bool → ℕ → Reception → Reception
timed first transit s =
    record {
      max_seq = s.max_seq;
      cycles = s.cycles;
      base_seq = s.base_seq;
      bad_seq = s.bad_seq;
      probation = s.probation;
      received = s.received;
      expected_prior = s.expected_prior;
      received_prior = s.received_prior;
      transit = transit;
      jitter = jitter_after first s.jitter s.transit transit;
    }

-- a packet, with its timestamp and its arrival in the same units: the state after it, and whether A.1 accepts it
unfoldable pub update : Reception → ℕ → ℕ → ℕ → Reception × Bool
update s seq timestamp arrival =
    pick (accepted (verdict s seq))
    (timed (ltb 0 s.probation) (minus32 arrival timestamp) (update_seq (verdict s seq) s seq), true)
    (update_seq (verdict s seq) s seq, false)

-- ---- A.3

-- the extended highest sequence number, and the packets expected
abbrev pub extended : Reception → ℕ
extended s = plus32 s.cycles s.max_seq

abbrev pub expected : Reception → ℕ
expected s = plus32 (minus32 (extended s) s.base_seq) 1

-- a loss "clamped at 0x7fffff for positive loss or 0x800000 for negative loss"
abbrev pub clamped : ℤ → Loss
clamped (pos n) = pos (min n loss_most)
clamped (negsuc n) = negsuc (min n loss_most)

-- (lost << 8) / expected, and 0 where nothing was expected or nothing lost, "without overflow, anything above 255 reported as 255"
abbrev pub fraction_lost : ℤ → ℕ → ℕ
fraction_lost (pos lost) expected = pick (eqb expected 0) 0 (min (lost * 256 / expected) 255)
fraction_lost (negsuc lost) expected = 0

-- "since the last block or that start"
abbrev pub expected_interval : Reception → ℕ
expected_interval s = minus32 (expected s) s.expected_prior

abbrev pub received_interval : Reception → ℕ
received_interval s = minus32 s.received s.received_prior

-- "The caller gives last SR and delay"; the block has a sixteenth of the jitter that is kept
unfoldable pub block_of : Reception → ℕ → ℕ → ℕ → Block
block_of s ssrc lsr dlsr =
    record {
      ssrc = ssrc;
      fraction = fraction_lost (signed32 (minus32 (expected_interval s) (received_interval s))) (expected_interval s);
      lost = clamped (signed32 (minus32 (expected s) s.received));
      sequence = extended s;
      jitter = s.jitter / 16;
      lsr = lsr;
      dlsr = dlsr;
    }

abbrev pub reported : Reception → Reception
reported s =
    record {
      max_seq = s.max_seq;
      cycles = s.cycles;
      base_seq = s.base_seq;
      bad_seq = s.bad_seq;
      probation = s.probation;
      received = s.received;
      expected_prior = expected s;
      received_prior = s.received;
      transit = s.transit;
      jitter = s.jitter;
    }

-- "A source in probation gets no block, and is said to be so"
pub data Reported : Type 0 where
  in_probation : Reported
  made : Block → Reported

unfoldable pub report_block : Reception → ℕ → ℕ → ℕ → Reported × Reception
report_block s ssrc lsr dlsr = pick (ltb 0 s.probation) (in_probation, s) (made (block_of s ssrc lsr dlsr), reported s)
