-- Document 01, "Calls", and demand 3: what is claimed of a list of calls, for any writer and any book.
use Rattle.std.specs.Prelude.{ℕ, ◌<◌, ◌≡◌, Bool, true, false, ◌⊎◌, List, [], ◌∷◌, length, take}
use Rattle.rfc3550.specs.Answer.{Answer, ok, refused}
use Rattle.rfc3550.specs.Packet.{Packet, layouts}
use Rattle.rfc3550.specs.Compound.{read_compound}
use Rattle.rfc3550.specs.Write.{Typed}
use Rattle.rfc3550.specs.Writer.{Writer, Request, add, close, call}
use Rattle.rfc3550.specs.Book.{Book, turn}

-- W the writer, B the book, R the requests, O what is compared after each call beside the answer
pub record System : Type 1 where
  pub W : Type 0
  pub B : Type 0
  pub R : Type 0
  pub O : Type 0
  -- a call: from the writer and the buffer lent, the answer, the writer returned and the buffer left
  pub call : R → W → List ℕ → Answer (Unit {0}) × W × List ℕ
  -- the book: from the buffer's length alone
  pub turn : R → ℕ → B → Answer (Unit {0}) × B
  -- the datagram so far, after a call, from the one before it
  pub kept : R → Answer (Unit {0}) → W → List ℕ → List ℕ → List ℕ
  -- what a call may be lent where that is the datagram so far
  pub Lent : R → List ℕ → List ℕ → Type 0
  -- what is compared
  pub shown : W → List ℕ → O
  pub expected : B → O

-- a call that was made: the request, the buffer lent, the answer, the writer returned, the buffer left
pub record Event (s : System) : Type 0 where
  pub request : s.R
  pub lent : List ℕ
  pub answer : Answer (Unit {0})
  pub next : s.W
  pub left : List ℕ

module _ (s : System) where
  -- each call met its contract, got the writer that the last returned, and a buffer as "Calls" says
  abbrev pub Made : List (Event s) → s.W → List ℕ → Type 0
  Made [] w d = Unit {0}
  Made (e ∷ es) w d =
      ((e.answer, e.next, e.left) ≡ s.call e.request w e.lent) × s.Lent e.request d e.lent
      × Made es e.next (s.kept e.request e.answer e.next e.left d)

  -- each answer, with what is seen after it
  abbrev pub answers : List (Event s) → List ℕ → List (Answer (Unit {0}) × s.O)
  answers [] d = []
  answers (e ∷ es) d =
      (e.answer, s.shown e.next (s.kept e.request e.answer e.next e.left d))
      ∷ answers es (s.kept e.request e.answer e.next e.left d)

  -- what the book is fed of a call
  abbrev pub book_input : Event s → s.R × ℕ
  book_input e = (e.request, length e.lent)

  abbrev pub booked : List (s.R × ℕ) → s.B → List (Answer (Unit {0}) × s.O)
  booked [] b = []
  booked (q ∷ qs) b = ((s.turn q.0 q.1 b).0, s.expected (s.turn q.0 q.1 b).1) ∷ booked qs (s.turn q.0 q.1 b).1

-- ---- the compound writer

-- a buffer is shorter than the datagram so far, or starts with it; a close is lent none
abbrev pub Lends : Request → List ℕ → List ℕ → Type 0
Lends (add g) d l = Typed g × ((length l < length d) ⊎ (take (length d) l ≡ d))
Lends close d l = Unit {0}

-- the datagram so far: as many bytes of the buffer as the writer's length says, where an add was not refused
abbrev pub keeps : Request → Answer (Unit {0}) → Writer → List ℕ → List ℕ → List ℕ
keeps (add g) (ok u) w left d = take w.len left
keeps (add g) (refused r) w left d = d
keeps close a w left d = d

-- what reading gives once closed
pub data Closing : Type 0 where
  still_open : Closing
  reads : Answer (List Packet) → Closing

abbrev pub once_closed : Bool → Answer (List Packet) → Closing
once_closed true a = reads a
once_closed false a = still_open

abbrev pub compounds : System
compounds =
    record {
      W = Writer;
      B = Book;
      R = Request;
      O = List ℕ × Closing;
      call = call;
      turn = turn;
      kept = keeps;
      Lent = Lends;
      shown = λ w d. (d, once_closed w.closed (read_compound d));
      expected = λ b. (layouts b.packets, once_closed b.closed (ok b.packets));
    }
