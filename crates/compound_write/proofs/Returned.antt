-- Demand 3 over what the writer's functions returned.
use Rattle.rfc3550.proofs.Prelude.{◌≡◌, ap, ◌∙◌, List, [], map}
use Rattle.rfc3550.specs.Answer.{Answer}
use Rattle.rfc3550.specs.Writer.{fresh}
use Rattle.rfc3550.specs.Writer as rfc
use Rattle.rfc3550.specs.Book.{empty}
use Rattle.rfc3550.specs.Calls.{answers, book_input, booked, compounds}
use Rattle.rfc3550.specs.Returned.{Called, events}
use Rattle.rfc3550.proofs.Returned as law
use Rattle.compound_write.specs.Writer.{writer_of, call_of}
use Rattle.compound_write.specs.Returned.{Result, added, closed, writers}
use Rattle.compound_write.specs.declared.writer.Writer.{Writer}
use Rattle.compound_write.specs.declared.writer.Call.{Call}
use Rattle.utils.proofs.Injective.{written_of_injective}
use Rattle.compound_write.proofs.Writers.{writer_of_injective}

-- what a call returned loses nothing
pub call_of_injective : (r s : Call) → call_of r ≡ call_of s → r ≡ s
call_of_injective r s e =
    ap (λ (a : _). record { answer = a; writer = r.writer }) (written_of_injective r.answer s.answer (ap (λ (x : Answer (Unit {0}) × rfc.Writer). x.0) e))
    ∙ ap (λ (w : Writer). record { answer = s.answer; writer = w }) (writer_of_injective r.writer s.writer (ap (λ (x : Answer (Unit {0}) × rfc.Writer). x.1) e))

calls : law.Calls writers
calls w (added g buf r out) m = m
calls w (closed r) m = m

-- for every list of results of the writer's functions, from a writer as `new` returns it, each of which got the writer that the last returned and
-- a buffer as "Calls" says: each answer is the book's, after it the datagram so far is the book's packets laid end to end, and once closed it is
-- accepted and read as exactly these
pub returned : (w : Writer) → writer_of w ≡ fresh → (rs : List Result) → Called writers rs w []
    → answers compounds (events writers rs w) [] ≡ booked compounds (map (book_input compounds) (events writers rs w)) empty
returned w e rs m = law.returned writers calls w e rs m
