-- The interpretations lose nothing: each has an inverse on what it gives.
use Rattle.std.specs.Prelude.{Result, Ok, Err}
use Rattle.rfc3550.proofs.Prelude.{◌≡◌, refl, ap, ◌∙◌, sym, ℕ, eqb}
use Rattle.rfc3550.specs.Answer.{Refusal, refusal, Answer, ok, refused, pick}
use Rattle.utils.specs.Error.{number_in, parse_refusal, write_refusal, parsed_of, code_refusal}
use Rattle.utils.specs.declared.error.RtcpParseError.{RtcpParseError}
use Rattle.utils.specs.declared.error.RtcpParseError.TheVariants as parse
use Rattle.utils.specs.declared.error.RtcpWriteError.{RtcpWriteError}
use Rattle.utils.specs.declared.error.RtcpWriteError.TheVariants as write
use Rattle.utils.specs.declared.error.Code.{Code}
use Rattle.utils.specs.Writer.{written_of}

pub injective : {A B : Type 0} (f : A → B) (g : B → A) → ((a : A) → g (f a) ≡ a) → (a b : A) → f a ≡ f b → a ≡ b
injective f g h a b e = sym (h a) ∙ ap g e ∙ h b

-- no error has a number that its inverse does not give back
pub no_number : {E : Type 0} (refusalOf : E → Refusal) (errorOf : Refusal → E) → ((e : E) → errorOf (refusalOf e) ≡ e)
    → (k : ℕ) → ((a b : ℕ) → number_in (refusalOf (errorOf (refusal k a b))) ≡ k → ⊥) → (e : E) → number_in (refusalOf e) ≡ k → ⊥
no_number refusalOf errorOf back k h e = go (refusalOf e) (ap refusalOf (back e))
  where
    go : (r : Refusal) → refusalOf (errorOf r) ≡ r → number_in r ≡ k → ⊥
    go (refusal n a b) p q = h a b (ap (λ (m : ℕ). number_in (refusalOf (errorOf (refusal m a b)))) (sym q) ∙ ap number_in p ∙ q)

abbrev pub parse_error : Refusal → RtcpParseError
parse_error (refusal n a b) =
    pick (eqb n 1) (parse.UnsupportedVersion a)
    (pick (eqb n 2) (parse.Truncated a b)
    (pick (eqb n 3) (parse.TooLarge a b)
    (pick (eqb n 4) parse.InvalidPadding
    (pick (eqb n 5) (parse.SdesPrivPrefixTooLarge a b)
    (pick (eqb n 6) (parse.PacketTypeMismatch a b)
    (pick (eqb n 7) (parse.FirstPacketNoReport a)
    (pick (eqb n 8) parse.NoCname
    (pick (eqb n 9) parse.NonLastCompoundPacketPadding
    (pick (eqb n 25) parse.NothingLeft
    (pick (eqb n 30) (parse.NotPriv a)
    parse.AnswersTooShort))))))))))

pub parse_refusal_back : (e : RtcpParseError) → parse_error (parse_refusal e) ≡ e
parse_refusal_back (parse.UnsupportedVersion version) = refl
parse_refusal_back (parse.Truncated expected actual) = refl
parse_refusal_back (parse.TooLarge expected actual) = refl
parse_refusal_back parse.InvalidPadding = refl
parse_refusal_back (parse.SdesPrivPrefixTooLarge len available) = refl
parse_refusal_back (parse.PacketTypeMismatch actual requested) = refl
parse_refusal_back (parse.FirstPacketNoReport t) = refl
parse_refusal_back parse.NoCname = refl
parse_refusal_back parse.NonLastCompoundPacketPadding = refl
parse_refusal_back parse.NothingLeft = refl
parse_refusal_back (parse.NotPriv t) = refl
parse_refusal_back parse.AnswersTooShort = refl

pub parse_refusal_injective : (e f : RtcpParseError) → parse_refusal e ≡ parse_refusal f → e ≡ f
parse_refusal_injective = injective parse_refusal parse_error parse_refusal_back

abbrev pub write_error : Refusal → RtcpWriteError
write_error (refusal n a b) =
    pick (eqb n 10) (write.OutputTooSmall a)
    (pick (eqb n 11) (write.InvalidPadding a)
    (pick (eqb n 12) (write.AppSubtypeOutOfRange a b)
    (pick (eqb n 13) write.InvalidName
    (pick (eqb n 14) (write.DataLen32bitMultiple a)
    (pick (eqb n 15) (write.TooManySources a b)
    (pick (eqb n 16) (write.ReasonLenTooLarge a b)
    (pick (eqb n 17) (write.CumulativeLostTooLarge a b)
    (pick (eqb n 18) (write.TooManyReportBlocks a b)
    (pick (eqb n 19) (write.TooManySdesChunks a b)
    (pick (eqb n 20) (write.SdesValueTooLarge a b)
    (pick (eqb n 21) (write.SdesPrivPrefixTooLarge a b)
    (pick (eqb n 22) write.PacketTooLarge
    (pick (eqb n 23) write.ItemTypeZero
    (pick (eqb n 24) write.ListsDisagree
    (pick (eqb n 26) write.WriterClosed
    (pick (eqb n 27) write.FirstPacketNoReport
    (pick (eqb n 28) write.NoCname
    write.AlreadyPadded)))))))))))))))))

pub write_refusal_back : (e : RtcpWriteError) → write_error (write_refusal e) ≡ e
write_refusal_back (write.OutputTooSmall size) = refl
write_refusal_back (write.InvalidPadding padding) = refl
write_refusal_back (write.AppSubtypeOutOfRange subtype max) = refl
write_refusal_back write.InvalidName = refl
write_refusal_back (write.DataLen32bitMultiple len) = refl
write_refusal_back (write.TooManySources count max) = refl
write_refusal_back (write.ReasonLenTooLarge len max) = refl
write_refusal_back (write.CumulativeLostTooLarge value max) = refl
write_refusal_back (write.TooManyReportBlocks count max) = refl
write_refusal_back (write.TooManySdesChunks count max) = refl
write_refusal_back (write.SdesValueTooLarge len max) = refl
write_refusal_back (write.SdesPrivPrefixTooLarge len max) = refl
write_refusal_back write.PacketTooLarge = refl
write_refusal_back write.ItemTypeZero = refl
write_refusal_back write.ListsDisagree = refl
write_refusal_back write.WriterClosed = refl
write_refusal_back write.FirstPacketNoReport = refl
write_refusal_back write.NoCname = refl
write_refusal_back write.AlreadyPadded = refl

pub write_refusal_injective : (e f : RtcpWriteError) → write_refusal e ≡ write_refusal f → e ≡ f
write_refusal_injective = injective write_refusal write_error write_refusal_back

-- what holds a value or a refusal, from the answer that it stands for: where that gives it back, nothing is lost
abbrev pub from_answer : {A E O : Type 0} → (Refusal → E) → (A → O) → (E → O) → Answer A → O
from_answer errorOf value refusing (ok a) = value a
from_answer errorOf value refusing (refused r) = refusing (errorOf r)

module _ {A O : Type 0} (of : O → Answer A) (value : A → O) where
  pub parsed_injective : (refusing : RtcpParseError → O) → ((o : O) → from_answer parse_error value refusing (of o) ≡ o) → (o p : O) → of o ≡ of p → o ≡ p
  parsed_injective refusing back = injective of (from_answer parse_error value refusing) back

  pub written_injective : (refusing : RtcpWriteError → O) → ((o : O) → from_answer write_error value refusing (of o) ≡ o) → (o p : O) → of o ≡ of p → o ≡ p
  written_injective refusing back = injective of (from_answer write_error value refusing) back

module _ {A : Type 0} where
  pub parsed_of_injective : (r s : Result A RtcpParseError) → parsed_of r ≡ parsed_of s → r ≡ s
  parsed_of_injective = parsed_injective parsed_of Ok Err (elim [ Ok a ↦ refl | Err e ↦ ap Err (parse_refusal_back e) ])

  pub written_of_injective : (r s : Result A RtcpWriteError) → written_of r ≡ written_of s → r ≡ s
  written_of_injective = written_injective written_of Ok Err (elim [ Ok a ↦ refl | Err e ↦ ap Err (write_refusal_back e) ])

abbrev code_for : Refusal → Code
code_for (refusal n a b) = record { number = n; first = a; second = b }

pub code_refusal_injective : (c d : Code) → code_refusal c ≡ code_refusal d → c ≡ d
code_refusal_injective = injective code_refusal code_for (λ c. refl)
