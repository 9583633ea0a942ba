-- A refusal's number and details, from the constructor that a match found.
use Rattle.std.specs.Prelude.{Result}
use Rattle.std.specs.Result.{IsErrAnd}
use Rattle.std.proofs.lemmas.Result.{err_from_is_err_and}
use mathlib.Core.Path.{◌≡◌, refl, ap, ◌∙◌, sym}
use Rattle.rfc3550.specs.Answer.{Answer, refused}
use Rattle.utils.specs.Error.{parsed_of, parse_refusal, write_refusal, code_refusal}
use Rattle.utils.specs.declared.error.RtcpParseError.{RtcpParseError}
use Rattle.utils.specs.declared.error.RtcpWriteError.{RtcpWriteError}
use Rattle.utils.specs.declared.error.Code.{Code}

pub parse_shown : (c : Code) (e f : RtcpParseError) → e ≡ f → code_refusal c ≡ parse_refusal f → code_refusal c ≡ parse_refusal e
parse_shown c e f p q = q ∙ ap parse_refusal (sym p)

pub write_shown : (c : Code) (e f : RtcpWriteError) → e ≡ f → code_refusal c ≡ write_refusal f → code_refusal c ≡ write_refusal e
write_shown c e f p q = q ∙ ap write_refusal (sym p)

pub ruleset shown = (refl, parse_shown, write_shown)

-- what a function hands on by `?`
module _ {A : Type 0} (r : Result A RtcpParseError) (e : RtcpParseError) (a : Answer A) where
  pub parse_handed : IsErrAnd r (λ (x : RtcpParseError). x ≡ e) → refused (parse_refusal e) ≡ a → parsed_of r ≡ a
  parse_handed h q = let p = err_from_is_err_and r h in rw (p.1, p.2) q
