-- A result of C, from what a kind's function answers: of a value, of a refusal, and what a value's view shows. Stated once, over the result.
use Rattle.std.specs.Prelude.{Result, Ok}
use mathlib.Core.Path.{◌≡◌, sym, ap, ◌∙◌, subst}
use Rattle.rfc3550.specs.Answer.{Refusal, Answer, ok, refused, map_ok}
use Rattle.rfc3550.proofs.Answers.{map_ok_inv}
use Rattle.utils.specs.Error.{parse_refusal, parsed_of, code_refusal}
use Rattle.utils.specs.declared.error.RtcpParseError.{RtcpParseError}
use Rattle.utils.specs.declared.error.Code.{Code}

module _ {A R : Type 0} (result : Answer A → R) where
  pub coded : (c : Code) (e : RtcpParseError) (r : R) → r ≡ result (refused (code_refusal c)) → code_refusal c ≡ parse_refusal e → r ≡ result (refused (parse_refusal e))
  coded c e r p h = p ∙ ap (λ (k : Refusal). result (refused k)) h

  module _ {O : Type 0} (of : O → Answer A) where
    pub handed : (value : A → O) → ((a : A) → of (value a) ≡ ok a) → (o : O) (a : A) (x : Answer A) → o ≡ value a → of o ≡ x → result (ok a) ≡ result x
    handed value h o a x p q = ap result (sym (h a) ∙ sym (ap of p) ∙ q)

    -- from the three numbers of the refusal
    pub turned : (refusing : RtcpParseError → O) → ((e : RtcpParseError) → of (refusing e) ≡ refused (parse_refusal e))
        → (c : Code) (o : O) (e : RtcpParseError) (x : Answer A) → code_refusal c ≡ parse_refusal e → o ≡ refusing e → of o ≡ x → result (refused (code_refusal c)) ≡ result x
    turned refusing h c o e x k p q = ap result (ap refused k ∙ sym (h e) ∙ sym (ap of p) ∙ q)

-- what holds of every view of what was read holds of the value handed over
pub viewed : {A B : Type 0} (view : A → B) (P : B → Type 0) (x : Answer A) → ((a : A) → x ≡ ok a → P (view a)) → (o : Result B RtcpParseError) (b : B) → o ≡ Ok b → parsed_of o ≡ map_ok view x → P b
viewed view P x all o b p q = let w = map_ok_inv view x (sym q ∙ ap parsed_of p) in subst P w.2 (all w.0 w.1)
